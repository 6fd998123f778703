-- A reader of rows moves with its text: behind another text it gives the same answer, with its places moved.
--     Shifts      the definition. It relates two readers, because one that is given places of the text is given others behind another text
--     stop-shifts, turn-shifts, refuse-shifts, put-shifts                              readers that are not made of others
--     when-shifts, sees-shifts, then-shifts, over-shifts, from-shifts, many-shifts     readers that are
-- Assumes nothing.
use Rattle.std.proofs.Common.{Option, Some, None, ℕ, zero, suc, ◌+◌, arith, ◌≡◌, refl, ◌∙◌, Bool, true, false, cond, List, ◌++◌, length, length-append}
use Rattle.text.specs.Scan.{see}
use Rattle.text.specs.Seeing.{seen_up}
use Rattle.text.proofs.Seeing.{seeing}
use Rattle.row.specs.Row.{Row, Mark, marked, moved}
use Rattle.row.specs.declared.fault.Reason.{Reason}
use Rattle.row.proofs.Laid.{laid}
use Rattle.raw.specs.Reader.{Out, ok, again, bad, Reader, more, and_then, after, eaten, under, stop, turn, refuse, put, ◌then◌, over, over_from}
use Rattle.raw.specs.Reader.{when, sees, loop, many}
use Rattle.raw.specs.Strict.{shifted}
use Rattle.raw.proofs.readers.Kept.{Kept}
use Rattle.raw.proofs.readers.Loop.{loop-fuel}

-- behind the text a, g gives the answer that f gives without it, with its places moved
pub record Shifts (a : List ℕ) (f g : Reader) : Type 0 where
  pub moves : (s : List ℕ) (p : ℕ) → g (a ++ s) (p + length a) ≡ shifted (length a) (f s p)

-- ---- readers that are not made of others

module _ {x : List ℕ} where
  pub stop-shifts : Shifts x stop stop
  unfolding moved
  stop-shifts = record { moves = λ s p. refl }

  pub turn-shifts : (a : ℕ) → Shifts x (turn a) (turn a)
  unfolding moved
  turn-shifts a = record { moves = λ s p. refl }

  pub refuse-shifts : (reason : Reason) → Shifts x (refuse reason) (refuse reason)
  refuse-shifts reason = record { moves = λ s p. refl }

  pub put-shifts : (m : Mark) (a e : ℕ) → Shifts x (put m a e) (put m (a + length x) (e + length x))
  unfolding moved
  put-shifts m a e = record { moves = λ s p. refl }

-- ---- by what is seen

pub eaten-up : (d : ℕ) (c : ℕ → Bool) (x : Option (ℕ × ℕ)) (f f' : ℕ → Out) (o o' : Out) → ((n : ℕ) → f' (n + d) ≡ shifted d (f n)) → o' ≡ shifted d o
    → eaten c (seen_up d x) f' o' ≡ shifted d (eaten c x f o)
eaten-up d c None f f' o o' h i = i
eaten-up d c (Some (k, n)) f f' o o' h i = by (c k)
  where
    by : (b : Bool) → cond b (f' (n + d)) o' ≡ shifted d (cond b (f n) o)
    by true = h n
    by false = i

module _ (a : List ℕ) (c : ℕ → Bool) {f f' g g' : Reader} (F : Shifts a f f') (G : Shifts a g g') where
  pub when-shifts : Shifts a (when c f g) (when c f' g')
  when-shifts =
      record {
        moves = λ s p.
            rw (seeing.see-up a s p)
            (eaten-up (length a) c (see s p) (f s) (f' (a ++ s)) (g s p) (g' (a ++ s) (p + length a)) (F.moves s) (G.moves s p));
      }

  pub sees-shifts : Shifts a (sees c f g) (sees c f' g')
  sees-shifts =
      record {
        moves = λ s p.
            rw (seeing.see-up a s p)
            (eaten-up (length a) c (see s p) (λ n. f s p) (λ n. f' (a ++ s) (p + length a)) (g s p) (g' (a ++ s) (p + length a))
            (λ n. F.moves s p) (G.moves s p));
      }

-- ---- one after the other

pub more-up : (d : ℕ) (rs : List Row) (o : Out) → more (moved d rs) (shifted d o) ≡ shifted d (more rs o)
more-up d rs (ok q ss) = rw laid.moved-append
more-up d rs (again q ss a) = rw laid.moved-append
more-up d rs (bad f) = refl

pub chain-up : (d : ℕ) (g h : ℕ → Out) (o : Out) → ((r : ℕ) → h (r + d) ≡ shifted d (g r)) → and_then (shifted d o) h ≡ shifted d (and_then o g)
chain-up d g h (ok q rs) G = rw (G q) (more-up d rs (g q))
chain-up d g h (again q rs b) G = rw (G q) (more-up d rs (g q))
chain-up d g h (bad j) G = refl

pub then-shifts : {a : List ℕ} {f f' g g' : Reader} → Shifts a f f' → Shifts a g g' → Shifts a (f then g) (f' then g')
then-shifts {a} {f} {f'} {g} {g'} F G =
    record { moves = λ s p. rw (F.moves s p) (chain-up (length a) (g s) (g' (a ++ s)) (f s p) (G.moves s)) }

-- ---- a row over what is read

under_up : (m : Mark) (p d : ℕ) (o : Out) → under (marked m (p + d)) (shifted d o) ≡ shifted d (under (marked m p) o)
unfolding moved
under_up m p d (ok q rs) = refl
under_up m p d (again q rs a) = refl
under_up m p d (bad f) = refl

pub from-shifts : (m : Mark) {x : List ℕ} (a : ℕ) {f g : Reader} → Shifts x f g → Shifts x (over_from m a f) (over_from m (a + length x) g)
from-shifts m {x} a {f} F = record { moves = λ s p. rw (F.moves s p) (under_up m a (length x) (f s p)) }

pub over-shifts : (m : Mark) {x : List ℕ} {f : Reader} → Shifts x f f → Shifts x (over m f) (over m f)
over-shifts m F = record { moves = λ s p. (from-shifts m p F).moves s p }

-- ---- loops

module _ {w l : ℕ} {f : ℕ → Reader} (K : (a : ℕ) → Kept 1 w l (f a)) (c : List ℕ) (F : (a : ℕ) → Shifts c (f a) (f a)) where
  up-after : (s : List ℕ) (n : ℕ) (o : Out) → ((b q : ℕ) → loop f n b (c ++ s) (q + length c) ≡ shifted (length c) (loop f n b s q))
      → after (shifted (length c) o) (λ b q. loop f n b (c ++ s) q) ≡ shifted (length c) (after o (λ b q. loop f n b s q))
  up-after s n (ok q rs) ih = refl
  up-after s n (again q rs a) ih = rw (ih a q) (more-up (length c) rs (loop f n a s q))
  up-after s n (bad k) ih = refl

  loop-up : (s : List ℕ) (n a p : ℕ) → loop f n a (c ++ s) (p + length c) ≡ shifted (length c) (loop f n a s p)
  unfolding loop
  loop-up s zero a p = refl
  loop-up s (suc n) a p = rw ((F a).moves s p) (up-after s n (f a s p) (loop-up s n))

  many-up : (a : ℕ) (s : List ℕ) (p : ℕ) → many f a (c ++ s) (p + length c) ≡ shifted (length c) (many f a s p)
  unfolding many
  many-up a s p =
      loop-fuel K (length (c ++ s)) (length s) a (c ++ s) (p + length c) (omega arith) (omega (arith, length-append c s))
      ∙ loop-up s (suc (length s)) a p

  pub many-shifts : (a : ℕ) → Shifts c (many f a) (many f a)
  many-shifts a = record { moves = many-up a }
