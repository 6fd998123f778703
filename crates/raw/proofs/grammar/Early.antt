-- Where a reader refuses with 3, no value begins: the text ends there, or something else stands there. For before the end of the text a
-- reader refuses so only where a value must begin, and the fuel of a loop lasts to the end.
--     EarlyOut                            the definition, of an answer
--     more-early, chain-early, under-early, loop-early     of answers that are put together
--     eaten-else, any-early, no_value     where no character of a class is seen
-- Assumes nothing.
use Rattle.std.proofs.Common.{Option, Some, None, ℕ, zero, suc, ◌+◌, ◌≤◌, arith, ◌≡◌, refl, Bool, true, false, cond, List, length}
use Rattle.text.specs.Class.{is_id_start, holds_of}
use Rattle.text.specs.Scan.{see}
use Rattle.text.specs.declared.class.Test.TheVariants as test
use Rattle.text.proofs.Seeing.{seeing}
use Rattle.row.specs.declared.fault.Reason.TheVariants.{UnexpectedEof}
use Rattle.row.specs.Fault.{number_of, fault_at}
use Rattle.row.specs.Row.{Row}
use Rattle.raw.specs.Reader.{Out, ok, again, bad, Reader, more, and_then, under, eaten, after, loop}
use Rattle.raw.specs.Grammar.{is, any}
use Rattle.raw.specs.Strict.{begins_value}
use Rattle.raw.proofs.readers.Kept.{Advances, Kept}

-- where the answer is a refusal with 3, no value begins at its place
abbrev pub EarlyOut : List ℕ → Out → Type 0
EarlyOut s (ok q rs) = Unit {0}
EarlyOut s (again q rs a) = Unit {0}
EarlyOut s (bad f) = number_of f.reason ≡ 3 → begins_value (see s f.start) ≡ false

-- ---- answers

module _ (s : List ℕ) where
  more-early : (rs : List Row) (o : Out) → EarlyOut s o → EarlyOut s (more rs o)
  more-early rs (ok q ss) x = tt
  more-early rs (again q ss a) x = tt
  more-early rs (bad f) x = x

  pub chain-early : (o : Out) (g : ℕ → Out) → EarlyOut s o → ((q : ℕ) → EarlyOut s (g q)) → EarlyOut s (and_then o g)
  chain-early (ok q rs) g x G = more-early rs (g q) (G q)
  chain-early (again q rs a) g x G = more-early rs (g q) (G q)
  chain-early (bad f) g x G = x

  pub under-early : (mk : ℕ → Row) (o : Out) → EarlyOut s o → EarlyOut s (under mk o)
  under-early mk (ok q rs) x = tt
  under-early mk (again q rs a) x = tt
  under-early mk (bad f) x = x

-- ---- by what is seen

-- a character of class t is seen
abbrev pub hits : (ℕ → Bool) → Option (ℕ × ℕ) → Bool
hits t None = false
hits t (Some (c, n)) = t c

-- P holds of `eaten t x f o` if it holds of what f answers, and of o where no character of class t is seen
pub eaten-else : (P : Out → Type 0) (t : ℕ → Bool) (x : Option (ℕ × ℕ)) (f : ℕ → Out) (o : Out) → ((n : ℕ) → P (f n)) → (hits t x ≡ false → P o)
    → P (eaten t x f o)
eaten-else P t None f o F G = G refl
eaten-else P t (Some (c, n)) f o F G = by (t c) refl
  where
    by : (b : Bool) → t c ≡ b → P (cond b (f n) o)
    by true e = F n
    by false e = G e

none-begins : (x : Option (ℕ × ℕ)) → hits any x ≡ false → begins_value x ≡ false
none-begins None e = refl
none-begins (Some (c, n)) e = cc

pub no_value : (x : Option (ℕ × ℕ)) → hits (holds_of test.Digit) x ≡ false → hits is_id_start x ≡ false → hits (is 0x7B) x ≡ false
    → hits (is 0x22) x ≡ false → begins_value x ≡ false
no_value None d i b q = refl
no_value (Some (c, n)) d i b q = rw (d, i, b, q)

pub any-early : (s : List ℕ) (p : ℕ) (f : ℕ → Out) → ((n : ℕ) → EarlyOut s (f n)) → EarlyOut s (eaten any (see s p) f (bad (fault_at UnexpectedEof p)))
any-early s p f F = eaten-else (EarlyOut s) any (see s p) f (bad (fault_at UnexpectedEof p)) F (λ e x. none-begins (see s p) e)

-- turns that go forward; the fuel n lasts to the end of the text
module _ {w l : ℕ} {f : ℕ → Reader} (K : (a : ℕ) → Kept 1 w l (f a)) (F : (a : ℕ) (s : List ℕ) (p : ℕ) → EarlyOut s (f a s p)) where
  after-early : (s : List ℕ) (p n : ℕ) (o : Out) (g : ℕ → ℕ → Out) → Advances 1 w p (length s) o → EarlyOut s o → length s ≤ p + suc n
      → ((b q : ℕ) → length s ≤ q + n → EarlyOut s (g b q)) → EarlyOut s (after o g)
  after-early s p n (ok q rs) g y x h H = tt
  after-early s p n (again q rs a) g y x h H = more-early s rs (g a q) (H a q (omega arith))
  after-early s p n (bad j) g y x h H = x

  pub loop-early : (s : List ℕ) (n a p : ℕ) → length s ≤ p + n → EarlyOut s (loop f n a s p)
  unfolding loop
  loop-early s zero a p h = let e = seeing.see-end s p (omega arith) in λ x. rw e
  loop-early s (suc n) a p h =
      after-early s p n (f a s p) (λ b q. loop f n b s q) ((K a).advances s p) (F a s p) h (loop-early s n)
