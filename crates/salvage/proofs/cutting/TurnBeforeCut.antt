-- One turn of strict reading is white space and then an item. Two texts may show the same up to and including a newline, where one of them
-- is cut. A turn that ends at the cut or before it answers the same on both.
--     item, turn-white, item_ok     an item; a turn is the item after the white space; the last item is the end
--     item-ahead                    an item that says `again` ends inside the text
--     AlikeToNewline                the two texts
--     white-cut, turn-cut           white space, and a turn, are read the same on both
-- Assumes nothing.
use Rattle.std.proofs.Common.{Option, Some, None, ℕ, suc, ◌+◌, ◌≤◌, ◌<◌, max, arith, eq-or-lt_of_le, ◌⊎◌, inl, inr, ◌≡◌, refl, sym, ap, ◌∙◌, subst, Bool, true, false, cond}
use Rattle.std.proofs.Common.{List, [], length, eqb}
use Rattle.text.specs.Class.{is_whitespace, holds_of}
use Rattle.std.proofs.lemmas.Option.{some_pair_parts}
use Rattle.text.specs.Scan.{see, fails}
use Rattle.text.specs.declared.class.Test.TheVariants as test
use Rattle.text.proofs.general.Tests.{true-not-false}
use Rattle.row.specs.Row.{Row}
use Rattle.raw.specs.Reader.{Out, ok, again, bad, Reader, and_then, eaten, stop, turn}
use Rattle.raw.specs.Grammar.{is, any, white, comment, entry, file_turn}
use Rattle.raw.specs.Strict.{ShowsSame, Stops}
use Rattle.raw.proofs.Strict.{strict-reading}
use Rattle.raw.proofs.Steps.{steps}
use Rattle.salvage.proofs.cutting.ScanEnd.{Halts, NoneOver, Scanned, ok-place, scan-found, white-found, white-stays}

-- ---- after the white space

-- an item, by what is seen at its place
abbrev pub item_by : List ℕ → ℕ → Option (ℕ × ℕ) → Out
item_by s p x =
    eaten (is 0x40) x (λ n. and_then (entry s p) (turn 0 s))
    (eaten (holds_of test.Percent) x (λ n. and_then (comment s p) (turn 0 s))
    (eaten any x (turn 0 s) (stop s p)))

abbrev pub item : Reader
item s p = item_by s p (see s p)

pub turn-white : (s : List ℕ) (p q : ℕ) → white s p ≡ ok q [] → file_turn 0 s p ≡ item s q
unfolding file_turn
turn-white s p q e = ap (λ (o : Out). and_then o (item s)) e ∙ steps.more-none (item s q)

pub item-ahead : (s : List ℕ) (p q a : ℕ) (rs : List Row) → Halts is_whitespace (see s p) → item s p ≡ again q rs a → (p < q) × (q ≤ max p (length s))
item-ahead s p q a rs h e = strict-reading.ahead s p q a rs (turn-white s p p (white-stays s p h) ∙ e)

turned-not-ok : (q a r : ℕ) (o : Out) (rs : List Row) {X : Type 0} → and_then o (λ p. again p [] a) ≡ ok q rs → X
turned-not-ok q a r (ok p ss) rs e = cc
turned-not-ok q a r (again p ss b) rs e = cc
turned-not-ok q a r (bad f) rs e = cc

-- a turn that ends the file stands at the end of the text
pub item_ok : (s : List ℕ) (p q : ℕ) (rs : List Row) → item s p ≡ ok q rs → (see s p ≡ None) × (rs ≡ [])
item_ok s p q rs = go (see s p)
  where
    go : (x : Option (ℕ × ℕ)) → item_by s p x ≡ ok q rs → (x ≡ None) × (rs ≡ [])
    go None e = (refl, cc)
    go (Some (c, n)) e = by (is 0x40 c) (holds_of test.Percent c) e
      where
        by : (b d : Bool) → cond b (and_then (entry s p) (turn 0 s)) (cond d (and_then (comment s p) (turn 0 s)) (again n [] 0)) ≡ ok q rs
            → (◌≡◌ {A = Option (ℕ × ℕ)} (Some (c, n)) None) × (rs ≡ [])
        by true d e = turned-not-ok q 0 0 (entry s p) rs e
        by false true e = turned-not-ok q 0 0 (comment s p) rs e
        by false false e = cc

-- ---- on two texts

turned-stops : (o : Out) (a q : ℕ) → Stops (and_then o (λ r. again r [] a)) q → Stops o q
turned-stops (ok r rs) a q h = h
turned-stops (again r rs b) a q h = h
turned-stops (bad f) a q h = absurd h

stops_at : (o : Out) (q : ℕ) (rs : List Row) → o ≡ ok q rs → (r : ℕ) → Stops o r → q ≡ r
stops_at o q rs e r h = subst (λ (o : Out). Stops o r) e h

ends : (o : Out) (i : ℕ) → o ≡ ok i [] → Stops o i
ends o i e = subst (λ (o : Out). Stops o i) (sym e) refl

-- two texts that show the same up to and including a newline at k. After it the second text ends or shows no white space. No character
-- reaches over the newline, or over the place after it
pub record AlikeToNewline (s t : List ℕ) (k : ℕ) : Type 0 where
  pub same : (i : ℕ) → i < suc k → see s i ≡ see t i
  pub first : suc k ≤ length s
  pub second : suc k ≤ length t
  pub halts : Halts is_whitespace (see t (suc k))
  pub clear : NoneOver t (suc k)
  pub newline : see s k ≡ Some (0x0A, suc k)
  pub before : NoneOver s k

module _ {s t : List ℕ} {k : ℕ} (m : AlikeToNewline s t k) where
  pub white-cut : (p q : ℕ) → white s p ≡ ok q [] → p ≤ suc k → q ≤ suc k → white t p ≡ ok q []
  white-cut p q a g h = by (eq-or-lt_of_le h)
    where
      z : (r : ℕ) × Scanned is_whitespace t p r
      z = scan-found is_whitespace t p

      r : ℕ
      r = z.0

      w : white t p ≡ ok r []
      w = white-found t p r z.1

      by : (q ≡ suc k) ⊎ (q < suc k) → white t p ≡ ok q []
      by (inr l) = strict-reading.whites s t p q (ends (white s p) q a) (omega (arith, m.second)) (λ i u v. m.same i (omega arith)) ∙ a
      by (inl e) = w ∙ ap (λ (n : ℕ). ok n []) (at-end (eq-or-lt_of_le (z.1.least (suc k) g m.clear m.halts)))
        where
          at-end : (r ≡ suc k) ⊎ (r < suc k) → r ≡ q
          at-end (inl d) = omega arith
          at-end (inr d) =
              let b = strict-reading.whites t s p r (ends (white t p) r w) (omega (arith, m.first)) (λ i u v. sym (m.same i (omega arith))) in
              ok-place (sym (b ∙ w) ∙ a)

  -- a comment ends before the newline
  comment-cut : (p q c n : ℕ) → see s p ≡ Some (c, n) → holds_of test.Percent c ≡ true → p < suc k → Stops (comment s p) q → q ≤ k
  unfolding comment holds_of
  comment-cut p q c n d b h x =
      let z = scan-found (fails test.Newline) s n in
      let y : Scanned (fails test.Newline) s n z.0 = z.1 in
      let f : comment s p ≡ ok z.0 [] = rw (d, b) y.found in
      let g : z.0 ≡ q = stops_at (comment s p) z.0 [] f q x in
      let o : p ≡ k → ⊥ = λ e. true-not-false _ b (ap (λ (c : ℕ). eqb c 0x25) (some_pair_parts c 0x0A n (suc k) (sym d ∙ ap (see s) e ∙ m.newline)).0) in
      let v : z.0 ≤ k = y.least k (m.before p c n d (omega arith)) m.before (rw m.newline refl) in
      omega arith

  pub item-cut : (p q : ℕ) → p < suc k → Stops (item s p) q → q ≤ suc k → item t p ≡ item s p
  item-cut p q h x y = rw (← m.same p h) (go (see s p) refl x)
    where
      inside : ShowsSame s t p q
      inside i a b = m.same i (omega arith)

      go : (z : Option (ℕ × ℕ)) → see s p ≡ z → Stops (item_by s p z) q → item_by t p z ≡ item_by s p z
      go None d x = refl
      go (Some (c, n)) d x = by (is 0x40 c) (holds_of test.Percent c) refl x
        where
          on : List ℕ → Bool → Bool → Out
          on u b b' = cond b (and_then (entry u p) (turn 0 u)) (cond b' (and_then (comment u p) (turn 0 u)) (again n [] 0))

          by : (b b' : Bool) → holds_of test.Percent c ≡ b' → Stops (on s b b') q → on t b b' ≡ on s b b'
          by true b' e x =
              let x' = turned-stops (entry s p) 0 q x in
              ap (λ (o : Out). and_then o (turn 0 s)) (strict-reading.entries s t p q x' (omega (arith, m.second)) inside)
          by false true e x =
              let x' = turned-stops (comment s p) 0 q x in
              let l : q ≤ k = comment-cut p q c n d e h x' in
              let same : ShowsSame s t p (q + 1) = λ i a b. m.same i (omega arith) in
              ap (λ (o : Out). and_then o (turn 0 s)) (strict-reading.comments s t p q x' (omega (arith, m.second)) same)
          by false false e x = refl

  pub turn-cut : (p q a : ℕ) (rs : List Row) → file_turn 0 s p ≡ again q rs a → q ≤ suc k → file_turn 0 t p ≡ again q rs a
  turn-cut p q a rs e h =
      let z = scan-found is_whitespace s p in
      let r = z.0 in
      let y : Scanned is_whitespace s p r = z.1 in
      let v : white s p ≡ ok r [] = white-found s p r y in
      let g : item s r ≡ again q rs a = sym (turn-white s p r v) ∙ e in
      let x : Stops (item s r) q = subst (λ (o : Out). Stops o q) (sym g) refl in
      let i = item-ahead s r q a rs y.halts g in
      let w : white t p ≡ ok r [] = white-cut p r v (omega (arith, y.from)) (omega arith) in
      turn-white t p r w ∙ item-cut r q (omega arith) x h ∙ g
