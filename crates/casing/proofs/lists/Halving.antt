-- The search of `find` on the numbers of a list that keeps the rule: it finds the first row that does not end before the character.
--     early                                           a character before all rows is not mapped
--     going, fits                                     that row has a step, and its image is a character
--     no_row, before-row, between-steps, in_row       what is mapped, on each way through `find`
-- Assumes nothing.
use Rattle.std.proofs.Common.{ℕ, zero, suc, ◌+◌, ◌-◌, ◌/◌, ◌*◌, ◌%◌, ◌≤◌, ◌<◌, arith, ◌≡◌, refl, sym, ap, ◌∙◌, Bool, true, false, cond, ◌&&◌, List, [], ◌∷◌, ltb}
use Rattle.std.proofs.Common.{leb, eqb, length, ltb-true, ltb-false, lt-ltb, le-ltb, le-leb, eq-eqb, ne_eqb}
use mathlib.Core.Path.{subst⁻¹}
use mathlib.Core.Bool.{and-false}
use borrow.Author.Tests.{lt-leb}
use Rattle.text.proofs.general.Tests.{both_true}
use Rattle.text.specs.Every.{every}
use Rattle.search.specs.Halving.{before, is_low, place_of}
use Rattle.search.proofs.Search.{search as halving}
use Rattle.casing.specs.Mapping.{Stride, covers, image_in, mapped, numbers, rises_from, is_right, top, Rule, Table, Maps}
use Rattle.casing.proofs.lists.Rows.{Sound, sound, scalar-most, row_at, count, row_next, sound-at}

-- how many rows end before c
unfoldable behind : List Stride → ℕ → ℕ
behind [] c = 0
behind (r ∷ rs) c = cond (ltb r.last c) (suc (behind rs c)) 0

-- the last character of row k
abbrev last_at : List Stride → ℕ → ℕ
last_at rs k = (row_at (numbers rs) k).last

-- what a row says of a character that it does not end before
abbrev pub reached : Stride → ℕ → List ℕ
reached r c = cond (leb r.first c && eqb ((c - r.first) % r.step) 0) (image_in r c) (c ∷ [])

behind-inside : (rs : List Stride) (c : ℕ) → behind rs c ≤ length rs
unfolding behind
behind-inside [] c = omega arith
behind-inside (r ∷ rs) c = by (ltb r.last c) (behind-inside rs c)
  where
    by : (x : Bool) → behind rs c ≤ length rs → cond x (suc (behind rs c)) 0 ≤ suc (length rs)
    by true h = omega arith
    by false h = omega arith

-- ---- the rows before that place end before c, and the others do not

low : (rs : List Stride) (c k : ℕ) → k < behind rs c → last_at rs k < c
unfolding behind numbers
low [] c k h = absurd (omega arith)
low (r ∷ rs) c k h = by (ltb r.last c) refl k h (low rs c)
  where
    by : (x : Bool) → ltb r.last c ≡ x → (k : ℕ) → k < cond x (suc (behind rs c)) 0 → ((k : ℕ) → k < behind rs c → last_at rs k < c) →
        last_at (r ∷ rs) k < c
    by false e k h on = absurd (omega arith)
    by true e zero h on = ltb-true _ _ e
    by true e (suc k) h on = subst⁻¹ (λ (s : Stride). s.last < c) (row_next r rs k) (on k (omega arith))

module _ (p : ℕ) (r : Stride) (rs : List Stride) (rising : rises_from p (r ∷ rs) ≡ true) (right : every is_right (r ∷ rs) ≡ true) where
  behind-p : p < r.first
  unfolding rises_from
  behind-p = ltb-true _ _ (both_true (ltb p r.first) (rises_from r.last rs) rising).0

  rises-rest : rises_from r.last rs ≡ true
  unfolding rises_from
  rises-rest = (both_true (ltb p r.first) (rises_from r.last rs) rising).1

  sound-first : Sound r
  unfolding every
  sound-first = sound r (both_true (is_right r) (every is_right rs) right).0

  right-rest : every is_right rs ≡ true
  unfolding every
  right-rest = (both_true (is_right r) (every is_right rs) right).1

above : (p : ℕ) (rs : List Stride) → rises_from p rs ≡ true → every is_right rs ≡ true → (k : ℕ) → k < length rs → p < last_at rs k
unfolding numbers
above p [] e f k h = absurd (omega arith)
above p (r ∷ rs) e f zero h = omega (arith, behind-p p r rs e f, (sound-first p r rs e f).forward)
above p (r ∷ rs) e f (suc k) h =
    subst⁻¹ (λ (s : Stride). p < s.last) (row_next r rs k)
    (omega (arith, behind-p p r rs e f, (sound-first p r rs e f).forward, above r.last rs (rises-rest p r rs e f) (right-rest p r rs e f) k (omega arith)))

high : (p : ℕ) (rs : List Stride) → rises_from p rs ≡ true → every is_right rs ≡ true → (c k : ℕ) → behind rs c ≤ k → k < length rs → c ≤ last_at rs k
unfolding behind numbers
high p [] e f c k l h = absurd (omega arith)
high p (r ∷ rs) e f c k l h = by (ltb r.last c) refl k l h (high r.last rs (rises-rest p r rs e f) (right-rest p r rs e f) c)
  where
    by : (x : Bool) → ltb r.last c ≡ x → (k : ℕ) → cond x (suc (behind rs c)) 0 ≤ k → k < suc (length rs) →
        ((k : ℕ) → behind rs c ≤ k → k < length rs → c ≤ last_at rs k) → c ≤ last_at (r ∷ rs) k
    by true g zero l h on = absurd (omega arith)
    by true g (suc k) l h on = subst⁻¹ (λ (s : Stride). c ≤ s.last) (row_next r rs k) (on k (omega arith) (omega arith))
    by false g zero l h on = ltb-false _ _ g
    by false g (suc k) l h on =
        subst⁻¹ (λ (s : Stride). c ≤ s.last) (row_next r rs k)
        (omega (arith, ltb-false r.last c g, above r.last rs (rises-rest p r rs e f) (right-rest p r rs e f) k (omega arith)))

-- so the search finds it
place_is : (rs : List Stride) → Rule rs → (c : ℕ) → place_of 6 (numbers rs) c 0 ≡ behind rs c
unfolding place_of
place_is rs rule c =
    let e : length (numbers rs) / 6 ≡ length rs = omega (arith, count rs) in
    rw e (halving.finds (is_low 6 (numbers rs) c 0) (length rs) (behind rs c) (behind-inside rs c)
    (λ k h. rw (lt-ltb _ _ (low rs c k h)))
    (λ k l h. not-before (last_at rs k) (row_at (numbers rs) k).first c (high 0 rs rule.rising rule.right c k l h)))
  where
    not-before : (a b c : ℕ) → c ≤ a → before a b c 0 ≡ false
    not-before a b c h = rw (le-ltb a c h, le-ltb b 0 (omega arith), and-false (eqb a c))

-- ---- what is mapped, by the row there

-- a row that ends before c does not have it
past : (r : Stride) (c : ℕ) → r.last < c → covers r c ≡ false
past r c h = rw (lt-leb c r.last h, and-false (leb r.first c))

-- where all rows begin behind c, it is not mapped
pub early : (p : ℕ) (rs : List Stride) → rises_from p rs ≡ true → every is_right rs ≡ true → (c : ℕ) → c ≤ p → mapped rs c ≡ c ∷ []
unfolding mapped
early p [] e f c h = refl
early p (r ∷ rs) e f c h =
    let b = behind-p p r rs e f in
    let s = sound-first p r rs e f in
    rw (lt-leb r.first c (omega arith)) (early r.last rs (rises-rest p r rs e f) (right-rest p r rs e f) c (omega (arith, s.forward)))

met : (p : ℕ) (rs : List Stride) → rises_from p rs ≡ true → every is_right rs ≡ true → (c k : ℕ) → k ≡ behind rs c → k < length rs →
    mapped rs c ≡ reached (row_at (numbers rs) k) c
unfolding behind mapped numbers
met p [] e f c k i h = absurd (omega arith)
met p (r ∷ rs) e f c k i h = by (ltb r.last c) refl k i h (met r.last rs (rises-rest p r rs e f) (right-rest p r rs e f) c)
  where
    by : (x : Bool) → ltb r.last c ≡ x → (k : ℕ) → k ≡ cond x (suc (behind rs c)) 0 → k < suc (length rs) →
        ((k : ℕ) → k ≡ behind rs c → k < length rs → mapped rs c ≡ reached (row_at (numbers rs) k) c) →
        cond (covers r c) (image_in r c) (mapped rs c) ≡ reached (row_at (numbers (r ∷ rs)) k) c
    by true g zero i h on = absurd (omega arith)
    by true g (suc k) i h on =
        rw (past r c (ltb-true _ _ g)) (on k (omega arith) (omega arith) ∙ ap (λ (s : Stride). reached s c) (sym (row_next r rs k)))
    by false g zero i h on =
        let l = ltb-false r.last c g in
        rw (le-leb c r.last l, early r.last rs (rises-rest p r rs e f) (right-rest p r rs e f) c l)
    by false g (suc k) i h on = absurd (omega arith)

unmet : (rs : List Stride) (c : ℕ) → length rs ≤ behind rs c → mapped rs c ≡ c ∷ []
unfolding behind mapped
unmet [] c h = refl
unmet (r ∷ rs) c h = by (ltb r.last c) refl h (unmet rs c)
  where
    by : (x : Bool) → ltb r.last c ≡ x → suc (length rs) ≤ cond x (suc (behind rs c)) 0 → (length rs ≤ behind rs c → mapped rs c ≡ c ∷ []) →
        cond (covers r c) (image_in r c) (mapped rs c) ≡ c ∷ []
    by true g h on = rw (past r c (ltb-true _ _ g)) (on (omega arith))
    by false g h on = absurd (omega arith)

-- ---- for `find`: t is what it is lent, k what `place` answers

module _ (rs : List Stride) (rule : Rule rs) (t : List ℕ) (same : t ≡ numbers rs) (c k : ℕ) (e : k ≡ place_of 6 t c 0) where
  at_place : k ≡ behind rs c
  at_place = e ∙ ap (λ (t : List ℕ). place_of 6 t c 0) same ∙ place_is rs rule c

  many : length t ≡ length rs * 6
  many = ap length same ∙ count rs

  found : 6 ≤ length t - k * 6 → mapped rs c ≡ reached (row_at t k) c
  found h =
      subst⁻¹ (λ (t : List ℕ). mapped rs c ≡ reached (row_at t k) c) same
      (met 0 rs rule.rising rule.right c k at_place (omega (arith, many)))

  sound-there : 6 ≤ length t - k * 6 → Sound (row_at t k)
  sound-there h = subst⁻¹ (λ (t : List ℕ). Sound (row_at t k)) same (sound-at rs rule.right k (omega (arith, many)))

  ends_there : 6 ≤ length t - k * 6 → c ≤ (row_at t k).last
  ends_there h =
      subst⁻¹ (λ (t : List ℕ). c ≤ (row_at t k).last) same
      (high 0 rs rule.rising rule.right c k (omega (arith, at_place)) (omega (arith, many)))

-- the row that is read has a step, and its image is a character
module _ (t : List ℕ) (table : Table t) (c k : ℕ) (e : k ≡ place_of 6 t c 0) (h : 6 ≤ length t - k * 6) where
  pub going : 0 < (row_at t k).step
  going = (sound-there table.rows table.rule t table.same c k e h).going

  pub fits : (row_at t k).one + (c - (row_at t k).first) ≤ 0x10FFFF
  fits =
      let s = sound-there table.rows table.rule t table.same c k e h in
      let l = ends_there table.rows table.rule t table.same c k e h in
      omega (arith, scalar-most (row_at t k).one (top (row_at t k)) s.scalars)

-- the four ways through it
module _ (t : List ℕ) (c k : ℕ) (e : k ≡ place_of 6 t c 0) where
  pub no_row : length t - k * 6 < 6 → Maps t c c 0 0
  no_row h rs rule same = record { same = sym (unmet rs c (omega (arith, many rs rule t same c k e, at_place rs rule t same c k e))); none = λ q. refl }

  pub before-row : 6 ≤ length t - k * 6 → c < (row_at t k).first → Maps t c c 0 0
  before-row h l rs rule same = record { same = sym (found rs rule t same c k e h ∙ rw (lt-leb (row_at t k).first c l)); none = λ q. refl }

  pub between-steps : 6 ≤ length t - k * 6 → (row_at t k).first ≤ c → ((c - (row_at t k).first) % (row_at t k).step ≡ 0 → ⊥) → Maps t c c 0 0
  between-steps h l n rs rule same =
      record { same = sym (found rs rule t same c k e h ∙ rw (le-leb (row_at t k).first c l, ne_eqb _ 0 n)); none = λ q. refl }

  pub in_row : 6 ≤ length t - k * 6 → (row_at t k).first ≤ c → (c - (row_at t k).first) % (row_at t k).step ≡ 0 →
      Maps t c ((row_at t k).one + (c - (row_at t k).first)) (row_at t k).two (row_at t k).three
  in_row h l n rs rule same = record {
    same = sym (found rs rule t same c k e h ∙ rw (le-leb (row_at t k).first c l, eq-eqb _ 0 n));
    none = (sound-there rs rule t same c k e h).none;
  }
