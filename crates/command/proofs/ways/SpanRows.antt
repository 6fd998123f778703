-- Between which of its bytes the constant of src/names.rt has the names of so many octets: for `span_of` of src/meaning.rt.
--     outside, fits     the lengths of the names outside of two bytes, and whether rows begin at the two: the checker computes both
--     spans, spans-at   where no name outside has n octets, the rows between the two bytes say of a name of n octets what all say
--     above             numbers up to a bound, and one above it
-- Assumes nothing.
use Rattle.std.proofs.Common.{ℕ, ◌+◌, ◌-◌, ◌≤◌, ◌<◌, arith, ◌≡◌, refl, sym, ap, subst, ◌∙◌, Bool, true, false, cond, ◌&&◌}
use Rattle.std.proofs.Common.{◌||◌, List, [], ◌∷◌, ◌++◌, append_assoc, append-nil, length, drop, length-append, drop-drop, eqb, ltb, leb, eqb-true, leb-true, ne_eqb}
use lib.Seq.{drop-append_seam}
use borrow.Author.Tests.{eqb-false}
use Rattle.text.specs.Class.{mark}
use Rattle.text.specs.Every.{every}
use Rattle.text.specs.SameBytes.{same_bytes}
use Rattle.text.proofs.general.SameBytes.{same_length}
use Rattle.text.proofs.general.Tests.{both_true, both_false}
use Rattle.command.specs.Commands.{commands}
use Rattle.command.specs.Names.{NameRow, code_of, decoded, flat, meaning_by, rows_of, long, names, SpanOf}

-- ---- rows cut at a byte

-- the rows before byte k
unfoldable pub before : ℕ → List NameRow → List NameRow
before k [] = []
before k (r ∷ rs) = cond (ltb 0 k) (r ∷ before (k - (4 + length r.key)) rs) []

-- the rows from byte k on
unfoldable pub behind : ℕ → List NameRow → List NameRow
behind k [] = []
behind k (r ∷ rs) = cond (ltb 0 k) (behind (k - (4 + length r.key)) rs) (r ∷ rs)

cut : (k : ℕ) (rs : List NameRow) → before k rs ++ behind k rs ≡ rs
unfolding before behind
cut k [] = refl
cut k (r ∷ rs) = by (ltb 0 k) (cut (k - (4 + length r.key)) rs)
  where
    by : (b : Bool) → before (k - (4 + length r.key)) rs ++ behind (k - (4 + length r.key)) rs ≡ rs
        → cond b (r ∷ before (k - (4 + length r.key)) rs) [] ++ cond b (behind (k - (4 + length r.key)) rs) (r ∷ rs) ≡ r ∷ rs
    by true ih = ap (λ (q : List NameRow). r ∷ q) ih
    by false ih = refl

flat_append : (ps qs : List NameRow) → flat (ps ++ qs) ≡ flat ps ++ flat qs
unfolding flat
flat_append [] qs = refl
flat_append (r ∷ ps) qs =
    ap (λ (t : List ℕ). length r.key ∷ r.x ∷ r.y ∷ r.z ∷ r.key ++ t) (flat_append ps qs)
    ∙ ap (λ (t : List ℕ). length r.key ∷ r.x ∷ r.y ∷ r.z ∷ t) (sym (append_assoc r.key (flat ps) (flat qs)))

flat-cut : (k : ℕ) (rs : List NameRow) → flat rs ≡ flat (before k rs) ++ flat (behind k rs)
flat-cut k rs = ap flat (sym (cut k rs)) ∙ flat_append (before k rs) (behind k rs)

-- a row begins at byte k
drop-flat : (k : ℕ) (rs : List NameRow) → length (flat (before k rs)) ≡ k → drop k (flat rs) ≡ flat (behind k rs)
drop-flat k rs e =
    ap (drop k) (flat-cut k rs) ∙ ap (λ (n : ℕ). drop n (flat (before k rs) ++ flat (behind k rs))) (sym e)
    ∙ drop-append_seam (flat (before k rs)) (flat (behind k rs))

-- ---- rows of another length say nothing of a name

-- the lengths of the names
unfoldable pub sizes : List NameRow → List ℕ
sizes [] = []
sizes (r ∷ rs) = length r.key ∷ sizes rs

apart : (ps qs : List NameRow) (n : ℕ) → mark (sizes (ps ++ qs)) n ≡ false → (mark (sizes ps) n ≡ false) × (mark (sizes qs) n ≡ false)
unfolding sizes
apart [] qs n h = (refl, h)
apart (r ∷ ps) qs n h =
    let b = both_false (eqb n (length r.key)) (mark (sizes (ps ++ qs)) n) h in
    let p = apart ps qs n b.1 in
    (ap (λ (t : Bool). t || mark (sizes ps) n) b.0 ∙ p.0, p.1)

module _ (name : List ℕ) (n : ℕ) (l : length name ≡ n) where
  front : (ps qs : List NameRow) → mark (sizes ps) n ≡ false → meaning_by (ps ++ qs) name ≡ meaning_by qs name
  unfolding meaning_by sizes
  front [] qs h = refl
  front (r ∷ ps) qs h =
      let b = both_false (eqb n (length r.key)) (mark (sizes ps) n) h in
      rw (same_length r.key name (λ e. eqb-false _ _ b.0 (sym (e ∙ l)))) (front ps qs b.1)

  back : (ps qs : List NameRow) → mark (sizes qs) n ≡ false → meaning_by (ps ++ qs) name ≡ meaning_by ps name
  unfolding meaning_by
  back [] qs h = ap (λ (rs : List NameRow). meaning_by rs name) (sym (append-nil qs)) ∙ front qs [] h
  back (r ∷ ps) qs h = ap (cond (same_bytes r.key name) (decoded (code_of r.x r.y r.z))) (back ps qs h)

-- ---- the rows between two bytes

abbrev all : List NameRow
all = rows_of (long commands)

abbrev pre : ℕ → List NameRow
pre from = before from all

abbrev mid : ℕ → ℕ → List NameRow
mid from to = before (to - from) (behind from all)

abbrev post : ℕ → ℕ → List NameRow
post from to = behind (to - from) (behind from all)

module _
    (n from to : ℕ) (order : from ≤ to) (f : length (flat (pre from)) ≡ from) (g : length (flat (mid from to)) ≡ to - from)
    (a : mark (sizes (pre from)) n ≡ false) (b : mark (sizes (post from to)) n ≡ false)
  where
    rest : drop from names ≡ flat (behind from all)
    unfolding names
    rest = drop-flat from all f

    end : drop to names ≡ flat (post from to)
    end =
        ap (λ (k : ℕ). drop k names) (whole from to order) ∙ sym (drop-drop (to - from) from names) ∙ ap (drop (to - from)) rest
        ∙ drop-flat (to - from) (behind from all) g
      where
        whole : (from to : ℕ) → from ≤ to → to ≡ from + (to - from)
        whole from to o = omega arith

    within : to ≤ length names
    unfolding names
    within =
        sum from to (length (flat (pre from))) (length (flat (mid from to))) _ _ _ order f g
        (ap length (flat-cut from all) ∙ length-append (flat (pre from)) (flat (behind from all)))
        (ap length (flat-cut (to - from) (behind from all)) ∙ length-append (flat (mid from to)) (flat (post from to)))
      where
        sum : (from to p m r q t : ℕ) → from ≤ to → p ≡ from → m ≡ to - from → t ≡ p + r → r ≡ m + q → to ≤ t
        sum from to p m r q t o x y u v = omega arith

    told : (name : List ℕ) → length name ≡ n → meaning_by all name ≡ meaning_by (mid from to) name
    told name l =
        ap (λ (rs : List NameRow). meaning_by rs name) (sym (cut from all)) ∙ front name n l (pre from) (behind from all) a
        ∙ ap (λ (rs : List NameRow). meaning_by rs name) (sym (cut (to - from) (behind from all))) ∙ back name n l (mid from to) (post from to) b

    made : SpanOf n from to
    made = record {
      rows = mid from to;
      order = order;
      inside = within;
      here = rest ∙ flat-cut (to - from) (behind from all) ∙ ap (λ (t : List ℕ). flat (mid from to) ++ t) (sym end);
      says = λ name l. sym (told name l);
    }

-- the lengths of the names outside of the two bytes
abbrev pub outside : ℕ → ℕ → List ℕ
outside from to = sizes (pre from ++ post from to)

-- the computed test: rows begin at the two bytes
unfoldable pub fits : ℕ → ℕ → Bool
fits from to = leb from to && eqb (length (flat (pre from))) from && eqb (length (flat (mid from to))) (to - from)

pub spans : (n from to : ℕ) (ks : List ℕ) → outside from to ≡ ks → mark ks n ≡ false → fits from to ≡ true → SpanOf n from to
unfolding fits
spans n from to ks e m h =
    let p = both_true _ _ h in
    let q = both_true _ _ p.0 in
    let o = apart (pre from) (post from to) n (ap (λ (l : List ℕ). mark l n) e ∙ m) in
    made n from to (leb-true _ _ q.0) (eqb-true _ _ q.1) (eqb-true _ _ p.1) o.0 o.1

pub spans-at : (n k from to : ℕ) → n ≡ k → mark (outside from to) k ≡ false → fits from to ≡ true → SpanOf n from to
spans-at n k from to e m h = subst (λ (j : ℕ). SpanOf j from to) (sym e) (spans k from to _ refl m h)

-- no list of numbers up to m has one above it
pub above : (ks : List ℕ) (m n : ℕ) → every (λ k. leb k m) ks ≡ true → m < n → mark ks n ≡ false
unfolding every
above [] m n h l = refl
above (k ∷ ks) m n h l =
    let p = both_true (leb k m) (every (λ k. leb k m) ks) h in
    rw (ne_eqb n k (λ e. least e (leb-true k m p.0) l)) (above ks m n p.1 l)
  where
    least : n ≡ k → k ≤ m → m < n → ⊥
    least e a b = omega arith
