-- Each public contract allows one outcome only: one table, one answer, and one image. This is said of the contract as the check reads it off the
-- source, so that a contract which said less would fail here.
-- Assumes nothing.
use Rattle.std.proofs.Common.{ℕ, zero, suc, List, get_or, ◌≡◌, refl, sym, ap, ◌∙◌}
use contract.Lifetimes.{Lfts}
use Rattle.casing.specs.Mapping.{image_of, Spells}
use Rattle.casing.proofs.is_settled.Reads as is-settled
use Rattle.casing.proofs.lower_table.Reads as lower-table
use Rattle.casing.proofs.lowered.Reads as lowered
use Rattle.casing.proofs.to_lowercase.Reads as to-lowercase
use Rattle.casing.proofs.to_uppercase.Reads as to-uppercase

-- an image is spelled in one way
spelled : (a b c : ℕ) (i : List ℕ) → Spells a b c i → (a ≡ get_or i 0 0) × (b ≡ get_or i 1 0) × (c ≡ get_or i 2 0)
spelled a b c i s = (ap (λ (l : List ℕ). get_or l 0 0) s.same, second b ∙ ap (λ (l : List ℕ). get_or l 1 0) s.same, third b s.none ∙ ap (λ (l : List ℕ). get_or l 2 0) s.same)
  where
    second : (b : ℕ) → b ≡ get_or (image_of a b c) 1 0
    second zero = refl
    second (suc b) = refl

    last : (b c : ℕ) → c ≡ get_or (image_of a (suc b) c) 2 0
    last b zero = refl
    last b (suc c) = refl

    third : (b : ℕ) → (b ≡ 0 → c ≡ 0) → c ≡ get_or (image_of a b c) 2 0
    third zero n = n refl
    third (suc b) n = last b c

once : (a b c d e f : ℕ) (i : List ℕ) → Spells a b c i → Spells d e f i → (a ≡ d) × (b ≡ e) × (c ≡ f)
once a b c d e f i p q =
    let x = spelled a b c i p in
    let y = spelled d e f i q in
    (x.0 ∙ sym y.0, x.1 ∙ sym y.1, x.2 ∙ sym y.2)

pub one-lower-table : (κs : Lfts 0) (a : _) (x y : _) (s t : _) → lower-table.Post κs a x s → lower-table.Post κs a y t → x ≡ y
one-lower-table κs a x y s t p q = p ∙ sym q

pub one-is-settled : (κs : Lfts 0) (a : _) (x y : _) (s t : _) → is-settled.Post κs a x s → is-settled.Post κs a y t → x ≡ y
one-is-settled κs a x y s t p q = p ∙ sym q

pub one-lowered : (κs : Lfts 1) (a : _) (x y : _) (s t : _) → lowered.Post κs a x s → lowered.Post κs a y t →
    (x.one ≡ y.one) × (x.two ≡ y.two) × (x.three ≡ y.three)
one-lowered κs a x y s t p q = once _ _ _ _ _ _ _ p q

pub one-to-lowercase : (κs : Lfts 0) (a : _) (x y : _) (s t : _) → to-lowercase.Post κs a x s → to-lowercase.Post κs a y t →
    (x.one ≡ y.one) × (x.two ≡ y.two) × (x.three ≡ y.three)
one-to-lowercase κs a x y s t p q = once _ _ _ _ _ _ _ p q

pub one-to-uppercase : (κs : Lfts 0) (a : _) (x y : _) (s t : _) → to-uppercase.Post κs a x s → to-uppercase.Post κs a y t →
    (x.one ≡ y.one) × (x.two ≡ y.two) × (x.three ≡ y.three)
one-to-uppercase κs a x y s t p q = once _ _ _ _ _ _ _ p q
