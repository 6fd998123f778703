-- Runs of ASCII without line ends.
--     every-snoc       one element more that passes a test
--     plain-clear      a stretch without any octet of `breaks`
--     ascii-lowers     a text that is all ASCII
-- Assumes nothing.
use Rattle.std.proofs.Common.{ℕ, zero, suc, ◌+◌, ◌-◌, ◌≤◌, ◌<◌, min, arith, add-zero, ◌≡◌, refl, sym, ap, subst, ◌∙◌, Bool, true}
use Rattle.std.proofs.Common.{false, ◌||◌, List, [], ◌∷◌, ◌++◌, length, get_or, take, drop, length-take, length-drop, length-take-le, get_or-take, get_or-drop, T, ltb, ltb-true}
use Rattle.text.specs.Block.{in_set, breaks, others, Clear}
use Rattle.text.specs.Every.{every}
use Rattle.text.specs.Scan.{part}
use Rattle.text.proofs.general.Tests.{both_true, true-not-false}
use Rattle.text.proofs.general.Below.{each}
use Rattle.text.proofs.general.Parts.{part_none, part-more}
use Rattle.chunk.specs.Inner.{is_plain, Lowers}

plain-none : (t : List ℕ) (a : ℕ) → every is_plain (part t a a) ≡ true
unfolding every
plain-none t a = ap (every is_plain) (part_none t a)

pub every-snoc : (p : ℕ → Bool) (cs : List ℕ) (c : ℕ) → every p cs ≡ true → p c ≡ true → every p (cs ++ c ∷ []) ≡ true
unfolding every
every-snoc p [] c h e = rw e refl
every-snoc p (d ∷ cs) c h e = let x = both_true (p d) (every p cs) h in rw x.0 (every-snoc p cs c x.1 e)

plain_more : (t : List ℕ) (a i : ℕ) → a ≤ i → i < length t → every is_plain (part t a i) ≡ true → is_plain (get_or t i 0) ≡ true →
    every is_plain (part t a (i + 1)) ≡ true
plain_more t a i l n h e = ap (every is_plain) (part-more t a i l n) ∙ every-snoc is_plain (part t a i) (get_or t i 0) h e

-- every byte that is none of `breaks` is such an octet
clear-byte : (b : ℕ) → b < 256 → in_set breaks b ≡ false → is_plain b ≡ true
unfolding in_set
clear-byte b l h = by (in_set breaks b) (is_plain b) h (each (λ n. in_set breaks n || is_plain n) 256 tt b l)
  where
    by : (x y : Bool) → x ≡ false → T (x || y) → y ≡ true
    by false true e t = refl
    by false false e t = absurd t
    by true y e t = true-not-false true refl e

pub plain-clear : (t : List ℕ) (a e : ℕ) {r : ℕ} → a ≤ e → e ≤ length t → Clear breaks (take e t) a r →
    (a ≤ r) × (r ≤ e) × (every is_plain (part t a r) ≡ true)
plain-clear t a e {r} h l x =
    (x.from, end, subst (λ (k : ℕ). every is_plain (part t a k) ≡ true) (back x.from) (on (r - a) (omega (arith, end, x.from)) (λ k p q. here k (x.clear k p (omega arith)))))
  where
    end : r ≤ e
    end = omega (arith, x.to, length-take-le e t l)

    back : a ≤ r → a + (r - a) ≡ r
    back h = omega arith

    next : (n : ℕ) → a + n + 1 ≡ a + suc n
    next n = omega arith

    here : (k : ℕ) → (get_or (take e t) k 0 < 256) × (in_set breaks (get_or (take e t) k 0) ≡ false) → is_plain (get_or (take e t) k 0) ≡ true
    here k p = clear-byte (get_or (take e t) k 0) p.0 p.1

    on : (n : ℕ) → a + n ≤ e → ((k : ℕ) → a ≤ k → k < a + n → is_plain (get_or (take e t) k 0) ≡ true) → every is_plain (part t a (a + n)) ≡ true
    on zero h c = subst (λ (k : ℕ). every is_plain (part t a k) ≡ true) (sym (add-zero a)) (plain-none t a)
    on (suc n) h c =
        let one = sym (ap is_plain (get_or-take e t (a + n) 0 (omega arith))) ∙ c (a + n) (omega arith) (omega arith) in
        subst (λ (k : ℕ). every is_plain (part t a k) ≡ true) (next n)
        (plain_more t a (a + n) (omega arith) (omega arith) (on n (omega arith) (λ k p q. c k p (omega arith))) one)

-- ---- texts that are all ASCII

narrow-byte : (b : ℕ) → b < 256 → in_set others b ≡ false → b < 0x80
unfolding in_set
narrow-byte b l h = by (in_set others b) (ltb b 0x80) refl h (each (λ n. in_set others n || ltb n 0x80) 256 tt b l)
  where
    by : (x y : Bool) → ltb b 0x80 ≡ y → x ≡ false → T (x || y) → b < 0x80
    by false true p e t = ltb-true b 0x80 p
    by false false p e t = absurd t
    by true y p e t = true-not-false true refl e

-- a text without an octet beyond ASCII needs no table
pub ascii-lowers : (t : List ℕ) (a e : ℕ) → a ≤ e → e ≤ length t → Clear others (take (e - a) (drop a t)) 0 (length (take (e - a) (drop a t))) →
    {table : List ℕ} → Lowers t a e table
ascii-lowers t a e h l x k p q w =
    let size = length-take (e - a) (drop a t) ∙ ap (min (e - a)) (length-drop a t) in
    let here = x.clear (k - a) (omega arith) (omega (arith, size)) in
    let same = get_or-take (e - a) (drop a t) (k - a) 0 (omega arith) ∙ get_or-drop a t (k - a) 0 ∙ ap (λ (n : ℕ). get_or t n 0) (back p) in
    absurd (omega (arith, narrow-byte _ here.0 here.1, same, w))
  where
    back : a ≤ k → a + (k - a) ≡ k
    back h = omega arith
