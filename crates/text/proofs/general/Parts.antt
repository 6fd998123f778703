-- Parts of a text: `part s a e` is the text from the place a to the place e.
--     part_none                a part that ends where it begins is empty
--     part-more, part-head     a part with one octet more at its end; a part by its first octet
--     part_join                two parts that meet make one part
--     length_part, part-size   the length of a part that lies in the text; at most the distance of its ends
--     drop-take, drop-part     a beginning, and a part, without their first octets
--     part-drop, part-take     a part that lies in the text is a beginning of it without its first octets, or a beginning
-- Assumes nothing.
use Prim.Native.Nat.{ℕ, zero, suc, ◌+◌, ◌-◌, ◌≤◌, ◌<◌, min}
use native.Mathlib.Omega.{arith}
use mathlib.Core.Path.{◌≡◌, sym, ap, ap₂, ◌∙◌}
use mathlib.Core.List.{List, [], ◌∷◌, ◌++◌}
use lib.ListN.{length, get_or, take, drop, length-take, length-drop}
use lib.Seq.{take-nil, take-suc, take-add, get_or-drop, drop-drop}
use Rattle.text.specs.Scan.{part}
use Rattle.text.proofs.general.Places.{drop-next}

pub part_none : (s : List ℕ) (a : ℕ) → part s a a ≡ []
part_none s a = ap (λ (n : ℕ). take n (drop a s)) (none a (length s))
  where
    none : (a n : ℕ) → min a n - a ≡ 0
    none a n = omega arith

pub length_part : (s : List ℕ) (a e : ℕ) → a ≤ e → e ≤ length s → length (part s a e) ≡ e - a
length_part s a e h l =
    length-take (min e (length s) - a) (drop a s) ∙ ap (min (min e (length s) - a)) (length-drop a s) ∙ least a e (length s) h l
  where
    least : (a e n : ℕ) → a ≤ e → e ≤ n → min (min e n - a) (n - a) ≡ e - a
    least a e n h l = omega arith

pub part-size : (s : List ℕ) (a e : ℕ) → length (part s a e) ≤ e - a
part-size s a e = omega (arith, length-take (min e (length s) - a) (drop a s))

pub part-more : (s : List ℕ) (a i : ℕ) → a ≤ i → i < length s → part s a (i + 1) ≡ part s a i ++ (get_or s i 0 ∷ [])
part-more s a i h l =
    ap (λ (n : ℕ). take n (drop a s)) (one a i (length s) h l)
    ∙ take-suc (drop a s) (i - a) 0 (inside a i (length s) (length (drop a s)) (length-drop a s) h l)
    ∙ ap (λ (n : ℕ). take n (drop a s) ++ (get_or (drop a s) (i - a) 0 ∷ [])) (same a i (length s) l)
    ∙ ap (λ (b : ℕ). part s a i ++ (b ∷ [])) (get_or-drop a s (i - a) 0 ∙ ap (λ (n : ℕ). get_or s n 0) (back a i h))
  where
    one : (a i n : ℕ) → a ≤ i → i < n → min (i + 1) n - a ≡ suc (i - a)
    one a i n h l = omega arith

    inside : (a i n k : ℕ) → k ≡ n - a → a ≤ i → i < n → i - a < k
    inside a i n k e h l = omega arith

    same : (a i n : ℕ) → i < n → i - a ≡ min i n - a
    same a i n l = omega arith

    back : (a i : ℕ) → a ≤ i → a + (i - a) ≡ i
    back a i h = omega arith

pub part-head : (s : List ℕ) (a e : ℕ) → a < e → e ≤ length s → part s a e ≡ get_or s a 0 ∷ part s (a + 1) e
part-head s a e h l =
    ap (take (min e (length s) - a)) (drop-next s a (omega arith))
    ∙ ap (λ (n : ℕ). take n (get_or s a 0 ∷ drop (a + 1) s)) (less a e (length s) h l)
  where
    less : (a e n : ℕ) → a < e → e ≤ n → min e n - a ≡ suc (min e n - (a + 1))
    less a e n h l = omega arith

pub part_join : (s : List ℕ) (a n e : ℕ) → a ≤ n → n ≤ e → e ≤ length s → part s a e ≡ part s a n ++ part s n e
part_join s a n e p q l =
    ap (λ (k : ℕ). take k (drop a s)) (sum a n e (length s) p q l)
    ∙ take-add (min n (length s) - a) (min e (length s) - n) (drop a s)
    ∙ ap (λ (t : List ℕ). part s a n ++ take (min e (length s) - n) t) (drop-drop (min n (length s) - a) a s)
    ∙ ap (λ (k : ℕ). part s a n ++ take (min e (length s) - n) (drop k s)) (back a n e (length s) p q l)
  where
    sum : (a n e k : ℕ) → a ≤ n → n ≤ e → e ≤ k → min e k - a ≡ (min n k - a) + (min e k - n)
    sum a n e k p q l = omega arith

    back : (a n e k : ℕ) → a ≤ n → n ≤ e → e ≤ k → a + (min n k - a) ≡ n
    back a n e k p q l = omega arith

pub drop-take : (k n : ℕ) (l : List ℕ) → drop k (take n l) ≡ take (n - k) (drop k l)
drop-take zero n l = ap (λ (m : ℕ). take m l) (whole n)
  where
    whole : (n : ℕ) → n ≡ n - 0
    whole n = omega arith
drop-take (suc k) n [] = ap (drop (suc k)) (take-nil n) ∙ sym (take-nil (n - suc k))
drop-take (suc k) zero (x ∷ l) = ap (λ (m : ℕ). take m (drop k l)) (zeroed (suc k))
  where
    zeroed : (k : ℕ) → 0 ≡ 0 - k
    zeroed k = omega arith
drop-take (suc k) (suc n) (x ∷ l) = drop-take k n l ∙ ap (λ (m : ℕ). take m (drop k l)) (less n k)
  where
    less : (n k : ℕ) → n - k ≡ suc n - suc k
    less n k = omega arith

pub drop-part : (s : List ℕ) (a e k : ℕ) → drop k (part s a e) ≡ part s (a + k) e
drop-part s a e k = drop-take k (min e (length s) - a) (drop a s) ∙ ap₂ take (less (min e (length s)) a k) (drop-drop k a s)
  where
    less : (n a k : ℕ) → n - a - k ≡ n - (a + k)
    less n a k = omega arith

pub part-drop : (s : List ℕ) (a e : ℕ) → e ≤ length s → part s a e ≡ drop a (take e s)
part-drop s a e h = ap (λ (n : ℕ). take (n - a) (drop a s)) (least e (length s) h) ∙ sym (drop-take a e s)
  where
    least : (e n : ℕ) → e ≤ n → min e n ≡ e
    least e n h = omega arith

pub part-take : (s : List ℕ) (e : ℕ) → e ≤ length s → part s 0 e ≡ take e s
part-take s e h = part-drop s 0 e h
