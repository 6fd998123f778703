-- Texts that are UTF-8, that is, concatenations of sequences; and `validity_of`, which walks over them.
--     octets-char             a sequence is UTF-8
--     octets-append           two texts that are UTF-8 are UTF-8 when put together
--     octets-after            where a text and a beginning of it are UTF-8, so is what follows the beginning
--     octets-width            a text that is UTF-8 and not empty begins with a sequence, and what follows that is UTF-8
--     walk-char               a walk that passes a sequence goes on behind it
--     accepts, refuses        `validity_of` accepts what is UTF-8, and of other texts tells the end of the longest beginning that is
-- Assumes nothing.
use Rattle.std.specs.Prelude.{Result, Ok, Err, ⊤}
use Rattle.text.specs.declared.utf8.IllFormed.{IllFormed}
use Prim.Native.Nat.{ℕ, suc, ◌+◌, ◌-◌, ◌≤◌, ◌<◌}
use mathlib.Core.Path.{◌≡◌, refl, sym, ap, subst, ◌∙◌}
use mathlib.Core.Logic.{◌↔◌}
use mathlib.Core.Bool.{Bool, true, false, cond}
use mathlib.Core.List.{List, [], ◌++◌, append-nil, append_assoc}
use native.Mathlib.Omega.{arith}
use lib.ListN.{length, take, drop, length-append, length-drop, take-append-drop}
use lib.Seq.{take_all, drop-append_seam, take-add, drop-drop, length-take-le}
use lib.Dec.{leb, eqb}
use borrow.Author.Tests.{leb-true, leb-false, eqb-true, eqb-false, ne_eqb}
use Rattle.text.specs.Walk.{Look, answer, pass, walk_from}
use Rattle.text.specs.Utf8.{is_char, Octets, none, next, width, look_valid, validity_of}
use Rattle.text.specs.Rfc3629.{Longest}
use Rattle.text.proofs.sequences.Walk.{from-passed, walk-keeps}
use Rattle.text.proofs.sequences.Alternatives.{width-char, char-width}
use Rattle.text.proofs.sequences.Lengths.{char-some}

pub octets-char : (w : List ℕ) → is_char w ≡ true → Octets w
octets-char w e = rw append-nil at (next w e none)

pub octets-append : {u t : List ℕ} → Octets u → Octets t → Octets (u ++ t)
octets-append none q = q
octets-append {t = t} (next w {s} e o) q = rw append_assoc (next w e (octets-append o q))

pub octets-width : {u : List ℕ} → Octets u → 0 < length u → (0 < width u) × Octets (drop (width u) u)
octets-width none h = absurd (omega arith)
octets-width (next w {s} e o) h = rw (char-width w s e, drop-append_seam w s) ((char-some w e).0, o)

octets-rest : (w t : List ℕ) → is_char w ≡ true → Octets (w ++ t) → Octets t
octets-rest w t e o =
    let k = (octets-width o (omega (arith, (char-some w e).0, length-append w t))).1 in rw (char-width w t e, drop-append_seam w t) at k

pub octets-after : {u : List ℕ} (t : List ℕ) → Octets u → Octets (u ++ t) → Octets t
octets-after t none q = q
octets-after t (next w {s} e o) q = octets-after t o (octets-rest w (s ++ t) e (rw append_assoc at q))

-- ---- walks over texts that are UTF-8

module _ {R : Type 0} (f : ℕ → List ℕ → Look R) (e : ℕ → R) where
  pub walk-char : (i : ℕ) (w t : List ℕ) → is_char w ≡ true → f i (w ++ t) ≡ pass (length w - 1) →
      walk_from f e i 0 (w ++ t) ≡ walk_from f e (i + length w) 0 t
  walk-char i w t c q =
      let h = (char-some w c).0 in
      let n : suc (length w - 1) ≡ length w = omega arith in
      from-passed f e i (length w - 1) (w ++ t) (omega (arith, length-append w t)) q ∙ rw (n, drop-append_seam w t)

valid-char : (i : ℕ) (w t : List ℕ) → is_char w ≡ true → look_valid i (w ++ t) ≡ pass (length w - 1)
unfolding look_valid
valid-char i w t c = let h = (char-some w c).0 in rw (char-width w t c, ne_eqb (length w) 0 (λ z. omega arith))

valid-octets : {u : List ℕ} (e : ℕ → Result ⊤ IllFormed) (i : ℕ) → Octets u → walk_from look_valid e i 0 u ≡ e (i + length u)
unfolding walk_from
valid-octets e i none = ap e (omega arith)
valid-octets e i (next w {s} c o) =
    walk-char look_valid e i w s c (valid-char i w s c) ∙ valid-octets e (i + length w) o ∙ ap e (omega (arith, length-append w s))

octets-valid : (s : List ℕ) → Octets s → validity_of s ≡ Ok tt
unfolding validity_of
octets-valid s o = valid-octets (λ n. (Ok tt)) 0 o

valid-pass : (i k : ℕ) (u : List ℕ) → look_valid i u ≡ pass k → width u ≡ suc k
unfolding look_valid
valid-pass i k u q = go (eqb (width u) 0) refl q
  where
    go : (x : Bool) → eqb (width u) 0 ≡ x → cond {A = Look (Result ⊤ IllFormed)} x (answer (Err (record { at = i }))) (pass (width u - 1)) ≡ pass k → width u ≡ suc k
    go true e q = let z : ◌≡◌ {A = ℕ} 0 1 = cc in absurd (omega arith)
    go false e q = let n : width u - 1 ≡ k = cc in omega (arith, eqb-false (width u) 0 e)

valid-answer : (i : ℕ) (u : List ℕ) (r : Result ⊤ IllFormed) → look_valid i u ≡ answer r → (width u ≡ 0) × (◌≡◌ {A = Result ⊤ IllFormed} (Err (record { at = i })) r)
unfolding look_valid
valid-answer i u r q = go (eqb (width u) 0) refl q
  where
    go : (x : Bool) → eqb (width u) 0 ≡ x → cond {A = Look (Result ⊤ IllFormed)} x (answer (Err (record { at = i }))) (pass (width u - 1)) ≡ answer r →
        (width u ≡ 0) × (◌≡◌ {A = Result ⊤ IllFormed} (Err (record { at = i })) r)
    go true e q = (eqb-true _ _ e, cc)
    go false e q = let z : ◌≡◌ {A = ℕ} 0 1 = cc in absurd (omega arith)

-- the walk over s has come to i, and u is left
record Reached (s : List ℕ) (i : ℕ) (u : List ℕ) : Type 0 where
  pub inside : i ≤ length s
  pub before : Octets (take i s)
  pub left : u ≡ drop i s

abbrev ValidityMeans : List ℕ → Result ⊤ IllFormed → Type 0
ValidityMeans s (Ok tt) = Octets s
ValidityMeans s (Err n) = Reached s n.at (drop n.at s) × (width (drop n.at s) ≡ 0)

left-length : (s : List ℕ) (i : ℕ) (u : List ℕ) → Reached s i u → length u ≡ length s - i
left-length s i u r = ap length r.left ∙ length-drop i s

reached-pass : (s : List ℕ) (i k : ℕ) (u : List ℕ) → Reached s i u → width u ≡ suc k → (k < length u) × Reached s (i + suc k) (drop (suc k) u)
reached-pass s i k u r e =
    let c = width-char u (omega arith) in
    let n = left-length s i u r in
    let w : Octets (take (suc k) u) = octets-char (take (suc k) u) (rw e at c.0) in
    (omega arith, record { inside = omega arith; before = rw (take-add, ← r.left) (octets-append r.before w); left = ap (drop (suc k)) r.left ∙ drop-drop (suc k) i s })

reached-stop : (s : List ℕ) (i : ℕ) (u : List ℕ) (x : Result ⊤ IllFormed) → Reached s i u → look_valid i u ≡ answer x → ValidityMeans s x
reached-stop s i u x r q =
    let a = valid-answer i u x q in
    subst (ValidityMeans s) a.1 (record { inside = r.inside; before = r.before; left = refl }, ap width (sym r.left) ∙ a.0)

reached-end : (s : List ℕ) (i : ℕ) → Reached s i [] → Octets s
reached-end s i r = let n = left-length s i [] r in rw (take_all i s (omega arith)) at r.before

outcome : (s : List ℕ) → ValidityMeans s (validity_of s)
unfolding validity_of
outcome s =
    walk-keeps look_valid (λ n. (Ok tt)) (Reached s) (ValidityMeans s) (λ i k u l r q. reached-pass s i k u r (valid-pass i k u q)) (reached-stop s) (reached-end s) s 0
    (record { inside = omega arith; before = none; left = refl })

outcome-of : (s : List ℕ) (x : Result ⊤ IllFormed) → validity_of s ≡ x → ValidityMeans s x
outcome-of s x e = subst (ValidityMeans s) e (outcome s)

pub accepts : (s : List ℕ) → (validity_of s ≡ Ok tt) ↔ Octets s
accepts s = (outcome-of s (Ok tt), octets-valid s)

-- ---- the longest beginning that is UTF-8

-- a text with a beginning that is UTF-8 and not empty begins with a sequence
octets-begins : {u : List ℕ} (t : List ℕ) → Octets u → 0 < length u → 0 < width (u ++ t)
octets-begins t none h = absurd (omega arith)
octets-begins t (next w {s} e o) h = rw (append_assoc w s t, char-width w (s ++ t) e) (char-some w e).0

-- where two beginnings of a text are UTF-8, a sequence follows the shorter one
octets-longer : (s : List ℕ) (n m : ℕ) → Octets (take n s) → Octets (take m s) → n < m → m ≤ length s → 0 < width (drop n s)
octets-longer s n m o q l h =
    let k : m ≡ n + (m - n) = omega arith in
    let j : take m s ≡ take n s ++ take (m - n) (drop n s) = ap (λ (i : ℕ). take i s) k ∙ take-add n (m - n) s in
    let x : Octets (take (m - n) (drop n s)) = octets-after (take (m - n) (drop n s)) o (rw j at q) in
    let f : length (drop n s) ≡ length s - n = length-drop n s in
    let c : 0 < length (take (m - n) (drop n s)) = omega (arith, length-take-le (m - n) (drop n s) (omega arith)) in
    rw (take-append-drop (m - n) (drop n s)) at (octets-begins (drop (m - n) (drop n s)) x c)

-- so a beginning that is UTF-8 and that no sequence follows is the longest
octets-most : (s : List ℕ) (n : ℕ) → Octets (take n s) → width (drop n s) ≡ 0 → (m : ℕ) → m ≤ length s → Octets (take m s) → m ≤ n
octets-most s n o e m h q = go (leb m n) refl
  where
    go : (x : Bool) → leb m n ≡ x → m ≤ n
    go true p = leb-true m n p
    go false p = absurd (omega (arith, octets-longer s n m o q (leb-false m n p) h))

whole-valid : (s : List ℕ) (n : ℕ) → Octets (take n s) → length s ≤ n → validity_of s ≡ (Ok tt)
whole-valid s n o h = octets-valid s (rw (take_all n s h) at o)

ill-inside : (s : List ℕ) (n : ℕ) → Octets (take n s) → validity_of s ≡ Err (record { at = n }) → n < length s
ill-inside s n o e = go (leb (length s) n) refl
  where
    go : (x : Bool) → leb (length s) n ≡ x → n < length s
    go true p = let v = whole-valid s n o (leb-true _ _ p) in let z : ◌≡◌ {A = ℕ} 0 1 = cc in absurd (omega arith)
    go false p = leb-false _ _ p

ill-longest : (s : List ℕ) (n : ℕ) → validity_of s ≡ Err (record { at = n }) → Longest s n
ill-longest s n e =
    let r = outcome-of s (Err (record { at = n })) e in
    let o = r.0.before in record { inside = ill-inside s n o e; valid = o; most = octets-most s n o r.1 }

longest-same : (s : List ℕ) (n m : ℕ) → Longest s n → Longest s m → n ≡ m
longest-same s n m p q =
    let x = p.most m (omega arith) q.valid in let y = q.most n (omega arith) p.valid in omega arith

longest-part : (s : List ℕ) (n : ℕ) → Longest s n → Octets s → ⊥
longest-part s n l o = omega (arith, l.most (length s) (omega arith) (rw (take_all (length s) s (omega arith)) o))

longest-ill : (s : List ℕ) (n : ℕ) → Longest s n → validity_of s ≡ Err (record { at = n })
longest-ill s n l = go (validity_of s) refl
  where
    go : (x : Result ⊤ IllFormed) → validity_of s ≡ x → x ≡ Err (record { at = n })
    go (Ok tt) e = absurd (longest-part s n l (outcome-of s (Ok tt) e))
    go (Err m) e = ap {B = Result ⊤ IllFormed} (λ (k : ℕ). Err (record { at = k })) (longest-same s m.at n (ill-longest s m.at e) l)

pub refuses : (s : List ℕ) (n : ℕ) → (validity_of s ≡ Err (record { at = n })) ↔ Longest s n
refuses s n = (ill-longest s n, longest-ill s n)
