-- Parts of a text, stored over a list one after the other.
--     sets-parts      two parts that meet or overlap, stored one after the other, are stored as one part
--     sets-none       storing an empty part changes nothing
--     sets_more       the octet behind a part, stored behind it, makes it a part with one octet more
--     sets-done       a part that is stored to its end
--     stored          a part that `copy_from_slice` stores
-- Assumes nothing.
use Prim.Native.Nat.{ℕ, suc, ◌+◌, ◌-◌, ◌≤◌, ◌<◌}
use native.Mathlib.Omega.{arith}
use mathlib.Core.Path.{◌≡◌, refl, sym, ap, ap₂, ◌∙◌}
use mathlib.Core.List.{List, [], ◌∷◌, ◌++◌, append_assoc}
use borrow.Rule.Slice.PartMut.{put_mid}
use lib.ListN.{length, get_or, set, take, drop, length-take, length-drop}
use lib.Seq.{sets, sets-eq, drop-drop, set-set, set_comm}
use Rattle.text.specs.Scan.{part}
use Rattle.text.proofs.general.Lists.{sets-append}
use Rattle.text.proofs.general.Parts.{part_none, part-more, part_join, length_part}

-- an element below a list that is stored may be stored before it
set_below : (v o : List ℕ) (i n b : ℕ) → i < n → set (sets o n v) i b ≡ sets (set o i b) n v
set_below [] o i n b h = refl
set_below (c ∷ v) o i n b h =
    set_below v (set o n c) i (suc n) b (omega arith) ∙ ap (λ (l : List ℕ). sets l (suc n) v) (set_comm o n i c b (λ e. omega arith))

-- storing a list changes nothing where one at least as long is stored over it
sets-again : (v w o : List ℕ) (n : ℕ) → length v ≤ length w → sets (sets o n v) n w ≡ sets o n w
sets-again [] w o n h = refl
sets-again (b ∷ v) [] o n h = absurd (omega arith)
sets-again (b ∷ v) (c ∷ w) o n h =
    ap (λ (l : List ℕ). sets l (suc n) w) (set_below v (set o n b) n (suc n) c (omega arith))
    ∙ sets-again v w (set (set o n b) n c) (suc n) (omega arith)
    ∙ ap (λ (l : List ℕ). sets l (suc n) w) (set-set o n b c)

module _ (s o : List ℕ) (f p : ℕ) where
  -- the part from f on is that to a place d behind f, and the part from there on
  split : (d a : ℕ) → d ≤ a → f + a ≤ length s →
      sets o p (part s f (f + a)) ≡ sets (sets o p (part s f (f + d))) (p + d) (part s (f + d) (f + a))
  split d a h l =
      ap (sets o p) (part_join s f (f + d) (f + a) (omega arith) (omega arith) l)
      ∙ sets-append (part s f (f + d)) (part s (f + d) (f + a)) o p
      ∙ ap (λ (k : ℕ). sets (sets o p (part s f (f + d))) (p + k) (part s (f + d) (f + a))) (size (length_part s f (f + d) (omega arith) (omega arith)))
    where
      size : {n : ℕ} → n ≡ f + d - f → n ≡ d
      size e = omega arith

  pub sets-parts : (d k : ℕ) {a n : ℕ} {o₁ o₂ : List ℕ} → d ≤ a → a ≤ n → d + k ≡ n → f + n ≤ length s →
      o₁ ≡ sets o p (part s f (f + a)) → o₂ ≡ sets o₁ (p + d) (part s (f + d) (f + d + k)) → o₂ ≡ sets o p (part s f (f + n))
  sets-parts d k {a} {n} h g e l q r =
      r
      ∙ ap₂ (λ (t : List ℕ) (m : ℕ). sets t (p + d) (part s (f + d) m)) (q ∙ split d a h (omega arith)) (end e)
      ∙ sets-again (part s (f + d) (f + a)) (part s (f + d) (f + n)) (sets o p (part s f (f + d))) (p + d)
      (shorter (length_part s (f + d) (f + a) (omega arith) (omega arith)) (length_part s (f + d) (f + n) (omega arith) l))
      ∙ sym (split d n (omega arith) l)
    where
      end : d + k ≡ n → f + d + k ≡ f + n
      end e = omega arith

      shorter : {x y : ℕ} → x ≡ f + a - (f + d) → y ≡ f + n - (f + d) → x ≤ y
      shorter q r = omega arith

  pub sets-none : o ≡ sets o p (part s f (f + 0))
  sets-none = ap (sets o p) (sym (part_none s f) ∙ ap (part s f) same)
    where
      same : f ≡ f + 0
      same = omega arith

  pub sets_more : (i : ℕ) {o₁ : List ℕ} {x : ℕ} → f + i < length s → o₁ ≡ sets o p (part s f (f + i)) → x ≡ get_or s (f + i) 0 →
      set o₁ (p + i) x ≡ sets o p (part s f (f + (i + 1)))
  sets_more i h q r =
      ap₂ (λ (t : List ℕ) (y : ℕ). set t (p + i) y) q r
      ∙ ap (λ (k : ℕ). set (sets o p (part s f (f + i))) (p + k) (get_or s (f + i) 0)) (size (length_part s f (f + i) (omega arith) (omega arith)))
      ∙ sym (sets-append (part s f (f + i)) (get_or s (f + i) 0 ∷ []) o p)
      ∙ ap (sets o p) (sym (part-more s f (f + i) (omega arith) h) ∙ ap (part s f) next)
    where
      size : {n : ℕ} → n ≡ f + i - f → i ≡ n
      size e = omega arith

      next : f + i + 1 ≡ f + (i + 1)
      next = omega arith

  pub sets-done : {i n : ℕ} {o₁ : List ℕ} → o₁ ≡ sets o p (part s f (f + i)) → i ≡ n → o₁ ≡ sets o p (part s f (f + n))
  sets-done q e = q ∙ ap (λ (k : ℕ). sets o p (part s f (f + k))) e

-- a part that is stored by `copy_from_slice`
pub stored : (s o y : List ℕ) (f p n : ℕ) → f + n ≤ length s → p + n ≤ length o → y ≡ take (f + n - f) (drop f s) →
    put_mid p (p + n - p) o y ≡ sets o p (part s f (f + n))
stored s o y f p n h l e =
    let size : length y ≡ n = omega (arith, ap length e ∙ length-take (f + n - f) (drop f s), length-drop f s) in
    let behind : p + (p + n - p) ≡ p + length y = omega arith in
    ap (λ (k : List ℕ). take p o ++ (y ++ k)) (drop-drop (p + n - p) p o ∙ ap (λ (k : ℕ). drop k o) behind)
    ∙ sym (append_assoc (take p o) y (drop (p + length y) o))
    ∙ sym (sets-eq y o p (omega arith))
    ∙ ap (sets o p) (e ∙ ap (λ (k : ℕ). take k (drop f s)) (omega arith))
