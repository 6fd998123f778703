-- Octets put into lent bytes.
--     puts_none, puts_one, puts-past    putting nothing; one octet, where it fits or not; octets past the end of the lent bytes
--     puts-on, puts-as                  putting one text after another; putting an equal text
--     puts-most                         putting a text of which only the beginning may fit
--     sets-fits                         a text that fits stands in front of the lent bytes
-- Assumes nothing.
use Rattle.std.proofs.Common.{ℕ, suc, ◌+◌, ◌≤◌, ◌<◌, arith, ◌≡◌, refl, sym, ap, subst, ◌∙◌, List, [], ◌∷◌, ◌++◌, append-nil, length, drop, set, length-append, length-set}
use lib.Seq.{sets, sets-eq, set_out, length-sets}
use Rattle.text.proofs.general.Lists.{sets-append}
use Rattle.chunk.specs.Put.{Puts}

sets-past : (w o : List ℕ) (n : ℕ) → length o ≤ n → sets o n w ≡ o
sets-past [] o n h = refl
sets-past (b ∷ w) o n h = sets-past w (set o n b) (suc n) (omega (arith, length-set o n b)) ∙ set_out o n b h

pub sets-fits : (w o : List ℕ) → length w ≤ length o → sets o 0 w ≡ w ++ drop (length w) o
sets-fits w o h = sets-eq w o 0 (omega arith) ∙ ap (λ (k : ℕ). w ++ drop k o) (none (length w))
  where
    none : (n : ℕ) → 0 + n ≡ n
    none n = omega arith

pub puts_none : (o : List ℕ) (n : ℕ) → Puts o n [] n o
puts_none o n = record { end = omega arith; bytes = refl }

pub puts_one : (o : List ℕ) (n b : ℕ) → Puts o n (b ∷ []) (n + 1) (set o n b)
puts_one o n b = record { end = refl; bytes = refl }

pub puts-past : (w : List ℕ) {o : List ℕ} {n r : ℕ} → length o ≤ n → r ≡ n + length w → Puts o n w r o
puts-past w {o} {n} {r} h e = record { end = e; bytes = sym (sets-past w o n h) }

pub puts-on : {v w o : List ℕ} {n r : ℕ} {o₁ : List ℕ} {r₁ : ℕ} {o₂ : List ℕ} → Puts o n v r o₁ → Puts o₁ r w r₁ o₂ → Puts o n (v ++ w) r₁ o₂
puts-on {v} {w} {o} {n} {r} {o₁} {r₁} {o₂} h k = record {
  end = sum n r r₁ (length v) (length w) (length (v ++ w)) h.end k.end (length-append v w);
  bytes =
      k.bytes
      ∙ ap (λ (x : List ℕ). sets x r w) h.bytes
      ∙ ap (λ (m : ℕ). sets (sets o n v) m w) h.end
      ∙ sym (sets-append v w o n);
}
  where
    sum : (n r r₁ a b c : ℕ) → r ≡ n + a → r₁ ≡ r + b → c ≡ a + b → r₁ ≡ n + c
    sum n r r₁ a b c p q s = omega arith

pub puts-as : {v w o : List ℕ} {n r : ℕ} {o₁ : List ℕ} → v ≡ w → Puts o n v r o₁ → Puts o n w r o₁
puts-as {o = o} {n} {r} {o₁} e h = subst (λ (x : List ℕ). Puts o n x r o₁) e h

-- the beginning u fits, and what follows it only if there is room behind u
pub puts-most : (u v : List ℕ) {o o' : List ℕ} {n r : ℕ} → (0 < length v → length o ≤ n + length u) → o' ≡ sets o n u → r ≡ n + (length u + length v) →
    Puts o n (u ++ v) r o'
puts-most u [] {n = n} full q e = puts-as (sym (append-nil u)) (record { end = omega arith; bytes = q })
puts-most u (b ∷ v) {o} {o'} {n} {r} full q e =
    puts-on {v = u} (record { end = refl; bytes = q })
    (puts-past (b ∷ v) (omega (arith, full (omega arith), ap length q ∙ length-sets o n u)) (omega arith))
