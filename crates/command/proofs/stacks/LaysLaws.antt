-- Laws of `Lays`, and of the functions of src/stack.rt.
--     lays-none, lays-on, lays-as, lays-still       laying nothing; one text after another; an equal text; a text that stands there already
--     lays-sets                                     a text that is stored
--     copied, pushed, coded                         for `copy`, `push`, `put_code`
--     octets-few, octets-one, ..                    how many octets a character has
-- Assumes nothing.
use Rattle.std.proofs.Common.{ℕ, ◌+◌, ◌-◌, ◌/◌, ◌≤◌, ◌<◌, min, arith, ◌≡◌, refl, sym, ap, subst, ◌∙◌, Bool, true, false, cond}
use Rattle.std.proofs.Common.{List, [], ◌∷◌, ◌++◌, append_assoc, append-nil, length, take, drop}
use Rattle.std.proofs.Common.{set, length-append, length-drop, length-take, take_all, take-take, length-take-le, take_at, leb, le-leb}
use Rattle.std.specs.Prelude.{Result, Ok, Err}
use Rattle.text.specs.declared.utf8.EncodeError.{EncodeError}
use lib.Seq.{sets, sets-eq, take-append-add, drop-append_seam}
use Rattle.text.specs.Utf8.{is_scalar, octets, further, fits, Encode}
use Rattle.text.specs.Scan.{part}
use Rattle.text.proofs.general.Parts.{length_part, part-drop}
use Rattle.command.specs.Stack.{Lays}
use Rattle.command.proofs.stacks.MoreParts.{take_part}

-- ---- laying texts

pub lays-none : (n : ℕ) (o : List ℕ) → Lays n [] o n o
lays-none n o = record { end = omega arith; text = sym (append-nil (take n o)) }

pub lays-as : (n : ℕ) (w v o : List ℕ) (r : ℕ) (o' : List ℕ) → w ≡ v → Lays n w o r o' → Lays n v o r o'
lays-as n w v o r o' e h = subst (λ (t : List ℕ). Lays n t o r o') e h

pub lays-on : (n : ℕ) (w v o : List ℕ) (r : ℕ) (o₁ : List ℕ) (r₁ : ℕ) (o₂ : List ℕ)
    → Lays n w o r o₁ → Lays r v o₁ r₁ o₂ → Lays n (w ++ v) o r₁ o₂
lays-on n w v o r o₁ r₁ o₂ h k = record {
  end = sum n r r₁ (length w) (length v) (length (w ++ v)) h.end k.end (length-append w v);
  text = k.text ∙ ap (λ (t : List ℕ). t ++ v) h.text ∙ append_assoc (take n o) w v;
}
  where
    sum : (n r r₁ a b c : ℕ) → r ≡ n + a → r₁ ≡ r + b → c ≡ a + b → r₁ ≡ n + c
    sum n r r₁ a b c p q s = omega arith

-- what stands from a to e already counts as laid behind what stands below a
pub lays-still : (o : List ℕ) (a e : ℕ) → a ≤ e → e ≤ length o → Lays a (part o a e) o e o
lays-still o a e h l = record {
  end = back a e (length (part o a e)) h (length_part o a e h l);
  text = ap (λ (n : ℕ). take n o) (sym (again a e h)) ∙ take_part o a e (e - a) (omega arith) h l
      ∙ ap (λ (t : List ℕ). take a o ++ t) (take_all (e - a) (part o a e) (omega (arith, length_part o a e h l)));
}
  where
    back : (a e n : ℕ) → a ≤ e → n ≡ e - a → e ≡ a + n
    back a e n h q = omega arith

    again : (a e : ℕ) → a ≤ e → a + (e - a) ≡ e
    again a e h = omega arith

-- ---- `copy` and `push`

pub lays-sets : (o w : List ℕ) (n : ℕ) → n + length w ≤ length o → Lays n w o (n + length w) (sets o n w)
lays-sets o w n h = record {
  end = refl;
  text = ap (take (n + length w)) (sets-eq w o n h)
      ∙ take_at (take n o ++ w) (drop (n + length w) o) (n + length w) (size (length-append (take n o) w) (length-take-le n o (omega arith)));
}
  where
    size : {k m : ℕ} → k ≡ m + length w → m ≡ n → k ≡ n + length w
    size p q = omega arith

pub copied : (s o : List ℕ) (a e n : ℕ) {o' : List ℕ} → a ≤ e → e ≤ length s → n + (e - a) ≤ length o → o' ≡ sets o n (part s a (a + (e - a))) →
    Lays n (part s a e) o (n + (e - a)) o'
copied s o a e n h l k q =
    let size = length_part s a e h l in
    let laid = lays-sets o (part s a e) n (subst (λ (m : ℕ). n + m ≤ length o) (sym size) k) in
    subst (λ (x : List ℕ). Lays n (part s a e) o (n + (e - a)) x) (sym (q ∙ ap (λ (m : ℕ). sets o n (part s a m)) (back h)))
    (subst (λ (m : ℕ). Lays n (part s a e) o (n + m) (sets o n (part s a e))) size laid)
  where
    back : a ≤ e → a + (e - a) ≡ e
    back h = omega arith

pub pushed : (o : List ℕ) (at b : ℕ) → at < length o → Lays at (b ∷ []) o (at + 1) (set o at b)
pushed o at b h = lays-sets o (b ∷ []) at (omega arith)

-- ---- `put_code`

module _ (c : ℕ) (b : List ℕ) (r : Result ℕ EncodeError) (b' : List ℕ) (h : Encode c b r b') (s : is_scalar c ≡ true) (l : length (octets c) ≤ length b) where
  fitting : fits c b ≡ true
  fitting = le-leb _ _ l

  wrote : r ≡ Ok (length (octets c))
  wrote = h.answer ∙ rw (s, fitting) refl

  bytes : b' ≡ octets c ++ drop (length (octets c)) b
  bytes = h.bytes ∙ rw (s, fitting) refl

  pub wrote_so : (n : ℕ) → r ≡ Ok n → n ≡ length (octets c)
  wrote_so n e = let p = sym e ∙ wrote in cc

  pub wrote-some : {f : EncodeError} → r ≡ Err f → ⊥
  wrote-some e = let p = sym e ∙ wrote in let z : ◌≡◌ {A = ℕ} 0 1 = cc in absurd (omega arith)

  pub coded : (o post : List ℕ) (at n : ℕ) → at ≤ length o → r ≡ Ok n → Lays at (octets c) o (at + n) (take at o ++ (b' ++ post))
  coded o post at n k e = record {
    end = ap (λ (m : ℕ). at + m) (wrote_so n e);
    text = ap (λ (m : ℕ). take (m + n) (take at o ++ (b' ++ post))) (sym (length-take-le at o k)) ∙ take-append-add (take at o) (b' ++ post) n
        ∙ ap (λ (t : List ℕ). take at o ++ take n (t ++ post)) bytes
        ∙ ap (λ (t : List ℕ). take at o ++ take n t) (append_assoc (octets c) (drop (length (octets c)) b) post)
        ∙ ap (λ (t : List ℕ). take at o ++ t) (take_at (octets c) (drop (length (octets c)) b ++ post) n (sym (wrote_so n e)));
  }

-- what is lent to `encode` has room for the character
pub room : (c : ℕ) (o : List ℕ) (at : ℕ) → at + length (octets c) ≤ length o → length (octets c) ≤ length (take (length o - at) (drop at o))
room c o at h =
    enough at (length (octets c)) (length o) (length (drop at o)) (length (take (length o - at) (drop at o))) h
    (length-drop at o) (length-take (length o - at) (drop at o))
  where
    enough : (a c n k m : ℕ) → a + c ≤ n → k ≡ n - a → m ≡ min (n - a) k → c ≤ m
    enough a c n k m p q r = omega arith

-- ---- how many octets a character has

pub octets-few : (c : ℕ) → length (octets c) ≤ 4
unfolding octets
octets-few c = by (leb c 0x7F) (leb c 0x7FF) (leb c 0xFFFF)
  where
    by : (p q r : Bool) → length (cond p (c ∷ []) (cond q ((0xC0 + c / 64) ∷ further c ∷ [])
        (cond r ((0xE0 + c / 64 / 64) ∷ further (c / 64) ∷ further c ∷ [])
        ((0xF0 + c / 64 / 64 / 64) ∷ further (c / 64 / 64) ∷ further (c / 64) ∷ further c ∷ [])))) ≤ 4
    by true q r = omega arith
    by false true r = omega arith
    by false false true = omega arith
    by false false false = omega arith

pub octets-one : (c : ℕ) → c ≤ 0x7F → length (octets c) ≡ 1
unfolding octets
octets-one c h = rw (le-leb c 0x7F h)

pub octets-two : (c : ℕ) → c ≤ 0x7FF → length (octets c) ≤ 2
unfolding octets
octets-two c h = rw (le-leb c 0x7FF h) (by (leb c 0x7F))
  where
    by : (p : Bool) → length (cond p (c ∷ []) ((0xC0 + c / 64) ∷ further c ∷ [])) ≤ 2
    by true = omega arith
    by false = omega arith

pub octets-three : (c : ℕ) → c ≤ 0xFFFF → length (octets c) ≤ 3
unfolding octets
octets-three c h = rw (le-leb c 0xFFFF h) (by (leb c 0x7F) (leb c 0x7FF))
  where
    by : (p q : Bool) → length (cond p (c ∷ []) (cond q ((0xC0 + c / 64) ∷ further c ∷ [])
        ((0xE0 + c / 64 / 64) ∷ further (c / 64) ∷ further c ∷ []))) ≤ 3
    by true q = omega arith
    by false true = omega arith
    by false false = omega arith

-- ---- two texts, one behind the other

-- what stands below the text that was laid is as it was
pub lays-below : (n : ℕ) (w o : List ℕ) (r : ℕ) (o' : List ℕ) → Lays n w o r o' → n ≤ length o → take n o' ≡ take n o
lays-below n w o r o' h l =
    sym (take-take n r o' (omega (arith, h.end))) ∙ ap (take n) h.text
    ∙ take_at (take n o) w n (length-take-le n o l)

-- the text that was laid stands from n to r
pub lays-part : (n : ℕ) (w o : List ℕ) (r : ℕ) (o' : List ℕ) → Lays n w o r o' → n ≤ length o → r ≤ length o' → part o' n r ≡ w
lays-part n w o r o' h l k =
    part-drop o' n r k ∙ ap (drop n) h.text
    ∙ ap (λ (m : ℕ). drop m (take n o ++ w)) (sym (length-take-le n o l)) ∙ drop-append_seam (take n o) w

pub lays-over : (n : ℕ) (w o o₁ : List ℕ) (r : ℕ) (o' : List ℕ) → take n o₁ ≡ take n o → Lays n w o₁ r o' → Lays n w o r o'
lays-over n w o o₁ r o' e h = record { end = h.end; text = h.text ∙ ap (λ (t : List ℕ). t ++ w) e }

-- where w was laid and then v, each stands in its part, and what is below them is as it was
module _ (n : ℕ) (w o : List ℕ) (f : ℕ) (o₁ v : List ℕ) (e : ℕ) (o₂ : List ℕ) (x : Lays n w o f o₁) (y : Lays f v o₁ e o₂)
    (l : n ≤ length o) (k : f ≤ length o₁) (m : e ≤ length o₂) where
  pub both_first : part o₂ n f ≡ w
  both_first =
      part-drop o₂ n f (omega (arith, y.end, m)) ∙ ap (drop n) (lays-below f v o₁ e o₂ y k) ∙ sym (part-drop o₁ n f k)
      ∙ lays-part n w o f o₁ x l k

  pub both-second : part o₂ f e ≡ v
  both-second = lays-part f v o₁ e o₂ y k m

  pub both_below : take n o₂ ≡ take n o
  both_below =
      sym (take-take n f o₂ (omega (arith, x.end))) ∙ ap (take n) (lays-below f v o₁ e o₂ y k) ∙ take-take n f o₁ (omega (arith, x.end))
      ∙ lays-below n w o f o₁ x l
