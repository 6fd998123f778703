-- The word that an entry's type spells. Only what the text shows there decides it, and it moves with the text.
--     form-same     two texts that show the same from a to e have the same form there
--     form-up       behind another text the form is the same, at places moved
-- Assumes nothing.
use Rattle.std.proofs.Common.{Option, Some, None, ℕ, ◌+◌, arith, ◌≡◌, refl, sym, ap, ◌∙◌, Bool, true, false, cond, ◌&&◌, List, [], ◌∷◌, ◌++◌, length, eqb, ltb, ltb-true}
use Rattle.std.proofs.Common.{ltb-false, eqb-true, lt-ltb, le-ltb, eq-eqb, ne_eqb}
use borrow.Author.Tests.{eqb-false}
use Rattle.text.specs.Scan.{see}
use Rattle.text.proofs.Seeing.{seeing}
use Rattle.text.specs.Seeing.{seen_up}
use Rattle.raw.specs.Grammar.{lower, spells, form_of}
use Rattle.raw.specs.Strict.{ShowsSame}

-- the character seen is w, and f passes at the place behind it
abbrev led : ℕ → (ℕ → Bool) → Option (ℕ × ℕ) → Bool
led w f None = false
led w f (Some (c, n)) = eqb (lower c) w && f n

spells-by : (w : ℕ) (word s : List ℕ) (a e : ℕ) → spells (w ∷ word) s a e ≡ cond (ltb a e) (led w (λ n. spells word s n e) (see s a)) false
unfolding spells
spells-by w word s a e = by (see s a)
  where
    by : (x : Option (ℕ × ℕ))
        → cond (ltb a e) (elim x [ None ↦ false | Some (c, n) ↦ eqb (lower c) w && spells word s n e ]) false
        ≡ cond (ltb a e) (led w (λ n. spells word s n e) x) false
    by None = refl
    by (Some (c, n)) = refl

led-same : (w : ℕ) (f g : ℕ → Bool) (x : Option (ℕ × ℕ)) → ((c n : ℕ) → x ≡ Some (c, n) → f n ≡ g n) → led w f x ≡ led w g x
led-same w f g None h = refl
led-same w f g (Some (c, n)) h = ap (λ (b : Bool). eqb (lower c) w && b) (h c n refl)

led-up : (w d : ℕ) (f g : ℕ → Bool) (x : Option (ℕ × ℕ)) → ((n : ℕ) → g (n + d) ≡ f n) → led w g (seen_up d x) ≡ led w f x
led-up w d f g None h = refl
led-up w d f g (Some (c, n)) h = ap (λ (b : Bool). eqb (lower c) w && b) (h n)

spells-same : (word s t : List ℕ) (a e : ℕ) → ShowsSame s t a e → spells word t a e ≡ spells word s a e
unfolding spells
spells-same [] s t a e h = refl
spells-same (w ∷ word) s t a e h = spells-by w word t a e ∙ by (ltb a e) refl (λ n. spells-same word s t n e) ∙ sym (spells-by w word s a e)
  where
    by : (b : Bool) → ltb a e ≡ b → ((n : ℕ) → ShowsSame s t n e → spells word t n e ≡ spells word s n e)
        → cond b (led w (λ n. spells word t n e) (see t a)) false ≡ cond b (led w (λ n. spells word s n e) (see s a)) false
    by false q ih = refl
    by true q ih =
        let l = ltb-true a e q in
        ap (led w (λ n. spells word t n e)) (sym (h a (omega arith) l))
        ∙ led-same w (λ n. spells word t n e) (λ n. spells word s n e) (see s a)
        (λ c n x. let y = seeing.see-ahead s a c n x in ih n (λ i j k. h i (omega arith) k))

ltb-up : (a e d : ℕ) → ltb (a + d) (e + d) ≡ ltb a e
ltb-up a e d = by (ltb a e) refl
  where
    by : (b : Bool) → ltb a e ≡ b → ltb (a + d) (e + d) ≡ b
    by true q = let l = ltb-true a e q in lt-ltb (a + d) (e + d) (omega arith)
    by false q = let l = ltb-false a e q in le-ltb (a + d) (e + d) (omega arith)

eqb-up : (a e d : ℕ) → eqb (a + d) (e + d) ≡ eqb a e
eqb-up a e d = by (eqb a e) refl
  where
    by : (b : Bool) → eqb a e ≡ b → eqb (a + d) (e + d) ≡ b
    by true q = let l = eqb-true a e q in eq-eqb (a + d) (e + d) (omega arith)
    by false q = ne_eqb (a + d) (e + d) (λ z. eqb-false a e q (omega arith))

spells-up : (word x s : List ℕ) (a e : ℕ) → spells word (x ++ s) (a + length x) (e + length x) ≡ spells word s a e
unfolding spells
spells-up [] x s a e = eqb-up a e (length x)
spells-up (w ∷ word) x s a e =
    spells-by w word (x ++ s) (a + length x) (e + length x)
    ∙ rw (ltb-up a e (length x), seeing.see-up x s a)
    (ap (λ (b : Bool). cond (ltb a e) b false)
    (led-up w (length x) (λ n. spells word s n e) (λ n. spells word (x ++ s) n (e + length x)) (see s a) (λ n. spells-up word x s n e)))
    ∙ sym (spells-by w word s a e)

pub form-same : (s t : List ℕ) (a e : ℕ) → ShowsSame s t a e → form_of t a e ≡ form_of s a e
unfolding form_of
form-same s t a e h = rw (spells-same _ s t a e h, spells-same _ s t a e h, spells-same _ s t a e h)

pub form-up : (x s : List ℕ) (a e : ℕ) → form_of (x ++ s) (a + length x) (e + length x) ≡ form_of s a e
unfolding form_of
form-up x s a e = simp spells-up
