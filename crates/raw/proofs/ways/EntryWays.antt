-- The ways through the functions of src/entry.rt, over what their calls answered.
--     lead-off, lead-on                the opening delimiter with white space around it
--     preamble-off, preamble-on        a preamble's string
--     body-off, body-on                an entry's key, to its fields
--     rest-off, rest-strings, rest-preamble, rest-comment, rest-other-off, rest-other     an entry after its type, by its form
--     entry-at-off, entry-type-off, entry-rest-off, entry-end-off, entry-on       an entry
-- Assumes nothing.
use Rattle.std.proofs.Common.{Result, Ok, Err, ℕ, ◌+◌, arith, ◌≡◌, sym, ap, ◌∙◌, List, []}
use Rattle.text.specs.Class.{is_whitespace}
use Rattle.text.specs.Scan.{skip, fails}
use Rattle.text.specs.declared.class.Test.TheVariants as test
use Rattle.row.specs.declared.form.Kind.TheVariants as kind
use Rattle.raw.specs.declared.entry.Form.{Form}
use Rattle.raw.specs.declared.entry.Form.TheVariants.{Strings, Preambles, Comments, Other}
use Rattle.row.specs.declared.fault.Fault.{Fault}
use Rattle.row.specs.Row.{row, put_row}
use Rattle.raw.specs.Reader.{ok, bad, and_then, under}
use Rattle.raw.specs.Grammar.{white, comma, at_sign, opening, closing, comment, key, ident, string, fields, strings, preamble, commented, body, lead, form_of, rest, entry}
use Rattle.raw.specs.Says.{step_of, Says}
use Rattle.raw.proofs.grammar.Rowless.{rowless-at, rowless-off}
use Rattle.raw.proofs.readers.Then.{then-on, then-off}
use Rattle.raw.proofs.contracts.SaysLaws.{says_of, says_on, says-off, said-off, says_row, says-mark, says_then, says-under}
use Rattle.raw.proofs.ways.TokenWays.{white-on, scan-on, comment-on, key-on}
use Rattle.raw.proofs.grammar.Rowless.{opening-rowless, string-rowless, comma-rowless, at-sign-rowless, ident-rowless, closing-rowless, lead-rowless}

-- ---- the opening delimiter

module _ (s : List ℕ) (at : ℕ) {p₁ : ℕ} (e₁ : p₁ ≡ skip is_whitespace s at) where
  pub lead-off : {f : Fault} → Err f ≡ step_of (opening s p₁) → lead s at ≡ bad f
  unfolding lead
  lead-off e = then-on _ (white-on s at e₁) ∙ then-off _ (rowless-off (opening s p₁) e)

  pub lead-on : {p₂ p₃ : ℕ} → Ok p₂ ≡ step_of (opening s p₁) → p₃ ≡ skip is_whitespace s p₂ → Ok p₃ ≡ step_of (lead s at)
  unfolding lead
  lead-on {p₂} e e₃ = ap step_of (sym (then-on _ (white-on s at e₁) ∙ then-on _ (rowless-at (opening-rowless s p₁) e) ∙ white-on s p₂ e₃))

-- ---- a preamble's string

module _ (s : List ℕ) (at : ℕ) where
  pub preamble-off : {f : Fault} → Err f ≡ step_of (string s at) → preamble s at ≡ bad f
  unfolding preamble
  preamble-off e = ap (under (row kind.Preamble at)) (rowless-off (string s at) e)

  pub preamble-on : {p₁ : ℕ} → Ok p₁ ≡ step_of (string s at) → {base n : ℕ} {b b' : List ℕ} →
      b' ≡ put_row b n (row kind.Preamble (base + at) (base + p₁)) → Says base (preamble s at) n b (Ok (p₁, n + 1)) b'
  unfolding preamble
  preamble-on e h = rw h (says-under kind.Preamble at (says_on (rowless-at (string-rowless s at) e)))

-- ---- an entry's key, to its fields

module _ (s : List ℕ) (at : ℕ) {p₁ p₂ : ℕ} (e₁ : Ok p₁ ≡ step_of (key s at)) (e₂ : p₂ ≡ skip is_whitespace s p₁) where
  pub body-off : {f : Fault} → Err f ≡ step_of (comma s p₂) → body s at ≡ bad f
  unfolding body
  body-off e = rw (key-on s at e₁, white-on s p₁ e₂, rowless-off (comma s p₂) e)

  module _ {p₃ p₄ p₅ p₆ : ℕ} (e₃ : Ok p₃ ≡ step_of (comma s p₂)) (e₄ : p₄ ≡ skip is_whitespace s p₃) (e₅ : Ok p₅ ≡ step_of (comment s p₄))
      (e₆ : p₆ ≡ skip is_whitespace s p₅) where
    pub body-on : {base n : ℕ} {r : Result (ℕ × ℕ) Fault} {b b₁ b' : List ℕ} → b₁ ≡ put_row b n (row kind.Key (base + at) (base + p₁)) →
        Says base (fields kind.FieldName s p₆) (n + 1) b₁ r b' → Says base (body s at) n b r b'
    unfolding body
    body-on h k =
        says-mark kind.Key at _ (key-on s at e₁)
        (says_of (then-on _ (white-on s p₁ e₂) ∙ then-on _ (rowless-at (comma-rowless s p₂) e₃) ∙ then-on _ (white-on s p₃ e₄) ∙ then-on _
        (comment-on s p₄ e₅) ∙ then-on _ (white-on s p₅ e₆))
        (rw h at k))

-- ---- an entry after its type

module _ (s : List ℕ) (p a e : ℕ) where
  rest-bad : (form : Form) {f : Fault} → lead s e ≡ bad f → rest form p a e s e ≡ bad f
  unfolding rest
  rest-bad Strings q = then-off _ q
  rest-bad Preambles q = then-off _ q
  rest-bad Comments q = then-off _ q
  rest-bad Other q = rw q

  pub rest-off : (form : Form) {f : Fault} → Err f ≡ step_of (lead s e) → rest form p a e s e ≡ bad f
  rest-off form d = rest-bad form (rowless-off (lead s e) d)

  module _ (form : Form) {p₁ : ℕ} (e₁ : Ok p₁ ≡ step_of (lead s e)) where
    led : lead s e ≡ ok p₁ []
    led = rowless-at (lead-rowless s e) e₁

    pub rest-other-off : {x : Fault} {base m : ℕ} {b b' : List ℕ} → form ≡ Other → Says base (body s p₁) m b (Err x) b' → rest form p a e s e ≡ bad x
    unfolding rest
    rest-other-off f h = rw f (rw (led, said-off h))

    module _ {base n : ℕ} {b b' : List ℕ} where
      formed : {x : Form} {r : Result (ℕ × ℕ) Fault} → form ≡ x → Says base (rest x p a e s e) n b r b' → Says base (rest form p a e s e) n b r b'
      formed q h = says_of (ap (λ (x : Form). rest x p a e s e) q) h

      pub rest-strings : {r : Result (ℕ × ℕ) Fault} → form ≡ Strings → Says base (fields kind.DefinitionName s p₁) n b r b' →
          Says base (rest form p a e s e) n b r b'
      unfolding rest strings
      rest-strings f h = formed f (says_of (then-on _ led) h)

      pub rest-preamble : {r : Result (ℕ × ℕ) Fault} → form ≡ Preambles → Says base (preamble s p₁) n b r b' → Says base (rest form p a e s e) n b r b'
      unfolding rest
      rest-preamble f h = formed f (says_of (then-on _ led) h)

      pub rest-other : {q m : ℕ} {b₁ b₂ : List ℕ} → form ≡ Other → b₁ ≡ put_row b (n + 1) (row kind.EntryType (base + a) (base + e)) →
          Says base (body s p₁) (n + 2) b₁ (Ok (q, m)) b₂ → b' ≡ put_row b₂ n (row kind.Entry (base + p) (base + q)) →
          Says base (rest form p a e s e) n b (Ok (q, m)) b'
      unfolding rest
      rest-other f h k i =
          let two : n + 2 ≡ n + 1 + 1 = omega arith in
          formed f (rw i (says-under kind.Entry p (says_row kind.EntryType a e (says_of (then-on _ led) (rw (two, h) at k)))))

    pub rest-comment : {q base n : ℕ} {b : List ℕ} → form ≡ Comments → q ≡ skip (fails test.ClosingBrace) s p₁ →
        Says base (rest form p a e s e) n b (Ok (q, n)) b
    unfolding rest commented
    rest-comment f h = formed f (says_on (then-on _ led ∙ scan-on (fails test.ClosingBrace) s p₁ h))

-- ---- an entry

module _ (s : List ℕ) (at : ℕ) where
  pub entry-at-off : {f : Fault} → Err f ≡ step_of (at_sign s at) → entry s at ≡ bad f
  unfolding entry
  entry-at-off e = then-off _ (rowless-off (at_sign s at) e)

  module _ {p₁ : ℕ} (e₁ : Ok p₁ ≡ step_of (at_sign s at)) where
    sign : at_sign s at ≡ ok p₁ []
    sign = rowless-at (at-sign-rowless s at) e₁

    pub entry-type-off : {f : Fault} → Err f ≡ step_of (ident s p₁) → entry s at ≡ bad f
    unfolding entry
    entry-type-off e = then-on _ sign ∙ then-off _ (rowless-off (ident s p₁) e)

    module _ {p₂ : ℕ} (e₂ : Ok p₂ ≡ step_of (ident s p₁)) {form : Form} (f : form ≡ form_of s p₁ p₂) where
      typed : entry s at ≡ and_then (rest form at p₁ p₂ s p₂) (λ q. and_then (white s q) (closing s))
      unfolding entry
      typed = then-on _ sign ∙ then-on _ (rowless-at (ident-rowless s p₁) e₂) ∙ rw f

      module _ {base n : ℕ} {b b₁ : List ℕ} where
        pub entry-rest-off : {x : Fault} → Says base (rest form at p₁ p₂ s p₂) n b (Err x) b₁ → entry s at ≡ bad x
        entry-rest-off h = typed ∙ then-off _ (said-off h)

        module _ {p₃ m p₄ : ℕ} (h : Says base (rest form at p₁ p₂ s p₂) n b (Ok (p₃, m)) b₁) (e₄ : p₄ ≡ skip is_whitespace s p₃) where
          pub entry-end-off : {x : Fault} → Err x ≡ step_of (closing s p₄) → entry s at ≡ bad x
          entry-end-off e =
              let c = then-on _ (white-on s p₃ e₄) ∙ rowless-off (closing s p₄) e in
              said-off (says_of {b' = b₁} typed (says_then _ h (says-off c)))

          pub entry-on : {p₅ : ℕ} → Ok p₅ ≡ step_of (closing s p₄) → Says base (entry s at) n b (Ok (p₅, m)) b₁
          entry-on e = says_of typed (says_then _ h (says_on (then-on _ (white-on s p₃ e₄) ∙ rowless-at (closing-rowless s p₄) e)))
