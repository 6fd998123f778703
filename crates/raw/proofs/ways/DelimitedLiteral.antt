-- A literal between two delimiters: the ways through `string_literal` and `braced`, whose three parts put no rows.
--     opens-off, inside-off, closes                       the opening delimiter or the inside is refused; the closing one decides
--     string-first-off, string-inside-off, string-rest    the same ways through `string`, which puts no row
-- Assumes nothing.
use Rattle.std.proofs.Common.{Result, Ok, Err, ℕ, ◌≡◌, ◌∙◌, List, [], ◌∷◌}
use Rattle.row.specs.declared.form.Kind.TheVariants as kind
use Rattle.row.specs.declared.fault.Fault.{Fault}
use Rattle.row.specs.Row.{plain, row}
use Rattle.raw.specs.Reader.{again, Out, ok, bad, Reader, more, ◌then◌, over}
use Rattle.raw.specs.Grammar.{quote, quoted, string}
use Rattle.raw.specs.Says.{step_of}
use Rattle.raw.specs.Inner.{literal_of}
use Rattle.raw.proofs.grammar.Rowless.{Rowless, rowless-ok, rowless-bad, rowless-at, rowless-off, quote-rowless, quoted-rowless}
use Rattle.raw.proofs.readers.Then.{then-on, then-off}

-- f opens, g reads the inside, h closes
module _ (f g h : Reader) (s : List ℕ) (i : ℕ) (F : Rowless (f s i)) (G : (p : ℕ) → Rowless (g s p)) (H : (p : ℕ) → Rowless (h s p)) where
  abbrev enclosed : Out
  enclosed = (f then over (plain kind.Literal) g then h) s i

  pub opens-off : {x : Fault} → Err x ≡ step_of (f s i) → enclosed ≡ bad x
  opens-off e = then-off _ (rowless-off (f s i) e)

  module _ {p₁ : ℕ} (e₁ : Ok p₁ ≡ step_of (f s i)) where
    first : f s i ≡ ok p₁ []
    first = rowless-at F e₁

    pub inside-off : {x : Fault} → Err x ≡ step_of (g s p₁) → enclosed ≡ bad x
    inside-off e = then-on _ first ∙ rw (rowless-off (g s p₁) e)

    pub closes : {p₂ : ℕ} → Ok p₂ ≡ step_of (g s p₁) → {r : Result ℕ Fault} → r ≡ step_of (h s p₂) → enclosed ≡ literal_of p₁ p₂ r
    closes {p₂} e₂ {r} e = then-on _ first ∙ rw (rowless-at (G p₁) e₂) (by (h s p₂) (H p₂) r e)
      where
        by : (o : Out) → Rowless o → (r : Result ℕ Fault) → r ≡ step_of o → more (row kind.Literal p₁ p₂ ∷ []) o ≡ literal_of p₁ p₂ r
        by (ok q rs) rowless-ok r k = rw k
        by (bad f) rowless-bad r k = rw k
        by (again _ _ _) x5 r k = elim x5 [ ]

-- `string`, which puts no row
module _ (s : List ℕ) (i : ℕ) where
  pub string-first-off : {x : Fault} → Err x ≡ step_of (quote s i) → string s i ≡ bad x
  unfolding string
  string-first-off e = then-off _ (rowless-off (quote s i) e)

  module _ {p₁ : ℕ} (e₁ : Ok p₁ ≡ step_of (quote s i)) where
    pub string-inside-off : {x : Fault} → Err x ≡ step_of (quoted s p₁) → string s i ≡ bad x
    unfolding string
    string-inside-off e = then-on _ (rowless-at (quote-rowless s i) e₁) ∙ then-off _ (rowless-off (quoted s p₁) e)

    pub string-rest : {p₂ : ℕ} → Ok p₂ ≡ step_of (quoted s p₁) → string s i ≡ quote s p₂
    unfolding string
    string-rest e = then-on _ (rowless-at (quote-rowless s i) e₁) ∙ then-on _ (rowless-at (quoted-rowless s p₁) e)
