-- Comments, in 01's own words [01:Strict reading]. The proof is `comments` of proofs/Comments.antt. Assumes nothing.
use Rattle.std.specs.Prelude.{ℕ, ◌≡◌, ◌↔◌, List, [], Some, None}
use Rattle.text.specs.Scan.{see}
use Rattle.row.specs.declared.form.Kind.{Kind}
use Rattle.row.specs.declared.fault.Reason.TheVariants.{ExpectedComma, ExpectedIdentifier}
use Rattle.row.specs.Fault.{fault_at}
use Rattle.raw.specs.Reader.{ok, bad}
use Rattle.raw.specs.Grammar.{white, field_end, fields, commented}

-- from p up to q stands no closing brace
pub data Unclosed (s : List ℕ) : ℕ → ℕ → Type 0 where
  none : {p : ℕ} → Unclosed s p p
  other : {p n q x : ℕ} → see s p ≡ Some (x, n) → (x ≡ 0x7D → ⊥) → Unclosed s n q → Unclosed s p q

-- what ends an `@comment`: a closing brace, or the end of the text
pub data Closed (s : List ℕ) (q : ℕ) : Type 0 where
  brace : {n : ℕ} → see s q ≡ Some (0x7D, n) → Closed s q
  end : see s q ≡ None → Closed s q

-- at q, after white space from p on, a comment begins
pub record Begins (s : List ℕ) (p q : ℕ) : Type 0 where
  pub next : ℕ
  pub blank : white s p ≡ ok q []
  pub percent : see s q ≡ Some (0x25, next)

pub record Comments : Type 0 where
  -- "`@comment` ends at its first "}", uncounted"
  pub entry : (s : List ℕ) (p q : ℕ) → (commented s p ≡ ok q []) ↔ (Unclosed s p q × Closed s q)
  -- "One comment may follow an entry key's comma, a value, or a field's comma. A second in a row is refused": where a first comment
  -- ended at p. After a value a comma is awaited, and after a comma a field.
  pub value : (s : List ℕ) (p q : ℕ) → Begins s p q → field_end s p ≡ bad (fault_at ExpectedComma q)
  pub comma : (k : Kind) (s : List ℕ) (p q : ℕ) → Begins s p q → fields k s p ≡ bad (fault_at ExpectedIdentifier q)
