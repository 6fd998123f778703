-- Where a braced value ends, in 01's own words: "After its opening brace, a braced value ends before the first closing brace, skipping backslash
-- pairs, that outnumbers the opening ones. It is refused with 3 exactly if there is none" [01:Strict reading].
-- The proof is `braced-value` of proofs/Braces.antt. Assumes nothing.
use Rattle.std.specs.Prelude.{ℕ, suc, ◌≤◌, ◌≡◌, ◌↔◌, List, [], Some}
use Rattle.text.specs.Scan.{see}
use Rattle.row.specs.declared.fault.Fault.{Fault}
use Rattle.row.specs.declared.fault.Reason.TheVariants.{UnexpectedEof}
use Rattle.raw.specs.Reader.{ok, bad}
use Rattle.raw.specs.Grammar.{in_braces}

-- The braces from p up to q, "skipping backslash pairs": o of them open, and c of them close.
pub data Braces (s : List ℕ) : ℕ → ℕ → ℕ → ℕ → Type 0 where
  none : {p : ℕ} → Braces s p p 0 0
  pair : {p b n q x o c : ℕ} → see s p ≡ Some (0x5C, b) → see s b ≡ Some (x, n) → Braces s n q o c → Braces s p q o c
  opens : {p n q o c : ℕ} → see s p ≡ Some (0x7B, n) → Braces s n q o c → Braces s p q (suc o) c
  closes : {p n q o c : ℕ} → see s p ≡ Some (0x7D, n) → Braces s n q o c → Braces s p q o (suc c)
  other : {p n q x o c : ℕ} → see s p ≡ Some (x, n) → (x ≡ 0x5C → ⊥) → (x ≡ 0x7B → ⊥) → (x ≡ 0x7D → ⊥) → Braces s n q o c → Braces s p q o c

-- at q stands a closing brace that "outnumbers the opening ones" since p: with it, more close than open
pub record Outnumbers (s : List ℕ) (p q : ℕ) : Type 0 where
  pub opened : ℕ
  pub closed : ℕ
  pub next : ℕ
  pub counted : Braces s p q opened closed
  pub brace : see s q ≡ Some (0x7D, next)
  pub outnumbers : opened ≤ closed

-- "the first"
pub record First (s : List ℕ) (p q : ℕ) : Type 0 where
  pub here : Outnumbers s p q
  pub first : (r : ℕ) → Outnumbers s p r → q ≤ r

-- of the inside of a braced value, which begins at p
pub record BracedValue : Type 0 where
  pub ends : (s : List ℕ) (p q : ℕ) → (in_braces s p ≡ ok q []) ↔ First s p q
  pub refused : (s : List ℕ) (p : ℕ) →
      ((f : Fault) × (in_braces s p ≡ bad f) × (f.reason ≡ UnexpectedEof)) ↔ ((q : ℕ) → Outnumbers s p q → ⊥)
