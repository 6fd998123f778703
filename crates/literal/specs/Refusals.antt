-- Which refusals a literal can come to [01:Numbers a caller can get], and their places. The proof is `refusals` of proofs/Refusals.antt.
--     ContentFault       of content, with places of the content
--     LiteralFault       of a literal, with places of the file
-- Assumes nothing.
use Rattle.std.specs.Prelude.{ℕ, ◌+◌, ◌≤◌, ◌<◌, ◌≡◌, Bool, List, length, get_or}
use Rattle.row.specs.declared.fault.Fault.{Fault}
use Rattle.row.specs.declared.fault.Reason.TheVariants.{UnexpectedEof, UnexpectedClosingBrace, TooDeep}
use Rattle.row.specs.Fault.{number_of, fault_at}
use Rattle.row.specs.Limits.{most_literal}
use Rattle.raw.specs.Strict.{fault_up}
use Rattle.turn.specs.Content.{refused_byte}
use Rattle.literal.specs.Literal.{refused, too_long, resolve_literal}

-- of the content s: 3 at an empty place of it; 11 at "that byte", a closing brace; 14 at "the byte of the argument's opening brace"
pub data ContentFault (s : List ℕ) : Fault → Type 0 where
  ended : (p : ℕ) → p ≤ length s → ContentFault s (fault_at UnexpectedEof p)
  closed : (p : ℕ) → p < length s → get_or s p 0 ≡ 0x7D → ContentFault s (refused_byte UnexpectedClosingBrace p)
  deep : (p : ℕ) → p < length s → get_or s p 0 ≡ 0x7B → ContentFault s (refused_byte TooDeep p)

-- of the literal s, which stands at `base` in its file: 1 over "the literal's span" where it is too long, else what its content meets
pub data LiteralFault (s : List ℕ) (base : ℕ) : Fault → Type 0 where
  long : most_literal < length s → LiteralFault s base (too_long base (base + length s))
  met : (f : Fault) → length s ≤ most_literal → ContentFault s f → LiteralFault s base (fault_up base f)

pub record Refusals : Type 0 where
  -- a literal comes to no others
  pub literal : (verb : Bool) (s : List ℕ) (base : ℕ) (f : Fault) → resolve_literal verb s base ≡ refused f → LiteralFault s base f
  -- 15 to 17 are none of its own
  pub own : (s : List ℕ) (base : ℕ) (f : Fault) → LiteralFault s base f → number_of f.reason ≤ 14
