-- A literal resolved [01:Resolving and writing]: its chunks, or a refusal. Nothing is said of buffers.
--     resolve_literal       what the literal s resolves to, which stands at `base` in its file
-- Assumes nothing.
use Rattle.std.specs.Prelude.{ℕ, ◌+◌, Bool, cond, List, map, length, leb}
use Rattle.row.specs.declared.fault.Fault.{Fault}
use Rattle.row.specs.declared.fault.Reason.TheVariants.{TooLong}
use Rattle.row.specs.Limits.{most_literal, most_arguments}
use Rattle.raw.specs.Reader.{OutOf, ok, again, bad}
use Rattle.raw.specs.Strict.{fault_up}
use Rattle.chunk.specs.Chunk.{Chunk, chunk}
use Rattle.turn.specs.Content.{Part, chunks_of, content}

-- the chunks of a literal, or its refusal
pub data Resolved : Type 0 where
  chunks : List Chunk → Resolved
  refused : Fault → Resolved

-- a chunk whose places in the literal become places in the file
abbrev pub chunk_up : ℕ → Chunk → Chunk
chunk_up base c = chunk c.kind c.text (c.start + base) (c.end + base)

-- [resolve.rs:parse] the chunks of a literal, or its refusal, with places in the file
abbrev pub resolved_of : ℕ → OutOf Part → Resolved
resolved_of base (ok q xs) = chunks (map (chunk_up base) (chunks_of 0 q xs))
resolved_of base (again q xs a) = chunks (map (chunk_up base) (chunks_of 0 q xs))
resolved_of base (bad f) = refused (fault_up base f)

-- [01:Numbers a caller can get] 1 has "the literal's span"
abbrev pub too_long : ℕ → ℕ → Fault
too_long a e = record { reason = TooLong; start = a; end = e }

unfoldable pub resolve_literal : Bool → List ℕ → ℕ → Resolved
resolve_literal verb s base =
    cond (leb (length s) most_literal) (resolved_of base (content most_arguments verb s 0)) (refused (too_long base (base + length s)))
