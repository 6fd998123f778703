-- What a part of a value comes to while its elements are resolved one after the other. Nothing is said of buffers.
--     Run, of_literal       a run, and the run of a literal
-- Assumes nothing.
use Rattle.std.specs.Prelude.{ℕ, List}
use Rattle.row.specs.declared.fault.Fault.{Fault}
use Rattle.chunk.specs.Chunk.{Chunk}
use Rattle.literal.specs.Literal.{Resolved, chunks}
use Rattle.literal.specs.Literal as literal

-- chunks and the number of names resolved so far, or a refusal
pub data Run : Type 0 where
  done : List Chunk → ℕ → Run
  stop : Fault → Run

abbrev pub of_literal : Resolved → ℕ → Run
of_literal (chunks cs) n = done cs n
of_literal (literal.refused f) n = stop f
