-- Text under construction in lent bytes.
--     Lays                what a function adds to such a text. For all of src/.
--     default_chunk       the kind of chunk that the text is for. For src/settle.rt.
-- Assumes nothing.
use Rattle.std.specs.Prelude.{ℕ, zero, suc, ◌+◌, ◌≡◌, List, ◌++◌, length, take}
use Rattle.chunk.specs.declared.form.Kind.{Kind}
use Rattle.chunk.specs.declared.form.Kind.TheVariants.{Normal, Verbatim}

-- The bytes o hold a text that ends at n, and the bytes o' hold the same text with w behind it, which ends at r. Nothing is said of what lies
-- past the end: a text that is given up needs no undoing.
pub record Lays (n : ℕ) (w o : List ℕ) (r : ℕ) (o' : List ℕ) : Type 0 where
  pub end : r ≡ n + length w
  pub text : take r o' ≡ take n o ++ w

-- [resolve.rs:default_chunk] by the number of open braces
abbrev pub default_chunk : ℕ → Kind
default_chunk zero = Normal
default_chunk (suc d) = Verbatim
