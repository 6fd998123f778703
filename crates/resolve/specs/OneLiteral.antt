-- The call `resolve_literal`: the literal that stands in a file from one place to another.
-- Assumes nothing.
use Rattle.std.specs.Prelude.{ℕ, Bool, ◌&&◌, List, leb}
use Rattle.text.specs.Utf8.{is_boundary}
use Rattle.text.specs.Scan.{part}
use Rattle.turn.specs.Content.{flatten}
use Rattle.literal.specs.Literal.{Resolved, chunks, resolve_literal}
use Rattle.literal.specs.Literal as literal
use Rattle.resolve.specs.Resolves.{Value, resolved, refused, asked}

-- [01:Rows and their packing] "Resolving refuses also a span reversed, outside the file or across a character": a boundary lies inside the
-- file or at its end
abbrev pub is_span : List ℕ → ℕ → ℕ → Bool
is_span s a e = leb a e && (is_boundary s a && is_boundary s e)

-- no name is resolved in a literal
abbrev pub value_of : Resolved → Value
value_of (chunks cs) = resolved (flatten cs) 0
value_of (literal.refused f) = refused f

-- the literal of the file from a to e, with a scratch of w bytes
abbrev pub literal_of : List ℕ → ℕ → ℕ → Bool → ℕ → Value
literal_of file a e verb w = asked file (is_span file a e) w (value_of (resolve_literal verb (part file a e) a))
