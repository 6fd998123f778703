-- The UTF-8 of a string that stands in a specification: of worked cases, and of names.
-- Assumes nothing.
use Rattle.std.specs.Prelude.{ℕ, List, [], ◌++◌}
use Prim.Native.Char.{code}
use Prim.Native.String.{String, [] as none, ◌∷◌ as ◌and◌}
use Rattle.text.specs.Utf8.{octets}

unfoldable pub utf8 : String → List ℕ
utf8 none = []
utf8 (c and s) = octets (code c) ++ utf8 s
