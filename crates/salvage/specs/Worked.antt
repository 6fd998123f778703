-- The remark beside the salvage case of the edge table [01:Edge table]: "Strict reading accepts the salvage case, with key `@b{k` at 4..8". And a
-- case of salvage whose cause lies inside a later piece. The proof of `Worked` is `worked` of proofs/Worked.antt.
-- Assumes nothing.
use Rattle.std.specs.Prelude.{◌≡◌, [], ◌∷◌}
use Rattle.text.specs.Strings.{utf8}
use Rattle.row.specs.Row.{row_of}
use Rattle.raw.specs.Reader.{ok}
use Rattle.raw.specs.Read.{strict}
use Rattle.salvage.specs.Salvage.{salvage_of}

pub record Worked : Type 0 where
  pub strictly : strict (utf8 "@a{\n@b{k,}") ≡ ok 10 (row_of 1 0 0 9 ∷ row_of 2 0 1 2 ∷ row_of 3 0 4 8 ∷ [])
  -- the second piece lacks its comma, and a brace stands where it is missed
  pub later : salvage_of (utf8 "@a{k,}\n@b{k}\n")
      ≡ row_of 1 0 0 5 ∷ row_of 2 0 1 2 ∷ row_of 3 0 3 4 ∷ row_of 9 0 7 13 ∷ row_of 10 7 11 12 ∷ []
