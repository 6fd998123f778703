-- What stays of chunks in sentence case: a Verbatim text unchanged, and Math between its dollar signs. The proof is `titles` of
-- proofs/Titles.antt. That the rest of a text that is lowered twice is lowered once is `again` of casing/specs/Casing.antt.
-- Assumes nothing.
use Rattle.std.specs.Prelude.{ℕ, List, ◌∷◌, ◌++◌, ◌≡◌}
use Rattle.chunk.specs.declared.form.Kind.TheVariants.{Verbatim, Math}
use Rattle.chunk.specs.Chunk.{Chunk}
use Rattle.chunk.specs.Sentence.{format_sentence}

pub record Titles : Type 0 where
  -- [02:1] "Verbatim as it is, Math between its dollar signs": behind what the chunks before it are written as, whatever follows
  pub verbatim : (cs : List Chunk) (c : Chunk) (ds : List Chunk) → c.kind ≡ Verbatim →
      (v : List ℕ) × (format_sentence (cs ++ c ∷ ds) ≡ format_sentence cs ++ (c.text ++ v))
  pub math : (cs : List Chunk) (c : Chunk) (ds : List Chunk) → c.kind ≡ Math →
      (v : List ℕ) × (format_sentence (cs ++ c ∷ ds) ≡ format_sentence cs ++ (0x24 ∷ (c.text ++ 0x24 ∷ v)))
