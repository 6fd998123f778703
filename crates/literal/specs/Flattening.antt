-- What the crates above need of chunks, their texts and their rows. The proof is `flattening` of proofs/Flattening.antt.
-- Assumes nothing.
use Rattle.std.specs.Prelude.{ℕ, ◌*◌, ◌≤◌, ◌≡◌, List, ◌++◌, map, length, drop}
use Rattle.chunk.specs.Chunk.{Chunk, flat_chunks}
use Rattle.turn.specs.Content.{flatten}
use Rattle.literal.specs.Rows.{rows_from, writes, texts_of}
use Rattle.literal.specs.Literal.{chunk_up}

pub record Flattening : Type 0 where
  -- flattening chunks first, and then again behind others, gives what flattening all of them once gives
  pub again : (ps cs : List Chunk) → flatten (ps ++ flatten cs) ≡ flatten (ps ++ cs)
  -- appending chunks never makes the flattened list shorter
  pub fewer : (ps cs : List Chunk) → length (flatten ps) ≤ length (flatten (ps ++ cs))
  -- the text of two lists of chunks, one behind the other; of chunks moved to other places; and of flattened chunks
  pub texts-both : (cs ds : List Chunk) → texts_of (cs ++ ds) ≡ texts_of cs ++ texts_of ds
  pub texts-up : (base : ℕ) (cs : List Chunk) → texts_of (map (chunk_up base) cs) ≡ texts_of cs
  pub texts-flat : (cs : List Chunk) → texts_of (flatten cs) ≡ texts_of cs
  -- a row is five numbers
  pub numbers-length : (t : ℕ) (cs : List Chunk) → length (flat_chunks (rows_from t cs)) ≡ length cs * 5
  -- rows that fit stand first, and the numbers behind them are as they were
  pub rows_written : (b : List ℕ) (cs : List Chunk) → length cs * 5 ≤ length b
      → writes b 0 (rows_from 0 cs) ≡ flat_chunks (rows_from 0 cs) ++ drop (length cs * 5) b
