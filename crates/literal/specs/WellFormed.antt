-- What a literal is resolved into is well-formed: its text is UTF-8, the rows of its chunks pass the writers' check, its text has at most twice
-- its bytes, and it has at most one chunk more than bytes. The proof is `well-formed` of proofs/WellFormed.antt.
-- Assumes nothing.
use Rattle.std.specs.Prelude.{ℕ, ◌+◌, ◌*◌, ◌≤◌, ◌≡◌, Bool, true, List, length, Ok}
use Rattle.text.specs.Utf8.{Octets}
use Rattle.chunk.specs.Chunk.{Chunk, flat_chunks, every_chunk}
use Rattle.chunk.specs.Write.{checked_of}
use Rattle.chunk.specs.WellFormed.{TextsUtf8}
use Rattle.turn.specs.Content.{flatten}
use Rattle.literal.specs.Literal.{chunks, resolve_literal}
use Rattle.literal.specs.Rows.{rows_from, texts_of}

-- the writers refuse neither the text of the chunks cs nor their rows
pub record Passes (cs : List Chunk) : Type 0 where
  -- the text is UTF-8, and the text range of each row lies on character boundaries of it, before the chunks are joined and after
  pub text : Octets (texts_of cs)
  pub rows : every_chunk (texts_of cs) (rows_from 0 cs) ≡ true
  pub joined : every_chunk (texts_of cs) (rows_from 0 (flatten cs)) ≡ true
  -- the check of the text and of the joined rows' numbers passes
  pub checked : checked_of (texts_of cs) (flat_chunks (rows_from 0 (flatten cs))) ≡ (Ok tt)

pub record WellFormed : Type 0 where
  -- where a literal is UTF-8, the text of each of its chunks is UTF-8
  pub texts : (verb : Bool) (s : List ℕ) (base : ℕ) (cs : List Chunk) → Octets s → resolve_literal verb s base ≡ chunks cs → TextsUtf8 cs
  -- the writers never refuse what such a literal resolves to
  pub passes : (verb : Bool) (s : List ℕ) (base : ℕ) (cs : List Chunk) → Octets s → resolve_literal verb s base ≡ chunks cs → Passes cs
  -- the writers refuse no chunks whose texts are UTF-8: so none of a value of several literals either
  pub value : (cs : List Chunk) → TextsUtf8 cs → Passes cs
  -- chunks whose texts are UTF-8 have such texts when they are joined too
  pub joins : (cs : List Chunk) → TextsUtf8 cs → TextsUtf8 (flatten cs)
  -- the text has at most twice the bytes of the literal, whatever these are: 32,768 for a literal of 16,384 [01:From file to field]
  pub twice : (verb : Bool) (s : List ℕ) (base : ℕ) (cs : List Chunk) → resolve_literal verb s base ≡ chunks cs → length (texts_of cs) ≤ 2 * length s
  -- there is at most one chunk more than the literal has bytes
  pub few : (verb : Bool) (s : List ℕ) (base : ℕ) (cs : List Chunk) → resolve_literal verb s base ≡ chunks cs → length cs ≤ length s + 1
