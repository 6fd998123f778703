-- Chunks, and rows of them in lent numbers [01:Resolving and writing]: "A chunk row is kind (0 Normal, 1 Verbatim, 2 Math), text start and
-- end, span start and end." A text is its octets.
--     Chunk                                  a kind, a text and a span
--     kind_of, kind_from                     01's numbers of the kinds
--     ChunkRow, flat_chunks, put_chunk       a chunk row; the numbers of rows; a row that is written into lent numbers
--     chunk_rows, chunk_of, chunks_of        the rows of lent numbers, and their chunks over a text
--     is_chunk, are_chunks                   the check of lent rows
-- Assumes nothing.
use Rattle.std.specs.Prelude.{ℕ, zero, suc, ◌+◌, ◌%◌, ◌≤◌, ◌≡◌, Bool, ◌&&◌, List, [], ◌∷◌, map, length, get_or, eqb, leb}
use Rattle.text.specs.Utf8.{is_boundary}
use Rattle.text.specs.Scan.{part}
use Rattle.text.specs.Every.{every}
use Rattle.chunk.specs.declared.form.Kind.{Kind}
use Rattle.chunk.specs.declared.form.Kind.TheVariants.{Normal, Verbatim, Math}

-- [chunk.rs:Chunk] with its span. "The joined span takes the first start and the last end, so its end may come before its start."
pub record Chunk : Type 0 where
  pub kind : Kind
  pub text : List ℕ
  pub start : ℕ
  pub end : ℕ

abbrev pub chunk : Kind → List ℕ → ℕ → ℕ → Chunk
chunk k t a e = record { kind = k; text = t; start = a; end = e }

abbrev pub kind_of : Kind → ℕ
kind_of Normal = 0
kind_of Verbatim = 1
kind_of Math = 2

-- the kind that has this number. The row check passes only 0, 1 and 2, so a greater number is never asked for
abbrev pub kind_from : ℕ → Kind
kind_from zero = Normal
kind_from (suc zero) = Verbatim
kind_from (suc (suc n)) = Math

-- ---- rows

pub record ChunkRow : Type 0 where
  pub kind : ℕ
  pub from : ℕ
  pub to : ℕ
  pub start : ℕ
  pub end : ℕ

abbrev pub chunk_row : ℕ → ℕ → ℕ → ℕ → ℕ → ChunkRow
chunk_row k f t a e = record { kind = k; from = f; to = t; start = a; end = e }

-- the rows' numbers in order
unfoldable pub flat_chunks : List ChunkRow → List ℕ
flat_chunks [] = []
flat_chunks (r ∷ rs) = r.kind ∷ r.from ∷ r.to ∷ r.start ∷ r.end ∷ flat_chunks rs

-- the lent numbers with r written as row n, where that row fits whole; else as they were
unfoldable pub put_chunk : List ℕ → ℕ → ChunkRow → List ℕ
put_chunk [] n r = []
put_chunk (a ∷ []) n r = a ∷ []
put_chunk (a ∷ b ∷ []) n r = a ∷ b ∷ []
put_chunk (a ∷ b ∷ c ∷ []) n r = a ∷ b ∷ c ∷ []
put_chunk (a ∷ b ∷ c ∷ d ∷ []) n r = a ∷ b ∷ c ∷ d ∷ []
put_chunk (a ∷ b ∷ c ∷ d ∷ e ∷ l) zero r = r.kind ∷ r.from ∷ r.to ∷ r.start ∷ r.end ∷ l
put_chunk (a ∷ b ∷ c ∷ d ∷ e ∷ l) (suc n) r = a ∷ b ∷ c ∷ d ∷ e ∷ put_chunk l n r

-- the rows that these numbers make, five numbers to a row; numbers past the last whole row are left out
unfoldable pub chunk_rows : List ℕ → List ChunkRow
chunk_rows [] = []
chunk_rows (a ∷ []) = []
chunk_rows (a ∷ b ∷ []) = []
chunk_rows (a ∷ b ∷ c ∷ []) = []
chunk_rows (a ∷ b ∷ c ∷ d ∷ []) = []
chunk_rows (a ∷ b ∷ c ∷ d ∷ e ∷ l) = chunk_row a b c d e ∷ chunk_rows l

-- the row that begins at number i of l has the kind k and the text from f to t. A number has 32 bits
pub record Stores (l : List ℕ) (i k f t : ℕ) : Type 0 where
  pub kind : k ≡ get_or l i 0
  pub from : f ≡ get_or l (i + 1) 0
  pub to : t ≡ get_or l (i + 2) 0
  pub small : t ≤ 4294967295

-- the chunk of a row over the text t
abbrev pub chunk_of : List ℕ → ChunkRow → Chunk
chunk_of t r = chunk (kind_from r.kind) (part t r.from r.to) r.start r.end

abbrev pub chunks_of : List ℕ → List ℕ → List Chunk
chunks_of t l = map (chunk_of t) (chunk_rows l)

-- ---- the check

-- [01:Rows and their packing] "refuse with 17 a chunk row of another kind or with a text range outside the text, reversed, or across a
-- character". A boundary lies inside the text or at its end. Nothing is asked of a span
abbrev pub is_chunk : List ℕ → ChunkRow → Bool
is_chunk t r = leb r.kind 2 && (leb r.from r.to && (is_boundary t r.from && is_boundary t r.to))

abbrev pub every_chunk : List ℕ → List ChunkRow → Bool
every_chunk t rs = every (is_chunk t) rs

-- "Input rows whose numbers are no whole count of rows are refused with 17 too"
unfoldable pub are_chunks : List ℕ → List ℕ → Bool
are_chunks t l = eqb (length l % 5) 0 && every_chunk t (chunk_rows l)
