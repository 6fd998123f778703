-- Rows of chunks in lent numbers, joined as they are appended.
--     most_number, most_rows    what a number of 32 bits holds; how far rows are counted
--     RowsHold                  what the numbers hold of a list of chunks
--     onto, Pushes              one chunk more. For src/rows.rt.
-- Assumes nothing.
use Rattle.std.specs.Prelude.{ℕ, suc, ◌+◌, ◌≤◌, ◌≡◌, cond, List, [], ◌∷◌, ◌++◌, length}
use Rattle.chunk.specs.declared.form.Kind.{Kind}
use Rattle.chunk.specs.Chunk.{Chunk, chunk, kind_of, ChunkRow, chunk_row, put_chunk}
use Rattle.literal.specs.declared.rows.Rows.{Rows}
use Rattle.turn.specs.Content.{joins, join}

-- the greatest number that a row can hold: it has 32 bits
abbrev pub most_number : ℕ
most_number = 4294967295

-- as far as this rows are counted. It is more than any lent numbers have room for: their length has 64 bits, and a row is five numbers
abbrev pub most_rows : ℕ
most_rows = 4000000000000000000

-- the rows of chunks, where the text of the first begins at t
unfoldable pub rows_from : ℕ → List Chunk → List ChunkRow
rows_from t [] = []
rows_from t (c ∷ cs) = chunk_row (kind_of c.kind) t (t + length c.text) c.start c.end ∷ rows_from (t + length c.text) cs

-- rows written from row n on, each where it fits
unfoldable pub writes : List ℕ → ℕ → List ChunkRow → List ℕ
writes b n [] = b
writes b n (r ∷ rs) = writes (put_chunk b n r) (suc n) rs

-- the text of all chunks, one after another
unfoldable pub texts_of : List Chunk → List ℕ
texts_of [] = []
texts_of (c ∷ cs) = c.text ++ texts_of cs

-- of the last chunk: its kind's number, or 3 where there is none; where its text begins; where its span begins
unfoldable pub last_kind : List Chunk → ℕ
last_kind [] = 3
last_kind (c ∷ []) = kind_of c.kind
last_kind (c ∷ d ∷ cs) = last_kind (d ∷ cs)

unfoldable pub last_text : ℕ → List Chunk → ℕ
last_text t [] = t
last_text t (c ∷ []) = t
last_text t (c ∷ d ∷ cs) = last_text (t + length c.text) (d ∷ cs)

unfoldable pub last_start : List Chunk → ℕ
last_start [] = 0
last_start (c ∷ []) = c.start
last_start (c ∷ d ∷ cs) = last_start (d ∷ cs)

-- the text of the chunks cs is no longer than the numbers of a row reach
abbrev pub InReach : List Chunk → Type 0
InReach cs = length (texts_of cs) ≤ most_number

-- k and the numbers b hold the rows of the chunks cs; the numbers were b₀ before any row was written. Where the text is too long for the numbers
-- of a row, the rows are only counted
pub record RowsHold (cs : List Chunk) (b₀ : List ℕ) (k : Rows) (b : List ℕ) : Type 0 where
  pub numbers : InReach cs → b ≡ writes b₀ 0 (rows_from 0 cs)
  pub count : k.n ≡ length cs
  pub last : k.last ≡ last_kind cs
  pub from : InReach cs → k.from ≡ last_text 0 cs
  pub start : k.start ≡ last_start cs

-- one chunk more, joined with the last one where they join
abbrev pub onto : List Chunk → Chunk → List Chunk
onto [] d = d ∷ []
onto (c ∷ []) d = cond (joins c.kind d.kind) (join c d ∷ []) (c ∷ d ∷ [])
onto (c ∷ e ∷ cs) d = c ∷ onto (e ∷ cs) d

-- the text t, which stands behind that of the chunks cs, goes from one place to another, if the numbers of a row reach there
abbrev pub Ranges : List Chunk → List ℕ → ℕ → ℕ → Type 0
Ranges cs t from to = length (texts_of cs) + length t ≤ most_number → (from ≡ length (texts_of cs)) × (to ≡ from + length t)

-- where k and b hold the rows of any chunks, k' and b' hold those of these chunks and one more, with this kind, this span and this text range
abbrev pub Pushes : Kind → ℕ → ℕ → ℕ → ℕ → Rows → List ℕ → Rows → List ℕ → Type 0
Pushes kind from to start end k b k' b' =
    (cs : List Chunk) (t b₀ : List ℕ) → Ranges cs t from to → RowsHold cs b₀ k b → RowsHold (onto cs (chunk kind t start end)) b₀ k' b'
