-- What is written of values one behind the other.
--     rows_append, texts-append, numbers-append, answers-append     the parts of two lists of values
--     rows-one, text-one, numbers-one, answers_one                  the parts of one value more
--     numbers-length, answers-length                                how many numbers there are
-- Assumes nothing.
use Prim.Native.Nat.{ℕ, ◌+◌, ◌*◌}
use native.Mathlib.Omega.{arith}
use mathlib.Core.Path.{◌≡◌, refl, sym, ap, ap₂, ◌∙◌}
use mathlib.Core.List.{List, [], ◌∷◌, ◌++◌, append_assoc, append-nil}
use lib.ListN.{length, length-append}
use Rattle.chunk.specs.Chunk.{Chunk, ChunkRow, flat_chunks}
use Rattle.literal.specs.Rows.{rows_from, texts_of}
use Rattle.resolve.specs.Resolves.{Value, resolved, refused}
use Rattle.whole.specs.WholeFile.{chunks_in, chunk_numbers, texts, count_rows, six, answer_numbers}

pub rows_append : (vs ws : List Value) → count_rows (vs ++ ws) ≡ count_rows vs + count_rows ws
unfolding count_rows
rows_append [] ws = omega arith
rows_append (v ∷ vs) ws = omega (arith, rows_append vs ws)

pub texts-append : (vs ws : List Value) → texts (vs ++ ws) ≡ texts vs ++ texts ws
unfolding texts
texts-append [] ws = refl
texts-append (v ∷ vs) ws = rw (texts-append vs ws, append_assoc)

pub numbers-append : (vs ws : List Value) → chunk_numbers (vs ++ ws) ≡ chunk_numbers vs ++ chunk_numbers ws
unfolding chunk_numbers
numbers-append [] ws = refl
numbers-append (v ∷ vs) ws = rw (numbers-append vs ws, append_assoc)

-- the rows of the second list begin where those of the first end
from_at : (vs : List Value) {a b t u : ℕ} → a ≡ b → t ≡ u → answer_numbers a t vs ≡ answer_numbers b u vs
from_at vs p q = ap₂ (λ (n m : ℕ). answer_numbers n m vs) p q

pub answers-append : (a t : ℕ) (vs ws : List Value)
    → answer_numbers a t (vs ++ ws) ≡ answer_numbers a t vs ++ answer_numbers (a + count_rows vs) (t + length (texts vs)) ws
unfolding answer_numbers count_rows texts
answers-append a t [] ws = from_at ws (omega arith) (omega arith)
answers-append a t (v ∷ vs) ws =
    let n = length (chunks_in v) in
    let m = length (texts_of (chunks_in v)) in
    let k : t + m + length (texts vs) ≡ t + length (texts_of (chunks_in v) ++ texts vs) =
    omega (arith, length-append (texts_of (chunks_in v)) (texts vs)) in
    ap (λ (l : List ℕ). six a t v ++ l)
    (answers-append (a + n) (t + m) vs ws ∙ ap (λ (l : List ℕ). answer_numbers (a + n) (t + m) vs ++ l) (from_at ws (omega arith) k))
    ∙ sym (append_assoc (six a t v) (answer_numbers (a + n) (t + m) vs) _)

-- ---- one value more

pub rows-one : (vs : List Value) (v : Value) → count_rows (vs ++ v ∷ []) ≡ count_rows vs + length (chunks_in v)
unfolding count_rows
rows-one vs v = omega (arith, rows_append vs (v ∷ []))

pub text-one : (vs : List Value) (v : Value) → texts (vs ++ v ∷ []) ≡ texts vs ++ texts_of (chunks_in v)
unfolding texts
text-one vs v = texts-append vs (v ∷ []) ∙ ap (λ (l : List ℕ). texts vs ++ l) (append-nil (texts_of (chunks_in v)))

pub text-more : (vs : List Value) (v : Value) → length (texts (vs ++ v ∷ [])) ≡ length (texts vs) + length (texts_of (chunks_in v))
text-more vs v = ap length (text-one vs v) ∙ length-append (texts vs) (texts_of (chunks_in v))

pub numbers-one : (vs : List Value) (v : Value) → chunk_numbers (vs ++ v ∷ []) ≡ chunk_numbers vs ++ flat_chunks (rows_from 0 (chunks_in v))
unfolding chunk_numbers
numbers-one vs v = numbers-append vs (v ∷ []) ∙ ap (λ (l : List ℕ). chunk_numbers vs ++ l) (append-nil (flat_chunks (rows_from 0 (chunks_in v))))

pub answers_one : (vs : List Value) (v : Value)
    → answer_numbers 0 0 (vs ++ v ∷ []) ≡ answer_numbers 0 0 vs ++ six (count_rows vs) (length (texts vs)) v
unfolding answer_numbers
answers_one vs v =
    answers-append 0 0 vs (v ∷ [])
    ∙ ap (λ (l : List ℕ). answer_numbers 0 0 vs ++ l) (from_at (v ∷ []) (omega arith) (omega arith) ∙ append-nil (six (count_rows vs) (length (texts vs)) v))

-- ---- how many numbers there are

flat-length : (rs : List ChunkRow) → length (flat_chunks rs) ≡ length rs * 5
unfolding flat_chunks
flat-length [] = refl
flat-length (r ∷ rs) = omega (arith, flat-length rs)

from-length : (t : ℕ) (cs : List Chunk) → length (rows_from t cs) ≡ length cs
unfolding rows_from
from-length t [] = refl
from-length t (c ∷ cs) = omega (arith, from-length (t + length c.text) cs)

pub value-length : (cs : List Chunk) → length (flat_chunks (rows_from 0 cs)) ≡ length cs * 5
value-length cs = flat-length (rows_from 0 cs) ∙ ap (λ (n : ℕ). n * 5) (from-length 0 cs)

pub numbers-length : (vs : List Value) → length (chunk_numbers vs) ≡ count_rows vs * 5
unfolding chunk_numbers count_rows
numbers-length [] = refl
numbers-length (v ∷ vs) =
    omega (arith, length-append (flat_chunks (rows_from 0 (chunks_in v))) (chunk_numbers vs), value-length (chunks_in v), numbers-length vs)

pub six-length : (a t : ℕ) (v : Value) → length (six a t v) ≡ 6
six-length a t (resolved cs n) = refl
six-length a t (refused f) = refl

pub answers-length : (a t : ℕ) (vs : List Value) → length (answer_numbers a t vs) ≡ length vs * 6
unfolding answer_numbers
answers-length a t [] = refl
answers-length a t (v ∷ vs) =
    let rest = answer_numbers (a + length (chunks_in v)) (t + length (texts_of (chunks_in v))) vs in
    omega (arith, length-append (six a t v) rest, six-length a t v, answers-length (a + length (chunks_in v)) (t + length (texts_of (chunks_in v))) vs)
