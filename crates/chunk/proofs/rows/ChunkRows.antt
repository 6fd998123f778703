-- Laws of kinds by number, and of a chunk row that is put into lent numbers.
--     kind-rest                        a number that is neither 0 nor 1 means `Math`
--     rows-flat                        the numbers of rows are read back as these rows
--     length-put, put-sets, put-out    putting a row keeps the length, is the code's five stores, and does nothing where the row does not fit
-- Assumes nothing.
use Rattle.std.proofs.Common.{ℕ, zero, suc, ◌+◌, ◌*◌, ◌/◌, ◌≤◌, ◌<◌, ◌≡◌, refl, ap, List, [], ◌∷◌, arith, length, set}
use Rattle.chunk.specs.declared.form.Kind.TheVariants.{Math}
use Rattle.chunk.specs.Chunk.{kind_from, ChunkRow, flat_chunks, chunk_rows, put_chunk}

pub kind-rest : (n : ℕ) → (n ≡ 0 → ⊥) → (n ≡ 1 → ⊥) → Math ≡ kind_from n
kind-rest zero h k = absurd (h refl)
kind-rest (suc zero) h k = absurd (k refl)
kind-rest (suc (suc n)) h k = refl

abbrev five : ℕ → ℕ → ℕ → ℕ → ℕ → List ℕ → List ℕ
five a b c d e l = a ∷ b ∷ c ∷ d ∷ e ∷ l

pub rows-flat : (rs : List ChunkRow) → chunk_rows (flat_chunks rs) ≡ rs
unfolding flat_chunks chunk_rows
rows-flat [] = refl
rows-flat (r ∷ rs) = ap (λ (l : List ChunkRow). r ∷ l) (rows-flat rs)

pub length-put : (b : List ℕ) (n : ℕ) (r : ChunkRow) → length (put_chunk b n r) ≡ length b
unfolding put_chunk
length-put [] n r = refl
length-put (a ∷ []) n r = refl
length-put (a ∷ b ∷ []) n r = refl
length-put (a ∷ b ∷ c ∷ []) n r = refl
length-put (a ∷ b ∷ c ∷ d ∷ []) n r = refl
length-put (a ∷ b ∷ c ∷ d ∷ e ∷ l) zero r = refl
length-put (a ∷ b ∷ c ∷ d ∷ e ∷ l) (suc n) r = ap (λ (k : ℕ). suc (suc (suc (suc (suc k))))) (length-put l n r)

-- the code's stores
abbrev sets : List ℕ → ℕ → ChunkRow → List ℕ
sets b i r = set (set (set (set (set b i r.kind) (i + 1) r.from) (i + 2) r.to) (i + 3) r.start) (i + 4) r.end

pub put-sets : (b : List ℕ) (n : ℕ) (r : ChunkRow) → n < length b / 5 → sets b (n * 5) r ≡ put_chunk b n r
unfolding put_chunk
put-sets [] n r h = absurd (omega arith)
put-sets (a ∷ []) n r h = absurd (omega arith)
put-sets (a ∷ b ∷ []) n r h = absurd (omega arith)
put-sets (a ∷ b ∷ c ∷ []) n r h = absurd (omega arith)
put-sets (a ∷ b ∷ c ∷ d ∷ []) n r h = absurd (omega arith)
put-sets (a ∷ b ∷ c ∷ d ∷ e ∷ l) zero r h = refl
put-sets (a ∷ b ∷ c ∷ d ∷ e ∷ l) (suc n) r h =
    let e₀ : suc n * 5 ≡ suc (suc (suc (suc (suc (n * 5))))) = omega arith in
    let e₁ : suc n * 5 + 1 ≡ suc (suc (suc (suc (suc (n * 5 + 1))))) = omega arith in
    let e₂ : suc n * 5 + 2 ≡ suc (suc (suc (suc (suc (n * 5 + 2))))) = omega arith in
    let e₃ : suc n * 5 + 3 ≡ suc (suc (suc (suc (suc (n * 5 + 3))))) = omega arith in
    let e₄ : suc n * 5 + 4 ≡ suc (suc (suc (suc (suc (n * 5 + 4))))) = omega arith in
    rw (e₁, e₂, e₃, e₄, e₀) (ap (five a b c d e) (put-sets l n r (omega arith)))

pub put-out : (b : List ℕ) (n : ℕ) (r : ChunkRow) → length b / 5 ≤ n → b ≡ put_chunk b n r
unfolding put_chunk
put-out [] n r h = refl
put-out (a ∷ []) n r h = refl
put-out (a ∷ b ∷ []) n r h = refl
put-out (a ∷ b ∷ c ∷ []) n r h = refl
put-out (a ∷ b ∷ c ∷ d ∷ []) n r h = refl
put-out (a ∷ b ∷ c ∷ d ∷ e ∷ l) zero r h = absurd (omega arith)
put-out (a ∷ b ∷ c ∷ d ∷ e ∷ l) (suc n) r h = ap (five a b c d e) (put-out l n r (omega arith))
