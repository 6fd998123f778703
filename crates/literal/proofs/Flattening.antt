-- The proof of specs/Flattening.antt: `flattening`.
-- Assumes nothing.
use Rattle.std.proofs.Common.{ℕ, suc, ◌+◌, ◌*◌, ◌≤◌, arith, ◌≡◌, refl, sym, ap, ◌∙◌, Bool, true, false, cond, List, [], ◌∷◌, ◌++◌, map, append_assoc, length, drop}
use Rattle.chunk.specs.declared.form.Kind.{Kind}
use Rattle.chunk.specs.declared.form.Kind.TheVariants.{Normal, Verbatim, Math}
use Rattle.chunk.specs.Chunk.{Chunk, chunk, ChunkRow, flat_chunks, put_chunk}
use Rattle.turn.specs.Content.{joins, join, flatten_from, flatten}
use Rattle.literal.specs.Rows.{rows_from, writes, texts_of}
use Rattle.literal.specs.Literal.{chunk_up}
use Rattle.literal.specs.Flattening.{Flattening}
use Rattle.literal.proofs.ways.PushWays.{rows-length}

-- ---- chunks that join

joins-through : (j k l : Kind) → joins j k ≡ true → joins k l ≡ true → joins j l ≡ true
joins-through Normal Normal l h i = i
joins-through Normal Verbatim l h i = cc
joins-through Normal Math l h i = cc
joins-through Verbatim Normal l h i = cc
joins-through Verbatim Verbatim l h i = i
joins-through Verbatim Math l h i = cc
joins-through Math k l h i = cc

-- two chunks that join may be joined first, before the chunk in front of them is compared with them
module _ (c d : Chunk) (cs : List Chunk) (h : joins c.kind d.kind ≡ true) where
  joined-first : flatten_from (join c d) cs ≡ flatten_from c (d ∷ cs)
  unfolding flatten_from
  joined-first = ap (λ (w : Bool). cond w (flatten_from (join c d) cs) (c ∷ flatten_from d cs)) (sym h)

  joined-next : (p : Chunk) → flatten_from p (join c d ∷ cs) ≡ flatten_from p (c ∷ d ∷ cs)
  unfolding flatten_from
  joined-next p = by (joins p.kind c.kind) refl
    where
      three : join p (join c d) ≡ join (join p c) d
      three = ap (λ (t : List ℕ). chunk p.kind t p.start d.end) (sym (append_assoc p.text c.text d.text))

      by : (w : Bool) → joins p.kind c.kind ≡ w
          → cond w (flatten_from (join p (join c d)) cs) (p ∷ flatten_from (join c d) cs)
          ≡ cond w (flatten_from (join p c) (d ∷ cs)) (p ∷ flatten_from c (d ∷ cs))
      by true e =
          ap (λ (x : Chunk). flatten_from x cs) three
          ∙ ap (λ (w : Bool). cond w (flatten_from (join (join p c) d) cs) (join p c ∷ flatten_from d cs))
          (sym (joins-through p.kind c.kind d.kind e h))
      by false e = ap (λ (l : List Chunk). p ∷ l) joined-first

  joined-behind : (ps : List Chunk) (p : Chunk) → flatten_from p (ps ++ join c d ∷ cs) ≡ flatten_from p (ps ++ c ∷ d ∷ cs)
  unfolding flatten_from
  joined-behind [] p = joined-next p
  joined-behind (q ∷ ps) p = by (joins p.kind q.kind) (joined-behind ps (join p q)) (joined-behind ps q)
    where
      by : (w : Bool) → flatten_from (join p q) (ps ++ join c d ∷ cs) ≡ flatten_from (join p q) (ps ++ c ∷ d ∷ cs)
          → flatten_from q (ps ++ join c d ∷ cs) ≡ flatten_from q (ps ++ c ∷ d ∷ cs)
          → cond w (flatten_from (join p q) (ps ++ join c d ∷ cs)) (p ∷ flatten_from q (ps ++ join c d ∷ cs))
          ≡ cond w (flatten_from (join p q) (ps ++ c ∷ d ∷ cs)) (p ∷ flatten_from q (ps ++ c ∷ d ∷ cs))
      by true k l = k
      by false k l = ap (λ (m : List Chunk). p ∷ m) l

  joined : (ps : List Chunk) → flatten (ps ++ join c d ∷ cs) ≡ flatten (ps ++ c ∷ d ∷ cs)
  joined [] = joined-first
  joined (p ∷ ps) = joined-behind ps p

again-from : (cs : List Chunk) (c : Chunk) (ps : List Chunk) → flatten (ps ++ flatten_from c cs) ≡ flatten (ps ++ c ∷ cs)
unfolding flatten_from
again-from [] c ps = refl
again-from (d ∷ cs) c ps = by (joins c.kind d.kind) refl (again-from cs (join c d) ps) (again-from cs d (ps ++ c ∷ []))
  where
    by : (w : Bool) → joins c.kind d.kind ≡ w → flatten (ps ++ flatten_from (join c d) cs) ≡ flatten (ps ++ join c d ∷ cs)
        → flatten ((ps ++ c ∷ []) ++ flatten_from d cs) ≡ flatten ((ps ++ c ∷ []) ++ d ∷ cs)
        → flatten (ps ++ cond w (flatten_from (join c d) cs) (c ∷ flatten_from d cs)) ≡ flatten (ps ++ c ∷ d ∷ cs)
    by true e k l = k ∙ joined c d cs e ps
    by false e k l = ap flatten (sym (append_assoc ps (c ∷ []) (flatten_from d cs))) ∙ l ∙ ap flatten (append_assoc ps (c ∷ []) (d ∷ cs))

again-flat : (ps cs : List Chunk) → flatten (ps ++ flatten cs) ≡ flatten (ps ++ cs)
again-flat ps [] = refl
again-flat ps (c ∷ cs) = again-from cs c ps

-- ---- how many

some-from : (cs : List Chunk) (c : Chunk) → 1 ≤ length (flatten_from c cs)
unfolding flatten_from
some-from [] c = omega arith
some-from (d ∷ cs) c = by (joins c.kind d.kind) (some-from cs (join c d))
  where
    by : (w : Bool) → 1 ≤ length (flatten_from (join c d) cs) → 1 ≤ length (cond w (flatten_from (join c d) cs) (c ∷ flatten_from d cs))
    by true h = h
    by false h = omega arith

fewer-from : (ps : List Chunk) (p : Chunk) (cs : List Chunk) → length (flatten_from p ps) ≤ length (flatten_from p (ps ++ cs))
unfolding flatten_from
fewer-from [] p cs = some-from cs p
fewer-from (q ∷ ps) p cs = by (joins p.kind q.kind) (fewer-from ps (join p q) cs) (fewer-from ps q cs)
  where
    by : (w : Bool) → length (flatten_from (join p q) ps) ≤ length (flatten_from (join p q) (ps ++ cs))
        → length (flatten_from q ps) ≤ length (flatten_from q (ps ++ cs))
        → length (cond w (flatten_from (join p q) ps) (p ∷ flatten_from q ps))
        ≤ length (cond w (flatten_from (join p q) (ps ++ cs)) (p ∷ flatten_from q (ps ++ cs)))
    by true h k = h
    by false h k = omega arith

fewer-flat : (ps cs : List Chunk) → length (flatten ps) ≤ length (flatten (ps ++ cs))
fewer-flat [] cs = omega arith
fewer-flat (p ∷ ps) cs = fewer-from ps p cs

-- ---- texts

both-texts : (cs ds : List Chunk) → texts_of (cs ++ ds) ≡ texts_of cs ++ texts_of ds
unfolding texts_of
both-texts [] ds = refl
both-texts (c ∷ cs) ds = ap (λ (t : List ℕ). c.text ++ t) (both-texts cs ds) ∙ sym (append_assoc c.text (texts_of cs) (texts_of ds))

up-texts : (base : ℕ) (cs : List Chunk) → texts_of (map (chunk_up base) cs) ≡ texts_of cs
unfolding texts_of
up-texts base [] = refl
up-texts base (c ∷ cs) = ap (λ (t : List ℕ). c.text ++ t) (up-texts base cs)

from-texts : (cs : List Chunk) (c : Chunk) → texts_of (flatten_from c cs) ≡ c.text ++ texts_of cs
unfolding texts_of flatten_from
from-texts [] c = refl
from-texts (d ∷ cs) c = by (joins c.kind d.kind) (from-texts cs (join c d)) (from-texts cs d)
  where
    by : (w : Bool) → texts_of (flatten_from (join c d) cs) ≡ (c.text ++ d.text) ++ texts_of cs → texts_of (flatten_from d cs) ≡ d.text ++ texts_of cs
        → texts_of (cond w (flatten_from (join c d) cs) (c ∷ flatten_from d cs)) ≡ c.text ++ (d.text ++ texts_of cs)
    by true h k = h ∙ append_assoc c.text d.text (texts_of cs)
    by false h k = ap (λ (t : List ℕ). c.text ++ t) k

flat-texts : (cs : List Chunk) → texts_of (flatten cs) ≡ texts_of cs
unfolding texts_of
flat-texts [] = refl
flat-texts (c ∷ cs) = from-texts cs c

-- ---- rows

writes-behind : (rs : List ChunkRow) (a b c d e : ℕ) (l : List ℕ) (n : ℕ)
    → writes (a ∷ b ∷ c ∷ d ∷ e ∷ l) (suc n) rs ≡ a ∷ b ∷ c ∷ d ∷ e ∷ writes l n rs
unfolding writes put_chunk
writes-behind [] a b c d e l n = refl
writes-behind (r ∷ rs) a b c d e l n = writes-behind rs a b c d e (put_chunk l n r) (suc n)

written : (rs : List ChunkRow) (b : List ℕ) → length rs * 5 ≤ length b → writes b 0 rs ≡ flat_chunks rs ++ drop (length rs * 5) b
unfolding writes flat_chunks put_chunk
written [] b h = refl
written (r ∷ rs) b h = by b h (written rs)
  where
    five : (n : ℕ) → suc (suc (suc (suc (suc (n * 5))))) ≡ suc n * 5
    five n = omega arith

    by : (b : List ℕ) → suc (length rs) * 5 ≤ length b
        → ((l : List ℕ) → length rs * 5 ≤ length l → writes l 0 rs ≡ flat_chunks rs ++ drop (length rs * 5) l)
        → writes (put_chunk b 0 r) 1 rs ≡ r.kind ∷ r.from ∷ r.to ∷ r.start ∷ r.end ∷ flat_chunks rs ++ drop (suc (length rs) * 5) b
    by [] h g = absurd (omega arith)
    by (a₁ ∷ []) h g = absurd (omega arith)
    by (a₁ ∷ a₂ ∷ []) h g = absurd (omega arith)
    by (a₁ ∷ a₂ ∷ a₃ ∷ []) h g = absurd (omega arith)
    by (a₁ ∷ a₂ ∷ a₃ ∷ a₄ ∷ []) h g = absurd (omega arith)
    by (a₁ ∷ a₂ ∷ a₃ ∷ a₄ ∷ a₅ ∷ l) h g =
        writes-behind rs r.kind r.from r.to r.start r.end l 0
        ∙ ap (λ (m : List ℕ). r.kind ∷ r.from ∷ r.to ∷ r.start ∷ r.end ∷ m)
        (g l (omega arith) ∙ ap (λ (n : ℕ). flat_chunks rs ++ drop n (a₁ ∷ a₂ ∷ a₃ ∷ a₄ ∷ a₅ ∷ l)) (five (length rs)))

five-each : (t : ℕ) (cs : List Chunk) → length (flat_chunks (rows_from t cs)) ≡ length cs * 5
unfolding rows_from flat_chunks
five-each t [] = refl
five-each t (c ∷ cs) = let h = five-each (t + length c.text) cs in omega (arith, h)

put-rows : (b : List ℕ) (cs : List Chunk) → length cs * 5 ≤ length b
    → writes b 0 (rows_from 0 cs) ≡ flat_chunks (rows_from 0 cs) ++ drop (length cs * 5) b
put-rows b cs h =
    written (rows_from 0 cs) b (omega (arith, rows-length cs 0))
    ∙ ap (λ (n : ℕ). flat_chunks (rows_from 0 cs) ++ drop (n * 5) b) (rows-length cs 0)

pub flattening : Flattening
flattening = record {
  again = again-flat;
  fewer = fewer-flat;
  texts-both = both-texts;
  texts-up = up-texts;
  texts-flat = flat-texts;
  numbers-length = five-each;
  rows_written = put-rows;
}
