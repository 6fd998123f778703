-- The proof of specs/Joining.antt: `joining`.
-- Assumes nothing.
use Rattle.std.proofs.Common.{◌≡◌, refl, sym, ap, ◌∙◌, Bool, true, false, cond, List, [], ◌∷◌, ◌++◌}
use Rattle.chunk.specs.Chunk.{Chunk}
use Rattle.turn.specs.Content.{joins, join, flatten_from}
use Rattle.literal.specs.Rows.{onto}
use Rattle.literal.specs.Joining.{Joining}

onto-behind : (cs : List Chunk) (c e d : Chunk) → onto (c ∷ flatten_from e cs) d ≡ c ∷ onto (flatten_from e cs) d
unfolding flatten_from
onto-behind [] c e d = refl
onto-behind (f ∷ cs) c e d = by (joins e.kind f.kind) (onto-behind cs c (join e f) d)
  where
    by : (t : Bool) → onto (c ∷ flatten_from (join e f) cs) d ≡ c ∷ onto (flatten_from (join e f) cs) d
        → onto (c ∷ cond t (flatten_from (join e f) cs) (e ∷ flatten_from f cs)) d
        ≡ c ∷ onto (cond t (flatten_from (join e f) cs) (e ∷ flatten_from f cs)) d
    by true h = h
    by false h = refl

flat_on : (cs : List Chunk) (c d : Chunk) → flatten_from c (cs ++ d ∷ []) ≡ onto (flatten_from c cs) d
unfolding flatten_from
flat_on [] c d = refl
flat_on (e ∷ cs) c d = by (joins c.kind e.kind) (flat_on cs (join c e) d) (flat_on cs e d)
  where
    by : (t : Bool) → flatten_from (join c e) (cs ++ d ∷ []) ≡ onto (flatten_from (join c e) cs) d
        → flatten_from e (cs ++ d ∷ []) ≡ onto (flatten_from e cs) d
        → cond t (flatten_from (join c e) (cs ++ d ∷ [])) (c ∷ flatten_from e (cs ++ d ∷ []))
        ≡ onto (cond t (flatten_from (join c e) cs) (c ∷ flatten_from e cs)) d
    by true h k = h
    by false h k = ap (λ (l : List Chunk). c ∷ l) k ∙ sym (onto-behind cs c e d)

pub joining : Joining
unfolding flatten_from
joining [] d = refl
joining (c ∷ cs) d = flat_on cs c d
