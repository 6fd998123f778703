-- What a literal is resolved into is well-formed: `well-formed`.
-- Assumes nothing.
use Rattle.std.proofs.Common.{ℕ, ◌+◌, ◌*◌, ◌≤◌, arith, ◌≡◌, refl, sym, ap, subst, ◌∙◌, Bool, true, false, cond, List, [], ◌∷◌, map, length, leb}
use Rattle.text.specs.Utf8.{Octets}
use Rattle.text.proofs.Boundaries.{boundaries}
use Rattle.row.specs.Limits.{most_literal, most_arguments}
use Rattle.raw.specs.Reader.{OutOf, ok, again, bad}
use Rattle.chunk.specs.Chunk.{Chunk, every_chunk}
use Rattle.chunk.specs.WellFormed.{TextsUtf8}
use Rattle.chunk.specs.WellFormed as texts
use Rattle.turn.specs.Content.{Part, chunks_of, content, flatten}
use Rattle.literal.specs.Literal.{Resolved, chunks, refused, chunk_up, resolved_of, too_long, resolve_literal}
use Rattle.literal.specs.Rows.{rows_from, texts_of}
use Rattle.literal.specs.WellFormed.{Passes, WellFormed}
use Rattle.literal.proofs.characters.PartsToChunks.{chunks-texts, chunks-text, chunks-few}
use Rattle.literal.proofs.characters.Moves.{owed-inside, Move, MovesOut}
use Rattle.literal.proofs.characters.ContentMoves.{content-reads}
use Rattle.literal.proofs.characters.RowRanges.{texts-octets, flat-texts, rows_pass, check-passes}
use Rattle.literal.proofs.Flattening.{flattening}

-- ---- a literal that is not refused comes of a way through it

abbrev list_of : Resolved → List Chunk
list_of (chunks cs) = cs
list_of (refused f) = []

abbrev is_given : Resolved → ℕ
is_given (chunks cs) = 1
is_given (refused f) = 0

-- the chunks cs are those of parts that are emitted on a way from the literal's beginning
pub record Comes (s : List ℕ) (base : ℕ) (cs : List Chunk) : Type 0 where
  pub end : ℕ
  pub parts : List Part
  pub way : Move s 0 end parts
  pub made : map (chunk_up base) (chunks_of 0 end parts) ≡ cs

comes : (verb : Bool) (s : List ℕ) (base : ℕ) (cs : List Chunk) → resolve_literal verb s base ≡ chunks cs → Comes s base cs
unfolding resolve_literal
comes verb s base cs = by (leb (length s) most_literal) (content most_arguments verb s 0) (content-reads most_arguments verb s 0 (omega arith))
  where
    by : (w : Bool) (o : OutOf Part) → MovesOut s 0 o → cond w (resolved_of base o) (refused (too_long base (base + length s))) ≡ chunks cs → Comes s base cs
    by true (ok q xs) m e = record { end = q; parts = xs; way = m; made = ap list_of e }
    by true (again q xs a) m e = record { end = q; parts = xs; way = m; made = ap list_of e }
    by true (bad f) m e = absurd (omega (arith, ap is_given e))
    by false o m e = absurd (omega (arith, ap is_given e))

-- ---- places of the file change no text

up-texts : (base : ℕ) {cs : List Chunk} → TextsUtf8 cs → TextsUtf8 (map (chunk_up base) cs)
up-texts base texts.none = texts.none
up-texts base (texts.next o h) = texts.next o (up-texts base h)

-- ---- the statement

literal-texts : (verb : Bool) (s : List ℕ) (base : ℕ) (cs : List Chunk) → Octets s → resolve_literal verb s base ≡ chunks cs → TextsUtf8 cs
literal-texts verb s base cs o e =
    let k = comes verb s base cs e in
    subst TextsUtf8 k.made (up-texts base (chunks-texts 0 k.end k.parts (k.way.texts o (boundaries.first s o)).1))

chunks_pass : (cs : List Chunk) → TextsUtf8 cs → Passes cs
chunks_pass cs h =
    let flat = subst (λ (t : List ℕ). every_chunk t (rows_from 0 (flatten cs)) ≡ true) (flattening.texts-flat cs) (rows_pass (flatten cs) (flat-texts cs h)) in
    record {
      text = texts-octets h;
      rows = rows_pass cs h;
      joined = flat;
      checked = check-passes (texts_of cs) (rows_from 0 (flatten cs)) (texts-octets h) flat;
    }

literal-twice : (verb : Bool) (s : List ℕ) (base : ℕ) (cs : List Chunk) → resolve_literal verb s base ≡ chunks cs → length (texts_of cs) ≤ 2 * length s
literal-twice verb s base cs e =
    let k = comes verb s base cs e in
    let same = sym (ap texts_of k.made) ∙ flattening.texts-up base (chunks_of 0 k.end k.parts) in
    omega (arith, ap length same, chunks-text 0 k.end k.parts, k.way.size, owed-inside s k.end k.way.to)

up-length : (base : ℕ) (cs : List Chunk) → length (map (chunk_up base) cs) ≡ length cs
up-length base [] = refl
up-length base (c ∷ cs) = omega (arith, up-length base cs)

literal-few : (verb : Bool) (s : List ℕ) (base : ℕ) (cs : List Chunk) → resolve_literal verb s base ≡ chunks cs → length cs ≤ length s + 1
literal-few verb s base cs e =
    let k = comes verb s base cs e in
    let made = chunks_of 0 k.end k.parts in
    omega (arith, ap length k.made, up-length base made, chunks-few 0 k.end k.parts, k.way.few, k.way.to)

pub well-formed : WellFormed
well-formed = record {
  texts = literal-texts;
  passes = λ verb s base cs o e. chunks_pass cs (literal-texts verb s base cs o e);
  value = chunks_pass;
  joins = flat-texts;
  twice = literal-twice;
  few = literal-few;
}
