-- Rows of chunks whose texts are UTF-8 pass the writers' check.
--     texts-octets                the text of such chunks is UTF-8
--     flat-texts                  joining chunks keeps their texts UTF-8
--     rows_pass                   each row has a text range that lies on character boundaries
--     check-passes                the whole check passes
-- Assumes nothing.
use Rattle.std.proofs.Common.{ℕ, ◌+◌, ◌*◌, ◌%◌, arith, ◌≡◌, refl, sym, subst, ◌∙◌, Bool, true}
use Rattle.std.proofs.Common.{false, cond, List, [], ◌∷◌, ◌++◌, append_assoc, length, length-append, leb, le-leb, eq-eqb}
use Rattle.std.specs.Prelude.{Ok}
use lib.Seq.{take-append_seam, drop-append_seam}
use Rattle.text.specs.Utf8.{Octets, none, is_boundary}
use Rattle.text.proofs.Rfc3629.{rfc3629}
use Rattle.text.proofs.Shapes.{shapes}
use Rattle.text.specs.Every.{every}
use Rattle.chunk.specs.declared.form.Kind.{Kind}
use Rattle.chunk.specs.declared.form.Kind.TheVariants.{Normal, Verbatim, Math}
use Rattle.chunk.specs.Chunk.{Chunk, kind_of, ChunkRow, flat_chunks, every_chunk, are_chunks}
use Rattle.chunk.specs.Write.{checked_of}
use Rattle.chunk.specs.WellFormed.{TextsUtf8}
use Rattle.chunk.specs.WellFormed as texts
use Rattle.chunk.proofs.rows.ChunkRows.{rows-flat}
use Rattle.turn.specs.Content.{joins, join, flatten_from, flatten}
use Rattle.literal.specs.Rows.{rows_from, texts_of}

pub texts-octets : {cs : List Chunk} → TextsUtf8 cs → Octets (texts_of cs)
unfolding texts_of
texts-octets texts.none = none
texts-octets (texts.next o h) = shapes.octets-append o (texts-octets h)

-- ---- joined

joined-texts : (cs : List Chunk) (c : Chunk) → Octets c.text → TextsUtf8 cs → TextsUtf8 (flatten_from c cs)
unfolding flatten_from
joined-texts [] c o h = texts.next o texts.none
joined-texts (d ∷ cs) c o (texts.next p h) =
    by (joins c.kind d.kind) (joined-texts cs (join c d) (shapes.octets-append o p) h) (joined-texts cs d p h)
  where
    by : (w : Bool) → TextsUtf8 (flatten_from (join c d) cs) → TextsUtf8 (flatten_from d cs) → TextsUtf8 (cond w (flatten_from (join c d) cs) (c ∷ flatten_from d cs))
    by true x y = x
    by false x y = texts.next o y

pub flat-texts : (cs : List Chunk) → TextsUtf8 cs → TextsUtf8 (flatten cs)
flat-texts [] h = texts.none
flat-texts (c ∷ cs) (texts.next o h) = joined-texts cs c o h

-- ---- the check

-- the place between two texts is a boundary
place-between : (u v : List ℕ) → Octets u → Octets v → is_boundary (u ++ v) (length u) ≡ true
place-between u v o p =
    (rfc3629.boundary (u ++ v) (length u) (shapes.octets-append o p)).1 (record {
      inside = omega (arith, length-append u v);
      before = subst Octets (sym (take-append_seam u v)) o;
      after = subst Octets (sym (drop-append_seam u v)) p;
    })

kind_fits : (k : Kind) → leb (kind_of k) 2 ≡ true
kind_fits Normal = refl
kind_fits Verbatim = refl
kind_fits Math = refl

-- the rows of cs in the text s, where the text u of other chunks stands before theirs
rows-from : (s u : List ℕ) (t : ℕ) (cs : List Chunk) → s ≡ u ++ texts_of cs → t ≡ length u → Octets u → TextsUtf8 cs → every_chunk s (rows_from t cs) ≡ true
unfolding every rows_from texts_of
rows-from s u t [] e h o k = refl
rows-from s u t (c ∷ cs) e h o (texts.next p k) =
    rw (kind_fits c.kind, le-leb t (t + length c.text) (omega arith), start, end)
    (rows-from s (u ++ c.text) (t + length c.text) cs e₁ h₁ (shapes.octets-append o p) k)
  where
    e₁ : s ≡ (u ++ c.text) ++ texts_of cs
    e₁ = e ∙ sym (append_assoc u c.text (texts_of cs))

    h₁ : t + length c.text ≡ length (u ++ c.text)
    h₁ = omega (arith, h, length-append u c.text)

    start : is_boundary s t ≡ true
    start = rw (e, h) (place-between u (c.text ++ texts_of cs) o (shapes.octets-append p (texts-octets k)))

    end : is_boundary s (t + length c.text) ≡ true
    end = rw (e₁, h₁) (place-between (u ++ c.text) (texts_of cs) (shapes.octets-append o p) (texts-octets k))

pub rows_pass : (cs : List Chunk) → TextsUtf8 cs → every_chunk (texts_of cs) (rows_from 0 cs) ≡ true
rows_pass cs h = rows-from (texts_of cs) [] 0 cs refl refl none h

-- ---- the numbers of rows: five to a row, which are read back as the same rows

five : (rs : List ChunkRow) → length (flat_chunks rs) ≡ 5 * length rs
unfolding flat_chunks
five [] = refl
five (r ∷ rs) = omega (arith, five rs)

pub check-passes : (s : List ℕ) (rs : List ChunkRow) → Octets s → every_chunk s rs ≡ true → checked_of s (flat_chunks rs) ≡ Ok tt
unfolding checked_of are_chunks
check-passes s rs o h = rw ((rfc3629.accepts s).1 o, eq-eqb (length (flat_chunks rs) % 5) 0 (whole _ _ (five rs)), rows-flat rs, h) refl
  where
    whole : (n k : ℕ) → n ≡ 5 * k → n % 5 ≡ 0
    whole n k e = omega arith
