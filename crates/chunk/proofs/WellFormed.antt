-- What the writers write is UTF-8: `well-formed`.
-- Assumes nothing.
use Rattle.std.proofs.Common.{ℕ, ◌%◌, ◌≤◌, arith, ◌≡◌, sym, subst, Bool, true, false, cond, List, [], ◌∷◌, ◌++◌, map, length, take, eqb, leb, leb-true}
use Rattle.std.specs.Prelude.{Ok}
use Rattle.text.specs.Utf8.{is_char, Octets, none, next, is_boundary}
use Rattle.text.proofs.general.Tests.{both_true}
use Rattle.text.proofs.Shapes.{shapes}
use Rattle.text.proofs.Rfc3629.{rfc3629}
use Rattle.text.specs.Every.{every}
use Rattle.text.proofs.Boundaries.{boundaries}
use Rattle.chunk.specs.declared.form.Kind.{Kind}
use Rattle.chunk.specs.declared.form.Kind.TheVariants.{Normal, Verbatim, Math}
use Rattle.chunk.specs.Chunk.{Chunk, ChunkRow, chunk_rows, chunk_of, chunks_of, is_chunk, every_chunk, are_chunks}
use Rattle.chunk.specs.Format.{Written, before, is_line_end, white, lines, format_one, format_from}
use Rattle.chunk.specs.Format.{is_escapable, escaped, opening, body_of, closing, extra_after, biblatex_from, to_biblatex_string}
use Rattle.chunk.specs.Write.{checked_of, Write}
use Rattle.chunk.specs.WellFormed.{TextsUtf8, WellFormed}
use Rattle.chunk.specs.WellFormed as texts
use Rattle.chunk.proofs.texts.PassedSequences.{ascii, Kept, low, high, kept, high-plain, high-escaped}
use Rattle.chunk.proofs.texts.LineEnds.{run}
use Rattle.chunk.proofs.texts.Escapes.{escaped-append}
use Rattle.chunk.proofs.sentences.Sizes.{sentence-octets}
use Rattle.chunk.proofs.rows.Answers.{are-chunks, written}

-- ---- what is written of a text

-- what is written of the text is UTF-8, whatever stood before it
abbrev Lined : List ℕ → Type 0
Lined t = (w : Bool) (u : List ℕ) → Octets (lines w u t).text

line-char : (b : ℕ) (s : List ℕ) → b ≤ 0x7F → Lined s → Lined (b ∷ s)
unfolding lines
line-char b s h ih w u = by (is_line_end b) (white w u)
  where
    by : (x y : Bool) →
        Octets (cond x (cond y (lines true [] s) (before (0x20 ∷ []) (lines true [] s))) (before (b ∷ []) (lines w (u ++ b ∷ []) s))).text
    by true true = ih true []
    by true false = next (0x20 ∷ []) (ascii 0x20 (omega arith)) (ih true [])
    by false y = next (b ∷ []) (ascii b h) (ih w (u ++ b ∷ []))

lines-octets : {t : List ℕ} → Octets t → Lined t
unfolding lines
lines-octets none w u = none
lines-octets (next c {s} e o) w u = by (kept (shapes.char-shape c e)) e (λ w u. lines-octets o w u) w u
  where
    by : {c : List ℕ} → Kept c → is_char c ≡ true → Lined s → Lined (c ++ s)
    by (low {b} h) e ih w u = line-char b s h ih w u
    by {c} (high h) e ih w u = subst (λ (x : Written). Octets x.text) (sym (run w u c s (high-plain h))) (next c e (ih w (u ++ c)))

escaped-octets : (verb : Bool) {t : List ℕ} → Octets t → Octets (escaped verb t)
unfolding escaped
escaped-octets verb none = none
escaped-octets verb (next c {s} e o) =
    subst Octets (sym (escaped-append verb c s)) (shapes.octets-append (by (kept (shapes.char-shape c e)) e) (escaped-octets verb o))
  where
    alone : (b : ℕ) → b ≤ 0x7F → (x : Bool) → Octets (cond x (0x5C ∷ b ∷ []) (b ∷ []))
    alone b h true = next (0x5C ∷ []) (ascii 0x5C (omega arith)) (shapes.ascii-text b h)
    alone b h false = shapes.ascii-text b h

    by : {c : List ℕ} → Kept c → is_char c ≡ true → Octets (escaped verb c)
    by (low {b} h) e = alone b h (is_escapable b verb false)
    by {c} (high h) e = subst Octets (sym (high-escaped verb h)) (shapes.octets-char c e)

-- ---- what is written of chunks

one-octets : (w : Bool) (k : Kind) {t : List ℕ} → Octets t → Octets (format_one w k t).text
one-octets w Normal o = lines-octets o w []
one-octets w Verbatim o = o
one-octets w Math o = next (0x24 ∷ []) (ascii 0x24 (omega arith)) (shapes.octets-append o (shapes.ascii-text 0x24 (omega arith)))

format-octets : (w : Bool) {cs : List Chunk} → TextsUtf8 cs → Octets (format_from w cs)
unfolding format_from
format-octets w texts.none = none
format-octets w (texts.next {c} o h) = shapes.octets-append (one-octets w c.kind o) (format-octets (format_one w c.kind c.text).white h)

opening-octets : (extra : Bool) (k : Kind) → Octets (opening extra k)
opening-octets false Normal = none
opening-octets true Normal = shapes.ascii-text 0x7D (omega arith)
opening-octets false Verbatim = shapes.ascii-text 0x7B (omega arith)
opening-octets true Verbatim = none
opening-octets extra Math = shapes.ascii-text 0x24 (omega arith)

body-octets : (verb : Bool) (k : Kind) {t : List ℕ} → Octets t → Octets (body_of verb k t)
body-octets verb Normal o = escaped-octets verb o
body-octets verb Verbatim o = escaped-octets verb o
body-octets verb Math o = shapes.octets-append o (shapes.ascii-text 0x24 (omega arith))

closing-octets : (extra : Bool) → Octets (closing extra)
closing-octets false = shapes.ascii-text 0x7D (omega arith)
closing-octets true = next (0x7D ∷ []) (ascii 0x7D (omega arith)) (shapes.ascii-text 0x7D (omega arith))

write-octets : (verb extra : Bool) {cs : List Chunk} → TextsUtf8 cs → Octets (biblatex_from verb extra cs)
unfolding biblatex_from
write-octets verb extra texts.none = closing-octets extra
write-octets verb extra (texts.next {c} o h) =
    shapes.octets-append (shapes.octets-append (opening-octets extra c.kind) (body-octets verb c.kind o))
    (write-octets verb (extra_after extra c.kind) h)

string-octets : (verb : Bool) (cs : List Chunk) → TextsUtf8 cs → Octets (to_biblatex_string verb cs)
string-octets verb cs h = next (0x7B ∷ []) (ascii 0x7B (omega arith)) (write-octets verb false h)

-- ---- chunks that pass the check are UTF-8

row-octets : (t : List ℕ) (r : ChunkRow) → Octets t → is_chunk t r ≡ true → Octets (chunk_of t r).text
row-octets t r o e =
    let b = both_true _ _ (both_true (leb r.kind 2) _ e).1 in
    let c = both_true (is_boundary t r.from) (is_boundary t r.to) b.1 in
    boundaries.between t r.from r.to o (leb-true _ _ b.0) c.0 c.1

rows-texts : (t : List ℕ) (rs : List ChunkRow) → Octets t → every_chunk t rs ≡ true → TextsUtf8 (map (chunk_of t) rs)
unfolding every
rows-texts t [] o e = texts.none
rows-texts t (r ∷ rs) o e = let b = both_true (is_chunk t r) (every_chunk t rs) e in texts.next (row-octets t r o b.0) (rows-texts t rs o b.1)

check-texts : (t l : List ℕ) → checked_of t l ≡ Ok tt → TextsUtf8 (chunks_of t l)
unfolding are_chunks
check-texts t l e =
    let s = are-chunks t l e in
    rows-texts t (chunk_rows l) ((rfc3629.accepts t).0 s.0) (both_true (eqb (length l % 5) 0) (every_chunk t (chunk_rows l)) s.1).1

append-texts : {cs ds : List Chunk} → TextsUtf8 cs → TextsUtf8 ds → TextsUtf8 (cs ++ ds)
append-texts texts.none k = k
append-texts (texts.next o h) k = texts.next o (append-texts h k)

-- ---- the calls

call-octets : (t l : List ℕ) {w b b' : List ℕ} {n : ℕ} → (TextsUtf8 (chunks_of t l) → Octets w) → Write (checked_of t l) w b (Ok n) b' →
    Octets (take n b')
call-octets t l f h = let s = written (checked_of t l) h in subst Octets (sym s.1) (f (check-texts t l s.0))

pub well-formed : WellFormed
well-formed = record {
  checked = check-texts;
  formatted = λ cs h. format-octets false h;
  serialized = string-octets;
  sentenced = λ cs h. sentence-octets true false h;
  append = append-texts;
  formats = λ t l b b' n h. call-octets t l (λ x. format-octets false x) h;
  writes = λ verb t l b b' n h. call-octets t l (string-octets verb (chunks_of t l)) h;
  sentences = λ t l b b' n h. call-octets t l (λ x. sentence-octets true false x) h;
}
