-- A command and its argument: for `begin` and `finish` of src/content.rt.
--     begun            the state with which an argument's content begins
--     finished         what a command makes of its argument when the content is read
-- Assumes nothing.
use Rattle.std.proofs.Common.{ℕ, zero, suc, ◌+◌, ◌*◌, ◌≤◌, ◌<◌, max, arith, ◌≡◌, refl, sym, ap, ap₂, subst}
use Rattle.std.proofs.Common.{◌∙◌, Bool, false, List, [], ◌∷◌, ◌++◌, append_assoc, append-nil, length, take, drop, length-append, take-take, length-take-le}
use lib.Seq.{take-append_seam, drop-append_seam}
use Rattle.text.specs.Scan.{part}
use Rattle.chunk.specs.declared.form.Kind.{Kind}
use Rattle.chunk.specs.Chunk.{Chunk, chunk}
use Rattle.chunk.specs.Format.{format_one, format_from, format_verbatim, lines, white_from}
use Rattle.text.proofs.general.Parts.{length_part, part-drop}
use Rattle.chunk.proofs.passes.ChunkByChunk.{format-on}
use Rattle.command.specs.declared.meaning.Meaning.{Meaning}
use Rattle.command.specs.Stack.{Lays, default_chunk}
use Rattle.command.specs.Commands.{meaning_of}
use Rattle.command.specs.Execute.{given, leading, executed, execute_command}
use Rattle.literal.specs.declared.rows.Rows.{Rows}
use Rattle.literal.specs.declared.making.Making.{Making}
use Rattle.turn.specs.Content.{Part, State, beginning, steps, closed, chunks_of}
use Rattle.literal.specs.Inner.{HoldsState, ArgumentBegun, ArgumentFinished, Further, in_argument, whole_text}
use Rattle.literal.proofs.ways.MakingWays.{held-text, held_below}

pub begun : (name : List ℕ) (k : Meaning) (p : ℕ) (m : Making) (o : List ℕ) (rows : Rows) (r : ℕ) (o' : List ℕ)
    → Lays m.len (leading name k) o r o' → m.len ≤ length o
    → ArgumentBegun name k p m o (record { at = p; braces = 0; pushed = false; start = p; from = r; len = r; white = false; rows = rows }) o'
unfolding format_from white_from
begun name k p m o rows r o' h l = record {
  at = refl;
  braces = refl;
  holds = record {
    stack = h.text ∙ sym (append-nil (take m.len o ++ leading name k)) ∙ sym (append-nil (take m.len o ++ leading name k ++ []));
    from = omega (arith, h.end, length-take-le m.len o l, length-append (take m.len o) (leading name k));
    len = omega arith;
    start = refl;
    kind = refl;
    white = λ e. refl;
    pushed = refl;
    rows = refl;
  };
}

-- a part that lies below what was written is as it was
pub part_same : (o o₁ : List ℕ) (a e f : ℕ) → take f o₁ ≡ take f o → e ≤ f → f ≤ length o → f ≤ length o₁ → part o₁ a e ≡ part o a e
part_same o o₁ a e f h i j k =
    cut o₁ (omega (arith, i, k)) ∙ ap (drop a) (sym (take-take e f o₁ i) ∙ ap (take e) h ∙ take-take e f o i) ∙ sym (cut o (omega (arith, i, j)))
  where
    cut : (l : List ℕ) → e ≤ length l → part l a e ≡ drop a (take e l)
    cut l q = part-drop l a e q

-- the last chunk is formatted behind the others; without text it comes to nothing
format-closed : (σ : State) (n e : ℕ) (t : List ℕ) (cs : List Chunk) → σ.kind ≡ default_chunk n → σ.text ≡ t
    → format_verbatim (closed σ e t cs) ≡ format_verbatim σ.done ++ (format_one (white_from false σ.done) σ.kind σ.text).text
unfolding lines
format-closed σ n e [] [] k p = format-on σ.done false (chunk σ.kind σ.text σ.start e)
format-closed σ n e [] (c ∷ cs) k p =
    sym (append-nil (format_verbatim σ.done))
    ∙ ap (λ (t : List ℕ). format_verbatim σ.done ++ t)
    (nothing n ∙ ap₂ (λ (k : Kind) (t : List ℕ). (format_one (white_from false σ.done) k t).text) (sym k) (sym p))
  where
    nothing : (n : ℕ) → [] ≡ (format_one (white_from false σ.done) (default_chunk n) []).text
    nothing zero = refl
    nothing (suc n) = refl
format-closed σ n e (b ∷ t) cs k p = format-on σ.done false (chunk σ.kind σ.text σ.start e)

module _ (name : List ℕ) (k : Meaning) (p e : ℕ) (m t : Making) (o : List ℕ) (lead w : ℕ) (o₁ : List ℕ) (l : ℕ) (o₂ : List ℕ) (m' : Making)
    (i : k ≡ meaning_of name) (a : t.from ≤ t.len) (b : t.len ≤ length o) (c : m.len ≤ lead) (d : lead ≤ t.from) (f : lead ≤ length o)
    (u : part o m.len lead ≡ leading name k)
    (x : Lays t.from (format_one t.white (default_chunk t.braces) (part o t.from t.len)).text o w o₁) (y : w ≤ length o₁)
    (z : Lays m.len (executed name (given (part o₁ lead w)) k) o₁ l o₂) (g : Further m (e + 1) l m') where
  module _ (T : List ℕ) (q : ℕ) (xs : List Part) (v : length T ≡ m.len) (h : HoldsState in_argument (T ++ leading name k) [] [] (steps (beginning p) xs) t
      o []) where
    abbrev σ : State
    σ = steps (beginning p) xs

    abbrev before : List ℕ
    before = T ++ leading name k

    abbrev S : List ℕ
    S = format_verbatim σ.done

    abbrev F : List ℕ
    F = (format_one (white_from false σ.done) σ.kind σ.text).text

    last-chunk : (format_one t.white (default_chunk t.braces) (part o t.from t.len)).text ≡ F
    last-chunk =
        ap₂ (λ (x : Bool) (s : List ℕ). (format_one x (default_chunk t.braces) s).text) (h.white refl)
        (held-text in_argument before [] [] σ t o [] h a b)
        ∙ ap (λ (y : Kind). (format_one (white_from false σ.done) y σ.text).text) (sym h.kind)

    whole : take w o₁ ≡ before ++ (S ++ F)
    whole =
        x.text ∙ ap₂ (λ (s r : List ℕ). s ++ r) (held_below in_argument before [] [] σ t o [] h a b) last-chunk ∙ append_assoc before S F

    lead-at : length before ≡ lead
    lead-at = omega (arith, length-append T (leading name k), v, ap length u, length_part o m.len lead c f, c)

    argument : part o₁ lead w ≡ format_verbatim (chunks_of p q xs)
    argument =
        part-drop o₁ lead w y ∙ ap (drop lead) whole
        ∙ ap (λ (n : ℕ). drop n (before ++ (S ++ F))) (sym lead-at) ∙ drop-append_seam before (S ++ F)
        ∙ sym (format-closed σ t.braces q σ.text σ.done h.kind refl)

    kept : take m.len o₁ ≡ T
    kept =
        sym (take-take m.len w o₁ (omega (arith, x.end, c, d))) ∙ ap (take m.len) (whole ∙ append_assoc T (leading name k) (S ++ F))
        ∙ ap (λ (n : ℕ). take n (T ++ (leading name k ++ (S ++ F)))) (sym v) ∙ take-append_seam T (leading name k ++ (S ++ F))

    ran : executed name (given (part o₁ lead w)) k ≡ whole_text name p q xs
    unfolding execute_command
    ran = ap₂ (λ (s : List ℕ) (k : Meaning). executed name (given s) k) argument i

    end-at : l ≡ m.len + length (whole_text name p q xs)
    end-at = z.end ∙ ap (λ (s : List ℕ). m.len + length s) ran

    pub finished-one : Further m (e + 1) (m.len + length (whole_text name p q xs)) m'
        × (take (m.len + length (whole_text name p q xs)) o₂ ≡ T ++ whole_text name p q xs)
    finished-one = (
      subst (λ (n : ℕ). Further m (e + 1) n m') end-at g,
      ap (λ (n : ℕ). take n o₂) (sym end-at) ∙ z.text ∙ ap₂ (λ (s r : List ℕ). s ++ r) kept ran,
    )

  pub finished : ArgumentFinished name k p e m t o m' o₂
  finished T q xs v h = finished-one T q xs v h

-- ---- room

pub finish-room : (len at end to n lead f t w L : ℕ) → at + 2 ≤ end → end + 1 ≤ to → to < len → n ≤ lead → lead + (at + 1) ≤ n + end + 2 → lead ≤ f
    → f ≤ t
    → t + 2 * (end + 1) ≤ lead + 2 * to → n + 2 * len ≤ L + 2 * at → w ≤ t → f ≤ w
    → (n + end ≤ L + (at + 1)) × (w < L) × (n + w + 2 ≤ L + lead) × (n + 3 ≤ L)
finish-room len at end to n lead f t w L a b c d e g h i j k m = (omega arith, omega arith, omega arith, omega arith)

pub finish-grows : (at end to n lead t w l : ℕ) → at + 2 ≤ end → end + 1 ≤ to → n ≤ lead → lead + (at + 1) ≤ n + end + 2 → lead ≤ w → w ≤ t
    → t + 2 * (end + 1) ≤ lead + 2 * to → l + lead + (at + 1) ≤ max (max (w + 1 + lead + (at + 1)) (n + 3 + end + lead)) (n + w + 2 + (at + 1))
    → l + 2 * at ≤ n + 2 * (to + 1)
finish-grows at end to n lead t w l a b c d e f g h = omega arith
