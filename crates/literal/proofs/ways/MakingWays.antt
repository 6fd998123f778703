-- A chunk is done: for `turnaround` and `put_math` of src/making.rt.
--     Narrowed                             a place as a row has it
--     texts-append, no_text                the text of chunks and one more; a text of no length
--     held-text, held_below                what stands in the bytes
--     argument-holds, literal-done         the two ways through `turnaround`
--     math-argument, math-literal          the two ways through `put_math`
-- Assumes nothing.
use Rattle.std.proofs.Common.{ℕ, zero, suc, ◌+◌, ◌≤◌, arith, ◌≡◌, refl, sym, ap, ap₂, subst, ◌∙◌, Bool}
use Rattle.std.proofs.Common.{true, false, List, [], ◌∷◌, ◌++◌, map, append_assoc, append-nil, length, take, drop, length-append, take-take}
use lib.Seq.{take-append_seam, drop-append_seam}
use Rattle.text.specs.Scan.{part}
use Rattle.chunk.specs.declared.form.Kind.{Kind}
use Rattle.chunk.specs.declared.form.Kind.TheVariants.{Verbatim, Math}
use Rattle.chunk.specs.Chunk.{Chunk, chunk}
use Rattle.chunk.specs.Format.{Written, format_one, white_from}
use Rattle.text.proofs.general.Parts.{part-drop}
use Rattle.text.proofs.general.Tests.{true-not-false}
use Rattle.chunk.proofs.passes.ChunkByChunk.{format-on, white-on}
use Rattle.command.specs.Stack.{Lays, default_chunk}
use Rattle.command.proofs.stacks.LaysLaws.{lays-on}
use Rattle.literal.specs.declared.rows.Rows.{Rows}
use Rattle.literal.specs.declared.making.Making.{Making}
use Rattle.literal.specs.declared.making.Place.{Place}
use Rattle.turn.specs.Content.{cut, math, State, steps, flatten}
use Rattle.literal.specs.Literal.{chunk_up}
use Rattle.literal.specs.Rows.{RowsHold, texts_of, onto, Ranges, Pushes, most_number}
use Rattle.literal.specs.Inner.{HoldsState, RowsHeld, ChunkDone, standing, some}
use Rattle.literal.proofs.Joining.{joining}
use Rattle.literal.proofs.Flattening.{flattening}

-- ---- texts of chunks

pub texts-append : (cs : List Chunk) (d : Chunk) → texts_of (cs ++ d ∷ []) ≡ texts_of cs ++ d.text
unfolding texts_of
texts-append cs d = flattening.texts-both cs (d ∷ []) ∙ ap (λ (t : List ℕ). texts_of cs ++ t) (append-nil d.text)

up-snoc : (base : ℕ) (cs : List Chunk) (d : Chunk) → map (chunk_up base) (cs ++ d ∷ []) ≡ map (chunk_up base) cs ++ chunk_up base d ∷ []
up-snoc base [] d = refl
up-snoc base (c ∷ cs) d = ap (λ (l : List Chunk). chunk_up base c ∷ l) (up-snoc base cs d)

some-snoc : (cs : List Chunk) (d : Chunk) → true ≡ some (cs ++ d ∷ [])
some-snoc [] d = refl
some-snoc (c ∷ cs) d = refl

pub verbatim-some : (n : ℕ) → (n ≡ 0 → ⊥) → Verbatim ≡ default_chunk n
verbatim-some zero h = absurd (h refl)
verbatim-some (suc n) h = refl

-- ---- places

-- r is n, if 32 bits hold it
abbrev pub Narrowed : ℕ → ℕ → Type 0
Narrowed n r = n ≤ most_number → r ≡ n

-- ---- a state and the bytes

module _ (place : Place) (t₀ : List ℕ) (ps : List Chunk) (b₀ : List ℕ) (σ : State) (m : Making) (o b : List ℕ) (h : HoldsState place t₀ ps b₀ σ m o b)
    (l : m.from ≤ m.len) (k : m.len ≤ length o) where
  abbrev before : List ℕ
  before = t₀ ++ standing place.argument σ.done

  before-length : length before ≡ m.from
  before-length = length-append t₀ (standing place.argument σ.done) ∙ sym h.from

  pub held-text : part o m.from m.len ≡ σ.text
  held-text =
      part-drop o m.from m.len k
      ∙ ap (drop m.from) h.stack ∙ ap (λ (n : ℕ). drop n (before ++ σ.text)) (sym before-length) ∙ drop-append_seam before σ.text

  pub held_below : take m.from o ≡ before
  held_below =
      sym (take-take m.from m.len o l) ∙ ap (take m.from) h.stack ∙ ap (λ (n : ℕ). take n (before ++ σ.text)) (sym before-length)
      ∙ take-append_seam before σ.text

  -- ---- in an argument

  module _ (e d p : ℕ) (a : place.argument ≡ true) (r : ℕ) (w : Bool) (o' : List ℕ) where
    abbrev c : Chunk
    c = chunk σ.kind σ.text σ.start e

    abbrev formatted : Written
    formatted = format_one m.white (default_chunk m.braces) (part o m.from m.len)

    same : formatted ≡ format_one (white_from false σ.done) σ.kind σ.text
    same =
        ap₂ (λ (x : Bool) (t : List ℕ). format_one x (default_chunk m.braces) t) (h.white a) held-text
        ∙ ap (λ (y : Kind). format_one (white_from false σ.done) y σ.text) (sym h.kind)

    stands : standing place.argument (σ.done ++ c ∷ []) ≡ standing place.argument σ.done ++ formatted.text
    stands =
        ap (λ (x : Bool). standing x (σ.done ++ c ∷ [])) a ∙ format-on σ.done false c
        ∙ ap₂ (λ (t : List ℕ) (y : Written). t ++ y.text) (ap (λ (x : Bool). standing x σ.done) (sym a)) (sym same)

    pub argument-holds : Lays m.from formatted.text o r o' → w ≡ formatted.white
        → HoldsState place t₀ ps b₀ (steps σ (cut d e p ∷ [])) (record {
          at = p;
          braces = d;
          pushed = true;
          start = p;
          from = r;
          len = r;
          white = w;
          rows =
              m.rows;
        }) o' b
    unfolding steps
    argument-holds x y = record {
      stack = x.text ∙ ap (λ (t : List ℕ). t ++ formatted.text) held_below ∙ append_assoc t₀ (standing place.argument σ.done)
          formatted.text
          ∙ ap (λ (t : List ℕ). t₀ ++ t) (sym stands) ∙ sym (append-nil (t₀ ++ standing place.argument (σ.done ++ c ∷ [])));
      from = omega (arith, x.end, h.from, ap length stands, length-append (standing place.argument σ.done) formatted.text);
      len = omega arith;
      start = refl;
      kind = refl;
      white = λ q. y ∙ ap (λ (z : Written). z.white) same ∙ sym (white-on σ.done false c);
      pushed = some-snoc σ.done c;
      rows = subst (λ (x : Bool). RowsHeld x place t₀ ps b₀ (σ.done ++ c ∷ []) m.rows b) (sym a)
          (subst (λ (x : Bool). RowsHeld x place t₀ ps b₀ σ.done m.rows b) a h.rows);
    }

  -- ---- in a literal

  module _ (e d p : ℕ) (a : place.argument ≡ false) (kind : Kind) (from to first last : ℕ) (k' : Rows) (b' : List ℕ) where
    abbrev c₁ : Chunk
    c₁ = chunk σ.kind σ.text σ.start e

    abbrev base : ℕ
    base = place.base

    abbrev all : List Chunk
    all = ps ++ map (chunk_up base) σ.done

    held : RowsHold (flatten all) b₀ m.rows b × (place.text ≡ length (texts_of ps)) × (length t₀ ≡ 0)
    held = subst (λ (x : Bool). RowsHeld x place t₀ ps b₀ σ.done m.rows b) a h.rows

    plain : standing place.argument σ.done ≡ texts_of σ.done
    plain = ap (λ (x : Bool). standing x σ.done) a

    stands_plain : standing place.argument (σ.done ++ c₁ ∷ []) ≡ standing place.argument σ.done ++ σ.text
    stands_plain = ap (λ (x : Bool). standing x (σ.done ++ c₁ ∷ [])) a ∙ texts-append σ.done c₁ ∙ ap (λ (t : List ℕ). t ++ σ.text) (sym plain)

    texts-all : length (texts_of (flatten all)) ≡ place.text + m.from
    texts-all = omega (
      arith,
      ap length (flattening.texts-flat all),
      ap length (flattening.texts-both ps (map (chunk_up base) σ.done)),
      length-append (texts_of ps) (texts_of (map (chunk_up base) σ.done)),
      ap length (flattening.texts-up base σ.done),
      held.1,
      held.2,
      h.from,
      ap length plain,
    )

    flat-more : flatten (ps ++ map (chunk_up base) (σ.done ++ c₁ ∷ [])) ≡ onto (flatten all) (chunk_up base c₁)
    flat-more =
        ap (λ (l : List Chunk). flatten (ps ++ l)) (up-snoc base σ.done c₁)
        ∙ ap flatten (sym (append_assoc ps (map (chunk_up base) σ.done) (chunk_up base c₁ ∷ []))) ∙ joining all (chunk_up base c₁)

    module _ (i : kind ≡ default_chunk m.braces) (u : Narrowed (place.text + m.from) from) (v : Narrowed (place.text + m.len) to)
        (x : first ≡ place.base + m.start) (y : last ≡ place.base + e) (z : Pushes kind from to first last m.rows b k' b') where
      lifted : chunk kind σ.text first last ≡ chunk_up base c₁
      lifted =
          ap₂ (λ (q : Kind) (n : ℕ). chunk q σ.text n last) (i ∙ sym h.kind) (omega (arith, x, h.start))
          ∙ ap (λ (n : ℕ). chunk σ.kind σ.text (σ.start + base) n) (omega (arith, y))

      now-held : RowsHold (flatten (ps ++ map (chunk_up base) (σ.done ++ c₁ ∷ []))) b₀ k' b'
      now-held =
          subst (λ (l : List Chunk). RowsHold l b₀ k' b') (ap (onto (flatten all)) lifted ∙ sym flat-more)
          (z (flatten all) σ.text b₀ ranges held.0)
        where
          ranges : Ranges (flatten all) σ.text from to
          ranges s =
              let p = u (omega (arith, s, texts-all)) in
              (p ∙ sym texts-all, omega (arith, p, v (omega (arith, s, texts-all, h.len)), h.len))

      literal-holds : HoldsState place t₀ ps b₀ (steps σ (cut d e p ∷ []))
          (record { at = p; braces = d; pushed = true; start = p; from = m.len; len = m.len; white = m.white; rows = k' }) o b'
      unfolding steps
      literal-holds = record {
        stack = h.stack ∙ append_assoc t₀ (standing place.argument σ.done) σ.text ∙ ap (λ (t : List ℕ). t₀ ++ t) (sym stands_plain)
            ∙ sym (append-nil (t₀ ++ standing place.argument (σ.done ++ c₁ ∷ [])));
        from = omega (arith, h.from, h.len, ap length stands_plain, length-append (standing place.argument σ.done) σ.text);
        len = omega arith;
        start = refl;
        kind = refl;
        white = λ q. true-not-false place.argument q a;
        pushed = some-snoc σ.done c₁;
        rows = subst (λ (x : Bool). RowsHeld x place t₀ ps b₀ (σ.done ++ c₁ ∷ []) k' b') (sym a) (now-held, held.1, held.2);
      }

-- in a literal the chunk becomes a row
pub literal-done : (place : Place) (m : Making) (o b : List ℕ) (e d p : ℕ) → m.from ≤ m.len → m.len ≤ length o → place.argument ≡ false → (kind : Kind)
    (from to first last : ℕ) (k' : Rows) (b' : List ℕ) → kind ≡ default_chunk m.braces → Narrowed (place.text + m.from) from
    → Narrowed (place.text + m.len) to → first ≡ place.base + m.start → last ≡ place.base + e → Pushes kind from to first last m.rows b k' b' → k'.n ≤ m.rows.n + 1
    → ChunkDone place m e d p o b (record { at = p; braces = d; pushed = true; start = p; from = m.len; len = m.len; white = m.white; rows = k' })
    o b'
literal-done place m o b e d p l k a kind from to first last k' b' i u v x y z few = record {
  goes = λ t₀ ps b₀ σ h. literal-holds place t₀ ps b₀ σ m o b h l k e d p a kind from to first last k' b' i u v x y z;
  at = refl;
  braces = refl;
  start = refl;
  from = refl;
  len = omega arith;
  rows = few;
}

-- ---- a chunk of math, behind a chunk that is done

pub no_text : (t : List ℕ) → length t ≡ 0 → t ≡ []
no_text [] h = refl
no_text (b ∷ t) h = absurd (omega (arith, h))

module _ (place : Place) (t₀ : List ℕ) (ps : List Chunk) (b₀ : List ℕ) (σ : State) (m : Making) (o b : List ℕ) (h : HoldsState place t₀ ps b₀ σ m o b)
    (same_end : m.from ≡ m.len) (w : List ℕ) (a e : ℕ) (o' : List ℕ) (l : ℕ) where
  none : σ.text ≡ []
  none = no_text σ.text (omega (arith, same_end, h.len))

  abbrev μ : Chunk
  μ = chunk Math w a e

  abbrev S : List ℕ
  S = standing place.argument σ.done

  below : take m.len o ≡ t₀ ++ S
  below = h.stack ∙ ap (λ (t : List ℕ). (t₀ ++ S) ++ t) none ∙ append-nil (t₀ ++ S)

  module _ (v : List ℕ) (x : Lays m.len v o l o') (stands : standing place.argument (σ.done ++ μ ∷ []) ≡ S ++ v) where
    stack-math : take l o' ≡ (t₀ ++ standing place.argument (σ.done ++ μ ∷ [])) ++ σ.text
    stack-math =
        x.text ∙ ap (λ (t : List ℕ). t ++ v) below ∙ append_assoc t₀ S v ∙ ap (λ (t : List ℕ). t₀ ++ t) (sym stands)
        ∙ sym (append-nil (t₀ ++ standing place.argument (σ.done ++ μ ∷ [])))
        ∙ ap (λ (t : List ℕ). (t₀ ++ standing place.argument (σ.done ++ μ ∷ [])) ++ t) (sym none)

    from-math : l ≡ length t₀ + length (standing place.argument (σ.done ++ μ ∷ []))
    from-math = omega (arith, x.end, same_end, h.from, ap length stands, length-append S v)

  abbrev made : Rows → Making
  made k = record { at = m.at; braces = m.braces; pushed = true; start = m.start; from = l; len = l; white = m.white; rows = k }

  pub math-argument : place.argument ≡ true → Lays m.len (0x24 ∷ w ++ 0x24 ∷ []) o l o'
      → HoldsState place t₀ ps b₀ (steps σ (math w a e ∷ [])) (made m.rows) o' b
  unfolding steps
  math-argument i x =
      let stands : standing place.argument (σ.done ++ μ ∷ []) ≡ S ++ (0x24 ∷ w ++ 0x24 ∷ []) =
      ap (λ (x : Bool). standing x (σ.done ++ μ ∷ [])) i ∙ format-on σ.done false μ
      ∙ ap (λ (t : List ℕ). t ++ (0x24 ∷ w ++ 0x24 ∷ [])) (ap (λ (x : Bool). standing x σ.done) (sym i)) in
      record {
        stack = stack-math (0x24 ∷ w ++ 0x24 ∷ []) x stands;
        from = from-math (0x24 ∷ w ++ 0x24 ∷ []) x stands;
        len = omega (arith, ap length none);
        start = h.start;
        kind = h.kind;
        white = λ q. h.white q ∙ sym (white-on σ.done false μ);
        pushed = some-snoc σ.done μ;
        rows = subst (λ (x : Bool). RowsHeld x place t₀ ps b₀ (σ.done ++ μ ∷ []) m.rows b) (sym i)
            (subst (λ (x : Bool). RowsHeld x place t₀ ps b₀ σ.done m.rows b) i h.rows);
      }

  module _ (i : place.argument ≡ false) (x : Lays m.len w o l o') (from to first last : ℕ) (k' : Rows) (b' : List ℕ)
      (u : Narrowed (place.text + m.len) from) (v : Narrowed (place.text + l) to) (y : first ≡ place.base + a) (z : last ≡ place.base + e)
      (push : Pushes Math from to first last m.rows b k' b')
    where
      abbrev base₁ : ℕ
      base₁ = place.base

      abbrev all-chunks : List Chunk
      all-chunks = ps ++ map (chunk_up base₁) σ.done

      held-math : RowsHold (flatten all-chunks) b₀ m.rows b × (place.text ≡ length (texts_of ps)) × (length t₀ ≡ 0)
      held-math = subst (λ (x : Bool). RowsHeld x place t₀ ps b₀ σ.done m.rows b) i h.rows

      texts-all-chunks : length (texts_of (flatten all-chunks)) ≡ place.text + m.len
      texts-all-chunks = omega (
        arith,
        ap length (flattening.texts-flat all-chunks),
        ap length (flattening.texts-both ps (map (chunk_up base₁) σ.done)),
        length-append (texts_of ps) (texts_of (map (chunk_up base₁) σ.done)),
        ap length (flattening.texts-up base₁ σ.done),
        held-math.1,
        held-math.2,
        h.from,
        same_end,
        ap length (ap (λ (x : Bool). standing x σ.done) i),
      )

      more-math : RowsHold (flatten (ps ++ map (chunk_up base₁) (σ.done ++ μ ∷ []))) b₀ k' b'
      more-math =
          subst (λ (l : List Chunk). RowsHold l b₀ k' b')
          (ap (onto (flatten all-chunks)) (ap₂ (λ (p q : ℕ). chunk Math w p q) (omega (arith, y)) (omega (arith, z)))
          ∙ sym (ap (λ (l : List Chunk). flatten (ps ++ l)) (up-snoc base₁ σ.done μ)
          ∙ ap flatten (sym (append_assoc ps (map (chunk_up base₁) σ.done) (chunk_up base₁ μ ∷ []))) ∙ joining all-chunks (chunk_up base₁ μ)))
          (push (flatten all-chunks) w b₀ ranges-math held-math.0)
        where
          ranges-math : Ranges (flatten all-chunks) w from to
          ranges-math s =
              let p = u (omega (arith, s, texts-all-chunks)) in
              (p ∙ sym texts-all-chunks, omega (arith, p, v (omega (arith, s, texts-all-chunks, x.end)), x.end))

      pub math-literal : HoldsState place t₀ ps b₀ (steps σ (math w a e ∷ [])) (made k') o' b'
      unfolding steps
      math-literal =
          let stands : standing place.argument (σ.done ++ μ ∷ []) ≡ S ++ w =
          ap (λ (x : Bool). standing x (σ.done ++ μ ∷ [])) i ∙ texts-append σ.done μ
          ∙ ap (λ (t : List ℕ). t ++ w) (ap (λ (x : Bool). standing x σ.done) (sym i)) in
          record {
            stack = stack-math w x stands;
            from = from-math w x stands;
            len = omega (arith, ap length none);
            start = h.start;
            kind = h.kind;
            white = λ q. true-not-false place.argument q i;
            pushed = some-snoc σ.done μ;
            rows = subst (λ (x : Bool). RowsHeld x place t₀ ps b₀ (σ.done ++ μ ∷ []) k' b') (sym i) (more-math, held-math.1, held-math.2);
          }

-- three texts, one after another
pub lays-three : (n : ℕ) (x w y o : List ℕ) (r₁ : ℕ) (o₁ : List ℕ) (r₂ : ℕ) (o₂ : List ℕ) (r : ℕ) (o' : List ℕ) → Lays n x o r₁ o₁
    → Lays r₁ w o₁ r₂ o₂
    → Lays r₂ y o₂ r o' → Lays n (x ++ w ++ y) o r o'
lays-three n x w y o r₁ o₁ r₂ o₂ r o' h k l = lays-on n (x ++ w) y o r₂ o₂ r o' (lays-on n x w o r₁ o₁ r₂ o₂ h k) l
