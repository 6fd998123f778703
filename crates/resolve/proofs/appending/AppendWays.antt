-- The ways through the functions of src/progress.rt.
--     begun                                  `begin`
--     inside, append-over, append-on         `append`, where there is too much to write and where there is not
--     literal-few, literal-narrow, literal-refused, literal-done      `literal`
--     month-text, month-row                  `month`
--     fits_by                                `fits`
-- Assumes nothing.
use Rattle.std.specs.Prelude.{Result, Ok, Err}
use Prim.Native.Nat.{ℕ, ◌+◌, ◌-◌, ◌/◌, ◌≤◌}
use native.Mathlib.Omega.{arith}
use mathlib.Core.Path.{◌≡◌, refl, sym, ap, ap₂, subst, ◌∙◌}
use mathlib.Core.Bool.{Bool, true, false, not, ◌&&◌, ◌||◌}
use mathlib.Core.List.{List, [], ◌∷◌, ◌++◌, append-nil}
use lib.ListN.{length, length-append}
use lib.Seq.{sets}
use lib.Dec.{leb, ltb}
use borrow.Author.Tests.{ltb-true, ltb-false, not-true, not-false}
use Rattle.text.specs.Scan.{part}
use Rattle.text.proofs.general.Parts.{length_part, part-take}
use Rattle.text.proofs.general.Tests.{true-not-false, both_true}
use Rattle.row.specs.declared.fault.Fault.{Fault}
use Rattle.row.specs.Limits.{most_literal, least_scratch}
use Rattle.chunk.specs.declared.form.Kind.TheVariants.{Normal}
use Rattle.chunk.specs.Chunk.{Chunk, chunk}
use Rattle.chunk.specs.Put.{last_place}
use Rattle.turn.specs.Content.{flatten}
use Rattle.literal.specs.declared.rows.Rows.{Rows}
use Rattle.literal.specs.Literal.{Resolved, chunks}
use Rattle.literal.specs.Literal as literal
use Rattle.literal.specs.Inner.{SaysParsed, GrowsParsed}
use Rattle.literal.specs.Rows.{most_number, most_rows, RowsHold, Ranges, Pushes, texts_of}
use Rattle.literal.proofs.Flattening.{flattening}
use Rattle.literal.proofs.Joining.{joining}
use Rattle.resolve.specs.declared.progress.Progress.{Progress}
use Rattle.resolve.specs.Resolves.{roomy, fits}
use Rattle.resolve.specs.Runs.{of_literal}
use Rattle.resolve.specs.Progress.{small, Has, Appends, SaysRun, Narrow}
use Rattle.resolve.proofs.appending.SmallChunks.{small-text, small-rows, small-both, small-fits, small-more, sets_behind}

-- ---- no chunk

pub begun : (r : Progress) (b t : List ℕ) → r.over ≡ false → r.bytes ≡ 0 → RowsHold [] b r.rows b → Has [] b t r b t
unfolding small texts_of
begun r b t o n h = record { over = o; bytes = λ _. n; rows = λ _. h; text = λ _. refl }

-- ---- chunks behind others

-- the code's test
abbrev pub over : Progress → ℕ → ℕ → Bool
over st bytes rows = (st.over || ltb most_number bytes) || ltb most_rows rows

module _ (s : List ℕ) (st : Progress) (rows : Rows) (first last : ℕ) (f : first ≤ last) (l : last ≤ length s) where
  abbrev bytes : ℕ
  bytes = st.bytes + (last - first)

  pub inside : over st bytes rows.n ≡ false → (st.over ≡ false) × (bytes ≤ most_number) × (rows.n ≤ most_rows)
  inside = by st.over refl (ltb most_number bytes) refl (ltb most_rows rows.n) refl
    where
      by : (o : Bool) → st.over ≡ o → (v : Bool) → ltb most_number bytes ≡ v → (x : Bool) → ltb most_rows rows.n ≡ x → ((o || v) || x) ≡ false
          → (st.over ≡ false) × (bytes ≤ most_number) × (rows.n ≤ most_rows)
      by true p v q x r e = let z : ◌≡◌ {A = ℕ} 0 1 = cc in absurd (omega arith)
      by false p true q x r e = let z : ◌≡◌ {A = ℕ} 0 1 = cc in absurd (omega arith)
      by false p false q true r e = let z : ◌≡◌ {A = ℕ} 0 1 = cc in absurd (omega arith)
      by false p false q false r e = (p, ltb-false most_number bytes q, ltb-false most_rows rows.n r)

  module _ (ps cs : List Chunk) (b₀ t₀ b b' t t' : List ℕ) (w : st.over ≡ false → texts_of cs ≡ part s first last) (has : Has ps b₀ t₀ st b t)
      (held : st.over ≡ false → RowsHold (flatten (ps ++ cs)) b₀ rows b') where
    size : st.over ≡ false → length (texts_of (ps ++ cs)) ≡ bytes
    size o =
        ap length (flattening.texts-both ps cs) ∙ length-append (texts_of ps) (texts_of cs)
        ∙ ap₂ ◌+◌ (sym (has.bytes o)) (ap length (w o) ∙ length_part s first last f l)

    much : over st bytes rows.n ≡ true → small (flatten (ps ++ cs)) ≡ false
    much = by st.over refl (ltb most_number bytes) refl (ltb most_rows rows.n) refl
      where
        by : (o : Bool) → st.over ≡ o → (v : Bool) → ltb most_number bytes ≡ v → (x : Bool) → ltb most_rows rows.n ≡ x → ((o || v) || x) ≡ true
            → small (flatten (ps ++ cs)) ≡ false
        by true p v q x r e = small-more ps cs (not-true _ (sym has.over ∙ p))
        by false p true q x r e = small-text (ps ++ cs) (omega (arith, size p, ltb-true most_number bytes q))
        by false p false q true r e = small-rows (ps ++ cs) (omega (arith, (held p).count, ltb-true most_rows rows.n r))
        by false p false q false r e = let z : ◌≡◌ {A = ℕ} 0 1 = cc in absurd (omega arith)

    pub append-over : over st bytes rows.n ≡ true → (r : Progress) → r.over ≡ true → Has (ps ++ cs) b₀ t₀ r b' t'
    append-over e r o = record {
      over = o ∙ sym (ap not (much e));
      bytes = λ q. true-not-false r.over o q;
      rows = λ q. true-not-false r.over o q;
      text = λ q. true-not-false r.over o q;
    }

    pub append-on : over st bytes rows.n ≡ false → t' ≡ sets t st.bytes (part s first last) → (r : Progress) → r.over ≡ false → r.bytes ≡ bytes
        → r.rows ≡ rows → Has (ps ++ cs) b₀ t₀ r b' t'
    append-on e q r o m n = record {
      over = o ∙ sym (ap not (small-both (ps ++ cs) (omega (arith, keep.count, i.2)) (omega (arith, size i.0, i.1))));
      bytes = λ _. m ∙ sym (size i.0);
      rows = λ _. subst (λ (k : Rows). RowsHold (flatten (ps ++ cs)) b₀ k b') (sym n) keep;
      text = λ _. q ∙ ap₂ (λ (l : List ℕ) (n : ℕ). sets l n (part s first last)) (has.text i.0) (has.bytes i.0)
          ∙ ap (sets (sets t₀ 0 (texts_of ps)) (length (texts_of ps))) (sym (w i.0))
          ∙ sym (sets_behind (texts_of ps) (texts_of cs) t₀)
          ∙ ap (sets t₀ 0) (sym (flattening.texts-both ps cs));
    }
      where
        i : (st.over ≡ false) × (bytes ≤ most_number) × (rows.n ≤ most_rows)
        i = inside e

        keep : RowsHold (flatten (ps ++ cs)) b₀ rows b'
        keep = held i.0

-- ---- a literal

-- how much a literal comes to
pub literal-few : (have : Rows) (p : Result (Rows × ℕ) Fault) → GrowsParsed have p → (k : Rows) (len : ℕ) → p ≡ Ok (k, len)
    → (len ≤ least_scratch) × (k.n ≤ have.n + (most_literal + 1))
literal-few have p g k len e = subst (GrowsParsed have) e g

-- the places of its refusal have 32 bits
pub literal-narrow : (have : Rows) (p : Result (Rows × ℕ) Fault) → GrowsParsed have p → (f : Fault) → p ≡ Err f → Narrow f
literal-narrow have p g f e = let at = subst (GrowsParsed have) e g in (omega (arith, at.0), omega (arith, at.1))

module _ (x : Resolved) (st : Progress) (b t o b' : List ℕ) (p : Result (Rows × ℕ) Fault) (says : SaysParsed x st.bytes st.rows b p o b') where
  pub literal-refused : (f : Fault) → p ≡ Err f → SaysRun (of_literal x st.names) st b t (Err f) b' t
  literal-refused f e = by x (subst (λ (q : Result (Rows × ℕ) Fault). SaysParsed x st.bytes st.rows b q o b') e says)
    where
      by : (x : Resolved) → SaysParsed x st.bytes st.rows b (Err f) o b' → SaysRun (of_literal x st.names) st b t (Err f) b' t
      by (chunks cs) h = absurd h
      by (literal.refused g) h = h

  pub literal-done : (k : Rows) (len : ℕ) → p ≡ Ok (k, len) → len ≤ length o → (st' : Progress) (t' : List ℕ) → st'.names ≡ st.names
      → Appends k o 0 len st t st' t' → SaysRun (of_literal x st.names) st b t (Ok st') b' t'
  literal-done k len e l st' t' n app = by x (subst (λ (q : Result (Rows × ℕ) Fault). SaysParsed x st.bytes st.rows b q o b') e says)
    where
      by : (x : Resolved) → SaysParsed x st.bytes st.rows b (Ok (k, len)) o b'
          → SaysRun (of_literal x st.names) st b t (Ok st') b' t'
      by (chunks cs) h = (
        n,
        λ ps b₀ t₀ has.
            app ps cs b₀ t₀ b b' (λ v. sym (h ps b₀ (has.bytes v) (has.rows v)).text ∙ sym (part-take o len l)) has
            (λ v. (h ps b₀ (has.bytes v) (has.rows v)).rows),
      )
      by (literal.refused g) h = absurd h

-- ---- a month word

module _ (words : List ℕ) (from to start end : ℕ) where
  abbrev pub one : List Chunk
  one = chunk Normal (part words from to) start end ∷ []

  pub month-text : texts_of one ≡ part words from to
  unfolding texts_of
  month-text = append-nil (part words from to)

  pub month-row : (st : Progress) (ps : List Chunk) (b₀ t₀ b b' t : List ℕ) (k : Rows) (m n : ℕ) → from ≤ to → to ≤ length words
      → (st.bytes ≤ most_number → m ≡ st.bytes) → (st.bytes + (to - from) ≤ most_number → n ≡ st.bytes + (to - from))
      → Pushes Normal m n start end st.rows b k b' → Has ps b₀ t₀ st b t → st.over ≡ false → RowsHold (flatten (ps ++ one)) b₀ k b'
  month-row st ps b₀ t₀ b b' t k m n f l p q push has o =
      subst (λ (cs : List Chunk). RowsHold cs b₀ k b') (sym (joining ps (chunk Normal (part words from to) start end)))
      (push (flatten ps) (part words from to) b₀ ranges (has.rows o))
    where
      before : length (texts_of (flatten ps)) ≡ st.bytes
      before = ap length (flattening.texts-flat ps) ∙ sym (has.bytes o)

      ranges : Ranges (flatten ps) (part words from to) m n
      ranges s =
          let size = length_part words from to f l in
          let e = p (omega (arith, s, before)) in
          (e ∙ sym before, omega (arith, e, size, q (omega (arith, s, before, size))))

-- ---- room

module _ (st : Progress) (ps : List Chunk) (b₀ t₀ b t : List ℕ) (has : Has ps b₀ t₀ st b t) (c s : List ℕ) where
  -- the code's test
  abbrev room : Bool
  room = (not st.over && leb st.rows.n (length c / 5)) && leb st.bytes (length s)

  pub fits_by : length c ≤ last_place → (room ≡ fits (flatten ps) c s) × (room ≡ true → small (flatten ps) ≡ true)
  fits_by h = (by st.over refl ∙ sym (small-fits (flatten ps) c s h), counted)
    where
      by : (o : Bool) → st.over ≡ o → room ≡ (small (flatten ps) && roomy (flatten ps) c s)
      by true o = rw (o, not-true (small (flatten ps)) (sym has.over ∙ o))
      by false o = rw (o, not-false (small (flatten ps)) (sym has.over ∙ o), (has.rows o).count, has.bytes o, flattening.texts-flat ps)

      counted : room ≡ true → small (flatten ps) ≡ true
      counted q =
          let first = (both_true (not st.over && leb st.rows.n (length c / 5)) (leb st.bytes (length s)) q).0 in
          let o = not-true st.over (both_true (not st.over) (leb st.rows.n (length c / 5)) first).0 in
          not-false (small (flatten ps)) (sym has.over ∙ o)
