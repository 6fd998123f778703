-- One value more, counted and written behind the values before it.
--     One, one-is                  what was written of a value that has room
--     six-refused, six-chunks      the answer row of a value: `answer_row`
--     here-row, behind-row         what is required where a value row is next, and that its answer fits behind what was written: `write_row`
--     wrote-row, row_other         what is written when the row is done
--     wrote-start, wrote-end       before the first row and behind the last: `write`
-- Assumes nothing.
use Rattle.values.specs.declared.resolver.Resolver.{Resolver}
use Rattle.std.specs.Prelude.{Result, Ok, Err}
use Rattle.resolve.specs.declared.answer.Chunks.{Chunks}
use Prim.Native.Nat.{ℕ, ◌+◌, ◌-◌, ◌*◌, ◌/◌, ◌≤◌, ◌<◌}
use native.Mathlib.Omega.{arith}
use mathlib.Core.Path.{◌≡◌, refl, sym, ap, subst, ◌∙◌}
use mathlib.Core.Bool.{Bool, true, false, not}
use mathlib.Core.List.{List, [], ◌∷◌, ◌++◌}
use lib.ListN.{length, take, drop, length-append, length-drop}
use lib.Seq.{sets}
use borrow.Author.Tests.{le-leb}
use borrow.Rule.Slice.PartMut.{mid_of, put_mid}
use Rattle.chunk.specs.Chunk.{Chunk, flat_chunks}
use Rattle.literal.specs.Rows.{most_number, most_rows, rows_from, texts_of}
use Rattle.resolve.proofs.Asking.{asking}
use Rattle.row.specs.declared.fault.Fault.{Fault}
use Rattle.row.specs.Fault.{number_of}
use Rattle.row.specs.Numbers.{rows_of}
use Rattle.lookup.specs.Names.{row_no}
use Rattle.resolve.specs.Resolves.{Value, resolved, refused, fits, Writes}
use Rattle.resolve.specs.Checks.{Lent, lent_of}
use Rattle.resolve.specs.Progress.{small}
use Rattle.values.specs.Field.{field_of}
use Rattle.whole.specs.declared.file.Totals.{Totals}
use Rattle.whole.specs.WholeFile.{is_value_row, flag, results, values, chunks_in, texts, chunk_numbers, count_rows, six, answer_numbers, small_all, fits_all}
use Rattle.whole.specs.Filing.{Filing, CountsAll, SoFar, CountedTo, AddsAnswer, FitsBehind, six_of, WroteAll, WroteTo}
use Rattle.whole.proofs.values.Appended.{rows-one, text-one, text-more, numbers-one, answers_one, numbers-length, answers-length, six-length}
use Rattle.whole.proofs.values.Fitting.{ValuesRoom, fits-room, room-front, counts-small}
use Rattle.whole.proofs.values.RowByRow.{value_of, so-start, so-other, so-split, so-value, so-flag, so-end}
use Rattle.whole.proofs.counting.RowKinds.{inside, past}
use Rattle.whole.proofs.ways.LentParts.{mid-rest, put_rest, put-behind, sets_behind}

-- ---- a value that has room

abbrev told_of : Value → Result Chunks Fault
told_of (resolved cs n) = Ok (record { rows = length cs; bytes = length (texts_of cs); names = n })
told_of (refused f) = Err f

-- the value's rows and text stand in front of what the lent numbers b and bytes t held
pub record One (v : Value) (b t : List ℕ) (a : Result Chunks Fault) (b' t' : List ℕ) : Type 0 where
  pub told : a ≡ told_of v
  pub rows : b' ≡ flat_chunks (rows_from 0 (chunks_in v)) ++ drop (length (chunks_in v) * 5) b
  pub text : t' ≡ texts_of (chunks_in v) ++ drop (length (texts_of (chunks_in v))) t

small_is : (cs : List Chunk) → length cs ≤ most_number → length (texts_of cs) ≤ most_number → small cs ≡ true
unfolding small
small_is cs h k = rw (le-leb (length cs) most_rows (omega (arith, h)), le-leb (length (texts_of cs)) most_number k)

fits-is : (cs : List Chunk) (b t : List ℕ) → length (texts_of cs) ≤ most_number → length cs ≤ length b / 5 → length (texts_of cs) ≤ length t
    → fits cs b t ≡ true
fits-is cs b t k n m = rw (le-leb (length (texts_of cs)) most_number k, le-leb (length cs) (length b / 5) n, le-leb (length (texts_of cs)) (length t) m)

pub one-is : (v : Value) (b t : List ℕ) (a : Result Chunks Fault) (b' t' : List ℕ) → Writes v b t a b' t'
    → length (texts_of (chunks_in v)) ≤ most_number → length (chunks_in v) ≤ length b / 5 → length (texts_of (chunks_in v)) ≤ length t
    → One v b t a b' t'
unfolding flat_chunks rows_from texts_of
one-is (resolved cs n) b t a b' t' w k p m =
    let e = fits-is cs b t k p m in
    record { told = w.answer ∙ (rw e); rows = w.rows ∙ (rw e); text = w.text ∙ (rw e) }
one-is (refused f) b t a b' t' w k p m = record { told = w.answer; rows = w.rows; text = w.text }

six-is : (t : Totals) (v : Value) → six_of t (told_of v) ≡ six t.rows t.bytes v
six-is t (resolved cs n) = refl
six-is t (refused f) = refl

not-small : (cs : List Chunk) → small cs ≡ true → false ≡ not (small cs)
not-small cs e = rw e

adds_one : (t r : Totals) (vs : List Value) (v : Value) → CountsAll vs t → small (chunks_in v) ≡ true → AddsAnswer t (told_of v) r
    → CountsAll (vs ++ v ∷ []) r
unfolding texts_of
adds_one t r vs (resolved cs n) k e g = g vs (resolved cs n) k (not-small cs e, λ h. (refl, refl))
adds_one t r vs (refused f) k e g = g vs (refused f) k (not-small [] e, λ h. (refl, refl))

fits_one : (t : Totals) (v : Value) → t.rows + length (chunks_in v) ≤ most_number → t.bytes + length (texts_of (chunks_in v)) ≤ most_number
    → FitsBehind t (told_of v)
fits_one t (resolved cs n) h k = (h, k)
fits_one t (refused f) h k = tt

-- ---- a value row

-- what is required of the counts, with the flags, the answers q, the chunk rows b and the text x
pub record Here (t : Totals) (flags q b x : List ℕ) : Type 0 where
  pub flag : t.values < length flags
  pub few : t.rows ≤ most_number
  pub short : t.bytes ≤ most_number
  pub answers : t.values < length q / 6
  pub chunks : t.rows * 5 ≤ length b
  pub text : t.bytes ≤ length x

-- values that are small are counted exactly
counts-are : (vs : List Value) (t : Totals) → CountsAll vs t → small_all vs ≡ true → (t.rows ≡ count_rows vs) × (t.bytes ≡ length (texts vs))
counts-are vs t k e =
    let o : t.over ≡ false = k.over ∙ (rw e) in
    (k.rows o, k.bytes o)

module _ (l : Lent) (flags : List ℕ) (i : ℕ) (t : Totals) (q b x : List ℕ) (below : i < length l.rows)
    (y : is_value_row (row_no l.rows i) ≡ true) (fit : fits_all (results l flags) q b x ≡ true) where
  module _ (vs : List Value) (s : SoFar l flags i vs t) where
    room_next : ValuesRoom (vs ++ value_of l flags i vs ∷ []) q b x
    room_next =
        let split = so-split l flags i vs t below s y in
        room-front (vs ++ value_of l flags i vs ∷ []) _ q b x (fits-room _ q b x (ap (λ (ws : List Value). fits_all ws q b x) split ∙ fit))

    room-here : ValuesRoom vs q b x
    room-here = room-front vs (value_of l flags i vs ∷ []) q b x room_next

    counts-here : (t.rows ≡ count_rows vs) × (t.bytes ≡ length (texts vs))
    counts-here = counts-are vs t s.counts (counts-small vs room-here.few room-here.short)

    pub here-by : values l.rows ≤ length flags → Here t flags q b x
    here-by h =
        let k = counts-here in
        let r = room-here in
        let n = length-append vs (value_of l flags i vs ∷ []) in
        let e = s.counts.values in
        let f = so-flag l flags i vs t below s y h in
        record {
          flag = omega (arith, e, f);
          few = omega (arith, k.0, r.few);
          short = omega (arith, k.1, r.short);
          answers = omega (arith, e, n, room_next.answers);
          chunks = omega (arith, k.0, r.chunks);
          text = omega (arith, k.1, r.text);
        }

    value_as : (f : Bool) → f ≡ flag (drop t.values flags) → field_of l f i ≡ value_of l flags i vs
    value_as f e = ap (λ (z : Bool). field_of l z i) (e ∙ ap (λ (n : ℕ). flag (drop n flags)) s.counts.values)

    module _ (f : Bool) (fe : f ≡ flag (drop t.values flags)) (a : Result Chunks Fault) (b' x' : List ℕ)
        (w : Writes (field_of l f i) (mid_of (t.rows * 5) (length b - t.rows * 5) b) (mid_of t.bytes (length x - t.bytes) x) a b' x') where
      abbrev v : Value
      v = value_of l flags i vs

      sizes : (t.rows + length (chunks_in v) ≡ count_rows (vs ++ v ∷ [])) × (t.bytes + length (texts_of (chunks_in v)) ≡ length (texts (vs ++ v ∷ [])))
      sizes = let k = counts-here in (omega (arith, k.0, rows-one vs v), omega (arith, k.1, text-more vs v))

      one : One v (drop (t.rows * 5) b) (drop t.bytes x) a b' x'
      one =
          let r = room_next in
          let z = sizes in
          let w₁ = subst (λ (u : Value). Writes u (mid_of (t.rows * 5) (length b - t.rows * 5) b) (mid_of t.bytes (length x - t.bytes) x) a b' x')
          (value_as f fe) w in
          let w₂ = subst (λ (u : List ℕ). Writes v u (mid_of t.bytes (length x - t.bytes) x) a b' x') (mid-rest (t.rows * 5) b) w₁ in
          let w₃ = subst (λ (u : List ℕ). Writes v (drop (t.rows * 5) b) u a b' x') (mid-rest t.bytes x) w₂ in
          one-is v (drop (t.rows * 5) b) (drop t.bytes x) a b' x' w₃
          (omega (arith, z.1, r.short))
          (omega (arith, z.0, r.chunks, length-drop (t.rows * 5) b)) (omega (arith, z.1, r.text, length-drop t.bytes x))

      pub row-behind-by : FitsBehind t a
      row-behind-by =
          let r = room_next in
          let z = sizes in
          subst (FitsBehind t) (sym one.told) (fits_one t v (omega (arith, z.0, r.few)) (omega (arith, z.1, r.short)))

      module _ (r : Totals) (g : AddsAnswer t a r) (q₀ b₀ x₀ : List ℕ) (o : WroteAll vs q₀ b₀ x₀ q b x) where
        small_one : small (chunks_in v) ≡ true
        small_one =
            let m = room_next in
            let z = sizes in
            small_is (chunks_in v) (omega (arith, z.0, m.few)) (omega (arith, z.1, m.short))

        counted : CountsAll (vs ++ v ∷ []) r
        counted = adds_one t r vs v s.counts small_one (subst (λ (u : Result Chunks Fault). AddsAnswer t u r) one.told g)

        answers-on : sets q (t.values * 6) (six_of t a) ≡ answer_numbers 0 0 (vs ++ v ∷ []) ++ drop (length (vs ++ v ∷ []) * 6) q₀
        answers-on =
            let k = counts-here in
            let e = six (count_rows vs) (length (texts vs)) v in
            let six-e : six_of t a ≡ e =
            ap (six_of t) one.told ∙ six-is t v ∙ ap (λ (n : ℕ). six n t.bytes v) k.0 ∙ ap (λ (n : ℕ). six (count_rows vs) n v) k.1 in
            let len = six-length (count_rows vs) (length (texts vs)) v in
            let n = length-append vs (v ∷ []) in
            let front = sets_behind (answer_numbers 0 0 vs) e q₀ q (length vs * 6) (answers-length 0 0 vs) o.answers
            (omega (arith, len, n, room_next.answers)) in
            let more : length vs * 6 + length e ≡ length (vs ++ v ∷ []) * 6 = omega (arith, len, n) in
            ap (λ (m : ℕ). sets q (m * 6) (six_of t a)) s.counts.values
            ∙ ap (sets q (length vs * 6)) six-e
            ∙ front
            ∙ ap (λ (p : List ℕ). p ++ drop (length vs * 6 + length e) q₀) (sym (answers_one vs v))
            ∙ ap (λ (m : ℕ). answer_numbers 0 0 (vs ++ v ∷ []) ++ drop m q₀) more

        chunks-on : put_mid (t.rows * 5) (length b - t.rows * 5) b b' ≡ chunk_numbers (vs ++ v ∷ []) ++ drop (count_rows (vs ++ v ∷ []) * 5) b₀
        chunks-on =
            let k = counts-here in
            let p = chunk_numbers vs in
            let e = flat_chunks (rows_from 0 (chunks_in v)) in
            let n = count_rows vs * 5 in
            let m = length (chunks_in v) * 5 in
            let rows-n : t.rows * 5 ≡ n = ap (λ (j : ℕ). j * 5) k.0 in
            let part : b' ≡ e ++ drop m (drop n b) = one.rows ∙ ap (λ (j : ℕ). e ++ drop m (drop j b)) rows-n in
            let more : n + m ≡ count_rows (vs ++ v ∷ []) * 5 = omega (arith, rows-one vs v) in
            put_rest (t.rows * 5) b b'
            ∙ ap (λ (j : ℕ). take j b ++ b') rows-n
            ∙ put-behind p e b₀ b b' n m (numbers-length vs) o.chunks part
            ∙ ap (λ (u : List ℕ). u ++ drop (n + m) b₀) (sym (numbers-one vs v))
            ∙ ap (λ (j : ℕ). chunk_numbers (vs ++ v ∷ []) ++ drop j b₀) more

        text-on : put_mid t.bytes (length x - t.bytes) x x' ≡ texts (vs ++ v ∷ []) ++ drop (length (texts (vs ++ v ∷ []))) x₀
        text-on =
            let k = counts-here in
            let e = texts_of (chunks_in v) in
            let n = length (texts vs) in
            let part : x' ≡ e ++ drop (length e) (drop n x) = one.text ∙ ap (λ (j : ℕ). e ++ drop (length e) (drop j x)) k.1 in
            put_rest t.bytes x x'
            ∙ ap (λ (j : ℕ). take j x ++ x') k.1
            ∙ put-behind (texts vs) e x₀ x x' n (length e) refl o.text part
            ∙ ap (λ (u : List ℕ). u ++ drop (n + length e) x₀) (sym (text-one vs v))
            ∙ ap (λ (j : ℕ). texts (vs ++ v ∷ []) ++ drop j x₀) (sym (text-more vs v))

        pub row-value-by : WroteTo l flags (i + 1) q₀ b₀ x₀ r (sets q (t.values * 6) (six_of t a))
            (put_mid (t.rows * 5) (length b - t.rows * 5) b b') (put_mid t.bytes (length x - t.bytes) x x')
        row-value-by =
            record {
              vs = vs ++ v ∷ [];
              so = so-value l flags i vs t below s y r counted;
              wrote = record { answers = answers-on; chunks = chunks-on; text = text-on };
            }

pub row_other : (l : Lent) (flags : List ℕ) (i : ℕ) (t : Totals) → i < length l.rows → is_value_row (row_no l.rows i) ≡ false
    → (q b x q₀ b₀ x₀ : List ℕ) → WroteTo l flags i q₀ b₀ x₀ t q b x → WroteTo l flags (i + 1) q₀ b₀ x₀ t q b x
row_other l flags i t below n q b x q₀ b₀ x₀ o = record { vs = o.vs; so = so-other l flags i o.vs t below o.so n; wrote = o.wrote }

-- ---- the answer row

module _ (t : Totals) (a : Result Chunks Fault) where
  pub six-refused : (f : Fault) → a ≡ Err f → (n : ℕ) → n ≡ number_of f.reason → (n ∷ 0 ∷ f.start ∷ f.end ∷ 0 ∷ 0 ∷ []) ≡ six_of t a
  six-refused f k n hn = rw (k, hn)

  pub six-chunks : (n m names : ℕ) → a ≡ Ok (record { rows = n; bytes = m; names = names })
      → (0 ∷ names ∷ t.rows ∷ (t.rows + n) ∷ t.bytes ∷ (t.bytes + m) ∷ []) ≡ six_of t a
  six-chunks n m names e = rw e

-- ---- the rows in lent numbers

module _ (file rows flags months words : List ℕ) (i : ℕ) (t : Totals) (q b x : List ℕ) (below : i < length rows / 4) (r : Bool)
    (re : r ≡ is_value_row (row_no (rows_of rows) i)) (no : r ≡ true)
    (fit : fits_all (results (lent_of file rows months words) flags) q b x ≡ true) where
  abbrev l : Lent
  l = lent_of file rows months words

  is-value : is_value_row (row_no (rows_of rows) i) ≡ true
  is-value = sym re ∙ no

  pub here-row : values (rows_of rows) ≤ length flags → CountedTo l flags i t → Here t flags q b x
  here-row h s = here-by l flags i t q b x (inside rows i below) is-value fit s.vs s.so h

  pub behind-row : CountedTo l flags i t → (f : Bool) → f ≡ flag (drop t.values flags) → (a : Result Chunks Fault) (b' x' : List ℕ)
      → Writes (field_of l f i) (mid_of (t.rows * 5) (length b - t.rows * 5) b) (mid_of t.bytes (length x - t.bytes) x) a b' x'
      → FitsBehind t a
  behind-row s f fe a b' x' w =
      row-behind-by l flags i t q b x (inside rows i below) is-value fit s.vs s.so f fe a b' x' w

  pub wrote-row : (f : Bool) → f ≡ flag (drop t.values flags) → (a : Result Chunks Fault) (b' x' : List ℕ)
      → Writes (field_of l f i) (mid_of (t.rows * 5) (length b - t.rows * 5) b) (mid_of t.bytes (length x - t.bytes) x) a b' x'
      → (t' : Totals) → AddsAnswer t a t' → (q' : List ℕ) → q' ≡ sets q (t.values * 6) (six_of t a) → (q₀ b₀ x₀ : List ℕ)
      → WroteTo l flags i q₀ b₀ x₀ t q b x
      → WroteTo l flags (i + 1) q₀ b₀ x₀ t' q' (put_mid (t.rows * 5) (length b - t.rows * 5) b b') (put_mid t.bytes (length x - t.bytes) x x')
  wrote-row f fe a b' x' w t' g q' qe q₀ b₀ x₀ o =
      subst (λ (z : List ℕ). WroteTo l flags (i + 1) q₀ b₀ x₀ t' z (put_mid (t.rows * 5) (length b - t.rows * 5) b b')
      (put_mid t.bytes (length x - t.bytes) x x')) (sym qe)
      (row-value-by l flags i t q b x (inside rows i below) is-value fit o.vs o.so f fe a b' x' w t' g q₀ b₀ x₀ o.wrote)

-- ---- the loop

pub filing-on : (r : Resolver) (flags w w' : List ℕ) → Filing r flags w → length w' ≡ length w → Filing r flags w'
filing-on r flags w w' p e = record {
  index = p.index;
  ready = asking.ready_on w r.tables.names.now r.tables.marks.now w' p.ready e;
  flagged = p.flagged;
}

pub wrote-start : (l : Lent) (flags : List ℕ) (t : Totals) (q b x : List ℕ) → CountsAll [] t → WroteTo l flags 0 q b x t q b x
unfolding answer_numbers chunk_numbers texts count_rows
wrote-start l flags t q b x k =
    record { vs = []; so = so-start l flags t k; wrote = record { answers = refl; chunks = refl; text = refl } }

pub wrote-end : (file rows flags months words : List ℕ) (i : ℕ) (t : Totals) (q b x q' b' x' : List ℕ) → length rows / 4 ≤ i
    → WroteTo (lent_of file rows months words) flags i q b x t q' b' x'
    → WroteAll (results (lent_of file rows months words) flags) q b x q' b' x' × CountsAll (results (lent_of file rows months words) flags) t
wrote-end file rows flags months words i t q b x q' b' x' h o =
    let all = so-end (lent_of file rows months words) flags i o.vs t (past rows i h) o.so in (
      subst (λ (vs : List Value). WroteAll vs q b x q' b' x') all o.wrote,
      subst (λ (vs : List Value). CountsAll vs t) all o.so.counts,
    )
