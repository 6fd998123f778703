-- A value over a small room, and then over what is lent: for `count`, `several`, `write` and `field` of src/field.rt.
--     says-count                              a run begins with the number of names so far, written in another way
--     ready-value-first, answer-bounded       what `value` requires, and the bounds of an answer
--     several-refused, several-full           the value is refused, or there is no room for it
--     several-room                            there is room, and how much the value comes to
--     several-copied, several-again           the value is copied from the small room, or resolved again
--     count-as                                the value is counted only
--     right-as, lent-right, which-inside      what `field` checks
--     field_at, count_at, only_at_lem         the value of a row, and one that is a literal
--     only-inside                             where that literal stands
-- Assumes nothing.
use Rattle.values.specs.declared.resolver.Resolver.{Resolver}
use Rattle.std.specs.Prelude.{Some, Result, Ok, Err}
use Rattle.resolve.specs.declared.answer.Chunks.{Chunks}
use Prim.Native.Nat.{ℕ, suc, ◌+◌, ◌*◌, ◌/◌, ◌%◌, ◌≤◌, ◌<◌}
use native.Mathlib.Omega.{arith}
use mathlib.Core.Path.{◌≡◌, refl, sym, ap, ap₂, subst, ◌∙◌}
use mathlib.Core.Bool.{Bool, true, false, cond, not, ◌&&◌}
use mathlib.Core.List.{List, [], ◌++◌}
use lib.ListN.{length, take, drop}
use lib.Seq.{take_at, sets, sets-eq}
use lib.Dec.{leb, ltb}
use borrow.Author.Tests.{leb-true, ltb-true, ltb-false, not-true, not-false}
use Rattle.text.specs.Scan.{part}
use Rattle.text.proofs.general.Tests.{both_true}
use Rattle.text.proofs.general.Parts.{part-take}
use Rattle.row.specs.declared.fault.Fault.{Fault}
use Rattle.row.specs.declared.fault.Reason.TheVariants.{NoRoom}
use Rattle.row.specs.Fault.{nowhere}
use Rattle.row.specs.Row.{Row}
use Rattle.row.specs.Numbers.{rows_of}
use Rattle.row.specs.Limits.{most_open}
use Rattle.row.proofs.Laid.{laid}
use Rattle.chunk.specs.Chunk.{Chunk, flat_chunks}
use Rattle.turn.specs.Content.{flatten}
use Rattle.literal.specs.Literal.{resolve_literal}
use Rattle.literal.specs.Rows.{most_number, InReach, rows_from, texts_of}
use Rattle.literal.proofs.Flattening.{flattening}
use Rattle.resolve.specs.declared.progress.Progress.{Progress}
use Rattle.resolve.specs.Resolves.{Value, resolved, roomy, fits, told, rows_left, text_left, Writes}
use Rattle.resolve.specs.OneLiteral.{value_of}
use Rattle.resolve.specs.Checks.{Lent, is_value, are_lent, is_right}
use Rattle.resolve.specs.Runs.{Run, done, stop}
use Rattle.resolve.specs.Progress.{small, Has, answer_of, Bounded, SaysRun, BoundedAnswer, Counted}
use Rattle.resolve.proofs.Asking.{asking}
use Rattle.values.specs.Field.{flattened, of_run, field_of}
use Rattle.values.specs.Uses.{only_at, value_from, ReadyValue}
use Rattle.values.proofs.OnlyLiteral.{only-literal}
use Rattle.fields.specs.OneField.{Resolving}

-- ---- chunks that were counted

zeroed : (n : ℕ) → 0 + n ≡ n
zeroed n = omega arith

module _ (cs : List Chunk) (b₀ t₀ : List ℕ) (st : Progress) (b t : List ℕ) (has : Has cs b₀ t₀ st b t) where
  abbrev flat : List Chunk
  flat = flatten cs

  texts : texts_of flat ≡ texts_of cs
  texts = flattening.texts-flat cs

  -- what the chunks come to, where they fit into the numbers c and the bytes s
  module _ (c s : List ℕ) (x : fits flat c s ≡ true) (z : small flat ≡ true) where
    both : (leb (length (texts_of flat)) most_number ≡ true) × (roomy flat c s ≡ true)
    both = both_true (leb (length (texts_of flat)) most_number) (roomy flat c s) x

    reach : InReach flat
    reach = leb-true (length (texts_of flat)) most_number both.0

    right : st.over ≡ false
    right = has.over ∙ ap not z

    many : st.rows.n ≡ length flat
    many = (has.rows right).count

    long : st.bytes ≡ length (texts_of flat)
    long = has.bytes right ∙ ap length (sym texts)

    rooms : (length flat ≤ length c / 5) × (length (texts_of flat) ≤ length s)
    rooms =
        let y = both_true (leb (length flat) (length c / 5)) (leb (length (texts_of flat)) (length s)) both.1 in
        (leb-true (length flat) (length c / 5) y.0, leb-true (length (texts_of flat)) (length s) y.1)

    rows-room : length flat * 5 ≤ length c
    rows-room = omega (arith, rooms.0)

    enough : (st.rows.n * 5 ≤ length c) × (st.bytes ≤ length s)
    enough = (omega (arith, many, rows-room), omega (arith, long, rooms.1))

    answered : (n : ℕ) → st.names ≡ n → Ok (answer_of st) ≡ told (resolved flat n) c s
    answered n e =
        ap₂ (λ (i j : ℕ). Ok (record { rows = i; bytes = j; names = st.names })) many long ∙ ap
        (λ (n' : ℕ). Ok (record { rows = (length flat); bytes = (length (texts_of flat)); names = n' })) e
        ∙ ap (λ (w : Bool). cond w (Ok (record { rows = length flat; bytes = length (texts_of flat); names = n })) (Err (nowhere NoRoom))) (sym x)

    rows_as : (n : ℕ) (c' : List ℕ) → c' ≡ flat_chunks (rows_from 0 flat) ++ drop (length flat * 5) c → c' ≡ rows_left (resolved flat n) c s
    rows_as n c' e = e ∙ ap (λ (w : Bool). cond w (flat_chunks (rows_from 0 flat) ++ drop (length flat * 5) c) c) (sym x)

    text-as : (n : ℕ) (s' : List ℕ) → s' ≡ sets s 0 (texts_of cs) → s' ≡ text_left (resolved flat n) c s
    text-as n s' e =
        e ∙ ap (sets s 0) (sym texts) ∙ sets-eq (texts_of flat) s 0 (omega (arith, rooms.1))
        ∙ ap (λ (n : ℕ). texts_of flat ++ drop n s) (zeroed (length (texts_of flat)))
        ∙ ap (λ (w : Bool). cond w (texts_of flat ++ drop (length (texts_of flat)) s) s) (sym x)

-- ---- what the room holds over which the chunks were counted, where they fit into it

module _ (cs : List Chunk) (b₀ t₀ : List ℕ) (st : Progress) (b t : List ℕ) (has : Has cs b₀ t₀ st b t) (n : length b ≡ length b₀)
    (m : length t ≡ length t₀) (x : fits (flatten cs) b t ≡ true) (z : small (flatten cs) ≡ true) where
  held_rows : take (st.rows.n * 5) b ≡ flat_chunks (rows_from 0 (flatten cs))
  held_rows =
      ap (take (st.rows.n * 5))
      ((has.rows (right cs b₀ t₀ st b t has b t x z)).numbers (reach cs b₀ t₀ st b t has b t x z)
      ∙ flattening.rows_written b₀ (flatten cs) (omega (arith, rows-room cs b₀ t₀ st b t has b t x z, n)))
      ∙ take_at (flat_chunks (rows_from 0 (flatten cs))) (drop (length (flatten cs) * 5) b₀) (st.rows.n * 5)
      (omega (arith, flattening.numbers-length 0 (flatten cs), many cs b₀ t₀ st b t has b t x z))

  held-text : part t 0 st.bytes ≡ texts_of cs
  held-text =
      part-take t st.bytes (enough cs b₀ t₀ st b t has b t x z).1
      ∙ ap (take st.bytes) (has.text (right cs b₀ t₀ st b t has b t x z) ∙ sets-eq (texts_of cs) t₀ 0 room)
      ∙ take_at (texts_of cs) (drop (0 + length (texts_of cs)) t₀) st.bytes (sym (has.bytes (right cs b₀ t₀ st b t has b t x z)))
    where
      room : 0 + length (texts_of cs) ≤ length t₀
      room = omega (arith, has.bytes (right cs b₀ t₀ st b t has b t x z), (enough cs b₀ t₀ st b t has b t x z).1, m)

-- ---- the ways through `several`

pub says-count : (g : ℕ → Run) (n m : ℕ) → n ≡ m → (st : Progress) (b t : List ℕ) (r : Result Progress Fault) (b' t' : List ℕ) → SaysRun (g n) st b t r b' t'
    → SaysRun (g m) st b t r b' t'
says-count g n m e st b t r b' t' h = subst (λ (k : ℕ). SaysRun (g k) st b t r b' t') e h

-- what `value` requires at the beginning, where no name is open
pub ready-value-first : (r : Resolver) (w : List ℕ) (i : ℕ) (w' held : List ℕ)
    → Resolving r i w → length w' ≡ length w → length held ≡ most_open
    → ReadyValue r w' held most_open
ready-value-first r w i w' held h k e = record {
  index = h.index;
  ready = asking.ready_on w r.tables.names.now r.tables.marks.now w' h.ready k;
  path = (e, omega arith);
}

-- an answer has the bounds of what was counted
pub answer-bounded : (st : Progress) → Bounded st → (d : Chunks) → d ≡ answer_of st → BoundedAnswer (Ok d)
answer-bounded st h d e = subst (λ (x : Chunks). BoundedAnswer (Ok x)) (sym e) (h.rows, h.bytes, h.names)

module _ (run : Run) (first : Progress) (begins : (b t : List ℕ) → Has [] b t first b t) (b₀ t₀ : List ℕ) (r : Result Progress Fault) (b t : List ℕ)
    (h : SaysRun run first b₀ t₀ r b t) (c s : List ℕ) where
  abbrev value : Run → Value
  value run = of_run (flattened run)

  pub several-refused : (f : Fault) → r ≡ Err f → Writes (value run) c s (Err f) c s
  several-refused f e = by run (subst (λ (r : Result Progress Fault). SaysRun run first b₀ t₀ r b t) e h)
    where
      by : (run : Run) → SaysRun run first b₀ t₀ (Err f) b t → Writes (value run) c s (Err f) c s
      by (done cs n) k = absurd k
      by (stop g) k = record { answer = ap Err k; rows = refl; text = refl }

  module _ (st : Progress) (e : r ≡ Ok st) where
    counted : SaysRun run first b₀ t₀ (Ok st) b t
    counted = subst (λ (r : Result Progress Fault). SaysRun run first b₀ t₀ r b t) e h

    -- what `fits` answers for a room
    abbrev pub Fitted : Bool → List ℕ → List ℕ → Type 0
    Fitted x c s =
        (ps : List Chunk) (b₀ t₀ b t : List ℕ) → Has ps b₀ t₀ st b t → (x ≡ fits (flatten ps) c s) × (x ≡ true → small (flatten ps) ≡ true)

    pub several-full : (x : Bool) → Fitted x c s → not x ≡ true → Writes (value run) c s (Err (nowhere NoRoom)) c s
    several-full x l q = by run counted
      where
        by : (run : Run) → SaysRun run first b₀ t₀ (Ok st) b t → Writes (value run) c s (Err (nowhere NoRoom)) c s
        by (done cs n) k =
            let y : fits (flatten cs) c s ≡ false = sym (l cs b₀ t₀ b t (k.1 [] b₀ t₀ (begins b₀ t₀))).0 ∙ not-true x q in
            record { answer = rw y; rows = rw y; text = rw y }
        by (stop g) k = absurd k

    pub several-room : (x : Bool) (d u : List ℕ) → Fitted x d u → x ≡ true → (st.rows.n * 5 ≤ length d) × (st.bytes ≤ length u)
    several-room x d u l q = by run counted
      where
        by : (run : Run) → SaysRun run first b₀ t₀ (Ok st) b t → (st.rows.n * 5 ≤ length d) × (st.bytes ≤ length u)
        by (done cs n) k =
            let has = k.1 [] b₀ t₀ (begins b₀ t₀) in
            let told = l cs b₀ t₀ b t has in
            enough cs b₀ t₀ st b t has d u (sym told.0 ∙ q) (told.1 q)
        by (stop g) k = absurd k

    module _ (x : Bool) (l : Fitted x c s) (q : x ≡ true) (d : Chunks) (o : d ≡ answer_of st) where
      pub several-copied : length b ≡ length b₀ → length t ≡ length t₀ → (y : Bool) → Fitted y b t → y ≡ true → (c' s' : List ℕ)
          → c' ≡ take (st.rows.n * 5) b ++ drop (st.rows.n * 5) c → s' ≡ sets s 0 (part t 0 st.bytes)
          → Writes (value run) c s (Ok d) c' s'
      several-copied i j y m z c' s' p w = by run counted
        where
          by : (run : Run) → SaysRun run first b₀ t₀ (Ok st) b t → Writes (value run) c s (Ok d) c' s'
          by (done cs n) k =
              let has = k.1 [] b₀ t₀ (begins b₀ t₀) in
              let fit : fits (flatten cs) c s ≡ true = sym (l cs b₀ t₀ b t has).0 ∙ q in
              let within = (l cs b₀ t₀ b t has).1 q in
              let few : fits (flatten cs) b t ≡ true = sym (m cs b₀ t₀ b t has).0 ∙ z in
              record {
                answer = ap {B = Result Chunks Fault} Ok o ∙ answered cs b₀ t₀ st b t has c s fit within n k.0;
                rows = rows_as cs b₀ t₀ st b t has c s fit within n c'
                    (p ∙ ap₂ ◌++◌ (held_rows cs b₀ t₀ st b t has i j few within) (ap (λ (n : ℕ). drop (n * 5) c) (many cs b₀ t₀ st b t has c s fit within)));
                text = text-as cs b₀ t₀ st b t has c s fit within n s' (w ∙ ap (sets s 0) (held-text cs b₀ t₀ st b t has i j few within));
              }
          by (stop g) k = absurd k

      pub several-again : (r₂ : Result Progress Fault) (c' s' : List ℕ) → SaysRun run first c s r₂ c' s' → Writes (value run) c s (Ok d) c' s'
      several-again r₂ c' s' k₂ = by run counted r₂ k₂
        where
          by : (run : Run) → SaysRun run first b₀ t₀ (Ok st) b t → (r₂ : Result Progress Fault) → SaysRun run first c s r₂ c' s'
              → Writes (value run) c s (Ok d) c' s'
          by (done cs n) k (Ok st₂) k₂ =
              let has = k.1 [] b₀ t₀ (begins b₀ t₀) in
              let has₂ = k₂.1 [] c s (begins c s) in
              let fit : fits (flatten cs) c s ≡ true = sym (l cs b₀ t₀ b t has).0 ∙ q in
              let within = (l cs b₀ t₀ b t has).1 q in
              let right₂ = right cs c s st₂ c' s' has₂ c s fit within in
              record {
                answer = ap {B = Result Chunks Fault} Ok o ∙ answered cs b₀ t₀ st b t has c s fit within n k.0;
                rows = rows_as cs b₀ t₀ st b t has c s fit within n c'
                    ((has₂.rows right₂).numbers (reach cs b₀ t₀ st b t has c s fit within)
                    ∙ flattening.rows_written c (flatten cs) (rows-room cs b₀ t₀ st b t has c s fit within));
                text = text-as cs b₀ t₀ st b t has c s fit within n s' (has₂.text right₂);
              }
          by (done cs n) k (Err f) k₂ = absurd k₂
          by (stop g) k r₂ k₂ = absurd k

-- ---- the way through `count`

pub count-as : (run : Run) (first : Progress) → ((b t : List ℕ) → Has [] b t first b t) → (b₀ t₀ : List ℕ) (r : Result Progress Fault) (b t : List ℕ)
    → SaysRun run first b₀ t₀ r b t → Counted (of_run (flattened run)) r
count-as (done cs n) first begins b₀ t₀ (Ok st) b t k =
    let has = k.1 [] b₀ t₀ (begins b₀ t₀) in
    (has.over, λ o. ((has.rows o).count, has.bytes o ∙ ap length (sym (flattening.texts-flat cs))))
count-as (done cs n) first begins b₀ t₀ (Err f) b t k = k
count-as (stop g) first begins b₀ t₀ (Ok st) b t k = k
count-as (stop g) first begins b₀ t₀ (Err f) b t k = k

-- ---- a field

-- what `field` checks of the rows and of the chosen row, as the code tests it
module _ (file rows months words : List ℕ) (which : ℕ) (x y : Bool) (p : x ≡ are_lent file rows months words) (q : y ≡ is_value (drop which (rows_of rows)))
  where
    pub right-as : (x && y) ≡ is_right file rows which months words
    right-as = ap₂ ◌&&◌ p q

    module _ (n : not (x && y) ≡ false) where
      both_right : (x ≡ true) × (y ≡ true)
      both_right = both_true x y (not-false (x && y) n)

      pub lent-right : are_lent file rows months words ≡ true
      lent-right = sym p ∙ both_right.0

      pub which-inside : which < length rows / 4
      which-inside = by (ltb which (length rows / 4)) refl
        where
          by : (z : Bool) → ltb which (length rows / 4) ≡ z → which < length rows / 4
          by true e = ltb-true which (length rows / 4) e
          by false e =
              let no = asking.value_none rows which (ltb-false which (length rows / 4) e) in
              let yes = sym q ∙ both_right.1 in
              let z : ◌≡◌ {A = ℕ} 0 1 = cc in
              absurd (omega (arith, z))

-- the value's elements stand behind its row
module _ (l : Lent) (verb : Bool) (rows : List ℕ) (which : ℕ) (e : l.rows ≡ rows_of rows) where
  abbrev from : List Row → Value
  from rs = of_run (flattened (value_from l verb most_open [] rs 0))

  rows_behind : rows_of (drop (which * 4 + 4) rows) ≡ drop (suc which) l.rows
  rows_behind = sym (ap (drop (suc which)) e ∙ laid.rows-by (suc which) rows ∙ ap (λ (n : ℕ). rows_of (drop n rows)) (next which))
    where
      next : (n : ℕ) → suc n * 4 ≡ n * 4 + 4
      next n = omega arith

  pub field_at : (c s : List ℕ) (r : Result Chunks Fault) (c' s' : List ℕ) → Writes (from (rows_of (drop (which * 4 + 4) rows))) c s r c' s'
      → Writes (field_of l verb which) c s r c' s'
  field_at c s r c' s' h = subst (λ (rs : List Row). Writes (from rs) c s r c' s') rows_behind h

  pub count_at : (r : Result Progress Fault) → Counted (from (rows_of (drop (which * 4 + 4) rows))) r → Counted (field_of l verb which) r
  count_at r h = subst (λ (rs : List Row). Counted (from rs) r) rows_behind h

  -- the value is one literal, from a to e, whose bytes are w
  pub only_at_lem : (a e : ℕ) → only_at rows (which * 4 + 4) ≡ Some (a, e) → (w : List ℕ) → w ≡ part l.file a e → (c s : List ℕ) (r : Result Chunks Fault)
      (c' s' : List ℕ) → Writes (value_of (resolve_literal verb w a)) c s r c' s' → Writes (field_of l verb which) c s r c' s'
  only_at_lem a e h w k c s r c' s' z =
      field_at c s r c' s'
      (subst (λ (v : Value). Writes v c s r c' s')
      (ap (λ (w : List ℕ). value_of (resolve_literal verb w a)) k ∙ sym (only-literal.value l verb most_open [] rows (which * 4 + 4) a e h)) z)

-- the literal lies in the file
pub only-inside : (file rows months words : List ℕ) (which a e : ℕ) → are_lent file rows months words ≡ true → only_at rows (which * 4 + 4) ≡ Some (a, e)
    → (a ≤ e) × (e ≤ length file)
only-inside file rows months words which a e lent h = only-literal.inside file rows months words (which * 4 + 4) a e lent (whole which) h
  where
    whole : (n : ℕ) → (n * 4 + 4) % 4 ≡ 0
    whole n = omega arith
