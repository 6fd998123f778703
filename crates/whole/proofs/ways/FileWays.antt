-- The checks of the call, and then all values.
--     fits_told                                         what `fits` answers
--     file-full, file-wrote                             the ways through `indexed`
--     all-file, all-rows, all-scratch, all-good         what the call comes to, by what `whole` checks
--     refuse, refuse-as, writes_as                      what the call then writes
--     CallAsks, asked_of                                what is so of a call that is not refused
-- Assumes nothing.
use Rattle.std.specs.Prelude.{Result, Ok, Err, ⊤}
use Rattle.whole.specs.declared.file.Filed.{Filed}
use Prim.Native.Nat.{ℕ, ◌/◌, ◌≤◌, ◌<◌}
use native.Mathlib.Omega.{arith}
use mathlib.Core.Path.{◌≡◌, refl, sym, ap, subst, ◌∙◌}
use mathlib.Core.Bool.{Bool, true, false, cond, not, ◌&&◌, and_assoc}
use mathlib.Core.List.{List, []}
use lib.ListN.{length}
use lib.Dec.{leb}
use borrow.Author.Tests.{leb-true, le-leb, lt-leb, not-true, not-false}
use Rattle.text.proofs.general.Tests.{both_true}
use Rattle.row.specs.declared.fault.Fault.{Fault}
use Rattle.row.specs.declared.fault.Reason.TheVariants.{NoRoom, BadRows}
use Rattle.row.specs.Fault.{nowhere}
use Rattle.row.specs.Numbers.{rows_of}
use Rattle.row.specs.Limits.{least_scratch}
use Rattle.resolve.specs.Resolves.{Value, checked_file}
use Rattle.resolve.specs.Checks.{are_lent, lent_of}
use Rattle.whole.specs.declared.file.Totals.{Totals}
use Rattle.whole.specs.WholeFile.{values, results, texts, count_rows, small_all, fits_all, All, all, none, after_all, are_filed, all_of, WritesAll}
use Rattle.whole.specs.Filing.{CountsAll, WroteAll}
use Rattle.whole.proofs.values.Fitting.{fits-room, counts-small}

pub fits_told : (t : Totals) (q b x : List ℕ) (vs : List Value) → CountsAll vs t
    → (((not t.over && leb t.values (length q / 6)) && leb t.rows (length b / 5)) && leb t.bytes (length x)) ≡ fits_all vs q b x
unfolding fits_all
fits_told t q b x vs k = by t.over refl
  where
    by : (o : Bool) → t.over ≡ o
        → (((not t.over && leb t.values (length q / 6)) && leb t.rows (length b / 5)) && leb t.bytes (length x))
        ≡ (small_all vs && (leb (length vs) (length q / 6) && (leb (count_rows vs) (length b / 5) && leb (length (texts vs)) (length x))))
    by true e = rw (e, not-true (small_all vs) (sym k.over ∙ e))
    by false e =
        rw (e, not-false (small_all vs) (sym k.over ∙ e), k.values, k.rows e, k.bytes e)
        (and_assoc (leb (length vs) (length q / 6)) (leb (count_rows vs) (length b / 5)) (leb (length (texts vs)) (length x)))

module _ (vs : List Value) (q b x : List ℕ) where
  pub file-full : fits_all vs q b x ≡ false → WritesAll (all vs) q b x (Err (nowhere NoRoom)) q b x
  file-full e = record { answer = rw e; answers = rw e; chunks = rw e; text = rw e }

  pub file-wrote : (t : Totals) (q' b' x' : List ℕ) → CountsAll vs t → fits_all vs q b x ≡ true → WroteAll vs q b x q' b' x'
      → WritesAll (all vs) q b x (Ok (record { values = t.values; rows = t.rows; bytes = t.bytes })) q' b' x'
  file-wrote t q' b' x' k e w =
      let r = fits-room vs q b x e in
      let o : t.over ≡ false = k.over ∙ (rw (counts-small vs r.few r.short)) in
      record {
        answer = rw (e, k.values, k.rows o, k.bytes o);
        answers = rw e w.answers;
        chunks = rw e w.chunks;
        text = rw e w.text;
      }

-- ---- what the call comes to

pub writes_as : {a a' : All} {q b x : List ℕ} {r : Result Filed Fault} {q' b' x' : List ℕ} → a ≡ a' → WritesAll a q b x r q' b' x' → WritesAll a' q b x r q' b' x'
writes_as {q} {b} {x} {r} {q'} {b'} {x'} e w = subst (λ (z : All). WritesAll z q b x r q' b' x') e w

none-writes : (f : Fault) (q b x : List ℕ) → WritesAll (none f) q b x (Err f) q b x
none-writes f q b x = record { answer = refl; answers = refl; chunks = refl; text = refl }

pub refuse : (a : All) (f : Fault) (q b x : List ℕ) → a ≡ none f → WritesAll a q b x (Err f) q b x
refuse a f q b x e = writes_as (sym e) (none-writes f q b x)

pub refuse-as : {a : All} {f : Fault} (r : Result Filed Fault) → r ≡ Err f → (q b x : List ℕ) → a ≡ none f → WritesAll a q b x r q b x
refuse-as {a} {f} r k q b x e = subst (λ (z : Result Filed Fault). WritesAll a q b x z q b x) (sym k) (refuse a f q b x e)

-- ---- the checks

module _ (file rows flags months words : List ℕ) (w : ℕ) (k : Result ⊤ Fault) (c : k ≡ checked_file file) where
  -- the rest, where the file passes
  abbrev rest : All
  rest =
      cond (are_filed file rows flags months words)
      (cond (leb least_scratch w) (all (results (lent_of file rows months words) flags)) (none (nowhere NoRoom)))
      (none (nowhere BadRows))

  pub all-file : (f : Fault) → k ≡ Err f → all_of file rows flags months words w ≡ none f
  all-file f e = ap (λ (z : Result ⊤ Fault). after_all z rest) (sym c ∙ e)

  module _ (passed : k ≡ Ok tt) (lent : Bool) (n : ℕ) (le : lent ≡ are_lent file rows months words) (ne : n ≡ values (rows_of rows)) where
    after-file : all_of file rows flags months words w ≡ rest
    after-file = ap (λ (z : Result ⊤ Fault). after_all z rest) (sym c ∙ passed)

    filed-as : (lent && leb n (length flags)) ≡ are_filed file rows flags months words
    unfolding are_filed
    filed-as = rw (le, ne)

    pub all-rows : (lent && leb n (length flags)) ≡ false → all_of file rows flags months words w ≡ none (nowhere BadRows)
    all-rows h =
        let e : are_filed file rows flags months words ≡ false = sym filed-as ∙ h in
        after-file ∙ (rw e)

    module _ (good : (lent && leb n (length flags)) ≡ true) where
      filed-good : are_filed file rows flags months words ≡ true
      filed-good = sym filed-as ∙ good

      pub filed-asks : (are_lent file rows months words ≡ true) × (values (rows_of rows) ≤ length flags)
      unfolding are_filed
      filed-asks =
          let e = both_true (are_lent file rows months words) (leb (values (rows_of rows)) (length flags)) filed-good in
          (e.0, leb-true (values (rows_of rows)) (length flags) e.1)

      pub all-scratch : w < least_scratch → all_of file rows flags months words w ≡ none (nowhere NoRoom)
      all-scratch h = after-file ∙ (rw (filed-good, lt-leb least_scratch w h))

      pub all-good : least_scratch ≤ w → all_of file rows flags months words w ≡ all (results (lent_of file rows months words) flags)
      all-good h = after-file ∙ (rw (filed-good, le-leb least_scratch w h))

-- ---- a call that is not refused

abbrev is_all : All → ℕ
is_all (all vs) = 1
is_all (none f) = 0

abbrev values_in : All → List Value
values_in (all vs) = vs
values_in (none f) = []

-- what has been checked where the call is not refused
pub record CallAsks (file rows flags months words : List ℕ) (w : ℕ) (vs : List Value) : Type 0 where
  pub passed : checked_file file ≡ (Ok tt)
  pub lent : are_lent file rows months words ≡ true
  pub room : leb least_scratch w ≡ true
  pub values-are : results (lent_of file rows months words) flags ≡ vs

pub asked_of : (file rows flags months words : List ℕ) (w : ℕ) (vs : List Value) → all_of file rows flags months words w ≡ all vs
    → CallAsks file rows flags months words w vs
unfolding are_filed
asked_of file rows flags months words w vs =
    by (checked_file file) (are_filed file rows flags months words) (leb least_scratch w) (nowhere NoRoom) (nowhere BadRows) refl refl refl
  where
    by : (x : Result ⊤ Fault) (good room : Bool) (f g : Fault) → checked_file file ≡ x → are_filed file rows flags months words ≡ good
        → leb least_scratch w ≡ room
        → after_all x (cond good (cond room (all (results (lent_of file rows months words) flags)) (none f)) (none g)) ≡ all vs
        → CallAsks file rows flags months words w vs
    by (Ok tt) true true f g p q r e =
        record { passed = p; lent = (both_true (are_lent file rows months words) _ q).0; room = r; values-are = ap values_in e }
    by (Ok tt) true false f g p q r e = absurd (omega (arith, ap is_all e))
    by (Ok tt) false room f g p q r e = absurd (omega (arith, ap is_all e))
    by (Err y) good room f g p q r e = absurd (omega (arith, ap is_all e))
