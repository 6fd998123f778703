-- Values counted one after the other.
--     none-counted                                       `none`
--     much, much-not, add-much, add-on                   `add`, where there is more than can be written and where there is not
--     counted-on                                         `add_counted`: the value that was counted
--     resolving, few-values, count-flag                  what `counted_fits` has to show: the values so far are no more than the rows, the next has a flag
--     count-start, count-value, count-other              `counted_fits`: the beginning, and one row more
--     count-full, count-end                              where the values so far do not fit, and the end
-- Assumes nothing.
use Rattle.values.specs.declared.resolver.Resolver.{Resolver}
use Rattle.std.specs.Prelude.{Result, Ok, Err}
use Rattle.resolve.proofs.Asking.{asking}
use Rattle.row.specs.declared.fault.Fault.{Fault}
use Rattle.resolve.specs.declared.progress.Progress.{Progress}
use Prim.Native.Nat.{ℕ, ◌+◌, ◌/◌, ◌≤◌, ◌<◌}
use native.Mathlib.Omega.{arith}
use mathlib.Core.Path.{◌≡◌, refl, sym, ap, subst, ◌∙◌}
use mathlib.Core.Bool.{Bool, true, false, not, ◌||◌}
use mathlib.Core.List.{List, [], ◌∷◌, ◌++◌}
use lib.ListN.{length, drop, length-append}
use lib.Dec.{ltb}
use borrow.Author.Tests.{ltb-false, le-ltb, le-leb}
use Rattle.text.proofs.general.Tests.{true-not-false, both_false}
use Rattle.literal.specs.Rows.{most_number, most_rows, texts_of}
use Rattle.lookup.specs.Names.{row_no}
use Rattle.resolve.specs.Resolves.{Value, resolved, refused}
use Rattle.resolve.specs.Checks.{Lent}
use Rattle.resolve.specs.Progress.{small, Counted}
use Rattle.values.specs.Field.{field_of}
use Rattle.fields.specs.OneField.{Resolving}
use Rattle.whole.specs.declared.file.Totals.{Totals}
use Rattle.whole.specs.WholeFile.{is_value_row, flag, values, results, chunks_in, texts, count_rows, small_all, fits_all}
use Rattle.whole.specs.Filing.{Filing, CountsAll, CountedTo, Sized, AddsTo, AddsCounted}
use Rattle.whole.proofs.values.Appended.{rows-one, text-more}
use Rattle.whole.proofs.values.Fitting.{small-counts, counts-small, full-front}
use Rattle.whole.proofs.values.RowByRow.{value_of, so-start, so-other, so-value, so-flag, so-end}

-- ---- no value

pub none-counted : (t : Totals) → t.values ≡ 0 → t.rows ≡ 0 → t.bytes ≡ 0 → t.over ≡ false → CountsAll [] t
unfolding small_all count_rows texts
none-counted t n r m o = record { values = n; over = o; rows = λ _. r; bytes = λ _. m }

-- ---- one value more

module _ (t : Totals) (n m : ℕ) (over : Bool) where
  -- the code's test
  abbrev pub much : Bool
  much = ((t.over || over) || ltb most_number (t.rows + n)) || ltb most_number (t.bytes + m)

  pub much-not : much ≡ false → (t.over ≡ false) × (over ≡ false) × (t.rows + n ≤ most_number) × (t.bytes + m ≤ most_number)
  much-not e =
      let a = both_false ((t.over || over) || ltb most_number (t.rows + n)) (ltb most_number (t.bytes + m)) e in
      let b = both_false (t.over || over) (ltb most_number (t.rows + n)) a.0 in
      let d = both_false t.over over b.0 in
      (d.0, d.1, ltb-false most_number (t.rows + n) b.1, ltb-false most_number (t.bytes + m) a.1)

  module _ (vs : List Value) (v : Value) (k : CountsAll vs t) (z : Sized v n m over) where
    abbrev more : List Value
    more = vs ++ v ∷ []

    own-small : length (chunks_in v) ≤ most_number → length (texts_of (chunks_in v)) ≤ most_number → small (chunks_in v) ≡ true
    unfolding small
    own-small h l = rw (le-leb (length (chunks_in v)) most_rows (omega (arith, h)), le-leb (length (texts_of (chunks_in v))) most_number l)

    -- values that can be written are not too much
    small-then : small_all more ≡ true → much ≡ false
    small-then h =
        let s = small-counts more h in
        let rows = rows-one vs v in
        let text = text-more vs v in
        let a : t.over ≡ false = k.over ∙ ap not (counts-small vs (omega (arith, s.0)) (omega (arith, s.1))) in
        let b : over ≡ false = z.0 ∙ ap not (own-small (omega (arith, s.0)) (omega (arith, s.1))) in
        let e = z.1 b in
        let p = le-ltb most_number (t.rows + n) (omega (arith, s.0, k.rows a, e.0)) in
        let q = le-ltb most_number (t.bytes + m) (omega (arith, s.1, k.bytes a, e.1)) in
        rw (a, b, p, q)

    one-longer : (r : Totals) → r.values ≡ t.values + 1 → r.values ≡ length more
    one-longer r e = omega (arith, e, k.values, length-append vs (v ∷ []))

    not-small : much ≡ true → small_all more ≡ false
    not-small e = by (small_all more) refl
      where
        by : (b : Bool) → small_all more ≡ b → small_all more ≡ false
        by true h = true-not-false much e (small-then h)
        by false h = h

    much-counts : much ≡ true → (r : Totals) → r.values ≡ t.values + 1 → r.over ≡ true → CountsAll more r
    much-counts e r p o = record {
      values = one-longer r p;
      over = o ∙ sym (ap not (not-small e));
      rows = λ q. true-not-false r.over o q;
      bytes = λ q. true-not-false r.over o q;
    }

    on-counts : much ≡ false → (r : Totals) → r.values ≡ t.values + 1 → r.rows ≡ t.rows + n → r.bytes ≡ t.bytes + m → r.over ≡ false
        → CountsAll more r
    on-counts e r p i j o =
        let h = much-not e in
        let s = z.1 h.1 in
        let rows : t.rows + n ≡ count_rows more = omega (arith, rows-one vs v, k.rows h.0, s.0) in
        let text : t.bytes + m ≡ length (texts more) = omega (arith, text-more vs v, k.bytes h.0, s.1) in
        record {
          values = one-longer r p;
          over = o ∙ sym (ap not (counts-small more (omega (arith, h.2)) (omega (arith, h.3))));
          rows = λ _. i ∙ rows;
          bytes = λ _. j ∙ text;
        }

  pub add-much : much ≡ true → (r : Totals) → r.values ≡ t.values + 1 → r.over ≡ true → AddsTo t n m over r
  add-much e r p o vs v k z = much-counts vs v k z e r p o

  pub add-on : much ≡ false → (r : Totals) → r.values ≡ t.values + 1 → r.rows ≡ t.rows + n → r.bytes ≡ t.bytes + m → r.over ≡ false
      → AddsTo t n m over r
  add-on e r p i j o vs v k z = on-counts vs v k z e r p i j o

-- ---- a value that was counted

pub counted-on : (v : Value) (w : Result Progress Fault) → Counted v w → (t r : Totals) → AddsCounted t w r → (vs : List Value) → CountsAll vs t
    → CountsAll (vs ++ v ∷ []) r
unfolding small texts_of
counted-on (resolved cs n) (Ok st) k t r a vs c = a vs (resolved cs n) c k
counted-on (resolved cs n) (Err f) k t r a vs c = absurd k
counted-on (refused g) (Ok st) k t r a vs c = absurd k
counted-on (refused g) (Err f) k t r a vs c = a vs (refused g) c (refl, λ _. (refl, refl))

-- ---- all of them

-- what counting or writing the value of row i requires
pub resolving : (r : Resolver) (flags w : List ℕ) → Filing r flags w → (w' : List ℕ) → length w' ≡ length w → (i : ℕ) → i < length r.rows.now / 4
    → Resolving r i w'
resolving r flags w p w' e i h = record {
  index = p.index;
  ready = asking.ready_on w r.tables.names.now r.tables.marks.now w' p.ready e;
  which = h;
}

module _ (l : Lent) (flags : List ℕ) where
  pub count-start : (t : Totals) → CountsAll [] t → CountedTo l flags 0 t
  count-start t k = record { vs = []; so = so-start l flags t k }

  module _ (i : ℕ) (t : Totals) (b : CountedTo l flags i t) where
    pub few-values : t.values ≤ i
    few-values = omega (arith, b.so.counts.values, b.so.few)

    pub count-end : length l.rows ≤ i → CountsAll (results l flags) t
    count-end h = subst (λ (vs : List Value). CountsAll vs t) (so-end l flags i b.vs t h b.so) b.so.counts

    pub count-full : (q c x : List ℕ) (w : Bool) → ((vs : List Value) → CountsAll vs t → w ≡ fits_all vs q c x) → w ≡ false
        → false ≡ fits_all (results l flags) q c x
    count-full q c x w h n =
        let full = full-front b.vs _ q c x (sym (h b.vs b.so.counts) ∙ n) in
        sym (subst (λ (vs : List Value). fits_all vs q c x ≡ false) b.so.rest full)

    module _ (below : i < length l.rows) (w : Bool) (e : w ≡ is_value_row (row_no l.rows i)) where
      pub count-other : w ≡ false → CountedTo l flags (i + 1) t
      count-other n = record { vs = b.vs; so = so-other l flags i b.vs t below b.so (sym e ∙ n) }

      module _ (y : w ≡ true) where
        pub count-flag : values l.rows ≤ length flags → t.values < length flags
        count-flag h = omega (arith, so-flag l flags i b.vs t below b.so (sym e ∙ y) h, b.so.counts.values)

        pub count-value : (verb : Bool) → verb ≡ flag (drop t.values flags) → (g : Result Progress Fault) → Counted (field_of l verb i) g → (r : Totals)
            → AddsCounted t g r → CountedTo l flags (i + 1) r
        count-value verb f g k r a =
            let same : verb ≡ flag (drop (length b.vs) flags) = f ∙ ap (λ (n : ℕ). flag (drop n flags)) b.so.counts.values in
            let v = value_of l flags i b.vs in
            record {
              vs = b.vs ++ v ∷ [];
              so = so-value l flags i b.vs t below b.so (sym e ∙ y) r
                  (counted-on v g (subst (λ (x : Bool). Counted (field_of l x i) g) same k) t r a b.vs b.so.counts);
            }
