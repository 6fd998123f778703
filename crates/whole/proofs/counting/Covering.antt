-- Values that come to no more than was counted, one after the other.
--     counts-cover                                         an exact count is a bound too
--     cover-much, cover_on                                 `add`, where there is more than can be written and where there is not
--     covered-on                                           a value that was counted
--     cover-start, cover-few, cover-flag                   `bound_row`: the beginning, and what it requires
--     cover-other, cover-most, cover-count, cover-end      one row more, by its literals or counted, and the end
--     cover-fits                                           `fits`
-- Assumes nothing.
use Rattle.std.specs.Prelude.{Option, Result, Ok, Err}
use Rattle.row.specs.declared.fault.Fault.{Fault}
use Rattle.whole.specs.declared.bound.Most.{Most}
use Rattle.resolve.specs.declared.progress.Progress.{Progress}
use Prim.Native.Nat.{ℕ, ◌+◌, ◌/◌, ◌≤◌, ◌<◌}
use native.Mathlib.Omega.{arith}
use mathlib.Core.Path.{◌≡◌, refl, sym, ap, subst, ◌∙◌}
use mathlib.Core.Bool.{Bool, true, false, not, ◌&&◌}
use mathlib.Core.List.{List, [], ◌∷◌, ◌++◌}
use lib.ListN.{length, drop, length-append}
use lib.Dec.{leb}
use borrow.Author.Tests.{leb-true, not-true}
use Rattle.text.proofs.general.Tests.{both_true, true-not-false}
use Rattle.literal.specs.Rows.{texts_of}
use Rattle.lookup.specs.Names.{row_no}
use Rattle.resolve.specs.Resolves.{Value, resolved, refused}
use Rattle.resolve.specs.Checks.{Lent}
use Rattle.resolve.specs.Progress.{Counted}
use Rattle.values.specs.Field.{field_of}
use Rattle.whole.specs.declared.file.Totals.{Totals}
use Rattle.whole.specs.WholeFile.{is_value_row, flag, values, results, fits_all}
use Rattle.whole.specs.Filing.{BoundedTotals, CountsAll}
use Rattle.whole.specs.Bounds.{AtMost, UseAtMost, CoversAll, CoversTo, CoversCounted, exactly, Covered}
use Rattle.whole.proofs.values.Appended.{rows-one, text-more}
use Rattle.whole.proofs.values.Fitting.{room_fits}
use Rattle.whole.proofs.values.RowByRow.{value_of, so-start, so-other, so-value, so-flag, so-end}
use Rattle.whole.proofs.counting.CountWays.{much, much-not}
use Rattle.whole.proofs.counting.AtMost.{field-under}

pub counts-cover : (vs : List Value) (t : Totals) → CountsAll vs t → CoversAll vs t
counts-cover vs t k = record { values = k.values; rows = λ o. omega (arith, k.rows o); bytes = λ o. omega (arith, k.bytes o) }

-- ---- one value more

module _ (t : Totals) (n m : ℕ) (over : Bool) where
  pub cover-much : (r : Totals) → r.values ≡ t.values + 1 → r.over ≡ true → CoversTo t n m over r
  cover-much r p o vs v k z = record {
    values = omega (arith, p, k.values, length-append vs (v ∷ []));
    rows = λ q. true-not-false r.over o q;
    bytes = λ q. true-not-false r.over o q;
  }

  pub cover_on : much t n m over ≡ false → (r : Totals) → r.values ≡ t.values + 1 → r.rows ≡ t.rows + n → r.bytes ≡ t.bytes + m
      → CoversTo t n m over r
  cover_on e r p i j vs v k z =
      let h = much-not t n m over e in
      let u = z h.1 in
      record {
        values = omega (arith, p, k.values, length-append vs (v ∷ []));
        rows = λ _. omega (arith, i, u.0, k.rows h.0, rows-one vs v);
        bytes = λ _. omega (arith, j, u.1, k.bytes h.0, text-more vs v);
      }

-- ---- a value that was counted

covered-on : (v : Value) (w : Result Progress Fault) → Counted v w → (t r : Totals) → CoversCounted t w r → (vs : List Value) → CoversAll vs t
    → CoversAll (vs ++ v ∷ []) r
unfolding texts_of
covered-on (resolved cs n) (Ok st) k t r a vs c =
    a vs (resolved cs n) c (λ o. (omega (arith, (k.1 o).0), omega (arith, (k.1 o).1)))
covered-on (resolved cs n) (Err f) k t r a vs c = absurd k
covered-on (refused g) (Ok st) k t r a vs c = absurd k
covered-on (refused g) (Err f) k t r a vs c = a vs (refused g) c (λ _. (omega arith, omega arith))

-- ---- all of them

exact-counts : (vs : List Value) → CountsAll vs (exactly vs)
exact-counts vs = record { values = refl; over = refl; rows = λ _. refl; bytes = λ _. refl }

module _ (l : Lent) (flags : List ℕ) where
  pub cover-start : (t : Totals) → CountsAll [] t → Covered l flags 0 t
  cover-start t k = record { vs = []; so = so-start l flags (exactly []) (exact-counts []); covers = counts-cover [] t k }

  module _ (i : ℕ) (t : Totals) (b : Covered l flags i t) where
    pub cover-few : t.values ≤ i
    cover-few = omega (arith, b.covers.values, b.so.few)

    pub cover-end : length l.rows ≤ i → CoversAll (results l flags) t
    cover-end h = subst (λ (vs : List Value). CoversAll vs t) (so-end l flags i b.vs (exactly b.vs) h b.so) b.covers

    module _ (below : i < length l.rows) (w : Bool) (e : w ≡ is_value_row (row_no l.rows i)) where
      pub cover-other : w ≡ false → Covered l flags (i + 1) t
      cover-other n = record {
        vs = b.vs;
        so = so-other l flags i b.vs (exactly b.vs) below b.so (sym e ∙ n);
        covers = b.covers;
      }

      module _ (y : w ≡ true) where
        pub cover-flag : values l.rows ≤ length flags → t.values < length flags
        cover-flag h = omega (arith, so-flag l flags i b.vs (exactly b.vs) below b.so (sym e ∙ y) h, b.covers.values)

        abbrev v : Value
        v = value_of l flags i b.vs

        cover_one : (r : Totals) → CoversAll (b.vs ++ v ∷ []) r → Covered l flags (i + 1) r
        cover_one r c = record {
          vs = b.vs ++ v ∷ [];
          so = so-value l flags i b.vs (exactly b.vs) below b.so (sym e ∙ y) (exactly (b.vs ++ v ∷ [])) (exact-counts (b.vs ++ v ∷ []));
          covers = c;
        }

        pub cover-most : (u : Option Most) → UseAtMost l u → (n m : ℕ) → AtMost u (drop (i + 1) l.rows) n m → (r : Totals) → CoversTo t n m false r
            → Covered l flags (i + 1) r
        cover-most u k n m h r a = cover_one r (a b.vs v b.covers (λ _. field-under u l k (flag (drop (length b.vs) flags)) i n m h))

        pub cover-count : (verb : Bool) → verb ≡ flag (drop t.values flags) → (g : Result Progress Fault) → Counted (field_of l verb i) g → (r : Totals)
            → CoversCounted t g r → Covered l flags (i + 1) r
        cover-count verb f g k r a =
            let same : verb ≡ flag (drop (length b.vs) flags) = f ∙ ap (λ (n : ℕ). flag (drop n flags)) b.covers.values in
            cover_one r (covered-on v g (subst (λ (x : Bool). Counted (field_of l x i) g) same k) t r a b.vs b.covers)

-- ---- room

pub cover-fits : (t : Totals) (q b x : List ℕ) → BoundedTotals t → (vs : List Value) → CoversAll vs t
    → (((not t.over && leb t.values (length q / 6)) && leb t.rows (length b / 5)) && leb t.bytes (length x)) ≡ true
    → fits_all vs q b x ≡ true
cover-fits t q b x u vs k h =
    let n = leb t.values (length q / 6) in
    let c = both_true ((not t.over && n) && leb t.rows (length b / 5)) (leb t.bytes (length x)) h in
    let d = both_true (not t.over && n) (leb t.rows (length b / 5)) c.0 in
    let f = both_true (not t.over) n d.0 in
    let o = not-true t.over f.0 in
    room_fits vs q b x
    (record {
      few = omega (arith, k.rows o, u.rows);
      short = omega (arith, k.bytes o, u.bytes);
      answers = omega (arith, k.values, leb-true t.values (length q / 6) f.1);
      chunks = omega (arith, k.rows o, leb-true t.rows (length b / 5) d.1);
      text = omega (arith, k.bytes o, leb-true t.bytes (length x) c.1);
    })
