-- The definitions in order, and the search among them by halving.
--     Arranged, arranged                    what `in_order` is: just the definitions of the file, each before those that it comes before
--     not_after, parted                     whether a row's name does not come behind the wanted one: such rows stand before all others
--     Split, split                          no name before place lo comes behind the wanted one, and each from lo on does
--     split-none, split-other, split-row    what the last of the rows before place lo tells
--     split-inside                          that place has a row
-- Assumes nothing.
use Rattle.std.proofs.Common.{◌≡◌, ℕ, suc, ◌-◌, ◌≤◌, ◌<◌, Bool, true, false, ◌⊎◌, inl, inr, ltb, List, length, get_or, Some, None, Ordering, Less}
use Rattle.std.proofs.Common.{Equal, Greater, is_le, refl, sym, subst, ◌∙◌, eq-or-lt_of_le, ltb-true, ltb-false, eqb-true, eq-eqb, true≢false, arith}
use Rattle.std.proofs.lemmas.Bool.{false≢true}
use Rattle.std.proofs.lemmas.List.{get_or_default}
use Rattle.std.specs.List.Sorted.{IsPartitionedBy, IsPartitionPoint}
use Rattle.row.specs.Row.{Row}
use Rattle.lookup.specs.Names.{name_of, row_no, is_named, last_named}
use Rattle.lookup.specs.RowIndex.{last_from}
use Rattle.lookup.specs.Order.{order_of, comes, sorted, is_definition, definitions, in_order}
use Rattle.lookup.proofs.rows.LastDefinition.{last-is, from-none, from_nothing, from_first}
use Rattle.lookup.proofs.links.RowBuckets.{named-name, name-named}
use Rattle.lookup.proofs.sorting.ByteOrder.{order-self, order_alike, greater-on, comes-total, comes-trans, comes-order, comes-same}
use Rattle.lookup.proofs.sorting.Sorted.{PlaceIn, at_in, in-at, in-sorted, sorted-in, sorted-length, sorted-at, sorted-sorted}
use Rattle.lookup.proofs.sorting.Definitions.{definition-in, in-definitions, definitions-length}

-- ---- the definitions in order

pub record Arranged (file : List ℕ) (rs : List Row) (o : List ℕ) : Type 0 where
  pub count : length o ≡ length (definitions rs)
  pub rows : (p : ℕ) → p < length o → (get_or o p 0 < length rs) × (is_definition rs (get_or o p 0) ≡ true)
  pub all : (i : ℕ) → i < length rs → is_definition rs i ≡ true → PlaceIn i o
  pub rises : (p q : ℕ) → p < q → q < length o → comes file rs (get_or o p 0) (get_or o q 0) ≡ true

in_order_lem : (file : List ℕ) (rs : List Row) → length rs ≤ 2147483647 → Arranged file rs (in_order file rs)
unfolding in_order
in_order_lem file rs few =
    let le = comes file rs in
    let ds = definitions rs in
    record {
      count = sorted-length le 32 ds;
      rows = λ p h. definition-in rs (get_or (sorted le 32 ds) p 0) (sorted-in le (get_or (sorted le 32 ds) p 0) 32 ds (at_in (sorted le 32 ds) p h));
      all = λ i h e. in-at i (sorted le 32 ds) (in-sorted le i 32 ds (in-definitions rs i h e));
      rises = sorted-at le (sorted le 32 ds)
          (sorted-sorted le (comes-total file rs) (comes-trans file rs) 32 ds (omega (arith, definitions-length rs)));
    }

pub arranged : (file : List ℕ) (rs : List Row) (o : List ℕ) → o ≡ in_order file rs → length rs ≤ 2147483647 → Arranged file rs o
arranged file rs o is few = subst (Arranged file rs) (sym is) (in_order_lem file rs few)

-- ---- the search

abbrev pub not_after : List ℕ → List Row → List ℕ → ℕ → Bool
not_after file rs wanted i = is_le (order_of (name_of file (row_no rs i)) wanted)

not-greater : (o : Ordering) → is_le o ≡ true → o ≡ Greater → ⊥
not-greater Less e f = absurd (cc f)
not-greater Equal e f = absurd (cc f)
not-greater Greater e f = false≢true e

greater : (o : Ordering) → is_le o ≡ false → o ≡ Greater
greater Less e = absurd (true≢false e)
greater Equal e = absurd (true≢false e)
greater Greater e = refl

before : (o : Ordering) → (o ≡ Greater → ⊥) → is_le o ≡ true
before Less n = refl
before Equal n = refl
before Greater n = absurd (n refl)

pub record Split (file : List ℕ) (rs : List Row) (wanted o : List ℕ) (lo : ℕ) : Type 0 where
  pub low : (p : ℕ) → p < lo → order_of (name_of file (row_no rs (get_or o p 0))) wanted ≡ Greater → ⊥
  pub high : (p : ℕ) → lo ≤ p → p < length o → order_of (name_of file (row_no rs (get_or o p 0))) wanted ≡ Greater
  pub inside : lo ≤ length o

pub split : (file : List ℕ) (rs : List Row) (wanted o : List ℕ) (lo : ℕ) → lo ≤ length o →
    IsPartitionPoint (λ i. not_after file rs wanted i ≡ true) (λ i. not_after file rs wanted i ≡ false) o lo → Split file rs wanted o lo
split file rs wanted o lo h x =
    record { low = λ p k. not-greater _ (x.0 p 0 (omega arith) k); high = λ p k m. greater _ (x.1 p 0 k m); inside = h }

-- the name of the row at place p
abbrev name_at : List ℕ → List Row → List ℕ → ℕ → List ℕ
name_at file rs o p = name_of file (row_no rs (get_or o p 0))

equal-not-greater : Equal ≡ Greater → ⊥
equal-not-greater e = cc e

module _ (file : List ℕ) (rs : List Row) (wanted o : List ℕ) (is : o ≡ in_order file rs) (few : length rs ≤ 2147483647) where
  pub parted : IsPartitionedBy (not_after file rs wanted) o
  parted i j d h k e =
      rw (get_or_default o i d 0 (omega arith)) (by (eq-or-lt_of_le h) (rw (get_or_default o j d 0 k) at e))
    where
      by : (i ≡ j) ⊎ (i < j) → not_after file rs wanted (get_or o j 0) ≡ true → not_after file rs wanted (get_or o i 0) ≡ true
      by (inl q) t = rw q t
      by (inr m) t =
          let up = comes-order file rs (get_or o i 0) (get_or o j 0) ((arranged file rs o is few).rises i j m k) in
          before _ (λ g. not-greater _ t (greater-on (name_at file rs o i) wanted (name_at file rs o j) g up))

  module _ (lo : ℕ) (s : Split file rs wanted o lo) where
    pub split-inside : 0 < lo → get_or o (lo - 1) 0 < length rs
    split-inside k = ((arranged file rs o is few).rows (lo - 1) (omega (arith, s.inside))).0

    -- a row that defines the name stands before place lo
    early : (j : ℕ) → j < length rs → is_named file wanted (row_no rs j) ≡ true → (p : ℕ) × ((p < lo) × (get_or o p 0 ≡ j))
    early j h e = by (ltb at.place lo) refl
      where
        name : ((row_no rs j).kind ≡ 8) × (name_of file (row_no rs j) ≡ wanted)
        name = named-name file rs j wanted e

        at : PlaceIn j o
        at = (arranged file rs o is few).all j h (eq-eqb (row_no rs j).kind 8 name.0)

        by : (b : Bool) → ltb at.place lo ≡ b → (p : ℕ) × ((p < lo) × (get_or o p 0 ≡ j))
        by true t = (at.place, (ltb-true at.place lo t, at.here))
        by false t =
            let g = s.high at.place (ltb-false at.place lo t) at.below in
            absurd (equal-not-greater (sym (order-self wanted) ∙ (rw (at.here, name.1) at g)))

    none : ((j : ℕ) → j < length rs → is_named file wanted (row_no rs j) ≡ true → ⊥) → None ≡ last_named file wanted rs
    none f = from-none file wanted rs 0 (λ j h y. f j y.below y.named) ∙ from_first file wanted rs

    pub split-none : lo ≡ 0 → None ≡ last_named file wanted rs
    split-none z = none (λ j h e. let p = early j h e in omega (arith, p.1.0))

    -- a row that defines the name stands at place lo - 1, or else comes before the row that stands there
    last_or : (j : ℕ) → j < length rs → is_named file wanted (row_no rs j) ≡ true →
        (get_or o (lo - 1) 0 ≡ j) ⊎ (comes file rs j (get_or o (lo - 1) 0) ≡ true)
    last_or j h e = let p = early j h e in by p.0 p.1.0 p.1.1 (eq-or-lt_of_le (omega (arith, p.1.0)))
      where
        by : (p : ℕ) → p < lo → get_or o p 0 ≡ j → (p ≡ lo - 1) ⊎ (p < lo - 1) → (get_or o (lo - 1) 0 ≡ j) ⊎ (comes file rs j (get_or o (lo - 1) 0) ≡ true)
        by p k q (inl u) = inl (rw (← u) q)
        by p k q (inr u) = inr (rw q at ((arranged file rs o is few).rises p (lo - 1) u (omega (arith, s.inside))))

    pub split-other : 0 < lo → is_named file wanted (row_no rs (get_or o (lo - 1) 0)) ≡ false → None ≡ last_named file wanted rs
    split-other z f = none (λ j h e. by j e (last_or j h e))
      where
        i : ℕ
        i = get_or o (lo - 1) 0

        kind : (row_no rs i).kind ≡ 8
        kind = eqb-true (row_no rs i).kind 8 ((arranged file rs o is few).rows (lo - 1) (omega (arith, s.inside))).1

        by : (j : ℕ) → is_named file wanted (row_no rs j) ≡ true → (i ≡ j) ⊎ (comes file rs j i ≡ true) → ⊥
        by j e (inl u) = false≢true (sym (rw u at f) ∙ e)
        by j e (inr c) =
            let n = (named-name file rs j wanted e).1 in
            let name = order_alike (name_of file (row_no rs i)) wanted (s.low (lo - 1) (omega arith)) (λ g. comes-order file rs j i c (rw n g)) in
            false≢true (sym f ∙ name-named file rs i wanted kind name)

    pub split-row : 0 < lo → is_named file wanted (row_no rs (get_or o (lo - 1) 0)) ≡ true → Some (get_or o (lo - 1) 0) ≡ last_named file wanted rs
    split-row z t = sym (last-is file wanted rs i (split-inside z) t (from_nothing file wanted rs (suc i) behind))
      where
        i : ℕ
        i = get_or o (lo - 1) 0

        by : (j : ℕ) → i < j → is_named file wanted (row_no rs j) ≡ true → (i ≡ j) ⊎ (comes file rs j i ≡ true) → ⊥
        by j h e (inl u) = omega arith
        by j h e (inr c) =
            let k = comes-same file rs j i c ((named-name file rs j wanted e).1 ∙ sym (named-name file rs i wanted t).1) in
            omega arith

        behind : None ≡ last_from file wanted rs (suc i)
        behind = from-none file wanted rs (suc i) (λ j h y. by j h y.named (last_or j y.below y.named))
