-- The order of bytes, and of rows by their names.
--     order-self                    Equal of a text and itself
--     order_alike                   where neither of two texts comes behind the other they are equal
--     greater-on                    the order is transitive
--     comes-total, comes-trans      of two rows one comes before the other, and the order of rows is transitive
--     comes-order, comes-same       what the order of rows says of their names, and of two rows of one name
-- Assumes nothing.
use Rattle.std.proofs.Common.{◌≡◌, ℕ, ◌≤◌, true, false, List, Ordering, Less, Equal, Greater, refl, sym, ap, ◌∙◌, leb-true, leb-false, le-leb}
use Rattle.std.proofs.Common.{true≢false, arith}
use Rattle.std.proofs.lemmas.Bool.{false≢true}
use Rattle.std.proofs.lemmas.Cmp.{nat_list_cmp_total, tied_itself}
use Rattle.std.proofs.lemmas.Map.Lookups.{exact_bytes}
use Rattle.std.specs.Ordering.{ordering_reverse}
use Rattle.row.specs.Row.{Row}
use Rattle.lookup.specs.Names.{name_of, row_no}
use Rattle.lookup.specs.Order.{order_of, comes_by, comes}
use Rattle.lookup.proofs.bytes.Compared.{order_cmp}

-- ---- texts, by the library's laws of `cmp`

order_flip : (a b : List ℕ) → order_of b a ≡ ordering_reverse (order_of a b)
order_flip a b = rw (← order_cmp a b, ← order_cmp b a) (nat_list_cmp_total.antisymm b a)

order-less : (a b : List ℕ) → order_of a b ≡ Less → order_of b a ≡ Greater
order-less a b e = order_flip a b ∙ ap ordering_reverse e

order-greater : (a b : List ℕ) → order_of a b ≡ Greater → order_of b a ≡ Less
order-greater a b e = order_flip a b ∙ ap ordering_reverse e

pub order-self : (a : List ℕ) → order_of a a ≡ Equal
order-self a = sym (order_cmp a a) ∙ tied_itself nat_list_cmp_total a

order-equal : (a b : List ℕ) → order_of a b ≡ Equal → a ≡ b
order-equal a b e = exact_bytes a b (order_cmp a b ∙ e)

pub order_alike : (a b : List ℕ) → (order_of a b ≡ Greater → ⊥) → (order_of b a ≡ Greater → ⊥) → a ≡ b
order_alike a b f g = by (order_of a b) refl
  where
    by : (r : Ordering) → order_of a b ≡ r → a ≡ b
    by Less e = absurd (g (order-less a b e))
    by Equal e = order-equal a b e
    by Greater e = absurd (f e)

less-trans : (a b c : List ℕ) → order_of a b ≡ Less → order_of b c ≡ Less → order_of a c ≡ Less
less-trans a b c e f = sym (order_cmp a c) ∙ nat_list_cmp_total.trans a b c (order_cmp a b ∙ e) (order_cmp b c ∙ f)

-- where a comes behind b and not behind c, c comes behind b
pub greater-on : (a b c : List ℕ) → order_of a b ≡ Greater → (order_of a c ≡ Greater → ⊥) → order_of c b ≡ Greater
greater-on a b c e f = by (order_of a c) refl
  where
    by : (r : Ordering) → order_of a c ≡ r → order_of c b ≡ Greater
    by Less h = order-less b c (less-trans b a c (order-greater a b e) h)
    by Equal h = rw (order-equal a c h) at e
    by Greater h = absurd (f h)

-- ---- rows

module _ (file : List ℕ) (rs : List Row) where
  pub comes-total : (i j : ℕ) → comes file rs i j ≡ false → comes file rs j i ≡ true
  unfolding comes
  comes-total i j e = rw (order_flip (name_of file (row_no rs i)) (name_of file (row_no rs j))) (by (order_of (name_of file (row_no rs i)) (name_of file (row_no rs j))) e)
    where
      by : (r : Ordering) → comes_by r i j ≡ false → comes_by (ordering_reverse r) j i ≡ true
      by Less e = absurd (true≢false e)
      by Equal e = let h = leb-false i j e in le-leb j i (omega arith)
      by Greater e = refl

  -- a row that comes before another has no greater name
  pub comes-order : (i j : ℕ) → comes file rs i j ≡ true → order_of (name_of file (row_no rs i)) (name_of file (row_no rs j)) ≡ Greater → ⊥
  unfolding comes
  comes-order i j e h = false≢true (rw h at e)

  -- of two rows of one name that with the lesser number comes first
  pub comes-same : (i j : ℕ) → comes file rs i j ≡ true → name_of file (row_no rs i) ≡ name_of file (row_no rs j) → i ≤ j
  unfolding comes
  comes-same i j e h = leb-true i j (rw (h, order-self (name_of file (row_no rs j))) at e)

  pub comes-trans : (i j k : ℕ) → comes file rs i j ≡ true → comes file rs j k ≡ true → comes file rs i k ≡ true
  unfolding comes
  comes-trans i j k e f = by (name_of file (row_no rs i)) (name_of file (row_no rs j)) (name_of file (row_no rs k)) e f
    where
      by : (a b c : List ℕ) → comes_by (order_of a b) i j ≡ true → comes_by (order_of b c) j k ≡ true → comes_by (order_of a c) i k ≡ true
      by a b c e f = two (order_of a b) (order_of b c) refl refl e f
        where
          two : (r t : Ordering) → order_of a b ≡ r → order_of b c ≡ t → comes_by r i j ≡ true → comes_by t j k ≡ true → comes_by (order_of a c) i k ≡ true
          two Less Less p q e f = rw (less-trans a b c p q)
          two Less Equal p q e f = rw (← order-equal b c q, p)
          two Equal Less p q e f = rw (order-equal a b p, q)
          two Equal Equal p q e f =
              let g = leb-true i j e in
              let h = leb-true j k f in
              rw (order-equal a b p, q) (le-leb i k (omega arith))
          two Less Greater p q e f = absurd (false≢true f)
          two Equal Greater p q e f = absurd (false≢true f)
          two Greater t p q e f = absurd (false≢true e)
