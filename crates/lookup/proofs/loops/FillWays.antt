-- The definitions gathered at the beginning of `next` and put in order there: `fill`.
--     gathered-most    no more are gathered than there are rows
--     filled           they are in order, and the mark tells how many
-- Assumes nothing.
use Rattle.std.proofs.Common.{ℕ, suc, ◌+◌, ◌/◌, ◌≤◌, ◌<◌, arith, ◌≡◌, sym, ap, ◌∙◌, List, ◌++◌, length, take, drop, set, get_or-set_same, take_at}
use Rattle.row.specs.Numbers.{rows_of}
use Rattle.row.proofs.Laid.{laid}
use Rattle.lookup.specs.Order.{comes, sorted, definitions, in_order, Ordered}
use Rattle.lookup.proofs.sorting.Definitions.{definitions-length}

module _ (rows next : List ℕ) (m : ℕ) (count : m ≡ length (definitions (rows_of rows))) (first : take m next ≡ definitions (rows_of rows)) where
  gathered-size : m ≡ length (take m next)
  gathered-size = count ∙ sym (ap length first)

  pub gathered-most : m ≤ length rows / 4
  gathered-most = omega (arith, count, definitions-length (rows_of rows), laid.rows-length rows)

  pub filled : (file heads ys : List ℕ) → 0 < length heads → ys ≡ sorted (comes file (rows_of rows)) 32 (take m next) → length ys ≡ length (take m next) →
      Ordered file rows (set heads 0 (length rows / 4 + 1 + m)) (ys ++ drop m next)
  unfolding in_order
  filled file heads ys h e l =
      let z : length rows / 4 + 1 + m ≡ suc (length rows / 4) + length (definitions (rows_of rows)) = omega (arith, count) in
      record {
        mark = get_or-set_same heads 0 (length rows / 4 + 1 + m) 0 h ∙ z;
        order =
            ap (λ (n : ℕ). take n (ys ++ drop m next)) (sym count)
            ∙ take_at ys (drop m next) m (l ∙ sym gathered-size)
            ∙ e
            ∙ ap (sorted (comes file (rows_of rows)) 32) first;
      }
