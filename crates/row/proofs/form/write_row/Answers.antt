-- `row::form::write_row` meets its contract. Assumes nothing.
use Prim.Native.Nat.{ℕ}
use mathlib.Core.Path.{ap, ◌∙◌}
use Rattle.row.specs.Row.{row_of, put_row}
use Rattle.row.proofs.form.write_row.Goals as goal

pub returns : goal.returns
returns c =
    let a = c.args in
    c.write_numbers.ensures
    ∙ ap (λ (k : ℕ). put_row a.rows.now a.n (row_of k a.detail a.start a.end)) c.from.ensures
