-- `resolve::one_literal::is_span` meets its contract. Assumes nothing.
use mathlib.Core.Path.{ap₂}
use mathlib.Core.Bool.{Bool, ◌&&◌}
use lib.Dec.{leb}
use Rattle.resolve.proofs.one_literal.is_span.Goals as goal

pub returns : goal.returns
returns c =
    let a = c.args in
    ap₂ (λ (x y : Bool). leb a.start a.end && (x && y)) c.is_boundary.ensures c.is_boundary-2.ensures
