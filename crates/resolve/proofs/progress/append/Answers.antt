-- `resolve::progress::append` meets its contract. Assumes nothing.
use native.Mathlib.Omega.{arith}
use mathlib.Core.Path.{refl}
use Rattle.resolve.proofs.appending.AppendWays.{inside, append-over, append-on}
use Rattle.resolve.proofs.progress.append.Goals as goal

pub returns-then-st-bytes : goal.returns-then-st-bytes
returns-then-st-bytes c =
    let a = c.args in
    let p = c.requires in record {
      appends = λ ps cs b₀ t₀ b b' w has held.
          append-over a.from.now a.st a.rows a.first a.last p.1 p.2 ps cs b₀ t₀ b b' a.text.now _ w has held c.if-st-bytes.true _ refl;
      bounded = (record { bytes = omega arith; rows = omega (arith, c.none.ensures.n_value); names = p.0.names }, refl);
    }

pub returns : goal.returns
returns c =
    let a = c.args in
    let p = c.requires in
    let i = inside a.from.now a.st a.rows a.first a.last p.1 p.2 c.if-st-bytes.false in record {
      appends = λ ps cs b₀ t₀ b b' w has held.
          append-on a.from.now a.st a.rows a.first a.last p.1 p.2 ps cs b₀ t₀ b b' a.text.now _ w has held c.if-st-bytes.false
          c.copy.ensures.puts.bytes _ refl refl refl;
      bounded = (record { bytes = i.1; rows = i.2; names = p.0.names }, refl);
    }
