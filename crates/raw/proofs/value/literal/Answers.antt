-- `raw::value::literal` meets its contract. Assumes nothing.
use Rattle.std.proofs.Common.{refl, ap}
use Rattle.row.specs.declared.form.Kind.TheVariants as kind
use Rattle.raw.specs.Inner.{literal_of}
use Rattle.raw.proofs.contracts.SaysLaws.{says_of, says_on, says_row}
use Rattle.raw.proofs.value.literal.Goals as goal

pub returns : goal.returns
returns c =
    let a = c.args in
    says_of (ap (literal_of a.from a.to) c.in_ok-at.was) (rw c.put_row.ensures (says_row kind.Literal a.from a.to (says_on refl)))
