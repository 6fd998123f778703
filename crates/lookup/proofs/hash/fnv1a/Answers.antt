-- `lookup::hash::fnv1a` meets its contract. Assumes nothing.
use Rattle.std.proofs.Common.{sym, ◌∙◌, arith}
use Rattle.lookup.proofs.bytes.HashTurns.{hash-turn, hash-end}
use Rattle.lookup.proofs.hash.fnv1a.Goals as goal

pub loop-b-preserved : goal.loop-b-preserved
loop-b-preserved c =
    let l = c.loop-b in
    rw (c.wrapping_mul-hash.ensures, c.from.ensures) (l.invariant ∙ hash-turn c.args.bytes.now l.hash l.b-index (omega arith))

pub returns : goal.returns
returns c =
    let l = c.loop-b in
    sym (l.invariant ∙ hash-end c.args.bytes.now l.hash l.b-index (omega arith))
