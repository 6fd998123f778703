-- `text::class::has` meets its contract. Assumes nothing.
use Rattle.std.proofs.Common.{lt-ltb, le-ltb}
use Rattle.text.specs.Inner.{has_bit}
use Rattle.text.proofs.class.has.Goals as goal

pub returns-then-b-lt64 : goal.returns-then-b-lt64
unfolding has_bit
returns-then-b-lt64 c = rw (lt-ltb _ _ c.if-b-lt64.true)

pub returns-then-b-lt128 : goal.returns-then-b-lt128
unfolding has_bit
returns-then-b-lt128 c = rw (le-ltb _ _ c.if-b-lt64.false, lt-ltb _ _ c.if-b-lt128.true)

pub returns : goal.returns
unfolding has_bit
returns c = rw (le-ltb _ _ c.if-b-lt64.false, le-ltb _ _ c.if-b-lt128.false)
