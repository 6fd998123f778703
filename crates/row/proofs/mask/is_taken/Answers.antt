-- `row::mask::is_taken` meets its contract. Assumes nothing.
use borrow.Author.Tests.{ne_eqb, lt-ltb, le-ltb}
use Rattle.row.specs.Masks.{taken_of}
use Rattle.row.proofs.mask.is_taken.Goals as goal

pub returns-then-detail-ne0 : goal.returns-then-detail-ne0
unfolding taken_of
returns-then-detail-ne0 c = rw (c.is_detail.ensures, ne_eqb _ 0 c.if-detail-ne0.true)

pub returns-then-kind-lt10 : goal.returns-then-kind-lt10
unfolding taken_of
returns-then-kind-lt10 c = rw (c.if-detail-ne0.false, lt-ltb _ 10 c.if-kind-lt10.true)

pub returns : goal.returns
unfolding taken_of
returns c = rw (c.if-detail-ne0.false, le-ltb _ 10 c.if-kind-lt10.false)
