-- `whole::file::put_answer` meets its contract. Assumes nothing.
use native.Mathlib.Omega.{arith}
use lib.ListN.{length-set}
use Rattle.whole.proofs.ways.LentParts.{store-six}
use Rattle.whole.proofs.file.put_answer.Goals as goal

pub returns : goal.returns
returns c = let a = c.args in store-six a.answers.now _ a.number a.names a.first a.last a.from a.to

pub bounds-answers-at-2 : goal.bounds-answers-at-2
bounds-answers-at-2 c = simp length-set (omega arith)

pub bounds-answers-at-3 : goal.bounds-answers-at-3
bounds-answers-at-3 c = simp length-set (omega arith)

pub bounds-answers-at-4 : goal.bounds-answers-at-4
bounds-answers-at-4 c = simp length-set (omega arith)

pub bounds-answers-at-5 : goal.bounds-answers-at-5
bounds-answers-at-5 c = simp length-set (omega arith)

pub bounds-answers-at-6 : goal.bounds-answers-at-6
bounds-answers-at-6 c = simp length-set (omega arith)
