-- The invariants of `lookup::index::chain`.
use Rattle.std.proofs.Common.{◌≡◌, length}
use Rattle.lookup.specs.RowIndex.{IndexedFrom}
use Rattle.lookup.proofs.index.chain.Given as goal

abbrev pub invariant-loop-i : goal.invariant-loop-i
invariant-loop-i l = (length l.heads ≡ length l.initial.heads) × (length l.next ≡ length l.initial.next) × IndexedFrom l.file l.rows l.i l.heads l.next
