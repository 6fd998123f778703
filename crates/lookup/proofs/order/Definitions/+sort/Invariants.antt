-- The measure of `lookup::order::Definitions::sort`: each half is sorted with a smaller depth.
use Rattle.lookup.proofs.order.Definitions.+sort.Given as goal

abbrev pub decreases-sort : goal.decreases-sort
decreases-sort l = l.depth
