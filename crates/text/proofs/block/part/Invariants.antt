-- The invariant of `text::block::part`.
use Rattle.std.proofs.Common.{◌≤◌}
use Rattle.text.proofs.scanning.Blocks.{Before, ClearAt}
use Rattle.text.proofs.block.part.Given as goal

abbrev pub invariant-loop-k : goal.invariant-loop-k
invariant-loop-k l = (l.m ≤ 16) × Before (ClearAt l.x l.s) l.at l.k l.m
