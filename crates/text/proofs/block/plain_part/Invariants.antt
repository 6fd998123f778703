-- The invariant of `text::block::plain_part`.
use Rattle.std.proofs.Common.{◌≤◌}
use Rattle.text.proofs.scanning.Blocks.{Before, PlainAt}
use Rattle.text.proofs.block.plain_part.Given as goal

abbrev pub invariant-loop-k : goal.invariant-loop-k
invariant-loop-k l = (l.m ≤ 16) × Before (PlainAt l.s) l.at l.k l.m
