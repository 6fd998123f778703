-- `text_cases::samples::walk` ends: each character seen ends further on, and inside the text. Assumes nothing.
use Rattle.std.proofs.Common.{◌-◌, ◌≤◌, length}
use Rattle.text_cases.proofs.samples.walk.Given as goal

abbrev pub invariant-loop-code : goal.invariant-loop-code
invariant-loop-code g l = l.at ≤ length l.s

abbrev pub decreases-loop-code : goal.decreases-loop-code
decreases-loop-code g l = length l.s - l.at
