-- What falls in `literal::parse::content` and `argument` is twice the depth, and one more for `content`.
use Rattle.std.specs.Prelude.{Result}
use Rattle.row.specs.declared.fault.Fault.{Fault}
use Rattle.literal.specs.declared.making.Making.{Making}
use Rattle.std.proofs.Common.{◌≡◌, ◌+◌, length, ℕ, ◌-◌, ◌*◌, List}
use Rattle.turn.specs.Content.{inside}
use Rattle.literal.specs.Inner.{from, AheadState, ReadyContent, SaysContent}
use Rattle.literal.proofs.parse.+argument_content.Given as goal

abbrev pub decreases-argument : goal.decreases-argument
decreases-argument l = 2 * l.depth

abbrev pub decreases-content : goal.decreases-content
decreases-content l = 2 * l.depth + 1

-- an answer that is right for the content from here on is right for the whole content
abbrev pub invariant-content-loop-out : goal.invariant-content-loop-out
invariant-content-loop-out l =
    AheadState (length l.s) 0 l.initial.st l.st × (length l.out ≡ length l.initial.out) × (length l.numbers ≡ length l.initial.numbers)
    × ReadyContent l.s l.place l.st l.out
    × ((r : Result Making Fault) (o b : List ℕ) → SaysContent l.place (from (inside l.depth) l.verb l.s l.st) l.st l.out l.numbers r o b
    → SaysContent l.place (from (inside l.depth) l.verb l.s l.initial.st) l.initial.st l.initial.out l.initial.numbers r o b)

abbrev pub decreases-content-loop-out : goal.decreases-content-loop-out
decreases-content-loop-out l = length l.s - l.st.at
