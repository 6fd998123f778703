-- The proof of specs/Turning.antt: `turning`.
-- Assumes nothing.
use Rattle.turn.specs.Turning.{Turning}
use Rattle.turn.proofs.contents.TurnsAdvance as advance
use Rattle.turn.proofs.contents.TurnsSeen as seen
use Rattle.turn.proofs.ways.CommandAnswers as answers

pub turning : Turning
turning = record {
  opens-inside = advance.opens-inside;
  end-inside = advance.end-inside;
  leads = seen.leads;
  stopped = seen.stopped;
  ended = seen.ended;
  turn-open = seen.turn-open;
  turn-close = seen.turn-close;
  turn-math = seen.turn-math;
  sign-inside = answers.sign-inside;
  ordinary = answers.ordinary;
  sign-dollar = answers.sign-dollar;
  sign-closing = answers.sign-closing;
}
