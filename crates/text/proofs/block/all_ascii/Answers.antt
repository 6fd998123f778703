-- `text::block::all_ascii` meets its contract. Assumes nothing.
use Rattle.std.proofs.Common.{ℕ, subst, length, eqb-true}
use Rattle.text.specs.Block.{others, Clear}
use Rattle.text.proofs.block.all_ascii.Goals as goal

pub returns : goal.returns
returns c = λ e.
    let s = c.args.s.now in
    subst (λ (r : ℕ). Clear others s 0 r) (eqb-true c.past_short.result (length s) e) c.past_short.ensures
