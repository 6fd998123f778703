-- `text::block::has` meets its contract. Assumes nothing.
use Rattle.std.proofs.Common.{ℕ, ◌-◌, ◌≡◌, arith, length, leb-true}
use Rattle.text.proofs.block.has.Goals as goal

pub returns-then-s-n : goal.returns-then-s-n
returns-then-s-n c = λ e. let z : ◌≡◌ {A = ℕ} 0 1 = cc in absurd (omega arith)

pub returns : goal.returns
returns c = λ e. let a = c.args in omega (arith, leb-true a.at (length a.s.now - a.n) e)
