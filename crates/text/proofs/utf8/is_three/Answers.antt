-- `text::utf8::is_three` meets its contract. Assumes nothing.
use Prim.Native.Nat.{ℕ}
use mathlib.Core.Path.{◌≡◌, sym, ◌∙◌}
use native.Mathlib.Omega.{arith}
use Rattle.text.proofs.sequences.FirstOctet.{width_three}
use Rattle.text.proofs.general.Tests.{both_true}
use Rattle.text.proofs.utf8.is_three.Goals as goal

pub returns-then-s-at-lt3 : goal.returns-then-s-at-lt3
returns-then-s-at-lt3 c = λ e. let z : ◌≡◌ {A = ℕ} 0 1 = cc in absurd (omega arith)

pub returns : goal.returns
returns c =
    let a· = c.args in
    λ e. let a = a· in let b = both_true _ c.is_tail-2.result e in let d = both_true _ c.is_tail.result b.0 in
    (width_three a.s.now a.at (omega arith) d.0 (sym c.is_tail.ensures ∙ d.1) (sym c.is_tail-2.ensures ∙ b.1), omega arith)
