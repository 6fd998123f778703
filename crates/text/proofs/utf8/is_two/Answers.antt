-- `text::utf8::is_two` meets its contract. Assumes nothing.
use Prim.Native.Nat.{ℕ}
use mathlib.Core.Path.{◌≡◌, sym, ◌∙◌}
use native.Mathlib.Omega.{arith}
use Rattle.text.proofs.sequences.FirstOctet.{width_two}
use Rattle.text.proofs.general.Tests.{both_true}
use Rattle.text.proofs.utf8.is_two.Goals as goal

pub returns-then-s-at-lt2 : goal.returns-then-s-at-lt2
returns-then-s-at-lt2 c = λ e. let z : ◌≡◌ {A = ℕ} 0 1 = cc in absurd (omega arith)

pub returns : goal.returns
returns c = λ e.
    let a = c.args in
    let b = both_true _ c.is_tail.result e in
    (width_two a.s.now a.at (omega arith) b.0 (sym c.is_tail.ensures ∙ b.1), omega arith)
