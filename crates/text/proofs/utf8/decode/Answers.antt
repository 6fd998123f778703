-- `text::utf8::decode` meets its contract. Assumes nothing.
use Prim.Native.Nat.{ℕ, ◌+◌}
use mathlib.Core.Path.{sym, ap, ◌∙◌}
use native.Mathlib.Omega.{arith}
use Rattle.text.specs.declared.utf8.Decoded.TheVariants.{Char}
use Rattle.text.proofs.scanning.Seen.{decode-end, decode-none, decode-some}
use Rattle.text.proofs.utf8.decode.Goals as goal

pub returns-then-s-at : goal.returns-then-s-at
returns-then-s-at c = sym (decode-end _ _ c.if-s-at.true)

pub returns-then-n-eq0 : goal.returns-then-n-eq0
returns-then-n-eq0 c =
    let a = c.args in
    let if1 = c.if-s-at in
    let sequence = c.sequence-n in
    sym (decode-none a.s.now a.at if1.false sequence.ensures.0 c.if-n-eq0.true)

pub value_at-code-requires : goal.value_at-code-requires
value_at-code-requires c = (omega arith, omega arith, omega arith)

pub returns : goal.returns
returns c =
    let a = c.args in
    ap (λ (v : ℕ). Char v (a.at + c.sequence-n.result)) c.value_at-code.ensures ∙ sym
    (decode-some a.s.now a.at c.if-s-at.false c.sequence-n.ensures.0 c.if-n-eq0.false)
