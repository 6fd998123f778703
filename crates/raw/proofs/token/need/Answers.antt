-- `raw::token::need` meets its contract. Assumes nothing.
use Rattle.std.proofs.Common.{◌∙◌, sym, arith}
use Rattle.raw.proofs.ways.OneCharacter.{need-end, need-other, need-byte}
use Rattle.raw.proofs.token.need.Goals.{else-at-s, then-at-s+else-test}
use Rattle.raw.proofs.token.need.Goals as goal

pub returns-then-test : goal.returns-then-test
returns-then-test g c =
    let a = c.args in
    let fits = c.type_inv.s a.at in
    λ t narrow told.
    need-byte t a.reason a.s.now a.at narrow c.if-at-s.true (sym (told _ (omega arith) _ c.test.ensures) ∙ c.if-test.true)

pub returns : goal.returns
returns g c =
    let a = c.args in
    let fits = c.type_inv.s a.at in
    λ t narrow told.
    rw c.fault_at.ensures
    (elim c.if-at-s.branch [
      | then-at-s+else-test w ↦ need-other t a.reason a.s.now a.at narrow w.if-at-s.true (sym (told _ (omega arith) _ w.test.ensures) ∙ w.if-test.false)
      | else-at-s w ↦ need-end t a.reason a.s.now a.at w.if-at-s.false
    ])
