-- `chunk::ending::ends_white` meets its contract. Assumes nothing.
use Rattle.std.proofs.Common.{◌∙◌}
use Rattle.chunk.proofs.texts.LastCharacter.{last_less, white-last, white-ascii}
use Rattle.chunk.proofs.ending.ends_white.Goals as goal

pub returns-then-b-lt128 : goal.returns-then-b-lt128
returns-then-b-lt128 c =
    let a = c.args in
    white-ascii a.t.now a.from a.to c.if-to-from.false c.requires.1 c.if-b-lt128.true

pub code_at-c-requires : goal.code_at-c-requires
code_at-c-requires c =
    let a = c.args in
    (last_less a.t.now a.from a.to _ c.if-to-from.false c.requires.1 c.last_at-at.ensures, c.requires.1)

pub returns : goal.returns
returns c =
    let a = c.args in
    c.is_whitespace.ensures
    ∙ white-last a.t.now a.from a.to c.last_at-at.result c.code_at-c.result c.if-to-from.false c.requires.1
    c.last_at-at.ensures c.code_at-c.ensures
