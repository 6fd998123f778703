-- `command::stack::put_code` meets its contract. Assumes nothing.
use Rattle.std.proofs.Common.{arith}
use Rattle.command.proofs.stacks.LaysLaws as laws
use Rattle.command.proofs.stack.put_code.Goals as goal

pub overflow_add-result : goal.overflow_add-result
overflow_add-result c =
    let a = c.args in
    let e = laws.wrote_so a.c _ _ _ c.encode.ensures c.requires.0
    (laws.room a.c a.out.now a.at c.requires.1) c.in-Ok.n c.in-Ok.is in
    omega (arith, e, c.requires.1)

pub returns-in-Ok : goal.returns-in-Ok
returns-in-Ok c =
    let a = c.args in
    let e = laws.wrote_so a.c _ _ _ c.encode.ensures c.requires.0 (laws.room a.c a.out.now a.at c.requires.1) c.in-Ok.n
    c.in-Ok.is in
    laws.coded a.c _ _ _ c.encode.ensures c.requires.0 (laws.room a.c a.out.now a.at c.requires.1) a.out.now _ a.at
    c.in-Ok.n (omega (arith, c.requires.1)) c.in-Ok.is

pub returns-in-Err : goal.returns-in-Err
returns-in-Err c =
    let a = c.args in
    absurd (laws.wrote-some a.c _ _ _ c.encode.ensures c.requires.0 (laws.room a.c a.out.now a.at c.requires.1) c.in-Err.is)
