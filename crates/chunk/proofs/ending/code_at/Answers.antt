-- `chunk::ending::code_at` meets its contract. Assumes nothing.
use Rattle.std.proofs.Common.{refl, sym, length-take-le}
use Rattle.chunk.proofs.texts.LastCharacter.{code-seen}
use Rattle.chunk.proofs.ending.code_at.Goals as goal

pub slice_bounds-seen-end : goal.slice_bounds-seen-end
slice_bounds-seen-end c = sym (length-take-le c.args.to c.args.t.now c.requires.1)

pub returns-in-None : goal.returns-in-None
returns-in-None c =
    let a = c.args in
    code-seen a.t.now _ a.at a.to _ _ refl c.requires.0 c.requires.1 c.seen.ensures.0 c.in-None.is

pub returns-in-Some : goal.returns-in-Some
returns-in-Some c =
    let a = c.args in
    code-seen a.t.now _ a.at a.to _ _ refl c.requires.0 c.requires.1 c.seen.ensures.0 c.in-Some.is
