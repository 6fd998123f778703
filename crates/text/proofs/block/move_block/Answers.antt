-- `text::block::move_block` meets its contract. Assumes nothing.
use Rattle.std.proofs.Common.{◌∙◌}
use Rattle.text.proofs.general.Stores.{stored}
use Rattle.text.proofs.block.move_block.Goals as goal

pub returns : goal.returns
returns g c =
    let a = c.args in
    stored a.s.now a.out.now _ a.from a.at g.row.N c.requires.0 c.requires.1 (c.copy_from_slice-2.ensures.after ∙ c.copy_from_slice.ensures.after)
