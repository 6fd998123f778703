-- `raw::entry::form_of` meets its contract. Assumes nothing.
use Rattle.std.proofs.Common.{sym, ◌∙◌}
use Rattle.raw.specs.Grammar.{form_of}
use Rattle.raw.proofs.entry.form_of.Goals as goal

pub returns-then-spells : goal.returns-then-spells
unfolding form_of
returns-then-spells c = rw (sym c.spells.ensures ∙ c.if-spells.true)

pub returns-then-spells-2 : goal.returns-then-spells-2
unfolding form_of
returns-then-spells-2 c = rw (sym c.spells.ensures ∙ c.if-spells.false, sym c.spells-2.ensures ∙ c.if-spells-2.true)

pub returns-then-spells-3 : goal.returns-then-spells-3
unfolding form_of
returns-then-spells-3 c = rw (sym c.spells.ensures ∙ c.if-spells.false, sym c.spells-2.ensures ∙ c.if-spells-2.false, sym c.spells-3.ensures ∙ c.if-spells-3.true)

pub returns : goal.returns
unfolding form_of
returns c = rw (sym c.spells.ensures ∙ c.if-spells.false, sym c.spells-2.ensures ∙ c.if-spells-2.false, sym c.spells-3.ensures ∙ c.if-spells-3.false)
