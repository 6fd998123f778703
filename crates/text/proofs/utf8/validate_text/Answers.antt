-- `text::utf8::validate_text` meets its contract. Assumes nothing.
use mathlib.Core.Path.{sym}
use Rattle.text.proofs.sequences.ValidateLoop.{valid-all}
use Rattle.text.proofs.utf8.validate_text.Goals as goal

pub returns-then-all_ascii : goal.returns-then-all_ascii
returns-then-all_ascii c = sym (valid-all _ (c.all_ascii.ensures c.if-all_ascii.true))
