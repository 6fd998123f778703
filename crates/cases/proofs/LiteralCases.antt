-- The cases of specs/LiteralCases.antt compute: `literal-cases`, `deep`.
-- Assumes nothing.
use mathlib.Core.Path.{refl}
use Rattle.text.specs.Walk.{walk_from}
use Rattle.text.specs.Utf8.{alternatives, begins, width_by, gather, value, octets}
use Rattle.text.specs.Class.{white_space, control, is_whitespace, is_control, is_id_continue, holds_of}
use Rattle.text.specs.Scan.{see_from, look_past, skip}
use Rattle.text.specs.Scan as scan
use Rattle.raw.specs.Reader.{loop, many}
use Rattle.text.specs.Strings.{utf8}
use Rattle.chunk.specs.Format.{last_from, lines, format_from, is_escapable}
use Rattle.compose.specs.Composites.{composites}
use Rattle.compose.specs.Lookup.{lookup}
use Rattle.text.specs.SameBytes.{same_bytes}
use Rattle.command.specs.Commands.{is_single_char_func, commands, meaning_in}
use Rattle.command.specs.Execute.{dotted, bare, execute_command}
use Rattle.turn.specs.Content.{steps, end_turn, argument_end, braced, with_name, command, backslash, maths, closing, hyphens}
use Rattle.turn.specs.Content.{content_turn, content_by, inside, flatten_from}
use Rattle.literal.specs.Literal.{resolve_literal}
use Rattle.cases.specs.LiteralCases.{table, LiteralCases, opened, closers, Deep}

pub literal-cases : LiteralCases
unfolding walk_from alternatives begins width_by gather value octets white_space control is_whitespace is_control is_id_continue holds_of scan.code
    scan.rest see_from look_past skip composites lookup loop many last_from lines format_from is_escapable flatten_from utf8 is_single_char_func commands
    same_bytes meaning_in dotted bare execute_command steps end_turn argument_end braced with_name command backslash maths closing hyphens content_turn
    content_by inside resolve_literal table
literal-cases = refl

pub deep : Deep
unfolding walk_from alternatives begins width_by gather value octets white_space control is_whitespace is_control is_id_continue holds_of scan.code
    scan.rest see_from look_past skip composites lookup loop many last_from lines format_from is_escapable flatten_from utf8 is_single_char_func commands
    same_bytes meaning_in dotted bare execute_command steps end_turn argument_end braced with_name command backslash maths closing hyphens content_turn
    content_by inside resolve_literal opened closers
deep = record { sixty-four = refl; sixty-five = refl; left_open = refl }
