-- The lines of specs/EdgeTable.antt compute: `edge-table`.
-- Assumes nothing.
use mathlib.Core.Path.{refl}
use Rattle.text.specs.Walk.{walk_from}
use Rattle.text.specs.Strings.{utf8}
use Rattle.text.specs.Utf8.{alternatives, begins, width_by, gather, value, octets, look_valid, validity_of}
use Rattle.text.specs.Class.{white_space, control, is_whitespace, is_control, is_key, is_id_continue, is_id_start, holds_of}
use Rattle.text.specs.Scan.{code, see_from, look_past, skip}
use Rattle.text.specs.Scan as scan
use Rattle.row.specs.Row.{moved}
use Rattle.row.specs.Rules.{is_rows, run, next}
use Rattle.row.specs.Numbers.{rows_of, are_rows}
use Rattle.raw.specs.Reader.{loop, many}
use Rattle.raw.specs.Grammar.{white, comma, opening, quote, equals, quoted_turn, quoted, string, string_literal, number_turn}
use Rattle.raw.specs.Grammar.{number, braced_turn, in_braces, ident, single_field, abbr_element, abbr_turn, abbr_field, comment}
use Rattle.raw.specs.Grammar.{field, field_end, fields_turn, fields, key, spells, form_of, lead, rest, at_sign, strings, preamble}
use Rattle.raw.specs.Grammar.{commented, body, entry, file_turn, file}
use Rattle.raw.specs.Grammar as grammar
use Rattle.raw.specs.Read.{strict}
use Rattle.chunk.specs.Format.{last_from, lines, format_from, is_escapable}
use Rattle.compose.specs.Composites.{composites}
use Rattle.compose.specs.Lookup.{lookup}
use Rattle.text.specs.SameBytes.{same_bytes}
use Rattle.text.specs.Every.{every}
use Rattle.command.specs.Commands.{is_single_char_func, commands, meaning_in}
use Rattle.command.specs.Execute.{dotted, bare, execute_command}
use Rattle.turn.specs.Content.{steps, end_turn, argument_end, with_name, command, backslash, maths, hyphens, content_turn, content_by, inside, flatten_from}
use Rattle.turn.specs.Content as content
use Rattle.literal.specs.Literal.{resolve_literal}
use Rattle.salvage.specs.Salvage.{head, cut, pieces, salvage_of}
use Rattle.pack.specs.Digits.{digits}
use Rattle.pack.specs.Seven.{packing}
use Rattle.pack.specs.Pack.{is_packable}
use Rattle.cases.specs.EdgeTable.{table, EdgeTable}

pub edge-table : EdgeTable
unfolding
    -- text
    walk_from alternatives begins width_by gather value octets look_valid validity_of white_space control is_whitespace is_control is_key is_id_continue
    is_id_start holds_of code scan.rest see_from look_past skip utf8
    -- strict reading
    loop many white comma opening grammar.closing quote equals quoted_turn quoted string string_literal number_turn number braced_turn in_braces
    grammar.braced ident single_field abbr_element abbr_turn abbr_field comment field field_end fields_turn fields key spells form_of lead rest at_sign
    strings preamble commented body entry file_turn file strict
    -- literals
    composites lookup last_from lines format_from is_escapable flatten_from is_single_char_func commands same_bytes meaning_in dotted bare execute_command steps
    end_turn argument_end content.braced with_name command backslash maths content.closing hyphens content_turn content_by inside resolve_literal
    -- salvage and packing
    moved head cut pieces salvage_of is_packable are_rows is_rows run next every rows_of packing digits table
edge-table = refl
