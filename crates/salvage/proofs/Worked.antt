-- The cases of specs/Worked.antt compute: `worked`.
-- Assumes nothing.
use Rattle.std.proofs.Common.{refl}
use Rattle.text.specs.Walk.{walk_from}
use Rattle.text.specs.Strings.{utf8}
use Rattle.text.specs.Utf8.{alternatives, begins, width_by, gather, value, octets, look_valid, validity_of}
use Rattle.text.specs.Class.{white_space, control, is_whitespace, is_control, is_key, is_id_continue, is_id_start, holds_of}
use Rattle.text.specs.Scan.{code, see_from}
use Rattle.text.specs.Scan as scan
use Rattle.raw.specs.Reader.{loop, many}
use Rattle.raw.specs.Grammar.{white, comma, opening, closing, quote, equals, quoted_turn, quoted, string, string_literal, number_turn}
use Rattle.raw.specs.Grammar.{number, braced_turn, in_braces, braced, ident, single_field, abbr_element, abbr_turn, abbr_field, comment}
use Rattle.raw.specs.Grammar.{field, field_end, fields_turn, fields, key, spells, form_of, lead, rest, at_sign, strings}
use Rattle.raw.specs.Grammar.{preamble, commented, body, entry, file_turn, file}
use Rattle.raw.specs.Read.{strict}
use Rattle.row.specs.Row.{moved}
use Rattle.salvage.specs.Salvage.{head, cut, pieces, salvage_of}
use Rattle.salvage.specs.Worked.{Worked}

pub worked : Worked
unfolding
    walk_from alternatives begins width_by gather value octets look_valid validity_of white_space control is_whitespace is_control is_key
    is_id_continue is_id_start holds_of code scan.rest see_from loop many white comma opening closing quote equals quoted_turn quoted string
    string_literal number_turn number braced_turn in_braces braced ident single_field abbr_element abbr_turn abbr_field comment field field_end
    fields_turn fields key spells form_of lead rest at_sign strings preamble commented body entry file_turn file strict moved utf8 head cut
    pieces salvage_of
worked = record { strictly = refl; later = refl }
