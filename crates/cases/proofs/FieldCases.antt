-- The cases of specs/FieldCases.antt compute: `field-cases`, `deep`, `many-names`.
-- Assumes nothing.
use mathlib.Core.Path.{refl}
use Rattle.text.specs.Walk.{walk_from}
use Rattle.text.specs.Utf8.{alternatives, begins, width_by, gather, value, octets, look_valid, validity_of, is_boundary}
use Rattle.text.specs.Class.{white_space, control, is_whitespace, is_control, is_id_continue, holds_of}
use Rattle.text.specs.Scan.{see_from, look_past, skip}
use Rattle.text.specs.Scan as scan
use Rattle.row.specs.Row.{flat}
use Rattle.row.specs.Rules.{next, run, is_rows}
use Rattle.row.specs.Numbers.{rows_of, are_rows}
use Rattle.raw.specs.Reader.{loop, many}
use Rattle.text.specs.Strings.{utf8}
use Rattle.text.specs.SameBytes.{same_bytes}
use Rattle.text.specs.Every.{every}
use Rattle.lookup.specs.Names.{is_named, later, last_named}
use Rattle.turn.specs.Content.{steps, end_turn, braced, closing, content_turn, content_by, inside, flatten_from}
use Rattle.literal.specs.Literal.{resolve_literal}
use Rattle.resolve.specs.Resolves.{checked_file}
use Rattle.values.specs.Field.{elements, walk, month_of, on_path, name}
use Rattle.resolve.specs.Checks.{is_value, are_months, are_lent}
use Rattle.cases.specs.FieldCases.{table, FieldCases, chain, doubling, Deep, Many}

pub field-cases : FieldCases
unfolding walk_from alternatives begins width_by gather value octets look_valid validity_of is_boundary white_space control is_whitespace is_control
    is_id_continue holds_of scan.code scan.rest see_from look_past skip flat next run is_rows rows_of are_rows loop many flatten_from utf8 same_bytes is_named
    later last_named steps end_turn braced closing content_turn content_by inside resolve_literal checked_file elements walk month_of on_path name every
    is_value are_months are_lent table
field-cases = refl

pub deep : Deep
unfolding walk_from alternatives begins width_by gather value octets look_valid validity_of is_boundary white_space control is_whitespace is_control
    is_id_continue holds_of scan.code scan.rest see_from look_past skip flat next run is_rows rows_of are_rows loop many flatten_from utf8 same_bytes is_named
    later last_named steps end_turn braced closing content_turn content_by inside resolve_literal checked_file elements walk month_of on_path name every
    is_value are_months are_lent chain
deep = record { thirty_two = refl; thirty-three = refl; unknown = refl; cyclic = refl; month-32 = refl; month-33 = refl }

pub many-names : Many
unfolding walk_from alternatives begins width_by gather value octets look_valid validity_of is_boundary white_space control is_whitespace is_control
    is_id_continue holds_of scan.code scan.rest see_from look_past skip flat next run is_rows rows_of are_rows loop many flatten_from utf8 same_bytes is_named
    later last_named steps end_turn braced closing content_turn content_by inside resolve_literal checked_file elements walk month_of on_path name every
    is_value are_months are_lent chain doubling
many-names = record { the-4096th = refl; the-4097th = refl; month-4097 = refl; deep-first = refl }
