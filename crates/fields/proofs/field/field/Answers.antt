-- `fields::field::field` meets its contract. Assumes nothing.
use mathlib.Core.Path.{refl, ap}
use Rattle.std.proofs.lemmas.Result.{err_from_is_err_and}
use mathlib.Core.Bool.{◌&&◌, not}
use mathlib.Core.List.{[]}
use lib.ListN.{length}
use Rattle.lookup.proofs.Lookup.{lookup}
use Rattle.resolve.specs.Checks.{is_right, lent_of}
use Rattle.resolve.proofs.Asking.{asking}
use Rattle.values.specs.Field.{field_of}
use Rattle.fields.proofs.ways.FieldWays.{right-as, lent-right, which-inside}
use Rattle.fields.proofs.field.field.Goals as goal

pub returns-in_err-checked : goal.returns-in_err-checked
returns-in_err-checked c =
    let a = c.args in
    let good = is_right a.file.now a.rows.now a.which a.months.now a.words.now in
    let value = field_of (lent_of a.file.now a.rows.now a.months.now a.words.now) a.verbatim a.which in
    let e = err_from_is_err_and c.from_residual.result c.from_residual.ensures.1 in
    rw (e.1, e.2)
    (asking.asked-file a.file.now good (length a.scratch.now) value a.chunks.now a.text.now c.check_file.result c.check_file.ensures _ c.in_err-checked.was)

pub returns-then-not-are_lent-is_value : goal.returns-then-not-are_lent-is_value
returns-then-not-are_lent-is_value c =
    let a = c.args in
    let good = is_right a.file.now a.rows.now a.which a.months.now a.words.now in
    let value = field_of (lent_of a.file.now a.rows.now a.months.now a.words.now) a.verbatim a.which in
    rw c.nowhere.ensures
    (asking.asked-bad a.file.now good (length a.scratch.now) value a.chunks.now a.text.now c.check_file.result c.check_file.ensures
    c.in_ok-checked.was (c.are_lent.result && c.is_value.result)
    (right-as a.file.now a.rows.now a.months.now a.words.now a.which c.are_lent.result c.is_value.result c.are_lent.ensures c.is_value.ensures)
    (ap not c.if-not-are_lent-is_value.true))

pub returns-then-scratch-lt-LEAST_SCRATCH : goal.returns-then-scratch-lt-LEAST_SCRATCH
returns-then-scratch-lt-LEAST_SCRATCH c =
    let a = c.args in
    let good = is_right a.file.now a.rows.now a.which a.months.now a.words.now in
    let value = field_of (lent_of a.file.now a.rows.now a.months.now a.words.now) a.verbatim a.which in
    rw c.nowhere-then-scratch-lt-LEAST_SCRATCH.ensures
    (asking.asked-scratch a.file.now good (length a.scratch.now) value a.chunks.now a.text.now c.check_file.result c.check_file.ensures
    c.in_ok-checked.was (c.are_lent.result && c.is_value.result)
    (right-as a.file.now a.rows.now a.months.now a.words.now a.which c.are_lent.result c.is_value.result c.are_lent.ensures c.is_value.ensures)
    (ap not c.if-not-are_lent-is_value.false) c.if-scratch-lt-LEAST_SCRATCH.true)

pub write-requires : goal.write-requires
write-requires c =
    let a = c.args in
    let rest = (ap not c.if-not-are_lent-is_value.false) in
    record {
      index = lookup.no_index a.file.now a.rows.now [] [] refl;
      ready = record { scratch = c.if-scratch-lt-LEAST_SCRATCH.false; names = c.names-names.ensures; marks = c.table-marks.ensures };
      which =
          which-inside a.file.now a.rows.now a.months.now a.words.now a.which c.are_lent.result c.is_value.result c.are_lent.ensures c.is_value.ensures rest;
    }

pub invariant_of-tables : goal.invariant_of-tables
invariant_of-tables c = record { all_names = c.names-names.ensures; all_marks = c.table-marks.ensures }

pub invariant_of-resolver : goal.invariant_of-resolver
invariant_of-resolver c =
    let a = c.args in
    let rest = (ap not c.if-not-are_lent-is_value.false) in
    record {
      short = asking.file-small a.file.now c.check_file.result c.check_file.ensures c.in_ok-checked.was;
      lent = lent-right a.file.now a.rows.now a.months.now a.words.now a.which c.are_lent.result c.is_value.result c.are_lent.ensures c.is_value.ensures rest;
    }

pub returns : goal.returns
returns c =
    let a = c.args in
    let good = is_right a.file.now a.rows.now a.which a.months.now a.words.now in
    let value = field_of (lent_of a.file.now a.rows.now a.months.now a.words.now) a.verbatim a.which in
    asking.asked-all a.file.now good (length a.scratch.now) value a.chunks.now a.text.now c.check_file.result c.check_file.ensures
    c.in_ok-checked.was (c.are_lent.result && c.is_value.result)
    (right-as a.file.now a.rows.now a.months.now a.words.now a.which c.are_lent.result c.is_value.result c.are_lent.ensures c.is_value.ensures)
    (ap not c.if-not-are_lent-is_value.false) c.if-scratch-lt-LEAST_SCRATCH.false c.write.result _ _
    c.write.ensures.writes
