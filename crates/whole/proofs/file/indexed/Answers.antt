-- `whole::file::indexed` meets its contract. Assumes nothing.
use native.Mathlib.Omega.{arith}
use mathlib.Core.Path.{sym, ◌∙◌}
use Rattle.resolve.specs.Checks.{lent_of}
use Rattle.whole.specs.WholeFile.{results}
use Rattle.whole.proofs.ways.FileWays.{file-full, file-wrote}
use Rattle.whole.proofs.file.indexed.Goals as goal

pub has_room-requires : goal.has_room-requires
has_room-requires c =
    let p = c.requires in
    record {
      index = p.2;
      ready = record { scratch = p.4; names = c.names-names.ensures; marks = c.table-marks.ensures };
      flagged = p.3;
    }

pub returns-then-not-has_room : goal.returns-then-not-has_room
returns-then-not-has_room c =
    let a = c.args in
    let vs = results (lent_of a.file.now a.rows.now a.months.now a.words.now) a.flags.now in
    rw c.nowhere.ensures (file-full vs a.answers.now a.chunks.now a.text.now (sym c.has_room.ensures ∙ c.if-not-has_room.true))

pub write-t-requires : goal.write-t-requires
write-t-requires c =
    let p = c.requires in record {
      filing = record {
        index = p.2;
        ready = record {
          scratch = omega (arith, p.4, c.has_room.auto.scratch);
          names = c.names-names.ensures;
          marks = c.table-marks.ensures;
        };
        flagged = p.3;
      };
      text_value = sym c.has_room.ensures ∙ c.if-not-has_room.false;
    }

pub shape_of-scratch : goal.shape_of-scratch
shape_of-scratch c = c.write-t.auto.scratch ∙ c.has_room.auto.scratch

pub returns : goal.returns
returns c =
    let a = c.args in
    let vs = results (lent_of a.file.now a.rows.now a.months.now a.words.now) a.flags.now in
    file-wrote vs a.answers.now a.chunks.now a.text.now c.write-t.result _ _ _ c.write-t.ensures.1
    (sym c.has_room.ensures ∙ c.if-not-has_room.false) c.write-t.ensures.0
