-- The proof of specs/Laid.antt, by the laws of rows as numbers: `laid`.
-- Assumes nothing.
use Rattle.row.specs.Laid.{Laid}
use Rattle.row.proofs.numbers.Flat as flat
use Rattle.row.proofs.numbers.Overlay as overlay
use Rattle.row.proofs.numbers.Spans as spans

pub laid : Laid
laid = record {
  flat-length = flat.flat-length;
  flat_append = flat.flat_append;
  rows-flat = flat.rows-flat;
  flat_rows = flat.flat_rows;
  rows-length = flat.rows-length;
  rows_next = flat.rows_next;
  rows_end = flat.rows_end;
  rows-by = flat.rows-by;
  overlay-fits = overlay.overlay-fits;
  overlay-append = overlay.overlay-append;
  put-overlay = overlay.put-overlay;
  moved_length = overlay.moved_length;
  moved-append = overlay.moved-append;
  moved_none = overlay.moved_none;
  row_up_lem = overlay.row_up_lem;
  spans-more = spans.spans-more;
  spans-append = spans.spans-append;
  spans-moved = spans.spans-moved;
}
