-- The proof of specs/Seeing.antt, by the laws of scanning/: `seeing`.
-- Assumes nothing.
use Rattle.text.specs.Seeing.{Seeing}
use Rattle.text.proofs.scanning.Seen as seen
use Rattle.text.proofs.scanning.LongerText as longer
use Rattle.text.proofs.scanning.Skip as skip
use Rattle.text.proofs.scanning.Characters as characters
use Rattle.text.proofs.scanning.AsciiLoops as loops

pub seeing : Seeing
seeing = record {
  see-end = seen.see-end;
  see-at = seen.see-at;
  see-ascii = seen.see-ascii;
  code-wide = skip.code-wide;
  see-inside = seen.see-inside;
  see-ahead = longer.see-ahead;
  char-inside = seen.char-inside;
  see-up = longer.see-up;
  see-front = longer.see-front;
  skip-end = skip.skip-end;
  skip-on = skip.skip-on;
  skip_stop = skip.skip_stop;
  skip-ahead = skip.skip-ahead;
  char-parts = characters.char-parts;
  next-inside = characters.next-inside;
  at_byte = characters.at_byte;
  byte_of = characters.byte_of;
  white-on = characters.white-on;
  skip-inside = characters.skip-inside;
  skip_at = characters.skip_at;
  letters-id = loops.letters-id;
}
