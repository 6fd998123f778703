-- The proof of specs/Shapes.antt, by the laws of sequences/: `shapes`.
-- Assumes nothing.
use mathlib.Core.List.{[], ◌∷◌}
use Rattle.text.specs.Utf8.{octets as codes}
use Rattle.text.specs.Shapes.{one, Shapes}
use Rattle.text.proofs.sequences.Alternatives as alternatives
use Rattle.text.proofs.sequences.Lengths as lengths
use Rattle.text.proofs.sequences.ScalarValues as values
use Rattle.text.proofs.sequences.Octets as octets
use Rattle.text.proofs.sequences.CutPlaces as place

pub shapes : Shapes
shapes = record {
  char-shape = lengths.char-shape;
  shape-char = lengths.shape-char;
  char-some = lengths.char-some;
  char-first = lengths.char-first;
  char-further = lengths.char-further;
  width-char = alternatives.width-char;
  width-tail = lengths.width-tail;
  code-char = place.code-char;
  reads = values.reads;
  octets-char = octets.octets-char;
  octets-append = octets.octets-append;
  octets-after = octets.octets-after;
  ascii-text = λ b h. octets.octets-char (b ∷ []) (lengths.shape-char (one h));
  char-text = λ c e. octets.octets-char (codes c) (values.writes c e);
}
