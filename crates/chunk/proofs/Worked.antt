-- The cases of specs/Worked.antt compute: `worked`.
-- Assumes nothing.
use Rattle.std.proofs.Common.{refl}
use Rattle.text.specs.Strings.{utf8}
use Rattle.text.specs.Utf8.{alternatives, begins, width_by, gather, value, octets, utf8_of}
use Rattle.text.specs.Class.{white_space, is_whitespace}
use Rattle.text.specs.Scan as scan
use Rattle.chunk.specs.Format.{last_from, lines, format_from, is_escapable, escaped, biblatex_from}
use Rattle.casing.specs.Mapping.{mapped}
use Rattle.casing.specs.Uppers.{uppers}
use Rattle.casing.specs.Lowers.{lowers}
use Rattle.casing.specs.Casing.{to_uppercase, to_lowercase}
use Rattle.chunk.specs.Sentence.{chars, sentence_chars, sentence_from}
use Rattle.chunk.specs.Worked.{table, titles, WorkedTexts, WorkedTitles, Worked}

texts : WorkedTexts
unfolding alternatives begins width_by gather value octets white_space is_whitespace scan.code last_from lines format_from is_escapable escaped biblatex_from utf8 table
texts = refl

sentences : WorkedTitles
unfolding
    alternatives begins width_by gather value octets white_space is_whitespace scan.code last_from utf8 utf8_of mapped uppers lowers to_uppercase to_lowercase
    chars sentence_chars sentence_from titles
sentences = refl

pub worked : Worked
worked = record { texts = texts; sentences = sentences }
