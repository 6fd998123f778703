-- An element of a value that begins with a brace or a quote.
--     element-braced, element-quoted     it is read as `braced`, or as `string_literal`
-- Assumes nothing.
use Rattle.std.proofs.Common.{ℕ, ◌<◌, arith, ◌≡◌, refl, ◌∙◌, false, List, length, get_or}
use Rattle.text.specs.Class.{white_space, control, is_whitespace, is_control, is_id_continue, is_id_start, holds_of}
use Rattle.text.specs.declared.class.Test.TheVariants as test
use Rattle.raw.specs.Grammar.{abbr_element, single_field, braced, string_literal}
use Rattle.raw.proofs.ways.ByteLoops.{seen_key}
use Rattle.raw.proofs.ways.ElementWays.{single-braced, single-quoted}

digit-off : (holds_of test.Digit 0x7B ≡ false) × (holds_of test.Digit 0x22 ≡ false)
unfolding holds_of
digit-off = (refl, refl)

start-off : (is_id_start 0x7B ≡ false) × (is_id_start 0x22 ≡ false)
unfolding white_space control is_whitespace is_control is_id_continue is_id_start
start-off = (refl, refl)

module _ (s : List ℕ) (i : ℕ) (h : i < length s) where
  element-byte : (k : ℕ) → get_or s i 0 ≡ k → k < 0x80 → holds_of test.Digit k ≡ false → is_id_start k ≡ false → abbr_element s i ≡ single_field s i
  unfolding abbr_element
  element-byte k e l d q = rw (seen_key s i h k e l, d, q)

  pub element-braced : get_or s i 0 ≡ 0x7B → abbr_element s i ≡ braced s i
  element-braced e = element-byte 0x7B e (omega arith) digit-off.0 start-off.0 ∙ single-braced s i h e

  pub element-quoted : (get_or s i 0 ≡ 0x7B → ⊥) → get_or s i 0 ≡ 0x22 → abbr_element s i ≡ string_literal s i
  element-quoted z e = element-byte 0x22 e (omega arith) digit-off.1 start-off.1 ∙ single-quoted s i h z e
