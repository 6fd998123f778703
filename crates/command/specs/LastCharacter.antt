-- [resolve.rs:last_char_combine] takes the last character off a text, and the definitions of specs/Execute.antt the octets from the last one on
-- that is no tail. On a text that is UTF-8 both are the same. The proof is `last-character` of proofs/LastCharacter.antt.
-- Assumes nothing.
use Rattle.std.specs.Prelude.{ℕ, ◌<◌, ◌≡◌, true, List, ◌++◌, length}
use Rattle.text.specs.Utf8.{is_scalar, octets, Octets}
use Rattle.chunk.specs.Format.{last_code}
use Rattle.command.specs.Execute.{front}

pub record LastCharacter : Type 0 where
  -- a text is its front, which is UTF-8 too, and behind it the octets of its last character, which is a scalar value
  pub whole : (t : List ℕ) → Octets t → 0 < length t → front t ++ octets (last_code t) ≡ t
  pub text : (t : List ℕ) → Octets t → Octets (front t)
  pub scalar : (t : List ℕ) → Octets t → 0 < length t → is_scalar (last_code t) ≡ true
  -- there is no other such front and character: those of which a text is made are found
  pub found : (u : List ℕ) (c : ℕ) → is_scalar c ≡ true → (front (u ++ octets c) ≡ u) × (last_code (u ++ octets c) ≡ c)
