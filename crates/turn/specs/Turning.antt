-- What the crate above needs of turns. The proof is `turning` of proofs/Turning.antt.
-- Assumes nothing.
use Rattle.std.specs.Prelude.{ℕ, suc, ◌+◌, ◌≤◌, ◌<◌, ◌≡◌, Bool, true, false, List, [], ◌∷◌, length, get_or}
use Rattle.text.specs.Scan.{see}
use Rattle.row.specs.declared.fault.Fault.{Fault}
use Rattle.raw.specs.Reader.{ok, again, bad, more, and_then, turn}
use Rattle.turn.specs.Content.{Part, cut, Reader, argument_end, opens_at, maths, closing, content_turn}
use Rattle.turn.specs.Turns.{is_sign, Ordinary, turns, ArgumentEnds}

pub record Turning : Type 0 where
  -- the brace that opens an argument stands inside the text, and so does the end of the argument
  pub opens-inside : (s : List ℕ) (w : ℕ) → opens_at (see s w) ≡ true → w + 1 ≤ length s
  pub end-inside : (s : List ℕ) (p : ℕ) → p ≤ length s → ArgumentEnds (length s) p (argument_end s p)
  -- content is its first turn and then the rest of the content; where that turn is refused, the content is refused with it
  pub leads : (argument : Reader) (verb : Bool) (d : ℕ) (s : List ℕ) (p q : ℕ) (xs : List Part) (a : ℕ)
      → content_turn argument verb d s p ≡ again q xs a → turns argument verb d s p ≡ more xs (turns argument verb a s q)
  pub stopped : (argument : Reader) (verb : Bool) (d : ℕ) (s : List ℕ) (p : ℕ) (f : Fault) → content_turn argument verb d s p ≡ bad f
      → turns argument verb d s p ≡ bad f
  -- at the end of the text the content ends
  pub ended : (argument : Reader) (verb : Bool) (d : ℕ) (s : List ℕ) (p : ℕ) → length s ≤ p → turns argument verb d s p ≡ ok p []
  -- the turns that end a chunk
  pub turn-open : (argument : Reader) (verb : Bool) (d : ℕ) (s : List ℕ) (p : ℕ) → p < length s → get_or s p 0 ≡ 0x7B
      → content_turn argument verb d s p ≡ again (p + 1) (cut (suc d) p (p + 1) ∷ []) (suc d)
  pub turn-close : (argument : Reader) (verb : Bool) (d : ℕ) (s : List ℕ) (p : ℕ) → p < length s → get_or s p 0 ≡ 0x7D
      → content_turn argument verb d s p ≡ closing d s p
  pub turn-math : (argument : Reader) (verb : Bool) (d : ℕ) (s : List ℕ) (p : ℕ) → p < length s → get_or s p 0 ≡ 0x24 → verb ≡ false
      → content_turn argument verb d s p ≡ and_then (maths d s p) (turn d s)
  -- the bytes at which a chunk ends, called signs. A sign stands inside the text; any other byte is ordinary; a dollar is a sign only if the
  -- field is not verbatim; a sign that is neither an opening brace nor a dollar is a closing brace
  pub sign-inside : (verb : Bool) (s : List ℕ) (i : ℕ) → is_sign verb (get_or s i 0) ≡ true → i < length s
  pub ordinary : (verb : Bool) (b : ℕ) → is_sign verb b ≡ false → Ordinary verb b
  pub sign-dollar : (verb : Bool) (b : ℕ) → is_sign verb b ≡ true → b ≡ 0x24 → verb ≡ false
  pub sign-closing : (verb : Bool) (b : ℕ) → is_sign verb b ≡ true → (b ≡ 0x7B → ⊥) → (b ≡ 0x24 → ⊥) → b ≡ 0x7D
