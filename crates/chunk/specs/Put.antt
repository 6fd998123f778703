-- Octets put into lent bytes, each only where it fits. So the code that writes only counts where it is lent no bytes.
--     Puts              octets put from a place on, and the place after them
--     Fills             what a pass over chunks answers, and what it leaves in the lent bytes
-- Assumes nothing.
use Rattle.std.specs.Prelude.{ℕ, ◌+◌, ◌≤◌, ◌≡◌, List, length}
use Rattle.std.proofs.lemmas.List.Edits.{sets}

-- the greatest place, and below it the greatest room: a slice has less than 2 ^ 63 bytes
abbrev pub last_place : ℕ
last_place = 18446744073709551615

abbrev pub most_room : ℕ
most_room = 9223372036854775807

-- putting the octets w over the lent bytes o, from place n on, leads to the place r and leaves o'. `sets` stores element by element, and
-- changes nothing past the end
pub record Puts (o : List ℕ) (n : ℕ) (w : List ℕ) (r : ℕ) (o' : List ℕ) : Type 0 where
  pub end : r ≡ n + length w
  pub bytes : o' ≡ sets o n w

-- a pass that puts w from the first byte on answers the place r that it comes to. Where w is longer than the room it may stop past the
-- room already, and nothing is said of the lent bytes: only the counting pass, which is lent none, meets this
pub record Fills (w : List ℕ) (room : ℕ) (o : List ℕ) (r : ℕ) (o' : List ℕ) : Type 0 where
  pub inside : r ≤ length w
  pub whole : r ≤ room → (r ≡ length w) × (o' ≡ sets o 0 w)
