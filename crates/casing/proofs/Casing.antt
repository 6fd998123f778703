-- The proof of specs/Casing.antt: `casing`. What is computed over a whole table stands first.
-- Assumes nothing.
use Rattle.std.proofs.Common.{ℕ, ◌+◌, ◌-◌, ◌*◌, ◌%◌, ◌≤◌, ◌<◌, arith, ◌≡◌, refl, ◌∙◌, Bool, true, false, cond, ◌&&◌, List, [], ◌∷◌, ltb, leb, eqb, length, ltb-true}
use Rattle.std.proofs.Common.{leb-true}
use native.Mathlib.Nat.{mod-one}
use mathlib.Core.List.{Memᴰ}
use Rattle.text.proofs.general.Tests.{both_true, within-true}
use Rattle.text.specs.Range.{Range, ◌–◌, within}
use Rattle.text.specs.Every.{every}
use Rattle.text.specs.Utf8.{is_scalar, octets, utf8_of}
use Rattle.casing.specs.Mapping.{Stride, ◌to◌by◌is◌then◌then◌, covers, image_in, mapped, rises_from, rises, characters, is_right, Rule}
use Rattle.casing.specs.Uppers.{uppers}
use Rattle.casing.specs.Lowers.{lowers}
use Rattle.casing.specs.Casing.{to_uppercase, to_lowercase, cased, ascii_cased, settled, is_settled, Casing}
use Rattle.casing.proofs.lists.Halving.{early}
use Rattle.casing.proofs.lists.Images.{few-of, scalar-of, size_of}
use Rattle.casing.proofs.lists.Again.{is_final, again-of}
use Rattle.casing.proofs.lists.Settled.{is_clear, in_one, clear_of}

-- ---- the computed tests

rising-upper : rises uppers ≡ true
unfolding uppers rises_from
rising-upper = refl

rising-lower : rises lowers ≡ true
unfolding lowers rises_from
rising-lower = refl

right-upper : every is_right uppers ≡ true
unfolding uppers every is_scalar octets utf8_of
right-upper = refl

right-lower : every is_right lowers ≡ true
unfolding lowers every is_scalar octets utf8_of
right-lower = refl

many-upper : characters uppers ≡ 1580
unfolding uppers characters
many-upper = refl

many-lower : characters lowers ≡ 1488
unfolding lowers characters
many-lower = refl

final-lower : every (is_final lowers) lowers ≡ true
unfolding lowers every
final-lower = refl

clear-lower : every (is_clear lowers) settled ≡ true
unfolding lowers settled every
clear-lower = refl

abbrev is_beyond : Range → Bool
is_beyond g = leb 0x80 g.first && ltb g.last 0xFFFD

beyond-all : every is_beyond settled ≡ true
unfolding settled every
beyond-all = refl

pub upper-rule : Rule uppers
upper-rule = record { rising = rising-upper; right = right-upper }

pub lower-rule : Rule lowers
lower-rule = record { rising = rising-lower; right = right-lower }

-- ---- ASCII: the letters are the first row, and the others begin behind ASCII

first-only : (r : Stride) (rs : List Stride) → rises_from 0x7F rs ≡ true → every is_right (r ∷ rs) ≡ true → (c : ℕ) → c < 0x80 →
    mapped (r ∷ rs) c ≡ cond (covers r c) (image_in r c) (c ∷ [])
unfolding mapped every
first-only r rs e f c h = rw (early 0x7F rs e (both_true (is_right r) (every is_right rs) f).1 c (omega arith))

-- the letters from a to b, whose images begin at o
abbrev letters : ℕ → ℕ → ℕ → Stride
letters a b o = a to b by 1 is o then 0 then 0

letter : (a b o n c : ℕ) → (a ≤ c → o + (c - a) ≡ n) →
    cond (covers (letters a b o) c) (image_in (letters a b o) c) (c ∷ []) ≡ cond (within (a – b) c) n c ∷ []
letter a b o n c e = cases (leb a c) (leb c b) refl
  where
    cases : (x y : Bool) → leb a c ≡ x → cond (x && (y && eqb ((c - a) % 1) 0)) ((o + (c - a)) ∷ []) (c ∷ []) ≡ cond (x && y) n c ∷ []
    cases true true p = rw (mod-one (c - a), e (leb-true a c p))
    cases true false p = refl
    cases false y p = refl

ascii-upper : (c : ℕ) → c < 0x80 → mapped uppers c ≡ ascii_cased true c ∷ []
unfolding uppers rises_from
ascii-upper c h = first-only (letters 0x61 0x7A 0x41) _ refl right-upper c h ∙ letter 0x61 0x7A 0x41 (c - 0x20) c (λ l. omega arith)

ascii-lower : (c : ℕ) → c < 0x80 → mapped lowers c ≡ ascii_cased false c ∷ []
unfolding lowers rises_from
ascii-lower c h = first-only (letters 0x41 0x5A 0x61) _ refl right-lower c h ∙ letter 0x41 0x5A 0x61 (c + 0x20) c (λ l. omega arith)

-- ---- both mappings

few : (up : Bool) (c : ℕ) → (1 ≤ length (cased up c)) × (length (cased up c) ≤ 3)
unfolding to_uppercase to_lowercase
few true c = few-of uppers c right-upper
few false c = few-of lowers c right-lower

scalar : (up : Bool) (c : ℕ) → is_scalar c ≡ true → every is_scalar (cased up c) ≡ true
unfolding to_uppercase to_lowercase
scalar true c e = scalar-of uppers c right-upper e
scalar false c e = scalar-of lowers c right-lower e

size : (up : Bool) (c : ℕ) → length (utf8_of (cased up c)) ≤ 3 * length (octets c)
unfolding to_uppercase to_lowercase
size true c = size_of uppers c right-upper
size false c = size_of lowers c right-lower

ascii : (up : Bool) (c : ℕ) → c < 0x80 → cased up c ≡ ascii_cased up c ∷ []
unfolding to_uppercase to_lowercase
ascii true c h = ascii-upper c h
ascii false c h = ascii-lower c h

again : (c d : ℕ) → Memᴰ d (to_lowercase c) → to_lowercase d ≡ d ∷ []
unfolding to_lowercase
again c d h = again-of lowers final-lower c d h

still : (c : ℕ) → is_settled c ≡ true → to_lowercase c ≡ c ∷ []
unfolding to_lowercase is_settled
still c h = clear_of lowers settled clear-lower c h

beyond : (c : ℕ) → is_settled c ≡ true → (0x80 ≤ c) × (c < 0xFFFD)
unfolding is_settled
beyond c h = in_one (λ c. (0x80 ≤ c) × (c < 0xFFFD)) is_beyond inside settled beyond-all c h
  where
    inside : (g : Range) (c : ℕ) → is_beyond g ≡ true → within g c ≡ true → (0x80 ≤ c) × (c < 0xFFFD)
    inside g c e h =
        let b = both_true (leb 0x80 g.first) (ltb g.last 0xFFFD) e in
        let w = within-true g c h in
        (omega (arith, leb-true 0x80 g.first b.0, w.0), omega (arith, ltb-true g.last 0xFFFD b.1, w.1))

pub casing : Casing
casing = record {
  rising-upper = rising-upper;
  rising-lower = rising-lower;
  right-upper = right-upper;
  right-lower = right-lower;
  many-upper = many-upper;
  many-lower = many-lower;
  few = few;
  scalar = scalar;
  size = size;
  ascii = ascii;
  again = again;
  still = still;
  beyond = beyond;
}
