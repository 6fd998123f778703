-- What a list of case mappings says of a character.
--     Stride, ◌to◌by◌is◌then◌then◌   a row of the list: characters at one distance from each other, whose images are at the same distance
--     image_of, Spells               the characters of an image, and three numbers for them
--     mapped                         the image of a character
--     numbers                        the rows as plain numbers, six to a row. For src/lib.rt.
--     rises, is_right, characters    the rule of the rows, and how many characters they have
--     Rule, Table, Maps              a list that keeps the rule, the numbers of one, and what these say of a character. For src/lib.rt.
-- Assumes nothing.
use Rattle.std.specs.Prelude.{ℕ, zero, suc, ◌+◌, ◌-◌, ◌*◌, ◌/◌, ◌%◌, ◌≡◌, Bool, true, cond, not, ◌&&◌, ◌||◌, List, [], ◌∷◌, ltb, leb, eqb, length}
use Rattle.text.specs.Every.{every}
use Rattle.text.specs.Utf8.{is_scalar, octets, utf8_of}

-- the characters from the first to the last, each `step` behind the one before it. The image of the first begins with `one`, and that of each
-- other with the character as far behind `one` as it is behind the first; `two` and `three` follow, where they are not 0
pub record Stride : Type 0 where
  pub first : ℕ
  pub last : ℕ
  pub step : ℕ
  pub one : ℕ
  pub two : ℕ
  pub three : ℕ

infix 80 ◌to◌by◌is◌then◌then◌
abbrev pub ◌to◌by◌is◌then◌then◌ : ℕ → ℕ → ℕ → ℕ → ℕ → ℕ → Stride
◌to◌by◌is◌then◌then◌ f l s a b c = record { first = f; last = l; step = s; one = a; two = b; three = c }

-- ---- the image of a character

-- a character in front of others, and nothing where it is 0
abbrev pub some : ℕ → List ℕ → List ℕ
some zero cs = []
some (suc c) cs = suc c ∷ cs

abbrev pub image_of : ℕ → ℕ → ℕ → List ℕ
image_of a b c = a ∷ some b (some c [])

-- three numbers spell an image: they are its characters, and 0 where there is none
pub record Spells (a b c : ℕ) (image : List ℕ) : Type 0 where
  pub same : image_of a b c ≡ image
  pub none : b ≡ 0 → c ≡ 0

abbrev pub covers : Stride → ℕ → Bool
covers r c = leb r.first c && (leb c r.last && eqb ((c - r.first) % r.step) 0)

abbrev pub image_in : Stride → ℕ → List ℕ
image_in r c = image_of (r.one + (c - r.first)) r.two r.three

-- by the first row that has the character; itself where none has
unfoldable pub mapped : List Stride → ℕ → List ℕ
mapped [] c = c ∷ []
mapped (r ∷ rs) c = cond (covers r c) (image_in r c) (mapped rs c)

-- ---- the rows in the constants of src/, whose key is the last character: a search for c finds the first row that does not end before c

unfoldable pub numbers : List Stride → List ℕ
numbers [] = []
numbers (r ∷ rs) = r.last ∷ r.first ∷ r.step ∷ r.one ∷ r.two ∷ r.three ∷ numbers rs

-- ---- the rule

-- every row begins behind the end of the one before it; and the first behind the character p
unfoldable pub rises_from : ℕ → List Stride → Bool
rises_from p [] = true
rises_from p (r ∷ rs) = ltb p r.first && rises_from r.last rs

abbrev pub rises : List Stride → Bool
rises rs = rises_from 0 rs

-- how many characters the rows have
unfoldable pub characters : List Stride → ℕ
characters [] = 0
characters (r ∷ rs) = (r.last - r.first) / r.step + 1 + characters rs

-- from a to b there are scalar values only
abbrev pub are_scalar : ℕ → ℕ → Bool
are_scalar a b = is_scalar a && (is_scalar b && (ltb b 0xD800 || ltb 0xDFFF a))

-- the last character that an image of the row begins with
abbrev pub top : Stride → ℕ
top r = r.one + (r.last - r.first)

-- the longest image has at most three times as many octets as the shortest character
abbrev pub is_short : Stride → Bool
is_short r = leb (length (utf8_of (image_of (top r) r.two r.three))) (3 * length (octets r.first))

-- a row is right: it goes forward, from its first character to its last by whole steps; the characters and those of their images are scalar
-- values, or 0 for none; the images are short; and an image of one character has no third and is not the character itself
abbrev pub is_right : Stride → Bool
is_right r =
    leb r.first r.last
    && (ltb 0 r.step
    && (eqb ((r.last - r.first) % r.step) 0
    && (are_scalar r.first r.last
    && (are_scalar r.one (top r)
    && (is_scalar r.two
    && (is_scalar r.three
    && (is_short r
    && (ltb 0 r.two || (eqb r.three 0 && not (eqb r.one r.first))))))))))

pub record Rule (rs : List Stride) : Type 0 where
  pub rising : rises rs ≡ true
  pub right : every is_right rs ≡ true

-- the numbers t are those of a list that keeps the rule
pub record Table (t : List ℕ) : Type 0 where
  pub rows : List Stride
  pub rule : Rule rows
  pub same : t ≡ numbers rows

-- where t are the numbers of such a list, it maps c to what x, y and z spell
abbrev pub Maps : List ℕ → ℕ → ℕ → ℕ → ℕ → Type 0
Maps t c x y z = (rs : List Stride) → Rule rs → t ≡ numbers rs → Spells x y z (mapped rs c)
