-- What a command writes, after [resolve.rs:execute_command] and [resolve.rs:last_char_combine].
--     last_char_combine       a mark put onto the last character of an argument. For src/execute.rt.
--     execute_command         what a command writes. For src/execute.rt.
--     leading, Sane           what is written before an argument, and what is required of a meaning: for the contracts of src/execute.rt.
-- Assumes nothing.
use Rattle.std.specs.Prelude.{ℕ, ◌≤◌, ◌≡◌, true, cond, List, [], ◌∷◌, ◌++◌, take, eqb, Option, Some, None}
use Rattle.text.specs.Utf8.{octets, is_scalar}
use Rattle.chunk.specs.Format.{last_at, last_code}
use Rattle.compose.specs.Composites.{composites}
use Rattle.compose.specs.Lookup.{lookup}
use Rattle.command.specs.declared.meaning.Meaning.{Meaning}
use Rattle.command.specs.declared.meaning.Meaning.TheVariants.{Itself, Letter, Accent, Slash, Copyright, Hyphenation, Unknown}
use Rattle.command.specs.Commands.{meaning_of}

-- an argument's text, or no argument
pub data Argument : Type 0 where
  absent : Argument
  given : List ℕ → Argument

-- ---- [resolve.rs:last_char_combine]

-- the text before the last character. That this and `last_code` cut a text that is UTF-8 before its last character is specs/LastCharacter.antt
abbrev pub front : List ℕ → List ℕ
front t = take (last_at t) t

-- a dotless i or j takes a mark as the letter with its dot does
unfoldable pub dotted : ℕ → ℕ
dotted c = cond (eqb c 0x131) 0x69 (cond (eqb c 0x237) 0x6A c)

-- the text t, whose last character is c: a dotless i or j gets its dot, and after any other character the text stays as it is
abbrev pub with_dot : List ℕ → ℕ → List ℕ
with_dot t c = cond (eqb (dotted c) c) t (front t ++ octets (dotted c))

-- the text with its last character composed with the mark m, or with the mark behind it where they do not compose
abbrev pub with_mark : List ℕ → ℕ → ℕ → Option ℕ → List ℕ
with_mark t c m (Some d) = front t ++ octets d
with_mark t c m None = with_dot t c ++ octets m

-- the text t with the mark m on its last character
abbrev pub marked : List ℕ → ℕ → List ℕ
marked t m = with_mark t (last_code t) m (lookup composites (dotted (last_code t)) m)

-- over an empty argument the circumflex and the tilde are characters of their own
unfoldable pub bare : ℕ → ℕ
bare m = cond (eqb m 0x302) 0x5E (cond (eqb m 0x303) 0x7E m)

abbrev pub last_char_combine : Argument → ℕ → List ℕ
last_char_combine absent m = octets m
last_char_combine (given []) m = octets (bare m)
last_char_combine (given (b ∷ t)) m = marked (b ∷ t) m

-- ---- [resolve.rs:execute_command]

abbrev pub text_of : Argument → List ℕ
text_of absent = []
text_of (given t) = t

-- what a command writes, by what its name means. An unknown command is written as it was read, with a blank behind it where it has no argument
abbrev pub executed : List ℕ → Argument → Meaning → List ℕ
executed name arg Itself = name
executed name arg (Letter c) = octets c
executed name arg (Accent m) = last_char_combine arg m
executed name absent Slash = octets 0xF8
executed name (given t) Slash = last_char_combine (given t) 0x338
executed name arg Copyright = octets 0xA9 ++ text_of arg
executed name arg Hyphenation = []
executed name absent Unknown = 0x5C ∷ name ++ 0x20 ∷ []
executed name (given t) Unknown = 0x5C ∷ name ++ 0x7B ∷ t ++ 0x7D ∷ []

unfoldable pub execute_command : List ℕ → Argument → List ℕ
execute_command name arg = executed name arg (meaning_of name)

-- ---- for the code

-- what a command writes before its argument, whatever the argument is: the code writes it first, so that the argument need not be moved
abbrev pub leading : List ℕ → Meaning → List ℕ
leading name Itself = []
leading name (Letter c) = []
leading name (Accent m) = []
leading name Slash = []
leading name Copyright = octets 0xA9
leading name Hyphenation = []
leading name Unknown = 0x5C ∷ name ++ 0x7B ∷ []

-- what the code requires of a meaning: its character is a scalar value of at most three octets, and its mark one of at most two. Every
-- meaning of the list is so (`meaning-sane` of proofs/ways/ExecuteWays.antt)
abbrev pub Sane : Meaning → Type 0
Sane Itself = Unit {0}
Sane (Letter c) = (is_scalar c ≡ true) × (c ≤ 0xFFFF)
Sane (Accent m) = (is_scalar m ≡ true) × (m ≤ 0x7FF)
Sane Slash = Unit {0}
Sane Copyright = Unit {0}
Sane Hyphenation = Unit {0}
Sane Unknown = Unit {0}
