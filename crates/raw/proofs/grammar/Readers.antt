-- The laws of every reader of the grammar, in the order of specs/Grammar.antt: `x-laws` is of the reader x. A new reader is entered here
-- once. Its points say which bytes pay for its rows, and which rows may come before and after it. A reader without rows leads from any
-- point σ to the same point, or to `ate σ` if it must eat a character. The laws of entries and files are in Entries.antt and Files.antt.
--     from_start                                                  the laws of a reader, where it does not matter from which point
--     quoted-turn-kept, number-turn-kept, braced-turn-kept        what the turns of the loops over bytes keep
-- Assumes nothing.
use Rattle.std.proofs.Common.{ℕ, zero, suc, arith, ◌≡◌, refl, Bool, true, false, ◌||◌, eqb}
use Rattle.text.specs.Class.{is_whitespace, is_key, is_id_start, is_id_continue, holds_of}
use Rattle.text.specs.Scan.{fails}
use Rattle.text.specs.declared.class.Test.TheVariants as test
use Rattle.row.specs.declared.form.Kind.{Kind}
use Rattle.row.specs.declared.form.Kind.TheVariants as kind
use Rattle.row.specs.declared.fault.Reason.TheVariants.{ExpectedIdentifier, ExpectedOpeningBrace, ExpectedClosingBrace, ExpectedComma}
use Rattle.row.specs.declared.fault.Reason.TheVariants.{ExpectedQuotationMark, ExpectedEquals, UnexpectedDecimalPoint}
use Rattle.row.specs.Row.{Row, plain, kind_of}
use Rattle.raw.specs.Reader.{Reader}
use Rattle.raw.specs.Grammar.{is, any, white, comma, at_sign, opening, closing, quote, equals, escape, quoted_turn, quoted, string, string_literal}
use Rattle.raw.specs.Grammar.{number_turn, number, braced_turn, in_braces, braced, ident, single_field, abbr_element, abbr_turn, abbr_field, comment}
use Rattle.raw.specs.Grammar.{field, field_end, fields_turn, fields, key, strings, preamble, commented, body, lead}
use Rattle.raw.proofs.readers.Kept.{Kept}
use Rattle.raw.proofs.readers.Points.{Order, Point, ate, onward, same, back, past, far, fewer, wider, Takes}
use Rattle.raw.proofs.grammar.RowOrder.{rules, awaiting, start, Is, is-in, AwaitsElement, next-chunk, AwaitsItem, at-chunks, literal-takes, name-takes}
use Rattle.raw.proofs.grammar.RowOrder.{value-takes, field-takes, definition-takes, preamble-takes, key-takes}
use Rattle.row.specs.Rules.{Await, value, chunks}
use Rattle.row.specs.Rules as awaits
use Rattle.row.specs.Ruled.{Free, one}
use Rattle.raw.proofs.grammar.Laws.{Laws, going, stop-laws, turn-laws, refuse-laws, when-laws, sees-laws, ◌then-laws◌}
use Rattle.raw.proofs.grammar.Laws.{over-laws, many-laws, less-laws, need-laws, scan-laws}
use Rattle.raw.proofs.grammar.UnexpectedEof.{when-any, sees-any, value-laws}

-- the laws of a reader, where it does not matter from which point
pub from_start : {ω : Point rules} {f : Reader} → Laws start start ω f → Laws start start ω f
from_start F = F

pub white-laws : {O : Order Row} {σ α : Point O} → Laws σ α σ white
unfolding white
white-laws = scan-laws is_whitespace

-- ---- tokens

module _ {O : Order Row} {σ α : Point O} where
  pub comma-laws : Laws σ α (ate σ) comma
  unfolding comma
  comma-laws = need-laws (holds_of test.Comma) ExpectedComma (omega arith)

  pub at-sign-laws : Laws σ α (ate σ) at_sign
  unfolding at_sign
  at-sign-laws = need-laws (is 0x40) ExpectedIdentifier (omega arith)

  pub opening-laws : Laws σ α (ate σ) opening
  unfolding opening
  opening-laws = need-laws (λ c. eqb c 0x7B || eqb c 0x22) ExpectedOpeningBrace (omega arith)

  pub closing-laws : Laws σ α (ate σ) closing
  unfolding closing
  closing-laws = need-laws (λ c. eqb c 0x7D || eqb c 0x22) ExpectedClosingBrace (omega arith)

  pub quote-laws : Laws σ α (ate σ) quote
  unfolding quote
  quote-laws = need-laws (holds_of test.QuotationMark) ExpectedQuotationMark (omega arith)

  pub equals-laws : Laws σ α (ate σ) equals
  unfolding equals
  equals-laws = need-laws (holds_of test.Equals) ExpectedEquals (omega arith)

-- ---- values: f says whether they are a field's

-- a byte that was eaten before pays for an element's row
abbrev ElementLaws : Bool → ℕ → ℕ → Point rules → Reader → Type 0
ElementLaws f e n α = Laws (awaiting e (suc n) (AwaitsElement f)) α (awaiting e n (Is (chunks f)))

escape-laws : {O : Order Row} {σ ω : Point O} (a : ℕ) → Laws (ate σ) (onward σ) ω (escape a)
escape-laws a = when-laws any (turn-laws a far) (turn-laws a past)

quoted-turn-laws : {O : Order Row} {σ : Point O} (a : ℕ) → Laws σ (onward σ) σ (quoted_turn a)
unfolding quoted_turn
quoted-turn-laws a =
    sees-laws (is 0x22) stop-laws
    (when-laws (is 0x5C) (escape-laws a)
    (when-any (turn-laws a past)))

pub quoted-laws : {O : Order Row} {σ α : Point O} → Laws σ α σ quoted
unfolding quoted
quoted-laws = many-laws quoted-turn-laws 0

pub string-laws : {O : Order Row} {σ α : Point O} → Laws σ α (ate (ate σ)) string
unfolding string
string-laws = quote-laws then-laws quoted-laws then-laws quote-laws

string-literal-laws : (f : Bool) {e n : ℕ} {α : Point rules} → ElementLaws f e n α string_literal
unfolding string_literal
string-literal-laws f = less-laws (quote-laws then-laws over-laws refl (literal-takes f) quoted-laws then-laws quote-laws) (fewer (omega arith))

number-turn-laws : {O : Order Row} {σ : Point O} (a : ℕ) → Laws σ (onward σ) σ (number_turn a)
unfolding number_turn
number-turn-laws zero =
    when-laws (holds_of test.Digit) (turn-laws 0 past)
    (when-laws (is 0x2E) (turn-laws 1 past)
    (sees-any stop-laws))
number-turn-laws (suc a) =
    when-laws (holds_of test.Digit) (turn-laws 1 past)
    (sees-laws (is 0x2E) (refuse-laws UnexpectedDecimalPoint (omega arith))
    (sees-any stop-laws))

pub number-laws : {O : Order Row} {σ α : Point O} → Laws σ α σ number
unfolding number
number-laws = many-laws number-turn-laws 0

braced-turn-laws : {O : Order Row} {σ : Point O} (d : ℕ) → Laws σ (onward σ) σ (braced_turn d)
unfolding braced_turn
braced-turn-laws zero =
    sees-laws (is 0x7D) stop-laws
    (when-laws (is 0x7B) (turn-laws 1 past)
    (when-laws (is 0x5C) (escape-laws 0)
    (when-any (turn-laws 0 past))))
braced-turn-laws (suc d) =
    when-laws (is 0x7D) (turn-laws d past)
    (when-laws (is 0x7B) (turn-laws (suc (suc d)) past)
    (when-laws (is 0x5C) (escape-laws (suc d))
    (when-any (turn-laws (suc d) past))))

pub in-braces-laws : {O : Order Row} {σ α : Point O} → Laws σ α σ in_braces
unfolding in_braces
in-braces-laws = many-laws braced-turn-laws 0

braced-laws : (f : Bool) {e n : ℕ} {α : Point rules} → ElementLaws f e n α braced
unfolding braced
braced-laws f = less-laws (opening-laws then-laws over-laws refl (literal-takes f) in-braces-laws then-laws closing-laws) (fewer (omega arith))

pub ident-laws : {O : Order Row} {σ α : Point O} → Laws σ α (ate σ) ident
unfolding ident
ident-laws = when-laws is_id_start (scan-laws is_id_continue) (refuse-laws ExpectedIdentifier (omega arith))

abbr-element-laws : (f : Bool) {e n : ℕ} {α : Point rules} → ElementLaws f e n α abbr_element
unfolding abbr_element single_field
abbr-element-laws f =
    value-laws (over-laws refl (literal-takes f) number-laws)
    (less-laws (over-laws refl (name-takes f) ident-laws) (fewer (omega arith)))
    (braced-laws f)
    (string-literal-laws f)

-- a "#" pays for the row of the next element
abbr-turn-laws : (f : Bool) {e n : ℕ} (a : ℕ)
    → Laws (awaiting e (suc n) (AwaitsElement f)) (awaiting (suc e) (suc n) (AwaitsElement f)) (awaiting e n (Is (chunks f))) (abbr_turn a)
unfolding abbr_turn
abbr-turn-laws f a =
    abbr-element-laws f then-laws white-laws then-laws
    when-laws (holds_of test.Hash) (white-laws then-laws turn-laws 0 (wider (omega arith) (is-in (AwaitsElement f) next-chunk))) stop-laws

abbr-field-laws : (f : Bool) {e n : ℕ} {α : Point rules}
    → Laws (awaiting e (suc (suc n)) (Is (value f))) α (awaiting e n (Is (chunks f))) abbr_field
unfolding abbr_field
abbr-field-laws f = over-laws refl (value-takes f) (many-laws (abbr-turn-laws f) 0)

-- ---- fields

pub comment-laws : {O : Order Row} {σ α : Point O} → Laws σ α σ comment
unfolding comment
comment-laws = when-laws (holds_of test.Percent) (less-laws (scan-laws (fails test.Newline)) back) stop-laws

field-end-laws : {O : Order Row} {σ : Point O} → Laws σ (ate σ) σ field_end
unfolding field_end
field-end-laws =
    white-laws then-laws
    sees-laws (is 0x2C) (comma-laws then-laws white-laws then-laws comment-laws then-laws turn-laws 0 same)
    (sees-laws (is 0x7D) stop-laws
    (refuse-laws ExpectedComma (omega arith)))

-- field names are of kind k, and may come where P is awaited. A field has three rows: its name's first character pays for one, its "="
-- for another, and the comma before it for the third
module _ {P : Await → Type 0} (k : Kind) (f : Bool) (d : eqb (kind_of k) 9 ≡ false) (t : Takes rules (plain k) P (Is (value f)))
    (again : P (chunks f)) {e n : ℕ} where
  field_laws : {α : Point rules} → Laws (awaiting e (suc n) P) α (awaiting e n P) (field k)
  unfolding field
  field_laws =
      less-laws
      (over-laws d t ident-laws then-laws white-laws then-laws equals-laws then-laws white-laws then-laws
      abbr-field-laws f then-laws white-laws then-laws comment-laws) (wider (omega arith) (is-in P again))

  fields-turn-laws : (a : ℕ) → Laws (awaiting e (suc n) P) (awaiting (suc e) (suc n) P) (awaiting e n P) (fields_turn k a)
  unfolding fields_turn
  fields-turn-laws a =
      sees-any
      (white-laws then-laws
      sees-laws (is 0x7D) (less-laws stop-laws (fewer (omega arith))) (field_laws then-laws field-end-laws))

  fields-laws : {α : Point rules} → Laws (awaiting e (suc n) P) α (awaiting e n P) (fields k)
  unfolding fields
  fields-laws = many-laws fields-turn-laws 0

pub key_laws : {O : Order Row} {σ α : Point O} → Laws σ α σ key
unfolding key
key_laws = scan-laws is_key

-- ---- entries

pub strings-laws : {e n : ℕ} {α : Point rules} → Laws (awaiting e (suc n) Free) α (awaiting e n Free) strings
unfolding strings
strings-laws = fields-laws kind.DefinitionName false refl definition-takes (one false)

pub preamble-laws : {e n : ℕ} {α : Point rules} → Laws (awaiting e (suc n) Free) α (awaiting (suc (suc e)) (suc (suc n)) Free) preamble
unfolding preamble
preamble-laws = over-laws refl preamble-takes string-laws

pub commented-laws : {O : Order Row} {σ α : Point O} → Laws σ α σ commented
unfolding commented
commented-laws = scan-laws (fails test.ClosingBrace)

-- the comma behind the key pays for the first field
pub body-laws : {e n : ℕ} {α : Point rules} → Laws (awaiting e (suc n) (Is awaits.key)) α (awaiting (suc e) n (AwaitsItem true)) body
unfolding body
body-laws =
    over-laws refl key-takes key_laws then-laws white-laws then-laws comma-laws then-laws white-laws then-laws comment-laws then-laws
    white-laws then-laws fields-laws kind.FieldName true refl field-takes at-chunks

pub lead-laws : {O : Order Row} {σ α : Point O} → Laws σ α (ate σ) lead
unfolding lead
lead-laws = white-laws then-laws opening-laws then-laws white-laws

-- ---- the turns of the loops over bytes

pub quoted-turn-kept : (a : ℕ) → Kept 1 0 1 (quoted_turn a)
quoted-turn-kept a = going (quoted-turn-laws {σ = start} a)

pub number-turn-kept : (a : ℕ) → Kept 1 0 1 (number_turn a)
number-turn-kept a = going (number-turn-laws {σ = start} a)

pub braced-turn-kept : (d : ℕ) → Kept 1 0 1 (braced_turn d)
braced-turn-kept d = going (braced-turn-laws {σ = start} d)
