-- The ways through the readers of a field's value: `single_field`, `abbr_element` and `abbr_turn`.
--     single-braced, single-quoted, single-none    `single_field`: a brace, a quotation mark, or neither
--     element-number, number_past                  `abbr_element` at a digit, and that the number goes past it
--     element-name, element-field                  `abbr_element` at a name, and at what is none
--     element-off, turn_last, turn-hash            `abbr_turn`: the element is refused, is the last, or is followed by a hash sign
--     turn-comma, turn-joined                      a comma or a hash sign stands right behind the element
-- Assumes nothing.
use Rattle.std.proofs.Common.{Ok, Err, Continue, Break, ℕ, ◌+◌, ◌≤◌, ◌<◌, ◌≡◌, refl, sym, ap, ◌∙◌, subst, Bool, true, false, List, [], arith, length, get_or, ltb, eq-eqb, ne_eqb}
use Rattle.std.proofs.Common.{ltb-true, ltb-false}
use Rattle.text.specs.Class.{is_whitespace, white_space, is_id_start, holds_of}
use Rattle.text.specs.Scan.{see, skip, past_one}
use Rattle.text.specs.declared.class.Test.TheVariants as test
use Rattle.row.specs.declared.form.Kind.TheVariants as kind
use Rattle.row.specs.declared.fault.Fault.{Fault}
use Rattle.row.specs.declared.fault.Reason.TheVariants.{UnexpectedEof}
use Rattle.row.specs.Fault.{fault_at}
use Rattle.row.specs.Row.{plain, row}
use Rattle.raw.specs.Reader.{Out, ok, again, bad, under, after, many, sees, turn, refuse, over, ◌then◌}
use Rattle.raw.specs.Inner.{Undelimited}
use Rattle.raw.specs.Grammar.{is, white, number, number_turn, ident, braced, string_literal, single_field, abbr_element, abbr_turn}
use Rattle.raw.specs.Says.{Says, SaysTurn}
use Rattle.raw.proofs.readers.Kept.{Advances}
use Rattle.raw.proofs.readers.Loop.{many-turn}
use Rattle.raw.proofs.grammar.Readers.{from_start, number-turn-kept, number-laws}
use Rattle.raw.proofs.readers.Then.{more-none, then-on, then-off}
use Rattle.raw.proofs.ways.OneCharacter.{eaten-off, eaten-on, byte-end, byte-on, byte-off}
use Rattle.text.proofs.general.Tests.{narrow-is}
use Rattle.raw.proofs.ways.TokenWays.{white-on, past-byte, no-white}
use Rattle.raw.proofs.contracts.SaysLaws.{turn-of, turn-done, turn-again, turn-then, said-off}

-- ---- `single_field`, by the byte

module _ (s : List ℕ) (i : ℕ) where
  abbrev quoted_or : Out
  quoted_or = sees (is 0x22) string_literal (refuse UnexpectedEof) s i

  single-end : length s ≤ i → single_field s i ≡ bad (fault_at UnexpectedEof i)
  unfolding single_field
  single-end h =
      byte-end (is 0x7B) s i (λ n. braced s i) quoted_or h ∙ byte-end (is 0x22) s i (λ n. string_literal s i) (bad (fault_at UnexpectedEof i)) h

  module _ (h : i < length s) where
    pub single-braced : get_or s i 0 ≡ 0x7B → single_field s i ≡ braced s i
    unfolding single_field
    single-braced e = byte-on (is 0x7B) s i (λ n. braced s i) quoted_or (narrow-is 0x7B (omega arith)) h (eq-eqb _ _ e)

    module _ (d : get_or s i 0 ≡ 0x7B → ⊥) where
      no-brace : single_field s i ≡ quoted_or
      unfolding single_field
      no-brace = byte-off (is 0x7B) s i (λ n. braced s i) quoted_or (narrow-is 0x7B (omega arith)) h (ne_eqb _ _ d)

      pub single-quoted : get_or s i 0 ≡ 0x22 → single_field s i ≡ string_literal s i
      single-quoted e =
          no-brace ∙ byte-on (is 0x22) s i (λ n. string_literal s i) (bad (fault_at UnexpectedEof i)) (narrow-is 0x22 (omega arith)) h (eq-eqb _ _ e)

      single-off : (get_or s i 0 ≡ 0x22 → ⊥) → single_field s i ≡ bad (fault_at UnexpectedEof i)
      single-off e =
          no-brace ∙ byte-off (is 0x22) s i (λ n. string_literal s i) (bad (fault_at UnexpectedEof i)) (narrow-is 0x22 (omega arith)) h (ne_eqb _ _ e)

  pub single-none : Undelimited s i → single_field s i ≡ bad (fault_at UnexpectedEof i)
  single-none u = go (ltb i (length s)) refl
    where
      go : (t : Bool) → ltb i (length s) ≡ t → single_field s i ≡ bad (fault_at UnexpectedEof i)
      go true e = let h = ltb-true _ _ e in single-off h (u.no-brace h) (u.no-quote h)
      go false e = single-end (ltb-false _ _ e)

-- ---- `abbr_element`, by what `eat_if` answered

module _ (s : List ℕ) (i : ℕ) {r : ℕ} (e : r ≡ past_one (holds_of test.Digit) i (see s i)) where
  abbrev name_or : Out
  name_or = sees is_id_start (over (plain kind.Name) ident) single_field s i

  pub element-number : (r ≡ i → ⊥) → abbr_element s i ≡ under (row kind.Literal i) (number s i)
  unfolding abbr_element
  element-number h = eaten-on (holds_of test.Digit) s i (λ n. under (row kind.Literal i) (number s i)) name_or e h

  -- a number goes past its first digit
  pub number_past : (r ≡ i → ⊥) → {q : ℕ} → number s i ≡ ok q [] → r ≤ q
  unfolding number number_turn
  number_past h {q} d =
      let t : number_turn 0 s i ≡ again r [] 0 = eaten-on (holds_of test.Digit) s i (λ n. again n [] 0) _ e h in
      let m : number s i ≡ number s r = many-turn number-turn-kept 0 s i ∙ ap (λ (o : Out). after o (λ a p. many number_turn a s p)) t ∙ more-none (number s r) in
      let k = subst (Advances 0 0 r (length s)) (sym m ∙ d) ((from_start number-laws).core.kept.advances s r) in
      omega arith

  module _ (h : r ≡ i) {q : ℕ} (d : q ≡ past_one (holds_of test.IdStart) i (see s i)) where
    no_digit : abbr_element s i ≡ name_or
    unfolding abbr_element
    no_digit = eaten-off (holds_of test.Digit) s i (λ n. under (row kind.Literal i) (number s i)) name_or e h

    pub element-name : (q ≡ i → ⊥) → abbr_element s i ≡ under (row kind.Name i) (ident s i)
    unfolding holds_of
    element-name k = no_digit ∙ eaten-on is_id_start s i (λ n. under (row kind.Name i) (ident s i)) (single_field s i) d k

    pub element-field : q ≡ i → abbr_element s i ≡ single_field s i
    unfolding holds_of
    element-field k = no_digit ∙ eaten-off is_id_start s i (λ n. under (row kind.Name i) (ident s i)) (single_field s i) d k

-- ---- `abbr_turn`

module _ (s : List ℕ) (i : ℕ) {base n : ℕ} {b b' : List ℕ} where
  pub element-off : {x : Fault} → Says base (abbr_element s i) n b (Err x) b' → abbr_turn 0 s i ≡ bad x
  unfolding abbr_turn
  element-off h = then-off _ (said-off h)

  module _ {p m : ℕ} (h : Says base (abbr_element s i) n b (Ok (p, m)) b') {p₂ p₃ : ℕ} (w : p₂ ≡ skip is_whitespace s p)
      (e : p₃ ≡ past_one (holds_of test.Hash) p₂ (see s p₂)) where
    pub turn_last : p₃ ≡ p₂ → SaysTurn base (abbr_turn 0 s i) n b (Ok (Break (p₂, m))) b'
    unfolding abbr_turn
    turn_last k = turn-then _ h (turn-of (then-on _ (white-on s p w)) (turn-done (eaten-off (holds_of test.Hash) s p₂ ((white then turn 0) s) (ok p₂ []) e k)))

    pub turn-hash : {p₄ : ℕ} → (p₃ ≡ p₂ → ⊥) → p₄ ≡ skip is_whitespace s p₃ → SaysTurn base (abbr_turn 0 s i) n b (Ok (Continue (p₄, m))) b'
    unfolding abbr_turn
    turn-hash k v =
        turn-then _ h (turn-of (then-on _ (white-on s p w) ∙ eaten-on (holds_of test.Hash) s p₂ ((white then turn 0) s) (ok p₂ []) e k) (turn-again (then-on _ (white-on s p₃ v))))

  module _ {p m : ℕ} (h : Says base (abbr_element s i) n b (Ok (p, m)) b') (l : p < length s) where
    pub turn-comma : get_or s p 0 ≡ 0x2C → SaysTurn base (abbr_turn 0 s i) n b (Ok (Break (p, m))) b'
    unfolding is_whitespace holds_of white_space
    turn-comma e =
        turn_last h (no-white s p 0x2C l e (omega arith) refl) (past-byte s p 0x2C l e (omega arith) (holds_of test.Hash)) refl

    pub turn-joined : {q : ℕ} → get_or s p 0 ≡ 0x23 → q ≡ skip is_whitespace s (p + 1) → SaysTurn base (abbr_turn 0 s i) n b (Ok (Continue (q, m))) b'
    unfolding is_whitespace holds_of white_space
    turn-joined e v =
        turn-hash h (no-white s p 0x23 l e (omega arith) refl) (past-byte s p 0x23 l e (omega arith) (holds_of test.Hash)) (λ z. omega arith) v
