-- The ways through `field`, `field_end` and `fields_turn`.
--     name-off, equals-off, value-off, value_on    `field`: its name, its equals sign or its value is refused, or none of them
--     value-comma                                  a comma stands right behind its value
--     value-within                                 the bounds of a field that is read to its end
--     end-end, end-comma, end-brace, end-off       `field_end`: at the end of the text, a comma, a closing brace, another byte
--     end-here                                     a comma stands right behind the field
--     fields-eof, fields-brace                     `fields_turn` at the end of the text, and at the brace that closes the entry
--     fields-other, fields-end                     where it reads a field: before another byte, or where the text has ended
--     fields-off, fields-on                        and the field is refused, or read
-- Assumes nothing.
use Rattle.std.proofs.Common.{Result, Ok, Err, ℕ, ◌+◌, ◌*◌, ◌≤◌, ◌<◌, ◌≡◌, refl, ap, ◌∙◌, List, [], arith, max, length, get_or, eq-eqb, ne_eqb}
use Rattle.text.specs.Class.{is_whitespace, white_space, holds_of}
use Rattle.text.specs.Scan.{see, skip, Ahead}
use Rattle.text.proofs.Seeing.{seeing}
use Rattle.row.specs.declared.form.Kind.{Kind}
use Rattle.row.specs.declared.fault.Fault.{Fault}
use Rattle.row.specs.declared.fault.Reason.TheVariants.{UnexpectedEof, ExpectedComma}
use Rattle.row.specs.Fault.{fault_at}
use Rattle.row.specs.Row.{row, put_row}
use Rattle.raw.specs.Reader.{Out, ok, again, bad, under, eaten, sees, stop, turn, refuse, ◌then◌}
use Rattle.raw.specs.Grammar.{is, any, white, comma, ident, equals, abbr_field, comment, field, field_end, fields_turn}
use Rattle.raw.specs.Says.{step_of, Within, Turn, Says, SaysTurn}
use Rattle.raw.proofs.grammar.Rowless.{rowless-at, rowless-off, ident-rowless, equals-rowless}
use Rattle.raw.proofs.readers.Then.{then-on, then-off}
use Rattle.raw.proofs.ways.OneCharacter.{byte-end, byte-on, byte-off}
use Rattle.text.proofs.general.Tests.{narrow-is}
use Rattle.raw.proofs.ways.TokenWays.{white-on, comment-on, no-white, no-comment}
use Rattle.raw.proofs.contracts.SaysLaws.{says_of, says_on, says_then, says-mark, said-off, turn-of, turn-then}

-- ---- `field`

module _ (k : Kind) (s : List ℕ) (i : ℕ) where
  pub name-off : {x : Fault} → Err x ≡ step_of (ident s i) → field k s i ≡ bad x
  unfolding field
  name-off e = then-off _ (ap (under (row k i)) (rowless-off (ident s i) e))

  module _ {p₁ : ℕ} (e₁ : Ok p₁ ≡ step_of (ident s i)) {p₂ : ℕ} (w₂ : p₂ ≡ skip is_whitespace s p₁) where
    pub equals-off : {x : Fault} → Err x ≡ step_of (equals s p₂) → field k s i ≡ bad x
    unfolding field
    equals-off e = rw (rowless-at (ident-rowless s i) e₁, white-on s p₁ w₂, rowless-off (equals s p₂) e)

    module _ {p₃ : ℕ} (e₃ : Ok p₃ ≡ step_of (equals s p₂)) {p₄ : ℕ} (w₄ : p₄ ≡ skip is_whitespace s p₃) where
      pub value-off : {x : Fault} {base m : ℕ} {c b' : List ℕ} → Says base (abbr_field s p₄) m c (Err x) b' → field k s i ≡ bad x
      unfolding field
      value-off h =
          rw (rowless-at (ident-rowless s i) e₁, white-on s p₁ w₂, rowless-at (equals-rowless s p₂) e₃, white-on s p₃ w₄, said-off h)

      module _ {base n : ℕ} {b c : List ℕ} (put : c ≡ put_row b n (row k (base + i) (base + p₁))) where
        to-value : {q : Result (ℕ × ℕ) Fault} {d : List ℕ} → Says base ((abbr_field then white then comment) s p₄) (n + 1) c q d → Says base (field k s i) n b q d
        unfolding field
        to-value w =
            says-mark k i _ (rowless-at (ident-rowless s i) e₁)
            (says_of (then-on _ (white-on s p₁ w₂) ∙ then-on _ (rowless-at (equals-rowless s p₂) e₃) ∙ then-on _ (white-on s p₃ w₄)) (rw put at w))

        pub value_on : {p₅ m p₆ p₇ : ℕ} {b' : List ℕ} → Says base (abbr_field s p₄) (n + 1) c (Ok (p₅, m)) b' → p₆ ≡ skip is_whitespace s p₅ →
            Ok p₇ ≡ step_of (comment s p₆) → Says base (field k s i) n b (Ok (p₇, m)) b'
        value_on {p₅} {p₆ = p₆} h w₆ e₇ = to-value (says_then _ h (says_of (then-on _ (white-on s p₅ w₆)) (says_on (comment-on s p₆ e₇))))

        pub value-comma : {p₅ m : ℕ} {b' : List ℕ} → Says base (abbr_field s p₄) (n + 1) c (Ok (p₅, m)) b' → p₅ < length s → get_or s p₅ 0 ≡ 0x2C →
            Says base (field k s i) n b (Ok (p₅, m)) b'
        unfolding is_whitespace holds_of white_space
        value-comma {p₅} h l c =
            value_on h (no-white s p₅ 0x2C l c (omega arith) refl) (no-comment s p₅ 0x2C l c (omega arith) refl)

-- The check finds this where a field is read; it stands here because docs/PROOFS.md names it.
pub value-within : {s : List ℕ} (i n m : ℕ) {p₁ p₂ p₃ p₄ p₅ p₆ p₇ : ℕ} → (i + 1 ≤ p₁) × (p₁ ≤ length s) → Ahead s p₁ p₂ →
    (p₂ + 1 ≤ p₃) × (p₃ ≤ length s) → Ahead s p₃ p₄ → (p₄ + 1 ≤ p₅) × (p₅ ≤ length s) × (m + 8 * p₄ ≤ n + 1 + 1 + 8 * p₅) → Ahead s p₅ p₆ →
    p₆ ≤ p₇ → p₇ ≤ max p₆ (length s) → Within (length s) 3 i n (Ok (p₇, m))
value-within i n m a b c d e f g h = (omega arith, omega arith, omega arith)

-- ---- `field_end`

module _ (s : List ℕ) (i : ℕ) {p : ℕ} (w : p ≡ skip is_whitespace s i) where
  abbrev on_comma : Out
  on_comma = (comma then white then comment then turn 0) s p

  abbrev brace_or : Out
  brace_or = sees (is 0x7D) stop (refuse ExpectedComma) s p

  after-field : field_end s i ≡ eaten (is 0x2C) (see s p) (λ n. on_comma) brace_or
  unfolding field_end
  after-field = then-on _ (white-on s i w)

  pub end-end : length s ≤ p → field_end s i ≡ bad (fault_at ExpectedComma p)
  end-end h =
      after-field ∙ byte-end (is 0x2C) s p (λ n. on_comma) brace_or h ∙ byte-end (is 0x7D) s p (λ n. ok p []) (bad (fault_at ExpectedComma p)) h

  module _ (h : p < length s) where
    comma-eaten : get_or s p 0 ≡ 0x2C → comma s p ≡ ok (p + 1) []
    unfolding comma holds_of
    comma-eaten e = byte-on (is 0x2C) s p (λ n. ok n []) (bad (fault_at ExpectedComma p)) (narrow-is 0x2C (omega arith)) h (eq-eqb _ _ e)

    pub end-comma : {p₂ p₃ : ℕ} → get_or s p 0 ≡ 0x2C → p₂ ≡ skip is_whitespace s (p + 1) → Ok p₃ ≡ step_of (comment s p₂) →
        field_end s i ≡ again p₃ [] 0
    end-comma {p₂} e v d =
        after-field
        ∙ byte-on (is 0x2C) s p (λ n. on_comma) brace_or (narrow-is 0x2C (omega arith)) h (eq-eqb _ _ e)
        ∙ then-on _ (comma-eaten e) ∙ then-on _ (white-on s (p + 1) v) ∙ then-on _ (comment-on s p₂ d)

    module _ (d : get_or s p 0 ≡ 0x2C → ⊥) where
      no-comma : field_end s i ≡ brace_or
      no-comma = after-field ∙ byte-off (is 0x2C) s p (λ n. on_comma) brace_or (narrow-is 0x2C (omega arith)) h (ne_eqb _ _ d)

      pub end-brace : get_or s p 0 ≡ 0x7D → field_end s i ≡ ok p []
      end-brace e = no-comma ∙ byte-on (is 0x7D) s p (λ n. ok p []) (bad (fault_at ExpectedComma p)) (narrow-is 0x7D (omega arith)) h (eq-eqb _ _ e)

      pub end-off : (get_or s p 0 ≡ 0x7D → ⊥) → field_end s i ≡ bad (fault_at ExpectedComma p)
      end-off e = no-comma ∙ byte-off (is 0x7D) s p (λ n. ok p []) (bad (fault_at ExpectedComma p)) (narrow-is 0x7D (omega arith)) h (ne_eqb _ _ e)

pub end-here : (s : List ℕ) (i : ℕ) → i < length s → get_or s i 0 ≡ 0x2C → {p₂ p₃ : ℕ} → p₂ ≡ skip is_whitespace s (i + 1) →
    Ok p₃ ≡ step_of (comment s p₂) → field_end s i ≡ again p₃ [] 0
unfolding is_whitespace white_space
end-here s i h e v d = end-comma s i (no-white s i 0x2C h e (omega arith) refl) h e v d

-- ---- `fields_turn`

module _ (k : Kind) (s : List ℕ) (i : ℕ) where
  pub fields-eof : length s ≤ i → fields_turn k 0 s i ≡ bad (fault_at UnexpectedEof i)
  unfolding fields_turn
  fields-eof h = byte-end any s i (λ n. (white then sees (is 0x7D) stop (field k then field_end)) s i) (bad (fault_at UnexpectedEof i)) h

  module _ (h : i < length s) {p : ℕ} (w : p ≡ skip is_whitespace s i) where
    at_field : fields_turn k 0 s i ≡ sees (is 0x7D) stop (field k then field_end) s p
    unfolding fields_turn
    at_field = rw (seeing.see-at s i h) (then-on _ (white-on s i w))

    pub fields-brace : p < length s → get_or s p 0 ≡ 0x7D → fields_turn k 0 s i ≡ ok p []
    fields-brace l e = at_field ∙ byte-on (is 0x7D) s p (λ n. ok p []) ((field k then field_end) s p) (narrow-is 0x7D (omega arith)) l (eq-eqb _ _ e)

    -- no closing brace stands there: another byte does, or the text has ended
    pub fields-other : p < length s → (get_or s p 0 ≡ 0x7D → ⊥) → fields_turn k 0 s i ≡ (field k then field_end) s p
    fields-other l e =
        at_field ∙ byte-off (is 0x7D) s p (λ n. ok p []) ((field k then field_end) s p) (narrow-is 0x7D (omega arith)) l (ne_eqb _ _ e)

    pub fields-end : length s ≤ p → fields_turn k 0 s i ≡ (field k then field_end) s p
    fields-end l = at_field ∙ byte-end (is 0x7D) s p (λ n. ok p []) ((field k then field_end) s p) l

  module _ (p : ℕ) (e : fields_turn k 0 s i ≡ (field k then field_end) s p) {base n : ℕ} {b c : List ℕ} where
    pub fields-off : {x : Fault} → Says base (field k s p) n b (Err x) c → fields_turn k 0 s i ≡ bad x
    fields-off g = e ∙ then-off _ (said-off g)

    pub fields-on : {q m : ℕ} {r : Result Turn Fault} → Says base (field k s p) n b (Ok (q, m)) c → SaysTurn base (field_end s q) m c r c →
        SaysTurn base (fields_turn k 0 s i) n b r c
    fields-on g f = turn-of e (turn-then _ g f)
