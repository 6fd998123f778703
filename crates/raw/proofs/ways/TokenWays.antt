-- The ways through the functions of src/token.rt, by what the scanner answered.
--     scan-on, white-on, comment-on, key-on       scans, white space, a comment and a key, which never refuse
--     key-told, comment-off, comment-line, ident-off, ident-line, ident-letters       the ways through `key`, `comment`, `ident` and `name`
--     equals-ends, brace-ends                     what `name` asks of the byte that ends it
--     past-byte, no-white, no-comment             at a byte of ASCII: a test of one character; no white space goes on, no comment begins
-- Assumes nothing.
use Rattle.std.proofs.Common.{Ok, Err, ℕ, ◌+◌, ◌≤◌, ◌<◌, max, ◌≡◌, refl, sym, ap, ◌∙◌, subst, Bool, true, false, cond, ◌||◌, List, [], arith, length, get_or, eqb}
use Rattle.text.specs.Class.{is_whitespace, is_key, is_id_start, is_id_continue, holds_of}
use Rattle.text.specs.Scan.{see, skip, past_one, fails, Ahead}
use Rattle.text.specs.Inner.{Letters}
use Rattle.text.specs.declared.class.Test.TheVariants as test
use Rattle.text.proofs.Seeing.{seeing}
use Rattle.row.specs.declared.fault.Reason.TheVariants.{ExpectedIdentifier}
use Rattle.row.specs.Fault.{fault_at}
use Rattle.row.specs.Row.{Row}
use Rattle.raw.specs.Reader.{ok, bad, scan}
use Rattle.raw.specs.Grammar.{white, comment, key, ident}
use Rattle.raw.specs.Says.{step_of, Onward}
use Rattle.raw.proofs.readers.Scans.{scan-skip}
use Rattle.raw.proofs.grammar.Rowless.{rowless-at, comment-rowless, key-rowless}
use Rattle.raw.proofs.ways.OneCharacter.{not_at, eaten-off, eaten-on}

-- ---- scans

pub scan-on : (t : ℕ → Bool) (s : List ℕ) (i : ℕ) {r : ℕ} → r ≡ skip t s i → scan {P = Row} t s i ≡ ok r []
scan-on t s i e = scan-skip t s i ∙ ap (λ (x : ℕ). ok x []) (sym e)

module _ (s : List ℕ) (i : ℕ) where
  pub white-on : {r : ℕ} → r ≡ skip is_whitespace s i → white s i ≡ ok r []
  unfolding white
  white-on e = scan-on is_whitespace s i e

-- ---- the ways through

module _ (s : List ℕ) (i : ℕ) where
  -- readers that never refuse, by the place that the code answered
  pub comment-on : {r : ℕ} → Ok r ≡ step_of (comment s i) → comment s i ≡ ok r []
  comment-on e = rowless-at (comment-rowless s i) e

  pub key-on : {r : ℕ} → Ok r ≡ step_of (key s i) → key s i ≡ ok r []
  key-on e = rowless-at (key-rowless s i) e

  pub key-told : {r : ℕ} → r ≡ skip is_key s i → Ahead s i r → (Ok r ≡ step_of (key s i)) × (i ≤ r) × (r ≤ max i (length s))
  unfolding key
  key-told e a = (sym (ap step_of (scan-on is_key s i e)), a.from, a.to)

  module _ {r : ℕ} (e : r ≡ past_one (holds_of test.Percent) i (see s i)) where
    pub comment-off : r ≡ i → (Ok i ≡ step_of (comment s i)) × (i ≤ i) × (i ≤ max i (length s))
    unfolding comment
    comment-off h = (sym (ap step_of (eaten-off (holds_of test.Percent) s i (scan (fails test.Newline) s) (ok i []) e h)), omega arith, omega arith)

    pub comment-line : {q : ℕ} → (r ≡ i → ⊥) → Ahead s i r → q ≡ skip (fails test.Newline) s r → Ahead s r q
        → (Ok q ≡ step_of (comment s i)) × (i ≤ q) × (q ≤ max i (length s))
    unfolding comment
    comment-line h a d b =
        let line = scan-on (fails test.Newline) s r d in
        (sym (ap step_of (eaten-on (holds_of test.Percent) s i (scan (fails test.Newline) s) (ok i []) e h ∙ line)), omega arith, omega arith)

  module _ {r : ℕ} (e : r ≡ past_one is_id_start i (see s i)) where
    pub ident-off : r ≡ i → (Err (fault_at ExpectedIdentifier i) ≡ step_of (ident s i)) × Unit {0}
    unfolding ident
    ident-off h = (sym (ap step_of (eaten-off is_id_start s i (scan is_id_continue s) (bad (fault_at ExpectedIdentifier i)) e h)), tt)

    pub ident-line : {q : ℕ} → (r ≡ i → ⊥) → Ahead s i r → q ≡ skip is_id_continue s r → Ahead s r q
        → (Ok q ≡ step_of (ident s i)) × Onward (length s) 1 i (Ok q)
    unfolding ident
    ident-line h a d b =
        let l : i + 1 ≤ r = not_at a.from h in
        let name = eaten-on is_id_start s i (scan is_id_continue s) (bad (fault_at ExpectedIdentifier i)) e h in
        (sym (ap step_of (name ∙ scan-on is_id_continue s r d)), (omega arith, omega arith))

  -- an identifier of letters alone, which a space ends, or a byte x that cannot be part of it
  pub ident-letters : {r x : ℕ} → Letters s i r → i < r → r < length s → (x < 128) × (is_id_continue x ≡ false)
      → (eqb (get_or s r 0) 0x20 || eqb (get_or s r 0) x) ≡ true → (Ok r ≡ step_of (ident s i)) × Onward (length s) 1 i (Ok r)
  ident-letters {r} a p q e t =
      let x = seeing.letters-id a p q e.0 e.1 t in
      ident-line x.0 (λ z. omega arith) (record { from = omega arith; to = omega arith }) x.1 (record { from = omega arith; to = omega arith })

-- "=" and "{" cannot be part of an identifier: what `name` asks
pub equals-ends : (0x3D < 128) × (is_id_continue 0x3D ≡ false)
unfolding is_id_continue
equals-ends = (omega arith, refl)

pub brace-ends : (0x7B < 128) × (is_id_continue 0x7B ≡ false)
unfolding is_id_continue
brace-ends = (omega arith, refl)

-- ---- at a byte of ASCII that is known

module _ (s : List ℕ) (i x : ℕ) (h : i < length s) (e : get_or s i 0 ≡ x) (l : x < 0x80) where
  pub past-byte : (t : ℕ → Bool) → cond (t x) (i + 1) i ≡ past_one t i (see s i)
  past-byte t = sym (ap (past_one t i) (seeing.at_byte s i x h e l))

  pub no-white : is_whitespace x ≡ false → i ≡ skip is_whitespace s i
  no-white w =
      let c = seeing.char-parts s i x (i + 1) (seeing.at_byte s i x h e l) in
      sym (seeing.skip_stop is_whitespace s i h (subst (λ (y : ℕ). is_whitespace y ≡ false) c.1 w))

  pub no-comment : holds_of test.Percent x ≡ false → Ok i ≡ step_of (comment s i)
  no-comment w = (comment-off s i (sym (ap (λ (b : Bool). cond b (i + 1) i) w) ∙ past-byte (holds_of test.Percent)) refl).0
