-- What `command`, `backslash` and `text_at` of src/turn.rt answer, in the form of their proofs; and which bytes end a text or a chunk.
--     one-lays, bare-lays                               what `one` and `bare` write: a command with the next character, or without argument
--     one-room, one_grows, ends_by                      the room that `one` has, and how far it goes; an argument that ends does so inside the text
--     command-one, command-bare                         `command`, where it takes the character behind it, and where it has no argument
--     brace-inside, brace-next                          `command`, where a brace opens its argument: the brace is in the text, right behind the name
--     command-argument, command-endless                 and there an argument that ends, and one that does not
--     ends-verb, ends-refused                           `backslash` at the end of the text, in a verbatim field and in another
--     char-next, escapes, stands, behind                `backslash` before a character: its end; an escape; a verbatim field; a command
--     begins-so                                         a character that is no white space and no control character may begin a name
--     sign-tests, no_sign, sign-dollar, sign-closing    which sign a byte is
--     no-sign-there, sign-inside, ordinary              a sign stands inside the text; a byte that is none is ordinary
--     not-ends, ends-not, grows_some                    where text ends; where it has not, the next turn goes on
-- Assumes nothing.
use Rattle.std.proofs.Common.{ℕ, zero, suc, ◌+◌, ◌*◌, ◌≤◌, ◌<◌, max, arith, ◌≡◌, refl, sym, ap, ap₂, subst, ◌∙◌, Bool}
use Rattle.std.proofs.Common.{true, false, cond, not, ◌&&◌, ◌||◌, List, [], ◌∷◌, length, get_or, eqb, ltb, eqb-true, eq-eqb, ne_eqb, ltb-true, ltb-false}
use Rattle.std.specs.Prelude.{Option, Some, None, Result, Ok, Err}
use Rattle.turn.specs.declared.turn.Text.{Text}
use borrow.Author.Tests.{eqb-false, not-true}
use Rattle.text.specs.Class.{is_whitespace, is_control}
use Rattle.text.specs.Scan.{see, next_of, skip, part, Inside}
use Rattle.text.proofs.Seeing.{seeing}
use Rattle.row.specs.declared.fault.Fault.{Fault}
use Rattle.row.specs.declared.fault.Reason.TheVariants.{UnexpectedEof}
use Rattle.row.specs.Fault.{fault_at}
use Rattle.raw.specs.Reader.{OutOf, ok, again, bad}
use Rattle.text.proofs.general.Tests.{both_true, both_false}
use Rattle.command.specs.declared.meaning.Meaning.{Meaning}
use Rattle.command.specs.Stack.{Lays}
use Rattle.command.specs.Commands.{meaning_of}
use Rattle.command.specs.Execute.{absent, given, leading, executed, execute_command}
use Rattle.command.proofs.stacks.LaysLaws.{lays-as, lays-over, both-second, both_below}
use Rattle.turn.specs.Content.{Part, Reader, is_escape, begins, name_end, takes_one, opens_at, argument_end}
use Rattle.turn.specs.declared.turn.Text.TheVariants as text
use Rattle.turn.specs.Turns.{turns, opened, is_sign, ends_text, SaysText, Grows, Behind, Took, end_of, EndInside, Ordinary}
use Rattle.turn.specs.Turns.{ArgumentEnds}
use Rattle.turn.proofs.contents.TurnsAdvance.{end-inside, opens-inside}
use Rattle.turn.proofs.contents.TurnsSeen.{stopped, slash-end-verb, slash-end, slash-escape, slash-verb, took_one, took-none, took-endless, took-argument}
use Rattle.turn.proofs.ways.TextTurns.{wrote_one, says-put, says-as}

-- ---- `one` and `bare`

pub one-lays : (name v o : List ℕ) (n : ℕ) (k : Meaning) (f : ℕ) (o₁ : List ℕ) (e : ℕ) (o₂ : List ℕ) (l : ℕ) (o₃ : List ℕ) → k ≡ meaning_of name
    → Lays n (leading name k) o f o₁ → Lays f v o₁ e o₂ → n ≤ length o → f ≤ length o₁ → e ≤ length o₂
    → Lays n (executed name (given (part o₂ f e)) k) o₂ l o₃ → Lays n (execute_command name (given v)) o l o₃
unfolding execute_command
one-lays name v o n k f o₁ e o₂ l o₃ i x y a b c z =
    lays-over n _ o o₂ l o₃ (both_below n (leading name k) o f o₁ v e o₂ x y a b c)
    (lays-as n _ _ o₂ l o₃ (ap₂ (λ (t : List ℕ) (k : Meaning). executed name (given t) k) (both-second n (leading name k) o f o₁ v e o₂ x y a b c) i)
    z)

pub bare-lays : (name o : List ℕ) (n : ℕ) (k : Meaning) (l : ℕ) (o₁ : List ℕ) → k ≡ meaning_of name → Lays n (executed name absent k) o l o₁
    → Lays n (execute_command name absent) o l o₁
unfolding execute_command
bare-lays name o n k l o₁ i z = lays-as n _ _ o l o₁ (ap (executed name absent) i) z

-- the room for a command with the character behind it: its name ends at `end`, and the character goes from w to `to`
pub one-room : (len p end w to n L f e : ℕ) → p + 2 ≤ end → end ≤ w → w ≤ to → to ≤ len → n + 2 * len ≤ L + 2 * p → f + (p + 1) ≤ n + end + 2
    → e + w ≡ f + to → (e < L) × (n + e + 2 ≤ L + f) × (n + 3 ≤ L)
one-room len p end w to n L f e a b c d g h i = (omega arith, omega arith, omega arith)

pub one_grows : (p end w to n f e l : ℕ) → p + 2 ≤ end → end ≤ w → w ≤ to → f + (p + 1) ≤ n + end + 2 → e + w ≡ f + to
    → l + f + (p + 1) ≤ max (max (e + 1 + f + (p + 1)) (n + 3 + end + f)) (n + e + 2 + (p + 1)) → l + 2 * p ≤ n + 2 * to
one_grows p end w to n f e l a b c h i k = omega arith

pub ends_by : (len p : ℕ) (r : Result ℕ Fault) (a : ℕ) → r ≡ Ok a → EndInside len p r → (p ≤ a) × (a < len)
ends_by len p r a e h = rw e at h

-- ---- `command`

abbrev place_of : Result ℕ Fault → ℕ
place_of (Ok e) = suc e
place_of (Err f) = 0

abbrev fault_of : Fault → Result ℕ Fault → Fault
fault_of g (Ok e) = g
fault_of g (Err f) = f

module _ (s : List ℕ) (p c m n : ℕ) (o : List ℕ) (h : Behind s p c m) (k : begins c ≡ true) (f w : ℕ) (i : f ≡ name_end c m s)
    (j : w ≡ skip is_whitespace s f)
    (t : Bool) (x : t ≡ takes_one c m f w s) where
  pub command-one : t ≡ true → (r : Result Text Fault) (o' : List ℕ) → Took s p f (given (part s w (next_of w (see s w)))) (next_of w (see s w)) n o r o'
      → SaysText false s p n o r o'
  command-one e r o' y =
      says-put false s p n o r o' (next_of w (see s w)) y.len y.told
      (wrote_one false s p n o (next_of w (see s w)) y.len o' _
      (λ argument d. took_one argument d s p h.inside h.backslash c m h.seen h.command k f w i j (sym x ∙ e)) y.lays)

  module _ (e : t ≡ false) (b : Bool) (z : b ≡ opens_at (see s w)) where
    pub command-bare : (eqb f w && b) ≡ false → (r : Result Text Fault) (o' : List ℕ) → Took s p f absent w n o r o' → SaysText false s p n o r o'
    command-bare q r o' y =
        says-put false s p n o r o' w y.len y.told
        (wrote_one false s p n o w y.len o' _
        (λ argument d. took-none argument d s p h.inside h.backslash c m h.seen h.command k f w i j (sym x ∙ e)
        (ap (λ (b : Bool). eqb f w && b) (sym z) ∙ q)) y.lays)

    module _ (q : (eqb f w && b) ≡ true) where
      is_open : (eqb f w && opens_at (see s w)) ≡ true
      is_open = ap (λ (b : Bool). eqb f w && b) (sym z) ∙ q

      pub brace-inside : w + 1 ≤ length s
      brace-inside = opens-inside s w (both_true (eqb f w) (opens_at (see s w)) is_open).1

      pub brace-next : f ≡ w
      brace-next = eqb-true f w (both_true (eqb f w) (opens_at (see s w)) is_open).0

      pub command-argument : (g : Meaning) (r : Result ℕ Fault) (a : ℕ) → g ≡ meaning_of (part s (p + 1) f) → r ≡ end_of (argument_end s (w + 1)) → r ≡ Ok a
          → SaysText false s p n o (Ok (text.Argument g f (w + 1) a)) o
      command-argument g r a u v y = (by (argument_end s (w + 1)) refl (sym v ∙ y) (end-inside s (w + 1) brace-inside), u, refl)
        where
          less : (x y : ℕ) → suc x ≡ suc y → x ≡ y
          less x y e = omega (arith, e)

          by : (O : OutOf Part) → argument_end s (w + 1) ≡ O → end_of O ≡ Ok a → ArgumentEnds (length s) (w + 1) O → (argument : Reader) (d : ℕ)
              → turns argument false d s p ≡ opened argument false d s p f (w + 1) a
          by (ok e₁ xs) q₁ r₁ in₁ argument d =
              took-argument argument d s p h.inside h.backslash c m h.seen h.command k f w i j (sym x ∙ e) is_open a xs
              (q₁ ∙ ap (λ (b : ℕ). ok b xs) (less e₁ a (ap place_of r₁)))
          by (again e₁ xs b₁) q₁ r₁ in₁ argument d = absurd in₁
          by (bad f₁) q₁ r₁ in₁ argument d = absurd (omega (arith, ap place_of r₁))

      pub command-endless : (r : Result ℕ Fault) (g : Fault) → r ≡ end_of (argument_end s (w + 1)) → r ≡ Err g
          → SaysText false s p n o (Err g) o
      command-endless r g v y argument d = by (argument_end s (w + 1)) refl (sym v ∙ y)
        where
          by : (O : OutOf Part) → argument_end s (w + 1) ≡ O → end_of O ≡ Err g → turns argument false d s p ≡ bad g
          by (ok e₁ xs) q₁ r₁ = absurd (omega (arith, ap place_of r₁))
          by (again e₁ xs b₁) q₁ r₁ = absurd (omega (arith, ap place_of r₁))
          by (bad f₁) q₁ r₁ =
              stopped argument false d s p g
              (took-endless argument d s p h.inside h.backslash c m h.seen h.command k f w i j (sym x ∙ e) is_open g
              (q₁ ∙ ap (λ (b : Fault). bad b) (ap (fault_of g) r₁)))

-- ---- `backslash`

module _ (verb : Bool) (s : List ℕ) (p n : ℕ) (o : List ℕ) (l : p < length s) (b : get_or s p 0 ≡ 0x5C) {r : Option (ℕ × ℕ)} (h : r ≡ see s (p + 1)) where
  past : r ≡ None → length s ≤ p + 1
  past e = subst (λ (v : Option (ℕ × ℕ)). Inside s (p + 1) v) (sym h ∙ e) (seeing.see-inside s (p + 1))

  pub ends-verb : r ≡ None → verb ≡ true → (k : ℕ) (o' : List ℕ) → Lays n (0x5C ∷ []) o k o' → SaysText verb s p n o (Ok (text.Put (p + 1) k)) o'
  ends-verb e v k o' y =
      says-as true verb s p n o (Ok (text.Put (p + 1) k)) o' (sym v)
      (wrote_one true s p n o (p + 1) k o' (0x5C ∷ []) (λ argument d. slash-end-verb argument d s p l b (past e)) y)

  pub ends-refused : r ≡ None → verb ≡ false → SaysText verb s p n o (Err (fault_at UnexpectedEof (p + 1))) o
  ends-refused e v =
      says-as false verb s p n o (Err (fault_at UnexpectedEof (p + 1))) o (sym v)
      (λ argument d. stopped argument false d s p _ (slash-end argument d s p l b (past e)))

  module _ {c m : ℕ} (e : r ≡ Some (c, m)) {t : Bool} (x : t ≡ is_escape verb c) where
    seen : see s (p + 1) ≡ Some (c, m)
    seen = sym h ∙ e

    pub char-next : (p + 1 < m) × (m ≤ length s)
    char-next = seeing.see-ahead s (p + 1) c m seen

    pub escapes : t ≡ true → (k : ℕ) (o' : List ℕ) → Lays n (part s (p + 1) m) o k o' → SaysText verb s p n o (Ok (text.Put m k)) o'
    escapes g k o' y = wrote_one verb s p n o m k o' (part s (p + 1) m) (λ argument d. slash-escape argument d s p l b c m seen verb (sym x ∙ g)) y

    pub stands : t ≡ false → verb ≡ true → (k : ℕ) (o' : List ℕ) → Lays n (0x5C ∷ []) o k o' → SaysText verb s p n o (Ok (text.Put (p + 1) k)) o'
    stands g v k o' y =
        says-as true verb s p n o (Ok (text.Put (p + 1) k)) o' (sym v)
        (wrote_one true s p n o (p + 1) k o' (0x5C ∷ []) (λ argument d. slash-verb argument d s p l b c m seen
        (ap (λ (w : Bool). is_escape w c) (sym v) ∙ sym x ∙ g)) y)

    pub behind : t ≡ false → verb ≡ false → Behind s p c m
    behind g v = record {
      inside = l;
      backslash = b;
      seen = seen;
      from = omega (arith, char-next.0);
      to = char-next.1;
      command = ap (λ (w : Bool). is_escape w c) (sym v) ∙ sym x ∙ g;
    }

pub begins-so : (c : ℕ) {w t : Bool} → w ≡ is_whitespace c → w ≡ false → t ≡ is_control c → t ≡ false → begins c ≡ true
begins-so c h e k f = rw (sym h ∙ e, sym k ∙ f) refl

-- ---- `text_at`

-- a sign x that is one unless the field is verbatim
pub sign-tests : (x b : ℕ) (verb : Bool) → (eqb b x && not verb) ≡ true → (b ≡ x) × (verb ≡ false)
sign-tests x b verb h = let y = both_true (eqb b x) (not verb) h in (eqb-true b x y.0, not-true verb y.1)

pub no_sign : (x b : ℕ) (verb : Bool) → (eqb b x && not verb) ≡ false → b ≡ x → verb ≡ true
no_sign x b verb h e = by verb (ap (λ (w : Bool). w && not verb) (sym (eq-eqb b x e)) ∙ h)
  where
    by : (v : Bool) → not v ≡ false → v ≡ true
    by true h = refl
    by false h = sym h

-- a place past the end has no sign
none-there : (s : List ℕ) (i : ℕ) → length s ≤ i → get_or s i 0 ≡ 0
none-there [] i h = refl
none-there (b ∷ s) zero h = absurd (omega (arith, h))
none-there (b ∷ s) (suc i) h = none-there s i (omega (arith, h))

pub no-sign-there : (verb : Bool) (s : List ℕ) (i : ℕ) → length s ≤ i → false ≡ is_sign verb (get_or s i 0)
no-sign-there verb s i h = rw (none-there s i h) refl

pub sign-inside : (verb : Bool) (s : List ℕ) (i : ℕ) → is_sign verb (get_or s i 0) ≡ true → i < length s
sign-inside verb s i h = by (ltb i (length s)) refl
  where
    by : (w : Bool) → ltb i (length s) ≡ w → i < length s
    by true e = ltb-true i (length s) e
    by false e =
        let z : ◌≡◌ {A = ℕ} 0 1 = ap (λ (w : Bool). cond w 1 0) (no-sign-there verb s i (ltb-false i (length s) e) ∙ h) in
        absurd (omega (arith, z))

pub ordinary : (verb : Bool) (b : ℕ) → is_sign verb b ≡ false → Ordinary verb b
ordinary verb b h =
    let x = both_false (eqb b 0x7B || eqb b 0x7D) (eqb b 0x24 && not verb) h in
    let y = both_false (eqb b 0x7B) (eqb b 0x7D) x.0 in
    (eqb-false b 0x7B y.0, eqb-false b 0x7D y.1, no_sign 0x24 b verb x.1)

-- which sign a byte is
pub sign-dollar : (verb : Bool) (b : ℕ) → is_sign verb b ≡ true → b ≡ 0x24 → verb ≡ false
sign-dollar verb b h e = not-true verb (sym (ap (is_sign verb) e) ∙ h)

pub sign-closing : (verb : Bool) (b : ℕ) → is_sign verb b ≡ true → (b ≡ 0x7B → ⊥) → (b ≡ 0x24 → ⊥) → b ≡ 0x7D
sign-closing verb b h x y = by (eqb b 0x7D) refl
  where
    by : (w : Bool) → eqb b 0x7D ≡ w → b ≡ 0x7D
    by true e = eqb-true b 0x7D e
    by false e =
        let z : false ≡ true = sym (rw (ne_eqb b 0x7B x, e, ne_eqb b 0x24 y) refl) ∙ h in
        let w : ◌≡◌ {A = ℕ} 0 1 = ap (λ (v : Bool). cond v 1 0) z in
        absurd (omega (arith, w))

-- where text does not end, and where it does
pub not-ends : (verb : Bool) (b : ℕ) → ends_text verb b ≡ false → Ordinary verb b × (b ≡ 0x5C → ⊥)
not-ends verb b h = let x = both_false (eqb b 0x5C) (is_sign verb b) h in (ordinary verb b x.1, eqb-false b 0x5C x.0)

pub ends-not : (verb : Bool) (b : ℕ) → ends_text verb b ≡ true → Ordinary verb b → (b ≡ 0x5C → ⊥) → ⊥
ends-not verb b h k n = by (sign-tests 0x24 b verb (sym (rw (ne_eqb b 0x5C n, ne_eqb b 0x7B k.0, ne_eqb b 0x7D k.1) refl) ∙ h))
  where
    by : (b ≡ 0x24) × (verb ≡ false) → ⊥
    by e = let z : ◌≡◌ {A = ℕ} 0 1 = ap (λ (w : Bool). cond w 0 1) (sym (k.2 e.0) ∙ e.1) in omega (arith, z)

-- text that is not at its end goes on
pub grows_some : (verb : Bool) (s : List ℕ) (p n q l : ℕ) → Grows (length s) 0 p n q l → (q < length s → ends_text verb (get_or s q 0) ≡ true)
    → p < length s → Ordinary verb (get_or s p 0) → (get_or s p 0 ≡ 0x5C → ⊥) → Grows (length s) 1 p n q l
grows_some verb s p n q l g e i k h = record { at = by (eqb p q) refl; inside = g.inside; text = g.text }
  where
    by : (w : Bool) → eqb p q ≡ w → p + 1 ≤ q
    by true x =
        let same = eqb-true p q x in
        absurd (ends-not verb (get_or s p 0) (ap (λ (j : ℕ). ends_text verb (get_or s j 0)) same ∙ e (omega (arith, same, i))) k h)
    by false x = let other = eqb-false p q x in omega (arith, g.at, other)
