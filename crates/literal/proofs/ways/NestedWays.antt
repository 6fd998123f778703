-- The ways through `argument` of src/parse.rt: the content of an argument, between `begin` and `finish`.
--     argument-deep, argument-refused, argument-done      what it answers
--     kept, ready-in, closes                              what `content` and `finish` require
-- Assumes nothing.
use Rattle.std.proofs.Common.{ℕ, zero, suc, ◌+◌, ◌-◌, ◌*◌, ◌≤◌, ◌<◌, arith, sub-one, ◌≡◌, refl, sym}
use Rattle.std.proofs.Common.{ap, subst, ◌∙◌, false, List, [], ◌++◌, append_assoc, length, take, length-append, take-take, length-take-le}
use Rattle.std.specs.Prelude.{Result, Ok, Err}
use lib.Seq.{take-append_seam}
use Rattle.text.specs.Scan.{part}
use Rattle.row.specs.declared.fault.Fault.{Fault}
use Rattle.row.specs.declared.fault.Reason.TheVariants.{TooDeep}
use Rattle.raw.specs.Reader.{OutOf, ok, again, bad}
use Rattle.chunk.specs.Format.{format_from, format_verbatim}
use Rattle.command.specs.declared.meaning.Meaning.{Meaning}
use Rattle.command.specs.Stack.{Lays}
use Rattle.command.specs.Execute.{leading}
use Rattle.command.proofs.stacks.LaysLaws.{lays-part}
use Rattle.literal.specs.declared.rows.Rows.{Rows}
use Rattle.literal.specs.declared.making.Making.{Making}
use Rattle.literal.specs.declared.making.Place.{Place}
use Rattle.turn.specs.Content.{Part, State, beginning, steps, refused_byte, content_by, inside}
use Rattle.literal.specs.Inner.{HoldsState, SaysContent, SaysArgument, PutsText, ArgumentBegun, ArgumentFinished, Closes}
use Rattle.literal.specs.Inner.{AheadState, ReadyContent, from, in_argument, whole_text}
use Rattle.turn.specs.Turns.{CommandSpans, turns}

-- ---- how deep it goes

inside-none : (s : List ℕ) (d p : ℕ) → d ≡ 0 → inside d s p ≡ bad (refused_byte TooDeep (p - 1))
unfolding inside
inside-none s zero p e = refl
inside-none s (suc d) p e = absurd (omega (arith, e))

inside-some : (s : List ℕ) (d p : ℕ) → (d ≡ 0 → ⊥) → inside d s p ≡ turns (inside (d - 1)) false 0 s p
unfolding inside content_by
inside-some s zero p e = absurd (e refl)
inside-some s (suc d) p e = ap (λ (n : ℕ). turns (inside n) false 0 s p) (sym (sub-one (suc d)))

pub argument-deep : (s name : List ℕ) (d p e : ℕ) (m : Making) (o o' : List ℕ) → d ≡ 0 → 1 ≤ p
    → SaysArgument (inside d s p) name p e m o (Err (record { reason = TooDeep; start = p - 1; end = p })) o'
argument-deep s name d p e m o o' h l =
    subst (λ (out : OutOf Part). SaysArgument out name p e m o (Err (record { reason = TooDeep; start = p - 1; end = p })) o')
    (sym (inside-none s d p h)) (ap (λ (n : ℕ). record { reason = TooDeep; start = p - 1; end = n }) (next p l))
  where
    next : (p : ℕ) → 1 ≤ p → p ≡ p - 1 + 1
    next p l = omega arith

-- ---- the content of an argument, from `begin` on

pub cut-length : (s : List ℕ) (to : ℕ) → to < length s → to ≡ length (take to s)
cut-length s to h = sym (length-take-le to s (omega (arith, h)))

module _ (s name : List ℕ) (k : Meaning) (d p e : ℕ) (some : d ≡ 0 → ⊥) (m : Making) (o : List ℕ) (i : Making) (o₁ : List ℕ)
    (begun : ArgumentBegun name k p m o i o₁) (r : Result Making Fault) (o₂ b₂ : List ℕ) (h : SaysContent in_argument (from (inside (d - 1)) false s i) i o₁ [] r o₂ b₂) where
  abbrev before : List ℕ
  before = take m.len o ++ leading name k

  said : (r' : Result Making Fault) → r ≡ r' → SaysContent in_argument (inside d s p) i o₁ [] r' o₂ b₂
  said r' q =
      subst (λ (out : OutOf Part). SaysContent in_argument out i o₁ [] r' o₂ b₂)
      (ap (λ (n : ℕ). turns (inside (d - 1)) false n s i.at) begun.braces ∙ ap (λ (n : ℕ). turns (inside (d - 1)) false 0 s n) begun.at
      ∙ sym (inside-some s d p some)) (subst (λ (r : Result Making Fault). SaysContent in_argument (from (inside (d - 1)) false s i) i o₁ [] r o₂ b₂) q h)

  -- ---- the content is refused

  pub argument-refused : (f : Fault) → r ≡ Err f → SaysArgument (inside d s p) name p e m o (Err f) o₂
  argument-refused f q = by (inside d s p) (said (Err f) q)
    where
      by : (out : OutOf Part) → SaysContent in_argument out i o₁ [] (Err f) o₂ b₂ → SaysArgument out name p e m o (Err f) o₂
      by (ok q xs) h = h
      by (again q xs n) h = h
      by (bad g) h = h

  -- ---- the content is read, and t holds it

  module _ (t : Making) (q : r ≡ Ok t) (l : m.len ≤ length o) where
    before-length : length before ≡ m.len + length (leading name k)
    before-length = omega (arith, length-append (take m.len o) (leading name k), length-take-le m.len o l)

    lead-at : i.len ≡ length before
    unfolding format_from
    lead-at = omega (arith, begun.holds.from, begun.holds.len)

    -- what the command wrote before its argument still stands there
    abbrev Kept : Type 0
    Kept = (m.len ≤ i.len) × (i.len ≤ t.from) × (t.from ≤ t.len) × (i.len ≤ length o₂ → part o₂ m.len i.len ≡ leading name k)

    kept_by : (σ : State) → HoldsState in_argument before [] [] σ t o₂ b₂ → Kept
    kept_by σ x =
        let chunk : i.len ≤ t.from = omega (arith, lead-at, x.from) in
        let last : t.from ≤ t.len = omega (arith, x.len) in
        let lays : Lays m.len (leading name k) o i.len o₂ = record {
          end = omega (arith, lead-at, before-length);
          text = sym (take-take i.len t.len o₂ (omega (arith, chunk, last)))
              ∙ ap (take i.len) (x.stack ∙ append_assoc before (format_verbatim σ.done) σ.text)
              ∙ ap (λ (n : ℕ). take n (before ++ (format_verbatim σ.done ++ σ.text))) lead-at
              ∙ take-append_seam before (format_verbatim σ.done ++ σ.text);
        } in
        (omega (arith, lead-at, before-length), chunk, last, λ n. lays-part m.len (leading name k) o i.len o₂ lays l n)

    kept_out : (out : OutOf Part) → SaysContent in_argument out i o₁ [] (Ok t) o₂ b₂ → Kept
    kept_out (ok q xs) x = kept_by (steps (beginning p) xs) (x.1 before [] [] (beginning p) begun.holds)
    kept_out (again q xs n) x = kept_by (steps (beginning p) xs) (x.1 before [] [] (beginning p) begun.holds)
    kept_out (bad g) x = absurd x

    pub kept : Kept
    kept = kept_out (inside d s p) (said (Ok t) q)

    module _ (z : b₂ ≡ []) (p' : ℕ) (u : p' ≡ p) (m' : Making) (o' : List ℕ) (finished : ArgumentFinished name k p' e m t o₂ m' o') where
      put-by : (q : ℕ) (xs : List Part) → HoldsState in_argument before [] [] (steps (beginning p) xs) t o₂ b₂ → PutsText (whole_text name p q xs) e m o m' o'
      put-by q xs x =
          let y = subst (λ (n : ℕ). ArgumentFinished name k n e m t o₂ m' o') u finished (take m.len o) q xs (length-take-le m.len o l)
          (subst (λ (b : List ℕ). HoldsState in_argument before [] [] (steps (beginning p) xs) t o₂ b) z x) in
          (y.0, record { end = y.0.len; text = ap (λ (n : ℕ). take n o') y.0.len ∙ y.1 })

      put-out : (out : OutOf Part) → SaysContent in_argument out i o₁ [] (Ok t) o₂ b₂ → SaysArgument out name p e m o (Ok m') o'
      put-out (ok q xs) x = put-by q xs (x.1 before [] [] (beginning p) begun.holds)
      put-out (again q xs n) x = put-by q xs (x.1 before [] [] (beginning p) begun.holds)
      put-out (bad g) x = absurd x

      pub argument-done : SaysArgument (inside d s p) name p e m o (Ok m') o'
      argument-done = put-out (inside d s p) (said (Ok t) q)

-- ---- bounds

pub room-now : {s : List ℕ} {place : Place} {m : Making} {o : List ℕ} → ReadyContent s place m o → m.len ≤ length o
room-now h = omega (arith, h.text.room, h.text.place)

pub room-lead : {s : List ℕ} {place : Place} {m : Making} {o : List ℕ} {end p to l n : ℕ} → ReadyContent s place m o
    → CommandSpans (length s) m.at end p to → l + (m.at + 1) ≤ m.len + end + 2 → n ≡ length o → l ≤ n
room-lead h x a e = omega (arith, h.text.room, x.0, x.1, x.2, x.3, a, e)

-- what `content` requires
pub ready-in : (s : List ℕ) (m i : Making) (o o₁ name : List ℕ) (k : Meaning) (end p to : ℕ) → ReadyContent s in_argument m o
    → CommandSpans (length s) m.at end p to → ArgumentBegun name k p m o i o₁ → i.len + (m.at + 1) ≤ m.len + end + 2 → i.rows.n ≡ 0
    → length o₁ ≡ length o → ReadyContent (take to s) in_argument i o₁
ready-in s m i o o₁ name k end p to h x begun a n e =
    let c = cut-length s to x.3 in
    record {
      literal = omega (arith, h.literal, c, x.3);
      text = record {
        place = omega (arith, begun.at, x.2, c);
        room = omega (arith, h.text.room, a, begun.at, x.0, x.1, x.3, c, e);
      };
      from = omega (arith, begun.holds.len);
      start = omega (arith, begun.holds.start, begun.at);
      braces = omega (arith, begun.braces);
      rows = omega (arith, n);
      value = omega (arith, h.value, a, begun.at, x.0, x.1, x.3, c);
      file = omega arith;
    }

-- what `finish` requires
pub closes : (s : List ℕ) (m i t : Making) (o o₂ : List ℕ) (end p to : ℕ) → ReadyContent s in_argument m o
    → CommandSpans (length s) m.at end p to → i.at ≡ p → i.len + (m.at + 1) ≤ m.len + end + 2 → m.len ≤ i.len → i.len ≤ t.from
    → t.from ≤ t.len → AheadState (length (take to s)) 0 i t → length o₂ ≡ length o → Closes s end to i.len m t o₂
closes s m i t o o₂ end p to h x a b f g l k e = record {
  name = x.0;
  from = omega (arith, x.1, x.2);
  inside = x.3;
  first = f;
  short = b;
  chunk = g;
  last = l;
  text = omega (arith, k.grows.text, k.grows.inside, cut-length s to x.3, a, x.1);
  room = omega (arith, h.text.room, e);
}

-- behind the closing brace
module _ (name : List ℕ) (p e len : ℕ) (m : Making) (o : List ℕ) (m' : Making) (o' : List ℕ) (a : m.at ≤ e) (l : e < len)
    (f : m.from ≤ m.len) (b : m.start ≤ m.at) (g : m'.len + 2 * m.at ≤ m.len + 2 * (e + 1)) where
  past : (w : List ℕ) → PutsText w e m o m' o' → AheadState len 1 m m'
  past w y = record {
    grows = record {
      at = omega (arith, y.0.at, a);
      inside = omega (arith, y.0.at, l);
      text = omega (arith, y.0.at, g);
    };
    rows = omega (arith, y.0.at, a, ap (λ (k : Rows). k.n) y.0.rows);
    braces = omega (arith, y.0.at, a, y.0.braces);
    from = omega (arith, y.0.from, y.0.len, f);
    start = omega (arith, y.0.start, y.0.at, a, b);
  }

  pub ahead_past : (out : OutOf Part) → SaysArgument out name p e m o (Ok m') o' → AheadState len 1 m m'
  ahead_past (ok q xs) y = past (whole_text name p q xs) y
  ahead_past (again q xs n) y = past (whole_text name p q xs) y
  ahead_past (bad h) y = absurd y
