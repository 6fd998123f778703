-- The ways through `content` of src/parse.rt.
--     turn-again, sign-..                      a turn that goes on; one of `sign`
--     turn-done, turn-refused                  a turn of `text_at`
--     turn-argument, turn_stopped              a turn with an argument
--     ahead_none, ahead-on, ready_on           bounds
-- Assumes nothing.
use Rattle.std.proofs.Common.{ℕ, ◌+◌, arith, ◌≡◌, refl, sym, ap, subst, ◌∙◌, Bool, List, [], ◌∷◌, ◌++◌, append-nil, length, take}
use Rattle.std.specs.Prelude.{Result, Ok, Err}
use Rattle.turn.specs.declared.turn.Text.{Text}
use Rattle.text.specs.Scan.{part}
use Rattle.row.specs.declared.fault.Fault.{Fault}
use Rattle.raw.specs.Reader.{OutOf, ok, again, bad, more}
use Rattle.command.specs.declared.meaning.Meaning.{Meaning}
use Rattle.command.specs.Commands.{meaning_of}
use Rattle.command.proofs.stacks.LaysLaws.{lays-as}
use Rattle.literal.specs.declared.making.Making.{Making}
use Rattle.literal.specs.declared.making.Place.{Place}
use Rattle.turn.specs.declared.turn.Text.TheVariants as text
use Rattle.turn.specs.Content.{Part, put, Reader, State, step, steps, ran}
use Rattle.literal.specs.Inner.{HoldsState, Goes, SaysContent, SaysSign, Onto, SaysArgument, Further, PutsText}
use Rattle.literal.specs.Inner.{AheadState, ReadyContent, from, in_argument, whole_text}
use Rattle.turn.specs.Turns.{SaysText, concat, turns}
use Rattle.literal.proofs.ways.StepWays.{goes-puts}

-- ---- parts before other parts

steps-append : (xs : List Part) (σ : State) (ys : List Part) → steps σ (xs ++ ys) ≡ steps (steps σ xs) ys
unfolding steps
steps-append [] σ ys = refl
steps-append (x ∷ xs) σ ys = steps-append xs (step σ x) ys

module _ (place : Place) (xs : List Part) (m : Making) (o b : List ℕ) (m₁ : Making) (o₁ b₁ : List ℕ) (g : Goes place xs m o b m₁ o₁ b₁) where
  goes_on : (ys : List Part) (m₂ : Making) (o₂ b₂ : List ℕ) → Goes place ys m₁ o₁ b₁ m₂ o₂ b₂ → Goes place (xs ++ ys) m o b m₂ o₂ b₂
  goes_on ys m₂ o₂ b₂ h t₀ ps b₀ σ held =
      subst (λ (τ : State). HoldsState place t₀ ps b₀ τ m₂ o₂ b₂) (sym (steps-append xs σ ys)) (h t₀ ps b₀ (steps σ xs) (g t₀ ps b₀ σ held))

  -- an answer that is right for the rest of the content is right for the whole
  says-more : (out : OutOf Part) (r : Result Making Fault) (o₂ b₂ : List ℕ) → SaysContent place out m₁ o₁ b₁ r o₂ b₂ → SaysContent place (more xs out) m o b r o₂ b₂
  says-more (ok q ys) (Ok m₂) o₂ b₂ h = (h.0, goes_on ys m₂ o₂ b₂ h.1)
  says-more (ok q ys) (Err f) o₂ b₂ h = h
  says-more (again q ys a) (Ok m₂) o₂ b₂ h = (h.0, goes_on ys m₂ o₂ b₂ h.1)
  says-more (again q ys a) (Err f) o₂ b₂ h = h
  says-more (bad g₁) (Ok m₂) o₂ b₂ h = h
  says-more (bad g₁) (Err f) o₂ b₂ h = h

-- one text behind the others
goes-put : (place : Place) (w : List ℕ) (e : ℕ) (m : Making) (o b : List ℕ) (m' : Making) (o' : List ℕ) → PutsText w e m o m' o'
    → Goes place (put w ∷ []) m o b m' o' b
unfolding concat
goes-put place w e m o b m' o' h =
    goes-puts place m o b (e + 1) m'.len m' o' (subst (λ (n : ℕ). Further m (e + 1) n m') (sym h.0.len) h.0) (w ∷ [])
    (lays-as m.len w (w ++ []) o m'.len o' (sym (append-nil w)) h.1)

-- ---- a turn that goes on, and one of `sign`, which answered r

module _ (place : Place) (argument : Reader) (verb : Bool) (s : List ℕ) (m : Making) (o b : List ℕ) where
  pub turn-again : (m₁ : Making) (o₁ b₁ : List ℕ) → Onto place verb s m o b m₁ o₁ b₁ → (r₂ : Result Making Fault) (o₂ b₂ : List ℕ)
      → SaysContent place (from argument verb s m₁) m₁ o₁ b₁ r₂ o₂ b₂ → SaysContent place (from argument verb s m) m o b r₂ o₂ b₂
  turn-again m₁ o₁ b₁ y r₂ o₂ b₂ k =
      subst (λ (out : OutOf Part). SaysContent place out m o b r₂ o₂ b₂) (sym (y.leads argument))
      (says-more place y.parts m o b m₁ o₁ b₁ y.goes (from argument verb s m₁) r₂ o₂ b₂ k)

  refusal : (f : Fault) (o₁ b₁ : List ℕ) → from argument verb s m ≡ bad f → SaysContent place (from argument verb s m) m o b (Err f) o₁ b₁
  refusal f o₁ b₁ e = subst (λ (out : OutOf Part). SaysContent place out m o b (Err f) o₁ b₁) (sym e) refl

  pub sign-again : {r : Result Making Fault} (o₁ b₁ : List ℕ) → SaysSign place verb s m o b r o₁ b₁ → {m₁ : Making} → r ≡ Ok m₁
      → Onto place verb s m o b m₁ o₁ b₁
  sign-again o₁ b₁ h e = rw e at h

  pub sign-refused : {r : Result Making Fault} (o₁ b₁ : List ℕ) → SaysSign place verb s m o b r o₁ b₁ → {f : Fault} → r ≡ Err f
      → SaysContent place (from argument verb s m) m o b (Err f) o₁ b₁
  sign-refused o₁ b₁ h {f} e = let k : SaysSign place verb s m o b (Err f) o₁ b₁ = rw e at h in refusal f o₁ b₁ (k argument)

-- ---- a turn of `text_at`, which answered r

module _ (place : Place) (argument : Reader) (verb : Bool) (s : List ℕ) (m : Making) (o b : List ℕ) (r : Result Text Fault) (o₁ : List ℕ)
    (h : SaysText verb s m.at m.len o r o₁) where
  answered : (r' : Result Text Fault) → r ≡ r' → SaysText verb s m.at m.len o r' o₁
  answered r' e = subst (λ (r : Result Text Fault). SaysText verb s m.at m.len o r o₁) e h

  pub turn-done : r ≡ Ok text.End → SaysContent place (from argument verb s m) m o b (Ok m) o₁ b
  unfolding steps
  turn-done e =
      let y = answered (Ok text.End) e in
      subst (λ (out : OutOf Part). SaysContent place out m o b (Ok m) o₁ b) (sym (y.0 argument m.braces))
      (subst (λ (l : List ℕ). SaysContent place (ok m.at []) m o b (Ok m) l b) (sym y.1) (refl, λ t₀ ps b₀ σ x. x))

  pub turn-refused : (f : Fault) → r ≡ Err f → SaysContent place (from argument verb s m) m o b (Err f) o₁ b
  turn-refused f e = refusal place argument verb s m o b f o₁ b (answered (Err f) e argument m.braces)

  pub meaning-told : (k : Meaning) (end a e : ℕ) → r ≡ Ok (text.Argument k end a e) → k ≡ meaning_of (part s (m.at + 1) end)
  meaning-told k end a e i = (answered (Ok (text.Argument k end a e)) i).1

  -- ---- a turn with an argument, which `argument` answered with r₂

  module _ (k : Meaning) (end a e : ℕ) (i : r ≡ Ok (text.Argument k end a e)) (r₂ : Result Making Fault) (o₂ : List ℕ)
      (y : SaysArgument (argument (take e s) a) (part s (m.at + 1) end) a e m o₁ r₂ o₂) where
    abbrev name : List ℕ
    name = part s (m.at + 1) end

    abbrev rest : OutOf Part
    rest = turns argument verb m.braces s (e + 1)

    told : SaysText verb s m.at m.len o (Ok (text.Argument k end a e)) o₁
    told = answered (Ok (text.Argument k end a e)) i

    -- over the bytes as they were before the step
    over : (r' : Result Making Fault) → r₂ ≡ r' → SaysArgument (argument (take e s) a) name a e m o r' o₂
    over r' j =
        subst (λ (l : List ℕ). SaysArgument (argument (take e s) a) name a e m l r' o₂) told.2
        (subst (λ (r : Result Making Fault). SaysArgument (argument (take e s) a) name a e m o₁ r o₂) j y)

    opens : (r₃ : Result Making Fault) (o₃ b₃ : List ℕ) → SaysContent place (ran a name (argument (take e s) a) (λ w. more (put w ∷ []) rest)) m o b r₃ o₃ b₃
        → SaysContent place (from argument verb s m) m o b r₃ o₃ b₃
    opens r₃ o₃ b₃ x = subst (λ (out : OutOf Part). SaysContent place out m o b r₃ o₃ b₃) (sym (told.0 argument m.braces)) x

    module _ (m₂ : Making) (r₃ : Result Making Fault) (o₃ b₃ : List ℕ) (x : SaysContent place (from argument verb s m₂) m₂ o₂ b r₃ o₃ b₃) where
      put_on : (w : List ℕ) → PutsText w e m o m₂ o₂ → SaysContent place (more (put w ∷ []) rest) m o b r₃ o₃ b₃
      put_on w p =
          says-more place (put w ∷ []) m o b m₂ o₂ b (goes-put place w e m o b m₂ o₂ p) rest r₃ o₃ b₃
          (subst (λ (out : OutOf Part). SaysContent place out m₂ o₂ b r₃ o₃ b₃)
          (ap (λ (d : ℕ). turns argument verb d s m₂.at) p.0.braces ∙ ap (λ (q : ℕ). turns argument verb m.braces s q) p.0.at)
          x)

      goes : (out : OutOf Part) → SaysArgument out name a e m o (Ok m₂) o₂
          → SaysContent place (ran a name out (λ w. more (put w ∷ []) rest)) m o b r₃ o₃ b₃
      goes (ok q xs) p = put_on (whole_text name a q xs) p
      goes (again q xs n) p = put_on (whole_text name a q xs) p
      goes (bad f) p = absurd p

      pub turn-argument : r₂ ≡ Ok m₂ → SaysContent place (from argument verb s m) m o b r₃ o₃ b₃
      turn-argument j = opens r₃ o₃ b₃ (goes (argument (take e s) a) (over (Ok m₂) j))

    stops : (f : Fault) (out : OutOf Part) → SaysArgument out name a e m o (Err f) o₂
        → SaysContent place (ran a name out (λ w. more (put w ∷ []) rest)) m o b (Err f) o₂ b
    stops f (ok q xs) p = absurd p
    stops f (again q xs n) p = absurd p
    stops f (bad g) p = p

    pub turn_stopped : (f : Fault) → r₂ ≡ Err f → SaysContent place (from argument verb s m) m o b (Err f) o₂ b
    turn_stopped f j = opens (Err f) o₂ b (stops f (argument (take e s) a) (over (Err f) j))

-- ---- bounds

pub ahead_none : (s : List ℕ) (place : Place) (m : Making) (o : List ℕ) → ReadyContent s place m o → AheadState (length s) 0 m m
ahead_none s place m o h = record {
  grows = record { at = omega arith; inside = h.text.place; text = omega arith };
  rows = omega arith;
  braces = omega arith;
  from = h.from;
  start = h.start;
}

pub ahead-on : (len v : ℕ) (m m₁ m₂ : Making) → AheadState len 0 m m₁ → AheadState len v m₁ m₂ → AheadState len 0 m m₂
ahead-on len v m m₁ m₂ h k = record {
  grows = record {
    at = omega (arith, h.grows.at, k.grows.at);
    inside = k.grows.inside;
    text = omega (arith, h.grows.text, k.grows.text);
  };
  rows = omega (arith, h.rows, k.rows);
  braces = omega (arith, h.braces, k.braces);
  from = k.from;
  start = k.start;
}

pub ready_on : (s : List ℕ) (place : Place) (v : ℕ) (m m₁ : Making) (o o₁ : List ℕ) → ReadyContent s place m o
    → AheadState (length s) v m m₁ → length o₁ ≡ length o → ReadyContent s place m₁ o₁
ready_on s place v m m₁ o o₁ h k e = record {
  literal = h.literal;
  text = record {
    place = k.grows.inside;
    room = omega (arith, h.text.room, k.grows.text, e);
  };
  from = k.from;
  start = k.start;
  braces = omega (arith, h.braces, k.braces);
  rows = omega (arith, h.rows, k.rows);
  value = omega (arith, h.value, k.grows.text);
  file = h.file;
}

-- what `argument` requires, wherever its command stands
pub ready-argument : (s : List ℕ) (place : Place) (m : Making) (o o₁ : List ℕ) → ReadyContent s place m o
    → length o₁ ≡ length o → ReadyContent s in_argument m o₁
ready-argument s place m o o₁ h e = record {
  literal = h.literal;
  text = record {
    place = h.text.place;
    room = omega (arith, h.text.room, e);
  };
  from = h.from;
  start = h.start;
  braces = h.braces;
  rows = h.rows;
  value = omega (arith, h.value);
  file = omega arith;
}
