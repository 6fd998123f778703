-- What a command writes: for the functions of src/execute.rt.
--     leads                                      what `execute_before` writes
--     runs_as, as-from, copyright, unknown       the ways through `execute_command`
--     bare-as, bare-unknown                      the ways through `execute_bare`
--     meaning-sane                               what these functions require of a meaning holds of every meaning in the list
-- Assumes nothing.
use Rattle.std.proofs.Common.{ℕ, ◌≤◌, arith, ◌≡◌, refl, sym, ap, subst, ◌∙◌, Bool, true, false, cond, ◌&&◌, List, [], ◌∷◌, ◌++◌, append_assoc, length, leb, leb-true}
use Rattle.text.specs.Utf8.{octets, is_scalar}
use Rattle.text.specs.Scan.{part}
use Rattle.text.proofs.general.Tests.{both_true}
use Rattle.command.specs.declared.meaning.Meaning.{Meaning}
use Rattle.command.specs.declared.meaning.Meaning.TheVariants.{Itself, Letter, Accent, Slash, Copyright, Hyphenation, Unknown}
use Rattle.command.specs.Stack.{Lays}
use Rattle.text.specs.Strings.{utf8}
use Rattle.text.proofs.general.Parts.{length_part}
use Rattle.text.specs.SameBytes.{same_bytes}
use Rattle.command.specs.Commands.{CommandRow, commands, meaning_in, meaning_of}
use Rattle.command.specs.Execute.{executed, given, absent, leading, Sane}
use Rattle.command.proofs.stacks.LaysLaws.{lays-as, lays-on, lays-still}

-- ---- before an argument

pub leads : (n : ℕ) (name o : List ℕ) (k k' : Meaning) (r : ℕ) (o' : List ℕ) → k ≡ k' → Lays n (leading name k') o r o'
    → Lays n (leading name k) o r o'
leads n name o k k' r o' e h = rw e h

pub leads-unknown : (n : ℕ) (name o : List ℕ) (k : Meaning) (r₁ : ℕ) (o₁ : List ℕ) (r₂ : ℕ) (o₂ : List ℕ) (r : ℕ) (o' : List ℕ) → k ≡ Unknown
    → Lays n (0x5C ∷ []) o r₁ o₁ → Lays r₁ name o₁ r₂ o₂ → Lays r₂ (0x7B ∷ []) o₂ r o' → Lays n (leading name k) o r o'
leads-unknown n name o k r₁ o₁ r₂ o₂ r o' e x y z =
    leads n name o k Unknown r o' e
    (lays-on n ((0x5C ∷ []) ++ name) (0x7B ∷ []) o r₂ o₂ r o' (lays-on n (0x5C ∷ []) name o r₁ o₁ r₂ o₂ x y) z)

-- ---- with an argument, which stands from `from` to `to` behind what the command writes before it

module _ (name : List ℕ) (m : Meaning) (o : List ℕ) (at from to : ℕ) (af : at ≤ from) (ft : from ≤ to) (l : to ≤ length o)
    (q : part o at from ≡ leading name m) where
  abbrev Executes : ℕ → List ℕ → Type 0
  Executes r o' = Lays at (executed name (given (part o from to)) m) o r o'

  pub runs_as : (k : Meaning) (w : List ℕ) (r : ℕ) (o' : List ℕ) → m ≡ k → w ≡ executed name (given (part o from to)) k → Lays at w o r o' → Executes r o'
  runs_as k w r o' e h x = lays-as at w _ o r o' (h ∙ sym (ap (executed name (given (part o from to))) e)) x

  pub no_lead : (k : Meaning) → m ≡ k → leading name k ≡ [] → from ≡ at
  no_lead k e n = omega (arith, af, length_part o at from af (omega (arith, ft, l)), ap length (q ∙ ap (leading name) e ∙ n))

  -- a command that writes nothing before its argument may write over it
  pub as-from : (k : Meaning) (w : List ℕ) (r : ℕ) (o' : List ℕ) → m ≡ k → leading name k ≡ [] → w ≡ executed name (given (part o from to)) k
      → Lays from w o r o' → Executes r o'
  as-from k w r o' e n h x = runs_as k w r o' e h (subst (λ (i : ℕ). Lays i w o r o') (no_lead k e n) x)

  joined : Lays at (leading name m ++ part o from to) o to o
  joined =
      lays-as at (part o at from ++ part o from to) _ o to o (ap (λ (t : List ℕ). t ++ part o from to) q)
      (lays-on at (part o at from) (part o from to) o from o to o (lays-still o at from af (omega (arith, ft, l))) (lays-still o from to ft l))

  pub copyright : m ≡ Copyright → Executes to o
  copyright e =
      runs_as Copyright (octets 0xA9 ++ part o from to) to o e refl
      (lays-as at (leading name m ++ part o from to) _ o to o (ap (λ (k : Meaning). leading name k ++ part o from to) e) joined)

  pub unknown : (r : ℕ) (o' : List ℕ) → m ≡ Unknown → Lays to (0x7D ∷ []) o r o' → Executes r o'
  unknown r o' e x =
      runs_as Unknown ((leading name m ++ part o from to) ++ 0x7D ∷ []) r o' e
      (ap (λ (k : Meaning). (leading name k ++ part o from to) ++ 0x7D ∷ []) e ∙ shape name (part o from to) (0x7D ∷ []))
      (lays-on at (leading name m ++ part o from to) (0x7D ∷ []) o to o r o' joined x)
    where
      shape : (n t v : List ℕ) → ((0x5C ∷ n ++ 0x7B ∷ []) ++ t) ++ v ≡ 0x5C ∷ n ++ 0x7B ∷ t ++ v
      shape n t v = ap (λ (u : List ℕ). (0x5C ∷ u) ++ v) (append_assoc n (0x7B ∷ []) t)

-- ---- without an argument

pub bare-as : (name : List ℕ) (m : Meaning) (o : List ℕ) (at : ℕ) (k : Meaning) (w : List ℕ) (r : ℕ) (o' : List ℕ) → m ≡ k
    → w ≡ executed name absent k
    → Lays at w o r o' → Lays at (executed name absent m) o r o'
bare-as name m o at k w r o' e h x = lays-as at w _ o r o' (h ∙ sym (ap (executed name absent) e)) x

pub bare-unknown : (name : List ℕ) (m : Meaning) (o : List ℕ) (at r₁ : ℕ) (o₁ : List ℕ) (r₂ : ℕ) (o₂ : List ℕ) (r : ℕ) (o' : List ℕ) → m ≡ Unknown
    → Lays at (0x5C ∷ []) o r₁ o₁ → Lays r₁ name o₁ r₂ o₂ → Lays r₂ (0x20 ∷ []) o₂ r o' → Lays at (executed name absent m) o r o'
bare-unknown name m o at r₁ o₁ r₂ o₂ r o' e x y z =
    bare-as name m o at Unknown _ r o' e refl
    (lays-on at ((0x5C ∷ []) ++ name) (0x20 ∷ []) o r₂ o₂ r o' (lays-on at (0x5C ∷ []) name o r₁ o₁ r₂ o₂ x y) z)

-- ---- the list's meanings are sane: one computed test

abbrev sane : Meaning → Bool
sane Itself = true
sane (Letter c) = is_scalar c && leb c 0xFFFF
sane (Accent m) = is_scalar m && leb m 0x7FF
sane Slash = true
sane Copyright = true
sane Hyphenation = true
sane Unknown = true

abbrev all_sane : List CommandRow → Bool
all_sane [] = true
all_sane (r ∷ rs) = sane r.means && all_sane rs

is-sane : (m : Meaning) → sane m ≡ true → Sane m
is-sane Itself t = tt
is-sane (Letter c) t = let h = both_true (is_scalar c) (leb c 0xFFFF) t in (h.0, leb-true c 0xFFFF h.1)
is-sane (Accent m) t = let h = both_true (is_scalar m) (leb m 0x7FF) t in (h.0, leb-true m 0x7FF h.1)
is-sane Slash t = tt
is-sane Copyright t = tt
is-sane Hyphenation t = tt
is-sane Unknown t = tt

in-sane : (rs : List CommandRow) (name : List ℕ) → all_sane rs ≡ true → Sane (meaning_in rs name)
unfolding meaning_in
in-sane [] name t = tt
in-sane (r ∷ rs) name t =
    let h = both_true (sane r.means) (all_sane rs) t in
    by (same_bytes (utf8 r.name) name) (is-sane r.means h.0) (in-sane rs name h.1)
  where
    by : (w : Bool) → Sane r.means → Sane (meaning_in rs name) → Sane (cond w r.means (meaning_in rs name))
    by true a b = a
    by false a b = b

pub meaning-sane : (name : List ℕ) → Sane (meaning_of name)
unfolding commands is_scalar
meaning-sane name = in-sane commands name refl
