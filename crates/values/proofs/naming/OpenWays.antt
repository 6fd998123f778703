-- Whether the use of a name is allowed.
--     path-any                              `on_path` is the library's search of a list for an item
--     limit-deep, limit-many, limit-none    `limits`
--     open-cyclic, open-definition, open-month, open_unknown        `may_open`
--     has, none-of                          what an option has, where what is in it is known; and that it is empty
-- Assumes nothing.
use Rattle.std.specs.Prelude.{Option, Some, None, Result, Ok, Err, ⊤}
use Rattle.row.specs.declared.fault.Reason.{Reason}
use Rattle.values.specs.declared.elements.Meaning.{Meaning}
use Prim.Native.Nat.{ℕ, zero, suc, ◌≤◌, ◌<◌}
use native.Mathlib.Omega.{arith}
use mathlib.Core.Path.{◌≡◌, refl, ap, ◌∙◌}
use mathlib.Core.Bool.{true, false}
use mathlib.Core.List.{List, [], ◌∷◌}
use lib.Dec.{eqb}
use borrow.Author.Tests.{lt-ltb, le-ltb}
use Rattle.std.specs.List.{list_any}
use Rattle.std.proofs.lemmas.Bool.Decides.{nat_tests}
use Rattle.row.specs.declared.fault.Reason.TheVariants.{UnknownAbbreviation, Cyclic, TooDeep, TooManyNames}
use Rattle.row.specs.Limits.{most_names}
use Rattle.values.specs.declared.elements.Meaning.TheVariants as meaning
use Rattle.values.specs.Field.{on_path}
use Rattle.values.specs.Uses.{limits, allowed_of}

-- ---- definitions that are being resolved

same : (i j : ℕ) → eqb j i ≡ eqb i j
same i j = search (arith, nat_tests)

pub path-any : (i : ℕ) (path : List ℕ) → list_any (λ j. eqb j i) path ≡ on_path i path
unfolding on_path
path-any i [] = refl
path-any i (j ∷ path) = rw (same i j, path-any i path)

-- ---- depth and number

pub limit-deep : (left names : ℕ) → left ≡ 0 → Err TooDeep ≡ limits left names
limit-deep left names e = rw e

pub limit-many : (left names : ℕ) → (left ≡ 0 → ⊥) → most_names ≤ names → Err TooManyNames ≡ limits left names
limit-many zero names n h = absurd (n refl)
limit-many (suc left) names n h = rw (le-ltb names most_names h)

pub limit-none : (left names : ℕ) → (left ≡ 0 → ⊥) → names < most_names → Ok tt ≡ limits left names
limit-none zero names n h = absurd (n refl)
limit-none (suc left) names n h = rw (lt-ltb names most_names h)

-- ---- one use

module _ (m : Option Meaning) (path : List ℕ) (left names : ℕ) where
  pub open-cyclic : (i : ℕ) → m ≡ Some (meaning.Definition i) → on_path i path ≡ true → Err Cyclic ≡ allowed_of m path left names
  open-cyclic i e t = rw (e, t)

  pub open-definition : (i : ℕ) → m ≡ Some (meaning.Definition i) → on_path i path ≡ false → (r : Result ⊤ Reason) → r ≡ limits left names
      → r ≡ allowed_of m path left names
  open-definition i e t r h = rw (e, t) h

  pub open-month : (a b : ℕ) → m ≡ Some (meaning.Month a b) → (r : Result ⊤ Reason) → r ≡ limits left names → r ≡ allowed_of m path left names
  open-month a b e r h = rw e h

  pub open_unknown : m ≡ None → Err UnknownAbbreviation ≡ allowed_of m path left names
  open_unknown e = rw e

-- what an option has, where what is in it is known
pub has : {A : Type 0} {x : Option A} {a b : A} → x ≡ Some a → a ≡ b → x ≡ Some b
has p q = p ∙ ap Some q

pub none-of : {A : Type 0} (x : Option A) → ((a : A) → x ≡ Some a → ⊥) → x ≡ None
none-of None h = refl
none-of (Some a) h = absurd (h a refl)
