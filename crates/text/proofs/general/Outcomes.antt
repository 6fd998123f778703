-- What a contract settles about the outcome of a call, the contract being the one that the check reads off the source.
-- For `Unique.antt` of every crate.
--     Both        a relation holds between any two outcomes that the contract allows
--     One         any two outcomes that the contract allows have the same result
-- Assumes nothing.
use Prim.Native.Nat.{ℕ}
use mathlib.Core.Path.{◌≡◌}
use mathlib.Core.List.{List}
use contract.Lifetimes.{Lfts}
use borrow.Fn.Kinds.{ParamKind, ResultKind, Out, Dens, res_t, ended_of}
use denote.Triple.Clauses.{AtExit}

-- `same` holds of any two outcomes that the contract allows: of their results, and of what they leave behind the lent references
abbrev pub Both : (n : ℕ) (ps : List (ParamKind n)) (r : ResultKind n) → Out n ps r →
    ((κs : Lfts n) → (res_t r κs).Denot → AtExit (ended_of n ps r) κs → (res_t r κs).Denot → AtExit (ended_of n ps r) κs → Type 0) → Type 0
Both n ps r allowed same =
    (κs : Lfts n) (a : Dens κs ps) (x y : (res_t r κs).Denot) (s t : AtExit (ended_of n ps r) κs) →
    allowed κs a x s → allowed κs a y t → same κs x s y t

-- any two outcomes that the contract allows have the same result
abbrev pub One : (n : ℕ) (ps : List (ParamKind n)) (r : ResultKind n) → Out n ps r → Type 0
One n ps r allowed = Both n ps r allowed (λ κs x s y t. x ≡ y)
