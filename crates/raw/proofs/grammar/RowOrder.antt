-- The order of rows that 01's rules ask for: what may be awaited, and what a row of each kind leads to.
--     rules, awaiting, start             the order, and its points
--     Is, AwaitsElement, AwaitsItem      what is awaited
--     x-takes                            a row of the kind x, from what is awaited before it to what is awaited after it
-- Assumes nothing.
use Rattle.std.proofs.Common.{ℕ, ◌≡◌, refl, Bool, true, false, []}
use Rattle.row.specs.declared.form.Kind.{Kind}
use Rattle.row.specs.declared.form.Kind.TheVariants as kind
use Rattle.row.specs.Row.{Row, plain, kind_of}
use Rattle.row.specs.Rules.{Await, part, type, value, chunk, chunks, next, is_detail, run}
use Rattle.row.specs.Rules as awaits
use Rattle.row.proofs.Ruled.{ruled}
use Rattle.row.specs.Ruled.{Free, none, one}
use Rattle.raw.proofs.readers.Points.{Order, Point, at, Takes}

pub run_none : (a : Await) → run a [] ≡ a
unfolding run
run_none a = refl

abbrev pub rules : Order Row
rules = record { State = Await; run = run; run_none = run_none; run-append = ruled.run-append }

-- a point with e bytes eaten, n of them not taken, where P is awaited
abbrev pub awaiting : ℕ → ℕ → (Await → Type 0) → Point rules
awaiting e n P = at e n P

-- some point, for the laws of a reader that do not speak of points
abbrev pub start : Point rules
start = awaiting 0 2 Free

-- ---- what is awaited

-- b alone is awaited
pub data Is (b : Await) : Await → Type 0 where
  is-it : Is b b

-- a value's first literal or name, or another one
pub data AwaitsElement (f : Bool) : Await → Type 0 where
  first_chunk : AwaitsElement f (chunk f)
  next-chunk : AwaitsElement f (chunks f)

-- a part of the sequence, or another literal or name; and a field, where f is true
pub data AwaitsItem : Bool → Await → Type 0 where
  at_part : {f : Bool} → AwaitsItem f (part f)
  at-chunks : {f : Bool} → AwaitsItem f (chunks f)

pub part_free : {f : Bool} (a : Await) → AwaitsItem f a → Free a
part_free a (at_part {f}) = none f
part_free a (at-chunks {f}) = one f

-- what holds of b holds of whatever is b
pub is-in : (P : Await → Type 0) {b : Await} → P b → (a : Await) → Is b a → P a
is-in P x a is-it = x

-- ---- rows

take : {P P' : Await → Type 0} (k : Kind) → is_detail (kind_of k) 0 ≡ true → ((a : Await) → P a → P' (next a (kind_of k))) → Takes rules (plain k) P P'
unfolding run
take k d h = record { takes = λ a x y z. rw d (h a z) }

literal-next : (f : Bool) (a : Await) → AwaitsElement f a → Is (chunks f) (next a 6)
unfolding next
literal-next f a first_chunk = is-it
literal-next f a next-chunk = is-it

pub literal-takes : (f : Bool) → Takes rules (plain kind.Literal) (AwaitsElement f) (Is (chunks f))
literal-takes f = take kind.Literal refl (literal-next f)

name-next : (f : Bool) (a : Await) → AwaitsElement f a → Is (chunks f) (next a 7)
unfolding next
name-next f a first_chunk = is-it
name-next f a next-chunk = is-it

pub name-takes : (f : Bool) → Takes rules (plain kind.Name) (AwaitsElement f) (Is (chunks f))
name-takes f = take kind.Name refl (name-next f)

value-next : (f : Bool) (a : Await) → Is (value f) a → AwaitsElement f (next a 5)
unfolding next
value-next f a is-it = first_chunk

pub value-takes : (f : Bool) → Takes rules (plain kind.Value) (Is (value f)) (AwaitsElement f)
value-takes f = take kind.Value refl (value-next f)

field_next : (a : Await) → AwaitsItem true a → Is (value true) (next a 4)
unfolding next
field_next a at_part = is-it
field_next a at-chunks = is-it

pub field-takes : Takes rules (plain kind.FieldName) (AwaitsItem true) (Is (value true))
field-takes = take kind.FieldName refl field_next

definition-next : (a : Await) → Free a → Is (value false) (next a 8)
unfolding next
definition-next a (none f) = is-it
definition-next a (one f) = is-it

pub definition-takes : Takes rules (plain kind.DefinitionName) Free (Is (value false))
definition-takes = take kind.DefinitionName refl definition-next

preamble-next : (a : Await) → Free a → Free (next a 0)
unfolding next
preamble-next a (none f) = none false
preamble-next a (one f) = none false

pub preamble-takes : Takes rules (plain kind.Preamble) Free Free
preamble-takes = take kind.Preamble refl preamble-next

entry_next : (a : Await) → Free a → Is type (next a 1)
unfolding next
entry_next a (none f) = is-it
entry_next a (one f) = is-it

pub entry-takes : Takes rules (plain kind.Entry) Free (Is type)
entry-takes = take kind.Entry refl entry_next

type-next : (a : Await) → Is type a → Is awaits.key (next a 2)
unfolding next
type-next a is-it = is-it

pub type-takes : Takes rules (plain kind.EntryType) (Is type) (Is awaits.key)
type-takes = take kind.EntryType refl type-next

key-next : (a : Await) → Is awaits.key a → AwaitsItem true (next a 3)
unfolding next
key-next a is-it = at_part

pub key-takes : Takes rules (plain kind.Key) (Is awaits.key) (AwaitsItem true)
key-takes = take kind.Key refl key-next
