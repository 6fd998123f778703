-- Definitions for the contracts of the inner readers: what a reader answers that finds o, and what it leaves in the lent numbers.
-- Nothing is said of the numbers after a refusal: `read` counts first, over no numbers, and writes second.
-- Assumes nothing.
use Rattle.row.specs.declared.fault.Fault.{Fault}
use Rattle.std.specs.Prelude.{ℕ, ◌+◌, ◌*◌, ◌≤◌, ◌<◌, max, ◌≡◌, List, length, get_or, Result, Ok, Err}
use Rattle.std.specs.declared.ops.ControlFlow.{ControlFlow}
use Rattle.std.specs.declared.ops.ControlFlow.TheVariants.{Continue, Break}
use Rattle.row.specs.Limits.{most_bytes}
use Rattle.row.specs.Row.{moved, overlay}
use Rattle.raw.specs.Reader.{Out, ok, again, bad}

-- the answer of a reader without rows
abbrev pub step_of : Out → Result ℕ Fault
step_of (ok q rs) = Ok q
step_of (again q rs a) = Ok q
step_of (bad f) = Err f

-- the answer of a reader whose first row would be row n
abbrev pub answer_of : Out → ℕ → Result (ℕ × ℕ) Fault
answer_of (ok q rs) n = Ok (q, n + length rs)
answer_of (again q rs a) n = Ok (q, n + length rs)
answer_of (bad f) n = Err f

-- the answer of one turn of a loop: the place, and the number of the next row
abbrev pub Turn : Type 0
Turn = ControlFlow (ℕ × ℕ) (ℕ × ℕ)

abbrev pub turn_of : Out → ℕ → Result Turn Fault
turn_of (ok q rs) n = Ok (Break (q, n + length rs))
turn_of (again q rs a) n = Ok (Continue (q, n + length rs))
turn_of (bad f) n = Err f

-- the rows of o, moved on by `base` places, are laid over the numbers b from row n on
abbrev pub RowsLaid : ℕ → Out → ℕ → List ℕ → List ℕ → Type 0
RowsLaid base (ok q rs) n b b' = b' ≡ overlay b n (moved base rs)
RowsLaid base (again q rs a) n b b' = b' ≡ overlay b n (moved base rs)
RowsLaid base (bad f) n b b' = Unit {0}

pub record Says (base : ℕ) (o : Out) (n : ℕ) (b : List ℕ) (r : Result (ℕ × ℕ) Fault) (b' : List ℕ) : Type 0 where
  pub told : r ≡ answer_of o n
  pub rows : RowsLaid base o n b b'

pub record SaysTurn (base : ℕ) (o : Out) (n : ℕ) (b : List ℕ) (r : Result Turn Fault) (b' : List ℕ) : Type 0 where
  pub told : r ≡ turn_of o n
  pub rows : RowsLaid base o n b b'

-- bounds, for the callers' arithmetic: from p a reader goes on by w at least, and not past the end of the text
abbrev pub Onward : ℕ → ℕ → ℕ → Result ℕ Fault → Type 0
Onward len w p (Ok q) = (p + w ≤ q) × (q ≤ max p len)
Onward len w p (Err f) = Unit {0}

-- these bounds for a reader with rows, which puts at most eight rows for each byte
abbrev pub Within : ℕ → ℕ → ℕ → ℕ → Result (ℕ × ℕ) Fault → Type 0
Within len w p n (Ok (q, m)) = (p + w ≤ q) × (q ≤ max p len) × (m + 8 * p ≤ n + 8 * q)
Within len w p n (Err f) = Unit {0}

-- these bounds for one turn of a loop: a turn after which the loop goes on has eaten v bytes at least
abbrev pub WithinTurn : ℕ → ℕ → ℕ → ℕ → ℕ → Result Turn Fault → Type 0
WithinTurn len v w p n (Ok (Continue (q, m))) = (p + v ≤ q) × (q ≤ max p len) × (m + 8 * p ≤ n + 8 * q)
WithinTurn len v w p n (Ok (Break (q, m))) = (p + w ≤ q) × (q ≤ max p len) × (m + 8 * p ≤ n + 8 * q)
WithinTurn len v w p n (Err f) = Unit {0}

-- what a reader requires that puts rows: a text of a file inside 01's limit, a place in it, and no more rows so far than that allows
pub record Ready (base len p n : ℕ) : Type 0 where
  pub file : base + len ≤ most_bytes
  pub place : p ≤ len
  pub rows : n ≤ 8 * (base + p) + 8

-- the same of a reader of a `Piece`, which keeps the file's limit itself: the place that is reached, and the rows so far
pub record ReadyAt (base len p n : ℕ) : Type 0 where
  pub place : p ≤ len
  pub rows : n ≤ 8 * (base + p) + 8

-- a word of ASCII
abbrev pub Ascii : List ℕ → Type 0
Ascii w = (k : ℕ) → k < length w → get_or w k 0 < 128
