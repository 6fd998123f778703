-- Refusals [01:Numbers a caller can get]: what every call says of them.
--     number_of        01's table
--     fault_at         a refusal at an empty place
--     nowhere          a refusal without a place of its own, which is at 0..0
--     Answered         the call gives an answer over some lent output
-- Which of them a call can answer is a theorem beside the call's contract: `Refusals` of the crates above.
-- Assumes nothing.
use Rattle.std.specs.Prelude.{ℕ, List}
use Rattle.row.specs.declared.fault.Reason.{Reason}
use Rattle.row.specs.declared.fault.Reason.TheVariants.{TooLong, NotUtf8, UnexpectedEof, ExpectedIdentifier}
use Rattle.row.specs.declared.fault.Reason.TheVariants.{ExpectedOpeningBrace, ExpectedClosingBrace, ExpectedComma}
use Rattle.row.specs.declared.fault.Reason.TheVariants.{ExpectedQuotationMark, ExpectedEquals, UnexpectedDecimalPoint}
use Rattle.row.specs.declared.fault.Reason.TheVariants.{UnexpectedClosingBrace, UnknownAbbreviation, Cyclic, TooDeep}
use Rattle.row.specs.declared.fault.Reason.TheVariants.{TooManyNames, NoRoom, BadRows}
use Rattle.row.specs.declared.fault.Fault.{Fault}

abbrev pub number_of : Reason → ℕ
number_of TooLong = 1
number_of NotUtf8 = 2
number_of UnexpectedEof = 3
number_of ExpectedIdentifier = 4
number_of ExpectedOpeningBrace = 5
number_of ExpectedClosingBrace = 6
number_of ExpectedComma = 7
number_of ExpectedQuotationMark = 8
number_of ExpectedEquals = 9
number_of UnexpectedDecimalPoint = 10
number_of UnexpectedClosingBrace = 11
number_of UnknownAbbreviation = 12
number_of Cyclic = 13
number_of TooDeep = 14
number_of TooManyNames = 15
number_of NoRoom = 16
number_of BadRows = 17

abbrev pub fault_at : Reason → ℕ → Fault
fault_at reason p = record { reason = reason; start = p; end = p }

abbrev pub nowhere : Reason → Fault
nowhere reason = fault_at reason 0

-- over some lent output b, the call answers a and leaves b'
abbrev pub Answered : {A : Type 0} → (List ℕ → A → List ℕ → Type 0) → A → Type 0
Answered call a = (b : List ℕ) × (b' : List ℕ) × call b a b'
