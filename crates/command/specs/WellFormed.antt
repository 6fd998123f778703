-- What a command writes is UTF-8 where its name and its argument are, and has at most three octets more than both. The proof is `well-formed`
-- of proofs/WellFormed.antt.
-- Assumes nothing.
use Rattle.std.specs.Prelude.{ℕ, ◌+◌, ◌≤◌, List, length}
use Rattle.text.specs.Utf8.{Octets}
use Rattle.command.specs.Execute.{Argument, text_of, execute_command}

pub record WellFormed : Type 0 where
  pub text : (name : List ℕ) (arg : Argument) → Octets name → Octets (text_of arg) → Octets (execute_command name arg)
  pub short : (name : List ℕ) (arg : Argument) → length (execute_command name arg) ≤ length name + length (text_of arg) + 3
