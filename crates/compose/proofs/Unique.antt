-- Each public contract allows one outcome only. This is said of the contract as the check reads it off the source, so that a contract
-- which said less would fail here.
-- Assumes nothing.
use mathlib.Core.Path.{◌≡◌, sym, ◌∙◌}
use contract.Lifetimes.{Lfts}
use Rattle.compose.proofs.table.Reads as table
use Rattle.compose.proofs.find.Reads as find
use Rattle.compose.proofs.compose.Reads as compose

pub one_table : (κs : Lfts 0) (a : _) (x y : _) (s t : _) → table.Post κs a x s → table.Post κs a y t → x ≡ y
one_table κs a x y s t p q = p ∙ sym q

pub one-find : (κs : Lfts 1) (a : _) (x y : _) (s t : _) → find.Post κs a x s → find.Post κs a y t → x ≡ y
one-find κs a x y s t p q = p ∙ sym q

pub one-compose : (κs : Lfts 0) (a : _) (x y : _) (s t : _) → compose.Post κs a x s → compose.Post κs a y t → x ≡ y
one-compose κs a x y s t p q = p ∙ sym q
