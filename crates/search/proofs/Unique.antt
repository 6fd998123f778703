-- Each public contract allows one outcome only. This is said of the contract as the check reads it off the source, so that a contract
-- which said less would fail here.
-- Assumes nothing.
use Rattle.std.proofs.Common.{◌≡◌, sym, ◌∙◌}
use contract.Lifetimes.{Lfts}
use Rattle.search.proofs.place.Reads as place

pub one_place : (κs : Lfts 1) (a : _) (x y : _) (s t : _) → place.Post κs a x s → place.Post κs a y t → x ≡ y
one_place κs a x y s t p q = p.0 ∙ sym q.0
