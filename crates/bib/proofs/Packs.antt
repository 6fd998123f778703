-- The proof of specs/Packs.antt: what salvage gives packs without refusal.
-- Assumes nothing.
use lib.ListN.{length}
use Rattle.pack.proofs.RoundTrip.{round_trip}
use Rattle.salvage.specs.Salvage.{salvage_of}
use Rattle.salvage.proofs.Demand3.{demand3}
use Rattle.bib.specs.Packs.{Packs}

pub packs : Packs
packs s h = round_trip.fitting (length s) (salvage_of s) h (demand3.checked s h) (demand3.inside s)
