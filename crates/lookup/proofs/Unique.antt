-- What the public contracts settle: any two outcomes that one allows are the same. Stated of each contract as the check reads it off the
-- source, so that a contract which said less would fail here.
-- `build` may leave either form of the index, by which every search answers the same, and is not among them.
-- Assumes nothing.
use Rattle.std.proofs.Common.{◌≡◌, sym, ◌∙◌, true, length, get_or, take}
use contract.Lifetimes.{Lfts}
use Rattle.text.proofs.general.Outcomes.{Both, One}
use Rattle.row.specs.Numbers.{rows_of}
use Rattle.lookup.specs.Order.{definitions}
use Rattle.lookup.proofs.hash.fnv1a.Kinds as fnv1a-kinds
use Rattle.lookup.proofs.hash.fnv1a.Reads as fnv1a
use Rattle.lookup.proofs.plain.is_named.Kinds as is-named-kinds
use Rattle.lookup.proofs.plain.is_named.Reads as is-named
use Rattle.lookup.proofs.plain.find.Kinds as plain-find-kinds
use Rattle.lookup.proofs.plain.find.Reads as plain-find
use Rattle.lookup.proofs.index.clear.Kinds as clear-kinds
use Rattle.lookup.proofs.index.clear.Reads as clear
use Rattle.lookup.proofs.index.find.Kinds as index-find-kinds
use Rattle.lookup.proofs.index.find.Reads as index-find
use Rattle.lookup.proofs.plain.equal.Kinds as equal-kinds
use Rattle.lookup.proofs.plain.equal.Reads as equal
use Rattle.lookup.proofs.order.fill.Reads as fill
use Rattle.lookup.proofs.order.search.Kinds as search-kinds
use Rattle.lookup.proofs.order.search.Reads as search

pub one-fnv1a : One 1 fnv1a-kinds.ps fnv1a-kinds.r fnv1a.Post
one-fnv1a κs a x y s t p q = p ∙ sym q

pub one-is-named : One 3 is-named-kinds.ps is-named-kinds.r is-named.Post
one-is-named κs a x y s t p q = p ∙ sym q

pub one-plain-find : One 3 plain-find-kinds.ps plain-find-kinds.r plain-find.Post
one-plain-find κs a x y s t p q = p ∙ sym q

pub one-index-find : One 4 index-find-kinds.ps index-find-kinds.r index-find.Post
one-index-find κs a x y s t p q = p ∙ sym q

pub one-clear : Both 1 clear-kinds.ps clear-kinds.r clear.Post (λ κs x s y t. s.0.now ≡ t.0.now)
one-clear κs a x y s t p q = p ∙ sym q

pub one-equal : One 2 equal-kinds.ps equal-kinds.r equal.Post
one-equal κs a x y s t p q = p ∙ sym q

pub one-search : One 4 search-kinds.ps search-kinds.r search.Post
one-search κs a x y s t p q = p ∙ sym q

-- the same answer; and where the definitions are put in order, the same mark and the same numbers of definitions. The other numbers are for
-- the work alone
pub one-fill : (κs : Lfts 4) (a : _) (x y : _) (s t : _) → fill.Post κs a x s → fill.Post κs a y t →
    let m = length (definitions (rows_of a.1.0.now)) in
    (x ≡ y) × (x ≡ true → (get_or s.1.1.0.now 0 0 ≡ get_or t.1.1.0.now 0 0) × (take m s.1.1.1.0.now ≡ take m t.1.1.1.0.now))
one-fill κs a x y s t p q =
    let same = p.0 ∙ sym q.0 in
    (same, λ e. let g = p.1 e in let h = q.1 (sym same ∙ e) in (g.mark ∙ sym h.mark, g.order ∙ sym h.order))
