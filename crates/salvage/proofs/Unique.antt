-- Each public contract allows one outcome only. This is said of the contract as the check reads it off the source, so that a contract which
-- said less would fail here.
--     the same answer, and the same rows                                            `salvage`
--     the same answer                                                               `piece_end`
--     the same answer, and where the piece's rows fit, the same rows in front       `read_piece`
-- Assumes nothing.
use Rattle.std.proofs.Common.{ℕ, ◌-◌, ◌*◌, ◌≤◌, arith, ◌≡◌, sym, ap, ◌∙◌, List, [], ◌∷◌, length, take, drop, length-drop, length-take-le}
use contract.Lifetimes.{Lfts}
use Rattle.text.proofs.general.Outcomes.{Both, One}
use Rattle.raw.specs.Read.{strict}
use Rattle.salvage.specs.Salvage.{told}
use Rattle.salvage.specs.Inner.{PieceEnds}
use Rattle.salvage.proofs.file.salvage.Kinds as salvage-kinds
use Rattle.salvage.proofs.file.salvage.Reads as salvage
use Rattle.salvage.proofs.piece.piece_end.Kinds as piece-end-kinds
use Rattle.salvage.proofs.piece.piece_end.Reads as piece-end
use Rattle.salvage.proofs.piece.read_piece.Reads as read-piece

pub one-salvage : Both 2 salvage-kinds.ps salvage-kinds.r salvage.Post (λ κs x s y t. (x ≡ y) × (s.1.0.now ≡ t.1.0.now))
one-salvage κs a x y s t p q = (p.answer ∙ sym q.answer, p.rows ∙ sym q.rows)

-- the first piece that a text is cut into has one length
same_end : {s : List ℕ} {p e q : ℕ} → PieceEnds s p e → PieceEnds s p q → e ≡ q
same_end {s} {p} {e} {q} x y =
    let same = ap (λ (ws : List (List ℕ)). length (first ws)) (sym x.cuts ∙ y.cuts) in
    let n = length-take-le (e - p) (drop p s) (omega (arith, length-drop p s, x.to)) in
    let m = length-take-le (q - p) (drop p s) (omega (arith, length-drop p s, y.to)) in
    omega (arith, same, n, m, x.from, y.from)
  where
    first : List (List ℕ) → List ℕ
    first [] = []
    first (w ∷ ws) = w

pub one-piece-end : One 1 piece-end-kinds.ps piece-end-kinds.r piece-end.Post
one-piece-end κs a x y s t p q = same_end p q

pub one-read-piece : (κs : Lfts 2) (a : _) (x y : _) (s t : _) → read-piece.Post κs a x s → read-piece.Post κs a y t →
    let n = length (told a.0.now (strict a.0.now)) * 4 in
    (x ≡ y) × (n ≤ length a.1.1.0.now → take n s.1.1.0.now ≡ take n t.1.1.0.now)
one-read-piece κs a x y s t p q = (p.tally ∙ sym q.tally, λ h. p.rows h ∙ sym (q.rows h))
