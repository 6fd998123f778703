-- The ways through the functions of src/file.rt, over what their calls answered. The loop of `read_pieces` is in PieceLoop.antt.
--     valid-all, valid-part                               `valid_to`
--     salvage-long, salvage-full                          `salvage`: the file is too long, or there is no room for its rows
--     salvage-strictly, salvage-fills                     the file is read strictly, or piece by piece
-- Assumes nothing.
use Rattle.text.specs.declared.utf8.IllFormed.{IllFormed}
use Rattle.std.proofs.Common.{Result, Ok, Err, ℕ, ◌*◌, ◌/◌, ◌≤◌, ◌<◌, arith, ◌≡◌, sym, ap, ap₂, ◌∙◌, subst, true, List, ◌++◌, length, take, drop, length-take-le, leb, le-leb}
use Rattle.row.specs.declared.fault.Fault.{Fault}
use lib.Seq.{take-length}
use borrow.Author.Tests.{lt-leb}
use Rattle.text.specs.Utf8.{Octets, validity_of}
use Rattle.text.proofs.Rfc3629.{rfc3629}
use Rattle.row.specs.declared.fault.Reason.TheVariants.{TooLong, NoRoom}
use Rattle.row.specs.Fault.{nowhere}
use Rattle.row.specs.Row.{moved, flat, overlay}
use Rattle.raw.specs.Reader.{Out, ok}
use Rattle.raw.specs.Grammar.{file}
use Rattle.row.specs.Limits.{most_bytes}
use Rattle.row.specs.Rules.{clean}
use Rattle.raw.specs.Says.{RowsLaid, Says}
use Rattle.raw.proofs.Steps.{steps}
use Rattle.row.proofs.Laid.{laid}
use Rattle.salvage.specs.Salvage.{salvage_of, salvaged, Salvage}
use Rattle.salvage.specs.Inner.{ValidTo, FillsRows}
use Rattle.salvage.specs.declared.piece.Tally.{Tally}
use Rattle.salvage.proofs.rows.Undamaged.{accepts}

-- ---- `valid_to`

module _ (s : List ℕ) where
  pub valid-all : Ok tt ≡ validity_of s → ValidTo s (length s)
  valid-all e = record { inside = omega arith; octets = subst Octets (sym (take-length s)) ((rfc3629.accepts s).0 (sym e)) }

  pub valid-part : {f : IllFormed} → Err f ≡ validity_of s → ValidTo s f.at
  valid-part {f} e = let l = (rfc3629.refuses s f.at).0 (sym e) in record { inside = omega (arith, l.inside); octets = l.valid }

-- ---- `salvage`

pub salvage-long : (s b : List ℕ) → most_bytes < length s → Salvage s b (Err (nowhere TooLong)) b
unfolding salvaged
salvage-long s b h = let t = lt-leb (length s) most_bytes h in record { answer = rw t; rows = rw t }

-- the file is inside 01's limit, and the pieces, which were read over some numbers, have told its tally
module _ (s b : List ℕ) (short : length s ≤ most_bytes) {d d' : List ℕ} {t : Tally} (f : FillsRows s d t d') where
  count-short : leb (length s) most_bytes ≡ true
  count-short = le-leb (length s) most_bytes short

  count : t.rows ≡ length (salvage_of s)
  count = ap (λ (t : Tally). t.rows) f.tally

  pub salvage-full : length b / 4 < t.rows → Salvage s b (Err (nowhere NoRoom)) b
  unfolding salvaged
  salvage-full l =
      let u = lt-leb (length (salvage_of s)) (length b / 4) (omega (arith, count)) in
      record { answer = rw (count-short, u); rows = rw (count-short, u) }

  module _ (l : t.rows ≤ length b / 4) where
    fits : {b' : List ℕ} → b' ≡ flat (salvage_of s) ++ drop (length (salvage_of s) * 4) b → Salvage s b (Ok t.rows) b'
    unfolding salvaged
    fits d =
        let u = le-leb (length (salvage_of s)) (length b / 4) (omega (arith, count)) in
        record { answer = rw (count-short, u, count); rows = rw (count-short, u) d }

    -- demand 3's third theorem: where no damage shows, the rows are those of strict reading
    pub salvage-strictly : t.sound ≡ true → {r : Result (ℕ × ℕ) Fault} {b' : List ℕ} → Says 0 (file s 0) 0 b r b' → Salvage s b (Ok t.rows) b'
    salvage-strictly k {r} {b'} p =
        let rs = salvage_of s in
        let c : clean rs ≡ true = sym (ap (λ (t : Tally). t.sound) f.tally) ∙ k in
        let e : file s 0 ≡ ok (length s) rs = (steps.strict-ok s (length s) rs (accepts s short c)).2 in
        let o : b' ≡ overlay b 0 (moved 0 rs) = subst (λ (o : Out). RowsLaid 0 o 0 b b') e p.rows in
        fits (o ∙ ap (overlay b 0) (laid.moved_none rs) ∙ laid.overlay-fits rs b (omega (arith, count)))

    -- the pieces were lent exactly the numbers that their rows need
    pub salvage-fills : {r : Tally} {y : List ℕ} → FillsRows s (take (t.rows * 4) b) r y → Salvage s b (Ok t.rows) (y ++ drop (t.rows * 4) b)
    salvage-fills {r} {y} p =
        let k = length-take-le (t.rows * 4) b (omega arith) ∙ ap (λ (m : ℕ). m * 4) count in
        fits (ap₂ (λ (a : List ℕ) (m : ℕ). a ++ drop (m * 4) b) (p.rows k) count)
