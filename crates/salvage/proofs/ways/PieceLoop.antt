-- The loop of `read_pieces`: the rows of the pieces that were read, and then those of the pieces that are left, are the rows of the file.
--     Going, going_start                          the invariant, and that it holds at the start
--     going-asks, going-next                      what reading the next piece requires; the invariant after it
--     gone                                        the answer after the last piece
-- Assumes nothing.
use Rattle.std.specs.Ordering.{nat_cmp, ord_min}
use Rattle.std.proofs.lemmas.Grind.{common_steps}
use Rattle.std.proofs.Common.{ℕ, ◌+◌, ◌-◌, ◌*◌, ◌≤◌, min, arith, ◌≡◌, refl, sym, ap, ap₂, ◌∙◌, Bool, true, ◌&&◌, List, [], ◌∷◌, ◌++◌, append-nil, append_assoc, length, take}
use Rattle.std.proofs.Common.{drop, drop_of_length-le, length-append, length-drop, length-take-le, take_all, leb, leb-true}
use mathlib.Core.Bool.{and-true, and_assoc}
use lib.Seq.{take-append-le, take-append-add}
use borrow.Rule.Slice.PartMut.{put_mid, same_len_mid}
use Rattle.text.specs.Utf8.{Octets}
use Rattle.row.specs.Row.{Row, moved, flat}
use Rattle.row.specs.Limits.{most_bytes}
use Rattle.raw.specs.Read.{strict}
use Rattle.row.specs.Rules.{clean}
use Rattle.raw.specs.Strict.{Fresh}
use Rattle.row.proofs.Laid.{laid}
use Rattle.row.proofs.Ruled.{ruled}
use Rattle.salvage.specs.Salvage.{cut, told, pieces, salvage_of}
use Rattle.salvage.specs.Demand3.{fresh}
use Rattle.salvage.specs.Inner.{PieceEnds, PieceToRead, PutsPiece, ValidTo, FillsRows}
use Rattle.salvage.specs.declared.piece.Tally.{Tally}
use Rattle.salvage.proofs.cutting.Utf8OfPieces.{front-append, octets-piece}
use Rattle.salvage.proofs.cutting.PiecesAppend.{head-append}
use Rattle.salvage.proofs.cutting.Boundaries.{head-fresh}

-- ---- the rows that are left

-- the rows of the pieces from p on
abbrev left : List ℕ → ℕ → List Row
left s p = pieces p (cut (drop p s))

left-start : (s : List ℕ) → left s 0 ≡ salvage_of s
unfolding salvage_of
left-start s = refl

left_end : (s : List ℕ) (p : ℕ) → length s ≤ p → left s p ≡ []
unfolding pieces cut
left_end s p h = rw (drop_of_length-le s h) refl

-- ---- the invariant

-- the numbers b₀ were lent, and hold b now; the pieces before p gave n rows
pub record Going (s b₀ b : List ℕ) (v p n : ℕ) (sound : Bool) : Type 0 where
  pub place : p ≤ length s
  pub most : n ≤ 8 * p
  pub same : length b ≡ length b₀
  pub valid : p ≤ v → Octets (drop p (take v s))
  pub count : n + length (left s p) ≡ length (salvage_of s)
  pub kept : sound && clean (left s p) ≡ clean (salvage_of s)
  pub rows : length b₀ ≡ length (salvage_of s) * 4 → take (n * 4) b ++ flat (left s p) ≡ flat (salvage_of s)

pub going_start : (s b : List ℕ) (v : ℕ) → ValidTo s v → Going s b b v 0 0 true
going_start s b v k =
    record {
      place = omega arith;
      most = omega arith;
      same = refl;
      valid = λ h. k.octets;
      count = rw (left-start s) (omega arith);
      kept = ap clean (left-start s);
      rows = λ h. ap flat (left-start s);
    }

-- ---- the next piece

-- the `min` of std, as `omega` reads it
pub ord_min-is : (a b : ℕ) → ord_min nat_cmp a b ≡ min a b
ord_min-is a b = grind (arith, common_steps)

-- the front of the numbers b, after the part of them from i on was lent and came back as y
put_front : (b y : List ℕ) (i m : ℕ) → i ≤ length b → m ≤ length y
    → take (i + m) (put_mid i (length b - i) b y) ≡ take i b ++ take m y
put_front b y i m h l =
    let n : i + m ≡ length (take i b) + m = omega (arith, length-take-le i b h) in
    let z = drop (length b - i) (drop i b) in
    ap (λ (k : ℕ). take k (take i b ++ (y ++ z))) n
    ∙ take-append-add (take i b) (y ++ z) m
    ∙ ap (λ (l : List ℕ). take i b ++ l) (take-append-le m y z l)

-- where a text is empty or begins with "@", its front continues no character of the text before it
fresh-front : (u t : List ℕ) → fresh (u ++ t) ≡ true → Fresh u
unfolding fresh
fresh-front [] t h = refl
fresh-front (b ∷ u) t h = head-fresh (b ∷ u) (sym (head-append b u t) ∙ h)

module _ (s b₀ b : List ℕ) (v p e n : ℕ) (sound : Bool) (c : Going s b₀ b v p n sound) (x : PieceEnds s p e) where
  -- the bytes of the piece, and its rows
  abbrev w : List ℕ
  w = take (e - p) (drop p s)

  abbrev rs : List Row
  rs = told w (strict w)

  w-length : p + length w ≡ e
  w-length =
      let l = length-drop p s in
      omega (arith, x.from, x.to, length-take-le (e - p) (drop p s) (omega (arith, x.to)))

  left-piece : left s p ≡ moved p rs ++ left s e
  unfolding pieces
  left-piece = rw (x.cuts, w-length) refl

  left-count : n + length rs + length (left s e) ≡ length (salvage_of s)
  left-count =
      let l = length-append (moved p rs) (left s e) in
      let m = laid.moved_length p rs in
      omega (arith, c.count, ap length left-piece)

  left-clean : clean (left s p) ≡ clean rs && clean (left s e)
  left-clean = ap clean left-piece ∙ ruled.clean-append (moved p rs) (left s e) ∙ ap (λ (b : Bool). b && clean (left s e)) (ruled.clean-moved p rs)

  piece-valid : ValidTo s v → e ≤ v → Octets w × Octets (drop e (take v s))
  piece-valid k l =
      let f = fresh-front (drop e (take v s)) (drop v s) (sym (ap fresh (front-append s v k.inside e l)) ∙ x.next) in
      octets-piece s v k.inside p e (omega (arith, x.from)) l f (c.valid (omega (arith, x.from)))

  pub going-asks : length s ≤ most_bytes → ValidTo s v → PieceToRead w p (leb e v)
  going-asks h k =
      record {
        file = omega (arith, w-length, x.to);
        some = omega (arith, w-length, x.from);
        known = λ t. (piece-valid k (leb-true e v t)).0;
      }

  module _ (k : ValidTo s v) {i : ℕ} (h : i ≡ min (n * 4) (length b)) (y : List ℕ) {r : Tally}
      (z : PutsPiece w p (take (length b - i) (drop i b)) r y) (g : length y ≡ length (take (length b - i) (drop i b))) where
    part_length : length y ≡ length b - i
    part_length =
        let l = length-drop i b in
        g ∙ length-take-le (length b - i) (drop i b) (omega arith)

    next-rows : length b₀ ≡ length (salvage_of s) * 4
        → take ((n + length rs) * 4) (put_mid i (length b - i) b y) ++ flat (left s e) ≡ flat (salvage_of s)
    next-rows l =
        let q = part_length in
        let j : i ≡ n * 4 = omega (arith, c.same, left-count) in
        let m : (n + length rs) * 4 ≡ i + length rs * 4 = omega arith in
        let t : take (length rs * 4) y ≡ flat (moved p rs) = z.rows (omega (arith, c.same, left-count)) in
        ap (λ (l : ℕ). take l (put_mid i (length b - i) b y) ++ flat (left s e)) m
        ∙ ap (λ (l : List ℕ). l ++ flat (left s e)) (put_front b y i (length rs * 4) (omega arith) (omega (arith, c.same, left-count)))
        ∙ ap₂ (λ (l : List ℕ) (o : ℕ). (take o b ++ l) ++ flat (left s e)) t j
        ∙ append_assoc (take (n * 4) b) (flat (moved p rs)) (flat (left s e))
        ∙ ap (λ (l : List ℕ). take (n * 4) b ++ l) (sym (laid.flat_append (moved p rs) (left s e)) ∙ ap flat (sym left-piece))
        ∙ c.rows l

    pub going-next : Going s b₀ (put_mid i (length b - i) b y) v e (n + r.rows) (sound && r.sound)
    going-next =
        let d : r.rows ≡ length rs = ap (λ (t : Tally). t.rows) z.tally in
        let q : r.sound ≡ clean rs = ap (λ (t : Tally). t.sound) z.tally in
        record {
          place = x.to;
          most = omega (arith, c.most, z.most, w-length);
          same = same_len_mid i (length b - i) b y g ∙ c.same;
          valid = λ l. (piece-valid k l).1;
          count = omega (arith, left-count);
          kept = rw q (and_assoc sound (clean rs) (clean (left s e)) ∙ sym (ap (λ (a : Bool). sound && a) left-clean) ∙ c.kept);
          rows = λ l. ap (λ (o : ℕ). take ((n + o) * 4) (put_mid i (length b - i) b y) ++ flat (left s e)) d ∙ next-rows l;
        }

-- ---- after the last piece

module _ (s b₀ b : List ℕ) (v p n : ℕ) (sound : Bool) (c : Going s b₀ b v p n sound) (h : length s ≤ p) where
  gone-clean : sound ≡ clean (salvage_of s)
  unfolding clean
  gone-clean = sym (and-true sound) ∙ (rw (left_end s p h) at c.kept)

  gone-count : n ≡ length (salvage_of s)
  gone-count = omega (arith, c.count, ap length (left_end s p h))

  gone-rows : length b₀ ≡ length (salvage_of s) * 4 → b ≡ flat (salvage_of s)
  unfolding flat
  gone-rows l =
      sym (take_all (n * 4) b (omega (arith, c.same, gone-count)))
      ∙ sym (append-nil (take (n * 4) b))
      ∙ sym (ap (λ (rs : List Row). take (n * 4) b ++ flat rs) (left_end s p h))
      ∙ c.rows l

  pub gone : FillsRows s b₀ (record { rows = n; sound = sound }) b
  gone = record { tally = rw (gone-clean, gone-count); rows = gone-rows }
