-- No damage shows exactly if strict reading accepts the whole file and every boundary opens one of its entries.
--     accepts, opened     where no damage shows, strict reading accepts the file with the same rows, and every boundary opens an entry
--     same_rows           where strict reading accepts the file and every boundary opens an entry, the rows are the same
-- Assumes nothing.
use Rattle.std.proofs.Common.{ℕ, zero, suc, ◌+◌, ◌≤◌, arith, ◌≡◌, refl, sym, ap, ap₂, ◌∙◌, subst, subst₂, true, List, [], ◌∷◌, ◌++◌, append-nil, inl, inr, length}
use Rattle.std.proofs.Common.{length-append}
use Rattle.text.specs.Walk.{walk_from}
use Rattle.text.specs.Utf8.{Octets, validity_of}
use Rattle.text.specs.Scan.{see_from}
use Rattle.text.proofs.general.Tests.{both_true, true-not-false}
use Rattle.text.proofs.Shapes.{shapes}
use Rattle.row.specs.Row.{Row, moved}
use Rattle.raw.specs.Reader.{ok, more, loop, many}
use Rattle.raw.specs.Grammar.{white, file_turn, file}
use Rattle.row.specs.Limits.{most_bytes}
use Rattle.raw.specs.Read.{underlined, strict}
use Rattle.row.specs.Rules.{clean}
use Rattle.raw.specs.Strict.{shifted}
use Rattle.raw.proofs.Strict.{strict-reading}
use Rattle.raw.proofs.Steps.{steps}
use Rattle.row.proofs.Laid.{laid}
use Rattle.row.proofs.Ruled.{ruled}
use Rattle.salvage.specs.Salvage.{head, cut, told, pieces, salvage_of}
use Rattle.salvage.specs.Demand3.{lined, Boundary, first, line, Opens, Whole}
use Rattle.salvage.proofs.cutting.Utf8OfPieces.{octets-both}
use Rattle.salvage.proofs.cutting.PiecesAppend.{pieces-move, salvage-append}
use Rattle.salvage.proofs.cutting.ReadingAcrossCut.{through, split}
use Rattle.salvage.proofs.cutting.Boundaries.{CutBetween, Front, front, meet, parts, head-opens, head-fresh}
use Rattle.salvage.proofs.cutting.Boundaries.{cut-boundary, boundary-shift, opens-first, pass, file-back, opens_back}
use Rattle.salvage.proofs.rows.EachPiece.{told-by}

-- ---- a piece, and the rest

told-ok : (w : List ℕ) → clean (told w (strict w)) ≡ true → (q : ℕ) × (strict w ≡ ok q (told w (strict w)))
unfolding clean
told-ok w = told-by w (λ rs. clean rs ≡ true → (q : ℕ) × (strict w ≡ ok q rs)) (λ q rs e h. (q, e)) (λ f e h. true-not-false _ h refl)

salvage-front : (s w r : List ℕ) → cut s ≡ w ∷ cut r → salvage_of s ≡ told w (strict w) ++ moved (length w) (salvage_of r)
unfolding salvage_of pieces
salvage-front s w r e = rw e (ap₂ (λ (x y : List Row). x ++ y) (laid.moved_none (told w (strict w))) (pieces-move 0 (length w) (cut r)))

salvage-none : (r : List ℕ) (d : ℕ) → r ≡ [] → moved d (salvage_of r) ≡ []
unfolding salvage_of pieces cut moved
salvage-none r d e = ap (λ (l : List ℕ). moved d (salvage_of l)) e

-- in two texts put together, reading from the second on is reading the second alone, moved
rest : (a s : List ℕ) (k : ℕ) → length a ≡ suc k → file (a ++ s) (suc k) ≡ shifted (length a) (file s 0)
rest a s k e = let x : suc k ≡ 0 + length a = omega arith in ap (file (a ++ s)) x ∙ strict-reading.moves a s 0

empty : strict [] ≡ ok 0 (salvage_of [])
unfolding strict validity_of walk_from file loop many file_turn white see_from salvage_of pieces cut
empty = refl

empty-rows : (q : ℕ) (rs : List Row) → strict [] ≡ ok q rs → salvage_of [] ≡ rs
empty-rows q rs e = by (salvage_of []) (sym empty ∙ e)
  where
    by : (ss : List Row) → ok 0 ss ≡ ok q rs → ss ≡ rs
    by ss d = cc

-- ---- where no damage shows, strict reading accepts, with the same rows

abbrev Accepts : List ℕ → List Row → Type 0
Accepts s rs = (q : ℕ) × (strict s ≡ ok q rs)

-- w is the first piece of a text, and r the rest
module _ (b : ℕ) (s : List ℕ) where
  abbrev f : Front b s
  f = front b s

  abbrev w : List ℕ
  w = b ∷ f.0

  abbrev r : List ℕ
  r = f.1

  whole : b ∷ s ≡ w ++ r
  whole = ap (λ (l : List ℕ). b ∷ l) f.2

  shorter : length r ≤ length s
  shorter = omega (arith, ap length f.2, length-append f.0 r)

  rows : salvage_of (b ∷ s) ≡ told w (strict w) ++ moved (length w) (salvage_of r)
  rows = salvage-front (b ∷ s) w r f.3

  -- where the first piece is the only one
  rows-alone : r ≡ [] → salvage_of (b ∷ s) ≡ told w (strict w)
  rows-alone e = rows ∙ ap (λ (l : List Row). told w (strict w) ++ l) (salvage-none r (length w) e) ∙ append-nil (told w (strict w))

  strict-alone : r ≡ [] → strict (b ∷ s) ≡ strict w
  strict-alone e = ap strict (whole ∙ ap (λ (l : List ℕ). w ++ l) e ∙ append-nil w)

  -- where the first piece and the rest are accepted, so is the whole
  both-accepted : length (b ∷ s) ≤ most_bytes → (lined w ≡ true) × (head r ≡ true)
      → Accepts w (told w (strict w)) → Accepts r (salvage_of r) → Accepts (b ∷ s) (salvage_of (b ∷ s))
  both-accepted h m x y =
      let u = steps.strict-ok w x.0 (told w (strict w)) x.1 in
      let v = steps.strict-ok r y.0 (salvage_of r) y.1 in
      let o : Octets (b ∷ s) = subst Octets (sym whole) (shapes.octets-append u.1 v.1) in
      let t = through w r (length f.0) (meet b f.0 r m.0 m.1) x.0 (told w (strict w)) u.2 in
      let g = rest w r (length f.0) refl ∙ ap (shifted (length w)) v.2 in
      let z = t.0 ∙ ap (more (told w (strict w))) g ∙ ap (ok (y.0 + length w)) (sym rows) in
      (y.0 + length w, steps.strict-is (b ∷ s) h o ∙ ap (underlined (b ∷ s)) (ap (λ (l : List ℕ). file l 0) whole ∙ z))

  accepts-step : length (b ∷ s) ≤ most_bytes
      → ((t : List ℕ) → length t ≤ length s → clean (salvage_of t) ≡ true → Accepts t (salvage_of t))
      → clean (salvage_of (b ∷ s)) ≡ true → Accepts (b ∷ s) (salvage_of (b ∷ s))
  accepts-step h ih k = by f.4
    where
      both-clean : (clean (told w (strict w)) ≡ true) × (clean (moved (length w) (salvage_of r)) ≡ true)
      both-clean =
          both_true (clean (told w (strict w))) (clean (moved (length w) (salvage_of r)))
          (sym (ap clean rows ∙ ruled.clean-append (told w (strict w)) (moved (length w) (salvage_of r))) ∙ k)

      o : Accepts w (told w (strict w))
      o = told-ok w both-clean.0

      by : CutBetween w r → Accepts (b ∷ s) (salvage_of (b ∷ s))
      by (inl e) = (o.0, strict-alone e ∙ o.1 ∙ ap (ok o.0) (sym (rows-alone e)))
      by (inr m) = both-accepted h m o (ih r shorter (sym (ruled.clean-moved (length w) (salvage_of r)) ∙ both-clean.1))

  -- ---- where strict reading accepts the whole

  -- where the whole is accepted, and the rest gives the rows of strict reading, so does the whole
  both-same : (m : (lined w ≡ true) × (head r ≡ true)) (rs : List Row) → strict (b ∷ s) ≡ ok (length (b ∷ s)) rs
      → Opens (w ++ r) 0 (suc (length f.0)) → ((ss : List Row) → strict r ≡ ok (length r) ss → salvage_of r ≡ ss) → salvage_of (b ∷ s) ≡ rs
  both-same m rs e p ih =
      let u = steps.strict-ok (b ∷ s) (length (b ∷ s)) rs e in
      let o = octets-both w r (head-fresh r m.1) (subst Octets whole u.1) in
      let v = sym (ap (λ (l : List ℕ). file l 0) whole) ∙ u.2 in
      let x = split w r (length f.0) (meet b f.0 r m.0 m.1) (length (b ∷ s)) rs p v in
      let n : 0 + length w ≡ suc (length f.0) = omega arith in
      let y = file-back w r 0 (length (b ∷ s)) x.1 (ap (file (w ++ r)) n ∙ x.3) in
      let l = length-append w r in
      let lw : length w ≤ most_bytes = omega (arith, u.0, ap length whole) in
      let lr : length r ≤ most_bytes = omega (arith, u.0, ap length whole) in
      let z = steps.strict-is r lr o.1 ∙ ap (underlined r) y.2 in
      let i : salvage_of r ≡ y.1 = ih y.1 (z ∙ ap (λ (n : ℕ). ok n y.1) (strict-reading.accepts r y.0 y.1 z).end) in
      rows ∙ ap₂ (λ (a c : List Row). a ++ c) (ap (told w) (steps.strict-is w lw o.0 ∙ ap (underlined w) x.2)) (ap (moved (length w)) i ∙ sym y.4) ∙ sym x.4

accepts-by : (n : ℕ) (s : List ℕ) → length s ≤ n → length s ≤ most_bytes → clean (salvage_of s) ≡ true → Accepts s (salvage_of s)
accepts-by zero [] h l k = (0, empty)
accepts-by zero (b ∷ s) h l k = absurd (omega arith)
accepts-by (suc n) [] h l k = (0, empty)
accepts-by (suc n) (b ∷ s) h l k = accepts-step b s l (λ t i. accepts-by n t (omega arith) (omega arith)) k

pub accepts : (s : List ℕ) → length s ≤ most_bytes → clean (salvage_of s) ≡ true → strict s ≡ ok (length s) (salvage_of s)
accepts s l k =
    let a = accepts-by (length s) s (omega arith) l k in
    a.1 ∙ ap (λ (n : ℕ). ok n (salvage_of s)) (strict-reading.accepts s a.0 (salvage_of s) a.1).end

-- every boundary opens an entry, because salvage of what stands before it shows no damage either
pub opened : (s : List ℕ) → length s ≤ most_bytes → clean (salvage_of s) ≡ true → {e : ℕ} → Boundary s e → Opens s 0 e
opened s l k (first h) = opens-first s h
opened s l k (line e h g) =
    let p = parts s e h g in
    let w = p.0 ∷ p.1 in
    let r = p.2 in
    let n : length s ≡ length w + length r = ap length p.3 ∙ length-append w r in
    let x = ap salvage_of p.3 ∙ salvage-append w r p.5 (head-opens r p.6) in
    let y = both_true (clean (salvage_of w)) _ (sym (ap clean x ∙ ruled.clean-append (salvage_of w) (moved (length w) (salvage_of r))) ∙ k) in
    let a = steps.strict-ok w (length w) (salvage_of w) (accepts w (omega arith) y.0) in
    let t = through w r (length p.1) (meet p.0 p.1 r p.5 p.6) (length w) (salvage_of w) a.2 in
    subst₂ (λ (l : List ℕ) (n : ℕ). Opens l 0 (suc n)) (sym p.3) p.4 t.1

-- ---- where strict reading accepts the whole, it accepts each piece, and the rows are the same

-- every boundary of a text opens one of its entries
abbrev AllOpen : List ℕ → Type 0
AllOpen s = (e : ℕ) → Boundary s e → Opens s 0 e

-- where this holds of the whole, it holds of the rest behind the first piece
module _ (b : ℕ) (xs r : List ℕ) (h : lined (b ∷ xs) ≡ true) (k : head r ≡ true) (all : AllOpen ((b ∷ xs) ++ r)) where
  there : Opens ((b ∷ xs) ++ r) 0 (suc (length xs))
  there = all (suc (length xs)) (cut-boundary b xs r h k)

  rest-opens : {e : ℕ} → Boundary r e → Opens r 0 e
  rest-opens (first x) = opens-first r x
  rest-opens (line e x y) =
      let o = all (suc (e + suc (length xs))) (boundary-shift (b ∷ xs) r e x y) in
      opens_back (b ∷ xs) r 0 (suc e) (pass there o (omega arith)) (omega arith) (omega arith)

module _ (b : ℕ) (s : List ℕ) where
  same_step : ((t : List ℕ) (rs : List Row) → length t ≤ length s → Whole t rs → salvage_of t ≡ rs)
      → (rs : List Row) → Whole (b ∷ s) rs → salvage_of (b ∷ s) ≡ rs
  same_step ih rs v = by (f b s).4
    where
      by : CutBetween (w b s) (r b s) → salvage_of (b ∷ s) ≡ rs
      by (inl e) = rows-alone b s e ∙ ap (told (w b s)) (sym (strict-alone b s e) ∙ v.accepts)
      by (inr m) =
          let all : AllOpen (w b s ++ r b s) = subst AllOpen (whole b s) v.opens in
          let xs = (f b s).0 in
          both-same b s m rs v.accepts (there b xs (r b s) m.0 m.1 all)
          (λ ss e. ih (r b s) ss (shorter b s) (record { accepts = e; opens = λ e x. rest-opens b xs (r b s) m.0 m.1 all x }))

same_by : (n : ℕ) (s : List ℕ) (rs : List Row) → length s ≤ n → Whole s rs → salvage_of s ≡ rs
same_by zero [] rs h v = empty-rows 0 rs v.accepts
same_by zero (b ∷ s) rs h v = absurd (omega arith)
same_by (suc n) [] rs h v = empty-rows 0 rs v.accepts
same_by (suc n) (b ∷ s) rs h v = same_step b s (λ t us l u. same_by n t us (omega arith) u) rs v

pub same_rows : (s : List ℕ) (rs : List Row) → Whole s rs → salvage_of s ≡ rs
same_rows s rs v = same_by (length s) s rs (omega arith) v
