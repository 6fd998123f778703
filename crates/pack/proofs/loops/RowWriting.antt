-- One turn of the loops that write, for each way through their code.
--     Packing, pack-turn, pack-end           rows into lent bytes: the invariant, one turn, the end
--     Unpacking, unpack-turn, unpack-end     bytes into lent numbers: the invariant, one turn, the end
-- Assumes nothing.
use Rattle.std.proofs.Common.{ℕ, suc, ◌+◌, ◌*◌, ◌/◌, ◌≤◌, arith, ◌≡◌, refl, sym, ap, ap₂, ◌∙◌, List, [], ◌∷◌, ◌++◌, length, take, drop}
use Rattle.row.specs.Row.{Row, flat, put_row, overlay}
use Rattle.row.specs.Numbers.{rows_of}
use Rattle.row.proofs.Laid.{laid}
use Rattle.pack.specs.Digits.{digits}
use Rattle.pack.specs.Seven.{pack_row, packing, unpacking}
use Rattle.pack.proofs.loops.ListWriting.{WrittenTo, go_on, at_last}
use Rattle.pack.proofs.bytes.SevenBytes.{unpacking-length}

row-size : (r : Row) → length (pack_row r) ≡ 7
unfolding digits
row-size r = refl

-- the first k rows are packed
abbrev pub Packing : List ℕ → List ℕ → ℕ → List ℕ → Type 0
Packing l b k out = WrittenTo (packing (rows_of l)) b (k * 7) (packing (rows_of (drop (k * 4) l))) out

module _ (l b : List ℕ) (k : ℕ) where
  pub pack-turn : {r : Row} {out out' : List ℕ} → rows_of (drop (k * 4) l) ≡ r ∷ rows_of (drop ((k + 1) * 4) l)
      → out' ≡ take (k * 7) out ++ pack_row r ++ drop (k * 7 + 7) out → Packing l b k out → Packing l b (k + 1) out'
  unfolding packing
  pack-turn {r} {out} {out'} x e o =
      let n : (k + 1) * 7 ≡ k * 7 + 7 = omega arith in
      rw n (go_on (packing (rows_of l)) b (k * 7) (pack_row r) (packing (rows_of (drop ((k + 1) * 4) l))) out out' 7 (rw x at o) (row-size r) e)

  pub pack-end : {out : List ℕ} → rows_of (drop (k * 4) l) ≡ [] → k ≡ length l / 4 → Packing l b k out
      → out ≡ packing (rows_of l) ++ drop (length l / 4 * 7) b
  unfolding packing
  pack-end x h o = rw h at (at_last (rw x at o))

-- the first k rows are laid over the lent numbers
abbrev pub Unpacking : List ℕ → List ℕ → ℕ → List ℕ → Type 0
Unpacking s b k out = overlay b 0 (unpacking s) ≡ overlay out k (unpacking (drop (k * 7) s))

module _ (s b : List ℕ) (k : ℕ) where
  pub unpack-turn : {r : Row} (out : List ℕ) {out' : List ℕ} → unpacking (drop (k * 7) s) ≡ r ∷ unpacking (drop ((k + 1) * 7) s)
      → out' ≡ put_row out k r → Unpacking s b k out → Unpacking s b (k + 1) out'
  unfolding overlay
  unpack-turn {r} out {out'} x e o =
      let f : suc k ≡ k + 1 = omega arith in
      o ∙ ap (overlay out k) x ∙ ap₂ (λ (w : List ℕ) (n : ℕ). overlay w n (unpacking (drop ((k + 1) * 7) s))) (sym e) f

  pub unpack-end : {out : List ℕ} → unpacking (drop (k * 7) s) ≡ [] → length s / 7 * 4 ≤ length b → Unpacking s b k out
      → out ≡ flat (unpacking s) ++ drop (length s / 7 * 4) b
  unfolding overlay
  unpack-end x m o =
      sym (rw x at o)
      ∙ laid.overlay-fits (unpacking s) b (omega (arith, unpacking-length s))
      ∙ ap (λ (n : ℕ). flat (unpacking s) ++ drop (n * 4) b) (unpacking-length s)
