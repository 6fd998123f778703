-- The ways through the functions of src/piece.rt that read a piece, over what their calls answered.
--     damage-put                              `write_damage`
--     valid-known, valid-checked              `read_piece`, where the piece is UTF-8
--     piece-sound                             where it is accepted
--     ill-strict, off-strict                  where it is refused: because it is not UTF-8, or by the grammar
--     off-damage, piece-damaged, piece-unwritten     its damage, written or not
-- Assumes nothing.
use Rattle.text.specs.declared.utf8.IllFormed.{IllFormed}
use Rattle.std.proofs.Common.{Ok, Err, ℕ, ◌+◌, ◌*◌, ◌/◌, ◌≤◌, ◌<◌, arith, ◌≡◌, refl, sym, ap, ◌∙◌, Bool, true, false, List, length, take, drop, take_at}
use Rattle.text.specs.Utf8.{Octets, validity_of}
use Rattle.text.proofs.Rfc3629.{rfc3629}
use Rattle.row.specs.declared.form.Kind.TheVariants as kind
use Rattle.row.specs.declared.fault.Fault.{Fault}
use Rattle.row.specs.declared.fault.Reason.TheVariants.{NotUtf8}
use Rattle.row.specs.Fault.{number_of, fault_at}
use Rattle.row.specs.Row.{Row, row_with, row, moved, flat, put_row, overlay}
use Rattle.raw.specs.Reader.{Out, ok, again, bad}
use Rattle.raw.specs.Grammar.{file}
use Rattle.raw.specs.Read.{culprit, underlined, strict}
use Rattle.row.specs.Rules.{clean}
use Rattle.raw.specs.Says.{answer_of, RowsLaid, Says, Within}
use Rattle.text.proofs.general.Answers.{ok_pair_parts}
use Rattle.raw.proofs.Strict.{strict-reading}
use Rattle.raw.proofs.Steps.{steps}
use Rattle.row.proofs.Laid.{laid}
use Rattle.salvage.specs.Salvage.{damaged}
use Rattle.salvage.specs.Inner.{PutsPiece, PieceToRead, DamageToWrite}

-- ---- `write_damage`

module _ (w : List ℕ) (base : ℕ) (b : List ℕ) (f : Fault) where
  pub damage-put : {v x y z d : ℕ} {b₁ b₂ : List ℕ}
      → v ≡ 0 + base → x ≡ length w + base → y ≡ f.start + base → z ≡ f.end + base → d ≡ number_of f.reason
      → b₁ ≡ put_row b 0 (row kind.Damage v x) → b₂ ≡ put_row b₁ 1 (row_with kind.Cause d y z) → b₂ ≡ overlay b 0 (moved base (damaged w f))
  unfolding overlay moved
  damage-put e g h i j p q = q ∙ rw (p, e, g, h, i, j) refl

-- ---- `read_piece`

-- rows that all fit stand in front of the numbers over which they were laid
overlay-front : (base : ℕ) (rs : List Row) (b : List ℕ) {b' : List ℕ} → b' ≡ overlay b 0 (moved base rs) → length rs * 4 ≤ length b
    → take (length rs * 4) b' ≡ flat (moved base rs)
overlay-front base rs b e h =
    let m = laid.moved_length base rs in
    let l : length (moved base rs) ≤ length b / 4 = omega arith in
    ap (take (length rs * 4)) (e ∙ laid.overlay-fits (moved base rs) b l)
    ∙ take_at (flat (moved base rs)) (drop (length (moved base rs) * 4) b) (length rs * 4) (omega (arith, laid.flat-length (moved base rs)))

module _ (w : List ℕ) {base : ℕ} {valid : Bool} (k : PieceToRead w base valid) (b : List ℕ) where
  -- it is known that the piece is UTF-8, or it was checked
  pub valid-known : valid ≡ true → Octets w
  valid-known e = k.known e

  pub valid-checked : Ok tt ≡ validity_of w → Octets w
  valid-checked e = (rfc3629.accepts w).0 (sym e)

  pub ill-strict : {e : IllFormed} → Err e ≡ validity_of w → strict w ≡ bad (fault_at NotUtf8 e.at)
  ill-strict {e} h = steps.strict-ill w (omega (arith, k.file)) e.at (sym h)

  -- what the grammar answered, of a piece that is UTF-8
  module _ (o : Octets w) where
    read_is : strict w ≡ underlined w (file w 0)
    read_is = steps.strict-is w (omega (arith, k.file)) o

    pub piece-sound : {q n : ℕ} {b' : List ℕ} → Says base (file w 0) 0 b (Ok (q, n)) b' → Within (length w) 0 0 0 (Ok (q, n)) →
        PutsPiece w base b (record { rows = n; sound = true }) b'
    piece-sound {q} {n} {b'} p most = by (file w 0) refl p.told p.rows
      where
        by : (o : Out) → file w 0 ≡ o → Ok (q, n) ≡ answer_of o 0 → RowsLaid base o 0 b b' → PutsPiece w base b (record { rows = n; sound = true }) b'
        by (ok i rs) f y z =
            let x = read_is ∙ ap (underlined w) f in
            let c = (strict-reading.accepts w i rs x).undamaged in
            let u : n ≡ length rs = omega (arith, ok_pair_parts q i n (0 + length rs) y) in
            record {
              tally = rw (x, c, u) refl;
              most = rw x (omega (arith, most));
              rows = rw x (overlay-front base rs b z);
            }
        by (again i rs a) f y z = absurd (strict-reading.decides w i a rs (read_is ∙ ap (underlined w) f))
        by (bad g) f y z = cc

    pub off-strict : {f : Fault} {b' : List ℕ} → Says base (file w 0) 0 b (Err f) b' → strict w ≡ bad (culprit w f)
    off-strict {f} p = read_is ∙ ap (underlined w) (by (file w 0) p.told)
      where
        by : (o : Out) → Err f ≡ answer_of o 0 → o ≡ bad f
        by (ok i rs) y = cc
        by (again i rs a) y = cc
        by (bad g) y = cc

  module _ {f : Fault} (x : strict w ≡ bad f) where
    pub off-damage : DamageToWrite w base f
    off-damage =
        let r = strict-reading.refuses w f x in
        record { file = k.file; from = omega (arith, r.place.0, r.place.1); to = r.place.1 }

    -- the damage and its cause were written, or there is no room for them
    pub piece-damaged : (b₁ : List ℕ) {b' : List ℕ} → length b₁ ≡ length b → b' ≡ overlay b₁ 0 (moved base (damaged w f))
        → PutsPiece w base b (record { rows = 2; sound = false }) b'
    unfolding clean
    piece-damaged b₁ h p =
        record {
          tally = rw x refl;
          most = rw x (omega (arith, k.some));
          rows = rw x (λ l. overlay-front base (damaged w f) b₁ p (omega (arith, l)));
        }

    pub piece-unwritten : {b' : List ℕ} → length b < 8 → PutsPiece w base b (record { rows = 2; sound = false }) b'
    unfolding clean
    piece-unwritten h =
        record {
          tally = rw x refl;
          most = rw x (omega (arith, k.some));
          rows = rw x (λ l. absurd (omega (arith, l)));
        }
