-- The proof of specs/RoundTrip.antt: `round_trip`.
-- Assumes nothing.
use Rattle.std.proofs.Common.{Result, Ok, ℕ, ◌*◌, ◌/◌, ◌%◌, ◌≤◌, arith, ◌≡◌, ap, ◌∙◌, subst, true, List, ◌++◌, length, take, drop, take_at}
use Rattle.row.specs.declared.fault.Fault.{Fault}
use Rattle.row.specs.Row.{flat}
use Rattle.row.specs.Numbers.{rows_of}
use Rattle.row.proofs.Laid.{laid}
use Rattle.pack.specs.Digits.{Bytes}
use Rattle.pack.specs.Seven.{packing, unpacking}
use Rattle.pack.specs.Pack.{is_packable, bytes_for, Pack}
use Rattle.pack.specs.Unpack.{is_unpackable, Unpack}
use Rattle.pack.specs.RoundTrip.{RoundTrip}
use Rattle.pack.proofs.bytes.SevenBytes.{unpacking-length}
use Rattle.pack.proofs.bytes.AcceptedInput.{packable, packable-seven, unpackable, ends-of-spans, spans-of-ends, flat-packable}
use Rattle.pack.proofs.bytes.Inverse.{packs-back, packing-length, unpacks-back}
use Rattle.pack.proofs.contracts.KnownAnswers.{pack-told, pack-gives, unpack-told, unpack-gives}
use Rattle.pack.proofs.contracts.StrictPacks.{fitting, strictly, readings}

-- ---- the definitions

rows : (l : List ℕ) → is_packable l ≡ true
    → (is_unpackable (packing (rows_of l)) ≡ true) × (flat (unpacking (packing (rows_of l))) ≡ l)
unfolding is_unpackable
rows l p =
    let k = packable l p in
    let x = packs-back (rows_of l) (packable-seven l k) in
    let e : length (packing (rows_of l)) % 7 ≡ 0 = omega (arith, packing-length (rows_of l)) in
    (rw (e, x, k.rules) (ends-of-spans (rows_of l) k.spans), ap flat x ∙ laid.flat_rows l k.count)

bytes : (s : List ℕ) → Bytes s → is_unpackable s ≡ true
    → (is_packable (flat (unpacking s)) ≡ true) × (packing (rows_of (flat (unpacking s))) ≡ s)
bytes s w p =
    let k = unpackable s p in
    (flat-packable (unpacking s) k.rules (spans-of-ends s k.ends), ap packing (laid.rows-flat (unpacking s)) ∙ unpacks-back s w k.count)

-- ---- the round trips

unpacks : (l b b' : List ℕ) (n : ℕ) → Pack l b (Ok n) b'
    → (c c' : List ℕ) (r : Result ℕ Fault) → Unpack (take n b') c r c' → length l ≤ length c
    → (r ≡ Ok (length l / 4)) × (c' ≡ l ++ drop (length l) c)
unpacks l b b' n p c c' r u h =
    let t = pack-told l b b' n p in
    let k = packable l t.fits in
    let d = rows l t.fits in
    let m : length (packing (rows_of l)) ≡ n = omega (arith, packing-length (rows_of l), laid.rows-length l, t.size) in
    let x : take n b' ≡ packing (rows_of l) = ap (take n) t.left ∙ take_at (packing (rows_of l)) (drop n b) n m in
    let e₀ : length (packing (rows_of l)) / 7 ≡ length l / 4 = omega (arith, packing-length (rows_of l), laid.rows-length l) in
    let e₁ : length l / 4 * 4 ≡ length l = omega (arith, k.count) in
    let g = unpack-gives (packing (rows_of l)) c c' r d.0 (omega (arith, e₀)) (subst (λ (s : List ℕ). Unpack s c r c') x u) in
    (g.0 ∙ ap Ok e₀, g.1 ∙ rw (d.1, e₀, e₁))

packs : (s c c' : List ℕ) (n : ℕ) → Bytes s → Unpack s c (Ok n) c'
    → (b b' : List ℕ) (r : Result ℕ Fault) → Pack (take (n * 4) c') b r b' → length s ≤ length b
    → (r ≡ Ok (length s)) × (b' ≡ s ++ drop (length s) b)
packs s c c' n w u b b' r p h =
    let t = unpack-told s c c' n u in
    let k = unpackable s t.fits in
    let d = bytes s w t.fits in
    let m : length (flat (unpacking s)) ≡ n * 4 = omega (arith, laid.flat-length (unpacking s), unpacking-length s, t.size) in
    let x : take (n * 4) c' ≡ flat (unpacking s) = ap (take (n * 4)) t.left ∙ take_at (flat (unpacking s)) (drop (n * 4) c) (n * 4) m in
    let e : bytes_for (length (flat (unpacking s))) ≡ length s = omega (arith, laid.flat-length (unpacking s), unpacking-length s, k.count) in
    let g = pack-gives (flat (unpacking s)) b b' r d.0 (omega (arith, e)) (subst (λ (l : List ℕ). Pack l b r b') x p) in
    (g.0 ∙ ap Ok e, g.1 ∙ rw (d.1, e))

pub round_trip : RoundTrip
round_trip =
    record {
      rows = rows;
      bytes = bytes;
      unpacks = unpacks;
      packs = packs;
      fitting = fitting;
      strictly = strictly;
      readings = readings;
    }
