-- What the definitions and the contracts of `pack` and `unpack` settle: theorems, the proof of which is `round_trip` of
-- proofs/RoundTrip.antt. That two outcomes which a contract allows are equal is proofs/Unique.antt.
-- Assumes nothing.
use Rattle.row.specs.declared.fault.Fault.{Fault}
use Rattle.std.specs.Prelude.{ℕ, ◌*◌, ◌/◌, ◌≤◌, ◌≡◌, true, List, ◌++◌, length, take, drop, Result, Ok}
use Rattle.row.specs.Row.{Row, flat}
use Rattle.row.specs.Limits.{most_bytes}
use Rattle.row.specs.Rules.{is_rows}
use Rattle.row.specs.Spans.{SpansIn}
use Rattle.raw.specs.Reader.{ok}
use Rattle.raw.specs.Read.{strict, Read}
use Rattle.row.specs.Numbers.{rows_of}
use Rattle.pack.specs.Digits.{Bytes}
use Rattle.pack.specs.Seven.{packing, unpacking}
use Rattle.pack.specs.Pack.{is_packable, Pack}
use Rattle.pack.specs.Unpack.{is_unpackable, Unpack}

pub record RoundTrip : Type 0 where
  -- the definitions: on all that they accept, packing and unpacking are inverse to each other
  pub rows : (l : List ℕ) → is_packable l ≡ true
      → (is_unpackable (packing (rows_of l)) ≡ true) × (flat (unpacking (packing (rows_of l))) ≡ l)
  pub bytes : (s : List ℕ) → Bytes s → is_unpackable s ≡ true
      → (is_packable (flat (unpacking s)) ≡ true) × (packing (rows_of (flat (unpacking s))) ≡ s)
  -- the contracts: unpacking what packing gave returns the same rows, in front of what the lent numbers held
  pub unpacks : (l b b' : List ℕ) (n : ℕ) → Pack l b (Ok n) b'
      → (c c' : List ℕ) (r : Result ℕ Fault) → Unpack (take n b') c r c' → length l ≤ length c
      → (r ≡ Ok (length l / 4)) × (c' ≡ l ++ drop (length l) c)
  -- packing what unpacking gave returns the same bytes, in front of what the lent bytes held
  pub packs : (s c c' : List ℕ) (n : ℕ) → Bytes s → Unpack s c (Ok n) c'
      → (b b' : List ℕ) (r : Result ℕ Fault) → Pack (take (n * 4) c') b r b' → length s ≤ length b
      → (r ≡ Ok (length s)) × (b' ≡ s ++ drop (length s) b)
  -- rows that keep the row rules, with spans that lie in a file, pack with no refusal but 16
  pub fitting : (n : ℕ) (rs : List Row) → n ≤ most_bytes → is_rows rs ≡ true → SpansIn n rs → is_packable (flat rs) ≡ true
  -- what strict reading gives packs with no refusal but 16, by its definition and by its contract
  pub strictly : (s : List ℕ) (q : ℕ) (rs : List Row) → strict s ≡ ok q rs → is_packable (flat rs) ≡ true
  pub readings : (s c c' : List ℕ) (n : ℕ) → Read s c (Ok n) c'
      → (b b' : List ℕ) (r : Result ℕ Fault) → Pack (take (n * 4) c') b r b' → n * 7 ≤ length b → r ≡ Ok (n * 7)
