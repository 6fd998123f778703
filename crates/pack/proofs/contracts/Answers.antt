-- The ways through `pack` and `unpack`, each with its answer and with what is left in the lent list.
--     pack-done, pack-full, pack-bad            the bytes are written; too few are lent; the rows are refused
--     unpack-done, unpack-full, unpack-bad      the rows are written; too few numbers are lent; the bytes are refused
-- Assumes nothing.
use Rattle.std.proofs.Common.{Ok, Err, ℕ, ◌*◌, ◌/◌, ◌≤◌, ◌<◌, ◌≡◌, true, false, List, ◌++◌, length, drop, le-leb}
use borrow.Author.Tests.{lt-leb}
use Rattle.row.specs.Row.{flat}
use Rattle.row.specs.Numbers.{rows_of}
use Rattle.row.specs.declared.fault.Reason.TheVariants.{BadRows, NoRoom}
use Rattle.row.specs.Fault.{nowhere}
use Rattle.pack.specs.Seven.{packing, unpacking}
use Rattle.pack.specs.Pack.{is_packable, bytes_for, packed_of, packed_into, Pack}
use Rattle.pack.specs.Unpack.{is_unpackable, unpacked_of, unpacked_into, Unpack}

module _ (l b : List ℕ) where
  pub pack-done : is_packable l ≡ true → bytes_for (length l) ≤ length b
      → (b' : List ℕ) → b' ≡ packing (rows_of l) ++ drop (bytes_for (length l)) b → Pack l b (Ok (bytes_for (length l))) b'
  unfolding packed_of packed_into
  pack-done p h b' e = let t = le-leb (bytes_for (length l)) (length b) h in record { answer = rw (p, t); bytes = rw (p, t) e }

  pub pack-full : is_packable l ≡ true → length b < bytes_for (length l) → Pack l b (Err (nowhere NoRoom)) b
  unfolding packed_of packed_into
  pack-full p h = let t = lt-leb (bytes_for (length l)) (length b) h in record { answer = rw (p, t); bytes = rw (p, t) }

  pub pack-bad : is_packable l ≡ false → Pack l b (Err (nowhere BadRows)) b
  unfolding packed_of packed_into
  pack-bad p = record { answer = rw p; bytes = rw p }

module _ (s b : List ℕ) where
  pub unpack-done : is_unpackable s ≡ true → length s / 7 ≤ length b / 4
      → (b' : List ℕ) → b' ≡ flat (unpacking s) ++ drop (length s / 7 * 4) b → Unpack s b (Ok (length s / 7)) b'
  unfolding unpacked_of unpacked_into
  unpack-done p h b' e = let t = le-leb (length s / 7) (length b / 4) h in record { answer = rw (p, t); rows = rw (p, t) e }

  pub unpack-full : is_unpackable s ≡ true → length b / 4 < length s / 7 → Unpack s b (Err (nowhere NoRoom)) b
  unfolding unpacked_of unpacked_into
  unpack-full p h = let t = lt-leb (length s / 7) (length b / 4) h in record { answer = rw (p, t); rows = rw (p, t) }

  pub unpack-bad : is_unpackable s ≡ false → Unpack s b (Err (nowhere BadRows)) b
  unfolding unpacked_of unpacked_into
  unpack-bad p = record { answer = rw p; rows = rw p }
