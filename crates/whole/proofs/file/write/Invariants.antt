-- The invariants of `whole::file::write`.
use Prim.Native.Nat.{◌/◌, ◌≤◌}
use mathlib.Core.Path.{◌≡◌}
use lib.ListN.{length}
use Rattle.values.specs.Uses.{lent_in}
use Rattle.whole.specs.Filing.{WroteTo}
use Rattle.whole.proofs.file.write.Given as goal

abbrev pub invariant-loop-i : goal.invariant-loop-i
invariant-loop-i l = WroteTo (lent_in l.resolver) l.flags l.i l.initial.answers l.initial.chunks l.initial.text l.t l.answers l.chunks l.text
    × (l.i ≤ length l.resolver.rows.now / 4)
    × (length l.scratch ≡ length l.initial.scratch) × (length l.answers ≡ length l.initial.answers) × (length l.chunks ≡ length l.initial.chunks)
    × (length l.text ≡ length l.initial.text)
