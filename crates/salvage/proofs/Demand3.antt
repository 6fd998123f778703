-- The proof of specs/Demand3.antt: `demand3`.
-- Assumes nothing.
use Rattle.std.proofs.Common.{ℕ, ◌+◌, ◌≤◌, arith, ◌≡◌, sym, subst, ◌↔◌, true, List, length}
use Rattle.row.specs.Limits.{most_bytes}
use Rattle.row.specs.Row.{Row}
use Rattle.row.specs.Rules.{is_rows, clean}
use Rattle.row.specs.Spans.{SpansIn}
use Rattle.raw.specs.Strict.{Rising}
use Rattle.raw.proofs.Strict.{strict-reading}
use Rattle.salvage.specs.Salvage.{cut, salvage_of}
use Rattle.salvage.specs.Demand3.{joined, Whole, Demand3}
use Rattle.salvage.proofs.cutting.PiecesAppend.{joined-cut, salvage-append}
use Rattle.salvage.proofs.rows.EachPiece.{each, calls, call-short, call-answered}
use Rattle.salvage.proofs.cutting.PiecesAtBoundaries.{begins, cuts}
use Rattle.salvage.proofs.rows.Order.{pieces-rules, pieces-spans, pieces-rising}
use Rattle.salvage.proofs.rows.RowCount.{salvage-few}
use Rattle.salvage.proofs.rows.Undamaged.{accepts, opened, same_rows}

undamaged : (s : List ℕ) → length s ≤ most_bytes → (clean (salvage_of s) ≡ true) ↔ ((rs : List Row) × Whole s rs)
undamaged s h = (
  λ k. (salvage_of s, record { accepts = accepts s h k; opens = λ e x. opened s h k x }),
  λ v.
      subst (λ (rs : List Row). clean rs ≡ true) (sym (same_rows s v.0 v.1))
      (strict-reading.accepts s (length s) v.0 v.1.accepts).undamaged,
)

checked : (s : List ℕ) → length s ≤ most_bytes → is_rows (salvage_of s) ≡ true
unfolding salvage_of
checked s h = pieces-rules 0 (cut s) (rw (joined-cut s) h)

rising : (s : List ℕ) → Rising 0 (salvage_of s)
unfolding salvage_of
rising s = pieces-rising 0 (cut s)

inside : (s : List ℕ) → SpansIn (length s) (salvage_of s)
unfolding salvage_of
inside s =
    let e : 0 + length (joined (cut s)) ≡ length s = rw (joined-cut s) (omega arith) in
    subst (λ (n : ℕ). SpansIn n (salvage_of s)) e (pieces-spans 0 (cut s))

pub demand3 : Demand3
demand3 =
    record {
      parts = salvage-append;
      calls = calls;
      whole = joined-cut;
      begins = λ s ws w vs. begins (length s) s ws w vs (omega arith);
      cuts = λ s n. cuts s;
      each = each;
      undamaged = undamaged;
      strictly = same_rows;
      shows = λ s b b' n c. let h = call-short s b b' n c in (salvage_of s, call-answered s b b' n h c, undamaged s h, same_rows s);
      checked = checked;
      rising = rising;
      inside = inside;
      few = salvage-few;
    }
