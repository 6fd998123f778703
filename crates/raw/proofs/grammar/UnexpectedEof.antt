-- The laws of readers that refuse with `UnexpectedEof`: where no character is seen, or where no value begins.
--     when-any, sees-any      a reader that goes on at any character, which it eats or not, and refuses at the end of the text
--     value-laws              a reader that goes on where a value begins, and refuses where none does
-- Assumes nothing.
use Rattle.std.proofs.Common.{arith, ℕ, ◌≡◌, refl, false, List}
use Rattle.text.specs.Class.{is_id_start, holds_of}
use Rattle.text.specs.Scan.{see}
use Rattle.text.specs.declared.class.Test.TheVariants as test
use Rattle.text.proofs.Seeing.{seeing}
use Rattle.row.specs.declared.fault.Reason.TheVariants.{UnexpectedEof}
use Rattle.row.specs.Fault.{fault_at}
use Rattle.row.specs.Row.{Row}
use Rattle.raw.specs.Reader.{Out, bad, Reader, refuse, when, sees}
use Rattle.raw.specs.Grammar.{is, any}
use Rattle.raw.specs.Strict.{begins_value}
use Rattle.raw.proofs.readers.Trace.{here, Traced, eat-traced}
use Rattle.raw.proofs.readers.Kept.{refuse-kept, eaten-holds, when-kept, sees-kept}
use Rattle.raw.proofs.readers.Shifts.{refuse-shifts, when-shifts, sees-shifts}
use Rattle.raw.proofs.readers.Points.{Order, Point, ate, RouteOut, refuses, eat-route}
use Rattle.raw.proofs.grammar.Early.{EarlyOut, eaten-else, any-early, no_value}
use Rattle.raw.proofs.grammar.Laws.{Laws}

eof-traced : (s : List ℕ) (p : ℕ) → Traced s p (refuse UnexpectedEof s p)
eof-traced s p = record { place = here; empty = refl; least = omega arith; most = omega arith }

module _ {O : Order Row} {σ α ω : Point O} where
  pub when-any : {f : Reader} → Laws (ate σ) α ω f → Laws σ α ω (when any f (refuse UnexpectedEof))
  when-any {f} F =
      record {
        core = record {
          kept = when-kept any F.core.kept (refuse-kept UnexpectedEof) (omega arith);
          route = λ s p.
              eaten-holds (RouteOut σ α ω p) any (see s p) (f s) (bad (fault_at UnexpectedEof p))
              (λ k n x. eat-route (seeing.see-ahead s p k n x).0 (F.core.route s n)) refuses;
          early = λ s p. any-early s p (f s) (F.core.early s);
        };
        traced = λ s p.
            eaten-holds (Traced s p) any (see s p) (f s) (bad (fault_at UnexpectedEof p))
            (λ k n x. eat-traced s p k n (f s n) x (F.traced s n)) (eof-traced s p);
        shift = λ x. when-shifts x any (F.shift x) (refuse-shifts UnexpectedEof);
      }

  pub sees-any : {f : Reader} → Laws σ α ω f → Laws σ α ω (sees any f (refuse UnexpectedEof))
  sees-any {f} F =
      record {
        core = record {
          kept = sees-kept any F.core.kept (refuse-kept UnexpectedEof) (omega arith);
          route = λ s p.
              eaten-holds (RouteOut σ α ω p) any (see s p) (λ n. f s p) (bad (fault_at UnexpectedEof p)) (λ k n x. F.core.route s p) refuses;
          early = λ s p. any-early s p (λ n. f s p) (λ n. F.core.early s p);
        };
        traced = λ s p.
            eaten-holds (Traced s p) any (see s p) (λ n. f s p) (bad (fault_at UnexpectedEof p)) (λ k n x. F.traced s p) (eof-traced s p);
        shift = λ x. sees-shifts x any (F.shift x) (refuse-shifts UnexpectedEof);
      }

-- the reader tries all that a value may begin with, and then refuses
module _ {O : Order Row} {σ α ω : Point O} {f g h k : Reader}
    (F : Laws σ α ω f) (G : Laws σ α ω g) (H : Laws σ α ω h) (K : Laws σ α ω k) where
  abbrev begins : Reader
  begins = sees (holds_of test.Digit) f (sees is_id_start g (sees (is 0x7B) h (sees (is 0x22) k (refuse UnexpectedEof))))

  -- R holds of the whole if it holds of each of the four readers, and of the refusal where no value begins
  value-by : (R : Out → Type 0) (s : List ℕ) (p : ℕ) → R (f s p) → R (g s p) → R (h s p) → R (k s p)
      → (begins_value (see s p) ≡ false → R (bad (fault_at UnexpectedEof p))) → R (begins s p)
  value-by R s p x y z u w =
      let c = see s p in
      eaten-else R (holds_of test.Digit) c _ _ (λ n. x) (λ d. eaten-else R is_id_start c _ _ (λ n. y) (λ i.
      eaten-else R (is 0x7B) c _ _ (λ n. z) (λ b. eaten-else R (is 0x22) c _ _ (λ n. u) (λ q. w (no_value c d i b q)))))

  pub value-laws : Laws σ α ω begins
  value-laws =
      record {
        core = record {
          kept =
              sees-kept (holds_of test.Digit) F.core.kept (sees-kept is_id_start G.core.kept (sees-kept (is 0x7B) H.core.kept
              (sees-kept (is 0x22) K.core.kept (refuse-kept UnexpectedEof) (omega arith)) (omega arith)) (omega arith)) (omega arith);
          route = λ s p.
              value-by (RouteOut σ α ω p) s p (F.core.route s p) (G.core.route s p) (H.core.route s p) (K.core.route s p) (λ e. refuses);
          early = λ s p. value-by (EarlyOut s) s p (F.core.early s p) (G.core.early s p) (H.core.early s p) (K.core.early s p) (λ e x. e);
        };
        traced = λ s p. value-by (Traced s p) s p (F.traced s p) (G.traced s p) (H.traced s p) (K.traced s p) (λ e. eof-traced s p);
        shift = λ x.
            sees-shifts x (holds_of test.Digit) (F.shift x) (sees-shifts x is_id_start (G.shift x) (sees-shifts x (is 0x7B) (H.shift x)
            (sees-shifts x (is 0x22) (K.shift x) (refuse-shifts UnexpectedEof))));
      }
