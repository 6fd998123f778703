-- All laws of a reader in one record, which the ways to make readers preserve. A reader's laws are proved by writing its definition once
-- more, with these laws in place of the combinators.
--     Core        the laws that also hold of a reader that is given places of the text, as `put` and `over_from` are
--     Laws        these, and two more of a reader that is given none: its rows stand over what it ate, and it moves with its text
--     put-core, from-core, then-core, less-core      `Core` of readers that are given places
--     stop-laws, turn-laws, refuse-laws, when-laws, sees-laws, _then-laws_, over-laws, many-laws, need-laws, scan-laws
--                                 `Laws` of what each combinator makes, from those of its parts
--     less-laws, same-laws        `Laws` to a point that asks less; of a reader that answers the same
--     going                       a turn that says `again` has eaten
-- Readers that refuse with `UnexpectedEof` are in UnexpectedEof.antt.
-- Assumes nothing.
use Rattle.std.proofs.Common.{ℕ, suc, ◌+◌, ◌≤◌, arith, ◌≡◌, refl, sym, ap, ◌∙◌, subst, Bool, false, List, ◌++◌, length, eqb}
use Rattle.text.specs.Scan.{see}
use Rattle.text.proofs.Seeing.{seeing}
use Rattle.row.specs.declared.fault.Reason.{Reason}
use Rattle.row.specs.Fault.{number_of}
use Rattle.row.specs.Row.{Row, Mark, marked, kind_of}
use Rattle.raw.specs.Reader.{Out, Reader, stop, turn, refuse, ◌then◌, over, over_from, put, when, sees, many, scan}
use Rattle.raw.specs.Grammar.{need}
use Rattle.raw.specs.Strict.{shifted, Stops}
use Rattle.raw.proofs.readers.Trace.{here, none, Traced, eat-traced, chain-traced, lay-traced}
use Rattle.raw.proofs.readers.Kept.{Advances, Kept, stop-kept, turn-kept, refuse-kept, put-kept, eaten-holds, when-kept, sees-kept}
use Rattle.raw.proofs.readers.Then.{then-kept, over-kept, from-kept}
use Rattle.raw.proofs.readers.Loop.{many-kept, loop-traced}
use Rattle.raw.proofs.readers.Shifts.{Shifts, stop-shifts, turn-shifts, refuse-shifts, when-shifts, sees-shifts, then-shifts, over-shifts}
use Rattle.raw.proofs.readers.Shifts.{many-shifts}
use Rattle.raw.proofs.readers.Points.{Order, Point, at, ate, onward, AtLeast, same, past, RouteOut, done, goes, refuses, Takes, stay}
use Rattle.raw.proofs.readers.Points.{eat-route}
use Rattle.raw.proofs.readers.Points.{chain-route, less-route, loop-route, under-route, put-route}
use Rattle.raw.proofs.grammar.Early.{EarlyOut, chain-early, under-early, loop-early}

-- ---- the definitions

-- the reader leads from the point σ to α where it says `again`, and to ω where it is done
pub record Core {O : Order Row} (σ α ω : Point O) (f : Reader) : Type 0 where
  pub kept : Kept 0 0 1 f
  pub route : (s : List ℕ) (p : ℕ) → RouteOut σ α ω p (f s p)
  pub early : (s : List ℕ) (p : ℕ) → EarlyOut s (f s p)

pub record Laws {O : Order Row} (σ α ω : Point O) (f : Reader) : Type 0 where
  pub core : Core σ α ω f
  pub traced : (s : List ℕ) (p : ℕ) → Traced s p (f s p)
  pub shift : (x : List ℕ) → Shifts x f f

-- ---- readers that are given places of the text

module _ {O : Order Row} where
  pub then-core : {σ τ α ω : Point O} {f g : Reader} → Core σ τ τ f → Core τ α ω g → Core σ α ω (f then g)
  then-core {f = f} {g = g} F G =
      record {
        kept = then-kept F.kept G.kept (omega arith);
        route = λ s p. chain-route (g s) (F.route s p) (G.route s);
        early = λ s p. chain-early s (f s p) (g s) (F.early s p) (G.early s);
      }

  module _ {P P' : O.State → Type 0} {e n : ℕ} {α : Point O} {m : Mark} (t : Takes O m P P') where
    pub put-core : (x y : ℕ) → Core (at e (suc n) P) α (at e n P') (put m x y)
    put-core x y = record { kept = put-kept m x y; route = λ s p. put-route t; early = λ s p. tt }

    pub from-core : {ω : Point O} (x : ℕ) {f : Reader} → Core (at e n P') α ω f → Core (at e (suc n) P) α ω (over_from m x f)
    from-core x {f} F =
        record {
          kept = from-kept m x F.kept;
          route = λ s p. under-route t x (F.route s p);
          early = λ s p. under-early s (marked m x) (f s p) (F.early s p);
        }

  pub less-core : {σ α ω ω' : Point O} {f : Reader} → Core σ α ω f → AtLeast ω ω' → Core σ α ω' f
  less-core F h = record { kept = F.kept; route = λ s p. less-route h (F.route s p); early = F.early }

-- ---- readers that are not made of others

-- a reason that readers give where something else stands: 01's numbers 4 to 10
abbrev pub Met : Reason → Type 0
Met reason = (4 ≤ number_of reason) × (number_of reason ≤ 10)

pub stop-laws : {O : Order Row} {σ α : Point O} → Laws σ α σ stop
stop-laws =
    record {
      core = record { kept = stop-kept; route = λ s p. done (stay p same); early = λ s p. tt };
      traced = λ s p. none;
      shift = λ x. stop-shifts;
    }

module _ {O : Order Row} {σ α ω : Point O} where
  pub turn-laws : (a : ℕ) → AtLeast σ α → Laws σ α ω (turn a)
  turn-laws a h =
      record {
        core = record { kept = turn-kept a; route = λ s p. goes (stay p h); early = λ s p. tt };
        traced = λ s p. none;
        shift = λ x. turn-shifts a;
      }

  pub refuse-laws : (reason : Reason) → Met reason → Laws σ α ω (refuse reason)
  refuse-laws reason m =
      record {
        core = record { kept = refuse-kept reason; route = λ s p. refuses; early = λ s p e. absurd (omega (arith, m.0)) };
        traced = λ s p. record { place = here; empty = refl; least = omega (arith, m.0); most = m.1 };
        shift = λ x. refuse-shifts reason;
      }

  -- ---- readers that look at a character

  pub when-laws : (t : ℕ → Bool) {f g : Reader} → Laws (ate σ) α ω f → Laws σ α ω g → Laws σ α ω (when t f g)
  when-laws t {f} {g} F G =
      record {
        core = record {
          kept = when-kept t F.core.kept G.core.kept (omega arith);
          route = λ s p.
              eaten-holds (RouteOut σ α ω p) t (see s p) (f s) (g s p)
              (λ k n x. eat-route (seeing.see-ahead s p k n x).0 (F.core.route s n)) (G.core.route s p);
          early = λ s p. eaten-holds (EarlyOut s) t (see s p) (f s) (g s p) (λ k n x. F.core.early s n) (G.core.early s p);
        };
        traced = λ s p. eaten-holds (Traced s p) t (see s p) (f s) (g s p) (λ k n x. eat-traced s p k n (f s n) x (F.traced s n)) (G.traced s p);
        shift = λ x. when-shifts x t (F.shift x) (G.shift x);
      }

  pub sees-laws : (t : ℕ → Bool) {f g : Reader} → Laws σ α ω f → Laws σ α ω g → Laws σ α ω (sees t f g)
  sees-laws t {f} {g} F G =
      record {
        core = record {
          kept = sees-kept t F.core.kept G.core.kept (omega arith);
          route = λ s p. eaten-holds (RouteOut σ α ω p) t (see s p) (λ n. f s p) (g s p) (λ k n x. F.core.route s p) (G.core.route s p);
          early = λ s p. eaten-holds (EarlyOut s) t (see s p) (λ n. f s p) (g s p) (λ k n x. F.core.early s p) (G.core.early s p);
        };
        traced = λ s p. eaten-holds (Traced s p) t (see s p) (λ n. f s p) (g s p) (λ k n x. F.traced s p) (G.traced s p);
        shift = λ x. sees-shifts x t (F.shift x) (G.shift x);
      }

-- ---- readers made of others

-- a turn that says `again` has eaten
module _ {O : Order Row} {σ ω : Point O} where
  turn-advances : {p : ℕ} (n : ℕ) {o : Out} → RouteOut σ (onward σ) ω p o → Advances 0 0 p n o → Advances 1 0 p n o
  turn-advances n (done x) y = y
  turn-advances n (goes x) y = omega (arith, x.eats)
  turn-advances n refuses y = tt

  pub going : {f : Reader} → Laws σ (onward σ) ω f → Kept 1 0 1 f
  going F =
      record {
        advances = λ s p. turn-advances (length s) (F.core.route s p) (F.core.kept.advances s p);
        local = F.core.kept.local;
      }

module _ {O : Order Row} {α ω : Point O} where
  infixr 20 ◌then-laws◌
  pub ◌then-laws◌ : {σ τ : Point O} {f g : Reader} → Laws σ τ τ f → Laws τ α ω g → Laws σ α ω (f then g)
  ◌then-laws◌ {f = f} {g = g} F G =
      record {
        core = then-core F.core G.core;
        traced = λ s p. chain-traced s p (f s p) (g s) (F.traced s p) (G.traced s);
        shift = λ x. then-shifts (F.shift x) (G.shift x);
      }

  -- a row that is no damage row
  pub over-laws : {P P' : O.State → Type 0} {e n : ℕ} {m : Mark} {f : Reader} → eqb (kind_of m.kind) 9 ≡ false → Takes O m P P'
      → Laws (at e n P') α ω f → Laws (at e (suc n) P) α ω (over m f)
  over-laws {m = m} {f = f} d t F =
      record {
        core = record {
          kept = over-kept m F.core.kept;
          route = λ s p. under-route t p (F.core.route s p);
          early = λ s p. under-early s (marked m p) (f s p) (F.core.early s p);
        };
        traced = λ s p. lay-traced s p m (f s p) d (F.traced s p);
        shift = λ x. over-shifts m (F.shift x);
      }

  pub many-laws : {σ : Point O} {f : ℕ → Reader} → ((a : ℕ) → Laws σ (onward σ) ω (f a)) → (a : ℕ) → Laws σ α ω (many f a)
  unfolding many
  many-laws {f = f} F a =
      record {
        core = record {
          kept = many-kept (λ a. going (F a)) a;
          route = λ s p. loop-route f (λ a. (F a).core.route) s (suc (length s)) a p;
          early = λ s p. loop-early (λ a. going (F a)) (λ a. (F a).core.early) s (suc (length s)) a p (omega arith);
        };
        traced = λ s p. loop-traced f (λ a. (F a).traced) s (suc (length s)) a p;
        shift = λ x. many-shifts (λ a. going (F a)) x (λ a. (F a).shift x) a;
      }

  pub less-laws : {σ ω' : Point O} {f : Reader} → Laws σ α ω f → AtLeast ω ω' → Laws σ α ω' f
  less-laws F h = record { core = less-core F.core h; traced = F.traced; shift = F.shift }

  -- a reader that answers like one that has the laws
  pub same-laws : {σ : Point O} {f : Reader} (g : Reader) → Laws σ α ω f → ((s : List ℕ) (p : ℕ) → f s p ≡ g s p) → Laws σ α ω g
  same-laws {σ} g F u =
      record {
        core = record {
          kept = record {
            advances = λ s p. subst (Advances 0 0 p (length s)) (u s p) (F.core.kept.advances s p);
            local = λ s t p q h i e.
                sym (u t p) ∙ F.core.kept.local s t p q (subst (λ (o : Out). Stops o q) (sym (u s p)) h) i e ∙ u s p;
          };
          route = λ s p. subst (RouteOut σ α ω p) (u s p) (F.core.route s p);
          early = λ s p. subst (EarlyOut s) (u s p) (F.core.early s p);
        };
        traced = λ s p. subst (Traced s p) (u s p) (F.traced s p);
        shift = λ x. record { moves = λ s p. sym (u (x ++ s) (p + length x)) ∙ (F.shift x).moves s p ∙ ap (shifted (length x)) (u s p) };
      }

module _ {O : Order Row} {σ α : Point O} where
  pub need-laws : (t : ℕ → Bool) (reason : Reason) → Met reason → Laws σ α (ate σ) (need t reason)
  need-laws t reason m = when-laws t stop-laws (refuse-laws reason m)

  pub scan-laws : (t : ℕ → Bool) → Laws σ α σ (scan t)
  scan-laws t = many-laws (λ a. when-laws t (turn-laws a past) stop-laws) 0
