-- Points of a reading. A point says how many bytes were eaten, how many of these no row has taken yet, and which rows may come next.
-- A reader leads from one point to another, as a program does from what it requires to what it ensures; so the laws of readers that
-- follow each other compose, and nothing is added up. Every row takes a byte: a text has no more rows than bytes. Of parts of any type.
--     Order, Point, at, ate, onward       the definitions
--     AtLeast                             one point offers what another asks: `same`, `back`, `past`, `far`, `fewer`, `wider`
--     Route, RouteOut                     a way from one point at a place to another point at another place, with these parts; and of an answer
--     Takes                               a row leads from what is awaited before it to what is awaited after it
-- Assumes nothing.
use Rattle.std.proofs.Common.{ℕ, zero, suc, ◌+◌, ◌≤◌, ◌<◌, arith, ◌≡◌, sym, subst, List, [], ◌∷◌, ◌++◌, length, length-append}
use Rattle.row.specs.declared.fault.Fault.{Fault}
use Rattle.row.specs.Row.{Row, Mark, marked}
use Rattle.raw.specs.Reader.{OutOf, ok, again, bad, ReaderOf, Out, more, and_then, after, under, loop}

-- ---- the definitions

-- which parts may follow each other: a state, and the state after a list of parts
pub record Order (T : Type 0) : Type 1 where
  pub State : Type 0
  pub run : State → List T → State
  pub run_none : (a : State) → run a [] ≡ a
  pub run-append : (a : State) (rs ss : List T) → run a (rs ++ ss) ≡ run (run a rs) ss

pub record Point {T : Type 0} (O : Order T) : Type 1 where
  -- bytes eaten, and those among them that no row has taken
  pub eaten : ℕ
  pub spare : ℕ
  pub awaits : O.State → Type 0

module _ {T : Type 0} {O : Order T} where
  abbrev pub at : ℕ → ℕ → (O.State → Type 0) → Point O
  at e n P = record { eaten = e; spare = n; awaits = P }

  -- `ate` is a byte further, which no row has taken yet; `onward` is a byte further, which a row has taken
  abbrev pub ate : Point O → Point O
  ate σ = at (suc σ.eaten) (suc σ.spare) σ.awaits

  abbrev pub onward : Point O → Point O
  onward σ = at (suc σ.eaten) σ.spare σ.awaits

  -- σ offers what τ asks
  pub record AtLeast (σ τ : Point O) : Type 0 where
    pub eaten : τ.eaten ≤ σ.eaten
    pub spare : τ.spare ≤ σ.spare
    pub awaits : (a : O.State) → σ.awaits a → τ.awaits a

  -- from the point σ at the place p to the point ω at the place q, with these parts
  pub record Route (σ ω : Point O) (p q : ℕ) (rs : List T) : Type 0 where
    pub eats : p + ω.eaten ≤ q + σ.eaten
    pub pays : length rs + p + ω.spare ≤ q + σ.spare
    pub follows : (a : O.State) → σ.awaits a → ω.awaits (O.run a rs)

  -- an answer that says `again` leads to α, and one that is done leads to ω
  pub data RouteOut (σ α ω : Point O) (p : ℕ) : OutOf T → Type 0 where
    done : {q : ℕ} {rs : List T} → Route σ ω p q rs → RouteOut σ α ω p (ok q rs)
    goes : {q a : ℕ} {rs : List T} → Route σ α p q rs → RouteOut σ α ω p (again q rs a)
    refuses : {f : Fault} → RouteOut σ α ω p (bad f)

  -- ---- points that offer at least what others ask

  pub wider : {e e' n n' : ℕ} {P P' : O.State → Type 0} → (e' ≤ e) × (n' ≤ n) → ((a : O.State) → P a → P' a)
      → AtLeast (at e n P) (at e' n' P')
  wider k h = record { eaten = k.0; spare = k.1; awaits = h }

  pub fewer : {e e' n n' : ℕ} {P : O.State → Type 0} → (e' ≤ e) × (n' ≤ n) → AtLeast (at e n P) (at e' n' P)
  fewer k = wider k (λ a x. x)

  pub same : {σ : Point O} → AtLeast σ σ
  same = fewer (omega arith)

  pub back : {σ : Point O} → AtLeast (ate σ) σ
  back = fewer (omega arith)

  pub past : {σ : Point O} → AtLeast (ate σ) (onward σ)
  past = fewer (omega arith)

  pub far : {σ : Point O} → AtLeast (ate (ate σ)) (onward σ)
  far = fewer (omega arith)

  -- ---- routes

  pub stay : {σ τ : Point O} (p : ℕ) → AtLeast σ τ → Route σ τ p p []
  stay {σ} {τ} p h =
      record {
        eats = omega (arith, h.eaten);
        pays = omega (arith, h.spare);
        follows = λ a x. subst τ.awaits (sym (O.run_none a)) (h.awaits a x);
      }

  pub join : {σ τ ω : Point O} {p q r : ℕ} {rs ss : List T} → Route σ τ p q rs → Route τ ω q r ss → Route σ ω p r (rs ++ ss)
  join {ω = ω} {rs = rs} {ss = ss} x y =
      record {
        eats = omega (arith, x.eats, y.eats);
        pays = omega (arith, x.pays, y.pays, length-append rs ss);
        follows = λ a h. subst ω.awaits (sym (O.run-append a rs ss)) (y.follows _ (x.follows a h));
      }

  pub less : {σ τ ω : Point O} {p q : ℕ} {rs : List T} → AtLeast τ ω → Route σ τ p q rs → Route σ ω p q rs
  less h x =
      record {
        eats = omega (arith, h.eaten, x.eats);
        pays = omega (arith, h.spare, x.pays);
        follows = λ a y. h.awaits _ (x.follows a y);
      }

  -- a route from behind a byte is one from before it
  byte : {σ ω : Point O} {p n q : ℕ} {rs : List T} → p < n → Route (ate σ) ω n q rs → Route σ ω p q rs
  byte h x = record { eats = omega (arith, x.eats); pays = omega (arith, x.pays); follows = x.follows }

  -- ---- routes of answers

  module _ {α ω : Point O} where
    pub eat-route : {σ : Point O} {p n : ℕ} {o : OutOf T} → p < n → RouteOut (ate σ) α ω n o → RouteOut σ α ω p o
    eat-route h (done x) = done (byte h x)
    eat-route h (goes x) = goes (byte h x)
    eat-route h refuses = refuses

    more-route : {σ τ : Point O} {p q : ℕ} {rs : List T} {o : OutOf T} → Route σ τ p q rs → RouteOut τ α ω q o → RouteOut σ α ω p (more rs o)
    more-route x (done y) = done (join x y)
    more-route x (goes y) = goes (join x y)
    more-route x refuses = refuses

    pub chain-route : {σ τ : Point O} {p : ℕ} {o : OutOf T} (g : ℕ → OutOf T) → RouteOut σ τ τ p o → ((q : ℕ) → RouteOut τ α ω q (g q))
        → RouteOut σ α ω p (and_then o g)
    chain-route g (done {q} x) G = more-route x (G q)
    chain-route g (goes {q} x) G = more-route x (G q)
    chain-route g refuses G = refuses

    pub less-route : {σ ω' : Point O} {p : ℕ} {o : OutOf T} → AtLeast ω ω' → RouteOut σ α ω p o → RouteOut σ α ω' p o
    less-route h (done x) = done (less h x)
    less-route h (goes x) = goes x
    less-route h refuses = refuses

    -- a turn that goes on leads from σ to σ again
    after-route : {σ : Point O} {p : ℕ} {o : OutOf T} (g : ℕ → ℕ → OutOf T) → RouteOut σ (onward σ) ω p o
        → ((b q : ℕ) → RouteOut σ α ω q (g b q)) → RouteOut σ α ω p (after o g)
    after-route g (done x) G = done x
    after-route g (goes {q} {a} x) G = more-route (less (fewer (omega arith)) x) (G a q)
    after-route g refuses G = refuses

    pub loop-route : {σ : Point O} (f : ℕ → ReaderOf T) → ((a : ℕ) (s : List ℕ) (p : ℕ) → RouteOut σ (onward σ) ω p (f a s p))
        → (s : List ℕ) (n a p : ℕ) → RouteOut σ α ω p (loop f n a s p)
    unfolding loop
    loop-route f F s zero a p = refuses
    loop-route f F s (suc n) a p = after-route (λ b q. loop f n b s q) (F a s p) (loop-route f F s n)

-- ---- rows

-- a row of the mark m leads from P to P'
pub record Takes (O : Order Row) (m : Mark) (P P' : O.State → Type 0) : Type 0 where
  pub takes : (a : O.State) (x y : ℕ) → P a → P' (O.run a (marked m x y ∷ []))

module _ {O : Order Row} {P P' : O.State → Type 0} {e n : ℕ} {m : Mark} (t : Takes O m P P') where
  -- a row takes a byte
  lay : {ω : Point O} {p q x y : ℕ} {rs : List Row} → Route (at e n P') ω p q rs → Route (at e (suc n) P) ω p q (marked m x y ∷ rs)
  lay {ω} {x = x} {y = y} {rs = rs} h =
      record {
        eats = omega (arith, h.eats);
        pays = omega (arith, h.pays);
        follows = λ a z. subst ω.awaits (sym (O.run-append a (marked m x y ∷ []) rs)) (h.follows _ (t.takes a x y z));
      }

  pub under-route : {α ω : Point O} {p : ℕ} {o : Out} (x : ℕ) → RouteOut (at e n P') α ω p o → RouteOut (at e (suc n) P) α ω p (under (marked m x) o)
  under-route x (done h) = done (lay h)
  under-route x (goes h) = goes (lay h)
  under-route x refuses = refuses

  pub put-route : {α : Point O} {p x y : ℕ} → RouteOut (at e (suc n) P) α (at e n P') p (ok p (marked m x y ∷ []))
  put-route {p = p} = done (lay (stay p same))
