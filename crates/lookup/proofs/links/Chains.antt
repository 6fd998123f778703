-- The index over numbered things.
--     link-none, link-in, link-out                 the index of nothing; one thing more in front; a thing that is in no bucket
--     chain-rises                                  a bucket's chain is its things, from the first to the last
--     Going, going-starts, going_on, going-ends    a search along a chain: it misses nothing that it seeks
--     left, left-most, going_less                  how far the search can still go
-- Assumes nothing.
use Rattle.std.proofs.Common.{ℕ, zero, suc, ◌+◌, ◌-◌, ◌≤◌, ◌<◌, arith, ◌≡◌, refl, sym, ◌∙◌, Bool, true, false, cond, true≢false, List, ◌∷◌, length}
use Rattle.std.proofs.Common.{get_or, set, replicate, length-set, get_or-set_same, get_or-set_other, eqb, ltb, eqb-true, lt-ltb, ltb-true}
use Rattle.std.proofs.lemmas.Bool.{eqb-false}
use Rattle.std.proofs.lemmas.List.{length-replicate, get_or-replicate}
use Rattle.lookup.specs.Buckets.{first_of, first_from, Linked, rising, Chain}
use Rattle.lookup.proofs.links.First.{Own, first-end, first-here, first-not, first-own, first-reaches}

-- ---- one thing after the other, from the last to the first

module _ (q : ℕ → ℕ → Bool) (n : ℕ) where
  pub link-none : (m : ℕ) (next : List ℕ) → Linked q n n (replicate m 0) next
  link-none m next =
      record {
        head = λ b h. get_or-replicate m b 0 0 (omega (arith, length-replicate {A = ℕ} m 0)) ∙ sym (first-end (q b) n n (omega arith));
        link = λ b j h k e. absurd (omega arith);
      }

module _ (q : ℕ → ℕ → Bool) (n i : ℕ) (below : i < n) (heads next : List ℕ) (l : Linked q n (suc i) heads next) where
  pub link-out : ((b : ℕ) → q b i ≡ false) → Linked q n i heads next
  link-out o = record { head = λ b h. l.head b h ∙ sym (first-not (q b) n i below (o b)); link = λ b j h k e. by b j (eqb j i) refl h k e }
    where
      by : (b j : ℕ) (t : Bool) → eqb j i ≡ t → i ≤ j → j < n → q b j ≡ true → get_or next j 0 ≡ first_from (q b) n (suc j)
      by b j true t h k e = absurd (true≢false (sym (rw (eqb-true j i t) at e) ∙ o b))
      by b j false t h k e = let z = eqb-false j i t in l.link b j (omega arith) k e

  module _ (b : ℕ) (inside : b < length heads) (room : i < length next) (here : q b i ≡ true) (alone : (c : ℕ) → (c ≡ b → ⊥) → q c i ≡ false) where
    head_in : (c : ℕ) (t : Bool) → eqb c b ≡ t → c < length heads → get_or (set heads b (suc i)) c 0 ≡ first_from (q c) n i
    head_in c true t h = rw (eqb-true c b t, get_or-set_same heads b (suc i) 0 inside) (sym (first-here (q b) n i below here))
    head_in c false t h = let z = eqb-false c b t in get_or-set_other heads b c (suc i) 0 z ∙ l.head c h ∙ sym (first-not (q c) n i below (alone c z))

    link_here : (c : ℕ) (t : Bool) → eqb c b ≡ t → q c i ≡ true → get_or heads b 0 ≡ first_from (q c) n (suc i)
    link_here c true t e = rw (eqb-true c b t) (l.head b inside)
    link_here c false t e = absurd (true≢false (sym e ∙ alone c (eqb-false c b t)))

    link-next : (c j : ℕ) (t : Bool) → eqb j i ≡ t → i ≤ j → j < n → q c j ≡ true → get_or (set next i (get_or heads b 0)) j 0 ≡ first_from (q c) n (suc j)
    link-next c j true t h k e =
        let z = eqb-true j i t in
        rw (z, get_or-set_same next i (get_or heads b 0) 0 room) (link_here c (eqb c b) refl (rw z at e))
    link-next c j false t h k e =
        let z = eqb-false j i t in
        get_or-set_other next i j (get_or heads b 0) 0 z ∙ l.link c j (omega arith) k e

    pub link-in : Linked q n i (set heads b (suc i)) (set next i (get_or heads b 0))
    link-in =
        record {
          head = λ c h. head_in c (eqb c b) refl (omega (arith, length-set heads b (suc i)));
          link = λ c j h k e. link-next c j (eqb j i) refl h k e;
        }

-- ---- what a chain goes through

module _ (q : ℕ → ℕ → Bool) (n : ℕ) (heads next : List ℕ) (l : Linked q n 0 heads next) (b : ℕ) where
  chain-from : (k i : ℕ) → i + k ≡ n → Chain next (first_of (q b) k i) (rising (q b) k i)
  unfolding first_of rising Chain
  chain-from zero i e = refl
  chain-from (suc k) i e = by (q b i) refl (chain-from k (suc i) (omega arith))
    where
      by : (t : Bool) → q b i ≡ t → Chain next (first_of (q b) k (suc i)) (rising (q b) k (suc i)) →
          Chain next (cond t (suc i) (first_of (q b) k (suc i))) (cond t (i ∷ rising (q b) k (suc i)) (rising (q b) k (suc i)))
      by true t c = let z : n - suc i ≡ k = omega arith in (refl, rw (l.link b i (omega arith) (omega arith) t, z) c)
      by false t c = c

  pub chain-rises : b < length heads → Chain next (get_or heads b 0) (rising (q b) n 0)
  chain-rises h = let z : n - 0 ≡ n = omega arith in rw (l.head b h, z) (chain-from n 0 (omega arith))

-- ---- a search along a chain

-- `at` is 0 at the chain's end, or else belongs to one of its things; and nothing that passes h was gone past
pub record Going (h q : ℕ → Bool) (n from at : ℕ) : Type 0 where
  pub own : Own q from n at
  pub past : (j : ℕ) → from ≤ j → j < n → q j ≡ true → h j ≡ true → (0 < at) × (at ≤ suc j)

module _ (q : ℕ → ℕ → Bool) (n from : ℕ) (heads next : List ℕ) (l : Linked q n from heads next) (b : ℕ) (h : ℕ → Bool) where
  pub going-starts : (at : ℕ) → from ≤ n → b < length heads → at ≡ get_or heads b 0 → Going h (q b) n from at
  going-starts at k m e =
      let z : at ≡ first_from (q b) n from = e ∙ l.head b m in
      rw z (record { own = first-own (q b) n from k; past = λ j u v w _. first-reaches (q b) n from j u v w })

  -- thing i of the chain is not sought: the search goes on to the next, which has a greater number
  pub going_on : (at i after : ℕ) → at ≡ suc i → after ≡ get_or next i 0 → h i ≡ false → Going h (q b) n from at → (0 < after → at < after) × Going h (q b) n from after
  going_on at i after p e u g =
      let z : after ≡ first_from (q b) n (suc i) = e ∙ l.link b i (omega (arith, g.own.least (omega arith))) (omega (arith, g.own.most)) (g.own.passes i p) in
      let o = first-own (q b) n (suc i) (omega (arith, g.own.most)) in
      rw z (λ m. omega (arith, o.least m), record { own = up o; past = λ j v w x y. go j (eqb j i) refl v w x y })
    where
      up : Own (q b) (suc i) n (first_from (q b) n (suc i)) → Own (q b) from n (first_from (q b) n (suc i))
      up o = record { most = o.most; least = λ m. omega (arith, o.least m, g.own.least (omega arith)); passes = o.passes }

      go : (j : ℕ) (t : Bool) → eqb j i ≡ t → from ≤ j → j < n → q b j ≡ true → h j ≡ true → (0 < first_from (q b) n (suc i)) × (first_from (q b) n (suc i) ≤ suc j)
      go j true t v w x y = absurd (true≢false (sym (rw (eqb-true j i t) at y) ∙ u))
      go j false t v w x y =
          let m = eqb-false j i t in
          first-reaches (q b) n (suc i) j (omega (arith, (g.past j v w x y).1)) w x

-- at the end of the chain, nothing in the bucket is what was sought
pub going-ends : (h q : ℕ → Bool) (n from at : ℕ) → at ≤ from → Going h q n from at → (j : ℕ) → from ≤ j → j < n → q j ≡ true → h j ≡ true → ⊥
going-ends h q n from at k g j u v w x =
    let p = g.past j u v w x in
    omega (arith, p.0, g.own.least p.0)

-- ---- how far the search can still go

abbrev pub left : ℕ → ℕ → ℕ
left n at = cond (ltb 0 at) (suc n - at) 0

pub left-most : (n at : ℕ) → left n at ≤ n
left-most n at = by (ltb 0 at) refl
  where
    by : (t : Bool) → ltb 0 at ≡ t → cond t (suc n - at) 0 ≤ n
    by true t = omega (arith, ltb-true 0 at t)
    by false t = omega arith

pub going_less : (n at after : ℕ) → 0 < at → at ≤ n → (0 < after → at < after) → left n after < left n at
going_less n at after h m f = rw (lt-ltb 0 at h) (by (ltb 0 after) refl)
  where
    by : (t : Bool) → ltb 0 after ≡ t → cond t (suc n - after) 0 < suc n - at
    by true t = omega (arith, f (ltb-true 0 after t))
    by false t = omega arith
