-- Strict reading of two texts put together where a file is cut: it accepts the whole and opens an entry at the cut exactly if it accepts
-- both texts.
--     opens-from  an entry is opened no earlier than reading begins
--     Meet        the first text ends in a newline, and the second begins with "@"
--     through     where the first text is accepted, the whole is read as the first and then the second, and opens an entry at the cut
--     split       where the whole is accepted and opens an entry at the cut, the first text is accepted, and so is the rest
-- Assumes nothing.
use Rattle.std.proofs.Common.{Some, None, ℕ, zero, suc, ◌+◌, ◌≤◌, ◌<◌, arith, ◌≡◌, refl, sym, ap, ◌∙◌, subst, List, [], ◌++◌, append_assoc, length, length-append}
use Rattle.text.specs.Class.{white_space, is_whitespace}
use Rattle.text.specs.Scan.{see, Inside}
use Rattle.text.proofs.Seeing.{seeing}
use Rattle.row.specs.declared.fault.Fault.{Fault}
use Rattle.row.specs.Row.{Row}
use Rattle.raw.specs.Reader.{Out, ok, again, bad, more, after}
use Rattle.raw.specs.Grammar.{white, file_turn, file}
use Rattle.raw.specs.Strict.{Fresh}
use Rattle.raw.proofs.Strict.{strict-reading}
use Rattle.raw.proofs.Steps.{steps}
use Rattle.salvage.specs.Demand3.{Opens, here, later}
use Rattle.salvage.proofs.cutting.ScanEnd.{Halts, NoneOver, Scanned, ok-place, scan-found, white-found, white-scanned, white-stays}
use Rattle.salvage.proofs.cutting.TurnBeforeCut.{item, turn-white, item_ok, AlikeToNewline, white-cut, turn-cut}

-- ---- answers

more-more : (rs ss : List Row) (o : Out) → more rs (more ss o) ≡ more (rs ++ ss) o
more-more rs ss (ok q us) = ap (ok q) (sym (append_assoc rs ss us))
more-more rs ss (again q us a) = ap (λ (l : List Row). again q l a) (sym (append_assoc rs ss us))
more-more rs ss (bad f) = refl

bad-not-ok : (q : ℕ) (rs : List Row) (f : Fault) {X : Type 0} → bad f ≡ ok q rs → X
bad-not-ok q rs f e = cc

again-not-ok : (q : ℕ) (rs : List Row) (p a : ℕ) (ss : List Row) {X : Type 0} → again p ss a ≡ ok q rs → X
again-not-ok q rs p a ss e = cc

ok_rows : {q r : ℕ} {rs ss : List Row} → ok q rs ≡ ok r ss → rs ≡ ss
ok_rows e = cc

more-ok : (rs : List Row) (o : Out) (q : ℕ) (us : List Row) → more rs o ≡ ok q us → (ss : List Row) × (o ≡ ok q ss) × (us ≡ rs ++ ss)
more-ok rs (ok p ss) q us e = (ss, ap (λ (n : ℕ). ok n ss) (ok-place e), sym (ok_rows e))
more-ok rs (again p ss a) q us e = again-not-ok q us p a (rs ++ ss) e
more-ok rs (bad f) q us e = bad-not-ok q us f e

-- ---- a file is read from the place after white space, or after a turn, on

file-here : (s : List ℕ) (p q : ℕ) → white s p ≡ ok q [] → file s p ≡ file s q
file-here s p q e =
    let w : white s q ≡ ok q [] = white-stays s q (white-scanned s p q e).halts in
    strict-reading.turns s p ∙ ap (λ (o : Out). after o (λ a q. file s q)) (turn-white s p q e ∙ sym (turn-white s q q w))
    ∙ sym (strict-reading.turns s q)

file-later : (s : List ℕ) (p q a : ℕ) (rs : List Row) → file_turn 0 s p ≡ again q rs a → file s p ≡ more rs (file s q)
file-later s p q a rs e = strict-reading.turns s p ∙ ap (λ (o : Out). after o (λ c q. file s q)) e

pub opens-from : {s : List ℕ} {p e : ℕ} → Opens s p e → p ≤ e
opens-from {s} {p} {e} (here w x) = (white-scanned s p e w).from
opens-from {s} {p} {e} (later {q = q} {a = a} {rs = rs} t o) = omega (arith, opens-from o, strict-reading.ahead s p q a rs t)

-- ---- the two texts

pub record Meet (a s : List ℕ) (k : ℕ) : Type 0 where
  pub size : length a ≡ suc k
  pub newline : see a k ≡ Some (0x0A, suc k)
  pub clear : NoneOver a k
  pub begins : Fresh s
  pub at : see (a ++ s) (suc k) ≡ Some (0x40, suc (suc k))

module _ (a s : List ℕ) (k : ℕ) (m : Meet a s k) where
  same : (i : ℕ) → i < suc k → see a i ≡ see (a ++ s) i
  same i h = sym (seeing.see-front a s i m.begins (omega (arith, m.size)))

  stops : Halts is_whitespace (see (a ++ s) (suc k))
  unfolding is_whitespace white_space
  stops = rw m.at refl

  ended : see a (suc k) ≡ None
  ended = seeing.see-end a (suc k) (omega (arith, m.size))

  clear-end : NoneOver a (suc k)
  clear-end i c n e h = omega (arith, m.size, seeing.see-ahead a i c n e)

  longer : suc k ≤ length (a ++ s)
  longer = omega (arith, length-append a s, m.size)

  there : AlikeToNewline a (a ++ s) k
  there =
      record {
        same = same;
        first = omega (arith, m.size);
        second = longer;
        halts = stops;
        clear = λ i c n e h. clear-end i c n (same i h ∙ e) h;
        newline = m.newline;
        before = m.clear;
      }

  back : AlikeToNewline (a ++ s) a k
  back =
      record {
        same = λ i h. sym (same i h);
        first = longer;
        second = omega (arith, m.size);
        halts = rw ended tt;
        clear = clear-end;
        newline = sym (same k (omega arith)) ∙ m.newline;
        before = λ i c n e h. m.clear i c n (same i (omega arith) ∙ e) h;
      }

  -- ---- the first text is accepted

  -- from p on the whole is read as these rows and then the second text
  abbrev Through : ℕ → List Row → Type 0
  Through p rs = (file (a ++ s) p ≡ more rs (file (a ++ s) (suc k))) × Opens (a ++ s) p (suc k)

  -- the last turn of the first text
  module _ (p i : ℕ) (rs : List Row) (h : p ≤ suc k) (d : file_turn 0 a p ≡ ok i rs) where
    last-white : white a p ≡ ok (suc k) []
    last-white =
        let z = scan-found is_whitespace a p in
        let y : Scanned is_whitespace a p z.0 = z.1 in
        let w = white-found a p z.0 y in
        let g = item_ok a z.0 i rs (sym (turn-white a p z.0 w) ∙ d) in
        let past : length a ≤ z.0 = subst (Inside a z.0) g.0 (seeing.see-inside a z.0) in
        let most : z.0 ≤ suc k = y.least (suc k) h clear-end (rw ended tt) in
        let n : z.0 ≡ suc k = omega (arith, m.size) in
        w ∙ ap (λ (n : ℕ). ok n []) n

    last-rows : rs ≡ []
    last-rows = (item_ok a (suc k) i rs (sym (turn-white a p (suc k) last-white) ∙ d)).1

    last-through : Through p rs
    last-through =
        let v = white-cut there p (suc k) last-white h (omega arith) in
        (rw last-rows (file-here (a ++ s) p (suc k) v ∙ sym (steps.more-none (file (a ++ s) (suc k)))), here v m.at)

  through-step : (p q : ℕ) (us : List Row) → p ≤ suc k → file a p ≡ ok q us
      → ((i : ℕ) (ss : List Row) → p < i → i ≤ suc k → file a i ≡ ok q ss → Through i ss) → Through p us
  through-step p q us h e ih = go (file_turn 0 a p) refl (sym (strict-reading.turns a p) ∙ e)
    where
      go : (o : Out) → file_turn 0 a p ≡ o → after o (λ b i. file a i) ≡ ok q us → Through p us
      go (ok i rs) d f = subst (Through p) (ok_rows f) (last-through p i rs h d)
      go (again i rs b) d f =
          let j = strict-reading.ahead a p i b rs d in
          let l : i ≤ suc k = omega (arith, m.size) in
          let t = turn-cut there p i b rs d l in
          let x = more-ok rs (file a i) q us f in
          let y = ih i x.0 j.0 l x.1 in
          let e = file-later (a ++ s) p i b rs t ∙ ap (more rs) y.0 ∙ more-more rs x.0 (file (a ++ s) (suc k)) in
          (rw x.2 e, later t y.1)
      go (bad j) d f = bad-not-ok q us j f

  through-by : (n p q : ℕ) (us : List Row) → suc k ≤ p + n → p ≤ suc k → file a p ≡ ok q us → Through p us
  through-by zero p q us h l e = through-step p q us l e (λ i ss x y z. absurd (omega arith))
  through-by (suc n) p q us h l e = through-step p q us l e (λ i ss x y z. through-by n i q ss (omega arith) y z)

  pub through : (q : ℕ) (us : List Row) → file a 0 ≡ ok q us → Through 0 us
  through q us e = through-by (suc k) 0 q us (omega arith) (omega arith) e

  -- ---- the whole is accepted

  -- from p on the first text is accepted with some rows, and the rest of the whole with the others
  abbrev SplitReading : ℕ → ℕ → List Row → Type 0
  SplitReading p q us = (rs : List Row) × (ss : List Row) × (file a p ≡ ok (suc k) rs) × (file (a ++ s) (suc k) ≡ ok q ss) × (us ≡ rs ++ ss)

  item-end : item a (suc k) ≡ ok (suc k) []
  item-end = rw ended

  split_by : {p e : ℕ} (q : ℕ) (us : List Row) → Opens (a ++ s) p e → e ≡ suc k → file (a ++ s) p ≡ ok q us → SplitReading p q us
  split_by {p} {e} q us (here w x) c f =
      let v : white (a ++ s) p ≡ ok (suc k) [] = w ∙ ap (λ (n : ℕ). ok n []) c in
      let y = white-cut back p (suc k) v (white-scanned (a ++ s) p (suc k) v).from (omega arith) in
      let z = strict-reading.turns a p ∙ ap (λ (o : Out). after o (λ c q. file a q)) (turn-white a p (suc k) y ∙ item-end) in
      ([], us, z, sym (file-here (a ++ s) p (suc k) v) ∙ f, refl)
  split_by {p} {e} q us (later {q = i} {a = b} {rs = rs} t o) c f =
      let l : i ≤ e = opens-from o in
      let d = turn-cut back p i b rs t (omega arith) in
      let x = more-ok rs (file (a ++ s) i) q us (sym (file-later (a ++ s) p i b rs t) ∙ f) in
      let y : SplitReading i q x.0 = split_by q x.0 o c x.1 in
      let z = x.2 ∙ ap (λ (l : List Row). rs ++ l) y.4 ∙ sym (append_assoc rs y.0 y.1) in
      (rs ++ y.0, y.1, file-later a p i b rs d ∙ ap (more rs) y.2, y.3, z)

  pub split : (q : ℕ) (us : List Row) → Opens (a ++ s) 0 (suc k) → file (a ++ s) 0 ≡ ok q us → SplitReading 0 q us
  split q us o f = split_by q us o refl f
