-- Loops of readers with rows: what one turn tells of the loop.
--     LoopLeads, leads                  the invariant of a loop, and that it holds at the start
--     loop-on, loop-done, loop-off      the turn goes on, is done, refuses
-- Assumes nothing.
use Rattle.std.proofs.Common.{Result, Ok, Err, Continue, Break, ℕ, zero, suc, ◌+◌, ◌≤◌, ◌<◌, ◌≡◌, sym, ap, ◌∙◌, List, arith, length}
use Rattle.row.specs.declared.fault.Fault.{Fault}
use Rattle.raw.specs.Reader.{Out, ok, again, bad, Reader, after, loop, many}
use Rattle.raw.specs.Says.{Turn, turn_of, RowsLaid, Says, SaysTurn}
use Rattle.text.proofs.general.Answers.{ok_pair_parts}
use Rattle.raw.proofs.contracts.SaysLaws.{says_of, says-more, says-off, said-off}

-- ---- different answers are not equal

again-not-done : {p m q k : ℕ} → ◌≡◌ {A = Result Turn Fault} (Ok (Continue (p, m))) (Ok (Break (q, k))) → ⊥
again-not-done h = cc

again-not-refused : {p m : ℕ} {f : Fault} → ◌≡◌ {A = Result Turn Fault} (Ok (Continue (p, m))) (Err f) → ⊥
again-not-refused h = cc

done-not-refused : {p m : ℕ} {f : Fault} → ◌≡◌ {A = Result Turn Fault} (Ok (Break (p, m))) (Err f) → ⊥
done-not-refused h = cc

-- ---- what is left of a loop after a turn: o is the turn, g the rest

off-was : (n : ℕ) (o : Out) (g : ℕ → ℕ → Out) {e : Fault} → Err e ≡ turn_of o n → after o g ≡ bad e
off-was n (ok p rs) g t = absurd (done-not-refused (sym t))
off-was n (again p rs a) g t = absurd (again-not-refused (sym t))
off-was n (bad d) g {e} t = let i : d ≡ e = cc in ap bad i

module _ (base n : ℕ) (b c : List ℕ) (o : Out) (g : ℕ → ℕ → Out) where
  done-was : {q m : ℕ} → SaysTurn base o n b (Ok (Break (q, m))) c → Says base (after o g) n b (Ok (q, m)) c
  done-was {q} {m} h = go o h.told h.rows
    where
      go : (o : Out) → Ok (Break (q, m)) ≡ turn_of o n → RowsLaid base o n b c → Says base (after o g) n b (Ok (q, m)) c
      go (ok p rs) t h = record { told = cc; rows = h }
      go (again p rs a) t h = absurd (again-not-done (sym t))
      go (bad e) t h = absurd (done-not-refused t)

  on-was : {q m : ℕ} {x : Out} {r : Result (ℕ × ℕ) Fault} {b' : List ℕ} → ((a : ℕ) → g a q ≡ x) → SaysTurn base o n b (Ok (Continue (q, m))) c → Says base x m c r b' →
      Says base (after o g) n b r b'
  on-was {q} {m} {r = r} {b' = b'} same h k = go o h.told h.rows
    where
      go : (o : Out) → Ok (Continue (q, m)) ≡ turn_of o n → RowsLaid base o n b c → Says base (after o g) n b r b'
      go (ok p rs) t h = absurd (again-not-done t)
      go (again p rs a) t h =
          let e = ok_pair_parts {E = Fault} p q (n + length rs) m cc in says-more rs e.1 (sym h) (says_of (ap (g a) e.0 ∙ same a) k)
      go (bad e) t h = absurd (again-not-refused t)

-- ---- loops. That a turn has gone forward is known from the bounds of the code's answer

module _ (f : ℕ → Reader) (s : List ℕ) where
  -- at p: what the loop says from here on, with fuel that lasts to the end of the text, is what o says from the loop's start
  abbrev pub LoopLeads : ℕ → ℕ → ℕ → List ℕ → Out → ℕ → List ℕ → Type 0
  LoopLeads base p m c o n b =
      (g : ℕ) × (length s ≤ p + g) × ((r : Result (ℕ × ℕ) Fault) (b' : List ℕ) → Says base (loop f (suc g) 0 s p) m c r b' → Says base o n b r b')

  pub leads : (base p n : ℕ) (b : List ℕ) → LoopLeads base p n b (many f 0 s p) n b
  unfolding many
  leads base p n b = (length s, omega arith, λ r b' h. h)

  module _ (p : ℕ) {base m : ℕ} {c d : List ℕ} {o : Out} {n : ℕ} {b : List ℕ} where
    pub loop-done : LoopLeads base p m c o n b → {q l : ℕ} → SaysTurn base (f 0 s p) m c (Ok (Break (q, l))) d → Says base o n b (Ok (q, l)) d
    unfolding loop
    loop-done k {q} {l} h = k.2 (Ok (q, l)) d (done-was base m c d (f 0 s p) (λ a q. loop f k.0 a s q) h)

    pub loop-off : LoopLeads base p m c o n b → {e : Fault} → SaysTurn base (f 0 s p) m c (Err e) d → o ≡ bad e
    unfolding loop
    loop-off k {e} h = said-off (k.2 (Err e) d (says-off (off-was m (f 0 s p) (λ a q. loop f k.0 a s q) h.told)))

    -- turns that do not depend on their number
    module _ (same : (a : ℕ) (s : List ℕ) (p : ℕ) → f a s p ≡ f 0 s p) where
      on-by : (g : ℕ) → length s ≤ p + g → ((r : Result (ℕ × ℕ) Fault) (b' : List ℕ) → Says base (loop f (suc g) 0 s p) m c r b' → Says base o n b r b') →
          {q l : ℕ} → p < q → q ≤ length s → SaysTurn base (f 0 s p) m c (Ok (Continue (q, l))) d → LoopLeads base q l d o n b
      unfolding loop
      on-by zero i k u v h = absurd (omega arith)
      on-by (suc g) i k {q} u v h =
          (g, omega arith, λ r b' w. k r b' (on-was base m c d (f 0 s p) (λ a q. loop f (suc g) a s q) (λ a. ap (λ (x : Out). after x (λ a q. loop f g a s q)) (same a s q)) h w))

      pub loop-on : LoopLeads base p m c o n b → {q l : ℕ} → p < q → q ≤ length s → SaysTurn base (f 0 s p) m c (Ok (Continue (q, l))) d →
          LoopLeads base q l d o n b
      loop-on k u v h = on-by k.0 k.1 k.2 u v h
