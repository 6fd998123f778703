-- The ways through the functions of src/content.rt that take one turn, and what a turn of text leaves.
--     end-open, end-close, close-refused        a brace opens; a brace closes one that is open, or none
--     end-math, math-refused                    a dollar sign: the formula ends, or does not
--     ends_at, ends-not                         what `sign_end` answers
--     sign-again, math-again, sign-refused      a sign ends the chunk before it, and a formula is a chunk
--     math-ready                                what `put_math` requires
--     ahead-sign, ahead-math                    the bounds of the state behind a brace, and behind a formula
--     puts-state, goes-puts, text-put           text that is written leads from one state to the next
--     ahead-further                             the bounds of the state after text
-- Assumes nothing.
use Rattle.std.proofs.Common.{ℕ, zero, suc, ◌+◌, ◌-◌, ◌≤◌, ◌<◌, arith, add-one, sub-one, ◌≡◌, refl, sym, ap, subst, ◌∙◌}
use Rattle.std.proofs.Common.{Bool, false, List, [], ◌∷◌, ◌++◌, map, append_assoc, append-nil, length, get_or, take, length-append, lt-ltb, le-ltb, eq-eqb, ne_eqb}
use Rattle.std.specs.Prelude.{Result, Ok, Err}
use Rattle.turn.specs.declared.turn.Text.{Text}
use Rattle.text.specs.Scan.{skip, fails, part}
use Rattle.text.specs.declared.class.Test.TheVariants as test
use Rattle.row.specs.declared.fault.Reason.TheVariants.{UnexpectedEof, UnexpectedClosingBrace}
use Rattle.row.specs.Fault.{fault_at}
use Rattle.row.specs.declared.fault.Fault.{Fault}
use Rattle.raw.specs.Reader.{again, bad, more}
use Rattle.chunk.specs.Chunk.{Chunk}
use Rattle.command.specs.Stack.{Lays, default_chunk}
use Rattle.literal.specs.declared.rows.Rows.{Rows}
use Rattle.literal.specs.declared.making.Making.{Making}
use Rattle.literal.specs.declared.making.Place.{Place}
use Rattle.turn.specs.declared.turn.Text.TheVariants as text
use Rattle.turn.specs.Content.{Part, put, cut, math, Reader, State, refused_byte, step, steps, maths, closing, content_turn}
use Rattle.literal.specs.Rows.{most_number}
use Rattle.literal.specs.Inner.{HoldsState, Goes, RowsHeld, standing, formula, SignTurn, SignEnds, SaysSign, ReadyContent, Fits, Onto, ChunkDone, MathDone, Further, AheadState}
use Rattle.turn.specs.Turns.{turns, concat, SaysText, Placed, Grows}
use Rattle.turn.proofs.Turning.{turning}

-- ---- where a sign ends

module _ (verb : Bool) (s : List ℕ) (p d : ℕ) (l : p < length s) where
  -- at a byte that is no dollar sign there is no formula
  none : (e : ℕ) → (get_or s p 0 ≡ 0x24 → ⊥) → again (p + 1) (cut e p (p + 1) ∷ []) e ≡ again (p + 1) (cut e p (p + 1) ∷ formula s p p) e
  none e n = rw (ne_eqb (get_or s p 0) 0x24 n) refl

  pub end-open : get_or s p 0 ≡ 0x7B → SignTurn verb s p d p (d + 1)
  end-open b = record {
    from = omega arith;
    inside = l;
    braces = omega arith;
    math = λ e. absurd (omega (arith, b, e));
    turn = λ argument.
        turning.turn-open argument verb d s p l b ∙ ap (λ (e : ℕ). again (p + 1) (cut e p (p + 1) ∷ []) e) (sym (add-one d))
        ∙ none (d + 1) (λ e. omega (arith, b, e));
  }

  pub end-close : get_or s p 0 ≡ 0x7D → (d ≡ 0 → ⊥) → SignTurn verb s p d p (d - 1)
  unfolding closing
  end-close b z = record {
    from = omega arith;
    inside = l;
    braces = omega arith;
    math = λ e. absurd (omega (arith, b, e));
    turn = λ argument. turning.turn-close argument verb d s p l b ∙ some d z ∙ none (d - 1) (λ e. omega (arith, b, e));
  }
    where
      some : (d : ℕ) → (d ≡ 0 → ⊥) → closing d s p ≡ again (p + 1) (cut (d - 1) p (p + 1) ∷ []) (d - 1)
      some zero z = absurd (z refl)
      some (suc d) z = rw (sub-one (suc d)) refl

  pub close-refused : get_or s p 0 ≡ 0x7D → d ≡ 0 → (argument : Reader) → content_turn argument verb d s p ≡ bad (refused_byte UnexpectedClosingBrace p)
  unfolding closing
  close-refused b z argument = turning.turn-close argument verb d s p l b ∙ ap (λ (d : ℕ). closing d s p) z

  module _ (b : get_or s p 0 ≡ 0x24) (v : verb ≡ false) (q : ℕ) (h : q ≡ skip (fails test.Dollar) s (p + 1)) where
    pub math-refused : length s ≤ q → (argument : Reader) → content_turn argument verb d s p ≡ bad (fault_at UnexpectedEof q)
    unfolding maths
    math-refused n argument = turning.turn-math argument verb d s p l b v ∙ rw (sym h, le-ltb q (length s) n) refl

    pub end-math : p + 1 ≤ q → q < length s → SignTurn verb s p d q d
    unfolding maths
    end-math f n = record {
      from = omega (arith, f);
      inside = n;
      braces = omega arith;
      math = λ e. omega (arith, f);
      turn = λ argument.
          turning.turn-math argument verb d s p l b v ∙ rw (sym h, lt-ltb q (length s) n, eq-eqb (get_or s p 0) 0x24 b) refl;
    }

-- ---- what the answer says of a sign

pub ends_at : {verb : Bool} {s : List ℕ} {p d : ℕ} {r : Result (ℕ × ℕ) Fault} {q e : ℕ} → r ≡ Ok (q, e) → SignEnds verb s p d r → SignTurn verb s p d q e
ends_at e h = rw e at h

pub ends-not : (verb : Bool) (s : List ℕ) (p d : ℕ) {r : Result (ℕ × ℕ) Fault} {f : Fault} → r ≡ Err f → SignEnds verb s p d r
    → ((argument : Reader) → content_turn argument verb d s p ≡ bad f) × Placed (length s) f
ends-not verb s p d e h = rw e at h

-- ---- a sign ends a chunk

module _ (place : Place) (verb : Bool) (s : List ℕ) (m : Making) (o b : List ℕ) where
  pub sign-refused : (f : Fault) → ((argument : Reader) → content_turn argument verb m.braces s m.at ≡ bad f)
      → SaysSign place verb s m o b (Err f) o b
  sign-refused f h argument = turning.stopped argument verb m.braces s m.at f (h argument)

  module _ (q d : ℕ) (h : SignTurn verb s m.at m.braces q d) (m₁ : Making) (o₁ b₁ : List ℕ)
      (x : ChunkDone place m m.at d (q + 1) o b m₁ o₁ b₁) where
    -- the chunk before the sign, and the formula
    onto : (xs : List Part) → formula s m.at q ≡ xs → (m' : Making) (o' b' : List ℕ) → m'.at ≡ q + 1 → m'.braces ≡ d
        → Goes place (cut d m.at (q + 1) ∷ xs) m o b m' o' b' → Onto place verb s m o b m' o' b'
    onto xs e m' o' b' y z g = record {
      parts = cut d m.at (q + 1) ∷ xs;
      leads = λ argument.
          turning.leads argument verb m.braces s m.at (q + 1) (cut d m.at (q + 1) ∷ xs) d
          (h.turn argument ∙ ap (λ (ys : List Part). again (q + 1) (cut d m.at (q + 1) ∷ ys) d) e)
          ∙ ap (more (cut d m.at (q + 1) ∷ xs))
          (ap (λ (n : ℕ). turns argument verb d s n) (sym y) ∙ ap (λ (n : ℕ). turns argument verb n s m'.at) (sym z));
      goes = g;
    }

    pub sign-again : (get_or s m.at 0 ≡ 0x24 → ⊥) → SaysSign place verb s m o b (Ok m₁) o₁ b₁
    sign-again n = onto [] (rw (ne_eqb (get_or s m.at 0) 0x24 n) refl) m₁ o₁ b₁ x.at x.braces x.goes

    -- at most one chunk is done, and at most one brace more is open
    pub ahead-sign : AheadState (length s) 1 m m₁
    ahead-sign = record {
      grows = record { at = omega (arith, x.at, h.from); inside = omega (arith, x.at, h.inside); text = omega (arith, x.at, x.len, h.from) };
      rows = omega (arith, x.at, x.rows, h.from);
      braces = omega (arith, x.at, x.braces, h.braces, h.from);
      from = omega (arith, x.from);
      start = omega (arith, x.start, x.at);
    }

    -- what `put_math` requires
    pub math-ready : get_or s m.at 0 ≡ 0x24 → ReadyContent s place m o → length o₁ ≡ length o
        → ((m.at + 1 ≤ q) × (q ≤ length s) × (m₁.len + q + 2 ≤ length o₁ + (m.at + 1)) × (m₁.from ≡ m₁.len))
        × (Fits place m₁ (length o₁) × (place.base + q ≤ most_number))
    math-ready e r n =
        let f = h.math e in (
          (omega (arith, f), omega (arith, h.inside), omega (arith, f, h.inside, r.text.room, x.len, n), x.from),
          (
            record {
              from = omega (arith, x.from);
              to = omega (arith, x.len, r.text.room, n, f, h.inside);
              text = omega (arith, x.len, r.value, r.literal, f, h.inside);
              start = omega (arith, x.start, r.file, r.literal, h.inside);
              rows = omega (arith, x.rows, r.rows, r.literal, f, h.inside);
            },
            omega (arith, r.file, r.literal, h.inside),
          ),
        )

    module _ (e : get_or s m.at 0 ≡ 0x24) (m₂ : Making) (o₂ b₂ : List ℕ) (y : MathDone s (m.at + 1) q place m₁ o₁ b₁ m₂ o₂ b₂) where
      pub math-again : SaysSign place verb s m o b (Ok m₂) o₂ b₂
      unfolding steps
      math-again =
          onto (math (part s (m.at + 1) q) (m.at + 1) q ∷ []) (rw (eq-eqb (get_or s m.at 0) 0x24 e) refl) m₂ o₂ b₂ (y.at ∙ x.at) (y.braces ∙ x.braces)
          (λ t₀ ps b₀ σ held. y.goes t₀ ps b₀ (steps σ (cut d m.at (q + 1) ∷ [])) (x.goes t₀ ps b₀ σ held))

      pub ahead-math : AheadState (length s) 1 m m₂
      ahead-math = record {
        grows = record {
          at = omega (arith, y.at, x.at, h.from);
          inside = omega (arith, y.at, x.at, h.inside);
          text = omega (arith, y.at, x.at, y.len, x.len, h.math e);
        };
        rows = omega (arith, y.at, x.at, y.rows, x.rows, h.math e);
        braces = omega (arith, y.at, x.at, y.braces, x.braces, h.braces, h.math e);
        from = omega (arith, y.from);
        start = omega (arith, y.start, y.at, x.start, x.at);
      }

-- ---- text

rows_at : (x : Bool) (place : Place) (t₀ : List ℕ) (ps : List Chunk) (b₀ : List ℕ) (cs : List Chunk) (k k' : Rows) (b : List ℕ) → k ≡ k'
    → RowsHeld x place t₀ ps b₀ cs k b → RowsHeld x place t₀ ps b₀ cs k' b
rows_at x place t₀ ps b₀ cs k k' b e h = subst (λ (k : Rows). RowsHeld x place t₀ ps b₀ cs k b) e h

-- texts put one after another are one text
pub puts-state : (ws : List (List ℕ)) (σ : State) → steps σ (map put ws) ≡ step σ (put (concat ws))
unfolding steps concat
puts-state [] σ = ap (λ (t : List ℕ). record { done = σ.done; kind = σ.kind; text = t; start = σ.start }) (sym (append-nil σ.text))
puts-state (w ∷ ws) σ =
    puts-state ws (step σ (put w))
    ∙ ap (λ (t : List ℕ). record { done = σ.done; kind = σ.kind; text = t; start = σ.start }) (append_assoc σ.text w (concat ws))

module _ (place : Place) (m : Making) (o b : List ℕ) (q l : ℕ) (m' : Making) (o' : List ℕ) (f : Further m q l m') where
  put-held : (w : List ℕ) → Lays m.len w o l o' → (t₀ : List ℕ) (ps : List Chunk) (b₀ : List ℕ) (σ : State) → HoldsState place t₀ ps b₀ σ m o b
      → HoldsState place t₀ ps b₀ (step σ (put w)) m' o' b
  put-held w x t₀ ps b₀ σ h = record {
    stack = ap (λ (n : ℕ). take n o') f.len ∙ x.text ∙ ap (λ (t : List ℕ). t ++ w) h.stack
        ∙ append_assoc (t₀ ++ standing place.argument σ.done) σ.text w;
    from = f.from ∙ h.from;
    len = omega (arith, f.len, f.from, x.end, h.len, length-append σ.text w);
    start = f.start ∙ h.start;
    kind = h.kind ∙ ap default_chunk (sym f.braces);
    white = λ e. f.white ∙ h.white e;
    pushed = f.pushed ∙ h.pushed;
    rows = rows_at place.argument place t₀ ps b₀ σ.done m.rows m'.rows b (sym f.rows) h.rows;
  }

  pub goes-puts : (ws : List (List ℕ)) → Lays m.len (concat ws) o l o' → Goes place (map put ws) m o b m' o' b
  goes-puts ws x t₀ ps b₀ σ h = subst (λ (τ : State). HoldsState place t₀ ps b₀ τ m' o' b) (sym (puts-state ws σ)) (put-held (concat ws) x t₀ ps b₀ σ h)

module _ (place : Place) (verb : Bool) (s : List ℕ) (m : Making) (o b : List ℕ) (r : Result Text Fault) (o' : List ℕ) (h : SaysText verb s m.at m.len o r o')
  where
    pub text-put : (q l : ℕ) → r ≡ Ok (text.Put q l) → (m' : Making) → Further m q l m' → Onto place verb s m o b m' o' b
    text-put q l e m' f =
        let y : SaysText verb s m.at m.len o (Ok (text.Put q l)) o' = rw e at h in
        record {
          parts = map put y.texts;
          leads = λ argument.
              y.leads argument m.braces
              ∙ ap (more (map put y.texts))
              (ap (λ (d : ℕ). turns argument verb d s q) (sym f.braces) ∙ ap (λ (n : ℕ). turns argument verb m'.braces s n) (sym f.at));
          goes = goes-puts place m o b q l m' o' f y.texts y.lays;
        }

pub ahead-further : (len : ℕ) (verb : Bool) (s : List ℕ) (m : Making) (o : List ℕ) (q l : ℕ) (o' : List ℕ) (r : Result Text Fault) (m' : Making) → r ≡ Ok (text.Put q l)
    → SaysText verb s m.at m.len o r o' → Grows len 1 m.at m.len q l → m.from ≤ m.len → m.start ≤ m.at → Further m q l m'
    → AheadState len 1 m m'
ahead-further len verb s m o q l o' r m' e y h x z f = record {
  grows = record {
    at = omega (arith, h.at, f.at);
    inside = omega (arith, h.inside, f.at);
    text = omega (arith, h.text, f.at, f.len);
  };
  rows = omega (arith, h.at, f.at, ap (λ (k : Rows). k.n) f.rows);
  braces = omega (arith, h.at, f.at, f.braces);
  from = let k : SaysText verb s m.at m.len o (Ok (text.Put q l)) o' = rw e at y in omega (arith, k.lays.end, f.from, f.len, x);
  start = omega (arith, f.start, f.at, h.at, z);
}
