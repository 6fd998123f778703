-- Elements of a value, one behind the other, as the code goes through them.
--     says-end, says_on, says-stopped        no element more; one that came to chunks; one that was refused
--     says-flat                              it makes no difference whether chunks are flattened before they are appended
--     says-from                              a run goes on alike from a state that has the same chunks
-- Assumes nothing.
use Rattle.std.specs.Prelude.{Result, Ok, Err}
use Prim.Native.Nat.{ℕ}
use mathlib.Core.Path.{◌≡◌, refl, sym, ap, subst, ◌∙◌}
use mathlib.Core.Bool.{not}
use mathlib.Core.List.{List, [], ◌++◌, append-nil, append_assoc}
use lib.ListN.{length}
use lib.Seq.{sets}
use Rattle.row.specs.declared.fault.Fault.{Fault}
use Rattle.chunk.specs.Chunk.{Chunk}
use Rattle.turn.specs.Content.{flatten}
use Rattle.literal.specs.Rows.{RowsHold, texts_of}
use Rattle.literal.proofs.Flattening.{flattening}
use Rattle.resolve.specs.declared.progress.Progress.{Progress}
use Rattle.resolve.specs.Runs.{Run, done, stop}
use Rattle.resolve.specs.Progress.{small, Has, Adds, SaysRun}
use Rattle.values.specs.Field.{behind, onward, flattened}

-- ---- one behind the other

pub says-end : (run : Run) (st : Progress) (b t : List ℕ) → run ≡ done [] st.names → SaysRun run st b t (Ok st) b t
says-end run st b t e =
    subst (λ (x : Run). SaysRun x st b t (Ok st) b t) (sym e)
    (refl, λ ps b₀ t₀ h. subst (λ (ds : List Chunk). Has ds b₀ t₀ st b t) (sym (append-nil ps)) h)

module _ (st : Progress) (b t : List ℕ) (st₁ : Progress) (b₁ t₁ : List ℕ) (r : Result Progress Fault) (b₂ t₂ : List ℕ) where
  behind-on : (cs : List Chunk) → Adds cs st b t st₁ b₁ t₁ → (run : Run) (r : Result Progress Fault) → SaysRun run st₁ b₁ t₁ r b₂ t₂
      → SaysRun (behind cs run) st b t r b₂ t₂
  behind-on cs h (done ds n) (Ok st₂) k = (
    k.0,
    λ ps b₀ t₀ x. subst (λ (es : List Chunk). Has es b₀ t₀ st₂ b₂ t₂) (append_assoc ps cs ds) (k.1 (ps ++ cs) b₀ t₀ (h ps b₀ t₀ x)),
  )
  behind-on cs h (done ds n) (Err f) k = k
  behind-on cs h (stop g) (Ok st₂) k = k
  behind-on cs h (stop g) (Err f) k = k

  pub says_on : (run : Run) (g : ℕ → Run) → SaysRun run st b t (Ok st₁) b₁ t₁ → SaysRun (g st₁.names) st₁ b₁ t₁ r b₂ t₂
      → SaysRun (onward run g) st b t r b₂ t₂
  says_on (done cs n) g h k = behind-on cs h.1 (g n) r (subst (λ (m : ℕ). SaysRun (g m) st₁ b₁ t₁ r b₂ t₂) h.0 k)
  says_on (stop f) g h k = absurd h

pub says-stopped : (run : Run) (g : ℕ → Run) (st : Progress) (b t : List ℕ) (f : Fault) (b₁ t₁ : List ℕ)
    → SaysRun run st b t (Err f) b₁ t₁ → SaysRun (onward run g) st b t (Err f) b₁ t₁
says-stopped (done cs n) g st b t f b₁ t₁ h = absurd h
says-stopped (stop x) g st b t f b₁ t₁ h = h

-- ---- flattened before they are appended

has_flat : (ps cs : List Chunk) (b₀ t₀ : List ℕ) (st : Progress) (b t : List ℕ) → Has (ps ++ cs) b₀ t₀ st b t → Has (ps ++ flatten cs) b₀ t₀ st b t
has_flat ps cs b₀ t₀ st b t h = record {
  over = h.over ∙ ap (λ (ds : List Chunk). not (small ds)) chunks;
  bytes = λ o. h.bytes o ∙ ap length texts;
  rows = λ o. subst (λ (ds : List Chunk). RowsHold ds b₀ st.rows b) chunks (h.rows o);
  text = λ o. h.text o ∙ ap (sets t₀ 0) texts;
}
  where
    chunks : flatten (ps ++ cs) ≡ flatten (ps ++ flatten cs)
    chunks = sym (flattening.again ps cs)

    texts : texts_of (ps ++ cs) ≡ texts_of (ps ++ flatten cs)
    texts =
        flattening.texts-both ps cs ∙ ap (λ (w : List ℕ). texts_of ps ++ w) (sym (flattening.texts-flat cs))
        ∙ sym (flattening.texts-both ps (flatten cs))

module _ (st : Progress) (b t b' t' : List ℕ) where
  pub says-flat : (run : Run) (r : Result Progress Fault) → SaysRun run st b t r b' t' → SaysRun (flattened run) st b t r b' t'
  says-flat (done cs n) (Ok st') h = (h.0, λ ps b₀ t₀ x. has_flat ps cs b₀ t₀ st' b' t' (h.1 ps b₀ t₀ x))
  says-flat (done cs n) (Err f) h = h
  says-flat (stop g) (Ok st') h = h
  says-flat (stop g) (Err f) h = h

  pub says-from : (st₁ : Progress) → ((ps : List Chunk) (b₀ t₀ : List ℕ) → Has ps b₀ t₀ st b t → Has ps b₀ t₀ st₁ b t)
      → (run : Run) (r : Result Progress Fault) → SaysRun run st₁ b t r b' t' → SaysRun run st b t r b' t'
  says-from st₁ g (done cs n) (Ok st') h = (h.0, λ ps b₀ t₀ x. h.1 ps b₀ t₀ (g ps b₀ t₀ x))
  says-from st₁ g (done cs n) (Err f) h = h
  says-from st₁ g (stop x) (Ok st') h = h
  says-from st₁ g (stop x) (Err f) h = h
