-- What parts come to: the texts and the sizes of their chunks.
--     PartTexts                                     the texts of parts are UTF-8
--     weights, ends                                 how much parts write, a chunk of math with its dollar signs; how many chunks they end
--     append-texts, weights-append, ends-append     these three for parts one after another
--     chunks-texts                                  the texts of the parts' chunks are UTF-8
--     chunks-text, chunks-formatted                 the text of their chunks, and that text formatted, is no more than the parts write
--     chunks-few                                    there is at most one chunk more than the parts end
-- Assumes nothing.
use Rattle.std.proofs.Common.{ℕ, zero, suc, ◌+◌, ◌≤◌, arith, ◌≡◌, refl, Bool, true, false, cond, List, [], ◌∷◌, ◌++◌, length, length-append}
use Rattle.text.specs.Utf8.{Octets, none}
use Rattle.text.proofs.Shapes.{shapes}
use Rattle.chunk.specs.declared.form.Kind.{Kind}
use Rattle.chunk.specs.declared.form.Kind.TheVariants.{Normal, Verbatim, Math}
use Rattle.chunk.specs.Chunk.{Chunk, chunk}
use Rattle.chunk.specs.Format.{before, is_line_end, white, lines, format_one, format_from, format_verbatim}
use Rattle.chunk.specs.WellFormed.{TextsUtf8}
use Rattle.chunk.specs.WellFormed as texts
use Rattle.chunk.proofs.WellFormed.{well-formed}
use Rattle.command.specs.Stack.{default_chunk}
use Rattle.turn.specs.Content.{Part, put, cut, math, State, step, steps, pushed, closed, beginning, chunks_of}
use Rattle.literal.specs.Rows.{texts_of}

-- ---- parts

abbrev pub PartText : Part → Type 0
PartText (put w) = Octets w
PartText (cut d e b) = Unit {0}
PartText (math w a e) = Octets w

abbrev pub PartTexts : List Part → Type 0
PartTexts [] = Unit {0}
PartTexts (x ∷ xs) = PartText x × PartTexts xs

abbrev pub weight : Part → ℕ
weight (put w) = length w
weight (cut d e b) = 0
weight (math w a e) = length w + 2

abbrev pub weights : List Part → ℕ
weights [] = 0
weights (x ∷ xs) = weight x + weights xs

abbrev pub end : Part → ℕ
end (put w) = 0
end (cut d e b) = 1
end (math w a e) = 1

abbrev pub ends : List Part → ℕ
ends [] = 0
ends (x ∷ xs) = end x + ends xs

pub append-texts : (xs ys : List Part) → PartTexts xs → PartTexts ys → PartTexts (xs ++ ys)
append-texts [] ys h k = k
append-texts (x ∷ xs) ys h k = (h.0, append-texts xs ys h.1 k)

pub weights-append : (xs ys : List Part) → weights (xs ++ ys) ≡ weights xs + weights ys
weights-append [] ys = omega arith
weights-append (x ∷ xs) ys = omega (arith, weights-append xs ys)

pub ends-append : (xs ys : List Part) → ends (xs ++ ys) ≡ ends xs + ends ys
ends-append [] ys = omega arith
ends-append (x ∷ xs) ys = omega (arith, ends-append xs ys)

-- ---- the texts of their chunks

-- the texts of a state
abbrev StateTexts : State → Type 0
StateTexts σ = TextsUtf8 σ.done × Octets σ.text

pushed-texts : (σ : State) (e : ℕ) → StateTexts σ → TextsUtf8 (pushed σ e)
pushed-texts σ e h = well-formed.append h.0 (texts.next h.1 texts.none)

step-texts : (σ : State) (x : Part) → PartText x → StateTexts σ → StateTexts (step σ x)
step-texts σ (put w) o h = (h.0, shapes.octets-append h.1 o)
step-texts σ (cut d e b) o h = (pushed-texts σ e h, none)
step-texts σ (math w a e) o h = (well-formed.append h.0 (texts.next o texts.none), h.1)

steps-texts : (xs : List Part) (σ : State) → PartTexts xs → StateTexts σ → StateTexts (steps σ xs)
unfolding steps
steps-texts [] σ k h = h
steps-texts (x ∷ xs) σ k h = steps-texts xs (step σ x) k.1 (step-texts σ x k.0 h)

closed-texts : (σ : State) (e : ℕ) (t : List ℕ) (cs : List Chunk) → StateTexts σ → TextsUtf8 (closed σ e t cs)
closed-texts σ e [] [] h = pushed-texts σ e h
closed-texts σ e [] (c ∷ cs) h = h.0
closed-texts σ e (b ∷ t) cs h = pushed-texts σ e h

pub chunks-texts : (p e : ℕ) (xs : List Part) → PartTexts xs → TextsUtf8 (chunks_of p e xs)
chunks-texts p e xs k =
    let σ : State = steps (beginning p) xs in
    closed-texts σ e σ.text σ.done (steps-texts xs (beginning p) k (texts.none, none))

-- ---- the sizes of their chunks

-- the dollar signs of a chunk
abbrev dollars : Kind → ℕ
dollars Normal = 0
dollars Verbatim = 0
dollars Math = 2

abbrev sizes : List Chunk → ℕ
sizes [] = 0
sizes (c ∷ cs) = length c.text + dollars c.kind + sizes cs

sizes-append : (cs ds : List Chunk) → sizes (cs ++ ds) ≡ sizes cs + sizes ds
sizes-append [] ds = omega arith
sizes-append (c ∷ cs) ds = omega (arith, sizes-append cs ds)

-- the chunk under construction is not of math, and all chunks have at most n bytes, with the dollar signs of math
pub record StateSize (σ : State) (n : ℕ) : Type 0 where
  pub plain : dollars σ.kind ≡ 0
  pub size : sizes σ.done + length σ.text ≤ n

default-plain : (d : ℕ) → dollars (default_chunk d) ≡ 0
default-plain zero = refl
default-plain (suc d) = refl

pushed-size : (σ : State) (e n : ℕ) → StateSize σ n → sizes (pushed σ e) ≤ n
pushed-size σ e n h = omega (arith, sizes-append σ.done (chunk σ.kind σ.text σ.start e ∷ []), h.plain, h.size)

step-size : (σ : State) (x : Part) (n : ℕ) → StateSize σ n → StateSize (step σ x) (n + weight x)
step-size σ (put w) n h = record { plain = h.plain; size = omega (arith, length-append σ.text w, h.size) }
step-size σ (cut d e b) n h = record { plain = default-plain d; size = omega (arith, pushed-size σ e n h) }
step-size σ (math w a e) n h = record { plain = h.plain; size = omega (arith, sizes-append σ.done (chunk Math w a e ∷ []), h.size) }

less-size : {σ : State} (n m : ℕ) → n ≤ m → StateSize σ n → StateSize σ m
less-size n m l h = record { plain = h.plain; size = omega (arith, l, h.size) }

steps-size : (xs : List Part) (σ : State) (n m : ℕ) → n + weights xs ≤ m → StateSize σ n → StateSize (steps σ xs) m
unfolding steps
steps-size [] σ n m l h = less-size n m (omega (arith, l)) h
steps-size (x ∷ xs) σ n m l h = steps-size xs (step σ x) (n + weight x) m (omega (arith, l)) (step-size σ x n h)

closed-size : (σ : State) (e n : ℕ) (t : List ℕ) (cs : List Chunk) → StateSize σ n → sizes (closed σ e t cs) ≤ n
closed-size σ e n [] [] h = pushed-size σ e n h
closed-size σ e n [] (c ∷ cs) h = omega (arith, h.size)
closed-size σ e n (b ∷ t) cs h = pushed-size σ e n h

chunks_size : (p e : ℕ) (xs : List Part) → sizes (chunks_of p e xs) ≤ weights xs
chunks_size p e xs =
    let σ : State = steps (beginning p) xs in
    closed-size σ e (weights xs) σ.text σ.done
    (steps-size xs (beginning p) 0 (weights xs) (omega arith) (record { plain = refl; size = omega arith }))

-- ---- the sizes of the text, and of the text formatted

text-size : (cs : List Chunk) → length (texts_of cs) ≤ sizes cs
unfolding texts_of
text-size [] = omega arith
text-size (c ∷ cs) = omega (arith, length-append c.text (texts_of cs), text-size cs)

lines-size : (t u : List ℕ) (w : Bool) → length (lines w u t).text ≤ length t
unfolding lines
lines-size [] u w = omega arith
lines-size (b ∷ t) u w = by (is_line_end b) (white w u) (lines-size t [] true) (lines-size t (u ++ b ∷ []) w)
  where
    by : (x y : Bool) → length (lines true [] t).text ≤ length t → length (lines w (u ++ b ∷ []) t).text ≤ length t
        → length (cond x (cond y (lines true [] t) (before (0x20 ∷ []) (lines true [] t))) (before (b ∷ []) (lines w (u ++ b ∷ []) t))).text
        ≤ suc (length t)
    by true true h k = omega (arith, h)
    by true false h k = omega (arith, h)
    by false y h k = omega (arith, k)

one_size : (w : Bool) (k : Kind) (t : List ℕ) → length (format_one w k t).text ≤ length t + dollars k
one_size w Normal t = omega (arith, lines-size t [] w)
one_size w Verbatim t = omega arith
one_size w Math t = omega (arith, length-append t (0x24 ∷ []))

format-size : (cs : List Chunk) (w : Bool) → length (format_from w cs) ≤ sizes cs
unfolding format_from
format-size [] w = omega arith
format-size (c ∷ cs) w =
    let f = format_one w c.kind c.text in
    omega (arith, length-append f.text (format_from f.white cs), one_size w c.kind c.text, format-size cs f.white)

pub chunks-text : (p e : ℕ) (xs : List Part) → length (texts_of (chunks_of p e xs)) ≤ weights xs
chunks-text p e xs = omega (arith, text-size (chunks_of p e xs), chunks_size p e xs)

pub chunks-formatted : (p e : ℕ) (xs : List Part) → length (format_verbatim (chunks_of p e xs)) ≤ weights xs
chunks-formatted p e xs = omega (arith, format-size (chunks_of p e xs) false, chunks_size p e xs)

-- ---- how many chunks

step-few : (σ : State) (x : Part) → length (step σ x).done ≡ length σ.done + end x
step-few σ (put w) = omega arith
step-few σ (cut d e b) = length-append σ.done (chunk σ.kind σ.text σ.start e ∷ [])
step-few σ (math w a e) = length-append σ.done (chunk Math w a e ∷ [])

steps-few : (xs : List Part) (σ : State) → length (steps σ xs).done ≡ length σ.done + ends xs
unfolding steps
steps-few [] σ = omega arith
steps-few (x ∷ xs) σ = omega (arith, step-few σ x, steps-few xs (step σ x))

closed-few : (σ : State) (e : ℕ) (t : List ℕ) (cs : List Chunk) → length (closed σ e t cs) ≤ length σ.done + 1
closed-few σ e [] [] = omega (arith, length-append σ.done (chunk σ.kind σ.text σ.start e ∷ []))
closed-few σ e [] (c ∷ cs) = omega arith
closed-few σ e (b ∷ t) cs = omega (arith, length-append σ.done (chunk σ.kind σ.text σ.start e ∷ []))

pub chunks-few : (p e : ℕ) (xs : List Part) → length (chunks_of p e xs) ≤ ends xs + 1
chunks-few p e xs =
    let σ : State = steps (beginning p) xs in omega (arith, closed-few σ e σ.text σ.done, steps-few xs (beginning p))
