-- A literal over a small room, and then over what is lent: for `write`, `one_chunk` and `single` of src/one_literal.rt.
--     nothing-held                               at first there are no rows and no chunks
--     write-few                                  how much a literal comes to
--     write-room                                 where the code's test finds room, there is room
--     write-refused, write-full, write-held, write_done      the ways through `write`: refused, or without room; copied, or resolved again
--     one-full, one-done                         the ways through `one_chunk`
--     whole-writes, answer-bounded               `single` of a literal that is one chunk; the bounds of its answer
-- Assumes nothing.
use Rattle.resolve.specs.declared.answer.Chunks.{Chunks}
use Rattle.std.specs.Prelude.{Result, Ok, Err}
use Prim.Native.Nat.{ℕ, ◌+◌, ◌*◌, ◌/◌, ◌≤◌}
use native.Mathlib.Omega.{arith}
use mathlib.Core.Path.{◌≡◌, refl, sym, ap, ap₂, subst, ◌∙◌}
use mathlib.Core.Bool.{Bool, true, false, cond, not, ◌&&◌, ◌||◌}
use mathlib.Core.List.{List, [], ◌∷◌, ◌++◌, append-nil}
use lib.ListN.{length, take, drop}
use lib.Seq.{sets, sets-eq, take_at, length-take-le}
use lib.Dec.{leb, ltb}
use borrow.Author.Tests.{ltb-true, ltb-false, leb-true, le-leb, lt-leb}
use Rattle.text.specs.Scan.{part}
use Rattle.text.proofs.general.Parts.{part-take}
use Rattle.text.proofs.general.Tests.{both_true}
use Rattle.row.specs.declared.fault.Fault.{Fault}
use Rattle.row.specs.declared.fault.Reason.TheVariants.{NoRoom}
use Rattle.row.specs.Fault.{nowhere}
use Rattle.row.specs.Limits.{most_bytes, most_literal, least_scratch}
use Rattle.raw.specs.Strict.{fault_up}
use Rattle.chunk.specs.declared.form.Kind.TheVariants.{Normal}
use Rattle.chunk.specs.Chunk.{Chunk, chunk, flat_chunks}
use Rattle.chunk.specs.Put.{last_place, Puts}
use Rattle.turn.specs.Content.{flatten_from, flatten}
use Rattle.literal.specs.declared.rows.Rows.{Rows}
use Rattle.literal.specs.Literal.{Resolved, chunks, resolve_literal}
use Rattle.literal.specs.Literal as literal
use Rattle.literal.specs.Rows.{most_number, InReach, RowsHold, Pushes, rows_from, writes, texts_of, last_kind, last_text, last_start}
use Rattle.literal.specs.Inner.{OneChunk, Added, SaysParsed, GrowsParsed}
use Rattle.literal.specs.Refusals.{ContentFault, LiteralFault}
use Rattle.literal.specs.Refusals as fault
use Rattle.literal.proofs.Flattening.{flattening}
use Rattle.literal.proofs.Refusals.{refusals}
use Rattle.resolve.specs.Resolves.{resolved, roomy, fits, told, Writes}
use Rattle.resolve.specs.Progress.{Narrow, BoundedAnswer}
use Rattle.resolve.specs.OneLiteral.{value_of}

-- ---- no rows

abbrev pub none : Rows
none = record { n = 0; last = 3; from = 0; start = 0 }

nothing-held : (b : List ℕ) → RowsHold [] b none b
unfolding rows_from writes last_kind last_text last_start
nothing-held b = record { numbers = λ _. refl; count = refl; last = refl; from = λ _. refl; start = refl }

-- the first chunks of a value
first-added : {cs : List Chunk} {k : Rows} {len : ℕ} {o' b' : List ℕ} (b : List ℕ)
    → SaysParsed (chunks cs) 0 none b (Ok (k, len)) o' b' → Added [] cs b k len o' b'
unfolding texts_of
first-added b h = h [] b refl (nothing-held b)

-- ---- the room

leb-not : (m n : ℕ) → leb m n ≡ not (ltb n m)
leb-not m n = by (ltb n m) refl
  where
    by : (x : Bool) → ltb n m ≡ x → leb m n ≡ not x
    by true e = lt-leb m n (ltb-true n m e)
    by false e = le-leb m n (ltb-false n m e)

neither : (x y : Bool) → (not x && not y) ≡ not (x || y)
neither true y = refl
neither false y = refl

-- the code's test
abbrev pub full : List ℕ → List ℕ → ℕ → ℕ → Bool
full b t n len = ltb (length b / 5) n || ltb (length t) len

fits-test : (cs : List Chunk) (b t : List ℕ) (n len : ℕ) → n ≡ length cs → len ≡ length (texts_of cs) → len ≤ least_scratch
    → fits cs b t ≡ not (full b t n len)
fits-test cs b t n len e i l =
    ap (λ (x : Bool). x && roomy cs b t) (le-leb (length (texts_of cs)) most_number (omega (arith, i, l)))
    ∙ ap₂ (λ (x y : ℕ). leb x (length b / 5) && leb y (length t)) (sym e) (sym i)
    ∙ ap₂ ◌&&◌ (leb-not n (length b / 5)) (leb-not len (length t)) ∙ neither (ltb (length b / 5) n) (ltb (length t) len)

-- where the code's test finds room, there is room
enough : (b t : List ℕ) (n len : ℕ) → full b t n len ≡ false → (n ≤ length b / 5) × (len ≤ length t)
enough b t n len = by (ltb (length b / 5) n) (ltb (length t) len) refl refl
  where
    by : (x y : Bool) → ltb (length b / 5) n ≡ x → ltb (length t) len ≡ y → (x || y) ≡ false → (n ≤ length b / 5) × (len ≤ length t)
    by true y i j q = absurd (let z : ◌≡◌ {A = ℕ} 0 1 = cc in omega (arith, z))
    by false y i j q = (ltb-false (length b / 5) n i, ltb-false (length t) len (j ∙ q))

-- ---- n chunks, whose text has `len` bytes

module _ (cs : List Chunk) (n len : ℕ) (many : n ≡ length cs) (long : len ≡ length (texts_of cs)) (short : len ≤ least_scratch) (b t : List ℕ) where
  in_reach : InReach cs
  in_reach = omega (arith, long, short)

  fits-as : (x : Bool) → full b t n len ≡ x → fits cs b t ≡ not x
  fits-as x q = fits-test cs b t n len many long short ∙ ap not q

  full-with : full b t n len ≡ true → Writes (resolved cs 0) b t (Err (nowhere NoRoom)) b t
  full-with q = record {
    answer = ap (λ (x : Bool). cond x (Ok (record { rows = length cs; bytes = length (texts_of cs); names = 0 })) (Err (nowhere NoRoom))) (sym (fits-as true q));
    rows = ap (λ (x : Bool). cond x (flat_chunks (rows_from 0 cs) ++ drop (length cs * 5) b) b) (sym (fits-as true q));
    text = ap (λ (x : Bool). cond x (texts_of cs ++ drop (length (texts_of cs)) t) t) (sym (fits-as true q));
  }

  module _ (q : full b t n len ≡ false) where
    put-rows : (b' : List ℕ) → b' ≡ writes b 0 (rows_from 0 cs) → b' ≡ flat_chunks (rows_from 0 cs) ++ drop (length cs * 5) b
    put-rows b' e = e ∙ flattening.rows_written b cs (omega (arith, many, (enough b t n len q).0))

    done-with : (w : List ℕ) (p : ℕ) (t' : List ℕ) → w ≡ texts_of cs → Puts t 0 w p t' → (b' : List ℕ)
        → b' ≡ flat_chunks (rows_from 0 cs) ++ drop (length cs * 5) b → Writes (resolved cs 0) b t (Ok (record { rows = n; bytes = len; names = 0 })) b' t'
    done-with w p t' e y b' z = record {
      answer = ap₂ (λ (m n : ℕ). Ok (record { rows = m; bytes = n; names = 0 })) many long
          ∙ ap (λ (x : Bool). cond x (Ok (record { rows = length cs; bytes = length (texts_of cs); names = 0 })) (Err (nowhere NoRoom))) (sym (fits-as false q));
      rows = z ∙ ap (λ (x : Bool). cond x (flat_chunks (rows_from 0 cs) ++ drop (length cs * 5) b) b) (sym (fits-as false q));
      text = put-text ∙ ap (λ (x : Bool). cond x (texts_of cs ++ drop (length (texts_of cs)) t) t) (sym (fits-as false q));
    }
      where
        zeroed : (n : ℕ) → 0 + n ≡ n
        zeroed n = omega arith

        put-text : t' ≡ texts_of cs ++ drop (length (texts_of cs)) t
        put-text =
            y.bytes ∙ ap (sets t 0) e ∙ sets-eq (texts_of cs) t 0 (omega (arith, long, (enough b t n len q).1))
            ∙ ap (λ (n : ℕ). texts_of cs ++ drop n t) (zeroed (length (texts_of cs)))

-- ---- the ways through `write`

module _ (R : Resolved) (nb : List ℕ) (r : Result (Rows × ℕ) Fault) (o₁ nb' : List ℕ) (h : SaysParsed R 0 none nb r o₁ nb') (b t : List ℕ) where
  pub write-refused : (f : Fault) → r ≡ Err f → Writes (value_of R) b t (Err f) b t
  write-refused f e = by R (subst (λ (x : Result (Rows × ℕ) Fault). SaysParsed R 0 none nb x o₁ nb') e h)
    where
      by : (R : Resolved) → SaysParsed R 0 none nb (Err f) o₁ nb' → Writes (value_of R) b t (Err f) b t
      by (chunks cs) k = absurd k
      by (literal.refused g) k = record { answer = ap Err k; rows = refl; text = refl }

  module _ (k : Rows) (len : ℕ) (e : r ≡ Ok (k, len)) (g : GrowsParsed none r) where
    pub write-few : (len ≤ least_scratch) × (k.n ≤ 0 + (most_literal + 1))
    write-few = subst (GrowsParsed none) e g

    counted : SaysParsed R 0 none nb (Ok (k, len)) o₁ nb'
    counted = subst (λ (x : Result (Rows × ℕ) Fault). SaysParsed R 0 none nb x o₁ nb') e h

    -- what the counting pass says of the chunks
    module _ (cs : List Chunk) (c : Added [] cs nb k len o₁ nb') where
      abbrev flat : List Chunk
      flat = flatten cs

      texts : texts_of flat ≡ texts_of cs
      texts = flattening.texts-flat cs

      many : k.n ≡ length flat
      many = c.rows.count

      long : len ≡ length (texts_of flat)
      long = c.bytes ∙ ap length (sym texts)

      full-flat : full b t k.n len ≡ true → Writes (resolved flat 0) b t (Err (nowhere NoRoom)) b t
      full-flat = full-with flat k.n len many long write-few.0 b t

      reach : InReach flat
      reach = in_reach flat k.n len many long write-few.0 b t

      module _ (q : full b t k.n len ≡ false) (room : len ≤ length o₁) where
        second : (r₂ : Result (Rows × ℕ) Fault) (o₂ b' : List ℕ) → SaysParsed (chunks cs) 0 none b r₂ o₂ b'
            → b' ≡ flat_chunks (rows_from 0 flat) ++ drop (length flat * 5) b
        second (Ok (k₂, len₂)) o₂ b' z =
            put-rows flat k.n len many long write-few.0 b t q b' ((first-added b z).rows.numbers reach)
        second (Err f) o₂ b' z = absurd z

        -- the rows that the small room holds
        held : k.n * 5 ≤ length nb → take (k.n * 5) nb' ≡ flat_chunks (rows_from 0 flat)
        held l =
            ap (take (k.n * 5)) (c.rows.numbers reach ∙ flattening.rows_written nb flat (omega (arith, many, l)))
            ∙ take_at (flat_chunks (rows_from 0 flat)) (drop (length flat * 5) nb) (k.n * 5) (omega (arith, flattening.numbers-length 0 flat, many))

        held_rows : k.n * 5 ≤ length nb → (b' : List ℕ) → b' ≡ take (k.n * 5) nb' ++ drop (k.n * 5) b
            → b' ≡ flat_chunks (rows_from 0 flat) ++ drop (length flat * 5) b
        held_rows l b' e = e ∙ ap₂ ◌++◌ (held l) (ap (λ (n : ℕ). drop (n * 5) b) many)

        done-flat : (p : ℕ) (t' : List ℕ) → Puts t 0 (part o₁ 0 len) p t' → (b' : List ℕ)
            → b' ≡ flat_chunks (rows_from 0 flat) ++ drop (length flat * 5) b → Writes (resolved flat 0) b t (Ok (record { rows = k.n; bytes = len; names = 0 })) b' t'
        done-flat p t' =
            done-with flat k.n len many long write-few.0 b t q (part o₁ 0 len) p t'
            (part-take o₁ len room ∙ c.text ∙ sym texts)

    pub write-full : full b t k.n len ≡ true → Writes (value_of R) b t (Err (nowhere NoRoom)) b t
    write-full q = by R counted
      where
        by : (R : Resolved) → SaysParsed R 0 none nb (Ok (k, len)) o₁ nb'
            → Writes (value_of R) b t (Err (nowhere NoRoom)) b t
        by (chunks cs) c = full-flat cs (first-added nb c) q
        by (literal.refused f) c = absurd c

    pub write_done : full b t k.n len ≡ false → len ≤ length o₁ → (p : ℕ) (t' : List ℕ) → Puts t 0 (part o₁ 0 len) p t'
        → (r₂ : Result (Rows × ℕ) Fault) (o₂ b' : List ℕ) → SaysParsed R 0 none b r₂ o₂ b' → Writes (value_of R) b t (Ok (record { rows = k.n; bytes = len; names = 0 })) b' t'
    write_done q room p t' y r₂ o₂ b' z = by R counted z
      where
        by : (R : Resolved) → SaysParsed R 0 none nb (Ok (k, len)) o₁ nb' → SaysParsed R 0 none b r₂ o₂ b'
            → Writes (value_of R) b t (Ok (record { rows = k.n; bytes = len; names = 0 })) b' t'
        by (chunks cs) c z = done-flat cs (first-added nb c) q room p t' y b' (second cs (first-added nb c) q room r₂ o₂ b' z)
        by (literal.refused f) c z = absurd c

    pub write-held : full b t k.n len ≡ false → len ≤ length o₁ → (p : ℕ) (t' : List ℕ) → Puts t 0 (part o₁ 0 len) p t'
        → k.n * 5 ≤ length nb → (b' : List ℕ) → b' ≡ take (k.n * 5) nb' ++ drop (k.n * 5) b
        → Writes (value_of R) b t (Ok (record { rows = k.n; bytes = len; names = 0 })) b' t'
    write-held q room p t' y l b' z = by R counted
      where
        by : (R : Resolved) → SaysParsed R 0 none nb (Ok (k, len)) o₁ nb' → Writes (value_of R) b t (Ok (record { rows = k.n; bytes = len; names = 0 })) b' t'
        by (chunks cs) c = done-flat cs (first-added nb c) q room p t' y b' (held_rows cs (first-added nb c) q room l b' z)
        by (literal.refused f) c = absurd c

    -- where the test finds room, there is room
    pub write-room : full b t k.n len ≡ false → (k.n ≤ length b / 5) × (len ≤ length t)
    write-room q = enough b t k.n len q

-- ---- one chunk, from a to e, whose text is the first n bytes of o

module _ (o : List ℕ) (n a e : ℕ) (few : n ≤ least_scratch) (l : n ≤ length o) (b t : List ℕ) where
  abbrev one : List Chunk
  one = chunk Normal (take n o) a e ∷ []

  one-text : texts_of one ≡ take n o
  unfolding texts_of
  one-text = append-nil (take n o)

  one-long : n ≡ length (texts_of one)
  one-long = sym (ap length one-text ∙ length-take-le n o l)

  pub one-full : full b t 1 n ≡ true → Writes (resolved one 0) b t (Err (nowhere NoRoom)) b t
  one-full = full-with one 1 n refl one-long few b t

  pub one-done : full b t 1 n ≡ false → (k₀ : Rows) → ((b : List ℕ) → RowsHold [] b k₀ b) → (k : Rows) (b' : List ℕ)
      → Pushes Normal 0 (0 + n) a e k₀ b k b' → (p : ℕ) (t' : List ℕ) → Puts t 0 (part o 0 n) p t'
      → Writes (resolved one 0) b t (Ok (record { rows = 1; bytes = n; names = 0 })) b' t'
  unfolding texts_of
  one-done q k₀ h k b' z p t' y =
      done-with one 1 n refl one-long few b t q (part o 0 n) p t' (part-take o n l ∙ sym one-text) y b'
      (put-rows one 1 n refl one-long few b t q b'
      ((z [] (take n o) b (λ _. (refl, ap (λ (m : ℕ). 0 + m) (sym (length-take-le n o l)))) (h b)).numbers (in_reach one 1 n refl one-long few b t)))

-- ---- `single`

-- a literal that is one chunk
pub whole-writes : (verb : Bool) (s : List ℕ) (n base : ℕ) (o : List ℕ) → OneChunk verb s n o → (b t : List ℕ) (r : Result Chunks Fault) (b' t' : List ℕ)
    → Writes (resolved (chunk Normal (take n o) base (base + length s) ∷ []) 0) b t r b' t'
    → Writes (value_of (resolve_literal verb s base)) b t r b' t'
unfolding flatten_from
whole-writes verb s n base o w b t r b' t' h = subst (λ (x : Resolved). Writes (value_of x) b t r b' t') (sym (w.is base)) h

-- an answer is bounded: as much as is ever counted, or a refusal at a place of the file
module _ (verb : Bool) (s : List ℕ) (base : ℕ) (l : base + length s ≤ most_bytes) (b t : List ℕ) (z : length b ≤ last_place) where
  content-narrow : (f : Fault) → ContentFault s f → Narrow (fault_up base f)
  content-narrow f (fault.ended p h) = (omega arith, omega arith)
  content-narrow f (fault.closed p h e) = (omega arith, omega arith)
  content-narrow f (fault.deep p h e) = (omega arith, omega arith)

  fault-narrow : (f : Fault) → LiteralFault s base f → Narrow f
  fault-narrow f (fault.long h) = (omega arith, omega arith)
  fault-narrow f (fault.met g h m) = content-narrow g m

  fits-bounded : (cs : List Chunk) (x : Bool) → fits cs b t ≡ x
      → BoundedAnswer (cond x (Ok (record { rows = length cs; bytes = length (texts_of cs); names = 0 })) (Err (nowhere NoRoom)))
  fits-bounded cs true e =
      let both = both_true (leb (length (texts_of cs)) most_number) (roomy cs b t) e in
      let room = leb-true (length cs) (length b / 5) (both_true (leb (length cs) (length b / 5)) _ both.1).0 in
      (omega (arith, room, z), leb-true (length (texts_of cs)) most_number both.0, omega arith)
  fits-bounded cs false e = (omega arith, omega arith)

  told-bounded : (R : Resolved) → resolve_literal verb s base ≡ R → BoundedAnswer (told (value_of R) b t)
  told-bounded (chunks cs) e = fits-bounded (flatten cs) (fits (flatten cs) b t) refl
  told-bounded (literal.refused f) e = fault-narrow f (refusals.literal verb s base f e)

  pub answer-bounded : {r : Result Chunks Fault} (b' t' : List ℕ) → Writes (value_of (resolve_literal verb s base)) b t r b' t' → BoundedAnswer r
  answer-bounded b' t' h = subst BoundedAnswer (sym h.answer) (told-bounded (resolve_literal verb s base) refl)
