-- One row more: for `rows::push`.
--     rows-length               as many rows as chunks
--     push-new, push-join       the two ways through it
-- Assumes nothing.
use Rattle.std.proofs.Common.{ℕ, zero, suc, ◌+◌, ◌-◌, ◌≤◌, ◌<◌, arith, ◌≡◌, refl, sym, ap, ap₂, subst, ◌∙◌, Bool}
use Rattle.std.proofs.Common.{true, false, cond, not, ◌&&◌, List, [], ◌∷◌, ◌++◌, append_assoc, length, length-append, eqb, ltb, eqb-true, ltb-true, lt-ltb}
use Rattle.text.proofs.general.Tests.{both_true}
use Rattle.text.proofs.general.Lists.{add-over}
use Rattle.chunk.specs.declared.form.Kind.{Kind}
use Rattle.chunk.specs.declared.form.Kind.TheVariants.{Normal, Verbatim, Math}
use Rattle.chunk.specs.Chunk.{Chunk, chunk, kind_of, ChunkRow, chunk_row, put_chunk}
use Rattle.literal.specs.declared.rows.Rows.{Rows}
use Rattle.turn.specs.Content.{joins, join}
use Rattle.literal.specs.Rows.{rows_from, writes, texts_of, last_kind, last_text, last_start, InReach, RowsHold, onto, Ranges, Pushes, most_number}

-- ---- a list and its last chunk

pub record Snoc (cs : List Chunk) : Type 0 where
  pub front : List Chunk
  pub last : Chunk
  pub same : cs ≡ front ++ last ∷ []

snoc_of : (cs : List Chunk) (c : Chunk) → Snoc (c ∷ cs)
snoc_of [] c = record { front = []; last = c; same = refl }
snoc_of (d ∷ cs) c = let r = snoc_of cs d in record { front = c ∷ r.front; last = r.last; same = ap (λ (l : List Chunk). c ∷ l) r.same }

writes-snoc : (rs : List ChunkRow) (b : List ℕ) (n : ℕ) (r : ChunkRow) → writes b n (rs ++ r ∷ []) ≡ put_chunk (writes b n rs) (n + length rs) r
unfolding writes
writes-snoc [] b n r = ap (λ (k : ℕ). put_chunk b k r) (zeroed n)
  where
    zeroed : (n : ℕ) → n ≡ n + 0
    zeroed n = omega arith
writes-snoc (q ∷ rs) b n r = writes-snoc rs (put_chunk b n q) (suc n) r ∙ ap (λ (k : ℕ). put_chunk (writes (put_chunk b n q) (suc n) rs) k r)
    (add-over n (length rs))

-- the row of a chunk whose text begins at t
abbrev row_at : ℕ → Chunk → ChunkRow
row_at t c = chunk_row (kind_of c.kind) t (t + length c.text) c.start c.end

texts-snoc : (cs : List Chunk) (d : Chunk) → length (texts_of (cs ++ d ∷ [])) ≡ length (texts_of cs) + length d.text
unfolding texts_of
texts-snoc [] d = length-append d.text [] ∙ zeroed (length d.text)
  where
    zeroed : (n : ℕ) → n + 0 ≡ 0 + n
    zeroed n = omega arith
texts-snoc (c ∷ cs) d =
    sum (length c.text) (length (texts_of cs)) (length (texts_of (cs ++ d ∷ []))) (length d.text) (length (c.text ++ texts_of (cs ++ d ∷ [])))
    (length (c.text ++ texts_of cs)) (texts-snoc cs d) (length-append c.text (texts_of (cs ++ d ∷ []))) (length-append c.text (texts_of cs))
  where
    sum : (a b c d e f : ℕ) → c ≡ b + d → e ≡ a + c → f ≡ a + b → e ≡ f + d
    sum a b c d e f p q r = omega arith

rows_snoc : (cs : List Chunk) (t : ℕ) (d : Chunk) → rows_from t (cs ++ d ∷ []) ≡ rows_from t cs ++ row_at (t + length (texts_of cs)) d ∷ []
unfolding rows_from texts_of
rows_snoc [] t d = ap (λ (n : ℕ). row_at n d ∷ []) (zeroed t)
  where
    zeroed : (n : ℕ) → n ≡ n + 0
    zeroed n = omega arith
rows_snoc (c ∷ cs) t d =
    ap (λ (l : List ChunkRow). row_at t c ∷ l)
    (rows_snoc cs (t + length c.text) d
    ∙ ap (λ (n : ℕ). rows_from (t + length c.text) cs ++ row_at n d ∷ []) (moved t (length c.text) (length (texts_of cs)) _
    (length-append c.text (texts_of cs))))
  where
    moved : (t a b c : ℕ) → c ≡ a + b → t + a + b ≡ t + c
    moved t a b c e = omega arith

pub rows-length : (cs : List Chunk) (t : ℕ) → length (rows_from t cs) ≡ length cs
unfolding rows_from
rows-length [] t = refl
rows-length (c ∷ cs) t = ap suc (rows-length cs (t + length c.text))

kind-snoc : (cs : List Chunk) (d : Chunk) → last_kind (cs ++ d ∷ []) ≡ kind_of d.kind
unfolding last_kind
kind-snoc [] d = refl
kind-snoc (c ∷ []) d = refl
kind-snoc (c ∷ e ∷ cs) d = kind-snoc (e ∷ cs) d

start-snoc : (cs : List Chunk) (d : Chunk) → last_start (cs ++ d ∷ []) ≡ d.start
unfolding last_start
start-snoc [] d = refl
start-snoc (c ∷ []) d = refl
start-snoc (c ∷ e ∷ cs) d = start-snoc (e ∷ cs) d

text-snoc : (cs : List Chunk) (t : ℕ) (d : Chunk) → last_text t (cs ++ d ∷ []) ≡ t + length (texts_of cs)
unfolding last_text texts_of
text-snoc [] t d = zeroed t
  where
    zeroed : (n : ℕ) → n ≡ n + 0
    zeroed n = omega arith
text-snoc (c ∷ []) t d = one t (length c.text) _ (length-append c.text [])
  where
    one : (t a b : ℕ) → b ≡ a + 0 → t + a ≡ t + b
    one t a b e = omega arith
text-snoc (c ∷ e ∷ cs) t d =
    text-snoc (e ∷ cs) (t + length c.text) d ∙ moved t (length c.text) (length (e.text ++ texts_of cs)) _
    (length-append c.text (e.text ++ texts_of cs))
  where
    moved : (t a b c : ℕ) → c ≡ a + b → t + a + b ≡ t + c
    moved t a b c e = omega arith

onto-snoc : (cs : List Chunk) (c d : Chunk) (w : Bool) → joins c.kind d.kind ≡ w
    → onto (cs ++ c ∷ []) d ≡ cs ++ cond w (join c d ∷ []) (c ∷ d ∷ [])
onto-snoc [] c d w e = ap (λ (w : Bool). cond w (join c d ∷ []) (c ∷ d ∷ [])) e
onto-snoc (a ∷ []) c d w e = ap (λ (l : List Chunk). a ∷ l) (onto-snoc [] c d w e)
onto-snoc (a ∷ b ∷ cs) c d w e = ap (λ (l : List Chunk). a ∷ l) (onto-snoc (b ∷ cs) c d w e)

put-twice : (b : List ℕ) (n : ℕ) (r q : ChunkRow) → put_chunk (put_chunk b n r) n q ≡ put_chunk b n q
unfolding put_chunk
put-twice [] n r q = refl
put-twice (x₁ ∷ []) n r q = refl
put-twice (x₁ ∷ x₂ ∷ []) n r q = refl
put-twice (x₁ ∷ x₂ ∷ x₃ ∷ []) n r q = refl
put-twice (x₁ ∷ x₂ ∷ x₃ ∷ x₄ ∷ []) n r q = refl
put-twice (x₁ ∷ x₂ ∷ x₃ ∷ x₄ ∷ x₅ ∷ l) zero r q = refl
put-twice (x₁ ∷ x₂ ∷ x₃ ∷ x₄ ∷ x₅ ∷ l) (suc n) r q = ap (λ (m : List ℕ). x₁ ∷ x₂ ∷ x₃ ∷ x₄ ∷ x₅ ∷ m) (put-twice l n r q)

-- the code's test decides as the definition does
joins-test : (j k : Kind) → (eqb (kind_of j) (kind_of k) && not (eqb (kind_of k) 2)) ≡ joins j k
joins-test Normal Normal = refl
joins-test Normal Verbatim = refl
joins-test Normal Math = refl
joins-test Verbatim Normal = refl
joins-test Verbatim Verbatim = refl
joins-test Verbatim Math = refl
joins-test Math Normal = refl
joins-test Math Verbatim = refl
joins-test Math Math = refl

abbrev rows_of : ℕ → ℕ → ℕ → ℕ → Rows
rows_of n last from start = record { n = n; last = last; from = from; start = start }

-- the code's test
abbrev pub test : Rows → Kind → Bool
test k kind = ltb 0 k.n && eqb k.last (kind_of kind) && not (eqb (kind_of kind) 2)

at_last : (cs : List Chunk) (b₀ : List ℕ) (k : Rows) (b : List ℕ) (kind : Kind) (z : Snoc cs) → RowsHold cs b₀ k b
    → joins z.last.kind kind ≡ test k kind
at_last cs b₀ k b kind z h =
    sym (joins-test z.last.kind kind)
    ∙ ap₂ (λ (x : Bool) (n : ℕ). x && eqb n (kind_of kind) && not (eqb (kind_of kind) 2)) (sym (lt-ltb 0 k.n some))
    (sym (h.last ∙ ap last_kind z.same ∙ kind-snoc z.front z.last))
  where
    some : 0 < k.n
    some = omega (arith, h.count, ap length z.same, length-append z.front (z.last ∷ []))

module _ (kind : Kind) (from to start end : ℕ) (k : Rows) (b : List ℕ) (b' : List ℕ) where
  module _ (cs : List Chunk) (t b₀ : List ℕ) (f : Ranges cs t from to) (h : RowsHold cs b₀ k b) where
    abbrev d : Chunk
    d = chunk kind t start end

    held_new : b' ≡ put_chunk b k.n (chunk_row (kind_of kind) from to start end) → RowsHold (cs ++ d ∷ []) b₀
        (rows_of (k.n + 1) (kind_of kind) from start) b'
    held_new e = record {
      numbers = λ s. let r = f (short s) in
          e ∙ ap₂ (λ (l : List ℕ) (n : ℕ). put_chunk l n (chunk_row (kind_of kind) from to start end)) (h.numbers (omega (arith, short s)))
          (h.count ∙ sym (rows-length cs 0) ∙ zeroed (length (rows_from 0 cs)))
          ∙ ap₂ (λ (x y : ℕ). put_chunk (writes b₀ 0 (rows_from 0 cs)) (0 + length (rows_from 0 cs)) (chunk_row (kind_of kind) x y start end))
          (r.0 ∙ zeroed (length (texts_of cs)))
          (r.1 ∙ ap (λ (n : ℕ). n + length t) (r.0 ∙ zeroed (length (texts_of cs))))
          ∙ sym (writes-snoc (rows_from 0 cs) b₀ 0 (row_at (0 + length (texts_of cs)) d)) ∙ ap (writes b₀ 0) (sym (rows_snoc cs 0 d));
      count = omega (arith, h.count, length-append cs (d ∷ []));
      last = sym (kind-snoc cs d);
      from = λ s. (f (short s)).0 ∙ zeroed (length (texts_of cs)) ∙ sym (text-snoc cs 0 d);
      start = sym (start-snoc cs d);
    }
      where
        zeroed : (n : ℕ) → n ≡ 0 + n
        zeroed n = omega arith

        short : InReach (cs ++ d ∷ []) → length (texts_of cs) + length t ≤ most_number
        short s = omega (arith, s, texts-snoc cs d)

    onto-new : (l : List Chunk) → l ≡ cs → test k kind ≡ false → onto l d ≡ l ++ d ∷ []
    onto-new [] q e = refl
    onto-new (c ∷ l) q e =
        let z = snoc_of l c in
        ap (λ (l : List Chunk). onto l d) z.same
        ∙ onto-snoc z.front z.last d false (at_last (c ∷ l) b₀ k b kind z (subst (λ (l : List Chunk). RowsHold l b₀ k b) (sym q) h) ∙ e)
        ∙ sym (append_assoc z.front (z.last ∷ []) (d ∷ [])) ∙ ap (λ (l : List Chunk). l ++ d ∷ []) (sym z.same)

    module _ (z : Snoc cs) where
      abbrev front : List Chunk
      front = z.front

      abbrev c : Chunk
      c = z.last

      abbrev w : List ℕ
      w = writes b₀ 0 (rows_from 0 front)

      abbrev joined : Chunk
      joined = join c d

      lent : InReach cs → b ≡ put_chunk w (0 + length (rows_from 0 front)) (row_at (0 + length (texts_of front)) c)
      lent s = h.numbers s ∙ ap (λ (l : List Chunk). writes b₀ 0 (rows_from 0 l)) z.same ∙ ap (writes b₀ 0) (rows_snoc front 0 c)
          ∙ writes-snoc (rows_from 0 front) b₀ 0 (row_at (0 + length (texts_of front)) c)

      held-join : eqb k.last (kind_of kind) ≡ true → b' ≡ put_chunk b (k.n - 1) (chunk_row (kind_of kind) k.from to k.start end)
          → RowsHold (front ++ joined ∷ []) b₀ (rows_of k.n (kind_of kind) k.from k.start) b'
      held-join q e = record {
        numbers = λ s.
            e ∙ ap₂ (λ (l : List ℕ) (n : ℕ). put_chunk l n (chunk_row (kind_of kind) k.from to k.start end)) (lent (first s)) place
            ∙ put-twice w (0 + length (rows_from 0 front)) (row_at (0 + length (texts_of front)) c) (chunk_row (kind_of kind) k.from to k.start end)
            ∙ ap (put_chunk w (0 + length (rows_from 0 front))) (row s)
            ∙ sym (writes-snoc (rows_from 0 front) b₀ 0 (row_at (0 + length (texts_of front)) joined))
            ∙ ap (writes b₀ 0) (sym (rows_snoc front 0 joined));
        count = omega (arith, h.count, ap length z.same, length-append front (c ∷ []), length-append front (joined ∷ []));
        last = sym kinds ∙ sym (kind-snoc front joined);
        from = λ s. text (first s) ∙ sym (text-snoc front 0 joined);
        start = begin ∙ sym (start-snoc front joined);
      }
        where
          kinds : kind_of c.kind ≡ kind_of kind
          kinds = sym (h.last ∙ ap last_kind z.same ∙ kind-snoc front c) ∙ eqb-true _ _ q

          all : length (texts_of cs) ≡ length (texts_of front) + length c.text
          all = ap (λ (l : List Chunk). length (texts_of l)) z.same ∙ texts-snoc front c

          short : InReach (front ++ joined ∷ []) → length (texts_of cs) + length t ≤ most_number
          short s = omega (arith, s, all, texts-snoc front joined, length-append c.text t)

          first : InReach (front ++ joined ∷ []) → InReach cs
          first s = omega (arith, short s)

          text : InReach cs → k.from ≡ 0 + length (texts_of front)
          text s = h.from s ∙ ap (last_text 0) z.same ∙ text-snoc front 0 c

          begin : k.start ≡ c.start
          begin = h.start ∙ ap last_start z.same ∙ start-snoc front c

          place : k.n - 1 ≡ 0 + length (rows_from 0 front)
          place = omega (arith, h.count, ap length z.same, length-append front (c ∷ []), rows-length front 0)

          to_end : InReach (front ++ joined ∷ []) → to ≡ 0 + length (texts_of front) + length (c.text ++ t)
          to_end s = let r = f (short s) in omega (arith, r.0, r.1, all, length-append c.text t)

          row : InReach (front ++ joined ∷ []) → chunk_row (kind_of kind) k.from to k.start end ≡ row_at (0 + length (texts_of front)) joined
          row s = ap₂ (λ (x y : ℕ). chunk_row x k.from y k.start end) (sym kinds) (to_end s)
              ∙ ap₂ (λ (x y : ℕ). chunk_row (kind_of c.kind) x (0 + length (texts_of front) + length (c.text ++ t)) y end) (text (first s)) begin

      onto-join : test k kind ≡ true → onto cs d ≡ front ++ joined ∷ []
      onto-join e = ap (λ (l : List Chunk). onto l d) z.same ∙ onto-snoc front c d true (at_last cs b₀ k b kind z h ∙ e)

  pub push-new : test k kind ≡ false → b' ≡ put_chunk b k.n (chunk_row (kind_of kind) from to start end)
      → Pushes kind from to start end k b (rows_of (k.n + 1) (kind_of kind) from start) b'
  push-new e q cs t b₀ f h =
      subst (λ (l : List Chunk). RowsHold l b₀ (rows_of (k.n + 1) (kind_of kind) from start) b') (sym (onto-new cs t b₀ f h cs refl e))
      (held_new cs t b₀ f h q)

  pub push-join : test k kind ≡ true → b' ≡ put_chunk b (k.n - 1) (chunk_row (kind_of kind) k.from to k.start end)
      → Pushes kind from to start end k b (rows_of k.n (kind_of kind) k.from k.start) b'
  push-join e q cs t b₀ f h = by cs refl
    where
      last : eqb k.last (kind_of kind) ≡ true
      last = (both_true (ltb 0 k.n) (eqb k.last (kind_of kind)) (both_true (ltb 0 k.n && eqb k.last (kind_of kind)) (not (eqb (kind_of kind) 2))
          e).0).1

      some : 0 < k.n
      some = ltb-true 0 k.n (both_true (ltb 0 k.n) (eqb k.last (kind_of kind)) (both_true (ltb 0 k.n && eqb k.last (kind_of kind))
          (not (eqb (kind_of kind) 2)) e).0).0

      by : (l : List Chunk) → cs ≡ l → RowsHold (onto cs (chunk kind t start end)) b₀ (rows_of k.n (kind_of kind) k.from k.start) b'
      by [] r = absurd (omega (arith, some, h.count, ap length r))
      by (c ∷ l) r =
          let y = snoc_of l c in
          let z : Snoc cs = record { front = y.front; last = y.last; same = r ∙ y.same } in
          subst (λ (l : List Chunk). RowsHold l b₀ (rows_of k.n (kind_of kind) k.from k.start) b') (sym (onto-join cs t b₀ f h z e))
          (held-join cs t b₀ f h z last q)

-- ---- both ways, over the kind's number as the code has it

module _ (kind : Kind) (from to start end : ℕ) (k : Rows) (b : List ℕ) (b' : List ℕ) (number : ℕ) (e : number ≡ kind_of kind) where
  abbrev tested : ℕ → Bool
  tested x = ltb 0 k.n && eqb k.last x && not (eqb x 2)

  pub pushed-new : tested number ≡ false → b' ≡ put_chunk b k.n (chunk_row (kind_of kind) from to start end)
      → Pushes kind from to start end k b (rows_of (k.n + 1) number from start) b'
  pushed-new t q =
      subst (λ (x : ℕ). Pushes kind from to start end k b (rows_of (k.n + 1) x from start) b') (sym e)
      (push-new kind from to start end k b b' (sym (ap tested e) ∙ t) q)

  pub pushed-join : tested number ≡ true → b' ≡ put_chunk b (k.n - 1) (chunk_row (kind_of kind) k.from to k.start end)
      → Pushes kind from to start end k b (rows_of k.n number k.from k.start) b'
  pushed-join t q =
      subst (λ (x : ℕ). Pushes kind from to start end k b (rows_of k.n x k.from k.start) b') (sym e)
      (push-join kind from to start end k b b' (sym (ap tested e) ∙ t) q)

  pub pushed-some : tested number ≡ true → 0 < k.n
  pushed-some t = ltb-true 0 k.n (both_true (ltb 0 k.n) (eqb k.last number) (both_true (ltb 0 k.n && eqb k.last number) (not (eqb number 2))
      t).0).0
