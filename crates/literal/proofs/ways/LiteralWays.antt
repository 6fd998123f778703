-- A whole literal: for `close`, `whole`, `begin`, `rest` and `parse` of src/parse.rt.
--     closed-done, closed-left                   the two ways through `close`
--     begun-long, begun-whole, begun-part        the three ways through `begin`
--     rest-long, rest-refused, rest-chunks       the three ways through `rest`
--     rest-ready, rest-fits, rest-grows          what `rest` owes to what it calls, and its bounds
--     whole_row, parse-whole                     for `whole`; `parse` of a literal that is one chunk
-- Assumes nothing.
use Rattle.std.proofs.Common.{ℕ, ◌+◌, ◌≤◌, ◌<◌, arith, ◌≡◌, refl, sym, ap, ap₂, subst, ◌∙◌, Bool, true, false, cond}
use Rattle.std.proofs.Common.{not, ◌||◌, List, [], ◌∷◌, ◌++◌, map, append-nil, length, take, length-append, length-take-le, ltb, lt-ltb, le-ltb, ltb-false, le-leb}
use Rattle.std.specs.Prelude.{Result, Ok, Err}
use borrow.Author.Tests.{lt-leb}
use Rattle.row.specs.declared.fault.Fault.{Fault}
use Rattle.row.specs.Limits.{most_literal, least_scratch, most_arguments}
use Rattle.raw.specs.Reader.{OutOf, ok, again, bad, more}
use Rattle.raw.specs.Strict.{fault_up}
use Rattle.chunk.specs.declared.form.Kind.TheVariants.{Normal}
use Rattle.chunk.specs.Chunk.{Chunk, chunk}
use Rattle.chunk.specs.Format.{white_from}
use Rattle.literal.specs.declared.rows.Rows.{Rows}
use Rattle.literal.specs.declared.making.Making.{Making}
use Rattle.literal.specs.declared.making.Place.{Place}
use Rattle.turn.specs.declared.turn.Text.TheVariants as text
use Rattle.turn.specs.Content.{Part, put, State, beginning, step, steps, pushed, closed, chunks_of, content_by, content, inside, flatten}
use Rattle.turn.specs.Turns.{turns, concat, Wrote, Grows}
use Rattle.turn.proofs.Turning.{turning}
use Rattle.literal.specs.Literal.{Resolved, chunks, refused, chunk_up, resolved_of, too_long, resolve_literal}
use Rattle.literal.specs.Rows.{RowsHold, texts_of, onto, Ranges, Pushes, most_number}
use Rattle.literal.specs.Inner.{HoldsState, RowsHeld, Goes, ChunkDone, LastChunkDone, standing, some, from, SaysContent, Added, SaysParsed, Fits}
use Rattle.literal.specs.Inner.{AheadState, AheadMade, ReadyContent, ReadyLiteral, Onto, ReadTo, OneChunk}
use Rattle.literal.proofs.ways.MakingWays.{Narrowed, texts-append, no_text}
use Rattle.literal.proofs.ways.StepWays.{puts-state, text-put}
use Rattle.literal.proofs.ways.ContentWays.{turn-again}
use Rattle.literal.proofs.Joining.{joining}
use Rattle.literal.proofs.Flattening.{flattening}

-- ---- the end of a literal

-- the code's test: the chunk under construction has text, or there is no other
abbrev pub ends : Making → Bool
ends t = ltb t.from t.len || not t.pushed

module _ (place : Place) (t : Making) (o b : List ℕ) (no : place.argument ≡ false) where
  -- what `LastChunkDone` says of the chunks cs
  abbrev WholeLiteral : List Chunk → List Chunk → List ℕ → Rows → List ℕ → List ℕ → Type 0
  WholeLiteral cs ps b₀ k o' b' =
      RowsHold (flatten (ps ++ map (chunk_up place.base) cs)) b₀ k b' × (take t.len o' ≡ texts_of cs) × (t.len ≡ length (texts_of cs))

  module _ (ps : List Chunk) (b₀ : List ℕ) (σ : State) (h : HoldsState place [] ps b₀ σ t o b) where
    abbrev e : ℕ
    e = t.at

    -- a chunk without text is done only where there is no other
    empty-by : (cs : List Chunk) (x : Bool) → x ≡ false → t.pushed ≡ some cs
        → closed σ e [] cs ≡ cond (x || not t.pushed) (pushed σ e) σ.done
    empty-by [] x q l = sym (ap (λ (x : Bool). cond (x || not t.pushed) (pushed σ e) σ.done) q
        ∙ ap (λ (x : Bool). cond (not x) (pushed σ e) σ.done) l)
    empty-by (c ∷ cs) x q l = sym (ap (λ (x : Bool). cond (x || not t.pushed) (pushed σ e) σ.done) q
        ∙ ap (λ (x : Bool). cond (not x) (pushed σ e) σ.done) l)

    closed-by : (w : List ℕ) (cs : List Chunk) → t.len ≡ t.from + length w → t.pushed ≡ some cs
        → closed σ e w cs ≡ cond (ends t) (pushed σ e) σ.done
    closed-by [] cs k l = empty-by cs (ltb t.from t.len) (le-ltb t.from t.len (omega (arith, k))) l
    closed-by (x ∷ w) cs k l = ap (λ (x : Bool). cond (x || not t.pushed) (pushed σ e) σ.done) (sym (lt-ltb t.from t.len (omega (arith, k))))

    -- the code's test decides as the definition does
    closed-test : closed σ e σ.text σ.done ≡ cond (ends t) (pushed σ e) σ.done
    closed-test = closed-by σ.text σ.done h.len h.pushed

    plain : standing place.argument σ.done ≡ texts_of σ.done
    plain = ap (λ (x : Bool). standing x σ.done) no

    done-whole : (m : Making) (o' b' : List ℕ) → ChunkDone place t e 0 e o b m o' b' → WholeLiteral (pushed σ e) ps b₀ m.rows o' b'
    unfolding steps
    done-whole m o' b' z =
        let g = z.goes [] ps b₀ σ h in
        let texts = texts-append σ.done (chunk σ.kind σ.text σ.start e) in
        let now-plain : standing place.argument (pushed σ e) ≡ texts_of (pushed σ e) = ap (λ (x : Bool). standing x (pushed σ e)) no in
        let all : t.len ≡ length (texts_of (pushed σ e)) = omega (
          arith,
          h.len,
          h.from,
          ap length plain,
          ap length texts,
          length-append (texts_of σ.done) σ.text,
        ) in
        let same : t.len ≡ m.len = omega (arith, all, z.from, g.from, ap length now-plain) in (
          (subst (λ (x : Bool). RowsHeld x place [] ps b₀ (pushed σ e) m.rows b') no g.rows).0,
          ap (λ (n : ℕ). take n o') same ∙ g.stack ∙ append-nil (standing place.argument (pushed σ e)) ∙ now-plain,
          all,
        )

    left-whole : ends t ≡ false → WholeLiteral σ.done ps b₀ t.rows o b
    left-whole w =
        let none : σ.text ≡ [] = no_text σ.text (omega (arith, ltb-false t.from t.len (left_false _ _ w), h.len)) in (
          (subst (λ (x : Bool). RowsHeld x place [] ps b₀ σ.done t.rows b) no h.rows).0,
          h.stack ∙ ap (λ (w : List ℕ). standing place.argument σ.done ++ w) none ∙ append-nil (standing place.argument σ.done) ∙ plain,
          omega (arith, h.len, h.from, ap length plain, ap length none),
        )
      where
        left_false : (x y : Bool) → (x || y) ≡ false → x ≡ false
        left_false true y q = q
        left_false false y q = refl

  pub closed-done : (m : Making) (o' b' : List ℕ) → ends t ≡ true → ChunkDone place t t.at 0 t.at o b m o' b'
      → LastChunkDone place t o b m.rows o' b'
  closed-done m o' b' w z = record {
    adds = λ ps b₀ xs h.
        let σ : State = steps (beginning 0) xs in
        subst (λ (cs : List Chunk). WholeLiteral cs ps b₀ m.rows o' b')
        (sym (closed-test ps b₀ σ h ∙ ap (λ (x : Bool). cond x (pushed σ t.at) σ.done) w)) (done-whole ps b₀ σ h m o' b' z);
    few = z.rows;
  }

  pub closed-left : ends t ≡ false → LastChunkDone place t o b t.rows o b
  closed-left w = record {
    adds = λ ps b₀ xs h.
        let σ : State = steps (beginning 0) xs in
        subst (λ (cs : List Chunk). WholeLiteral cs ps b₀ t.rows o b)
        (sym (closed-test ps b₀ σ h ∙ ap (λ (x : Bool). cond x (pushed σ t.at) σ.done) w)) (left-whole ps b₀ σ h w);
    few = omega arith;
  }

-- ---- a literal

pub rest-long : (verb : Bool) (s : List ℕ) (base before : ℕ) (have : Rows) (b o' b' : List ℕ) → most_literal < length s
    → SaysParsed (resolve_literal verb s base) before have b (Err (too_long base (base + length s))) o' b'
unfolding resolve_literal
rest-long verb s base before have b o' b' h =
    subst (λ (x : Bool). SaysParsed (cond x (resolved_of base (content most_arguments verb s 0)) (refused (too_long base (base + length s)))) before have b
    (Err (too_long base (base + length s))) o' b') (sym (lt-leb (length s) most_literal h)) refl

-- a literal inside the limit is its content
short : (verb : Bool) (s : List ℕ) (base : ℕ) → length s ≤ most_literal → resolve_literal verb s base ≡ resolved_of base (content most_arguments verb s 0)
unfolding resolve_literal
short verb s base h = rw (le-leb (length s) most_literal h)

-- ---- the text that a literal begins with

-- where nothing is read, nothing is written
pub begun-long : (verb : Bool) (s o : List ℕ) → ReadTo verb s 0 0 o
unfolding concat
begun-long verb s o = record {
  wrote = record { texts = []; leads = λ argument d. more-none (turns argument verb d s 0); lays = record { end = refl; text = refl } };
  grows = record { at = omega arith; inside = omega arith; text = omega arith };
}
  where
    more-none : (x : OutOf Part) → x ≡ more [] x
    more-none (ok q xs) = refl
    more-none (again q xs a) = refl
    more-none (bad f) = refl

module _ (verb : Bool) (s o : List ℕ) (p n : ℕ) (o' : List ℕ) (w : Wrote verb s 0 0 o p n o') (g : Grows (length s) 0 0 0 p n) where
  pub begun-part : ReadTo verb s p n o'
  begun-part = record {
    wrote = record { texts = w.texts; leads = w.leads; lays = record { end = w.lays.end; text = w.lays.text } };
    grows = g;
  }

  module _ (l : length s ≤ most_literal) (e : length s ≤ p) where
    at-end : p ≡ length s
    at-end = omega (arith, g.inside)

    -- the content is the text alone
    all-text : content most_arguments verb s 0 ≡ ok (length s) (map put w.texts)
    unfolding content_by
    all-text =
        w.leads (inside most_arguments) 0
        ∙ ap (more (map put w.texts)) (turning.ended (inside most_arguments) verb 0 s p e)
        ∙ ap₂ ok at-end (append-nil (map put w.texts))

    one : chunks_of 0 (length s) (map put w.texts) ≡ chunk Normal (concat w.texts) 0 (length s) ∷ []
    one = ap (λ (σ : State). closed σ (length s) σ.text σ.done) (puts-state w.texts (beginning 0)) ∙ by (concat w.texts)
      where
        by : (t : List ℕ) → closed (step (beginning 0) (put t)) (length s) t [] ≡ chunk Normal t 0 (length s) ∷ []
        by [] = refl
        by (b ∷ t) = refl

    pub begun-whole : OneChunk verb s n o'
    begun-whole = record {
      is = λ base. short verb s base l ∙ ap (resolved_of base) all-text ∙ ap (λ (cs : List Chunk). chunks (map (chunk_up base) cs)) one
          ∙ up base ∙ ap (λ (t : List ℕ). chunks (chunk Normal t base (base + length s) ∷ [])) (sym w.lays.text);
      few = omega (arith, g.text, at-end);
    }
      where
        up : (base : ℕ) → chunks (chunk_up base (chunk Normal (concat w.texts) 0 (length s)) ∷ [])
            ≡ chunks (chunk Normal (concat w.texts) base (base + length s) ∷ [])
        up base = ap₂ (λ (a e : ℕ). chunks (chunk Normal (concat w.texts) a e ∷ [])) (omega arith) (omega arith)

-- ---- a literal from a place on

-- the state with which a literal's content goes on: its text so far has n bytes
abbrev pub first : Rows → ℕ → ℕ → Making
first have p n = record { at = p; braces = 0; pushed = false; start = 0; from = 0; len = n; white = false; rows = have }

abbrev pub in_literal : ℕ → ℕ → Place
in_literal base before = record { argument = false; base = base; text = before }

module _ (base before : ℕ) (have : Rows) (b : List ℕ) where
  abbrev place₁ : Place
  place₁ = in_literal base before

  begun : (ps : List Chunk) (b₀ : List ℕ) → before ≡ length (texts_of ps) → RowsHold (flatten ps) b₀ have b
      → HoldsState place₁ [] ps b₀ (beginning 0) (first have 0 0) [] b
  unfolding texts_of white_from
  begun ps b₀ k h = record {
    stack = refl;
    from = refl;
    len = refl;
    start = refl;
    kind = refl;
    white = λ q. refl;
    pushed = refl;
    rows = (subst (λ (l : List Chunk). RowsHold (flatten l) b₀ have b) (sym (append-nil ps)) h, k, refl);
  }

  refused_as : (x : OutOf Part) (f u : Fault) (o₁ b₁ o' b' : List ℕ) → SaysContent place₁ x (first have 0 0) [] b (Err f) o₁ b₁
      → u ≡ fault_up base f → SaysParsed (resolved_of base x) before have b (Err u) o' b'
  refused_as (ok q xs) f u o₁ b₁ o' b' h e = absurd h
  refused_as (again q xs a) f u o₁ b₁ o' b' h e = absurd h
  refused_as (bad g) f u o₁ b₁ o' b' h e = e ∙ ap (fault_up base) h

  module _ (t : Making) (o₁ b₁ : List ℕ) (k : Rows) (o' b' : List ℕ) (z : LastChunkDone place₁ t o₁ b₁ k o' b') where
    added : (q : ℕ) (xs : List Part) → t.at ≡ q → Goes place₁ xs (first have 0 0) [] b t o₁ b₁ → (ps : List Chunk) (b₀ : List ℕ)
        → before ≡ length (texts_of ps) → RowsHold (flatten ps) b₀ have b
        → Added ps (map (chunk_up base) (chunks_of 0 q xs)) b₀ k t.len o' b'
    added q xs e g ps b₀ i h =
        let cs : List Chunk = chunks_of 0 t.at xs in
        let all = z.adds ps b₀ xs (g [] ps b₀ (beginning 0) (begun ps b₀ i h)) in
        subst (λ (n : ℕ). Added ps (map (chunk_up base) (chunks_of 0 n xs)) b₀ k t.len o' b') e (record {
          text = all.1 ∙ sym (flattening.texts-up base cs);
          bytes = all.2 ∙ ap length (sym (flattening.texts-up base cs));
          rows = all.0;
        })

    chunks-as : (x : OutOf Part) → SaysContent place₁ x (first have 0 0) [] b (Ok t) o₁ b₁
        → SaysParsed (resolved_of base x) before have b (Ok (k, t.len)) o' b'
    chunks-as (ok q xs) h = added q xs h.0 h.1
    chunks-as (again q xs a) h = added q xs h.0 h.1
    chunks-as (bad g) h = absurd h

  module _ (verb : Bool) (s : List ℕ) (p n : ℕ) (o : List ℕ) (to : ReadTo verb s p n o) (r : Result Making Fault) (o₁ b₁ o' b' : List ℕ) (l : length s ≤ most_literal)
      (h : SaysContent place₁ (from (inside most_arguments) verb s (first have p n)) (first have p n) o b r o₁ b₁) where
    -- an answer that is right for the rest of the content is right for the whole content
    from_start : SaysContent place₁ (content most_arguments verb s 0) (first have 0 0) [] b r o₁ b₁
    unfolding content_by
    from_start = turn-again place₁ (inside most_arguments) verb s (first have 0 0) [] b (first have p n) o b read r o₁ b₁ h
      where
        read : Onto place₁ verb s (first have 0 0) [] b (first have p n) o b
        read = text-put place₁ verb s (first have 0 0) [] b (Ok (text.Put p n)) o to.wrote p n refl (first have p n) (record {
          at = refl;
          len = refl;
          braces = refl;
          pushed = refl;
          start = refl;
          from = refl;
          white = refl;
          rows = refl;
        })

    pub rest-refused : (f u : Fault) → r ≡ Err f → u ≡ fault_up base f
        → SaysParsed (resolve_literal verb s base) before have b (Err u) o' b'
    rest-refused f u e i =
        subst (λ (x : Resolved). SaysParsed x before have b (Err u) o' b') (sym (short verb s base l))
        (refused_as (content most_arguments verb s 0) f u o₁ b₁ o' b'
        (subst (λ (r : Result Making Fault). SaysContent place₁ (content most_arguments verb s 0) (first have 0 0) [] b r o₁ b₁) e from_start) i)

    pub rest-chunks : (t : Making) (k : Rows) → r ≡ Ok t → LastChunkDone place₁ t o₁ b₁ k o' b'
        → SaysParsed (resolve_literal verb s base) before have b (Ok (k, t.len)) o' b'
    rest-chunks t k e z =
        subst (λ (x : Resolved). SaysParsed x before have b (Ok (k, t.len)) o' b') (sym (short verb s base l))
        (chunks-as t o₁ b₁ k o' b' z (content most_arguments verb s 0)
        (subst (λ (r : Result Making Fault). SaysContent place₁ (content most_arguments verb s 0) (first have 0 0) [] b r o₁ b₁) e from_start))

  -- ---- one chunk

  -- the row that is pushed, with places of 32 bits
  pub whole_row : (end len from to first last : ℕ) (k : Rows) (b' : List ℕ) → Narrowed before from → Narrowed (before + len) to → first ≡ base
      → last ≡ end → Pushes Normal from to first last have b k b' → Pushes Normal before (before + len) base end have b k b'
  whole_row end len from to first last k b' e f g i h cs t b₀ r =
      subst (λ (p : ℕ). RowsHold cs b₀ have b → RowsHold (onto cs (chunk Normal t p end)) b₀ k b') g
      (subst (λ (q : ℕ). RowsHold cs b₀ have b → RowsHold (onto cs (chunk Normal t first q)) b₀ k b') i (h cs t b₀ ranges))
    where
      ranges : Ranges cs t from to
      ranges s =
          let at = r s in
          let p = e (omega (arith, s, at.0)) in
          (p ∙ at.0, omega (arith, p, at.1, f (omega (arith, s, at.0, at.1))))

  -- a literal that is one chunk, whose row is pushed
  pub parse-whole : (verb : Bool) (s : List ℕ) (n : ℕ) (o : List ℕ) (k : Rows) (b' : List ℕ) → OneChunk verb s n o → n ≤ length o
      → Pushes Normal before (before + n) base (base + length s) have b k b'
      → SaysParsed (resolve_literal verb s base) before have b (Ok (k, n)) o b'
  unfolding texts_of
  parse-whole verb s n o k b' w l z =
      subst (λ (x : Resolved). SaysParsed x before have b (Ok (k, n)) o b') (sym (w.is base)) λ ps b₀ i h. record {
        text = sym (append-nil (take n o));
        bytes = sym (length-take-le n o l) ∙ ap length (sym (append-nil (take n o)));
        rows = subst (λ (cs : List Chunk). RowsHold cs b₀ k b') (sym (joining ps (chunk Normal (take n o) base (base + length s))))
            (z (flatten ps) (take n o) b₀ (λ _. (i ∙ ap length (sym (flattening.texts-flat ps)), ap (λ (m : ℕ). before + m) (sym (length-take-le n o l)))) h);
      }

-- ---- bounds

module _ (s : List ℕ) (base before : ℕ) (have : Rows) (o : List ℕ) (h : ReadyLiteral s base before have o)
    (l : length s ≤ most_literal) (p n : ℕ) (g : Grows (length s) 0 0 0 p n) where
  pub rest-ready : ReadyContent s (in_literal base before) (first have p n) o
  rest-ready = record {
    literal = l;
    text = record {
      place = g.inside;
      room = omega (arith, h.scratch, g.text);
    };
    from = omega arith;
    start = omega arith;
    braces = omega arith;
    rows = omega (arith, h.rows);
    value = omega (arith, h.value, g.text);
    file = omega (arith, h.file);
  }

  module _ (t : Making) (r : Result Making Fault) (e : r ≡ Ok t) (a : AheadMade (length s) 0 (first have p n) r) where
    ahead : AheadState (length s) 0 (first have p n) t
    ahead = subst (AheadMade (length s) 0 (first have p n)) e a

    pub rest-fits : (m : ℕ) → m ≡ length o
        → Fits (in_literal base before) t m × (base + t.at ≤ most_number) × (◌≡◌ {A = Bool} false false)
    rest-fits m k =
        let a = ahead in (
          record {
            from = a.from;
            to = omega (arith, a.grows.text, a.grows.inside, g.text, h.scratch);
            text = omega (arith, a.grows.text, a.grows.inside, g.text, h.value);
            start = omega (arith, a.start, a.grows.inside, h.file);
            rows = omega (arith, a.rows, a.grows.inside, h.rows);
          },
          omega (arith, a.grows.inside, h.file),
          refl,
        )

    pub rest-grows : (k : Rows) → k.n ≤ t.rows.n + 1 → (t.len ≤ least_scratch) × (k.n ≤ have.n + (most_literal + 1))
    rest-grows k f =
        let a = ahead in
        (omega (arith, a.grows.text, a.grows.inside, g.text), omega (arith, a.rows, a.grows.inside))
