-- The turns of the writers' passes, whose invariant is `Passing`.
--     RowRead, row_of                                                  a row as the code reads it
--     format-start, format-turn, format-more, format-done              `format_all`
--     write-start, write-turn, write-more, write_done                  `write_all`
--     sentence-start, sentence-turn, sentence-more, sentence-done      `sentence_all`
-- Assumes nothing.
use Rattle.std.proofs.Common.{ℕ, ◌+◌, ◌*◌, ◌/◌, ◌≤◌, ◌<◌, ◌≡◌, refl, sym, ap, ap₂, ◌∙◌, Bool, true, false, List, [], ◌∷◌, ◌++◌, append-nil, length, get_or}
use Rattle.text.specs.Scan.{part}
use Rattle.chunk.specs.declared.form.Kind.{Kind}
use Rattle.chunk.specs.Chunk.{Chunk, kind_from, chunks_of, are_chunks, Stores}
use Rattle.chunk.specs.Format.{Written, format_one, format_from, format_verbatim}
use Rattle.chunk.specs.Format.{opening, extra_after, body_of, biblatex_one, closing, biblatex_from, to_biblatex_string}
use Rattle.chunk.specs.Sentence.{sentence_one, sentence_from, format_sentence}
use Rattle.chunk.specs.Put.{Puts, Fills}
use Rattle.chunk.proofs.rows.RowCheck.{starts}
use Rattle.chunk.proofs.texts.Puts.{puts_none, puts-on}
use Rattle.chunk.proofs.passes.Passes.{rest, Passing, passed, at-end, fills-more, fills-bytes}

-- the kind and the text of the row from number i on
pub record RowRead (l : List ℕ) (i : ℕ) (kind : Kind) (k f e : ℕ) : Type 0 where
  pub known : kind ≡ kind_from k
  pub stores : Stores l i k f e

pub row_of : {l : List ℕ} {i : ℕ} {kind : Kind} {k f e : ℕ} → kind ≡ kind_from k → Stores l i k f e → RowRead l i kind k f e
row_of p s = record { known = p; stores = s }

-- what g makes of a row as the code reads it, it makes of the row's numbers too
row_is : {A : Type 0} {l : List ℕ} {i : ℕ} {kind : Kind} {k f e : ℕ} (g : Kind → ℕ → ℕ → A) → RowRead l i kind k f e →
    g kind f e ≡ g (kind_from (get_or l i 0)) (get_or l (i + 1) 0) (get_or l (i + 2) 0)
row_is {l = l} {i} {e = e} g r =
    ap₂ (λ (x : Kind) (y : ℕ). g x y e) (r.known ∙ ap kind_from r.stores.kind) r.stores.from
    ∙ ap (g (kind_from (get_or l i 0)) (get_or l (i + 1) 0)) r.stores.to

-- ---- `format_all`

-- the invariant of `format_all`
abbrev pub Formatting : List ℕ → List ℕ → List ℕ → List ℕ → Bool → ℕ → ℕ → Type 0
Formatting t l o₀ o b n i = Passing format_from (format_verbatim (chunks_of t l)) t l o₀ 0 o b n i

pub format-start : (t l o : List ℕ) → are_chunks t l ≡ true → Formatting t l o o false 0 0
format-start t l o e = record { text = []; puts = puts_none o 0; same = refl; checks = starts t l e; long = refl }

module _ {t l o₀ o : List ℕ} {b : Bool} {n i : ℕ} (g : Formatting t l o₀ o b n i) where
  pub format-turn : are_chunks t l ≡ true → i < length l / 5 → {kind : Kind} {k f e : ℕ} → RowRead l (i * 5) kind k f e → {r : ℕ} {o' : List ℕ} {d : Bool} →
      Puts o n (format_one b kind (part t f e)).text r o' → d ≡ (format_one b kind (part t f e)).white → length o' ≡ length o →
      Formatting t l o₀ o' d r (i + 1)
  unfolding format_from
  format-turn all-chunks h {kind} {k} {f} {e} row y x z =
      let q = row_is (λ (k : Kind) (a e : ℕ). format_one b k (part t a e)) row in
      let whole = ap (λ (w : Written). w.text ++ format_from w.white (rest t l (i + 1))) (sym q) in
      passed g all-chunks h (whole ∙ ap (λ (c : Bool). (format_one b kind (part t f e)).text ++ format_from c (rest t l (i + 1))) (sym x)) y z

  pub format-more : {room : ℕ} → room < n → Fills (format_verbatim (chunks_of t l)) room o₀ n o
  format-more h = fills-more (format_from b (rest t l i)) g.same g.puts h

  pub format-done : are_chunks t l ≡ true → length l / 5 ≤ i → {room : ℕ} → Fills (format_verbatim (chunks_of t l)) room o₀ n o
  unfolding format_from
  format-done all-chunks h = fills-bytes (sym (append-nil g.text) ∙ at-end g all-chunks h) g.puts

-- ---- `write_all`

-- the invariant of `write_all`: its first brace is put already, and ends at the place n₀
abbrev pub WritingBiblatex : Bool → List ℕ → List ℕ → List ℕ → ℕ → List ℕ → Bool → ℕ → ℕ → Type 0
WritingBiblatex verb t l o₀ n₀ o b n i = Passing (biblatex_from verb) (biblatex_from verb false (chunks_of t l)) t l o₀ n₀ o b n i

pub write-start : (verb : Bool) (t l o : List ℕ) (n : ℕ) → are_chunks t l ≡ true → WritingBiblatex verb t l o n o false n 0
write-start verb t l o n e = record { text = []; puts = puts_none o n; same = refl; checks = starts t l e; long = refl }

module _ (verb : Bool) {t l o₀ : List ℕ} {n₀ : ℕ} {o : List ℕ} {b : Bool} {n i : ℕ} (g : WritingBiblatex verb t l o₀ n₀ o b n i) where
  -- one turn puts a chunk's opening and then its body
  pub write-turn : are_chunks t l ≡ true → i < length l / 5 → {kind : Kind} {k f e : ℕ} → RowRead l (i * 5) kind k f e →
      {m r : ℕ} {o₁ o₂ : List ℕ} {d : Bool} → Puts o n (opening b kind) m o₁ → Puts o₁ m (body_of verb kind (part t f e)) r o₂ →
      d ≡ extra_after b kind → length o₂ ≡ length o → WritingBiblatex verb t l o₀ n₀ o₂ d r (i + 1)
  unfolding biblatex_from
  write-turn all-chunks h row y u x z =
      let q = row_is (λ (k : Kind) (a e : ℕ). biblatex_one verb b k (part t a e)) row in
      let p = row_is (λ (k : Kind) (a e : ℕ). extra_after b k) row in
      let whole = ap₂ (λ (v : List ℕ) (c : Bool). v ++ biblatex_from verb c (rest t l (i + 1))) (sym q) (sym (x ∙ p)) in
      passed g all-chunks h whole (puts-on y u) z

  module _ {u : List ℕ} (first : Puts u 0 (0x7B ∷ []) n₀ o₀) where
    pub write-more : {room : ℕ} → room < n → Fills (to_biblatex_string verb (chunks_of t l)) room u n o
    write-more h = fills-more (biblatex_from verb b (rest t l i)) (ap (λ (w : List ℕ). 0x7B ∷ w) g.same) (puts-on first g.puts) h

    -- after the last row, where the closing braces are put
    module _ (all-chunks : are_chunks t l ≡ true) (h : length l / 5 ≤ i) {r : ℕ} {o' : List ℕ} (y : Puts o n (closing b) r o') where
      whole : 0x7B ∷ (g.text ++ closing b) ≡ to_biblatex_string verb (chunks_of t l)
      unfolding biblatex_from
      whole = ap (λ (w : List ℕ). 0x7B ∷ w) (at-end g all-chunks h)

      all : Puts u 0 (0x7B ∷ (g.text ++ closing b)) r o'
      all = puts-on first (puts-on g.puts y)

      pub write_done : {room : ℕ} → Fills (to_biblatex_string verb (chunks_of t l)) room u r o'
      write_done = fills-bytes whole all

-- ---- `sentence_all`

-- the state is `first` and `prev_was_whitespace`
abbrev sentences : Bool × Bool → List Chunk → List ℕ
sentences s cs = sentence_from s.0 s.1 cs

abbrev pub Sentencing : List ℕ → List ℕ → List ℕ → List ℕ → Bool → Bool → ℕ → ℕ → Type 0
Sentencing t l o₀ o f b n i = Passing sentences (format_sentence (chunks_of t l)) t l o₀ 0 o (f, b) n i

pub sentence-start : (t l o : List ℕ) → are_chunks t l ≡ true → Sentencing t l o o true false 0 0
sentence-start t l o e = record { text = []; puts = puts_none o 0; same = refl; checks = starts t l e; long = refl }

module _ {t l o₀ o : List ℕ} {f₀ b : Bool} {n i : ℕ} (g : Sentencing t l o₀ o f₀ b n i) where
  pub sentence-turn : are_chunks t l ≡ true → i < length l / 5 → {kind : Kind} {k f e : ℕ} → RowRead l (i * 5) kind k f e → {r : ℕ} {o' : List ℕ} {d : Bool} →
      Puts o n (sentence_one f₀ b kind (part t f e)).text r o' → d ≡ (sentence_one f₀ b kind (part t f e)).white → length o' ≡ length o →
      Sentencing t l o₀ o' false d r (i + 1)
  unfolding sentence_from
  sentence-turn all-chunks h {kind} {k} {f} {e} row y x z =
      let q = row_is (λ (k : Kind) (a e : ℕ). sentence_one f₀ b k (part t a e)) row in
      let whole = ap (λ (w : Written). w.text ++ sentence_from false w.white (rest t l (i + 1))) (sym q) in
      passed g all-chunks h
      (whole ∙ ap (λ (c : Bool). (sentence_one f₀ b kind (part t f e)).text ++ sentence_from false c (rest t l (i + 1))) (sym x)) y z

  pub sentence-more : {room : ℕ} → room < n → Fills (format_sentence (chunks_of t l)) room o₀ n o
  sentence-more h = fills-more (sentence_from f₀ b (rest t l i)) g.same g.puts h

  pub sentence-done : are_chunks t l ≡ true → length l / 5 ≤ i → {room : ℕ} → Fills (format_sentence (chunks_of t l)) room o₀ n o
  unfolding sentence_from
  sentence-done all-chunks h = fills-bytes (sym (append-nil g.text) ∙ at-end g all-chunks h) g.puts
