-- The loop that writes a Normal text in sentence case.
--     Saying, saying       its invariant, and where it begins
--     says, runs           its turns: over one octet, and over a run that ASCII's rule is enough for
--     said                 where it ends
-- Assumes nothing.
use Rattle.std.proofs.Common.{ℕ, ◌+◌, ◌*◌, ◌≤◌, ◌<◌, arith, ◌≡◌, refl, sym, ap, ap₂, ◌∙◌, Bool, false, List, [], ◌++◌, map, append_assoc, append-nil, length, get_or}
use Rattle.text.specs.Utf8.{utf8_of}
use Rattle.text.specs.Scan.{part}
use Rattle.text.proofs.general.Parts.{part_none, part-head, part_join, length_part}
use Rattle.casing.specs.Casing.{ascii_cased}
use Rattle.chunk.specs.Format.{Written, written, before, ends_white}
use Rattle.chunk.specs.Sentence.{chars, sentence_chars}
use Rattle.chunk.specs.Inner.{QuietRun, heads, still_first}
use Rattle.chunk.specs.Put.{Puts}
use Rattle.chunk.proofs.texts.Puts.{puts_none, puts-on, puts-as}
use Rattle.chunk.proofs.texts.Decoded.{chars-step, chars-run}
use Rattle.chunk.proofs.sentences.Said.{still-not, said-append, quiet-said}

-- of the text t from a to e, what comes before i is put over the lent bytes o₀ from n on; `first` and `prev_was_whitespace` were f₀ and w₀
-- before it, and are f and w
pub record Saying (t : List ℕ) (a e : ℕ) (f₀ w₀ : Bool) (o₀ : List ℕ) (n : ℕ) (o : List ℕ) (f w : Bool) (i j : ℕ) : Type 0 where
  pub text : List ℕ
  pub puts : Puts o₀ n text j o
  pub same : before text (sentence_chars f w (chars (part t i e))) ≡ sentence_chars f₀ w₀ (chars (part t a e))
  pub room : j ≤ n + 12 * i
  pub first : a ≤ i
  pub inside : i ≤ e
  pub long : length o ≡ length o₀

pub saying : (t : List ℕ) (a e : ℕ) (f w : Bool) (o : List ℕ) (n : ℕ) → a ≤ e → Saying t a e f w o n o f w a n
saying t a e f w o n h = record { text = []; puts = puts_none o n; same = refl; room = omega arith; first = omega arith; inside = h; long = refl }

module _ {t : List ℕ} {a e : ℕ} {f₀ w₀ : Bool} {o₀ : List ℕ} {n : ℕ} {o : List ℕ} {f w : Bool} {i j : ℕ}
    (g : Saying t a e f₀ w₀ o₀ n o f w i j) (l : e ≤ length t) where
  -- a turn that writes the characters cs, up to the place k
  turn : (cs : List ℕ) {k r : ℕ} {o' : List ℕ} {f' w' : Bool} → i ≤ k → k ≤ e → chars (part t i e) ≡ cs ++ chars (part t k e) →
      Puts o j (sentence_chars f w cs).text r o' → f' ≡ still_first f w cs → w' ≡ (sentence_chars f w cs).white → r ≤ n + 12 * k → length o' ≡ length o →
      Saying t a e f₀ w₀ o₀ n o' f' w' k r
  turn cs {k} {f' = f'} {w' = w'} h m q y p z small x = record {
    text = g.text ++ (sentence_chars f w cs).text;
    puts = puts-on g.puts y;
    same =
        ap₂ (λ (b c : Bool). before (g.text ++ s.text) (sentence_chars b c (chars (part t k e)))) p z
        ∙ ap (λ (u : List ℕ). written u rest.white) (append_assoc g.text s.text rest.text)
        ∙ ap (before g.text) (sym (ap (sentence_chars f w) q ∙ said-append f w cs (chars (part t k e))))
        ∙ g.same;
    room = small;
    first = omega (arith, g.first, h);
    inside = m;
    long = x ∙ g.long;
  }
    where
      s : Written
      s = sentence_chars f w cs

      rest : Written
      rest = sentence_chars (still_first f w cs) s.white (chars (part t k e))

  -- the octet at i
  pub says : i < e → {r : ℕ} {o' : List ℕ} {f' w' : Bool} → Puts o j (sentence_chars f w (heads (part t i e))).text r o' →
      w' ≡ (sentence_chars f w (heads (part t i e))).white → f' ≡ still_first f w (heads (part t i e)) → r ≤ j + 12 → length o' ≡ length o →
      Saying t a e f₀ w₀ o₀ n o' f' w' (i + 1) r
  says h y z p small x = turn (heads (part t i e)) (omega arith) (omega arith) one y p z (omega (arith, g.room)) x
    where
      one : chars (part t i e) ≡ heads (part t i e) ++ chars (part t (i + 1) e)
      one =
          ap chars (part-head t i e h l)
          ∙ chars-step (get_or t i 0) (part t (i + 1) e)
          ∙ ap (λ (u : List ℕ). heads u ++ chars (part t (i + 1) e)) (sym (part-head t i e h l))

  -- a run from i to k, where the first character is over
  pub runs : {k r : ℕ} {o' : List ℕ} {w' : Bool} → f ≡ false → i < k → k ≤ e → QuietRun t i k → w' ≡ ends_white (part t i k) →
      Puts o j (map (ascii_cased false) (part t i k)) r o' → r + i ≡ j + k → length o' ≡ length o → Saying t a e f₀ w₀ o₀ n o' false w' k r
  runs {k} over h m (cs, s, u, c) q y size x =
      turn cs (omega arith) m cut (puts-as (sym (ap (λ (v : Written). v.text) it)) y)
      (sym (ap (λ (b : Bool). still_first b w cs) over ∙ still-not w cs))
      (q ∙ sym (ap (λ (v : Written). v.white) it)) (omega (arith, size, g.room, h)) x
    where
      cut : chars (part t i e) ≡ cs ++ chars (part t k e)
      cut =
          ap chars (part_join t i k e (omega arith) m l)
          ∙ ap (λ (v : List ℕ). chars (v ++ part t k e)) (sym u)
          ∙ chars-run cs (part t k e) s

      some : 0 < length (utf8_of cs)
      some = omega (arith, ap length u, length_part t i k (omega arith) (omega arith), h)

      it : sentence_chars f w cs ≡ written (map (ascii_cased false) (part t i k)) (ends_white (part t i k))
      it =
          ap (λ (b : Bool). sentence_chars b w cs) over
          ∙ quiet-said w cs some s c
          ∙ ap (λ (v : List ℕ). written (map (ascii_cased false) v) (ends_white v)) u

  finish : e ≤ i → before g.text (written [] w) ≡ sentence_chars f₀ w₀ (chars (part t a e))
  unfolding sentence_chars chars
  finish h =
      ap (λ (x : List ℕ). before g.text (sentence_chars f w (chars x))) (sym (ap (λ (n : ℕ). part t n e) at-end ∙ part_none t e)) ∙ g.same
    where
      at-end : i ≡ e
      at-end = omega (arith, h, g.inside)

  pub said : e ≤ i → Puts o₀ n (sentence_chars f₀ w₀ (chars (part t a e))).text j o × (w ≡ (sentence_chars f₀ w₀ (chars (part t a e))).white)
  said h =
      let q = finish h in
      (puts-as (sym (append-nil g.text) ∙ ap (λ (x : Written). x.text) q) g.puts, ap (λ (x : Written). x.white) q)
