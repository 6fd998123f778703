-- What stays of chunks in sentence case: `titles`.
-- Assumes nothing.
use Rattle.std.proofs.Common.{ℕ, ◌≡◌, refl, sym, ap, ◌∙◌, Bool, true, false, List, [], ◌∷◌, ◌++◌, append_assoc}
use Rattle.chunk.specs.declared.form.Kind.{Kind}
use Rattle.chunk.specs.declared.form.Kind.TheVariants.{Verbatim, Math}
use Rattle.chunk.specs.Chunk.{Chunk}
use Rattle.chunk.specs.Format.{Written}
use Rattle.chunk.specs.Sentence.{sentence_one, sentence_from}
use Rattle.chunk.specs.Titles.{Titles}

-- `first` and `prev_was_whitespace` after the chunks
abbrev first_after : Bool → List Chunk → Bool
first_after f [] = f
first_after f (c ∷ cs) = false

white_after : Bool → Bool → List Chunk → Bool
white_after f w [] = w
white_after f w (c ∷ cs) = white_after false (sentence_one f w c.kind c.text).white cs

-- chunks behind others
behind : (f w : Bool) (cs ds : List Chunk) → sentence_from f w (cs ++ ds) ≡ sentence_from f w cs ++ sentence_from (first_after f cs) (white_after f w cs) ds
unfolding sentence_from white_after
behind f w [] ds = refl
behind f w (c ∷ cs) ds = by cs (behind false s.white cs ds)
  where
    s : Written
    s = sentence_one f w c.kind c.text

    over : (cs : List Chunk) → first_after false cs ≡ false
    over [] = refl
    over (c ∷ cs) = refl

    by : (cs : List Chunk) →
        sentence_from false s.white (cs ++ ds)
        ≡ sentence_from false s.white cs ++ sentence_from (first_after false cs) (white_after false s.white cs) ds →
        s.text ++ sentence_from false s.white (cs ++ ds)
        ≡ (s.text ++ sentence_from false s.white cs) ++ sentence_from false (white_after false s.white cs) ds
    by cs h =
        let rest : Bool → List ℕ = λ b. sentence_from b (white_after false s.white cs) ds in
        ap (λ (u : List ℕ). s.text ++ u) (h ∙ ap (λ (b : Bool). sentence_from false s.white cs ++ rest b) (over cs))
        ∙ sym (append_assoc s.text (sentence_from false s.white cs) (rest false))

-- a chunk, whose text is written as u, behind others
module _ (cs : List Chunk) (c : Chunk) (ds : List Chunk) where
  f : Bool
  f = first_after true cs

  w : Bool
  w = white_after true false cs

  after : List ℕ
  after = sentence_from false (sentence_one f w c.kind c.text).white ds

  whole : (k : Kind) → c.kind ≡ k → sentence_from true false (cs ++ c ∷ ds) ≡ sentence_from true false cs ++ ((sentence_one f w k c.text).text ++ after)
  unfolding sentence_from f w after
  whole k e =
      behind true false cs (c ∷ ds) ∙ ap (λ (k : Kind). sentence_from true false cs ++ ((sentence_one f w k c.text).text ++ after)) e

pub titles : Titles
titles = record {
  verbatim = λ cs c ds e. (after cs c ds, whole cs c ds Verbatim e);
  math = λ cs c ds e. (
    after cs c ds,
    whole cs c ds Math e ∙ ap (λ (u : List ℕ). sentence_from true false cs ++ (0x24 ∷ u)) (append_assoc c.text (0x24 ∷ []) (after cs c ds)),
  );
}
