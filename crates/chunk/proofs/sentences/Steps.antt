-- One octet of a Normal text in sentence case: the character that it begins, or nothing.
--     Stepped                          what is written, and the flags behind it
--     stays-tail, stays-end, goes      at a tail, at a line end behind white space, and at anything else
--     wide-octet                       a character beyond ASCII begins with an octet beyond ASCII
-- Assumes nothing.
use Rattle.std.proofs.Common.{ℕ, ◌+◌, ◌≤◌, ◌<◌, arith, ◌≡◌, refl, sym, ap, ◌∙◌, Bool, true}
use Rattle.std.proofs.Common.{false, cond, ◌&&◌, List, [], ◌∷◌, append-nil, length, get_or, leb, leb-true, leb-false}
use borrow.Author.Tests.{not-true, not-false}
use Rattle.text.specs.Range.{within}
use Rattle.text.specs.Utf8.{tail, utf8_of, is_boundary}
use Rattle.text.specs.Class.{is_whitespace}
use Rattle.text.specs.Scan.{part, code}
use Rattle.text.proofs.general.Places.{boundary-in}
use Rattle.text.proofs.general.Parts.{part-head}
use Rattle.casing.specs.Casing.{cased}
use Rattle.chunk.specs.Format.{Written, written, is_line_end}
use Rattle.chunk.specs.Sentence.{unbroken, sentence_chars}
use Rattle.chunk.specs.Inner.{heads, still_first}
use Rattle.chunk.specs.Put.{Puts}
use Rattle.chunk.proofs.texts.Puts.{puts_none, puts-as}
use Rattle.chunk.proofs.texts.Decoded.{ascii-char}

-- of the characters hs, what is put over o from n on leads to r and leaves o', and `first` and `prev_was_whitespace` are f' and w'
abbrev pub Stepped : Bool → Bool → List ℕ → List ℕ → ℕ → ℕ → List ℕ → Bool → Bool → Type 0
Stepped f w hs o n r o' f' w' =
    Puts o n (sentence_chars f w hs).text r o' × ((w' ≡ (sentence_chars f w hs).white) × (f' ≡ still_first f w hs) × (r ≤ n + 12))

stays : (f w : Bool) (hs : List ℕ) {o : List ℕ} {n : ℕ} → sentence_chars f w hs ≡ written [] w → still_first f w hs ≡ f → Stepped f w hs o n n o f w
stays f w hs {o} {n} p q =
    (puts-as (sym (ap (λ (x : Written). x.text) p)) (puts_none o n), (sym (ap (λ (x : Written). x.white) p), sym q, omega arith))

module _ (t : List ℕ) (i e : ℕ) (h : i < e) (l : e ≤ length t) where
  heads-none : is_boundary t i ≡ false → heads (part t i e) ≡ []
  heads-none q = ap heads (part-head t i e h l) ∙ rw (not-false (within tail (get_or t i 0)) (boundary-in t i (omega arith) ∙ q)) refl

  heads-one : {c : ℕ} → is_boundary t i ≡ true → c ≡ code (part t i e) → heads (part t i e) ≡ c ∷ []
  heads-one q p =
      ap heads (part-head t i e h l)
      ∙ rw (not-true (within tail (get_or t i 0)) (boundary-in t i (omega arith) ∙ q))
      (ap (λ (d : ℕ). d ∷ []) (sym (p ∙ ap code (part-head t i e h l))))

  module _ (f w : Bool) {o : List ℕ} {n : ℕ} where
    pub stays-tail : is_boundary t i ≡ false → Stepped f w (heads (part t i e)) o n n o f w
    unfolding sentence_chars still_first
    stays-tail q = stays f w (heads (part t i e)) (ap (sentence_chars f w) (heads-none q)) (ap (still_first f w) (heads-none q))

    module _ {c : ℕ} (q : is_boundary t i ≡ true) (p : c ≡ code (part t i e)) where
      pub stays-end : (is_line_end c && w) ≡ true → Stepped f w (heads (part t i e)) o n n o f w
      unfolding sentence_chars still_first
      stays-end y = stays f w (heads (part t i e)) (ap (sentence_chars f w) (heads-one q p) ∙ rw y refl) (ap (still_first f w) (heads-one q p) ∙ rw y refl)

      pub goes : {d r : ℕ} {o' : List ℕ} {w' : Bool} → (is_line_end c && w) ≡ false → d ≡ unbroken c → Puts o n (utf8_of (cased f d)) r o' →
          w' ≡ is_whitespace d → r ≤ n + 12 → Stepped f w (heads (part t i e)) o n r o' false w'
      unfolding sentence_chars still_first
      goes {d} y z put white small =
          let said : sentence_chars f w (heads (part t i e)) ≡ written (utf8_of (cased f d)) (is_whitespace d) =
          ap (sentence_chars f w) (heads-one q p) ∙ rw (y, sym z) (ap (λ (u : List ℕ). written u (is_whitespace d)) (append-nil (utf8_of (cased f d)))) in (
            puts-as (sym (ap (λ (x : Written). x.text) said)) put,
            (white ∙ sym (ap (λ (x : Written). x.white) said), sym (ap (still_first f w) (heads-one q p) ∙ rw y refl), small),
          )

  -- a character beyond ASCII begins with an octet beyond ASCII
  pub wide-octet : 0x80 ≤ unbroken (code (part t i e)) → 0x80 ≤ get_or t i 0
  wide-octet w = by (leb 0x80 (get_or t i 0)) refl
    where
      low : (c : ℕ) → c < 0x80 → unbroken c < 0x80
      low c k = each (is_line_end c)
        where
          each : (x : Bool) → cond x 0x20 c < 0x80
          each true = omega arith
          each false = k

      by : (x : Bool) → leb 0x80 (get_or t i 0) ≡ x → 0x80 ≤ get_or t i 0
      by true p = leb-true 0x80 (get_or t i 0) p
      by false p =
          let k = leb-false 0x80 (get_or t i 0) p in
          let same = ap code (part-head t i e h l) ∙ (ascii-char (get_or t i 0) (part t (i + 1) e) k).1 in
          absurd (omega (arith, w, low (code (part t i e)) (omega (arith, same, k))))
