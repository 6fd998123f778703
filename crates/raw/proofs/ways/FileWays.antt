-- The ways through the functions of src/file.rt, over what their calls answered.
--     file-end, file-entry, file-comment, file-other     a turn of the file, by the byte it stands at
--     comment-further                                    a comment goes past its percent sign
--     bytes-ill, bytes-told                              the answers of `parse_bytes`
--     read-long                                          `read`: the file is too long
--     read-copied, read_fits                             the answers of `read_over`, where there is room
-- Assumes nothing.
use Rattle.text.specs.declared.utf8.IllFormed.{IllFormed}
use Rattle.std.proofs.Common.{Result, Ok, Err, MatchResult, IsErrAnd, ℕ, ◌+◌, ◌*◌, ◌/◌, ◌≤◌, ◌<◌, arith, ◌≡◌, refl, sym, ap, ◌∙◌, subst, List, [], ◌++◌, length, get_or}
use Rattle.std.proofs.Common.{take, drop, take_at, ne_eqb, le-leb}
use Rattle.std.proofs.lemmas.Result.{err_from_is_err_and}
use borrow.Author.Tests.{lt-leb}
use Rattle.text.specs.Class.{is_whitespace, holds_of}
use Rattle.text.specs.Scan.{see, next_of, skip, fails, Inside}
use Rattle.text.specs.Utf8.{validity_of}
use Rattle.text.specs.declared.class.Test.TheVariants as test
use Rattle.text.proofs.Seeing.{seeing}
use Rattle.row.specs.declared.fault.Fault.{Fault}
use Rattle.row.specs.declared.fault.Reason.TheVariants.{TooLong, NotUtf8}
use Rattle.row.specs.Fault.{fault_at, nowhere}
use Rattle.row.specs.Row.{Row, moved, flat, overlay}
use Rattle.raw.specs.Reader.{Out, ok, again, bad, and_then}
use Rattle.raw.specs.Grammar.{is, comment, entry, file_turn, file}
use Rattle.raw.specs.Says.{step_of, answer_of, RowsLaid, Says}
use Rattle.row.specs.Limits.{most_bytes}
use Rattle.raw.specs.Read.{culprit, underlined, strict, reading_out, left_out, Read}
use Rattle.text.proofs.general.Answers.{ok_pair_parts}
use Rattle.row.proofs.Laid.{laid}
use Rattle.raw.proofs.readers.Then.{then-on}
use Rattle.raw.proofs.contracts.SaysLaws.{says_of, says_at, says-off, said-off}
use Rattle.raw.proofs.ways.TokenWays.{scan-on, white-on, comment-on}
use Rattle.raw.proofs.ways.ByteLoops.{seen_key, seen_other}
use Rattle.text.proofs.general.Tests.{narrow-is}
use Rattle.raw.proofs.Steps.{strict-valid, strict-ill, strict-file}

-- ---- a turn

module _ (s : List ℕ) (at : ℕ) {p : ℕ} (e : p ≡ skip is_whitespace s at) where
  pub file-end : length s ≤ p → file_turn 0 s at ≡ ok p []
  unfolding file_turn
  file-end h = then-on _ (white-on s at e) ∙ rw (seeing.see-end s p h)

  module _ (h : p < length s) where
    pub file-entry : get_or s p 0 ≡ 0x40 → file_turn 0 s at ≡ and_then (entry s p) (λ q. again q [] 0)
    unfolding file_turn
    file-entry q = then-on _ (white-on s at e) ∙ rw (seen_key s p h 0x40 q (omega arith))

    pub file-comment : {r : ℕ} → get_or s p 0 ≡ 0x25 → Ok r ≡ step_of (comment s p) → file_turn 0 s at ≡ again r [] 0
    unfolding file_turn holds_of
    file-comment q d = then-on _ (white-on s at e) ∙ rw (seen_key s p h 0x25 q (omega arith)) (then-on _ (comment-on s p d))

    pub file-other : {r : ℕ} → (get_or s p 0 ≡ 0x40 → ⊥) → (get_or s p 0 ≡ 0x25 → ⊥) → r ≡ next_of p (see s p) → (file_turn 0 s at ≡ again r [] 0) × (p < r)
    unfolding file_turn holds_of
    file-other {r} x y d =
        let o = seen_other s p h in
        let n : r ≡ o.1 = d ∙ ap (next_of p) o.2 in
        let i = subst (Inside s p) o.2 (seeing.see-inside s p) in
        let a = o.3 (is 0x40) (narrow-is 0x40 (omega arith)) (ne_eqb _ _ x) in
        let b = o.3 (is 0x25) (narrow-is 0x25 (omega arith)) (ne_eqb _ _ y) in
        (then-on _ (white-on s at e) ∙ rw (o.2, a, b, n), omega arith)

-- a comment goes past its percent sign
pub comment-further : (s : List ℕ) (p : ℕ) {r : ℕ} → p < length s → get_or s p 0 ≡ 0x25 → Ok r ≡ step_of (comment s p) → p < r
unfolding comment holds_of
comment-further s p {r} h q d =
    let t : comment s p ≡ ok (skip (fails test.Newline) s (p + 1)) [] = rw (seen_key s p h 0x25 q (omega arith)) (scan-on (fails test.Newline) s (p + 1) refl) in
    let n : r ≡ skip (fails test.Newline) s (p + 1) = let x = d ∙ ap step_of t in cc in
    omega (arith, (seeing.skip-ahead (fails test.Newline) s (p + 1)).from)

-- ---- `parse_bytes`

module _ (s : List ℕ) (h : length s ≤ most_bytes) where
  pub bytes-ill : {e : IllFormed} → Err e ≡ validity_of s → strict s ≡ bad (fault_at NotUtf8 e.at)
  bytes-ill {e} v = strict-ill s h e.at (sym v)

  -- where the text is valid, and the grammar's answer is r
  module _ (v : Ok tt ≡ validity_of s) where
    valid-is : strict s ≡ underlined s (file s 0)
    valid-is = strict-valid s h (sym v)

    -- what is answered: the same, but a refusal over its culprit, as Q says
    pub bytes-told : (Q : Fault → Fault → Type 0) (r r' : Result (ℕ × ℕ) Fault) {b b' : List ℕ} → MatchResult r (λ x. r' ≡ Ok x) (λ f. IsErrAnd r' (Q f)) →
        ((f g : Fault) → Q f g → g ≡ culprit s f) → Says 0 (file s 0) 0 b r b' → Says 0 (strict s) 0 b r' b'
    bytes-told Q (Err f) r' m k p =
        let e = err_from_is_err_and r' m in
        says_at (sym (e.1 ∙ ap Err (k f e.0 e.2))) (says-off (valid-is ∙ ap (underlined s) (said-off p)))
    bytes-told Q (Ok (q, n)) r' m k p = says_at (sym m) (says_of (valid-is ∙ same (file s 0) p.told) p)
      where
        same : (o : Out) → Ok (q, n) ≡ answer_of o 0 → underlined s o ≡ o
        same (ok i rs) y = refl
        same (again i rs a) y = refl
        same (bad f) y = cc

-- ---- `read` and `read_over`

fits-rows : (b b' : List ℕ) {q n : ℕ} (p : ℕ) (rs : List Row) → ◌≡◌ {A = Result (ℕ × ℕ) Fault} (Ok (q, n)) (Ok (p, 0 + length rs)) → n ≤ length b / 4 →
    b' ≡ overlay b 0 (moved 0 rs) → (Ok n ≡ reading_out (ok p rs) (length b)) × (b' ≡ left_out (ok p rs) b)
fits-rows b b' {q} {n} p rs e l r =
    let k = ok_pair_parts q p n (0 + length rs) e in
    let h : length rs ≤ length b / 4 = omega arith in
    let t = le-leb (length rs) (length b / 4) h in
    (rw t (ap Ok (omega arith)), rw t (r ∙ ap (overlay b 0) (laid.moved_none rs) ∙ laid.overlay-fits rs b h))

fits : (o : Out) (b : List ℕ) {b' : List ℕ} (q n : ℕ) → Ok (q, n) ≡ answer_of o 0 → n ≤ length b / 4 → RowsLaid 0 o 0 b b' →
    (Ok n ≡ reading_out o (length b)) × (b' ≡ left_out o b)
fits (ok p rs) b {b'} q n e l r = fits-rows b b' p rs e l r
fits (again p rs a) b {b'} q n e l r = fits-rows b b' p rs e l r
fits (bad f) b q n e l r = cc

copied-rows : (y y' b b' : List ℕ) {q n : ℕ} (p : ℕ) (rs : List Row) → ◌≡◌ {A = Result (ℕ × ℕ) Fault} (Ok (q, n)) (Ok (p, 0 + length rs)) → n ≤ length b / 4 →
    n ≤ length y / 4 → y' ≡ overlay y 0 (moved 0 rs) → b' ≡ take (n * 4) y' ++ drop (n * 4) b →
    (Ok n ≡ reading_out (ok p rs) (length b)) × (b' ≡ left_out (ok p rs) b)
copied-rows y y' b b' {q} {n} p rs e l m r c =
    let k : n ≡ length rs = omega (arith, ok_pair_parts q p n (0 + length rs) e) in
    let t = le-leb (length rs) (length b / 4) (omega arith) in
    let f : y' ≡ flat rs ++ drop (length rs * 4) y = r ∙ ap (overlay y 0) (laid.moved_none rs) ∙ laid.overlay-fits rs y (omega arith) in
    let g : take (n * 4) y' ≡ flat rs = ap (take (n * 4)) f ∙ take_at (flat rs) (drop (length rs * 4) y) (n * 4) (laid.flat-length rs ∙ ap (λ (x : ℕ). x * 4) (sym k)) in
    (rw t (ap Ok k), rw t (c ∙ ap (λ (x : List ℕ). x ++ drop (n * 4) b) g ∙ ap (λ (x : ℕ). flat rs ++ drop (x * 4) b) k))

copied : (o : Out) (y y' b : List ℕ) {b' : List ℕ} (q n : ℕ) → Ok (q, n) ≡ answer_of o 0 → n ≤ length b / 4 → n ≤ length y / 4 →
    RowsLaid 0 o 0 y y' → b' ≡ take (n * 4) y' ++ drop (n * 4) b → (Ok n ≡ reading_out o (length b)) × (b' ≡ left_out o b)
copied (ok p rs) y y' b {b'} q n e l m r c = copied-rows y y' b b' p rs e l m r c
copied (again p rs a) y y' b {b'} q n e l m r c = copied-rows y y' b b' p rs e l m r c
copied (bad f) y y' b q n e l m r c = cc

pub read-long : (s b : List ℕ) → most_bytes < length s → Read s b (Err (nowhere TooLong)) b
unfolding strict
read-long s b h = let t = lt-leb (length s) most_bytes h in record { answer = rw t; rows = rw t }

-- the first reading, into the numbers y, has counted the rows
module _ (s b : List ℕ) {y y' : List ℕ} {p n : ℕ} (w : Says 0 (strict s) 0 y (Ok (p, n)) y') where
  -- they are copied from there
  pub read-copied : {b' : List ℕ} → n ≤ length b / 4 → n ≤ length y / 4 → b' ≡ take (n * 4) y' ++ drop (n * 4) b → Read s b (Ok n) b'
  read-copied l m e = let k = copied (strict s) y y' b p n w.told l m w.rows e in record { answer = k.0; rows = k.1 }

  pub read_fits : {x : Result (ℕ × ℕ) Fault} {b' : List ℕ} → n ≤ length b / 4 → Says 0 (file s 0) 0 b x b' → Read s b (Ok n) b'
  read_fits {b' = b'} l k =
      let m = fits (strict s) b p n w.told l (subst (λ (o : Out). RowsLaid 0 o 0 b b') (strict-file s w.told) k.rows) in
      record { answer = m.0; rows = m.1 }
