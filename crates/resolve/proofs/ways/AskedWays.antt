-- The checks that every call makes first: for `check_file` of src/answer.rt, `literal` of src/one_literal.rt, and the calls of the crates above.
--     file-long, file-utf8, file-small           the ways through `check_file`, and how long a file is that passes
--     span-ends, cut-part, cut-room              a span of a file, and its bytes
--     span-good, span-room, span-writes          what a good span of a file that passes has
--     asked-file, asked-bad, asked-scratch       the refusals of a call
--     asked-all                                  what is written, where all is right
-- Assumes nothing.
use Rattle.text.specs.declared.utf8.IllFormed.{IllFormed}
use Rattle.std.specs.Prelude.{Result, Ok, Err, ⊤}
use Rattle.resolve.specs.declared.answer.Chunks.{Chunks}
use Prim.Native.Nat.{ℕ, ◌+◌, ◌-◌, ◌≤◌, ◌<◌}
use native.Mathlib.Omega.{arith}
use mathlib.Core.Path.{◌≡◌, refl, sym, ap, subst, ◌∙◌}
use mathlib.Core.Bool.{Bool, true, false, cond, not, ◌&&◌}
use mathlib.Core.List.{List}
use lib.ListN.{length, take, drop}
use lib.Dec.{leb}
use borrow.Author.Tests.{leb-true, le-leb, lt-leb, not-true, not-false}
use Rattle.text.specs.Utf8.{is_boundary, validity_of}
use Rattle.text.specs.Scan.{part}
use Rattle.text.proofs.general.Tests.{both_true}
use Rattle.text.proofs.general.Parts.{length_part}
use Rattle.text.proofs.general.Places.{part-clamped}
use Rattle.row.specs.declared.fault.Fault.{Fault}
use Rattle.row.specs.declared.fault.Reason.TheVariants.{TooLong, NoRoom, BadRows}
use Rattle.row.specs.Fault.{nowhere}
use Rattle.row.specs.Limits.{most_bytes, least_scratch}
use Rattle.literal.specs.Literal.{resolve_literal}
use Rattle.resolve.specs.Resolves.{Value, refused, Writes, of_utf8, checked_file, after, asked}
use Rattle.resolve.specs.OneLiteral.{is_span, value_of}

-- ---- a file

module _ (file : List ℕ) where
  pub file-long : most_bytes < length file → Err (nowhere TooLong) ≡ checked_file file
  unfolding checked_file
  file-long h = ap (λ (x : Bool). cond x (of_utf8 (validity_of file)) (Err (nowhere TooLong))) (sym (lt-leb (length file) most_bytes h))

  pub file-utf8 : (v : Result ⊤ IllFormed) → length file ≤ most_bytes → v ≡ validity_of file → of_utf8 v ≡ checked_file file
  unfolding checked_file
  file-utf8 v h e =
      ap of_utf8 e
      ∙ ap (λ (x : Bool). cond x (of_utf8 (validity_of file)) (Err (nowhere TooLong))) (sym (le-leb (length file) most_bytes h))

  pub file-small : (r : Result ⊤ Fault) → r ≡ checked_file file → r ≡ Ok tt → length file ≤ most_bytes
  unfolding checked_file
  file-small r e k = leb-true (length file) most_bytes (by (leb (length file) most_bytes) (sym e ∙ k))
    where
      by : (x : Bool) → cond x (of_utf8 (validity_of file)) (Err (nowhere TooLong)) ≡ Ok tt → x ≡ true
      by true k = refl
      by false k = cc

-- ---- a span

pub span-ends : (file : List ℕ) (a e : ℕ) → is_span file a e ≡ true → (a ≤ e) × (e ≤ length file)
unfolding is_boundary
span-ends file a e h =
    let both = both_true (leb a e) (is_boundary file a && is_boundary file e) h in
    let last = both_true (is_boundary file a) (is_boundary file e) both.1 in
    (leb-true a e both.0, leb-true e (length file) (both_true (leb e (length file)) _ last.1).0)

-- the bytes of a span
module _ (file : List ℕ) (a e : ℕ) (f : a ≤ e) (l : e ≤ length file) where
  pub cut-part : take (e - a) (drop a file) ≡ part file a e
  cut-part = part-clamped file a e {n = e} {m = a} (omega arith) (omega arith)

  pub cut-room : length file ≤ most_bytes → a + length (take (e - a) (drop a file)) ≤ most_bytes
  cut-room h = omega (arith, ap length cut-part, length_part file a e f l)

module _ (file : List ℕ) (a e : ℕ) (x : Bool) (l : x ≡ is_span file a e) (n : not x ≡ false) where
  pub span-good : (a ≤ e) × (e ≤ length file)
  span-good = span-ends file a e (sym l ∙ not-false x n)

  pub span-room : (r : Result ⊤ Fault) → r ≡ checked_file file → r ≡ Ok tt → a + length (take (e - a) (drop a file)) ≤ most_bytes
  span-room r h k = cut-room file a e span-good.0 span-good.1 (file-small file r h k)

  -- a literal that is written is that of the span
  pub span-writes : (verb : Bool) (b t : List ℕ) (u : Result Chunks Fault) (b' t' : List ℕ)
      → Writes (value_of (resolve_literal verb (take (e - a) (drop a file)) a)) b t u b' t'
      → Writes (value_of (resolve_literal verb (part file a e) a)) b t u b' t'
  span-writes verb b t u b' t' h =
      subst (λ (s : List ℕ). Writes (value_of (resolve_literal verb s a)) b t u b' t') (cut-part file a e span-good.0 span-good.1) h

-- ---- what a call comes to, whose places or rows are good or not

refused-writes : (value : Value) (f : Fault) (b t : List ℕ) → value ≡ refused f → Writes value b t (Err f) b t
refused-writes value f b t e =
    subst (λ (v : Value). Writes v b t (Err f) b t) (sym e) (record { answer = refl; rows = refl; text = refl })

module _ (file : List ℕ) (good : Bool) (w : ℕ) (value : Value) (b t : List ℕ) where
  abbrev whole : Value
  whole = asked file good w value

  abbrev judged : Bool → Value
  judged x = cond x (cond (leb least_scratch w) value (refused (nowhere NoRoom))) (refused (nowhere BadRows))

  module _ (r : Result ⊤ Fault) (h : r ≡ checked_file file) where
    pub asked-file : (f : Fault) → r ≡ Err f → Writes whole b t (Err f) b t
    asked-file f k = refused-writes whole f b t (ap (λ (x : Result ⊤ Fault). after x (judged good)) (sym h ∙ k))

    module _ (k : r ≡ Ok tt) (x : Bool) (l : x ≡ good) where
      passed : whole ≡ judged x
      passed = ap (λ (y : Result ⊤ Fault). after y (judged good)) (sym h ∙ k) ∙ ap judged (sym l)

      pub asked-bad : not x ≡ true → Writes whole b t (Err (nowhere BadRows)) b t
      asked-bad n = refused-writes whole (nowhere BadRows) b t (passed ∙ ap judged (not-true x n))

      module _ (n : not x ≡ false) where
        right : whole ≡ cond (leb least_scratch w) value (refused (nowhere NoRoom))
        right = passed ∙ ap judged (not-false x n)

        pub asked-scratch : w < least_scratch → Writes whole b t (Err (nowhere NoRoom)) b t
        asked-scratch m =
            refused-writes whole (nowhere NoRoom) b t
            (right ∙ ap (λ (y : Bool). cond y value (refused (nowhere NoRoom))) (lt-leb least_scratch w m))

        pub asked-all : least_scratch ≤ w → (u : Result Chunks Fault) (b' t' : List ℕ) → Writes value b t u b' t' → Writes whole b t u b' t'
        asked-all m u b' t' z =
            subst (λ (v : Value). Writes v b t u b' t')
            (sym (right ∙ ap (λ (y : Bool). cond y value (refused (nowhere NoRoom))) (le-leb least_scratch w m))) z
