-- Which refusals `resolve_file` can answer for itself and for each value, and their places: `refusals`.
-- Assumes nothing.
use Rattle.std.specs.Prelude.{Result, Ok, Err, ⊤}
use Rattle.whole.specs.declared.file.Filed.{Filed}
use Prim.Native.Nat.{ℕ, ◌/◌, ◌<◌}
use native.Mathlib.Omega.{arith}
use mathlib.Core.Path.{◌≡◌, refl, sym, ap, subst, ◌∙◌}
use mathlib.Core.Logic.{◌↔◌, inl, inr}
use mathlib.Core.Bool.{Bool, true, false, cond, ◌&&◌, and-false}
use mathlib.Core.List.{List}
use lib.ListN.{length, get_or, drop}
use lib.Dec.{leb}
use borrow.Author.Tests.{leb-false, lt-leb}
use Rattle.row.specs.declared.fault.Fault.{Fault}
use Rattle.row.specs.declared.fault.Reason.TheVariants.{NoRoom, BadRows}
use Rattle.row.specs.Fault.{number_of, nowhere}
use Rattle.row.specs.Limits.{least_scratch}
use Rattle.literal.specs.Rows.{most_number}
use Rattle.resolve.specs.Resolves.{Value, checked_file}
use Rattle.resolve.specs.Checks.{lent_of}
use Rattle.resolve.specs.Refusals.{CallFault, first, not_right, full, FullCall}
use Rattle.resolve.proofs.Refusals.{refusals as call-refusals}
use Rattle.values.proofs.Refusals.{refusals as value-refusals}
use Rattle.whole.specs.WholeFile.{flag, results, texts, count_rows, small_all, fits_all, all, none, tell_all, are_filed, after_all}
use Rattle.whole.specs.EachValue.{value_rows}
use Rattle.whole.specs.Refusals.{NeedsMoreAll, Refusals}
use Rattle.whole.proofs.EachValue.{field_is}

-- ---- the values, which fit unless there is too much of them or too little is lent

module _ (vs : List Value) (q b t : List ℕ) where
  too_much : fits_all vs q b t ≡ false → NeedsMoreAll vs q b t
  unfolding fits_all small_all
  too_much =
      by (leb (count_rows vs) most_number) (leb-false (count_rows vs) most_number) (leb (length (texts vs)) most_number)
      (leb-false (length (texts vs)) most_number) (leb (length vs) (length q / 6)) (leb-false (length vs) (length q / 6))
      (leb (count_rows vs) (length b / 5)) (leb-false (count_rows vs) (length b / 5)) (leb (length (texts vs)) (length t))
      (leb-false (length (texts vs)) (length t))
    where
      by : (x : Bool) → (x ≡ false → most_number < count_rows vs) → (y : Bool) → (y ≡ false → most_number < length (texts vs)) → (n : Bool)
          → (n ≡ false → length q / 6 < length vs) → (r : Bool) → (r ≡ false → length b / 5 < count_rows vs) → (m : Bool)
          → (m ≡ false → length t < length (texts vs)) → ((x && y) && (n && (r && m))) ≡ false → NeedsMoreAll vs q b t
      by false f y g n h r i m j e = inl (inl (f refl))
      by true f false g n h r i m j e = inl (inr (g refl))
      by true f true g false h r i m j e = inr (inl (h refl))
      by true f true g true h false i m j e = inr (inr (inl (i refl)))
      by true f true g true h true i m j e = inr (inr (inr (j e)))

  not-fits : NeedsMoreAll vs q b t → fits_all vs q b t ≡ false
  unfolding fits_all small_all
  not-fits (inl (inl h)) = rw (lt-leb (count_rows vs) most_number h)
  not-fits (inl (inr h)) = rw (lt-leb (length (texts vs)) most_number h, and-false)
  not-fits (inr (inl h)) = rw (lt-leb (length vs) (length q / 6) h, and-false)
  not-fits (inr (inr (inl h))) = rw (lt-leb (count_rows vs) (length b / 5) h, and-false, and-false)
  not-fits (inr (inr (inr h))) = rw (lt-leb (length (texts vs)) (length t) h, and-false, and-false, and-false)

-- ---- the call itself, which comes to the values vs where all is right

module _ (file : List ℕ) (good : Bool) (w : ℕ) (vs : List Value) (q b t : List ℕ) where
  -- what the call comes to, by what it asks
  abbrev call : Result ⊤ Fault → Bool → Bool → Result Filed Fault
  call c x y = tell_all (after_all c (cond x (cond y (all vs) (none (nowhere NoRoom))) (none (nowhere BadRows)))) q b t

  call-fault : (f : Fault) → Err f ≡ call (checked_file file) good (leb least_scratch w) → CallFault file good (λ g. ⊥) f
  call-fault f = by (checked_file file) refl good refl (leb least_scratch w)
    where
      by : (c : Result ⊤ Fault) → checked_file file ≡ c → (x : Bool) → good ≡ x → (y : Bool) → Err f ≡ call c x y → CallFault file good (λ g. ⊥) f
      by (Err g) p x r y e = let z : g ≡ f = cc in first f (call-refusals.file file f (p ∙ ap Err z))
      by (Ok tt) p false r y e = let z : nowhere BadRows ≡ f = cc in subst (CallFault file good (λ g. ⊥)) z (not_right p r)
      by (Ok tt) p true r false e = let z : nowhere NoRoom ≡ f = cc in subst (CallFault file good (λ g. ⊥)) z (full (p, r))
      by (Ok tt) p true r true e = room _ _ _ (fits_all vs q b t) e
        where
          room : (i j k : ℕ) (x : Bool) → Err f ≡ cond {A = Result Filed Fault} x (Ok (record { values = i; rows = j; bytes = k })) (Err (nowhere NoRoom))
              → CallFault file good (λ g. ⊥) f
          room i j k true e = let z : ◌≡◌ {A = ℕ} 0 1 = cc in absurd (omega arith)
          room i j k false e = let z : nowhere NoRoom ≡ f = cc in subst (CallFault file good (λ g. ⊥)) z (full (p, r))

  -- where 16 is answered
  is-full : call (checked_file file) good (leb least_scratch w) ≡ Err (nowhere NoRoom) → FullCall file good w (NeedsMoreAll vs q b t)
  is-full = by (checked_file file) refl good refl (leb least_scratch w) (leb-false least_scratch w)
    where
      room : (i j k : ℕ) (x : Bool) → cond {A = Result Filed Fault} x (Ok (record { values = i; rows = j; bytes = k })) (Err (nowhere NoRoom)) ≡ Err (nowhere NoRoom) → x ≡ false
      room i j k true e = let z : ◌≡◌ {A = ℕ} 0 1 = cc in absurd (omega arith)
      room i j k false e = refl

      by : (c : Result ⊤ Fault) → checked_file file ≡ c → (x : Bool) → good ≡ x → (y : Bool) → (y ≡ false → w < least_scratch)
          → call c x y ≡ Err (nowhere NoRoom) → FullCall file good w (NeedsMoreAll vs q b t)
      by (Err g) p x r y l e =
          let z : g ≡ nowhere NoRoom = cc in
          let n : number_of g.reason ≡ 16 = ap (λ (f : Fault). number_of f.reason) z in
          absurd (omega (arith, n, call-refusals.file-own file g (call-refusals.file file g p)))
      by (Ok tt) p false r y l e =
          let z : nowhere BadRows ≡ nowhere NoRoom = cc in
          let n : ◌≡◌ {A = ℕ} 17 16 = ap (λ (f : Fault). number_of f.reason) z in absurd (omega (arith, n))
      by (Ok tt) p true r false l e = ((p, r), inl (l refl))
      by (Ok tt) p true r true l e = ((p, r), inr (too_much vs q b t (room _ _ _ (fits_all vs q b t) e)))

  -- and that it is answered then
  then-full : FullCall file good w (NeedsMoreAll vs q b t) → call (checked_file file) good (leb least_scratch w) ≡ Err (nowhere NoRoom)
  then-full ((p, r), inl h) = rw (p, r, lt-leb least_scratch w h) refl
  then-full ((p, r), inr h) = rw (p, r) (by (leb least_scratch w))
    where
      by : (y : Bool) → call (Ok tt) true y ≡ Err (nowhere NoRoom)
      by true = rw (not-fits vs q b t h) refl
      by false = refl

  call-full : (r : Result Filed Fault) → r ≡ call (checked_file file) good (leb least_scratch w)
      → (r ≡ Err (nowhere NoRoom)) ↔ FullCall file good w (NeedsMoreAll vs q b t)
  call-full r e = (λ z. is-full (sym e ∙ z), λ h. e ∙ then-full h)

pub refusals : Refusals
refusals =
    record {
      file = λ file rows flags months words w h x q b t w' h' x' q' b' t' f r.
          call-fault file (are_filed file rows flags months words) (length w) (results (lent_of file rows months words) flags) q b t f
          r.writes.answer;
      file-full = λ file rows flags months words w h x q b t w' h' x' q' b' t' y r.
          call-full file (are_filed file rows flags months words) (length w) (results (lent_of file rows months words) flags) q b t y
          r.writes.answer;
      values = λ file rows flags months words w vs e k h f r.
          value-refusals.value (lent_of file rows months words) (flag (drop k flags)) (get_or (value_rows rows) k 0) f
          (sym (field_is file rows flags months words w vs e k h) ∙ r);
    }
