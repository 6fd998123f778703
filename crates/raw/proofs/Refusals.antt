-- Which refusals strict reading can answer, and their places: `refusals`. When a call answers 16: `own-or-full` and `sixteen`.
-- Assumes nothing.
use Rattle.std.proofs.Common.{Result, Ok, Err, ℕ, ◌*◌, ◌/◌, ◌<◌, arith, ◌≡◌, refl, sym, ap, ◌∙◌, subst, inl, inr, ⊎_elim, Bool, true, false, cond, List, length, replicate, leb}
use Rattle.std.proofs.Common.{leb-false, le-leb}
use lib.ListN.{length-replicate}
use borrow.Author.Tests.{lt-leb}
use Rattle.row.specs.declared.fault.Reason.TheVariants.{TooLong, NotUtf8, NoRoom}
use Rattle.row.specs.declared.fault.Fault.{Fault}
use Rattle.row.specs.Row.{Row}
use Rattle.row.specs.Fault.{number_of, fault_at, nowhere}
use Rattle.raw.specs.Reader.{Out, ok, again, bad}
use Rattle.raw.specs.Grammar.{file}
use Rattle.raw.specs.Read.{underlined, strict, reading_out, left_out, Read}
use Rattle.raw.specs.Refusals.{ReadFault, long, ill, met, full, OwnOrFull, Sixteen, Refusals}
use Rattle.raw.proofs.grammar.Culprits.{underlined-bad, refused-of, refused-inside}
use Rattle.raw.proofs.Strict.{strict-by}

module _ (s : List ℕ) (f : Fault) where
  -- equal refusals can be answered alike
  made : (g : Fault) → ◌≡◌ {A = Out} (bad g) (bad f) → ReadFault s g → ReadFault s f
  made g e x = let q : g ≡ f = cc in subst (ReadFault s) q x

  file-fault : underlined s (file s 0) ≡ bad f → ReadFault s f
  file-fault e =
      let g = underlined-bad s (file s 0) e in
      let r = refused-of s g.0 g.1 in
      subst (ReadFault s) g.2 (met g.0.reason g.0.start r.least r.most (refused-inside s g.0 g.1))

  strict-fault : strict s ≡ bad f → ReadFault s f
  strict-fault =
      strict-by s (λ o. o ≡ bad f → ReadFault s f) (λ e. made (nowhere TooLong) e long)
      (λ n h e. made (fault_at NotUtf8 n) e (ill n h))
      (λ o. file-fault)

-- rows that do not fit are refused with 16
rows-refused : (n : ℕ) (x : Bool) {f : Fault} → Err f ≡ cond x (Ok n) (Err (nowhere NoRoom)) → nowhere NoRoom ≡ f
rows-refused n true e = cc
rows-refused n false e = cc

pub own-or-full : OwnOrFull
own-or-full (ok q rs) size f e = inr (rows-refused (length rs) (leb (length rs) (size / 4)) e)
own-or-full (again q rs a) size f e = inr (rows-refused (length rs) (leb (length rs) (size / 4)) e)
own-or-full (bad g) size f e = let q : g ≡ f = cc in inl (ap bad q)

-- ---- when 16 is answered by a call whose answer and rows are those of a reading o

-- enough numbers for n rows
abbrev room : ℕ → List ℕ
room n = replicate (n * 4) 0

-- a reading that finds the rows rs: where too few numbers are lent the answer is 16, and where enough are it is their count
module _ (rs : List Row) where
  abbrev rows_or : ℕ → Result ℕ Fault
  rows_or x = cond (leb (length rs) (x / 4)) (Ok (length rs)) (Err (nowhere NoRoom))

  rows-full : (x : ℕ) → rows_or x ≡ Err (nowhere NoRoom) → x / 4 < length rs
  rows-full x = by (leb (length rs) (x / 4)) refl
    where
      by : (y : Bool) → leb (length rs) (x / 4) ≡ y →
          cond y (Ok (length rs)) (Err (nowhere NoRoom)) ≡ Err (nowhere NoRoom) → x / 4 < length rs
      by true d e = cc
      by false d e = leb-false (length rs) (x / 4) d

  rows-enough : Ok (length rs) ≡ rows_or (length (room (length rs)))
  rows-enough =
      let l : length (room (length rs)) ≡ length rs * 4 = length-replicate (length rs * 4) 0 in
      rw (le-leb (length rs) (length (room (length rs)) / 4) (omega arith))

  rows-too-little : (x y m : ℕ) → Ok m ≡ rows_or y → x / 4 < m → rows_or x ≡ Err (nowhere NoRoom)
  rows-too-little x y m = by (leb (length rs) (y / 4))
    where
      by : (z : Bool) → Ok m ≡ cond z (Ok (length rs)) (Err (nowhere NoRoom)) → x / 4 < m →
          rows_or x ≡ Err (nowhere NoRoom)
      by true e h = let z : m ≡ length rs = cc in rw (lt-leb (length rs) (x / 4) (omega arith))
      by false e h = cc

too-little : (o : Out) (x y m : ℕ) → Ok m ≡ reading_out o y → x / 4 < m → reading_out o x ≡ Err (nowhere NoRoom)
too-little (ok q rs) x y m e h = rows-too-little rs x y m e h
too-little (again q rs a) x y m e h = rows-too-little rs x y m e h
too-little (bad f) x y m e h = cc

enough : (o : Out) → (o ≡ bad (nowhere NoRoom) → ⊥) → (x : ℕ) → reading_out o x ≡ Err (nowhere NoRoom) →
    (n : ℕ) × (c : List ℕ) × (Ok n ≡ reading_out o (length c)) × (x / 4 < n)
enough (ok q rs) other x e = (length rs, room (length rs), rows-enough rs, rows-full rs x e)
enough (again q rs a) other x e = (length rs, room (length rs), rows-enough rs, rows-full rs x e)
enough (bad f) other x e = let z : f ≡ nowhere NoRoom = cc in absurd (other (ap bad z))

-- such a call answers 16 exactly if there is an answer that needs more than is lent
pub sixteen : Sixteen
sixteen o other call told make b b' r p = (
  λ e.
      let t = enough o other (length b) (sym (told b b' r p) ∙ e) in
      (t.0, (t.1, left_out o t.1, subst (λ (x : Result ℕ Fault). call t.1 x (left_out o t.1)) (sym t.2) (make t.1)), t.3),
  λ h. told b b' r p ∙ too-little o (length b) (length h.1.0) h.0 (told h.1.0 h.1.1 (Ok h.0) h.1.2) h.2,
)

-- a refusal with a number below 16 is not 16
not-sixteen : {f : Fault} → f ≡ nowhere NoRoom → number_of f.reason < 16 → ⊥
not-sixteen e h = let n = ap (λ (f : Fault). number_of f.reason) e in omega arith

-- strict reading by itself never refuses with 16
strict-not-full : (s : List ℕ) → strict s ≡ bad (nowhere NoRoom) → ⊥
strict-not-full s =
    strict-by s (λ o. o ≡ bad (nowhere NoRoom) → ⊥) (λ e. let q : nowhere TooLong ≡ nowhere NoRoom = cc in not-sixteen q (omega arith))
    (λ n h e. let q : fault_at NotUtf8 n ≡ nowhere NoRoom = cc in not-sixteen q (omega arith))
    (λ o e. let g = underlined-bad s (file s 0) e in not-sixteen g.2 (omega (arith, (refused-of s g.0 g.1).most)))

pub refusals : Refusals
refusals =
    record {
      reads = λ s b b' f r. ⊎_elim (strict-fault s f) (λ q. subst (ReadFault s) q full) (own-or-full (strict s) (length b) f r.answer);
      no_room = λ s. sixteen (strict s) (strict-not-full s) (Read s) (λ b b' r p. p.answer) (λ b. record { answer = refl; rows = refl });
    }
