-- Which refusals a call that resolves can answer, and their places: `calls` of any call, and `refusals`.
-- Assumes nothing.
use Rattle.resolve.specs.declared.answer.Chunks.{Chunks}
use Rattle.text.specs.declared.utf8.IllFormed.{IllFormed}
use Rattle.std.specs.Prelude.{Result, Ok, Err, ⊤}
use Prim.Native.Nat.{ℕ, ◌+◌, ◌/◌, ◌≤◌, ◌<◌}
use native.Mathlib.Omega.{arith}
use mathlib.Core.Path.{◌≡◌, refl, sym, ap, subst, ◌∙◌}
use mathlib.Core.Logic.{◌↔◌, ◌⊎◌, inl, inr}
use mathlib.Core.Bool.{Bool, true, false, cond, ◌&&◌, and-false}
use mathlib.Core.List.{List}
use lib.ListN.{length}
use lib.Dec.{leb}
use borrow.Author.Tests.{leb-true, leb-false, lt-leb}
use Rattle.text.specs.Utf8.{validity_of}
use Rattle.text.specs.Scan.{part}
use Rattle.row.specs.declared.fault.Fault.{Fault}
use Rattle.row.specs.declared.fault.Reason.TheVariants.{TooLong, NotUtf8, NoRoom, BadRows}
use Rattle.row.specs.Fault.{number_of, fault_at, nowhere}
use Rattle.row.specs.Limits.{most_bytes, most_literal, least_scratch, most_arguments}
use Rattle.chunk.specs.Chunk.{Chunk}
use Rattle.turn.specs.Content.{flatten, content}
use Rattle.literal.specs.Literal.{Resolved, chunks, resolved_of, too_long, resolve_literal}
use Rattle.literal.specs.Literal as literal
use Rattle.literal.specs.Refusals.{LiteralFault}
use Rattle.literal.specs.Rows.{most_number, texts_of}
use Rattle.literal.proofs.WellFormed.{well-formed}
use Rattle.literal.proofs.Flattening.{flattening}
use Rattle.literal.proofs.Refusals.{refusals as literal-refusals}
use Rattle.resolve.specs.Resolves.{Value, resolved, refused, fits, told, of_utf8, checked_file, after, asked}
use Rattle.resolve.specs.OneLiteral.{is_span, value_of}
use Rattle.resolve.specs.Refusals.{FileFault, long, ill-formed, Admitted, CallFault, first, not_right, full, met, FullCall, Lacks, NeedsRoom, NeedsMore}
use Rattle.resolve.specs.Refusals.{Calls, Refusals}

-- ---- a file

file-fault : (file : List ℕ) (f : Fault) → checked_file file ≡ Err f → FileFault file f
unfolding checked_file
file-fault file f =
    by (leb (length file) most_bytes) (leb-true (length file) most_bytes) (leb-false (length file) most_bytes) (validity_of file) refl
  where
    by : (x : Bool) → (x ≡ true → length file ≤ most_bytes) → (x ≡ false → most_bytes < length file) → (v : Result ⊤ IllFormed) → validity_of file ≡ v
        → cond x (of_utf8 v) (Err (nowhere TooLong)) ≡ Err f → FileFault file f
    by true h k (Ok tt) p e = let z : ◌≡◌ {A = ℕ} 0 1 = cc in absurd (omega arith)
    by true h k (Err n) p e = let q : fault_at NotUtf8 n.at ≡ f = cc in subst (FileFault file) q (ill-formed n.at (h refl) p)
    by false h k v p e = let q : nowhere TooLong ≡ f = cc in subst (FileFault file) q (long (k refl))

abbrev number_in : Fault → ℕ
number_in f = number_of f.reason

file-number : (file : List ℕ) (f : Fault) → FileFault file f → number_in f ≤ 2
file-number file f (long h) = omega arith
file-number file f (ill-formed n h p) = omega arith

-- ---- a call

pub calls : Calls
calls file good w value Met m b t f = by (checked_file file) refl good refl (leb least_scratch w) value refl
  where
    -- an answer that does not fit
    room : Admitted file good → (i j n : ℕ) (x : Bool) → Err f ≡ cond {A = Result Chunks Fault} x (Ok (record { rows = i; bytes = j; names = n })) (Err (nowhere NoRoom))
        → CallFault file good Met f
    room p i j n true e = let z : ◌≡◌ {A = ℕ} 0 1 = cc in absurd (omega arith)
    room p i j n false e = let q : nowhere NoRoom ≡ f = cc in subst (CallFault file good Met) q (full p)

    by : (c : Result ⊤ Fault) → checked_file file ≡ c → (x : Bool) → good ≡ x → (y : Bool) (v : Value) → value ≡ v
        → Err f ≡ told (after c (cond x (cond y v (refused (nowhere NoRoom))) (refused (nowhere BadRows)))) b t
        → CallFault file good Met f
    by (Err g) p x q y v s e = let z : g ≡ f = cc in first f (file-fault file f (p ∙ ap Err z))
    by (Ok tt) p false q y v s e = let z : nowhere BadRows ≡ f = cc in subst (CallFault file good Met) z (not_right p q)
    by (Ok tt) p true q false v s e = let z : nowhere NoRoom ≡ f = cc in subst (CallFault file good Met) z (full (p, q))
    by (Ok tt) p true q true (resolved cs n) s e = room (p, q) _ _ n (fits cs b t) e
    by (Ok tt) p true q true (refused g) s e = let z : g ≡ f = cc in met f (p, q) (m f (s ∙ ap refused z))

-- ---- 16

-- chunks fit unless their text is too long for the numbers of a row, or what is lent is too little
module _ (cs : List Chunk) (b t : List ℕ) where
  too_much : fits cs b t ≡ false → (most_number < length (texts_of cs)) ⊎ Lacks cs b t
  too_much =
      by (leb (length (texts_of cs)) most_number) (leb-false (length (texts_of cs)) most_number) (leb (length cs) (length b / 5))
      (leb-false (length cs) (length b / 5)) (leb (length (texts_of cs)) (length t)) (leb-false (length (texts_of cs)) (length t))
    where
      by : (x : Bool) → (x ≡ false → most_number < length (texts_of cs)) → (y : Bool) → (y ≡ false → length b / 5 < length cs)
          → (z : Bool) → (z ≡ false → length t < length (texts_of cs)) → (x && (y && z)) ≡ false
          → (most_number < length (texts_of cs)) ⊎ Lacks cs b t
      by false f y g z h e = inl (f refl)
      by true f false g z h e = inr (inl (g refl))
      by true f true g z h e = inr (inr (h e))

  not-fits : (most_number < length (texts_of cs)) ⊎ Lacks cs b t → fits cs b t ≡ false
  not-fits (inl h) = rw (lt-leb (length (texts_of cs)) most_number h)
  not-fits (inr (inl h)) = rw (lt-leb (length cs) (length b / 5) h, and-false)
  not-fits (inr (inr h)) = rw (lt-leb (length (texts_of cs)) (length t) h, and-false, and-false)

module _ (file : List ℕ) (good : Bool) (w : ℕ) (value : Value) (other : value ≡ refused (nowhere NoRoom) → ⊥) (b t : List ℕ) where
  -- where 16 is answered
  is-full : told (asked file good w value) b t ≡ Err (nowhere NoRoom) → FullCall file good w (NeedsMore value b t)
  is-full = by (checked_file file) refl good refl (leb least_scratch w) (leb-false least_scratch w) value refl
    where
      room : (i j n : ℕ) (x : Bool) → cond {A = Result Chunks Fault} x (Ok (record { rows = i; bytes = j; names = n })) (Err (nowhere NoRoom)) ≡ Err (nowhere NoRoom) → x ≡ false
      room i j n true e = let z : ◌≡◌ {A = ℕ} 0 1 = cc in absurd (omega arith)
      room i j n false e = refl

      by : (c : Result ⊤ Fault) → checked_file file ≡ c → (x : Bool) → good ≡ x → (y : Bool) → (y ≡ false → w < least_scratch) → (v : Value) → value ≡ v
          → told (after c (cond x (cond y v (refused (nowhere NoRoom))) (refused (nowhere BadRows)))) b t ≡ Err (nowhere NoRoom)
          → FullCall file good w (NeedsMore v b t)
      by (Err g) p x q y l v s e =
          let z : g ≡ nowhere NoRoom = cc in absurd (omega (arith, ap number_in z, file-number file g (file-fault file g p)))
      by (Ok tt) p false q y l v s e = let z : nowhere BadRows ≡ nowhere NoRoom = cc in absurd (omega (arith, ap number_in z))
      by (Ok tt) p true q false l v s e = ((p, q), inl (l refl))
      by (Ok tt) p true q true l (resolved cs n) s e = ((p, q), inr (too_much cs b t (room _ _ n (fits cs b t) e)))
      by (Ok tt) p true q true l (refused g) s e = let z : g ≡ nowhere NoRoom = cc in absurd (other (s ∙ ap refused z))

  -- and that it is answered then
  then-full : FullCall file good w (NeedsMore value b t) → told (asked file good w value) b t ≡ Err (nowhere NoRoom)
  then-full ((p, q), inl h) = rw (p, q, lt-leb least_scratch w h) refl
  then-full ((p, q), inr h) = rw (p, q) (by value h (leb least_scratch w))
    where
      by : (v : Value) → NeedsMore v b t → (y : Bool) → told (cond y v (refused (nowhere NoRoom))) b t ≡ Err (nowhere NoRoom)
      by (resolved cs n) h true = rw (not-fits cs b t h) refl
      by (resolved cs n) h false = refl
      by (refused f) h y = absurd h

  call-full : (r : Result Chunks Fault) → r ≡ told (asked file good w value) b t → (r ≡ Err (nowhere NoRoom)) ↔ FullCall file good w (NeedsMore value b t)
  call-full r e = (λ q. is-full (sym e ∙ q), λ h. e ∙ then-full h)

-- ---- one literal

value-fault : (x : Resolved) (f : Fault) → value_of x ≡ refused f → x ≡ literal.refused f
value-fault (chunks cs) f e = let z : ◌≡◌ {A = ℕ} 0 1 = cc in absurd (omega arith)
value-fault (literal.refused g) f e = let z : g ≡ f = cc in ap literal.refused z

module _ (file : List ℕ) (a e : ℕ) (verb : Bool) where
  abbrev s : List ℕ
  s = part file a e

  work : (f : Fault) → value_of (resolve_literal verb s a) ≡ refused f → LiteralFault s a f
  work f q = literal-refusals.literal verb s a f (value-fault (resolve_literal verb s a) f q)

  not_full : value_of (resolve_literal verb s a) ≡ refused (nowhere NoRoom) → ⊥
  not_full q = absurd (omega (arith, literal-refusals.own s a (nowhere NoRoom) (work (nowhere NoRoom) q)))

  -- a literal that is resolved is inside the limit, so that its text is
  within : (cs : List Chunk) → resolve_literal verb s a ≡ chunks cs → length s ≤ most_literal
  unfolding resolve_literal
  within cs = by (leb (length s) most_literal) (leb-true (length s) most_literal)
    where
      by : (x : Bool) → (x ≡ true → length s ≤ most_literal)
          → cond x (resolved_of a (content most_arguments verb s 0)) (literal.refused (too_long a (a + length s))) ≡ chunks cs → length s ≤ most_literal
      by true h q = h refl
      by false h q = let z : ◌≡◌ {A = ℕ} 0 1 = cc in absurd (omega arith)

  -- and the limit of a row's numbers never decides
  module _ (b t : List ℕ) where
    room-alone : NeedsMore (value_of (resolve_literal verb s a)) b t ↔ NeedsRoom (value_of (resolve_literal verb s a)) b t
    room-alone = by (resolve_literal verb s a) refl
      where
        by : (x : Resolved) → resolve_literal verb s a ≡ x → NeedsMore (value_of x) b t ↔ NeedsRoom (value_of x) b t
        by (chunks cs) q = (only, inr)
          where
            only : (most_number < length (texts_of (flatten cs))) ⊎ Lacks (flatten cs) b t → Lacks (flatten cs) b t
            only (inl h) = absurd (omega (arith, h, ap length (flattening.texts-flat cs), well-formed.twice verb s a cs q, within cs q))
            only (inr h) = h
        by (literal.refused f) q = (λ h. h, λ h. h)

    literal-full : (w : ℕ) (r : Result Chunks Fault) → r ≡ told (asked file (is_span file a e) w (value_of (resolve_literal verb s a))) b t
        → (r ≡ Err (nowhere NoRoom)) ↔ FullCall file (is_span file a e) w (NeedsRoom (value_of (resolve_literal verb s a)) b t)
    literal-full w r p =
        let x = call-full file (is_span file a e) w (value_of (resolve_literal verb s a)) not_full b t r p in
        (λ q. there (x.0 q), λ h. x.1 (back h))
      where
        there : FullCall file (is_span file a e) w (NeedsMore (value_of (resolve_literal verb s a)) b t)
            → FullCall file (is_span file a e) w (NeedsRoom (value_of (resolve_literal verb s a)) b t)
        there (p, inl h) = (p, inl h)
        there (p, inr h) = (p, inr (room-alone.0 h))

        back : FullCall file (is_span file a e) w (NeedsRoom (value_of (resolve_literal verb s a)) b t)
            → FullCall file (is_span file a e) w (NeedsMore (value_of (resolve_literal verb s a)) b t)
        back (p, inl h) = (p, inl h)
        back (p, inr h) = (p, inr (room-alone.1 h))

pub refusals : Refusals
refusals =
    record {
      file = file-fault;
      file-own = file-number;
      call-full = call-full;
      literal = λ file a e verb w b t w' b' t' f r.
          calls file (is_span file a e) (length w) _ (LiteralFault (part file a e) a) (work file a e verb) b t f r.writes.answer;
      literal-full = λ file a e verb w b t w' b' t' x r.
          literal-full file a e verb b t (length w) x r.writes.answer;
    }
