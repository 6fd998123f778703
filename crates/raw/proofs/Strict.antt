-- The proof of specs/Strict.antt: `strict-reading`.
--     file-turn       a file is its first item and then a file
--     file-ends       an accepted text is read to its end
-- Assumes nothing.
use Rattle.text.specs.declared.utf8.IllFormed.{IllFormed}
use Rattle.std.proofs.Common.{Option, Some, None, Result, Ok, Err, ℕ, zero, suc, ◌≤◌, ◌<◌, max, arith, ◌≡◌, refl, sym, ap, ◌∙◌, subst, Bool, true, false, cond, List, length}
use Rattle.std.proofs.Common.{leb}
use Rattle.std.specs.Prelude.{⊤}
use Rattle.text.specs.Class.{holds_of}
use Rattle.text.specs.Utf8.{Octets, validity_of}
use Rattle.text.specs.Scan.{see, Inside}
use Rattle.text.specs.declared.class.Test.TheVariants as test
use Rattle.text.proofs.Seeing.{seeing}
use Rattle.text.proofs.Rfc3629.{rfc3629}
use Rattle.text.proofs.Boundaries.{boundaries}
use Rattle.row.specs.declared.fault.Fault.{Fault}
use Rattle.row.specs.declared.fault.Reason.TheVariants.{TooLong, NotUtf8}
use Rattle.row.specs.declared.fault.Reason.{Reason}
use Rattle.row.specs.Fault.{number_of, fault_at, nowhere}
use Rattle.row.specs.Row.{Row}
use Rattle.raw.specs.Reader.{Out, ok, again, bad, more, and_then, after, turn, loop, many}
use Rattle.raw.specs.Grammar.{is, any, white, comment, entry, file_turn, file}
use Rattle.row.specs.Limits.{most_bytes}
use Rattle.raw.specs.Read.{culprit, underlined, checked, strict}
use Rattle.raw.specs.Strict.{ShowsSame, Stops, Accepted, Refusal, Strict}
use Rattle.raw.proofs.readers.Trace.{Trace, Traced}
use Rattle.raw.proofs.readers.Spans.{trace-rising, trace-spans, trace-clean}
use Rattle.raw.proofs.readers.Kept.{Advances, eaten-holds}
use Rattle.raw.proofs.readers.Then.{bad-is}
use Rattle.raw.proofs.readers.Loop.{many-turn}
use Rattle.raw.proofs.grammar.Early.{hits, eaten-else}
use Rattle.raw.proofs.grammar.Readers.{from_start, white-laws, comment-laws}
use Rattle.raw.proofs.grammar.Entries.{entry_kept}
use Rattle.raw.proofs.grammar.Files.{file-turn-kept, file-turn-laws, file-laws, file-rules, file-few, file-early}
use Rattle.raw.proofs.grammar.Culprits.{underlined-ok, underlined-again, underlined-bad, refused-of, culprit-order, culprit-of}

-- ---- the loop of the file, without its fuel

file-any : (a : ℕ) (s : List ℕ) (p : ℕ) → many file_turn a s p ≡ file s p
unfolding file_turn file
file-any a s p = many-turn file-turn-kept a s p ∙ sym (many-turn file-turn-kept 0 s p)

file-turn : (s : List ℕ) (p : ℕ) → file s p ≡ after (file_turn 0 s p) (λ a q. file s q)
file-turn s p = sym (file-any 0 s p) ∙ many-turn file-turn-kept 0 s p ∙ by (file_turn 0 s p)
  where
    by : (o : Out) → after o (λ a q. many file_turn a s q) ≡ after o (λ a q. file s q)
    by (ok q rs) = refl
    by (again q rs a) = ap (more rs) (file-any a s q)
    by (bad f) = refl

-- ---- an accepted text is read to its end

module _ (s : List ℕ) where
  -- an answer that accepts does so at the end of the text; and an answer of the whole loop (`Done`) is no turn
  abbrev EndsAtEnd : Out → Type 0
  EndsAtEnd (ok q rs) = length s ≤ q
  EndsAtEnd (again q rs a) = Unit {0}
  EndsAtEnd (bad f) = Unit {0}

  abbrev Done : Out → Type 0
  Done (ok q rs) = length s ≤ q
  Done (again q rs a) = ⊥
  Done (bad f) = Unit {0}

  more-ends : (rs : List Row) (o : Out) → EndsAtEnd o → EndsAtEnd (more rs o)
  more-ends rs (ok q ss) h = h
  more-ends rs (again q ss a) h = tt
  more-ends rs (bad f) h = tt

  chain-ends : (o : Out) (g : ℕ → Out) → ((q : ℕ) → EndsAtEnd (g q)) → EndsAtEnd (and_then o g)
  chain-ends (ok q rs) g G = more-ends rs (g q) (G q)
  chain-ends (again q rs a) g G = more-ends rs (g q) (G q)
  chain-ends (bad f) g G = tt

  turned-ends : (o : Out) → EndsAtEnd (and_then o (turn 0 s))
  turned-ends o = chain-ends o (turn 0 s) (λ q. tt)

  -- where no character is seen the text ends
  none_left : (q : ℕ) (x : Option (ℕ × ℕ)) → Inside s q x → hits any x ≡ false → length s ≤ q
  none_left q None h e = h
  none_left q (Some (c, n)) h e = cc

  turn-ends : (a p : ℕ) → EndsAtEnd (file_turn a s p)
  unfolding file_turn
  turn-ends a p =
      chain-ends (white s p) _
      (λ q. eaten-holds EndsAtEnd (is 0x40) (see s q) _ _ (λ k n x. turned-ends (entry s q))
      (eaten-holds EndsAtEnd (holds_of test.Percent) (see s q) _ _ (λ k n x. turned-ends (comment s q))
      (eaten-else EndsAtEnd any (see s q) _ _ (λ n. tt) (none_left q (see s q) (seeing.see-inside s q)))))

  more-done : (rs : List Row) (o : Out) → Done o → Done (more rs o)
  more-done rs (ok q ss) h = h
  more-done rs (again q ss a) h = h
  more-done rs (bad f) h = tt

  after-done : (o : Out) (g : ℕ → ℕ → Out) → EndsAtEnd o → ((b q : ℕ) → Done (g b q)) → Done (after o g)
  after-done (ok q rs) g h G = h
  after-done (again q rs a) g h G = more-done rs (g a q) (G a q)
  after-done (bad f) g h G = tt

  loop-done : (n a p : ℕ) → Done (loop file_turn n a s p)
  unfolding loop
  loop-done zero a p = tt
  loop-done (suc n) a p = after-done (file_turn a s p) (λ b q. loop file_turn n b s q) (turn-ends a p) (loop-done n)

  file-done : (p : ℕ) → Done (file s p)
  unfolding file many
  file-done p = loop-done (suc (length s)) 0 p

  file-ends : (p q : ℕ) (rs : List Row) → file s p ≡ ok q rs → p ≤ length s → q ≡ length s
  file-ends p q rs e h =
      let x : length s ≤ q = subst Done e (file-done p) in
      let y : Advances 0 0 p (length s) (ok q rs) = subst (Advances 0 0 p (length s)) e ((from_start file-laws).core.kept.advances s p) in
      omega arith

-- ---- an item

item-ahead : (s : List ℕ) (p q a : ℕ) (rs : List Row) → file_turn 0 s p ≡ again q rs a → (p < q) × (q ≤ max p (length s))
item-ahead s p q a rs e =
    let y : Advances 1 0 p (length s) (again q rs a) = subst (Advances 1 0 p (length s)) e ((file-turn-kept 0).advances s p) in
    (omega arith, omega arith)

entry-same : (s t : List ℕ) (p q : ℕ) → Stops (entry s p) q → q ≤ length t → ShowsSame s t p q → entry t p ≡ entry s p
entry-same s t p q e h x = entry_kept.local s t p q e h (λ i a b. x i a (omega arith))

-- ---- strict reading

file-accepts : (s : List ℕ) (q : ℕ) (rs : List Row) → Octets s → file s 0 ≡ ok q rs → Accepted s q rs
file-accepts s q rs o e =
    let t : Trace s 0 rs q = subst (Traced s 0) e ((from_start file-laws).traced s 0) in
    record {
      end = file-ends s 0 q rs e (omega arith);
      rules = file-rules s 0 q rs e;
      undamaged = trace-clean t;
      rising = trace-rising t;
      spans = trace-spans o t (omega arith) (boundaries.first s o);
      few = omega (arith, file-few s 0 q rs e, file-ends s 0 q rs e (omega arith));
    }

-- where the grammar refuses with g, its place is widened
file-refuses : (s : List ℕ) (g : Fault) → Octets s → file s 0 ≡ bad g → Refusal s (culprit s g)
file-refuses s g o e =
    let r = refused-of s g e in
    record {
      number = (omega (arith, r.least), r.most);
      place = culprit-order s g e;
      empty = λ h. absurd (omega (arith, r.least));
      culprit = λ h. culprit-of s g e o;
      early = file-early s 0 g e;
    }

-- P holds of strict reading if it holds of the refusals of a text that is too long or not UTF-8, and of what the grammar reads, with a refusal
-- over its culprit
module _ (s : List ℕ) (P : Out → Type 0) (long : P (bad (nowhere TooLong))) (ill : (n : ℕ) → n < length s → P (bad (fault_at NotUtf8 n)))
    (read : Octets s → P (underlined s (file s 0))) where
  checked-by : (v : Result ⊤ IllFormed) → validity_of s ≡ v → P (checked s v)
  checked-by (Ok tt) e = read ((rfc3629.accepts s).0 e)
  checked-by (Err n) e = ill n.at ((rfc3629.refuses s n.at).0 e).inside

  pub strict-by : P (strict s)
  unfolding strict
  strict-by = by (leb (length s) most_bytes)
    where
      by : (b : Bool) → P (cond b (checked s (validity_of s)) (bad (nowhere TooLong)))
      by true = checked-by (validity_of s) refl
      by false = long

accepts : (s : List ℕ) (q : ℕ) (rs : List Row) → strict s ≡ ok q rs → Accepted s q rs
accepts s q rs =
    strict-by s (λ o. o ≡ ok q rs → Accepted s q rs)
    (λ e. cc) (λ n h e. let z : ◌≡◌ {A = ℕ} 0 1 = cc in absurd (omega arith))
    (λ o e. file-accepts s q rs o (underlined-ok s (file s 0) e))

-- a refusal with 1 or 2, before the grammar is asked
unread : (s : List ℕ) (reason : Reason) (p : ℕ) → (1 ≤ number_of reason) × (number_of reason ≤ 2) → p ≤ length s
    → Refusal s (fault_at reason p)
unread s reason p k h =
    record {
      number = (k.0, omega (arith, k.1));
      place = (omega arith, h);
      empty = λ x. refl;
      culprit = λ x. absurd (omega (arith, k.1));
      early = λ x. absurd (omega (arith, k.1));
    }

refuses : (s : List ℕ) (f : Fault) → strict s ≡ bad f → Refusal s f
refuses s f =
    strict-by s (λ o. o ≡ bad f → Refusal s f)
    (λ e. subst (Refusal s) (bad-is e) (unread s TooLong 0 (omega arith) (omega arith)))
    (λ n h e. subst (Refusal s) (bad-is e) (unread s NotUtf8 n (omega arith) (omega arith)))
    (λ o e. let g = underlined-bad s (file s 0) e in subst (Refusal s) g.2 (file-refuses s g.0 o g.1))

decides : (s : List ℕ) (q a : ℕ) (rs : List Row) → strict s ≡ again q rs a → ⊥
decides s q a rs =
    strict-by s (λ o. o ≡ again q rs a → ⊥)
    (λ e. let z : ◌≡◌ {A = ℕ} 0 1 = cc in omega arith) (λ n h e. let z : ◌≡◌ {A = ℕ} 0 1 = cc in omega arith)
    (λ o e. subst (Done s) (underlined-again s (file s 0) e) (file-done s 0))

pub strict-reading : Strict
strict-reading =
    record {
      turns = file-turn;
      ahead = item-ahead;
      entries = entry-same;
      whites = (from_start white-laws).core.kept.local;
      comments = (from_start comment-laws).core.kept.local;
      moves-white = λ a. ((from_start white-laws).shift a).moves;
      moves-turn = λ a. ((file-turn-laws {e = 0} {n = 0} 0).shift a).moves;
      moves = λ a. ((from_start file-laws).shift a).moves;
      accepts = accepts;
      refuses = refuses;
      decides = decides;
    }
