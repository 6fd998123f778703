-- The proof of specs/Comments.antt: `comments`.
-- Assumes nothing.
use Rattle.std.proofs.Common.{Option, Some, None, ℕ, zero, suc, ◌+◌, ◌≤◌, ◌<◌, arith, ◌≡◌, refl, sym, ap, ◌∙◌, subst, Bool, true, false, List, [], length, eqb, eqb-true}
use Rattle.std.proofs.Common.{ne_eqb}
use borrow.Author.Tests.{eqb-false}
use Rattle.text.specs.Class.{is_whitespace, is_id_start, is_id_continue, holds_of}
use Rattle.text.specs.Scan.{see, fails}
use Rattle.text.specs.declared.class.Test.TheVariants as test
use Rattle.text.proofs.Seeing.{seeing}
use Rattle.row.specs.declared.form.Kind.{Kind}
use Rattle.row.specs.declared.fault.Reason.TheVariants.{ExpectedComma, ExpectedIdentifier}
use Rattle.row.specs.Fault.{fault_at}
use Rattle.raw.specs.Reader.{Out, ok, again, bad, after, loop, many, scan_turn, scan}
use Rattle.raw.specs.Grammar.{white, ident, field, field_end, fields_turn, fields, commented}
use Rattle.raw.specs.Comments.{Unclosed, none, other, Closed, brace, end, Begins, Comments}
use Rattle.raw.proofs.readers.Then.{more-none, then-on}
use Rattle.raw.proofs.readers.Loop.{many-turn}
use Rattle.raw.proofs.readers.Scans.{scan-turn-kept}

-- ---- a scan, place by place

module _ (t : ℕ → Bool) (s : List ℕ) where
  abbrev scanned : ℕ → Out
  scanned p = scan t s p

  by_turn : (p : ℕ) {o : Out} → scan_turn t 0 s p ≡ o → scanned p ≡ after o (λ a q. many (scan_turn t) a s q)
  by_turn p h = many-turn (scan-turn-kept t) 0 s p ∙ ap (λ (o : Out). after o (λ a q. many (scan_turn t) a s q)) h

  scan-end : (p : ℕ) → see s p ≡ None → scanned p ≡ ok p []
  scan-end p z = by_turn p {o = ok p []} (rw z)

  scan-stop : (p c n : ℕ) → see s p ≡ Some (c, n) → t c ≡ false → scanned p ≡ ok p []
  scan-stop p c n z e = by_turn p {o = ok p []} (rw (z, e))

  scan-on : (p c n : ℕ) → see s p ≡ Some (c, n) → t c ≡ true → scanned p ≡ scanned n
  scan-on p c n z e = by_turn p {o = again n [] 0} (rw (z, e)) ∙ more-none (scanned n)

-- ---- `@comment`

module _ (s : List ℕ) where
  abbrev EndsClosed : ℕ → Out → Type 0
  EndsClosed p (ok q rs) = Unclosed s p q × Closed s q
  EndsClosed p (again q rs a) = ⊥
  EndsClosed p (bad f) = ⊥

  abbrev no-brace : ℕ → Bool
  no-brace = fails test.ClosingBrace

  brace-fails : (c : ℕ) → eqb c 0x7D ≡ true → no-brace c ≡ false
  unfolding holds_of
  brace-fails c e = rw e

  other-passes : (c : ℕ) → eqb c 0x7D ≡ false → no-brace c ≡ true
  unfolding holds_of
  other-passes c e = rw e

  ends_on : (p n : ℕ) (o : Out) → ((q : ℕ) → Unclosed s n q → Unclosed s p q) → EndsClosed n o → EndsClosed p o
  ends_on p n (ok q rs) f x = (f q x.0, x.1)
  ends_on p n (again q rs a) f x = x
  ends_on p n (bad j) f x = x

  ends-here : (p : ℕ) → ((n : ℕ) → p < n → EndsClosed n (scanned no-brace s n)) → EndsClosed p (scanned no-brace s p)
  ends-here p go = by (see s p) refl
    where
      by-test : (c n : ℕ) (b : Bool) → see s p ≡ Some (c, n) → eqb c 0x7D ≡ b → EndsClosed p (scanned no-brace s p)
      by-test c n true z e = rw (scan-stop no-brace s p c n z (brace-fails c e)) (none, brace (rw (eqb-true c 0x7D e) at z))
      by-test c n false z e =
          rw (scan-on no-brace s p c n z (other-passes c e))
          (ends_on p n (scanned no-brace s n) (λ q u. other z (eqb-false c 0x7D e) u) (go n (seeing.see-ahead s p c n z).0))

      by : (x : Option (ℕ × ℕ)) → see s p ≡ x → EndsClosed p (scanned no-brace s p)
      by None z = rw (scan-end no-brace s p z) (none, end z)
      by (Some (c, n)) z = by-test c n (eqb c 0x7D) z refl

  ends : (n p : ℕ) → length s ≤ p + n → EndsClosed p (scanned no-brace s p)
  ends zero p h = let z = seeing.see-end s p (omega arith) in rw (scan-end no-brace s p z) (none, end z)
  ends (suc n) p h = ends-here p (λ k l. ends n k (omega arith))

  -- the place that closes the comment, with no closing brace before it, is where the scan ends
  ended : {p q : ℕ} → Unclosed s p q → Closed s q → scanned no-brace s p ≡ ok q []
  ended {p} none (brace {n = n} z) = scan-stop no-brace s p 0x7D n z (brace-fails 0x7D refl)
  ended {p} none (end z) = scan-end no-brace s p z
  ended {p} (other {n = n} {x = x} z u h) k = scan-on no-brace s p x n z (other-passes x (ne_eqb x 0x7D u)) ∙ ended h k

-- ---- a second comment

module _ (s : List ℕ) (p q : ℕ) (b : Begins s p q) where
  second-value : field_end s p ≡ bad (fault_at ExpectedComma q)
  unfolding field_end
  second-value = then-on _ b.blank ∙ rw b.percent

  -- the text has not ended
  not-ended : see s p ≡ None → ⊥
  unfolding white
  not-ended z =
      let w : ok p [] ≡ ok q [] = sym (scan-end is_whitespace s p z) ∙ b.blank in
      let i : p ≡ q = cc in
      let y = sym z ∙ ap (see s) i ∙ b.percent in
      cc

  -- no name begins with a percent sign
  no_start : is_id_start 0x25 ≡ false
  unfolding is_id_start is_id_continue
  no_start = refl

  no_field : (k : Kind) → field k s q ≡ bad (fault_at ExpectedIdentifier q)
  unfolding field ident
  no_field k = rw (b.percent, no_start)

  no-turn : (k : Kind) → fields_turn k 0 s p ≡ bad (fault_at ExpectedIdentifier q)
  unfolding fields_turn
  no-turn k = by (see s p) refl
    where
      by : (x : Option (ℕ × ℕ)) → see s p ≡ x → fields_turn k 0 s p ≡ bad (fault_at ExpectedIdentifier q)
      by None z = absurd (not-ended z)
      by (Some (c, n)) z = rw z (then-on _ b.blank ∙ rw (b.percent, no_field k))

  second-comma : (k : Kind) → fields k s p ≡ bad (fault_at ExpectedIdentifier q)
  unfolding fields many loop
  second-comma k = rw (no-turn k)

pub comments : Comments
unfolding commented
comments =
    record {
      entry = λ s p q. (λ e. subst (EndsClosed s p) e (ends s (length s) p (omega arith)), λ h. ended s h.0 h.1);
      value = second-value;
      comma = λ k s p q b. second-comma s p q b k;
    }
