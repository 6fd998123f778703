-- The laws of an entry. What follows an entry's type is given places of the text, and moves with them.
--     named, typed                an entry from behind its type on, and from its type on
--     entry_kept, entry-laws      an entry's own text decides what is read of it, because its last character closes it
-- Assumes nothing.
use Rattle.std.proofs.Common.{ℕ, suc, ◌+◌, arith, ◌≡◌, refl, sym, subst, List, ◌++◌, length}
use Rattle.row.specs.declared.form.Kind.TheVariants as kind
use Rattle.row.specs.Row.{plain}
use Rattle.row.specs.Rules as awaits
use Rattle.row.specs.Ruled.{Free}
use Rattle.raw.specs.declared.entry.Form.{Form}
use Rattle.raw.specs.declared.entry.Form.TheVariants.{Strings, Preambles, Comments, Other}
use Rattle.row.specs.declared.fault.Reason.TheVariants.{ExpectedClosingBrace}
use Rattle.raw.specs.Reader.{Out, bad, Reader, and_then, ◌then◌, put}
use Rattle.raw.specs.Grammar.{white, closing, ident, form_of, strings, preamble, commented, body, lead, rest, at_sign, entry}
use Rattle.raw.specs.Strict.{shifted}
use Rattle.raw.proofs.readers.Trace.{Reach, here, lays, joins, Traced, reach-on, trace-reach, reach-trace, joined, back-traced, chain-traced}
use Rattle.raw.proofs.readers.Trace.{lay-traced}
use Rattle.raw.proofs.readers.Kept.{Advances, Kept, stop-kept, refuse-kept, kept-weaker, when-kept}
use Rattle.raw.proofs.readers.Then.{more-none, chain-advances, chain-local, then-kept}
use Rattle.raw.proofs.readers.Shifts.{Shifts, put-shifts, chain-up, then-shifts, from-shifts}
use Rattle.raw.proofs.readers.Points.{Point, fewer, wider, chain-route, less-route}
use Rattle.raw.proofs.grammar.Early.{chain-early}
use Rattle.raw.proofs.grammar.RowOrder.{rules, awaiting, start, Is, part_free, entry-takes, type-takes}
use Rattle.raw.proofs.grammar.Laws.{Core, Laws, then-core, put-core, from-core, ◌then-laws◌, less-laws}
use Rattle.raw.proofs.grammar.Spells.{form-same, form-up}
use Rattle.raw.proofs.grammar.Rowless.{Rowless, rowless-ok, rowless-bad, rowless}
use Rattle.raw.proofs.grammar.Readers.{from_start, white-laws, closing-laws, at-sign-laws, ident-laws, lead-laws, strings-laws}
use Rattle.raw.proofs.grammar.Readers.{preamble-laws, commented-laws, body-laws}

-- ---- after an entry's type

-- two bytes eaten before pay for the rows of an entry and of its type
module _ {e n : ℕ} {α : Point rules} where
  strings-rest : Laws (awaiting e (suc (suc n)) Free) α (awaiting e n Free) (lead then strings)
  strings-rest = less-laws (lead-laws then-laws strings-laws) (fewer (omega arith))

  preamble-rest : Laws (awaiting e (suc (suc n)) Free) α (awaiting e n Free) (lead then preamble)
  preamble-rest = less-laws (lead-laws then-laws preamble-laws) (fewer (omega arith))

  commented-rest : Laws (awaiting e (suc (suc n)) Free) α (awaiting e n Free) (lead then commented)
  commented-rest = less-laws (lead-laws then-laws commented-laws) (fewer (omega arith))

  body-rest : Laws (awaiting e n (Is awaits.key)) α (awaiting e n Free) (lead then body)
  body-rest = less-laws (lead-laws then-laws body-laws) (wider (omega arith) part_free)

  rest-core : (form : Form) (p a b : ℕ) → Core (awaiting e (suc (suc n)) Free) α (awaiting e n Free) (rest form p a b)
  unfolding rest
  rest-core Strings p a b = strings-rest.core
  rest-core Preambles p a b = preamble-rest.core
  rest-core Comments p a b = commented-rest.core
  rest-core Other p a b = from-core entry-takes p (then-core (put-core type-takes a b) body-rest.core)

-- `body-rest` from some point, where it does not matter which
body-start : Laws (awaiting 0 0 (Is awaits.key)) start (awaiting 0 0 Free) (lead then body)
body-start = body-rest

rest-shifts : (x : List ℕ) (form : Form) (p a e : ℕ) → Shifts x (rest form p a e) (rest form (p + length x) (a + length x) (e + length x))
unfolding rest
rest-shifts x Strings p a e = (from_start strings-rest).shift x
rest-shifts x Preambles p a e = (from_start preamble-rest).shift x
rest-shifts x Comments p a e = (from_start commented-rest).shift x
rest-shifts x Other p a e = from-shifts (plain kind.Entry) p (then-shifts (put-shifts (plain kind.EntryType) a e) (body-start.shift x))

-- an entry that begins at p: what follows its type from a to e; and what follows its "@"
abbrev pub named : ℕ → ℕ → Reader
named p a s e = (rest (form_of s a e) p a e then white then closing) s e

abbrev pub typed : ℕ → Reader
typed p s a = and_then (ident s a) (named p a s)

-- ---- an entry answers the same on a text that shows the same up to its end, because its last character closes it

closing-kept : Kept 1 1 0 closing
unfolding closing
closing-kept = when-kept _ (stop-kept {v = 0}) (refuse-kept ExpectedClosingBrace) (omega arith)

end_kept : Kept 1 1 0 (white then closing)
end_kept = then-kept (from_start white-laws).core.kept closing-kept (omega arith)

close-kept : (form : Form) (p a e : ℕ) → Kept 1 1 0 (rest form p a e then white then closing)
close-kept form p a e = then-kept (rest-core {e = 0} {n = 0} {α = start} form p a e).kept end_kept (omega arith)

named-advances : (p a : ℕ) (s : List ℕ) (e : ℕ) → Advances 1 1 e (length s) (named p a s e)
named-advances p a s e = (close-kept (form_of s a e) p a e).advances s e

ident-kept : Kept 0 0 1 ident
ident-kept = (from_start ident-laws).core.kept

typed-kept : (p : ℕ) → Kept 1 1 0 (typed p)
typed-kept p =
    record {
      advances = λ s a. chain-advances ident-kept s a (named p a s) 1 1 1 1 (named-advances p a s) (omega arith, omega arith);
      local = λ s t a q h i e.
          chain-local ident-kept s a (named p a s) 1 1 0 t q (named p a t) (named-advances p a s)
          (λ r x y u.
          rw (form-same s t a r (λ j b c. e j b (omega arith)))
          ((close-kept (form_of s a r) p a r).local s t r q u i (λ j b c. e j (omega arith) c)))
          i e (omega arith, omega arith) h;
    }

pub entry_kept : Kept 1 1 0 entry
unfolding entry
entry_kept = record { advances = λ s p. (begun p).advances s p; local = λ s t p. (begun p).local s t p }
  where
    begun : (p : ℕ) → Kept 1 1 0 (at_sign then typed p)
    begun p = then-kept (from_start at-sign-laws).core.kept (typed-kept p) (omega arith)

-- ---- an entry moves with its text

named-up : (x s : List ℕ) (p a e : ℕ) → named (p + length x) (a + length x) (x ++ s) (e + length x) ≡ shifted (length x) (named p a s e)
named-up x s p a e =
    rw (form-up x s a e) ((then-shifts (rest-shifts x (form_of s a e) p a e) ((from_start (white-laws then-laws closing-laws)).shift x)).moves s e)

typed-shifts : (x : List ℕ) (p : ℕ) → Shifts x (typed p) (typed (p + length x))
typed-shifts x p =
    record {
      moves = λ s a.
          rw (((from_start ident-laws).shift x).moves s a)
          (chain-up (length x) (named p a s) (named (p + length x) (a + length x) (x ++ s)) (ident s a) (named-up x s p a));
    }

-- ---- the rows of an entry stand over it

rowless-chain : (s : List ℕ) (p a : ℕ) {o : Out} (g : ℕ → Out) → Rowless o → Traced s a o → Reach s p a
    → ((e : ℕ) → Reach s a e → Traced s p (g e)) → Traced s p (and_then o g)
rowless-chain s p a g (rowless-ok {q = e}) t x G = subst (Traced s p) (sym (more-none (g e))) (G e (trace-reach t))
rowless-chain s p a g (rowless-bad {f = f}) t x G = back-traced s p a (bad f) x t

module _ (s : List ℕ) (p a e : ℕ) (x : Reach s p a) (y : Reach s a e) where
  behind : {ω : Point rules} {f : Reader} → Laws start start ω f → Traced s p (f s e)
  behind {f = f} F = back-traced s p e (f s e) (reach-on x y) (F.traced s e)

  rest-traced : (form : Form) → Traced s p (rest form p a e s e)
  unfolding rest
  rest-traced Strings = behind strings-rest
  rest-traced Preambles = behind preamble-rest
  rest-traced Comments = behind commented-rest
  rest-traced Other =
      lay-traced s p (plain kind.Entry) ((put (plain kind.EntryType) a e then lead then body) s e) refl
      (joined ((lead then body) s e) (joins (reach-trace x) (lays (plain kind.EntryType) refl (reach-trace y))) (body-start.traced s e))

  named-traced : Traced s p (named p a s e)
  named-traced =
      chain-traced s p (rest (form_of s a e) p a e s e) ((white then closing) s) (rest-traced (form_of s a e))
      ((from_start (white-laws then-laws closing-laws)).traced s)

typed-traced : (s : List ℕ) (p a : ℕ) → Reach s p a → Traced s p (typed p s a)
typed-traced s p a x =
    rowless-chain s p a (named p a s) (rowless ident-laws s a) ((from_start ident-laws).traced s a) x (λ e y. named-traced s p a e x y)

-- ---- an entry

-- the "@", the type and the closing delimiter pay for the rows of an entry
pub entry-laws : {e n : ℕ} {α : Point rules} → Laws (awaiting e n Free) α (awaiting (suc e) n Free) entry
unfolding entry
entry-laws {e} {n} {α} =
    record {
      core = record {
        kept = kept-weaker entry_kept (omega arith);
        route = λ s p.
            less-route (fewer (omega arith))
            (chain-route (typed p s) (at-sign-laws.core.route s p)
            (λ a. chain-route (named p a s) (ident-laws.core.route s a) (λ b. (close p a b s).route s b)));
        early = λ s p.
            chain-early s (at_sign s p) (typed p s) ((from_start at-sign-laws).core.early s p)
            (λ a. chain-early s (ident s a) (named p a s) ((from_start ident-laws).core.early s a) (λ b. (close p a b s).early s b));
      };
      traced = λ s p.
          rowless-chain s p p (typed p s) (rowless at-sign-laws s p) ((from_start at-sign-laws).traced s p) here (typed-traced s p);
      shift = λ x. record {
        moves = λ s p.
            rw (((from_start at-sign-laws).shift x).moves s p)
            (chain-up (length x) (typed p s) (typed (p + length x) (x ++ s)) (at_sign s p) ((typed-shifts x p).moves s));
      };
    }
  where
    close : (p a b : ℕ) (s : List ℕ)
        → Core (awaiting (suc (suc e)) (suc (suc n)) Free) α (awaiting (suc (suc (suc e))) (suc n) Free)
        (rest (form_of s a b) p a b then white then closing)
    close p a b s = then-core (rest-core (form_of s a b) p a b) (white-laws then-laws closing-laws).core
