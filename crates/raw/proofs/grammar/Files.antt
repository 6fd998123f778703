-- The laws of the file, and what they say of an accepted file's rows and of a refusal.
--     file-turn-laws, file-laws, file-turn-kept      the laws of a turn and of the file
--     file-rules, file-few        the rows pass the row rules, and are at most as many as the bytes
--     file-early                  where a file is refused with 3, no value begins
-- Assumes nothing.
use Rattle.std.proofs.Common.{Option, Some, None, ℕ, suc, ◌+◌, ◌≤◌, arith, ◌≡◌, refl, subst, Bool, true, false, cond, List, length}
use Rattle.text.specs.Class.{holds_of}
use Rattle.text.specs.Scan.{see, fails}
use Rattle.text.specs.declared.class.Test.TheVariants as test
use Rattle.row.specs.declared.fault.Fault.{Fault}
use Rattle.row.specs.Fault.{number_of}
use Rattle.row.specs.Row.{Row}
use Rattle.row.specs.Rules.{part, is_rows}
use Rattle.row.specs.Ruled.{Free, none}
use Rattle.row.proofs.Ruled.{ruled}
use Rattle.raw.specs.Reader.{ok, bad, Reader, and_then, eaten, ◌then◌, when, sees, turn, scan}
use Rattle.raw.specs.Grammar.{is, any, comment, file_turn, file}
use Rattle.raw.specs.Strict.{begins_value}
use Rattle.raw.proofs.readers.Kept.{Kept}
use Rattle.raw.proofs.readers.Points.{Point, Route, RouteOut, done, same, past}
use Rattle.raw.proofs.grammar.Early.{EarlyOut}
use Rattle.raw.proofs.grammar.RowOrder.{rules, awaiting, start}
use Rattle.raw.proofs.grammar.Laws.{Laws, going, stop-laws, turn-laws, when-laws, sees-laws, ◌then-laws◌, many-laws, scan-laws, same-laws}
use Rattle.raw.proofs.grammar.Entries.{entry-laws}
use Rattle.raw.proofs.grammar.Readers.{from_start, white-laws}

-- ---- the laws

-- a reader that eats a character of class c, if one stands there, eats it where one is seen
seen-eaten : (c : ℕ → Bool) (f g h k : Reader) (s : List ℕ) (p : ℕ) → when c (f then h) k s p ≡ sees c (when c f g then h) k s p
seen-eaten c f g h k s p = by (see s p)
  where
    by : (x : Option (ℕ × ℕ)) → eaten c x (λ n. and_then (f s n) (h s)) (k s p) ≡ eaten c x (λ n. and_then (eaten c x (f s) (g s p)) (h s)) (k s p)
    by None = refl
    by (Some (d, n)) = on (c d)
      where
        on : (b : Bool) → cond b (and_then (f s n) (h s)) (k s p) ≡ cond b (and_then (cond b (f s n) (g s p)) (h s)) (k s p)
        on true = refl
        on false = refl

module _ {e n : ℕ} where
  -- a comment that stands at its "%" eats it
  comment-turn-laws : {ω : Point rules} {k : Reader} → Laws (awaiting e n Free) (awaiting (suc e) n Free) ω k
      → Laws (awaiting e n Free) (awaiting (suc e) n Free) ω (sees (holds_of test.Percent) (comment then turn 0) k)
  unfolding comment
  comment-turn-laws {k = k} K =
      same-laws _ (when-laws (holds_of test.Percent) (scan-laws (fails test.Newline) then-laws turn-laws 0 past) K)
      (seen-eaten (holds_of test.Percent) (scan (fails test.Newline)) _ (turn 0) k)

  pub file-turn-laws : (a : ℕ) → Laws (awaiting e n Free) (awaiting (suc e) n Free) (awaiting e n Free) (file_turn a)
  unfolding file_turn
  file-turn-laws a =
      white-laws then-laws
      sees-laws (is 0x40) (entry-laws then-laws turn-laws 0 same)
      (comment-turn-laws (when-laws any (turn-laws 0 past) stop-laws))

  pub file-laws : {α : Point rules} → Laws (awaiting e n Free) α (awaiting e n Free) file
  unfolding file
  file-laws = many-laws file-turn-laws 0

pub file-turn-kept : (a : ℕ) → Kept 1 0 1 (file_turn a)
file-turn-kept a = going (file-turn-laws {e = 0} {n = 0} a)

-- ---- the rows of an accepted file, and the place of a refusal

module _ (s : List ℕ) (p q : ℕ) (rs : List Row) (e : file s p ≡ ok q rs) where
  file-route : Route (awaiting 0 0 Free) (awaiting 0 0 Free) p q rs
  file-route = by (subst (RouteOut _ start _ p) e (file-laws.core.route s p))
    where
      by : RouteOut (awaiting 0 0 Free) start (awaiting 0 0 Free) p (ok q rs) → Route (awaiting 0 0 Free) (awaiting 0 0 Free) p q rs
      by (done x) = x

  -- the rows pass the row rules
  pub file-rules : is_rows rs ≡ true
  unfolding is_rows
  file-rules = ruled.free-whole _ (file-route.follows (part false) (none false))

  -- the rows are at most as many as the bytes
  pub file-few : length rs + p ≤ q
  file-few = omega (arith, file-route.pays)

pub file-early : (s : List ℕ) (p : ℕ) (f : Fault) → file s p ≡ bad f → number_of f.reason ≡ 3 → begins_value (see s f.start) ≡ false
file-early s p f e = subst (EarlyOut s) e ((from_start file-laws).core.early s p)
