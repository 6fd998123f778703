-- The proof of specs/Composition.antt: `composition`.
-- Assumes nothing.
use Rattle.std.specs.Prelude.{Some}
use Prim.Native.Nat.{ℕ}
use native.Mathlib.Omega.{arith}
use mathlib.Core.Path.{◌≡◌, refl, sym, subst}
use mathlib.Core.Bool.{Bool, true, false, cond, ◌&&◌}
use mathlib.Core.List.Memᴰ
use mathlib.Core.List.{List, [], ◌∷◌, Memᴰ}
use lib.Dec.{eqb}
use borrow.Author.Tests.{eqb-true, eq-eqb}
use Rattle.text.proofs.general.Lists.{every-mem}
use Rattle.text.specs.Every.{every}
use Rattle.compose.specs.Lookup.{Composite, ◌with◌is◌, lookup, rises_from, rises}
use Rattle.compose.specs.Composites.{composites}
use Rattle.compose.specs.Composition.{marks, is_among, Composition}
use Rattle.compose.proofs.lists.Rows.{not-has-low, rises-rest, above}
use Rattle.compose.proofs.lists.Halving.{by-halving}

-- ---- the computed tests

rising : rises composites ≡ true
unfolding composites rises rises_from
rising = refl

sixteen : every (λ r. is_among marks r.mark) composites ≡ true
unfolding composites every is_among marks
sixteen = refl

-- ---- any list

-- what is found is in the list
listed : (rs : List Composite) (l m c : ℕ) → lookup rs l m ≡ Some c → Memᴰ (l with m is c) rs
unfolding lookup
listed [] l m c e = let z : ◌≡◌ {A = ℕ} 0 1 = cc in absurd (omega arith)
listed (r ∷ rs) l m c e = by (eqb r.letter l) (eqb r.mark m) refl refl e (listed rs l m c)
  where
    later : lookup rs l m ≡ Some c → (lookup rs l m ≡ Some c → Memᴰ (l with m is c) rs) → Memᴰ (l with m is c) (r ∷ rs)
    later e on = Memᴰ.tail (on e)

    by : (x y : Bool) → eqb r.letter l ≡ x → eqb r.mark m ≡ y → cond (x && y) (Some r.char) (lookup rs l m) ≡ Some c
        → (lookup rs l m ≡ Some c → Memᴰ (l with m is c) rs) → Memᴰ (l with m is c) (r ∷ rs)
    by true true p q e on =
        let a = eqb-true r.letter l p in
        let b = eqb-true r.mark m q in
        let d : r.char ≡ c = cc in
        Memᴰ.head {x = r} (sym (rw (a, b, d)))
    by true false p q e on = later e on
    by false y p q e on = later e on

-- what is in a list that rises is found
finds : (rs : List Composite) → rises rs ≡ true → (l m c : ℕ) → Memᴰ (l with m is c) rs → lookup rs l m ≡ Some c
unfolding lookup rises
finds [] e l m c h = absurd (Memᴰ.not-nil h)
finds (r ∷ rs) e l m c (Memᴰ.head q) =
    subst (λ (r : Composite). lookup (r ∷ rs) l m ≡ Some c) q (rw (eq-eqb l l refl, eq-eqb m m refl))
finds (r ∷ rs) e l m c (Memᴰ.tail d) =
    rw (not-has-low r l m (above r rs e (l with m is c) d)) (finds rs (rises-rest r rs e) l m c d)

pub composition : Composition
composition = record {
  rising = rising;
  sixteen = sixteen;
  listed = listed composites;
  finds = finds composites rising;
  each = λ p e l m c f. every-mem p composites e (listed composites l m c f);
  by-halving = λ l m. by-halving l m composites rising;
}
