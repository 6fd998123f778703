-- The list of commands, and the rows of bytes in which src/names.rt has it: for src/meaning.rt.
--     other, at_key                                 names of one octet: what they mean is computed from the list
--     compared                                      two ranges of bytes, compared by `==`
--     Going, is-here, missed, found, ended, room    the search, one row after another
-- Assumes nothing.
use Rattle.std.proofs.Common.{ℕ, suc, ◌+◌, ◌-◌, ◌≤◌, ◌<◌, min, arith, ◌≡◌, refl, sym, ap, ap₂, ◌∙◌, Bool, true, false}
use Rattle.std.proofs.Common.{cond, ◌&&◌, List, [], ◌∷◌, ◌++◌, append_assoc, length, get_or}
use Rattle.std.proofs.Common.{take, drop, length-drop, length-append, get_or-drop, drop-drop, eqb, eqb-true, ne_eqb}
use lib.Seq.{take-append_seam, drop-append_seam}
use borrow.Author.Tests.{eqb-false}
use Rattle.text.specs.Utf8.{octets}
use Rattle.text.specs.Class.{mark}
use Rattle.text.specs.Scan.{part}
use Rattle.command.specs.declared.meaning.Meaning.{Meaning}
use Rattle.command.specs.declared.meaning.Meaning.TheVariants.{Unknown}
use Rattle.text.specs.Strings.{utf8}
use Rattle.text.proofs.general.Parts.{part-head}
use Rattle.std.specs.Cmp.Lexicographic.{pointwise}
use Rattle.text.specs.SameBytes.{same_bytes}
use Rattle.text.proofs.general.SameBytes.{same_length}
use Rattle.text.proofs.general.Tests.{both_false}
use Rattle.command.specs.Commands.{CommandRow, commands, meaning_in, meaning_of}
use Rattle.command.specs.Names.{NameRow, code_of, decoded, flat, meaning_by, row_of, rows_of, long, names, SpanOf}
use Rattle.command.proofs.stacks.MoreParts.{part-empty}

-- ---- names of one octet

-- the rows whose names have n octets
unfoldable pub only : ℕ → List CommandRow → List CommandRow
only n [] = []
only n (r ∷ rs) = cond (eqb (length (utf8 r.name)) n) (r ∷ only n rs) (only n rs)

only-says : (cs : List CommandRow) (name : List ℕ) (n : ℕ) → length name ≡ n → meaning_in cs name ≡ meaning_in (only n cs) name
unfolding meaning_in only
only-says [] name n h = refl
only-says (r ∷ cs) name n h = by (eqb (length (utf8 r.name)) n) refl (only-says cs name n h)
  where
    by : (b : Bool) → eqb (length (utf8 r.name)) n ≡ b → meaning_in cs name ≡ meaning_in (only n cs) name
        → meaning_in (r ∷ cs) name ≡ meaning_in (cond b (r ∷ only n cs) (only n cs)) name
    by true e ih = ap (cond (same_bytes (utf8 r.name) name) r.means) ih
    by false e ih = rw (same_length (utf8 r.name) name (λ k. eqb-false _ _ e (k ∙ h))) ih

one-says : (b : ℕ) → meaning_of (b ∷ []) ≡ meaning_in (only 1 commands) (b ∷ [])
one-says b = only-says commands (b ∷ []) 1 refl

-- the first octets of names
unfoldable firsts : List CommandRow → List ℕ
firsts [] = []
firsts (r ∷ rs) = get_or (utf8 r.name) 0 0 ∷ firsts rs

none : (rs : List CommandRow) (b : ℕ) → mark (firsts rs) b ≡ false → Unknown ≡ meaning_in rs (b ∷ [])
unfolding meaning_in firsts same_bytes
none [] b h = refl
none (r ∷ rs) b h =
    let n = both_false (eqb b (get_or (utf8 r.name) 0 0)) (mark (firsts rs) b) h in
    rw (differs (utf8 r.name) n.0) (none rs b n.1)
  where
    differs : (t : List ℕ) → eqb b (get_or t 0 0) ≡ false → same_bytes t (b ∷ []) ≡ false
    differs [] e = refl
    differs (a ∷ t) e = rw (ne_eqb a b (λ k. eqb-false b a e (sym k)))

-- the octets that are names, in the order of the list
abbrev pub keys : List ℕ
keys =
    0x6C ∷ 0x4C ∷ 0x69 ∷ 0x6F ∷ 0x4F ∷ 0x50 ∷ 0x53 ∷
    0x60 ∷ 0x27 ∷ 0x5E ∷ 0x7E ∷ 0x3D ∷ 0x75 ∷ 0x2E ∷ 0x22 ∷ 0x72 ∷ 0x48 ∷ 0x76 ∷ 0x64 ∷ 0x63 ∷ 0x6B ∷ 0x62 ∷
    0x2D ∷ []

pub other : (b : ℕ) → mark keys b ≡ false → Unknown ≡ meaning_of (b ∷ [])
unfolding only firsts commands utf8 octets
other b h = none (only 1 commands) b h ∙ sym (one-says b)

pub at_key : (b k : ℕ) (m : Meaning) → b ≡ k → m ≡ meaning_in (only 1 commands) (k ∷ []) → m ≡ meaning_of (b ∷ [])
at_key b k m e h = h ∙ ap (λ (n : ℕ). meaning_in (only 1 commands) (n ∷ [])) (sym e) ∙ sym (one-says b)

-- ---- two ranges of bytes

pointwise-same : (a b : List ℕ) → pointwise eqb a b ≡ same_bytes a b
unfolding same_bytes
pointwise-same [] [] = refl
pointwise-same [] (y ∷ b) = refl
pointwise-same (x ∷ a) [] = refl
pointwise-same (x ∷ a) (y ∷ b) = ap (λ (w : Bool). eqb x y && w) (pointwise-same a b)

-- `==` of two slices is the comparison of the definition
pub compared : (t s : List ℕ) (i e a f : ℕ) {r : Bool} → e ≤ length t → f ≤ length s
    → r ≡ pointwise eqb (take (e - i) (drop i t)) (take (f - a) (drop a s)) → r ≡ same_bytes (part t i e) (part s a f)
compared t s i e a f l m h =
    h ∙ pointwise-same (take (e - i) (drop i t)) (take (f - a) (drop a s))
    ∙ ap₂ (λ (p q : ℕ). same_bytes (take (p - i) (drop i t)) (take (q - a) (drop a s))) (omega arith) (omega arith)

pub name-one : (s : List ℕ) (a e b : ℕ) → e - a ≡ 1 → e ≤ length s → b ≡ get_or s a 0 → b ∷ [] ≡ part s a e
name-one s a e b h l q =
    ap (λ (c : ℕ). c ∷ []) q
    ∙ sym (part-head s a e (omega arith) l ∙ ap (λ (t : List ℕ). get_or s a 0 ∷ t) (part-empty s (a + 1) e (omega arith)))

-- ---- the rows of bytes say what the list says

abbrev head : List Meaning → Meaning
head [] = Unknown
head (m ∷ ms) = m

abbrev rest : List Meaning → List Meaning
rest [] = []
rest (m ∷ ms) = ms

unfoldable told : List CommandRow → List Meaning
told [] = []
told (r ∷ rs) = decoded (code_of (row_of r).x (row_of r).y (row_of r).z) ∷ told rs

unfoldable meant : List CommandRow → List Meaning
meant [] = []
meant (r ∷ rs) = r.means ∷ meant rs

rows-say : (cs : List CommandRow) (name : List ℕ) → told cs ≡ meant cs → meaning_by (rows_of cs) name ≡ meaning_in cs name
unfolding told meant meaning_by rows_of meaning_in
rows-say [] name h = refl
rows-say (r ∷ cs) name h = ap₂ (cond (same_bytes (utf8 r.name) name)) (ap head h) (rows-say cs name (ap rest h))

long-says : (cs : List CommandRow) (name : List ℕ) → (length name ≡ 1 → ⊥) → meaning_in (long cs) name ≡ meaning_in cs name
unfolding meaning_in long
long-says [] name h = refl
long-says (r ∷ cs) name h = by (eqb (length (utf8 r.name)) 1) refl (long-says cs name h)
  where
    by : (b : Bool) → eqb (length (utf8 r.name)) 1 ≡ b → meaning_in (long cs) name ≡ meaning_in cs name
        → meaning_in (cond b (long cs) (r ∷ long cs)) name ≡ meaning_in (r ∷ cs) name
    by true e ih = rw (same_length (utf8 r.name) name (λ k. h (sym k ∙ eqb-true _ _ e))) ih
    by false e ih = ap (cond (same_bytes (utf8 r.name) name) r.means) ih

-- the one computed test: each row's three bytes stand for its meaning
all_told : told (long commands) ≡ meant (long commands)
unfolding told meant long commands utf8 octets decoded code_of
all_told = refl

names-say : (name : List ℕ) → (length name ≡ 1 → ⊥) → meaning_by (rows_of (long commands)) name ≡ meaning_of name
names-say name h = rows-say (long commands) name all_told ∙ long-says commands name h

-- ---- the search

-- the rows from byte i up to byte `to` say of the name what the list says
pub record Going (t name : List ℕ) (to i : ℕ) : Type 0 where
  pub rows : List NameRow
  pub order : i ≤ to
  pub inside : to ≤ length t
  pub here : drop i t ≡ flat rows ++ drop to t
  pub says : meaning_by rows name ≡ meaning_of name

pub going : (t name : List ℕ) (n from to : ℕ) → t ≡ names → length name ≡ n → (n ≡ 1 → ⊥) → SpanOf n from to → Going t name to from
going t name n from to e l h s = rw e (record {
  rows = s.rows;
  order = s.order;
  inside = s.inside;
  here = s.here;
  says = s.says name l ∙ names-say name (λ k. h (sym l ∙ k));
})

-- the row at i, and those behind it
pub record Here (t name : List ℕ) (to i : ℕ) : Type 0 where
  pub row : NameRow
  pub rows : List NameRow
  pub inside : to ≤ length t
  pub here : drop i t ≡ flat (row ∷ rows) ++ drop to t
  pub says : meaning_by (row ∷ rows) name ≡ meaning_of name

pub is-here : (t name : List ℕ) (to i : ℕ) → Going t name to i → i < to → Here t name to i
unfolding flat
is-here t name to i g l = by g.rows g.here g.says
  where
    by : (rs : List NameRow) → drop i t ≡ flat rs ++ drop to t → meaning_by rs name ≡ meaning_of name → Here t name to i
    by [] h s = absurd (omega (arith, ap length h, length-drop i t, length-drop to t, l, g.inside))
    by (r ∷ rs) h s = record { row = r; rows = rs; inside = g.inside; here = h; says = s }

module _ (t name : List ℕ) (to i : ℕ) (l : i < to) (g : Here t name to i) where
  abbrev k : ℕ
  k = length g.row.key

  abbrev behind : List ℕ
  behind = flat g.rows ++ drop to t

  abbrev bytes : List ℕ
  bytes = k ∷ g.row.x ∷ g.row.y ∷ g.row.z ∷ g.row.key ++ behind

  spelled : drop i t ≡ bytes
  unfolding flat
  spelled = g.here ∙ ap (λ (s : List ℕ). k ∷ g.row.x ∷ g.row.y ∷ g.row.z ∷ s) (append_assoc g.row.key (flat g.rows) (drop to t))

  at : (j : ℕ) → get_or t (i + j) 0 ≡ get_or bytes j 0
  at j = sym (get_or-drop i t j 0) ∙ ap (λ (s : List ℕ). get_or s j 0) spelled

  first : get_or t i 0 ≡ k
  first = ap (λ (n : ℕ). get_or t n 0) (omega arith) ∙ at 0

  row-x : get_or t (i + 1) 0 ≡ g.row.x
  row-x = at 1

  row-y : get_or t (i + 2) 0 ≡ g.row.y
  row-y = at 2

  row-z : get_or t (i + 3) 0 ≡ g.row.z
  row-z = at 3

  fits : i + 4 + k ≤ to
  fits =
      sum (length t) i to (length (drop i t)) k _ _ _ (length (drop to t)) l g.inside (length-drop i t) (length-drop to t) (ap length spelled)
      (length-append g.row.key behind) (length-append (flat g.rows) (drop to t))
    where
      sum : (n i to d k a b f r : ℕ) → i < to → to ≤ n → d ≡ n - i → r ≡ n - to → d ≡ suc (suc (suc (suc a))) → a ≡ k + b → b ≡ f + r → i + 4 + k ≤ to
      sum n i to d k a b f r o w p q u v x = omega arith

  named : drop (i + 4) t ≡ g.row.key ++ behind
  named = sym (drop-drop 4 i t) ∙ ap (drop 4) spelled

  key-at : part t (i + 4) (i + 4 + k) ≡ g.row.key
  key-at = ap (λ (n : ℕ). take n (drop (i + 4) t)) (least i k to (length t) fits g.inside) ∙ ap (take k) named ∙ take-append_seam g.row.key behind
    where
      least : (i k to n : ℕ) → i + 4 + k ≤ to → to ≤ n → min (i + 4 + k) n - (i + 4) ≡ k
      least i k to n h l = omega arith

  miss : same_bytes g.row.key name ≡ false → Going t name to (i + (4 + k))
  unfolding meaning_by
  miss e = record {
    rows = g.rows;
    order = omega (arith, fits);
    inside = g.inside;
    here = ap (λ (n : ℕ). drop n t) (regroup i k) ∙ sym (drop-drop k (i + 4) t) ∙ ap (drop k) named ∙ drop-append_seam g.row.key behind;
    says = sym (rw e refl) ∙ g.says;
  }
    where
      regroup : (i k : ℕ) → i + (4 + k) ≡ i + 4 + k
      regroup i k = omega arith

  -- the first byte m is the key's length, and b says whether the key is the name
  module _ (m : ℕ) (b : Bool) (e : m ≡ get_or t i 0) (h : b ≡ same_bytes (part t (i + 4) (i + 4 + m)) name) where
    key-same : same_bytes g.row.key name ≡ b
    key-same =
        sym (h ∙ ap (λ (p : ℕ). same_bytes (part t (i + 4) (i + 4 + p)) name) (e ∙ first)
        ∙ ap (λ (p : List ℕ). same_bytes p name) key-at)

    pub missed : b ≡ false → Going t name to (i + (4 + m))
    missed f = rw (e ∙ first) (miss (key-same ∙ f))

    pub found : b ≡ true → decoded (code_of (get_or t (i + 1) 0) (get_or t (i + 2) 0) (get_or t (i + 3) 0)) ≡ meaning_of name
    unfolding meaning_by
    found f = rw (row-x, row-y, row-z) (sym (rw (key-same ∙ f) refl) ∙ g.says)

pub ended : (t name : List ℕ) (to i : ℕ) → Going t name to i → to ≤ i → Unknown ≡ meaning_of name
unfolding flat meaning_by
ended t name to i g l = by g.rows g.here g.says
  where
    by : (rs : List NameRow) → drop i t ≡ flat rs ++ drop to t → meaning_by rs name ≡ meaning_of name → Unknown ≡ meaning_of name
    by [] h s = s
    by (r ∷ rs) h s =
        absurd (omega (arith, ap length h, length-drop i t, length-drop to t, length-append (r.key ++ flat rs) (drop to t), l, g.inside))

pub room : (t name : List ℕ) (to i m : ℕ) → Going t name to i → i < to → m ≡ get_or t i 0 → i + 4 + m ≤ length t
room t name to i m g l e = let h = is-here t name to i g l in omega (arith, fits t name to i l h, e, first t name to i l h, h.inside)
