-- The row rules [01:Rows and their packing]: "the sequence is made of: 1, 2, 3, then per field 4, 5 and at least one of 6 or 7;
-- 8, 5 and at least one of 6 or 7; 0 alone; 9 then 10. Detail is 0, but in kind 10 a number from 2 to 10."
--     is_rows, clean       the row check; no damage
-- Assumes nothing.
use Rattle.std.specs.Prelude.{ℕ, Bool, true, false, cond, ◌&&◌, ◌||◌, List, [], ◌∷◌, eqb, leb}
use Rattle.row.specs.declared.form.Kind.{Kind}
use Rattle.row.specs.declared.form.Kind.TheVariants.{Preamble, Entry, EntryType, Key, FieldName, Value}
use Rattle.row.specs.declared.form.Kind.TheVariants.{Literal, Name, DefinitionName, Damage, Cause}
use Rattle.row.specs.Row.{Row, kind_of}

-- what may come next: a part of the sequence, or the end; an entry's type; its key; a value; its first literal or name; another
-- of these, or what `part` says; the cause of a damage; and nothing, where the rules are broken. The flag says that a field may
-- follow, since an entry stands before it
pub data Await : Type 0 where
  part : Bool → Await
  type : Await
  key : Await
  value : Bool → Await
  chunk : Bool → Await
  chunks : Bool → Await
  cause : Await
  wrong : Await

-- n is the number of the kind
abbrev pub is_kind : Kind → ℕ → Bool
is_kind k n = eqb n (kind_of k)

-- the one kind that may come
abbrev pub only : Kind → Await → ℕ → Await
only k a n = cond (is_kind k n) a wrong

-- a literal or a name, or what else may come
abbrev pub or_chunk : Bool → Await → ℕ → Await
or_chunk f a n = cond (is_kind Literal n || is_kind Name n) (chunks f) a

-- a part of the sequence begins, or the next field of an entry
abbrev pub begun : Bool → ℕ → Await
begun f n =
    cond (is_kind Entry n) type
    (cond (is_kind FieldName n && f) (value true)
    (cond (is_kind DefinitionName n) (value false)
    (cond (is_kind Preamble n) (part false)
    (only Damage cause n))))

-- after a row of kind n
unfoldable pub next : Await → ℕ → Await
next (part f) n = begun f n
next type n = only EntryType key n
next key n = only Key (part true) n
next (value f) n = only Value (chunk f) n
next (chunk f) n = or_chunk f wrong n
next (chunks f) n = or_chunk f (begun f n) n
next cause n = only Cause (part false) n
next wrong n = wrong

-- the details that a row of kind n may have
abbrev pub is_detail : ℕ → ℕ → Bool
is_detail n d = cond (is_kind Cause n) (leb 2 d && leb d 10) (eqb d 0)

unfoldable pub run : Await → List Row → Await
run a [] = a
run a (r ∷ rs) = run (cond (is_detail r.kind r.detail) (next a r.kind) wrong) rs

-- a part of the sequence is whole
abbrev pub whole : Await → Bool
whole (part f) = true
whole type = false
whole key = false
whole (value f) = false
whole (chunk f) = false
whole (chunks f) = true
whole cause = false
whole wrong = false

unfoldable pub is_rows : List Row → Bool
is_rows rs = whole (run (part false) rs)

-- none of the rows is a damage row
unfoldable pub clean : List Row → Bool
clean [] = true
clean (r ∷ rs) = cond (is_kind Damage r.kind) false (clean rs)
