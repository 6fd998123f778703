-- The row rules by masks: a mask is a number with a bit for each kind that may come next. And what the functions of `mask` answer.
--     may_of, more_of, masks_of                  the masks of what is awaited by `Rules`
--     taken_of, after_of, step_of, ends_of       whether a row may come; the masks after it; whether the sequence may end
-- That the second follow the first is `masks-step` and `masks-whole` of specs/Ruled.antt.
-- Assumes nothing.
use Rattle.std.specs.Prelude.{ℕ, ◌/◌, ◌%◌, ◌^◌, Bool, true, false, cond, ◌&&◌, ◌||◌, eqb, ltb}
use Rattle.row.specs.declared.mask.Masks.{Masks}
use Rattle.row.specs.Rules.{Await, part, type, key, value, chunk, chunks, cause, wrong, is_detail}

-- ---- the rules' words as masks

-- a bit for each kind that may come
abbrev pub may_of : Await → ℕ
may_of (part false) = 0x303
may_of (part true) = 0x313
may_of type = 0x004
may_of key = 0x008
may_of (value f) = 0x020
may_of (chunk f) = 0x0C0
may_of (chunks false) = 0x3C3
may_of (chunks true) = 0x3D3
may_of cause = 0x400
may_of wrong = 0

-- a bit for each kind that may come after the next literal or name. A type and a key are an entry's, where a field may follow
abbrev pub more_of : Await → ℕ
more_of (part f) = may_of (chunks f)
more_of type = may_of (chunks true)
more_of key = may_of (chunks true)
more_of (value f) = may_of (chunks f)
more_of (chunk f) = may_of (chunks f)
more_of (chunks f) = may_of (chunks f)
more_of cause = may_of (chunks false)
more_of wrong = 0

abbrev pub masks : ℕ → ℕ → Masks
masks may more = record { 0 = may; 1 = more }

abbrev pub masks_of : Await → Masks
masks_of a = masks (may_of a) (more_of a)

-- ---- a row by masks

-- bit k of a mask
abbrev pub bit : ℕ → ℕ → Bool
bit m k = eqb (m / 2 ^ k % 2) 1

-- a row of kind k with detail d may come
unfoldable pub taken_of : ℕ → ℕ → ℕ → Bool
taken_of may k d = cond (eqb d 0) (cond (ltb k 10) (bit may k) false) (is_detail k d && eqb may 0x400)

-- the masks after a row of kind k that may come, where m is the mask of what may come after a literal or a name
unfoldable pub after_of : ℕ → ℕ → Masks
after_of m k =
    cond (eqb k 1) (masks 0x004 0x3D3)
    (cond (eqb k 2) (masks 0x008 0x3D3)
    (cond (eqb k 3) (masks 0x313 0x3D3)
    (cond (eqb k 4) (masks 0x020 0x3D3)
    (cond (eqb k 5) (masks 0x0C0 m)
    (cond (eqb k 6 || eqb k 7) (masks m m)
    (cond (eqb k 8) (masks 0x020 0x3C3)
    (cond (eqb k 9) (masks 0x400 0x3C3) (masks 0x303 0x3C3))))))))

unfoldable pub step_of : Masks → ℕ → ℕ → Masks
step_of m k d = cond (taken_of m.0 k d) (after_of m.1 k) (masks 0 0)

unfoldable pub ends_of : Masks → Bool
ends_of m = eqb (m.0 % 2) 1
