-- A text that is formatted chunk by chunk is what `format_verbatim` makes of all chunks.
--     format-on, white-on       one chunk more is formatted behind the others
-- Assumes nothing.
use Rattle.std.proofs.Common.{ℕ, ◌≡◌, refl, sym, ap, ◌∙◌, Bool, List, [], ◌∷◌, ◌++◌, append_assoc, append-nil}
use Rattle.chunk.specs.Chunk.{Chunk}
use Rattle.chunk.specs.Format.{Written, format_one, format_from, white_from}

-- what a chunk is formatted as, where `prev_was_whitespace` is w
abbrev one : Bool → Chunk → Written
one w c = format_one w c.kind c.text

pub format-on : (cs : List Chunk) (w : Bool) (d : Chunk) → format_from w (cs ++ d ∷ []) ≡ format_from w cs ++ (one (white_from w cs) d).text
unfolding format_from white_from
format-on [] w d = append-nil (one w d).text
format-on (c ∷ cs) w d =
    let x = (one w c).white in
    ap (λ (t : List ℕ). (one w c).text ++ t) (format-on cs x d)
    ∙ sym (append_assoc (one w c).text (format_from x cs) (one (white_from x cs) d).text)

pub white-on : (cs : List Chunk) (w : Bool) (d : Chunk) → white_from w (cs ++ d ∷ []) ≡ (one (white_from w cs) d).white
unfolding white_from
white-on [] w d = refl
white-on (c ∷ cs) w d = white-on cs (one w c).white d
