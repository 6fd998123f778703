-- What the writers write is UTF-8. The proof is `well-formed` of proofs/WellFormed.antt.
-- Assumes nothing.
use Rattle.std.specs.Prelude.{ℕ, ◌≡◌, Bool, List, [], ◌∷◌, ◌++◌, take, Ok}
use Rattle.text.specs.Utf8.{Octets}
use Rattle.chunk.specs.Chunk.{Chunk, chunks_of}
use Rattle.chunk.specs.Format.{format_verbatim, to_biblatex_string}
use Rattle.chunk.specs.Sentence.{format_sentence}
use Rattle.chunk.specs.Write.{checked_of, FormatVerbatim, ToBiblatexString, FormatSentence}

-- the text of each chunk is UTF-8
pub data TextsUtf8 : List Chunk → Type 0 where
  none : TextsUtf8 []
  next : {c : Chunk} {cs : List Chunk} → Octets c.text → TextsUtf8 cs → TextsUtf8 (c ∷ cs)

pub record WellFormed : Type 0 where
  -- chunks that pass the check have texts that are UTF-8
  pub checked : (t l : List ℕ) → checked_of t l ≡ Ok tt → TextsUtf8 (chunks_of t l)
  -- of chunks whose texts are UTF-8, the definitions make a text that is UTF-8
  pub formatted : (cs : List Chunk) → TextsUtf8 cs → Octets (format_verbatim cs)
  pub serialized : (verb : Bool) (cs : List Chunk) → TextsUtf8 cs → Octets (to_biblatex_string verb cs)
  pub sentenced : (cs : List Chunk) → TextsUtf8 cs → Octets (format_sentence cs)
  -- two lists of chunks whose texts are UTF-8, one behind the other, are such a list
  pub append : {cs ds : List Chunk} → TextsUtf8 cs → TextsUtf8 ds → TextsUtf8 (cs ++ ds)
  -- what a call has written is UTF-8
  pub formats : (t l b b' : List ℕ) (n : ℕ) → FormatVerbatim t l b (Ok n) b' → Octets (take n b')
  pub writes : (verb : Bool) (t l b b' : List ℕ) (n : ℕ) → ToBiblatexString verb t l b (Ok n) b' → Octets (take n b')
  pub sentences : (t l b b' : List ℕ) (n : ℕ) → FormatSentence t l b (Ok n) b' → Octets (take n b')
