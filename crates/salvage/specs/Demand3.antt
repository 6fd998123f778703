-- Demand 3: one author's damaged file never costs another's entry. The proof is `demand3` of proofs/Demand3.antt.
-- Assumes nothing.
use Rattle.std.specs.Prelude.{ℕ, suc, ◌+◌, ◌/◌, ◌*◌, ◌≤◌, ◌<◌, ◌≡◌, ◌↔◌, Bool, true, false, List, [], ◌∷◌, ◌++◌, length, get_or, drop, Some, Result, Ok}
use Rattle.text.specs.Scan.{see}
use Rattle.row.specs.declared.fault.Fault.{Fault}
use Rattle.row.specs.Fault.{number_of}
use Rattle.row.specs.Row.{Row, row_of, moved, flat}
use Rattle.row.specs.Spans.{SpansIn}
use Rattle.raw.specs.Reader.{ok, again, bad}
use Rattle.raw.specs.Grammar.{white, file_turn}
use Rattle.row.specs.Limits.{most_bytes}
use Rattle.raw.specs.Read.{strict}
use Rattle.row.specs.Rules.{is_rows, clean}
use Rattle.raw.specs.Strict.{Rising, Refusal}
use Rattle.salvage.specs.Salvage.{head, newline, Texts, cut, told, pieces, salvage_of, Salvage}

-- ---- the words

-- the text is empty or ends in a newline
unfoldable pub lined : List ℕ → Bool
lined [] = true
lined (b ∷ []) = newline b
lined (b ∷ c ∷ s) = lined (c ∷ s)

-- the text is empty or begins with "@"
unfoldable pub fresh : List ℕ → Bool
fresh [] = true
fresh (b ∷ s) = head (b ∷ s)

-- the answer is the number of the rows, which stand in front of what was lent
pub record Holds (rs : List Row) (b : List ℕ) (r : Result ℕ Fault) (b' : List ℕ) : Type 0 where
  pub answer : r ≡ Ok (length rs)
  pub rows : b' ≡ flat rs ++ drop (length rs * 4) b

-- the bytes of texts, joined
unfoldable pub joined : Texts → List ℕ
joined [] = []
joined (w ∷ ws) = w ++ joined ws

-- a cause is the refusal of the piece w by itself, with a number from 2 to 10: [02:2] "in strict reading and cause rows alike", 3 to 10 are over
-- their culprit in the piece, and stay empty at its end
pub record CauseOf (w : List ℕ) (f : Fault) : Type 0 where
  pub least : 2 ≤ number_of f.reason
  pub refusal : Refusal w f

-- what the piece w of a file gives, which stands behind the pieces ws and before the pieces vs
pub record PieceGives (s : List ℕ) (ws : Texts) (w : List ℕ) (vs : Texts) : Type 0 where
  -- its rows stand between those of the others, at its place
  pub rows : salvage_of s ≡ pieces 0 ws ++ (moved (length (joined ws)) (told w (strict w)) ++ pieces (length (joined ws) + length w) vs)
  -- they are those of strict reading
  pub accepted : (q : ℕ) (rs : List Row) → strict w ≡ ok q rs → told w (strict w) ≡ rs
  -- or, exactly if strict reading refuses, a damage row over the piece, 9, and its cause, 10, with the number and the place of the refusal
  pub refused : (f : Fault) → strict w ≡ bad f →
      (told w (strict w) ≡ row_of 9 0 0 (length w) ∷ row_of 10 (number_of f.reason) f.start f.end ∷ []) × CauseOf w f
  pub exactly : (clean (told w (strict w)) ≡ false) ↔ ((f : Fault) × (strict w ≡ bad f))

-- an "@" that is the first byte, or follows a newline
pub data Boundary (s : List ℕ) : ℕ → Type 0 where
  first : head s ≡ true → Boundary s 0
  line : (e : ℕ) → newline (get_or s e 256) ≡ true → head (drop (suc e) s) ≡ true → Boundary s (suc e)

-- strict reading, from p on, opens an entry at e: its "@" stands after the white space at p, or is opened after one more turn
pub data Opens (s : List ℕ) : ℕ → ℕ → Type 0 where
  here : {p e n : ℕ} → white s p ≡ ok e [] → see s e ≡ Some (0x40, n) → Opens s p e
  later : {p q e a : ℕ} {rs : List Row} → file_turn 0 s p ≡ again q rs a → Opens s q e → Opens s p e

-- strict reading accepts the whole file, with these rows, and every boundary opens one of its entries
pub record Whole (s : List ℕ) (rs : List Row) : Type 0 where
  pub accepts : strict s ≡ ok (length s) rs
  pub opens : (e : ℕ) → Boundary s e → Opens s 0 e

-- ---- the demand, sentence by sentence

pub record Demand3 : Type 0 where
  -- "Salvage cuts a file before each "@" that is its first byte or follows a newline."
  -- The pieces make up the file; those after the first begin at boundaries, and at each boundary one begins.
  pub whole : (s : List ℕ) → joined (cut s) ≡ s
  pub begins : (s : List ℕ) (ws : Texts) (w : List ℕ) (vs : Texts) → cut s ≡ ws ++ w ∷ vs → 0 < length (joined ws) → Boundary s (length (joined ws))
  pub cuts : (s : List ℕ) (n : ℕ) → Boundary s n → 0 < n → (ws : Texts) × (vs : Texts) × (cut s ≡ ws ++ vs) × (length (joined ws) ≡ n)
  -- "Let P be empty or end in a newline, let S be empty or begin with "@", with length and rows enough for both. Salvaging P followed by S
  -- gives P's rows, then S's rows moved by P's length, however damaged P is."
  -- Of the definition, and of the call: here P is a, and S is s.
  pub parts : (a s : List ℕ) → lined a ≡ true → fresh s ≡ true → salvage_of (a ++ s) ≡ salvage_of a ++ moved (length a) (salvage_of s)
  pub calls : (a s x y b x' y' b' : List ℕ) (m n : ℕ) (r : Result ℕ Fault)
      → lined a ≡ true → fresh s ≡ true → length (a ++ s) ≤ most_bytes → m + n ≤ length b / 4
      → Salvage a x (Ok m) x' → Salvage s y (Ok n) y' → Salvage (a ++ s) b r b'
      → (rs : List Row) × (ss : List Row) × Holds rs x (Ok m) x' × Holds ss y (Ok n) y' × Holds (rs ++ moved (length a) ss) b r b'
  -- "Each piece gives the strict rows of that piece alone, at their places in the file, or, exactly if strict reading refuses it, a damage row
  -- and its cause."
  pub each : (s : List ℕ) (ws : Texts) (w : List ℕ) (vs : Texts) → length s ≤ most_bytes → cut s ≡ ws ++ w ∷ vs → PieceGives s ws w vs
  -- "Where salvage does not refuse, no damage shows exactly if strict reading accepts the whole file and every such "@" opens one of its
  -- entries, strings, preambles and comments counted; the rows are then those of strict reading."
  -- Of the definition, and of the call, which leaves rows rs in front of what was lent.
  pub undamaged : (s : List ℕ) → length s ≤ most_bytes → (clean (salvage_of s) ≡ true) ↔ ((rs : List Row) × Whole s rs)
  pub strictly : (s : List ℕ) (rs : List Row) → Whole s rs → salvage_of s ≡ rs
  pub shows : (s b b' : List ℕ) (n : ℕ) → Salvage s b (Ok n) b'
      → (rs : List Row) × Holds rs b (Ok n) b' × ((clean rs ≡ true) ↔ ((ss : List Row) × Whole s ss)) × ((ss : List Row) → Whole s ss → rs ≡ ss)
  -- Besides: the rows pass the row check, their starts never fall, and their spans lie in the file
  pub checked : (s : List ℕ) → length s ≤ most_bytes → is_rows (salvage_of s) ≡ true
  pub rising : (s : List ℕ) → Rising 0 (salvage_of s)
  pub inside : (s : List ℕ) → SpansIn (length s) (salvage_of s)
  -- Besides: the rows are at most one more than the bytes
  pub few : (s : List ℕ) → length (salvage_of s) ≤ suc (length s)
