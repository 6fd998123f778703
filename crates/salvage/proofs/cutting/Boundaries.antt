-- The first piece of a text and the rest, the boundaries of a text, and what strict reading opens there.
--     CutBetween, Front, front           the first piece of a text, and the rest
--     meet, parts                        a piece and the rest meet as in ReadingAcrossCut, and so do the two parts at a boundary
--     head-opens, head-fresh             a text that begins with "@" is `fresh`, and continues no character of the text before it
--     cut-boundary, boundary-shift       where two parts meet is a boundary; the boundaries of the second part are boundaries of the whole
--     opens-first, pass                  an entry is opened at a first "@"; what is opened behind an opened place is opened from there on
--     file-back, opens_back              what strict reading reads and opens in the second part of a text, it does in that part alone
-- Assumes nothing.
use Rattle.std.proofs.Common.{Option, Some, None, ℕ, zero, suc, ◌+◌, ◌≤◌, ◌<◌, arith, ◌≡◌, refl, sym, ap, ◌∙◌, subst, Bool, true, false, cond, ◌&&◌, List, [], ◌∷◌, ◌++◌}
use Rattle.std.proofs.Common.{append-nil, ◌⊎◌, inl, inr, length, get_or, drop, get_or-append-add, eqb-true}
use lib.Seq.{drop-append-add, drop-append_seam}
use Rattle.text.specs.Class.{white_space, is_whitespace}
use Rattle.text.specs.Scan.{see}
use Rattle.text.proofs.Seeing.{seeing}
use Rattle.text.proofs.general.Tests.{both_true, true-not-false}
use Rattle.std.proofs.lemmas.Option.{some_pair_parts}
use Rattle.text.specs.Seeing.{seen_up}
use Rattle.row.specs.Row.{Row, moved}
use Rattle.raw.specs.Reader.{Out, ok, again, bad}
use Rattle.raw.specs.Grammar.{white, file_turn, file}
use Rattle.raw.specs.Strict.{Fresh, shifted}
use Rattle.raw.proofs.Strict.{strict-reading}
use Rattle.salvage.specs.Salvage.{head, newline, Texts, push, cut}
use Rattle.salvage.specs.Demand3.{lined, fresh, Boundary, line, Opens, here, later}
use Rattle.salvage.proofs.cutting.ScanEnd.{scan-found, ok-place, white-found, white-scanned, white-stays}
use Rattle.salvage.proofs.cutting.TurnBeforeCut.{turn-white, item-ahead}
use Rattle.salvage.proofs.cutting.ReadingAcrossCut.{Meet, opens-from}

-- ---- the first piece

-- w is followed by nothing, or it ends in a newline and r begins with "@"
abbrev pub CutBetween : List ℕ → List ℕ → Type 0
CutBetween w r = (r ≡ []) ⊎ ((lined w ≡ true) × (head r ≡ true))

abbrev pub Front : ℕ → List ℕ → Type 0
Front b s = (xs : List ℕ) × (r : List ℕ) × (s ≡ xs ++ r) × (cut (b ∷ s) ≡ (b ∷ xs) ∷ cut r) × CutBetween (b ∷ xs) r

pub front : (b : ℕ) (s : List ℕ) → Front b s
unfolding cut lined
front b [] = ([], [], refl, by (newline b && head []), inl refl)
  where
    by : (x : Bool) → cond {A = Texts} x ((b ∷ []) ∷ []) ((b ∷ []) ∷ []) ≡ (b ∷ []) ∷ []
    by true = refl
    by false = refl
front b (c ∷ s) = by (newline b && head (c ∷ s)) refl (front c s)
  where
    by : (x : Bool) → newline b && head (c ∷ s) ≡ x → Front c s → Front b (c ∷ s)
    by true e f = ([], c ∷ s, refl, rw e, inr (both_true (newline b) (head (c ∷ s)) e))
    by false e f = (c ∷ f.0, f.1, ap (λ (l : List ℕ). c ∷ l) f.2, rw e (ap (push b) f.3), f.4)

-- ---- a place where two texts meet

-- the last byte of a text that ends in a newline, with another text behind it
last_byte : (b : ℕ) (xs r : List ℕ) (d : ℕ) → lined (b ∷ xs) ≡ true → get_or ((b ∷ xs) ++ r) (length xs) d ≡ 0x0A
unfolding lined
last_byte b [] r d h = eqb-true b 0x0A h
last_byte b (c ∷ xs) r d h = last_byte c xs r d h

-- a text that ends in a newline is another text and that newline
last-split : (b : ℕ) (xs : List ℕ) → lined (b ∷ xs) ≡ true → (ys : List ℕ) × (b ∷ xs ≡ ys ++ 0x0A ∷ []) × (length ys ≡ length xs)
unfolding lined
last-split b [] h = ([], ap (λ (c : ℕ). c ∷ []) (eqb-true b 0x0A h), refl)
last-split b (c ∷ xs) h = let z = last-split c xs h in (b ∷ z.0, ap (λ (l : List ℕ). b ∷ l) z.1, ap suc z.2)

head_byte : (r : List ℕ) (d : ℕ) → head r ≡ true → (get_or r 0 d ≡ 0x40) × (0 < length r)
unfolding head
head_byte [] d h = true-not-false _ h refl
head_byte (b ∷ r) d h = (eqb-true b 0x40 h, omega arith)

pub head-opens : (r : List ℕ) → head r ≡ true → fresh r ≡ true
unfolding fresh
head-opens [] h = refl
head-opens (b ∷ r) h = h

pub head-fresh : (r : List ℕ) → head r ≡ true → Fresh r
head-fresh r h = rw (head_byte r 256 h).0 refl

head-seen : (r : List ℕ) → head r ≡ true → see r 0 ≡ Some (0x40, 1)
head-seen r h =
    let y = head_byte r 0 h in
    seeing.see-ascii r 0 y.1 (rw y.0 (omega arith)) ∙ rw y.0 refl

newline-seen : (b : ℕ) (xs : List ℕ) → lined (b ∷ xs) ≡ true → see (b ∷ xs) (length xs) ≡ Some (0x0A, suc (length xs))
newline-seen b xs h =
    let y = sym (ap (λ (l : List ℕ). get_or l (length xs) 0) (append-nil (b ∷ xs))) ∙ last_byte b xs [] 0 h in
    seeing.see-ascii (b ∷ xs) (length xs) (omega arith) (rw y (omega arith)) ∙ rw y (ap (λ (n' : ℕ). Some (0x0A, n')) (omega arith))

newline-clear : (b : ℕ) (xs : List ℕ) → lined (b ∷ xs) ≡ true → (i c n : ℕ) → see (b ∷ xs) i ≡ Some (c, n) → i < length xs → n ≤ length xs
newline-clear b xs h i c n e l =
    let z = last-split b xs h in
    let f = seeing.see-front z.0 (0x0A ∷ []) i refl (omega (arith, z.2)) in
    let k : see z.0 i ≡ Some (c, n) = sym f ∙ sym (ap (λ (t : List ℕ). see t i) z.1) ∙ e in
    omega (arith, seeing.see-ahead z.0 i c n k, z.2)

pub meet : (b : ℕ) (xs r : List ℕ) → lined (b ∷ xs) ≡ true → head r ≡ true → Meet (b ∷ xs) r (length xs)
meet b xs r h k =
    let x : 0 + suc (length xs) ≡ suc (length xs) = omega arith in
    record {
      size = refl;
      newline = newline-seen b xs h;
      clear = newline-clear b xs h;
      begins = head-fresh r k;
      at =
          ap (see ((b ∷ xs) ++ r)) (sym x) ∙ seeing.see-up (b ∷ xs) r 0
          ∙ ap (seen_up (suc (length xs))) (head-seen r k) ∙ ap (λ (n' : ℕ). Some (0x40, n')) (omega arith);
    }

-- ---- boundaries

abbrev PartsAt : List ℕ → ℕ → Type 0
PartsAt s e = (b : ℕ) × (xs : List ℕ) × (r : List ℕ) × (s ≡ (b ∷ xs) ++ r) × (length xs ≡ e) × (lined (b ∷ xs) ≡ true) × (head r ≡ true)

pub parts : (s : List ℕ) (e : ℕ) → newline (get_or s e 256) ≡ true → head (drop (suc e) s) ≡ true → PartsAt s e
unfolding lined head
parts [] e h k = true-not-false _ k refl
parts (b ∷ s) zero h k = (b, [], s, refl, refl, h, k)
parts (b ∷ []) (suc e) h k = true-not-false _ h refl
parts (b ∷ c ∷ s) (suc e) h k =
    let f = parts (c ∷ s) e h k in
    (b, f.0 ∷ f.1, f.2, ap (λ (l : List ℕ). b ∷ l) f.3, ap suc f.4, f.5, f.6)

pub cut-boundary : (b : ℕ) (xs r : List ℕ) → lined (b ∷ xs) ≡ true → head r ≡ true → Boundary ((b ∷ xs) ++ r) (suc (length xs))
cut-boundary b xs r h k = line (length xs) (rw (last_byte b xs r 256 h) refl) (rw (drop-append_seam (b ∷ xs) r) k)

pub boundary-shift : (a r : List ℕ) (e : ℕ) → newline (get_or r e 256) ≡ true → head (drop (suc e) r) ≡ true → Boundary (a ++ r) (suc (e + length a))
boundary-shift a r e h k =
    let x : e + length a ≡ length a + e = omega arith in
    let y : suc (e + length a) ≡ length a + suc e = omega arith in
    line (e + length a) (rw (x, get_or-append-add a r e 256) h) (rw (y, drop-append-add a r (suc e)) k)

pub opens-first : (s : List ℕ) → head s ≡ true → Opens s 0 0
unfolding is_whitespace white_space
opens-first s h = let e = head-seen s h in here (white-stays s 0 (rw e refl)) e

-- ---- what is opened after a cut

again-place : {q r : ℕ} {rs ss : List Row} {a b : ℕ} → again q rs a ≡ again r ss b → q ≡ r
again-place e = cc

-- what is opened behind an opened place is opened from there on
pub pass : {s : List ℕ} {p m e : ℕ} → Opens s p m → Opens s p e → m < e → Opens s m e
pass {s} {p} {m} {e} (here w x) (here w' x') h = let z : m ≡ e = ok-place (sym w ∙ w') in absurd (omega arith)
pass {s} {p} {m} {e} (here w x) (later t o) h =
    let y : white s m ≡ ok m [] = white-stays s m (white-scanned s p m w).halts in
    later (turn-white s m m y ∙ sym (turn-white s p m w) ∙ t) o
pass {s} {p} {m} {e} (later {q = q} {a = a} {rs = rs} t o) (here w' x') h =
    let g = sym (turn-white s p e w') ∙ t in
    let j = item-ahead s e q a rs (white-scanned s p e w').halts g in
    let i : q ≤ m = opens-from o in
    absurd (omega arith)
pass {s} {p} {m} {e} (later t o) (later t' o') h =
    pass o (subst (λ (q : ℕ). Opens s q e) (again-place (sym t' ∙ t)) o') h

shifted-ok : (d q : ℕ) (rs : List Row) (o : Out) → shifted d o ≡ ok q rs
    → (r : ℕ) × (ss : List Row) × (o ≡ ok r ss) × (q ≡ r + d) × (rs ≡ moved d ss)
shifted-ok d q rs (ok r ss) e = (r, ss, refl, cc, cc)
shifted-ok d q rs (again r ss a) e = cc
shifted-ok d q rs (bad f) e = cc

shifted-again : (d q a : ℕ) (rs : List Row) (o : Out) → shifted d o ≡ again q rs a
    → (r : ℕ) × (ss : List Row) × (o ≡ again r ss a) × (q ≡ r + d)
shifted-again d q a rs (ok r ss) e = cc
shifted-again d q a rs (again r ss b) e = let z : b ≡ a = cc in (r, ss, ap (again r ss) z, cc)
shifted-again d q a rs (bad f) e = cc

seen_back : (d c n : ℕ) (x : Option (ℕ × ℕ)) → seen_up d x ≡ Some (c, n) → (m : ℕ) × (x ≡ Some (c, m))
seen_back d c n None e = cc
seen_back d c n (Some (k, m)) e = (m, ap (λ (i : ℕ). Some (i, m)) (some_pair_parts k c (m + d) n e).0)

pub file-back : (a s : List ℕ) (p q : ℕ) (rs : List Row) → file (a ++ s) (p + length a) ≡ ok q rs
    → (r : ℕ) × (ss : List Row) × (file s p ≡ ok r ss) × (q ≡ r + length a) × (rs ≡ moved (length a) ss)
file-back a s p q rs e = shifted-ok (length a) q rs (file s p) (sym (strict-reading.moves a s p) ∙ e)

pub opens_back : (a s : List ℕ) {i j : ℕ} (p e : ℕ) → Opens (a ++ s) i j → i ≡ p + length a → j ≡ e + length a → Opens s p e
unfolding moved
opens_back a s {i} {j} p e (here {n = n} w x) hi hj =
    let z = scan-found is_whitespace s p in
    let y = white-found s p z.0 z.1 in
    let v = ap (white (a ++ s)) hi ∙ strict-reading.moves-white a s p ∙ ap (shifted (length a)) y in
    let u : j ≡ z.0 + length a = ok-place (sym w ∙ v) in
    let t : z.0 ≡ e = omega arith in
    let k = seen_back (length a) 0x40 n (see s e) (sym (seeing.see-up a s e) ∙ ap (see (a ++ s)) (sym hj) ∙ x) in
    here (y ∙ ap (λ (m : ℕ). ok m []) t) k.1
opens_back a s {i} {j} p e (later {q = q} {a = b} {rs = rs} t o) hi hj =
    let y = sym (strict-reading.moves-turn a s p) ∙ ap (file_turn 0 (a ++ s)) (sym hi) ∙ t in
    let z = shifted-again (length a) q b rs (file_turn 0 s p) y in
    later z.2 (opens_back a s z.0 e o z.3 hj)
