-- Each exported contract allows one outcome only: one status, and one content of all that was lent. This is said of the contract as the
-- check reads it off the source, so that a contract which said less would fail here.
-- Assumes nothing.
use Rattle.std.specs.Prelude.{Result}
use Rattle.row.specs.declared.fault.Fault.{Fault}
use Prim.Native.Nat.{ℕ}
use mathlib.Core.Path.{◌≡◌, sym, ◌∙◌}
use mathlib.Core.List.{List}
use borrow.Fn.Kinds.{Out}
use Rattle.text.proofs.general.Outcomes.{Both}
use Rattle.resolve.specs.Resolves.{Value}
use Rattle.whole.specs.WholeFile.{All}
use Rattle.bib.specs.Export.{Exported, ExportedResolving, ExportedFile}
use Rattle.bib.proofs.bib_read.Kinds as read-kinds
use Rattle.bib.proofs.bib_read.Reads as read
use Rattle.bib.proofs.bib_salvage.Reads as salvage
use Rattle.bib.proofs.bib_pack.Kinds as pack-kinds
use Rattle.bib.proofs.bib_pack.Reads as pack
use Rattle.bib.proofs.bib_unpack.Reads as unpack
use Rattle.bib.proofs.bib_format_verbatim.Kinds as format-verbatim-kinds
use Rattle.bib.proofs.bib_format_verbatim.Reads as format-verbatim
use Rattle.bib.proofs.bib_format_sentence.Kinds as format-sentence-kinds
use Rattle.bib.proofs.bib_format_sentence.Reads as format-sentence
use Rattle.bib.proofs.bib_to_biblatex_string.Kinds as to-biblatex-string-kinds
use Rattle.bib.proofs.bib_to_biblatex_string.Reads as to-biblatex-string
use Rattle.bib.proofs.bib_resolve_literal.Kinds as resolve-literal-kinds
use Rattle.bib.proofs.bib_resolve_literal.Reads as resolve-literal
use Rattle.bib.proofs.bib_resolve_field.Kinds as resolve-field-kinds
use Rattle.bib.proofs.bib_resolve_field.Reads as resolve-field
use Rattle.bib.proofs.bib_resolve_file.Kinds as resolve-file-kinds
use Rattle.bib.proofs.bib_resolve_file.Reads as resolve-file

-- the same status, count, start, end, and rows or bytes
pub record SameCall (r r' n n' x x' y y' : ℕ) (b b' : List ℕ) : Type 0 where
  pub status : r ≡ r'
  pub count : n ≡ n'
  pub start : x ≡ x'
  pub end : y ≡ y'
  pub left : b ≡ b'

same-call : {o : Result ℕ Fault} {l b b' : List ℕ} {r r' n n' x x' y y' : ℕ}
    → Exported o l r n x y b → Exported o l r' n' x' y' b' → SameCall r r' n n' x x' y y' b b'
same-call p q =
    record {
      status = p.told.status ∙ sym q.told.status;
      count = p.told.number ∙ sym q.told.number;
      start = p.told.from ∙ sym q.told.from;
      end = p.told.to ∙ sym q.told.to;
      left = p.left ∙ sym q.left;
    }

-- one outcome of a call from bytes to rows
abbrev OneReading : Out 5 read-kinds.ps read-kinds.r → Type 0
OneReading allowed =
    Both 5 read-kinds.ps read-kinds.r allowed
    (λ κs r s r' t.
    let a = s.1.1 in
    let b = t.1.1 in
    SameCall r r' a.0.now b.0.now a.1.0.now b.1.0.now a.1.1.0.now b.1.1.0.now s.1.0.now t.1.0.now)

pub one-bib-read : OneReading read.Post
one-bib-read κs a x y s t p q = same-call p q

pub one-bib-salvage : OneReading salvage.Post
one-bib-salvage κs a x y s t p q = same-call p q

pub one-bib-unpack : OneReading unpack.Post
one-bib-unpack κs a x y s t p q = same-call p q

-- one outcome of the call from rows to bytes
abbrev OnePacking : Out 5 pack-kinds.ps pack-kinds.r → Type 0
OnePacking allowed =
    Both 5 pack-kinds.ps pack-kinds.r allowed
    (λ κs r s r' t.
    let a = s.1.1 in
    let b = t.1.1 in
    SameCall r r' a.0.now b.0.now a.1.0.now b.1.0.now a.1.1.0.now b.1.1.0.now s.1.0.now t.1.0.now)

pub one-bib-pack : OnePacking pack.Post
one-bib-pack κs a x y s t p q = same-call p q

-- one outcome of each writer; its lent bytes are the third parameter, or the fourth where a flag comes before
pub one-bib-format-verbatim : Both 6 format-verbatim-kinds.ps format-verbatim-kinds.r format-verbatim.Post
    (λ κs r s r' t.
    let a = s.1.1 in
    let b = t.1.1 in
    let n = a.1 in
    let m = b.1 in
    SameCall r r' n.0.now m.0.now n.1.0.now m.1.0.now n.1.1.0.now m.1.1.0.now a.0.now b.0.now)
one-bib-format-verbatim κs a x y s t p q = same-call p q

pub one-bib-format-sentence : Both 6 format-sentence-kinds.ps format-sentence-kinds.r format-sentence.Post
    (λ κs r s r' t.
    let a = s.1.1 in
    let b = t.1.1 in
    let n = a.1 in
    let m = b.1 in
    SameCall r r' n.0.now m.0.now n.1.0.now m.1.0.now n.1.1.0.now m.1.1.0.now a.0.now b.0.now)
one-bib-format-sentence κs a x y s t p q = same-call p q

pub one-bib-to-biblatex-string : Both 6 to-biblatex-string-kinds.ps to-biblatex-string-kinds.r to-biblatex-string.Post
    (λ κs r s r' t.
    let a = s.1.1.1 in
    let b = t.1.1.1 in
    let n = a.1 in
    let m = b.1 in
    SameCall r r' n.0.now m.0.now n.1.0.now m.1.0.now n.1.1.0.now m.1.1.0.now a.0.now b.0.now)
one-bib-to-biblatex-string κs a x y s t p q = same-call p q

-- of the calls that resolve: the same status, rows, bytes, names, start and end, and scratch, numbers and text
pub record SameResolving (r r' k k' n n' m m' x x' y y' : ℕ) (w w' b b' t t' : List ℕ) : Type 0 where
  pub status : r ≡ r'
  pub rows : k ≡ k'
  pub bytes : n ≡ n'
  pub names : m ≡ m'
  pub start : x ≡ x'
  pub end : y ≡ y'
  pub scratch : w ≡ w'
  pub numbers : b ≡ b'
  pub text : t ≡ t'

same-resolving : {value : Value} {w₀ b₀ t₀ w w' b b' t t' : List ℕ} {r r' k k' n n' m m' x x' y y' : ℕ}
    → ExportedResolving value w₀ b₀ t₀ r k n m x y w b t → ExportedResolving value w₀ b₀ t₀ r' k' n' m' x' y' w' b' t'
    → SameResolving r r' k k' n n' m m' x x' y y' w w' b b' t t'
same-resolving p q =
    record {
      status = p.answer.told.status ∙ sym q.answer.told.status;
      rows = p.answer.told.number ∙ sym q.answer.told.number;
      bytes = p.answer.text ∙ sym q.answer.text;
      names = p.answer.resolved ∙ sym q.answer.resolved;
      start = p.answer.told.from ∙ sym q.answer.told.from;
      end = p.answer.told.to ∙ sym q.answer.told.to;
      scratch = p.scratch ∙ sym q.scratch;
      numbers = p.rows ∙ sym q.rows;
      text = p.text ∙ sym q.text;
    }

-- the scratch comes fifth, then the numbers and the text, and then the five that tell the answer
pub one-bib-resolve-literal : Both 9 resolve-literal-kinds.ps resolve-literal-kinds.r resolve-literal.Post
    (λ κs r s r' t.
    let a = s.1.1.1.1 in
    let b = t.1.1.1.1 in
    let n = a.1.1.1 in
    let m = b.1.1.1 in
    SameResolving r r' n.0.now m.0.now n.1.0.now m.1.0.now n.1.1.0.now m.1.1.0.now
    n.1.1.1.0.now m.1.1.1.0.now n.1.1.1.1.0.now m.1.1.1.1.0.now
    a.0.now b.0.now a.1.0.now b.1.0.now a.1.1.0.now b.1.1.0.now)
one-bib-resolve-literal κs a x y s t p q = same-resolving p q

pub one-bib-resolve-field : Both 12 resolve-field-kinds.ps resolve-field-kinds.r resolve-field.Post
    (λ κs r s r' t.
    let a = s.1.1.1.1.1.1 in
    let b = t.1.1.1.1.1.1 in
    let n = a.1.1.1 in
    let m = b.1.1.1 in
    SameResolving r r' n.0.now m.0.now n.1.0.now m.1.0.now n.1.1.0.now m.1.1.0.now
    n.1.1.1.0.now m.1.1.1.0.now n.1.1.1.1.0.now m.1.1.1.1.0.now
    a.0.now b.0.now a.1.0.now b.1.0.now a.1.1.0.now b.1.1.0.now)
one-bib-resolve-field κs a x y s t p q = same-resolving p q

-- of the call over a whole file: the same status, values, chunk rows, bytes, start and end
pub record SameTold (r r' k k' n n' m m' x x' y y' : ℕ) : Type 0 where
  pub status : r ≡ r'
  pub values : k ≡ k'
  pub rows : n ≡ n'
  pub bytes : m ≡ m'
  pub start : x ≡ x'
  pub end : y ≡ y'

-- of the call over a whole file: the same scratch, index, answers, chunk rows and text
pub record SameLeft (w w' h h' x x' q q' b b' t t' : List ℕ) : Type 0 where
  pub scratch : w ≡ w'
  pub heads : h ≡ h'
  pub next : x ≡ x'
  pub answers : q ≡ q'
  pub chunks : b ≡ b'
  pub text : t ≡ t'

same-file : {a : All} {w₀ h₀ x₀ q₀ b₀ t₀ w w' h h' x x' q q' b b' t t' : List ℕ} {r r' k k' n n' m m' i i' j j' : ℕ}
    → ExportedFile a w₀ h₀ x₀ q₀ b₀ t₀ r k n m i j w h x q b t → ExportedFile a w₀ h₀ x₀ q₀ b₀ t₀ r' k' n' m' i' j' w' h' x' q' b' t'
    → SameTold r r' k k' n n' m m' i i' j j' × SameLeft w w' h h' x x' q q' b b' t t'
same-file p q = (
  record {
    status = p.answer.told.status ∙ sym q.answer.told.status;
    values = p.answer.told.number ∙ sym q.answer.told.number;
    rows = p.answer.rows_told ∙ sym q.answer.rows_told;
    bytes = p.answer.text-told ∙ sym q.answer.text-told;
    start = p.answer.told.from ∙ sym q.answer.told.from;
    end = p.answer.told.to ∙ sym q.answer.told.to;
  },
  record {
    scratch = p.scratch ∙ sym q.scratch;
    heads = p.heads ∙ sym q.heads;
    next = p.next ∙ sym q.next;
    answers = p.answers ∙ sym q.answers;
    chunks = p.chunks ∙ sym q.chunks;
    text = p.text ∙ sym q.text;
  },
)

-- the scratch comes sixth, then the index, the answers, the chunk rows and the text, and then the five that tell
pub one-bib-resolve-file : Both 16 resolve-file-kinds.ps resolve-file-kinds.r resolve-file.Post
    (λ κs r s r' t.
    let a = s.1.1.1.1.1 in
    let b = t.1.1.1.1.1 in
    let c = a.1.1.1 in
    let d = b.1.1.1 in
    let n = c.1.1.1 in
    let m = d.1.1.1 in
    SameTold r r' n.0.now m.0.now n.1.0.now m.1.0.now n.1.1.0.now m.1.1.0.now
    n.1.1.1.0.now m.1.1.1.0.now n.1.1.1.1.0.now m.1.1.1.1.0.now
    × SameLeft a.0.now b.0.now a.1.0.now b.1.0.now a.1.1.0.now b.1.1.0.now
    c.0.now d.0.now c.1.0.now d.1.0.now c.1.1.0.now d.1.1.0.now)
one-bib-resolve-file κs a x y s t p q = same-file p q
