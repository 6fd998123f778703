-- How an outcome is told in lent numbers, and how the contract of an exported call follows from that.
--     told-refused     a refusal in lent numbers
--     exported         a call that tells its outcome meets its contract
--     told-resolving, exported-resolving
--                      a call that resolves tells its answer, and then meets its contract
--     told-filing, exported-file
--                      the call that resolves every value of a file tells its answer, and then meets its contract
-- Assumes nothing.
use Rattle.std.specs.Prelude.{Result, Err}
use Rattle.whole.specs.declared.file.Filed.{Filed}
use Rattle.resolve.specs.declared.answer.Chunks.{Chunks}
use Prim.Native.Nat.{ℕ}
use mathlib.Core.Path.{◌≡◌, sym, ap, ◌∙◌, subst}
use mathlib.Core.List.{List}
use Rattle.row.specs.declared.fault.Fault.{Fault}
use Rattle.row.specs.Fault.{number_of}
use Rattle.resolve.specs.Resolves.{Value, Resolves}
use Rattle.whole.specs.WholeFile.{All, ResolvesFile}
use Rattle.bib.specs.Export.{status_of, count_of, place_start, place_end, Told, Exported}
use Rattle.bib.specs.Export.{of_answer, bytes_of, names_of, ToldResolving, ExportedResolving}
use Rattle.bib.specs.Export.{of_filed, rows_in, bytes_in, ToldFiling, ExportedFile}

pub told-refused : {f : Fault} {o : Result ℕ Fault} {r x y : ℕ}
    → o ≡ Err f → r ≡ number_of f.reason → x ≡ f.start → y ≡ f.end → Told o r 0 x y
told-refused p number start end =
    let e = sym p in
    record { status = number ∙ ap status_of e; number = ap count_of e; from = start ∙ ap place_start e; to = end ∙ ap place_end e }

pub exported : {o g : Result ℕ Fault} {l b' : List ℕ} {r n x y : ℕ} → g ≡ o → b' ≡ l → Told g r n x y → Exported o l r n x y b'
exported {r = r} {n = n} {x = x} {y = y} e left t = record { told = subst (λ g. Told g r n x y) e t; left = left }

pub told-resolving : {a a' : Result Chunks Fault} {r k n m x y : ℕ}
    → a ≡ a' → Told (of_answer a') r k x y → n ≡ bytes_of a' → m ≡ names_of a' → ToldResolving a r k n m x y
told-resolving {r = r} {k = k} {x = x} {y = y} p t n m =
    let e = sym p in
    record { told = subst (λ a. Told (of_answer a) r k x y) e t; text = n ∙ ap bytes_of e; resolved = m ∙ ap names_of e }

pub exported-resolving : {value : Value} {a : Result Chunks Fault} {w b t w' b' t' : List ℕ} {r k n m x y : ℕ}
    → Resolves value w b t a w' b' t' → ToldResolving a r k n m x y → ExportedResolving value w b t r k n m x y w' b' t'
exported-resolving {r = r} {k = k} {n = n} {m = m} {x = x} {y = y} h t =
    record {
      answer = subst (λ a. ToldResolving a r k n m x y) h.writes.answer t;
      rows = h.writes.rows;
      text = h.writes.text;
      scratch = h.scratch;
    }

pub told-filing : {a a' : Result Filed Fault} {r k n m x y : ℕ}
    → a ≡ a' → Told (of_filed a') r k x y → n ≡ rows_in a' → m ≡ bytes_in a' → ToldFiling a r k n m x y
told-filing {r = r} {k = k} {x = x} {y = y} p t n m =
    let e = sym p in
    record { told = subst (λ a. Told (of_filed a) r k x y) e t; rows_told = n ∙ ap rows_in e; text-told = m ∙ ap bytes_in e }

pub exported-file : {all : All} {a : Result Filed Fault} {w h x q b t w' h' x' q' b' t' : List ℕ} {r k n m i j : ℕ}
    → ResolvesFile all w h x q b t a w' h' x' q' b' t' → ToldFiling a r k n m i j
    → ExportedFile all w h x q b t r k n m i j w' h' x' q' b' t'
exported-file {r = r} {k = k} {n = n} {m = m} {i = i} {j = j} f t =
    record {
      answer = subst (λ a. ToldFiling a r k n m i j) f.writes.answer t;
      answers = f.writes.answers;
      chunks = f.writes.chunks;
      text = f.writes.text;
      scratch = f.scratch;
      heads = f.heads;
      next = f.next;
    }
