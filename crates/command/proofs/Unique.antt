-- Each public contract allows one outcome only. This is said of the contract as the check reads it off the source, so that a contract which
-- said less would fail here. Of a text that is written, the new end and all up to it are settled; what lies past the end is left open on purpose,
-- and `wipe` clears it.
--     the same answer                                     `names`, `meaning_of`, `is_single_char_func`
--     the same end, and the same text up to it            `copy`, `push`, `put_code`, `execute_before`, `execute_command`, `execute_bare`
--     the same, and whether white space comes last        `settle`
--     the same bytes                                      `wipe`
-- Assumes nothing.
use Rattle.std.proofs.Common.{ℕ, ◌≡◌, sym, ◌∙◌, List, take}
use Rattle.text.proofs.general.Outcomes.{One, Both}
use Rattle.command.specs.Stack.{Lays}
use Rattle.command.proofs.names.names.Kinds as names-kinds
use Rattle.command.proofs.names.names.Reads as names
use Rattle.command.proofs.meaning.meaning_of.Kinds as meaning-of-kinds
use Rattle.command.proofs.meaning.meaning_of.Reads as meaning-of
use Rattle.command.proofs.execute.is_single_char_func.Kinds as is-single-char-func-kinds
use Rattle.command.proofs.execute.is_single_char_func.Reads as is-single-char-func
use Rattle.command.proofs.execute.execute_before.Kinds as execute-before-kinds
use Rattle.command.proofs.execute.execute_before.Reads as execute-before
use Rattle.command.proofs.execute.execute_command.Kinds as execute-command-kinds
use Rattle.command.proofs.execute.execute_command.Reads as execute-command
use Rattle.command.proofs.execute.execute_bare.Kinds as execute-bare-kinds
use Rattle.command.proofs.execute.execute_bare.Reads as execute-bare
use Rattle.command.proofs.settle.settle.Kinds as settle-kinds
use Rattle.command.proofs.settle.settle.Reads as settle
use Rattle.command.proofs.stack.copy.Kinds as copy-kinds
use Rattle.command.proofs.stack.copy.Reads as copy
use Rattle.command.proofs.stack.push.Kinds as push-kinds
use Rattle.command.proofs.stack.push.Reads as push
use Rattle.command.proofs.stack.put_code.Kinds as put-code-kinds
use Rattle.command.proofs.stack.put_code.Reads as put-code
use Rattle.command.proofs.stack.wipe.Kinds as wipe-kinds
use Rattle.command.proofs.stack.wipe.Reads as wipe

pub one-names : One 0 names-kinds.ps names-kinds.r names.Post
one-names κs a x y s t p q = p ∙ sym q

pub one-meaning-of : One 2 meaning-of-kinds.ps meaning-of-kinds.r meaning-of.Post
one-meaning-of κs a x y s t p q = p ∙ sym q

pub one-is-single-char-func : One 0 is-single-char-func-kinds.ps is-single-char-func-kinds.r is-single-char-func.Post
one-is-single-char-func κs a x y s t p q = p ∙ sym q

pub one-wipe : Both 1 wipe-kinds.ps wipe-kinds.r wipe.Post (λ κs x s y t. s.0.now ≡ t.0.now)
one-wipe κs a x y s t p q = p ∙ sym q

-- ---- texts that are written

-- the same end, and the same text up to it
abbrev SameText : ℕ → List ℕ → ℕ → List ℕ → Type 0
SameText r o q u = (r ≡ q) × (take r o ≡ take q u)

same_text : {n : ℕ} {w b : List ℕ} {r : ℕ} {o : List ℕ} {q : ℕ} {u : List ℕ} → Lays n w b r o → Lays n w b q u → SameText r o q u
same_text h k = (h.end ∙ sym k.end, h.text ∙ sym k.text)

pub one-copy : Both 2 copy-kinds.ps copy-kinds.r copy.Post (λ κs x s y t. SameText x s.1.1.1.0.now y t.1.1.1.0.now)
one-copy κs a x y s t p q = same_text p.0 q.0

pub one-push : Both 1 push-kinds.ps push-kinds.r push.Post (λ κs x s y t. SameText x s.0.now y t.0.now)
one-push κs a x y s t p q = same_text p.0 q.0

pub one-put-code : Both 1 put-code-kinds.ps put-code-kinds.r put-code.Post (λ κs x s y t. SameText x s.0.now y t.0.now)
one-put-code κs a x y s t p q = same_text p q

pub one-execute-before : Both 2 execute-before-kinds.ps execute-before-kinds.r execute-before.Post
    (λ κs x s y t. SameText x s.1.1.1.1.0.now y t.1.1.1.1.0.now)
one-execute-before κs a x y s t p q = same_text p.0 q.0

pub one-execute-command : Both 3 execute-command-kinds.ps execute-command-kinds.r execute-command.Post
    (λ κs x s y t. SameText x s.1.1.1.1.1.0.now y t.1.1.1.1.1.0.now)
one-execute-command κs a x y s t p q = same_text p.0 q.0

pub one-execute-bare : Both 2 execute-bare-kinds.ps execute-bare-kinds.r execute-bare.Post
    (λ κs x s y t. SameText x s.1.1.1.1.0.now y t.1.1.1.1.0.now)
one-execute-bare κs a x y s t p q = same_text p.0 q.0

pub one-settle : Both 1 settle-kinds.ps settle-kinds.r settle.Post
    (λ κs x s y t. SameText x.at s.0.now y.at t.0.now × (x.white ≡ y.white))
one-settle κs a x y s t p q = (same_text p.0 q.0, p.1.0 ∙ sym q.1.0)
