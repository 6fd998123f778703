-- `literal::parse::content` and `literal::parse::argument`, which call each other, meet their contracts: `argument` calls `content` with a
-- smaller depth, and `content` calls `argument` with its own. What falls is twice the depth, and one more for `content`. Assumes nothing.
use Rattle.std.proofs.Common.{◌+◌, arith, ◌≡◌, refl, sym, subst, ◌∙◌, length, take, get_or}
use Rattle.text.specs.Scan.{part}
use Rattle.std.specs.Prelude.{Result, Ok}
use Rattle.std.proofs.lemmas.Result.{err_from_is_err_and}
use Rattle.row.specs.declared.fault.Fault.{Fault}
use Rattle.turn.specs.declared.turn.Text.{Text}
use Rattle.turn.specs.Content.{inside}
use Rattle.literal.specs.Inner.{AheadMade}
use Rattle.turn.specs.Turns.{GrowsText}
use Rattle.literal.proofs.ways.MakingWays.{no_text}
use Rattle.turn.proofs.Turning.{turning}
use Rattle.literal.proofs.ways.StepWays.{text-put, ahead-further}
use Rattle.literal.proofs.ways.ContentWays as ways
use Rattle.literal.proofs.ways.NestedWays as nested
use Rattle.literal.proofs.parse.+argument_content.Goals as goal

-- the answer of `text_at`, which `?` opened
told : {r : Result Text Fault} {t u : Text} → r ≡ Ok t → t ≡ u → r ≡ Ok u
told e h = cc

pub argument-returns-then-depth-eq0 : goal.argument-returns-then-depth-eq0
argument-returns-then-depth-eq0 t c =
    let a = c.args in
    let spans = c.requires.m_value.1 in record {
      says_argument = nested.argument-deep (take a.to a.s.now) (part a.s.now (a.st.at + 1) a.end) a.depth a.from a.to a.st a.out.now _
          c.if-depth-eq0.true (omega (arith, spans.1));
      ahead_made = (omega (arith, spans.2, spans.3), omega (arith, spans.2, spans.3));
    }

pub argument-begin-i-requires : goal.argument-begin-i-requires
argument-begin-i-requires t c =
    let spans = c.requires.m_value.1 in
    (spans.0, spans.1, omega (arith, spans.2, spans.3), c.requires.ready_content.text.room)

pub argument-slice_bounds-content-end : goal.argument-slice_bounds-content-end
argument-slice_bounds-content-end t c =
    nested.cut-length c.args.s.now c.args.to c.requires.m_value.1.3

pub argument-content-requires : goal.argument-content-requires
argument-content-requires t c =
    let a = c.args in (
      omega arith,
      nested.ready-in a.s.now a.st c.begin-i.result a.out.now _ _ a.m a.end a.from a.to c.requires.ready_content
          c.requires.m_value.1 c.begin-i.ensures.argument_begun c.begin-i.ensures.at_bound.0 c.begin-i.ensures.at_bound.1 c.begin-i.auto.out,
    )

pub argument-returns-in_err-t : goal.argument-returns-in_err-t
argument-returns-in_err-t t c =
    let a = c.args in
    let is = c.in_err-t.was in
    -- a refusal inside an argument has its place inside the content around it
    let within = c.requires.m_value.1.3 in
    let cut = nested.cut-length a.s.now a.to within in
    let placed = subst (AheadMade (length (take a.to a.s.now)) 0 c.begin-i.result) is c.content.ensures.ahead_made in
    let e = err_from_is_err_and c.from_residual.result c.from_residual.ensures.1 in
    rw (e.1, e.2) (record {
      says_argument = nested.argument-refused (take a.to a.s.now) (part a.s.now (a.st.at + 1) a.end) a.m a.depth a.from a.to
          c.if-depth-eq0.false
          a.st a.out.now c.begin-i.result _ c.begin-i.ensures.argument_begun c.content.result _ _ c.content.ensures.says_content _ is;
      ahead_made = (omega (arith, placed.0, cut, within), omega (arith, placed.1, cut, within));
    })

pub argument-finish-requires : goal.argument-finish-requires
argument-finish-requires t c =
    let a = c.args in
    let m = c.in_ok-t.t in
    let is = c.in_ok-t.was in
    let same = c.content.auto.out ∙ c.begin-i.auto.out in
    let ahead = subst (AheadMade (length (take a.to a.s.now)) 0 c.begin-i.result) is c.content.ensures.ahead_made in
    let kept = nested.kept (take a.to a.s.now) (part a.s.now (a.st.at + 1) a.end) a.m a.depth a.from a.to
    c.if-depth-eq0.false
    a.st a.out.now c.begin-i.result _ c.begin-i.ensures.argument_begun c.content.result _ _ c.content.ensures.says_content m is
    (nested.room-now c.requires.ready_content) in record {
      marks_value = (a.tables.all_marks, c.requires.m_value.0);
      closes = (
        nested.closes a.s.now a.st c.begin-i.result m a.out.now _ a.end a.from a.to c.requires.ready_content c.requires.m_value.1
            c.begin-i.ensures.argument_begun.at c.begin-i.ensures.at_bound.0 kept.0 kept.1 kept.2 ahead same,
        kept.3 (nested.room-lead c.requires.ready_content c.requires.m_value.1 c.begin-i.ensures.at_bound.0 same),
      );
    }

pub argument-returns : goal.argument-returns
argument-returns t c =
    let a = c.args in
    let spans = c.requires.m_value.1 in
    let name = part a.s.now (a.st.at + 1) a.end in
    let out = c.finish.new.out in
    let put = nested.argument-done (take a.to a.s.now) name a.m a.depth a.from a.to c.if-depth-eq0.false a.st a.out.now
    c.begin-i.result _
    c.begin-i.ensures.argument_begun c.content.result _ _ c.content.ensures.says_content c.in_ok-t.t c.in_ok-t.was (nested.room-now c.requires.ready_content)
    (no_text _ c.content.auto.numbers) (a.end + 1) spans.1 c.finish.result out c.finish.ensures.argument_finished in record {
      says_argument = put;
      ahead_made = nested.ahead_past name a.from a.to (length a.s.now) a.st a.out.now c.finish.result out
          (omega (arith, spans.0, spans.1, spans.2)) spans.3 c.requires.ready_content.from c.requires.ready_content.start c.finish.ensures.at_value.1
          (inside a.depth (take a.to a.s.now) a.from) put;
    }

pub content-loop-out-init : goal.content-loop-out-init
content-loop-out-init t c =
    let a = c.args in
    let ready = c.requires in
    (ways.ahead_none a.s.now a.place a.first a.out.now ready, refl, refl, ready, λ r o b h. h)

pub content-sign-requires : goal.content-sign-requires
content-sign-requires t c =
    let a = c.args in
    let l = c.loop-out in
    let is = sym c.sign_at.ensures ∙ c.if-sign_at.true in (
      l.invariant.3,
      is,
      turning.sign-inside a.verb a.s.now l.st.at is,
    )

pub content-loop-out-smaller-then-sign_at : goal.content-loop-out-smaller-then-sign_at
content-loop-out-smaller-then-sign_at t c =
    let a = c.args in
    let k = subst (AheadMade (length a.s.now) 1 c.loop-out.st) c.in_ok-st.was c.sign.ensures.ahead_made in
    omega (arith, k.grows.at, k.grows.inside)

pub content-loop-out-preserved-then-sign_at : goal.content-loop-out-preserved-then-sign_at
content-loop-out-preserved-then-sign_at t c =
    let a = c.args in
    let l = c.loop-out in
    let m = c.in_ok-st.st in
    let k = subst (AheadMade (length a.s.now) 1 l.st) c.in_ok-st.was c.sign.ensures.ahead_made in (
      ways.ahead-on (length a.s.now) 1 a.first l.st m l.invariant.0 k,
      c.sign.auto.out ∙ l.invariant.1,
      c.sign.auto.numbers ∙ l.invariant.2,
      ways.ready_on a.s.now a.place 1 l.st m l.out _ l.invariant.3 k c.sign.auto.out,
      λ r₂ o₂ b₂ h. l.invariant.4 r₂ o₂ b₂
          (ways.turn-again a.place (inside a.depth) a.verb a.s.now l.st l.out l.numbers m _ _
          (ways.sign-again a.place (inside a.depth) a.verb a.s.now l.st l.out l.numbers _ _ c.sign.ensures.says_sign c.in_ok-st.was)
          r₂ o₂ b₂ h),
    )

pub content-returns-in_err-st : goal.content-returns-in_err-st
content-returns-in_err-st t c =
    let a = c.args in
    let l = c.loop-out in
    let e = err_from_is_err_and c.from_residual.result c.from_residual.ensures.1 in
    rw (e.1, e.2) (record {
      says_content = l.invariant.4 _ _ _ (ways.sign-refused a.place (inside a.depth) a.verb a.s.now l.st l.out l.numbers _ _ c.sign.ensures.says_sign
          c.in_err-st.was);
      ahead_made = subst (AheadMade (length a.s.now) 1 l.st) c.in_err-st.was c.sign.ensures.ahead_made;
    })

pub content-text_at-requires : goal.content-text_at-requires
content-text_at-requires t c =
    let a = c.args in
    let l = c.loop-out in
    (turning.ordinary a.verb (get_or a.s.now l.st.at 0) (sym c.sign_at.ensures ∙ c.if-sign_at.false), l.invariant.3.text)

pub content-returns-in-End : goal.content-returns-in-End
content-returns-in-End t c =
    let a = c.args in
    let l = c.loop-out in
    record {
      says_content = l.invariant.4 _ _ _
          (ways.turn-done a.place (inside a.depth) a.verb a.s.now l.st l.out l.numbers c.text_at.result _ c.text_at.ensures.says_text
          (told c.in_ok-text_at.was c.in-End.is));
      ahead_made = l.invariant.0;
    }

pub content-loop-out-smaller-in-Put : goal.content-loop-out-smaller-in-Put
content-loop-out-smaller-in-Put t c =
    let a = c.args in
    let k = subst (GrowsText (length a.s.now) c.loop-out.st.at c.loop-out.st.len) (told c.in_ok-text_at.was c.in-Put.is)
    c.text_at.ensures.grows_text in
    let f = c.further-st.ensures.at in
    omega (arith, k.at, k.inside, f)

pub content-loop-out-preserved-in-Put : goal.content-loop-out-preserved-in-Put
content-loop-out-preserved-in-Put t c =
    let a = c.args in
    let l = c.loop-out in
    let m = c.further-st.result in
    let is = (told c.in_ok-text_at.was c.in-Put.is) in
    let grows = subst (GrowsText (length a.s.now) l.st.at l.st.len) is c.text_at.ensures.grows_text in
    let k = ahead-further (length a.s.now) a.verb a.s.now l.st l.out _ _ _ c.text_at.result m is c.text_at.ensures.says_text grows l.invariant.3.from
    l.invariant.3.start c.further-st.ensures in (
      ways.ahead-on (length a.s.now) 1 a.first l.st m l.invariant.0 k,
      c.text_at.auto.out ∙ l.invariant.1,
      l.invariant.2,
      ways.ready_on a.s.now a.place 1 l.st m l.out _ l.invariant.3 k c.text_at.auto.out,
      λ r₂ o₂ b₂ h. l.invariant.4 r₂ o₂ b₂
          (ways.turn-again a.place (inside a.depth) a.verb a.s.now l.st l.out l.numbers m _ _
          (text-put a.place a.verb a.s.now l.st l.out l.numbers c.text_at.result _ c.text_at.ensures.says_text _ _ is m c.further-st.ensures)
          r₂ o₂ b₂ h),
    )

pub content-returns-in_err-text_at : goal.content-returns-in_err-text_at
content-returns-in_err-text_at t c =
    let a = c.args in
    let l = c.loop-out in
    let e = err_from_is_err_and c.from_residual-in_err-text_at.result c.from_residual-in_err-text_at.ensures.1 in
    rw (e.1, e.2) (record {
      says_content = l.invariant.4 _ _ _
          (ways.turn-refused a.place (inside a.depth) a.verb a.s.now l.st l.out l.numbers c.text_at.result _ c.text_at.ensures.says_text _
          c.in_err-text_at.was);
      ahead_made = subst (GrowsText (length a.s.now) l.st.at l.st.len) c.in_err-text_at.was c.text_at.ensures.grows_text;
    })

pub content-argument-requires : goal.content-argument-requires
content-argument-requires t c =
    let a = c.args in
    let l = c.loop-out in (
      omega (arith, c.decreases),
      (
        ways.ready-argument a.s.now a.place l.st l.out _ l.invariant.3 c.text_at.auto.out,
        (
          ways.meaning-told a.place (inside a.depth) a.verb a.s.now l.st l.out l.numbers c.text_at.result _ c.text_at.ensures.says_text _ _ _ _
              (told c.in_ok-text_at.was c.in-Argument.is),
          subst (GrowsText (length a.s.now) l.st.at l.st.len) (told c.in_ok-text_at.was c.in-Argument.is) c.text_at.ensures.grows_text,
        ),
      ),
    )

pub content-loop-out-smaller : goal.content-loop-out-smaller
content-loop-out-smaller t c =
    let a = c.args in
    let k = subst (AheadMade (length a.s.now) 1 c.loop-out.st) c.in_ok-st-in-Argument.was c.argument.ensures.ahead_made in
    omega (arith, k.grows.at, k.grows.inside)

pub content-loop-out-preserved : goal.content-loop-out-preserved
content-loop-out-preserved t c =
    let a = c.args in
    let l = c.loop-out in
    let m = c.in_ok-st-in-Argument.st in
    let k = subst (AheadMade (length a.s.now) 1 l.st) c.in_ok-st-in-Argument.was c.argument.ensures.ahead_made in
    let n : length c.argument.new.out ≡ length l.out = c.argument.auto.out ∙ c.text_at.auto.out in (
      ways.ahead-on (length a.s.now) 1 a.first l.st m l.invariant.0 k,
      n ∙ l.invariant.1,
      l.invariant.2,
      ways.ready_on a.s.now a.place 1 l.st m l.out _ l.invariant.3 k n,
      λ r₂ o₂ b₂ h. l.invariant.4 r₂ o₂ b₂
          (ways.turn-argument a.place (inside a.depth) a.verb a.s.now l.st l.out l.numbers c.text_at.result _ c.text_at.ensures.says_text
          c.in-Argument.m c.in-Argument.end c.in-Argument.from c.in-Argument.to (told c.in_ok-text_at.was c.in-Argument.is)
          c.argument.result _ c.argument.ensures.says_argument m r₂ o₂ b₂ h
          c.in_ok-st-in-Argument.was),
    )

pub content-returns-in_err-st-in-Argument : goal.content-returns-in_err-st-in-Argument
content-returns-in_err-st-in-Argument t c =
    let a = c.args in
    let l = c.loop-out in
    let e = err_from_is_err_and c.from_residual-in_err-st-in-Argument.result c.from_residual-in_err-st-in-Argument.ensures.1 in
    rw (e.1, e.2) (record {
      says_content = l.invariant.4 _ _ _
          (ways.turn_stopped a.place (inside a.depth) a.verb a.s.now l.st l.out l.numbers c.text_at.result _ c.text_at.ensures.says_text
          c.in-Argument.m c.in-Argument.end c.in-Argument.from c.in-Argument.to (told c.in_ok-text_at.was c.in-Argument.is)
          c.argument.result _ c.argument.ensures.says_argument _ c.in_err-st-in-Argument.was);
      ahead_made = subst (AheadMade (length a.s.now) 1 l.st) c.in_err-st-in-Argument.was c.argument.ensures.ahead_made;
    })
