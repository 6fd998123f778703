-- `lookup::index::Index::follow` meets its contract. Assumes nothing.
use Rattle.std.proofs.Common.{arith, refl, sym, ◌∙◌, ◌-◌, ◌/◌, length, get_or}
use Rattle.lookup.proofs.links.Chains.{left-most}
use Rattle.lookup.proofs.links.RowBuckets.{room}
use Rattle.lookup.proofs.links.FollowWays.{follow-starts, follow-hit, follow-on, follow-ends}
use Rattle.lookup.proofs.index.Index.follow.Goals as goal

pub loop-at-init : goal.loop-at-init
loop-at-init c =
    let a = c.args in
    let r = room (length a.self.rows.now / 4) (length a.self.heads.now) (length a.self.next.now) c.requires.indexed_from.room in
    let starts = follow-starts a.self.file.now a.name.now a.self.rows.now a.self.heads.now a.self.next.now a.from a.b c.requires.indexed_from in
    record {
      each = r.each;
      going = starts _ c.requires.b_value.1 refl;
      few = omega (arith, left-most (length a.self.rows.now / 4) (get_or a.self.heads.now a.b 0));
    }

pub returns-then-is_named : goal.returns-then-is_named
returns-then-is_named c =
    let a = c.args in
    let hit = follow-hit a.self.file.now a.name.now a.self.rows.now a.self.heads.now a.self.next.now a.from a.b c.requires.indexed_from in
    hit c.loop-at.at c.loop-at.invariant.going _ (omega arith) c.loop-at-test.true (sym c.is_named.ensures ∙ c.if-is_named.true)

pub loop-at-smaller : goal.loop-at-smaller
loop-at-smaller c =
    let a = c.args in
    let on = follow-on a.self.file.now a.name.now a.self.rows.now a.self.heads.now a.self.next.now a.from a.b c.requires.indexed_from in
    (on c.loop-at.at c.loop-at.invariant.going (c.loop-at.at - 1) (omega arith) _ (sym c.is_named.ensures ∙ c.if-is_named.false) refl).0

pub loop-at-preserved : goal.loop-at-preserved
loop-at-preserved c =
    let a = c.args in
    let on = follow-on a.self.file.now a.name.now a.self.rows.now a.self.heads.now a.self.next.now a.from a.b c.requires.indexed_from in
    let miss = sym c.is_named.ensures ∙ c.if-is_named.false in
    let next = on c.loop-at.at c.loop-at.invariant.going (c.loop-at.at - 1) (omega arith) _ miss refl in
    record { each = c.loop-at.invariant.each; going = next.1; few = omega (arith, next.0, c.loop-at.invariant.few) }

pub returns : goal.returns
returns c =
    let a = c.args in
    let ends = follow-ends a.self.file.now a.name.now a.self.rows.now a.self.heads.now a.self.next.now a.from a.b c.requires.indexed_from in
    ends c.loop-at.at c.loop-at.invariant.going c.requires.b_value.0 c.loop-at-test.false
