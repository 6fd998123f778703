-- `lookup::index::Index::find_name` meets its contract: the search goes by the form that the index has. Assumes nothing.
use Rattle.std.proofs.Common.{◌/◌, length, length-take-le, refl, sym, ◌∙◌, arith}
use Rattle.row.specs.Numbers.{rows_of}
use Rattle.lookup.specs.RowIndex.{last_from}
use Rattle.lookup.proofs.rows.LastDefinition.{from_first}
use Rattle.lookup.proofs.links.RowBuckets.{room}
use Rattle.lookup.proofs.links.FollowWays.{follow-whole}
use Rattle.lookup.proofs.links.TwoForms.{is-ordered, ordered-fits, ordered-part}
use Rattle.lookup.proofs.index.Index.find_name.Goals as goal

pub slice_bounds-search-end : goal.slice_bounds-search-end
slice_bounds-search-end c =
    let a = c.args in
    let yes = sym c.has_room.ensures ∙ c.if-not-has_room.false in
    let ordered = is-ordered a.self.file.now a.self.rows.now a.self.heads.now a.self.next.now (c.requires yes) (omega arith) in
    sym (length-take-le _ a.self.next.now (ordered-fits a.self.file.now a.self.rows.now a.self.heads.now a.self.next.now ordered _ refl yes))

pub search-requires : goal.search-requires
search-requires c =
    let a = c.args in
    let yes = sym c.has_room.ensures ∙ c.if-not-has_room.false in
    let ordered = is-ordered a.self.file.now a.self.rows.now a.self.heads.now a.self.next.now (c.requires yes) (omega arith) in
    let small = (room (length a.self.rows.now / 4) (length a.self.heads.now) (length a.self.next.now) yes).small in
    (ordered-part a.self.file.now a.self.rows.now a.self.heads.now a.self.next.now ordered _ refl, small)

pub returns : goal.returns
returns c =
    let a = c.args in
    let rs = rows_of a.self.rows.now in
    c.unwrap_or.ensures
    ∙ follow-whole (last_from a.self.file.now a.name.now rs 0) (length a.self.rows.now / 4) c.follow.result c.follow.ensures
    ∙ from_first a.self.file.now a.name.now rs
