use Rattle.std.proofs.Common.{[], Some, None, vec_items, vec_len, sym, ap, ◌∙◌, arith}
use Rattle.std.proofs.lemmas.List.{get_or_read_under}
use Rattle.maps.specs.Replies.{slot_of}
use Rattle.maps.specs.RowsMade.{rows_of}
use Rattle.maps.proofs.RowLookup.{look_none, look_some, read_place}
use Rattle.maps.proofs.rows.table.Rows.find.Goals as goal

pub returns-in_err-place : goal.returns-in_err-place
returns-in_err-place c =
    let self = c.args.self.now in
    let free = read_place (vec_items self.places) c.args.point.now c.slot_of.result (vec_len self.places) c.index.result.now None c.slot_of.ensures.value c.slot_of.ensures.bound self.spread self.places.ok.0 c.index.ensures c.in_err-place.was in
    c.from_residual.ensures
    ∙ sym (look_none self.dims self.grades.count (rows_of self) (vec_items self.places) c.args.point.now self.most self.grades.most self.points self.placed c.requires free)

pub index-requires-2 : goal.index-requires-2
index-requires-2 c =
    let self = c.args.self.now in
    let place = c.in_ok-place.place in
    let stands = read_place (vec_items self.places) c.args.point.now c.slot_of.result (vec_len self.places) c.index.result.now (Some place) c.slot_of.ensures.value c.slot_of.ensures.bound self.spread self.places.ok.0 c.index.ensures c.in_ok-place.was in
    omega (arith, self.listed (slot_of c.args.point.now) place stands, self.rows.ok.0)

pub returns : goal.returns
returns c =
    let self = c.args.self.now in
    let place = c.in_ok-place.place in
    let stands = read_place (vec_items self.places) c.args.point.now c.slot_of.result (vec_len self.places) c.index.result.now (Some place) c.slot_of.ensures.value c.slot_of.ensures.bound self.spread self.places.ok.0 c.index.ensures c.in_ok-place.was in
    let found = look_some self.dims self.grades.count (rows_of self) (vec_items self.places) c.args.point.now self.most self.grades.most self.points self.placed c.requires place self.listed self.apart stands in
    let below = self.listed (slot_of c.args.point.now) place stands in
    let read = get_or_read_under (rows_of self) place (vec_len self.rows) c.index-2.result.now (record { point = []; answer = [] }) c.index-2.ensures (omega (arith, below, self.rows.ok.0)) self.rows.ok.0 in
    ap (λ row. Some row.answer) read ∙ sym found
