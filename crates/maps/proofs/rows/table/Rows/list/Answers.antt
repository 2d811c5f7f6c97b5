use Rattle.std.proofs.Common.{◌≡◌, ℕ, ◌<◌, true, false, List, [], ◌∷◌, ◌++◌, length, get_or, set, is_some, Some, None, vec_items, Option, sym, refl, ap, ◌∙◌, subst, subst₂, arith, rules}
use Rattle.std.specs.Vec.{with_item}
use Rattle.std.proofs.lemmas.Bool.{both_ways}
use Rattle.points.specs.Points.{is_point}
use Rattle.maps.specs.Indexed.{Apart, Listed, Placed}
use Rattle.maps.specs.Replies.{all_points, listed_answer}
use Rattle.maps.specs.RowsMade.{rows_of, sizes_of}
use Rattle.maps.proofs.RowLookup.{look_free}
use Rattle.maps.proofs.RowPushed.{points_pushed, placed_pushed, listed_pushed, apart_pushed}
use Rattle.maps.proofs.RowSlots.{wider}
use Rattle.maps.proofs.rows.table.Rows.list.Goals as goal

not_listed : {o : Option (List ℕ)} (r : Option (List ℕ)) → is_some r ≡ false → r ≡ o → o ≡ None
not_listed None t e = sym e
not_listed (Some y) t e = absurd (both_ways true t refl)

pub slot_of-slot-requires : goal.slot_of-slot-requires
slot_of-slot-requires c =
    let self = c.args.self.now in
    let at_point : is_point (sizes_of self) c.args.row.point ≡ true = search rules in
    wider self.dims self.grades.count c.args.row.point self.most self.grades.most at_point

pub invariant_of-self : goal.invariant_of-self
invariant_of-self c =
    let self = c.args.self.now in
    let places = vec_items self.places in
    let kept : rows_of self ≡ vec_items c.push.new.self = sym (search rules) in
    record {
      some = self.some;
      most = self.most;
      points = subst (λ rows. all_points (sizes_of self) rows ≡ true) kept self.points;
      spread = self.spread;
      placed = subst (λ rows. Placed rows places) kept self.placed;
      listed = subst (λ rows. Listed rows places) kept self.listed;
      apart = subst (λ rows. Apart rows places) kept self.apart;
    }

pub invariant_of-self-2 : goal.invariant_of-self-2
invariant_of-self-2 c =
    let self = c.args.self.now in
    let row = c.args.row in
    let places = vec_items self.places in
    let slot = c.slot_of-slot.result in
    let here = sym c.slot_of-slot.ensures.value in
    let pushed : rows_of self ++ row ∷ [] ≡ vec_items c.push.new.self = sym (search rules) in
    let at_point : is_point (sizes_of self) row.point ≡ true = search rules in
    let at-answer : is_point (sizes_of self) row.answer ≡ true = search rules in
    let unlisted : listed_answer (rows_of self) row.point ≡ None = not_listed c.find.result (sym c.if-is_some.ensures) c.find.ensures in
    let within : slot < length places = omega (arith, c.slot_of-slot.ensures.bound, self.spread, self.places.ok.0) in
    let free : get_or places slot None ≡ None =
    ap (λ s. get_or places s None) (sym here) ∙ look_free self.dims self.grades.count (rows_of self) places row.point self.most self.grades.most self.points self.placed at_point self.listed self.apart unlisted in
    let last : length (rows_of self) ≡ c.len-place.result = sym self.rows.ok.0 ∙ sym c.len-place.ensures in
    let index : set places slot (Some (length (rows_of self))) ≡ vec_items (with_item self.places slot (Some c.len-place.result)) = ap (λ k. set places slot (Some k)) last in
    record {
      some = self.some;
      most = self.most;
      points = subst (λ rows. all_points (sizes_of self) rows ≡ true) pushed (points_pushed (sizes_of self) (rows_of self) row self.points at_point at-answer);
      spread = self.spread;
      placed = subst₂ Placed pushed index (placed_pushed (rows_of self) places row slot here within free self.placed);
      listed = subst₂ Listed pushed index (listed_pushed (rows_of self) places row slot here within free self.listed);
      apart = subst₂ Apart pushed index (apart_pushed (rows_of self) places row slot here within free self.listed self.apart);
    }
