-- The ways in which asking, raising and lowering can go.
use Rattle.std.proofs.Common.{◌≡◌, ℕ, zero, suc, ◌-◌, ◌≤◌, Bool, true, false, cond, eqb, ltb, List, [], ◌∷◌, length, replicate, Some, None, Ok, Err, Option, Result, sym, refl, ap, ◌∙◌, subst, arith}
use Rattle.std.proofs.lemmas.List.{length-append, length-replicate}
use Rattle.std.proofs.lemmas.Bool.{eqb-true}
use Rattle.chains.specs.Order.{Order}
use Rattle.points.specs.Points.{AtMost, first_above, size_of}
use Rattle.points.specs.declared.Entry.{Entry}
use Rattle.points.specs.declared.Fault.{Fault}
use Rattle.points.proofs.Tested.{point_eight_lem}
use Rattle.maps.specs.Rules.{Rules, RulesLaws}
use Rattle.bisection.specs.Bounds.{Between}
use Rattle.bisection.specs.Sound.{Sound}
use Rattle.bisection.specs.declared.bounds.Bounds.{Bounds}
use Rattle.study.specs.Calls.{Deed, answered, asked, floor_at, inside, lowered, moves, or_faulted, placed, point_in_box, point_named, raised, refused_after, roof_at, sided, unless_outside, with_answer, with_point}
use Rattle.study.specs.Replies.{Reply, details_of, reported}
use Rattle.study.specs.Values.{before, first_outside, point_of, ranked, ranks_from, used}
use Rattle.study.specs.declared.reply.Refusal.{Refusal}
use Rattle.study.specs.declared.reply.Refusal.TheVariants.{Strip, Values, Spent, Faulted, Side}
use Rattle.study.specs.declared.reply.Report.TheVariants.{Answered}
use Rattle.study.specs.declared.state.Study.{Study}
use Rattle.study.proofs.Order.{at_most_from, between_from}

-- how a box is after a question was answered: as it was, or moved to the point
pub data Moved (b : Bounds) (e : Entry) : Bounds → Type 0 where
  same : Moved b e b
  up : Between b e.point → AtMost e.point e.answer → Moved b e (floor_at e b)
  down : Between b e.point → AtMost e.answer e.point → Moved b e (roof_at e b)

-- the ranks of values are as many as the values
before_long : (r n : ℕ) (rest : Result (List ℕ) ℕ) (rs : List ℕ) → ((qs : List ℕ) → rest ≡ Ok qs → length qs ≡ n) → before r rest ≡ Ok rs → length rs ≡ suc n
before_long r n (Ok qs) rs h e = let s : r ∷ qs ≡ rs = cc in omega (arith, ap length (sym s), h qs refl)
before_long r n (Err i) rs h e = absurd cc

ranked_long : (i n : ℕ) (o : Option ℕ) (rest : Result (List ℕ) ℕ) (rs : List ℕ) → ((qs : List ℕ) → rest ≡ Ok qs → length qs ≡ n) → ranked i o rest ≡ Ok rs → length rs ≡ suc n
ranked_long i n None rest rs h e = absurd cc
ranked_long i n (Some r) rest rs h e = before_long r n rest rs h e

ranks_long : {V : Type 0} (rank : V → Option ℕ) (sizes : List ℕ) (i : ℕ) (values : List V) (rs : List ℕ) → ranks_from rank sizes i values ≡ Ok rs → length rs ≡ length values
ranks_long rank sizes i [] rs e = let s : [] ≡ rs = cc in ap length (sym s)
ranks_long rank sizes i (v ∷ vs) rs e =
    ranked_long i (length vs) (used (size_of sizes i) (rank v)) (ranks_from rank sizes (suc i) vs) rs (λ qs t. ranks_long rank sizes (suc i) vs qs t) e

placed_eight : (b : Result (List ℕ) ℕ) (q : List ℕ) → ((rs : List ℕ) → b ≡ Ok rs → length rs ≤ 8) → placed b ≡ Ok q → length q ≡ 8
placed_eight (Ok rs) q h e =
    let s : point_of rs ≡ q = cc in
    let pad : length (replicate (8 - length rs) zero) ≡ 8 - length rs = length-replicate (8 - length rs) zero in
    ap length (sym s) ∙ length-append rs (replicate (8 - length rs) zero) ∙ omega (arith, h rs refl)
placed_eight (Err i) q h e = absurd cc

named_if : (a b : Bool) (found : Result (List ℕ) Refusal) (q : List ℕ) → cond a (Err Strip) (cond b found (Err Values)) ≡ Ok q → (b ≡ true) × (found ≡ Ok q)
named_if true b found q e = absurd cc
named_if false true found q e = (refl, e)
named_if false false found q e = absurd cc

-- a refusal before any question reports none
abbrev Unput : Result (List ℕ) Refusal → Type 0
Unput (Ok q) = Unit {0}
Unput (Err refusal) = (details_of refusal).count ≡ 0

placed_unput : (b : Result (List ℕ) ℕ) → Unput (placed b)
placed_unput (Ok rs) = tt
placed_unput (Err i) = refl

named_unput : (a b : Bool) (found : Result (List ℕ) Refusal) → Unput found → Unput (cond a (Err Strip) (cond b found (Err Values)))
named_unput true b found h = refl
named_unput false true found h = h
named_unput false false found h = refl

outside_unput : (q : List ℕ) (o : Option ℕ) → Unput (unless_outside q o)
outside_unput q None = tt
outside_unput q (Some i) = refl

inside_unput : (box : Bounds) (b : Result (List ℕ) Refusal) → Unput b → Unput (inside box b)
inside_unput box (Ok q) h = outside_unput q (first_outside box q)
inside_unput box (Err refusal) h = h

-- a point of the box comes from a point, and lies nowhere outside
inside_from : (box : Bounds) (b : Result (List ℕ) Refusal) (q : List ℕ) → inside box b ≡ Ok q → (b ≡ Ok q) × (first_outside box q ≡ None)
inside_from box (Err refusal) q e = absurd cc
inside_from box (Ok p) q e = at (first_outside box p) refl e
  where
    at : (o : Option ℕ) → first_outside box p ≡ o → unless_outside p o ≡ Ok q → (◌≡◌ {A = Result (List ℕ) Refusal} (Ok p) (Ok q)) × (first_outside box q ≡ None)
    at None t e = let s : p ≡ q = cc in (e, subst (λ x. first_outside box x ≡ None) s t)
    at (Some i) t e = absurd cc

module _ {M V : Type 0} (o : Order M V) (r : Rules M) (laws : RulesLaws r) (s : Study M) where
  unput_named : (cells : ℕ) (values : List V) → Unput (point_named o r s cells values)
  unput_named cells values =
      named_unput (ltb cells (r.dims s.map)) (eqb (length values) (r.dims s.map)) (placed (ranks_from (o.rank s.map) (r.sizes s.map) 0 values))
      (placed_unput (ranks_from (o.rank s.map) (r.sizes s.map) 0 values))

  -- a point that values name has eight ranks
  named_eight : (cells : ℕ) (values : List V) (q : List ℕ) → point_named o r s cells values ≡ Ok q → length q ≡ 8
  named_eight cells values q e =
      let parts = named_if (ltb cells (r.dims s.map)) (eqb (length values) (r.dims s.map)) (placed (ranks_from (o.rank s.map) (r.sizes s.map) 0 values)) q e in
      placed_eight (ranks_from (o.rank s.map) (r.sizes s.map) 0 values) q
      (λ rs t. omega (arith, ranks_long (o.rank s.map) (r.sizes s.map) 0 values rs t, eqb-true (length values) (r.dims s.map) parts.0, laws.counted s.map))
      parts.1

  module _ (strip : List V) (log : List Entry) where
    pub data Way : Deed V → Type 0 where
      unput : (refusal : Refusal) → (details_of refusal).count ≡ 0 → Way (refused_after o r s strip log [] refusal)
      fault : (q : List ℕ) (f : Fault) → Way (refused_after o r s strip log (q ∷ []) (Faulted f 1))
      answer : (e : Entry) (reply : Reply) (box : Bounds) → r.meaning s.map e.point ≡ Ok e.answer → reported reply ≡ 1 → length e.point ≡ 8 → Moved s.bounds e box → Way (answered o r s strip log e reply box)

    -- a question that is due: nothing is left, or it is put and met a fault, or it is answered
    way_if : (q : List ℕ) (next : Entry → Deed V) (b : Bool) (told : Result (List ℕ) Fault) → ((y : List ℕ) → told ≡ Ok y → Way (next (record { point = q; answer = y }))) → Way (elim (cond b (Err (Spent 0)) (or_faulted told)) as (λ _. Deed V) [ Ok y ↦ next (record { point = q; answer = y }) | Err refusal ↦ refused_after o r s strip log (cond b [] (q ∷ [])) refusal ])
    way_if q next true told h = unput (Spent 0) refl
    way_if q next false (Ok y) h = h y refl
    way_if q next false (Err f) h = fault q f

    way_answer : (q : List ℕ) (next : Entry → Deed V) → ((y : List ℕ) → r.meaning s.map q ≡ Ok y → Way (next (record { point = q; answer = y }))) → Way (with_answer o r s strip log q next)
    way_answer q next h = way_if q next (eqb s.left 0) (r.meaning s.map q) h

    -- a point that is named or refused
    way_point : (b : Result (List ℕ) Refusal) (next : List ℕ → Deed V) → Unput b → ((q : List ℕ) → b ≡ Ok q → Way (next q)) → Way (with_point o r s strip log b next)
    way_point (Ok q) next u h = h q refl
    way_point (Err refusal) next u h = unput refusal u

    pub way_ask : (values : List V) → Way (asked o r s strip log values)
    way_ask values =
        way_point (point_named o r s (length strip) values) (λ q. with_answer o r s strip log q (λ e. answered o r s strip log e (Ok (Answered 1)) s.bounds))
        (unput_named (length strip) values)
        (λ q e. way_answer q (λ e. answered o r s strip log e (Ok (Answered 1)) s.bounds) (λ y t. answer (record { point = q; answer = y }) (Ok (Answered 1)) s.bounds t refl (named_eight (length strip) values q e) same))

    module _ (sound : Sound (r.meaning s.map) (r.sizes s.map) (r.dims s.map) s.bounds) where
      in_box_lem : (values : List V) (q : List ℕ) → point_in_box o r s (length strip) values ≡ Ok q → (length q ≡ 8) × Between s.bounds q
      in_box_lem values q e =
          let parts = inside_from s.bounds (point_named o r s (length strip) values) q e in
          let eight = named_eight (length strip) values q parts.0 in
          (eight, between_from s.bounds q (point_eight_lem (r.sizes s.map) s.bounds.floor.at sound.floor_point) eight parts.1)

      answer_eight : (q y : List ℕ) → r.meaning s.map q ≡ Ok y → length y ≡ 8
      answer_eight q y t = point_eight_lem (r.sizes s.map) y (laws.answers s.map q y t)

      way_moves : (e : Entry) (box : Bounds) (wrong : Option ℕ) → r.meaning s.map e.point ≡ Ok e.answer → length e.point ≡ 8 → (wrong ≡ None → Moved s.bounds e box) → Way (moves o r s strip log e box wrong)
      way_moves e box None t n h = answer e (Ok (Answered 1)) box t refl n (h refl)
      way_moves e box (Some i) t n h = answer e (Err (Side (suc i))) s.bounds t refl n same

      way_sided : (values : List V) (moved : Entry → Bounds → Bounds) (wrong : Entry → Option ℕ) → ((e : Entry) → Between s.bounds e.point → length e.point ≡ length e.answer → wrong e ≡ None → Moved s.bounds e (moved e s.bounds)) → Way (sided o r s strip log moved wrong values)
      way_sided values moved wrong right =
          way_point (point_in_box o r s (length strip) values) (λ q. with_answer o r s strip log q (λ e. moves o r s strip log e (moved e s.bounds) (wrong e)))
          (inside_unput s.bounds (point_named o r s (length strip) values) (unput_named (length strip) values))
          (λ q e. let at = in_box_lem values q e in
          way_answer q (λ e. moves o r s strip log e (moved e s.bounds) (wrong e))
          (λ y t. let x : Entry = record { point = q; answer = y } in
          way_moves x (moved x s.bounds) (wrong x) t at.0 (right x at.1 (at.0 ∙ sym (answer_eight q y t)))))

      pub way_raise : (values : List V) → Way (raised o r s strip log values)
      way_raise values = way_sided values floor_at (λ e. first_above e.point e.answer) (λ e between long none. up between (at_most_from e.point e.answer long none))

      pub way_lower : (values : List V) → Way (lowered o r s strip log values)
      way_lower values = way_sided values roof_at (λ e. first_above e.answer e.point) (λ e between long none. down between (at_most_from e.answer e.point (sym long) none))
