-- Raising and lowering: the same steps, up to the side that moves and to which of a point and its answer must be at most the other.
use Rattle.std.proofs.Common.{◌≡◌, ℕ, suc, List, [], length, Some, None, Ok, Err, Option, Result, sym, refl, ap, ◌∙◌}
use Rattle.chains.specs.Order.{Order}
use Rattle.points.specs.declared.Entry.{Entry}
use Rattle.maps.specs.Rules.{Rules, RulesLaws}
use Rattle.bisection.specs.declared.bounds.Bounds.{Bounds}
use Rattle.study.specs.Calls.{Call, Deed, answer_to, answered, deed, moves, point_in_box, sided, unless_wrong}
use Rattle.study.specs.History.{event}
use Rattle.study.specs.Law.{Accounted}
use Rattle.study.specs.Put.{PutOne, strip_told}
use Rattle.study.specs.Replies.{Reply}
use Rattle.study.specs.declared.reply.Refusal.{Refusal}
use Rattle.study.specs.declared.reply.Refusal.TheVariants.{Side}
use Rattle.study.specs.declared.reply.Report.TheVariants.{Answered}
use Rattle.study.specs.declared.state.Study.{Study}
use Rattle.study.proofs.Doing.{answers, unanswered, unnamed}

module _ {M V : Type 0} (o : Order M V) (r : Rules M) (laws : RulesLaws r) (s : Study M) (strip : List V) where
  -- the box moves, unless the answer lies on the wrong side of its point
  moves_refused : (e : Entry) (box : Bounds) (wrong : Option ℕ) (refusal : Refusal) → Err refusal ≡ unless_wrong wrong → moves o r s strip [] e box wrong ≡ answered o r s strip [] e (Err refusal) s.bounds
  moves_refused e box None refusal h = absurd cc
  moves_refused e box (Some i) refusal h =
      let is : Side (suc i) ≡ refusal = cc in
      ap (λ (x : Refusal). answered o r s strip [] e (Err x) s.bounds) is

  moves_right : (e : Entry) (box : Bounds) (wrong : Option ℕ) → Ok tt ≡ unless_wrong wrong → moves o r s strip [] e box wrong ≡ answered o r s strip [] e (Ok (Answered 1)) box
  moves_right e box None h = refl
  moves_right e box (Some i) h = absurd cc

  module _ (values : List V) (call : Call V) (moved : Entry → Bounds → Bounds) (wrong : Entry → Option ℕ) (does : deed o r s strip [] call ≡ sided o r s strip [] moved wrong values) where
    abbrev point : Result (List ℕ) Refusal
    point = point_in_box o r s (length strip) values

    abbrev next : Entry → Deed V
    next e = moves o r s strip [] e (moved e s.bounds) (wrong e)

    pub outside : (reply : Reply) (refusal : Refusal) → reply ≡ Err refusal → Err refusal ≡ point_in_box o r s (length strip) values → Accounted o r (event call s strip [] reply s strip [])
    outside = unnamed o r laws s strip [] call point next does

    module _ (q : List ℕ) (named : Ok q ≡ point_in_box o r s (length strip) values) (told : Result (List ℕ) Refusal) (t : Study M) (shown : List V) (is : told ≡ answer_to r s q) (put : PutOne o r s q t) (shows : shown ≡ strip_told o r s strip told) where
      pub untold : (reply : Reply) (refusal : Refusal) → reply ≡ Err refusal → told ≡ Err refusal → Accounted o r (event call s strip [] reply t shown [])
      untold = unanswered o r laws s strip [] call point next does q named told t shown is put shows

      -- what comes of its answer
      module _ (y : List ℕ) (told_is : told ≡ Ok y) where
        abbrev e : Entry
        e = record { point = q; answer = y }

        pub wrong_side : (reply : Reply) (refusal : Refusal) → reply ≡ Err refusal → Err refusal ≡ unless_wrong (wrong e) → Accounted o r (event call s strip [] reply t shown [])
        wrong_side reply refusal replies h =
            answers o r laws s strip [] call point next does q named told t shown is put shows y reply s.bounds t told_is
            (moves_refused e (moved e s.bounds) (wrong e) refusal h ∙ ap (λ x. answered o r s strip [] e x s.bounds) (sym replies)) put.box refl refl

        pub right_side : Ok tt ≡ unless_wrong (wrong e) → (u : Study M) → u.bounds ≡ moved e t.bounds → u.map ≡ t.map → u.left ≡ t.left → Accounted o r (event call s strip [] (Ok (Answered 1)) u shown [])
        right_side h u box same_map same_left =
            answers o r laws s strip [] call point next does q named told t shown is put shows y (Ok (Answered 1)) (moved e s.bounds) u told_is
            (moves_right e (moved e s.bounds) (wrong e) h) (box ∙ ap (moved e) put.box) same_map same_left
