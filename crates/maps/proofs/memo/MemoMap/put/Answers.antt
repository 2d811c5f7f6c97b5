use Rattle.std.proofs.Common.{◌≡◌, sym, subst, rules}
use Rattle.maps.specs.Recall.{kept, stored}
use Rattle.maps.specs.Rules.{SameRules}
use Rattle.maps.specs.MemoLaws.{memo_same}
use Rattle.maps.proofs.memo.MemoMap.put.Goals as goal

pub returns-clause-same : goal.returns-clause-same
returns-clause-same g c =
    let r = g.M.Map.rules in
    let m = c.args.self.now in
    let below = c.put.ensures in
    let keeps : stored c.store.new.self ≡ kept (stored m) c.args.question (r.meaning m.map c.args.question) = search rules in
    memo_same r g.met.M.Map.rules_laws m _ c.args.question (subst (λ k. SameRules r m.map k) (sym c.store.ensures.map) below.same) keeps
