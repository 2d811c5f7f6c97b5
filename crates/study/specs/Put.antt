-- How putting one question moves a study, and what its answer leaves on the strip.
use Rattle.std.specs.Prelude.{◌≡◌, ℕ, ◌+◌, List, length, take, Ok, Err, Result}
use Rattle.chains.specs.Order.{Order}
use Rattle.maps.specs.Rules.{Rules, SameOrder, SameRules}
use Rattle.study.specs.Calls.{put_now}
use Rattle.study.specs.History.{Leads}
use Rattle.study.specs.Values.{written}
use Rattle.study.specs.declared.reply.Refusal.{Refusal}
use Rattle.study.specs.declared.state.Study.{Study}

-- one is taken from what is left, if there is any, and the map moves by that question
pub record PutOne {M V : Type 0} (o : Order M V) (r : Rules M) (s : Study M) (q : List ℕ) (t : Study M) : Type 0 where
  pub box : t.bounds ≡ s.bounds
  pub left : t.left + length (put_now s q) ≡ s.left
  pub leads : Leads r s.map (put_now s q) t.map
  pub same : SameRules r s.map t.map
  pub same_order : SameOrder o s.map t.map

-- the strip holds the answer, if there is one
abbrev pub strip_told : {M V : Type 0} → Order M V → Rules M → Study M → List V → Result (List ℕ) Refusal → List V
strip_told o r s strip (Ok y) = written (o.member s.map) (take (r.dims s.map) y) strip
strip_told o r s strip (Err refusal) = strip
