-- A call depends on its map only by what a caller can tell of it.
use Rattle.std.proofs.Common.{◌≡◌, ℕ, List, Option, sym, refl, ap, ◌∙◌}
use Rattle.chains.specs.Order.{Order}
use Rattle.points.specs.Points.{Meaning}
use Rattle.points.specs.declared.Entry.{Entry}
use Rattle.maps.specs.Rules.{Rules}
use Rattle.transcript.proofs.Twins.{Alike}
use Rattle.bisection.specs.declared.bounds.Bounds.{Bounds}
use Rattle.study.specs.Calls.{Call, Deed, deed}
use Rattle.study.specs.Calls.Call.{ask, raise, lower, search}
use Rattle.study.specs.History.{made, whole_box}
use Rattle.study.specs.declared.state.Study.{Study}

-- what a call leaves over a map of one state
plain : {V : Type 0} → (ℕ → Option V) → (V → Option ℕ) → ℕ → List ℕ → Meaning → ℕ → Bounds → List V → List Entry → Call V → Deed V
plain member rank dims sizes F left bounds =
    deed {M = Unit {0}} (record { size = λ _. 0; member = λ _. member; rank = λ _. rank })
    (record { dims = λ _. dims; sizes = λ _. sizes; meaning = λ _. F; puts = λ _ _ _. Unit {0} })
    (record { map = tt; left = left; bounds = bounds })

deed_plain : {M V : Type 0} (o : Order M V) (r : Rules M) (s : Study M) (strip : List V) (log : List Entry) (call : Call V) → deed o r s strip log call ≡ plain (o.member s.map) (o.rank s.map) (r.dims s.map) (r.sizes s.map) (r.meaning s.map) s.left s.bounds strip log call
unfolding plain
deed_plain o r s strip log (ask values) = refl
deed_plain o r s strip log (raise values) = refl
deed_plain o r s strip log (lower values) = refl
deed_plain o r s strip log search = refl

-- over maps that cannot be told apart, with as much left and the same box, it leaves the same
pub deed_alike : {M N V : Type 0} (o : Order M V) (r : Rules M) (m : M) (o' : Order N V) (r' : Rules N) (n : N) → Alike o r m o' r' n → (left : ℕ) (box : Bounds) (strip : List V) (log : List Entry) (call : Call V) → deed o r (record { map = m; left = left; bounds = box }) strip log call ≡ deed o' r' (record { map = n; left = left; bounds = box }) strip log call
deed_alike o r m o' r' n a left box strip log call =
    deed_plain o r (record { map = m; left = left; bounds = box }) strip log call
    ∙ (λ i. plain (a.member i) (a.rank i) (a.dims i) (a.sizes i) (a.meaning i) left box strip log call)
    ∙ sym (deed_plain o' r' (record { map = n; left = left; bounds = box }) strip log call)

-- and so it does on newly made studies of them
pub new_alike : {M N V : Type 0} (o : Order M V) (r : Rules M) (m : M) (o' : Order N V) (r' : Rules N) (n : N) → Alike o r m o' r' n → (allowance : ℕ) (strip : List V) (log : List Entry) (call : Call V) → deed o r (made r m allowance) strip log call ≡ deed o' r' (made r' n allowance) strip log call
new_alike o r m o' r' n a allowance strip log call =
    deed_alike o r m o' r' n a allowance (whole_box (r.sizes m)) strip log call
    ∙ ap (λ sizes. deed o' r' (record { map = n; left = allowance; bounds = whole_box sizes }) strip log call) a.sizes
