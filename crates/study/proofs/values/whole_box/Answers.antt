use Rattle.std.proofs.Common.{◌≡◌, ◌-◌, ◌<◌, ℕ, get_or, replicate, None, ap₂, rules}
use Rattle.points.specs.Points.{size_of}
use Rattle.points.proofs.Eight.{eight_from}
use Rattle.bisection.proofs.Zeros.{zeros_lem}
use Rattle.study.proofs.values.whole_box.Goals as goal

pub returns : goal.returns
returns c =
    let floor : c.default.result ≡ record { at = replicate 8 0; footing = None } = ap₂ (λ ranks footing. record { at = ranks; footing = footing }) (zeros_lem c.default.result.at c.default.ensures.0) c.default.ensures.1 in
    let top : (k : ℕ) → k < 8 → get_or c.map.result k 0 ≡ size_of c.args.sizes.now k - 1 = λ k h. let m = c.map.ensures.items.at k 0 0 h in search rules in
    ap₂ (λ low high. record { floor = low; roof = record { at = high; footing = None } }) floor
    (eight_from (λ i. size_of c.args.sizes.now i - 1) c.map.result c.map.ensures.items.long top)
