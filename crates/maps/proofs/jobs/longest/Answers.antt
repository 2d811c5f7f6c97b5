use Rattle.std.proofs.Common.{◌≡◌, ◌+◌, max, fold, arith, rules}
use Rattle.std.proofs.iter.runs.Made.{chains}
use Rattle.maps.proofs.Slices.{longest_fold}
use Rattle.maps.specs.JobLaws.{longest_most, longest_some}
use Rattle.maps.proofs.jobs.longest.Goals as goal

pub returns : goal.returns
returns c =
    let folded : c.fold.result ≡ fold (λ s j. max s (j.limit + 2)) 1 c.args.jobs.now = search (rules, chains) in
    let most = longest_fold c.args.jobs.now 1 (omega arith) in
    record { value = omega (arith, folded, most, longest_some c.args.jobs.now); bound = omega (arith, folded, most, longest_most c.args.jobs.now) }
