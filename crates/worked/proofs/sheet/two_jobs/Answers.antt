use Rattle.std.proofs.Common.{rules}
use Rattle.worked.proofs.sheet.two_jobs.Goals as goal

pub returns : goal.returns
returns c =
    let first = rw c.unwrap-first.ensures at c.new.ensures in
    let second = rw c.unwrap-second.ensures at c.new-2.ensures in
    let panel = rw c.unwrap.ensures at c.new-3.ensures.made in
    record { step = panel.1.0; first = c.unwrap-first.result; second = c.unwrap-second.result; jobs = search rules; first_is = search rules; second_is = search rules }
