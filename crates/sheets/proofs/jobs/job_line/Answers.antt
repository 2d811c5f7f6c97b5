use Rattle.std.proofs.Common.{Err, ap, ◌∙◌}
use Rattle.std.specs.Result.{result_or}
use Rattle.sheets.specs.JobsBody.{job_line}
use Rattle.sheets.specs.Reading.{state_of}
use Rattle.sheets.proofs.JobRead.{in_ranges, job_read, job_unread}
use Rattle.sheets.proofs.Readings.{passed_on, stops}
use Rattle.sheets.proofs.jobs.job_line.Goals as goal

pub returns-in_err-job : goal.returns-in_err-job
unfolding job_line
returns-in_err-job c =
    let ranges = in_ranges _ _ _ _ _ _ _ _ _ _ _ _ c.in_ok-run.ensures c.in_ok-period.ensures c.in_ok-limit.ensures c.in_ok-hold.ensures in
    let refused = job_unread _ _ _ c.in_ok-hold.hold c.in_ok-mark.mark (state_of c.mark.new.self) c.new.result c.in_err-job.field-0.0 ranges c.new.ensures (c.in_err-job.ensures ∙ ap (λ u. result_or c.new.result (Err u)) c.bad.ensures) in
    passed_on _ _ _ _ _ c.from_residual-in_err-job.ensures.1
    (rw (c.in_ok-next_line.ensures, c.in_ok-name.ensures, c.in_ok-run.ensures, c.in_ok-period.ensures, c.in_ok-limit.ensures, c.in_ok-hold.ensures, c.in_ok-mark.ensures) (stops _ _ _ refused))

pub returns-in_err-line_end : goal.returns-in_err-line_end
unfolding job_line
returns-in_err-line_end c =
    let ranges = in_ranges _ _ _ _ _ _ _ _ _ _ _ _ c.in_ok-run.ensures c.in_ok-period.ensures c.in_ok-limit.ensures c.in_ok-hold.ensures in
    let read = job_read _ _ _ c.in_ok-hold.hold c.in_ok-mark.mark (state_of c.mark.new.self) c.new.result c.bad.result c.in_ok-job.job ranges c.new.ensures c.in_ok-job.ensures in
    passed_on _ _ _ _ _ c.from_residual-in_err-line_end.ensures.1
    (rw (c.in_ok-next_line.ensures, c.in_ok-name.ensures, c.in_ok-run.ensures, c.in_ok-period.ensures, c.in_ok-limit.ensures, c.in_ok-hold.ensures, c.in_ok-mark.ensures, read.0) (stops _ _ _ c.in_err-line_end.ensures))

pub returns : goal.returns
unfolding job_line
returns c =
    let ranges = in_ranges _ _ _ _ _ _ _ _ _ _ _ _ c.in_ok-run.ensures c.in_ok-period.ensures c.in_ok-limit.ensures c.in_ok-hold.ensures in
    let read = job_read _ _ _ c.in_ok-hold.hold c.in_ok-mark.mark (state_of c.mark.new.self) c.new.result c.bad.result c.in_ok-job.job ranges c.new.ensures c.in_ok-job.ensures in
    rw (c.in_ok-next_line.ensures, c.in_ok-name.ensures, c.in_ok-run.ensures, c.in_ok-period.ensures, c.in_ok-limit.ensures, c.in_ok-hold.ensures, c.in_ok-mark.ensures, read.0, c.in_ok-line_end.ensures, read.1)
