use Rattle.sheets.proofs.Readings.{takes_read}
use Rattle.sheets.proofs.jobs.JobLine.read.Goals as goal

pub returns : goal.returns
returns c = takes_read _ _ _ _ c.job_line.ensures
