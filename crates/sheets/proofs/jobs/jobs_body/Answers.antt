use Rattle.std.proofs.Common.{◌-◌, [], map, vec_items, vec_len, arith}
use Rattle.std.proofs.lemmas.List.{length-map}
use Rattle.sheets.specs.JobsBody.{job_line, terms_of}
use Rattle.sheets.proofs.JobRead.{panel_fits}
use Rattle.sheets.proofs.ManyLines.{many_count}
use Rattle.sheets.proofs.Ranges.{line_range}
use Rattle.sheets.proofs.jobs.jobs_body.Goals as goal

pub unwrap-requires : goal.unwrap-requires
unwrap-requires c =
    let jobs = c.in_ok-jobs.jobs in
    let items = vec_items jobs in
    let counted = many_count (λ _. job_line) (c.args.count - 1) [] (map terms_of items) _ _ c.in_ok-jobs.ensures in
    panel_fits c.in_ok-step.step c.args.count (vec_len jobs) _ _ (line_range _ _ _ _ _ _ _ c.in_ok-step.ensures) c.requires (omega (arith, counted, length-map items terms_of, jobs.ok.0)) c.new.ensures.made
