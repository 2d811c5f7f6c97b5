use Rattle.std.proofs.Common.{vec_items, ap, arith, tests, rules}
use Rattle.points.specs.Points.{size_of}
use Rattle.maps.specs.Response.{job_size}
use Rattle.maps.specs.JobLaws.{sizes_most}
use Rattle.maps.proofs.FromFn.{from_fn_eight}
use Rattle.maps.proofs.jobs.JobsMap.sizes.Goals as goal

pub returns : goal.returns
returns c =
    let self = c.args.self.now in
    let value =
    from_fn_eight _ _ (job_size (vec_items self.jobs)) (λ i y t h k. search (rules, tests)) c.from_fn.result c.from_fn.ensures.items in
    record {
      value = value;
      within = λ i h. omega (arith, ap (λ s. size_of s i) value, sizes_most (vec_items self.jobs) i h, self.sized);
    }
