-- The jobs map keeps the laws of a map.
use Rattle.std.specs.Prelude.{◌≡◌, ℕ, zero, suc, ◌+◌, ◌<◌, ◌≤◌, min, true, List, [], ◌∷◌, length, Some, None, Ok, Err, vec_items, Option}
use Rattle.std.proofs.Common.{ap, ◌∙◌, arith}
use Rattle.std.specs.List.{slice_get}
use Rattle.std.proofs.lemmas.Option.{slice_get_past}
use Rattle.points.specs.Points.{eight, is_point, size_of}
use Rattle.points.specs.declared.Fault.{Fault}
use Rattle.points.proofs.Eight.{eight_at, eight_length, eight_point}
use Rattle.points.proofs.Guarded.{answered, faulted, no_point}
use Rattle.maps.specs.JobRanges.{longest}
use Rattle.maps.specs.Response.{job_meaning, job_rules, job_size, job_sizes, of_job, response}
use Rattle.maps.specs.Rules.{RulesLaws}
use Rattle.maps.specs.declared.jobs.job.Job.{Job}

-- an answer is below the size, whatever the time that it caps
capped : (time : Job → ℕ) (o : Option Job) → of_job (λ job. min (job.limit + 1) (time job)) 0 o < of_job (λ job. job.limit + 2) 1 o
capped time None = omega arith
capped time (Some job) = omega arith

some_size : (o : Option Job) → 1 ≤ of_job (λ job. job.limit + 2) 1 o
some_size None = omega arith
some_size (Some job) = omega arith

-- a size is at most the largest
size_most : (jobs : List Job) (i : ℕ) → job_size jobs i ≤ longest jobs
size_most [] i = omega arith
size_most (j ∷ js) zero = omega arith
size_most (j ∷ js) (suc i) = omega (arith, size_most js i)

pub longest_some : (jobs : List Job) → 1 ≤ longest jobs
longest_some [] = omega arith
longest_some (j ∷ js) = omega arith

pub longest_most : (jobs : List Job) → longest jobs ≤ 1000002
longest_most [] = omega arith
longest_most (j ∷ js) = omega (arith, longest_most js, j.limit_most, j.period_most)

pub sizes_most : (jobs : List Job) (i : ℕ) → i < 8 → size_of (job_sizes jobs) i ≤ longest jobs
sizes_most jobs i h = rw (eight_at (job_size jobs) i h) (size_most jobs i)

module _ (jobs : List Job) where
  sizes_some : (i : ℕ) → i < 8 → 1 ≤ size_of (job_sizes jobs) i
  sizes_some i h = rw (eight_at (job_size jobs) i h) (some_size (slice_get jobs i))

  sizes_unused : (i : ℕ) → length jobs ≤ i → i < 8 → size_of (job_sizes jobs) i ≡ 1
  sizes_unused i past h = eight_at (job_size jobs) i h ∙ ap (of_job (λ job. job.limit + 2) 1) (slice_get_past jobs i past)

  pub job_answers : (q y : List ℕ) → job_meaning jobs q ≡ Ok y → is_point (job_sizes jobs) y ≡ true
  job_answers q y e =
      let given = (answered (job_sizes jobs) (λ p. Ok (eight (response jobs p))) q y e).1 in
      let same : eight (response jobs q) ≡ y = cc in
      rw (← same) (eight_point (job_size jobs) (response jobs q) (λ i. capped _ (slice_get jobs i)))

  job_faults : (q : List ℕ) (f : Fault) → job_meaning jobs q ≡ Err f → (1 ≤ f.cause) × (f.cause ≤ 255) × (f.depth ≤ 255)
  job_faults q f e =
      faulted (job_sizes jobs) (λ p. Ok (eight (response jobs p))) q (λ g. (1 ≤ g.cause) × (g.cause ≤ 255) × (g.depth ≤ 255)) f (omega arith, omega arith, omega arith)
      (λ g none. let z : ◌≡◌ {A = ℕ} 0 1 = cc in absurd (omega arith)) e

pub job_laws : RulesLaws job_rules
job_laws = record {
  counted = λ m. (m.some, m.most);
  eight = λ m. eight_length (job_size (vec_items m.jobs));
  some = λ m. sizes_some (vec_items m.jobs);
  unused = λ m i past h. sizes_unused (vec_items m.jobs) i (omega (arith, m.jobs.ok.0)) h;
  answers = λ m. job_answers (vec_items m.jobs);
  faults = λ m. job_faults (vec_items m.jobs);
  outsides = λ m q t. no_point (job_sizes (vec_items m.jobs)) (λ p. Ok (eight (response (vec_items m.jobs) p))) q t;
}
