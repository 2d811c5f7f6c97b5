-- The rules of the jobs map say the same of a panel's jobs and of their plain terms.
use Rattle.std.proofs.Common.{◌≡◌, ℕ, suc, ◌+◌, min, max, List, [], ◌∷◌, map, take, drop, None, Some, Option, Ok, ◌*◌, sym, refl, ap, ap₂, ◌∙◌}
use Rattle.std.proofs.Math.Path.{fun_ext}
use Rattle.std.specs.List.{slice_get}
use Rattle.std.specs.Option.{option_map}
use Rattle.std.proofs.lemmas.List.{drop-map, take-map}
use Rattle.std.proofs.lemmas.Option.{slice_get-map}
use Rattle.points.specs.Points.{at_points, eight, rank_of}
use Rattle.maps.specs.JobRanges.{longest}
use Rattle.maps.specs.Response.{blocking, holdup, job_meaning, job_sizes, of_job, preemption, releases, response}
use Rattle.maps.specs.declared.jobs.job.Job.{Job}
use Rattle.sheets.specs.JobsBody.{Terms, terms_of}
use Rattle.transcript.specs.Panels.{longest_terms, of_terms, terms_blocking, terms_meaning, terms_preemption, terms_response, terms_sizes}

pub longest_of_terms : (js : List Job) → longest js ≡ longest_terms (map terms_of js)
longest_of_terms [] = refl
longest_of_terms (j ∷ js) = ap (max (j.limit + 2)) (longest_of_terms js)

blocking_of_terms : (js : List Job) (rs : List ℕ) → blocking js rs ≡ terms_blocking (map terms_of js) rs
blocking_of_terms [] rs = refl
blocking_of_terms (k ∷ ks) [] = refl
blocking_of_terms (k ∷ ks) (r ∷ rs) = ap (max (holdup k r)) (blocking_of_terms ks rs)

preemption_of_terms : (js : List Job) (r : ℕ) → preemption js r ≡ terms_preemption (map terms_of js) r
preemption_of_terms [] r = refl
preemption_of_terms (j ∷ js) r = ap (λ n. releases r j.period * j.run + n) (preemption_of_terms js r)

-- what holds of the job of a coordinate holds of its terms
job_or : (f : Terms → ℕ) (unused : ℕ) (js : List Job) (i : ℕ) → of_job (λ j. f (terms_of j)) unused (slice_get js i) ≡ of_terms f unused (slice_get (map terms_of js) i)
job_or f unused js i = at (slice_get js i) ∙ ap (of_terms f unused) (sym (slice_get-map terms_of js i))
  where
    at : (o : Option Job) → of_job (λ j. f (terms_of j)) unused o ≡ of_terms f unused (option_map terms_of o)
    at None = refl
    at (Some j) = refl

response_of_terms : (js : List Job) (p : List ℕ) (i : ℕ) → response js p i ≡ terms_response (map terms_of js) p i
response_of_terms js p i =
    let low = blocking_of_terms (drop (suc i) js) (drop (suc i) p) ∙ ap (λ ks. terms_blocking ks (drop (suc i) p)) (sym (drop-map terms_of (suc i) js)) in
    let high = preemption_of_terms (take i js) (rank_of p i) ∙ ap (λ ks. terms_preemption ks (rank_of p i)) (sym (take-map terms_of i js)) in
    ap₂ (λ b h. of_job (λ job. min (job.limit + 1) (job.run + b + h)) 0 (slice_get js i)) low high
    ∙ job_or (λ t. min (t.limit + 1) (t.run + terms_blocking (drop (suc i) (map terms_of js)) (drop (suc i) p) + terms_preemption (take i (map terms_of js)) (rank_of p i))) 0 js i

pub sizes_of_terms : (js : List Job) → job_sizes js ≡ terms_sizes (map terms_of js)
sizes_of_terms js = ap eight (fun_ext (job_or (λ t. t.limit + 2) 1 js))

pub meaning_of_terms : (js : List Job) → job_meaning js ≡ terms_meaning (map terms_of js)
meaning_of_terms js =
    let answers : response js ≡ terms_response (map terms_of js) = fun_ext (λ p. fun_ext (response_of_terms js p)) in
    ap₂ (λ sizes answer. at_points sizes (λ q. Ok (eight (answer q)))) (sizes_of_terms js) answers
