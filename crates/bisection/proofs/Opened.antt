-- Levels that are opened one by one, over the levels that stood there.
use Rattle.std.proofs.Common.{◌≡◌, ℕ, zero, suc, ◌+◌, ◌<◌, ◌≤◌, min, List, [], ◌∷◌, ◌++◌, length, drop, set, sym, refl, ap, ◌∙◌, append_assoc, arith}
use Rattle.bisection.specs.Levels.{level_at, opened}
use Rattle.bisection.specs.Machine.{reopened}
use Rattle.bisection.specs.declared.bounds.Bounds.{Bounds}
use Rattle.bisection.specs.declared.level.Level.{Level}
use Rattle.bisection.proofs.Progress.{opened_many}
use Rattle.bisection.proofs.Steps.{reopened_within}
use Rattle.bisection.proofs.Written.{written}

-- the opened levels lie before those above them
pub opened_before : (b : Bounds) (n : ℕ) (above : List Level) → opened b n above ≡ opened b n [] ++ above
opened_before b zero above = refl
opened_before b (suc k) above =
    opened_before b k (level_at k b ∷ above)
    ∙ sym (append_assoc (opened b k []) (level_at k b ∷ []) above)
    ∙ ap (λ front. front ++ above) (sym (opened_before b k (level_at k b ∷ [])))

-- of the levels below j those up to k are opened
abbrev pub opened_to : Bounds → ℕ → ℕ → List Level → List Level
opened_to b k j old = opened b (min j (suc k)) (drop (min j (suc k)) old)

pub opened_one : (b : Bounds) (k j : ℕ) (old : List Level) → j ≤ k → j < length old → set (opened_to b k j old) j (level_at j b) ≡ opened_to b k (j + 1) old
opened_one b k j old h m =
    let here : min j (suc k) ≡ j = omega arith in
    let next : min (j + 1) (suc k) ≡ suc j = omega arith in
    rw (here, next, opened_before b j (drop j old))
    (written (opened b j []) old j (level_at j b) (omega (arith, opened_many b j [])) m
    ∙ sym (opened_before b j (level_at j b ∷ drop (suc j) old)))

pub opened_no_more : (b : Bounds) (k j : ℕ) (old : List Level) → k < j → opened_to b k j old ≡ opened_to b k (j + 1) old
opened_no_more b k j old h =
    let here : min j (suc k) ≡ suc k = omega arith in
    let next : min (j + 1) (suc k) ≡ suc k = omega arith in
    rw (here, next)

pub opened_last : (b : Bounds) (k j : ℕ) (old : List Level) → k < j → k < length old → opened_to b k j old ≡ reopened k b old
opened_last b k j old h m =
    let all : min j (suc k) ≡ suc k = omega arith in
    rw (all, reopened_within k b old m)
