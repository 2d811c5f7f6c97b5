-- A number that was read lies in its range.
use Rattle.std.proofs.Common.{◌≡◌, ℕ, Bool, true, false, cond, List, Ok, Err, codes, Result, refl, ap, subst}
use Rattle.chains.specs.TickOrder.{within}
use Rattle.std.specs.Str.{bytes_eq}
use Rattle.sheets.specs.Contents.{body_line, body_named, counted}
use Rattle.sheets.specs.Dues.{any_name, any_number, line_ends, named, number_line, numbered}
use Rattle.sheets.specs.Lines.{next_line}
use Rattle.sheets.specs.Reading.{Reader, State, Told, ◌>>=◌, and_then, give, refuse}
use Rattle.sheets.specs.declared.faults.Fault.{Fault}
use Rattle.sheets.specs.declared.faults.Fault.TheVariants.{Range, Contents as Wrong}
use Rattle.sheets.specs.declared.contents.Body.{Body}
use Rattle.sheets.specs.declared.contents.Body.TheVariants.{Jobs, Rows}

-- what a passed test gave is what was tested
passed : (n m : ℕ) (t : ℕ → Bool) (b : Bool) (s s' : State) → t n ≡ b → cond b (give n) (refuse Range) s ≡ Ok (m, s') → t m ≡ true
passed n m t true s s' e h = let same : ◌≡◌ {A = ℕ × State} (n, s) (m, s') = cc in subst (λ p. t p.0 ≡ true) same e
passed n m t false s s' e h = absurd (cc)

in_range_lem : (d : Result (ℕ × State) Told) (t : ℕ → Bool) (m : ℕ) (s' : State) → and_then d (λ n. cond (t n) (give n) (refuse Range)) ≡ Ok (m, s') → t m ≡ true
in_range_lem (Ok p) t m s' h = passed p.0 m t (t p.0) p.1 s' refl h
in_range_lem (Err e) t m s' h = absurd (cc)

pub number_range : (low high : ℕ) (s : State) (n : ℕ) (s' : State) → numbered low high s ≡ Ok (n, s') → within low high n ≡ true
unfolding numbered
number_range low high s n s' h = in_range_lem (any_number s) (within low high) n s' h

-- what is given in the end was read in a step that keeps to a range
module _ {X : Type 0} (P : X → Type 0) where
  pub step_kept : {Y : Type 0} (d : Result (Y × State) Told) (next : Y → Reader X) (x : X) (s' : State) → ((y : Y) (s : State) → next y s ≡ Ok (x, s') → P x) → and_then d next ≡ Ok (x, s') → P x
  step_kept (Ok p) next x s' each h = each p.0 p.1 h
  step_kept (Err e) next x s' each h = absurd (cc)

  pub step_gives : (d : Result (X × State) Told) (next : X → Reader X) (x : X) (s' : State) → ((y : X) (s : State) → d ≡ Ok (y, s) → P y) → ((y : X) (s : State) → next y s ≡ Ok (x, s') → y ≡ x) → and_then d next ≡ Ok (x, s') → P x
  step_gives (Ok p) next x s' each same h = subst P (same p.0 p.1 h) (each p.0 p.1 refl)
  step_gives (Err e) next x s' each same h = absurd (cc)

-- the last steps of a line give what was read
ends_same : {X : Type 0} (d : Result (Unit {0} × State) Told) (y x : X) (s' : State) → and_then d (λ _. give y) ≡ Ok (x, s') → y ≡ x
ends_same (Ok p) y x s' h = let same : ◌≡◌ {A = _ × State} (y, p.1) (x, s') = cc in ap (λ q. q.0) same
ends_same (Err e) y x s' h = absurd (cc)

-- the number of such a line lies in its range
pub line_range : (due : List ℕ) (wrong : Fault) (low high : ℕ) (s : State) (n : ℕ) (s' : State) → number_line due wrong low high s ≡ Ok (n, s') → within low high n ≡ true
unfolding number_line
line_range due wrong low high s n s' h =
    let P : ℕ → Type 0 = λ m. within low high m ≡ true in
    step_kept P (next_line s) _ n s'
    (λ _ t. step_kept P (named due wrong t) _ n s' (λ _ u. step_gives P (numbered low high u) _ n s' (λ m v e. number_range low high u m v e) (λ m v. ends_same (line_ends v) m n s')))
    h

body_if : (body : Body) (s s' : State) (a b : Bool) → cond a (numbered 2 9 >>= λ lines. give (Jobs lines)) (cond b (numbered 1 4097 >>= λ lines. give (Rows lines)) (refuse Wrong)) s ≡ Ok (body, s') → counted body ≡ true
body_if body s s' true b h = jobs_in (numbered 2 9 s) (number_range 2 9 s) h
  where
    jobs_in : (d : Result (ℕ × State) Told) → ((n : ℕ) (t : State) → d ≡ Ok (n, t) → within 2 9 n ≡ true) → and_then d (λ lines. give (Jobs lines)) ≡ Ok (body, s') → counted body ≡ true
    jobs_in (Ok p) each h = let same : ◌≡◌ {A = Body × State} (Jobs p.0, p.1) (body, s') = cc in subst (λ q. counted q.0 ≡ true) same (each p.0 p.1 refl)
    jobs_in (Err e) each h = absurd (cc)
body_if body s s' false true h = rows_in (numbered 1 4097 s) (number_range 1 4097 s) h
  where
    rows_in : (d : Result (ℕ × State) Told) → ((n : ℕ) (t : State) → d ≡ Ok (n, t) → within 1 4097 n ≡ true) → and_then d (λ lines. give (Rows lines)) ≡ Ok (body, s') → counted body ≡ true
    rows_in (Ok p) each h = let same : ◌≡◌ {A = Body × State} (Rows p.0, p.1) (body, s') = cc in subst (λ q. counted q.0 ≡ true) same (each p.0 p.1 refl)
    rows_in (Err e) each h = absurd (cc)
body_if body s s' false false h = absurd (cc)

pub body_range : (s : State) (body : Body) (s' : State) → body_line s ≡ Ok (body, s') → counted body ≡ true
unfolding body_line body_named
body_range s body s' h =
    let P : Body → Type 0 = λ b. counted b ≡ true in
    step_kept P (next_line s) _ body s'
    (λ _ t. step_kept P (any_name t) _ body s' (λ name u. step_gives P (body_named name u) _ body s' (λ b v e. body_if b u v (bytes_eq name (codes "jobs")) (bytes_eq name (codes "rows")) e) (λ b v. ends_same (line_ends v) b body s')))
    h
