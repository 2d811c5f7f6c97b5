-- Several lines of one kind, one after the other.
use Rattle.std.proofs.Common.{◌≡◌, ℕ, zero, suc, ◌+◌, ◌-◌, ◌<◌, ◌≤◌, List, [], ◌∷◌, ◌++◌, length, Ok, Err, Result, ap, ◌∙◌, arith}
use Rattle.std.proofs.lemmas.List.{length_push}
use Rattle.sheets.specs.Many.{more_lines}
use Rattle.sheets.specs.Reading.{Reader, State, TellsOr, Told, and_then}
use Rattle.sheets.specs.declared.faults.Unread.{Unread}
use Rattle.sheets.proofs.Readings.{like_or, stops_or}

module _ {X : Type 0} (kind : List X → Reader X) (lines i : ℕ) (xs : List X) (s : State) where
  one_more : i < lines → more_lines kind (lines - i) xs s ≡ and_then (kind xs s) (λ x. more_lines kind (lines - (i + 1)) (xs ++ x ∷ []))
  one_more h =
      let more : lines - i ≡ suc (lines - (i + 1)) = omega arith in
      ap (λ n. more_lines kind n xs s) more

  -- one more line is read
  pub more_goes : i < lines → (x : X) (s' : State) → kind xs s ≡ Ok (x, s') → more_lines kind (lines - i) xs s ≡ more_lines kind (lines - (i + 1)) (xs ++ x ∷ []) s'
  more_goes h x s' e = one_more h ∙ ap (λ r. and_then r (λ x. more_lines kind (lines - (i + 1)) (xs ++ x ∷ []))) e

  -- one more line has a fault
  pub more_stops : i < lines → (e : Unread) → TellsOr (kind xs s) e → TellsOr (more_lines kind (lines - i) xs s) e
  more_stops h e t = like_or _ _ e (one_more h) (stops_or (kind xs s) (λ x. more_lines kind (lines - (i + 1)) (xs ++ x ∷ [])) e t)

  -- all lines are read
  pub more_ends : lines ≤ i → more_lines kind (lines - i) xs s ≡ Ok (xs, s)
  more_ends h =
      let none : lines - i ≡ 0 = omega arith in
      ap (λ n. more_lines kind n xs s) none

given_same : {X : Type 0} (xs ys : List X) (s s' : State) → ◌≡◌ {A = Result (List X × State) Told} (Ok (xs, s)) (Ok (ys, s')) → xs ≡ ys
given_same {X} xs ys s s' h = let same : ◌≡◌ {A = List X × State} (xs, s) (ys, s') = cc in ap (λ p. p.0) same

-- so many lines give so many items
pub many_count : {X : Type 0} (kind : List X → Reader X) (lines : ℕ) (xs ys : List X) (s s' : State) → more_lines kind lines xs s ≡ Ok (ys, s') → length ys ≡ length xs + lines
many_count kind zero xs ys s s' h = rw (← given_same xs ys s s' h) (omega arith)
many_count {X} kind (suc lines) xs ys s s' h = by_first (kind xs s) (λ x t. many_count kind lines (xs ++ x ∷ []) ys t s') h
  where
    by_first : (d : Result (X × State) Told) → ((x : X) (t : State) → more_lines kind lines (xs ++ x ∷ []) t ≡ Ok (ys, s') → length ys ≡ length (xs ++ x ∷ []) + lines) → and_then d (λ x. more_lines kind lines (xs ++ x ∷ [])) ≡ Ok (ys, s') → length ys ≡ length xs + suc lines
    by_first (Ok p) rest h = omega (arith, rest p.0 p.1 h, length_push xs p.0)
    by_first (Err e) rest h = absurd (cc)
