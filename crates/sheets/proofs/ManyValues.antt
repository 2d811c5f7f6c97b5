-- The values of a line, one after the other.
use Rattle.std.proofs.Common.{◌≡◌, ℕ, suc, ◌+◌, ◌-◌, ◌<◌, ◌≤◌, true, false, cond, eqb, List, [], ◌∷◌, ◌++◌, length, Ok, sym, ap, ◌∙◌, arith}
use Rattle.sheets.specs.CallsBody.{more_values}
use Rattle.sheets.specs.Reading.{Reader, State, TellsOr, ◌>>=◌, and_then, give}
use Rattle.sheets.specs.declared.faults.Unread.{Unread}
use Rattle.sheets.proofs.Readings.{like_or, stops_or}

module _ {V : Type 0} (value : Reader V) (i : ℕ) (vs : List V) (s : State) where
  opened : i < 8 → more_values value (8 - i) vs s ≡ cond (eqb (length s.left) 0) (give vs) (value >>= λ v. more_values value (8 - (i + 1)) (vs ++ v ∷ [])) s
  opened h =
      let more : 8 - i ≡ suc (8 - (i + 1)) = omega arith in
      ap (λ n. more_values value n vs s) more

  -- the line ends
  pub values_end : i < 8 → true ≡ eqb (length s.left) 0 → more_values value (8 - i) vs s ≡ Ok (vs, s)
  values_end h t = opened h ∙ ap (λ b. cond b (give vs) (value >>= λ v. more_values value (8 - (i + 1)) (vs ++ v ∷ [])) s) (sym t)

  one_more : i < 8 → false ≡ eqb (length s.left) 0 → more_values value (8 - i) vs s ≡ and_then (value s) (λ v. more_values value (8 - (i + 1)) (vs ++ v ∷ []))
  one_more h t = opened h ∙ ap (λ b. cond b (give vs) (value >>= λ v. more_values value (8 - (i + 1)) (vs ++ v ∷ [])) s) (sym t)

  -- one more value is read, or has a fault
  pub values_go : i < 8 → false ≡ eqb (length s.left) 0 → (v : V) (s' : State) → value s ≡ Ok (v, s') → more_values value (8 - i) vs s ≡ more_values value (8 - (i + 1)) (vs ++ v ∷ []) s'
  values_go h t v s' e = one_more h t ∙ ap (λ r. and_then r (λ v. more_values value (8 - (i + 1)) (vs ++ v ∷ []))) e

  pub values_stop : i < 8 → false ≡ eqb (length s.left) 0 → (e : Unread) → TellsOr (value s) e → TellsOr (more_values value (8 - i) vs s) e
  values_stop h t e told = like_or _ _ e (one_more h t) (stops_or (value s) (λ v. more_values value (8 - (i + 1)) (vs ++ v ∷ [])) e told)

  -- there is no more room
  pub values_full : 8 ≤ i → more_values value (8 - i) vs s ≡ Ok (vs, s)
  values_full h =
      let none : 8 - i ≡ 0 = omega arith in
      ap (λ n. more_values value n vs s) none
