-- Written calls are read back, whatever the values are.
use Rattle.std.proofs.Common.{◌≡◌, ℕ, zero, suc, ◌+◌, ◌-◌, ◌^◌, ◌<◌, ◌≤◌, true, false, eqb, List, [], ◌∷◌, ◌++◌, map, length, Ok, codes, refl, ◌∙◌, arith}
use Rattle.std.specs.List.{AllByRecursion}
use Rattle.std.proofs.lemmas.List.{append_assoc, append-nil, length-append}
use Rattle.std.proofs.lemmas.Bool.{and_parts, leb-true, ne_eqb}
use Rattle.chains.specs.TickOrder.{within}
use Rattle.sheets.specs.CallsBody.{Asked, Planned, asks, call_line, call_named, calls_body, line_values, lowers, more_values, raises, searches}
use Rattle.sheets.specs.Forms.{form_of, name}
use Rattle.sheets.specs.Reading.{Reader}
use Rattle.sheets.specs.Written.{ProperCall, ProperPlan, call_words, calls_then, line_then, lines_then, spaced}
use Rattle.sheets.specs.declared.faults.Fault.TheVariants.{Form}
use Rattle.sheets.proofs.Spaced.{IsWord, all_in, written_line}
use Rattle.sheets.proofs.WrittenDues.{Back, any_name_written, at_words, ends_written, lines_written, number_line_written}

-- a number within a range is no larger than its end
pub small : (low high n : ℕ) → within low high n ≡ true → high < 10 ^ 10 → n < 10 ^ 10
small low high n w h = omega (arith, leb-true n high (and_parts _ _ w).1)

-- a name of the format is a word
abbrev pub Known : List ℕ → Type 0
Known w = IsWord w × (form_of w ≡ name w)

pub known : (w : List ℕ) → 0 < length w → all_in w ≡ true → form_of w ≡ name w → Known w
known w some all form = (record { some = some; bytes = all }, form)

spaced_some : (w : List ℕ) (ws : List (List ℕ)) → IsWord w → 0 < length (spaced (w ∷ ws))
spaced_some w [] h = h.some
spaced_some w (v ∷ ws) h = omega (arith, h.some, length-append w (32 ∷ spaced (v ∷ ws)))

ask_name : Known (codes "ask")
ask_name = known (codes "ask") (omega arith) refl refl

raise_name : Known (codes "raise")
raise_name = known (codes "raise") (omega arith) refl refl

lower_name : Known (codes "lower")
lower_name = known (codes "lower") (omega arith) refl refl

search_name : Known (codes "search")
search_name = known (codes "search") (omega arith) refl refl

allow_name : Known (codes "allow")
allow_name = known (codes "allow") (omega arith) refl refl

module _ {V : Type 0} (value : Reader V) (write : V → List ℕ) (Fits : V → Type 0) (is_word : (v : V) → Fits v → IsWord (write v)) (back : (v : V) (ws : List (List ℕ)) (rest : List ℕ) (line : ℕ) → Fits v → value (at_words (write v ∷ ws) rest line) ≡ Ok (v, at_words ws rest line)) where
  values_back : (vs before : List V) (room : ℕ) (rest : List ℕ) (line : ℕ) → length vs ≤ room → AllByRecursion Fits vs → more_values value room before (at_words (map write vs) rest line) ≡ Ok (before ++ vs, at_words [] rest line)
  values_back [] before zero rest line h a = rw (append-nil before)
  values_back [] before (suc room) rest line h a = rw (append-nil before)
  values_back (v ∷ vs) before zero rest line h a = absurd (omega arith)
  values_back (v ∷ vs) before (suc room) rest line h a =
      let longer = spaced_some (write v) (map write vs) (is_word v a.0) in
      let some : eqb (length (spaced (write v ∷ map write vs))) 0 ≡ false = ne_eqb _ 0 (λ e. omega (arith, e, longer)) in
      rw (some, back v (map write vs) rest line a.0) (values_back vs (before ++ v ∷ []) room rest line (omega arith) a.1 ∙ rw (append_assoc before (v ∷ []) vs))

  line_values_back : (vs : List V) (rest : List ℕ) (line : ℕ) → length vs ≤ 8 → AllByRecursion Fits vs → line_values value (at_words (map write vs) rest line) ≡ Ok (vs, at_words [] rest line)
  unfolding line_values
  line_values_back vs rest line h a = rw (values_back vs [] 8 rest line h a, ends_written rest line)

  value_words : (vs : List V) → AllByRecursion Fits vs → AllByRecursion IsWord (map write vs)
  value_words [] a = tt
  value_words (v ∷ vs) a = (is_word v a.0, value_words vs a.1)

  call_back : (a : Asked V) → ProperCall Fits a → (left more : List ℕ) (line : ℕ) → call_line value (record { left = left; rest = line_then (call_words write a) more; line = line }) ≡ Ok (a, at_words [] more (suc line))
  unfolding call_line call_named
  call_back (asks vs) p left more line =
      rw (written_line (codes "ask") (map write vs) left more line (ask_name.0, value_words vs p.1), any_name_written (map write vs) more (suc line) (codes "ask") ask_name.0 ask_name.1, line_values_back vs more (suc line) p.0 p.1)
  call_back (raises vs) p left more line =
      rw (written_line (codes "raise") (map write vs) left more line (raise_name.0, value_words vs p.1), any_name_written (map write vs) more (suc line) (codes "raise") raise_name.0 raise_name.1, line_values_back vs more (suc line) p.0 p.1)
  call_back (lowers vs) p left more line =
      rw (written_line (codes "lower") (map write vs) left more line (lower_name.0, value_words vs p.1), any_name_written (map write vs) more (suc line) (codes "lower") lower_name.0 lower_name.1, line_values_back vs more (suc line) p.0 p.1)
  call_back searches p left more line =
      rw (written_line (codes "search") [] left more line (search_name.0, tt), any_name_written [] more (suc line) (codes "search") search_name.0 search_name.1, ends_written more (suc line))

  calls_all : (calls before : List (Asked V)) → AllByRecursion (ProperCall Fits) calls → Back (λ _. call_line value) (call_words write) before calls
  calls_all [] before h = tt
  calls_all (a ∷ calls) before h = (call_back a h.0, calls_all calls (before ++ a ∷ []) h.1)

  pub calls_back : (plan : Planned V) → ProperPlan Fits plan → (line : ℕ) → calls_body value (suc (length plan.calls)) (at_words [] (calls_then write plan) line) ≡ Ok (plan, at_words [] [] (suc line + length plan.calls))
  unfolding calls_body
  calls_back plan p line =
      let allow = small 0 9999999 plan.allow p.allow (omega arith) in
      let rest : suc (length plan.calls) - 1 ≡ length plan.calls = omega arith in
      rw (number_line_written (codes "allow") Form 0 9999999 plan.allow [] (lines_then (call_words write) plan.calls []) line allow_name.0 allow_name.1 allow p.allow, rest, lines_written (λ _. call_line value) (call_words write) plan.calls [] [] (suc line) (calls_all plan.calls [] p.calls))
