-- Scans of bytes from the left, step by step.
use Rattle.std.proofs.Common.{◌≡◌, ◌==◌, ℕ, suc, ◌+◌, ◌-◌, ◌*◌, ◌<◌, ◌≤◌, Bool, true, false, not, ◌&&◌, cond, List, [], ◌∷◌, length, get_or, drop, Some, None, unwrap_or, nat_lt, refl, ap, ◌∙◌, arith}
use Rattle.std.proofs.lemmas.Bool.Decides.{nat_tests}
use Rattle.std.proofs.lemmas.List.Sums.{prefix_len-le-length}
use Rattle.std.specs.List.{list_all, position, position_or_len}
use Rattle.std.proofs.lemmas.List.{drop_more, drop_all}
use Rattle.sheets.specs.Classes.{class_of, same_class}
use Rattle.sheets.specs.Forms.{all_of, number_after}
use Rattle.sheets.specs.Lines.{goes_on, neat, up_to}
use Rattle.sheets.specs.declared.classes.Class.{Class}

-- each byte is of this class
pub all_is : (class : Class) (xs : List ℕ) → list_all (λ b. same_class (class_of b) class) xs ≡ all_of class xs
all_is class [] = refl
all_is class (b ∷ bs) = ap (λ t. same_class (class_of b) class && t) (all_is class bs)

pub number_goes : (n : ℕ) (xs : List ℕ) (i : ℕ) → i < length xs → number_after n (drop i xs) ≡ number_after (n * 10 + (get_or xs i 0 - 48)) (drop (i + 1) xs)
number_goes n xs i h = rw (drop_more xs i 0 h)

pub number_ends : (n : ℕ) (xs : List ℕ) (i : ℕ) → length xs ≤ i → number_after n (drop i xs) ≡ n
number_ends n xs i h = rw (drop_all i xs h)

-- the place of the first stop, or the end
up_is : (stop : ℕ) (xs : List ℕ) → position_or_len (λ b. b == stop) xs ≡ up_to stop xs
up_is stop [] = refl
up_is stop (b ∷ bs) = by_first (b == stop) (up_is stop bs)
  where
    by_first : (t : Bool) → position_or_len (λ b. b == stop) bs ≡ up_to stop bs → cond (not t) (1 + position_or_len (λ b. b == stop) bs) 0 ≡ cond t 0 (suc (up_to stop bs))
    by_first true e = refl
    by_first false e = omega (arith, e)

found_or : (n k : ℕ) → n ≤ k → unwrap_or (cond (nat_lt n k) (Some n) None) k ≡ n
found_or n k h = grind (arith, nat_tests)

pub up_found : (stop : ℕ) (xs : List ℕ) → unwrap_or (position (λ b. b == stop) xs) (length xs) ≡ up_to stop xs
up_found stop xs = found_or _ _ (prefix_len-le-length (λ b. not (b == stop)) xs) ∙ up_is stop xs

pub neat_stops : (due : Bool) (xs : List ℕ) (i : ℕ) → i < length xs → goes_on (class_of (get_or xs i 0)) due ≡ None → neat due (drop i xs) ≡ false
neat_stops due xs i h e = rw (drop_more xs i 0 h, e)

pub neat_goes : (due next : Bool) (xs : List ℕ) (i : ℕ) → i < length xs → goes_on (class_of (get_or xs i 0)) due ≡ Some next → neat due (drop i xs) ≡ neat next (drop (i + 1) xs)
neat_goes due next xs i h e = rw (drop_more xs i 0 h, e)

pub neat_ends : (due : Bool) (xs : List ℕ) (i : ℕ) → length xs ≤ i → neat due (drop i xs) ≡ not due
neat_ends due xs i h = rw (drop_all i xs h)
