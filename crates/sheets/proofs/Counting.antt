-- Lines are counted as they are read: those read and those left are those of the file, so no fault is told further than one past them.
use Rattle.std.proofs.Common.{◌≡◌, ℕ, zero, suc, ◌+◌, ◌<◌, ◌≤◌, Bool, true, false, cond, ◌&&◌, eqb, ltb, List, [], ◌∷◌, ◌++◌, length, take, drop, Some, None, Ok, Err, Option, Result, sym, refl, ap, subst, arith}
use Rattle.std.specs.Str.{bytes_eq}
use Rattle.std.proofs.lemmas.Bool.{ltb-true}
use Rattle.chains.specs.TickOrder.{within}
use Rattle.sheets.specs.Dues.{any_letters, any_mark, any_name, any_number, end_from, line_ends, named, number_line, numbered, of_form}
use Rattle.sheets.specs.Forms.{letters_of, mark_of, name_of, number_of}
use Rattle.sheets.specs.Lines.{file_end_from, file_ends, line_from, neat, next_line, up_to}
use Rattle.sheets.specs.LinesTold.{lines_in}
use Rattle.sheets.specs.Many.{many_lines, more_lines}
use Rattle.sheets.specs.Reading.{Reader, State, Told, ◌>>=◌, ◌>>◌, and_then, give, refuse}
use Rattle.sheets.specs.Words.{word_due, word_from}
use Rattle.sheets.specs.declared.faults.Fault.{Fault}
use Rattle.sheets.specs.declared.faults.Fault.TheVariants.{Text, Contents, Range, Form as Wrong}

-- the lines up to the present one, and those after it
abbrev pub count : State → ℕ
count s = s.line + lines_in s.rest

-- what a reader leaves, or the line that it tells, agrees with the count
abbrev pub Counts : {X : Type 0} → ℕ → Result (X × State) Told → Type 0
Counts n (Ok p) = count p.1 ≡ n
Counts n (Err e) = e.1 ≤ suc n

abbrev pub Counting : {X : Type 0} → Reader X → Type 0
Counting reader = (s : State) → Counts (count s) (reader s)

then_counts : {X Y : Type 0} (n : ℕ) (d : Result (X × State) Told) (next : X → Reader Y) → Counts n d → ((x : X) → Counting (next x)) → Counts n (and_then d next)
then_counts n (Ok p) next h each = subst (λ m. Counts m (next p.0 p.1)) h (each p.0 p.1)
then_counts n (Err e) next h each = h

pub bind : {X Y : Type 0} (first : Reader X) (next : X → Reader Y) → Counting first → ((x : X) → Counting (next x)) → Counting (first >>= next)
bind first next h each s = then_counts (count s) (first s) next (h s) each

pub seq : {X Y : Type 0} (first : Reader X) (next : Reader Y) → Counting first → Counting next → Counting (first >> next)
seq first next h k s = then_counts (count s) (first s) (λ _. next) (h s) (λ _. k)

pub giving : {X : Type 0} (x : X) → Counting (give x)
giving x s = refl

pub refusing : (X : Type 0) (f : Fault) → Counting (refuse {X = X} f)
refusing X f s = omega arith

pub choosing : {X : Type 0} (b : Bool) (then' else' : Reader X) → Counting then' → Counting else' → Counting (cond b then' else')
choosing true then' else' h k = h
choosing false then' else' h k = k

-- one line end less is left after the first line
one_less_if : (b : ℕ) (bs : List ℕ) (t : Bool) → (up_to 10 bs < length bs → lines_in bs ≡ suc (lines_in (drop (suc (up_to 10 bs)) bs))) → cond t 0 (suc (up_to 10 bs)) < suc (length bs) → cond t (suc (lines_in bs)) (lines_in bs) ≡ suc (lines_in (drop (suc (cond t 0 (suc (up_to 10 bs)))) (b ∷ bs)))
one_less_if b bs true rest h = refl
one_less_if b bs false rest h = rest (omega arith)

one_less : (bs : List ℕ) → up_to 10 bs < length bs → lines_in bs ≡ suc (lines_in (drop (suc (up_to 10 bs)) bs))
one_less [] h = absurd (omega arith)
one_less (b ∷ bs) h = one_less_if b bs (eqb b 10) (one_less bs) h

cut_counts : (n : ℕ) (bs : List ℕ) (line : ℕ) (t u : Bool) → ltb n (length bs) ≡ t → n ≡ up_to 10 bs → Counts {X = Unit {0}} (line + lines_in bs) (cond (t && u) (Ok (tt {0}, record { left = take n bs; rest = drop (suc n) bs; line = suc line })) (Err (Text, suc line)))
cut_counts n bs line true true e i =
    let less : n < length bs = ltb-true n (length bs) e in
    let ends = one_less bs (subst (λ k. k < length bs) i less) in
    let same : lines_in (drop (suc (up_to 10 bs)) bs) ≡ lines_in (drop (suc n) bs) = ap (λ k. lines_in (drop (suc k) bs)) (sym i) in
    omega (arith, ends, same)
cut_counts n bs line true false e i = omega arith
cut_counts n bs line false u e i = omega arith

line_counts : (bs : List ℕ) (line : ℕ) → Counts (line + lines_in bs) (line_from bs (suc line))
line_counts [] line = omega arith
line_counts (b ∷ bs) line = cut_counts (up_to 10 (b ∷ bs)) (b ∷ bs) line (ltb (up_to 10 (b ∷ bs)) (length (b ∷ bs))) (neat true (take (up_to 10 (b ∷ bs)) (b ∷ bs))) refl refl

pub next_counts : Counting next_line
unfolding next_line
next_counts s = line_counts s.rest s.line

word_from_lem : (left : List ℕ) (s : State) → Counts (count s) (word_from left s)
word_from_lem [] s = omega arith
word_from_lem (b ∷ bs) s = refl

word_counts : Counting word_due
unfolding word_due
word_counts s = word_from_lem s.left s

form_counts : {X : Type 0} (o : Option X) → Counting (of_form o)
form_counts {X} None = refusing X Wrong
form_counts (Some x) = giving x

pub name_counts : Counting any_name
unfolding any_name
name_counts = bind word_due (λ form. of_form (name_of form)) word_counts (λ form. form_counts (name_of form))

number_counts : Counting any_number
unfolding any_number
number_counts = bind word_due (λ form. of_form (number_of form)) word_counts (λ form. form_counts (number_of form))

pub letters_counts : Counting any_letters
unfolding any_letters
letters_counts = bind word_due (λ form. of_form (letters_of form)) word_counts (λ form. form_counts (letters_of form))

pub mark_counts : Counting any_mark
unfolding any_mark
mark_counts = bind word_due (λ form. of_form (mark_of form)) word_counts (λ form. form_counts (mark_of form))

pub named_counts : (due : List ℕ) (wrong : Fault) → Counting (named due wrong)
unfolding named
named_counts due wrong = bind any_name _ name_counts (λ text. choosing (bytes_eq text due) (give (tt {0})) (refuse wrong) (giving (tt {0})) (refusing (Unit {0}) wrong))

pub numbered_counts : (low high : ℕ) → Counting (numbered low high)
unfolding numbered
numbered_counts low high = bind any_number _ number_counts (λ n. choosing (within low high n) (give n) (refuse Range) (giving n) (refusing ℕ Range))

end_from_lem : (left : List ℕ) (s : State) → Counts (count s) (end_from left s)
end_from_lem [] s = refl
end_from_lem (b ∷ bs) s = omega arith

pub ends_counts : Counting line_ends
unfolding line_ends
ends_counts s = end_from_lem s.left s

file_from : (rest : List ℕ) → Counting (file_end_from rest)
file_from [] = giving (tt {0})
file_from (b ∷ bs) = seq next_line (refuse Contents) next_counts (refusing (Unit {0}) Contents)

pub file_counts : Counting file_ends
unfolding file_ends
file_counts s = file_from s.rest s

pub number_line_counts : (due : List ℕ) (wrong : Fault) (low high : ℕ) → Counting (number_line due wrong low high)
unfolding number_line
number_line_counts due wrong low high =
    seq next_line _ next_counts
    (seq (named due wrong) _ (named_counts due wrong)
    (bind (numbered low high) _ (numbered_counts low high) (λ n. seq line_ends (give n) ends_counts (giving n))))

more_counts : {X : Type 0} (kind : List X → Reader X) → ((xs : List X) → Counting (kind xs)) → (lines : ℕ) (xs : List X) → Counting (more_lines kind lines xs)
more_counts kind each zero xs = giving xs
more_counts kind each (suc lines) xs = bind (kind xs) (λ x. more_lines kind lines (xs ++ x ∷ [])) (each xs) (λ x. more_counts kind each lines (xs ++ x ∷ []))

pub many_counts : {X : Type 0} (kind : List X → Reader X) → ((xs : List X) → Counting (kind xs)) → (lines : ℕ) → Counting (many_lines kind lines)
many_counts kind each lines = more_counts kind each lines []

-- what a reader of several steps needs
pub ruleset counting = (bind, seq, giving, refusing, choosing, next_counts, name_counts, letters_counts, mark_counts, named_counts, numbered_counts, ends_counts, file_counts, number_line_counts, many_counts)
