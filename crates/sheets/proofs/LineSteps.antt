-- Going to the next line, and to the next word of a line.
use Rattle.std.proofs.Common.{◌≡◌, ℕ, suc, ◌+◌, ◌-◌, ◌<◌, ◌≤◌, min, true, false, ◌⊎◌, List, [], ◌∷◌, length, take, drop, Ok, Err, sym, refl, ap, ◌∙◌, inl, inr, arith}
use Rattle.std.proofs.lemmas.List.{drop_all}
use Rattle.std.proofs.lemmas.Bool.{and_from, and_left, and_right, cases_lt, cond-false, cond-true, le-ltb, lt-ltb}
use Rattle.sheets.specs.Dues.{end_from, line_ends}
use Rattle.sheets.specs.Forms.{Form, form_of}
use Rattle.sheets.specs.Lines.{file_end_from, file_ends, line_from, neat, up_to}
use Rattle.sheets.specs.Reading.{State}
use Rattle.sheets.specs.Words.{after_word, word_due, word_from, word_of}
use Rattle.sheets.specs.declared.faults.Fault.TheVariants.{Text, Contents, Form as Wrong}

-- `&xs[0..n]` as the checker reads it
pub front_is : (xs : List ℕ) (n : ℕ) → take (n - 0) xs ≡ take n xs
front_is xs n = let same : n - 0 ≡ n = omega arith in ap (λ k. take k xs) same

-- no line is left
pub line_missing : (bs : List ℕ) (line : ℕ) → length bs ≡ 0 → line_from bs line ≡ Err (Contents, line)
line_missing [] line e = refl
line_missing (b ∷ bs) line e = absurd (omega arith)

-- a line with no line end, or one that is not neat
pub line_fails : (bs : List ℕ) (n line : ℕ) → 0 < length bs → n ≡ up_to 10 bs → (length bs ≤ n) ⊎ (neat true (take n bs) ≡ false) → line_from bs line ≡ Err (Text, line)
line_fails [] n line some e h = absurd (omega arith)
line_fails (b ∷ bs) n line some e (inl h) = rw (← e) (cond-false _ _ _ (and_left _ _ (le-ltb _ _ h)))
line_fails (b ∷ bs) n line some e (inr h) = rw (← e) (cond-false _ _ _ (and_right _ _ h))

pub line_goes : (bs left after : List ℕ) (n line : ℕ) → n ≡ up_to 10 bs → n < length bs → neat true (take n bs) ≡ true → left ≡ take n bs → after ≡ drop (suc n) bs → line_from bs line ≡ Ok (tt, record { left = left; rest = after; line = line })
line_goes [] left after n line e h neat l a = absurd (omega arith)
line_goes (b ∷ bs) left after n line e h neat l a = rw (← e, l, a) (cond-true _ _ _ (and_from _ _ (lt-ltb _ _ h) neat))

-- past the last word nothing is left
after_if : (left : List ℕ) (n m : ℕ) → m ≡ min (length left) (n + 1) → (n + 1 < length left) ⊎ (length left ≤ n + 1) → drop m left ≡ drop (suc n) left
after_if left n m e (inl h) = let same : m ≡ suc n = omega arith in ap (λ k. drop k left) same
after_if left n m e (inr h) = drop_all m left (omega arith) ∙ sym (drop_all (suc n) left (omega arith))

pub word_goes : (s : State) (text after : List ℕ) (form : Form) (n m : ℕ) → 0 < length s.left → n ≡ up_to 32 s.left → text ≡ take n s.left → form ≡ form_of text → m ≡ min (length s.left) (n + 1) → after ≡ drop m s.left → word_due s ≡ Ok (form, record { left = after; rest = s.rest; line = s.line })
unfolding word_due
word_goes s text after form n m some e t f k a =
    from s.left some (f ∙ ap form_of (t ∙ ap (λ i. take i s.left) e)) (a ∙ after_if s.left n m k (cases_lt (n + 1) (length s.left)) ∙ ap (λ i. drop (suc i) s.left) e)
  where
    from : (left : List ℕ) → 0 < length left → form ≡ form_of (word_of left) → after ≡ after_word left → word_from left s ≡ Ok (form, record { left = after; rest = s.rest; line = s.line })
    from [] some f a = absurd (omega arith)
    from (b ∷ bs) some f a = rw (f, a)

-- no word is left
pub word_missing : (s : State) → length s.left ≡ 0 → word_due s ≡ Err (Wrong, s.line)
unfolding word_due
word_missing s e = from s.left e
  where
    from : (left : List ℕ) → length left ≡ 0 → word_from left s ≡ Err (Wrong, s.line)
    from [] e = refl
    from (b ∷ bs) e = absurd (omega arith)

-- no word is over
pub line_ends_lem : (s : State) → length s.left ≡ 0 → line_ends s ≡ Ok (tt, s)
unfolding line_ends
line_ends_lem s e = from s.left e
  where
    from : (left : List ℕ) → length left ≡ 0 → end_from left s ≡ Ok (tt, s)
    from [] e = refl
    from (b ∷ bs) e = absurd (omega arith)

-- no line is over
pub file_ends_lem : (s : State) → length s.rest ≡ 0 → file_ends s ≡ Ok (tt, s)
unfolding file_ends
file_ends_lem s e = from s.rest e
  where
    from : (rest : List ℕ) → length rest ≡ 0 → file_end_from rest s ≡ Ok (tt, s)
    from [] e = refl
    from (b ∷ bs) e = absurd (omega arith)
