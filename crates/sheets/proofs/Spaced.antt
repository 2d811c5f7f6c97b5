-- Written lines and words are found again.
use Rattle.std.proofs.Common.{◌≡◌, ℕ, suc, ◌<◌, Bool, true, false, cond, ◌&&◌, eqb, List, [], ◌∷◌, ◌++◌, length, take, drop, Some, None, Ok, Option, Result, sym, refl, ap, ◌∙◌, arith}
use Rattle.std.specs.List.{AllByRecursion}
use Rattle.std.proofs.lemmas.List.{append-nil, drop_all, length-append, take_all, take_at}
use Rattle.std.proofs.lemmas.Bool.{and_parts, both_ways}
use Rattle.sheets.specs.Classes.{class_of}
use Rattle.sheets.specs.Forms.{Form, form_of}
use Rattle.sheets.specs.Lines.{goes_on, holds_of, neat, next_line, up_to}
use Rattle.sheets.specs.Reading.{State, Told}
use Rattle.sheets.specs.Words.{word_due}
use Rattle.sheets.specs.Written.{line_then, spaced}
use Rattle.sheets.specs.declared.classes.Class.{Class}
use Rattle.sheets.specs.declared.classes.Class.TheVariants.{LineEnd, Blank, Digit, Capital, Small, Minus, Other}
use Rattle.sheets.proofs.LineSteps.{line_goes}

-- a byte of a word
abbrev pub in_word : Class → Bool
in_word LineEnd = false
in_word Blank = false
in_word Digit = true
in_word Capital = true
in_word Small = true
in_word Minus = true
in_word Other = false

goes_in : (k : Class) (due : Bool) → in_word k ≡ true → goes_on k due ≡ Some false
goes_in LineEnd due t = absurd (both_ways false refl t)
goes_in Blank due t = absurd (both_ways false refl t)
goes_in Digit due t = refl
goes_in Capital due t = refl
goes_in Small due t = refl
goes_in Minus due t = refl
goes_in Other due t = absurd (both_ways false refl t)

-- each byte is one of a word, and there is one
abbrev pub all_in : List ℕ → Bool
all_in [] = true
all_in (b ∷ bs) = in_word (class_of b) && all_in bs

pub record IsWord (w : List ℕ) : Type 0 where
  pub some : 0 < length w
  pub bytes : all_in w ≡ true

no_blank_if : (b : ℕ) (t u : Bool) (k : Class) → in_word (cond t LineEnd (cond u Blank k)) ≡ true → u ≡ false
no_blank_if b true u k h = absurd (both_ways false refl h)
no_blank_if b false true k h = absurd (both_ways false refl h)
no_blank_if b false false k h = refl

no_blank : (b : ℕ) → in_word (class_of b) ≡ true → eqb b 32 ≡ false
no_blank b h = no_blank_if b (eqb b 10) (eqb b 32) _ h

-- a word goes up to the blank after it, or to the end
up_word : (w rest : List ℕ) → all_in w ≡ true → up_to 32 (w ++ 32 ∷ rest) ≡ length w
up_word [] rest t = refl
up_word (b ∷ w) rest t =
    let parts = and_parts _ _ t in
    rw (no_blank b parts.0) (ap suc (up_word w rest parts.1))

up_last : (w : List ℕ) → all_in w ≡ true → up_to 32 w ≡ length w
up_last [] t = refl
up_last (b ∷ w) t =
    let parts = and_parts _ _ t in
    rw (no_blank b parts.0) (ap suc (up_last w parts.1))

drop_past : (w : List ℕ) (x : ℕ) (more : List ℕ) → drop (suc (length w)) (w ++ x ∷ more) ≡ more
drop_past [] x more = refl
drop_past (b ∷ w) x more = drop_past w x more

-- a word leaves no word due
neat_word : (w more : List ℕ) (due : Bool) → 0 < length w → all_in w ≡ true → neat due (w ++ more) ≡ neat false more
neat_word [] more due h t = absurd (omega arith)
neat_word (b ∷ []) more due h t = rw (goes_in (class_of b) due (and_parts _ _ t).0)
neat_word (b ∷ c ∷ w) more due h t =
    let parts = and_parts (in_word (class_of b)) _ t in
    rw (goes_in (class_of b) due parts.0) (neat_word (c ∷ w) more false (omega arith) parts.1)

neat_spaced : (w : List ℕ) (ws : List (List ℕ)) → AllByRecursion IsWord (w ∷ ws) → neat true (spaced (w ∷ ws)) ≡ true
neat_spaced w [] h = ap (neat true) (sym (append-nil w)) ∙ neat_word w [] true h.0.some h.0.bytes
neat_spaced w (v ∷ ws) h = neat_word w (32 ∷ spaced (v ∷ ws)) true h.0.some h.0.bytes ∙ neat_spaced v ws h.1

-- a neat line holds no line end
not_end_if : (due : Bool) (t : Bool) (k : Class) (rest : List ℕ) → holds_of (goes_on (cond t LineEnd k) due) (λ next. neat next rest) ≡ true → t ≡ false
not_end_if due true k rest h = absurd (both_ways false refl h)
not_end_if due false k rest h = refl

next_neat : (o : Option Bool) (rest : List ℕ) → holds_of o (λ next. neat next rest) ≡ true → (due : Bool) × (neat due rest ≡ true)
next_neat None rest h = absurd (both_ways false refl h)
next_neat (Some due) rest h = (due, h)

up_line : (t more : List ℕ) (due : Bool) → neat due t ≡ true → up_to 10 (t ++ 10 ∷ more) ≡ length t
up_line [] more due h = refl
up_line (b ∷ t) more due h =
    let next = next_neat (goes_on (class_of b) due) t h in
    rw (not_end_if due (eqb b 10) _ t h) (ap suc (up_line t more next.0 next.1))

-- a written line is the next line
pub written_line : (w : List ℕ) (ws : List (List ℕ)) (left more : List ℕ) (line : ℕ) → AllByRecursion IsWord (w ∷ ws) → next_line (record { left = left; rest = line_then (w ∷ ws) more; line = line }) ≡ Ok (tt, record { left = spaced (w ∷ ws); rest = more; line = suc line })
unfolding next_line
written_line w ws left more line h =
    let t = spaced (w ∷ ws) in
    let n = neat_spaced w ws h in
    let front : t ≡ take (length t) (t ++ 10 ∷ more) = sym (take_at t (10 ∷ more) (length t) refl) in
    line_goes (t ++ 10 ∷ more) t more (length t) (suc line) (sym (up_line t more true n)) (omega (arith, length-append t (10 ∷ more))) (ap (neat true) (sym front) ∙ n) front (sym (drop_past t 10 more))

both : (w w' left left' rest : List ℕ) (line : ℕ) → w' ≡ w → left' ≡ left → ◌≡◌ {A = Result (Form × State) Told} (Ok (form_of w', record { left = left'; rest = rest; line = line })) (Ok (form_of w, record { left = left; rest = rest; line = line }))
both w w' left left' rest line a b =
    ap (λ x. Ok (form_of x, record { left = left'; rest = rest; line = line })) a ∙ ap (λ x. Ok (form_of w, record { left = x; rest = rest; line = line })) b

-- a written word is the next word
pub written_word : (w : List ℕ) (ws : List (List ℕ)) (rest : List ℕ) (line : ℕ) → IsWord w → word_due (record { left = spaced (w ∷ ws); rest = rest; line = line }) ≡ Ok (form_of w, record { left = spaced ws; rest = rest; line = line })
unfolding word_due
written_word [] ws rest line h = let z = h.some in absurd (omega arith)
written_word (b ∷ w) [] rest line h =
    let up = up_last (b ∷ w) h.bytes in
    ap (λ n. Ok (form_of (take n (b ∷ w)), record { left = drop (suc n) (b ∷ w); rest = rest; line = line })) up
    ∙ both (b ∷ w) (take (length (b ∷ w)) (b ∷ w)) [] (drop (suc (length (b ∷ w))) (b ∷ w)) rest line (take_all (length (b ∷ w)) (b ∷ w) (omega arith)) (drop_all (suc (length (b ∷ w))) (b ∷ w) (omega arith))
written_word (b ∷ w) (v ∷ ws) rest line h =
    let t = (b ∷ w) ++ 32 ∷ spaced (v ∷ ws) in
    let up = up_word (b ∷ w) (spaced (v ∷ ws)) h.bytes in
    ap (λ n. Ok (form_of (take n t), record { left = drop (suc n) t; rest = rest; line = line })) up
    ∙ both (b ∷ w) (take (length (b ∷ w)) t) (spaced (v ∷ ws)) (drop (suc (length (b ∷ w))) t) rest line (take_at (b ∷ w) (32 ∷ spaced (v ∷ ws)) (length (b ∷ w)) refl) (drop_past (b ∷ w) 32 (spaced (v ∷ ws)))
