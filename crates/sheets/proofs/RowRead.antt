-- Words of grades as points of a table.
use Rattle.std.proofs.Common.{◌≡◌, ℕ, zero, suc, ◌+◌, ◌<◌, ◌≤◌, Bool, true, false, cond, ◌⊎◌, List, [], ◌∷◌, ◌++◌, length, get_or, drop, is_some, Some, None, Ok, Err, Option, Result, unwrap_or, refl, ap, ◌∙◌, subst, inl, inr, le_of_suc-le-suc, arith}
use Rattle.std.specs.List.{slice_get}
use Rattle.std.proofs.lemmas.List.{drop_all, drop_more, length-take-le}
use Rattle.std.proofs.lemmas.Option.{slice_get-get_or, slice_get_past}
use Rattle.std.proofs.lemmas.Bool.{and_parts, both_ways, cases_lt, le-ltb, lt-ltb}
use Rattle.std.specs.Option.{ok_or}
use Rattle.std.specs.Result.{IfOk, result_or}
use Rattle.chains.specs.GradeOrder.{listed}
use Rattle.chains.specs.Letters.{place_of}
use Rattle.chains.specs.declared.grades.letters.Grades.{Grades}
use Rattle.chains.specs.LetterLaws.{place_below}
use Rattle.points.specs.Points.{is_point}
use Rattle.points.specs.declared.Entry.{Entry}
use Rattle.points.proofs.Eight.{eight_point}
use Rattle.maps.specs.Replies.{listed_answer, row_size, row_sizes}
use Rattle.maps.specs.RowsMade.{Holds, RowAdded, rows_of}
use Rattle.maps.specs.declared.rows.faults.RowFault.{RowFault}
use Rattle.maps.specs.declared.rows.table.Rows.{Rows}
use Rattle.sheets.specs.Reading.{State}
use Rattle.sheets.specs.RowsBody.{all_listed, new_point, point_of, rank_at, ranks_of, row_line}
use Rattle.sheets.specs.declared.faults.Unread.{Unread}

-- a letter that is no grade stops the test
pub listed_stops : (letters text : List ℕ) (i : ℕ) → i < length text → None ≡ place_of letters (get_or text i 0) → all_listed letters (drop i text) ≡ false
listed_stops letters text i h e = rw (drop_more text i 0 h, ← e)

pub listed_goes : (letters text : List ℕ) (i r : ℕ) → i < length text → Some r ≡ place_of letters (get_or text i 0) → all_listed letters (drop i text) ≡ all_listed letters (drop (i + 1) text)
listed_goes letters text i r h e = rw (drop_more text i 0 h, ← e)

pub listed_ends : (letters text : List ℕ) (i : ℕ) → length text ≤ i → all_listed letters (drop i text) ≡ true
listed_ends letters text i h = rw (drop_all i text h)

pub rank_is : (letters text : List ℕ) (i r : ℕ) → i < length text → Some r ≡ place_of letters (get_or text i 0) → r ≡ rank_at letters (slice_get text i)
rank_is letters text i r h e = rw (slice_get-get_or text i 0 h, ← e)

pub rank_past : (letters text : List ℕ) (i : ℕ) → length text ≤ i → rank_at letters (slice_get text i) ≡ 0
rank_past letters text i h = rw (slice_get_past text i h)

listed_at : (letters text : List ℕ) (i : ℕ) → all_listed letters text ≡ true → i < length text → is_some (place_of letters (get_or text i 0)) ≡ true
listed_at letters [] i t h = absurd (omega arith)
listed_at letters (x ∷ text) zero t h = (and_parts _ _ t).0
listed_at letters (x ∷ text) (suc i) t h = listed_at letters text i (and_parts (is_some (place_of letters x)) _ t).1 (le_of_suc-le-suc h)

valued : (o : Option ℕ) (n : ℕ) → is_some o ≡ true → ((r : ℕ) → o ≡ Some r → r < n) → unwrap_or o 0 < n
valued None n t below = absurd (both_ways false refl t)
valued (Some r) n t below = below r refl

module _ (letters text : List ℕ) (all : all_listed letters text ≡ true) where
  rank_below : (i : ℕ) → (i < length text) ⊎ (length text ≤ i) → rank_at letters (slice_get text i) < row_size (length text) (length letters) i
  rank_below i (inl h) =
      rw (slice_get-get_or text i 0 h, lt-ltb i (length text) h)
      (valued (place_of letters (get_or text i 0)) (length letters) (listed_at letters text i all h) (λ r e. place_below letters (get_or text i 0) r e))
  rank_below i (inr h) = rw (slice_get_past text i h, le-ltb i (length text) h) (omega arith)

  pub point_is : is_point (row_sizes (length text) (length letters)) (point_of letters text) ≡ true
  point_is = eight_point (row_size (length text) (length letters)) (λ i. rank_at letters (slice_get text i)) (λ i. rank_below i (cases_lt i (length text)))

pub listed_count : (grades : Grades) → length (listed grades) ≡ grades.count
listed_count grades = length-take-le grades.count grades.letters (omega arith)

ranked_if : (grades : Grades) (text : List ℕ) (dims : ℕ) (p : List ℕ) (b : Bool) → all_listed (listed grades) text ≡ b → length text ≡ dims → Some p ≡ cond b (Some (point_of (listed grades) text)) None → is_point (row_sizes dims grades.count) p ≡ true
ranked_if grades text dims p true t long e =
    let same : point_of (listed grades) text ≡ p = cc in
    subst (λ n. is_point (row_sizes dims n) p ≡ true) (listed_count grades) (rw (← same, ← long) (point_is (listed grades) text t))
ranked_if grades text dims p false t long e = absurd (cc)

-- the ranks of as many grades as there are coordinates are a point
pub ranked_point : (grades : Grades) (text : List ℕ) (dims : ℕ) (p : List ℕ) → length text ≡ dims → Some p ≡ ranks_of (listed grades) text → is_point (row_sizes dims grades.count) p ≡ true
ranked_point grades text dims p long e = ranked_if grades text dims p (all_listed (listed grades) text) refl long e

-- so are those that are not refused
pub pointed : (grades : Grades) (text : List ℕ) (dims : ℕ) (o : Option (List ℕ)) (u : Unread) → length text ≡ dims → o ≡ ranks_of (listed grades) text → IfOk (ok_or o u) (λ p. is_point (row_sizes dims grades.count) p ≡ true)
pointed grades text dims None u long e = tt
pointed grades text dims (Some p) u long e = ranked_point grades text dims p long e

-- a point that comes for the first time
pub comes_new : (rows : List Entry) (point : List ℕ) (s : State) → false ≡ is_some (listed_answer rows point) → new_point rows point s ≡ Ok (tt, s)
unfolding new_point
comes_new rows point s e = rw (← e)

-- a row that is not refused is listed
pub added : (m : Rows) (row : Entry) (r : Result (Unit {0}) RowFault) (n : Rows) (t : Unit {0}) (u : Unread) → RowAdded m row r n → Ok t ≡ result_or r (Err u) → Holds m n (rows_of m ++ row ∷ [])
added m row (Ok tt) n t u h e = h.1
added m row (Err f) n t u h e = absurd (cc)

-- the same grades and coordinates make the same lines
pub line_as : (g g' : Grades) (d d' : ℕ) (rows : List Entry) (s : State) → g ≡ g' → d ≡ d' → row_line (listed g) d rows s ≡ row_line (listed g') d' rows s
line_as g g' d d' rows s a b = ap (λ x. row_line (listed x) d rows s) a ∙ ap (λ x. row_line (listed g') x rows s) b
