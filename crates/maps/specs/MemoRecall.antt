-- What a memo recalls, and what it recalls after one more answer was stored.
use Rattle.std.specs.Prelude.{◌≡◌, ℕ, ◌+◌, ◌<◌, Bool, true, false, cond, List, [], ◌∷◌, ◌++◌, length, drop, Some, None, Ok, Option, Result, slice_index_or, refl}
use Rattle.std.specs.List.{find}
use Rattle.std.specs.Option.{option_map, option_or}
use Rattle.std.proofs.Common.{sym, ap, ◌∙◌, arith}
use Rattle.std.proofs.lemmas.List.{drop_more}
use Rattle.std.proofs.lemmas.Bool.{and_parts, cond-true, cond-false}
use Rattle.std.proofs.lemmas.List.Folds.{find-append}
use Rattle.points.specs.Points.{is_point}
use Rattle.points.specs.declared.Entry.{Entry}
use Rattle.points.specs.declared.Fault.{Fault}
use Rattle.points.proofs.Same.{same_decides}
use Rattle.maps.specs.Recall.{answers_by, recall_or, recalled}

abbrev answer_in : Option Entry → Option (List ℕ)
answer_in o = option_map (λ e. e.answer) o

-- the entry at i, or a blank one past the end
abbrev entry_at : List Entry → ℕ → Entry
entry_at es i = slice_index_or es i (record { point = []; answer = [] })

-- the entry at i answers q, so the search ends there
pub recall_here : (sizes : List ℕ) (es : List Entry) (q : List ℕ) (i : ℕ) → i < length es → answers_by sizes q (entry_at es i) ≡ true → recalled sizes (drop i es) q ≡ Some (entry_at es i).answer
recall_here sizes es q i h t =
    ap (λ xs. recalled sizes xs q) (drop_more es i _ h) ∙ ap answer_in (cond-true _ _ _ t)

-- it does not, so the search goes on
pub recall_next : (sizes : List ℕ) (es : List Entry) (q : List ℕ) (i : ℕ) → i < length es → answers_by sizes q (entry_at es i) ≡ false → recalled sizes (drop i es) q ≡ recalled sizes (drop (i + 1) es) q
recall_next sizes es q i h t =
    ap (λ xs. recalled sizes xs q) (drop_more es i _ h) ∙ ap answer_in (cond-false _ _ _ t)

-- what is recalled is a point
point_if : (sizes q y : List ℕ) (e : Entry) (o : Option Entry) (b : Bool) → answers_by sizes q e ≡ b → (answer_in o ≡ Some y → is_point sizes y ≡ true) → answer_in (cond b (Some e) o) ≡ Some y → is_point sizes y ≡ true
point_if sizes q y e o true t rest is = let s : e.answer ≡ y = cc in rw (← s) (and_parts _ _ t).1
point_if sizes q y e o false t rest is = rest is

pub recalled_point : (sizes : List ℕ) (es : List Entry) (q y : List ℕ) → recalled sizes es q ≡ Some y → is_point sizes y ≡ true
recalled_point sizes [] q y e = let z : ◌≡◌ {A = ℕ} 0 1 = cc in absurd (omega arith)
recalled_point sizes (x ∷ es) q y e =
    point_if sizes q y x (find (answers_by sizes q) es) (answers_by sizes q x) refl (recalled_point sizes es q y) e

-- one more answer is recalled where none was
abbrev or_else : Option (List ℕ) → Option (List ℕ) → Option (List ℕ)
or_else None o = o
or_else (Some y) o = Some y

answer_or_else : (a b : Option Entry) → answer_in (option_or a b) ≡ or_else (answer_in a) (answer_in b)
answer_or_else None b = refl
answer_or_else (Some e) b = refl

recalled_if : (sizes q : List ℕ) (x e : Entry) (es : List Entry) (b : Bool) → recalled sizes (es ++ e ∷ []) q ≡ or_else (recalled sizes es q) (recalled sizes (e ∷ []) q) → cond b (Some x.answer) (recalled sizes (es ++ e ∷ []) q) ≡ or_else (cond b (Some x.answer) (recalled sizes es q)) (recalled sizes (e ∷ []) q)
recalled_if sizes q x e es true rest = refl
recalled_if sizes q x e es false rest = rest

recalled_push : (sizes : List ℕ) (es : List Entry) (e : Entry) (q : List ℕ) → recalled sizes (es ++ e ∷ []) q ≡ or_else (recalled sizes es q) (recalled sizes (e ∷ []) q)
recalled_push sizes es e q =
    ap answer_in (find-append (answers_by sizes q) es (e ∷ [])) ∙ answer_or_else (find (answers_by sizes q) es) (find (answers_by sizes q) (e ∷ []))

-- storing what the map below answers changes nothing that is told
stored_if : (e : Entry) (below : Result (List ℕ) Fault) (o : Option (List ℕ)) (b : Bool) → (b ≡ true → below ≡ Ok e.answer) → recall_or (or_else o (answer_in (cond b (Some e) None))) below ≡ recall_or o below
stored_if e below None true h = sym (ap (recall_or None) (h refl))
stored_if e below None false h = refl
stored_if e below (Some y) b h = refl

pub told_same : (sizes : List ℕ) (es : List Entry) (e : Entry) (F : List ℕ → Result (List ℕ) Fault) → F e.point ≡ Ok e.answer → (q : List ℕ) → recall_or (recalled sizes (es ++ e ∷ []) q) (F q) ≡ recall_or (recalled sizes es q) (F q)
told_same sizes es e F is q =
    ap (λ o. recall_or o (F q)) (recalled_push sizes es e q)
    ∙ stored_if e (F q) (recalled sizes es q) (answers_by sizes q e)
    (λ t. ap F (sym ((same_decides e.point q).0 (and_parts _ _ t).0)) ∙ is)
