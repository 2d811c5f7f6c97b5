-- Memo: up to 64 questions are kept with their answers, so that each is put below but once.
use Rattle.std.specs.Prelude.{◌≡◌, ℕ, Bool, true, false, cond, not, ◌&&◌, List, [], ◌∷◌, ◌++◌, length, is_some, Some, None, Ok, Err, Option, Result, nat_lt}
use Rattle.std.specs.List.{find}
use Rattle.std.specs.Option.{option_map}
use Rattle.points.specs.Points.{at_points, is_point, same_ranks}
use Rattle.points.specs.declared.Entry.{Entry}
use Rattle.points.specs.declared.Fault.{Fault}
use Rattle.maps.specs.Layers.{passed}
use Rattle.maps.specs.Rules.{Rules}
use Rattle.maps.specs.declared.memo.store.Memo.{Memo}

-- an entry answers q, by a point
abbrev pub answers_by : List ℕ → List ℕ → Entry → Bool
answers_by sizes q e = same_ranks e.point q && is_point sizes e.answer

-- the stored answer to q, if there is one that is a point
abbrev pub recalled : List ℕ → List Entry → List ℕ → Option (List ℕ)
recalled sizes es q = option_map (λ e. e.answer) (find (answers_by sizes q) es)

-- what is recalled, or what the map below gives, with its faults one deeper
abbrev pub recall_or : Option (List ℕ) → Result (List ℕ) Fault → Result (List ℕ) Fault
recall_or None below = passed below
recall_or (Some y) below = Ok y

-- one more is stored while fewer than 64 are
abbrev pub stored_with : List Entry → Entry → List Entry
stored_with es e = cond (nat_lt (length es) 64) (es ++ e ∷ []) es

-- what is stored after the map below was asked: its answer too, and never a fault
abbrev pub kept : List Entry → List ℕ → Result (List ℕ) Fault → List Entry
kept es q (Ok y) = stored_with es (record { point = q; answer = y })
kept es q (Err f) = es

-- what a memo has stored
abbrev pub stored : {M : Type 0} → Memo M → List Entry
stored m = m.entries.items

module _ {M : Type 0} (r : Rules M) where
  -- q is a point that is not recalled, so it is put below
  abbrev pub asks : Memo M → List ℕ → Bool
  asks m q = is_point (r.sizes m.map) q && not (is_some (recalled (r.sizes m.map) (stored m) q))

  -- the map below moves as it may, and what it gave is kept
  pub record Asked (m : Memo M) (q : List ℕ) (n : Memo M) : Type 0 where
    pub below : r.puts m.map q n.map
    pub keeps : stored n ≡ kept (stored m) q (r.meaning m.map q)

  -- how putting q moves a memo: not at all where it is no point or is recalled
  pub record Moved (m : Memo M) (q : List ℕ) (n : Memo M) : Type 0 where
    pub asked : asks m q ≡ true → Asked m q n
    pub idle : asks m q ≡ false → n ≡ m

  -- the rules of a memo over a map
  abbrev pub memo_rules : Rules (Memo M)
  memo_rules = record {
    dims = λ m. r.dims m.map;
    sizes = λ m. r.sizes m.map;
    meaning = λ m. at_points (r.sizes m.map) (λ q. recall_or (recalled (r.sizes m.map) (stored m) q) (r.meaning m.map q));
    puts = Moved;
  }
