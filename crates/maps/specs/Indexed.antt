-- The index of a reply table finds each row, and nothing else.
use Rattle.std.specs.Prelude.{◌≡◌, ℕ, ◌<◌, List, [], length, get_or, Some, None, Option, slice_index_or}
use Rattle.points.specs.declared.Entry.{Entry}
use Rattle.maps.specs.Replies.{slot_of}

-- the place of the point of row k
abbrev pub slot_at : List Entry → ℕ → ℕ
slot_at rows k = slot_of (get_or rows k (record { point = []; answer = [] })).point

-- each row stands at the place of its point
abbrev pub Placed : List Entry → List (Option ℕ) → Type 0
Placed rows places = (k : ℕ) → k < length rows → slice_index_or places (slot_at rows k) None ≡ Some k

-- what stands at a place is a row
abbrev pub Listed : List Entry → List (Option ℕ) → Type 0
Listed rows places = (s k : ℕ) → slice_index_or places s None ≡ Some k → k < length rows

-- for the point that has this place
abbrev pub Apart : List Entry → List (Option ℕ) → Type 0
Apart rows places = (s k : ℕ) → slice_index_or places s None ≡ Some k → slot_at rows k ≡ s
