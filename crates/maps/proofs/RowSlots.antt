-- Each point of a reply table has a place of its own.
use Rattle.std.proofs.Common.{◌≡◌, ℕ, ◌<◌, ◌≤◌, true, List, length, arith}
use Rattle.std.proofs.lemmas.List.{ext_get_or}
use Rattle.std.proofs.lemmas.Bool.Decides.{nat_tests}
use Rattle.points.specs.Points.{is_point, rank_of}
use Rattle.points.proofs.Eight.{by_coordinate, eight_at}
use Rattle.points.proofs.Tested.{point_eight_lem, point_from, point_within}
use Rattle.maps.specs.Replies.{row_size, row_sizes, slot_of}

-- a point of a smaller table is a point of the largest
size_most : (d n i : ℕ) → d ≤ 4 → n ≤ 8 → row_size d n i ≤ row_size 4 8 i
size_most d n i hd hn = grind (arith, nat_tests)

unused_size : (i : ℕ) → 4 ≤ i → row_size 4 8 i ≡ 1
unused_size i past = grind (arith, nat_tests)

pub wider : (d n : ℕ) (p : List ℕ) → d ≤ 4 → n ≤ 8 → is_point (row_sizes d n) p ≡ true → is_point (row_sizes 4 8) p ≡ true
wider d n p hd hn t =
    point_from (row_sizes 4 8) p (point_eight_lem (row_sizes d n) p t)
    (λ i h. omega (arith, point_within (row_sizes d n) p t i h, eight_at (row_size d n) i h, eight_at (row_size 4 8) i h, size_most d n i hd hn))

-- two points with one place are one
pub slot_once : (p q : List ℕ) → is_point (row_sizes 4 8) p ≡ true → is_point (row_sizes 4 8) q ≡ true → slot_of p ≡ slot_of q → p ≡ q
slot_once p q tp tq e =
    let pe : length p ≡ 8 = point_eight_lem (row_sizes 4 8) p tp in
    let qe : length q ≡ 8 = point_eight_lem (row_sizes 4 8) q tq in
    let a0 : rank_of p 0 < 8 = point_within (row_sizes 4 8) p tp 0 (omega arith) in
    let a1 : rank_of p 1 < 8 = point_within (row_sizes 4 8) p tp 1 (omega arith) in
    let a2 : rank_of p 2 < 8 = point_within (row_sizes 4 8) p tp 2 (omega arith) in
    let a3 : rank_of p 3 < 8 = point_within (row_sizes 4 8) p tp 3 (omega arith) in
    let b0 : rank_of q 0 < 8 = point_within (row_sizes 4 8) q tq 0 (omega arith) in
    let b1 : rank_of q 1 < 8 = point_within (row_sizes 4 8) q tq 1 (omega arith) in
    let b2 : rank_of q 2 < 8 = point_within (row_sizes 4 8) q tq 2 (omega arith) in
    let b3 : rank_of q 3 < 8 = point_within (row_sizes 4 8) q tq 3 (omega arith) in
    let unused : (i : ℕ) → i < 8 → 4 ≤ i → rank_of p i ≡ rank_of q i =
    λ i h past. omega (arith, point_within (row_sizes 4 8) p tp i h, point_within (row_sizes 4 8) q tq i h, eight_at (row_size 4 8) i h, unused_size i past) in
    let same =
    by_coordinate (λ i. rank_of p i ≡ rank_of q i) (omega arith) (omega arith) (omega arith) (omega arith) (unused 4 (omega arith) (omega arith))
    (unused 5 (omega arith) (omega arith)) (unused 6 (omega arith) (omega arith)) (unused 7 (omega arith) (omega arith)) in
    ext_get_or 0 p q (omega arith) (λ i h. same i (omega arith))
