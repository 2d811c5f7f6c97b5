use Rattle.std.proofs.Common.{◌≡◌, ◌+◌, ◌*◌, ◌^◌, ◌<◌, ◌≤◌, min, length, take, ap, ◌∙◌, arith}
use Rattle.std.proofs.lemmas.List.{length-take-le, get_or-take, length_push}
use Rattle.std.proofs.lemmas.Slice.Zip.{zip_turn, zip_end}
use Rattle.bisection.specs.Bits.{binary_digits, product}
use Rattle.bisection.specs.Bounds.{width}
use Rattle.bisection.proofs.Sizes.{digits_below, product_more, power_more, power_fits}
use Rattle.bisection.proofs.Promised.{questions_are_few, enough_suffices}
use Rattle.bisection.proofs.digits.most_questions.Goals as goal

-- the product with one coordinate more, how large it can be, and that it fits
grown : (c : goal.After-binary_digits-most) → let most = c.loop-floor.most * c.binary_digits-most.result in let k = length c.loop-floor.yielded in (most ≡ product (k + 1) c.args.bounds.now) × (most ≤ 64 ^ (k + 1)) × (most < 2 ^ 64)
grown c =
    let b = c.args.bounds.now in
    let most = c.loop-floor.most * c.binary_digits-most.result in
    let k = length c.loop-floor.yielded in
    let at =
    zip_turn b.floor.at (take c.min.result b.roof.at) c.loop-floor.yielded c.into_iter-floor-iterator.result c.loop-floor.floor-iterator
    c.next.new.self c.next.result (cc) (cc) c.loop-floor.yielded_by (c.in-Some.floor, c.in-Some.roof) c.in-Some.is
    c.next.ensures.steps in
    let below : k < c.min.result = omega (arith, at.1, length-take-le c.min.result b.roof.at) in
    let w : c.from-width.result + 1 ≡ width b k = omega (arith, at.2 0, at.3 0, get_or-take c.min.result b.roof.at k 0 below) in
    let small : c.binary_digits-most.result ≤ 64 = omega (arith, digits_below 64 (c.from-width.result + 1) (omega arith)) in
    let power : most ≤ 64 ^ (k + 1) = power_more c.loop-floor.most c.binary_digits-most.result k c.loop-floor.invariant.1 small in (
      product_more c.loop-floor.most c.binary_digits-most.result k b c.loop-floor.invariant.0
          (c.binary_digits-most.ensures ∙ ap binary_digits w),
      power,
      power_fits most k (omega arith) power,
    )

pub overflow_mul-most : goal.overflow_mul-most
overflow_mul-most c = omega (arith, (grown c).2)

pub loop-floor-preserved : goal.loop-floor-preserved
loop-floor-preserved c = rw (length_push c.loop-floor.yielded (c.in-Some.floor, c.in-Some.roof)) ((grown c).0, (grown c).1)

pub returns : goal.returns
returns c =
    let b = c.args.bounds.now in
    let end =
    zip_end b.floor.at (take c.min.result b.roof.at) c.loop-floor.yielded c.into_iter-floor-iterator.result c.loop-floor.floor-iterator
    c.next.new.self c.next.result (cc) (cc) c.loop-floor.yielded_by c.in-None.is c.next.ensures.steps in
    let all : length c.loop-floor.yielded ≡ min 8 c.args.dims = omega (arith, end, length-take-le c.min.result b.roof.at) in
    record {
      value = c.loop-floor.invariant.0 ∙ ap (λ n. product n b) all;
      few = questions_are_few;
      enough = enough_suffices;
    }
