-- The tick chain keeps the laws of a chain.
use Rattle.std.specs.Prelude.{◌≡◌, ℕ, ◌*◌, ◌/◌, ◌%◌, true, ltb, Some, ◌==◌, nat_lt}
use Rattle.std.proofs.Common.{ap, ◌∙◌, mul-div_cancel, div-add-mod', arith}
use Rattle.std.proofs.Math.Nat.{mul-mod_left}
use Rattle.std.proofs.lemmas.Bool.{and_parts, and_from, eqb-true, eq-eqb, cond-true}
use Rattle.chains.specs.Order.{OrderLaws}
use Rattle.chains.specs.TickOrder.{tick_order}
use Rattle.chains.specs.declared.ticks.steps.Ticks.{Ticks}
use Rattle.chains.specs.Guarded.{guarded_some, guarded_is}

ranked : (c : Ticks) (r v : ℕ) → tick_order.member c r ≡ Some v → tick_order.rank c v ≡ Some r
ranked c r v e =
    let low : (nat_lt r c.size ≡ true) × (r * c.step ≡ v) = guarded_is (nat_lt r c.size) (r * c.step) v e in
    let whole : v % c.step ≡ 0 = rw (← low.1) (mul-mod_left r c.step) in
    let quotient : v / c.step ≡ r = rw (← low.1) (mul-div_cancel r c.steps) in
    let passes = and_from (v % c.step == 0) (nat_lt (v / c.step) c.size) (eq-eqb _ _ whole) (rw quotient low.0) in
    cond-true _ _ _ passes ∙ ap Some quotient

placed : (c : Ticks) (v r : ℕ) → tick_order.rank c v ≡ Some r → tick_order.member c r ≡ Some v
placed c v r e =
    let given = guarded_is _ (v / c.step) r e in
    let tests = and_parts (v % c.step == 0) (nat_lt (v / c.step) c.size) given.0 in
    let below : ltb r c.size ≡ true = rw (← given.1) tests.1 in
    let product : r * c.step ≡ v =
    rw (← given.1) (omega (arith, div-add-mod' v c.step, eqb-true (v % c.step) 0 tests.0)) in
    cond-true _ _ _ below ∙ ap Some product

pub tick_laws : OrderLaws tick_order
tick_laws = record {
  sized = λ c. omega arith;
  members = λ c r. guarded_some (nat_lt r c.size) (r * c.step);
  ranked = ranked;
  placed = placed;
}
