use Rattle.std.proofs.Common.{◌≡◌, ◌+◌, ◌-◌, ◌*◌, ◌^◌, ◌≤◌, get_or, drop, sym, ap, ◌∙◌, pow-suc, add-one, arith, rules}
use Rattle.sheets.specs.Forms.{number_after}
use Rattle.sheets.proofs.Scans.{number_ends, number_goes}
use Rattle.sheets.proofs.word.number_of.Goals as goal

pub loop-digit-preserved : goal.loop-digit-preserved
loop-digit-preserved c =
    let digits = c.args.digits.now in
    let i = c.loop-digit.digit-index in
    let n = c.loop-digit.number in
    let digit : c.from.result ≡ get_or digits i 0 - 48 = c.from.ensures ∙ c.saturating_sub.ensures in
    let bound : n * 10 + c.from.result + 23 ≤ 23 * 10 ^ (i + 1) = rw (add-one, pow-suc 10 i) (omega (arith, c.loop-digit.invariant.1, c.type_inv.digits i, digit)) in
    (ap (λ d. number_after (n * 10 + d) (drop (i + 1) digits)) digit ∙ sym (number_goes n digits i (search rules)) ∙ c.loop-digit.invariant.0, bound)

pub returns : goal.returns
returns c = sym (number_ends c.loop-digit.number c.args.digits.now c.loop-digit.digit-index (search rules)) ∙ c.loop-digit.invariant.0
