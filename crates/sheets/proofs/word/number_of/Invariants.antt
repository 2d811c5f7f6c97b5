use Rattle.std.proofs.Common.{◌≡◌, ◌+◌, ◌*◌, ◌^◌, ◌≤◌, drop}
use Rattle.sheets.specs.Forms.{number_after}
use Rattle.sheets.proofs.word.number_of.Given as goal

-- bytes are at most 255, so each digit adds at most 207
abbrev pub invariant-loop-digit : goal.invariant-loop-digit
invariant-loop-digit l =
    (number_after l.number (drop l.digit-index l.digits) ≡ number_after 0 l.digits) × (l.number + 23 ≤ 23 * 10 ^ l.digit-index)
