use Rattle.std.proofs.Common.{◌≡◌, ℕ, List, ◌++◌, length, take, drop, replicate, sym, ap, ◌∙◌, arith}
use Rattle.std.proofs.lemmas.List.{length-append, length-drop, take_at}
use Rattle.chains.specs.Letters.{capitals, different}
use Rattle.chains.specs.LetterLaws.{no_fault}
use Rattle.chains.proofs.grades.letters.Grades.new.Goals as goal

-- the letters are held as they were given
held : (xs ys pad : List ℕ) → ys ≡ xs → take (length xs) (ys ++ pad) ≡ xs
held xs ys pad e = take_at ys pad (length xs) (ap length e) ∙ e

pub invariant_of-result : goal.invariant_of-result
invariant_of-result c =
    let same = held c.args.letters.now c.copy_from_slice.new.self (drop (length c.args.letters.now) (replicate 8 0)) c.copy_from_slice.ensures.after in
    record {
      room = grind (arith, length-append, length-drop, c.copy_from_slice.ensures.after);
      some = omega arith;
      most = omega arith;
      capital = ap capitals same ∙ sym c.if-not-are_capitals.ensures;
      distinct = ap different same ∙ sym c.if-not-are_different.ensures;
    }

pub returns : goal.returns
returns c =
    let xs = c.args.letters.now in (
      no_fault xs (omega arith) (omega arith) (sym c.if-not-are_capitals.ensures) (sym c.if-not-are_different.ensures),
      held xs c.copy_from_slice.new.self (drop (length xs) (replicate 8 0)) c.copy_from_slice.ensures.after,
    )
