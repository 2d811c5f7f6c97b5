-- The lines that are printed of a call's reply and of what is left.
use Rattle.std.specs.Prelude.{ℕ, ◌*◌, List, [], ◌∷◌, map, take, Ok, Err, codes, decimal}
use Rattle.std.proofs.Math.Utf8.{encode}
use Rattle.study.specs.Calls.{Call}
use Rattle.study.specs.Replies.{Reply, details_of}
use Rattle.study.specs.declared.reply.Report.TheVariants.{Answered, Settled, Pair}
use Rattle.transcript.specs.Text.{line_of}

-- what was done, where a call of one point was not refused
abbrev pub done_name : {V : Type 0} → Call V → List ℕ
done_name (Call.ask values) = codes "answer"
done_name (Call.raise values) = codes "raised"
done_name (Call.lower values) = codes "lowered"
done_name Call.search = codes "settled"

-- the line of a reply to a call that is named so when it is done, over d coordinates, with the strip as it is afterwards
abbrev pub reply_line : {V : Type 0} → (V → List ℕ) → ℕ → List ℕ → Reply → List V → List ℕ
reply_line show d done (Ok (Answered count)) strip = line_of done (map show (take d strip))
reply_line show d done (Ok (Settled count)) strip = line_of (codes "settled") (decimal count ∷ map show (take d strip))
reply_line show d done (Ok (Pair count k)) strip = line_of (codes "pair") (decimal count ∷ (decimal k ∷ map show (take (4 * d) strip)))
reply_line show d done (Err refusal) strip =
    line_of (codes "refused")
    (decimal (details_of refusal).number ∷ (decimal (details_of refusal).a ∷ (decimal (details_of refusal).b ∷ (decimal (details_of refusal).count ∷ []))))

-- the first line and the last
abbrev pub kind_line : ℕ → List ℕ
kind_line letter = line_of (codes "kind") (encode letter ∷ [])

abbrev pub left_line : ℕ → List ℕ
left_line left = line_of (codes "left") (decimal left ∷ [])
