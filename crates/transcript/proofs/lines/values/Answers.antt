use Rattle.std.proofs.Common.{append_assoc, arith}
use Rattle.std.proofs.lemmas.Grind.{common_steps}
use lib.Utf8.{encode}
use Rattle.transcript.proofs.Spoken.{words_more}
use Rattle.transcript.proofs.lines.values.Goals as goal

pub loop-value-preserved : goal.loop-value-preserved
unfolding encode
loop-value-preserved g c =
    grind (arith, common_steps, append_assoc, words_more g.V.Printed.bytes c.args.values.now c.loop-value.value-index c.value-item.result c.loop-value-test.true c.value-item.is)
