use Rattle.std.proofs.Common.{tests, rules}
use Rattle.maps.specs.Replies.{row_size}
use Rattle.maps.proofs.FromFn.{from_fn_eight}
use Rattle.maps.proofs.rows.sizes_of.Goals as goal

pub returns : goal.returns
returns c =
    from_fn_eight _ _ (row_size c.args.dims c.args.size) (λ i y t h k. search (rules, tests)) c.from_fn.result c.from_fn.ensures.items
