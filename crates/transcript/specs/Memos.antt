-- A memo with nothing stored.
use Rattle.std.proofs.Common.{lit≤}
use Rattle.std.specs.Prelude.{[]}
use Rattle.maps.specs.declared.memo.store.Memo.{Memo}

abbrev pub new_memo : {M : Type 0} → M → Memo M
new_memo m = record { map = m; entries = record { items = [] }; most = lit≤ tt }
