-- A call of a file, made in a session.
use Rattle.std.specs.Prelude.{◌≡◌, ℕ, List, Result}
use Rattle.std.specs.declared.alloc.AllocError.{AllocError}
use Rattle.chains.specs.Order.{Order}
use Rattle.maps.specs.Rules.{Rules}
use Rattle.study.specs.Calls.{Call}
use Rattle.study.specs.History.{Event, event}
use Rattle.study.specs.Law.{Accounted}
use Rattle.study.specs.Replies.{Reply}
use Rattle.transcript.specs.Lines.{done_name, reply_line}
use Rattle.transcript.specs.Text.{Appended}
use Rattle.transcript.specs.Transcript.{lent, returned}
use Rattle.transcript.specs.declared.session.Session.{Session}

module _ {M V : Type 0} (o : Order M V) (r : Rules M) (call : Call V) (before : Session V M) where
  -- the call, with what it was lent of the record
  abbrev pub lending : Reply → Session V M → Event M V
  lending reply after = event call before.study before.strip.items (lent call before.log.items) reply after.study after.strip.items (lent call after.log.items)

  -- it did what its definition says and keeps the law of runs, and a record that was not lent is as it was
  pub record Made (reply : Reply) (after : Session V M) : Type 0 where
    pub accounted : Accounted o r (lending reply after)
    pub unlent : after.log.items ≡ returned call before.log.items (lent call after.log.items)
    pub dims : after.dims ≡ before.dims

  -- it was made, and its line stands behind the text, unless memory was wanting
  pub record Told (show : V → List ℕ) (done : Result (Unit {0}) AllocError) (after : Session V M) : Type 0 where
    pub reply : Reply
    pub made : Made reply after
    pub line : Appended before.text (reply_line show before.dims (done_name call) reply after.strip.items) done after.text
