-- What is read in steps: a fault of a step is the fault of the whole.
use Rattle.std.proofs.Common.{◌≡◌, Ok, Err, Result, ap, ◌∙◌}
use Rattle.std.specs.Result.{IsErrAnd}
use Rattle.sheets.specs.Reading.{Reader, Reads, State, Takes, Tells, TellsOr, Told, and_then}
use Rattle.sheets.specs.declared.faults.Unread.{Unread}
use Rattle.sheets.specs.declared.faults.Unread.TheVariants.{Bad, Memory}

-- the step has the fault
pub stops : {X Y : Type 0} (d : Result (X × State) Told) (next : X → Reader Y) (e : Unread) → Tells d e → Tells (and_then d next) e
stops d next (Bad f line) h = ap (λ r. and_then r next) h
stops d next Memory h = h

-- the same where memory may be wanting
pub stops_or : {X Y : Type 0} (d : Result (X × State) Told) (next : X → Reader Y) (e : Unread) → TellsOr d e → TellsOr (and_then d next) e
stops_or d next (Bad f line) h = ap (λ r. and_then r next) h
stops_or d next Memory h = h

pub like_or : {X : Type 0} (d d' : Result (X × State) Told) (e : Unread) → d' ≡ d → TellsOr d e → TellsOr d' e
like_or d d' (Bad f line) h t = h ∙ t
like_or d d' Memory h t = t

pub told_or : {X : Type 0} (d : Result (X × State) Told) (e : Unread) → Tells d e → TellsOr d e
told_or d (Bad f line) h = h
told_or d Memory h = absurd h

-- what was read with no memory wanting was read
pub takes_read : {X Y : Type 0} (meaning : Y → X) (d : Result (X × State) Told) (r : Result Y Unread) (after : State) → Takes meaning d r after → Reads meaning d r after
takes_read meaning d (Ok y) after h = h
takes_read meaning d (Err e) after h = told_or d e h

-- what is read one way is read the other way
pub like : {X : Type 0} (d d' : Result (X × State) Told) (e : Unread) → d' ≡ d → Tells d e → Tells d' e
like d d' (Bad f line) h t = h ∙ t
like d d' Memory h t = t

-- an error is passed on
pub passed_on : {X Y : Type 0} (meaning : Y → X) (d : Result (X × State) Told) (r : Result Y Unread) (after : State) (e : Unread) → IsErrAnd r (λ v. v ≡ e) → Tells d e → Takes meaning d r after
passed_on meaning d (Ok y) after e h t = absurd h
passed_on meaning d (Err v) after e h t = rw h t

pub passed_on_or : {X Y : Type 0} (meaning : Y → X) (d : Result (X × State) Told) (r : Result Y Unread) (after : State) (e : Unread) → IsErrAnd r (λ v. v ≡ e) → TellsOr d e → Reads meaning d r after
passed_on_or meaning d (Ok y) after e h t = absurd h
passed_on_or meaning d (Err v) after e h t = rw h t

-- what a function of several steps needs
pub ruleset steps = (passed_on, passed_on_or, stops, stops_or, told_or)
