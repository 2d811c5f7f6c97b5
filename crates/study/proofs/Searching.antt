-- A search: how what the inner search leaves makes up what its definition says.
use Rattle.std.proofs.Common.{◌≡◌, ℕ, ◌+◌, ◌*◌, ◌<◌, ◌≤◌, ltb, List, length, take, Ok, Err, Result, sym, refl, ap, ◌∙◌, ap₂, arith}
use Rattle.std.proofs.lemmas.Bool.{cond-true, cond-false, le-ltb, lt-ltb}
use Rattle.chains.specs.Order.{Order}
use Rattle.points.specs.declared.Entry.{Entry}
use Rattle.maps.specs.Rules.{Rules, RulesLaws}
use Rattle.bisection.specs.Run.{Outcome, count}
use Rattle.study.specs.Calls.{found_reply, found_strip, left_by, pair_ranks, searched_box, strip_with}
use Rattle.study.specs.Calls.Call.{search}
use Rattle.study.specs.History.{event}
use Rattle.study.specs.Law.{Accounted}
use Rattle.study.specs.Replies.{Reply}
use Rattle.study.specs.Seek.{Sought, due_search, ended_by, refusal_of}
use Rattle.study.specs.Values.{written}
use Rattle.study.specs.declared.reply.Refusal.{Refusal}
use Rattle.study.specs.declared.reply.Refusal.TheVariants.{Strip}
use Rattle.study.specs.declared.reply.Report.{Report}
use Rattle.study.specs.declared.seek.Found.{Found}
use Rattle.study.specs.declared.seek.Halt.{Halt}
use Rattle.study.specs.declared.state.Study.{Study}
use Rattle.study.proofs.Cells.{written_same}
use Rattle.study.proofs.Doing.{by_deed, unput}

-- what an end makes, as far as it is a refusal
abbrev pub refused : ℕ → Result Found Halt → Result Found Refusal
refused n (Ok found) = Ok found
refused n (Err halt) = Err (refusal_of n halt)

module _ {M V : Type 0} (o : Order M V) (r : Rules M) (laws : RulesLaws r) (s : Study M) (strip : List V) (log : List Entry) where
  pub short : length strip < 4 * r.dims s.map → Accounted o r (event search s strip log (Err Strip) s strip log)
  short h =
      unput o r laws s strip log search (Err Strip) Strip refl
      (cond-true (ltb (length strip) (4 * r.dims s.map)) _ _ (lt-ltb (length strip) (4 * r.dims s.map) h))

  -- the reply that an end makes, with its count, and the strip that it leaves
  abbrev pub reply_of : ℕ → Result Found Halt → Reply
  reply_of n (Ok (Found.Settled q)) = Ok (Report.Settled n)
  reply_of n (Ok (Found.Pair low high k)) = Ok (Report.Pair n k)
  reply_of n (Err halt) = Err (refusal_of n halt)

  abbrev pub strip_of : Result Found Halt → List V
  strip_of (Ok (Found.Settled q)) = strip_with o r s strip log (take (r.dims s.map) q)
  strip_of (Ok (Found.Pair low high k)) = strip_with o r s strip log (pair_ranks (r.dims s.map) low high)
  strip_of (Err halt) = strip

  reply_due : (n : ℕ) (out : Outcome) → reply_of n (ended_by out) ≡ found_reply o r s strip log n out
  reply_due n (Outcome.settles q) = refl
  reply_due n (Outcome.pairs low high k) = refl
  reply_due n Outcome.spent = refl
  reply_due n Outcome.full = refl
  reply_due n (Outcome.faults q f) = refl

  strip_due : (out : Outcome) → strip_of (ended_by out) ≡ found_strip o r s strip log out
  strip_due (Outcome.settles q) = refl
  strip_due (Outcome.pairs low high k) = refl
  strip_due Outcome.spent = refl
  strip_due Outcome.full = refl
  strip_due (Outcome.faults q f) = refl

  refuses : (n : ℕ) (end : Result Found Halt) (refusal : Refusal) → Err refusal ≡ refused n end → (Err refusal ≡ reply_of n end) × (strip ≡ strip_of end)
  refuses n (Ok found) refusal e = absurd cc
  refuses n (Err halt) refusal e = let is : refusal ≡ refusal_of n halt = cc in (ap Err is, refl)

  module _ (room : 4 * r.dims s.map ≤ length strip) (end : Result Found Halt) (t : Study M) (logged : List Entry) (sought : Sought o r s log end t logged) (n : ℕ) (spent : n + t.left ≡ s.left) where
    long : searched_box o r s strip log ≡ left_by o r s strip log (due_search r s log)
    long = cond-false (ltb (length strip) (4 * r.dims s.map)) _ _ (le-ltb (length strip) (4 * r.dims s.map) room)

    searches : (reply : Reply) (shown : List V) → reply ≡ reply_of n end → shown ≡ strip_of end → Accounted o r (event search s strip log reply t shown logged)
    searches reply shown told shows =
        let many : n ≡ count (due_search r s log) = omega (arith, sought.left) in
        by_deed o r laws s strip log search _ long reply t shown logged
        (told ∙ ap₂ reply_of many sought.ended ∙ reply_due (count (due_search r s log)) (due_search r s log).outcome)
        (shows ∙ ap strip_of sought.ended ∙ strip_due (due_search r s log).outcome)
        sought.filled sought.box sought.left sought.leads sought.same sought.same_order

    -- what the map that the search leaves writes is written as before the search
    pub shown_same : (ranks : ℕ → List ℕ) → written (o.member t.map) (ranks (r.dims t.map)) strip ≡ strip_with o r s strip log (ranks (r.dims s.map))
    shown_same ranks =
        ap (λ d. written (o.member t.map) (ranks d) strip) sought.same.dims
        ∙ written_same (o.member t.map) (o.member s.map) sought.same_order.member (ranks (r.dims s.map)) strip

    pub settled : (q : List ℕ) (shown : List V) → end ≡ Ok (Found.Settled q) → shown ≡ written (o.member t.map) (take (r.dims t.map) q) strip → Accounted o r (event search s strip log (Ok (Report.Settled n)) t shown logged)
    settled q shown is shows =
        searches (Ok (Report.Settled n)) shown (sym (ap (reply_of n) is)) (shows ∙ shown_same (λ d. take d q) ∙ sym (ap strip_of is))

    pub paired : (low high : Entry) (k : ℕ) (shown : List V) → end ≡ Ok (Found.Pair low high k) → shown ≡ written (o.member t.map) (pair_ranks (r.dims t.map) low high) strip → Accounted o r (event search s strip log (Ok (Report.Pair n k)) t shown logged)
    paired low high k shown is shows =
        searches (Ok (Report.Pair n k)) shown (sym (ap (reply_of n) is)) (shows ∙ shown_same (λ d. pair_ranks d low high) ∙ sym (ap strip_of is))

    pub halts : (refusal : Refusal) (shown : List V) → shown ≡ strip → Err refusal ≡ refused n end → Accounted o r (event search s strip log (Err refusal) t shown logged)
    halts refusal shown same is = let makes = refuses n end refusal is in searches (Err refusal) shown makes.0 (same ∙ makes.1)
