-- The search as it goes: what holds before each question, and how each way on or out of it keeps to the run that is due.
use Rattle.std.proofs.Common.{◌≡◌, ℕ, zero, suc, ◌+◌, ◌-◌, ◌<◌, ◌≤◌, List, [], ◌∷◌, ◌++◌, map, length, take, drop, set, Ok, Err, Result, sym, refl, ap, ◌∙◌, subst, ap₂, append_assoc, arith}
use Rattle.std.proofs.lemmas.List.{append-nil, drop-drop, drop-set-lt, length-append, length-map, length-set, length-take-le, map_push, take-append-drop, take_more_set}
use Rattle.chains.specs.Order.{Order}
use Rattle.points.specs.Points.{Meaning}
use Rattle.points.specs.declared.Entry.{Entry}
use Rattle.points.specs.declared.Fault.{Fault}
use Rattle.maps.specs.Rules.{Rules, RulesLaws, SameOrder, SameRules}
use Rattle.bisection.specs.Judge.{Decision, decision}
use Rattle.bisection.specs.Levels.{entry_of, opened, question}
use Rattle.bisection.specs.Machine.{in_range}
use Rattle.bisection.specs.Run.{Outcome, Ran, after, count, ended, follow, questions, replied, run, unanswered}
use Rattle.bisection.specs.declared.level.Level.{Level}
use Rattle.study.specs.History.{Leads}
use Rattle.study.specs.History.Leads.{stays}
use Rattle.study.specs.Seek.{Sought, due_search, ended_by}
use Rattle.study.specs.declared.state.Study.{Study}
use Rattle.study.proofs.Led.{lead_more}

-- entries made before a search that goes on so
abbrev pub prepended : List Entry → Ran → Ran
prepended es ran = ended (es ++ ran.entries) ran.outcome

-- the questions of entries
abbrev pub points_of : List Entry → List (List ℕ)
points_of es = map (λ (e : Entry). e.point) es

-- a question is put where something is left and the record has room
pub run_more : (F : Meaning) (ls : List Level) (left room : ℕ) → 1 ≤ left → 1 ≤ room → run F ls left room ≡ replied ls (λ next. run F next (left - 1) (room - 1)) (F (question ls))
run_more F ls zero room hl hr = absurd (omega arith)
run_more F ls (suc left) zero hl hr = absurd (omega arith)
run_more F ls (suc left) (suc room) hl hr =
    let l : left ≡ suc left - 1 = omega arith in
    let m : room ≡ suc room - 1 = omega arith in
    ap₂ (λ x y. replied ls (λ next. run F next x y) (F (question ls))) l m

-- lists that agree from c on agree from the next place on
drop_later : (c : ℕ) (xs ys : List Entry) → drop c xs ≡ drop c ys → drop (c + 1) xs ≡ drop (c + 1) ys
drop_later c xs ys e = sym (drop-drop 1 c xs) ∙ ap (drop 1) e ∙ drop-drop 1 c ys

module _ {M V : Type 0} (o : Order M V) (r : Rules M) (s₀ : Study M) (log₀ : List Entry) where
  -- what holds before a question, after c were answered: the entries so far and the search from these levels are the run that is due
  pub record Asking (ls : List Level) (c : ℕ) (s : Study M) (log : List Entry) : Type 0 where
    pub whole : length log ≡ length log₀
    pub within : c ≤ length log₀
    pub beyond : drop c log ≡ drop c log₀
    pub box : s.bounds ≡ s₀.bounds
    pub left : s.left + c ≡ s₀.left
    pub leads : Leads r s₀.map (points_of (take c log)) s.map
    pub same : SameRules r s₀.map s.map
    pub same_order : SameOrder o s₀.map s.map
    pub ran : prepended (take c log) (run (r.meaning s₀.map) ls s.left (length log₀ - c)) ≡ due_search r s₀ log₀

  -- before the first question
  pub begins : RulesLaws r → (d : ℕ) (ls : List Level) → d ≡ r.dims s₀.map → ls ≡ opened s₀.bounds (in_range d) [] → Asking ls 0 s₀ log₀
  begins laws d ls is at_first = record {
    whole = refl;
    within = omega arith;
    beyond = refl;
    box = refl;
    left = omega arith;
    leads = stays;
    same = record { dims = refl; sizes = refl; meaning = λ q. refl };
    same_order = record { size = refl; member = λ k. refl; rank = λ v. refl };
    ran =
        let all : in_range d ≡ r.dims s₀.map = omega (arith, laws.counted s₀.map) in
        let room : length log₀ - 0 ≡ length log₀ = omega arith in
        ap₂ (λ l n. run (r.meaning s₀.map) l s₀.left n) (at_first ∙ ap (λ n. opened s₀.bounds n []) all) room;
  }

  -- the search has ended with these entries
  pub closing : (es : List Entry) (out : Outcome) (c : ℕ) (t : Study M) (log : List Entry) → ended es out ≡ due_search r s₀ log₀ → c ≡ length es + length (unanswered out) → log ≡ es ++ drop (length es) log₀ → t.bounds ≡ s₀.bounds → t.left + c ≡ s₀.left → Leads r s₀.map (points_of es ++ unanswered out) t.map → SameRules r s₀.map t.map → SameOrder o s₀.map t.map → Sought o r s₀ log₀ (ended_by out) t log
  closing es out c t log is many filled box left leads same same_order =
      let total : c ≡ count (ended es out) = many ∙ sym (length-append (points_of es) (unanswered out) ∙ ap (λ n. n + length (unanswered out)) (length-map es (λ (e : Entry). e.point))) in
      record {
        ended = ap (λ ran. ended_by ran.outcome) is;
        filled = filled ∙ ap (λ (ran : Ran). ran.entries ++ drop (length ran.entries) log₀) is;
        box = box;
        left = ap (λ n. t.left + n) (sym (total ∙ ap count is)) ∙ left;
        leads = subst (λ (ran : Ran). Leads r s₀.map (questions ran) t.map) is leads;
        same = same;
        same_order = same_order;
      }

  module _ (ls : List Level) (c : ℕ) (s : Study M) (log : List Entry) (asking : Asking ls c s log) where
    taken : length (take c log) ≡ c
    taken = length-take-le c log (omega (arith, asking.within, asking.whole))

    logged : log ≡ take c log ++ drop (length (take c log)) log₀
    logged =
        sym (take-append-drop c log) ∙ ap (λ xs. take c log ++ xs) (asking.beyond ∙ ap (λ n. drop n log₀) (sym taken))

    -- a question is due and none can be put, so the search ends as it is
    stopped : (out : Outcome) → run (r.meaning s₀.map) ls s.left (length log₀ - c) ≡ ended [] out → unanswered out ≡ [] → Sought o r s₀ log₀ (ended_by out) s log
    stopped out e none =
        closing (take c log) out c s log
        (ap (λ es. ended es out) (sym (append-nil (take c log))) ∙ sym (ap (prepended (take c log)) e) ∙ asking.ran)
        (omega (arith, taken, ap length none)) logged asking.box asking.left
        (subst (λ qs. Leads r s₀.map qs s.map) (sym (ap (λ qs. points_of (take c log) ++ qs) none ∙ append-nil (points_of (take c log)))) asking.leads)
        asking.same asking.same_order

    pub ends_spent : s.left ≡ 0 → Sought o r s₀ log₀ (ended_by Outcome.spent) s log
    ends_spent e = stopped Outcome.spent (ap (λ n. run (r.meaning s₀.map) ls n (length log₀ - c)) e) refl

    full_run : (left room : ℕ) → 1 ≤ left → room ≡ 0 → run (r.meaning s₀.map) ls left room ≡ ended [] Outcome.full
    full_run zero room h e = absurd (omega arith)
    full_run (suc left) room h e = ap (λ n. run (r.meaning s₀.map) ls (suc left) n) e

    pub ends_full : 1 ≤ s.left → length log ≤ c → Sought o r s₀ log₀ (ended_by Outcome.full) s log
    ends_full some out = stopped Outcome.full (full_run s.left (length log₀ - c) some (omega (arith, asking.whole))) refl

    -- what is due where a question is put and its reply is b
    put : 1 ≤ s.left → c < length log₀ → (b : Result (List ℕ) Fault) → b ≡ r.meaning s.map (question ls) → prepended (take c log) (replied ls (λ next. run (r.meaning s₀.map) next (s.left - 1) (length log₀ - c - 1)) b) ≡ due_search r s₀ log₀
    put some room b is =
        ap (λ x. prepended (take c log) (replied ls (λ next. run (r.meaning s₀.map) next (s.left - 1) (length log₀ - c - 1)) x)) (is ∙ asking.same.meaning (question ls))
        ∙ sym (ap (prepended (take c log)) (run_more (r.meaning s₀.map) ls s.left (length log₀ - c) some (omega arith)))
        ∙ asking.ran

    module _ (t : Study M) (some : 1 ≤ s.left) (room : c < length log₀) (box : t.bounds ≡ s.bounds) (spent : t.left ≡ s.left - 1) (moved : r.puts s.map (question ls) t.map) (same : SameRules r s.map t.map) (same_order : SameOrder o s.map t.map) where
      kept : SameRules r s₀.map t.map
      kept = record {
        dims = same.dims ∙ asking.same.dims;
        sizes = same.sizes ∙ asking.same.sizes;
        meaning = λ q. same.meaning q ∙ asking.same.meaning q;
      }

      kept_order : SameOrder o s₀.map t.map
      kept_order = record {
        size = same_order.size ∙ asking.same_order.size;
        member = λ k. same_order.member k ∙ asking.same_order.member k;
        rank = λ v. same_order.rank v ∙ asking.same_order.rank v;
      }

      led : Leads r s₀.map (points_of (take c log) ++ question ls ∷ []) t.map
      led = lead_more r asking.leads moved

      -- the question met a fault
      pub ends_fault : (f : Fault) → Err f ≡ r.meaning s.map (question ls) → Sought o r s₀ log₀ (ended_by (Outcome.faults (question ls) f)) t log
      ends_fault f is =
          closing (take c log) (Outcome.faults (question ls) f) (c + 1) t log
          (ap (λ es. ended es (Outcome.faults (question ls) f)) (sym (append-nil (take c log))) ∙ put some room (Err f) is)
          (omega (arith, taken)) logged (box ∙ asking.box) (omega (arith, asking.left, spent)) led kept kept_order

      module _ (y : List ℕ) (is : Ok y ≡ r.meaning s.map (question ls)) where
        -- the record with one more entry
        abbrev log_with : List Entry
        log_with = set log c (entry_of ls y)

        more : take (c + 1) log_with ≡ take c log ++ entry_of ls y ∷ []
        more = take_more_set log c (entry_of ls y) (omega (arith, asking.whole))

        more_led : Leads r s₀.map (points_of (take (c + 1) log_with)) t.map
        more_led =
            subst (λ qs. Leads r s₀.map qs t.map)
            (sym (ap points_of more ∙ map_push (λ (e : Entry). e.point) (take c log) (entry_of ls y))) led

        due : (d : Decision) → d ≡ decision ls y → prepended (take c log) (follow (entry_of ls y) (λ next. run (r.meaning s₀.map) next (s.left - 1) (length log₀ - c - 1)) d) ≡ due_search r s₀ log₀
        due d e =
            ap (λ x. prepended (take c log) (follow (entry_of ls y) (λ next. run (r.meaning s₀.map) next (s.left - 1) (length log₀ - c - 1)) x)) e
            ∙ put some room (Ok y) is

        -- the answer ends the search
        answered : (out : Outcome) → unanswered out ≡ [] → ended (take c log ++ entry_of ls y ∷ []) out ≡ due_search r s₀ log₀ → Sought o r s₀ log₀ (ended_by out) t log_with
        answered out none e =
            let long : length (take (c + 1) log_with) ≡ c + 1 = length-take-le (c + 1) log_with (omega (arith, length-set log c (entry_of ls y), asking.whole)) in
            let rest : drop (c + 1) log_with ≡ drop (c + 1) log₀ = drop-set-lt (c + 1) log c (entry_of ls y) (omega arith) ∙ later in
            closing (take (c + 1) log_with) out (c + 1) t log_with (ap (λ es. ended es out) more ∙ e) (omega (arith, long, ap length none))
            (sym (take-append-drop (c + 1) log_with) ∙ ap (λ xs. take (c + 1) log_with ++ xs) (rest ∙ ap (λ n. drop n log₀) (sym long)))
            (box ∙ asking.box) (omega (arith, asking.left, spent))
            (subst (λ qs. Leads r s₀.map qs t.map) (sym (ap (λ qs. points_of (take (c + 1) log_with) ++ qs) none ∙ append-nil (points_of (take (c + 1) log_with)))) more_led)
            kept kept_order
          where
            later : drop (c + 1) log ≡ drop (c + 1) log₀
            later = drop_later c log log₀ asking.beyond

        pub ends_settled : Decision.settled ≡ decision ls y → Sought o r s₀ log₀ (ended_by (Outcome.settles (question ls))) t log_with
        ends_settled e = answered (Outcome.settles (question ls)) refl (due Decision.settled e)

        pub ends_pair : (low high : Entry) (k : ℕ) → Decision.pair low high k ≡ decision ls y → Sought o r s₀ log₀ (ended_by (Outcome.pairs low high k)) t log_with
        ends_pair low high k e = answered (Outcome.pairs low high k) refl (due (Decision.pair low high k) e)

        -- the search goes on with new levels
        pub goes_on : (next : List Level) → Decision.goes next ≡ decision ls y → Asking next (c + 1) t log_with
        goes_on next e = record {
          whole = length-set log c (entry_of ls y) ∙ asking.whole;
          within = omega arith;
          beyond = drop-set-lt (c + 1) log c (entry_of ls y) (omega arith) ∙ drop_later c log log₀ asking.beyond;
          box = box ∙ asking.box;
          left = omega (arith, asking.left, spent);
          leads = more_led;
          same = kept;
          same_order = kept_order;
          ran =
              ap (λ es. prepended es rest) more
              ∙ ap (λ es. ended es rest.outcome) (append_assoc (take c log) (entry_of ls y ∷ []) rest.entries)
              ∙ ap₂ (λ a b. prepended (take c log) (after (entry_of ls y) (run (r.meaning s₀.map) next a b))) spent fewer
              ∙ due (Decision.goes next) e;
        }
          where
            rest : Ran
            rest = run (r.meaning s₀.map) next t.left (length log₀ - (c + 1))

            fewer : length log₀ - (c + 1) ≡ length log₀ - c - 1
            fewer = omega arith
