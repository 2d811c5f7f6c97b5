-- Calls one after the other: what holds between two of them.
use Rattle.std.proofs.Common.{◌≡◌, ℕ, ◌+◌, ◌-◌, ◌<◌, ◌≤◌, List, [], ◌∷◌, ◌++◌, map, length, get_or, drop, string_bytes, sym, refl, ap, ◌∙◌, append_assoc, arith}
use Rattle.std.proofs.lemmas.List.{append-nil, drop_all, drop_more}
use Rattle.chains.specs.Order.{Order}
use Rattle.maps.specs.Rules.{Rules, SameOrder, SameRules}
use Rattle.transcript.proofs.Twins.{same_alike}
use Rattle.sheets.specs.declared.calls.Call.{Call as PlanCall}
use Rattle.study.specs.History.{Did, Event, Run, due}
use Rattle.study.specs.Replies.{Reply}
use Rattle.transcript.proofs.Alike.{deed_alike}
use Rattle.transcript.specs.Lines.{done_name, reply_line}
use Rattle.transcript.specs.Making.{Made, lending}
use Rattle.transcript.specs.Ran.{CallsTold, calls_onto, stand_of, told_of}
use Rattle.transcript.specs.declared.session.Session.{Session}
use Rattle.transcript.specs.Transcript.{after, call_lines, due_at, ending, lent, line_at, planned_call, returned}

module _ {M V : Type 0} (o : Order M V) (r : Rules M) (show : V → List ℕ) (xs : List (PlanCall V)) (start : Session V M) where
  -- after the first i of the calls
  pub record Going (i : ℕ) (s : Session V M) : Type 0 where
    pub dims : s.dims ≡ r.dims start.study.map
    pub same : SameRules r start.study.map s.study.map
    pub same_order : SameOrder o start.study.map s.study.map
    pub lines : string_bytes s.text ++ call_lines o r start.study.map show (stand_of s) (map planned_call (drop i xs)) ≡ string_bytes start.text ++ call_lines o r start.study.map show (stand_of start) (map planned_call xs)
    pub ends : ending o r start.study.map (stand_of s) (map planned_call (drop i xs)) ≡ ending o r start.study.map (stand_of start) (map planned_call xs)
    pub history : List (Event M V)
    pub run : Run o r start.study history s.study
    pub asked : calls_onto history (map planned_call (drop i xs)) ≡ map planned_call xs
    pub told : string_bytes s.text ≡ string_bytes start.text ++ told_of o r show history

  pub going_first : start.dims ≡ r.dims start.study.map → Going 0 start
  going_first dims = record {
    dims = dims;
    same = record { dims = refl; sizes = refl; meaning = λ q. refl };
    same_order = record { size = refl; member = λ x. refl; rank = λ x. refl };
    lines = refl;
    ends = refl;
    history = [];
    run = Run.none;
    asked = refl;
    told = sym (append-nil (string_bytes start.text));
  }

  -- one more call was made, and its line appended
  pub going_more : (i : ℕ) (x : PlanCall V) (s : Session V M) (reply : Reply) (s' : Session V M) → i < length xs → x ≡ get_or xs i x → Made o r (planned_call x) s reply s' → string_bytes s'.text ≡ string_bytes s.text ++ reply_line show s.dims (done_name (planned_call x)) reply s'.strip.items → Going i s → Going (i + 1) s'
  going_more i x s reply s' h read made line g =
      let m = start.study.map in
      let call = planned_call x in
      let rest = map planned_call (drop (i + 1) xs) in
      let t = stand_of s in
      let text = string_bytes s.text in
      let e = lending o r call s reply s' in
      let did : Did o r e = made.accounted.did in
      let here : map planned_call (drop i xs) ≡ call ∷ rest = ap (map planned_call) (drop_more xs i x h ∙ ap (λ y. y ∷ drop (i + 1) xs) (sym read)) in
      let alike : due o r e ≡ due_at o r m t call = deed_alike o r s.study.map o r m (same_alike o r m s.study.map g.same g.same_order) t.left t.box t.strip (lent call t.log) call in
      let left : s'.study.left ≡ t.left - length (due o r e).questions = omega (arith, did.left) in
      let strip : s'.strip.items ≡ (due_at o r m t call).strip = did.strip ∙ ap (λ d. d.strip) alike in
      let stands : stand_of s' ≡ after o r m t call = λ i. record {
        left = (left ∙ ap (λ d. t.left - length d.questions) alike) i;
        box = (did.box ∙ ap (λ d. d.box) alike) i;
        strip = strip i;
        log = (made.unlent ∙ ap (returned call t.log) (did.log ∙ ap (λ d. d.log) alike)) i;
      } in
      let line_is : reply_line show s.dims (done_name call) reply s'.strip.items ≡ line_at o r m show t call =
      λ i. reply_line show (g.dims i) (done_name call) ((did.reply ∙ ap (λ d. d.reply) alike) i) (strip i) in
      record {
        dims = made.dims ∙ g.dims;
        same = record { dims = did.same.dims ∙ g.same.dims; sizes = did.same.sizes ∙ g.same.sizes; meaning = λ q. did.same.meaning q ∙ g.same.meaning q };
        same_order = record { size = did.same_order.size ∙ g.same_order.size; member = λ x. did.same_order.member x ∙ g.same_order.member x; rank = λ v. did.same_order.rank v ∙ g.same_order.rank v };
        lines =
            ap (λ y. y ++ call_lines o r m show (stand_of s') rest) (line ∙ ap (λ y. text ++ y) line_is)
            ∙ ap (λ y. (text ++ line_at o r m show t call) ++ call_lines o r m show y rest) stands
            ∙ append_assoc text (line_at o r m show t call) (call_lines o r m show (after o r m t call) rest)
            ∙ sym (ap (λ y. text ++ call_lines o r m show t y) here)
            ∙ g.lines;
        ends = ap (λ y. ending o r m y rest) stands ∙ sym (ap (ending o r m t) here) ∙ g.ends;
        history = e ∷ g.history;
        run = Run.next g.run did;
        asked = sym (ap (calls_onto g.history) here) ∙ g.asked;
        told =
            line
            ∙ ap (λ y. y ++ reply_line show s.dims (done_name call) reply s'.strip.items) g.told
            ∙ append_assoc (string_bytes start.text) (told_of o r show g.history) (reply_line show s.dims (done_name call) reply s'.strip.items)
            ∙ ap (λ d. string_bytes start.text ++ (told_of o r show g.history ++ reply_line show d (done_name call) reply s'.strip.items)) (g.dims ∙ sym g.same.dims);
      }

  -- all were made
  pub going_all : (i : ℕ) (s : Session V M) → length xs ≤ i → Going i s → CallsTold o r show (map planned_call xs) start s
  going_all i s h g =
      let none : map planned_call (drop i xs) ≡ [] = ap (map planned_call) (drop_all i xs h) in
      record {
        exact = sym (append-nil (string_bytes s.text)) ∙ sym (ap (λ y. string_bytes s.text ++ call_lines o r start.study.map show (stand_of s) y) none) ∙ g.lines;
        left = ap (λ t. t.left) (sym (ap (ending o r start.study.map (stand_of s)) none) ∙ g.ends);
        history = g.history;
        run = g.run;
        asked = sym (ap (calls_onto g.history) none) ∙ g.asked;
        told = g.told;
      }
