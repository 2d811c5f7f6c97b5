-- What a call does to a sound box, whatever it is.
use Rattle.std.proofs.Common.{◌≡◌, ℕ, zero, suc, ◌-◌, ◌*◌, Bool, true, false, cond, ltb, List, [], ◌∷◌, ◌++◌, length, get_or, replicate, Some, None, Ok, Option, sym, refl, subst, inl, le_refl, arith}
use mathlib.Core.Path.{subst₃, fun_ext}
use Rattle.std.proofs.lemmas.List.{length-replicate}
use Rattle.chains.specs.Order.{Order}
use Rattle.points.specs.Points.{AtMost, Meaning, eight, rank_of, size_of}
use Rattle.points.specs.declared.Entry.{Entry}
use Rattle.points.proofs.Eight.{eight_at, eight_length}
use Rattle.points.proofs.Tested.{point_from}
use Rattle.maps.specs.Rules.{Rules, RulesLaws, SameRules}
use Rattle.bisection.specs.Run.{Outcome, count}
use Rattle.bisection.specs.Sound.{Sound}
use Rattle.bisection.specs.declared.bounds.Bounds.{Bounds}
use Rattle.study.specs.Calls.{Deed, found_reply, left_by, refused_after, searched_box}
use Rattle.study.specs.History.{whole_box}
use Rattle.study.specs.Replies.{reported}
use Rattle.study.specs.Seek.{due_search}
use Rattle.study.specs.declared.reply.Refusal.TheVariants.{Strip}
use Rattle.study.specs.declared.state.Study.{Study}
use Rattle.study.proofs.Order.{point_under}
use Rattle.study.proofs.SearchLaw.{FootingPut, among_right}
use Rattle.study.proofs.Ways.{Moved, Way}
use Rattle.study.proofs.Ways.Moved.{same, up, down}
use Rattle.study.proofs.Ways.Way.{unput, fault, answer}

at_most_refl : (p : List ℕ) → AtMost p p
at_most_refl p i = le_refl (rank_of p i)

-- a footing that was put stays one
kept_footing : (new es : List Entry) (o : Option Entry) → FootingPut es o → FootingPut (new ++ es) o
kept_footing new es None m = tt
kept_footing new es (Some e) m = among_right e new es m

-- how a box moves to another, where these questions were answered
pub record Steps (F : Meaning) (sizes : List ℕ) (d : ℕ) (b : Bounds) (new : List Entry) (to : Bounds) : Type 0 where
  pub floor : AtMost b.floor.at to.floor.at
  pub roof : AtMost to.roof.at b.roof.at
  pub sound : Sound F sizes d to
  pub floor_put : (es : List Entry) → FootingPut es b.floor.footing → FootingPut (new ++ es) to.floor.footing
  pub roof_put : (es : List Entry) → FootingPut es b.roof.footing → FootingPut (new ++ es) to.roof.footing

-- what a deed does to a box
pub record Stepped {V : Type 0} (F : Meaning) (sizes : List ℕ) (d : ℕ) (b : Bounds) (D : Deed V) : Type 0 where
  pub counted : reported D.reply ≡ length D.questions
  pub steps : Steps F sizes d b D.entries D.box

module _ (F : Meaning) (sizes : List ℕ) (d : ℕ) (b : Bounds) (sound : Sound F sizes d b) where
  -- the box is left as it was
  stays : (new : List Entry) → Steps F sizes d b new b
  stays new = record {
    floor = at_most_refl b.floor.at;
    roof = at_most_refl b.roof.at;
    sound = sound;
    floor_put = λ es m. kept_footing new es b.floor.footing m;
    roof_put = λ es m. kept_footing new es b.roof.footing m;
  }

  -- a point in the box becomes its floor, or its roof
  moves : (e : Entry) (to : Bounds) → F e.point ≡ Ok e.answer → length e.point ≡ 8 → Moved b e to → Steps F sizes d b (e ∷ []) to
  moves e to t n same = stays (e ∷ [])
  moves e to t n (up between rises) = record {
    floor = between.0;
    roof = at_most_refl b.roof.at;
    sound = record {
      some = sound.some;
      most = sound.most;
      unused = sound.unused;
      answers = sound.answers;
      floor_point = point_under sizes e.point b.roof.at n between.1 sound.roof_point;
      roof_point = sound.roof_point;
      ordered = between.1;
      floor_stands = (at_most_refl e.point, rises, t);
      roof_stands = sound.roof_stands;
    };
    floor_put = λ es m. inl refl;
    roof_put = λ es m. kept_footing (e ∷ []) es b.roof.footing m;
  }
  moves e to t n (down between falls) = record {
    floor = at_most_refl b.floor.at;
    roof = between.1;
    sound = record {
      some = sound.some;
      most = sound.most;
      unused = sound.unused;
      answers = sound.answers;
      floor_point = sound.floor_point;
      roof_point = point_under sizes e.point b.roof.at n between.1 sound.roof_point;
      ordered = between.0;
      floor_stands = sound.floor_stands;
      roof_stands = (falls, at_most_refl e.point, t);
    };
    floor_put = λ es m. kept_footing (e ∷ []) es b.floor.footing m;
    roof_put = λ es m. inl refl;
  }

module _ {M V : Type 0} (o : Order M V) (r : Rules M) (laws : RulesLaws r) (s : Study M) (strip : List V) (log : List Entry) (sound : Sound (r.meaning s.map) (r.sizes s.map) (r.dims s.map) s.bounds) where
  abbrev F : Meaning
  F = r.meaning s.map

  -- a deed that leaves the box
  still : (D : Deed V) → D.box ≡ s.bounds → reported D.reply ≡ length D.questions → Stepped F (r.sizes s.map) (r.dims s.map) s.bounds D
  still D box counted = record {
    counted = counted;
    steps = subst (Steps F (r.sizes s.map) (r.dims s.map) s.bounds D.entries) (sym box) (stays F (r.sizes s.map) (r.dims s.map) s.bounds sound D.entries);
  }

  pub stepped_way : (D : Deed V) → Way o r laws s strip log D → Stepped F (r.sizes s.map) (r.dims s.map) s.bounds D
  stepped_way D (unput refusal none) = still _ refl none
  stepped_way D (fault q f) = still _ refl refl
  stepped_way D (answer e reply box t one n moved) =
      record { counted = one; steps = moves F (r.sizes s.map) (r.dims s.map) s.bounds sound e box t n moved }

  -- a search reports the questions that it put, and leaves the box
  found_counted : (n : ℕ) (out : Outcome) → reported (found_reply o r s strip log n out) ≡ n
  found_counted n (Outcome.settles q) = refl
  found_counted n (Outcome.pairs low high k) = refl
  found_counted n Outcome.spent = refl
  found_counted n Outcome.full = refl
  found_counted n (Outcome.faults q f) = refl

  search_if : (b : Bool) → Stepped F (r.sizes s.map) (r.dims s.map) s.bounds (cond b (refused_after o r s strip log [] Strip) (left_by o r s strip log (due_search r s log)))
  search_if true = still _ refl refl
  search_if false = still _ refl (found_counted (count (due_search r s log)) (due_search r s log).outcome)

  pub stepped_search : Stepped F (r.sizes s.map) (r.dims s.map) s.bounds (searched_box o r s strip log)
  stepped_search = search_if (ltb (length strip) (4 * r.dims s.map))

-- a map that means the same has the same sound boxes
pub sound_same : {M : Type 0} (r : Rules M) (m n : M) (b : Bounds) → SameRules r m n → Sound (r.meaning m) (r.sizes m) (r.dims m) b → Sound (r.meaning n) (r.sizes n) (r.dims n) b
sound_same r m n b alike sound =
    subst₃ (λ F sizes d. Sound F sizes d b) (fun_ext (λ q. sym (alike.meaning q))) (sym alike.sizes) (sym alike.dims) sound

-- a newly made study has a sound box
zeros : (n i : ℕ) → get_or (replicate n zero) i 0 ≡ 0
zeros zero i = refl
zeros (suc n) zero = refl
zeros (suc n) (suc i) = zeros n i

pub sound_made : {M : Type 0} (r : Rules M) (laws : RulesLaws r) (m : M) → Sound (r.meaning m) (r.sizes m) (r.dims m) (whole_box (r.sizes m))
sound_made r laws m =
    let top : ℕ → ℕ = λ i. size_of (r.sizes m) i - 1 in
    record {
      some = (laws.counted m).0;
      most = (laws.counted m).1;
      unused = laws.unused m;
      answers = laws.answers m;
      floor_point = point_from (r.sizes m) (replicate 8 zero) (length-replicate 8 zero) (λ i h. omega (arith, zeros 8 i, laws.some m i h));
      roof_point = point_from (r.sizes m) (eight top) (eight_length top) (λ i h. omega (arith, eight_at top i h, laws.some m i h));
      ordered = λ i. omega (arith, zeros 8 i);
      floor_stands = λ i. zeros 8 i;
      roof_stands = λ i h. omega (arith, eight_at top i h, laws.some m i h);
    }
