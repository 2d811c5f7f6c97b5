-- The promises, from a sound box.
use Rattle.std.proofs.Common.{◌≡◌, ℕ, suc, ◌<◌, ◌≤◌, true, ◌⊎◌, List, [], ◌∷◌, ◌++◌, map, length, Some, None, Ok, Option, refl, ap, subst, inl, inr, ⊎_elim, arith}
use Rattle.std.proofs.lemmas.List.{get_or_past}
use Rattle.std.proofs.lemmas.Bool.{cases_lt}
use Rattle.points.specs.declared.Entry.{Entry}
use Rattle.points.specs.Points.{rank_of, is_point, Meaning, Monotone}
use Rattle.points.proofs.Tested.{point_eight_lem, point_within, point_from}
use Rattle.bisection.specs.Bits.{product}
use Rattle.bisection.specs.Bounds.{Between}
use Rattle.bisection.specs.Levels.{opened}
use Rattle.bisection.specs.Promises
use Rattle.bisection.specs.Members.{Among}
use Rattle.bisection.specs.Promises.{WasPut, Contradiction}
use Rattle.bisection.specs.Run.{Ran, searched, questions, unanswered}
use Rattle.bisection.specs.Run.Outcome.{settles, pairs, spent, full}
use Rattle.bisection.specs.Sound.{Sound, Bottom, Top, FloorStands, RoofStands}
use Rattle.bisection.specs.declared.bounds.Bounds.{Bounds}
use Rattle.bisection.proofs.Along.{Concluded, IfSettled, IfPair, questions_come, none_twice, few, enough, settled_fixed, pair_contradicts_lem}
use Rattle.bisection.proofs.Future.{Reads, Future, Coming, opened_coming}
use Rattle.bisection.proofs.Honesty.{honest, same_search}
use Rattle.bisection.proofs.Progress.{Contradict, opened_many}
use Rattle.bisection.proofs.Ready.{Up, Down, Held, Ready, Good, opened_good}
use Rattle.bisection.proofs.Runs.{Runs, runs}
use Rattle.bisection.proofs.Still.{later, opened_later}

-- the question of an entry is a question
entry_question : (e : Entry) (es : List Entry) (qs : List (List ℕ)) → Among e es → Among e.point (map (λ (x : Entry). x.point) es ++ qs)
entry_question e [] qs b = absurd b
entry_question e (x ∷ es) qs (inl s) = inl (ap (λ (x : Entry). x.point) s)
entry_question e (x ∷ es) qs (inr b) = inr (entry_question e es qs b)

module _ (F : Meaning) (sizes : List ℕ) (d : ℕ) (box : Bounds) (left room : ℕ) (sound : Sound F sizes d box) where
  abbrev result : Ran
  result = searched F d box left room

  way : Runs F (opened box d []) left room result
  way = runs F (opened box d []) left room

  -- a point has rank 0 in the coordinates that are not in use
  flat : (p : List ℕ) → is_point sizes p ≡ true → (j : ℕ) → d ≤ j → rank_of p j ≡ 0
  flat p t j h =
      ⊎_elim (λ lt. omega (arith, point_within sizes p t j lt, sound.unused j h lt))
      (λ le. get_or_past p j 0 (omega (arith, point_eight_lem sizes p t))) (cases_lt j 8)

  module _ (Put : Entry → Type 0) where
    low : (f : Option Entry) → FloorStands F box.floor.at f → ((e : Entry) → f ≡ Some e → Put e) → Held Put Up Bottom d box.floor.at [] f
    low None s puts = s
    low (Some e) s puts =
        (λ i h. (s.0 i, s.1 i), λ j h. omega (arith, s.0 j, flat box.floor.at sound.floor_point j h), puts e refl)

    high : (f : Option Entry) → RoofStands F sizes box.roof.at f → ((e : Entry) → f ≡ Some e → Put e) → Held Put Down (Top sizes) d box.roof.at [] f
    high None s puts = s
    high (Some e) s puts = (λ i h. (s.1 i, s.0 i), λ j h. omega arith, puts e refl)

    ready : ((e : Entry) → box.floor.footing ≡ Some e → Put e) → ((e : Entry) → box.roof.footing ≡ Some e → Put e) → Ready Put sizes d box []
    ready floored roofed =
        record {
          small = sound.most;
          floor_eight = point_eight_lem sizes box.floor.at sound.floor_point;
          roof_eight = point_eight_lem sizes box.roof.at sound.roof_point;
          ordered = sound.ordered;
          tail = λ j h. (omega (arith, flat box.floor.at sound.floor_point j h), omega arith);
          nests = tt;
          low = low box.floor.footing sound.floor_stands floored;
          high = high box.roof.footing sound.roof_stands roofed;
        }

    good : ((e : Entry) → box.floor.footing ≡ Some e → Put e) → ((e : Entry) → box.roof.footing ≡ Some e → Put e) → Good Put sizes 0 (opened box d [])
    good floored roofed = opened_good Put sizes d box [] (ready floored roofed) sound.most

  -- where nothing is asked of the entries
  abbrev Any : Entry → Type 0
  Any e = Unit {0}

  any : Good Any sizes 0 (opened box d [])
  any = good Any (λ e s. tt) (λ e s. tt)

  many : length (opened box d []) ≡ d
  many = omega (arith, opened_many box d [])

  in_box_lem : (q : List ℕ) → Among q (questions result) → Between box q × (is_point sizes q ≡ true)
  in_box_lem q a = within (opened_coming box d [] q sound.ordered (ready Any (λ e s. tt) (λ e s. tt)).tail c.0)
    where
      c : Coming 0 (opened box d []) q × (length q ≡ 8)
      c = questions_come F Any sizes way any (λ e b. tt) q a

      within : (Between box q × Reads q d []) ⊎ Future d [] q → Between box q × (is_point sizes q ≡ true)
      within (inl b) = (
        b.0,
        point_from sizes q c.1 (λ i h. omega (arith, b.0.1 i, point_within sizes box.roof.at sound.roof_point i h)),
      )
      within (inr b) = absurd b

  settled : (q : List ℕ) → result.outcome ≡ settles q → Between box q × (is_point sizes q ≡ true) × (F q ≡ Ok q)
  settled q s = let b = in_box_lem q fix.1 in (b.0, b.1, fix.0)
    where
      fix : (F q ≡ Ok q) × Among q (questions result)
      fix =
          subst (IfSettled (λ q. (F q ≡ Ok q) × Among q (questions result))) s
          (settled_fixed F Any sizes d sound.unused sound.answers way any many (λ e b. tt))

  -- what was put was answered so by F
  put_true : (e : Entry) → WasPut box result e → F e.point ≡ Ok e.answer
  put_true e (inl a) = (honest F way).entries e a
  put_true e (inr (inl s)) = (subst (FloorStands F box.floor.at) s sound.floor_stands).2
  put_true e (inr (inr s)) = (subst (RoofStands F sizes box.roof.at) s sound.roof_stands).2

  pair : (low high : Entry) (k : ℕ) → result.outcome ≡ pairs low high k → Contradiction F box result low high k × (k < d)
  pair low high k s = (
    record {
      put_low = c.0.put_low;
      put_high = c.0.put_high;
      true_low = put_true low c.0.put_low;
      true_high = put_true high c.0.put_high;
      points = c.0.points;
      answers = c.0.answers;
    },
    c.1,
  )
    where
      c : Contradict (WasPut box result) low high k × (k < d)
      c =
          subst (IfPair (λ low high k. Contradict (WasPut box result) low high k × (k < d))) s
          (pair_contradicts_lem F (WasPut box result) sizes d sound.answers way
          (good (WasPut box result) (λ e t. inr (inl t)) (λ e t. inr (inr t))) many (λ e b. inl b))

  no_pair : Monotone F → (low high : Entry) (k : ℕ) → result.outcome ≡ pairs low high k → ⊥
  no_pair mono low high k s =
      let c = (pair low high k s).0 in
      omega
      (arith, c.answers, mono low.point high.point low.answer high.answer c.points c.true_low c.true_high k)

  -- the questions of the first opening number the product
  all : suc (later 0 (opened box d [])) ≡ product d box
  all = omega (arith, opened_later box d [])

  concluded : product d box ≤ left → product d box ≤ room → (result.outcome ≡ spent → ⊥) × (result.outcome ≡ full → ⊥)
  concluded m n = (λ s. subst Concluded s c, λ s. subst Concluded s c)
    where
      c : Concluded result.outcome
      c = enough F Any sizes way any (λ e b. tt) (omega (arith, all)) (omega (arith, all))

pub settled_is_fixed_lem : Promises.SettledIsFixed
settled_is_fixed_lem F sizes d box left room sound = settled F sizes d box left room sound

pub pair_is_contradiction : Promises.PairContradicts
pair_is_contradiction F sizes d box left room sound = pair F sizes d box left room sound

pub monotone_has_no_pair_lem : Promises.MonotoneHasNoPair
monotone_has_no_pair_lem F sizes d box left room sound = no_pair F sizes d box left room sound

pub no_question_twice_lem : Promises.NoQuestionTwice
no_question_twice_lem F sizes d box left room sound =
    none_twice F (λ e. Unit {0}) sizes (runs F (opened box d []) left room) (any F sizes d box left room sound) (λ e b. tt)

pub questions_are_few : Promises.QuestionsAreFew
questions_are_few F sizes d box left room sound =
    omega (
      arith,
      few F (λ e. Unit {0}) sizes (runs F (opened box d []) left room) (any F sizes d box left room sound) (λ e b. tt),
      all F sizes d box left room sound,
    )

pub enough_suffices : Promises.EnoughSuffices
enough_suffices F sizes d box left room sound = concluded F sizes d box left room sound

pub questions_are_in_box_lem : Promises.QuestionsAreInBox
questions_are_in_box_lem F sizes d box left room sound = (
  in_box_lem F sizes d box left room sound,
  λ e a. in_box_lem F sizes d box left room sound e.point (entry_question e r.entries (unanswered r.outcome) a),
)
  where
    r : Ran
    r = searched F d box left room

pub search_is_honest_lem : Promises.SearchIsHonest
search_is_honest_lem F d box left room = honest F (runs F (opened box d []) left room)

pub only_questions_matter_lem : Promises.OnlyQuestionsMatter
only_questions_matter_lem F G d box left room agree = same_search F G (runs F (opened box d []) left room) agree
