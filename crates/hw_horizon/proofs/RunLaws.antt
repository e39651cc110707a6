-- A run over the state after one vertex more decides what is to be decided.
use Rattle.std.proofs.Common.{◌≡◌, ℕ, ◌+◌, ◌-◌, ◌≤◌, ◌<◌, inl, inr, List, [], ◌∷◌, ◌++◌, length, Option, refl, sym, ap, subst, ◌∙◌, arith, length-append}
use Rattle.std.specs.Prelude.{Any}
use Rattle.std.proofs.lemmas.Bool.{cases_lt}
use Rattle.std.proofs.lemmas.List.{append-nil, map-append}
use Rattle.hw_types.specs.declared.config.Config.{Config}
use Rattle.hw_types.specs.declared.unit.Obs.{Obs}
use Rattle.hw_types.specs.declared.unit.Vertex.{Vertex}
use Rattle.hw_types.specs.declared.answers.Decision.{Decision}
use Rattle.hw_types.specs.Graph.{Node}
use Rattle.hw_types.specs.Settled.{settled_of, panorama_of, faulty_weight}
use Rattle.hw_types.specs.Journal.{Setting, received_of}
use Rattle.hw_types.specs.Decisions.{AreDecisions}
use Rattle.hw_safety.specs.Chain.{AreOnFork}
use Rattle.hw_safety.specs.Records.{AreNewRecords}
use Rattle.hw_safety.specs.ChainLaws.{AddsDecisions}
use Rattle.hw_types.proofs.OrderedLaws.{any_is}
use Rattle.hw_safety.proofs.DetectorLaws.{decides, fork, over_of, of_over, last_stood}
use Rattle.hw_dag.specs.declared.numbers.UnitNo.{UnitNo}
use Rattle.hw_dag.specs.declared.numbers.View.{View}
use Rattle.hw_dag.specs.Dag.{UnitGraph, graph, observations}
use Rattle.hw_horizon.specs.declared.found.Found.{Found}
use Rattle.hw_horizon.specs.declared.found.Outcome.{Outcome}
use Rattle.hw_horizon.specs.declared.found.Outcome.TheVariants as outcome
use Rattle.hw_horizon.specs.Detected.{decision_of, decisions_of, IsSearched, HasSearched, IsOver, HasRun, IsOutcome}
use Rattle.hw_horizon.specs.DetectorLaws.{IsMoment, NoneStandsAnew, RunDecides, IsNothingNew}
use Rattle.hw_horizon.proofs.NumberLaws.{same_length, finds}

-- what is added to a list that stays is nothing
pub nothing_behind : {A : Type 0} (xs ys : List A) → length (xs ++ ys) ≡ length xs → ys ≡ []
nothing_behind xs [] e = refl
nothing_behind xs (y ∷ ys) e = let long = length-append xs (y ∷ ys) in absurd (omega arith)

-- the length of what was added
pub added : {A : Type 0} (before after fresh : List A) → after ≡ before ++ fresh → length after - length before ≡ length fresh
added before after fresh e = let long = ap length e in let parts = length-append before fresh in omega arith

module _ (s : Setting) (journal : List Vertex) (v : Vertex) (dag : UnitGraph) (panorama : List View) (fork_no : Option UnitNo) (faulty at : ℕ)
    (moment : IsMoment s (journal ++ v ∷ []) dag panorama faulty at) (searched : IsSearched s.config dag panorama fork_no) (before after : List Found)
    (decided : AreDecisions s journal (decisions_of dag before)) (run : HasRun s.config dag panorama fork_no faulty at before after) where
  abbrev longer : List Vertex
  longer = journal ++ v ∷ []

  abbrev units : List Node
  units = settled_of s.config (received_of s longer)

  abbrev seen : List Obs
  seen = panorama_of s.config (received_of s longer)

  few_of : faulty ≤ s.config.ftt → faulty_weight s.config (received_of s longer) ≤ s.config.ftt
  few_of few = subst (λ w. w ≤ s.config.ftt) moment.weight few

  -- what was decided before is on the way to the fork choice
  on_way : faulty ≤ s.config.ftt → AreOnFork s.config.weights (graph dag) (observations dag panorama) (decisions_of dag before)
  on_way few =
      subst (λ us. AreOnFork s.config.weights us (observations dag panorama) (decisions_of dag before)) (sym moment.settled)
      (subst (λ os. AreOnFork s.config.weights units os (decisions_of dag before)) (sym moment.observed)
      (fork s journal (v ∷ []) (decisions_of dag before) decided (few_of few)))

  -- the search finds the new records
  new_records : faulty ≤ s.config.ftt → (h : HasSearched s.config dag panorama fork_no at before after) → AreNewRecords s.config units seen (decisions_of dag before) (length longer) (decisions_of dag h.fresh)
  new_records few h =
      let long = same_length dag before in
      let whole : length (decisions_of dag before) + length h.fresh ≡ length after = (let e = ap length h.behind in let parts = length-append before h.fresh in omega arith) in
      let found = finds s.config dag panorama fork_no (decisions_of dag before) at h.fresh searched (on_way few)
      (subst (λ n. Rattle.hw_horizon.specs.Detected.AreFound s.config dag panorama fork_no at n h.fresh) (sym long) h.found)
      (subst (λ n. IsOver s.config dag panorama fork_no n) (sym whole) h.over) in
      subst (λ n. AreNewRecords s.config units seen (decisions_of dag before) n (decisions_of dag h.fresh)) moment.long
      (subst (λ os. AreNewRecords s.config units os (decisions_of dag before) at (decisions_of dag h.fresh)) moment.observed
      (subst (λ us. AreNewRecords s.config us (observations dag panorama) (decisions_of dag before) at (decisions_of dag h.fresh)) moment.settled found))

  adds : (fresh : List Found) → (s.config.ftt < faulty → fresh ≡ []) → (faulty ≤ s.config.ftt → AreNewRecords s.config units seen (decisions_of dag before) (length longer) (decisions_of dag fresh))
      → AddsDecisions s longer (decisions_of dag before) (decisions_of dag fresh)
  adds fresh none some = record {
    exceeded = λ more. ap (decisions_of dag) (none (subst (λ w. s.config.ftt < w) (sym moment.weight) more));
    few = λ few. some (subst (λ w. w ≤ s.config.ftt) (sym moment.weight) few);
  }

  go_on : (fresh : List Found) → after ≡ before ++ fresh → AddsDecisions s longer (decisions_of dag before) (decisions_of dag fresh) → AreDecisions s longer (decisions_of dag after)
  go_on fresh e a =
      subst (λ ds. AreDecisions s longer ds) (sym (ap (decisions_of dag) e ∙ map-append (decision_of dag) before fresh))
      (decides s journal v (decisions_of dag before) (decisions_of dag fresh) decided a)

  pub decided_now : AreDecisions s longer (decisions_of dag after)
  decided_now = elim (cases_lt s.config.ftt faulty) [
    | inl more ↦ go_on [] (run.exceeded more ∙ sym (append-nil before)) (adds [] (λ _. refl) (λ few. absurd (omega arith)))
    | inr few ↦ (let h = run.few few in go_on h.fresh h.behind (adds h.fresh (λ more. absurd (omega arith)) (λ less. new_records less h)))
  ]

  -- ---- where nothing new stands

  quiet : (answer : Outcome) → IsOutcome s.config.ftt faulty (length after - length before) answer → answer ≡ outcome.Nothing → NoneStandsAnew s longer (decisions_of dag before)
  quiet answer is e =
      let nothing = subst (λ (o : Outcome). IsOutcome s.config.ftt faulty (length after - length before) o) e is in
      let few = nothing.0 in
      let h = run.few few in
      let count = added before after h.fresh h.behind in
      let none = nothing.1 in
      let parts = length-append before h.fresh in
      let empty = nothing_behind before h.fresh (omega arith) in
      let same : after ≡ before = h.behind ∙ ap (λ fs. before ++ fs) empty ∙ append-nil before in record {
        few = few_of few;
        has_record = λ block level quorum t.
            subst (λ fs. Any (λ (d : Decision). d.block ≡ block.digest) (decisions_of dag fs)) same
            (decided_now.complete block level quorum (length longer) (last_stood s longer block level quorum (few_of few) (over_of s longer block level quorum t)));
      }

  -- a new block stands
  no_new : (fresh : List Found) → AreNewRecords s.config units seen (decisions_of dag before) (length longer) (decisions_of dag fresh) → NoneStandsAnew s longer (decisions_of dag before) → 0 < length fresh → ⊥
  no_new [] new none some = absurd (omega arith)
  no_new (f ∷ fs) new none some =
      let d = decision_of dag f in
      let r = new.each d (inl refl) in
      let known = any_is (λ (e : Decision). e.block ≡ r.block.digest) (decisions_of dag before) (none.has_record r.block d.level d.quorum (of_over s longer r.block d.level d.quorum r.record_is.stands)) in
      r.unknown known.0 known.1 known.2

  settled_quiet : (answer : Outcome) → IsOutcome s.config.ftt faulty (length after - length before) answer → NoneStandsAnew s longer (decisions_of dag before) → answer ≡ outcome.Nothing
  settled_quiet outcome.Nothing is none = refl
  settled_quiet (outcome.Decided count) is none =
      let few = is.0 in
      let h = run.few few in
      let e = added before after h.fresh h.behind in
      let more = is.1 in
      let same = is.2 in
      absurd (no_new h.fresh (new_records few h) none (omega arith))
  settled_quiet (outcome.Exceeded weight) is none =
      let more = is.0 in
      let few = none.few in
      let same = moment.weight in
      absurd (omega arith)

  pub nothing_new : (answer : Outcome) → IsOutcome s.config.ftt faulty (length after - length before) answer → (answer ≡ outcome.Nothing → NoneStandsAnew s longer (decisions_of dag before)) × (NoneStandsAnew s longer (decisions_of dag before) → answer ≡ outcome.Nothing)
  nothing_new answer is = (quiet answer is, settled_quiet answer is)

pub run_decides : RunDecides
run_decides config dag panorama fork_no faulty at before after searched run s journal v same moment decided =
    decided_now s journal v dag panorama fork_no faulty at moment (subst (λ (c : Config). IsSearched c dag panorama fork_no) (sym same) searched) before after decided
    (subst (λ (c : Config). HasRun c dag panorama fork_no faulty at before after) (sym same) run)

pub is_nothing_new : (config : Config) (dag : UnitGraph) (panorama : List View) (fork_no : Option UnitNo) (faulty at : ℕ) (before after : List Found) (answer : Outcome) → IsSearched config dag panorama fork_no
    → HasRun config dag panorama fork_no faulty at before after → IsOutcome config.ftt faulty (length after - length before) answer → IsNothingNew config dag panorama faulty at before answer
is_nothing_new config dag panorama fork_no faulty at before after answer searched run is s journal v same moment decided =
    nothing_new s journal v dag panorama fork_no faulty at moment (subst (λ (c : Config). IsSearched c dag panorama fork_no) (sym same) searched) before after decided
    (subst (λ (c : Config). HasRun c dag panorama fork_no faulty at before after) (sym same) run) answer
    (subst (λ (c : Config). IsOutcome c.ftt faulty (length after - length before) answer) (sym same) is)
