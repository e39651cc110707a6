-- What the rules give of a unit that is to be admitted.
use Rattle.std.proofs.Common.{◌≡◌, ℕ, ◌≤◌, List, length, Option, None, sym, subst}
use Rattle.hw_types.specs.declared.unit.Obs.{Obs}
use Rattle.hw_types.specs.declared.config.Config.{Config}
use Rattle.hw_types.specs.Rules.{state_rule, state_tests}
use Rattle.hw_types.proofs.WordsLaws.{AllFalse, none_broken}
use Rattle.hw_dag.specs.declared.numbers.UnitNo.{UnitNo}
use Rattle.hw_dag.specs.Dag.{UnitGraph, count_of, node_at, graph, observations, IsPanorama}
use Rattle.hw_dag.specs.Admission.{PreparedUnit, IsFor, IsFork, IsNew, IsResolved, KeepsRules, IsGraph, IsReady, node_prepared, settled_from, with_unit}
use Rattle.hw_dag.specs.Lists.{AllNameBelow}
use Rattle.hw_dag.proofs.AdmitLaws.{grows}
use Rattle.hw_dag.proofs.RuleLaws.{rules_are_kept}
use Rattle.hw_naivety.specs.Naivety.{NaiveTips, KeepsEndorsed, HasNoNaiveFork, IsNoted}
use Rattle.hw_naivety.proofs.GrowLaws.{noted_stays}
use Rattle.hw_naivety.proofs.JudgedLaws.{judged_stays}
use Rattle.hw_rules.specs.Judged.{IsCase, KeepsLocalRules, below_of}
use Rattle.hw_rules.proofs.CaseLaws.{panorama_is}
use Rattle.hw_rules.proofs.LocalLaws.{is_case}
use Rattle.hw_rules.proofs.SeenLaws.{endorsed_is_seen}
use Rattle.hw_rules.proofs.StateLaws.{keeps_endorsed}

module _ (config : Config) (dag : UnitGraph) (g : IsGraph dag) (many : length config.weights ≡ dag.validators) (p : PreparedUnit) (alone : KeepsLocalRules config p.signed.unit)
    (resolved : IsResolved dag p) (rules : state_rule config (graph dag) (node_prepared p) ≡ None) where
  case : IsCase dag p
  case = is_case config p alone dag many g resolved

  kept : AllFalse (state_tests config (below_of dag p) (node_prepared p))
  kept = none_broken (state_tests config (below_of dag p) (node_prepared p)) rules

  pub fits : IsFor dag.validators p.signed
  fits = case.is_for

  pub keeps : KeepsRules (graph dag) (node_prepared p)
  keeps = rules_are_kept config alone.0 dag (node_prepared p) alone.1 rules

  pub sound : IsPanorama dag p.panorama
  unfolding state_tests
  sound = panorama_is dag p case kept.0

  pub endorses : KeepsEndorsed (graph dag) (node_prepared p)
  unfolding state_tests
  endorses = keeps_endorsed (graph dag) (node_prepared p) kept.1.1.1.1.1.1.1.0

  pub listed : AllNameBelow dag p.panorama p.signed.unit.endorsed
  listed = endorsed_is_seen config dag g p resolved rules

  pub forkless : HasNoNaiveFork (graph dag) (node_prepared p)
  unfolding state_tests
  forkless = kept.1.1.1.1.1.1.1.1.1.0

  pub is_ready : 1 ≤ dag.spare → IsNew dag p.digest → (fork : Option UnitNo) → IsFork dag (observations dag p.panorama) fork → IsReady dag p fork
  is_ready room fresh fork is_fork = record {
    room = room;
    is_for = fits;
    resolved = resolved;
    rules = keeps;
    fresh = fresh;
    fork_is = subst (λ (os : List Obs). IsFork dag os fork) resolved.observes is_fork;
  }

  module _ (later : UnitGraph) (h : IsGraph later) (fork : Option UnitNo) (ready : IsReady dag p fork) (is : later ≡ with_unit dag (settled_from dag p fork)) where
    pub noted_later : (tips : NaiveTips) → IsNoted tips dag → IsNoted tips later
    noted_later tips noted = subst (IsNoted tips) (sym is)
        (noted_stays dag (with_unit dag (settled_from dag p fork)) g (subst IsGraph is h) (grows dag g p fork ready) tips noted)

    pub endorses_later : (n : ℕ) → n ≡ count_of dag → KeepsEndorsed (graph later) (node_at later n)
    endorses_later n last = subst (λ (d : UnitGraph). KeepsEndorsed (graph d) (node_at d n)) (sym is)
        (subst (λ (k : ℕ). KeepsEndorsed (graph (with_unit dag (settled_from dag p fork))) (node_at (with_unit dag (settled_from dag p fork)) k)) (sym last) (judged_stays dag g p fork ready endorses forkless).0)

    pub forkless_later : (n : ℕ) → n ≡ count_of dag → HasNoNaiveFork (graph later) (node_at later n)
    forkless_later n last = subst (λ (d : UnitGraph). HasNoNaiveFork (graph d) (node_at d n)) (sym is)
        (subst (λ (k : ℕ). HasNoNaiveFork (graph (with_unit dag (settled_from dag p fork))) (node_at (with_unit dag (settled_from dag p fork)) k)) (sym last) (judged_stays dag g p fork ready endorses forkless).1)
