use Rattle.std.proofs.Common.{◌≡◌, ◌≤◌, false, List, length, None, set, sym, ap, subst, ◌∙◌, arith}
use Rattle.std.specs.Option.{option_map}
use Rattle.hw_types.specs.declared.unit.Obs.{Obs}
use Rattle.hw_types.specs.declared.unit.SignedUnit.{SignedUnit}
use Rattle.hw_types.specs.Rules.{state_rule}
use Rattle.hw_types.specs.Votes.{fork_of}
use Rattle.hw_dag.specs.declared.numbers.UnitNo.{UnitNo}
use Rattle.hw_dag.specs.declared.numbers.View.{View}
use Rattle.hw_dag.specs.Dag.{UnitGraph, graph, count_of, node_at, view_at, observations, IsPanorama}
use Rattle.hw_dag.specs.Admission.{IsFork, IsNew, IsResolved, node_prepared, settled_from, with_unit}
use Rattle.hw_dag.proofs.AdmitLaws.{count_later, grows, later_apart}
use Rattle.hw_rules.specs.Judged.{KeepsLocalRules}
use Rattle.hw_admit.specs.Kept.{IsKept}
use Rattle.hw_admit.proofs.KeptLaws.{kept_stays}
use Rattle.hw_admit.specs.State.{NodeState, IsAdmitted, MarksAreMet, is_faulty_in, observed_in}
use Rattle.hw_admit.proofs.RuleLaws.{fits, keeps, sound, listed, is_ready, noted_later, endorses_later, forkless_later}
use Rattle.hw_admit.proofs.AdmitLaws.{is_state_later, seen_later, next_code}
use Rattle.hw_admit.proofs.state.State.admit.Goals as goal

pub get-seen-requires : goal.get-seen-requires
get-seen-requires c =
    let p = c.args.prepared in
    let config = c.self.inside.config in
    let dag = c.self.inside.dag in
    let g = c.recall_graph.ensures in
    let many = c.self.invariant.0.weights_are.length_is in
    let alone = subst (λ (s : NodeState). KeepsLocalRules s.config c.args.prepared.signed.unit) (sym c.self.view_is) c.requires.alone in
    let resolved = subst (λ (s : NodeState). IsResolved s.dag c.args.prepared) (sym c.self.view_is) c.requires.resolved in
    let rules = subst (λ (s : NodeState). state_rule s.config (graph s.dag) (node_prepared c.args.prepared) ≡ None) (sym c.self.view_is) c.requires.rules in
    let creator = ap (λ (u : SignedUnit). u.unit.creator) c.signed.ensures in
    let inside = (fits config dag g many p alone resolved rules).creator_is in
    let slots = ap length c.panorama.ensures in
    let long = (sound config dag g many p alone resolved rules).length_is in
    omega arith

pub fork_choice-fork-requires-clause-panorama : goal.fork_choice-fork-requires-clause-panorama
fork_choice-fork-requires-clause-panorama c =
    let p = c.args.prepared in
    let config = c.self.inside.config in
    let dag = c.self.inside.dag in
    let g = c.recall_graph.ensures in
    let many = c.self.invariant.0.weights_are.length_is in
    let alone = subst (λ (s : NodeState). KeepsLocalRules s.config c.args.prepared.signed.unit) (sym c.self.view_is) c.requires.alone in
    let resolved = subst (λ (s : NodeState). IsResolved s.dag c.args.prepared) (sym c.self.view_is) c.requires.resolved in
    let rules = subst (λ (s : NodeState). state_rule s.config (graph s.dag) (node_prepared c.args.prepared) ≡ None) (sym c.self.view_is) c.requires.rules in
    subst (λ (ws : List View). IsPanorama c.self.inside.dag ws) (sym c.panorama-2.ensures) (sound config dag g many p alone resolved rules)

pub admit-no-requires-clause-prepared_for : goal.admit-no-requires-clause-prepared_for
admit-no-requires-clause-prepared_for c =
    let p = c.args.prepared in
    let config = c.self.inside.config in
    let dag = c.self.inside.dag in
    let g = c.recall_graph.ensures in
    let many = c.self.invariant.0.weights_are.length_is in
    let alone = subst (λ (s : NodeState). KeepsLocalRules s.config c.args.prepared.signed.unit) (sym c.self.view_is) c.requires.alone in
    let resolved = subst (λ (s : NodeState). IsResolved s.dag c.args.prepared) (sym c.self.view_is) c.requires.resolved in
    let rules = subst (λ (s : NodeState). state_rule s.config (graph s.dag) (node_prepared c.args.prepared) ≡ None) (sym c.self.view_is) c.requires.rules in
    fits config dag g many p alone resolved rules

pub admit-no-requires-clause-rules : goal.admit-no-requires-clause-rules
admit-no-requires-clause-rules c =
    let p = c.args.prepared in
    let config = c.self.inside.config in
    let dag = c.self.inside.dag in
    let g = c.recall_graph.ensures in
    let many = c.self.invariant.0.weights_are.length_is in
    let alone = subst (λ (s : NodeState). KeepsLocalRules s.config c.args.prepared.signed.unit) (sym c.self.view_is) c.requires.alone in
    let resolved = subst (λ (s : NodeState). IsResolved s.dag c.args.prepared) (sym c.self.view_is) c.requires.resolved in
    let rules = subst (λ (s : NodeState). state_rule s.config (graph s.dag) (node_prepared c.args.prepared) ≡ None) (sym c.self.view_is) c.requires.rules in
    keeps config dag g many p alone resolved rules

pub note-requires-clause-noted : goal.note-requires-clause-noted
note-requires-clause-noted c =
    let p = c.args.prepared in
    let config = c.self.inside.config in
    let dag = c.self.inside.dag in
    let g = c.recall_graph.ensures in
    let many = c.self.invariant.0.weights_are.length_is in
    let alone = subst (λ (s : NodeState). KeepsLocalRules s.config c.args.prepared.signed.unit) (sym c.self.view_is) c.requires.alone in
    let resolved = subst (λ (s : NodeState). IsResolved s.dag c.args.prepared) (sym c.self.view_is) c.requires.resolved in
    let rules = subst (λ (s : NodeState). state_rule s.config (graph s.dag) (node_prepared c.args.prepared) ≡ None) (sym c.self.view_is) c.requires.rules in
    let fresh = subst (λ (s : NodeState). IsNew s.dag c.args.prepared.digest) (sym c.self.view_is) c.requires.fresh in
    let room = subst (λ (s : NodeState). 1 ≤ s.spare) (sym c.self.view_is) c.requires.room in
    let serves = c.self.invariant.1.dag_serves in
    let fork = c.fork_choice-fork.result in
    let ready = is_ready config dag g many p alone resolved rules (omega arith) fresh fork
    (subst (λ (ws : List View). IsFork c.self.inside.dag (observations c.self.inside.dag ws) c.fork_choice-fork.result) c.panorama-2.ensures c.fork_choice-fork.ensures.is_fork) in
    noted_later config dag g many p alone resolved rules c.admit-no.new.self c.admit-no.ensures.graph fork ready c.admit-no.ensures.admitted c.self.inside.naivety c.self.invariant.1.noted

pub note-requires-clause-endorsed : goal.note-requires-clause-endorsed
note-requires-clause-endorsed c =
    let p = c.args.prepared in
    let config = c.self.inside.config in
    let dag = c.self.inside.dag in
    let g = c.recall_graph.ensures in
    let many = c.self.invariant.0.weights_are.length_is in
    let alone = subst (λ (s : NodeState). KeepsLocalRules s.config c.args.prepared.signed.unit) (sym c.self.view_is) c.requires.alone in
    let resolved = subst (λ (s : NodeState). IsResolved s.dag c.args.prepared) (sym c.self.view_is) c.requires.resolved in
    let rules = subst (λ (s : NodeState). state_rule s.config (graph s.dag) (node_prepared c.args.prepared) ≡ None) (sym c.self.view_is) c.requires.rules in
    let fresh = subst (λ (s : NodeState). IsNew s.dag c.args.prepared.digest) (sym c.self.view_is) c.requires.fresh in
    let room = subst (λ (s : NodeState). 1 ≤ s.spare) (sym c.self.view_is) c.requires.room in
    let serves = c.self.invariant.1.dag_serves in
    let fork = c.fork_choice-fork.result in
    let ready = is_ready config dag g many p alone resolved rules (omega arith) fresh fork
    (subst (λ (ws : List View). IsFork c.self.inside.dag (observations c.self.inside.dag ws) c.fork_choice-fork.result) c.panorama-2.ensures c.fork_choice-fork.ensures.is_fork) in
    endorses_later config dag g many p alone resolved rules c.admit-no.new.self c.admit-no.ensures.graph fork ready c.admit-no.ensures.admitted c.admit-no.result.0 c.admit-no.ensures.last

pub note-requires-clause-forkless : goal.note-requires-clause-forkless
note-requires-clause-forkless c =
    let p = c.args.prepared in
    let config = c.self.inside.config in
    let dag = c.self.inside.dag in
    let g = c.recall_graph.ensures in
    let many = c.self.invariant.0.weights_are.length_is in
    let alone = subst (λ (s : NodeState). KeepsLocalRules s.config c.args.prepared.signed.unit) (sym c.self.view_is) c.requires.alone in
    let resolved = subst (λ (s : NodeState). IsResolved s.dag c.args.prepared) (sym c.self.view_is) c.requires.resolved in
    let rules = subst (λ (s : NodeState). state_rule s.config (graph s.dag) (node_prepared c.args.prepared) ≡ None) (sym c.self.view_is) c.requires.rules in
    let fresh = subst (λ (s : NodeState). IsNew s.dag c.args.prepared.digest) (sym c.self.view_is) c.requires.fresh in
    let room = subst (λ (s : NodeState). 1 ≤ s.spare) (sym c.self.view_is) c.requires.room in
    let serves = c.self.invariant.1.dag_serves in
    let fork = c.fork_choice-fork.result in
    let ready = is_ready config dag g many p alone resolved rules (omega arith) fresh fork
    (subst (λ (ws : List View). IsFork c.self.inside.dag (observations c.self.inside.dag ws) c.fork_choice-fork.result) c.panorama-2.ensures c.fork_choice-fork.ensures.is_fork) in
    forkless_later config dag g many p alone resolved rules c.admit-no.new.self c.admit-no.ensures.graph fork ready c.admit-no.ensures.admitted c.admit-no.result.0 c.admit-no.ensures.last

pub get-requires : goal.get-requires
get-requires c =
    let p = c.args.prepared in
    let config = c.self.inside.config in
    let dag = c.self.inside.dag in
    let g = c.recall_graph.ensures in
    let many = c.self.invariant.0.weights_are.length_is in
    let alone = subst (λ (s : NodeState). KeepsLocalRules s.config c.args.prepared.signed.unit) (sym c.self.view_is) c.requires.alone in
    let resolved = subst (λ (s : NodeState). IsResolved s.dag c.args.prepared) (sym c.self.view_is) c.requires.resolved in
    let rules = subst (λ (s : NodeState). state_rule s.config (graph s.dag) (node_prepared c.args.prepared) ≡ None) (sym c.self.view_is) c.requires.rules in
    let creator = ap (λ (u : SignedUnit). u.unit.creator) c.signed.ensures in
    let inside = (fits config dag g many p alone resolved rules).creator_is in
    let long = c.self.invariant.0.panorama_is.length_is in
    omega arith

pub set-requires-clause-code : goal.set-requires-clause-code
set-requires-clause-code c =
    let p = c.args.prepared in
    let config = c.self.inside.config in
    let dag = c.self.inside.dag in
    let g = c.recall_graph.ensures in
    let many = c.self.invariant.0.weights_are.length_is in
    let alone = subst (λ (s : NodeState). KeepsLocalRules s.config c.args.prepared.signed.unit) (sym c.self.view_is) c.requires.alone in
    let resolved = subst (λ (s : NodeState). IsResolved s.dag c.args.prepared) (sym c.self.view_is) c.requires.resolved in
    let rules = subst (λ (s : NodeState). state_rule s.config (graph s.dag) (node_prepared c.args.prepared) ≡ None) (sym c.self.view_is) c.requires.rules in
    let fresh = subst (λ (s : NodeState). IsNew s.dag c.args.prepared.digest) (sym c.self.view_is) c.requires.fresh in
    let room = subst (λ (s : NodeState). 1 ≤ s.spare) (sym c.self.view_is) c.requires.room in
    let serves = c.self.invariant.1.dag_serves in
    let fork = c.fork_choice-fork.result in
    let ready = is_ready config dag g many p alone resolved rules (omega arith) fresh fork
    (subst (λ (ws : List View). IsFork c.self.inside.dag (observations c.self.inside.dag ws) c.fork_choice-fork.result) c.panorama-2.ensures c.fork_choice-fork.ensures.is_fork) in
    let count = ap (λ (d : UnitGraph). count_of d) c.admit-no.ensures.admitted ∙ count_later dag g p fork ready in
    let last = c.admit-no.ensures.last in
    let small = c.admit-no.ensures.graph.bounded in
    next_code (c.get-seen.result ≡ c.get.result) c.next_view-view.result c.admit-no.result (omega arith) c.next_view-view.ensures.same c.next_view-view.ensures.other

pub set-requires-clause-within : goal.set-requires-clause-within
set-requires-clause-within c =
    let p = c.args.prepared in
    let config = c.self.inside.config in
    let dag = c.self.inside.dag in
    let g = c.recall_graph.ensures in
    let many = c.self.invariant.0.weights_are.length_is in
    let alone = subst (λ (s : NodeState). KeepsLocalRules s.config c.args.prepared.signed.unit) (sym c.self.view_is) c.requires.alone in
    let resolved = subst (λ (s : NodeState). IsResolved s.dag c.args.prepared) (sym c.self.view_is) c.requires.resolved in
    let rules = subst (λ (s : NodeState). state_rule s.config (graph s.dag) (node_prepared c.args.prepared) ≡ None) (sym c.self.view_is) c.requires.rules in
    let creator = ap (λ (u : SignedUnit). u.unit.creator) c.signed.ensures in
    let inside = (fits config dag g many p alone resolved rules).creator_is in
    let long = c.self.invariant.0.panorama_is.length_is in
    omega arith

pub invariant_of-self : goal.invariant_of-self
invariant_of-self c =
    let p = c.args.prepared in
    let config = c.self.inside.config in
    let dag = c.self.inside.dag in
    let g = c.recall_graph.ensures in
    let many = c.self.invariant.0.weights_are.length_is in
    let alone = subst (λ (s : NodeState). KeepsLocalRules s.config c.args.prepared.signed.unit) (sym c.self.view_is) c.requires.alone in
    let resolved = subst (λ (s : NodeState). IsResolved s.dag c.args.prepared) (sym c.self.view_is) c.requires.resolved in
    let rules = subst (λ (s : NodeState). state_rule s.config (graph s.dag) (node_prepared c.args.prepared) ≡ None) (sym c.self.view_is) c.requires.rules in
    let fresh = subst (λ (s : NodeState). IsNew s.dag c.args.prepared.digest) (sym c.self.view_is) c.requires.fresh in
    let room = subst (λ (s : NodeState). 1 ≤ s.spare) (sym c.self.view_is) c.requires.room in
    let serves = c.self.invariant.1.dag_serves in
    let fork = c.fork_choice-fork.result in
    let ready = is_ready config dag g many p alone resolved rules (omega arith) fresh fork
    (subst (λ (ws : List View). IsFork c.self.inside.dag (observations c.self.inside.dag ws) c.fork_choice-fork.result) c.panorama-2.ensures c.fork_choice-fork.ensures.is_fork) in
    let met = subst (λ (s : NodeState). MarksAreMet s.marked (graph s.dag) c.args.prepared.signed.unit.panorama) (sym c.self.view_is) c.requires.met in
    let choice = subst (λ (os : List Obs). option_map (λ (number : UnitNo). node_at c.self.inside.dag number.0) c.fork_choice-fork.result ≡ fork_of c.self.inside.config.weights (graph c.self.inside.dag) os) resolved.observes
    (subst (λ (ws : List View). option_map (λ (number : UnitNo). node_at c.self.inside.dag number.0) c.fork_choice-fork.result ≡ fork_of c.self.inside.config.weights (graph c.self.inside.dag) (observations c.self.inside.dag ws)) c.panorama-2.ensures c.fork_choice-fork.ensures.fork) in
    let seen : c.get-seen.result ≡ view_at c.args.prepared.panorama c.args.prepared.signed.unit.creator =
    c.get-seen.ensures ∙ ap (λ (ws : List View). view_at ws c.signed.result.now.unit.creator) c.panorama.ensures ∙ ap (λ (u : SignedUnit). view_at c.args.prepared.panorama u.unit.creator) c.signed.ensures in
    let known : c.get.result ≡ view_at c.self.inside.panorama c.args.prepared.signed.unit.creator = c.get.ensures ∙ ap (λ (u : SignedUnit). view_at c.self.inside.panorama u.unit.creator) c.signed.ensures in
    let moved : c.set.new.self ≡ set c.self.inside.panorama c.args.prepared.signed.unit.creator c.next_view-view.result = c.set.ensures ∙ ap (λ (u : SignedUnit). set c.self.inside.panorama u.unit.creator c.next_view-view.result) c.signed.ensures in
    let count = ap (λ (d : UnitGraph). count_of d) c.admit-no.ensures.admitted ∙ count_later dag g p fork ready in
    let spare = ap (λ (d : UnitGraph). d.spare) c.admit-no.ensures.admitted in
    let validators = ap (λ (d : UnitGraph). d.validators) c.admit-no.ensures.admitted in
    let noted_count = c.note.ensures.count in
    let noted_spare = c.note.ensures.spare in
    let forks_room = c.fork_choice-fork.ensures.room in
    let beside = c.self.invariant.1 in
    let all = beside.all in
    let naivety_serves = beside.naivety_serves in
    let forks_serve = beside.forks_serve in
    let marks_serve = beside.marks_serve in (
      is_state_later _ c.self.invariant.0 g p fork ready met (listed config dag g many p alone resolved rules) choice c.next_view-view.result c.admit-no.result c.admit-no.ensures.last
          (λ e. c.next_view-view.ensures.same (seen ∙ e ∙ sym known)) (λ ne. c.next_view-view.ensures.other (λ e. ne (sym seen ∙ e ∙ known)))
          c.admit-no.new.self c.admit-no.ensures.admitted c.set.new.self moved _,
      record {
        leaders_are = beside.leaders_are;
        weights_are = beside.weights_are;
        noted = c.note.ensures.noted;
        all = omega arith;
        dag_serves = omega arith;
        naivety_serves = omega arith;
        forks_serve = omega arith;
        marks_serve = omega arith;
        own_kept = subst (λ (d : UnitGraph). IsKept c.self.inside.config.weights d c.self.inside.own_fork) (sym c.admit-no.ensures.admitted)
            (kept_stays c.self.inside.config.weights dag (with_unit dag (settled_from dag p fork)) (grows dag g p fork ready) g (later_apart dag g p fork ready) c.self.inside.own_fork beside.own_kept);
        judged_kept = subst (λ (d : UnitGraph). IsKept c.self.inside.config.weights d c.fork_choice-fork.new.self) (sym c.admit-no.ensures.admitted)
            (kept_stays c.self.inside.config.weights dag (with_unit dag (settled_from dag p fork)) (grows dag g p fork ready) g (later_apart dag g p fork ready) c.fork_choice-fork.new.self c.fork_choice-fork.ensures.kept);
      },
    )

pub returns-clause-admitted : goal.returns-clause-admitted
returns-clause-admitted c =
    let fork = c.fork_choice-fork.result in
    let resolved = subst (λ (s : NodeState). IsResolved s.dag c.args.prepared) (sym c.self.view_is) c.requires.resolved in
    let choice = subst (λ (os : List Obs). option_map (λ (number : UnitNo). node_at c.self.inside.dag number.0) fork ≡ fork_of c.self.inside.config.weights (graph c.self.inside.dag) os) resolved.observes
    (subst (λ (ws : List View). option_map (λ (number : UnitNo). node_at c.self.inside.dag number.0) fork ≡ fork_of c.self.inside.config.weights (graph c.self.inside.dag) (observations c.self.inside.dag ws)) c.panorama-2.ensures c.fork_choice-fork.ensures.fork) in
    subst (λ (s : NodeState). IsAdmitted s.config.weights s.dag c.args.prepared c.admit-no.new.self) c.self.view_is (record { fork = fork; fork_is = choice; grown = c.admit-no.ensures.admitted })

pub returns-clause-panorama : goal.returns-clause-panorama
returns-clause-panorama c =
    let p = c.args.prepared in
    let config = c.self.inside.config in
    let dag = c.self.inside.dag in
    let g = c.recall_graph.ensures in
    let many = c.self.invariant.0.weights_are.length_is in
    let alone = subst (λ (s : NodeState). KeepsLocalRules s.config c.args.prepared.signed.unit) (sym c.self.view_is) c.requires.alone in
    let resolved = subst (λ (s : NodeState). IsResolved s.dag c.args.prepared) (sym c.self.view_is) c.requires.resolved in
    let rules = subst (λ (s : NodeState). state_rule s.config (graph s.dag) (node_prepared c.args.prepared) ≡ None) (sym c.self.view_is) c.requires.rules in
    let fresh = subst (λ (s : NodeState). IsNew s.dag c.args.prepared.digest) (sym c.self.view_is) c.requires.fresh in
    let room = subst (λ (s : NodeState). 1 ≤ s.spare) (sym c.self.view_is) c.requires.room in
    let serves = c.self.invariant.1.dag_serves in
    let fork = c.fork_choice-fork.result in
    let ready = is_ready config dag g many p alone resolved rules (omega arith) fresh fork
    (subst (λ (ws : List View). IsFork c.self.inside.dag (observations c.self.inside.dag ws) c.fork_choice-fork.result) c.panorama-2.ensures c.fork_choice-fork.ensures.is_fork) in
    let met = subst (λ (s : NodeState). MarksAreMet s.marked (graph s.dag) c.args.prepared.signed.unit.panorama) (sym c.self.view_is) c.requires.met in
    let choice = subst (λ (os : List Obs). option_map (λ (number : UnitNo). node_at c.self.inside.dag number.0) c.fork_choice-fork.result ≡ fork_of c.self.inside.config.weights (graph c.self.inside.dag) os) resolved.observes
    (subst (λ (ws : List View). option_map (λ (number : UnitNo). node_at c.self.inside.dag number.0) c.fork_choice-fork.result ≡ fork_of c.self.inside.config.weights (graph c.self.inside.dag) (observations c.self.inside.dag ws)) c.panorama-2.ensures c.fork_choice-fork.ensures.fork) in
    let seen : c.get-seen.result ≡ view_at c.args.prepared.panorama c.args.prepared.signed.unit.creator =
    c.get-seen.ensures ∙ ap (λ (ws : List View). view_at ws c.signed.result.now.unit.creator) c.panorama.ensures ∙ ap (λ (u : SignedUnit). view_at c.args.prepared.panorama u.unit.creator) c.signed.ensures in
    let known : c.get.result ≡ view_at c.self.inside.panorama c.args.prepared.signed.unit.creator = c.get.ensures ∙ ap (λ (u : SignedUnit). view_at c.self.inside.panorama u.unit.creator) c.signed.ensures in
    let moved : c.set.new.self ≡ set c.self.inside.panorama c.args.prepared.signed.unit.creator c.next_view-view.result = c.set.ensures ∙ ap (λ (u : SignedUnit). set c.self.inside.panorama u.unit.creator c.next_view-view.result) c.signed.ensures in
    (is_state_later _ c.self.invariant.0 g p fork ready met (listed config dag g many p alone resolved rules) choice c.next_view-view.result c.admit-no.result c.admit-no.ensures.last
    (λ e. c.next_view-view.ensures.same (seen ∙ e ∙ sym known)) (λ ne. c.next_view-view.ensures.other (λ e. ne (sym seen ∙ e ∙ known)))
    c.admit-no.new.self c.admit-no.ensures.admitted c.set.new.self moved c.self.inside.spare).panorama_is

pub returns-clause-observed : goal.returns-clause-observed
returns-clause-observed c =
    let p = c.args.prepared in
    let config = c.self.inside.config in
    let dag = c.self.inside.dag in
    let g = c.recall_graph.ensures in
    let many = c.self.invariant.0.weights_are.length_is in
    let alone = subst (λ (s : NodeState). KeepsLocalRules s.config c.args.prepared.signed.unit) (sym c.self.view_is) c.requires.alone in
    let resolved = subst (λ (s : NodeState). IsResolved s.dag c.args.prepared) (sym c.self.view_is) c.requires.resolved in
    let rules = subst (λ (s : NodeState). state_rule s.config (graph s.dag) (node_prepared c.args.prepared) ≡ None) (sym c.self.view_is) c.requires.rules in
    let fresh = subst (λ (s : NodeState). IsNew s.dag c.args.prepared.digest) (sym c.self.view_is) c.requires.fresh in
    let room = subst (λ (s : NodeState). 1 ≤ s.spare) (sym c.self.view_is) c.requires.room in
    let serves = c.self.invariant.1.dag_serves in
    let fork = c.fork_choice-fork.result in
    let ready = is_ready config dag g many p alone resolved rules (omega arith) fresh fork
    (subst (λ (ws : List View). IsFork c.self.inside.dag (observations c.self.inside.dag ws) c.fork_choice-fork.result) c.panorama-2.ensures c.fork_choice-fork.ensures.is_fork) in
    let met = subst (λ (s : NodeState). MarksAreMet s.marked (graph s.dag) c.args.prepared.signed.unit.panorama) (sym c.self.view_is) c.requires.met in
    let choice = subst (λ (os : List Obs). option_map (λ (number : UnitNo). node_at c.self.inside.dag number.0) c.fork_choice-fork.result ≡ fork_of c.self.inside.config.weights (graph c.self.inside.dag) os) resolved.observes
    (subst (λ (ws : List View). option_map (λ (number : UnitNo). node_at c.self.inside.dag number.0) c.fork_choice-fork.result ≡ fork_of c.self.inside.config.weights (graph c.self.inside.dag) (observations c.self.inside.dag ws)) c.panorama-2.ensures c.fork_choice-fork.ensures.fork) in
    let seen : c.get-seen.result ≡ view_at c.args.prepared.panorama c.args.prepared.signed.unit.creator =
    c.get-seen.ensures ∙ ap (λ (ws : List View). view_at ws c.signed.result.now.unit.creator) c.panorama.ensures ∙ ap (λ (u : SignedUnit). view_at c.args.prepared.panorama u.unit.creator) c.signed.ensures in
    let known : c.get.result ≡ view_at c.self.inside.panorama c.args.prepared.signed.unit.creator = c.get.ensures ∙ ap (λ (u : SignedUnit). view_at c.self.inside.panorama u.unit.creator) c.signed.ensures in
    let moved : c.set.new.self ≡ set c.self.inside.panorama c.args.prepared.signed.unit.creator c.next_view-view.result = c.set.ensures ∙ ap (λ (u : SignedUnit). set c.self.inside.panorama u.unit.creator c.next_view-view.result) c.signed.ensures in
    subst (λ (s : NodeState). observations c.admit-no.new.self c.set.new.self ≡ observed_in s.config s.marked (graph c.admit-no.new.self)) c.self.view_is
    (is_state_later _ c.self.invariant.0 g p fork ready met (listed config dag g many p alone resolved rules) choice c.next_view-view.result c.admit-no.result c.admit-no.ensures.last
    (λ e. c.next_view-view.ensures.same (seen ∙ e ∙ sym known)) (λ ne. c.next_view-view.ensures.other (λ e. ne (sym seen ∙ e ∙ known)))
    c.admit-no.new.self c.admit-no.ensures.admitted c.set.new.self moved c.self.inside.spare).observed

pub returns-clause-seen : goal.returns-clause-seen
returns-clause-seen c =
    let p = c.args.prepared in
    let config = c.self.inside.config in
    let dag = c.self.inside.dag in
    let g = c.recall_graph.ensures in
    let many = c.self.invariant.0.weights_are.length_is in
    let alone = subst (λ (s : NodeState). KeepsLocalRules s.config c.args.prepared.signed.unit) (sym c.self.view_is) c.requires.alone in
    let resolved = subst (λ (s : NodeState). IsResolved s.dag c.args.prepared) (sym c.self.view_is) c.requires.resolved in
    let rules = subst (λ (s : NodeState). state_rule s.config (graph s.dag) (node_prepared c.args.prepared) ≡ None) (sym c.self.view_is) c.requires.rules in
    let fresh = subst (λ (s : NodeState). IsNew s.dag c.args.prepared.digest) (sym c.self.view_is) c.requires.fresh in
    let room = subst (λ (s : NodeState). 1 ≤ s.spare) (sym c.self.view_is) c.requires.room in
    let serves = c.self.invariant.1.dag_serves in
    let fork = c.fork_choice-fork.result in
    let ready = is_ready config dag g many p alone resolved rules (omega arith) fresh fork
    (subst (λ (ws : List View). IsFork c.self.inside.dag (observations c.self.inside.dag ws) c.fork_choice-fork.result) c.panorama-2.ensures c.fork_choice-fork.ensures.is_fork) in
    let met = subst (λ (s : NodeState). MarksAreMet s.marked (graph s.dag) c.args.prepared.signed.unit.panorama) (sym c.self.view_is) c.requires.met in
    subst (λ (s : NodeState). (is_faulty_in s.marked (graph c.admit-no.new.self) c.args.prepared.signed.unit.creator ≡ false → view_at c.args.prepared.panorama c.args.prepared.signed.unit.creator ≡ view_at s.panorama c.args.prepared.signed.unit.creator)
    × (view_at c.args.prepared.panorama c.args.prepared.signed.unit.creator ≡ view_at s.panorama c.args.prepared.signed.unit.creator → is_faulty_in s.marked (graph c.admit-no.new.self) c.args.prepared.signed.unit.creator ≡ false)) c.self.view_is
    (seen_later _ c.self.invariant.0 g p fork ready met c.admit-no.new.self c.admit-no.ensures.admitted)
