-- A vertex that was taken.
use Rattle.std.proofs.Common.{◌≡◌, ◌≢◌, ℕ, ◌+◌, ◌<◌, true, List, [], ◌∷◌, ◌++◌, length, sym, ap, subst, ◌∙◌, arith, All, Bool, cond}
use Rattle.std.proofs.lemmas.Bool.Decides.{nat_tests}
use Rattle.std.proofs.lemmas.List.{length-append}
use Rattle.hw_types.specs.declared.unit.Digest.{Digest}
use Rattle.hw_types.specs.declared.answers.Rule.{Rule}
use Rattle.hw_types.specs.declared.unit.Vertex.{Vertex}
use Rattle.hw_types.specs.declared.config.Config.{Config}
use Rattle.hw_types.specs.Graph.{Node}
use Rattle.hw_types.specs.laws.StateLaws.{NamesApart, units_in}
use Rattle.hw_types.specs.Journal.{Setting, newly_settled, journal_after}
use Rattle.hw_types.specs.Real.{setting_of}
use Rattle.hw_types.proofs.OrderLaws.{Accepted, accepted, apart_after}
use Rattle.hw_dag.specs.Dag.{graph}
use Rattle.hw_dag.specs.Admission.{PreparedUnit}
use Rattle.hw_admit.specs.State.{NodeState}
use Rattle.hw_park.specs.Parked.{Parked, Waiting}
use Rattle.hw_core.specs.Settle.{CanSettle, HasSettled, HasNoted}
use Rattle.hw_core.specs.Keeps.{IsOf, HasTaken, IsNode, AreRules}
use Rattle.hw_core.specs.Deliver.{IsTaken, HasCome}
use Rattle.hw_core.proofs.EndLaws.{settling_ended, rules_ended}
use Rattle.std.proofs.lemmas.List.Sums.{fold-append}

pub was_accepted : (config : Config) (journal : List Vertex) (v : Vertex) → IsTaken config journal v → Accepted (setting_of config) journal v
was_accepted config journal v taken = accepted (setting_of config) journal v true taken

-- one delivery more
come_more : (config : Config) (journal : List Vertex) (v : Vertex) → HasCome config journal → IsTaken config journal v → HasCome config (journal ++ v ∷ [])
come_more config journal v come ok =
    let s : Setting = setting_of config in
    let last : journal_after s journal (v, true) ≡ journal ++ v ∷ [] = ap (λ (b : Bool). cond b (journal ++ v ∷ []) journal) ok in
    (come.0 ++ (v, true) ∷ [], sym (fold-append (journal_after s) [] come.0 ((v, true) ∷ []) ∙ ap (λ (vs : List Vertex). journal_after s vs (v, true)) (sym come.1) ∙ last))

module _ (journal : List Vertex) (park : Parked PreparedUnit) (state : NodeState) (node : IsNode journal park state) (v : Vertex) (ok : IsTaken state.config journal v) (between : NodeState)
    (waiting : List (Waiting PreparedUnit)) (taken : HasTaken (setting_of state.config) journal v between waiting) (later : NodeState) (after : Parked PreparedUnit) (limit : after.limit ≡ park.limit)
    (settled : HasSettled between waiting later after.waiting) (can : CanSettle later after.waiting) (none : All (λ w. w.needs ≢ []) after.waiting) where
  abbrev s : Setting
  s = setting_of state.config

  ended : IsOf s (journal ++ v ∷ []) later after.waiting
  ended = settling_ended s journal v true between later waiting after.waiting node.apart ok taken settled can none

  room : length journal < state.config.max_records
  room = let full = (was_accepted state.config journal v ok).room in grind (arith, nat_tests)

  -- the node is one of the longer journal
  pub node_after : IsNode (journal ++ v ∷ []) after later
  node_after = record {
    bounded = let long = length-append journal (v ∷ []) in let most = ap (λ (c : Config). c.max_records) ended.config in let lt = room in omega arith;
    limit = limit ∙ node.limit ∙ ap (λ (c : Config). c.max_parked) (sym ended.config);
    apart = subst (λ (c : Config). NamesApart (units_in (setting_of c) (journal ++ v ∷ []))) (sym ended.config) (apart_after s journal v node.apart (was_accepted state.config journal v ok));
    come = subst (λ (c : Config). HasCome c (journal ++ v ∷ [])) (sym ended.config) (come_more state.config journal v node.come ok);
    is_of = subst (λ (c : Config). IsOf (setting_of c) (journal ++ v ∷ []) later after.waiting) (sym ended.config) ended;
  }

  -- and the rules are those of its dropped units
  pub rules_after : (rules noted : List (Digest × Rule)) → AreRules s journal rules → HasNoted between waiting rules later after.waiting noted → AreRules s (journal ++ v ∷ []) noted
  rules_after rules noted are notes = rules_ended s journal v true between later waiting after.waiting node.apart ok taken settled can none rules noted are notes

  -- and so many more units settled
  pub newly_is : (n : ℕ) → length (graph between.dag) + n ≡ length (graph later.dag) → newly_settled s journal v ≡ n
  newly_is n count =
      let was = ap (λ (xs : List Node). length xs) taken.settled in
      let is = ap (λ (xs : List Node). length xs) ended.settled in
      omega arith
