-- A unit that breaks no rule keeps what the graph asks.
use Rattle.std.proofs.Common.{◌≡◌, ℕ, ◌+◌, ◌<◌, ◌≤◌, true, false, not, List, length, Option, Some, None, refl, sym, ap, ◌∙◌, eqb-true}
use Rattle.std.specs.Prelude.{◌&&◌, ◌==◌, is_none, is_some}
use Rattle.std.specs.List.{list_any}
use Rattle.std.proofs.lemmas.Bool.{ltb-false}
use Rattle.hw_types.specs.declared.config.Config.{Config}
use Rattle.hw_types.specs.declared.unit.Digest.{Digest}
use Rattle.hw_types.specs.declared.unit.Obs.{Obs}
use Rattle.hw_types.specs.declared.unit.Obs.TheVariants.{Absent, Correct, Faulty}
use Rattle.hw_types.specs.Graph.{Node, is_some_and, is_absent, is_correct, is_faulty_mark, slot, slots, cites, unit_cites, past, latest, previous, observed, is_consistent}
use Rattle.hw_types.specs.Below.{Among}
use Rattle.hw_types.specs.Votes.{is_block}
use Rattle.hw_types.specs.Rules.{local_rule, local_tests, state_rule, state_tests, own_slot}
use Rattle.hw_types.proofs.ClosureLaws.{Within}
use Rattle.hw_types.proofs.PastLaws.{reach_first, reach_within}
use Rattle.hw_types.proofs.StableLaws.{OneName}
use Rattle.hw_types.proofs.LawfulLaws.{consistent_grows}
use Rattle.hw_types.proofs.WordsLaws.{AllFalse, none_broken, any_none, not_false, or_none, and_none, found_node, find_node_is, latest_is, slot_cites, slots_in, correct_in}
use Rattle.hw_dag.specs.Dag.{graph}
use Rattle.hw_dag.specs.Admission.{KeepsRules}
use Rattle.hw_dag.specs.Laws.{RulesAreKept}
use Rattle.hw_dag.proofs.NodeLaws.{graph_one_name}

module _ (config : Config) (instance : Digest) (units : List Node) (one_name : OneName units) (u : Node)
    (local : local_rule config instance u.unit ≡ None) (state : state_rule config units u ≡ None) where
  abbrev below : List Node
  below = past units u.unit.panorama

  within : Within below units
  within = reach_within unit_cites (cites u.unit.panorama) units

  below_one_name : OneName below
  below_one_name x y d m n s t = one_name x y d (within x m) (within y n) s t

  here : AllFalse (local_tests config instance u.unit)
  here = none_broken _ local

  there : AllFalse (state_tests config below u)
  there = none_broken _ state

  cited_below : (x : Node) → Among x units → cites u.unit.panorama x ≡ true → Among x below
  cited_below x m t = reach_first unit_cites (cites u.unit.panorama) units x m t

  -- the unit of a slot is found below
  latest_below : (v : ℕ) (x : Node) → latest units u.unit.panorama v ≡ Some x → (latest below u.unit.panorama v ≡ Some x) × (v < length u.unit.panorama)
  latest_below v x e = go (slot u.unit.panorama v) refl
    where
      go : (o : Obs) → slot u.unit.panorama v ≡ o → (latest below u.unit.panorama v ≡ Some x) × (v < length u.unit.panorama)
      go Absent s = absurd (let no : None ≡ Some x = sym (ap (observed units) s) ∙ e in cc)
      go Faulty s = absurd (let no : None ≡ Some x = sym (ap (observed units) s) ∙ e in cc)
      go (Correct d) s =
          let f = find_node_is units x d (sym (ap (observed units) s) ∙ e) in
          let m = cited_below x f.0 (slot_cites u.unit.panorama v d x s f.1) in
          (latest_is below u.unit.panorama v d x s (found_node below x d below_one_name m f.1), (correct_in u.unit.panorama v d s).1)

  own_first : is_absent (own_slot u.unit) ≡ true → u.unit.seq ≡ 0
  unfolding local_tests
  own_first t =
      let none = or_none (is_absent (own_slot u.unit) && not (u.unit.seq == 0)) (is_correct (own_slot u.unit) && (u.unit.seq == 0)) here.1.1.1.1.0 in
      eqb-true u.unit.seq 0 (not_false _ (and_none (is_absent (own_slot u.unit)) _ none.0 t))

  own_unmarked : is_faulty_mark (own_slot u.unit) ≡ false
  unfolding local_tests
  own_unmarked = here.1.1.1.0

  some_none : {A : Type 0} (o : Option A) → is_some o ≡ false → is_none o ≡ true
  some_none None e = refl
  some_none (Some x) e = absurd cc

  own_sighted : is_block u ≡ false → list_any is_correct u.unit.panorama ≡ true
  unfolding local_tests
  own_sighted f = not_false (list_any is_correct u.unit.panorama) (and_none (is_none u.unit.value) (not (list_any is_correct u.unit.panorama)) here.1.1.1.1.1.1.1.0 (some_none u.unit.value f))

  slot_creators : (v : ℕ) (x : Node) → latest units u.unit.panorama v ≡ Some x → x.unit.creator ≡ v
  unfolding state_tests
  slot_creators v x e =
      let l = latest_below v x e in
      let test = λ (y : Node). not (y.unit.creator == v) in
      let none = any_none (λ w. is_some_and (λ y. not (y.unit.creator == w)) (latest below u.unit.panorama w)) (slots u.unit.panorama) there.0 v (slots_in u.unit.panorama v l.1) in
      eqb-true x.unit.creator v (not_false _ (sym (ap (is_some_and test) l.0) ∙ none))

  own_next : (p : Node) → previous units u ≡ Some p → u.unit.seq ≡ p.unit.seq + 1
  unfolding state_tests
  own_next p e =
      let test = λ (q : Node). not (u.unit.seq == q.unit.seq + 1) in
      eqb-true _ _ (not_false _ (sym (ap (is_some_and test) (latest_below u.unit.creator p e).0) ∙ there.1.0))

  own_consistent : is_consistent units u.unit.panorama ≡ true
  unfolding state_tests
  own_consistent = consistent_grows below units within one_name u.unit.panorama cited_below (not_false _ there.1.1.0)

  own_timely : (w : Node) → Among w units → cites u.unit.panorama w ≡ true → w.unit.time ≤ u.unit.time
  unfolding state_tests
  own_timely w m t = ltb-false _ _ (and_none (cites u.unit.panorama w) _ (any_none _ below there.1.1.1.0 w (cited_below w m t)) t)

  -- Where neither a rule of the unit alone nor one over the units below it is broken, the unit keeps what the graph asks.
  pub rules_kept : KeepsRules units u
  rules_kept = record {
    unmarked = own_unmarked;
    first = own_first;
    sighted = own_sighted;
    creators = slot_creators;
    next = own_next;
    consistent = own_consistent;
    timely = own_timely;
  }

pub rules_are_kept : RulesAreKept
rules_are_kept config instance dag u local state = rules_kept config instance (graph dag) (graph_one_name dag) u local state
