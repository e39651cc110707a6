-- The units below a unit on its way in, by number.
use Rattle.std.proofs.Common.{◌≡◌, ℕ, zero, suc, ◌<◌, Bool, true, false, not, List, [], ◌∷◌, length, Option, Some, None, refl, sym, ap, subst, ◌∙◌, arith, eqb-true}
use Rattle.std.specs.Prelude.{◌&&◌, ◌==◌, ◌↔◌, IsTrue}
use Rattle.std.specs.List.{list_all}
use Rattle.std.specs.Option.{option_map}
use Rattle.hw_types.specs.declared.unit.Digest.{Digest}
use Rattle.hw_types.specs.declared.unit.Obs.{Obs}
use Rattle.hw_types.specs.Graph.{Node, digest_eq, is_some_and, slot, slots, cites, unit_cites, past, observed, latest, previous, is_consistent}
use Rattle.hw_types.specs.Below.{Among}
use Rattle.hw_types.specs.Rules.{some_cited}
use Rattle.hw_types.proofs.ClosureLaws.{Within}
use Rattle.hw_types.proofs.PastLaws.{any_of, reach_first, reach_further, reach_within}
use Rattle.hw_types.proofs.StableLaws.{OneName, and_whole, both_ways}
use Rattle.hw_types.proofs.WordsLaws.{any_none, none_any, all_of, each_all, found_node, slots_in, not_false}
use Rattle.hw_types.proofs.SettledLaws.{digest_self}
use Rattle.hw_dag.specs.declared.numbers.UnitNo.{UnitNo}
use Rattle.hw_dag.specs.declared.numbers.View.{View}
use Rattle.hw_dag.specs.declared.numbers.View.TheVariants as view
use Rattle.hw_dag.specs.Dag.{UnitGraph, unit_at, count_of, node_at, graph, creator_of, view_at, obs_of, IsPanorama}
use Rattle.hw_dag.specs.Admission.{PreparedUnit, node_prepared}
use Rattle.hw_dag.specs.Lanes.{is_seen}
use Rattle.hw_dag.specs.Lists.{AllNameBelow}
use Rattle.hw_dag.specs.Tables.{number_of, predecessor_of}
use Rattle.hw_dag.proofs.NodeLaws.{among_node, node_among, graph_one_name}
use Rattle.hw_dag.proofs.SlotLaws.{slot_of, slot_at, length-observations, number_cites, cited_number}
use Rattle.hw_naivety.proofs.BelowLaws.{below_under}
use Rattle.hw_rules.specs.Judged.{IsCase, below_of, before_of, has_foreign_slot, has_named}
use Rattle.hw_rules.proofs.SeenLaws.{named_below}
use Rattle.hw_rules.proofs.ShrinkLaws.{consistent_same}

-- a number as the definitions see it
abbrev pub node_for : UnitGraph → Option UnitNo → Option Node
node_for dag o = option_map (λ (number : UnitNo). node_at dag number.0) o

-- a slot that names a unit is one of the slots
pub view_within : (panorama : List View) (v : ℕ) (number : UnitNo) → view_at panorama v ≡ view.Correct number → v < length panorama
view_within [] v number e = absurd cc
view_within (w ∷ ws) zero number e = omega arith
view_within (w ∷ ws) (suc v) number e = let rest = view_within ws v number e in omega arith

module _ (dag : UnitGraph) (p : PreparedUnit) (case : IsCase dag p) where
  abbrev u : Node
  u = node_prepared p

  abbrev below : List Node
  below = below_of dag p

  abbrev known : (v : ℕ) (number : UnitNo) → view_at p.panorama v ≡ view.Correct number → number.0 < count_of dag
  known = case.resolved.known

  pub length_is : length p.panorama ≡ dag.validators
  length_is = sym (length-observations dag p.panorama) ∙ ap (λ (os : List Obs). length os) case.resolved.observes ∙ case.is_for.length_is

  pub slot_is : (v : ℕ) → slot p.signed.unit.panorama v ≡ obs_of dag (view_at p.panorama v)
  slot_is v = ap (λ (os : List Obs). slot os v) (sym case.resolved.observes) ∙ slot_of dag p.panorama v

  pub within : Within below (graph dag)
  within = reach_within unit_cites (cites p.signed.unit.panorama) (graph dag)

  pub one_name : OneName below
  one_name x y d m n s t = graph_one_name dag x y d (within x m) (within y n) s t

  pub cites_it : (v : ℕ) (number : UnitNo) → view_at p.panorama v ≡ view.Correct number → cites p.signed.unit.panorama (node_at dag number.0) ≡ true
  cites_it v number e = subst (λ (os : List Obs). cites os (node_at dag number.0) ≡ true) case.resolved.observes (number_cites dag case.graph_is p.panorama v number e)

  -- a unit in a slot is below,
  pub cited_below : (v : ℕ) (number : UnitNo) → view_at p.panorama v ≡ view.Correct number → Among (node_at dag number.0) below
  cited_below v number e = reach_first unit_cites (cites p.signed.unit.panorama) (graph dag) (node_at dag number.0) (node_among dag case.graph_is number.0 (known v number e)) (cites_it v number e)

  -- and so is one in a slot of a unit below
  pub cited_further : (n v : ℕ) (number : UnitNo) → n < count_of dag → Among (node_at dag n) below → view_at (unit_at dag n).panorama v ≡ view.Correct number → Among (node_at dag number.0) below
  cited_further n v number lt m e =
      let s = case.graph_is.settled n lt in
      reach_further unit_cites (cites p.signed.unit.panorama) (graph dag) (node_at dag number.0) (node_at dag n) m (node_among dag case.graph_is number.0 (s.panorama_is.known v number e))
      (subst (λ (os : List Obs). cites os (node_at dag number.0) ≡ true) s.observes (number_cites dag case.graph_is (unit_at dag n).panorama v number e))

  found : (w : View) → ((number : UnitNo) → w ≡ view.Correct number → Among (node_at dag number.0) below) → observed below (obs_of dag w) ≡ node_for dag (number_of w)
  found view.Absent m = refl
  found view.Faulty m = refl
  found (view.Correct number) m = found_node below (node_at dag number.0) (unit_at dag number.0).digest one_name (m number refl) refl

  -- the unit of a slot, among the units below
  pub latest_is : (v : ℕ) → latest below p.signed.unit.panorama v ≡ node_for dag (number_of (view_at p.panorama v))
  latest_is v = ap (observed below) (slot_is v) ∙ found (view_at p.panorama v) (λ number e. cited_below v number e)

  pub latest_further : (n v : ℕ) → n < count_of dag → Among (node_at dag n) below → latest below (unit_at dag n).signed.unit.panorama v ≡ node_for dag (number_of (view_at (unit_at dag n).panorama v))
  latest_further n v lt m = ap (observed below) (slot_at dag case.graph_is n v lt) ∙ found (view_at (unit_at dag n).panorama v) (λ number e. cited_further n v number lt m e)

  -- a test of the unit before it
  pub before_some : (test : Node → Bool) (number : UnitNo) → before_of p ≡ Some number → is_some_and test (previous below u) ≡ test (node_at dag number.0)
  before_some test number e = ap (is_some_and test) (latest_is p.signed.unit.creator ∙ ap (node_for dag) e)

  pub before_none : (test : Node → Bool) → before_of p ≡ None → is_some_and test (previous below u) ≡ false
  before_none test e = ap (is_some_and test) (latest_is p.signed.unit.creator ∙ ap (node_for dag) e)

  -- and of the unit before that
  pub second_some : (test : Node → Bool) (n : ℕ) (number : UnitNo) → n < count_of dag → Among (node_at dag n) below → predecessor_of (unit_at dag n) ≡ Some number → is_some_and test (previous below (node_at dag n)) ≡ test (node_at dag number.0)
  second_some test n number lt m e = ap (is_some_and test) (latest_further n (creator_of (unit_at dag n)) lt m ∙ ap (node_for dag) e)

  pub second_none : (test : Node → Bool) (n : ℕ) → n < count_of dag → Among (node_at dag n) below → predecessor_of (unit_at dag n) ≡ None → is_some_and test (previous below (node_at dag n)) ≡ false
  second_none test n lt m e = ap (is_some_and test) (latest_further n (creator_of (unit_at dag n)) lt m ∙ ap (node_for dag) e)

  -- ---- some cited unit

  pub some_number : (test : Node → Bool) (v : ℕ) (number : UnitNo) → view_at p.panorama v ≡ view.Correct number → test (node_at dag number.0) ≡ true → some_cited below u test ≡ true
  some_number test v number e t = any_of (λ w. cites p.signed.unit.panorama w && test w) (node_at dag number.0) below (cited_below v number e) (and_whole _ _ (cites_it v number e) t)

  pub no_number : (test : Node → Bool) → ((v : ℕ) (number : UnitNo) → view_at p.panorama v ≡ view.Correct number → test (node_at dag number.0) ≡ false) → some_cited below u test ≡ false
  no_number test none = none_any (λ w. cites p.signed.unit.panorama w && test w) below (λ x m. go x (cites p.signed.unit.panorama x) refl (within x m))
    where
      go : (x : Node) (b : Bool) → cites p.signed.unit.panorama x ≡ b → Among x (graph dag) → (b && test x) ≡ false
      go x false e m = refl
      go x true e m =
          let n = among_node dag x m in
          let there = subst (λ (os : List Obs). cites os (node_at dag n.0) ≡ true) (sym case.resolved.observes) (subst (λ (y : Node). cites p.signed.unit.panorama y ≡ true) (sym n.2) e) in
          let k = cited_number dag case.graph_is p.panorama n.0 known n.1 there in
          subst (λ (y : Node). test y ≡ false) (ap (λ (i : ℕ). node_at dag i) k.3 ∙ n.2) (none k.0 k.1 k.2)

  -- ---- slots by their validators

  abbrev foreign : ℕ → Node → Bool
  foreign v x = not (x.unit.creator == v)

  pub foreign_slot : (v : ℕ) (number : UnitNo) → view_at p.panorama v ≡ view.Correct number → (creator_of (unit_at dag number.0) == v) ≡ false → has_foreign_slot below u ≡ true
  foreign_slot v number e f =
      let lt = view_within p.panorama v number e in
      let len = length_is in
      let same = case.is_for.length_is in
      any_of (λ w. is_some_and (foreign w) (latest below p.signed.unit.panorama w)) v (slots p.signed.unit.panorama) (slots_in p.signed.unit.panorama v (omega arith))
      (ap (is_some_and (foreign v)) (latest_is v ∙ ap (λ (w : View). node_for dag (number_of w)) e) ∙ ap not f)

  pub no_foreign_slot : ((v : ℕ) (number : UnitNo) → view_at p.panorama v ≡ view.Correct number → (creator_of (unit_at dag number.0) == v) ≡ true) → has_foreign_slot below u ≡ false
  no_foreign_slot all = none_any (λ w. is_some_and (foreign w) (latest below p.signed.unit.panorama w)) (slots p.signed.unit.panorama) (λ v m. ap (is_some_and (foreign v)) (latest_is v) ∙ go v (view_at p.panorama v) refl)
    where
      go : (v : ℕ) (w : View) → view_at p.panorama v ≡ w → is_some_and (foreign v) (node_for dag (number_of w)) ≡ false
      go v view.Absent e = refl
      go v view.Faulty e = refl
      go v (view.Correct number) e = ap not (all v number e)

  pub own_slots : has_foreign_slot below u ≡ false → (v : ℕ) (number : UnitNo) → view_at p.panorama v ≡ view.Correct number → creator_of (unit_at dag number.0) ≡ v
  own_slots h v number e =
      let lt = view_within p.panorama v number e in
      let len = length_is in
      let same = case.is_for.length_is in
      let none = any_none (λ w. is_some_and (foreign w) (latest below p.signed.unit.panorama w)) (slots p.signed.unit.panorama) h v (slots_in p.signed.unit.panorama v (omega arith)) in
      eqb-true _ v (not_false _ (sym (ap (is_some_and (foreign v)) (latest_is v ∙ ap (λ (w : View). node_for dag (number_of w)) e)) ∙ none))

  pub panorama_is : has_foreign_slot below u ≡ false → IsPanorama dag p.panorama
  panorama_is h = record { length_is = length_is; known = known; creator_is = own_slots h }

  -- ---- consistency

  pub consistent_below : is_consistent below p.signed.unit.panorama ≡ is_consistent (graph dag) p.signed.unit.panorama
  consistent_below = consistent_same below (graph dag) within (graph_one_name dag)
      (λ x y m n t. reach_further unit_cites (cites p.signed.unit.panorama) (graph dag) x y m n t)
      p.signed.unit.panorama (λ x m t. reach_first unit_cites (cites p.signed.unit.panorama) (graph dag) x m t)

  -- ---- what is below, by number

  pub seen_below : (n v : ℕ) (number : UnitNo) → n < count_of dag → view_at p.panorama v ≡ view.Correct number → is_seen dag n number.0 ≡ true → Among (node_at dag n) below
  seen_below n v number lt e s = subst (λ (os : List Obs). Among (node_at dag n) (past (graph dag) os)) case.resolved.observes
      (below_under dag case.graph_is p.panorama known n lt (record { slot = v; cited = number; observed = e; seen = s }))

  -- a unit of the name is below where the one of that name is
  pub named_here : (n : ℕ) (d : Digest) → (unit_at dag n).digest ≡ d → Among (node_at dag n) below → has_named below d ≡ true
  named_here n d e m = any_of (λ x. digest_eq x.digest d) (node_at dag n) below m (subst (λ (c : Digest). digest_eq (unit_at dag n).digest c ≡ true) e (digest_self (unit_at dag n).digest))

  -- each name of a list is
  pub all_named : (names : List Digest) (b : Bool) → IsTrue b ↔ AllNameBelow dag p.panorama names → b ≡ list_all (has_named below) names
  all_named names b told = both_ways b (list_all (has_named below) names)
      (λ t. each_all (has_named below) names (λ d m.
      let k = told.0 t d m in
      named_here k.number d k.named (seen_below k.number k.below.slot k.below.cited k.known k.below.observed k.below.seen)))
      (λ t. told.1 (λ d m. named_below dag case.graph_is p case.resolved d (all_of (has_named below) names t d m)))
