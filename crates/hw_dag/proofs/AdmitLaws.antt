-- A graph with one unit more is a graph.
use Rattle.std.proofs.Common.{◌≡◌, ℕ, ◌+◌, ◌<◌, ◌⊎◌, inl, inr, Bool, true, false, List, [], ◌∷◌, length, Option, Some, None, refl, sym, ap, subst, ◌∙◌, arith, length-append}
use Rattle.std.specs.Prelude.{is_some, unwrap_or, if◌then◌else◌}
use Rattle.std.proofs.lemmas.List.{get_or_push}
use Rattle.std.proofs.lemmas.Bool.{cases_lt}
use Rattle.hw_types.specs.declared.unit.Obs.{Obs}
use Rattle.hw_types.specs.declared.unit.Obs.TheVariants.{Correct}
use Rattle.hw_types.specs.Graph.{Node, slot, cites, latest, observed}
use Rattle.hw_types.specs.Below.{Among}
use Rattle.hw_types.specs.Votes.{is_block}
use Rattle.hw_types.proofs.LawfulLaws.{consistent_grows}
use Rattle.hw_dag.specs.declared.numbers.UnitNo.{UnitNo}
use Rattle.hw_dag.specs.declared.numbers.View.{View}
use Rattle.hw_dag.specs.declared.numbers.View.TheVariants as view
use Rattle.hw_dag.specs.Dag.{SettledUnit, UnitGraph, stand_in, unit_at, count_of, node_at, graph, creator_of, view_at, obs_of, observations, IsPanorama, GrowsTo}
use Rattle.hw_dag.specs.Admission.{PreparedUnit, node_prepared, KeepsRules, IsFork, height_above, settled_as, settled_from, with_unit, fork_given, IsSettled, IsGraph, IsReady}
use Rattle.hw_dag.proofs.NodeLaws.{AreApart, apart_found, graph_one_name}
use Rattle.hw_dag.proofs.SlotLaws.{slot_of, length-observations, latest_of}
use Rattle.hw_dag.proofs.DepthLaws.{parent_earlier}
use Rattle.hw_dag.proofs.GrowthLaws.{IsKnown, count_grows, unit_stays, node_stays, observations_stay, graph_part, cites_known}

-- ---- what the graph asks of a unit, in a graph that grew

module _ (dag later : UnitGraph) (grows : GrowsTo dag later) (g : IsGraph dag) (apart : AreApart later) where
  pub latest_stays : (panorama : List View) → IsKnown dag panorama → (v : ℕ) → latest (graph later) (observations dag panorama) v ≡ latest (graph dag) (observations dag panorama) v
  latest_stays panorama known v = go (view_at panorama v) refl
    where
      at : slot (observations dag panorama) v ≡ obs_of dag (view_at panorama v)
      at = slot_of dag panorama v

      go : (w : View) → view_at panorama v ≡ w → observed (graph later) (slot (observations dag panorama) v) ≡ observed (graph dag) (slot (observations dag panorama) v)
      go view.Absent e = let s = at ∙ ap (obs_of dag) e in ap (observed (graph later)) s ∙ sym (ap (observed (graph dag)) s)
      go view.Faulty e = let s = at ∙ ap (obs_of dag) e in ap (observed (graph later)) s ∙ sym (ap (observed (graph dag)) s)
      go (view.Correct number) e =
          let s = at ∙ ap (obs_of dag) e in
          let lt = known v number e in
          let longer = count_grows dag later grows in
          let name : (unit_at later number.0).digest ≡ (unit_at dag number.0).digest = ap (λ (u : SettledUnit). u.digest) (unit_stays dag later grows number.0 lt) in
          let there : observed (graph later) (Correct (unit_at later number.0).digest) ≡ Some (node_at later number.0) = apart_found later apart number.0 (omega arith) in
          let here : observed (graph dag) (Correct (unit_at dag number.0).digest) ≡ Some (node_at dag number.0) = apart_found dag g.distinct number.0 lt in
          ap (observed (graph later)) (s ∙ ap Correct (sym name)) ∙ there ∙ ap Some (node_stays dag later grows number.0 lt) ∙ sym here ∙ sym (ap (observed (graph dag)) s)

  pub rules_stay : (panorama : List View) (u : Node) → IsKnown dag panorama → observations dag panorama ≡ u.unit.panorama → KeepsRules (graph dag) u → KeepsRules (graph later) u
  rules_stay panorama u known same rules = record {
    unmarked = rules.unmarked;
    first = rules.first;
    sighted = rules.sighted;
    creators = λ v x e. rules.creators v x (sym (stays v) ∙ e);
    next = λ p e. rules.next p (sym (stays u.unit.creator) ∙ e);
    consistent = consistent_grows (graph dag) (graph later) (graph_part dag later grows g apart) (graph_one_name later) u.unit.panorama met rules.consistent;
    timely = λ w m t. rules.timely w (met w m t) t;
  }
    where
      stays : (v : ℕ) → latest (graph later) u.unit.panorama v ≡ latest (graph dag) u.unit.panorama v
      stays v = subst (λ (os : List Obs). latest (graph later) os v ≡ latest (graph dag) os v) same (latest_stays panorama known v)

      met : (x : Node) → Among x (graph later) → cites u.unit.panorama x ≡ true → Among x (graph dag)
      met x m t = cites_known dag later grows g apart panorama known x m (subst (λ (os : List Obs). cites os x ≡ true) (sym same) t)

  pub panorama_stays : (panorama : List View) → IsPanorama dag panorama → IsPanorama later panorama
  panorama_stays panorama p = record {
    length_is = p.length_is ∙ sym grows.validators_are;
    known = λ v number e. let lt = p.known v number e in let longer = count_grows dag later grows in omega arith;
    creator_is = λ v number e. ap (λ (u : SettledUnit). creator_of u) (unit_stays dag later grows number.0 (p.known v number e)) ∙ p.creator_is v number e;
  }

  pub is_fork_stays : (panorama : List Obs) (fork : Option UnitNo) → IsFork dag panorama fork → IsFork later panorama fork
  is_fork_stays panorama fork f = record {
    some = f.some;
    known = λ number e. let lt = f.known number e in let longer = count_grows dag later grows in omega arith;
    block = λ number e. ap (λ (x : Node). is_block x) (node_stays dag later grows number.0 (f.known number e)) ∙ f.block number e;
  }

  pub height_above_stays : (parent : Option UnitNo) → ((p : UnitNo) → parent ≡ Some p → p.0 < count_of dag) → height_above later parent ≡ height_above dag parent
  height_above_stays None known = refl
  height_above_stays (Some p) known = ap (λ (u : SettledUnit). unwrap_or u.height 0 + 1) (unit_stays dag later grows p.0 (known p refl))

-- ---- one unit more

chosen : (b : Bool) (o : Option UnitNo) (d : UnitNo) → (b ≡ false → is_some o ≡ true) → (if b then (if b then o else None) else Some (if b then d else unwrap_or o d)) ≡ o
chosen true o d h = refl
chosen false (Some x) d h = refl
chosen false None d h = absurd (let no : false ≡ true = h refl in cc)

own_number : (b : Bool) (d e : UnitNo) → b ≡ true → (if b then d else e).0 ≡ d.0
own_number true d e h = refl
own_number false d e h = absurd cc

no_fork : (b : Bool) (o : Option UnitNo) → b ≡ false → (if b then o else None) ≡ None
no_fork true o h = absurd cc
no_fork false o h = refl

one_height : (b : Bool) (o : Option UnitNo) (f h : Option UnitNo → ℕ) → h o ≡ f o → (if b then Some (f o) else None) ≡ (if b then Some (h (if b then o else None)) else None)
one_height true o f h e = ap Some (sym e)
one_height false o f h e = refl

module _ (dag : UnitGraph) (g : IsGraph dag) (p : PreparedUnit) (fork : Option UnitNo) (ready : IsReady dag p fork) where
  abbrev pub last : SettledUnit
  last = settled_from dag p fork

  abbrev pub later : UnitGraph
  later = with_unit dag last

  pub grows : GrowsTo dag later
  grows = record { validators_are = refl; more = last ∷ []; units_are = refl }

  pub last_at : unit_at later (count_of dag) ≡ last
  last_at = get_or_push dag.units last stand_in (count_of dag) refl

  pub count_later : count_of later ≡ count_of dag + 1
  count_later = length-append dag.units (last ∷ [])

  old_or_last : (n : ℕ) → n < count_of later → (n < count_of dag) ⊎ (n ≡ count_of dag)
  old_or_last n lt = let longer = count_later in elim (cases_lt n (count_of dag)) [ inl less ↦ inl less | inr above ↦ inr (omega arith) ]

  name_stays : (n : ℕ) → n < count_of dag → (unit_at later n).digest ≡ (unit_at dag n).digest
  name_stays n lt = ap (λ (u : SettledUnit). u.digest) (unit_stays dag later grows n lt)

  last_name : (n : ℕ) → n ≡ count_of dag → (unit_at later n).digest ≡ p.digest
  last_name n e = ap (λ (k : ℕ). (unit_at later k).digest) e ∙ ap (λ (u : SettledUnit). u.digest) last_at

  pub later_apart : AreApart later
  later_apart m n lm ln e = elim (old_or_last m lm) [
    | inl a ↦ elim (old_or_last n ln) [
      | inl b ↦ g.distinct m n a b (sym (name_stays m a) ∙ e ∙ name_stays n b)
      | inr b ↦ absurd (ready.fresh m a (sym (name_stays m a) ∙ e ∙ last_name n b))
    ]
    | inr a ↦ elim (old_or_last n ln) [
      | inl b ↦ absurd (ready.fresh n b (sym (name_stays n b) ∙ sym e ∙ last_name m a))
      | inr b ↦ a ∙ sym b
    ]
  ]

  -- ---- the units that were there

  old_settled : (n : ℕ) → n < count_of dag → IsSettled later n (unit_at dag n)
  old_settled n lt =
      let s = g.settled n lt in
      record {
        creator_is = s.creator_is;
        panorama_is = panorama_stays dag later grows g later_apart (unit_at dag n).panorama s.panorama_is;
        observes = observations_stay dag later grows (unit_at dag n).panorama s.panorama_is.known ∙ s.observes;
        earlier = s.earlier;
        rules = rules_stay dag later grows g later_apart (unit_at dag n).panorama (node_at dag n) s.panorama_is.known s.observes s.rules;
        fork = is_fork_stays dag later grows g later_apart (unit_at dag n).signed.unit.panorama (fork_given (unit_at dag n)) s.fork;
        fork_earlier = s.fork_earlier;
        own_vote = s.own_vote;
        no_parent = s.no_parent;
        height_is = s.height_is ∙ ap (λ (h : ℕ). if is_block (node_at dag n) then Some h else None)
            (sym (height_above_stays dag later grows g later_apart (unit_at dag n).parent (λ q e. let less = parent_earlier dag g n q lt e in omega arith)));
      }

  -- ---- the new one

  pub last_length : length p.panorama ≡ dag.validators
  last_length = sym (length-observations dag p.panorama) ∙ ap length ready.resolved.observes ∙ ready.is_for.length_is

  pub last_panorama : IsPanorama dag p.panorama
  last_panorama = record {
    length_is = last_length;
    known = ready.resolved.known;
    creator_is = λ v number e. ready.rules.creators v (node_at dag number.0)
        (subst (λ (os : List Obs). latest (graph dag) os v ≡ Some (node_at dag number.0)) ready.resolved.observes (latest_of dag g p.panorama v number e (ready.resolved.known v number e)));
  }

  pub last_fork : fork_given last ≡ fork
  last_fork = chosen (is_block (node_prepared p)) fork (record { 0 = count_of dag }) (λ f. ready.fork_is.some ∙ ready.rules.sighted f)

  last_settled : IsSettled later (count_of dag) last
  last_settled = record {
    creator_is = ready.is_for.creator_is;
    panorama_is = panorama_stays dag later grows g later_apart p.panorama last_panorama;
    observes = observations_stay dag later grows p.panorama ready.resolved.known ∙ ready.resolved.observes;
    earlier = ready.resolved.known;
    rules = rules_stay dag later grows g later_apart p.panorama (node_prepared p) ready.resolved.known ready.resolved.observes ready.rules;
    fork = subst (λ (o : Option UnitNo). IsFork later p.signed.unit.panorama o) (sym last_fork) (is_fork_stays dag later grows g later_apart p.signed.unit.panorama fork ready.fork_is);
    fork_earlier = λ number e. ready.fork_is.known number (sym last_fork ∙ e);
    own_vote = λ t. own_number (is_block (node_prepared p)) (record { 0 = count_of dag }) (unwrap_or fork (record { 0 = count_of dag })) t;
    no_parent = λ f. no_fork (is_block (node_prepared p)) fork f;
    height_is = one_height (is_block (node_prepared p)) fork (height_above dag) (height_above later) (height_above_stays dag later grows g later_apart fork ready.fork_is.known);
  }

  -- The graph with the unit is a graph.
  pub graph_more : IsGraph later
  graph_more = record {
    bounded = (let b = g.bounded in let longer = count_later in let room = ready.room in omega arith);
    distinct = later_apart;
    settled = λ n lt. elim (old_or_last n lt) [
      | inl old ↦ subst (λ (u : SettledUnit). IsSettled later n u) (sym (unit_stays dag later grows n old)) (old_settled n old)
      | inr new ↦ subst (λ (k : ℕ). IsSettled later k (unit_at later k)) (sym new) (subst (λ (u : SettledUnit). IsSettled later (count_of dag) u) (sym last_at) last_settled)
    ];
  }

-- the unit as the code makes it
pub settled_same : (dag : UnitGraph) (p : PreparedUnit) (fork : Option UnitNo) (u : SettledUnit) (n h : ℕ) → u ≡ settled_as p (record { 0 = n }) fork h → n ≡ count_of dag → h ≡ height_above dag fork → u ≡ settled_from dag p fork
settled_same dag p fork u n h e count height =
    e ∙ ap (λ (k : ℕ). settled_as p (record { 0 = k }) fork h) count ∙ ap (λ (k : ℕ). settled_as p (record { 0 = count_of dag }) fork k) height

pub graph_with : (dag : UnitGraph) (g : IsGraph dag) (p : PreparedUnit) (fork : Option UnitNo) (ready : IsReady dag p fork) (u : SettledUnit) → u ≡ settled_from dag p fork → IsGraph (with_unit dag u)
graph_with dag g p fork ready u e = subst (λ (v : SettledUnit). IsGraph (with_unit dag v)) (sym e) (graph_more dag g p fork ready)
