-- What becomes of those that wait as units settle.
use Rattle.std.proofs.Common.{◌≡◌, ◌≢◌, ◌⊎◌, inl, inr, ℕ, suc, ◌+◌, ◌<◌, Bool, true, false, List, [], ◌∷◌, ◌++◌, length, map, filter, Option, Some, None, refl, sym, ap, subst, subst₂, ◌∙◌, arith, All}
use Rattle.std.specs.Prelude.{◌==◌, is_none, Result, Ok, Err, OnOk, OnErr, IfErr}
use Rattle.std.specs.List.{range_with_len}
use Rattle.std.proofs.lemmas.List.{map-append, length-append, append-nil}
use Rattle.hw_types.specs.declared.unit.Digest.{Digest}
use Rattle.hw_types.specs.declared.unit.Need.{Need}
use Rattle.hw_types.specs.declared.unit.Need.TheVariants as need
use Rattle.hw_types.specs.declared.answers.Rule.{Rule}
use Rattle.hw_types.specs.declared.config.Config.{Config}
use Rattle.hw_types.specs.Graph.{Node}
use Rattle.hw_types.specs.Below.{Among}
use Rattle.hw_types.specs.ByName.{by_name}
use Rattle.hw_types.specs.Rules.{state_rule}
use Rattle.hw_types.specs.Settled.{Received, is_faulty, missing_of, settles}
use Rattle.hw_types.specs.laws.StateLaws.{HasOneMore, Admits}
use Rattle.hw_types.proofs.StableLaws.{and_whole}
use Rattle.hw_types.proofs.EntryLaws.{map_among, among_map, append_cases, by_name_more, by_name_append, same_named}
use Rattle.hw_types.proofs.UnionLaws.{from_left, from_right}
use Rattle.hw_types.specs.declared.unit.SignedUnit.{SignedUnit}
use Rattle.hw_dag.specs.Dag.{SettledUnit, UnitGraph, GrowsTo, by_name_of, graph, node_of, node_at}
use Rattle.hw_dag.specs.Admission.{PreparedUnit, AllKnown, IsGraph, IsNew, node_prepared, settled_from}
use Rattle.hw_dag.proofs.NodeLaws.{node_among}
use Rattle.hw_rules.proofs.LocalLaws.{fits}
use Rattle.hw_rules.specs.Judged.{KeepsLocalRules}
use Rattle.hw_admit.specs.State.{NodeState, IsAdmitted, MarksAreMet, is_marked, is_faulty_in}
use Rattle.hw_admit.proofs.FaultyLaws.{faulty_same}
use Rattle.hw_park.specs.Parked.{Waiting, struck}
use Rattle.hw_core.specs.Settle.{IsPart, known_in, admitted_in, waiting_nodes, IsUnknown, IsUnawaited, AreApart, AreWaiting, Awaits, CanSettle, IsDue, KnowsTheSame, IsDropped, AllMiss, TakesTurns, HasSettled, HasMoreRoom}
use Rattle.hw_core.proofs.NeedLaws.{cited_met, marked_met}
use Rattle.hw_core.proofs.PartLaws.{part_self, part_among, part_then, part_more, part_map}
use Rattle.hw_core.proofs.TurnLaws.{turns_then}
use Rattle.hw_core.proofs.WaitLaws.{length_struck, waiting_unit, waiting_both, IsHandedOut}

pub all_at : {A : Type 0} (P : A → Type 0) (xs : List A) → All P xs → (x : A) → Among x xs → P x
all_at P [] a x m = absurd m
all_at P (y ∷ ys) a x (inl e) = subst P e (a 0 y (omega arith))
all_at P (y ∷ ys) a x (inr m) = all_at P ys (λ k f lt. a (suc k) f (omega arith)) x m

-- ---- one unit more

-- a unit of a new name makes one more, by name
pub one_more : (nodes : List Node) (x : Node) → IsUnknown (by_name nodes) x.digest → HasOneMore (by_name nodes) (by_name (nodes ++ x ∷ [])) x
one_more nodes x unknown = record {
  part = by_name_more nodes (x ∷ []);
  new = there (same_named (nodes ++ x ∷ []) x (from_right x nodes (x ∷ []) (inl refl)));
  was_not = λ m. unknown x m refl;
  no_other = λ y m. elim (by_name_append nodes (x ∷ []) y m) [
    | inl old ↦ inl old
    | inr here ↦ elim here [ inl e ↦ inr (sym e) | inr none ↦ absurd none ]
  ];
}
  where
    there : (y : Node) × Among y (by_name (nodes ++ x ∷ [])) × (y.digest ≡ x.digest) → Among x (by_name (nodes ++ x ∷ []))
    there y = elim (by_name_append nodes (x ∷ []) y.0 y.1) [
      | inl old ↦ absurd (unknown y.0 old y.2)
      | inr here ↦ elim here [ inl e ↦ subst (λ (z : Node). Among z (by_name (nodes ++ x ∷ []))) (sym e) y.1 | inr none ↦ absurd none ]
    ]

pub graph_is : (s : NodeState) → graph s.dag ≡ by_name (admitted_in s)
unfolding by_name_of
graph_is s = refl

append_nothing : (us : List SettledUnit) → us ≡ us ++ []
append_nothing [] = refl
append_nothing (u ∷ us) = ap (λ (vs : List SettledUnit). u ∷ vs) (append_nothing us)

append_both : (us vs ws : List SettledUnit) → (us ++ vs) ++ ws ≡ us ++ (vs ++ ws)
append_both [] vs ws = refl
append_both (u ∷ us) vs ws = ap (λ (xs : List SettledUnit). u ∷ xs) (append_both us vs ws)

pub grows_itself : (dag : UnitGraph) → GrowsTo dag dag
grows_itself dag = record { validators_are = refl; more = []; units_are = append_nothing dag.units }

pub grows_then : (dag between later : UnitGraph) → GrowsTo dag between → GrowsTo between later → GrowsTo dag later
grows_then dag between later first second = record {
  validators_are = second.validators_are ∙ first.validators_are;
  more = first.more ++ second.more;
  units_are = second.units_are ∙ ap (λ (us : List SettledUnit). us ++ second.more) first.units_are ∙ append_both dag.units first.more second.more;
}

-- more room
pub grows_roomy : (s later : NodeState) → HasMoreRoom s later → GrowsTo s.dag later.dag
grows_roomy s later more = subst (λ (t : NodeState). GrowsTo s.dag t.dag) (sym more.unchanged) (record { validators_are = refl; more = []; units_are = append_nothing s.dag.units })

-- one unit more
pub grows_one : (weights : List ℕ) (dag : UnitGraph) (p : PreparedUnit) (later : UnitGraph) → IsAdmitted weights dag p later → GrowsTo dag later
grows_one weights dag p later admitted = subst (λ (d : UnitGraph). GrowsTo dag d) (sym admitted.grown) (record { validators_are = refl; more = settled_from dag p admitted.fork ∷ []; units_are = refl })

known_same : (s later : NodeState) → KnowsTheSame s later → known_in later ≡ known_in s
known_same s later same = λ i. record { units = []; with_evidence = filter (is_marked (same.marked i)) (range_with_len 0 (length (same.marked i))); endorsements = same.pairs i }

module _ (s later : NodeState) (p : PreparedUnit) (waiting : List (Waiting PreparedUnit)) (can : CanSettle s waiting) (due : IsDue s waiting p) (admitted : IsAdmitted s.config.weights s.dag p later.dag)
    (room : later.spare + 1 ≡ s.spare) (same : KnowsTheSame s later) where
  abbrev x : Node
  x = node_prepared p

  pub admitted_is : admitted_in later ≡ admitted_in s ++ x ∷ []
  admitted_is = ap (λ (d : UnitGraph). map node_of d.units) admitted.grown ∙ map-append node_of s.dag.units (settled_from s.dag p admitted.fork ∷ [])

  abbrev more : List Node
  more = graph later.dag

  one : HasOneMore (graph s.dag) more x
  one = subst₂ (λ (units all : List Node). HasOneMore units all x) (sym (graph_is s)) (sym (graph_is later ∙ ap (λ (ns : List Node). by_name ns) admitted_is))
      (one_more (admitted_in s) x (subst (λ (units : List Node). IsUnknown units p.digest) (graph_is s) due.unknown))

  faulty_known : (v : ℕ) → is_faulty (known_in s) more v ≡ is_faulty_in later.marked more v
  faulty_known v = sym (ap (λ (f : ℕ → Bool). f v) (faulty_same s.marked more)) ∙ ap (λ (marked : List Bool). is_faulty_in marked more v) (sym same.marked)

  carried : (ws : List (Waiting PreparedUnit)) → AreWaiting s.config (known_in s) more ws → AreWaiting later.config (known_in later) more ws
  carried ws are = subst₂ (λ (c : Config) (k : Received). AreWaiting c k more ws) (sym same.config) (sym (known_same s later same)) are

  pub can_good : is_faulty_in later.marked more x.unit.creator ≡ false → CanSettle later (struck (need.Unit p.digest) waiting)
  can_good good = record {
    room = let long = length_struck (need.Unit p.digest) waiting in let fits = due.room in omega arith;
    are = carried _ (waiting_unit s.config (known_in s) (graph s.dag) more x one waiting can.are due.unawaited (faulty_known x.unit.creator ∙ good));
  }

  pub can_bad : is_faulty_in later.marked more x.unit.creator ≡ true → CanSettle later (struck (need.Evidence x.unit.creator) (struck (need.Unit p.digest) waiting))
  can_bad bad = record {
    room = let long = length_struck (need.Evidence x.unit.creator) (struck (need.Unit p.digest) waiting) in let less = length_struck (need.Unit p.digest) waiting in let fits = due.room in omega arith;
    are = carried _ (waiting_both s.config (known_in s) (graph s.dag) more x one waiting can.are due.unawaited (faulty_known x.unit.creator ∙ bad));
  }

-- ---- one that is due

-- only its name and its signed unit count
pub due_same : (s : NodeState) (waiting : List (Waiting PreparedUnit)) (p q : PreparedUnit) → q.signed ≡ p.signed → q.digest ≡ p.digest → IsDue s waiting p → IsDue s waiting q
due_same s waiting p q signed digest due = record {
  room = due.room;
  met = subst₂ (λ (u : SignedUnit) (d : Digest). missing_of s.config (known_in s) (graph s.dag) (record { digest = d; unit = u.unit }) ≡ []) (sym signed) (sym digest) due.met;
  local = subst (λ (u : SignedUnit). KeepsLocalRules s.config u.unit) (sym signed) due.local;
  unknown = subst (λ (d : Digest). IsUnknown (graph s.dag) d) (sym digest) due.unknown;
  unawaited = subst (λ (d : Digest). IsUnawaited d waiting) (sym digest) due.unawaited;
}

module _ (s : NodeState) (waiting : List (Waiting PreparedUnit)) (p : PreparedUnit) (due : IsDue s waiting p) where
  pub due_known : AllKnown (graph s.dag) p.signed.unit.panorama
  due_known = cited_met s.config (known_in s) (graph s.dag) (node_prepared p) due.met

  pub due_new : IsGraph s.dag → IsNew s.dag p.digest
  due_new g n lt e = due.unknown (node_at s.dag n) (node_among s.dag g n lt) e

  pub due_marks : MarksAreMet s.marked (graph s.dag) p.signed.unit.panorama
  due_marks v t = ap (λ (f : ℕ → Bool). f v) (faulty_same s.marked (graph s.dag)) ∙ marked_met s.config (known_in s) (graph s.dag) (node_prepared p) due.met v t

  pub due_creator : p.signed.unit.creator < length s.config.weights
  due_creator = (fits s.config p due.local).creator_is

-- ---- one that was handed out

module _ (s : NodeState) (waiting left : List (Waiting PreparedUnit)) (p : PreparedUnit) (can : CanSettle s waiting) (out : IsHandedOut waiting left p) where
  awaited : Awaits s.config (known_in s) (graph s.dag) out.from
  awaited = can.are.each out.from out.was

  pub is_due : IsDue s left p
  is_due = record {
    room = let fewer = out.fewer in let room = can.room in omega arith;
    met = ap (λ (q : PreparedUnit). missing_of s.config (known_in s) (graph s.dag) (node_prepared q)) (sym out.item_is) ∙ sym awaited.needs_are ∙ out.ready;
    local = subst (λ (q : PreparedUnit). KeepsLocalRules s.config q.signed.unit) out.item_is awaited.local;
    unknown = subst (λ (q : PreparedUnit). IsUnknown (graph s.dag) q.digest) out.item_is awaited.unknown;
    unawaited = out.unawaited;
  }

  pub can_left : CanSettle s left
  can_left = record {
    room = let fewer = out.fewer in let room = can.room in omega arith;
    are = record { each = λ w m. can.are.each w (out.rest w m); apart = out.apart };
  }

  pub out_among : Among (node_prepared p) (waiting_nodes waiting)
  out_among = subst (λ (q : PreparedUnit). Among (node_prepared q) (waiting_nodes waiting)) out.item_is (among_map (λ w. node_prepared w.item) out.from waiting out.was)

  pub left_within : (y : Node) → Among y (waiting_nodes left) → Among y (waiting_nodes waiting)
  left_within y m = let w = map_among (λ w. node_prepared w.item) y left m in subst (λ (z : Node). Among z (waiting_nodes waiting)) w.2 (among_map (λ w. node_prepared w.item) w.0 waiting (out.rest w.0 w.1))

  pub waiting_split : waiting_nodes waiting ≡ waiting_nodes out.before ++ node_prepared p ∷ waiting_nodes out.after
  waiting_split =
      ap (λ (ws : List (Waiting PreparedUnit)). waiting_nodes ws) out.waiting_is ∙ map-append (λ (w : Waiting PreparedUnit). node_prepared w.item) out.before (out.from ∷ out.after)
      ∙ ap (λ (q : PreparedUnit). waiting_nodes out.before ++ node_prepared q ∷ waiting_nodes out.after) out.item_is

  pub left_split : waiting_nodes left ≡ waiting_nodes out.before ++ waiting_nodes out.after
  left_split = ap (λ (ws : List (Waiting PreparedUnit)). waiting_nodes ws) out.left_is ∙ map-append (λ (w : Waiting PreparedUnit). node_prepared w.item) out.before out.after

  -- those before it miss something
  pub miss_before : AllMiss s.config (known_in s) (admitted_in s) (waiting_nodes out.before)
  miss_before y m e =
      let w = map_among (λ w. node_prepared w.item) y out.before m in
      let was : Among w.0 waiting = subst (λ (ws : List (Waiting PreparedUnit)). Among w.0 ws) (sym out.waiting_is) (from_left w.0 out.before (out.from ∷ out.after) w.1) in
      out.first w.0 w.1 ((can.are.each w.0 was).needs_are ∙ ap (λ (units : List Node). missing_of s.config (known_in s) units (node_prepared w.0.item)) (graph_is s)
      ∙ ap (λ (z : Node). missing_of s.config (known_in s) (by_name (admitted_in s)) z) w.2 ∙ e)

  -- and no settled unit has its name
  pub unknown_yet : IsUnknown (admitted_in s) p.digest
  unknown_yet y m e =
      let z = same_named (admitted_in s) y m in
      is_due.unknown z.0 (subst (λ (units : List Node). Among z.0 units) (sym (graph_is s)) z.1) (z.2 ∙ e)

  pub left_part : IsPart (waiting_nodes left) (waiting_nodes waiting)
  left_part = part_map (λ (w : Waiting PreparedUnit). node_prepared w.item) left waiting out.order

  pub out_or_left : (y : Node) → Among y (waiting_nodes waiting) → (y ≡ node_prepared p) ⊎ Among y (waiting_nodes left)
  out_or_left y m =
      let w = map_among (λ w. node_prepared w.item) y waiting m in
      elim (out.others w.0 w.1) [
        | inl e ↦ inl (sym w.2 ∙ ap (λ (v : Waiting PreparedUnit). node_prepared v.item) (sym e) ∙ ap node_prepared out.item_is)
        | inr n ↦ inr (subst (λ (z : Node). Among z (waiting_nodes left)) w.2 (among_map (λ w. node_prepared w.item) w.0 left n))
      ]

-- ---- a run of settlements

same_then : (s t later : NodeState) → KnowsTheSame s t → KnowsTheSame t later → KnowsTheSame s later
same_then s t later first second = record { config = second.config ∙ first.config; grows = grows_then s.dag t.dag later.dag first.grows second.grows; marked = second.marked ∙ first.marked; pairs = second.pairs ∙ first.pairs }

pub settled_none : (s : NodeState) (waiting : List (Waiting PreparedUnit)) → HasSettled s waiting s waiting
settled_none s waiting = record {
  same = record { config = refl; grows = grows_itself s.dag; marked = refl; pairs = refl };
  turns = TakesTurns.begin;
  run = Admits.begin;
  still = part_self (waiting_nodes waiting);
  placed = λ x m. inr (inl m);
}

module _ (s : NodeState) (start : List (Waiting PreparedUnit)) (t : NodeState) (waiting left : List (Waiting PreparedUnit)) (p : PreparedUnit) (so_far : HasSettled s start t waiting) (can : CanSettle t waiting)
    (out : IsHandedOut waiting left p) where
  abbrev y : Node
  y = node_prepared p

  pub from_start : Among y (waiting_nodes start)
  from_start = part_among y (waiting_nodes waiting) (waiting_nodes start) so_far.still (out_among t waiting left p can out)

  missing_then : missing_of s.config (known_in s) (by_name (admitted_in t)) y ≡ []
  missing_then = subst₂ (λ (c : Config) (k : Received). missing_of c k (by_name (admitted_in t)) y ≡ []) so_far.same.config (known_same s t so_far.same)
      (subst (λ (units : List Node). missing_of t.config (known_in t) units y ≡ []) (graph_is t) (is_due t waiting left p can out).met)

  rule_then : (r : Option Rule) → state_rule t.config (graph t.dag) y ≡ r → state_rule s.config (by_name (admitted_in t)) y ≡ r
  rule_then r e = subst₂ (λ (c : Config) (units : List Node). state_rule c units y ≡ r) so_far.same.config (graph_is t) e

  -- the run so far, with the unit that is judged now in its place
  turns_here : TakesTurns s.config (known_in s) (admitted_in s) (waiting_nodes start) (admitted_in t) (waiting_nodes out.before ++ y ∷ waiting_nodes out.after)
  turns_here = subst (λ (ns : List Node). TakesTurns s.config (known_in s) (admitted_in s) (waiting_nodes start) (admitted_in t) ns) (waiting_split t waiting left p can out) so_far.turns

  miss_here : AllMiss s.config (known_in s) (admitted_in t) (waiting_nodes out.before)
  miss_here = subst₂ (λ (c : Config) (k : Received). AllMiss c k (admitted_in t) (waiting_nodes out.before)) so_far.same.config (known_same s t so_far.same) (miss_before t waiting left p can out)

  settles_here : state_rule t.config (graph t.dag) y ≡ None → settles s.config (known_in s) (by_name (admitted_in t)) y ≡ true
  settles_here kept = and_whole _ _ (ap (λ (ns : List Need). length ns == 0) missing_then) (ap (λ (o : Option Rule). is_none o) (rule_then None kept))

  -- it settled
  pub settled_kept : (later : NodeState) (after : List (Waiting PreparedUnit)) → state_rule t.config (graph t.dag) y ≡ None → KnowsTheSame t later → admitted_in later ≡ admitted_in t ++ y ∷ []
      → waiting_nodes after ≡ waiting_nodes left → HasSettled s start later after
  settled_kept later after kept same admitted nodes = record {
    same = same_then s t later so_far.same same;
    turns = subst₂ (λ (ns ws : List Node). TakesTurns s.config (known_in s) (admitted_in s) (waiting_nodes start) ns ws) (sym admitted) (sym (nodes ∙ left_split t waiting left p can out))
        (TakesTurns.settle y (admitted_in t) (waiting_nodes out.before) (waiting_nodes out.after) turns_here miss_here (unknown_yet t waiting left p can out) (settles_here kept));
    run = subst (λ (ns : List Node). Admits s.config (known_in s) (waiting_nodes start) (admitted_in s) ns) (sym admitted)
        (Admits.admit y (admitted_in t) so_far.run from_start (settles_here kept));
    still = part_then (waiting_nodes after) (waiting_nodes waiting) (waiting_nodes start) (subst (λ (ns : List Node). IsPart ns (waiting_nodes waiting)) (sym nodes) (left_part t waiting left p can out)) so_far.still;
    placed = λ x m. elim (so_far.placed x m) [
      | inl there ↦ inl (subst (λ (ns : List Node). Among x ns) (sym admitted) (from_left x (admitted_in t) (y ∷ []) there))
      | inr rest ↦ elim rest [
        | inl waits ↦ elim (out_or_left t waiting left p can out x waits) [
          | inl e ↦ inl (subst (λ (ns : List Node). Among x ns) (sym admitted) (from_right x (admitted_in t) (y ∷ []) (inl (sym e))))
          | inr n ↦ inr (inl (subst (λ (ns : List Node). Among x ns) (sym nodes) n))
        ]
        | inr gone ↦ inr (inr gone)
      ]
    ];
  }

  pub dropped_here : (rule : Rule) → state_rule t.config (graph t.dag) y ≡ Some rule → IsDropped s.config (known_in s) (waiting_nodes start) (admitted_in s) y rule
  dropped_here rule broken = record { found = admitted_in t; run = so_far.run; met = missing_then; broken = rule_then (Some rule) broken }

  -- it was dropped
  pub settled_dropped : (later : NodeState) (after : List (Waiting PreparedUnit)) (rule : Rule) → state_rule t.config (graph t.dag) y ≡ Some rule → later ≡ t → after ≡ left → HasSettled s start later after
  settled_dropped later after rule broken e f = subst₂ (λ (l : NodeState) (ws : List (Waiting PreparedUnit)). HasSettled s start l ws) (sym e) (sym f) record {
    same = so_far.same;
    turns = subst (λ (ws : List Node). TakesTurns s.config (known_in s) (admitted_in s) (waiting_nodes start) (admitted_in t) ws) (sym (left_split t waiting left p can out))
        (TakesTurns.drop y rule (admitted_in t) (waiting_nodes out.before) (waiting_nodes out.after) turns_here miss_here missing_then (rule_then (Some rule) broken));
    run = so_far.run;
    still = part_then (waiting_nodes left) (waiting_nodes waiting) (waiting_nodes start) (left_part t waiting left p can out) so_far.still;
    placed = λ x m. elim (so_far.placed x m) [
      | inl there ↦ inl there
      | inr rest ↦ elim rest [
        | inl waits ↦ elim (out_or_left t waiting left p can out x waits) [
          | inl g ↦ inr (inr (
            rule,
            subst (λ (z : Node). IsDropped s.config (known_in s) (waiting_nodes start) (admitted_in s) z rule) (sym g) (dropped_here rule broken),
          ))
          | inr n ↦ inr (inl n)
        ]
        | inr gone ↦ inr (inr gone)
      ]
    ];
  }

  -- it settled or was dropped
  pub settled_either : {U : Type 0} (r : Result U Rule) (later : NodeState) (after : List (Waiting PreparedUnit)) → OnOk r (state_rule t.config (graph t.dag) y ≡ None)
      → OnOk r (admitted_in later ≡ admitted_in t ++ y ∷ []) → IfErr r (λ rule. state_rule t.config (graph t.dag) y ≡ Some rule) → OnErr r (later ≡ t) → OnErr r (after ≡ left)
      → KnowsTheSame t later → waiting_nodes after ≡ waiting_nodes left → HasSettled s start later after
  settled_either (Ok u) later after kept admitted broken stays unstruck same nodes = settled_kept later after kept same admitted nodes
  settled_either (Err rule) later after kept admitted broken stays unstruck same nodes = settled_dropped later after rule broken stays unstruck

-- ---- one run after the other

run_within : (config : Config) (known : Received) (some from start found : List Node) → ((x : Node) → Among x some → Among x from) → Admits config known some start found → Admits config known from start found
run_within config known some from start found part Admits.begin = Admits.begin
run_within config known some from start found part (Admits.admit y before run m t) = Admits.admit y before (run_within config known some from start before part run) (part y m) t

run_then : (config : Config) (known : Received) (from start between found : List Node) → Admits config known from start between → Admits config known from between found → Admits config known from start found
run_then config known from start between found first Admits.begin = first
run_then config known from start between found first (Admits.admit y before run m t) = Admits.admit y before (run_then config known from start between before first run) m t

pub run_keeps : (config : Config) (known : Received) (from start found : List Node) → Admits config known from start found → (x : Node) → Among x start → Among x found
run_keeps config known from start found Admits.begin x m = m
run_keeps config known from start found (Admits.admit y before run n t) x m = from_left x before (y ∷ []) (run_keeps config known from start before run x m)

module _ (s t u : NodeState) (waiting between left : List (Waiting PreparedUnit)) (first : HasSettled s waiting t between) (second : HasSettled t between u left) where
  carried_on : (found : List Node) → Admits t.config (known_in t) (waiting_nodes between) (admitted_in t) found → Admits s.config (known_in s) (waiting_nodes waiting) (admitted_in s) found
  carried_on found run = run_then s.config (known_in s) (waiting_nodes waiting) (admitted_in s) (admitted_in t) found first.run
      (run_within s.config (known_in s) (waiting_nodes between) (waiting_nodes waiting) (admitted_in t) found (λ x m. part_among x (waiting_nodes between) (waiting_nodes waiting) first.still m)
      (subst₂ (λ (c : Config) (k : Received). Admits c k (waiting_nodes between) (admitted_in t) found) first.same.config (known_same s t first.same) run))

  pub dropped_on : (x : Node) (rule : Rule) → IsDropped t.config (known_in t) (waiting_nodes between) (admitted_in t) x rule → IsDropped s.config (known_in s) (waiting_nodes waiting) (admitted_in s) x rule
  dropped_on x rule gone = record {
    found = gone.found;
    run = carried_on gone.found gone.run;
    met = subst₂ (λ (c : Config) (k : Received). missing_of c k (by_name gone.found) x ≡ []) first.same.config (known_same s t first.same) gone.met;
    broken = subst (λ (c : Config). state_rule c (by_name gone.found) x ≡ Some rule) first.same.config gone.broken;
  }

  pub settled_then : HasSettled s waiting u left
  settled_then = record {
    same = same_then s t u first.same second.same;
    turns = turns_then s.config (known_in s) (admitted_in s) (waiting_nodes waiting) (admitted_in t) (waiting_nodes between) (admitted_in u) (waiting_nodes left) first.turns
        (subst₂ (λ (c : Config) (k : Received). TakesTurns c k (admitted_in t) (waiting_nodes between) (admitted_in u) (waiting_nodes left)) first.same.config (known_same s t first.same) second.turns);
    run = carried_on (admitted_in u) second.run;
    still = part_then (waiting_nodes left) (waiting_nodes between) (waiting_nodes waiting) second.still first.still;
    placed = λ x m. elim (first.placed x m) [
      | inl there ↦ inl (run_keeps t.config (known_in t) (waiting_nodes between) (admitted_in t) (admitted_in u) second.run x there)
      | inr rest ↦ elim rest [
        | inl waits ↦ elim (second.placed x waits) [
          | inl there ↦ inl there
          | inr later ↦ elim later [ inl still ↦ inr (inl still) | inr gone ↦ inr (inr (gone.0, dropped_on x gone.0 gone.1)) ]
        ]
        | inr gone ↦ inr (inr gone)
      ]
    ];
  }

-- ---- a new one that misses nothing

module _ (s : NodeState) (waiting : List (Waiting PreparedUnit)) (p : PreparedUnit) (can : CanSettle s waiting) (due : IsDue s waiting p) where
  abbrev fresh : Waiting PreparedUnit
  fresh = record { needs = []; item = p }

  apart_last : (ws : List (Waiting PreparedUnit)) → AreApart ws → IsUnawaited p.digest ws → AreApart (ws ++ fresh ∷ [])
  apart_last [] apart un = (λ w m. absurd m, tt)
  apart_last (w ∷ ws) apart un = (
    λ v m. elim (append_cases v ws (fresh ∷ []) m) [
      | inl old ↦ apart.0 v old
      | inr new ↦ elim new [ inl e ↦ (λ d. un w (inl refl) (sym d ∙ ap (λ (x : Waiting PreparedUnit). x.item.digest) (sym e))) | inr none ↦ absurd none ]
    ],
    apart_last ws apart.1 (λ v m. un v (inr m)),
  )

  pub can_fresh : CanSettle s (waiting ++ fresh ∷ [])
  can_fresh = record {
    room = let long = length-append waiting (fresh ∷ []) in let fits = due.room in omega arith;
    are = record {
      each = λ w m. elim (append_cases w waiting (fresh ∷ []) m) [
        | inl old ↦ can.are.each w old
        | inr new ↦ elim new [ inl e ↦ subst (λ (x : Waiting PreparedUnit). Awaits s.config (known_in s) (graph s.dag) x) e (record { needs_are = sym due.met; local = due.local; unknown = due.unknown }) | inr none ↦ absurd none ]
      ];
      apart = apart_last waiting can.are.apart due.unawaited;
    };
  }

  pub out_fresh : All (λ w. w.needs ≢ []) waiting → IsHandedOut (waiting ++ fresh ∷ []) waiting p
  out_fresh none = record {
    from = fresh;
    was = from_right fresh waiting (fresh ∷ []) (inl refl);
    item_is = refl;
    ready = refl;
    rest = λ w m. from_left w waiting (fresh ∷ []) m;
    others = λ w m. elim (append_cases w waiting (fresh ∷ []) m) [ inl old ↦ inr old | inr new ↦ elim new [ inl e ↦ inl e | inr none ↦ absurd none ] ];
    unawaited = due.unawaited;
    apart = can.are.apart;
    fewer = let long = length-append waiting (fresh ∷ []) in omega arith;
    order = part_more waiting waiting (fresh ∷ []) (part_self waiting);
    before = waiting;
    after = [];
    waiting_is = refl;
    left_is = sym (append-nil waiting);
    first = λ w m. all_at (λ w. w.needs ≢ []) waiting none w m;
  }
