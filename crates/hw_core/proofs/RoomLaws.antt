-- How many units there are, settled or waiting.
use Rattle.std.proofs.Common.{◌⊎◌, inl, inr, ◌+◌, ◌≤◌, List, [], ◌∷◌, ◌++◌, length, map, refl, sym, ap, subst, ◌∙◌, arith}
use Rattle.std.proofs.lemmas.List.{length-append, length-map}
use Rattle.hw_types.specs.declared.unit.Digest.{Digest}
use Rattle.hw_types.specs.declared.config.Config.{Config}
use Rattle.hw_types.specs.Graph.{Node}
use Rattle.hw_types.specs.Below.{Among}
use Rattle.hw_types.specs.Settled.{Received}
use Rattle.hw_types.specs.laws.StateLaws.{Admits}
use Rattle.hw_types.proofs.EntryLaws.{map_among, among_map, append_cases, by_name_in, same_named}
use Rattle.hw_types.proofs.UnionLaws.{from_left, from_right}
use Rattle.hw_dag.specs.Dag.{graph}
use Rattle.hw_dag.specs.Admission.{PreparedUnit, node_prepared}
use Rattle.hw_dag.proofs.NodeLaws.{graph_rising}
use Rattle.hw_admit.specs.State.{NodeState}
use Rattle.hw_park.specs.Parked.{Waiting}
use Rattle.hw_core.specs.Settle.{known_in, admitted_in, waiting_nodes, AreApart, CanSettle, HasSettled}
use Rattle.hw_core.proofs.DroppedLaws.{AreDifferent, no_more, rising_names}
use Rattle.hw_core.proofs.SettleLaws.{graph_is}
use Rattle.hw_core.proofs.WaitLaws.{length_nodes}
use Rattle.hw_core.proofs.PartLaws.{part_among}

-- what a run has is from its start or from the candidates
run_from : (config : Config) (known : Received) (from start found : List Node) → Admits config known from start found → (x : Node) → Among x found → Among x start ⊎ Among x from
run_from config known from start found Admits.begin x m = inl m
run_from config known from start found (Admits.admit y before run m t) x n = elim (append_cases x before (y ∷ []) n) [
  | inl old ↦ run_from config known from start before run x old
  | inr new ↦ elim new [ inl e ↦ inr (subst (λ (z : Node). Among z from) e m) | inr none ↦ absurd none ]
]

abbrev names_of : List Node → List Digest
names_of xs = map (λ (x : Node). x.digest) xs

waiting_names : (ws : List (Waiting PreparedUnit)) → AreApart ws → AreDifferent (names_of (waiting_nodes ws))
waiting_names [] apart = tt
waiting_names (w ∷ ws) apart = (
  λ m. (let y = map_among (λ (x : Node). x.digest) w.item.digest (waiting_nodes ws) m in
      let v = map_among (λ (z : Waiting PreparedUnit). node_prepared z.item) y.0 ws y.1 in
      apart.0 v.0 v.1 (ap (λ (x : Node). x.digest) v.2 ∙ y.2)),
  waiting_names ws apart.1,
)

different_both : (ds es : List Digest) → AreDifferent ds → AreDifferent es → ((d : Digest) → Among d ds → Among d es → ⊥) → AreDifferent (ds ++ es)
different_both [] es first second never = second
different_both (d ∷ ds) es first second never = (
  λ m. elim (append_cases d ds es m) [ inl h ↦ first.0 h | inr h ↦ never d (inl refl) h ],
  different_both ds es first.1 second (λ e m n. never e (inr m) n),
)

-- No more units are settled or wait than did before.
pub settled_room : (s : NodeState) (waiting : List (Waiting PreparedUnit)) (later : NodeState) (left : List (Waiting PreparedUnit)) → CanSettle later left → HasSettled s waiting later left
    → length (graph later.dag) + length left ≤ length (graph s.dag) + length waiting
settled_room s waiting later left can h =
    let most = no_more (names_of (graph later.dag) ++ names_of (waiting_nodes left)) (names_of (graph s.dag) ++ names_of (waiting_nodes waiting)) apart inside in
    let a = length-append (names_of (graph later.dag)) (names_of (waiting_nodes left)) in
    let b = length-append (names_of (graph s.dag)) (names_of (waiting_nodes waiting)) in
    let c = length-map (graph later.dag) (λ (x : Node). x.digest) in
    let d = length-map (waiting_nodes left) (λ (x : Node). x.digest) in
    let e = length-map (graph s.dag) (λ (x : Node). x.digest) in
    let f = length-map (waiting_nodes waiting) (λ (x : Node). x.digest) in
    let g = length_nodes left in
    let i = length_nodes waiting in
    omega arith
  where
    never : (d : Digest) → Among d (names_of (graph later.dag)) → Among d (names_of (waiting_nodes left)) → ⊥
    never d m n =
        let x = map_among (λ (z : Node). z.digest) d (graph later.dag) m in
        let y = map_among (λ (z : Node). z.digest) d (waiting_nodes left) n in
        let w = map_among (λ (z : Waiting PreparedUnit). node_prepared z.item) y.0 left y.1 in
        (can.are.each w.0 w.1).unknown x.0 x.1 (x.2 ∙ sym y.2 ∙ sym (ap (λ (z : Node). z.digest) w.2))

    apart : AreDifferent (names_of (graph later.dag) ++ names_of (waiting_nodes left))
    apart = different_both (names_of (graph later.dag)) (names_of (waiting_nodes left)) (rising_names (graph later.dag) (graph_rising later.dag)) (waiting_names left can.are.apart) never

    settled : (x : Node) → Among x (graph later.dag) → Among x.digest (names_of (graph s.dag) ++ names_of (waiting_nodes waiting))
    settled x m = elim (run_from s.config (known_in s) (waiting_nodes waiting) (admitted_in s) (admitted_in later) h.run x (by_name_in (admitted_in later) x (subst (λ (xs : List Node). Among x xs) (graph_is later) m))) [
      | inl old ↦
          (let y = same_named (admitted_in s) x old in
          from_left x.digest (names_of (graph s.dag)) (names_of (waiting_nodes waiting))
          (subst (λ (d : Digest). Among d (names_of (graph s.dag))) y.2 (among_map (λ (z : Node). z.digest) y.0 (graph s.dag) (subst (λ (xs : List Node). Among y.0 xs) (sym (graph_is s)) y.1))))
      | inr new ↦ from_right x.digest (names_of (graph s.dag)) (names_of (waiting_nodes waiting)) (among_map (λ (z : Node). z.digest) x (waiting_nodes waiting) new)
    ]

    inside : (d : Digest) → Among d (names_of (graph later.dag) ++ names_of (waiting_nodes left)) → Among d (names_of (graph s.dag) ++ names_of (waiting_nodes waiting))
    inside d m = elim (append_cases d (names_of (graph later.dag)) (names_of (waiting_nodes left)) m) [
      | inl n ↦ (let x = map_among (λ (z : Node). z.digest) d (graph later.dag) n in subst (λ (e : Digest). Among e (names_of (graph s.dag) ++ names_of (waiting_nodes waiting))) x.2 (settled x.0 x.1))
      | inr n ↦
          (let x = map_among (λ (z : Node). z.digest) d (waiting_nodes left) n in
          subst (λ (e : Digest). Among e (names_of (graph s.dag) ++ names_of (waiting_nodes waiting))) x.2
          (from_right x.0.digest (names_of (graph s.dag)) (names_of (waiting_nodes waiting)) (among_map (λ (z : Node). z.digest) x.0 (waiting_nodes waiting) (part_among x.0 (waiting_nodes left) (waiting_nodes waiting) h.still x.1))))
    ]
