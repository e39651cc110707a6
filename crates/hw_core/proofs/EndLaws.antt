-- Where settling ends.
use Rattle.std.proofs.Common.{◌≡◌, ◌≢◌, ◌⊎◌, inl, inr, ℕ, Bool, true, false, not, List, [], ◌∷◌, ◌++◌, length, Option, Some, None, refl, sym, ap, subst, ◌∙◌, arith, All, eqb-true, eq-eqb}
use Rattle.std.proofs.lemmas.List.Elements.{filter_map-append}
use Rattle.std.specs.Prelude.{◌&&◌, ◌||◌, ◌==◌, is_none}
use Rattle.hw_types.specs.declared.unit.Digest.{Digest}
use Rattle.hw_types.specs.declared.unit.Need.{Need}
use Rattle.hw_types.specs.declared.unit.Need.TheVariants as need
use Rattle.hw_types.specs.declared.unit.Vertex.{Vertex}
use Rattle.hw_types.specs.declared.answers.Rule.{Rule}
use Rattle.hw_types.specs.declared.config.Config.{Config}
use Rattle.hw_types.specs.Graph.{Node, digest_eq}
use Rattle.hw_types.specs.Below.{Among}
use Rattle.hw_types.specs.ByName.{by_name, IsRising}
use Rattle.hw_types.specs.Rules.{state_rule}
use Rattle.hw_types.specs.Settled.{Received, equivocates, is_endorsed, is_need_met, needs_of, missing_of, settles, settled_of, parked_of, dropped_of}
use Rattle.hw_types.specs.laws.StateLaws.{Admits, LeadsToSettled, NamesApart, units_in, candidates}
use Rattle.hw_types.specs.Journal.{Setting, unit_of_vertex, received_of, answer, is_accepted}
use Rattle.hw_types.proofs.ClosureLaws.{Within}
use Rattle.hw_types.proofs.StableLaws.{and_parts}
use Rattle.hw_types.proofs.WordsLaws.{either}
use Rattle.hw_types.proofs.JournalLaws.{filter_alike, received_rising, longer_extends}
use Rattle.hw_types.proofs.EntryLaws.{map_among, append_cases, by_name_in, same_named}
use Rattle.hw_types.proofs.UnionLaws.{from_left, from_right}
use Rattle.hw_types.proofs.GraphLaws.{rising_one_name}
use Rattle.hw_types.proofs.SettledLaws.{digest_self}
use Rattle.hw_types.proofs.LawfulLaws.{settled_admits}
use Rattle.hw_types.proofs.OrderLaws.{Accepted, accepted, in_known}
use Rattle.hw_types.proofs.StepLaws.{parked_has, parked_is, dropped_has, dropped_is, is_split, new_known, accepted_step, accepted_leads}
use Rattle.hw_types.proofs.GrowsLaws.{received_grows}
use Rattle.hw_dag.specs.Admission.{PreparedUnit, node_prepared}
use Rattle.hw_admit.specs.State.{NodeState, is_marked}
use Rattle.hw_admit.proofs.FaultyLaws.{faulty_same}
use Rattle.hw_park.specs.Parked.{Waiting}
use Rattle.hw_core.specs.Order.{settle_more, settling_order}
use Rattle.hw_core.specs.Settle.{known_in, admitted_in, waiting_nodes, CanSettle, IsDropped, TakesTurns, HasSettled, HasNoted, rule_in}
use Rattle.hw_core.specs.Keeps.{KnowsOf, IsOf, HasTaken, AreRules}
use Rattle.hw_core.proofs.PartLaws.{part_among, part_then, part_length}
pub use Rattle.hw_core.proofs.SettleLaws.{all_at}
use Rattle.hw_core.proofs.SettleLaws.{graph_is}
use Rattle.hw_core.proofs.TurnLaws.{Judging, turns_end, order_more, listed_most}

-- ---- what the state knows is what was received

module _ (config : Config) (received : Received) (s : NodeState) (knows : KnowsOf received s) where
  pub same_endorsed : (d : Digest) → is_endorsed config (known_in s) d ≡ is_endorsed config received d
  unfolding is_endorsed
  same_endorsed d = ap (λ ps. is_endorsed config (record { units = []; with_evidence = []; endorsements = ps }) d) knows.endorsements

  pub same_met : (units : List Node) (n : Need) → is_need_met config (known_in s) units n ≡ is_need_met config received units n
  same_met units (need.Unit d) = refl
  same_met units (need.Evidence v) = sym (ap (λ (f : ℕ → Bool). f v) (faulty_same s.marked units)) ∙ ap (λ (b : Bool). b || equivocates units v) (knows.evidence v)
  same_met units (need.Endorsed d) = same_endorsed d

  pub same_missing : (units : List Node) (u : Node) → missing_of config (known_in s) units u ≡ missing_of config received units u
  unfolding missing_of
  same_missing units u = filter_alike (λ n. not (is_need_met config (known_in s) units n)) (λ n. not (is_need_met config received units n)) (needs_of u) (λ n. ap not (same_met units n))

  same_settles : (units : List Node) (u : Node) → settles config (known_in s) units u ≡ settles config received units u
  same_settles units u = ap (λ (ns : List Need). (length ns == 0) && is_none (state_rule config units u)) (same_missing units u)

  pub carried_run : (from some start found : List Node) → Within some from → Admits config (known_in s) some start found → Admits config received from start found
  carried_run from some start found part Admits.begin = Admits.begin
  carried_run from some start found part (Admits.admit x before run m t) = Admits.admit x before (carried_run from some start before part run) (part x m) (sym (same_settles (by_name before) x) ∙ t)

-- ---- the end

module _ (s : Setting) (journal : List Vertex) (v : Vertex) (verdict : Bool) (state later : NodeState) (waiting left : List (Waiting PreparedUnit)) (apart : NamesApart (units_in s journal))
    (ok : is_accepted (answer s journal v verdict) ≡ true) (taken : HasTaken s journal v state waiting) (h : HasSettled state waiting later left) (can : CanSettle later left) (none : All (λ w. w.needs ≢ []) left) where
  abbrev k : Received
  k = received_of s journal

  abbrev l : Received
  l = received_of s (journal ++ v ∷ [])

  abbrev was : Accepted s journal v
  was = accepted s journal v verdict ok

  abbrev found : List Node
  found = admitted_in later

  start_is : by_name (admitted_in state) ≡ settled_of s.config k
  start_is = sym (graph_is state) ∙ taken.settled

  run_of : (moment : List Node) → Admits state.config (known_in state) (waiting_nodes waiting) (admitted_in state) moment → Admits s.config l (candidates s journal v) (admitted_in state) moment
  run_of moment run = carried_run s.config l state taken.knows (candidates s journal v) (waiting_nodes waiting) (admitted_in state) moment taken.waits.to
      (subst (λ (c : Config). Admits c (known_in state) (waiting_nodes waiting) (admitted_in state) moment) taken.config run)

  leads : (moment : List Node) → Admits state.config (known_in state) (waiting_nodes waiting) (admitted_in state) moment → LeadsToSettled s.config l (candidates s journal v) moment
  leads moment run = accepted_leads s journal v apart was (admitted_in state) moment start_is (run_of moment run)

  knows_later : KnowsOf l later
  knows_later = record {
    evidence = λ w. ap (λ (marked : List Bool). is_marked marked w) h.same.marked ∙ taken.knows.evidence w;
    endorsements = h.same.pairs ∙ taken.knows.endorsements;
  }

  config_later : later.config ≡ s.config
  config_later = h.same.config ∙ taken.config

  -- what still waits misses something
  misses : (x : Node) → Among x (waiting_nodes left) → missing_of s.config l (by_name found) x ≢ []
  misses x m e =
      let w = map_among (λ w. node_prepared w.item) x left m in
      let needs : w.0.needs ≡ missing_of s.config l (by_name found) x =
      (can.are.each w.0 w.1).needs_are
      ∙ ap (λ (units : List Node). missing_of later.config (known_in later) units (node_prepared w.0.item)) (graph_is later)
      ∙ ap (λ (c : Config). missing_of c (known_in later) (by_name found) (node_prepared w.0.item)) config_later
      ∙ same_missing s.config l later knows_later (by_name found) (node_prepared w.0.item)
      ∙ ap (λ (u : Node). missing_of s.config l (by_name found) u) w.2 in
      all_at (λ (w : Waiting PreparedUnit). w.needs ≢ []) left none w.0 w.1 (needs ∙ e)

  no_needs : (ns : List Need) → (length ns == 0) ≡ true → ns ≡ []
  no_needs [] e = refl
  no_needs (n ∷ ns) e = absurd (let z = eqb-true (length (n ∷ ns)) 0 e in omega arith)

  no_rule : (o : Option Rule) → is_none o ≡ true → o ≡ None
  no_rule None e = refl
  no_rule (Some r) e = absurd cc

  -- what was dropped is ready at last, and breaks the rule
  dropped_at_last : (x : Node) (rule : Rule) → IsDropped state.config (known_in state) (waiting_nodes waiting) (admitted_in state) x rule
      → (length (missing_of s.config l (settled_of s.config l) x) ≡ 0) × (state_rule s.config (settled_of s.config l) x ≡ Some rule)
  dropped_at_last x rule gone =
      let met : missing_of s.config l (by_name gone.found) x ≡ [] = sym (same_missing s.config l state taken.knows (by_name gone.found) x)
      ∙ ap (λ (c : Config). missing_of c (known_in state) (by_name gone.found) x) (sym taken.config) ∙ gone.met in
      let last = (leads gone.found gone.run).judged x (ap (λ (ns : List Need). length ns) met) in
      (last.0, last.1 ∙ ap (λ (c : Config). state_rule c (by_name gone.found) x) (sym taken.config) ∙ gone.broken)

  -- nothing more settles
  all_found : (x : Node) → Among x (candidates s journal v) → settles s.config l (by_name found) x ≡ true → Among x found
  all_found x m t =
      let parts = and_parts (length (missing_of s.config l (by_name found) x) == 0) (is_none (state_rule s.config (by_name found) x)) t in
      elim (h.placed x (taken.waits.back x m)) [
        | inl there ↦ there
        | inr rest ↦ elim rest [
          | inl waits ↦ absurd (misses x waits (no_needs (missing_of s.config l (by_name found) x) parts.0))
          | inr gone ↦ absurd (
              let last = dropped_at_last x gone.0 gone.1 in
              let now = (leads found h.run).judged x (eqb-true (length (missing_of s.config l (by_name found) x)) 0 parts.0) in
              let kept : Some gone.0 ≡ None = sym last.1 ∙ now.1 ∙ no_rule (state_rule s.config (by_name found) x) parts.1 in
              cc)
        ]
      ]

  settled_is : by_name found ≡ settled_of s.config l
  settled_is = (leads found h.run).over all_found

  -- ---- what waits is parked

  known_candidate : (x : Node) → Among x (candidates s journal v) → Among x l.units
  known_candidate x m = elim (append_cases x (parked_of s.config k) (units_in s (v ∷ [])) m) [
    | inl old ↦ (longer_extends s journal (v ∷ [])).units x (parked_is s.config k (received_rising s journal) x old).0
    | inr new ↦ new_known s journal v apart was x new
  ]

  not_ready : (x : Node) → Among x (waiting_nodes left) → (length (missing_of s.config l (settled_of s.config l) x) == 0) ≡ false
  not_ready x m = elim (either (length (missing_of s.config l (settled_of s.config l) x) == 0)) [
    | inl t ↦ absurd (misses x m (ap (λ (units : List Node). missing_of s.config l units x) settled_is ∙ no_needs (missing_of s.config l (settled_of s.config l) x) t))
    | inr f ↦ f
  ]

  to_parked : (x : Node) → Among x (waiting_nodes left) → Among x (parked_of s.config l)
  to_parked x m = parked_has s.config l (received_rising s (journal ++ v ∷ [])) x (known_candidate x (taken.waits.to x (part_among x (waiting_nodes left) (waiting_nodes waiting) h.still m))) (not_ready x m)

  -- a unit that was found is settled, and so isn't parked
  found_settled : (x : Node) → Among x l.units → Among x found → Among x (settled_of s.config l)
  found_settled x known m =
      let y = same_named found x m in
      let there : Among y.0 (settled_of s.config l) = subst (λ (units : List Node). Among y.0 units) settled_is y.1 in
      let inside = (settled_admits s.config l (received_rising s (journal ++ v ∷ [])) y.0 there).0 in
      let same : y.0 ≡ x = rising_one_name l.units (received_rising s (journal ++ v ∷ [])) y.0 x x.digest inside known (digest_named y.0.digest x.digest y.2) (digest_self x.digest) in
      subst (λ (z : Node). Among z (settled_of s.config l)) same there
    where
      digest_named : (d e : Digest) → d ≡ e → digest_eq d e ≡ true
      digest_named d e same = subst (λ (f : Digest). digest_eq d f ≡ true) same (digest_self d)

  from_parked : (x : Node) → Among x (parked_of s.config l) → Among x (waiting_nodes left)
  from_parked x m =
      let is = parked_is s.config l (received_rising s (journal ++ v ∷ [])) x m in
      let candidate : Among x (candidates s journal v) = elim ((accepted_step s journal v apart was).parked x m) [
        | inl old ↦ from_left x (parked_of s.config k) (units_in s (v ∷ [])) old
        | inr new ↦ from_right x (parked_of s.config k) (units_in s (v ∷ [])) new
      ] in
      elim (h.placed x (taken.waits.back x candidate)) [
        | inl there ↦ absurd (is.1 (and_parts _ _ (settled_admits s.config l (received_rising s (journal ++ v ∷ [])) x (found_settled x is.0 there)).1).0)
        | inr rest ↦ elim rest [
          | inl waits ↦ waits
          | inr gone ↦ absurd (is.1 (ap (λ (n : ℕ). n == 0) (dropped_at_last x gone.0 gone.1).0))
        ]
      ]

  -- ---- the rules of what was dropped

  rising_l : IsRising l.units
  rising_l = received_rising s (journal ++ v ∷ [])

  pub rules_ended : (rules noted : List (Digest × Rule)) → AreRules s journal rules → HasNoted state waiting rules later left noted → AreRules s (journal ++ v ∷ []) noted
  rules_ended rules noted are notes = record {
    known = λ d rule e. elim (notes.only d rule e) [
      | inl old ↦
          let x = are.known d rule old in
          let still = (received_grows s.config k l (received_rising s journal) rising_l (longer_extends s journal (v ∷ []))).dropped x.0 x.1 in
          (x.0, still.0, x.2, still.1 ∙ x.3)
      | inr new ↦
          let last = dropped_at_last new.0 rule new.3 in
          (new.0, dropped_has s.config l rising_l new.0 (known_candidate new.0 (taken.waits.to new.0 new.1)) (eq-eqb (length (missing_of s.config l (settled_of s.config l) new.0)) 0 last.0) (ap (λ (o : Option Rule). is_none o) last.1), new.2, last.1)
    ];
    all = λ x m. elim ((accepted_step s journal v apart was).dropped x m) [
      | inl old ↦ (let rule = are.all x old in notes.kept x.digest rule.0 rule.1)
      | inr rest ↦ placed x m (elim rest [ inl parked ↦ from_left x (parked_of s.config k) (units_in s (v ∷ [])) parked | inr fresh ↦ from_right x (parked_of s.config k) (units_in s (v ∷ [])) fresh ])
    ];
  }
    where
      placed : (x : Node) → Among x (dropped_of s.config l) → Among x (candidates s journal v) → (rule : Rule) × (rule_in noted x.digest ≡ Some rule)
      placed x m candidate = elim (notes.placed x (taken.waits.back x candidate)) [
        | inl there ↦ absurd ((is_split s.config l rising_l).settled_dropped x (found_settled x (known_candidate x candidate) there) m)
        | inr rest ↦ elim rest [
          | inl waits ↦ absurd ((is_split s.config l rising_l).parked_dropped x (to_parked x waits) m)
          | inr gone ↦ gone
        ]
      ]

  -- ---- the order in which they settled

  abbrev units : List Node
  units = units_in s (journal ++ v ∷ [])

  leads_now : (moment : List Node) → Admits s.config (known_in state) (waiting_nodes waiting) (admitted_in state) moment → LeadsToSettled s.config l (candidates s journal v) moment
  leads_now moment run = accepted_leads s journal v apart was (admitted_in state) moment start_is (carried_run s.config l state taken.knows (candidates s journal v) (waiting_nodes waiting) (admitted_in state) moment taken.waits.to run)

  -- what settles at some moment breaks no rule at last
  kept_at_last : (y : Node) (moment : List Node) → Admits s.config (known_in state) (waiting_nodes waiting) (admitted_in state) moment → settles s.config l (by_name moment) y ≡ true → state_rule s.config (settled_of s.config l) y ≡ None
  kept_at_last y moment run t =
      let parts = and_parts (length (missing_of s.config l (by_name moment) y) == 0) (is_none (state_rule s.config (by_name moment) y)) t in
      ((leads_now moment run).judged y (eqb-true (length (missing_of s.config l (by_name moment) y)) 0 parts.0)).1 ∙ no_rule (state_rule s.config (by_name moment) y) parts.1

  -- and was not dropped before
  known_or : (y : Node) → Among y units → (moment : List Node) → Admits s.config (known_in state) (waiting_nodes waiting) (admitted_in state) moment → settles s.config l (by_name moment) y ≡ true
      → Among y (admitted_in state) ⊎ Among y (waiting_nodes waiting)
  known_or y m moment run t = elim (append_cases y (units_in s journal) (units_in s (v ∷ [])) (subst (λ (us : List Node). Among y us) (filter_map-append (unit_of_vertex s) journal (v ∷ [])) m)) [
    | inl old ↦ elim ((is_split s.config k (received_rising s journal)).one y (in_known s journal apart y old)) [
      | inl there ↦ inl (by_name_in (admitted_in state) y (subst (λ (us : List Node). Among y us) (sym start_is) there))
      | inr rest ↦ elim rest [
        | inl parked ↦ inr (taken.waits.back y (from_left y (parked_of s.config k) (units_in s (v ∷ [])) parked))
        | inr gone ↦ absurd (
            let still = ((received_grows s.config k l (received_rising s journal) rising_l (longer_extends s journal (v ∷ []))).dropped y gone).0 in
            let broken = (dropped_is s.config l rising_l y still).2 in
            let no : true ≡ false = sym (ap (λ (o : Option Rule). is_none o) (kept_at_last y moment run t)) ∙ broken in
            cc)
      ]
    ]
    | inr new ↦ inr (taken.waits.back y (from_right y (parked_of s.config k) (units_in s (v ∷ [])) new))
  ]

  judging : Judging s.config (known_in state) l units (admitted_in state) (waiting_nodes waiting)
  judging = record {
    once = taken.once;
    part = taken.order;
    same = same_missing s.config l state taken.knows;
    known_or = known_or;
    verdict = λ y moment found rule before run met broken t.
        let met_l : length (missing_of s.config l (by_name moment) y) ≡ 0 = ap (λ (ns : List Need). length ns) (sym (same_missing s.config l state taken.knows (by_name moment) y) ∙ met) in
        let last : Some rule ≡ None = sym (((leads_now moment before).judged y met_l).1 ∙ broken) ∙ kept_at_last y found run t in
        absurd cc;
  }

  in_order_is : found ≡ settling_order s (journal ++ v ∷ [])
  in_order_is =
      let run : TakesTurns s.config (known_in state) (admitted_in state) (waiting_nodes waiting) found (waiting_nodes left) = subst (λ (c : Config). TakesTurns c (known_in state) (admitted_in state) (waiting_nodes waiting) found (waiting_nodes left)) taken.config h.turns in
      let some = part_length (waiting_nodes waiting) units taken.order in
      let most = listed_most s (journal ++ v ∷ []) in
      let end = turns_end s.config (known_in state) l units (admitted_in state) (waiting_nodes waiting) found (waiting_nodes left) (length (journal ++ v ∷ [])) judging run
      (λ y m e. misses y m (sym (same_missing s.config l state taken.knows (by_name found) y) ∙ e)) (omega arith) in
      sym (order_more s journal v ∙ ap (λ (xs : List Node). settle_more (length (journal ++ v ∷ [])) s.config l units xs) (sym taken.in_order) ∙ end)

  pub settling_ended : IsOf s (journal ++ v ∷ []) later left
  settling_ended = record {
    config = config_later;
    settled = graph_is later ∙ settled_is;
    knows = knows_later;
    can = can;
    parked = record { to = to_parked; back = from_parked };
    order = part_then (waiting_nodes left) (waiting_nodes waiting) (units_in s (journal ++ v ∷ [])) h.still taken.order;
    once = taken.once;
    in_order = in_order_is;
  }
