-- Until the next moment a step stays what it is.
use Rattle.std.proofs.Common.{◌≡◌, ◌⊎◌, ℕ, ◌+◌, ◌*◌, ◌-◌, ◌/◌, ◌^◌, ◌<◌, ◌≤◌, inl, inr, Bool, true, false, cond, not, List, [], ◌∷◌, length, Option, Some, None, refl, sym, ap, subst, ◌∙◌, arith, div-mul-le_self}
use Rattle.std.specs.Prelude.{◌&&◌, ◌||◌, ◌==◌, nat_lt, nat_le, max, fold, filter, if◌then◌else◌}
use Rattle.std.specs.List.{list_any}
use Rattle.std.proofs.lemmas.Bool.{cases_lt, lt-ltb, le-leb, le-ltb}
use Rattle.std.proofs.lemmas.Nat.{pow_pos, shr-shr, le-div, div_below}
use Rattle.hw_types.specs.declared.answers.Plan.{Plan}
use Rattle.hw_types.specs.declared.answers.PlanKind.{PlanKind}
use Rattle.hw_types.specs.declared.answers.PlanKind.TheVariants.{Propose, Confirm, Witness}
use Rattle.hw_types.specs.declared.config.Config.{Config}
use Rattle.hw_types.specs.declared.unit.Obs.{Obs}
use Rattle.hw_types.specs.declared.unit.Obs.TheVariants as obs
use Rattle.hw_types.specs.Graph.{Node, slot, observed, latest, cites, past, is_faulty_mark, is_correct}
use Rattle.hw_types.specs.Below.{Among}
use Rattle.hw_types.specs.Journal.{Setting}
use Rattle.hw_types.specs.Real.{CoreState, setting_of, received_in, settled_in, panorama_in}
use Rattle.hw_types.specs.Rounds.{round_id, witness_time, changes_lawfully, leader_of}
use Rattle.hw_types.specs.Rules.{has_naive_fork}
use Rattle.hw_types.specs.Settled.{Received, validators}
use Rattle.hw_types.specs.Step.{join_from, joining, cited_units, list_of, is_fit, joined_where_fit, first_base, chosen_panorama, is_earlier, lane_units_in, may_not_step, confirms, plan, is_at_end, is_propose, is_confirm, is_witness, step_in, step}
use Rattle.hw_types.proofs.ClosureLaws.{Among-filter}
use Rattle.hw_types.proofs.StableLaws.{all_same}
use Rattle.hw_types.proofs.WordsLaws.{find_node_is}
use Rattle.hw_dag.specs.declared.numbers.View.{View}
use Rattle.hw_dag.specs.Dag.{UnitGraph, graph, node_at, view_at, obs_of, observations, IsPanorama}
use Rattle.hw_dag.specs.Admission.{IsGraph}
use Rattle.hw_dag.proofs.NodeLaws.{among_node, node_among}
use Rattle.hw_dag.proofs.SlotLaws.{slot_of}
use Rattle.hw_validator.specs.Choice.{node_seen}
use Rattle.hw_validator.specs.Step.{is_for_nothing, time_of}
use Rattle.hw_validator.proofs.LaneLaws.{seen_is}
use Rattle.hw_validator.proofs.NodeStepLaws.{for_nothing, node_stopped, node_kind}
use Rattle.hw_validator.proofs.RisingLaws.{not_le}
use Rattle.hw_validator.proofs.StepLaws.{time_in_round}
use Rattle.hw_c.specs.declared.due.Moment.{Moment}
use Rattle.hw_c.specs.Due.{kind_of, round_in, is_early, leads_in, own_in, has_spoken, awaits_leader, end_in, end_of, part_of, IsFree, IsTime, IsNext, IsLeast, MayTurn, IsMomentOf, IsViewOf, why_by, is_held_by, why_over, why_in}
use Rattle.hw_c.specs.Steps.{step_in as step_of_core}

-- ---- numbers

le_not_lt : (a b : ℕ) → nat_le b a ≡ not (nat_lt a b)
le_not_lt a b = elim (cases_lt a b) [
  | inl lt ↦ not_le b a lt ∙ ap not (sym (lt-ltb a b lt))
  | inr ge ↦ le-leb b a ge ∙ ap not (sym (le-ltb a b ge))
]

lt_not_le : (a b : ℕ) → nat_lt a b ≡ not (nat_le b a)
lt_not_le a b = elim (cases_lt a b) [
  | inl lt ↦ lt-ltb a b lt ∙ ap not (sym (not_le b a lt))
  | inr ge ↦ le-ltb a b ge ∙ ap not (sym (le-leb b a ge))
]

two_thirds : (n : ℕ) → 2 * n / 3 ≤ n
two_thirds n = let less = div_below (2 * n) 3 (n + 1) (omega arith) (omega arith) in omega arith

-- ---- the part of a round

module _ (config : Config) (now : ℕ) where
  abbrev round : ℕ
  round = round_id now config.min_exponent

  abbrev witness : ℕ
  witness = witness_time round config.min_exponent

  round_begins : round ≤ now
  round_begins = div-mul-le_self now (2 ^ config.min_exponent)

  next_round : now < round + 2 ^ config.min_exponent
  next_round = elim (cases_lt now (round + 2 ^ config.min_exponent)) [
    | inl lt ↦ lt
    | inr ge ↦ (let more = le-div (now / 2 ^ config.min_exponent + 1) now (2 ^ config.min_exponent) (pow_pos config.min_exponent) (omega arith) in absurd (omega arith))
  ]

  -- a part of a round ends after its moments
  pub ends_later : now < end_of config now
  ends_later = elim (cases_lt now witness) [
    | inl lt ↦ subst (λ (b : Bool). now < cond b witness (round + 2 ^ config.min_exponent)) (sym (lt-ltb now witness lt)) lt
    | inr ge ↦ subst (λ (b : Bool). now < cond b witness (round + 2 ^ config.min_exponent)) (sym (le-ltb now witness ge)) next_round
  ]

  ends_with_round : end_of config now ≤ round + 2 ^ config.min_exponent
  ends_with_round = go (nat_lt now witness)
    where
      go : (b : Bool) → cond b witness (round + 2 ^ config.min_exponent) ≤ round + 2 ^ config.min_exponent
      go true = let less = two_thirds (2 ^ config.min_exponent) in omega arith
      go false = omega arith

  module _ (t : ℕ) (after : now ≤ t) (before : t < end_of config now) where
    same_quotient : t / 2 ^ config.min_exponent ≡ now / 2 ^ config.min_exponent
    same_quotient =
        let low = le-div (now / 2 ^ config.min_exponent) t (2 ^ config.min_exponent) (pow_pos config.min_exponent) (let begins = round_begins in omega arith) in
        let high = div_below t (2 ^ config.min_exponent) (now / 2 ^ config.min_exponent + 1) (pow_pos config.min_exponent) (let ends = ends_with_round in omega arith) in
        omega arith

    same_round : round_id t config.min_exponent ≡ round
    same_round = ap (λ n. n * 2 ^ config.min_exponent) same_quotient

    same_side : nat_lt t witness ≡ nat_lt now witness
    same_side = elim (cases_lt now witness) [
      | inl lt ↦ lt-ltb t witness (subst (λ (b : Bool). t < cond b witness (round + 2 ^ config.min_exponent)) (lt-ltb now witness lt) before) ∙ sym (lt-ltb now witness lt)
      | inr ge ↦ le-ltb t witness (omega arith) ∙ sym (le-ltb now witness ge)
    ]

    same_late : nat_le witness t ≡ nat_le witness now
    same_late = le_not_lt t witness ∙ ap not same_side ∙ sym (le_not_lt now witness)

-- ---- two times that no test of a step tells apart

record AreAlike (units : List Node) (exponent a b : ℕ) : Type 0 where
  quotient : a / 2 ^ exponent ≡ b / 2 ^ exponent
  same : (w : Node) → Among w units → nat_le w.unit.time a ≡ nat_le w.unit.time b

longer_quotient : (a b e k : ℕ) → e ≤ k → a / 2 ^ e ≡ b / 2 ^ e → a / 2 ^ k ≡ b / 2 ^ k
longer_quotient a b e k le h =
    let split : k ≡ e + (k - e) = omega arith in
    ap (λ n. a / 2 ^ n) split ∙ sym (shr-shr a e (k - e)) ∙ ap (λ q. q / 2 ^ (k - e)) h ∙ shr-shr b e (k - e) ∙ ap (λ n. b / 2 ^ n) (sym split)

changes_alike : (before before_exponent a b e : ℕ) → a / 2 ^ e ≡ b / 2 ^ e → changes_lawfully before before_exponent a e ≡ changes_lawfully before before_exponent b e
changes_alike before before_exponent a b e h =
    ap (λ q. (before_exponent == e) || nat_lt (before / 2 ^ max before_exponent e) q) (longer_quotient a b e (max before_exponent e) (omega arith) h)

module _ (s : Setting) (received : Received) (units : List Node) (a b : ℕ) (alike : AreAlike units s.config.min_exponent a b) where
  fit_alike : (panorama : List Obs) → is_fit s received units a panorama ≡ is_fit s received units b panorama
  unfolding is_fit
  fit_alike panorama = ap (λ (timely : Bool). timely && nat_le (length (list_of s received units panorama)) 256 && not (has_naive_fork (past units panorama) (list_of s received units panorama)))
      (all_same (λ w. nat_le w.unit.time a) (λ w. nat_le w.unit.time b) (cited_units units panorama) (λ w m. alike.same w (Among-filter (cites panorama) w units m).0))

  joined_alike : (state base : List Obs) (v : ℕ) → joined_where_fit s received units a state base v ≡ joined_where_fit s received units b state base v
  joined_alike state base v =
      let both = join_from units base (joining units v state) in
      ap (λ (fits : Bool). if fits then both else base) (fit_alike both)

  all_joined_alike : (state base : List Obs) (vs : List ℕ) → fold (joined_where_fit s received units a state) base vs ≡ fold (joined_where_fit s received units b state) base vs
  all_joined_alike state base [] = refl
  all_joined_alike state base (v ∷ vs) =
      ap (λ (os : List Obs). fold (joined_where_fit s received units a state) os vs) (joined_alike state base v)
      ∙ all_joined_alike state (joined_where_fit s received units b state base v) vs

  chosen_alike : (me : ℕ) (state : List Obs) (own : Option Node) → chosen_panorama s received units a me state own ≡ chosen_panorama s received units b me state own
  unfolding chosen_panorama
  chosen_alike me state own =
      let others = filter (λ v. not (v == me)) (validators s.config) in
      ap (λ (fits : Bool). if fits then state else fold (joined_where_fit s received units a state) (first_base s own) others) (fit_alike state)
      ∙ ap (λ (os : List Obs). if is_fit s received units b state then state else os) (all_joined_alike state (first_base s own) others)

  stops_alike : (own_slot : Obs) (own : Option Node) → ((p : Node) → own ≡ Some p → Among p units) → (begin : ℕ) → may_not_step units own_slot own a begin s.config.min_exponent ≡ may_not_step units own_slot own b begin s.config.min_exponent
  stops_alike own_slot None there begin = refl
  stops_alike own_slot (Some p) there begin =
      let e = s.config.min_exponent in
      let earlier : nat_lt a p.unit.time ≡ nat_lt b p.unit.time = lt_not_le a p.unit.time ∙ ap not (alike.same p (there p refl)) ∙ sym (lt_not_le b p.unit.time) in
      ap (λ (x : Bool). is_faulty_mark own_slot || (x || nat_le 2 (lane_units_in units p begin e) || not (changes_lawfully p.unit.time p.unit.exponent a e))) earlier
      ∙ ap (λ (x : Bool). is_faulty_mark own_slot || (nat_lt b p.unit.time || nat_le 2 (lane_units_in units p begin e) || not x)) (changes_alike p.unit.time p.unit.exponent a b e alike.quotient)

-- the unit of a slot is one of the units
latest_among : (units : List Node) (o : Obs) (p : Node) → observed units o ≡ Some p → Among p units
latest_among units o p = go o
  where
    go : (o : Obs) → observed units o ≡ Some p → Among p units
    go obs.Absent e = absurd cc
    go (obs.Correct d) e = (find_node_is units p d e).0
    go obs.Faulty e = absurd cc

-- ---- what a step is for

module _ (s : Setting) (received : Received) (units : List Node) (state : List Obs) (me : ℕ) where
  abbrev own : Option Node
  own = latest units state me

  abbrev kind_by : Bool → Bool → Bool → ℕ → List Obs → ℕ
  kind_by stops early late round panorama =
      cond stops 3
      (cond (early && is_earlier own round && (me == leader_of s.config round) && not (is_at_end s units panorama)) 0
      (cond (early && is_earlier own round && not (me == leader_of s.config round) && confirms units state panorama (leader_of s.config round) round) 1
      (cond (late && is_earlier own (witness_time round s.config.min_exponent) && list_any is_correct panorama) 2 3)))

  abbrev stops_at : ℕ → ℕ → Bool
  stops_at time round = may_not_step units (slot state me) own time round s.config.min_exponent

  abbrev chosen_at : ℕ → List Obs
  chosen_at time = chosen_panorama s received units time me state own

  abbrev kind_at : ℕ → Bool → Bool → ℕ → ℕ
  kind_at round early late time = kind_by (stops_at time round) early late round (chosen_at time)

  abbrev time_at : ℕ → Bool → ℕ → ℕ
  time_at round early now = if (me == leader_of s.config round) && early then round else now

  module _ (now : ℕ) (value : List ℕ) where
    abbrev made : ℕ → Option (List ℕ) → PlanKind → Plan
    made time v kind = plan s received units kind me time (chosen_at time) own v

    kind_cases : (time : ℕ) (stops proposes confirms_it witnesses : Bool)
        → kind_of (cond stops None (cond proposes (Some (made time (Some value) Propose)) (cond confirms_it (Some (made time None Confirm)) (cond witnesses (Some (made time None Witness)) None))))
        ≡ cond stops 3 (cond proposes 0 (cond confirms_it 1 (cond witnesses 2 3)))
    kind_cases time true p c w = refl
    kind_cases time false true c w = refl
    kind_cases time false false true w = refl
    kind_cases time false false false true = refl
    kind_cases time false false false false = refl

    kind_is : kind_of (step_in s received units state me now value)
        ≡ (let round = round_id now s.config.min_exponent in let witness = witness_time round s.config.min_exponent in kind_at round (nat_lt now witness) (nat_le witness now) (time_at round (nat_lt now witness) now))
    unfolding step_in
    kind_is =
        let round = round_id now s.config.min_exponent in
        let time = time_at round (nat_lt now (witness_time round s.config.min_exponent)) now in
        kind_cases time (stops_at time round) (is_propose s units (chosen_at time) own me now) (is_confirm s units state (chosen_at time) own me now) (is_witness s (chosen_at time) own now)

  kind_alike : (a b round : ℕ) (early late : Bool) → AreAlike units s.config.min_exponent a b → kind_at round early late a ≡ kind_at round early late b
  kind_alike a b round early late alike =
      ap (λ (stops : Bool). kind_by stops early late round (chosen_at a)) (stops_alike s received units a b alike (slot state me) own (λ p e. latest_among units (slot state me) p e) round)
      ∙ ap (λ (os : List Obs). kind_by (stops_at b round) early late round os) (chosen_alike s received units a b alike me state own)

  -- Within a part of the round, and where no unit's time goes by, a step is for the same.
  module _ (now t : ℕ) (after : now ≤ t) (before : t < end_of s.config now) (free : (w : Node) → Among w units → now < w.unit.time → t < w.unit.time) where
    abbrev begin : ℕ
    begin = round_id now s.config.min_exponent

    abbrev early : Bool
    early = nat_lt now (witness_time begin s.config.min_exponent)

    abbrev late : Bool
    late = nat_le (witness_time begin s.config.min_exponent) now

    none_passed : (w : Node) → Among w units → nat_le w.unit.time t ≡ nat_le w.unit.time now
    none_passed w m = elim (cases_lt now w.unit.time) [
      | inl lt ↦ not_le w.unit.time t (free w m lt) ∙ sym (not_le w.unit.time now lt)
      | inr ge ↦ le-leb w.unit.time t (omega arith) ∙ sym (le-leb w.unit.time now ge)
    ]

    times_alike : AreAlike units s.config.min_exponent (time_at begin early t) (time_at begin early now)
    times_alike = go ((me == leader_of s.config begin) && early)
      where
        go : (b : Bool) → AreAlike units s.config.min_exponent (cond b begin t) (cond b begin now)
        go true = record { quotient = refl; same = λ w m. refl }
        go false = record { quotient = same_quotient s.config now t after before; same = none_passed }

    kind_stays : (value later_value : List ℕ) → kind_of (step_in s received units state me t later_value) ≡ kind_of (step_in s received units state me now value)
    kind_stays value later_value =
        let e = s.config.min_exponent in
        kind_is t later_value
        ∙ ap (λ (r : ℕ). kind_at r (nat_lt t (witness_time r e)) (nat_le (witness_time r e) t) (time_at r (nat_lt t (witness_time r e)) t)) (same_round s.config now t after before)
        ∙ ap (λ (b : Bool). kind_at begin b (nat_le (witness_time begin e) t) (time_at begin b t)) (same_side s.config now t after before)
        ∙ ap (λ (b : Bool). kind_at begin early b (time_at begin early t)) (same_late s.config now t after before)
        ∙ kind_alike (time_at begin early t) (time_at begin early now) begin early late times_alike
        ∙ sym (kind_is now value)

-- ---- over a graph in numbers

module _ (config : Config) (dag : UnitGraph) (g : IsGraph dag) (seen : List View) (is : IsPanorama dag seen) (me : ℕ) (received : Received) where
  abbrev made_at : ℕ → List ℕ → Option Plan
  made_at t value = step_in (setting_of config) received (graph dag) (observations dag seen) me t value

  abbrev own_view : View
  own_view = view_at seen me

  abbrev unit_time : ℕ → ℕ
  unit_time t = time_of config (me == leader_of config (round_id t config.min_exponent)) t

  abbrev stopped_at : ℕ → Bool
  stopped_at time = may_not_step (graph dag) (obs_of dag own_view) (node_seen dag own_view) time (round_id time config.min_exponent) config.min_exponent

  abbrev chosen_for : ℕ → List Obs
  chosen_for time = chosen_panorama (setting_of config) received (graph dag) time me (observations dag seen) (node_seen dag own_view)

  -- a unit that is for nothing isn't made
  none_made : (t : ℕ) (value : List ℕ) → is_for_nothing dag config seen me t ≡ true → kind_of (made_at t value) ≡ 3
  none_made t value h = go (stopped_at (unit_time t)) refl
    where
      go : (b : Bool) → stopped_at (unit_time t) ≡ b → kind_of (made_at t value) ≡ 3
      go true e = ap kind_of (sym (node_stopped config dag g seen is me t received value own_view (unit_time t) refl refl e))
      go false e = ap kind_of (sym (node_kind config dag g seen is me t received value own_view (unit_time t) (chosen_for (unit_time t)) None refl refl e refl (for_nothing config dag g seen is me t h (chosen_for (unit_time t)))))

  abbrev nothing_by : ℕ → Bool → Bool
  nothing_by round early =
      let own = node_seen dag (view_at seen me) in
      let leader = leader_of config round in
      if early then not (is_earlier own round) || (not (me == leader) && is_earlier (node_seen dag (view_at seen leader)) round) else not (is_earlier own (witness_time round config.min_exponent))

  nothing_stays : (now t : ℕ) → now ≤ t → t < end_of config now → is_for_nothing dag config seen me t ≡ is_for_nothing dag config seen me now
  nothing_stays now t after before =
      ap (λ (r : ℕ). nothing_by r (nat_lt t (witness_time r config.min_exponent))) (same_round config now t after before)
      ∙ ap (λ (b : Bool). nothing_by (round_id now config.min_exponent) b) (same_side config now t after before)

  free_units : (now next t : ℕ) → IsFree dag now next → t < next → (w : Node) → Among w (graph dag) → now < w.unit.time → t < w.unit.time
  free_units now next t free before w m =
      let k = among_node dag w m in
      subst (λ (y : Node). now < y.unit.time → t < y.unit.time) k.2 (λ later. let stop = free k.0 k.1 later in omega arith)

  stays : (now next : ℕ) → IsNext dag config seen me now next → (value later_value : List ℕ) (t : ℕ) → now ≤ t → t < next → kind_of (made_at t later_value) ≡ kind_of (made_at now value)
  stays now next n value later_value t after before =
      let inside : t < end_of config now = let end = n.within in omega arith in
      elim n.quiet [
        | inl nothing ↦ none_made t later_value (nothing_stays now t after inside ∙ nothing) ∙ sym (none_made now value nothing)
        | inr free ↦ kind_stays (setting_of config) received (graph dag) (observations dag seen) me now t after inside (free_units now next t free before) value later_value
      ]

-- ---- after a journal

module _ (core : CoreState) (dag : UnitGraph) (config : Config) (seen : List View) (of : IsViewOf core dag config seen) where
  made_is : (me now : ℕ) (value : List ℕ) → step_in (setting_of config) (received_in core) (graph dag) (observations dag seen) me now value ≡ step_of_core core me now value
  unfolding step
  made_is me now value =
      ap (λ (k : Config). step_in (setting_of k) (received_in core) (graph dag) (observations dag seen) me now value) of.config_is
      ∙ ap (λ (us : List Node). step_in (setting_of core.config) (received_in core) us (observations dag seen) me now value) of.settled
      ∙ ap (λ (os : List Obs). step_in (setting_of core.config) (received_in core) (settled_in core) os me now value) of.panorama

  -- until the next moment the same is due
  pub due_stays : (me now next : ℕ) → IsNext dag config seen me now next → (value later_value : List ℕ) (t : ℕ) → now ≤ t → t < next → kind_of (step_of_core core me t later_value) ≡ kind_of (step_of_core core me now value)
  due_stays me now next n value later_value t after before =
      ap kind_of (sym (made_is me t later_value))
      ∙ stays config dag of.graph_is seen of.panorama_is me (received_in core) now next n value later_value t after before
      ∙ ap kind_of (made_is me now value)

  slot_is : (v : ℕ) → obs_of dag (view_at seen v) ≡ slot (panorama_in core) v
  slot_is v = sym (slot_of dag seen v) ∙ ap (λ (os : List Obs). slot os v) of.panorama

  last_is : (v : ℕ) → node_seen dag (view_at seen v) ≡ latest (settled_in core) (panorama_in core) v
  last_is v =
      sym (seen_is dag of.graph_is (view_at seen v) (λ number e. of.panorama_is.known v number e))
      ∙ ap (λ (us : List Node). observed us (obs_of dag (view_at seen v))) of.settled
      ∙ ap (observed (settled_in core)) (slot_is v)

  -- ---- the next moment is the first at which another answer is possible

  abbrev idle_by : ℕ → ℕ → Config → Option Node → Option Node → Bool
  idle_by me now k own lead =
      let round = round_id now k.min_exponent in
      let witness = witness_time round k.min_exponent in
      if nat_lt now witness then not (is_earlier own round) || (not (me == leader_of k round) && is_earlier lead round) else not (is_earlier own witness)

  nothing_is : (me now : ℕ) → is_for_nothing dag config seen me now ≡ (has_spoken core me now || awaits_leader core me now)
  nothing_is me now =
      ap (λ (p : Option Node). idle_by me now config p (node_seen dag (view_at seen (leader_of config (round_id now config.min_exponent))))) (last_is me)
      ∙ ap (λ (p : Option Node). idle_by me now config (own_in core me) p) (last_is (leader_of config (round_id now config.min_exponent)))
      ∙ ap (λ (k : Config). idle_by me now k (own_in core me) (own_in core (leader_of k (round_id now k.min_exponent)))) of.config_is
      ∙ go (is_early core now)
    where
      or_none : (b : Bool) → b ≡ (b || false)
      or_none true = refl
      or_none false = refl

      round : ℕ
      round = round_in core now

      witness : ℕ
      witness = witness_time round core.config.min_exponent

      lead : Bool
      lead = is_earlier (own_in core (leader_of core.config round)) round

      go : (early : Bool) → cond early (not (is_earlier (own_in core me) round) || (not (leads_in core me now) && lead)) (not (is_earlier (own_in core me) witness))
          ≡ (not (is_earlier (own_in core me) (cond early round witness)) || (early && not (leads_in core me now) && lead))
      go true = refl
      go false = or_none (not (is_earlier (own_in core me) witness))

  end_is : (now : ℕ) → end_of config now ≡ end_in core now
  end_is now = ap (λ (k : Config). end_of k now) of.config_is

  pub first_turn : (me now next : ℕ) → IsNext dag config seen me now next → IsLeast (MayTurn core me now) next
  first_turn me now next n = (turns n.is, least)
    where
      turns : (next ≡ end_of config now) ⊎ ((is_for_nothing dag config seen me now ≡ false) × IsTime dag next) → MayTurn core me now next
      turns (inl end) = inl (end ∙ end_is now)
      turns (inr (some, time)) = inr (
        sym (nothing_is me now) ∙ some,
        (node_at dag time.0, subst (λ (us : List Node). Among (node_at dag time.0) us) of.settled (node_among dag of.graph_is time.0 time.1), subst (λ (t : ℕ). now < t) (sym time.2) n.later, time.2),
      )

      free_unit : IsFree dag now next → (u : Node) → Among u (graph dag) → now < u.unit.time → next ≤ u.unit.time
      free_unit free u there =
          let k = among_node dag u there in
          subst (λ (y : Node). now < y.unit.time → next ≤ y.unit.time) k.2 (free k.0 k.1)

      within : (is_for_nothing dag config seen me now ≡ false) → (is_for_nothing dag config seen me now ≡ true) ⊎ IsFree dag now next → IsFree dag now next
      within some (inl none) = absurd (cc (sym none ∙ some))
      within some (inr free) = free

      least : (m : ℕ) → MayTurn core me now m → next ≤ m
      least m (inl end) = let same = end_is now in let inside = n.within in omega arith
      least m (inr (some, (u, there, later, is))) =
          let free = free_unit (within (nothing_is me now ∙ some) n.quiet) u (subst (λ (us : List Node). Among u us) (sym of.settled) there) later in
          omega arith

  module _ (me now : ℕ) where
    abbrev leads : Config → Bool
    leads k = (me == leader_of k (round_id now k.min_exponent))

    abbrev reason_by : Config → List Node → Obs → Option Node → ℕ → ℕ
    reason_by k us o p r =
        why_by (is_faulty_mark o) (not (is_earlier p (part_of k now)) || may_not_step us o p (time_of k (leads k) now) r k.min_exponent)
        (nat_lt now (witness_time (round_id now k.min_exponent) k.min_exponent)) (leads k)

    abbrev unit_round : ℕ
    unit_round = round_id (time_of config (leads config) now) config.min_exponent

    -- why nothing is due
    pub why_is : why_over dag config seen me now ≡ why_in core me now
    why_is =
        ap (λ (o : Obs). reason_by config (graph dag) o (node_seen dag (view_at seen me)) unit_round) (slot_is me)
        ∙ ap (λ (p : Option Node). reason_by config (graph dag) (slot (panorama_in core) me) p unit_round) (last_is me)
        ∙ ap (λ (us : List Node). reason_by config us (slot (panorama_in core) me) (latest (settled_in core) (panorama_in core) me) unit_round) of.settled
        ∙ ap (λ (r : ℕ). reason_by config (settled_in core) (slot (panorama_in core) me) (latest (settled_in core) (panorama_in core) me) r) (time_in_round (leads config) config now)
        ∙ ap (λ (k : Config). reason_by k (settled_in core) (slot (panorama_in core) me) (latest (settled_in core) (panorama_in core) me) (round_id now k.min_exponent)) of.config_is

-- ---- a moment as it is found

module _ (config : Config) (m : Moment) (of : IsMomentOf config m) where
  pub moment_begins : m.round ≤ m.at
  moment_begins = subst (λ (r : ℕ). r ≤ m.at) (sym of.round_is) (round_begins config m.at)

  abbrev ended_by : ℕ → ℕ → ℕ
  ended_by round witness = if nat_lt m.at witness then witness else round + 2 ^ config.min_exponent

  pub moment_ends : ended_by m.round m.witness ≡ end_of config m.at
  moment_ends = ap (ended_by m.round) of.witness_is ∙ ap (λ (r : ℕ). ended_by r (witness_time r config.min_exponent)) of.round_is

  pub moment_ends_later : (end : ℕ) → end ≡ ended_by m.round m.witness → m.at < end
  moment_ends_later end is = subst (λ (n : ℕ). m.at < n) (sym (is ∙ moment_ends)) (ends_later config m.at)

  module _ (dag : UnitGraph) (seen : List View) (me : ℕ) where
    abbrev part_by : ℕ → ℕ → ℕ
    part_by round witness = if nat_lt m.at witness then round else witness

    abbrev time_by : ℕ → ℕ → ℕ → ℕ
    time_by leader round witness = if (me == leader) && nat_lt m.at witness then round else m.at

    abbrev reason : View → ℕ → ℕ → ℕ → ℕ
    reason own leader round witness = why_by (is_faulty_mark (obs_of dag own)) (is_held_by dag config own (part_by round witness) (time_by leader round witness)) (nat_lt m.at witness) (me == leader)

    pub why_found : (own : View) (part time : ℕ) (faulty held early : Bool) → own ≡ view_at seen me → part ≡ part_by m.round m.witness → time ≡ time_by m.leader m.round m.witness
        → faulty ≡ is_faulty_mark (obs_of dag own) → held ≡ is_held_by dag config own part time → early ≡ nat_lt m.at m.witness → why_by faulty held early (me == m.leader) ≡ why_over dag config seen me m.at
    why_found own part time faulty held early eo ep et ef eh ee =
        ap (λ (b : Bool). why_by b held early (me == m.leader)) ef
        ∙ ap (λ (b : Bool). why_by (is_faulty_mark (obs_of dag own)) b early (me == m.leader)) eh
        ∙ ap (λ (n : ℕ). why_by (is_faulty_mark (obs_of dag own)) (is_held_by dag config own n time) early (me == m.leader)) ep
        ∙ ap (λ (n : ℕ). why_by (is_faulty_mark (obs_of dag own)) (is_held_by dag config own (part_by m.round m.witness) n) early (me == m.leader)) et
        ∙ ap (λ (b : Bool). why_by (is_faulty_mark (obs_of dag own)) (is_held_by dag config own (part_by m.round m.witness) (time_by m.leader m.round m.witness)) b (me == m.leader)) ee
        ∙ ap (λ (w : View). reason w m.leader m.round m.witness) eo
        ∙ ap (λ (l : ℕ). reason (view_at seen me) l m.round m.witness) of.leader_is
        ∙ ap (λ (w : ℕ). reason (view_at seen me) (leader_of config m.round) m.round w) of.witness_is
        ∙ ap (λ (r : ℕ). reason (view_at seen me) (leader_of config r) r (witness_time r config.min_exponent)) of.round_is
