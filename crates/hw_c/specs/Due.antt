-- What a validator has to make at a moment, and until when that stays so.
-- Source: ours.
use Rattle.std.specs.Prelude.{◌≡◌, ◌⊎◌, ℕ, ◌+◌, ◌^◌, ◌<◌, ◌≤◌, Bool, true, false, ◌&&◌, ◌||◌, not, nat_lt, ◌==◌, List, [], length, Option, Some, None, is_some, Result, Ok, Err, if◌then◌else◌}
use Rattle.std.specs.Option.{option_map}
use Rattle.hw_types.specs.declared.answers.Plan.{Plan}
use Rattle.hw_types.specs.declared.answers.PlanKind.TheVariants.{Propose, Confirm, Witness}
use Rattle.hw_types.specs.declared.config.Config.{Config}
use Rattle.hw_types.specs.declared.unit.Digest.{Digest}
use Rattle.hw_types.specs.declared.unit.Obs.{Obs}
use Rattle.hw_types.specs.declared.unit.WireUnit.{WireUnit}
use Rattle.hw_types.specs.Below.{Among}
use Rattle.hw_types.specs.Graph.{Node, latest, slot, is_faulty_mark}
use Rattle.hw_types.specs.Real.{CoreState, settled_in, panorama_in}
use Rattle.hw_types.specs.Rounds.{round_id, witness_time, leader_of}
use Rattle.hw_types.specs.Rules.{state_rule}
use Rattle.hw_types.specs.Spelling.{digest_of}
use Rattle.hw_types.specs.Step.{is_earlier, may_not_step}
use Rattle.hw_types.specs.Votes.{fork_of}
use Rattle.hw_dag.specs.declared.numbers.View.{View}
use Rattle.hw_dag.specs.Dag.{UnitGraph, unit_at, count_of, graph, view_at, obs_of, observations, IsPanorama}
use Rattle.hw_dag.specs.Admission.{AllKnown, IsGraph}
use Rattle.hw_rules.specs.Judged.{KeepsLocalRules}
use Rattle.hw_validator.specs.Choice.{node_seen}
use Rattle.hw_validator.specs.Step.{is_for_nothing, time_of}
use Rattle.hw_c.specs.declared.codes.Fault.{Fault}
use Rattle.hw_c.specs.declared.codes.Fault.TheVariants as fault
use Rattle.hw_c.specs.declared.due.Due.{Due}
use Rattle.hw_c.specs.declared.due.Moment.{Moment}
use Rattle.hw_c.specs.Answers.{flag, plan_number}
use Rattle.hw_c.specs.Calls.{IsWant}
use Rattle.hw_c.specs.Facts.{name_bytes}
use Rattle.hw_c.specs.Steps.{step_in}

-- what a plan is for: 0 a proposal, 1 a confirmation, 2 a witness; 3 where there is none
abbrev pub kind_of : Option Plan → ℕ
kind_of None = 3
kind_of (Some p) = plan_number p.kind

-- the round of the least exponent that a moment lies in
abbrev pub round_in : CoreState → ℕ → ℕ
round_in c now = round_id now c.config.min_exponent

-- the moment is before its round's witness time
abbrev pub is_early : CoreState → ℕ → Bool
is_early c now = nat_lt now (witness_time (round_in c now) c.config.min_exponent)

-- when this part of the round ends: at its witness time, or with the round
abbrev pub end_in : CoreState → ℕ → ℕ
end_in c now = if is_early c now then witness_time (round_in c now) c.config.min_exponent else round_in c now + 2 ^ c.config.min_exponent

-- when this part of the round began: the round itself, or its witness time
abbrev pub part_in : CoreState → ℕ → ℕ
part_in c now = if is_early c now then round_in c now else witness_time (round_in c now) c.config.min_exponent

-- the validator leads the round of the moment
abbrev pub leads_in : CoreState → ℕ → ℕ → Bool
leads_in c me now = me == leader_of c.config (round_in c now)

-- the time of a unit that is made at that moment
abbrev pub time_in : CoreState → ℕ → ℕ → ℕ
time_in c me now = if leads_in c me now && is_early c now then round_in c now else now

-- the validator's last unit
abbrev pub own_in : CoreState → ℕ → Option Node
own_in c me = latest (settled_in c) (panorama_in c) me

-- that unit is in this part of the round, or later
abbrev pub has_spoken : CoreState → ℕ → ℕ → Bool
has_spoken c me now = not (is_earlier (own_in c me) (part_in c now))

-- before the witness time another validator leads, and has no unit in the round
abbrev pub awaits_leader : CoreState → ℕ → ℕ → Bool
awaits_leader c me now = is_early c now && not (leads_in c me now) && is_earlier (own_in c (leader_of c.config (round_in c now))) (round_in c now)

-- its last unit is in this part of the round or later, or allows none to follow it now
abbrev pub is_held : CoreState → ℕ → ℕ → Bool
is_held c me now = has_spoken c me now || may_not_step (settled_in c) (slot (panorama_in c) me) (own_in c me) (time_in c me now) (round_in c now) c.config.min_exponent

-- Why nothing is due: 1 the validator is faulty, 2 its last unit allows none now, 3 the last block of the instance is
-- reached, 4 the leader's block isn't there, 5 there is nothing to cite.
abbrev pub why_in : CoreState → ℕ → ℕ → ℕ
why_in c me now =
    if is_faulty_mark (slot (panorama_in c) me) then 1
    else if is_held c me now then 2
    else if not (is_early c now) then 5
    else if leads_in c me now then 3
    else 4

-- what a unit with this panorama would stand on
abbrev pub parent_over : CoreState → Plan → Option Node
parent_over c p = fork_of c.config.weights (settled_in c) p.unit.panorama

-- the block that a proposal stands on
abbrev pub proposal_parent : CoreState → Option Plan → Option Node
proposal_parent c None = None
proposal_parent c (Some p) = elim p.kind [ Propose ↦ parent_over c p | Confirm ↦ None | Witness ↦ None ]

-- At this moment another answer is possible: the part of the round ends; or a settled unit's time comes, so that it may
-- be cited, while the validator has not spoken and awaits no leader.
abbrev pub MayTurn : CoreState → ℕ → ℕ → ℕ → Type 0
MayTurn c me now t = (t ≡ end_in c now)
    ⊎ ((has_spoken c me now || awaits_leader c me now ≡ false) × ((u : Node) × Among u (settled_in c) × (now < u.unit.time) × (u.unit.time ≡ t)))

-- the least number of which this is so
abbrev pub IsLeast : (ℕ → Type 0) → ℕ → Type 0
IsLeast Holds n = Holds n × ((m : ℕ) → Holds m → n ≤ m)

-- What is due. The value counts for nothing. Until the next moment the same is due, while the journal stays as it is.
-- The next moment is the first at which another answer is possible.
pub record IsDueNow (c : CoreState) (me now : ℕ) (d : Due) : Type 0 where
  pub same : (value : List ℕ) (t : ℕ) → now ≤ t → t < d.next → kind_of (step_in c me t value) ≡ d.kind
  pub later : now < d.next
  pub next_is : IsLeast (MayTurn c me now) d.next
  pub why_is : d.why ≡ (if d.kind == 3 then why_in c me now else 0)
  pub round_is : d.round ≡ round_in c now
  pub leader_is : d.leader ≡ leader_of c.config d.round
  pub has_parent_is : d.has_parent ≡ flag (is_some (proposal_parent c (step_in c me now [])))
  pub parent_is : d.parent ≡ name_bytes (proposal_parent c (step_in c me now []))

-- what the validator has to make at this moment
abbrev pub IsDue : CoreState → ℕ → ℕ → Result Due Fault → Type 0
IsDue c me now (Ok d) = IsDueNow c me now d
IsDue c me now (Err fault.OutOfRange) = (length c.config.weights ≤ me) ⊎ (2 ^ 63 ≤ now)
IsDue c me now (Err f) = IsWant f

-- ---- in the making of the answer

-- the round of the least exponent that the moment lies in, with the witness time and the leader of that
pub record IsMomentOf (config : Config) (m : Moment) : Type 0 where
  pub round_is : m.round ≡ round_id m.at config.min_exponent
  pub witness_is : m.witness ≡ witness_time m.round config.min_exponent
  pub leader_is : m.leader ≡ leader_of config m.round
  pub known : m.leader < length config.weights

-- the graph is that of the node's settled units, and the panorama what it observes of them
pub record IsViewOf (c : CoreState) (dag : UnitGraph) (config : Config) (seen : List View) : Type 0 where
  pub config_is : config ≡ c.config
  pub settled : graph dag ≡ settled_in c
  pub panorama : observations dag seen ≡ panorama_in c
  pub graph_is : IsGraph dag
  pub panorama_is : IsPanorama dag seen

-- when the part of the round ends that a moment lies in: at the witness time, or with the round
abbrev pub end_of : Config → ℕ → ℕ
end_of config now =
    let round = round_id now config.min_exponent in
    let witness = witness_time round config.min_exponent in
    if nat_lt now witness then witness else round + 2 ^ config.min_exponent

-- when that part began
abbrev pub part_of : Config → ℕ → ℕ
part_of config now =
    let round = round_id now config.min_exponent in
    let witness = witness_time round config.min_exponent in
    if nat_lt now witness then round else witness

-- no settled unit has a time between the moment and the next one
abbrev pub IsFree : UnitGraph → ℕ → ℕ → Type 0
IsFree dag now next = (n : ℕ) → n < count_of dag → now < (unit_at dag n).signed.unit.time → next ≤ (unit_at dag n).signed.unit.time

-- it is the time of a settled unit
abbrev pub IsTime : UnitGraph → ℕ → Type 0
IsTime dag t = (n : ℕ) × (n < count_of dag) × ((unit_at dag n).signed.unit.time ≡ t)

-- of those the first, or the end where none is before that
pub record IsFirstLater (dag : UnitGraph) (now end first : ℕ) : Type 0 where
  pub later : now < first
  pub within : first ≤ end
  pub free : IsFree dag now first
  pub is : (first ≡ end) ⊎ IsTime dag first

-- The next moment lies in the same part of the round or ends it. Until then a unit is for nothing, whatever it
-- observes, or no settled unit's time goes by. Where it doesn't end the part, it is the time of such a unit.
pub record IsNext (dag : UnitGraph) (config : Config) (seen : List View) (me now next : ℕ) : Type 0 where
  pub later : now < next
  pub within : next ≤ end_of config now
  pub quiet : (is_for_nothing dag config seen me now ≡ true) ⊎ IsFree dag now next
  pub is : (next ≡ end_of config now) ⊎ ((is_for_nothing dag config seen me now ≡ false) × IsTime dag next)

-- why nothing is due: the validator is faulty; its last unit allows none; what else, by the part of the round and the leader
abbrev pub why_by : Bool → Bool → Bool → Bool → ℕ
why_by faulty held early leads = if faulty then 1 else if held then 2 else if not early then 5 else if leads then 3 else 4

-- the observed unit is in this part of the round or later, or allows none to follow it at that time
abbrev pub is_held_by : UnitGraph → Config → View → ℕ → ℕ → Bool
is_held_by dag config own part time =
    not (is_earlier (node_seen dag own) part) || may_not_step (graph dag) (obs_of dag own) (node_seen dag own) time (round_id time config.min_exponent) config.min_exponent

-- why nothing is due, by a graph and what is observed of it
abbrev pub why_over : UnitGraph → Config → List View → ℕ → ℕ → ℕ
why_over dag config seen me now =
    let round = round_id now config.min_exponent in
    let leads = (me == leader_of config round) in
    let own = view_at seen me in
    why_by (is_faulty_mark (obs_of dag own)) (is_held_by dag config own (part_of config now) (time_of config leads now)) (nat_lt now (witness_time round config.min_exponent)) leads

-- the unit keeps all rules over this graph, which has each unit that it cites
pub record IsFit (dag : UnitGraph) (config : Config) (unit : WireUnit) : Type 0 where
  pub alone : KeepsLocalRules config unit
  pub known : AllKnown (graph dag) unit.panorama
  pub rules : state_rule config (graph dag) (record { digest = digest_of unit; unit = unit }) ≡ None

-- what a unit that observes this stands on, over a graph
abbrev pub stands_on : UnitGraph → Config → List Obs → Option Node
stands_on dag config panorama = fork_of config.weights (graph dag) panorama

-- what a proposal stands on, over a graph
abbrev pub proposed_on : UnitGraph → Config → Option Plan → Option Node
proposed_on dag config None = None
proposed_on dag config (Some p) = elim p.kind [ Propose ↦ stands_on dag config p.unit.panorama | Confirm ↦ None | Witness ↦ None ]

-- the name of a unit, where there is one
abbrev pub name_of : Option Node → Option Digest
name_of x = option_map (λ (u : Node). u.digest) x
