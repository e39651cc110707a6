-- One step of an honest validator.
-- Source: ours, after Highway.
use Rattle.std.specs.Prelude.{ℕ, ◌+◌, Bool, true, ◌&&◌, ◌||◌, not, nat_lt, nat_le, ◌==◌, List, [], ◌∷◌, ◌++◌, length, map, filter, fold, replicate, slice_set, Option, Some, None, if◌then◌else◌}
use Rattle.std.specs.List.{list_any, list_all}
use Rattle.hw_types.specs.declared.unit.Digest.{Digest}
use Rattle.hw_types.specs.declared.unit.Obs.{Obs}
use Rattle.hw_types.specs.declared.unit.Obs.TheVariants.{Absent, Correct, Faulty}
use Rattle.hw_types.specs.declared.answers.Plan.{Plan}
use Rattle.hw_types.specs.declared.answers.PlanKind.{PlanKind}
use Rattle.hw_types.specs.declared.answers.PlanKind.TheVariants.{Propose, Confirm, Witness}
use Rattle.hw_types.specs.Graph.{Node, digest_eq, is_some_and, cites, past, slot, latest, obs_at_most, is_faulty_mark, is_correct, is_on_lane, digest_lt}
use Rattle.hw_types.specs.Votes.{is_block, fork_of, height_of}
use Rattle.hw_types.specs.Rounds.{round_id, witness_time, changes_lawfully, leader_of}
use Rattle.hw_types.specs.Rules.{has_naive_fork}
use Rattle.hw_types.specs.Settled.{Received, settled_of, panorama_of, is_endorsed, validators}
use Rattle.hw_types.specs.Journal.{Setting}

-- ---- joining panoramas

-- the later of two observations, or the mark of a fault where neither is on the other's lane
abbrev pub join_obs : List Node → Obs → Obs → Obs
join_obs units o p = if obs_at_most units o p then p else if obs_at_most units p o then o else Faulty

-- slot by slot
abbrev pub join_from : List Node → List Obs → List Obs → List Obs
join_from units [] qs = []
join_from units (p ∷ ps) [] = p ∷ join_from units ps []
join_from units (p ∷ ps) (q ∷ qs) = join_obs units p q ∷ join_from units ps qs

-- a unit's panorama with the unit in its slot
abbrev pub with_own : Node → List Obs
with_own u = slice_set u.unit.panorama u.unit.creator (Correct u.digest)

-- ---- the endorsed list of a panorama

-- each once, in rising order
abbrev pub put_rising : Digest → List Digest → List Digest
put_rising d [] = d ∷ []
put_rising d (e ∷ es) = if digest_eq d e then e ∷ es else if digest_lt d e then d ∷ e ∷ es else e ∷ put_rising d es

-- these digests, each once, in rising order
abbrev pub rising : List Digest → List Digest
rising [] = []
rising (d ∷ ds) = put_rising d (rising ds)

-- the endorsed lists of these units, one after the other
abbrev pub all_lists : List Node → List Digest
all_lists [] = []
all_lists (u ∷ us) = u.unit.endorsed ++ all_lists us

-- the units that the panorama cites
abbrev pub cited_units : List Node → List Obs → List Node
cited_units units panorama = filter (cites panorama) units

-- the endorsed units at or below the cited ones
abbrev pub endorsed_below : Setting → Received → List Node → List Obs → List Digest
endorsed_below s received units panorama = map (λ x. x.digest) (filter (λ x. is_endorsed s.config received x.digest) (past units panorama))

-- the endorsed list that a unit with this panorama gets
unfoldable pub list_of : Setting → Received → List Node → List Obs → List Digest
list_of s received units panorama =
    let inherited = all_lists (cited_units units panorama) in
    let full = rising (inherited ++ endorsed_below s received units panorama) in
    if nat_le (length full) 256 then full else rising inherited

-- a unit with this panorama at this time would keep its rules
unfoldable pub is_fit : Setting → Received → List Node → ℕ → List Obs → Bool
is_fit s received units time panorama =
    list_all (λ w. nat_le w.unit.time time) (cited_units units panorama)
    && nat_le (length (list_of s received units panorama)) 256
    && not (has_naive_fork (past units panorama) (list_of s received units panorama))

-- ---- the chosen panorama

-- what joins for a validator's observation
abbrev pub joining : List Node → ℕ → List Obs → List Obs
joining units v state = elim (slot state v) [
  | Absent ↦ []
  | Faulty ↦ replicate v Absent ++ Faulty ∷ []
  | Correct d ↦ elim (latest units state v) [ None ↦ [] | Some u ↦ with_own u ]
]

-- the panorama with the validator joined, where that is fit
abbrev pub joined_where_fit : Setting → Received → List Node → ℕ → List Obs → List Obs → ℕ → List Obs
joined_where_fit s received units time state base v =
    let both = join_from units base (joining units v state) in
    if is_fit s received units time both then both else base

-- where joining begins: the own last unit's panorama, or nothing
abbrev pub first_base : Setting → Option Node → List Obs
first_base s None = replicate (length s.config.weights) Absent
first_base s (Some p) = with_own p

-- the state's panorama where it is fit, or what fits of it
unfoldable pub chosen_panorama : Setting → Received → List Node → ℕ → ℕ → List Obs → Option Node → List Obs
chosen_panorama s received units time me state own =
    if is_fit s received units time state then state
    else fold (joined_where_fit s received units time state) (first_base s own) (filter (λ v. not (v == me)) (validators s.config))

-- ---- the cases

-- there is none, or it is earlier than that
abbrev pub is_earlier : Option Node → ℕ → Bool
is_earlier None time = true
is_earlier (Some p) time = nat_lt p.unit.time time

-- how many units of a lane are in a round
unfoldable pub lane_units_in : List Node → Node → ℕ → ℕ → ℕ
lane_units_in units p round exponent = length (filter (λ x. is_on_lane units x p && (round_id x.unit.time exponent == round)) units)

-- nothing can be made now
abbrev pub may_not_step : List Node → Obs → Option Node → ℕ → ℕ → ℕ → Bool
may_not_step units own_slot own time round exponent =
    is_faulty_mark own_slot
    || is_some_and (λ p. nat_lt time p.unit.time || nat_le 2 (lane_units_in units p round exponent) || not (changes_lawfully p.unit.time p.unit.exponent time exponent)) own

-- a block of the round is on the leader's lane, and below the panorama
abbrev pub confirms : List Node → List Obs → List Obs → ℕ → ℕ → Bool
confirms units state panorama leader round =
    is_some_and (λ l. list_any (λ b. is_block b && (b.unit.time == round) && is_on_lane units b l && list_any (λ x. digest_eq x.digest b.digest) (past units panorama)) units) (latest units state leader)

-- the number of the next unit
abbrev pub next_seq : Option Node → ℕ
next_seq None = 0
next_seq (Some p) = p.unit.seq + 1

-- the unit to be made, with what it is for
abbrev pub plan : Setting → Received → List Node → PlanKind → ℕ → ℕ → List Obs → Option Node → Option (List ℕ) → Plan
plan s received units kind me time panorama own value = record {
  kind = kind;
  unit = record {
    instance = s.instance;
    creator = me;
    seq = next_seq own;
    time = time;
    exponent = s.config.min_exponent;
    panorama = panorama;
    value = value;
    endorsed = list_of s received units panorama;
  };
}

-- the fork choice is a block at the height of the end
abbrev pub is_at_end : Setting → List Node → List Obs → Bool
is_at_end s units panorama = is_some_and (λ end. is_some_and (λ b. height_of s.config.weights units b == end) (fork_of s.config.weights units panorama)) s.config.end

-- ---- what to make now: no two of the three hold

-- the leader, before the round's witness time, its last unit earlier than the round, and the end not reached
abbrev pub is_propose : Setting → List Node → List Obs → Option Node → ℕ → ℕ → Bool
is_propose s units panorama own me now =
    let round = round_id now s.config.min_exponent in
    nat_lt now (witness_time round s.config.min_exponent) && is_earlier own round && (me == leader_of s.config round) && not (is_at_end s units panorama)

-- another than the leader, before the witness time, its last unit earlier than the round, and the leader's block there
abbrev pub is_confirm : Setting → List Node → List Obs → List Obs → Option Node → ℕ → ℕ → Bool
is_confirm s units state panorama own me now =
    let round = round_id now s.config.min_exponent in
    let leader = leader_of s.config round in
    nat_lt now (witness_time round s.config.min_exponent) && is_earlier own round && not (me == leader) && confirms units state panorama leader round

-- anybody, from the witness time on, its last unit earlier than that, and something to cite
abbrev pub is_witness : Setting → List Obs → Option Node → ℕ → Bool
is_witness s panorama own now =
    let witness = witness_time (round_id now s.config.min_exponent) s.config.min_exponent in
    nat_le witness now && is_earlier own witness && list_any is_correct panorama

-- the step over these settled units, with this panorama
unfoldable pub step_in : Setting → Received → List Node → List Obs → ℕ → ℕ → List ℕ → Option Plan
step_in s received units state me now value =
    let exponent = s.config.min_exponent in
    let round = round_id now exponent in
    let own = latest units state me in
    let time = if (me == leader_of s.config round) && nat_lt now (witness_time round exponent) then round else now in
    let panorama = chosen_panorama s received units time me state own in
    if may_not_step units (slot state me) own time round exponent then None
    else if is_propose s units panorama own me now then Some (plan s received units Propose me time panorama own (Some value))
    else if is_confirm s units state panorama own me now then Some (plan s received units Confirm me time panorama own None)
    else if is_witness s panorama own now then Some (plan s received units Witness me time panorama own None)
    else None

-- the step after a journal
unfoldable pub step : Setting → Received → ℕ → ℕ → List ℕ → Option Plan
step s received me now value = step_in s received (settled_of s.config received) (panorama_of s.config received) me now value
