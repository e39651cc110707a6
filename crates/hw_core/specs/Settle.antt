-- What waits at a node, and what becomes of it as units settle.
use Rattle.std.specs.Prelude.{◌≡◌, ◌≢◌, ◌+◌, ◌≤◌, ◌⊎◌, true, List, [], ◌∷◌, ◌++◌, length, map, filter, Option, Some, None, Result, OnOk, OnErr, IfErr}
use Rattle.std.specs.List.{range_with_len}
use Rattle.std.specs.Map.{lookup}
use Rattle.hw_types.specs.declared.unit.Digest.{Digest}
use Rattle.hw_types.specs.declared.answers.Rule.{Rule}
use Rattle.hw_types.specs.declared.config.Config.{Config}
use Rattle.hw_types.specs.Graph.{Node, digest_eq}
use Rattle.hw_types.specs.Below.{Among}
use Rattle.hw_types.specs.ByName.{by_name}
use Rattle.hw_types.specs.Rules.{state_rule}
use Rattle.hw_types.specs.Settled.{Received, missing_of, settles}
use Rattle.hw_types.specs.laws.StateLaws.{Admits}
use Rattle.hw_dag.specs.Dag.{GrowsTo, node_of, graph}
use Rattle.hw_dag.specs.Admission.{PreparedUnit, node_prepared}
use Rattle.hw_rules.specs.Judged.{KeepsLocalRules}
use Rattle.hw_admit.specs.State.{NodeState, is_marked}
use Rattle.hw_park.specs.Parked.{Waiting, Parked}
use Rattle.hw_core.specs.Entries.{Entries, insert_entry}

-- ---- what a state knows

-- whom a state has evidence against, and what was endorsed
abbrev pub known_in : NodeState → Received
known_in s = record { units = []; with_evidence = filter (is_marked s.marked) (range_with_len 0 (length s.marked)); endorsements = s.pairs }

-- the settled units in the order of their admission
abbrev pub admitted_in : NodeState → List Node
admitted_in s = map node_of s.dag.units

-- the units that wait, in the order of parking
abbrev pub waiting_nodes : List (Waiting PreparedUnit) → List Node
waiting_nodes waiting = map (λ w. node_prepared w.item) waiting

-- ---- what may wait

-- none of these units has this name
abbrev pub IsUnknown : List Node → Digest → Type 0
IsUnknown units d = (y : Node) → Among y units → y.digest ≢ d

-- none of those that wait has this name
abbrev pub IsUnawaited : Digest → List (Waiting PreparedUnit) → Type 0
IsUnawaited d waiting = (w : Waiting PreparedUnit) → Among w waiting → w.item.digest ≢ d

-- no two that wait have one name
abbrev pub AreApart : List (Waiting PreparedUnit) → Type 0
AreApart [] = Unit {0}
AreApart (w ∷ ws) = IsUnawaited w.item.digest ws × AreApart ws

-- a unit waits for what it misses, breaks no rule of the unit alone, and isn't settled
pub record Awaits (config : Config) (known : Received) (units : List Node) (w : Waiting PreparedUnit) : Type 0 where
  pub needs_are : w.needs ≡ missing_of config known units (node_prepared w.item)
  pub local : KeepsLocalRules config w.item.signed.unit
  pub unknown : IsUnknown units w.item.digest

-- each unit waits for what it misses, and no two have one name
pub record AreWaiting (config : Config) (known : Received) (units : List Node) (waiting : List (Waiting PreparedUnit)) : Type 0 where
  pub each : (w : Waiting PreparedUnit) → Among w waiting → Awaits config known units w
  pub apart : AreApart waiting

-- what waits at a node, for which the state has room
pub record CanSettle (s : NodeState) (waiting : List (Waiting PreparedUnit)) : Type 0 where
  pub room : length waiting ≤ s.spare
  pub are : AreWaiting s.config (known_in s) (graph s.dag) waiting

-- a unit that misses nothing any more, and no longer waits
pub record IsDue (s : NodeState) (waiting : List (Waiting PreparedUnit)) (p : PreparedUnit) : Type 0 where
  pub room : length waiting + 1 ≤ s.spare
  pub met : missing_of s.config (known_in s) (graph s.dag) (node_prepared p) ≡ []
  pub local : KeepsLocalRules s.config p.signed.unit
  pub unknown : IsUnknown (graph s.dag) p.digest
  pub unawaited : IsUnawaited p.digest waiting

-- ---- what becomes of it

-- the first list has some of the other, in the other's order
abbrev pub IsPart : {A : Type 0} → List A → List A → Type 0
IsPart xs [] = xs ≡ []
IsPart {A} xs (y ∷ ys) = IsPart xs ys ⊎ ((rest : List A) × (xs ≡ y ∷ rest) × IsPart rest ys)

-- no member stands twice
abbrev pub IsOnce : {A : Type 0} → List A → Type 0
IsOnce [] = Unit {0}
IsOnce (x ∷ xs) = (Among x xs → ⊥) × IsOnce xs

-- the state has the units that it had, and knows the same of evidence and endorsements
pub record KnowsTheSame (s later : NodeState) : Type 0 where
  pub config : later.config ≡ s.config
  pub grows : GrowsTo s.dag later.dag
  pub marked : later.marked ≡ s.marked
  pub pairs : later.pairs ≡ s.pairs

-- at some moment of such a run the unit missed nothing, and broke this rule
pub record IsDropped (config : Config) (known : Received) (from start : List Node) (x : Node) (rule : Rule) : Type 0 where
  pub found : List Node
  pub run : Admits config known from start found
  pub met : missing_of config known (by_name found) x ≡ []
  pub broken : state_rule config (by_name found) x ≡ Some rule

-- each of these units misses something over those that are settled
abbrev pub AllMiss : Config → Received → List Node → List Node → Type 0
AllMiss config known found units = (y : Node) → Among y units → missing_of config known (by_name found) y ≢ []

-- Units that wait are judged one by one, each time the first that misses nothing: it settles, or is dropped. What has settled then, and
-- what still waits, from what was settled and what waited at first.
pub data TakesTurns (config : Config) (known : Received) (start from : List Node) : List Node → List Node → Type 0 where
  begin : TakesTurns config known start from start from
  settle : (x : Node) (found before after : List Node) → TakesTurns config known start from found (before ++ x ∷ after) → AllMiss config known found before
      → IsUnknown found x.digest → settles config known (by_name found) x ≡ true → TakesTurns config known start from (found ++ x ∷ []) (before ++ after)
  drop : (x : Node) (rule : Rule) (found before after : List Node) → TakesTurns config known start from found (before ++ x ∷ after) → AllMiss config known found before
      → missing_of config known (by_name found) x ≡ [] → state_rule config (by_name found) x ≡ Some rule → TakesTurns config known start from found (before ++ after)

-- Of the units that waited some settled one after the other, and each of the others waits as before, in the order in which they
-- were parked, or was dropped.
pub record HasSettled (s : NodeState) (waiting : List (Waiting PreparedUnit)) (later : NodeState) (left : List (Waiting PreparedUnit)) : Type 0 where
  pub same : KnowsTheSame s later
  pub turns : TakesTurns s.config (known_in s) (admitted_in s) (waiting_nodes waiting) (admitted_in later) (waiting_nodes left)
  pub run : Admits s.config (known_in s) (waiting_nodes waiting) (admitted_in s) (admitted_in later)
  pub still : IsPart (waiting_nodes left) (waiting_nodes waiting)
  pub placed : (x : Node) → Among x (waiting_nodes waiting)
      → Among x (admitted_in later) ⊎ (Among x (waiting_nodes left) ⊎ ((rule : Rule) × IsDropped s.config (known_in s) (waiting_nodes waiting) (admitted_in s) x rule))

-- the state has more room, or as much, and of it nothing else changed
pub record HasMoreRoom (s later : NodeState) : Type 0 where
  pub kept : s.spare ≤ later.spare
  pub unchanged : later ≡ record s { spare = later.spare; dag = record s.dag { spare = later.dag.spare } }

-- ---- the rules of dropped units

-- the rule that is kept under this name
abbrev pub rule_in : List (Digest × Rule) → Digest → Option Rule
rule_in rules d = lookup (digest_eq d) rules

-- While these units waited, the rules by name grew: a name that had a rule has one; what is new is the rule of a unit
-- that waited and was dropped; and a unit that neither settled nor waits has a rule.
pub record HasNoted (s : NodeState) (waiting : List (Waiting PreparedUnit)) (rules : List (Digest × Rule)) (later : NodeState) (left : List (Waiting PreparedUnit)) (noted : List (Digest × Rule)) : Type 0 where
  pub kept : (d : Digest) (rule : Rule) → rule_in rules d ≡ Some rule → (now : Rule) × (rule_in noted d ≡ Some now)
  pub only : (d : Digest) (rule : Rule) → rule_in noted d ≡ Some rule
      → (rule_in rules d ≡ Some rule) ⊎ ((x : Node) × Among x (waiting_nodes waiting) × (x.digest ≡ d) × IsDropped s.config (known_in s) (waiting_nodes waiting) (admitted_in s) x rule)
  pub placed : (x : Node) → Among x (waiting_nodes waiting) → Among x (admitted_in later) ⊎ (Among x (waiting_nodes left) ⊎ ((rule : Rule) × (rule_in noted x.digest ≡ Some rule)))

-- A unit that missed nothing was judged: it settled, or it was dropped and the rule that it breaks is noted under its name.
pub record HasJudged {U : Type 0} (s : NodeState) (park : Parked PreparedUnit) (rules : Entries Rule) (prepared : PreparedUnit) (result : Result U Rule) (later : NodeState) (left : Parked PreparedUnit) (now : Entries Rule) : Type 0 where
  pub can : CanSettle later left.waiting
  pub same : KnowsTheSame s later
  pub limit : left.limit ≡ park.limit
  pub waiting : waiting_nodes left.waiting ≡ waiting_nodes park.waiting
  pub kept : OnOk result (state_rule s.config (graph s.dag) (node_prepared prepared) ≡ None)
  pub admitted : OnOk result (admitted_in later ≡ admitted_in s ++ node_prepared prepared ∷ [])
  pub unnoted : OnOk result (now.entries ≡ rules.entries)
  pub broken : IfErr result (λ rule. state_rule s.config (graph s.dag) (node_prepared prepared) ≡ Some rule)
  pub noted : IfErr result (λ rule. now.entries ≡ insert_entry digest_eq rules.entries prepared.digest rule)
  pub unchanged : OnErr result (later ≡ s)
  pub unstruck : OnErr result (left ≡ park)
  pub room : rules.room ≤ now.room + 1
