-- What follows for a node and its deliveries: the statements.
use Rattle.std.specs.Prelude.{◌≡◌, ◌≢◌, ℕ, ◌<◌, ◌≤◌, Bool, true, List, [], ◌∷◌, length, fold, Result, Ok, None}
use Rattle.hw_types.specs.declared.unit.SignedUnit.{SignedUnit}
use Rattle.hw_types.specs.declared.unit.Evidence.{Evidence}
use Rattle.hw_types.specs.declared.unit.Endorsement.{Endorsement}
use Rattle.hw_types.specs.declared.unit.Vertex.{Vertex}
use Rattle.hw_types.specs.declared.unit.Vertex.TheVariants as vertex
use Rattle.hw_types.specs.declared.config.Config.{Config}
use Rattle.hw_types.specs.declared.answers.Receipt.{Receipt}
use Rattle.hw_types.specs.declared.answers.Receipt.TheVariants as receipt
use Rattle.hw_types.specs.declared.answers.Cause.{Cause}
use Rattle.hw_types.specs.declared.answers.Cause.TheVariants as cause
use Rattle.hw_types.specs.Graph.{Node}
use Rattle.hw_types.specs.Below.{Among}
use Rattle.hw_types.specs.Rules.{local_rule, state_rule}
use Rattle.hw_types.specs.Settled.{has_evidence, parked_of, dropped_of, missing_of}
use Rattle.hw_types.specs.Journal.{evidence_fault, journal_of, answers_from}
use Rattle.hw_types.specs.Real.{CoreState, setting_of, received_in, settled_in, panorama_in, weight_in, answer_in, after_in}
use Rattle.hw_types.specs.laws.StateLaws.{units_in, NamesApart, SaysTheSame}
use Rattle.hw_safety.specs.Safety.{HasPairs}
use Rattle.hw_core.specs.Deliver.{IsRefusal}
use Rattle.hw_core.specs.Readers.{node_in, fork_in, exceeded_in}

-- ---- deliveries

-- a node that has received nothing
abbrev pub begun : Config → CoreState
begun config = record { config = config; journal = []; asked = None }

-- the node after these deliveries
abbrev pub delivered : Config → List (Vertex × Bool) → CoreState
delivered config deliveries = fold (λ c d. after_in c d.0 d.1) (begun config) deliveries

-- what a node answers to these deliveries, one after the other
abbrev pub answers_to : CoreState → List (Vertex × Bool) → List (Result Receipt Cause)
answers_to c [] = []
answers_to c (d ∷ ds) = answer_in c d.0 d.1 ∷ answers_to (after_in c d.0 d.1) ds

-- After any deliveries a node has the journal that the definitions give of them, and gave their answers.
abbrev pub DeliveriesAreTheJournal : Type 0
DeliveriesAreTheJournal = (config : Config) (deliveries : List (Vertex × Bool))
    → (delivered config deliveries ≡ record { config = config; journal = journal_of (setting_of config) deliveries; asked = None })
    × (answers_to (begun config) deliveries ≡ answers_from (setting_of config) [] deliveries)

-- what holds of each node
pub record IsSound (c : CoreState) : Type 0 where
  -- each evidence in its journal is a pair
  pub pairs : HasPairs (setting_of c.config) c.journal
  -- the journal is no longer than allowed, and no more units are parked than allowed
  pub records : length c.journal ≤ c.config.max_records
  pub parked : length (parked_of c.config (received_in c)) ≤ c.config.max_parked
  -- no two units of the journal have one name
  pub apart : NamesApart (units_in (setting_of c.config) c.journal)

-- So it is after any deliveries.
abbrev pub NodesAreSound : Type 0
NodesAreSound = (config : Config) (deliveries : List (Vertex × Bool)) → IsSound (delivered config deliveries)

-- ---- order

-- the two nodes tell the same
pub record TellsTheSame (c d : CoreState) : Type 0 where
  pub settled : settled_in c ≡ settled_in d
  pub parked : parked_of c.config (received_in c) ≡ parked_of d.config (received_in d)
  pub dropped : dropped_of c.config (received_in c) ≡ dropped_of d.config (received_in d)
  pub missing : (x : Node) → missing_of c.config (received_in c) (settled_in c) x ≡ missing_of d.config (received_in d) (settled_in d) x
  pub rules : (x : Node) → state_rule c.config (settled_in c) x ≡ state_rule d.config (settled_in d) x
  pub panorama : panorama_in c ≡ panorama_in d
  pub fork : fork_in c ≡ fork_in d
  pub weight : weight_in c ≡ weight_in d
  pub exceeded : exceeded_in c ≡ exceeded_in d

-- Two nodes of one configuration whose deliveries made journals that say the same, in whatever order, tell the same.
abbrev pub OrderOfDeliveriesDoesNotCount : Type 0
OrderOfDeliveriesDoesNotCount = (config : Config) (left right : List (Vertex × Bool))
    → SaysTheSame (setting_of config) (journal_of (setting_of config) left) (journal_of (setting_of config) right)
    → TellsTheSame (delivered config left) (delivered config right)

-- ---- completeness

-- the unit keeps the rules of the unit alone, no unit of the journal has its name, and there is room in the journal
pub record IsFreshUnit (c : CoreState) (u : SignedUnit) : Type 0 where
  pub fresh : (x : Node) → Among x (units_in (setting_of c.config) c.journal) → x.digest ≢ (node_in c u).digest
  pub local : local_rule c.config (setting_of c.config).instance u.unit ≡ None
  pub room : length c.journal < c.config.max_records

-- A fresh unit that misses nothing and breaks no rule is admitted.
abbrev pub WholeUnitIsAdmitted : Type 0
WholeUnitIsAdmitted = (c : CoreState) (u : SignedUnit) → IsSound c → IsFreshUnit c u → missing_of c.config (received_in c) (settled_in c) (node_in c u) ≡ [] → state_rule c.config (settled_in c) (node_in c u) ≡ None
    → (settled : ℕ) × (answer_in c (vertex.Unit u) true ≡ Ok (receipt.Admitted settled))

-- One that misses something, while fewer are parked than may be, is parked.
abbrev pub LackingUnitIsParked : Type 0
LackingUnitIsParked = (c : CoreState) (u : SignedUnit) → IsSound c → IsFreshUnit c u → 0 < length (missing_of c.config (received_in c) (settled_in c) (node_in c u))
    → length (parked_of c.config (received_in c)) < c.config.max_parked
    → answer_in c (vertex.Unit u) true ≡ Ok (receipt.Parked (length (missing_of c.config (received_in c) (settled_in c) (node_in c u))))

-- A new endorsement by a validator, while there is room in the journal, is admitted.
abbrev pub NewEndorsementIsAdmitted : Type 0
NewEndorsementIsAdmitted = (c : CoreState) (e : Endorsement) → e.endorser < length c.config.weights → (Among (e.unit, e.endorser) (received_in c).endorsements → ⊥) → length c.journal < c.config.max_records
    → (settled : ℕ) × (answer_in c (vertex.Endorsement e) true ≡ Ok (receipt.Admitted settled))

-- New evidence that is a pair of two names, while there is room in the journal, is admitted.
abbrev pub NewEvidenceIsAdmitted : Type 0
NewEvidenceIsAdmitted = (c : CoreState) (e : Evidence) → evidence_fault (setting_of c.config) e ≡ None
    → (setting_of c.config).name e.left.unit ≢ (setting_of c.config).name e.right.unit
    → has_evidence (received_in c).with_evidence e.left.unit.creator ≢ true → length c.journal < c.config.max_records
    → (settled : ℕ) × (answer_in c (vertex.Evidence e) true ≡ Ok (receipt.Admitted settled))

-- Where a delivery is to be taken, it is refused for want of memory alone.
abbrev pub OnlyMemoryRefuses : Type 0
OnlyMemoryRefuses = (why : Cause) (r : Receipt) → IsRefusal why (Ok r) → why ≡ cause.OutOfMemory
