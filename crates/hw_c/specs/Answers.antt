-- The fields of the structs that calls fill.
-- Source: ours.
use Rattle.std.specs.Prelude.{ℕ, Bool, true, false, List, length, is_some, Option, Some, None}
use Rattle.hw_types.specs.declared.unit.Digest.{Digest}
use Rattle.hw_types.specs.declared.unit.Need.{Need}
use Rattle.hw_types.specs.declared.unit.Need.TheVariants as need
use Rattle.hw_types.specs.declared.unit.Obs.{Obs}
use Rattle.hw_types.specs.declared.unit.Obs.TheVariants as obs
use Rattle.hw_types.specs.declared.unit.SignedUnit.{SignedUnit}
use Rattle.hw_types.specs.declared.unit.Vertex.{Vertex}
use Rattle.hw_types.specs.declared.unit.Vertex.TheVariants as vertex
use Rattle.hw_types.specs.declared.answers.Decision.{Decision}
use Rattle.hw_types.specs.declared.answers.PlanKind.{PlanKind}
use Rattle.hw_types.specs.declared.answers.PlanKind.TheVariants.{Propose, Confirm, Witness}
use Rattle.hw_types.specs.Real.{CoreState, settled_in, received_in, weight_in}
use Rattle.hw_types.specs.Settled.{parked_of, dropped_of}
use Rattle.hw_types.specs.Spelling.{digest_of}
use Rattle.hw_core.specs.declared.place.Place.{Place}
use Rattle.hw_core.specs.declared.place.Place.TheVariants as place
use Rattle.hw_core.specs.Decided.{decided_in}
use Rattle.hw_core.specs.Readers.{fork_in, exceeded_in}
use Rattle.hw_text.specs.Text.{rule_number}
use Rattle.hw_c.specs.Told.{zeros}
use Rattle.hw_c.specs.declared.signed.Signer.{Signer}
use Rattle.hw_c.specs.declared.signed.Signed.{Signed}
use Rattle.hw_c.specs.declared.calls.Summary.{Summary}
use Rattle.hw_c.specs.declared.calls.Observed.{Observed}
use Rattle.hw_c.specs.declared.calls.Placed.{Placed}
use Rattle.hw_c.specs.declared.calls.Decided.{Decided}
use Rattle.hw_c.specs.declared.needs.Missing.{Missing}

-- ---- signatures

-- the place of a signer that is not there
abbrev pub no_signer : Signer
no_signer = record { validator = 0; unit = zeros; signature = zeros }

-- the creator of a unit, the unit's digest, and the creator's signature of that
abbrev pub signer_of : SignedUnit → Signer
signer_of s = record { validator = s.unit.creator; unit = (digest_of s.unit).0; signature = s.signature.0 }

-- Who signed a vertex, and which units. The kind is 0 for a unit, 1 for evidence with its two units, and 2 for an
-- endorsement of a unit.
abbrev pub signed_of : Vertex → Signed
signed_of (vertex.Unit u) = record { kind = 0; first = signer_of u; second = no_signer }
signed_of (vertex.Evidence e) = record { kind = 1; first = signer_of e.left; second = signer_of e.right }
signed_of (vertex.Endorsement e) = record { kind = 2; first = record { validator = e.endorser; unit = e.unit.0; signature = e.signature.0 }; second = no_signer }

-- ---- a node

-- 1 for yes, 0 for no
abbrev pub flag : Bool → ℕ
flag true = 1
flag false = 0

-- the bytes of a digest, or zeros where there is none
abbrev pub digest_bytes : Option Digest → List ℕ
digest_bytes None = zeros
digest_bytes (Some d) = d.0

-- the counts of a node, its faulty weight and its fork choice
abbrev pub summary_of : CoreState → Summary
summary_of c = record {
  journal = length c.journal;
  decided = length (decided_in c);
  faulty_weight = weight_in c;
  settled = length (settled_in c);
  parked = length (parked_of c.config (received_in c));
  dropped = length (dropped_of c.config (received_in c));
  exceeded = flag (is_some (exceeded_in c));
  has_fork = flag (is_some (fork_in c));
  fork = digest_bytes (fork_in c);
}

-- kinds: 0 nothing is observed of the validator, 1 this is its latest unit, 2 it equivocated
abbrev pub observed_of : Obs → Observed
observed_of obs.Absent = record { kind = 0; unit = zeros }
observed_of (obs.Correct d) = record { kind = 1; unit = d.0 }
observed_of obs.Faulty = record { kind = 2; unit = zeros }

-- kinds: 0 unknown, 1 settled under this number, 2 parked with this number of needs, 3 dropped by the rule of this
-- number
abbrev pub placed_of : Place → Placed
placed_of place.Unknown = record { kind = 0; number = 0 }
placed_of (place.Settled number) = record { kind = 1; number = number.0 }
placed_of (place.Parked missing) = record { kind = 2; number = missing }
placed_of (place.Dropped rule) = record { kind = 3; number = rule_number rule }

-- a decided block, field by field
abbrev pub decided_of : Decision → Decided
decided_of d = record { block = d.block.0; height = d.height; quorum = d.quorum; at = d.at; level = d.level }

-- kinds: 0 the unit has to settle, 1 the validator has to be known as faulty, 2 the unit has to be endorsed
abbrev pub missing_of : Need → Missing
missing_of (need.Unit d) = record { kind = 0; validator = 0; digest = d.0 }
missing_of (need.Evidence v) = record { kind = 1; validator = v; digest = zeros }
missing_of (need.Endorsed d) = record { kind = 2; validator = 0; digest = d.0 }

-- ---- a step

-- kinds: 0 a proposal, 1 a confirmation, 2 a witness
abbrev pub plan_number : PlanKind → ℕ
plan_number Propose = 0
plan_number Confirm = 1
plan_number Witness = 2
