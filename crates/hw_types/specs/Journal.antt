-- Journals, and the answer to each delivery.
-- Source: ours.
use Rattle.std.specs.Prelude.{ℕ, ◌-◌, Bool, true, false, ◌&&◌, ◌||◌, not, nat_lt, nat_le, ◌==◌, List, [], ◌∷◌, ◌++◌, length, filter, Option, Some, None, is_none, filter_map, map, Result, Ok, Err, fold, if◌then◌else◌}
use Rattle.std.specs.List.{list_any}
use Rattle.hw_types.specs.declared.unit.Digest.{Digest}
use Rattle.hw_types.specs.declared.unit.WireUnit.{WireUnit}
use Rattle.hw_types.specs.declared.unit.Evidence.{Evidence}
use Rattle.hw_types.specs.declared.unit.Vertex.{Vertex}
use Rattle.hw_types.specs.declared.unit.Vertex.TheVariants as vertex
use Rattle.hw_types.specs.declared.config.Config.{Config}
use Rattle.hw_types.specs.declared.answers.Rule.TheVariants.{UnknownCreator}
use Rattle.hw_types.specs.declared.answers.PairFault.{PairFault}
use Rattle.hw_types.specs.declared.answers.PairFault.TheVariants as fault
use Rattle.hw_types.specs.declared.answers.Receipt.{Receipt}
use Rattle.hw_types.specs.declared.answers.Receipt.TheVariants as receipt
use Rattle.hw_types.specs.declared.answers.Cause.{Cause}
use Rattle.hw_types.specs.declared.answers.Cause.TheVariants as cause
use Rattle.hw_types.specs.Graph.{Node, digest_eq, bytes_cmp}
use Rattle.hw_types.specs.Rules.{local_rule, state_rule}
use Rattle.std.specs.FinMap.Entries.{put}
use Rattle.hw_types.specs.ByName.{by_name}
use Rattle.hw_types.specs.Settled.{Received, validators, has_evidence, missing_of, settled_of, parked_of}
use Rattle.hw_types.specs.Same.{unit_eq}

-- ---- a configuration and how units are named

-- what the definitions over journals need to know: the configuration, its instance, and how units are named
pub record Setting : Type 0 where
  pub config : Config
  pub instance : Digest
  pub name : WireUnit → Digest

-- a unit under its name
abbrev pub named : Setting → WireUnit → Node
named s u = record { digest = s.name u; unit = u }

-- ---- what a journal says

-- the unit of a vertex, where it keeps the rules of the unit alone
abbrev pub unit_of_vertex : Setting → Vertex → Option Node
unit_of_vertex s (vertex.Unit u) = if is_none (local_rule s.config s.instance u.unit) then Some (named s u.unit) else None
unit_of_vertex s (vertex.Evidence e) = None
unit_of_vertex s (vertex.Endorsement e) = None

-- the validator against whom the vertex is evidence
abbrev pub evidence_in : Vertex → Option ℕ
evidence_in (vertex.Unit u) = None
evidence_in (vertex.Evidence e) = Some e.left.unit.creator
evidence_in (vertex.Endorsement e) = None

-- the unit and the endorser of the vertex, where it is an endorsement
abbrev pub endorsement_in : Vertex → Option (Digest × ℕ)
endorsement_in (vertex.Unit u) = None
endorsement_in (vertex.Evidence e) = None
endorsement_in (vertex.Endorsement e) = Some (e.unit, e.endorser)

-- each pair once, in one order
abbrev pub pairs_of : List (Digest × ℕ) → List (List ℕ × (Digest × ℕ))
pairs_of [] = []
pairs_of (p ∷ ps) = put bytes_cmp (p.0.0 ++ p.1 ∷ []) p (pairs_of ps)

-- The same for journals with the same units, pairs and validators with evidence, whatever their order.
unfoldable pub received_of : Setting → List Vertex → Received
received_of s journal = record {
  units = by_name (filter_map (unit_of_vertex s) journal);
  with_evidence = filter (has_evidence (filter_map evidence_in journal)) (validators s.config);
  endorsements = map (λ e. e.1) (pairs_of (filter_map endorsement_in journal));
}

-- ---- the tests of a delivery

-- What is wrong with a pair: it has to be two different units of one creator, which is one of so many
-- validators, with one number and of this instance. The first fault is answered (ours)
abbrev pub pair_fault : ℕ → Digest → Evidence → Option PairFault
pair_fault validators instance e =
    if not (e.left.unit.creator == e.right.unit.creator) || nat_le validators e.left.unit.creator then Some fault.Creator
    else if not (e.left.unit.seq == e.right.unit.seq) then Some fault.Sequence
    else if not (digest_eq e.left.unit.instance instance && digest_eq e.right.unit.instance instance) then Some fault.Instance
    else if unit_eq e.left.unit e.right.unit then Some fault.Same else None

-- what is wrong with a pair in this setting
abbrev pub evidence_fault : Setting → Evidence → Option PairFault
evidence_fault s e = pair_fault (length s.config.weights) s.instance e

-- another unit of the same name
abbrev pub clashes : Setting → WireUnit → Node → Bool
clashes s u x = digest_eq (s.name u) x.digest && not (unit_eq u x.unit)

-- the name, where these units have another unit of it
abbrev pub clash_among : Setting → List Node → WireUnit → Option Digest
clash_among s units u = if list_any (clashes s u) units then Some (s.name u) else None

-- Which test refuses the vertex before its place in the journal counts.
abbrev pub refusal : Setting → List Vertex → Vertex → Option Cause
refusal s journal (vertex.Unit u) = elim (local_rule s.config s.instance u.unit) [
  | Some rule ↦ Some (cause.Local rule)
  | None ↦ elim (clash_among s (received_of s journal).units u.unit) [ Some d ↦ Some (cause.Clash d) | None ↦ None ]
]
refusal s journal (vertex.Evidence e) = elim (evidence_fault s e) [
  | Some f ↦ Some (cause.Pair f)
  | None ↦ elim (clash_among s (named s e.left.unit ∷ []) e.right.unit) [ Some d ↦ Some (cause.Clash d) | None ↦ None ]
]
refusal s journal (vertex.Endorsement e) = if nat_le (length s.config.weights) e.endorser then Some (cause.Local UnknownCreator) else None

-- The journal holds this already.
abbrev pub is_repeat : Setting → List Vertex → Vertex → Bool
is_repeat s journal (vertex.Unit u) = list_any (λ x. unit_eq x.unit u.unit) (received_of s journal).units
is_repeat s journal (vertex.Evidence e) = has_evidence (received_of s journal).with_evidence e.left.unit.creator
is_repeat s journal (vertex.Endorsement e) = list_any (λ p. digest_eq p.0 e.unit && (p.1 == e.endorser)) (received_of s journal).endorsements

-- how many needs of the unit are missing
abbrev pub missing_in : Setting → List Vertex → WireUnit → ℕ
missing_in s journal u = length (missing_of s.config (received_of s journal) (settled_of s.config (received_of s journal)) (named s u))

-- the unit would be parked, and as many are parked as may be
abbrev pub is_park_full : Setting → List Vertex → Vertex → Bool
is_park_full s journal (vertex.Unit u) = nat_lt 0 (missing_in s journal u.unit) && nat_le s.config.max_parked (length (parked_of s.config (received_of s journal)))
is_park_full s journal (vertex.Evidence e) = false
is_park_full s journal (vertex.Endorsement e) = false

-- how many more settle
abbrev pub newly_settled : Setting → List Vertex → Vertex → ℕ
newly_settled s journal v = length (settled_of s.config (received_of s (journal ++ v ∷ []))) - length (settled_of s.config (received_of s journal))

-- what became of a unit that went last in the journal
abbrev pub unit_receipt : Setting → List Vertex → Vertex → Node → Receipt
unit_receipt s journal v u =
    let after = received_of s (journal ++ v ∷ []) in
    let missing = length (missing_of s.config after (settled_of s.config after) u) in
    if nat_lt 0 missing then receipt.Parked missing
    else elim (state_rule s.config (settled_of s.config after) u) [ Some rule ↦ receipt.Dropped rule | None ↦ receipt.Admitted (newly_settled s journal v) ]

-- what became of a vertex that went last in the journal
abbrev pub receipt_of : Setting → List Vertex → Vertex → Receipt
receipt_of s journal (vertex.Unit u) = unit_receipt s journal (vertex.Unit u) (named s u.unit)
receipt_of s journal (vertex.Evidence e) = receipt.Admitted (newly_settled s journal (vertex.Evidence e))
receipt_of s journal (vertex.Endorsement e) = receipt.Admitted (newly_settled s journal (vertex.Endorsement e))

-- what a delivery is answered
unfoldable pub answer : Setting → List Vertex → Vertex → Bool → Result Receipt Cause
answer s journal v verdict =
    if not verdict then Err cause.BadSignature
    else elim (refusal s journal v) [
      | Some c ↦ Err c
      | None ↦
          if is_repeat s journal v then Ok receipt.Repeat
          else if nat_le s.config.max_records (length journal) then Err cause.RecordsFull
          else if is_park_full s journal v then Err cause.ParkFull
          else Ok (receipt_of s journal v)
    ]

-- the vertex goes last in the journal
abbrev pub is_accepted : Result Receipt Cause → Bool
is_accepted (Err c) = false
is_accepted (Ok receipt.Repeat) = false
is_accepted (Ok (receipt.Admitted n)) = true
is_accepted (Ok (receipt.Parked n)) = true
is_accepted (Ok (receipt.Dropped r)) = true

-- the journal after a delivery
abbrev pub journal_after : Setting → List Vertex → Vertex × Bool → List Vertex
journal_after s journal d = if is_accepted (answer s journal d.0 d.1) then journal ++ d.0 ∷ [] else journal

-- the journal after these deliveries
abbrev pub journal_of : Setting → List (Vertex × Bool) → List Vertex
journal_of s deliveries = fold (journal_after s) [] deliveries

-- the answers to these deliveries, one after the other
unfoldable pub answers_from : Setting → List Vertex → List (Vertex × Bool) → List (Result Receipt Cause)
answers_from s journal [] = []
answers_from s journal (d ∷ ds) = answer s journal d.0 d.1 ∷ answers_from s (journal_after s journal d) ds
