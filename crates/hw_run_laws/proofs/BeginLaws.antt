-- A new node, and one that there is.
use Rattle.std.proofs.Common.{◌≡◌, ℕ, ◌<◌, ◌^◌, Bool, true, List, [], ◌∷◌, Option, Some, None, refl, sym, ap, subst, ◌∙◌, arith}
use Rattle.std.proofs.lemmas.List.Elements.{All-nil, All-from_recursion}
use lib.Pointwise.{bytes_decides}
use Rattle.hw_types.specs.declared.unit.Digest.{Digest}
use Rattle.hw_types.specs.Journal.{is_accepted}
use Rattle.hw_types.specs.Limits.{config_fault}
use Rattle.hw_types.specs.Real.{setting_of, answer_in}
use Rattle.hw_codec.specs.Ranges.{ConfigInRange, VertexInRange}
use Rattle.hw_keys.specs.Signed.{endorsement_signature, verdict_of}
use Rattle.hw_core.specs.Readers.{unmet_in}
use Rattle.hw_log.specs.Log.{header_bytes}
use Rattle.hw_honest.proofs.OneLineLaws.{begins}
use Rattle.hw_session.specs.Node.{new_node, IsSound}
use Rattle.hw_session.specs.Accept.{given_to}
use Rattle.hw_session.specs.Make.{planned_by, IsToMake}
use Rattle.hw_session.specs.Restart.{HasLog}
use Rattle.hw_session.proofs.RestartLaws.{new_node_has_log}
use Rattle.hw_run_laws.specs.Calls.{IsReady}
use Rattle.hw_run_laws.specs.Members.{NewNodesAreReady, alone, first_standing, first_block, first_endorsement, OneBegins}

pub new_ready : NewNodesAreReady
new_ready config keys name held me lawful range long there = (
  record {
    kept = record { lawful = lawful; keys = long; reached = record { deliveries = []; made = refl; fit = λ v m. absurd m } };
    config = range;
    vertices = All-nil VertexInRange;
  },
  record {
    line = begins (setting_of config) me;
    log = subst (λ (file : Option (List ℕ)). HasLog (new_node config keys name) file) (sym there) (new_node_has_log config keys name);
  },
)

pub lawful : config_fault alone ≡ None
unfolding config_fault
lawful = refl

range : ConfigInRange alone
range = record {
  weights = All-from_recursion (λ (w : ℕ). w < 2 ^ 64) (1 ∷ []) (omega arith, tt);
  ftt = omega arith;
  levels = omega arith;
  min_exponent = omega arith;
  max_exponent = omega arith;
  leaders = All-from_recursion (λ (v : ℕ). v < 2 ^ 32) (0 ∷ []) (omega arith, tt);
  max_records = omega arith;
  max_parked = omega arith;
  end = tt;
}

begun : IsSound first_standing.node × IsReady 0 first_standing
begun = new_ready alone ([] ∷ []) [] (λ name. Some (header_bytes 2 alone)) 0 lawful range refl refl

waits : unmet_in first_standing.node.core ≡ []
unfolding unmet_in
waits = refl

plans : (value : List ℕ) → planned_by first_standing.node 0 16 value ≡ Some (first_block value)
unfolding Rattle.hw_types.specs.Graph.reach Rattle.hw_types.specs.Closure.closure_after Rattle.hw_types.specs.Closure.closure Rattle.hw_types.specs.ByName.by_name Rattle.hw_types.specs.Journal.received_of Rattle.hw_types.specs.Rounds.leader_of Rattle.hw_types.specs.Rules.has_naive_fork Rattle.hw_types.specs.Settled.equivocates Rattle.hw_types.specs.Settled.is_endorsed Rattle.hw_types.specs.Settled.settled_of Rattle.hw_types.specs.Settled.tip_of Rattle.hw_types.specs.Settled.panorama_of Rattle.hw_types.specs.Step.list_of Rattle.hw_types.specs.Step.is_fit Rattle.hw_types.specs.Step.chosen_panorama Rattle.hw_types.specs.Step.lane_units_in Rattle.hw_types.specs.Step.step_in Rattle.hw_types.specs.Step.step
plans value = refl

-- nothing else has its name, and there is room
to_make : (value : List ℕ) → IsToMake first_standing.node (planned_by first_standing.node 0 16 value) (first_block value)
to_make value = record { is = plans value; apart = λ namesake. namesake.1; room = omega arith }

signed : (unit : Digest) → verdict_of first_standing.node.keys (first_endorsement unit) ≡ true
unfolding verdict_of
signed unit = (bytes_decides (endorsement_signature unit 0 []).0 (endorsement_signature unit 0 []).0).1 refl

taken : (unit : Digest) → is_accepted (answer_in first_standing.node.core (first_endorsement unit) true) ≡ true
unfolding Rattle.hw_types.specs.Journal.received_of Rattle.hw_types.specs.Journal.answer
taken unit = refl

accepts : (unit : Digest) → is_accepted (given_to first_standing.node (first_endorsement unit)) ≡ true
accepts unit = ap (λ (verdict : Bool). is_accepted (answer_in first_standing.node.core (first_endorsement unit) verdict)) (signed unit) ∙ taken unit

pub one_begins : OneBegins
one_begins = record { validator = omega arith; sound = begun.0; ready = begun.1; waits = waits; to_make = to_make; accepts = accepts }
