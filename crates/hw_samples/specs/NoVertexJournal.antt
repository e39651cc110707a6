-- Nothing is delivered: no unit settles, and nothing is chosen.
-- The values are those of a second reading of the definitions, written apart from them; the two agree.
use Rattle.std.specs.Prelude.{◌≡◌, List, [], ◌∷◌, map, Option, Some, None}
use Rattle.hw_types.specs.declared.unit.Obs.TheVariants.{Absent}
use Rattle.hw_types.specs.declared.unit.Vertex.{Vertex}
use Rattle.hw_types.specs.declared.config.Config.{Config}
use Rattle.hw_types.specs.declared.answers.Plan.{Plan}
use Rattle.hw_types.specs.declared.answers.PlanKind.TheVariants as kind
use Rattle.hw_types.specs.declared.config.Leaders.TheVariants.{Table}
use Rattle.hw_types.specs.Graph.{Node}
use Rattle.hw_types.specs.Settled.{Received, settled_of, parked_of, dropped_of, missing_of, panorama_of, faulty_weight, fork_choice}
use Rattle.hw_types.specs.Journal.{Setting, received_of, journal_of, answers_from}
use Rattle.hw_types.specs.Step.{step}
use Rattle.hw_types.specs.Culprits.{culprits_of}
use Rattle.hw_samples.specs.Words.{names_of, name_of}
use Rattle.hw_samples.specs.JournalWords.{dg, mixed, named_by}

abbrev c : Config
c = record { weights = (1 ∷ 1 ∷ 1 ∷ []); ftt = 0; levels = 2; min_exponent = 2; max_exponent = 4; leaders = Table (0 ∷ []); max_records = 131072; max_parked = 4096; end = None }

abbrev s : Setting
s = named_by mixed c

abbrev j_shuffled : List Vertex
j_shuffled = []

abbrev j : List Vertex
j = []

abbrev k : Received
k = received_of s j

abbrev units : List Node
units = []

abbrev plans : List (Option Plan)
plans = (None ∷ Some (record { kind = kind.Propose; unit = record { instance = dg (0 ∷ 0 ∷ 0 ∷ 0 ∷ []); creator = 0; seq = 0; time = 8; exponent = 2; panorama = (Absent ∷ Absent ∷ Absent ∷ []); value = Some ((118 ∷ [])); endorsed = [] } }) ∷ None ∷ None ∷ None ∷ None ∷ [])

abbrev j2 : List Vertex
j2 = []

pub record NoVertexJournal : Type 0 where
  pub answers : answers_from s [] [] ≡ ([])
  pub order : received_of s j_shuffled ≡ k
  pub kept : journal_of s [] ≡ j
  pub settled : settled_of c k ≡ units
  pub parked : names_of (parked_of c k) ≡ []
  pub dropped : names_of (dropped_of c k) ≡ []
  pub panorama : panorama_of c k ≡ (Absent ∷ Absent ∷ Absent ∷ [])
  pub weight : faulty_weight c k ≡ 0
  pub fork : name_of (fork_choice c k) ≡ None
  pub missing : map (missing_of c k units) [] ≡ ([])
  pub steps : (step s k 0 6 (118 ∷ []) ∷ step s k 0 9 (118 ∷ []) ∷ step s k 1 0 (118 ∷ []) ∷ step s k 1 4 (118 ∷ []) ∷ step s k 2 8 (118 ∷ []) ∷ step s k 2 7 (118 ∷ []) ∷ []) ≡ plans
  pub culprits : culprits_of s j j2 ≡ []
