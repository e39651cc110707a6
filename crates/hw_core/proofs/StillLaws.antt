-- What stays where nothing settles.
use Rattle.std.proofs.Common.{◌≡◌, ℕ, ◌≤◌, List, [], ◌∷◌, ◌++◌, length, sym, ap, ◌∙◌, arith}
use Rattle.std.specs.Prelude.{Result, Ok, Err, OnOk, OnErr}
use Rattle.std.proofs.lemmas.List.{length-append, length-map}
use Rattle.hw_types.specs.declared.unit.Digest.{Digest}
use Rattle.hw_types.specs.declared.answers.Rule.{Rule}
use Rattle.hw_types.specs.declared.config.Config.{Config}
use Rattle.hw_types.specs.Graph.{Node}
use Rattle.hw_types.specs.Settled.{Received}
use Rattle.hw_types.specs.laws.StateLaws.{Admits}
use Rattle.hw_dag.specs.Dag.{node_of, graph}
use Rattle.hw_dag.specs.Admission.{PreparedUnit, IsGraph}
use Rattle.hw_admit.specs.State.{NodeState}
use Rattle.hw_park.specs.Parked.{Waiting}
use Rattle.hw_core.specs.Settle.{known_in, admitted_in, waiting_nodes, HasSettled, HasMoreRoom}
use Rattle.hw_core.proofs.CountLaws.{graph_length}

-- ---- while units settle

-- where no unit settled, the state is what it was
abbrev pub IsUnmoved : NodeState → NodeState → Type 0
IsUnmoved s later = length (admitted_in later) ≡ length (admitted_in s) → later ≡ s

run_longer : (config : Config) (known : Received) (from start found : List Node) → Admits config known from start found → length start ≤ length found
run_longer config known from start found Admits.begin = omega arith
run_longer config known from start found (Admits.admit y before run m t) =
    let more = run_longer config known from start before run in
    let long = length-append before (y ∷ []) in
    omega arith

-- one unit more settled, or was dropped
pub unmoved_either : {U : Type 0} (s : NodeState) (start : List (Waiting PreparedUnit)) (t : NodeState) (waiting : List (Waiting PreparedUnit)) → HasSettled s start t waiting → IsUnmoved s t
    → (y : Node) (r : Result U Rule) (later : NodeState) → OnOk r (admitted_in later ≡ admitted_in t ++ y ∷ []) → OnErr r (later ≡ t) → IsUnmoved s later
unmoved_either s start t waiting so_far still y (Ok u) later admitted stays same =
    let more = run_longer s.config (known_in s) (waiting_nodes start) (admitted_in s) (admitted_in t) so_far.run in
    let one = ap (λ (ns : List Node). length ns) admitted in
    let long = length-append (admitted_in t) (y ∷ []) in
    absurd (omega arith)
unmoved_either s start t waiting so_far still y (Err rule) later admitted stays same = stays ∙ still (sym (ap (λ (l : NodeState). length (admitted_in l)) stays) ∙ same)

-- as many units are settled as were admitted
pub admitted_length : (s : NodeState) → IsGraph s.dag → length (admitted_in s) ≡ length (graph s.dag)
admitted_length s g = length-map s.dag.units node_of ∙ sym (graph_length s.dag g)

-- ---- where only room and endorsements changed

-- of the state at most the room and the endorsements changed
abbrev pub HasSameUnits : NodeState → NodeState → Type 0
HasSameUnits s later = later ≡ record s { spare = later.spare; dag = record s.dag { spare = later.dag.spare }; pairs = later.pairs }

pub same_roomy : (s later : NodeState) → HasMoreRoom s later → HasSameUnits s later
same_roomy s later more =
    more.unchanged
    ∙ ap (λ (ps : List (Digest × ℕ)). record s { spare = later.spare; dag = record s.dag { spare = later.dag.spare }; pairs = ps }) (sym (ap (λ (t : NodeState). t.pairs) more.unchanged))

pub same_told : (s later : NodeState) → later ≡ record s { pairs = later.pairs } → HasSameUnits s later
same_told s later told =
    let spare : s.spare ≡ later.spare = sym (ap (λ (t : NodeState). t.spare) told) in
    let room : s.dag.spare ≡ later.dag.spare = sym (ap (λ (t : NodeState). t.dag.spare) told) in
    told ∙ (λ i. record s { spare = spare i; dag = record s.dag { spare = room i }; pairs = later.pairs })

-- other pairs, which are those that the state has now
pub told_pairs : (s later : NodeState) (pairs : List (Digest × ℕ)) → later ≡ record s { pairs = pairs } → later ≡ record s { pairs = later.pairs }
told_pairs s later pairs told = told ∙ ap (λ (ps : List (Digest × ℕ)). record s { pairs = ps }) (sym (ap (λ (t : NodeState). t.pairs) told))
