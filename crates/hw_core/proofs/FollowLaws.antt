-- What a node keeps after a delivery.
use Rattle.std.proofs.Common.{◌≡◌, ℕ, ◌+◌, ◌≤◌, ◌<◌, Bool, true, cond, List, [], ◌∷◌, ◌++◌, length, Option, refl, sym, ap, subst, ◌∙◌, arith, None}
use Rattle.std.proofs.lemmas.List.{length-append}
use Rattle.hw_types.specs.declared.unit.Digest.{Digest}
use Rattle.hw_types.specs.declared.unit.Vertex.{Vertex}
use Rattle.hw_types.specs.declared.answers.Rule.{Rule}
use Rattle.hw_types.specs.declared.config.Config.{Config}
use Rattle.hw_types.specs.Below.{Among}
use Rattle.hw_types.specs.Spelling.{VertexFits}
use Rattle.hw_types.specs.Journal.{journal_after}
use Rattle.hw_types.specs.Real.{CoreState, setting_of, after_in}
use Rattle.hw_safety.specs.Safety.{HasPairs}
use Rattle.hw_dag.specs.declared.numbers.UnitNo.{UnitNo}
use Rattle.hw_dag.specs.Dag.{GrowsTo, graph}
use Rattle.hw_dag.specs.Admission.{PreparedUnit, IsGraph}
use Rattle.hw_admit.specs.State.{NodeState}
use Rattle.hw_park.specs.Parked.{Parked}
use Rattle.hw_core.specs.Settle.{HasMoreRoom}
use Rattle.hw_core.specs.Keeps.{IsNode, IsTable, AreRules, IsChoice, IsKept}
use Rattle.hw_core.specs.Decided.{DecidedState, IsToldOf, HasRoomFor, HasOnlyRoom, IsDecided}
use Rattle.hw_core.specs.Followed.{HasFollowed}
use Rattle.hw_core.specs.Deliver.{IsTaken}
use Rattle.hw_core.specs.Shown.{ShownState, IsShown}
use Rattle.hw_core.proofs.UnitTakeLaws.{node_roomy}
use Rattle.hw_core.proofs.DecidedLaws.{room_less, decided_roomy, decided_still, run_told, decided_after, decided_quiet}
use Rattle.hw_core.proofs.ShownLaws.{shown_after, shown_still}
use Rattle.hw_core.proofs.KeptLaws.{kept_with}
use Rattle.hw_core.proofs.StillLaws.{HasSameUnits, same_roomy}

-- the fork choice stays where at most the room of the state and the endorsements changed
choice_still : (state later : NodeState) (fork : Option UnitNo) → HasSameUnits state later → IsChoice state fork → IsChoice later fork
choice_still state later fork still is = subst (λ (t : NodeState). IsChoice t fork) (sym still) (record { choice = is.choice; known = is.known })

one_longer : (journal : List Vertex) (v : Vertex) → length journal < length (journal ++ v ∷ [])
one_longer journal v = (let l = length-append journal (v ∷ []) in omega arith)

module _ (instance : Digest) (journal : List Vertex) (names : List (Digest × ℕ)) (park : Parked PreparedUnit) (rules : List (Digest × Rule)) (room : ℕ) (state : NodeState) (fork : Option UnitNo) (decided : DecidedState) (shown : ShownState)
    (kept : IsKept instance journal park state (record { names = names; rules = rules; room = room }) (record { fork = fork; decided = decided; shown = shown })) where
  -- one vertex more was taken, and room was made before
  module _ (v : Vertex) (later : NodeState) (after : Parked PreparedUnit) (roomy : DecidedState) (node : IsNode (journal ++ v ∷ []) after later) (config : later.config ≡ state.config) (grows : GrowsTo state.dag later.dag)
      (f : IsGraph state.dag) (g : IsGraph later.dag) (more : HasOnlyRoom decided roomy) (few : HasRoomFor roomy (length (graph later.dag) + length after.waiting)) where
    -- what is followed is true of the state
    pub follow_told : IsToldOf roomy later
    follow_told = run_told journal v state later (length park.waiting) after decided roomy roomy kept.decided_is more node config f g grows few

    pub follow_room : HasRoomFor roomy (length (graph later.dag))
    follow_room = room_less roomy (length (graph later.dag)) (length (graph later.dag) + length after.waiting) (omega arith) few

    -- then the node keeps what it should
    pub kept_followed : (vs : List Vertex) → vs ≡ journal ++ v ∷ [] → (names' : List (Digest × ℕ)) (rules' : List (Digest × Rule)) (room' : ℕ) → IsTable (setting_of state.config) (journal ++ v ∷ []) names' → AreRules (setting_of state.config) (journal ++ v ∷ []) rules'
        → length after.waiting ≤ room' → ((w : Vertex) → Among w (journal ++ v ∷ []) → VertexFits w) → HasPairs (setting_of state.config) (journal ++ v ∷ [])
        → (done : DecidedState) (choice : Option UnitNo) → HasFollowed later (length vs) roomy done choice
        → (still : NodeState) → still ≡ later → IsKept instance vs after still (record { names = names'; rules = rules'; room = room' }) (record { fork = choice; decided = done; shown = shown })
    kept_followed vs is names' rules' room' table are places fit pairs done choice followed still same =
        subst (λ (t : NodeState). IsKept instance vs after t (record { names = names'; rules = rules'; room = room' }) (record { fork = choice; decided = done; shown = shown })) (sym same)
        (subst (λ (ws : List Vertex). IsKept instance ws after later (record { names = names'; rules = rules'; room = room' }) (record { fork = choice; decided = done; shown = shown })) (sym is)
        (kept_with instance journal names park rules room state fork decided shown kept (journal ++ v ∷ []) names' after rules' room' later choice done shown config table are places fit pairs node followed.choice
        (decided_after journal v state later (length park.waiting) after decided roomy done kept.decided_is more node config f g grows few (length vs) (ap (λ (ws : List Vertex). length ws) is)
        followed.observed followed.decides followed.told followed.spare followed.more)
        (shown_after (record { config = state.config; journal = journal; asked = shown.asked }) (record { config = later.config; journal = journal ++ v ∷ []; asked = shown.asked }) state later shown f g config grows (one_longer journal v) kept.shown_is)))

    -- nothing settled, and the node keeps what it should
    pub kept_quiet : HasSameUnits state later → (vs : List Vertex) → vs ≡ journal ++ v ∷ [] → (names' : List (Digest × ℕ)) (rules' : List (Digest × Rule)) (room' : ℕ) → IsTable (setting_of state.config) (journal ++ v ∷ []) names' → AreRules (setting_of state.config) (journal ++ v ∷ []) rules'
        → length after.waiting ≤ room' → ((w : Vertex) → Among w (journal ++ v ∷ []) → VertexFits w) → HasPairs (setting_of state.config) (journal ++ v ∷ [])
        → IsKept instance vs after later (record { names = names'; rules = rules'; room = room' }) (record { fork = fork; decided = roomy; shown = shown })
    kept_quiet still vs is names' rules' room' table are places fit pairs =
        subst (λ (ws : List Vertex). IsKept instance ws after later (record { names = names'; rules = rules'; room = room' }) (record { fork = fork; decided = roomy; shown = shown })) (sym is)
        (kept_with instance journal names park rules room state fork decided shown kept (journal ++ v ∷ []) names' after rules' room' later fork roomy shown config table are places fit pairs node
        (choice_still state later fork still kept.fork_is)
        (decided_quiet journal v park after state later decided roomy kept.node kept.decided_is more node f g still few)
        (shown_after (record { config = state.config; journal = journal; asked = shown.asked }) (record { config = later.config; journal = journal ++ v ∷ []; asked = shown.asked }) state later shown f g config grows (one_longer journal v) kept.shown_is))

  -- nothing was taken, and there is more room
  module _ (later : NodeState) (roomy : DecidedState) (f : IsGraph state.dag) (g : IsGraph later.dag) (still : HasMoreRoom state later) (more : HasOnlyRoom decided roomy) where
    pub kept_roomy : (vs : List Vertex) → vs ≡ journal → (names' : List (Digest × ℕ)) → names' ≡ names → (after : Parked PreparedUnit) → after ≡ park → (rules' : List (Digest × Rule)) → rules' ≡ rules → (room' : ℕ) → length after.waiting ≤ room'
        → IsKept instance vs after later (record { names = names'; rules = rules'; room = room' }) (record { fork = fork; decided = roomy; shown = shown })
    kept_roomy vs a names' b after d rules' e room' places =
        subst (λ (ws : List Vertex). IsKept instance ws after later (record { names = names'; rules = rules'; room = room' }) (record { fork = fork; decided = roomy; shown = shown })) (sym a)
        (subst (λ (ns : List (Digest × ℕ)). IsKept instance journal after later (record { names = ns; rules = rules'; room = room' }) (record { fork = fork; decided = roomy; shown = shown })) (sym b)
        (subst (λ (rs : List (Digest × Rule)). IsKept instance journal after later (record { names = names; rules = rs; room = room' }) (record { fork = fork; decided = roomy; shown = shown })) (sym e)
        (subst (λ (k : Parked PreparedUnit). length k.waiting ≤ room' → IsKept instance journal k later (record { names = names; rules = rules; room = room' }) (record { fork = fork; decided = roomy; shown = shown })) (sym d) whole places)))
      where
        config : later.config ≡ state.config
        config = ap (λ (t : NodeState). t.config) still.unchanged

        whole : length park.waiting ≤ room' → IsKept instance journal park later (record { names = names; rules = rules; room = room' }) (record { fork = fork; decided = roomy; shown = shown })
        whole fits = kept_with instance journal names park rules room state fork decided shown kept journal names park rules room' later fork roomy shown config kept.table kept.rules_are fits kept.fit kept.pairs
            (node_roomy journal park state kept.node later still.unchanged still.kept) (choice_still state later fork (same_roomy state later still) kept.fork_is)
            (decided_still (setting_of later.config) journal state later (length park.waiting) (length park.waiting) roomy f g still refl
            (subst (λ (c : Config). IsDecided (setting_of c) journal state (length park.waiting) roomy) (sym config) (decided_roomy decided roomy more (setting_of state.config) journal state (length park.waiting) kept.decided_is)))
            (subst (λ (c : Config). IsShown (record { config = c; journal = journal; asked = shown.asked }) later shown) (sym config) (shown_still (record { config = state.config; journal = journal; asked = shown.asked }) state later shown f g still kept.shown_is))

-- a vertex that is taken goes last in the journal
pub after_taken : (c later : CoreState) (v : Vertex) → later.config ≡ c.config → later.journal ≡ c.journal ++ v ∷ [] → later.asked ≡ c.asked → IsTaken c.config c.journal v → later ≡ after_in c v true
after_taken c later v config longer asked taken =
    let last : journal_after (setting_of c.config) c.journal (v, true) ≡ c.journal ++ v ∷ [] = ap (λ (b : Bool). cond b (c.journal ++ v ∷ []) c.journal) taken in
    λ i. record { config = config i; journal = (longer ∙ sym last) i; asked = asked i }
