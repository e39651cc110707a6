-- What a node's state plans is what its journal plans.
use Rattle.std.proofs.Common.{◌≡◌, ℕ, List, [], refl, sym, ap, ◌∙◌}
use Rattle.hw_types.specs.declared.config.Config.{Config}
use Rattle.hw_types.specs.declared.unit.Digest.{Digest}
use Rattle.hw_types.specs.declared.unit.Obs.{Obs}
use Rattle.hw_types.specs.Graph.{Node}
use Rattle.hw_types.specs.Real.{setting_of, received_in, settled_in, panorama_in}
use Rattle.hw_types.specs.Settled.{Received, is_endorsed}
use Rattle.hw_types.specs.Journal.{Setting}
use Rattle.hw_types.specs.Step.{step, step_in, chosen_panorama, is_fit, list_of}
use Rattle.hw_dag.specs.Dag.{graph, observations}
use Rattle.hw_validator.specs.Step.{known_to}
use Rattle.hw_validator.specs.Laws.{StepIsOfJournal}

-- what was received of endorsements alone
abbrev endorsed_of : Received → Received
endorsed_of r = record { units = []; with_evidence = []; endorsements = r.endorsements }

-- A step reads of what was received the endorsements alone.
step_reads : (s : Setting) (r : Received) (units : List Node) (state : List Obs) (me now : ℕ) (value : List ℕ) → step_in s r units state me now value ≡ step_in s (endorsed_of r) units state me now value
unfolding step_in chosen_panorama is_fit list_of is_endorsed
step_reads s r units state me now value = refl

-- the state of what was received plans the step of the definitions
pub step_is : StepIsOfJournal
unfolding step
step_is core st me now value of =
    ap (λ (k : Config). step_in (setting_of k) (known_to st) (graph st.dag) (observations st.dag st.panorama) me now value) of.config
    ∙ ap (λ (us : List Node). step_in (setting_of core.config) (known_to st) us (observations st.dag st.panorama) me now value) of.settled
    ∙ ap (λ (os : List Obs). step_in (setting_of core.config) (known_to st) (settled_in core) os me now value) of.panorama
    ∙ step_reads (setting_of core.config) (known_to st) (settled_in core) (panorama_in core) me now value
    ∙ ap (λ (es : List (Digest × ℕ)). let r : Received = record { units = []; with_evidence = []; endorsements = es } in step_in (setting_of core.config) r (settled_in core) (panorama_in core) me now value) of.endorsements
    ∙ sym (step_reads (setting_of core.config) (received_in core) (settled_in core) (panorama_in core) me now value)
