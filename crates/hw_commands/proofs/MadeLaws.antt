-- What the replay of a log left.
use Rattle.std.proofs.Common.{◌≡◌, ℕ, inl, inr, true, List, ◌++◌, Option, Some, sym, ap, subst, ◌∙◌}
use Rattle.hw_types.specs.declared.config.Config.{Config}
use Rattle.hw_types.specs.Real.{CoreState}
use Rattle.hw_types.proofs.EntryLaws.{append_cases}
use Rattle.hw_core.proofs.PromiseLaws.{deliveries_are}
use Rattle.hw_safety.proofs.ClashLaws.{held_among}
use Rattle.hw_audit.proofs.ToldLaws.{AreSigned}
use Rattle.hw_replay.specs.Taken.{Taken}
use Rattle.hw_replay.specs.Replay.{same_config}
use Rattle.hw_replay.specs.Laws.{deliveries_of, IsReplayed}

-- ---- what a replay left

-- it is of the wanted configuration
pub wanted_is : (wanted : Config) (bytes : List ℕ) (t : Taken) → IsReplayed (Some wanted) bytes t → same_config wanted t.core.config ≡ true
wanted_is wanted bytes t r =
    let is = ap (λ (c : CoreState). c.config) (r.core_is ∙ (deliveries_are r.config (deliveries_of r.entries)).0) in
    subst (λ (g : Config). same_config wanted g ≡ true) (sym is) r.is_wanted

pub both_signed : (w v : Option Config) (before after : List ℕ) (t u : Taken) → IsReplayed w before t → IsReplayed v after u → AreSigned (t.core.journal ++ u.core.journal)
both_signed w v before after t u r q s m =
    let held = held_among s (t.core.journal ++ u.core.journal) m in
    elim (append_cases held.0 t.core.journal u.core.journal held.1) [
      | inl k ↦ r.signed held.0 k s held.2
      | inr k ↦ q.signed held.0 k s held.2
    ]
