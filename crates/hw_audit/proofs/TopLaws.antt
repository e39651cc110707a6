-- The verdict on two nodes is accountable.
use Rattle.std.proofs.Common.{◌≡◌, ℕ, ◌<◌, List, ◌++◌, length, sym, ap, subst, ◌∙◌}
use Rattle.hw_types.specs.declared.unit.Vertex.{Vertex}
use Rattle.hw_types.specs.declared.unit.Digest.{Digest}
use Rattle.hw_types.specs.declared.config.Config.{Config}
use Rattle.hw_types.specs.declared.answers.Decision.{Decision}
use Rattle.hw_types.specs.Journal.{Setting}
use Rattle.hw_types.specs.Decisions.{AreDecisions}
use Rattle.hw_types.specs.Real.{CoreState, setting_of}
use Rattle.hw_safety.specs.Safety.{HasPairs}
use Rattle.hw_safety.proofs.DecidedLaws.{decisions_are}
use Rattle.hw_safety.proofs.HeightLaws.{one_block_each}
use Rattle.hw_safety.specs.declared.verdict.Verdict.{Verdict}
use Rattle.hw_safety.specs.declared.verdict.Verdict.TheVariants as verdict
use Rattle.hw_safety.specs.Verdicts.{chain_of, IsVerdict}
use Rattle.hw_safety.proofs.ApartLaws.{difference}
use Rattle.hw_audit.specs.Held.{HeldUnit}
use Rattle.hw_audit.specs.Read.{units_of, IsRead}
use Rattle.hw_core.specs.Decided.{decided_in}
use Rattle.hw_audit.specs.Audit.{IsVerdictOn, IsWeighty}

pub weighty : (s : Setting) (left right : List Vertex) (dl dr : List Decision) (v : Verdict) → HasPairs s left → HasPairs s right → AreDecisions s left dl → AreDecisions s right dr
    → IsVerdict s left right dl dr v → IsWeighty s.config.ftt v
weighty s left right dl dr (verdict.Agree common) left_pairs right_pairs left_decided right_decided v = tt
weighty s left right dl dr (verdict.Clash a b) left_pairs right_pairs left_decided right_decided v = tt
weighty s left right dl dr (verdict.Conflict height a b culprits weight) left_pairs right_pairs left_decided right_decided v =
    subst (λ (n : ℕ). s.config.ftt < n) (sym v.1.weight_is) (difference s left right dl dr height a b left_pairs right_pairs v.0 left_decided right_decided v.1.blocks)

-- what was read of two nodes, the left one first
pub read_is : (config : Config) (left right : List Vertex) (dl dr : List Decision) (weights : List ℕ) (first units : List HeldUnit) (middle : ℕ) (left_chain right_chain : List Digest)
    → weights ≡ config.weights → first ≡ units_of config left → units ≡ first ++ units_of config right → middle ≡ length first → left_chain ≡ chain_of dl → right_chain ≡ chain_of dr
    → IsRead config left right dl dr (record { weights = weights; units = units; middle = middle; left_chain = left_chain; right_chain = right_chain })
read_is config left right dl dr weights first units middle left_chain right_chain w f u m l r = record {
  weights_are = w;
  units_are = u ∙ ap (λ (hs : List HeldUnit). hs ++ units_of config right) f;
  middle_is = m ∙ ap (λ (hs : List HeldUnit). length hs) f;
  left_is = l;
  right_is = r;
}

-- a conflict of two nodes whose evidence are pairs is accountable
pub accountable : (c d : CoreState) (v : Verdict) → c.config ≡ d.config → IsVerdictOn c d v → HasPairs (setting_of c.config) c.journal → HasPairs (setting_of d.config) d.journal → IsWeighty c.config.ftt v
accountable c d v same is left_pairs right_pairs =
    weighty (setting_of c.config) c.journal d.journal (decided_in c) (decided_in d) v left_pairs (subst (λ (g : Config). HasPairs (setting_of g) d.journal) (sym same) right_pairs)
    (decisions_are (setting_of c.config) c.journal (one_block_each (setting_of c.config) c.journal))
    (subst (λ (g : Config). AreDecisions (setting_of g) d.journal (decided_in d)) (sym same) (decisions_are (setting_of d.config) d.journal (one_block_each (setting_of d.config) d.journal)))
    is
