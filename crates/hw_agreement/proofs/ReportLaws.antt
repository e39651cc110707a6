-- Whom a reported conflict accuses.
use Rattle.std.proofs.Common.{◌≡◌, ◌⊎◌, inl, inr, ℕ, ◌<◌, Bool, List, ◌++◌, Option, Some, subst, arith}
use Rattle.std.specs.Io.KnownBytes.{Appends}
use Rattle.hw_types.specs.declared.unit.Vertex.{Vertex}
use Rattle.hw_types.specs.declared.config.Config.{Config}
use Rattle.hw_types.specs.declared.answers.Decision.{Decision}
use Rattle.hw_types.specs.Below.{Among}
use Rattle.hw_types.specs.Real.{setting_of}
use Rattle.hw_safety.specs.Verdicts.{ShownConflict, AreInConflict}
use Rattle.hw_core.specs.Decided.{decided_in}
use Rattle.hw_culprits.proofs.PairLaws.{culprits_show}
use Rattle.hw_culprits.proofs.InnocenceLaws.{not_named, light}
use Rattle.hw_replay.specs.Fates.{Sight}
use Rattle.hw_commands.specs.Commands.{Word, Request, Audit, Check, EraAudit, request_of}
use Rattle.hw_commands.specs.Run.{WritesText}
use Rattle.hw_commands.specs.Program.{Held, run_of}
use Rattle.hw_commands.specs.Fed.{IsTextFor, IsTextOf}
use Rattle.hw_commands.specs.Conflict.{ReportsConflict, ReportsEraConflict}
use Rattle.hw_commands.specs.Shown.{ContradictsCertificate}
use Rattle.hw_agreement.specs.Reports.{AccusesRightly, AuditsAccuseRightly, ChecksAccuseRightly, EraAuditsAccuseRightly, AccusesNoInnocent}
use Rattle.hw_agreement.proofs.LifeLaws.{signs_once}

rightly : (config : Config) (left right : List Vertex) (dl dr : List Decision) (c : ShownConflict) → AreInConflict (setting_of config) left right dl dr c → config.ftt < c.weight → AccusesRightly config left right c.culprits
rightly config left right dl dr c is exceeds = record {
  shown = culprits_show (setting_of config) left right c.culprits is.culprits_are;
  spared = λ me lived m. not_named (setting_of config) left right me (signs_once (left ++ right) me lived) (subst (λ (vs : List ℕ). Among me vs) is.culprits_are.validators_are m);
  others = λ honest lived.
      let less = light (setting_of config) left right honest (λ v h. signs_once (left ++ right) v (lived v h)) in
      let weighs = is.weight_is in
      omega arith;
}

pub audits_accuse : AuditsAccuseRightly
audits_accuse words held text r =
    let c = r.conflict.conflict in
    let left = r.conflict.first.core in
    rightly left.config left.journal c.second.core.journal (decided_in left) (decided_in c.second.core)
    (record { height = c.height; left_block = c.left_block; right_block = c.right_block; culprits = c.culprits; weight = c.weight }) c.conflict c.exceeds

pub checks_accuse : ChecksAccuseRightly
checks_accuse words held text r =
    rightly r.core.config r.first.core.journal r.core.journal (decided_in r.first.core) (decided_in r.core)
    (record { height = r.height; left_block = r.left_block; right_block = r.right_block; culprits = r.culprits; weight = r.weight }) r.conflict r.exceeds

pub era_audits_accuse : EraAuditsAccuseRightly
era_audits_accuse words held text r =
    let c = r.conflict in
    rightly c.first.config c.first.journal c.second.journal (decided_in c.first) (decided_in c.second)
    (record { height = c.height; left_block = c.left_block; right_block = c.right_block; culprits = c.culprits; weight = c.weight }) c.conflict c.exceeds

-- ---- what a run writes

module _ {B K : Type 0} (sight : Sight B K) (tells : Bool) (words : List Word) (held : Held) (before after : List B) (old new : Option (List ℕ)) where
  abbrev Texts : Type 0
  Texts = WritesText (IsTextOf sight tells words held before after) old new

  -- where the request calls no consumer, it is what words and bytes say
  went_out : (request : Option Request) → ((text : List ℕ) → IsTextFor sight tells request held (run_of words held) before after text → text ≡ (run_of words held).text)
      → request_of words ≡ request → Texts → Appends old new (run_of words held).text
  went_out request plain asked (text, (told, written)) =
      subst (λ t. Appends old new t) (plain text (subst (λ (o : Option Request). IsTextFor sight tells o held (run_of words held) before after text) asked told)) written

  pub accuses_no_innocent : ReportsConflict words held (run_of words held).text ⊎ ContradictsCertificate words held (run_of words held).text ⊎ ReportsEraConflict words held (run_of words held).text
      → Texts → AccusesNoInnocent words held old new
  accuses_no_innocent (inl r) texts =
      let text = (run_of words held).text in
      (text, (inl (r, audits_accuse words held text r), went_out (Some (Audit r.left r.right)) (λ t is. is) r.asked texts))
  accuses_no_innocent (inr (inl r)) texts =
      let text = (run_of words held).text in
      (text, (inr (inl (r, checks_accuse words held text r)), went_out (Some (Check r.file r.keys (Some r.log))) (λ t is. is) r.asked texts))
  accuses_no_innocent (inr (inr r)) texts =
      let text = (run_of words held).text in
      (text, (inr (inr (r, era_audits_accuse words held text r)), went_out (Some (EraAudit r.left r.right)) (λ t is. is) r.asked texts))
