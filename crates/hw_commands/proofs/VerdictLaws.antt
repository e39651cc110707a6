-- The text of a verdict is what the definitions give of the two journals.
use Rattle.std.proofs.Common.{◌≡◌, ℕ, false, List, ◌++◌, codes, Option, Some, None, sym, ap, ◌∙◌, append_assoc}
use Rattle.hex.specs.Hex.{encode_lower}
use Rattle.hw_types.specs.declared.unit.Vertex.{Vertex}
use Rattle.hw_types.specs.declared.config.Config.{Config}
use Rattle.hw_types.specs.declared.answers.Decision.{Decision}
use Rattle.hw_types.specs.Spelling.{unit_bytes}
use Rattle.hw_types.specs.Journal.{Setting}
use Rattle.hw_types.specs.Real.{setting_of}
use Rattle.hw_text.specs.Lines.{line_of, line_feed}
use Rattle.hw_safety.specs.Decided.{decisions_of}
use Rattle.hw_safety.specs.declared.verdict.Verdict.{Verdict}
use Rattle.hw_safety.specs.declared.verdict.Verdict.TheVariants as verdict
use Rattle.hw_safety.specs.Verdicts.{journals_clash, chain_of, IsVerdict}
use Rattle.hw_audit.specs.declared.chains.Parting.{Parting}
use Rattle.hw_audit.specs.Clashes.{UnitPair}
use Rattle.hw_audit.specs.First.{ShowsFirstClash}
use Rattle.hw_audit.specs.Chains.{parting_of}
use Rattle.hw_audit.specs.Text.{agree_line, clash_lines}
use Rattle.hw_audit.proofs.ToldLaws.{AreSigned, conflict_told, agree_part, conflict_part, none_first}
use Rattle.hw_commands.specs.declared.ended.Ended.{Ended}
use Rattle.hw_commands.specs.Texts.{clash_ended}
use Rattle.hw_commands.specs.Audited.{chains_ended, clash_or, audit_ended, verdict_ended}

-- ---- a verdict as text

clash_told : (a b : List ℕ) → record { status = 9; text = clash_lines a b } ≡ clash_ended a b
unfolding clash_lines clash_ended line_of
clash_told a b =
    let first : List ℕ = codes "clash" ++ line_feed in
    let left = encode_lower a in
    let right = encode_lower b in
    ap (λ (text : List ℕ). record { status = 9; text = text })
    (append_assoc (first ++ left ++ line_feed) right line_feed ∙ ap (λ (text : List ℕ). text ++ (right ++ line_feed)) (append_assoc first left line_feed))

module _ (config : Config) (left right : List Vertex) (signed : AreSigned (left ++ right)) where
  abbrev s : Setting
  s = setting_of config

  abbrev dl : List Decision
  dl = decisions_of s left

  abbrev dr : List Decision
  dr = decisions_of s right

  abbrev by_chains : Option Parting → Ended
  by_chains p = chains_ended s left right p

  -- without a clash the chains decide
  by_parting : journals_clash s left right ≡ false → (p : Option Parting) → parting_of (chain_of dl) (chain_of dr) ≡ p → by_chains p ≡ audit_ended s left right
  unfolding audit_ended
  by_parting none p is = ap by_chains (sym is) ∙ sym (ap (λ (o : Option UnitPair). clash_or o (by_chains (parting_of (chain_of dl) (chain_of dr)))) (none_first s left right none))

  pub verdict_told : (v : Verdict) → IsVerdict s left right dl dr v → ShowsFirstClash s left right v → verdict_ended config.ftt v ≡ audit_ended s left right
  unfolding audit_ended
  verdict_told (verdict.Agree common) is first =
      ap (λ (n : ℕ). record { status = 0; text = agree_line n }) is.1.shorter ∙ by_parting is.0 None (agree_part dl dr common is.1)
  verdict_told (verdict.Conflict height a b culprits weight) is first =
      ap (λ (text : List ℕ). record { status = 3; text = text }) (conflict_told config left right signed dl dr height a b culprits weight is.1)
      ∙ by_parting is.0 (Some (record { height = height; left = a; right = b })) (conflict_part s left right dl dr height a b culprits weight is.0 is.1)
  verdict_told (verdict.Clash a b) is first =
      clash_told a b ∙ ap (λ (x : List ℕ). clash_ended x b) first.first_bytes ∙ ap (clash_ended (unit_bytes first.pair.left)) first.second_bytes
      ∙ sym (ap (λ (o : Option UnitPair). clash_or o (by_chains (parting_of (chain_of dl) (chain_of dr)))) first.pair_is)
