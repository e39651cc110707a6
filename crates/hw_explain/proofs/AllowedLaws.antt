-- The texts are those of any decided blocks and greatest summits that the definitions allow.
use Rattle.std.proofs.Common.{◌≡◌, ℕ, suc, false, List, [], ◌∷◌, ◌++◌, Option, Some, None, refl, sym, ap, subst, ◌∙◌, arith}
use Rattle.std.specs.Prelude.{All, slice_index_or}
use Rattle.std.specs.List.{flat_map}
use Rattle.hw_types.specs.declared.unit.Vertex.{Vertex}
use Rattle.hw_types.specs.declared.answers.Decision.{Decision}
use Rattle.hw_types.specs.Graph.{Node, find_node}
use Rattle.hw_types.specs.Summit.{Committees, IsGreatest}
use Rattle.hw_types.specs.Settled.{settled_of, panorama_of}
use Rattle.hw_types.specs.Journal.{Setting, received_of}
use Rattle.hw_types.specs.Decisions.{received_at, IsRecord, AreDecisions}
use Rattle.hw_types.proofs.DecisionLaws.{decisions_one}
use Rattle.hw_safety.specs.Pruned.{pruned, pruned_committees}
use Rattle.hw_safety.specs.Decided.{decisions_of}
use Rattle.hw_safety.proofs.PrunedLaws.{summit_is_left, pruned_is_greatest}
use Rattle.hw_safety.proofs.DecidedLaws.{decisions_are}
use Rattle.hw_safety.proofs.HeightLaws.{one_block_each}
use Rattle.hw_text.specs.Lines.{line_of}
use Rattle.hw_explain.specs.Report.{final_words, exceeded_line, exceeded_in, report_with, report_text}
use Rattle.hw_explain.specs.Explain.{committee_words, committee_of, explained_line, line_of_decision, explained_lines, explained_text}
use Rattle.hw_explain.specs.Greatest.{IsGreatestOf, line_with, lines_with}
use Rattle.hw_explain.specs.Laws.{ReportIsOfDecisions, ExplainedIsOfGreatest, DecidedHaveGreatest}
use Rattle.hw_explain.proofs.GreatestLaws.{words_same}

-- any decided blocks that the definition allows are those that are worked out
module _ (s : Setting) (journal : List Vertex) (ds : List Decision) (are : AreDecisions s journal ds) where
  same_decisions : decisions_of s journal ≡ ds
  same_decisions = decisions_one s journal (decisions_of s journal) ds (decisions_are s journal (one_block_each s journal)) are

  report_same : (refused repeats : ℕ) → report_text s journal refused repeats ≡ report_with s journal ds refused repeats
  report_same refused repeats = ap (λ (es : List Decision). report_with s journal es refused repeats) same_decisions

pub report_is_of_decisions : ReportIsOfDecisions
report_is_of_decisions s journal ds refused repeats are = report_same s journal ds are refused repeats

-- ---- the summits of decided blocks

module _ (s : Setting) (journal : List Vertex) where
  -- the line by a greatest summit
  line_same : (d : Decision) (c : Committees) → IsGreatestOf s journal d c → line_of_decision s journal d ≡ line_with s.config d c
  unfolding explained_line committee_of
  line_same d c is =
      ap (λ (o : Option Node). line_of (final_words d ++ elim o as (λ z. List (List ℕ)) [
        | None ↦ []
        | Some block ↦ committee_words (λ j. pruned s.config.weights (settled_of s.config (received_at s journal d.at)) (panorama_of s.config (received_at s journal d.at)) block d.quorum j) d.level
      ])) is.found
      ∙ ap (λ (ws : List (List ℕ)). line_of (final_words d ++ ws))
      (sym (words_same s.config.weights (settled_of s.config (received_at s journal d.at)) (panorama_of s.config (received_at s journal d.at)) is.block d.level d.quorum c is.greatest))

  each_same : (summits : Decision → Committees) (ds : List Decision) → All (λ d. IsGreatestOf s journal d (summits d)) ds
      → flat_map (line_of_decision s journal) ds ≡ flat_map (λ d. line_with s.config d (summits d)) ds
  each_same summits [] all = refl
  each_same summits (d ∷ ds) all =
      ap (λ (l : List ℕ). l ++ flat_map (line_of_decision s journal) ds) (line_same d (summits d) (all 0 d (omega arith)))
      ∙ ap (λ (l : List ℕ). line_with s.config d (summits d) ++ l) (each_same summits ds (λ k e lt. all (suc k) e (omega arith)))

  lines_same : (summits : Decision → Committees) (ds : List Decision) → All (λ d. IsGreatestOf s journal d (summits d)) ds → explained_lines s journal ds ≡ lines_with s.config summits ds
  lines_same summits [] all = refl
  lines_same summits (d ∷ ds) all = each_same summits (d ∷ ds) all

pub explained_is_of_greatest : ExplainedIsOfGreatest
unfolding explained_text
explained_is_of_greatest s journal ds summits are all =
    ap (λ (l : List ℕ). l ++ exceeded_line (exceeded_in s.config (received_of s journal))) (ap (explained_lines s journal) (same_decisions s journal ds are) ∙ lines_same s journal summits ds all)

-- ---- there are such summits

module _ (s : Setting) (journal : List Vertex) where
  -- of a unit that is there, what pruning leaves
  summit_at : Decision → Option Node → Committees
  summit_at d None = record { member = λ j v. false; start = λ j v. 0 }
  summit_at d (Some block) = pruned_committees s.config.weights (settled_of s.config (received_at s journal d.at)) (panorama_of s.config (received_at s journal d.at)) block d.quorum

  abbrev summits : Decision → Committees
  summits d = summit_at d (find_node (settled_of s.config (received_at s journal d.at)) d.block)

  greatest_of : (d : Decision) → IsRecord s journal d → IsGreatestOf s journal d (summits d)
  unfolding summit_at
  greatest_of d is =
      let units = settled_of s.config (received_at s journal d.at) in
      let panorama = panorama_of s.config (received_at s journal d.at) in
      record {
        block = is.block;
        found = is.found;
        greatest = subst (λ (o : Option Node). IsGreatest s.config.weights units panorama is.block d.level d.quorum (summit_at d o)) (sym is.found)
            (pruned_is_greatest s.config.weights units panorama is.block d.quorum d.level ((summit_is_left s.config.weights units panorama is.block d.quorum d.level).0 is.stood.stands.summit));
      }

pub decided_have_greatest : DecidedHaveGreatest
decided_have_greatest s journal ds are = (summits s journal, λ k d lt. greatest_of s journal (slice_index_or ds k d) (are.each k d lt))
