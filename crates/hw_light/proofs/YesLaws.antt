-- A yes is accountable.
use Rattle.std.proofs.Common.{◌≡◌, inl, inr, List, Some, refl, sym, subst, ◌∙◌, arith}
use Rattle.std.specs.Prelude.{slice_get}
use Rattle.hw_types.specs.declared.config.Config.{Config}
use Rattle.hw_types.specs.declared.unit.Vertex.{Vertex}
use Rattle.hw_types.specs.Decisions.{AreDecisions}
use Rattle.hw_types.specs.declared.answers.Decision.{Decision}
use Rattle.hw_types.proofs.OrderedLaws.{any_is}
use Rattle.hw_types.specs.Real.{CoreState, setting_of}
use Rattle.hw_core.specs.Decided.{decided_in}
use Rattle.hw_safety.proofs.DecidedLaws.{decisions_are}
use Rattle.hw_safety.proofs.HeightLaws.{one_block_each}
use Rattle.hw_agree.specs.Certificates.{journal_from}
use Rattle.hw_agree.specs.Certificates.{delivered}
use Rattle.hw_agree.proofs.CertificateLaws.{decided as certified_is_decided}
use Rattle.hw_safety.specs.declared.verdict.Verdict.{Verdict}
use Rattle.hw_safety.specs.declared.verdict.Verdict.TheVariants as verdict
use Rattle.hw_safety.specs.Safety.{HasPairs}
use Rattle.hw_safety.specs.Verdicts.{chain_of, IsVerdict, IsAccountable}
use Rattle.hw_safety.proofs.DecidedChainLaws.{heights}
use Rattle.hw_safety.proofs.VerdictLaws.{never_apart}
use Rattle.hw_safety.proofs.VerdictHeightLaws.{place_of}
use Rattle.hw_safety.proofs.ApartLaws.{difference}
use Rattle.hw_safety.proofs.PairLaws.{delivered_pairs}
use Rattle.hw_light.specs.Laws.{YesIsDecided, YesIsAccountable}

-- the decided blocks of a node with this configuration and journal
are_decided : (core : CoreState) (config : Config) (journal : List Vertex) → core.config ≡ config → core.journal ≡ journal → AreDecisions (setting_of config) journal (decided_in core)
are_decided core config journal same is =
    subst (λ (k : Config). AreDecisions (setting_of k) journal (decided_in core)) same
    (subst (λ (j : List Vertex). AreDecisions (setting_of core.config) j (decided_in core)) is
    (decisions_are (setting_of core.config) core.journal (one_block_each (setting_of core.config) core.journal)))

pub decided : YesIsDecided
decided c core is = certified_is_decided (setting_of c.config) c.vertices c.block (decided_in core) is.certifies (are_decided core c.config (journal_from (setting_of c.config) c.vertices) is.config is.journal)

pub accountable : YesIsAccountable
accountable c core other e v is same pairs among at_height differs told = go v told
  where
    mine : AreDecisions (setting_of c.config) core.journal (decided_in core)
    mine = are_decided core c.config core.journal is.config refl

    theirs : AreDecisions (setting_of c.config) other.journal (decided_in other)
    theirs = are_decided other c.config other.journal same refl

    pairs_too : HasPairs (setting_of c.config) core.journal
    pairs_too = subst (λ (j : List Vertex). HasPairs (setting_of c.config) j) (sym is.journal) (delivered_pairs (setting_of c.config) (delivered c.vertices))

    go : (w : Verdict) → IsVerdict (setting_of c.config) core.journal other.journal (decided_in core) (decided_in other) w → IsAccountable c.config.ftt w
    go (verdict.Agree common) found =
        let d = any_is (λ (d : Decision). (d.block ≡ c.block) × (d.height ≡ e.height)) (decided_in core) at_height in
        let p = place_of (decided_in core) 0 d.0 (heights (setting_of c.config) core.journal (decided_in core) mine) d.1 in
        let q = place_of (decided_in other) 0 e (heights (setting_of c.config) other.journal (decided_in other) theirs) among in
        let low = p.1 in
        let high = q.1 in
        let tall = d.2.1 in
        let one_place : p.0 ≡ q.0 = omega arith in
        let there = subst (λ k. slice_get (chain_of (decided_in core)) k ≡ Some d.0.block) one_place p.2 in
        elim found.1.begins [
          | inl b ↦ absurd (differs (sym (never_apart (chain_of (decided_in core)) (chain_of (decided_in other)) q.0 d.0.block e.block b there q.2) ∙ d.2.0))
          | inr b ↦ absurd (differs (never_apart (chain_of (decided_in other)) (chain_of (decided_in core)) q.0 e.block d.0.block b q.2 there ∙ d.2.0))
        ]
    go (verdict.Conflict height a b culprits weight) found =
        let is_weight = found.1.weight_is in
        let more = difference (setting_of c.config) core.journal other.journal (decided_in core) (decided_in other) height a b pairs_too pairs found.0 mine theirs found.1.blocks in
        omega arith
    go (verdict.Clash a b) found = tt
