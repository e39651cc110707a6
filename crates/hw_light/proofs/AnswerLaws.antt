-- What a certificate is answered is what is worked out.
use Rattle.std.proofs.Common.{◌≡◌, ℕ, Bool, true, false, List, Option, Some, None, Result, Ok, Err, refl, sym, ap, subst, ◌∙◌, arith}
use Rattle.std.specs.Prelude.{◌&&◌, sum, if◌then◌else◌}
use Rattle.std.specs.List.{list_any, range_with_len}
use Rattle.hw_types.specs.declared.unit.Digest.{Digest}
use Rattle.hw_types.specs.declared.unit.Vertex.{Vertex}
use Rattle.hw_types.specs.declared.config.ConfigFault.{ConfigFault}
use Rattle.hw_types.specs.Graph.{Node, digest_eq}
use Rattle.hw_types.specs.Limits.{config_fault}
use Rattle.hw_types.specs.Real.{CoreState, received_in, settled_in}
use Rattle.hw_types.proofs.PastLaws.{some_of, any_of}
use Rattle.hw_types.proofs.SettledLaws.{digest_self, digest_same}
use Rattle.hw_types.proofs.StableLaws.{and_parts, and_whole}
use Rattle.hw_types.proofs.WordsLaws.{range_in}
use Rattle.hw_safety.specs.Decided.{quorum_at, stands}
use Rattle.hw_safety.proofs.StandLaws.{quorum_is_one, stands_is_test}
use Rattle.hw_core.specs.Readers.{exceeded_in}
use Rattle.hw_light.specs.declared.certificate.Certificate.{Certificate}
use Rattle.hw_light.specs.declared.answers.Checked.{Checked}
use Rattle.hw_light.specs.declared.answers.Checked.TheVariants.{Yes, No}
use Rattle.hw_light.specs.declared.answers.CheckFault.TheVariants.{Config as BadLimit, Refused, Exceeded, Unstood}
use Rattle.hw_light.specs.Standing.{BlockStands}
use Rattle.hw_light.specs.Checked.{RefusedAt, taken_of, node_with, with_node, IsTaken, IsStanding, IsAnswer}
use Rattle.hw_light.proofs.CheckLaws.{same_core}
use Rattle.hw_light.specs.CheckedTexts.{is_standing, fault_by, answer_by, checked_of}

-- ---- the test of standing

module _ (core : CoreState) (block : Digest) where
  abbrev at_level : Node → ℕ → Bool
  at_level x level = stands core.config (received_in core) x level (quorum_at core.config level)

  abbrev at_some : Node → Bool
  at_some x = list_any (at_level x) (range_with_len 1 core.config.levels)

  pub standing : BlockStands core block → is_standing core block ≡ true
  standing b =
      let st = b.stands in
      let low = st.low in
      let high = st.high in
      let q = quorum_is_one (sum core.config.weights) core.config.ftt b.level b.quorum low st.is_quorum in
      let test = subst (λ (n : ℕ). stands core.config (received_in core) b.unit b.level n ≡ true) q ((stands_is_test core.config (received_in core) b.unit b.level b.quorum).0 st) in
      any_of (λ (x : Node). digest_eq x.digest block && at_some x) b.unit (settled_in core) b.inside
      (and_whole (digest_eq b.unit.digest block) (at_some b.unit) (subst (λ (e : Digest). digest_eq b.unit.digest e ≡ true) b.named (digest_self b.unit.digest))
      (any_of (at_level b.unit) b.level (range_with_len 1 core.config.levels) (range_in 1 core.config.levels b.level low (omega arith)) test))

  pub standing_so : is_standing core block ≡ true → BlockStands core block
  standing_so h =
      let x = some_of (λ (x : Node). digest_eq x.digest block && at_some x) (settled_in core) h in
      let p = and_parts (digest_eq x.0.digest block) (at_some x.0) x.2 in
      let l = some_of (at_level x.0) (range_with_len 1 core.config.levels) p.1 in
      record {
        unit = x.0;
        inside = x.1;
        named = digest_same x.0.digest block p.0;
        level = l.0;
        quorum = quorum_at core.config l.0;
        stands = (stands_is_test core.config (received_in core) x.0 l.0 (quorum_at core.config l.0)).1 l.2;
      }

  pub not_standing : (BlockStands core block → ⊥) → is_standing core block ≡ false
  not_standing none = go (is_standing core block) refl
    where
      go : (b : Bool) → is_standing core block ≡ b → b ≡ false
      go true e = absurd (none (standing_so e))
      go false e = refl

-- ---- the answer

module _ (c : Certificate) (verdicts : List Bool) where
  abbrev by_limits : Option ConfigFault → Checked
  by_limits o = elim o as (λ z. Checked) [ Some fault ↦ No (BadLimit fault) | None ↦ answer_by c (taken_of c verdicts) ]

  by_taken : config_fault c.config ≡ None → (r : Result (List Vertex) RefusedAt) → taken_of c verdicts ≡ r → checked_of c verdicts ≡ answer_by c r
  unfolding checked_of
  by_taken lawful r is = ap by_limits lawful ∙ ap (answer_by c) is

  by_node : (core : CoreState) → IsTaken c verdicts core → checked_of c verdicts ≡ with_node core (fault_by core c.block (exceeded_in core))
  by_node core t =
      by_taken t.lawful (Ok core.journal) t.journal
      ∙ ap (λ (k : CoreState). with_node k (fault_by k c.block (exceeded_in k))) (sym (same_core core c.config core.journal t.config refl t.asked))

  pub answer_is : (a : Checked) → IsAnswer c verdicts a → a ≡ checked_of c verdicts
  unfolding checked_of
  answer_is (No (BadLimit fault)) is = sym (ap by_limits is)
  answer_is (No (Refused i why)) is = sym (by_taken is.0 (Err (record { place = i; cause = why })) is.1)
  answer_is (No (Exceeded w)) is = sym (by_node is.core is.taken ∙ ap (λ (o : Option ℕ). with_node is.core (fault_by is.core c.block o)) is.weight_is)
  answer_is (No Unstood) is =
      sym (by_node is.core is.taken ∙ ap (λ (o : Option ℕ). with_node is.core (fault_by is.core c.block o)) is.few_faulty
      ∙ ap (λ (b : Bool). with_node is.core (if b then None else Some Unstood)) (not_standing is.core c.block is.unstood))
  answer_is (Yes core) is =
      sym (by_node core is.taken ∙ ap (λ (o : Option ℕ). with_node core (fault_by core c.block o)) is.few_faulty
      ∙ ap (λ (b : Bool). with_node core (if b then None else Some Unstood)) (standing core c.block is.stands))

-- ---- what a worked-out yes shows

module _ (c : Certificate) (verdicts : List Bool) where
  by_fault : (core : CoreState) (k : CoreState) → IsTaken c verdicts k → (o : Option ℕ) → exceeded_in k ≡ o → with_node k (fault_by k c.block o) ≡ Yes core → IsStanding c verdicts core
  by_fault core k taken (Some w) over given = absurd cc
  by_fault core k taken None few given = go (is_standing k c.block) refl given
    where
      go : (b : Bool) → is_standing k c.block ≡ b → with_node k (if b then None else Some Unstood) ≡ Yes core → IsStanding c verdicts core
      go false e h = absurd cc
      go true e h = let same : k ≡ core = cc in subst (IsStanding c verdicts) same (record { taken = taken; few_faulty = few; stands = standing_so k c.block e })

  pub standing_of : (core : CoreState) → checked_of c verdicts ≡ Yes core → IsStanding c verdicts core
  unfolding checked_of
  standing_of core given = by_limit (config_fault c.config) refl given
    where
      by_journal : config_fault c.config ≡ None → (r : Result (List Vertex) RefusedAt) → taken_of c verdicts ≡ r → answer_by c r ≡ Yes core → IsStanding c verdicts core
      by_journal lawful (Err refused) e h = absurd cc
      by_journal lawful (Ok journal) e h =
          let k = node_with c journal in
          by_fault core k (record { lawful = lawful; config = refl; journal = e; asked = refl }) (exceeded_in k) refl h

      by_limit : (o : Option ConfigFault) → config_fault c.config ≡ o → by_limits c verdicts o ≡ Yes core → IsStanding c verdicts core
      by_limit (Some fault) e h = absurd cc
      by_limit None e h = by_journal e (taken_of c verdicts) refl h
