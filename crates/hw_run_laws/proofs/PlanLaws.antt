-- The unit of a plan is in the ranges of its types, where the vertices of the journal are.
use Rattle.std.specs.Prelude.{IfSome}
use Rattle.std.specs.List.{All}
use Rattle.std.proofs.Common.{◌≡◌, ◌⊎◌, ℕ, ◌<◌, ◌≤◌, ◌^◌, List, length, Option, Some, None, inl, inr, sym, ap, subst, arith}
use Rattle.hw_types.specs.declared.unit.Digest.{Digest}
use Rattle.hw_types.specs.declared.unit.Obs.{Obs}
use Rattle.hw_types.specs.declared.unit.Obs.TheVariants.{Absent, Correct, Faulty}
use Rattle.hw_types.specs.declared.unit.Vertex.{Vertex}
use Rattle.hw_types.specs.declared.unit.WireUnit.{WireUnit}
use Rattle.hw_types.specs.declared.config.Config.{Config}
use Rattle.hw_types.specs.declared.answers.Plan.{Plan}
use Rattle.hw_types.specs.Below.{Among}
use Rattle.hw_types.specs.Graph.{Node, cites, unit_cites}
use Rattle.hw_types.specs.Journal.{Setting, unit_of_vertex, received_of}
use Rattle.hw_types.specs.Real.{setting_of}
use Rattle.hw_types.specs.Spelling.{Fits}
use Rattle.hw_types.specs.Step.{list_of}
use Rattle.hw_types.proofs.EntryLaws.{mapped_among}
use Rattle.hw_types.proofs.JournalLaws.{received_rising}
use Rattle.hw_types.proofs.LawfulLaws.{settled_part}
use Rattle.hw_types.proofs.LimitLaws.{within_limits}
use Rattle.hw_types.proofs.OrderLaws.{received_in, unit_vertex}
use Rattle.hw_types.proofs.PastLaws.{reach_within}
use Rattle.hw_types.proofs.WordsLaws.{among_slot}
use Rattle.hw_codec.specs.Ranges.{AreBytes, DigestInRange, ObsInRange, UnitInRange, SignedInRange, VertexInRange}
use Rattle.hw_core.proofs.EndLaws.{all_at}
use Rattle.hw_honest.specs.Plans.{settled_in, IsPlannedOver, IsPlanned, JournalFits}
use Rattle.hw_honest.proofs.CountLaws.{plan_follows_own}
use Rattle.hw_honest.proofs.KeptLaws.{KeptGraph, graph_of, known, settled}
use Rattle.hw_honest.proofs.ListLaws.{list_from}
use Rattle.hw_honest.proofs.NewLaws.{plan_fits}
use Rattle.hw_honest.proofs.PlanRuleLaws.{planned_is_over_settled}
use Rattle.hw_honest.proofs.StepLaws.{chosen, IsMade, step_made}
use Rattle.hw_meeting_node.proofs.RangeLaws.{name_in_range, instance_in_range}
use Rattle.hw_run_laws.proofs.AttemptLaws.{all_of}

-- ---- settled units

module _ (config : Config) (journal : List Vertex) (each : (v : Vertex) → Among v journal → VertexInRange v) where
  abbrev s : Setting
  s = setting_of config

  abbrev units : List Node
  units = settled_in s journal

  -- its name and what it holds are in range
  record IsGood (x : Node) : Type 0 where
    name : DigestInRange x.digest
    unit : UnitInRange x.unit

  settled_good : (x : Node) → Among x units → IsGood x
  settled_good x m =
      let z = mapped_among (unit_of_vertex s) x journal (received_in s journal x ((settled_part s.config (received_of s journal) (received_rising s journal)).part x m)) in
      let w = unit_vertex s z.0 x z.2 in
      let range : SignedInRange w.0 = subst VertexInRange w.1 (each z.0 z.1) in
      subst IsGood (sym w.2) (record { name = name_in_range w.0.unit; unit = range.unit })

  named : (d : Digest) (x : Node) → Among x units → x.digest ≡ d → DigestInRange d
  named d x m is = subst DigestInRange is (settled_good x m).name

  -- ---- the unit of a plan

  module _ (me now : ℕ) (value : List ℕ) (p : Plan) (planned : IsPlanned s journal me now value p) where
    abbrev graph : KeptGraph s
    graph = graph_of s journal

    abbrev panorama : List Obs
    panorama = chosen s graph me now

    over : IsPlannedOver s (received_of s journal) units me now value p
    over = (planned_is_over_settled s journal me now value p planned).1

    made : IsMade s graph me now value p
    made = step_made s graph me now value p over.is

    observed_good : (o : Obs) → Among o panorama → ObsInRange o
    observed_good Absent m = tt
    observed_good Faulty m = tt
    observed_good (Correct d) m =
        let at = among_slot panorama (Correct d) m in
        let x = made.usable.sound.names at.0 d at.2 in
        named d x.0 x.1 x.2

    listed_good : (d : Digest) → Among d (list_of s (known s graph) (settled s graph) panorama) → DigestInRange d
    listed_good d m = elim (list_from s (known s graph) (settled s graph) panorama d m) [
      | inl w ↦ all_at DigestInRange w.0.unit.endorsed (settled_good w.0 w.1).unit.endorsed d w.3
      | inr x ↦ named d x.0 (reach_within unit_cites (cites panorama) (settled s graph) x.0 x.1) x.2
    ]

    content_good : (o : Option (List ℕ)) → ((o ≡ None) ⊎ (o ≡ Some value)) → AreBytes value → IfSome o AreBytes
    content_good o (inl e) bytes = subst (λ (q : Option (List ℕ)). IfSome q AreBytes) (sym e) tt
    content_good o (inr e) bytes = subst (λ (q : Option (List ℕ)). IfSome q AreBytes) (sym e) bytes

    pub unit_fits : JournalFits journal → now < 2 ^ 63 → length value ≤ 4096 → Fits p.unit
    unit_fits = plan_fits s journal me now value p planned

    pub unit_in_range : Fits p.unit → AreBytes value → length journal < 2 ^ 64 → UnitInRange p.unit
    unit_in_range fits bytes short =
        let own = plan_follows_own s journal me now value p planned in
        let limits = within_limits config planned.sound in
        let creator = own.0.creator in
        let validator = planned.validator in
        let few = limits.few in
        let seq = own.1 in
        let time = fits.time in
        let exponent : config.min_exponent ≡ p.unit.exponent = ap (λ (u : WireUnit). u.exponent) made.is in
        let exponents = limits.exponents in
        record {
          instance = subst DigestInRange (ap (λ (u : WireUnit). u.instance) made.is) (instance_in_range config);
          creator = omega (arith, creator, validator, few);
          seq = omega (arith, seq, short);
          time = omega (arith, time);
          exponent = omega (arith, exponent, exponents.1, exponents.2);
          panorama = subst (All ObsInRange) (ap (λ (u : WireUnit). u.panorama) made.is) (all_of ObsInRange panorama observed_good);
          value = subst (λ (o : Option (List ℕ)). IfSome o AreBytes) (ap (λ (u : WireUnit). u.value) made.is) (content_good made.content made.which bytes);
          endorsed = subst (All DigestInRange) (ap (λ (u : WireUnit). u.endorsed) made.is) (all_of DigestInRange (list_of s (known s graph) (settled s graph) panorama) listed_good);
        }
