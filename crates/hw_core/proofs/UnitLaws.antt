-- A unit that is delivered.
use Rattle.std.proofs.Common.{◌≡◌, ◌≢◌, ℕ, inl, inr, ◌<◌, ◌≤◌, Bool, true, false, not, cond, List, length, Option, Some, None, refl, sym, ap, subst, ◌∙◌, arith}
use Rattle.std.specs.Prelude.{◌&&◌, slice_get, Ok, Err}
use Rattle.std.specs.List.{list_any}
use Rattle.std.specs.Map.{lookup}
use Rattle.std.proofs.lemmas.Bool.Decides.{nat_tests}
use Rattle.hw_types.specs.declared.config.Config.{Config}
use Rattle.hw_types.specs.declared.unit.Digest.{Digest}
use Rattle.hw_types.specs.declared.unit.SignedUnit.{SignedUnit}
use Rattle.hw_types.specs.declared.unit.Vertex.{Vertex}
use Rattle.hw_types.specs.declared.unit.Vertex.TheVariants as vertex
use Rattle.hw_types.specs.declared.answers.Rule.{Rule}
use Rattle.hw_types.specs.declared.answers.Cause.{Cause}
use Rattle.hw_types.specs.declared.answers.Cause.TheVariants as cause
use Rattle.hw_types.specs.declared.answers.Receipt.TheVariants as receipt
use Rattle.hw_types.specs.Graph.{Node, digest_eq}
use Rattle.hw_types.specs.Below.{Among}
use Rattle.hw_types.specs.Rules.{local_rule}
use Rattle.hw_types.specs.Same.{unit_eq}
use Rattle.hw_types.specs.Settled.{Received}
use Rattle.hw_types.specs.laws.StateLaws.{units_in}
use Rattle.hw_types.specs.Spelling.{digest_of, instance_of}
use Rattle.hw_types.specs.Journal.{Setting, named, received_of, refusal, clashes, clash_among}
use Rattle.hw_types.specs.Real.{setting_of}
use Rattle.hw_types.proofs.PastLaws.{any_of}
use Rattle.hw_types.proofs.StableLaws.{and_whole}
use Rattle.hw_types.proofs.SettledLaws.{digest_same, digest_self}
use Rattle.hw_types.proofs.WordsLaws.{either, none_any}
use Rattle.hw_types.proofs.OrderLaws.{in_known, received_in}
use Rattle.hw_rounds.proofs.UnitLaws.{same_unit, other_unit}
use Rattle.hw_dag.specs.Admission.{PreparedUnit}
use Rattle.hw_rules.specs.Verdict.{verdict_of}
use Rattle.hw_admit.specs.State.{NodeState}
use Rattle.hw_park.specs.Parked.{Parked}
use Rattle.hw_core.specs.Keeps.{IsNode, IsTable}
use Rattle.hw_core.specs.Deliver.{answer_to, MayWantMemory}
use Rattle.hw_core.specs.Units.{IsNewUnit}
use Rattle.hw_core.proofs.FreshLaws.{fresh_clash, fresh_unit}
use Rattle.hw_core.proofs.AnswerLaws.{answer_refused, answer_repeat, answer_full, answer_memory}

pub verdict_broken : (o : Option Rule) (rule : Rule) → Err rule ≡ verdict_of o → o ≡ Some rule
verdict_broken None rule e = absurd cc
verdict_broken (Some r) rule e = cc

pub verdict_kept : (o : Option Rule) (x : Unit {0}) → Ok x ≡ verdict_of o → o ≡ None
verdict_kept None x e = refl
verdict_kept (Some rule) x e = absurd cc

abbrev clashed : Option Digest → Option Cause
clashed o = elim o as (λ z. Option Cause) [ Some d ↦ Some (cause.Clash d) | None ↦ None ]

abbrev refused_by : Setting → Received → SignedUnit → Option Rule → Option Cause
refused_by s k u o = elim o as (λ z. Option Cause) [ Some rule ↦ Some (cause.Local rule) | None ↦ clashed (clash_among s k.units u.unit) ]

module _ (config : Config) (journal : List Vertex) (u : SignedUnit) where
  pub broken_local : (rule : Rule) → local_rule config (instance_of config) u.unit ≡ Some rule → answer_to config journal (vertex.Unit u) ≡ Err (cause.Local rule)
  broken_local rule h = let s = setting_of config in answer_refused s journal (vertex.Unit u) (cause.Local rule) (ap (λ (o : Option Rule). refused_by s (received_of s journal) u o) h)

  refusal_is : local_rule config (instance_of config) u.unit ≡ None → (b : Bool) → list_any (clashes (setting_of config) u.unit) (received_of (setting_of config) journal).units ≡ b
      → refusal (setting_of config) journal (vertex.Unit u) ≡ clashed (cond b (Some ((setting_of config).name u.unit)) None)
  refusal_is local b e =
      let s = setting_of config in
      ap (λ (o : Option Rule). refused_by s (received_of s journal) u o) local ∙ ap (λ (x : Bool). clashed (cond x (Some (s.name u.unit)) None)) e

  pub unit_memory : local_rule config (instance_of config) u.unit ≡ None → MayWantMemory (answer_to config journal (vertex.Unit u))
  unit_memory local =
      let s = setting_of config in
      answer_memory s journal (vertex.Unit u) (elim (either (list_any (clashes s u.unit) (received_of s journal).units)) [
        | inl t ↦ inr (s.name u.unit, refusal_is local true t)
        | inr f ↦ inl (refusal_is local false f)
      ])

module _ (journal : List Vertex) (park : Parked PreparedUnit) (state : NodeState) (node : IsNode journal park state) (names : List (Digest × ℕ)) (table : IsTable (setting_of state.config) journal names) (u : SignedUnit) where
  abbrev s : Setting
  s = setting_of state.config

  abbrev v : Vertex
  v = vertex.Unit u

  abbrev k : Received
  k = received_of s journal

  module _ (local : local_rule state.config (instance_of state.config) u.unit ≡ None) where
    -- ---- a unit of that name is known

    module _ (w : SignedUnit) (n : ℕ) (at : lookup (digest_eq (s.name u.unit)) names ≡ Some n) (there : slice_get journal n ≡ Some (vertex.Unit w)) where
      known_at : (x : SignedUnit) → slice_get journal n ≡ Some (vertex.Unit x) → x ≡ w
      known_at x h = let same : Some (vertex.Unit x) ≡ Some (vertex.Unit w) = sym h ∙ there in cc

      name_same : s.name w.unit ≡ s.name u.unit
      name_same = let t = table.known (s.name u.unit) n at in ap (λ (x : SignedUnit). s.name x.unit) (sym (known_at t.0 t.1)) ∙ t.2

      among_known : Among (named s w.unit) k.units
      among_known = let t = table.known (s.name u.unit) n at in in_known s journal node.apart (named s w.unit) (subst (λ (x : SignedUnit). Among (named s x.unit) (units_in s journal)) (known_at t.0 t.1) t.3)

      pub unit_clashes : (w.unit ≡ u.unit → ⊥) → answer_to state.config journal v ≡ Err (cause.Clash (s.name u.unit))
      unit_clashes other = answer_refused s journal v (cause.Clash (s.name u.unit)) (refusal_is state.config journal u local true
          (any_of (clashes s u.unit) (named s w.unit) k.units among_known
          (and_whole (digest_eq (s.name u.unit) (s.name w.unit)) (not (unit_eq u.unit w.unit)) (subst (λ (d : Digest). digest_eq (s.name u.unit) d ≡ true) (sym name_same) (digest_self (s.name u.unit)))
          (ap not (other_unit u.unit w.unit (λ e. other (sym e)))))))

      no_clash : w.unit ≡ u.unit → (x : Node) → Among x k.units → clashes s u.unit x ≡ false
      no_clash same x m = elim (either (digest_eq (s.name u.unit) x.digest)) [
        | inr f ↦ ap (λ (b : Bool). b && not (unit_eq u.unit x.unit)) f
        | inl t ↦
            let name : x.digest ≡ s.name w.unit = sym (digest_same (s.name u.unit) x.digest t) ∙ sym name_same in
            let one : x ≡ named s w.unit = node.apart x (named s w.unit) (received_in s journal x m) (received_in s journal (named s w.unit) among_known) name in
            let unit : u.unit ≡ x.unit = sym same ∙ sym (ap (λ (z : Node). z.unit) one) in
            (λ i. t i && not (same_unit u.unit x.unit unit i))
      ]

      pub unit_repeats : w.unit ≡ u.unit → answer_to state.config journal v ≡ Ok receipt.Repeat
      unit_repeats same = answer_repeat s journal v (refusal_is state.config journal u local false (none_any (clashes s u.unit) k.units (no_clash same)))
          (any_of (λ (x : Node). unit_eq x.unit u.unit) (named s w.unit) k.units among_known (same_unit w.unit u.unit same))

    -- ---- none is

    module _ (none : (n : ℕ) (w : SignedUnit) → lookup (digest_eq (s.name u.unit)) names ≡ Some n → slice_get journal n ≡ Some (vertex.Unit w) → ⊥) where
      unlisted : lookup (digest_eq (s.name u.unit)) names ≡ None
      unlisted = go (lookup (digest_eq (s.name u.unit)) names) refl
        where
          go : (o : Option ℕ) → lookup (digest_eq (s.name u.unit)) names ≡ o → lookup (digest_eq (s.name u.unit)) names ≡ None
          go None e = e
          go (Some n) e = absurd (let t = table.known (s.name u.unit) n e in none n t.0 e t.1)

      fresh : (x : Node) → Among x (units_in s journal) → x.digest ≢ s.name u.unit
      fresh = table.unknown (s.name u.unit) unlisted

      pub unit_full : state.config.max_records ≤ length journal → answer_to state.config journal v ≡ Err cause.RecordsFull
      unit_full le = answer_full s journal v (refusal_is state.config journal u local false (none_any (clashes s u.unit) k.units (fresh_clash s journal u.unit fresh))) (none_any (λ (x : Node). unit_eq x.unit u.unit) k.units (fresh_unit s journal u.unit fresh)) (grind (arith, nat_tests))

      pub new_unit : (name : Digest) → name ≡ digest_of u.unit → length journal < state.config.max_records → IsNewUnit state.config journal u name
      new_unit name is lt = record {
        name_is = is;
        local = local;
        fresh = λ x m e. fresh x m (e ∙ is);
        not_refused = refusal_is state.config journal u local false (none_any (clashes s u.unit) k.units (fresh_clash s journal u.unit fresh));
        not_repeat = none_any (λ (x : Node). unit_eq x.unit u.unit) k.units (fresh_unit s journal u.unit fresh);
        room = grind (arith, nat_tests);
      }
