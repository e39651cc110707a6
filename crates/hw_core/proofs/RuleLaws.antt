-- The rules of dropped units, by name.
use Rattle.std.proofs.Common.{◌≡◌, inl, inr, Bool, true, false, cond, List, [], ◌∷◌, ◌++◌, Some, sym, ap, subst, ◌∙◌}
use Rattle.std.specs.Prelude.{Result, Ok, Err, OnOk, OnErr, IfErr}
use Rattle.hw_core.specs.Entries.{insert_entry}
use Rattle.hw_types.specs.declared.unit.Digest.{Digest}
use Rattle.hw_types.specs.declared.answers.Rule.{Rule}
use Rattle.hw_types.specs.Graph.{Node, digest_eq}
use Rattle.hw_types.specs.Below.{Among}
use Rattle.hw_types.specs.Rules.{state_rule}
use Rattle.hw_types.proofs.SettledLaws.{digest_same, digest_self}
use Rattle.hw_types.proofs.UnionLaws.{from_left, from_right}
use Rattle.hw_types.proofs.WordsLaws.{either}
use Rattle.hw_dag.specs.Dag.{graph}
use Rattle.hw_dag.specs.Admission.{PreparedUnit, node_prepared}
use Rattle.hw_admit.specs.State.{NodeState}
use Rattle.hw_park.specs.Parked.{Waiting}
use Rattle.hw_core.specs.Settle.{known_in, admitted_in, waiting_nodes, CanSettle, IsDropped, HasSettled, HasNoted, rule_in}
use Rattle.hw_core.proofs.SettleLaws.{from_start, dropped_here, dropped_on, out_or_left, run_keeps}
use Rattle.hw_core.proofs.TableLaws.{lookup_inserted}
use Rattle.hw_core.proofs.WaitLaws.{IsHandedOut}
use Rattle.hw_core.proofs.PartLaws.{part_among}

-- the rule of a name after one more is noted
pub rule_noted : (rules : List (Digest × Rule)) (k : Digest) (rule : Rule) (d : Digest) → rule_in (insert_entry digest_eq rules k rule) d ≡ cond (digest_eq d k) (Some rule) (rule_in rules d)
rule_noted rules k rule d = lookup_inserted digest_eq digest_same digest_self k rule d rules

pub noted_none : (s : NodeState) (waiting : List (Waiting PreparedUnit)) (rules : List (Digest × Rule)) → HasNoted s waiting rules s waiting rules
noted_none s waiting rules = record {
  kept = λ d rule h. (rule, h);
  only = λ d rule h. inl h;
  placed = λ x m. inr (inl m);
}

module _ (s : NodeState) (start : List (Waiting PreparedUnit)) (rules : List (Digest × Rule)) (t : NodeState) (waiting left : List (Waiting PreparedUnit)) (noted : List (Digest × Rule)) (p : PreparedUnit)
    (so_far : HasSettled s start t waiting) (notes : HasNoted s start rules t waiting noted) (can : CanSettle t waiting) (out : IsHandedOut waiting left p) where
  abbrev y : Node
  y = node_prepared p

  y_started : Among y (waiting_nodes start)
  y_started = from_start s start t waiting left p so_far can out

  -- it settled, and no rule is noted
  noted_kept : (later : NodeState) (after : List (Waiting PreparedUnit)) → admitted_in later ≡ admitted_in t ++ y ∷ [] → waiting_nodes after ≡ waiting_nodes left → HasNoted s start rules later after noted
  noted_kept later after admitted nodes = record {
    kept = notes.kept;
    only = notes.only;
    placed = λ x m. elim (notes.placed x m) [
      | inl there ↦ inl (subst (λ (ns : List Node). Among x ns) (sym admitted) (from_left x (admitted_in t) (y ∷ []) there))
      | inr rest ↦ elim rest [
        | inl waits ↦ elim (out_or_left t waiting left p can out x waits) [
          | inl e ↦ inl (subst (λ (ns : List Node). Among x ns) (sym admitted) (from_right x (admitted_in t) (y ∷ []) (inl (sym e))))
          | inr n ↦ inr (inl (subst (λ (ns : List Node). Among x ns) (sym nodes) n))
        ]
        | inr gone ↦ inr (inr gone)
      ]
    ];
  }

  -- it was dropped, and its rule is noted
  module _ (rule : Rule) (broken : state_rule t.config (graph t.dag) y ≡ Some rule) where
    abbrev more : List (Digest × Rule)
    more = insert_entry digest_eq noted p.digest rule

    own : (d : Digest) → digest_eq d p.digest ≡ true → rule_in more d ≡ Some rule
    own d e = rule_noted noted p.digest rule d ∙ ap (λ (b : Bool). cond b (Some rule) (rule_in noted d)) e

    other : (d : Digest) → digest_eq d p.digest ≡ false → rule_in more d ≡ rule_in noted d
    other d e = rule_noted noted p.digest rule d ∙ ap (λ (b : Bool). cond b (Some rule) (rule_in noted d)) e

    still_known : (d : Digest) (r : Rule) → rule_in noted d ≡ Some r → (q : Rule) × (rule_in more d ≡ Some q)
    still_known d r h = elim (either (digest_eq d p.digest)) [ inl e ↦ (rule, own d e) | inr e ↦ (r, other d e ∙ h) ]

    noted_dropped : HasNoted s start rules t left more
    noted_dropped = record {
      kept = λ d r h. let old = notes.kept d r h in still_known d old.0 old.1;
      only = λ d r h. elim (either (digest_eq d p.digest)) [
        | inl e ↦
            let same : rule ≡ r = (let f : Some rule ≡ Some r = sym (own d e) ∙ h in cc) in
            inr (y, y_started, sym (digest_same d p.digest e), subst (λ (q : Rule). IsDropped s.config (known_in s) (waiting_nodes start) (admitted_in s) y q) same (dropped_here s start t waiting left p so_far can out rule broken))
        | inr e ↦ notes.only d r (sym (other d e) ∙ h)
      ];
      placed = λ x m. elim (notes.placed x m) [
        | inl there ↦ inl there
        | inr rest ↦ elim rest [
          | inl waits ↦ elim (out_or_left t waiting left p can out x waits) [
            | inl e ↦ inr (inr (rule, own x.digest (subst (λ (z : Node). digest_eq z.digest p.digest ≡ true) (sym e) (digest_self p.digest))))
            | inr n ↦ inr (inl n)
          ]
          | inr gone ↦ inr (inr (still_known x.digest gone.0 gone.1))
        ]
      ];
    }

  -- it settled or was dropped
  pub noted_either : {U : Type 0} (r : Result U Rule) (later : NodeState) (after : List (Waiting PreparedUnit)) (written : List (Digest × Rule)) → OnOk r (admitted_in later ≡ admitted_in t ++ y ∷ [])
      → IfErr r (λ rule. state_rule t.config (graph t.dag) y ≡ Some rule) → OnErr r (later ≡ t) → OnErr r (after ≡ left) → waiting_nodes after ≡ waiting_nodes left
      → OnOk r (written ≡ noted) → IfErr r (λ rule. written ≡ insert_entry digest_eq noted p.digest rule) → HasNoted s start rules later after written
  noted_either (Ok u) later after written admitted broken stays unstruck nodes same new = subst (λ (rs : List (Digest × Rule)). HasNoted s start rules later after rs) (sym same) (noted_kept later after admitted nodes)
  noted_either (Err rule) later after written admitted broken stays unstruck nodes same new =
      subst (λ (l : NodeState). HasNoted s start rules l after written) (sym stays)
      (subst (λ (ws : List (Waiting PreparedUnit)). HasNoted s start rules t ws written) (sym unstruck)
      (subst (λ (rs : List (Digest × Rule)). HasNoted s start rules t left rs) (sym new) (noted_dropped rule broken)))

-- ---- one run after the other

module _ (s t u : NodeState) (waiting between left : List (Waiting PreparedUnit)) (rules some noted : List (Digest × Rule)) (first : HasSettled s waiting t between) (second : HasSettled t between u left)
    (early : HasNoted s waiting rules t between some) (late : HasNoted t between some u left noted) where
  pub noted_then : HasNoted s waiting rules u left noted
  noted_then = record {
    kept = λ d rule h. let one = early.kept d rule h in late.kept d one.0 one.1;
    only = λ d rule h. elim (late.only d rule h) [
      | inl old ↦ early.only d rule old
      | inr new ↦ inr (new.0, part_among new.0 (waiting_nodes between) (waiting_nodes waiting) first.still new.1, new.2, dropped_on s t u waiting between left first second new.0 rule new.3)
    ];
    placed = λ x m. elim (early.placed x m) [
      | inl there ↦ inl (run_keeps t.config (known_in t) (waiting_nodes between) (admitted_in t) (admitted_in u) second.run x there)
      | inr rest ↦ elim rest [
        | inl waits ↦ late.placed x waits
        | inr gone ↦ inr (inr (late.kept x.digest gone.0 gone.1))
      ]
    ];
  }
