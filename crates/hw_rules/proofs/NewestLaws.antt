-- What a settled unit tells of the units that it observes.
use Rattle.std.proofs.Common.{◌≡◌, ℕ, ◌<◌, ◌≤◌, true, false, List, sym, subst, arith}
use Rattle.std.specs.Prelude.{nat_lt}
use Rattle.std.specs.List.{list_all}
use Rattle.std.proofs.lemmas.Bool.{le-ltb}
use Rattle.hw_types.specs.declared.unit.Digest.{Digest}
use Rattle.hw_types.specs.declared.unit.Obs.{Obs}
use Rattle.hw_types.specs.Graph.{digest_eq, cites}
use Rattle.hw_types.specs.Below.{Among}
use Rattle.hw_types.specs.Rules.{has_digest}
use Rattle.hw_types.proofs.PastLaws.{some_of}
use Rattle.hw_types.proofs.SettledLaws.{digest_same}
use Rattle.hw_types.proofs.WordsLaws.{all_of, each_all}
use Rattle.hw_dag.specs.declared.numbers.UnitNo.{UnitNo}
use Rattle.hw_dag.specs.declared.numbers.View.TheVariants as view
use Rattle.hw_dag.specs.Dag.{UnitGraph, unit_at, count_of, creator_of, node_at, graph, view_at}
use Rattle.hw_dag.specs.Admission.{IsGraph, IsSettled}
use Rattle.hw_dag.proofs.NodeLaws.{node_among}
use Rattle.hw_dag.proofs.SlotLaws.{number_cites}
use Rattle.hw_naivety.specs.Naivety.{KeepsEndorsed}
use Rattle.hw_rules.specs.Judged.{EachNamed}

-- a list that has all of one has all that this one has
pub has_all_had : (own more less : List Digest) → list_all (has_digest own) more ≡ true → list_all (has_digest more) less ≡ true → list_all (has_digest own) less ≡ true
has_all_had own more less h k = each_all (has_digest own) less (λ d m.
    let e = some_of (digest_eq d) more (all_of (has_digest more) less k d m) in
    subst (λ (f : Digest). has_digest own f ≡ true) (sym (digest_same d e.0 e.2)) (all_of (has_digest own) more h e.0 e.1))

module _ (dag : UnitGraph) (g : IsGraph dag) (n : ℕ) (lt : n < count_of dag) where
  settled : IsSettled dag n (unit_at dag n)
  settled = g.settled n lt

  named_among : (v : ℕ) (number : UnitNo) → view_at (unit_at dag n).panorama v ≡ view.Correct number → Among (node_at dag number.0) (graph dag)
  named_among v number e = node_among dag g number.0 (settled.panorama_is.known v number e)

  named_cited : (v : ℕ) (number : UnitNo) → view_at (unit_at dag n).panorama v ≡ view.Correct number → cites (unit_at dag n).signed.unit.panorama (node_at dag number.0) ≡ true
  named_cited v number e = subst (λ (os : List Obs). cites os (node_at dag number.0) ≡ true) settled.observes (number_cites dag g (unit_at dag n).panorama v number e)

  -- they are by the validators of their slots,
  pub named_creators : EachNamed (unit_at dag n).panorama (λ v number. creator_of (unit_at dag number.0) ≡ v)
  named_creators v number e = settled.panorama_is.creator_is v number e

  -- they aren't later,
  pub named_timely : (time : ℕ) → (unit_at dag n).signed.unit.time ≤ time → EachNamed (unit_at dag n).panorama (λ v number. nat_lt time (unit_at dag number.0).signed.unit.time ≡ false)
  named_timely time within v number e = le-ltb _ _ (let before = settled.rules.timely (node_at dag number.0) (named_among v number e) (named_cited v number e) in omega arith)

  -- and their endorsed lists are parts of its own
  pub named_listed : (own : List Digest) → KeepsEndorsed (graph dag) (node_at dag n) → list_all (has_digest own) (unit_at dag n).signed.unit.endorsed ≡ true
      → EachNamed (unit_at dag n).panorama (λ v number. list_all (has_digest own) (unit_at dag number.0).signed.unit.endorsed ≡ true)
  named_listed own keeps has v number e = has_all_had own _ _ has (keeps (node_at dag number.0) (named_among v number e) (named_cited v number e))
