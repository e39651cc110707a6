use Rattle.std.proofs.Common.{List, length, sym, ap, subst, ◌∙◌}
use Rattle.std.specs.List.{IsDistinct}
use Rattle.hw_names.proofs.NameLaws.{none_distinct}
use Rattle.hw_types.specs.declared.unit.Digest.{Digest}
use Rattle.hw_types.specs.Graph.{digest_eq}
use Rattle.hw_core.proofs.digest_map.DigestMap.new.Goals as goal

pub invariant_of-result : goal.invariant_of-result
invariant_of-result g c = (
  ap (λ (vs : List g.row.V.Denot). length vs) c.new-2.ensures.items ∙ sym (ap (λ (ds : List Digest). length ds) c.new.ensures),
  subst (λ (ds : List Digest). IsDistinct digest_eq ds) (sym c.new.ensures) none_distinct,
)
