-- A unit whose name the journal lacks.
use Rattle.std.proofs.Common.{◌≡◌, ◌≢◌, inl, inr, Bool, false, not, List, sym, ap, ◌∙◌}
use Rattle.std.specs.Prelude.{◌&&◌}
use Rattle.hw_types.specs.declared.unit.WireUnit.{WireUnit}
use Rattle.hw_types.specs.declared.unit.Vertex.{Vertex}
use Rattle.hw_types.specs.Graph.{Node, digest_eq}
use Rattle.hw_types.specs.Below.{Among}
use Rattle.hw_types.specs.Same.{unit_eq}
use Rattle.hw_types.specs.laws.StateLaws.{units_in}
use Rattle.hw_types.specs.Journal.{Setting, received_of, unit_of_vertex, clashes}
use Rattle.hw_types.proofs.SettledLaws.{digest_same}
use Rattle.hw_types.proofs.EntryLaws.{mapped_among}
use Rattle.hw_types.proofs.WordsLaws.{either}
use Rattle.hw_types.proofs.OrderLaws.{unit_vertex, received_in}
use Rattle.hw_rounds.proofs.UnitLaws.{other_unit}

module _ (s : Setting) (journal : List Vertex) (u : WireUnit) (fresh : (x : Node) → Among x (units_in s journal) → x.digest ≢ s.name u) where
  -- it clashes with none
  pub fresh_clash : (x : Node) → Among x (received_of s journal).units → clashes s u x ≡ false
  fresh_clash x m = elim (either (digest_eq (s.name u) x.digest)) [
    | inr f ↦ ap (λ (b : Bool). b && not (unit_eq u x.unit)) f
    | inl t ↦ absurd (fresh x (received_in s journal x m) (sym (digest_same (s.name u) x.digest t)))
  ]

  -- and is none of them
  pub fresh_unit : (x : Node) → Among x (received_of s journal).units → unit_eq x.unit u ≡ false
  fresh_unit x m = other_unit x.unit u (λ same.
      let from = mapped_among (unit_of_vertex s) x journal (received_in s journal x m) in
      let w = unit_vertex s from.0 x from.2 in
      fresh x (received_in s journal x m) (ap (λ (z : Node). z.digest) w.2 ∙ ap s.name (sym (ap (λ (z : Node). z.unit) w.2) ∙ same)))
