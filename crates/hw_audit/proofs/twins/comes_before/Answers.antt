use Rattle.std.proofs.Common.{◌≡◌, List, ℕ, true, false, refl, ap, sym, subst, ◌∙◌}
use Rattle.std.specs.Ordering.{is_lt}
use Rattle.hw_types.specs.declared.unit.Digest.{Digest}
use Rattle.hw_types.specs.Graph.{digest_eq, digest_lt, bytes_cmp}
use Rattle.hw_types.specs.Spelling.{unit_bytes}
use Rattle.hw_audit.specs.Held.{node_held}
use Rattle.hw_codec.specs.Ranges.{UnitInRange}
use Rattle.hw_codec.proofs.KindLaws.{unit_kind, each_spells_one}
use Rattle.hw_safety.proofs.UnitOrderLaws.{same_name, same_name_behind, other_name, other_name_behind}
use Rattle.hw_audit.proofs.twins.comes_before.Goals as goal

one_name : (c : goal.After-drop-left-inside-then-eq) → digest_eq c.args.left.now.name c.args.right.now.name ≡ true
one_name c =
    ap (λ (d : Digest). digest_eq d c.args.right.now.name) (sym c.name.ensures.name) ∙ ap (λ (d : Digest). digest_eq c.name.result.now d) (sym c.name-2.ensures.name)
    ∙ sym c.eq.ensures ∙ c.if-eq.true

spelled : (c : goal.After-drop-left-inside-then-eq) → c.is_lt.result ≡ is_lt (bytes_cmp (unit_bytes c.args.left.now.signed.unit) (unit_bytes c.args.right.now.signed.unit))
spelled c =
    c.is_lt.ensures ∙ ap is_lt (c.cmp.ensures
    ∙ ap (λ (bytes : List ℕ). bytes_cmp bytes c.as_slice-then-eq.result.now) (c.as_slice.ensures ∙ c.in_ok-left.ensures.is ∙ ap unit_bytes c.unit-then-eq-2.ensures.unit)
    ∙ ap (λ (bytes : List ℕ). bytes_cmp (unit_bytes c.args.left.now.signed.unit) bytes) (c.as_slice-then-eq.ensures ∙ c.in_ok-right.ensures.is ∙ ap unit_bytes c.unit-then-eq-3.ensures.unit))

pub returns-then-eq-clause-before : goal.returns-then-eq-clause-before
returns-then-eq-clause-before c = spelled c ∙ same_name (node_held c.args.left.now) (node_held c.args.right.now) (one_name c)

pub returns-then-eq-clause-behind : goal.returns-then-eq-clause-behind
returns-then-eq-clause-behind c e =
    same_name_behind (node_held c.args.left.now) (node_held c.args.right.now) (one_name c)
    (λ same.
    each_spells_one unit_kind (unit_bytes c.args.left.now.signed.unit) c.args.left.now.signed.unit c.args.right.now.signed.unit
    (subst UnitInRange c.unit.ensures.unit c.unit_is_in_range.ensures) (subst UnitInRange c.unit-then-eq.ensures.unit c.unit_is_in_range-then-eq.ensures)
    (record { limits = c.unit.ensures.fits; is = refl }) (record { limits = c.unit-then-eq.ensures.fits; is = same }))
    (sym (spelled c ∙ same_name (node_held c.args.left.now) (node_held c.args.right.now) (one_name c)) ∙ e)

apart : (c : goal.After-comes_before) → digest_eq c.args.left.now.name c.args.right.now.name ≡ false
apart c =
    ap (λ (d : Digest). digest_eq d c.args.right.now.name) (sym c.name.ensures.name) ∙ ap (λ (d : Digest). digest_eq c.name.result.now d) (sym c.name-2.ensures.name)
    ∙ sym c.eq.ensures ∙ c.if-eq.false

pub returns-clause-before : goal.returns-clause-before
returns-clause-before c =
    c.comes_before.ensures ∙ ap (λ (d : Digest). digest_lt d c.name-4.result.now) c.name-3.ensures.name ∙ ap (λ (d : Digest). digest_lt c.args.left.now.name d) c.name-4.ensures.name
    ∙ other_name (node_held c.args.left.now) (node_held c.args.right.now) (apart c)

pub returns-clause-behind : goal.returns-clause-behind
returns-clause-behind c e = other_name_behind (node_held c.args.left.now) (node_held c.args.right.now) (apart c) (sym (returns-clause-before c) ∙ e)
