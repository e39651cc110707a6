-- Tables that are those of the levels are the greatest summit, where somebody is left.
use Rattle.std.proofs.Common.{◌≡◌, ℕ, zero, suc, ◌-◌, ◌+◌, ◌≤◌, Bool, true, cond, List, [], ◌∷◌, length, Option, Some, None, refl, sym, ap, subst, ◌∙◌, arith}
use Rattle.std.specs.Prelude.{◌&&◌, nat_le, is_some, ◌↔◌}
use Rattle.std.specs.List.{list_any}
use Rattle.std.proofs.lemmas.Bool.{le-leb}
use Rattle.hw_types.specs.declared.unit.Obs.{Obs}
use Rattle.hw_types.specs.Graph.{Node}
use Rattle.hw_types.specs.Summit.{Committees, IsSummit, HasSummit, IsGreatest, sees_from, seen_weight}
use Rattle.hw_types.proofs.StableLaws.{both_ways, and_parts, and_whole}
use Rattle.hw_types.proofs.SummitLaws.{weight_le}
use Rattle.hw_safety.specs.Pruned.{or_zero, start_in, pruned, pruned_committees}
use Rattle.hw_safety.proofs.PrunedLaws.{pruned_is_summit, pruned_least, pruned_is_greatest, summit_is_left}
use Rattle.hw_horizon.specs.Tables.{Starts, entry, SameMembers, table_after, pruned_table}
use Rattle.hw_horizon.specs.Search.{Search, table_of, start_of, committees_of}
use Rattle.hw_horizon.proofs.TableLaws.{rounds_enough, table_shows}
use Rattle.hw_horizon.proofs.RoundLaws.{level_table}

pub some_entry : (t : Starts) → list_any is_some t ≡ true → (v : ℕ) × (is_some (entry t v) ≡ true)
some_entry [] h = absurd cc
some_entry (None ∷ os) h = let rest = some_entry os h in (suc rest.0, rest.1)
some_entry (Some x ∷ os) h = (0, refl)

pub entry_some : (t : Starts) (v : ℕ) → is_some (entry t v) ≡ true → list_any is_some t ≡ true
entry_some [] v h = absurd cc
entry_some (None ∷ os) zero h = absurd cc
entry_some (Some x ∷ os) v h = refl
entry_some (None ∷ os) (suc v) h = entry_some os v h

-- of two tables with the same members both have one or neither
pub same_any : (s t : Starts) → SameMembers s t → list_any is_some s ≡ list_any is_some t
same_any s t same = both_ways (list_any is_some s) (list_any is_some t) (λ h. let v = some_entry s h in entry_some t v.0 (sym (same v.0) ∙ v.1)) (λ h. let v = some_entry t h in entry_some s v.0 (same v.0 ∙ v.1))

module _ (weights : List ℕ) (units : List Node) (panorama : List Obs) (block : Node) (quorum : ℕ) where
  -- those who are left over the table of a level are the members of the next one
  pub member_above : (k j : ℕ) (lower t : Starts) → lower ≡ pruned_table weights units panorama block quorum k → length lower ≡ length weights
      → SameMembers t (table_after (length weights) weights units panorama quorum lower) → j ≡ k + 1 → list_any is_some t ≡ list_any is_some (pruned_table weights units panorama block quorum j)
  member_above k j lower t e len same one =
      same_any t (pruned_table weights units panorama block quorum j)
      (λ v. same v ∙ sym (rounds_enough weights units panorama quorum lower len v)
      ∙ ap (λ (s : Starts). is_some (entry s v)) (level_table weights units panorama quorum block k j lower (table_after (suc (length weights)) weights units panorama quorum lower) e refl one))

  abbrev true_levels : Committees
  true_levels = pruned_committees weights units panorama block quorum

  abbrev Agrees : ℕ → Committees → Committees → Type 0
  Agrees level c d = (j v : ℕ) → j ≤ level → (c.member j v ≡ d.member j v) × (c.start j v ≡ d.start j v)

  -- what agrees with a summit at its levels is one
  agreeing_summit : (level : ℕ) (c d : Committees) → Agrees level c d → IsSummit weights units panorama block level quorum d → IsSummit weights units panorama block level quorum c
  agreeing_summit level c d a t = record {
    correct_slot = λ v h. t.correct_slot v (sym (a 0 v (omega arith)).0 ∙ h);
    nested = λ j v lt h.
        let up = a (j + 1) v (omega arith) in let here = a j v (omega arith) in
        let m = t.nested j v lt (sym up.0 ∙ h) in
        let e = up.1 in let f = here.1 in let le = m.1 in
        (here.0 ∙ m.0, omega arith);
    not_empty = (t.not_empty.0, (a level t.not_empty.0 (omega arith)).0 ∙ t.not_empty.1);
    start_in_lane = λ j v u le h e. let here = a j v le in let f = here.1 in let r = t.start_in_lane j v u le (sym here.0 ∙ h) e in omega arith;
    votes = λ v u h e x m from. let here = a 0 v (omega arith) in let f = here.1 in t.votes v u (sym here.0 ∙ h) e x m (omega arith);
    quorums = λ j v u pos le h e x m from.
        let here = a j v le in let f = here.1 in
        let q = t.quorums j v u pos le (sym here.0 ∙ h) e x m (omega arith) in
        let more : seen_weight weights units d j x ≤ seen_weight weights units c j x =
        weight_le weights (λ w. d.member j w && sees_from units x w (d.start (j - 1) w)) (λ w. c.member j w && sees_from units x w (c.start (j - 1) w))
        (λ w g. let parts = and_parts (d.member j w) (sees_from units x w (d.start (j - 1) w)) g in
        and_whole (c.member j w) (sees_from units x w (c.start (j - 1) w)) ((a j w le).0 ∙ parts.0)
        (subst (λ k. sees_from units x w k ≡ true) (sym (a (j - 1) w (omega arith)).1) parts.1)) in
        omega arith;
  }

  entry_is : (level v : ℕ) → entry (pruned_table weights units panorama block quorum level) v ≡ start_in (pruned weights units panorama block quorum level) v
  entry_is level v = table_shows weights units panorama block quorum level v

  -- somebody is left exactly where a summit exists
  pub left_where_summit : (level : ℕ) → (list_any is_some (pruned_table weights units panorama block quorum level) ≡ true) ↔ HasSummit weights units panorama block level quorum
  left_where_summit level = (
    λ h. let v = some_entry (pruned_table weights units panorama block quorum level) h in (true_levels, pruned_is_summit weights units panorama block quorum level v.0 (sym (ap is_some (entry_is level v.0)) ∙ v.1)),
    λ h. let b = pruned_least weights units panorama block quorum level h.0 h.1 level (omega arith) h.1.not_empty.0 h.1.not_empty.1 in
        entry_some (pruned_table weights units panorama block quorum level) h.1.not_empty.0 (ap is_some (entry_is level h.1.not_empty.0 ∙ b.1)),
  )

  -- and then tables that are those of the levels are the greatest
  pub kept_greatest : (s : Search) (level : ℕ) → s.found ≡ Some level → ((k : ℕ) → k ≤ level → table_of s.tables k ≡ pruned_table weights units panorama block quorum k)
      → list_any is_some (pruned_table weights units panorama block quorum level) ≡ true → IsGreatest weights units panorama block level quorum (committees_of s)
  kept_greatest s level found tables h =
      let has = (summit_is_left weights units panorama block quorum level).0 ((left_where_summit level).0 h) in
      let g = pruned_is_greatest weights units panorama block quorum level has in
      record {
        summit = agreeing_summit level (committees_of s) true_levels agrees g.summit;
        greatest = λ d t j v le m. let b = g.greatest d t j v le m in let a = agrees j v le in let f = a.1 in let low = b.1 in (a.0 ∙ b.0, omega arith);
      }
    where
      kept_start : (j v : ℕ) → j ≤ level → start_of s j v ≡ start_in (pruned weights units panorama block quorum j) v
      kept_start j v le =
          ap (λ (o : Option ℕ). elim o as (λ _. Option ℕ) [ None ↦ None | Some top ↦ cond (nat_le j top) (entry (table_of s.tables j) v) None ]) found
          ∙ ap (λ (b : Bool). cond b (entry (table_of s.tables j) v) None) (le-leb j level le)
          ∙ ap (λ (t : Starts). entry t v) (tables j le)
          ∙ entry_is j v

      agrees : Agrees level (committees_of s) true_levels
      agrees j v le = let e = kept_start j v le in (ap is_some e, ap or_zero e)
