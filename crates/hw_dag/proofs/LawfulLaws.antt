-- Each graph is lawful.
use Rattle.std.proofs.Common.{◌≡◌, ℕ, ◌+◌, ◌<◌, ◌⊎◌, inl, inr, zero, suc, Bool, true, false, cond, List, [], ◌∷◌, length, get_or, Some, None, refl, sym, ap, subst, ◌∙◌, arith}
use Rattle.hw_types.specs.declared.unit.Digest.{Digest}
use Rattle.hw_types.specs.declared.unit.Obs.{Obs}
use Rattle.hw_types.specs.declared.unit.Obs.TheVariants.{Correct}
use Rattle.hw_types.specs.Graph.{Node, digest_eq, is_faulty_mark, is_absent, slot, cites, observed, previous, is_consistent}
use Rattle.hw_types.specs.Below.{Among}
use Rattle.hw_types.specs.Lawful.{IsLawful}
use Rattle.hw_types.proofs.WordsLaws.{never_both}
use Rattle.hw_types.proofs.SettledLaws.{digest_same, digest_self}
use Rattle.hw_dag.specs.declared.numbers.View.{View}
use Rattle.hw_dag.specs.declared.numbers.View.TheVariants as view
use Rattle.hw_dag.specs.Dag.{SettledUnit, UnitGraph, stand_in, seq_of, creator_of, unit_at, count_of, node_of, node_at, graph, view_at, obs_of}
use Rattle.hw_dag.specs.Admission.{IsGraph}
use Rattle.hw_dag.specs.Laws.{GraphIsLawful}
use Rattle.hw_dag.proofs.NodeLaws.{graph_rising, among_node, node_among, node_found}
use Rattle.hw_dag.proofs.SlotLaws.{slot_at, length-observations, obs_number, cited_number}

-- the place of the first unit of that name
place_in : List SettledUnit → Node → ℕ
place_in [] x = 0
place_in (u ∷ us) x = cond (digest_eq u.digest x.digest) 0 (place_in us x + 1)

place_first : (us : List SettledUnit) (k : ℕ) → k < length us
    → ((j : ℕ) → j < length us → (get_or us j stand_in).digest ≡ (get_or us k stand_in).digest → j ≡ k) → place_in us (node_of (get_or us k stand_in)) ≡ k
unfolding place_in
place_first [] k lt apart = absurd (omega arith)
place_first (u ∷ us) zero lt apart = rw (digest_self u.digest) refl
place_first (u ∷ us) (suc k) lt apart = go (digest_eq u.digest (get_or us k stand_in).digest) refl
    (place_first us k (omega arith) (λ j below e. let same : suc j ≡ suc k = apart (suc j) (omega arith) e in omega arith))
  where
    go : (b : Bool) → digest_eq u.digest (get_or us k stand_in).digest ≡ b → place_in us (node_of (get_or us k stand_in)) ≡ k
        → cond b 0 (place_in us (node_of (get_or us k stand_in)) + 1) ≡ suc k
    go true e later = absurd (let no : 0 ≡ suc k = apart 0 (omega arith) (digest_same u.digest (get_or us k stand_in).digest e) in omega arith)
    go false e later = omega arith

module _ (dag : UnitGraph) (g : IsGraph dag) where
  place_is : (n : ℕ) → n < count_of dag → place_in dag.units (node_at dag n) ≡ n
  place_is n lt = place_first dag.units n lt (λ j below e. g.distinct j n below lt e)

  -- what a unit observes has a lesser number
  pub observed_earlier : (m n : ℕ) → m < count_of dag → n < count_of dag → cites (unit_at dag n).signed.unit.panorama (node_at dag m) ≡ true → m < n
  observed_earlier m n lm ln t =
      let u = g.settled n ln in
      let c = cited_number dag g (unit_at dag n).panorama m u.panorama_is.known lm (subst (λ (os : List Obs). cites os (node_at dag m) ≡ true) (sym u.observes) t) in
      subst (λ (k : ℕ). k < n) c.3 (u.earlier c.0 c.1 c.2)

  falls_at : (x u : Node) → Among x (graph dag) → Among u (graph dag) → cites u.unit.panorama x ≡ true → place_in dag.units x < place_in dag.units u
  falls_at x u mx mu t =
      let m = among_node dag x mx in
      let n = among_node dag u mu in
      let less : m.0 < n.0 = observed_earlier m.0 n.0 m.1 n.1 (subst (λ (y : Node). cites (unit_at dag n.0).signed.unit.panorama y ≡ true) (sym m.2) (subst (λ (y : Node). cites y.unit.panorama x ≡ true) (sym n.2) t)) in
      let px : place_in dag.units x ≡ m.0 = subst (λ (y : Node). place_in dag.units y ≡ m.0) m.2 (place_is m.0 m.1) in
      let pu : place_in dag.units u ≡ n.0 = subst (λ (y : Node). place_in dag.units y ≡ n.0) n.2 (place_is n.0 n.1) in
      omega arith

  closed_at : (n v : ℕ) (d : Digest) → n < count_of dag → slot (unit_at dag n).signed.unit.panorama v ≡ Correct d → (x : Node) × Among x (graph dag) × (x.digest ≡ d) × (x.unit.creator ≡ v)
  closed_at n v d lt e =
      let u = g.settled n lt in
      let k = obs_number dag (view_at (unit_at dag n).panorama v) d (sym (slot_at dag g n v lt) ∙ e) in
      (node_at dag k.0.0, node_among dag g k.0.0 (u.panorama_is.known v k.0 k.1), k.2, u.panorama_is.creator_is v k.0 k.1)

  numbered_at : (n : ℕ) → n < count_of dag
      → ((previous (graph dag) (node_at dag n) ≡ None) × (seq_of (unit_at dag n) ≡ 0)) ⊎ ((p : Node) × (previous (graph dag) (node_at dag n) ≡ Some p) × (seq_of (unit_at dag n) ≡ p.unit.seq + 1))
  numbered_at n lt = go (view_at (unit_at dag n).panorama (creator_of (unit_at dag n))) refl
    where
      own : slot (unit_at dag n).signed.unit.panorama (creator_of (unit_at dag n)) ≡ obs_of dag (view_at (unit_at dag n).panorama (creator_of (unit_at dag n)))
      own = slot_at dag g n (creator_of (unit_at dag n)) lt

      go : (w : View) → view_at (unit_at dag n).panorama (creator_of (unit_at dag n)) ≡ w
          → ((previous (graph dag) (node_at dag n) ≡ None) × (seq_of (unit_at dag n) ≡ 0)) ⊎ ((p : Node) × (previous (graph dag) (node_at dag n) ≡ Some p) × (seq_of (unit_at dag n) ≡ p.unit.seq + 1))
      go view.Absent e = inl (ap (observed (graph dag)) (own ∙ ap (obs_of dag) e), (g.settled n lt).rules.first (ap is_absent (own ∙ ap (obs_of dag) e)))
      go view.Faulty e = absurd (never_both _ (ap is_faulty_mark (own ∙ ap (obs_of dag) e)) (g.settled n lt).rules.unmarked)
      go (view.Correct number) e =
          let found : previous (graph dag) (node_at dag n) ≡ Some (node_at dag number.0) =
          ap (observed (graph dag)) (own ∙ ap (obs_of dag) e) ∙ node_found dag g number.0 ((g.settled n lt).panorama_is.known (creator_of (unit_at dag n)) number e) in
          inr (node_at dag number.0, found, (g.settled n lt).rules.next (node_at dag number.0) found)

  -- what holds of the unit of each number holds of each unit
  each_node : (P : Node → Type 0) → ((n : ℕ) → n < count_of dag → P (node_at dag n)) → (x : Node) → Among x (graph dag) → P x
  each_node P h x m = let n = among_node dag x m in subst P n.2 (h n.0 n.1)

  pub graph_lawful : (weights : List ℕ) → length weights ≡ dag.validators → IsLawful weights (λ v. true) (graph dag)
  graph_lawful weights many = record {
    in_order = graph_rising dag;
    closed = λ u v d m e. each_node (λ (x : Node). slot x.unit.panorama v ≡ Correct d → (y : Node) × Among y (graph dag) × (y.digest ≡ d) × (y.unit.creator ≡ v)) (λ n lt. closed_at n v d lt) u m e;
    rank = place_in dag.units;
    falls = falls_at;
    length_is = each_node (λ (x : Node). length x.unit.panorama ≡ length weights) (λ n lt. ap length (sym (g.settled n lt).observes) ∙ length-observations dag (unit_at dag n).panorama ∙ (g.settled n lt).panorama_is.length_is ∙ sym many);
    creator_is = each_node (λ (x : Node). x.unit.creator < length weights) (λ n lt. subst (λ (k : ℕ). creator_of (unit_at dag n) < k) (sym many) (g.settled n lt).creator_is);
    unmarked = each_node (λ (x : Node). is_faulty_mark (slot x.unit.panorama x.unit.creator) ≡ false) (λ n lt. (g.settled n lt).rules.unmarked);
    numbered = each_node (λ (x : Node). ((previous (graph dag) x ≡ None) × (x.unit.seq ≡ 0)) ⊎ ((p : Node) × (previous (graph dag) x ≡ Some p) × (x.unit.seq ≡ p.unit.seq + 1))) numbered_at;
    consistent = each_node (λ (x : Node). is_consistent (graph dag) x.unit.panorama ≡ true) (λ n lt. (g.settled n lt).rules.consistent);
    marks = λ u v m t. refl;
    forks = λ v t. refl;
  }

pub graph_is_lawful : GraphIsLawful
graph_is_lawful dag g weights many = graph_lawful dag g weights many
