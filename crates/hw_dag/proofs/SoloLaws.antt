-- A graph of one validator.
use Rattle.std.proofs.Common.{◌≡◌, ℕ, zero, suc, ◌+◌, ◌<◌, ◌≤◌, inl, inr, Bool, true, false, not, List, [], ◌∷◌, length, Option, Some, None, refl, sym, ap, subst, ◌∙◌, arith}
use Rattle.std.specs.Prelude.{◌||◌}
use Rattle.hw_types.specs.declared.unit.Obs.{Obs}
use Rattle.hw_types.specs.declared.unit.Obs.TheVariants.{Absent, Correct, Faulty}
use Rattle.hw_types.specs.Graph.{Node, digest_eq, is_faulty_mark, is_absent, is_some_and, slot, slots, cites, find_node, observed, latest, is_on_lane, obs_at_most, is_at_most, is_consistent}
use Rattle.hw_types.specs.Below.{Among}
use Rattle.hw_types.specs.Votes.{is_block}
use Rattle.hw_types.proofs.PastLaws.{or_cases}
use Rattle.hw_types.proofs.SettledLaws.{digest_self}
use Rattle.hw_types.proofs.WordsLaws.{each_all, never_both, range_below, find_node_is}
use Rattle.hw_dag.specs.declared.numbers.View.{View}
use Rattle.hw_dag.specs.declared.numbers.View.TheVariants as view
use Rattle.hw_dag.specs.Dag.{UnitGraph, unit_at, count_of, node_at, graph, creator_of, seq_of, view_at, obs_of}
use Rattle.hw_dag.specs.Admission.{IsGraph, KeepsRules}
use Rattle.hw_dag.proofs.NodeLaws.{among_node, node_among, node_found, graph_one_name}
use Rattle.hw_dag.proofs.SlotLaws.{slot_at, length-observations}
use Rattle.hw_dag.proofs.ChainLaws.{lane_further}
use Rattle.hw_dag.proofs.LaneLaws.{even_weights, all_faulty, lawful, on_own_lane, among_on_lane}
use Rattle.hw_dag.proofs.DepthLaws.{follows_own}

-- a unit of the only validator that observes no unit, or this one
pub record IsNext (dag : UnitGraph) (u : Node) (o : Obs) : Type 0 where
  pub panorama_is : u.unit.panorama ≡ o ∷ []
  pub creator_is : u.unit.creator ≡ 0
  pub block : is_block u ≡ true

pub record IsAfter (dag : UnitGraph) (u : Node) (n : ℕ) : Type 0 where
  pub known : n < count_of dag
  pub seq_is : u.unit.seq ≡ seq_of (unit_at dag n) + 1
  pub time_is : (unit_at dag n).signed.unit.time ≤ u.unit.time

module _ (dag : UnitGraph) (g : IsGraph dag) (one : dag.validators ≡ 1) where
  creator_zero : (n : ℕ) → n < count_of dag → creator_of (unit_at dag n) ≡ 0
  creator_zero n lt = let c = (g.settled n lt).creator_is in omega arith

  node_zero : (x : Node) → Among x (graph dag) → x.unit.creator ≡ 0
  node_zero x m = let n = among_node dag x m in subst (λ (y : Node). y.unit.creator ≡ 0) n.2 (creator_zero n.0 n.1)

  found_zero : (os : List Obs) (v : ℕ) (x : Node) → latest (graph dag) os v ≡ Some x → x.unit.creator ≡ 0
  found_zero os v x e = go (slot os v) e
    where
      go : (o : Obs) → observed (graph dag) o ≡ Some x → x.unit.creator ≡ 0
      go Absent h = absurd cc
      go Faulty h = absurd cc
      go (Correct d) h = node_zero x (find_node_is (graph dag) x d h).0

  creators_are : (o : Obs) (v : ℕ) (x : Node) → latest (graph dag) (o ∷ []) v ≡ Some x → x.unit.creator ≡ v
  creators_are o zero x e = found_zero (o ∷ []) zero x e
  creators_are o (suc v) x e = absurd (let no : None ≡ Some x = e in cc)

  -- the first unit
  pub first_rules : (u : Node) → IsNext dag u Absent → u.unit.seq ≡ 0 → KeepsRules (graph dag) u
  unfolding is_consistent
  first_rules u next zero_is = record {
    unmarked = ap is_faulty_mark own;
    first = λ t. zero_is;
    sighted = λ f. absurd (never_both (is_block u) next.block f);
    creators = λ v x e. creators_are Absent v x (subst (λ (os : List Obs). latest (graph dag) os v ≡ Some x) next.panorama_is e);
    next = λ p e. absurd (let no : None ≡ Some p = sym (ap (observed (graph dag)) own) ∙ e in cc);
    consistent = subst (λ (os : List Obs). is_consistent (graph dag) os ≡ true) (sym next.panorama_is) (each_all _ (graph dag) (λ w m. refl));
    timely = λ w m t. absurd (let no : false ≡ true = subst (λ (os : List Obs). cites os w ≡ true) next.panorama_is t in cc);
  }
    where
      own : slot u.unit.panorama u.unit.creator ≡ Absent
      own = ap (λ (os : List Obs). slot os u.unit.creator) next.panorama_is ∙ ap (λ (v : ℕ). slot (Absent ∷ []) v) next.creator_is

  -- the one that a single observation names
  single : (n : ℕ) (w : Node) → n < count_of dag → Among w (graph dag) → cites (Correct (unit_at dag n).digest ∷ []) w ≡ true → w ≡ node_at dag n
  single n w lt m t = elim (or_cases (digest_eq (unit_at dag n).digest w.digest) false t) [
    | inl here ↦ graph_one_name dag w (node_at dag n) w.digest m (node_among dag g n lt) (digest_self w.digest) here
    | inr none ↦ absurd cc
  ]

  own_at_most : (n : ℕ) → n < count_of dag → obs_at_most (graph dag) (slot (unit_at dag n).signed.unit.panorama 0) (Correct (unit_at dag n).digest) ≡ true
  own_at_most n lt = go (view_at (unit_at dag n).panorama 0) refl
    where
      at : slot (unit_at dag n).signed.unit.panorama 0 ≡ obs_of dag (view_at (unit_at dag n).panorama 0)
      at = slot_at dag g n 0 lt

      zero_is : creator_of (unit_at dag n) ≡ 0
      zero_is = creator_zero n lt

      go : (w : View) → view_at (unit_at dag n).panorama 0 ≡ w → obs_at_most (graph dag) (slot (unit_at dag n).signed.unit.panorama 0) (Correct (unit_at dag n).digest) ≡ true
      go view.Absent e = ap (λ (o : Obs). obs_at_most (graph dag) o (Correct (unit_at dag n).digest)) (at ∙ ap (obs_of dag) e)
      go view.Faulty e = absurd (never_both _ (ap is_faulty_mark (ap (λ (v : ℕ). slot (unit_at dag n).signed.unit.panorama v) zero_is ∙ at ∙ ap (obs_of dag) e)) (g.settled n lt).rules.unmarked)
      go (view.Correct p) e =
          let own : view_at (unit_at dag n).panorama (creator_of (unit_at dag n)) ≡ view.Correct p = ap (λ (v : ℕ). view_at (unit_at dag n).panorama v) zero_is ∙ e in
          let known = (g.settled n lt).panorama_is.known (creator_of (unit_at dag n)) p own in
          let lane = among_on_lane dag g p.0 n (lane_further (even_weights dag) all_faulty (graph dag) (lawful dag g) (node_at dag n) (node_at dag p.0) (node_at dag n) (on_own_lane dag g n lt) (node_among dag g p.0 known) (follows_own dag g n p lt own)) in
          let high = node_found dag g n lt in
          let low = node_found dag g p.0 known in
          ap (λ (o : Obs). obs_at_most (graph dag) o (Correct (unit_at dag n).digest)) (at ∙ ap (obs_of dag) e)
          ∙ ap (λ (h : Option Node). is_some_and (λ (y : Node). is_some_and (λ (x : Node). is_on_lane (graph dag) x y) (find_node (graph dag) (unit_at dag p.0).digest)) h) high
          ∙ ap (λ (h : Option Node). is_some_and (λ (x : Node). is_on_lane (graph dag) x (node_at dag n)) h) low ∙ lane

  -- the unit after another one
  pub next_rules : (u : Node) (n : ℕ) → IsNext dag u (Correct (unit_at dag n).digest) → IsAfter dag u n → KeepsRules (graph dag) u
  unfolding is_consistent is_at_most
  next_rules u n next after = record {
    unmarked = ap is_faulty_mark own;
    first = λ t. absurd (let no : false ≡ true = sym (ap is_absent own) ∙ t in cc);
    sighted = λ f. absurd (never_both (is_block u) next.block f);
    creators = λ v x e. creators_are (Correct (unit_at dag n).digest) v x (subst (λ (os : List Obs). latest (graph dag) os v ≡ Some x) next.panorama_is e);
    next = λ p e. let same : node_at dag n ≡ p = (let s : Some (node_at dag n) ≡ Some p = sym (ap (observed (graph dag)) own ∙ node_found dag g n after.known) ∙ e in cc) in after.seq_is ∙ ap (λ (x : Node). x.unit.seq + 1) same;
    consistent = subst (λ (os : List Obs). is_consistent (graph dag) os ≡ true) (sym next.panorama_is) (each_all _ (graph dag) (λ w m. cited w (cites (Correct (unit_at dag n).digest ∷ []) w) refl m));
    timely = λ w m t. subst (λ (x : Node). x.unit.time ≤ u.unit.time) (sym (single n w after.known m (subst (λ (os : List Obs). cites os w ≡ true) next.panorama_is t))) after.time_is;
  }
    where
      own : slot u.unit.panorama u.unit.creator ≡ Correct (unit_at dag n).digest
      own = ap (λ (os : List Obs). slot os u.unit.creator) next.panorama_is ∙ ap (λ (v : ℕ). slot (Correct (unit_at dag n).digest ∷ []) v) next.creator_is

      many : length (unit_at dag n).signed.unit.panorama ≡ 1
      many = ap length (sym (g.settled n after.known).observes) ∙ length-observations dag (unit_at dag n).panorama ∙ (g.settled n after.known).panorama_is.length_is ∙ one

      each_slot : (v : ℕ) → Among v (slots (unit_at dag n).signed.unit.panorama) → obs_at_most (graph dag) (slot (unit_at dag n).signed.unit.panorama v) (slot (Correct (unit_at dag n).digest ∷ []) v) ≡ true
      each_slot v m =
          let below = (range_below 0 (length (unit_at dag n).signed.unit.panorama) v m).1 in
          let same : 0 ≡ v = (let len = many in omega arith) in
          subst (λ (k : ℕ). obs_at_most (graph dag) (slot (unit_at dag n).signed.unit.panorama k) (slot (Correct (unit_at dag n).digest ∷ []) k) ≡ true) same (own_at_most n after.known)

      cited : (w : Node) (b : Bool) → cites (Correct (unit_at dag n).digest ∷ []) w ≡ b → Among w (graph dag) → (not b || is_at_most (graph dag) w.unit.panorama (Correct (unit_at dag n).digest ∷ [])) ≡ true
      cited w false e m = refl
      cited w true e m = subst (λ (x : Node). is_at_most (graph dag) x.unit.panorama (Correct (unit_at dag n).digest ∷ []) ≡ true) (sym (single n w after.known m e)) (each_all _ (slots (unit_at dag n).signed.unit.panorama) each_slot)
