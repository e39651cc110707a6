-- A node's era names the next configuration exactly where it decided the block at its end.
use Rattle.std.proofs.Common.{◌≡◌, ℕ, zero, suc, ◌+◌, ◌-◌, ◌≤◌, inl, inr, Bool, true, false, cond, List, [], ◌∷◌, length, map, Option, Some, None, Result, Ok, Err, IfOk, ◌↔◌, ◌<◌, refl, sym, ap, subst, ◌∙◌, arith}
use Rattle.std.specs.Prelude.{◌==◌, find, slice_get, unwrap_or}
use Rattle.std.specs.Option.{option_map, option_and_then}
use Rattle.std.specs.List.{range_with_len}
use Rattle.std.proofs.lemmas.Bool.{eq-eqb, eqb-true}
use Rattle.hw_types.specs.declared.unit.Digest.{Digest}
use Rattle.hw_types.specs.declared.unit.Vertex.{Vertex}
use Rattle.hw_types.specs.declared.items.OutOfMemory.{OutOfMemory}
use Rattle.hw_types.specs.declared.config.Config.{Config}
use Rattle.hw_types.specs.declared.answers.Decision.{Decision}
use Rattle.hw_types.specs.Graph.{Node, find_node}
use Rattle.hw_types.specs.Below.{Among}
use Rattle.hw_types.specs.Settled.{settled_of}
use Rattle.hw_types.specs.Journal.{Setting, received_of}
use Rattle.hw_types.specs.Decisions.{AreDecisions, received_at}
use Rattle.hw_types.specs.Real.{CoreState, setting_of}
use Rattle.hw_types.proofs.WordsLaws.{found_node, find_node_is}
use Rattle.hw_safety.proofs.ListLaws.{number_below}
use Rattle.hw_safety.proofs.StoodLaws.{settled_in, graph_in, settled_later, record_in}
use Rattle.hw_safety.proofs.DecidedChainLaws.{heights}
use Rattle.hw_dag.specs.Dag.{UnitGraph, graph, unit_at, node_at, count_of}
use Rattle.hw_dag.specs.Admission.{IsGraph, IsNew}
use Rattle.hw_dag.proofs.NodeLaws.{among_node, node_found, graph_one_name}
use Rattle.hw_eras.specs.declared.answers.EraOpen.{EraOpen}
use Rattle.hw_eras.specs.declared.answers.EraOpen.TheVariants as opening
use Rattle.hw_eras.specs.Eras.{next_config, journal_in, last_block, value_of}
use Rattle.hw_eras.specs.Nodes.{era_of, IsMadeAgain, next_of, IsUnended, IsLastBlock, first_config, last_core, AreNodeEras, IsLastUnended, IsFull}
use Rattle.hw_eras.specs.Laws.{EndedNamesNext}
use Rattle.hw_eras.proofs.EraLaws.{last_is, after_is}
use Rattle.hw_eras.proofs.NodeLaws.{era_decisions, made_at}

-- a decided block is a settled unit
decided_settled : (s : Setting) (journal : List Vertex) (ds : List Decision) → AreDecisions s journal ds → (d : Decision) → Among d ds → (b : Node) × (find_node (settled_in s journal) d.block ≡ Some b)
decided_settled s journal ds are d m =
    let r = record_in s journal ds are d m in
    let is = find_node_is (settled_of s.config (received_at s journal d.at)) r.block d.block r.found in
    (r.block, found_node (settled_in s journal) r.block d.block (graph_in s journal).one_name (settled_later s journal d.at r.block is.0) is.1)

-- ---- decisions with the heights n, n + 1 and so on

abbrev AreNumbered : ℕ → List Decision → Type 0
AreNumbered n ds = map (λ (d : Decision). d.height) ds ≡ range_with_len n (length ds)

not_equal : (m n : ℕ) → (m ≡ n → ⊥) → (m == n) ≡ false
not_equal m n differ = go (m == n) refl
  where
    go : (b : Bool) → (m == n) ≡ b → b ≡ false
    go true e = absurd (differ (eqb-true m n e))
    go false e = refl

-- that of a height is at its place
found_at : (n k m : ℕ) (ds : List Decision) → AreNumbered n ds → m ≡ n + k → find (λ (d : Decision). d.height == m) ds ≡ slice_get ds k
found_at n k m [] e is = refl
found_at n zero m (d ∷ ds) e is =
    let head : d.height ≡ n = cc in
    ap (λ b. cond b (Some d) (find (λ (x : Decision). x.height == m) ds)) (eq-eqb d.height m (omega arith))
found_at n (suc k) m (d ∷ ds) e is =
    let head : d.height ≡ n = cc in
    let tail : AreNumbered (n + 1) ds = cc in
    ap (λ b. cond b (Some d) (find (λ (x : Decision). x.height == m) ds)) (not_equal d.height m (λ same. omega arith)) ∙ found_at (n + 1) k m ds tail (omega arith)

placed : (n k : ℕ) (ds : List Decision) (d : Decision) → AreNumbered n ds → Among d ds → d.height ≡ n + k → slice_get ds k ≡ Some d
placed n k [] d e m is = absurd m
placed n zero (x ∷ xs) d e (inl same) is = ap Some same
placed n zero (x ∷ xs) d e (inr m) is = (let tail : AreNumbered (n + 1) xs = cc in let low = (number_below (λ (y : Decision). y.height) (n + 1) xs tail d m).0 in absurd (omega arith))
placed n (suc k) (x ∷ xs) d e (inl same) is = (let head : x.height ≡ n = cc in let here = ap (λ (y : Decision). y.height) same in absurd (omega arith))
placed n (suc k) (x ∷ xs) d e (inr m) is = (let tail : AreNumbered (n + 1) xs = cc in placed (n + 1) k xs d tail m (omega arith))

at_among : (ds : List Decision) (k : ℕ) (d : Decision) → slice_get ds k ≡ Some d → Among d ds
at_among [] k d e = absurd cc
at_among (x ∷ xs) zero d e = inl cc
at_among (x ∷ xs) (suc k) d e = inr (at_among xs k d e)

-- ---- the era of a node

module _ (c : CoreState) (made : IsMadeAgain c) where
  abbrev s : Setting
  s = setting_of c.config

  abbrev decided : List Decision
  decided = (era_of c).decisions

  numbered : AreNumbered 0 decided
  numbered = heights s (journal_in s (era_of c)) decided (era_decisions c made)

  -- the block that is decided at the end is the last one
  pub end_block : (end : ℕ) (d : Decision) → c.config.end ≡ Some end → slice_get decided end ≡ Some d → (b : Node) × (last_block s (era_of c) ≡ Some b) × (b.digest ≡ d.block)
  unfolding last_block
  end_block end d ends e =
      let units = settled_in s (journal_in s (era_of c)) in
      let b = decided_settled s (journal_in s (era_of c)) decided (era_decisions c made) d (at_among decided end d e) in (
        b.0,
        ap (option_and_then (λ end. option_and_then (λ (d : Decision). find_node units d.block) (find (λ (d : Decision). d.height == end) decided))) ends
            ∙ ap (option_and_then (λ (d : Decision). find_node units d.block)) (found_at 0 end end decided numbered (omega arith) ∙ e)
            ∙ b.1,
        (find_node_is units b.0 d.block b.1).1,
      )

  -- where fewer blocks are decided, none is at the end
  pub none_at_end : (end : ℕ) → c.config.end ≡ Some end → length decided ≤ end → IsUnended c
  none_at_end end ends few other d is m tall =
      let one : other ≡ end = (let both : Some other ≡ Some end = sym is ∙ ends in cc) in
      let low = (number_below (λ (y : Decision). y.height) 0 decided numbered d m).1 in
      omega arith

  -- where a block is decided at the end, there is a next configuration
  pub has_next : (b : Node) → last_block s (era_of c) ≡ Some b → next_of c ≡ Some (next_config c.config b.digest (value_of b))
  has_next b h = ap (option_map (λ (x : Node). next_config c.config x.digest (value_of x))) h

  pub ended_next : (next : Config) → next_of c ≡ Some next → IsUnended c → ⊥
  ended_next next h none =
      let b = after_is s (era_of c) next h in
      let l = last_is s (era_of c) b.0 b.1 in
      none l.end l.decision l.ends l.inside l.height_is

  none_unended : next_of c ≡ None → IsUnended c
  none_unended h end d ends m tall =
      let b = end_block end d ends (placed 0 end decided d numbered m (omega arith)) in
      let next : None ≡ Some (next_config c.config b.0.digest (value_of b.0)) = sym h ∙ has_next b.0 b.1 in
      cc

  no_next : IsUnended c → next_of c ≡ None
  no_next none = go (next_of c) refl
    where
      go : (o : Option Config) → next_of c ≡ o → o ≡ None
      go None e = refl
      go (Some next) e = absurd (ended_next next e none)

pub ended_names : EndedNamesNext
ended_names core made = (none_unended core made, no_next core made)

module _ (c : CoreState) (made : IsMadeAgain c) (block : Digest) (last : IsLastBlock c block) (dag : UnitGraph) (g : IsGraph dag) (settled : graph dag ≡ settled_of c.config (received_of (setting_of c.config) c.journal)) where
  last_among : Among last.0 (graph dag)
  last_among =
      let s = setting_of c.config in
      let l = last_is s (era_of c) last.0 last.1 in
      let m = (find_node_is (settled_in s (journal_in s (era_of c))) last.0 l.decision.block l.named).0 in
      subst (λ (xs : List Node). Among last.0 xs) (sym settled) (subst (λ (j : List Vertex). Among last.0 (settled_in s j)) made m)

  -- the last block is in the graph
  pub never_new : IsNew dag block → ⊥
  never_new new = (let n = among_node dag last.0 last_among in new n.0 n.1 (ap (λ (x : Node). x.digest) n.2 ∙ last.2))

  -- and the unit of its name is that block
  pub its_node : (n : ℕ) → n < count_of dag → (unit_at dag n).digest ≡ block → node_at dag n ≡ last.0
  its_node n lt name =
      let found = found_node (graph dag) last.0 block (graph_one_name dag) last_among last.2 in
      let both : Some (node_at dag n) ≡ Some last.0 = sym (node_found dag g n lt) ∙ ap (find_node (graph dag)) name ∙ found in
      cc

  pub next_is : (n : ℕ) → n < count_of dag → (unit_at dag n).digest ≡ block → (config : Config) (value : List ℕ) → config ≡ c.config → value ≡ unwrap_or (unit_at dag n).signed.unit.value []
      → next_of c ≡ Some (next_config config block value)
  next_is n lt name config value is says =
      let node = its_node n lt name in
      has_next c made last.0 last.1
      ∙ ap (λ (d : Digest). Some (next_config c.config d (value_of last.0))) last.2
      ∙ ap (λ (x : Node). Some (next_config c.config block (value_of x))) (sym node)
      ∙ ap (λ (v : List ℕ). Some (next_config c.config block v)) (sym says)
      ∙ ap (λ (k : Config). Some (next_config k block value)) (sym is)

pub answered_next : (c : CoreState) (answer : Result Config OutOfMemory) (made : Config) → next_of c ≡ Some made → IfOk answer (λ next. next ≡ made) → IfOk answer (λ next. next_of c ≡ Some next)
answered_next c (Ok next) made is e = is ∙ ap Some (sym e)
answered_next c (Err out) made is e = tt

-- ---- the last era of a node

module _ (cores : List CoreState) (core : CoreState) (last : last_core cores ≡ Some core) where
  pub last_unended : IsUnended core → IsLastUnended cores
  last_unended none other is =
      let same : core ≡ other = (let both : Some core ≡ Some other = sym last ∙ is in cc) in
      subst IsUnended same none

  pub last_ended : (block : Digest) → IsMadeAgain core → IsLastBlock core block → IsLastUnended cores → ⊥
  last_ended block made b none = ended_next core made (next_config core.config b.0.digest (value_of b.0)) (has_next core made b.0 b.1) (none core last)

-- the nodes of eras made their journals
pub last_made : (cores : List CoreState) (core : CoreState) → AreNodeEras cores → last_core cores ≡ Some core → IsMadeAgain core
last_made cores core are last = made_at (first_config cores) cores (length cores - 1) core are.eras last

-- ---- what is answered where the next era is to be opened

abbrev Answer : Type 0
Answer = Result (Option ℕ) EraOpen

module _ (cores : List CoreState) (core : CoreState) (last : last_core cores ≡ Some core) where
  pub unended_none : (answer : Answer) → answer ≡ Ok None → IsUnended core → (answer ≡ Ok None) ↔ IsLastUnended cores
  unended_none answer is none = (λ e. last_unended cores core last none, λ u. is)

  pub unended_full : (answer : Answer) → answer ≡ Ok None → IsUnended core → (answer ≡ Err opening.Full) ↔ IsFull cores
  unended_full answer is none = (λ e. absurd (let bad : Ok None ≡ Err opening.Full = sym is ∙ e in cc), λ full. absurd (full.0 (last_unended cores core last none)))

  module _ (block : Digest) (made : IsMadeAgain core) (ended : IsLastBlock core block) where
    pub ended_none : (answer : Answer) → (answer ≡ Ok None → ⊥) → (answer ≡ Ok None) ↔ IsLastUnended cores
    ended_none answer other = (λ e. absurd (other e), λ none. absurd (last_ended cores core last block made ended none))

    pub ended_full : (answer : Answer) → answer ≡ Err opening.Full → length cores ≡ 64 → (answer ≡ Err opening.Full) ↔ IsFull cores
    ended_full answer is long = (λ e. (last_ended cores core last block made ended, long), λ full. is)
