-- Blocks that stood at some moment of a journal, as the journal grows.
use Rattle.std.proofs.Common.{◌≡◌, ℕ, ◌⊎◌, ◌≤◌, inl, inr, true, List, ◌++◌, length, take, drop, sym, ap, subst, ◌∙◌, arith}
use Rattle.std.specs.Prelude.{nat_lt}
use Rattle.std.proofs.lemmas.Bool.{cases_lt}
use Rattle.std.proofs.lemmas.List.{take-append-drop, take-take}
use Rattle.hw_types.specs.declared.unit.Vertex.{Vertex}
use Rattle.hw_types.specs.declared.unit.Obs.{Obs}
use Rattle.hw_types.specs.declared.answers.Decision.{Decision}
use Rattle.hw_types.specs.Graph.{Node}
use Rattle.hw_types.specs.Below.{Among}
use Rattle.hw_types.specs.Votes.{is_block, height_of, unit_fork, fork_over}
use Rattle.hw_types.specs.Settled.{settled_of, panorama_of, faulty_weight}
use Rattle.hw_types.specs.Summit.{HasSummit}
use Rattle.hw_types.specs.Journal.{Setting, received_of}
use Rattle.hw_types.specs.Decisions.{received_at, StoodAt, IsRecord, AreDecisions}
use Rattle.hw_types.specs.Lawful.{keeps}
use Rattle.hw_types.proofs.ClosureLaws.{Within}
use Rattle.hw_types.proofs.ChoiceLaws.{IsGraph}
use Rattle.hw_types.proofs.WalkLaws.{settled_graph}
use Rattle.hw_types.proofs.JournalLaws.{received_rising, longer_extends}
use Rattle.hw_types.proofs.GrowsLaws.{settled_closed, settled_grows, settled_past}
use Rattle.hw_types.proofs.SettledLaws.{digest_self, digest_same}
use Rattle.hw_types.proofs.WordsLaws.{find_node_is, named_eq}
use Rattle.hw_safety.proofs.ChainLaws.{IsUp}
use Rattle.hw_safety.proofs.ConflictLaws.{kept_while_few}
use Rattle.hw_safety.proofs.MajorityLaws.{same, past_size, anc_in, up_anc}
use Rattle.hw_safety.proofs.PrunedLaws.{summit_is_left}
use Rattle.hw_safety.proofs.StandLaws.{pruned_by_name, summit_block}
use Rattle.hw_safety.proofs.AncestorLaws.{ancestor_stands}
use Rattle.hw_safety.proofs.ChainHeightLaws as larger
use Rattle.hw_safety.proofs.ChainHeightLaws.{kept_line, kept_block}
use Rattle.hw_types.proofs.OrderedLaws.{all_among, any_is}

-- ---- the name of a block alone counts

pub summit_named : (weights : List ℕ) (units : List Node) (panorama : List Obs) (a b : Node) (level quorum : ℕ) → a.digest ≡ b.digest → HasSummit weights units panorama a level quorum → HasSummit weights units panorama b level quorum
summit_named weights units panorama a b level quorum e h =
    (summit_is_left weights units panorama b quorum level).1
    (subst (λ left. nat_lt 0 (length left) ≡ true) (pruned_by_name weights units panorama a b quorum level e) ((summit_is_left weights units panorama a quorum level).0 h))

-- ---- a journal and a longer one

abbrev pub settled_in : Setting → List Vertex → List Node
settled_in s journal = settled_of s.config (received_of s journal)

abbrev pub graph_in : (s : Setting) (journal : List Vertex) → IsGraph (settled_in s journal)
graph_in s journal = settled_graph s.config (received_of s journal) (received_rising s journal)

module _ (s : Setting) (journal more : List Vertex) where
  abbrev early : List Node
  early = settled_in s journal

  abbrev late : List Node
  late = settled_in s (journal ++ more)

  pub stays : Within early late
  stays = settled_grows s.config (received_of s journal) (received_rising s journal) (received_of s (journal ++ more)) (received_rising s (journal ++ more)) (longer_extends s journal more)

  pub parent_stays : (x : Node) → Among x early → unit_fork s.config.weights late x ≡ unit_fork s.config.weights early x
  parent_stays x m = ap (λ below. fork_over s.config.weights below x.unit.panorama)
      (settled_past s.config (received_of s journal) (received_rising s journal) (received_of s (journal ++ more)) (received_rising s (journal ++ more)) (longer_extends s journal more) x
      (settled_closed s.config (received_of s journal) (received_rising s journal) x m))

  -- ancestors and heights stay the same
  pub up_stays : (a b : Node) → Among b early → IsUp (unit_fork s.config.weights early) a b → IsUp (unit_fork s.config.weights late) a b
  up_stays = larger.up_stays s.config.weights early late (graph_in s journal) (graph_in s (journal ++ more)) parent_stays

  pub up_was : (a b : Node) → Among b early → IsUp (unit_fork s.config.weights late) a b → IsUp (unit_fork s.config.weights early) a b
  up_was = larger.up_was s.config.weights early late (graph_in s journal) (graph_in s (journal ++ more)) parent_stays

  pub height_stays : (x : Node) → Among x early → height_of s.config.weights late x ≡ height_of s.config.weights early x
  height_stays = larger.height_stays s.config.weights early late (graph_in s journal) (graph_in s (journal ++ more)) parent_stays

-- ---- the moments of a journal

-- the block is settled, and stood after so many entries
pub record Stood (s : Setting) (journal : List Vertex) (at : ℕ) (block : Node) : Type 0 where
  pub inside : Among block (settled_of s.config (received_at s journal at))
  pub level : ℕ
  pub quorum : ℕ
  pub stood : StoodAt s journal block level quorum at

module _ (s : Setting) (journal : List Vertex) where
  abbrev weights : List ℕ
  weights = s.config.weights

  abbrev units : List Node
  units = settled_in s journal

  abbrev pub units_at : ℕ → List Node
  units_at at = settled_of s.config (received_at s journal at)

  abbrev pub tall : Node → ℕ
  tall x = height_of s.config.weights (settled_in s journal) x

  joined : (m n : ℕ) → m ≤ n → take m journal ++ drop m (take n journal) ≡ take n journal
  joined m n le = ap (λ j. j ++ drop m (take n journal)) (sym (take-take m n journal le)) ∙ take-append-drop m (take n journal)

  -- what was settled at a moment is settled at the end, with the same ancestors and height
  pub settled_later : (at : ℕ) (x : Node) → Among x (units_at at) → Among x units
  settled_later at x m = subst (λ j. Among x (settled_in s j)) (take-append-drop at journal) (stays s (take at journal) (drop at journal) x m)

  pub up_later : (at : ℕ) (a b : Node) → Among b (units_at at) → IsUp (unit_fork weights (units_at at)) a b → IsUp (unit_fork weights units) a b
  up_later at a b m h = subst (λ j. IsUp (unit_fork weights (settled_in s j)) a b) (take-append-drop at journal) (up_stays s (take at journal) (drop at journal) a b m h)

  pub up_earlier : (at : ℕ) (a b : Node) → Among b (units_at at) → IsUp (unit_fork weights units) a b → IsUp (unit_fork weights (units_at at)) a b
  up_earlier at a b m h = up_was s (take at journal) (drop at journal) a b m (subst (λ j. IsUp (unit_fork weights (settled_in s j)) a b) (sym (take-append-drop at journal)) h)

  pub height_later : (at : ℕ) (x : Node) → Among x (units_at at) → tall x ≡ height_of weights (units_at at) x
  height_later at x m = subst (λ j. height_of weights (settled_in s j) x ≡ height_of weights (units_at at) x) (take-append-drop at journal) (height_stays s (take at journal) (drop at journal) x m)

  pub one_settled : (a b : Node) → Among a units → Among b units → a.digest ≡ b.digest → a ≡ b
  one_settled a b m n e = same weights units (graph_in s journal) a b m n (named_eq a b e)

  -- a block that stood stands for a settled unit
  pub stood_unit : (block : Node) (level quorum at : ℕ) → StoodAt s journal block level quorum at → (b : Node) × (block.digest ≡ b.digest) × Stood s journal at b
  stood_unit block level quorum at t =
      let st = t.stands in
      let b = summit_block weights (units_at at) (graph_in s (take at journal)) (panorama_of s.config (received_at s journal at)) block level quorum st.summit in
      let name : block.digest ≡ b.0.digest = digest_same block.digest b.0.digest b.2 in (
        b.0,
        name,
        record {
          inside = b.1;
          level = level;
          quorum = quorum;
          stood = record {
            in_journal = t.in_journal;
            few_faulty = t.few_faulty;
            stands = record {
              low = st.low;
              high = st.high;
              is_quorum = st.is_quorum;
              summit = summit_named weights (units_at at) (panorama_of s.config (received_at s journal at)) block b.0 level quorum name st.summit;
            };
          };
        },
      )

  -- its ancestors stood too
  pub ancestor_stood : (at : ℕ) (a b : Node) → Stood s journal at b → IsUp (unit_fork weights units) a b → Stood s journal at a
  ancestor_stood at a b t h =
      let was = up_earlier at a b t.inside h in
      let graph = graph_in s (take at journal) in
      let st = t.stood in record {
        inside = (anc_in weights (units_at at) graph a b t.inside was).0;
        level = t.level;
        quorum = t.quorum;
        stood = record {
          in_journal = st.in_journal;
          few_faulty = st.few_faulty;
          stands = ancestor_stands s (take at journal) (length (units_at at)) a b t.level t.quorum t.inside
              (up_anc weights (units_at at) graph (length (units_at at)) a a b (past_size weights (units_at at) graph b.unit.panorama) (digest_self a.digest) was) st.stands;
        };
      }

  -- while few are faulty, what stood is the fork choice or an ancestor of it
  pub kept_at : (m n : ℕ) (x : Node) → m ≤ n → Stood s journal m x → faulty_weight s.config (received_at s journal n) ≤ s.config.ftt
      → keeps weights (units_at n) (panorama_of s.config (received_at s journal n)) x ≡ true
  kept_at m n x le t few = subst (λ j. keeps weights (settled_in s j) (panorama_of s.config (received_of s j)) x ≡ true) (joined m n le)
      (kept_while_few s (take m journal) (drop m (take n journal)) x t.level t.quorum t.stood.stands (subst (λ j. faulty_weight s.config (received_of s j) ≤ s.config.ftt) (sym (joined m n le)) few))

  pub stays_at : (m n : ℕ) → m ≤ n → Within (units_at m) (units_at n)
  stays_at m n le x k = subst (λ j. Among x (settled_in s j)) (joined m n le) (stays s (take m journal) (drop m (take n journal)) x k)

  later_line : (m n : ℕ) (a b : Node) → m ≤ n → Stood s journal m a → Stood s journal n b → IsUp (unit_fork weights units) a b ⊎ IsUp (unit_fork weights units) b a
  later_line m n a b le t u =
      let panorama = panorama_of s.config (received_at s journal n) in
      let in_a = stays_at m n le a t.inside in
      elim (kept_line weights (units_at n) (graph_in s (take n journal)) panorama a b in_a u.inside (kept_at m n a le t u.stood.few_faulty) (kept_at n n b (omega arith) u u.stood.few_faulty)) [
        | inl h ↦ inl (up_later n a b u.inside h)
        | inr h ↦ inr (up_later n b a in_a h)
      ]

  -- two blocks that stood are on one chain
  pub stood_line : (m n : ℕ) (a b : Node) → Stood s journal m a → Stood s journal n b → IsUp (unit_fork weights units) a b ⊎ IsUp (unit_fork weights units) b a
  stood_line m n a b t u = elim (cases_lt m n) [
    | inl lt ↦ later_line m n a b (omega arith) t u
    | inr le ↦ elim (later_line n m b a le u t) [ inl h ↦ inr h | inr h ↦ inl h ]
  ]

  pub stood_block : (m : ℕ) (a : Node) → Stood s journal m a → is_block a ≡ true
  stood_block m a t = kept_block weights (units_at m) (graph_in s (take m journal)) (panorama_of s.config (received_at s journal m)) a t.inside (kept_at m m a (omega arith) t t.stood.few_faulty)

  -- ---- records

  pub record_stood : (d : Decision) (r : IsRecord s journal d) → Stood s journal d.at r.block
  record_stood d r = record { inside = (find_node_is (units_at d.at) r.block d.block r.found).0; level = d.level; quorum = d.quorum; stood = r.stood }

  pub record_name : (d : Decision) (r : IsRecord s journal d) → r.block.digest ≡ d.block
  record_name d r = (find_node_is (units_at d.at) r.block d.block r.found).1

  pub record_height : (d : Decision) (r : IsRecord s journal d) → d.height ≡ tall r.block
  record_height d r = r.height ∙ sym (height_later d.at r.block (record_stood d r).inside)

  module _ (ds : List Decision) (decided : AreDecisions s journal ds) where
    pub record_in : (d : Decision) → Among d ds → IsRecord s journal d
    record_in d m = all_among (IsRecord s journal) ds decided.each d m

    -- what stood has a record
    pub recorded : (at : ℕ) (x : Node) → Stood s journal at x → (d : Decision) × (r : IsRecord s journal d) × Among d ds × (r.block ≡ x) × (d.at ≤ at)
    recorded at x t =
        let d = any_is (λ (e : Decision). e.block ≡ x.digest) ds (decided.complete x t.level t.quorum at t.stood) in
        let r = record_in d.0 d.1 in
        let is : r.block ≡ x = one_settled r.block x (settled_later d.0.at r.block (record_stood d.0 r).inside) (settled_later at x t.inside) (record_name d.0 r ∙ d.2) in (
          d.0,
          r,
          d.1,
          is,
          r.first at t.level t.quorum (subst (λ z. StoodAt s journal z t.level t.quorum at) (sym is) t.stood),
        )
