-- A run step by step.
use Rattle.std.proofs.Common.{◌≡◌, ℕ, suc, ◌+◌, ◌-◌, ◌*◌, ◌/◌, ◌%◌, ◌^◌, ◌<◌, ◌≤◌, Bool, true, false, cond, List, ◌∷◌, length, refl, sym, ap, subst, ◌∙◌, arith}
use Rattle.std.specs.Prelude.{◌||◌, ◌==◌, filter, fold}
use Rattle.std.proofs.lemmas.Nat.{mod_below}
use Rattle.rand_chacha.specs.ChaCha.{key_of}
use Rattle.hw_types.specs.declared.config.Config.{Config}
use Rattle.hw_types.specs.Journal.{Setting}
use Rattle.hw_types.specs.Real.{setting_of}
use Rattle.hw_honest.specs.declared.cluster.Action.{Action}
use Rattle.hw_honest.specs.declared.cluster.Action.TheVariants.{Step, Deliver}
use Rattle.hw_honest.specs.declared.cluster.Acted.{Acted}
use Rattle.hw_honest.specs.Cluster.{Cluster, begun, acted, after, answers_in}
use Rattle.hw_honest.specs.Simulated.{next_action, actions_from, is_refused, culprits_in, IsMostDecisions, sim_config, sim_key, sim_setting, sim_actions, AreNumbers}
use Rattle.hw_cluster.specs.Nodes.{ClusterState, begun_with, nodes_in, CanAct, acted_in, left_by}
use Rattle.hw_cluster.specs.Numbers.{WordStream, word_in, action_at}
use Rattle.hw_cluster.proofs.NodesLaws.{nodes_stay}

-- the action that two words choose can be done
pub next_can : (c : ClusterState) (nodes k x y : ℕ) → 1 ≤ nodes → nodes ≡ nodes_in c → k < 2 ^ 32 → CanAct c (next_action nodes c.cluster k x y)
next_can c nodes k x y some e small = go ((x % 2 == 0) || (length c.cluster.sent == 0))
  where
    there : y % nodes < nodes_in c
    there = (let lt = mod_below y nodes (omega arith) in let same = e in omega arith)

    go : (b : Bool) → CanAct c (cond b (Step (y % nodes) (16 + k)) (Deliver (y % nodes) (x / 2 % length c.cluster.sent)))
    go true = (there, omega arith)
    go false = there

-- one where it is so, else none
abbrev pub one_if : Bool → ℕ
one_if b = cond b 1 0

more_counted : (next refused one here rest left before all : ℕ) → next ≡ refused + one → one ≡ here → rest ≡ left → before ≡ here + left → refused + before ≡ all → next + rest ≡ all
more_counted next refused one here rest left before all g e f h old = omega arith

module _ (s : Setting) (nodes : ℕ) (word : ℕ → ℕ) where
  -- the action of a step
  abbrev act_at : Cluster → ℕ → Action
  act_at c k = next_action nodes c k (word (2 * k)) (word (2 * k + 1))

  -- what n steps leave
  abbrev left_in : Cluster → ℕ → ℕ → Cluster
  left_in c n k = fold (after s nodes) c (actions_from s nodes word c n k)

  -- how many of n steps are refused
  abbrev refused_in : Cluster → ℕ → ℕ → ℕ
  refused_in c n k = length (filter is_refused (answers_in s nodes c (actions_from s nodes word c n k)))

  left_more : (c : Cluster) (n k : ℕ) → left_in c (suc n) k ≡ left_in (after s nodes c (act_at c k)) n (k + 1)
  unfolding actions_from
  left_more c n k = refl

  refused_more : (c : Cluster) (n k : ℕ) → refused_in c (suc n) k ≡ cond (is_refused (acted s nodes c (act_at c k))) 1 0 + refused_in (after s nodes c (act_at c k)) n (k + 1)
  unfolding actions_from answers_in
  refused_more c n k = go (is_refused (acted s nodes c (act_at c k)))
    where
      go : (b : Bool) → length (cond b (acted s nodes c (act_at c k) ∷ filter is_refused (answers_in s nodes (after s nodes c (act_at c k)) (actions_from s nodes word (after s nodes c (act_at c k)) n (k + 1)))) (filter is_refused (answers_in s nodes (after s nodes c (act_at c k)) (actions_from s nodes word (after s nodes c (act_at c k)) n (k + 1)))))
          ≡ cond b 1 0 + refused_in (after s nodes c (act_at c k)) n (k + 1)
      go true = omega arith
      go false = omega arith

  -- After k of the steps the rest of them leaves what all leave, and refuses what all refuse but so many.
  pub record IsAlong (first : Cluster) (steps : ℕ) (c : Cluster) (refused k : ℕ) : Type 0 where
    pub left : left_in c (steps - k) k ≡ left_in first steps 0
    pub counted : refused + refused_in c (steps - k) k ≡ refused_in first steps 0

  pub along_first : (first : Cluster) (steps : ℕ) → IsAlong first steps first 0 0
  along_first first steps = record { left = ap (λ n. left_in first n 0) whole; counted = (let e = ap (λ n. refused_in first n 0) whole in omega arith) }
    where
      whole : steps - 0 ≡ steps
      whole = omega arith

  pub along_more : (first : Cluster) (steps : ℕ) (c later : Cluster) (refused next k : ℕ) (a : Action) → k < steps → a ≡ act_at c k → later ≡ after s nodes c a → next ≡ refused + cond (is_refused (acted s nodes c a)) 1 0
      → IsAlong first steps c refused k → IsAlong first steps later next (k + 1)
  along_more first steps c later refused next k a lt e f g old = record {
    left = ap (λ (d : Cluster). left_in d (steps - (k + 1)) (k + 1)) is ∙ sym (left_more c (steps - (k + 1)) k) ∙ ap (λ n. left_in c n k) (sym down) ∙ old.left;
    counted = more_counted next refused (one_if (is_refused (acted s nodes c a))) (one_if (is_refused (acted s nodes c (act_at c k)))) (refused_in later (steps - (k + 1)) (k + 1)) (refused_in (after s nodes c (act_at c k)) (steps - (k + 1)) (k + 1))
        (refused_in c (steps - k) k) (refused_in first steps 0) g (ap (λ (b : Action). one_if (is_refused (acted s nodes c b))) e) (ap (λ (d : Cluster). refused_in d (steps - (k + 1)) (k + 1)) is)
        (ap (λ n. refused_in c n k) down ∙ refused_more c (steps - (k + 1)) k) old.counted;
  }
    where
      down : steps - k ≡ suc (steps - (k + 1))
      down = omega arith

      is : later ≡ after s nodes c (act_at c k)
      is = f ∙ ap (after s nodes c) e

  pub along_last : (first : Cluster) (steps : ℕ) (c : Cluster) (refused k : ℕ) → steps ≤ k → IsAlong first steps c refused k → (c ≡ left_in first steps 0) × (refused ≡ refused_in first steps 0)
  unfolding actions_from answers_in
  along_last first steps c refused k le old = (sym (nothing_left (steps - k) (omega arith)) ∙ old.left, (let none = nothing_refused (steps - k) (omega arith) in let e = old.counted in omega arith))
    where
      nothing_left : (n : ℕ) → n ≡ 0 → left_in c n k ≡ c
      nothing_left n z = ap (λ m. left_in c m k) z

      nothing_refused : (n : ℕ) → n ≡ 0 → refused_in c n k ≡ 0
      nothing_refused n z = ap (λ m. refused_in c m k) z

-- ---- a cluster that runs

-- After k of the steps the cluster is of the first one's configuration and nodes, and the rest leaves and refuses what is left.
pub record IsRunning (first : ClusterState) (key : List ℕ) (nodes steps : ℕ) (c : ClusterState) (refused k : ℕ) : Type 0 where
  pub config : c.config ≡ first.config
  pub many : nodes ≡ nodes_in c
  pub few : refused ≤ k
  pub along : IsAlong (setting_of first.config) nodes (word_in key) first.cluster steps c.cluster refused k

pub running_first : (first : ClusterState) (key : List ℕ) (nodes steps : ℕ) → nodes ≡ nodes_in first → IsRunning first key nodes steps first 0 0
running_first first key nodes steps e = record { config = refl; many = e; few = omega arith; along = along_first (setting_of first.config) nodes (word_in key) first.cluster steps }

module _ (first : ClusterState) (key : List ℕ) (nodes steps : ℕ) (c : ClusterState) (refused k : ℕ) (old : IsRunning first key nodes steps c refused k) where
  abbrev next : Action
  next = action_at key nodes c.cluster k

  left_is : (later : ClusterState) → later ≡ left_by c next → later.cluster ≡ after (setting_of first.config) nodes c.cluster next
  left_is later e =
      ap (λ (d : ClusterState). d.cluster) e
      ∙ ap (λ (g : Config). after (setting_of g) (nodes_in c) c.cluster next) old.config
      ∙ ap (λ n. after (setting_of first.config) n c.cluster next) (sym old.many)

  answer_is : acted_in c next ≡ acted (setting_of first.config) nodes c.cluster next
  answer_is = ap (λ (g : Config). acted (setting_of g) (nodes_in c) c.cluster next) old.config ∙ ap (λ n. acted (setting_of first.config) n c.cluster next) (sym old.many)

  pub running_more : (later : ClusterState) (n more : ℕ) → k < steps → later ≡ left_by c next → n ≡ one_if (is_refused (acted_in c next)) → more ≡ refused + n → n ≤ 1 → IsRunning first key nodes steps later more (k + 1)
  running_more later n more lt e f g le = record {
    config = ap (λ (d : ClusterState). d.config) e ∙ old.config;
    many = old.many ∙ sym (ap (λ (d : ClusterState). nodes_in d) e ∙ nodes_stay c next);
    few = (let few = old.few in omega arith);
    along = along_more (setting_of first.config) nodes (word_in key) first.cluster steps c.cluster later.cluster refused more k next lt refl (left_is later e)
        (g ∙ ap (λ m. refused + m) (f ∙ ap (λ (a : Acted). one_if (is_refused a)) answer_is)) old.along;
  }

  pub run_left : steps ≤ k → c ≡ record { config = first.config; cluster = fold (after (setting_of first.config) nodes) first.cluster (actions_from (setting_of first.config) nodes (word_in key) first.cluster steps 0) }
  run_left le =
      let last = along_last (setting_of first.config) nodes (word_in key) first.cluster steps c.cluster refused k le old.along in
      let g = old.config in
      let h = last.0 in
      λ i. record { config = g i; cluster = h i }

  pub run_refused : steps ≤ k → refused ≡ length (filter is_refused (answers_in (setting_of first.config) nodes first.cluster (actions_from (setting_of first.config) nodes (word_in key) first.cluster steps 0)))
  run_refused le = (along_last (setting_of first.config) nodes (word_in key) first.cluster steps c.cluster refused k le old.along).1

-- the numbers of a run that began with nodes that received nothing
pub run_numbers : (number nodes steps : ℕ) (key : List ℕ) (last : ClusterState) (units finals refused culprits : ℕ) → key ≡ sim_key number
    → (let s = setting_of (sim_config key nodes) in let actions = actions_from s nodes (word_in (key_of key)) (begun nodes) steps 0 in
    last ≡ record { config = sim_config key nodes; cluster = fold (after s nodes) (begun nodes) actions } → units ≡ length last.cluster.sent → IsMostDecisions (setting_of last.config) (nodes_in last) last.cluster finals
    → refused ≡ length (filter is_refused (answers_in s nodes (begun nodes) actions)) → culprits ≡ length (culprits_in (setting_of last.config) last.cluster) → nodes ≡ nodes_in last
    → AreNumbers (sim_setting number nodes) nodes (sim_actions number nodes steps) (record { units = units; finals = finals; refused = refused; culprits = culprits }))
run_numbers number nodes steps key last units finals refused culprits e left u m r c n =
    subst (λ (k : List ℕ). let s = setting_of (sim_config k nodes) in AreNumbers s nodes (actions_from s nodes (word_in (key_of k)) (begun nodes) steps 0) (record { units = units; finals = finals; refused = refused; culprits = culprits })) e (record {
      units = u ∙ ap (λ (d : ClusterState). length d.cluster.sent) left;
      finals = subst (λ (d : ClusterState). IsMostDecisions (setting_of d.config) nodes d.cluster finals) left (subst (λ (k : ℕ). IsMostDecisions (setting_of last.config) k last.cluster finals) (sym n) m);
      refused = r;
      culprits = c ∙ ap (λ (d : ClusterState). length (culprits_in (setting_of d.config) d.cluster)) left;
    })

-- what so many steps leave of a cluster, and how many they refuse, by these words
abbrev pub left_after : ClusterState → WordStream → ℕ → ℕ → ClusterState
left_after d w nodes steps = let s = setting_of d.config in record { config = d.config; cluster = fold (after s nodes) d.cluster (actions_from s nodes (word_in w.key) d.cluster steps 0) }

abbrev pub refused_after : ClusterState → WordStream → ℕ → ℕ → ℕ
refused_after d w nodes steps = let s = setting_of d.config in length (filter is_refused (answers_in s nodes d.cluster (actions_from s nodes (word_in w.key) d.cluster steps 0)))

pub simulated_numbers : (number nodes steps : ℕ) (key : List ℕ) (d last : ClusterState) (w : WordStream) (units finals refused culprits : ℕ)
    → key ≡ sim_key number → d ≡ begun_with (sim_config key nodes) nodes → w ≡ record { key = key_of key; place = 0 } → last ≡ left_after d w nodes steps → refused ≡ refused_after d w nodes steps → nodes ≡ nodes_in last
    → units ≡ length last.cluster.sent → IsMostDecisions (setting_of last.config) (nodes_in last) last.cluster finals → culprits ≡ length (culprits_in (setting_of last.config) last.cluster)
    → AreNumbers (sim_setting number nodes) nodes (sim_actions number nodes steps) (record { units = units; finals = finals; refused = refused; culprits = culprits })
simulated_numbers number nodes steps key d last w units finals refused culprits e begin first left ref many u m c =
    run_numbers number nodes steps key last units finals refused culprits e
    (left ∙ ap (λ (s : WordStream). left_after d s nodes steps) first ∙ ap (λ (k : ClusterState). left_after k (record { key = key_of key; place = 0 }) nodes steps) begin) u m
    (ref ∙ ap (λ (s : WordStream). refused_after d s nodes steps) first ∙ ap (λ (k : ClusterState). refused_after k (record { key = key_of key; place = 0 }) nodes steps) begin) c many
