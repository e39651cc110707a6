-- A search along the fork choice finds the new records.
use Rattle.std.proofs.Common.{◌≡◌, ℕ, suc, ◌⊎◌, ◌+◌, ◌≤◌, ◌<◌, inl, inr, true, List, [], ◌∷◌, ◌++◌, length, Some, None, refl, sym, ap, subst, ◌∙◌, arith}
use Rattle.std.specs.Prelude.{Any}
use Rattle.std.proofs.lemmas.Bool.{cases_lt}
use Rattle.hw_types.specs.declared.unit.Obs.{Obs}
use Rattle.hw_types.specs.declared.config.Config.{Config}
use Rattle.hw_types.specs.declared.answers.Decision.{Decision}
use Rattle.hw_types.specs.Graph.{Node}
use Rattle.hw_types.specs.Below.{Among}
use Rattle.hw_types.specs.Lawful.{keeps}
use Rattle.hw_types.proofs.ChoiceLaws.{IsGraph}
use Rattle.hw_types.proofs.GraphLaws.{rising_one_name}
use Rattle.hw_types.proofs.SettledLaws.{digest_self}
use Rattle.hw_types.proofs.WordsLaws.{named_eq}
use Rattle.hw_safety.proofs.ChainLaws.{IsUp, up_trans}
use Rattle.hw_safety.proofs.MajorityLaws.{same, anc_in, up_anc, past_size}
use Rattle.hw_safety.proofs.AncestorLaws.{ancestor_summit}
use Rattle.hw_safety.specs.Chain.{EachNumbered, IsOnFork, IsDecidedOnFork, AreOnFork}
use Rattle.hw_safety.specs.Records.{StandsOver, HasNoRecord, IsNewRecord, AreNewRecords, IsRecordAt, AreRecordsFrom, NoneStandsAt, MayEnd}
use Rattle.hw_safety.specs.ChainLaws.{SearchFinds, SearchMayEnd}
use Rattle.hw_safety.proofs.ChainHeightLaws.{parent, height, up_height, line_same, up_at, kept_up, up_kept, kept_line}
use Rattle.hw_types.proofs.OrderedLaws.{IsOrdered, adjacent_of, any_among}

-- ---- numbered lists

module _ {A : Type 0} (P : ℕ → A → Type 0) where
  pub numbered_in : (n : ℕ) (xs : List A) → EachNumbered P n xs → (x : A) → Among x xs → (k : ℕ) × (n ≤ k) × (k < n + length xs) × P k x
  numbered_in n [] h x m = absurd m
  numbered_in n (y ∷ ys) h x (inl e) = (n, omega arith, omega arith, subst (P n) e h.0)
  numbered_in n (y ∷ ys) h x (inr m) = let rest = numbered_in (n + 1) ys h.1 x m in let low = rest.1 in let high = rest.2 in (rest.0, omega arith, omega arith, rest.3)

  pub numbered_at : (n : ℕ) (xs : List A) → EachNumbered P n xs → (k : ℕ) → n ≤ k → k < n + length xs → (x : A) × Among x xs × P k x
  numbered_at n [] h k low high = absurd (omega arith)
  numbered_at n (x ∷ xs) h k low high = elim (cases_lt n k) [
    | inl lt ↦ (let rest = numbered_at (n + 1) xs h.1 k (omega arith) (omega arith) in (rest.0, inr rest.1, rest.2))
    | inr le ↦ (let is : n ≡ k = omega arith in (x, inl refl, subst (λ i. P i x) is h.0))
  ]

  -- one more at the end
  pub numbered_more : (n : ℕ) (xs : List A) (x : A) → EachNumbered P n xs → P (n + length xs) x → EachNumbered P n (xs ++ x ∷ [])
  numbered_more n [] x h p = (let is : n + 0 ≡ n = omega arith in subst (λ i. P i x) is p, tt)
  numbered_more n (y ∷ ys) x h p = (h.0, numbered_more (n + 1) ys x h.1 (let is : n + suc (length ys) ≡ n + 1 + length ys = omega arith in subst (λ i. P i x) is p))

module _ (config : Config) (units : List Node) (panorama : List Obs) (graph : IsGraph units) where
  abbrev OnFork : ℕ → Node → Type 0
  OnFork n b = IsOnFork config.weights units panorama n b

  named_same : (a b : Node) → Among a units → Among b units → a.digest ≡ b.digest → a ≡ b
  named_same a b m n e = same config.weights units graph a b m n (named_eq a b e)

  -- of each height one block is on the way to the fork choice
  pub one_on_fork : (n k : ℕ) (a b : Node) → OnFork n a → OnFork k b → n ≡ k → a ≡ b
  one_on_fork n k a b f g e = line_same config.weights units graph a b (kept_line config.weights units graph panorama a b f.inside g.inside f.kept g.kept) (f.height_is ∙ e ∙ sym g.height_is)

  -- the ancestor of a lesser height is on the way too, and stands where the block does
  pub fork_at_height : (n k : ℕ) (b : Node) → OnFork n b → k ≤ n → (a : Node) × OnFork k a × IsUp (parent config.weights units graph) a b
  fork_at_height n k b f le =
      let same_height = f.height_is in
      let a = up_at config.weights units graph b k (omega arith) in
      let y = kept_up config.weights units graph panorama b f.inside f.kept in (
        a.0,
        record {
          inside = (anc_in config.weights units graph a.0 b f.inside a.1).0;
          kept = up_kept config.weights units graph panorama a.0 y.0 y.1 (up_trans (parent config.weights units graph) a.0 b y.0 a.1 y.2);
          height_is = a.2;
        },
        a.1,
      )

  pub ancestor_stands_over : (a b : Node) (level quorum : ℕ) → Among b units → IsUp (parent config.weights units graph) a b → StandsOver config units panorama b level quorum → StandsOver config units panorama a level quorum
  ancestor_stands_over a b level quorum m h t = record {
    low = t.low;
    high = t.high;
    is_quorum = t.is_quorum;
    summit = ancestor_summit config.weights units graph panorama (length units) a b level quorum m
        (up_anc config.weights units graph (length units) a a b (past_size config.weights units graph b.unit.panorama) (digest_self a.digest) h) t.summit;
  }

  -- ---- where a search may end

  pub may_end : MayEnd config units panorama
  may_end = record {
    at_block = λ n b f none c level quorum g t. none level quorum (subst (λ z. StandsOver config units panorama z level quorum) (one_on_fork n n c b g f refl) t);
    above = λ y n e lt c level quorum g t.
        let x = kept_up config.weights units graph panorama c g.inside g.kept in
        let one : Some x.0 ≡ Some y = sym x.1 ∙ e in
        let is : x.0 ≡ y = cc in
        let le = up_height config.weights units graph c x.0 x.2 in
        let tall : height config.weights units graph x.0 ≡ height config.weights units graph y = ap (height config.weights units graph) is in
        let here = g.height_is in
        absurd (omega arith);
    no_fork = λ n e c level quorum g t.
        let x = kept_up config.weights units graph panorama c g.inside g.kept in
        absurd (let bad : None ≡ Some x.0 = sym e ∙ x.1 in cc);
  }

  -- ---- what it finds

  module _ (known : List Decision) (at : ℕ) (fresh : List Decision) (on_fork : AreOnFork config.weights units panorama known) (found : AreRecordsFrom config units panorama at (length known) fresh)
      (ends : NoneStandsAt config units panorama (length known + length fresh)) where
    -- what has a record is lower than all that is found
    known_low : (n : ℕ) (block : Node) → OnFork n block → length known ≤ n → HasNoRecord known block
    known_low n block f le d m e =
        let k = numbered_in (IsDecidedOnFork config.weights units panorama) 0 known on_fork d m in
        let high = k.2 in
        let r = k.3 in
        let b : Node = r.block in
        let is : b ≡ block = named_same b block r.on_fork.inside f.inside (sym r.named ∙ e) in
        let tall : height config.weights units graph b ≡ height config.weights units graph block = ap (height config.weights units graph) is in
        let here = f.height_is in
        let there = r.on_fork.height_is in
        absurd (omega arith)

    new_record : (d : Decision) → Among d fresh → IsNewRecord config units panorama known at d
    new_record d m =
        let k = numbered_in (IsRecordAt config units panorama at) (length known) fresh found d m in
        let r = k.3 in record {
          block = r.block;
          inside = r.on_fork.inside;
          kept = r.on_fork.kept;
          unknown = known_low k.0 r.block r.on_fork k.1;
          record_is = r.record_is;
        }

    complete : (block : Node) (level quorum : ℕ) → Among block units → keeps config.weights units panorama block ≡ true → HasNoRecord known block → StandsOver config units panorama block level quorum
        → Any (λ (d : Decision). d.block ≡ block.digest) fresh
    complete block level quorum m kept unknown stands = go (height config.weights units graph block) (record { inside = m; kept = kept; height_is = refl }) (cases_lt (height config.weights units graph block) (length known)) (cases_lt (height config.weights units graph block) (length known + length fresh))
      where
        go : (n : ℕ) → OnFork n block → (n < length known) ⊎ (length known ≤ n) → (n < length known + length fresh) ⊎ (length known + length fresh ≤ n) → Any (λ (d : Decision). d.block ≡ block.digest) fresh
        go n here (inl lt) c = absurd (
            let d = numbered_at (IsDecidedOnFork config.weights units panorama) 0 known on_fork n (omega arith) (omega arith) in
            let r = d.2 in
            unknown d.0 d.1 (r.named ∙ ap (λ (z : Node). z.digest) (one_on_fork n n r.block block r.on_fork here refl)))
        go n here (inr le) (inl lt) =
            let d = numbered_at (IsRecordAt config units panorama at) (length known) fresh found n le lt in
            let r = d.2 in
            any_among (λ (e : Decision). e.block ≡ block.digest) fresh d.0 d.1 (r.record_is.named ∙ ap (λ (z : Node). z.digest) (one_on_fork n n r.block block r.on_fork here refl))
        go n here (inr le) (inr high) = absurd (
            let a = fork_at_height n (length known + length fresh) block here high in
            ends a.0 level quorum a.1 (ancestor_stands_over a.0 block level quorum m a.2 stands))

    height_in : (n : ℕ) (d : Decision) → IsRecordAt config units panorama at n d → d.height ≡ n
    height_in n d r = r.record_is.height_is ∙ r.on_fork.height_is

    ordered : (n : ℕ) (ds : List Decision) → AreRecordsFrom config units panorama at n ds → IsOrdered (λ (d : Decision) (e : Decision). d.height < e.height) ds
    ordered n [] h = tt
    ordered n (d ∷ ds) h = (
      λ e m.
          let k = numbered_in (IsRecordAt config units panorama at) (n + 1) ds h.1 e m in
          let low = k.1 in
          let first = height_in n d h.0 in
          let later = height_in k.0 e k.3 in
          omega arith,
      ordered (n + 1) ds h.1,
    )

    pub search_finds : AreNewRecords config units panorama known at fresh
    search_finds = record {
      each = new_record;
      rising = adjacent_of (λ (d : Decision) (e : Decision). d.height < e.height) fresh (ordered (length known) fresh found);
      complete = complete;
    }

pub finds : SearchFinds
finds config units panorama known at fresh rising acyclic on_fork found ends =
    search_finds config units panorama (record { in_order = rising; one_name = rising_one_name units rising; no_cycle = acyclic }) known at fresh on_fork found ends

pub ends : SearchMayEnd
ends config units panorama rising acyclic = may_end config units panorama (record { in_order = rising; one_name = rising_one_name units rising; no_cycle = acyclic })
