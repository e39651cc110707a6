-- What one more vertex adds to the decided blocks.
use Rattle.std.proofs.Common.{◌≡◌, ℕ, zero, suc, ◌⊎◌, ◌+◌, ◌≤◌, ◌<◌, inl, inr, Bool, true, false, List, [], ◌∷◌, ◌++◌, length, take, drop, map, refl, sym, ap, subst, ◌∙◌, arith, length-append}
use Rattle.std.specs.Prelude.{Any, filter, ◌==◌}
use Rattle.std.specs.List.{range_with_len}
use Rattle.std.proofs.lemmas.Bool.{cases_lt, eqb-true, eq-eqb}
use Rattle.std.proofs.lemmas.List.{take-append-le, take_all}
use Rattle.hw_types.specs.declared.unit.Vertex.{Vertex}
use Rattle.hw_types.specs.declared.unit.Digest.{Digest}
use Rattle.hw_types.specs.declared.answers.Decision.{Decision}
use Rattle.hw_types.specs.Graph.{Node}
use Rattle.hw_types.specs.Below.{Among}
use Rattle.hw_types.specs.Votes.{height_of}
use Rattle.hw_types.specs.Settled.{panorama_of, faulty_weight}
use Rattle.hw_types.specs.Summit.{Stands}
use Rattle.hw_types.specs.Journal.{Setting, received_of}
use Rattle.hw_types.specs.Decisions.{StoodAt, IsRecord, ComesBefore, AreDecisions}
use Rattle.hw_types.proofs.ClosureLaws.{Within, Among-filter, filter-Among}
use Rattle.hw_types.proofs.EntryLaws.{append_cases, by_name_in}
use Rattle.hw_types.proofs.UnionLaws.{from_left, from_right}
use Rattle.hw_types.proofs.WordsLaws.{found_node}
use Rattle.hw_types.proofs.LawfulLaws.{settled_part}
use Rattle.hw_types.proofs.JournalLaws.{received_rising, longer_extends}
use Rattle.hw_types.proofs.GrowsLaws.{received_grows}
use Rattle.hw_safety.specs.Decided.{decisions_of}
use Rattle.hw_safety.proofs.DecidedLaws.{decisions_are}
use Rattle.hw_safety.proofs.HeightLaws.{one_block_each}
use Rattle.std.proofs.lemmas.List.{append-nil}
use Rattle.std.proofs.Common.{append_assoc}
use Rattle.hw_types.proofs.DecisionLaws.{decisions_one, before_trans}
use Rattle.hw_safety.specs.Chain.{EachNumbered, IsDecidedOnFork}
use Rattle.hw_safety.specs.Records.{StandsOver, HasNoRecord, IsNewRecord}
use Rattle.hw_safety.specs.ChainLaws.{DecidedAreOnFork, AddsDecisions, DetectorDecides, DecidedIsDetected, DecisionsOnlyGrow, QuietVertexDecidesNothing, NothingAfterExcess, NothingAtFirst}
use Rattle.hw_safety.proofs.ListLaws.{named_or_not}
use Rattle.hw_safety.proofs.StoodLaws.{settled_in, graph_in, Stood, stood_unit, one_settled, settled_later, kept_at, stays_at, height_later, record_stood, record_name, record_in}
use Rattle.hw_safety.proofs.DecidedChainLaws.{heights}
use Rattle.hw_types.proofs.OrderedLaws.{IsOrdered, adjacent_of, ordered_of, ordered_append, ordered_filter, ordered_weaker, among_all, any_among, any_is}

-- ---- standing, over a journal and over its units and panorama

pub over_of : (s : Setting) (journal : List Vertex) (block : Node) (level quorum : ℕ) → Stands s.config (received_of s journal) block level quorum
    → StandsOver s.config (settled_in s journal) (panorama_of s.config (received_of s journal)) block level quorum
over_of s journal block level quorum t = record { low = t.low; high = t.high; is_quorum = t.is_quorum; summit = t.summit }

pub of_over : (s : Setting) (journal : List Vertex) (block : Node) (level quorum : ℕ) → StandsOver s.config (settled_in s journal) (panorama_of s.config (received_of s journal)) block level quorum
    → Stands s.config (received_of s journal) block level quorum
of_over s journal block level quorum t = record { low = t.low; high = t.high; is_quorum = t.is_quorum; summit = t.summit }

-- ---- moments of a longer journal

module _ (s : Setting) (journal more : List Vertex) where
  front_same : (at : ℕ) → at ≤ length journal → take at (journal ++ more) ≡ take at journal
  front_same at le = take-append-le at journal more le

  pub stood_longer : (block : Node) (level quorum at : ℕ) → StoodAt s journal block level quorum at → StoodAt s (journal ++ more) block level quorum at
  stood_longer block level quorum at t =
      let e = sym (front_same at t.in_journal) in
      let inside = t.in_journal in
      let long = length-append journal more in record {
        in_journal = omega arith;
        few_faulty = subst (λ j. faulty_weight s.config (received_of s j) ≤ s.config.ftt) e t.few_faulty;
        stands = subst (λ j. Stands s.config (received_of s j) block level quorum) e t.stands;
      }

  pub stood_shorter : (block : Node) (level quorum at : ℕ) → at ≤ length journal → StoodAt s (journal ++ more) block level quorum at → StoodAt s journal block level quorum at
  stood_shorter block level quorum at le t =
      let e = front_same at le in record {
        in_journal = le;
        few_faulty = subst (λ j. faulty_weight s.config (received_of s j) ≤ s.config.ftt) e t.few_faulty;
        stands = subst (λ j. Stands s.config (received_of s j) block level quorum) e t.stands;
      }

-- ---- the last moment

module _ (s : Setting) (journal : List Vertex) where
  last_same : take (length journal) journal ≡ journal
  last_same = take_all (length journal) journal (omega arith)

  pub stood_last : (block : Node) (level quorum : ℕ) → StoodAt s journal block level quorum (length journal)
      → (faulty_weight s.config (received_of s journal) ≤ s.config.ftt) × StandsOver s.config (settled_in s journal) (panorama_of s.config (received_of s journal)) block level quorum
  stood_last block level quorum t = (
    subst (λ j. faulty_weight s.config (received_of s j) ≤ s.config.ftt) last_same t.few_faulty,
    over_of s journal block level quorum (subst (λ j. Stands s.config (received_of s j) block level quorum) last_same t.stands),
  )

  pub last_stood : (block : Node) (level quorum : ℕ) → faulty_weight s.config (received_of s journal) ≤ s.config.ftt
      → StandsOver s.config (settled_in s journal) (panorama_of s.config (received_of s journal)) block level quorum → StoodAt s journal block level quorum (length journal)
  last_stood block level quorum few t = record {
    in_journal = omega arith;
    few_faulty = subst (λ j. faulty_weight s.config (received_of s j) ≤ s.config.ftt) (sym last_same) few;
    stands = subst (λ j. Stands s.config (received_of s j) block level quorum) (sym last_same) (of_over s journal block level quorum t);
  }

  -- what stood before is the fork choice or an ancestor of it now, if few are faulty
  pub kept_now : (m : ℕ) (x : Node) → Stood s journal m x → faulty_weight s.config (received_of s journal) ≤ s.config.ftt
      → Among x (settled_in s journal) × (Rattle.hw_types.specs.Lawful.keeps s.config.weights (settled_in s journal) (panorama_of s.config (received_of s journal)) x ≡ true)
  kept_now m x t few =
      let le = t.stood.in_journal in (
        subst (λ j. Among x (settled_in s j)) last_same (stays_at s journal m (length journal) le x t.inside),
        subst (λ j. Rattle.hw_types.specs.Lawful.keeps s.config.weights (settled_in s j) (panorama_of s.config (received_of s j)) x ≡ true) last_same
            (kept_at s journal m (length journal) x le t (subst (λ j. faulty_weight s.config (received_of s j) ≤ s.config.ftt) (sym last_same) few)),
      )

-- ---- the decided blocks are on the way to the fork choice

module _ (s : Setting) (journal more : List Vertex) (ds : List Decision) (decided : AreDecisions s journal ds) (few : faulty_weight s.config (received_of s (journal ++ more)) ≤ s.config.ftt) where
  on_fork : (d : Decision) → Among d ds → IsDecidedOnFork s.config.weights (settled_in s (journal ++ more)) (panorama_of s.config (received_of s (journal ++ more))) d.height d
  on_fork d m =
      let r = record_in s journal ds decided d m in
      let t = record_stood s journal d r in
      let b : Node = r.block in
      let e : take d.at (journal ++ more) ≡ take d.at journal = front_same s journal more d.at t.stood.in_journal in
      let later : Stood s (journal ++ more) d.at b = record {
        inside = subst (λ j. Among b (settled_in s j)) (sym e) t.inside;
        level = d.level;
        quorum = d.quorum;
        stood = stood_longer s journal more b d.level d.quorum d.at r.stood;
      } in
      let kept = kept_now s (journal ++ more) d.at b later few in record {
        block = b;
        named = sym (record_name s journal d r);
        on_fork = record {
          inside = kept.0;
          kept = kept.1;
          height_is = height_later s (journal ++ more) d.at b later.inside ∙ subst (λ j. height_of s.config.weights (settled_in s j) b ≡ d.height) (sym e) (sym r.height);
        };
      }

  each_on_fork : (n : ℕ) (es : List Decision) → Within es ds → map (λ (d : Decision). d.height) es ≡ range_with_len n (length es)
      → EachNumbered (IsDecidedOnFork s.config.weights (settled_in s (journal ++ more)) (panorama_of s.config (received_of s (journal ++ more)))) n es
  each_on_fork n [] within e = tt
  each_on_fork n (d ∷ es) within e =
      let first : d.height ≡ n = cc in
      let rest : map (λ (c : Decision). c.height) es ≡ range_with_len (n + 1) (length es) = cc in (
        subst (λ k. IsDecidedOnFork s.config.weights (settled_in s (journal ++ more)) (panorama_of s.config (received_of s (journal ++ more))) k d) first (on_fork d (within d (inl refl))),
        each_on_fork (n + 1) es (λ c k. within c (inr k)) rest,
      )

pub fork : DecidedAreOnFork
fork s journal more ds decided few = each_on_fork s journal more ds decided few 0 ds (λ d m. m) (heights s journal ds decided)

-- ---- one more vertex

module _ (s : Setting) (journal : List Vertex) (v : Vertex) (ds : List Decision) (decided : AreDecisions s journal ds) where
  abbrev longer : List Vertex
  longer = journal ++ v ∷ []

  long : length longer ≡ suc (length journal)
  long = let e = length-append journal (v ∷ []) in omega arith

  -- a moment is one of before, or the last
  moment_cases : (at : ℕ) → at ≤ length longer → (at ≤ length journal) ⊎ (at ≡ length longer)
  moment_cases at le = elim (cases_lt (length journal) at) [ inl lt ↦ inr (let e = long in omega arith) | inr low ↦ inl low ]

  -- a record stays
  record_longer : (d : Decision) → IsRecord s journal d → IsRecord s longer d
  record_longer d r =
      let inside = r.stood.in_journal in
      let e = sym (front_same s journal (v ∷ []) d.at inside) in record {
        block = r.block;
        found = subst (λ j. Rattle.hw_types.specs.Graph.find_node (settled_in s j) d.block ≡ Rattle.std.proofs.Common.Some r.block) e r.found;
        height = subst (λ j. d.height ≡ height_of s.config.weights (settled_in s j) r.block) e r.height;
        stood = stood_longer s journal (v ∷ []) r.block d.level d.quorum d.at r.stood;
        least_level = λ level quorum t. r.least_level level quorum (stood_shorter s journal (v ∷ []) r.block level quorum d.at inside t);
        first = λ at level quorum t. elim (moment_cases at t.in_journal) [
          | inl le ↦ r.first at level quorum (stood_shorter s journal (v ∷ []) r.block level quorum at le t)
          | inr last ↦ (let e = long in omega arith)
        ];
      }

  -- what stood before has a record
  known_before : (block : Node) (level quorum at : ℕ) → at ≤ length journal → StoodAt s longer block level quorum at → (d : Decision) × Among d ds × (d.block ≡ block.digest)
  known_before block level quorum at le t = any_is (λ (d : Decision). d.block ≡ block.digest) ds (decided.complete block level quorum at (stood_shorter s journal (v ∷ []) block level quorum at le t))

  module _ (fresh : List Decision) (adds : AddsDecisions s longer ds fresh) where
    -- where something is fresh, few are faulty
    few_or_none : (d : Decision) → Among d fresh → faulty_weight s.config (received_of s longer) ≤ s.config.ftt
    few_or_none d m = elim (cases_lt s.config.ftt (faulty_weight s.config (received_of s longer))) [
      | inl lt ↦ absurd (let none = adds.exceeded lt in let bad : Among d [] = subst (λ ds. Among d ds) none m in bad)
      | inr le ↦ le
    ]

    new_record : (d : Decision) → Among d fresh → IsRecord s longer d
    new_record d m =
        let few = few_or_none d m in
        let n = (adds.few few).each d m in
        let r = n.record_is in
        let b : Node = n.block in
        let last : length longer ≡ d.at = sym r.moment in
        let e : longer ≡ take d.at longer = sym (last_same s longer) ∙ ap (λ at. take at longer) last in
        record {
          block = b;
          found = subst (λ j. Rattle.hw_types.specs.Graph.find_node (settled_in s j) d.block ≡ Rattle.std.proofs.Common.Some b) e (found_node (settled_in s longer) b d.block (graph_in s longer).one_name n.inside (sym r.named));
          height = subst (λ j. d.height ≡ height_of s.config.weights (settled_in s j) b) e r.height_is;
          stood = subst (λ at. StoodAt s longer b d.level d.quorum at) last (last_stood s longer b d.level d.quorum few r.stands);
          least_level = λ level quorum t. r.least_level level quorum (stood_last s longer b level quorum (subst (λ at. StoodAt s longer b level quorum at) r.moment t)).1;
          first = λ at level quorum t. elim (moment_cases at t.in_journal) [
            | inl le ↦ absurd (let k = known_before b level quorum at le t in n.unknown k.0 k.1 k.2)
            | inr is ↦ omega arith
          ];
        }

    old_before : (d e : Decision) → Among d ds → Among e fresh → ComesBefore d e
    old_before d e m n =
        let r = record_in s journal ds decided d m in
        let inside = r.stood.in_journal in
        let last = ((adds.few (few_or_none e n)).each e n).record_is.moment in
        let more = long in
        inl (omega arith)

    fresh_ordered : IsOrdered ComesBefore fresh
    fresh_ordered = elim (cases_lt s.config.ftt (faulty_weight s.config (received_of s longer))) [
      | inl lt ↦ (let none = adds.exceeded lt in subst (λ es. IsOrdered ComesBefore es) (sym none) tt)
      | inr few ↦ (let new = adds.few few in
          ordered_weaker (λ (d : Decision) (e : Decision). d.height < e.height) ComesBefore fresh
          (λ d e m n lt. let a = (new.each d m).record_is.moment in let b = (new.each e n).record_is.moment in inr (a ∙ sym b, lt))
          (ordered_of (λ (d : Decision) (e : Decision). d.height < e.height) (λ c d e p q. omega arith) fresh new.rising))
    ]

    complete : (block : Node) (level quorum at : ℕ) → StoodAt s longer block level quorum at → Any (λ (d : Decision). d.block ≡ block.digest) (ds ++ fresh)
    complete block level quorum at t = elim (moment_cases at t.in_journal) [
      | inl le ↦ (let k = known_before block level quorum at le t in any_among (λ (d : Decision). d.block ≡ block.digest) (ds ++ fresh) k.0 (from_left k.0 ds fresh k.1) k.2)
      | inr last ↦ (
          let b = stood_unit s longer block level quorum at t in
          let u = b.2 in
          let now = stood_last s longer b.0 u.level u.quorum (subst (λ n. StoodAt s longer b.0 u.level u.quorum n) last u.stood) in
          let kept = kept_now s longer at b.0 u now.0 in
          elim (named_or_not (λ (d : Decision). d.block) ds b.0.digest) [
            | inl k ↦ any_among (λ (d : Decision). d.block ≡ block.digest) (ds ++ fresh) k.0 (from_left k.0 ds fresh k.1) (subst (λ (n : Digest). k.0.block ≡ n) (sym b.1) k.2)
            | inr none ↦ (
                let k = any_is (λ (d : Decision). d.block ≡ b.0.digest) fresh ((adds.few now.0).complete b.0 u.level u.quorum kept.0 kept.1 none now.1) in
                any_among (λ (d : Decision). d.block ≡ block.digest) (ds ++ fresh) k.0 (from_right k.0 ds fresh k.1) (subst (λ (n : Digest). k.0.block ≡ n) (sym b.1) k.2))
          ])
    ]

    pub detected : AreDecisions s longer (ds ++ fresh)
    detected = record {
      each = among_all (IsRecord s longer) (ds ++ fresh) (λ d m. elim (append_cases d ds fresh m) [
        | inl k ↦ record_longer d (record_in s journal ds decided d k)
        | inr k ↦ new_record d k
      ]);
      ordered = adjacent_of ComesBefore (ds ++ fresh) (ordered_append ComesBefore ds fresh (ordered_of ComesBefore before_trans ds decided.ordered) fresh_ordered old_before);
      complete = complete;
    }

  -- ---- and nothing else

  module _ (es : List Decision) (later : AreDecisions s longer es) where
    abbrev is_last : Decision → Bool
    is_last d = d.at == length longer

    abbrev last : List Decision
    last = filter is_last es

    last_of : (d : Decision) → Among d last → Among d es × (d.at ≡ length longer)
    last_of d m = let p = Among-filter is_last d es m in (p.0, eqb-true d.at (length longer) p.1)

    last_here : (d : Decision) (r : IsRecord s longer d) → d.at ≡ length longer
        → (faulty_weight s.config (received_of s longer) ≤ s.config.ftt) × StandsOver s.config (settled_in s longer) (panorama_of s.config (received_of s longer)) r.block d.level d.quorum
    last_here d r e = stood_last s longer r.block d.level d.quorum (subst (λ at. StoodAt s longer r.block d.level d.quorum at) e r.stood)

    last_new : faulty_weight s.config (received_of s longer) ≤ s.config.ftt → (d : Decision) → Among d last
        → IsNewRecord s.config (settled_in s longer) (panorama_of s.config (received_of s longer)) ds (length longer) d
    last_new few d m =
        let p = last_of d m in
        let r = record_in s longer es later d p.0 in
        let b : Node = r.block in
        let kept = kept_now s longer d.at b (record_stood s longer d r) few in
        let e : take d.at longer ≡ longer = ap (λ at. take at longer) p.1 ∙ last_same s longer in
        record {
          block = b;
          inside = kept.0;
          kept = kept.1;
          unknown = λ k n same.
              let q = record_in s journal ds decided k n in
              let known_at = q.stood.in_journal in
              let name : q.block.digest ≡ b.digest = record_name s journal k q ∙ same in
              let u = stood_unit s longer q.block k.level k.quorum k.at (stood_longer s journal (v ∷ []) q.block k.level k.quorum k.at q.stood) in
              let w = u.2 in
              let is : u.0 ≡ b = one_settled s longer u.0 b (settled_later s longer k.at u.0 w.inside) kept.0 (sym u.1 ∙ name) in
              let first = r.first k.at w.level w.quorum (subst (λ z. StoodAt s longer z w.level w.quorum k.at) is w.stood) in
              let now = p.1 in
              let more = long in
              absurd (omega arith);
          record_is = record {
            named = sym (record_name s longer d r);
            height_is = subst (λ j. d.height ≡ height_of s.config.weights (settled_in s j) b) e r.height;
            stands = (last_here d r p.1).1;
            least_level = λ level quorum t. r.least_level level quorum (subst (λ at. StoodAt s longer b level quorum at) (sym p.1) (last_stood s longer b level quorum few t));
            moment = p.1;
          };
        }

    last_complete : (block : Node) (level quorum : ℕ) → faulty_weight s.config (received_of s longer) ≤ s.config.ftt → HasNoRecord ds block
        → StandsOver s.config (settled_in s longer) (panorama_of s.config (received_of s longer)) block level quorum → Any (λ (d : Decision). d.block ≡ block.digest) last
    last_complete block level quorum few unknown t =
        let k = any_is (λ (d : Decision). d.block ≡ block.digest) es (later.complete block level quorum (length longer) (last_stood s longer block level quorum few t)) in
        let r = record_in s longer es later k.0 k.1 in
        elim (moment_cases k.0.at r.stood.in_journal) [
          | inl le ↦ absurd (let d = known_before r.block k.0.level k.0.quorum k.0.at le r.stood in unknown d.0 d.1 (d.2 ∙ record_name s longer k.0 r ∙ k.2))
          | inr is ↦ any_among (λ (d : Decision). d.block ≡ block.digest) last k.0 (filter-Among is_last k.0 es k.1 (eq-eqb k.0.at (length longer) is)) k.2
        ]

    no_members : (xs : List Decision) → ((d : Decision) → Among d xs → ⊥) → xs ≡ []
    no_members [] h = refl
    no_members (x ∷ xs) h = absurd (h x (inl refl))

    last_adds : AddsDecisions s longer ds last
    last_adds = record {
      exceeded = λ lt. no_members last (λ d m. let p = last_of d m in let few = (last_here d (record_in s longer es later d p.0) p.1).0 in absurd (omega arith));
      few = λ few. record {
        each = last_new few;
        rising = adjacent_of (λ (d : Decision) (e : Decision). d.height < e.height) last
            (ordered_weaker ComesBefore (λ (d : Decision) (e : Decision). d.height < e.height) last
            (λ d e m n before. higher d e ((last_of d m).1 ∙ sym (last_of e n).1) before)
            (ordered_filter ComesBefore is_last es (ordered_of ComesBefore before_trans es later.ordered)));
        complete = λ block level quorum m kept unknown t. last_complete block level quorum few unknown t;
      };
    }
      where
        higher : (d e : Decision) → d.at ≡ e.at → ComesBefore d e → d.height < e.height
        higher d e same (inl lt) = absurd (omega arith)
        higher d e same (inr both) = both.1

    pub nothing_else : (fresh : List Decision) × (es ≡ ds ++ fresh) × AddsDecisions s longer ds fresh
    nothing_else = (last, decisions_one s longer es (ds ++ last) later (detected last last_adds), last_adds)

pub decides : DetectorDecides
decides s journal v ds fresh decided adds = detected s journal v ds decided fresh adds

pub only : DecidedIsDetected
only s journal v ds es decided later = nothing_else s journal v ds decided es later

-- ---- what is decided stays decided

pub only_grow : DecisionsOnlyGrow
only_grow s journal [] ds es decided later = ([], decisions_one s journal es ds (subst (λ j. AreDecisions s j es) (append-nil journal) later) decided ∙ sym (append-nil ds))
only_grow s journal (v ∷ more) ds es decided later =
    let longer = journal ++ v ∷ [] in
    let next = decisions_of s longer in
    let made = decisions_are s longer (one_block_each s longer) in
    let first = nothing_else s journal v ds decided next made in
    let last = only_grow s longer more next es made (subst (λ j. AreDecisions s j es) (sym (append_assoc journal (v ∷ []) more)) later) in
    (first.0 ++ last.0, last.1 ∙ ap (λ front. front ++ last.0) first.1 ∙ append_assoc ds first.0 last.0)

-- and once the faulty weigh more than the threshold, nothing more is
pub after_excess : NothingAfterExcess
after_excess s journal [] ds es over decided later = decisions_one s journal es ds (subst (λ j. AreDecisions s j es) (append-nil journal) later) decided
after_excess s journal (v ∷ more) ds es over decided later =
    let longer = journal ++ v ∷ [] in
    let next = decisions_of s longer in
    let made = decisions_are s longer (one_block_each s longer) in
    let first = nothing_else s journal v ds decided next made in
    let grows = (received_grows s.config (received_of s journal) (received_of s longer) (received_rising s journal) (received_rising s longer) (longer_extends s journal (v ∷ []))).weight in
    let still : s.config.ftt < faulty_weight s.config (received_of s longer) = omega arith in
    let same : next ≡ ds = first.1 ∙ ap (λ fresh. ds ++ fresh) (first.2.exceeded still) ∙ append-nil ds in
    after_excess s longer more next es still made (subst (λ j. AreDecisions s j es) (sym (append_assoc journal (v ∷ []) more)) later) ∙ same

-- where a vertex changes neither the settled units nor the panorama, what stands now stood before
pub quiet : QuietVertexDecidesNothing
quiet s journal v ds decided settled panorama =
    subst (λ es. AreDecisions s (journal ++ v ∷ []) es) (append-nil ds) (detected s journal v ds decided [] (record {
      exceeded = λ lt. refl;
      few = λ few. record {
        each = λ d m. absurd m;
        rising = λ k d lt. absurd (omega arith);
        complete = λ block level quorum m kept unknown t. absurd (nothing few block level quorum unknown t);
      };
    }))
  where
    nothing : faulty_weight s.config (received_of s (journal ++ v ∷ [])) ≤ s.config.ftt → (block : Node) (level quorum : ℕ) → HasNoRecord ds block
        → StandsOver s.config (settled_in s (journal ++ v ∷ [])) (panorama_of s.config (received_of s (journal ++ v ∷ []))) block level quorum → ⊥
    nothing few block level quorum unknown t =
        let grows = (received_grows s.config (received_of s journal) (received_of s (journal ++ v ∷ [])) (received_rising s journal) (received_rising s (journal ++ v ∷ [])) (longer_extends s journal (v ∷ []))).weight in
        let before : StandsOver s.config (settled_in s journal) (panorama_of s.config (received_of s journal)) block level quorum =
        subst (λ p. StandsOver s.config (settled_in s journal) p block level quorum) panorama (subst (λ units. StandsOver s.config units (panorama_of s.config (received_of s (journal ++ v ∷ []))) block level quorum) settled t) in
        let d = any_is (λ (e : Decision). e.block ≡ block.digest) ds (decided.complete block level quorum (length journal) (last_stood s journal block level quorum (omega arith) before)) in
        unknown d.0 d.1 d.2

-- ---- the empty journal

empty_front : (at : ℕ) → take {A = Vertex} at [] ≡ []
empty_front zero = refl
empty_front (suc n) = refl

none_received : (s : Setting) (x : Node) → Among x (received_of s []).units → ⊥
unfolding received_of
none_received s x m = by_name_in [] x m

nothing_stood : (s : Setting) (block : Node) (level quorum at : ℕ) → StoodAt s [] block level quorum at → ⊥
nothing_stood s block level quorum at t =
    let b = stood_unit s [] block level quorum at t in
    let m : Among b.0 (settled_in s []) = subst (λ j. Among b.0 (settled_in s j)) (empty_front at) b.2.inside in
    none_received s b.0 ((settled_part s.config (received_of s []) (received_rising s [])).part b.0 m)

pub nothing_at_first : NothingAtFirst
nothing_at_first s = record {
  each = λ k d lt. absurd (omega arith);
  ordered = λ k d lt. absurd (omega arith);
  complete = λ block level quorum at t. absurd (nothing_stood s block level quorum at t);
}
