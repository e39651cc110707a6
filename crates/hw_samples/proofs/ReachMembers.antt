-- Certificates, eras and meetings of two nodes, worked.
use Rattle.std.proofs.Common.{◌≡◌, ◌≤◌, ◌++◌, inl, inr, true, false, List, [], ◌∷◌, Some, Result, refl, sym, subst, arith, ℕ, zero, suc}
use Rattle.std.specs.Prelude.{All, IsOk, is_ok, not}
use Rattle.std.specs.List.{list_all}
use Rattle.hw_types.specs.declared.unit.Vertex.{Vertex}
use Rattle.hw_types.specs.declared.answers.Decision.{Decision}
use Rattle.hw_types.specs.declared.answers.Receipt.{Receipt}
use Rattle.hw_types.specs.declared.answers.Cause.{Cause}
use Rattle.hw_types.specs.Graph.{Node, digest_eq, slot, latest, cites, is_faulty_mark}
use Rattle.hw_types.specs.Same.{unit_eq}
use Rattle.hw_types.specs.Below.{Among}
use Rattle.hw_types.specs.Settled.{settled_of, faulty_weight}
use Rattle.hw_types.specs.Summit.{Stands}
use Rattle.hw_types.specs.Journal.{Setting, named, received_of, answers_from, journal_of}
use Rattle.hw_types.specs.Decisions.{AreDecisions}
use Rattle.hw_types.specs.Culprits.{culprits_of, SignedAs, IsShown}
use Rattle.hw_types.specs.Spelling.{signed_bytes}
use Rattle.hw_types.specs.laws.StateLaws.{units_in, NamesApart, SaysTheSame}
use Rattle.hw_types.proofs.SettledLaws.{digest_self}
use Rattle.hw_types.proofs.WordsLaws.{all_of, never_both}
use Rattle.hw_types.proofs.OrderLaws.{journal_apart, unit_self}
use Rattle.hw_safety.specs.Decided.{decisions_of}
use Rattle.hw_safety.proofs.DecidedLaws.{decisions_are}
use Rattle.hw_safety.proofs.HeightLaws.{one_block_each}
use Rattle.hw_safety.specs.Verdicts.{journals_clash, culprit_weight}
use Rattle.hw_agree.specs.Certificates.{HasItsNeeds, IsExtract, IsEnough, delivered, journal_from}
use Rattle.hw_agree.proofs.ExtractLaws.{begun, all_taken, closed_part, names}
use Rattle.hw_safety.specs.Pruned.{pruned_committees}
use Rattle.hw_types.specs.declared.unit.Obs.{Obs}
use Rattle.hw_types.proofs.StableLaws.{and_parts}
use Rattle.hw_types.proofs.WordsLaws.{not_true, find_node_is}
use Rattle.hw_types.proofs.OrderLaws.{in_known, received_in}
use Rattle.hw_safety.proofs.AccountLaws.{in_journal}
use Rattle.hw_safety.proofs.LaneLaws.{latest_is}
use Rattle.hw_eras.specs.Eras.{next_config, setting_in, config_after, AreEras}
use Rattle.hw_safety.specs.Taken.{taken, NoneRefused}
use Rattle.hw_agree.specs.Converge.{summary_of, summaries, torn_for, due_to}
use Rattle.hw_agree.specs.declared.summary.LaneSummary.TheVariants.{Nothing, Line}
use Rattle.hw_types.specs.declared.config.Leaders.TheVariants.{Drawn}
use Rattle.hw_safety.proofs.DetectorLaws.{nothing_at_first}
use Rattle.hw_agree.proofs.ConvergeLaws.{together}
use Rattle.hw_safety.proofs.TakenLaws.{taken_says, says_trans, says_back}
use Rattle.hw_samples.specs.Words.{equal_three, three, panorama_in, short_name, unsigned_as, sent, deliver, settled_in, decided, unfold_answers, unfold_decisions, unfold_reading}
use Rattle.hw_samples.specs.FourUnits.{a0, b0, a1, b1, in_order}
use Rattle.hw_samples.specs.Forks.{c0, e0, other_side}
use Rattle.hw_samples.specs.Verdicts.{the_culprit, nameless}
use Rattle.hw_samples.specs.Reach.{CertificatesAreMade, ending, in_naming, first_era, empty_era, two_weights, zero_weight, rival, ErasFollow, NodesMeet}
use Rattle.hw_samples.proofs.Members.{Each, each_member, all_one, no_clash, are_same_where_named}
use Rattle.hw_samples.proofs.SummitMembers.{four_stands}
use Rattle.hw_types.proofs.OrderedLaws.{among_all}
use Rattle.hw_eras.proofs.EraLaws.{node_chain}

-- ---- certificates

each_ok : (answers : List (Result Receipt Cause)) → list_all (λ a. is_ok a) answers ≡ true → All (λ a. IsOk a) answers
each_ok answers h = among_all (λ a. IsOk a) answers (all_of (λ a. is_ok a) answers h)

made : in_order ≡ journal_from three in_order
unfolding unfold_answers
made = refl

four_ok : list_all (λ a. is_ok a) (answers_from three [] (delivered in_order)) ≡ true
unfolding unfold_answers
four_ok = refl

few : faulty_weight three.config (received_of three in_order) ≤ three.config.ftt
unfolding unfold_answers
few = omega arith

a0_in : Among (named three a0) (settled_in three in_order)
unfolding unfold_answers
a0_in = inl refl

abbrev settled : List Node
settled = named three a0 ∷ named three a1 ∷ named three b0 ∷ named three b1 ∷ []

settled_is : settled_in three in_order ≡ settled
unfolding unfold_answers
settled_is = refl

-- what holds of each of the four holds of each settled unit
each_settled : (P : Node → Type 0) → Each P settled → (x : Node) → Among x (settled_in three in_order) → P x
each_settled P e x m = each_member P settled e x (subst (λ xs. Among x xs) settled_is m)

-- a unit that cites these and marks nobody
module _ (x : Node) (before : List Vertex) (inside : Among x settled) (cited : Each (λ y. cites x.unit.panorama y ≡ true → Among y (units_in three before)) settled)
    (unmarked : list_all (λ o. not (is_faulty_mark o)) x.unit.panorama ≡ true) (none_listed : x.unit.endorsed ≡ []) where
  no_mark : (os : List Obs) (v : ℕ) → list_all (λ o. not (is_faulty_mark o)) os ≡ true → is_faulty_mark (slot os v) ≡ true → ⊥
  no_mark [] v h m = absurd (let no : false ≡ true = m in cc)
  no_mark (o ∷ os) zero h m = never_both (is_faulty_mark o) m (not_true (is_faulty_mark o) (and_parts (not (is_faulty_mark o)) (list_all (λ p. not (is_faulty_mark p)) os) h).0)
  no_mark (o ∷ os) (suc v) h m = no_mark os v (and_parts (not (is_faulty_mark o)) (list_all (λ p. not (is_faulty_mark p)) os) h).1 m

  has_needs : HasItsNeeds three in_order before x
  has_needs = record {
    settled = subst (λ xs. Among x xs) (sym settled_is) inside;
    cited = each_settled (λ y. cites x.unit.panorama y ≡ true → Among y (units_in three before)) cited;
    marks = λ v h. absurd (no_mark x.unit.panorama v unmarked h);
    endorsed = λ d m. absurd (let bad : Among d [] = subst (λ ds. Among d ds) none_listed m in bad);
  }

a0_needs : HasItsNeeds three in_order [] (named three a0)
a0_needs = has_needs (named three a0) [] (inl refl) (λ h. absurd cc, (λ h. absurd cc, (λ h. absurd cc, (λ h. absurd cc, tt)))) refl refl

b0_needs : HasItsNeeds three in_order (sent a0 ∷ []) (named three b0)
unfolding unfold_answers
b0_needs = has_needs (named three b0) (sent a0 ∷ []) (inr (inr (inl refl))) (λ h. inl refl, (λ h. absurd cc, (λ h. absurd cc, (λ h. absurd cc, tt)))) refl refl

a1_needs : HasItsNeeds three in_order (sent a0 ∷ sent b0 ∷ []) (named three a1)
unfolding unfold_answers
a1_needs = has_needs (named three a1) (sent a0 ∷ sent b0 ∷ []) (inr (inl refl)) (λ h. inl refl, (λ h. absurd cc, (λ h. inr (inl refl), (λ h. absurd cc, tt)))) refl refl

b1_needs : HasItsNeeds three in_order (sent a0 ∷ sent b0 ∷ sent a1 ∷ []) (named three b1)
unfolding unfold_answers
b1_needs = has_needs (named three b1) (sent a0 ∷ sent b0 ∷ sent a1 ∷ []) (inr (inr (inr (inl refl)))) (λ h. inl refl, (λ h. absurd cc, (λ h. inr (inl refl), (λ h. absurd cc, tt)))) refl refl

-- each settled unit came as a vertex
came : (x : Node) → Among x (settled_in three in_order) → Among x (units_in three in_order)
came x m = received_in three in_order x (in_journal three in_order x m)

latest_came : (v : ℕ) (u : Node) → latest (settled_in three in_order) (panorama_in three in_order) v ≡ Some u → Among u (units_in three in_order)
latest_came v u e = let h = latest_is (settled_in three in_order) (panorama_in three in_order) v u e in came u (find_node_is (settled_in three in_order) u h.0 h.2).0

extract : IsExtract three in_order (pruned_committees equal_three.weights (settled_in three in_order) (panorama_in three in_order) (named three a0) 2) in_order
extract = record { in_turn = (a0_needs, (b0_needs, (a1_needs, (b1_needs, tt)))); latest_in = λ v u m e. latest_came v u e; room = omega arith }

enough : IsEnough equal_three (received_of three in_order) (received_of three in_order) (pruned_committees equal_three.weights (settled_in three in_order) (panorama_in three in_order) (named three a0) 2)
unfolding answers_from
enough =
    let all = all_taken three in_order [] in_order (λ k d lt. absurd (omega arith)) (begun three in_order) (omega arith) (omega (arith, extract.room)) extract.in_turn in record {
      closed = closed_part three in_order in_order all.done;
      latest_in = λ v u m e. in_known three in_order (names three in_order in_order all.done) u (latest_came v u e);
    }

pub certificates_are_made : CertificatesAreMade
certificates_are_made = record {
  extract = extract;
  enough = enough;
  certifies = record {
    taken = each_ok (answers_from three [] (delivered in_order)) four_ok;
    few_faulty = subst (λ j. faulty_weight three.config (received_of three j) ≤ three.config.ftt) made few;
    unit = named three a0;
    inside = subst (λ j. Among (named three a0) (settled_of three.config (received_of three j))) made a0_in;
    named = refl;
    level = 1;
    quorum = 2;
    stands = subst (λ j. Stands three.config (received_of three j) (named three a0) 1 2) made four_stands;
  };
}

-- ---- eras

abbrev era_setting : Setting
era_setting = setting_in in_naming ending

are : (s : Setting) (journal : List Vertex) (ds : List Decision) → decisions_of s journal ≡ ds → AreDecisions s journal ds
are s journal ds e = subst (λ ds. AreDecisions s journal ds) e (decisions_are s journal (one_block_each s journal))

first_is : decisions_of era_setting (journal_of era_setting (deliver in_order)) ≡ decided a0 0 1 2 4 ∷ []
unfolding unfold_decisions
first_is = refl

rival_is : decisions_of era_setting (journal_of era_setting (deliver other_side)) ≡ decided c0 0 1 2 4 ∷ []
unfolding unfold_decisions
rival_is = refl

first_made : AreDecisions era_setting (journal_of era_setting (deliver in_order)) (decided a0 0 1 2 4 ∷ [])
first_made = are era_setting (journal_of era_setting (deliver in_order)) (decided a0 0 1 2 4 ∷ []) first_is

-- what follows the first era, whatever is in it
next_is : config_after era_setting first_era ≡ Some (next_config ending (short_name a0) (120 ∷ []))
unfolding unfold_answers Rattle.hw_eras.specs.Eras.last_block
next_is = refl

empty_is : (s : Setting) → AreDecisions s (journal_of s []) []
empty_is s = nothing_at_first s

two_eras : AreEras in_naming (Some ending) (first_era ∷ empty_era ∷ [])
two_eras = (first_made, subst (λ o. AreEras in_naming o (empty_era ∷ [])) (sym next_is) (empty_is (setting_in in_naming (next_config ending (short_name a0) (120 ∷ []))), tt))

same_no_clash : journals_clash era_setting (journal_of era_setting (deliver in_order)) (journal_of era_setting (deliver in_order)) ≡ false
unfolding unfold_answers journals_clash
same_no_clash = refl

rival_no_clash : journals_clash era_setting (journal_of era_setting (deliver in_order)) (journal_of era_setting (deliver other_side)) ≡ false
unfolding unfold_answers journals_clash
rival_no_clash = refl

b0_signed : SignedAs (journal_of era_setting (deliver in_order) ++ journal_of era_setting (deliver other_side)) (named era_setting b0) (signed_bytes (unsigned_as b0))
unfolding unfold_answers
b0_signed = (unsigned_as b0, inr (inl refl), refl, refl)

e0_signed : SignedAs (journal_of era_setting (deliver in_order) ++ journal_of era_setting (deliver other_side)) (named era_setting e0) (signed_bytes (unsigned_as e0))
unfolding unfold_answers
e0_signed = (unsigned_as e0, inr (inr (inr (inr (inr (inl refl))))), refl, refl)

shown : IsShown era_setting (journal_of era_setting (deliver in_order)) (journal_of era_setting (deliver other_side)) the_culprit
unfolding unfold_answers
shown = record { first = named era_setting b0; second = named era_setting e0; pair = refl; first_bytes = b0_signed; second_bytes = e0_signed }

validators : culprits_of era_setting (journal_of era_setting (deliver in_order)) (journal_of era_setting (deliver other_side)) ≡ 1 ∷ []
unfolding unfold_answers
validators = refl

weight : 1 ≡ culprit_weight era_setting (journal_of era_setting (deliver in_order)) (journal_of era_setting (deliver other_side))
unfolding unfold_answers culprit_weight
weight = refl

named_next : next_config ending (short_name a0) two_weights ≡ record ending { weights = 1 ∷ 1 ∷ []; leaders = Drawn (short_name a0).0 }
unfolding unfold_reading next_config Rattle.hw_eras.specs.Eras.named_by Rattle.hw_types.specs.Limits.config_fault
named_next = refl

no_weight : next_config ending (short_name a0) zero_weight ≡ record ending { leaders = Drawn (short_name a0).0 }
unfolding unfold_reading next_config Rattle.hw_eras.specs.Eras.named_by Rattle.hw_types.specs.Limits.config_fault
no_weight = refl

no_spelling : next_config ending (short_name a0) (120 ∷ []) ≡ record ending { leaders = Drawn (short_name a0).0 }
unfolding unfold_reading next_config Rattle.hw_eras.specs.Eras.named_by
no_spelling = refl

pub eras_follow : ErasFollow
eras_follow = record {
  named = named_next;
  no_weight = no_weight;
  no_spelling = no_spelling;
  two_eras = two_eras;
  chain = node_chain in_naming ending (first_era ∷ empty_era ∷ []) two_eras;
  agree = (1, 0, (same_no_clash, record { begins = inl ([], refl); shorter = refl }), refl, refl);
  differ = (
    ending,
    (
      refl,
      (
        rival_no_clash,
        record {
          blocks = record {
            below = refl;
            left_is = refl;
            right_is = refl;
            differ = λ e. never_both (digest_eq (short_name a0) (short_name c0)) (subst (λ d. digest_eq (short_name a0) d ≡ true) e (digest_self (short_name a0))) refl;
          };
          culprits_are = record { validators_are = sym validators; each = all_one (IsShown era_setting (journal_of era_setting (deliver in_order)) (journal_of era_setting (deliver other_side))) the_culprit shown };
          weight_is = weight;
        },
      ),
      tt,
    ),
  );
}

-- ---- meetings of two nodes

told : summaries three in_order ≡ Line 2 (short_name a1) ∷ Line 2 (short_name b1) ∷ Nothing ∷ []
unfolding unfold_answers summary_of
told = refl

nothing_told : summaries three [] ≡ Nothing ∷ Nothing ∷ Nothing ∷ []
unfolding unfold_answers summary_of
nothing_told = refl

all_due : due_to three in_order [] ≡ in_order
unfolding unfold_answers summary_of
all_due = refl

none_due : due_to three [] in_order ≡ []
unfolding unfold_answers summary_of
none_due = refl

has_all : taken three [] in_order ≡ in_order
unfolding unfold_answers
has_all = refl

nothing_more : due_to three in_order in_order ≡ []
unfolding unfold_answers summary_of
nothing_more = refl

torn : torn_for three in_order (summaries three other_side) ≡ 1 ∷ []
unfolding unfold_answers summary_of
torn = refl

torn_there : torn_for three other_side (summaries three in_order) ≡ 1 ∷ []
unfolding unfold_answers summary_of
torn_there = refl

both_due : due_to three in_order other_side ≡ in_order
unfolding unfold_answers summary_of
both_due = refl

both_due_there : due_to three other_side in_order ≡ other_side
unfolding unfold_answers summary_of
both_due_there = refl

here_ok : list_all (λ a. is_ok a) (answers_from three in_order (delivered other_side)) ≡ true
unfolding unfold_answers
here_ok = refl

there_ok : list_all (λ a. is_ok a) (answers_from three other_side (delivered in_order)) ≡ true
unfolding unfold_answers
there_ok = refl

-- the two journals are those of deliveries
left_is : journal_of three (deliver in_order) ≡ in_order
unfolding unfold_answers
left_is = refl

right_is : journal_of three (deliver other_side) ≡ other_side
unfolding unfold_answers
right_is = refl

apart_test : are_same_where_named (received_of three in_order).units (received_of three other_side).units ≡ true
unfolding unfold_answers Rattle.hw_samples.proofs.Members.same_where_named
apart_test = refl

names_left : NamesApart (units_in three in_order)
names_left = subst (λ j. NamesApart (units_in three j)) left_is (journal_apart three (deliver in_order))

names_right : NamesApart (units_in three other_side)
names_right = subst (λ j. NamesApart (units_in three j)) right_is (journal_apart three (deliver other_side))

none_refused_here : NoneRefused three in_order other_side
none_refused_here = each_ok (answers_from three in_order (delivered other_side)) here_ok

none_refused_there : NoneRefused three other_side in_order
none_refused_there = each_ok (answers_from three other_side (delivered in_order)) there_ok

-- each took the other's units
both_say : SaysTheSame three (in_order ++ other_side) (other_side ++ in_order)
both_say =
    subst (λ vs. SaysTheSame three (in_order ++ other_side) (other_side ++ vs)) both_due
    (subst (λ vs. SaysTheSame three (in_order ++ vs) (other_side ++ due_to three in_order other_side)) both_due_there
    (together three in_order other_side names_left names_right (no_clash (received_of three in_order).units (received_of three other_side).units apart_test)))

same : SaysTheSame three (taken three in_order other_side) (taken three other_side in_order)
same = says_trans three (taken three in_order other_side) (in_order ++ other_side) (taken three other_side in_order) (taken_says three in_order other_side none_refused_here)
    (says_trans three (in_order ++ other_side) (other_side ++ in_order) (taken three other_side in_order) both_say (says_back three (taken three other_side in_order) (other_side ++ in_order) (taken_says three other_side in_order none_refused_there)))

nothing_due : due_to nameless (sent a0 ∷ []) (sent rival ∷ []) ≡ []
unfolding unfold_answers summary_of
nothing_due = refl

in_left : Among (named nameless a0) (units_in nameless (sent a0 ∷ []))
unfolding unfold_answers
in_left = inl refl

in_right : Among (named nameless rival) (units_in nameless (sent rival ∷ []))
unfolding unfold_answers
in_right = inl refl

-- the values of the two differ
differ : named nameless a0 ≡ named nameless rival → ⊥
differ e = never_both (unit_eq a0 a0) (unit_self a0) (subst (λ (z : Node). unit_eq a0 z.unit ≡ false) (sym e) refl)

pub nodes_meet : NodesMeet
nodes_meet = record {
  told = told;
  nothing_told = nothing_told;
  all_due = all_due;
  none_due = none_due;
  none_refused = each_ok (answers_from three [] (delivered in_order)) four_ok;
  has_all = has_all;
  nothing_more = nothing_more;
  torn = torn;
  torn_there = torn_there;
  both_due = both_due;
  both_due_there = both_due_there;
  none_refused_here = none_refused_here;
  none_refused_there = none_refused_there;
  same = same;
  nothing_due = nothing_due;
  clash = record { first = named nameless a0; second = named nameless rival; in_left = in_left; in_right = in_right; one_name = refl; differ = differ };
}
