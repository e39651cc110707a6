-- A node that brings its block to a new one.
use Rattle.std.specs.Prelude.{nat_le, IsOk}
use Rattle.std.specs.List.{AllByRecursion}
use Rattle.std.proofs.Common.{◌≡◌, ℕ, ◌<◌, ◌≤◌, ◌^◌, Bool, true, List, [], ◌∷◌, ◌++◌, length, Some, None, inl, inr, refl, sym, ap, subst, ◌∙◌, arith, length-append}
use Rattle.std.proofs.lemmas.Bool.{leb-true}
use Rattle.std.proofs.lemmas.List.{append-nil}
use Rattle.std.proofs.lemmas.List.Elements.{All-nil, All-from_recursion}
use Rattle.hw_types.specs.declared.unit.Vertex.{Vertex}
use Rattle.hw_types.specs.declared.unit.WireUnit.{WireUnit}
use Rattle.hw_types.specs.Below.{Among}
use Rattle.hw_types.specs.Journal.{journal_of, answers_from}
use Rattle.hw_types.specs.Spelling.{digest_of, instance_of, unit_bytes, VertexFits}
use Rattle.hw_types.specs.Real.{CoreState, setting_of}
use Rattle.hw_codec.specs.Ranges.{AreBytes, DigestInRange, VertexInRange}
use Rattle.hw_log.specs.Log.{header_bytes}
use Rattle.hw_link.specs.Frames.{byte_limit}
use Rattle.hw_agree.specs.declared.summary.LaneSummary.TheVariants.{Nothing, Line}
use Rattle.hw_agree.specs.Converge.{due_to}
use Rattle.hw_session.specs.Accept.{given_to, taken_by}
use Rattle.hw_session.specs.Make.{entry_for}
use Rattle.hw_session.specs.Restart.{HasLog}
use Rattle.hw_meeting.specs.declared.frame.MeetingFrame.{MeetingFrame}
use Rattle.hw_meeting.specs.declared.frame.MeetingFrame.TheVariants as frame
use Rattle.hw_meeting.specs.Frames.{meeting_bytes, HasUnits, PartInRange}
use Rattle.hw_meeting_node.specs.declared.end.MeetEnd.TheVariants as end
use Rattle.hw_meeting_node.specs.declared.meeter.Side.TheVariants.{Caller, Host}
use Rattle.hw_meeting_node.specs.Frames.{sent_bytes}
use Rattle.hw_meeting_node.specs.Laws.{judged, HaveMet}
use Rattle.hw_meeting_node.specs.Sessions.{Meets}
use Rattle.hw_service.specs.Meets.{after_all, NodeMeets}
use Rattle.hw_run_laws.specs.Calls.{at_door}
use Rattle.hw_run_laws.specs.Members.{alone, first_standing, first_block}
use Rattle.hw_run_laws.specs.MeetMembers.{MayBeSaid, words_to, with_all, MayBeTold, one_block, has_block, by_keys, no_session, one_session, OneMeets}
use Rattle.hw_run_laws.proofs.BeginLaws.{one_begins, lawful}
use Rattle.hw_run_laws.proofs.MemberLaws.{in_range, fits}
use Rattle.hw_meeting_node.proofs.RangeLaws.{hash_in_range, instance_in_range}
use Rattle.hw_run_laws.proofs.QuietLaws.{stays}
use Rattle.hw_run_laws.proofs.TakenLaws.{logs_entry}
use Rattle.hw_run_laws.proofs.TogetherLaws.{meetings_there, meets_whole, takes_due}

-- what the journal of one unit is worked out by
unfoldable unfold_all : Type 0
unfolding Rattle.hw_types.specs.Graph.reach Rattle.hw_types.specs.Closure.closure_after Rattle.hw_types.specs.Closure.closure Rattle.hw_types.specs.Graph.is_at_most Rattle.hw_types.specs.Graph.is_consistent Rattle.hw_types.specs.Votes.is_ancestor_within Rattle.hw_types.specs.Votes.votes_for Rattle.hw_types.specs.Votes.height_within Rattle.hw_types.specs.Votes.height_of Rattle.hw_types.specs.Votes.score_of Rattle.hw_types.specs.Votes.best_child Rattle.hw_types.specs.Votes.walk Rattle.hw_types.specs.Votes.ghost_walk Rattle.hw_types.specs.Rules.is_after_terminal Rattle.hw_types.specs.Votes.choices_after Rattle.hw_types.specs.Votes.fork_over Rattle.hw_types.specs.Rounds.leader_of Rattle.hw_types.specs.Rules.local_tests Rattle.hw_types.specs.Rules.has_naive_fork Rattle.hw_types.specs.Rules.state_tests Rattle.hw_types.specs.Settled.equivocates Rattle.hw_types.specs.Settled.is_endorsed Rattle.hw_types.specs.Settled.needs_of Rattle.hw_types.specs.Settled.missing_of Rattle.hw_types.specs.Settled.settled_of Rattle.hw_types.specs.Settled.parked_of Rattle.hw_types.specs.Settled.dropped_of Rattle.hw_types.specs.Settled.tip_of Rattle.hw_types.specs.Settled.panorama_of Rattle.hw_types.specs.Settled.faulty_weight Rattle.hw_types.specs.Settled.fork_choice Rattle.hw_types.specs.ByName.by_name Rattle.hw_types.specs.Journal.received_of Rattle.hw_types.specs.Journal.answer Rattle.hw_types.specs.Journal.answers_from Rattle.hw_types.specs.Spelling.digest_of Rattle.hw_types.specs.Spelling.instance_of Rattle.sha2.specs.Sha256.sha256 Rattle.sha2.specs.Sha256.first_words Rattle.sha2.specs.Sha256.schedule Rattle.sha2.specs.Sha256.rounds Rattle.sha2.specs.Sha256.compress Rattle.sha2.specs.Sha256.hash_after Rattle.sha2.specs.Sha256.digest_bytes Rattle.hw_agree.specs.Converge.summary_of Rattle.hw_keys.specs.Signed.verdict_of
unfold_all = Unit {0}

abbrev has : CoreState
has = has_block.node.core

abbrev none : CoreState
none = first_standing.node.core

abbrev its_unit : WireUnit
its_unit = (first_block (120 ∷ [])).unit

-- ---- worked out

made : journal_of (setting_of alone) ((one_block, true) ∷ []) ≡ one_block ∷ []
unfolding unfold_all
made = refl

due : due_to (setting_of alone) (one_block ∷ []) [] ≡ one_block ∷ []
unfolding unfold_all
due = refl

none_due : due_to (setting_of alone) [] (one_block ∷ []) ≡ []
unfolding unfold_all
none_due = refl

says : words_to has none ≡ frame.Hello (instance_of alone) ∷ frame.Summary (Line 1 (digest_of its_unit) ∷ []) ∷ frame.Torn [] ∷ frame.Vertex one_block ∷ frame.Done ∷ []
unfolding unfold_all
says = refl

says_back : words_to none has ≡ frame.Hello (instance_of alone) ∷ frame.Summary (Nothing ∷ []) ∷ frame.Torn [] ∷ frame.Done ∷ []
unfolding unfold_all
says_back = refl

takes : AllByRecursion (λ a. IsOk a) (answers_from (setting_of alone) [] (judged by_keys (one_block ∷ [])))
unfolding unfold_all
takes = (refl, tt)

left : with_all none by_keys (one_block ∷ []) ≡ has
unfolding unfold_all
left = refl

taken : taken_by first_standing.node one_block (given_to first_standing.node one_block) ≡ has_block.node
unfolding unfold_all
taken = refl

-- ---- within the limits

is_short : (n m : ℕ) → nat_le n m ≡ true → n ≤ m
is_short n m h = leb-true n m h

words_short : nat_le (length (sent_bytes (words_to has none))) byte_limit ≡ true
unfolding unfold_all
words_short = refl

back_short : nat_le (length (sent_bytes (words_to none has))) byte_limit ≡ true
unfolding unfold_all
back_short = refl

block_short : nat_le (length (meeting_bytes (frame.Vertex one_block))) 1048576 ≡ true
unfolding unfold_all
block_short = refl

name_range : DigestInRange (digest_of its_unit)
unfolding digest_of
name_range = hash_in_range (unit_bytes its_unit)

abbrev may : (16 < 2 ^ 63) × (length {A = ℕ} (120 ∷ []) ≤ 4096) × AreBytes (120 ∷ [])
may = (omega arith, omega arith, All-from_recursion (λ (b : ℕ). b < 2 ^ 8) (120 ∷ []) (omega arith, tt))

block_range : VertexInRange one_block
block_range = in_range 0 first_standing one_begins.validator one_begins.sound one_begins.ready 16 (120 ∷ []) may (first_block (120 ∷ [])) (one_begins.to_make (120 ∷ [])).is (one_begins.to_make (120 ∷ [])).room

block_fits : VertexFits one_block
block_fits = fits 0 first_standing one_begins.validator one_begins.sound one_begins.ready 16 (120 ∷ []) may (first_block (120 ∷ [])) (one_begins.to_make (120 ∷ [])).is

greeting : MayBeSaid 1 (frame.Hello (instance_of alone))
greeting = record { said = tt; range = instance_in_range alone; short = let size = (instance_in_range alone).size in omega (arith, size) }

torn : MayBeSaid 1 (frame.Torn [])
unfolding Rattle.hw_meeting.specs.Frames.rise_from
torn = record { said = refl; range = All-nil (λ (v : ℕ). v < 2 ^ 32); short = omega arith }

done : MayBeSaid 1 frame.Done
done = record { said = tt; range = tt; short = omega arith }

line : MayBeSaid 1 (frame.Summary (Line 1 (digest_of its_unit) ∷ []))
line = record {
  said = (refl, All-from_recursion HasUnits (Line 1 (digest_of its_unit) ∷ []) (omega arith, tt));
  range = All-from_recursion PartInRange (Line 1 (digest_of its_unit) ∷ []) ((omega arith, name_range), tt);
  short = let size = name_range.size in omega (arith, size, length-append (digest_of its_unit).0 []);
}

nothing : MayBeSaid 1 (frame.Summary (Nothing ∷ []))
nothing = record { said = (refl, All-from_recursion HasUnits (Nothing ∷ []) (tt, tt)); range = All-from_recursion PartInRange (Nothing ∷ []) (tt, tt); short = omega arith }

brings : MayBeSaid 1 (frame.Vertex one_block)
brings = record { said = block_fits; range = block_range; short = is_short _ 1048576 block_short }

fit : (v : Vertex) → Among v (one_block ∷ []) → VertexFits v
fit v (inl is) = subst VertexFits is block_fits
fit v (inr never) = absurd never

tells : MayBeTold has none by_keys
tells = record {
  fit = fit;
  words = subst (λ (fs : List MeetingFrame). AllByRecursion (MayBeSaid 1) fs) (sym says) (greeting, (line, (torn, (brings, (done, tt)))));
  short = is_short _ byte_limit words_short;
  takes = subst (λ (vs : List Vertex). AllByRecursion (λ a. IsOk a) (answers_from (setting_of alone) [] (judged by_keys vs))) (sym due) takes;
}

tells_back : MayBeTold none has by_keys
unfolding answers_from
tells_back = record {
  fit = λ v never. absurd never;
  words = subst (λ (fs : List MeetingFrame). AllByRecursion (MayBeSaid 1) fs) (sym says_back) (greeting, (nothing, (torn, (done, tt))));
  short = is_short _ byte_limit back_short;
  takes = subst (λ (vs : List Vertex). AllByRecursion (λ a. IsOk a) (answers_from (setting_of alone) (one_block ∷ []) (judged by_keys vs))) (sym none_due) tt;
}

-- ---- they met

abbrev deliveries : List (Vertex × Bool)
deliveries = (one_block, true) ∷ []

abbrev with_journal : List Vertex → CoreState
with_journal j = record { config = alone; journal = j; asked = None }

abbrev reached : List Vertex
reached = journal_of (setting_of alone) deliveries

has_stays : with_all has by_keys (due_to (setting_of alone) [] (one_block ∷ [])) ≡ has
has_stays = ap (with_all has by_keys) none_due

none_grows : with_all none by_keys (due_to (setting_of alone) (one_block ∷ []) []) ≡ has
none_grows = ap (with_all none by_keys) due ∙ left

met : HaveMet alone deliveries [] by_keys by_keys has has
met =
    let one = ap (λ (j : List Vertex). with_all (with_journal j) by_keys (due_to (setting_of alone) [] j)) made ∙ has_stays in
    let other = ap (λ (j : List Vertex). with_all none by_keys (due_to (setting_of alone) j [])) made ∙ none_grows in
    subst (λ (o : CoreState). HaveMet alone deliveries [] by_keys by_keys has o) other
    (subst (λ (o : CoreState). HaveMet alone deliveries [] by_keys by_keys o (with_all none by_keys (due_to (setting_of alone) reached []))) one
    (meetings_there alone deliveries [] None None by_keys by_keys lawful
    (subst (λ (j : List Vertex). MayBeTold (with_journal j) none by_keys) (sym made) tells)
    (subst (λ (j : List Vertex). MayBeTold none (with_journal j) by_keys) (sym made) tells_back)))

calls : NodeMeets Caller (Some []) true (at_door has_block no_session) (at_door has_block (one_session (Some []) (words_to none has) (words_to has none))) (end.Done 0)
calls = record {
  meets = record {
    read = sent_bytes (words_to none has);
    written = sent_bytes (words_to has none);
    meets = subst (λ (o : CoreState). Meets Caller has by_keys (sent_bytes (words_to none has)) (sent_bytes (words_to has none)) o 0 0 (end.Done 0)) has_stays (meets_whole alone lawful Caller by_keys (one_block ∷ []) [] None None tells_back (append-nil _));
    told = refl;
  };
  left = (ap (after_all has_block.node) (sym (takes_due alone lawful Caller by_keys (one_block ∷ []) [] None None tells_back ∙ none_due)), stays has_block.node has_block.held);
}

hosts : NodeMeets Host None true (at_door first_standing no_session) (at_door has_block (one_session None (words_to has none) (words_to none has))) (end.Done 0)
hosts = record {
  meets = record {
    read = sent_bytes (words_to has none);
    written = sent_bytes (words_to none has);
    meets = subst (λ (o : CoreState). Meets Host none by_keys (sent_bytes (words_to has none)) (sent_bytes (words_to none has)) o 0 0 (end.Done 0)) none_grows (meets_whole alone lawful Host by_keys [] (one_block ∷ []) None None tells refl);
    told = refl;
  };
  left = (sym (ap (after_all first_standing.node) (takes_due alone lawful Host by_keys [] (one_block ∷ []) None None tells ∙ due) ∙ taken), logs_entry first_standing.node one_block first_standing.held);
}

log : HasLog has_block.node (has_block.held has_block.node.log)
log = record { version = 2; known = inr refl; holds = ap (λ (bytes : List ℕ). Some (header_bytes 2 alone ++ bytes)) (sym (append-nil (entry_for first_standing.node one_block))); lasts = refl }

pub one_meets : OneMeets
one_meets = record { due = due; met = met; calls = calls; hosts = hosts; log = log }
