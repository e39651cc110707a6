-- A certificate that is answered yes, worked from what four units are answered and decide.
use Rattle.std.proofs.Common.{◌≡◌, ◌≢◌, ◌≤◌, true, List, [], ◌∷◌, ◌++◌, refl, sym, ap, subst, inl, inr, ◌∙◌, append-nil, append_assoc}
use Rattle.std.specs.Prelude.{All, Any, IsOk, is_ok, fold}
use Rattle.std.specs.List.{list_all}
use Rattle.std.proofs.lemmas.List.Elements.{All-head}
use Rattle.std.proofs.lemmas.List.Quantifiers.{Any-push}
use Rattle.hw_types.specs.declared.unit.Digest.{Digest}
use Rattle.hw_types.specs.declared.unit.Vertex.{Vertex}
use Rattle.hw_types.specs.declared.answers.Decision.{Decision}
use Rattle.hw_types.specs.Graph.{digest_eq}
use Rattle.hw_types.specs.Below.{Among}
use Rattle.hw_types.specs.Settled.{settled_of, faulty_weight}
use Rattle.hw_types.specs.Summit.{Stands}
use Rattle.hw_types.specs.Journal.{Setting, received_of, is_accepted, answer, answers_from, journal_after}
use Rattle.hw_types.specs.Decisions.{AreDecisions, IsRecord}
use Rattle.hw_types.proofs.SettledLaws.{digest_self}
use Rattle.hw_types.proofs.StableLaws.{and_parts}
use Rattle.hw_types.proofs.WordsLaws.{all_of, never_both, find_node_is}
use Rattle.hw_types.proofs.OrderedLaws.{among_all}
use Rattle.hw_safety.specs.Safety.{HasPairs}
use Rattle.hw_safety.specs.Decided.{decisions_of}
use Rattle.hw_safety.proofs.DecidedLaws.{decisions_are}
use Rattle.hw_safety.proofs.HeightLaws.{one_block_each}
use Rattle.hw_safety.proofs.VerdictLaws.{found}
use Rattle.hw_honest.proofs.ReplayLaws.{after_accepted}
use Rattle.hw_agree.specs.Certificates.{delivered, journal_from}
use Rattle.hw_light.specs.Checked.{IsCertified}
use Rattle.hw_light.proofs.YesLaws.{accountable}
use Rattle.hw_samples.specs.RealNames.{a0_name, c0_name, real, real_in_order, real_other_side}
use Rattle.hw_samples.proofs.ValueSamples.{four_units_by_their_digests}
use Rattle.hw_samples.specs.Light.{four_certify, node_of, other_decision, YesMeetsAnother}

-- ---- the journal

-- vertices that are all accepted make a journal of themselves
all_accepted : (s : Setting) (journal vs : List Vertex) → list_all is_accepted (answers_from s journal (delivered vs)) ≡ true → fold (journal_after s) journal (delivered vs) ≡ journal ++ vs
unfolding answers_from
all_accepted s journal [] h = sym (append-nil journal)
all_accepted s journal (v ∷ vs) h =
    let both = and_parts (is_accepted (answer s journal v true)) (list_all is_accepted (answers_from s (journal_after s journal (v, true)) (delivered vs))) h in
    all_accepted s (journal_after s journal (v, true)) vs both.1
    ∙ ap (λ (j : List Vertex). j ++ vs) (after_accepted s journal v true both.0)
    ∙ append_assoc journal (v ∷ []) vs

each_accepted : list_all is_accepted (answers_from real [] (delivered real_in_order)) ≡ true
each_accepted = ap (list_all is_accepted) four_units_by_their_digests.answers

journal_is : journal_from real real_in_order ≡ real_in_order
journal_is = all_accepted real [] real_in_order each_accepted

each_ok : All (λ a. IsOk a) (answers_from real [] (delivered real_in_order))
each_ok = among_all (λ a. IsOk a) (answers_from real [] (delivered real_in_order)) (all_of (λ a. is_ok a) (answers_from real [] (delivered real_in_order)) (ap (list_all (λ a. is_ok a)) four_units_by_their_digests.answers))

-- ---- its block

abbrev own_decision : Decision
own_decision = record { block = a0_name; height = 0; level = 1; quorum = 2; at = 4 }

own_record : IsRecord real real_in_order own_decision
own_record =
    All-head (IsRecord real real_in_order) own_decision []
    (subst (λ (ds : List Decision). AreDecisions real real_in_order ds) four_units_by_their_digests.decisions (decisions_are real real_in_order (one_block_each real real_in_order))).each

certified : IsCertified four_certify (node_of real_in_order)
certified =
    let there = find_node_is _ own_record.block a0_name own_record.found in
    record {
      config = refl;
      journal = sym journal_is;
      certifies = record {
        taken = each_ok;
        few_faulty = subst (λ (j : List Vertex). faulty_weight real.config (received_of real j) ≤ real.config.ftt) (sym journal_is) own_record.stood.few_faulty;
        unit = own_record.block;
        inside = subst (λ (j : List Vertex). Among own_record.block (settled_of real.config (received_of real j))) (sym journal_is) there.0;
        named = there.1;
        level = 1;
        quorum = 2;
        stands = subst (λ (j : List Vertex). Stands real.config (received_of real j) own_record.block 1 2) (sym journal_is) own_record.stood.stands;
      };
    }

-- ---- the other node

pairs : HasPairs real real_other_side
pairs e (inl is) = absurd cc
pairs e (inr (inl is)) = absurd cc
pairs e (inr (inr (inl is))) = absurd cc
pairs e (inr (inr (inr (inl is)))) = absurd cc
pairs e (inr (inr (inr (inr none)))) = absurd none

other : Among other_decision (decisions_of real real_other_side)
other = subst (λ (ds : List Decision). Among other_decision ds) (sym four_units_by_their_digests.other_decisions) (inl refl)

same_height : Any (λ (d : Decision). (d.block ≡ a0_name) × (d.height ≡ 0)) (decisions_of real real_in_order)
same_height = subst (λ (ds : List Decision). Any (λ (d : Decision). (d.block ≡ a0_name) × (d.height ≡ 0)) ds) (sym four_units_by_their_digests.decisions) (Any-push (λ (d : Decision). (d.block ≡ a0_name) × (d.height ≡ 0)) [] own_decision (refl, refl))

differ : c0_name ≢ a0_name
differ e = never_both (digest_eq c0_name a0_name) (subst (λ (d : Digest). digest_eq c0_name d ≡ true) e (digest_self c0_name)) refl

pub yes_meets_another : YesMeetsAnother
yes_meets_another =
    let v = found real real_in_order real_other_side (decisions_of real real_in_order) (decisions_of real real_other_side) in
    record {
      certified = certified;
      pairs = pairs;
      other = other;
      same_height = same_height;
      differ = differ;
      verdict = v.0;
      is = v.1;
      accountable = accountable four_certify (node_of real_in_order) (node_of real_other_side) other_decision v.0 certified refl pairs other same_height differ v.1;
    }
