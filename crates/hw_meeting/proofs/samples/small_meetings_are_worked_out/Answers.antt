use Rattle.std.proofs.Common.{◌≡◌, ℕ, zero, suc, ◌<◌, ◌≤◌, List, [], ◌∷◌, inl, inr, refl, sym, subst, arith, lit<}
use Rattle.std.proofs.lemmas.List.Elements.{All-cons, All-nil}
use Rattle.hw_types.specs.ByName.{by_name}
use Rattle.hw_types.specs.Closure.{closure, closure_after}
use Rattle.hw_types.specs.Graph.{Node, reach}
use Rattle.hw_types.specs.Reading.{many_at, counted_at, whole}
use Rattle.hw_dag.specs.Dag.{unit_at, seq_of, node_at, by_name_of}
use Rattle.hw_agree.specs.declared.summary.LaneSummary.{LaneSummary}
use Rattle.hw_agree.specs.declared.summary.LaneSummary.TheVariants.{Nothing, Line, Tangled}
use Rattle.hw_meeting.specs.declared.mark.Mark.TheVariants as mark
use Rattle.hw_meeting.specs.declared.due.Owed.TheVariants as owed
use Rattle.hw_meeting.specs.Frames.{HasUnits, rise_from, part_at, summary_at, torn_at, meeting_of}
use Rattle.hw_meeting.specs.Samples.{digest, block, one_block, first}
use Rattle.hw_meeting.specs.Lanes.{IsHighest, tip_at, IsOnLaneOf, IsOnTip, IsMark, mark_at}
use Rattle.hw_meeting.specs.Due.{AreOwed}
use Rattle.hw_meeting.proofs.samples.small_meetings_are_worked_out.Goals as goal

pub returns-clause-summary : goal.returns-clause-summary
unfolding many_at counted_at whole part_at summary_at meeting_of
returns-clause-summary c = record {
  spelled = record { limits = (refl, All-cons HasUnits (Line 2 (digest 7)) (Nothing ∷ Tangled ∷ []) (lit< tt) (All-cons HasUnits Nothing (Tangled ∷ []) tt (All-cons HasUnits Tangled [] tt (All-nil HasUnits)))); is = refl };
  read = refl;
  refused = refl;
}

pub returns-clause-torn : goal.returns-clause-torn
unfolding many_at counted_at whole rise_from torn_at meeting_of
returns-clause-torn c = record { read = refl; refused = refl }

lane : IsOnLaneOf one_block 0 block
unfolding closure closure_after reach by_name by_name_of
lane = record { number = 0; known = lit< tt; on_lane = refl; is = refl }

no_higher : (n : ℕ) → n < 1 → seq_of (unit_at one_block n) ≤ 0
no_higher zero less = omega arith
no_higher (suc n) less = absurd (omega arith)

highest_each : (v : ℕ) → v < 1 → IsHighest one_block 1 v (tip_at first v)
highest_each zero lt = (omega arith, refl, λ n less e. no_higher n less)
highest_each (suc v) lt = absurd (omega arith)

whole_each : (v : ℕ) → v < 1 → IsMark (IsOnTip one_block (tip_at first v)) v (node_at one_block 0 ∷ []) (mark_at (mark.Whole ∷ []) v)
whole_each zero lt = (
  record { unit = node_at one_block 0; among = inl refl; creator_is = refl },
  λ x m e. elim m [ inl is ↦ subst (λ (y : Node). IsOnLaneOf one_block 0 y.unit) is lane | inr none ↦ absurd none ],
)
whole_each (suc v) lt = absurd (omega arith)

pub returns-clause-line : goal.returns-clause-line
returns-clause-line c = record {
  highest = record { size = refl; each = highest_each };
  lane = lane;
  whole = record { size = refl; each = whole_each };
}

pub returns-clause-broken : goal.returns-clause-broken
returns-clause-broken c = record { unit = node_at one_block 0; among = inl refl; creator_is = refl; other = λ h. h }

abbrev mine : List LaneSummary
mine = Line 3 (digest 3) ∷ []

abbrev theirs : List LaneSummary
theirs = Line 1 (digest 1) ∷ []

ahead : AreOwed [] mine theirs (owed.From 1 ∷ [])
ahead zero o e = let same : owed.From 1 ≡ o = cc in sym same
ahead (suc v) o e = absurd cc

torn : AreOwed (0 ∷ []) mine theirs (owed.All ∷ [])
torn zero o e = let same : owed.All ≡ o = cc in sym same
torn (suc v) o e = absurd cc

pub returns-clause-owed : goal.returns-clause-owed
returns-clause-owed c = record { ahead = ahead; torn = torn }
