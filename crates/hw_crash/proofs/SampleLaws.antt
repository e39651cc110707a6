-- A worked power failure.
use Rattle.std.proofs.Common.{◌≡◌, inl, inr, [], ◌++◌, None, refl, ap, ◌∙◌, arith}
use Rattle.hw_types.specs.declared.unit.SignedUnit.{SignedUnit}
use Rattle.hw_types.specs.Limits.{config_fault}
use Rattle.hw_honest.specs.Cluster.{signed}
use Rattle.hw_honest.specs.Laws.{IsSafeToStart}
use Rattle.hw_honest.specs.Sample.{in_short, a0}
use Rattle.hw_honest.specs.MoreSamples.{empty}
use Rattle.hw_honest.proofs.OneLineLaws.{begins}
use Rattle.hw_crash.specs.Disk.{OnDisk, ComesBack, AreCareful}
use Rattle.hw_crash.specs.Laws.{Begins}
use Rattle.hw_crash.specs.Sample.{begun, lost, more, APowerFailure}

-- what the definitions of a life unfold
unfoldable unfold_life : Type 0
unfolding Rattle.hw_types.specs.Graph.reach Rattle.hw_types.specs.Closure.closure_after Rattle.hw_types.specs.Closure.closure Rattle.hw_types.specs.Graph.is_at_most Rattle.hw_types.specs.Graph.is_consistent Rattle.hw_types.specs.Votes.is_ancestor_within Rattle.hw_types.specs.Votes.votes_for Rattle.hw_types.specs.Votes.height_within Rattle.hw_types.specs.Votes.height_of Rattle.hw_types.specs.Votes.score_of Rattle.hw_types.specs.Votes.best_child Rattle.hw_types.specs.Votes.walk Rattle.hw_types.specs.Votes.ghost_walk Rattle.hw_types.specs.Rules.is_after_terminal Rattle.hw_types.specs.Votes.choices_after Rattle.hw_types.specs.Votes.fork_over Rattle.hw_types.specs.Rounds.leader_of Rattle.hw_types.specs.Rules.local_tests Rattle.hw_types.specs.Rules.has_naive_fork Rattle.hw_types.specs.Rules.state_tests Rattle.hw_types.specs.Settled.equivocates Rattle.hw_types.specs.Settled.is_endorsed Rattle.hw_types.specs.Settled.needs_of Rattle.hw_types.specs.Settled.missing_of Rattle.hw_types.specs.Settled.settled_of Rattle.hw_types.specs.Settled.parked_of Rattle.hw_types.specs.Settled.dropped_of Rattle.hw_types.specs.Settled.tip_of Rattle.hw_types.specs.Settled.panorama_of Rattle.hw_types.specs.Settled.faulty_weight Rattle.hw_types.specs.Settled.fork_choice Rattle.hw_types.specs.ByName.by_name Rattle.hw_types.specs.Journal.received_of Rattle.hw_types.specs.Journal.answer Rattle.hw_types.specs.Step.step Rattle.hw_types.specs.Step.step_in Rattle.hw_types.specs.Step.list_of Rattle.hw_types.specs.Step.is_fit Rattle.hw_types.specs.Step.chosen_panorama Rattle.hw_types.specs.Step.lane_units_in Rattle.hw_honest.specs.Restart.after_event
unfold_life = Unit {0}

-- the block is by another validator
none_of_own : (d : OnDisk) → ComesBack d 1 (signed a0)
none_of_own d u (inl e) by = absurd (let same : a0.creator ≡ 1 = ap (λ (w : SignedUnit). w.unit.creator) e ∙ by in cc)
none_of_own d u (inr never) by = absurd never

fault_none : config_fault in_short.config ≡ None
unfolding config_fault
fault_none = refl

begins_safe : IsSafeToStart in_short 1 empty
begins_safe = record { deliveries = []; journal = refl; log = refl; line = begins in_short 1 }

begins_so : Begins in_short 1 begun
begins_so = record { config = fault_none; validator = omega arith; safe = begins_safe; synced = refl; told = λ v m. absurd m }

careful : AreCareful in_short 1 begun (lost ++ more)
unfolding unfold_life
careful = (λ ok. none_of_own begun, (tt, (tt, (omega arith, (tt, (tt, ((λ v m. elim m [ inl e ↦ inl (inr (inl e)) | inr never ↦ absurd never ]), tt)))))))

pub a_power_failure : APowerFailure
unfolding unfold_life
a_power_failure = record { begins = begins_so; careful = careful; before = refl; left = refl; after = refl }
