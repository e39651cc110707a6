-- What turns leave of the peers, and what the door counts in them.
use Rattle.std.specs.Prelude.{OnOk}
use Rattle.std.proofs.Common.{◌≡◌, ◌⊎◌, ℕ, zero, suc, ◌+◌, ◌*◌, Bool, List, [], ◌∷◌, length, Some, Result, Ok, Err, inl, inr, refl, sym, ap, subst, ◌∙◌, arith}
use Rattle.std.proofs.lemmas.List.{length-set}
use Rattle.hw_replay.specs.Fates.{Sight}
use Rattle.hw_service.specs.declared.fault.ServiceFault.{ServiceFault}
use Rattle.hw_service.specs.declared.ended.Served.{Served}
use Rattle.hw_service.specs.declared.peer.Peer.{Peer}
use Rattle.hw_service.specs.Scene.{DoorSeen, Outside, Scene}
use Rattle.hw_service.specs.Begin.{Names}
use Rattle.hw_service.specs.Steps.{Taken, AreTaken}
use Rattle.hw_service.specs.Counts.{raised_by}
use Rattle.hw_service.specs.Turns.{DrivesSession, Turning, Turns, DrivesPeers, TakesTurn, RunsTurns}
use Rattle.hw_service.proofs.CountLaws.{raised_sum}
use Rattle.hw_service.proofs.DoorLaws.{Keep, each_keep, until_keep, takes_keep, all_raise, runs_keep}

module _ {B K : Type 0} (sight : Sight B K) (tells : Bool) where
  -- ---- the sessions of a turn

  abbrev many : Scene B × List Peer → ℕ
  many s = length s.1

  abbrev accepted : {X : Type 0} → Scene B × X → ℕ
  accepted s = s.0.around.door.accepts

  abbrev dialled : {X : Type 0} → Scene B × X → ℕ
  dialled s = s.0.around.door.dials

  peer_many : Keep (DrivesSession sight tells) many
  peer_many k old new result d = ap (λ (ps : List Peer). length ps) d.peers ∙ length-set old.1 k d.after

  -- ---- a turn

  module _ (me : ℕ) where
    turns_many : (moment : ℕ) (old new : Scene B) (before after : List Peer) (result : Result Bool ServiceFault) → Turns sight tells me moment old new before after result → length after ≡ length before
    turns_many moment old new before after (Ok failed) d = takes_keep (DrivesSession sight tells) many peer_many 0 (length before) (d.between, before) (new, after) (Ok failed) d.drives
    turns_many moment old new before after (Err e) (inl n) = ap (λ (ps : List Peer). length ps) n.peers
    turns_many moment old new before after (Err e) (inr d) = takes_keep (DrivesSession sight tells) many peer_many 0 (length before) (d.between, before) (new, after) (Err e) d.drives

    drives_accepts : (moment : ℕ) (old new : Scene B) (before after : List Peer) (result : Result Bool ServiceFault) → DrivesPeers sight tells me moment old new before after result → new.around.door.accepts ≡ old.around.door.accepts
    drives_accepts moment old new before after result d =
        takes_keep (DrivesSession sight tells) accepted (λ k o n r s. s.drives.accepts) 0 (length before) (d.between, before) (new, after) result d.drives ∙ ap (λ (door : DoorSeen). door.accepts) d.makes.door

    turns_accepts : (moment : ℕ) (old new : Scene B) (before after : List Peer) (result : Result Bool ServiceFault) → Turns sight tells me moment old new before after result → new.around.door.accepts ≡ old.around.door.accepts
    turns_accepts moment old new before after (Ok failed) d = drives_accepts moment old new before after (Ok failed) d
    turns_accepts moment old new before after (Err e) (inl n) = ap (λ (door : DoorSeen). door.accepts) n.makes.door
    turns_accepts moment old new before after (Err e) (inr d) = drives_accepts moment old new before after (Err e) d

    -- each peer is dialled once
    turn_dials : (k : ℕ) (old new : Scene B × Turning) (failed : Bool) → TakesTurn sight tells me k old new (Ok failed) → dialled new ≡ raised_by (length old.1.peers) (dialled old)
    turn_dials k old new failed t =
        let d = t.turns in
        all_raise (DrivesSession sight tells) dialled (λ i o n r s. s.drives.dials) 0 (length old.1.peers) (d.between, old.1.peers) (new.0, new.1.peers) failed d.drives
        ∙ ap (λ (door : DoorSeen). raised_by (length old.1.peers) door.dials) d.makes.door

    -- ---- all turns

    abbrev peers_in : Scene B × Turning → ℕ
    peers_in s = length s.1.peers

    turn_many : Keep (TakesTurn sight tells me) peers_in
    turn_many k old new result t = turns_many t.moment old.0 new.0 old.1.peers new.1.peers result t.turns

    times : (t p : ℕ) → t * p + p ≡ suc t * p
    times t p = grind arith

    none : (p x : ℕ) → x ≡ raised_by (0 * p) x
    unfolding raised_by
    none p x =
        let zero_is : 0 ≡ 0 * p = grind arith in
        ap (λ (n : ℕ). raised_by n x) zero_is

    each_dials : (number : ℕ) (first : Scene B × Turning) (taken : Taken (Scene B × Turning)) (last : Scene B × Turning) → AreTaken (TakesTurn sight tells me) number first taken last
        → dialled last ≡ raised_by (length taken * peers_in first) (dialled first)
    unfolding AreTaken
    each_dials number first [] last is = ap dialled is ∙ none (peers_in first) (dialled first)
    each_dials number first (t ∷ ts) last are =
        let p = peers_in first in
        each_dials (number + 1) t.0 ts last are.1
        ∙ ap (λ (n : ℕ). raised_by (length ts * n) (dialled t.0)) (turn_many number first t.0 (Ok t.1) are.0)
        ∙ ap (raised_by (length ts * p)) (turn_dials number first t.0 t.1 are.0)
        ∙ raised_sum (length ts * p) p (dialled first)
        ∙ ap (λ (n : ℕ). raised_by n (dialled first)) (times (length ts) p)

    -- ---- a run

    module _ (names : Names) (count : ℕ) (before after : Outside B) (x y : Turning) where
      pub run_accepts : (result : Result Served ServiceFault) → RunsTurns sight tells names me count (before, x) (after, y) result → after.door.accepts ≡ before.door.accepts
      run_accepts result r =
          runs_keep (λ (d : DoorSeen). d.accepts) (TakesTurn sight tells me) sight tells names (Some me) (λ k old new ended t. turns_accepts t.moment old.0 new.0 old.1.peers new.1.peers ended t.turns) 1 count before after x y result r

      pub run_dials : (result : Result Served ServiceFault) → RunsTurns sight tells names me count (before, x) (after, y) result → OnOk result (after.door.dials ≡ raised_by (count * length x.peers) before.door.dials)
      run_dials (Err e) r = tt
      run_dials (Ok served) r =
          let c = r.completes in
          ap (λ (d : DoorSeen). d.dials) c.reports.closes.door
          ∙ each_dials 1 (r.first, x) c.steps.taken (c.last, y) c.steps.each
          ∙ ap (λ (n : ℕ). raised_by (n * length x.peers) r.first.around.door.dials) c.steps.count_is
          ∙ ap (λ (d : DoorSeen). raised_by (count * length x.peers) d.dials) r.begins.door

      pub run_many : (result : Result Served ServiceFault) → RunsTurns sight tells names me count (before, x) (after, y) result → length y.peers ≡ length x.peers
      run_many (Ok served) r = each_keep (TakesTurn sight tells me) peers_in turn_many 1 (r.first, x) r.completes.steps.taken (r.completes.last, y) r.completes.steps.each
      run_many (Err e) (inl n) = ap (λ (t : Turning). length t.peers) n.same
      run_many (Err e) (inr p) = elim p.stops [
        | inl s ↦ until_keep (TakesTurn sight tells me) peers_in turn_many 1 count (p.first, x) (s.last, y) e s.steps
        | inr s ↦ each_keep (TakesTurn sight tells me) peers_in turn_many 1 (p.first, x) s.steps.taken (s.last, y) s.steps.each
      ]
