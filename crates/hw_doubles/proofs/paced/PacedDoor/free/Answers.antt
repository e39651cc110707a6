use Rattle.std.proofs.Common.{◌≡◌, ◌-◌, ℕ, suc, List, Some, length, sym, ap, ◌∙◌}
use Rattle.hw_io.specs.Doors.{Session, ask_in, ask_of}
use Rattle.hw_doubles.specs.Memory.{door_sessions, free_behind, free_of}
use Rattle.hw_doubles.specs.declared.paced.Hold.{Hold}
use Rattle.hw_doubles.proofs.Kept.{ask_of-at, one_more}
use Rattle.hw_doubles.proofs.paced.PacedDoor.free.Goals as goal

pub returns : goal.returns
returns c =
    let holds = c.args.self.now.holds.items in
    let there = c.sessions.result.now in
    let n = length c.sessions-count.result.now - 1 in
    let session = c.index-sessions-count.result in
    let same = ap length (c.sessions.ensures ∙ sym c.sessions-count.ensures) in
    let count : length there ≡ suc n = same ∙ one_more (length c.sessions-count.result.now) c.if-count-eq0.false in
    let is : ask_of (door_sessions c.args.self.now.door) ≡ Some (ask_in session) =
    ap ask_of (sym c.sessions.ensures) ∙ ask_of-at there n session count ∙ ap (λ (s : Session). Some (ask_in s)) (sym c.index-sessions-count.is) in
    c.free_behind.ensures
    ∙ ap (λ (h : List Hold). free_behind h (length c.heard.result.now) (length c.written.result.now)) c.as_slice.ensures.value
    ∙ ap (λ (l : List ℕ). free_behind holds (length l) (length c.written.result.now)) c.heard.ensures
    ∙ ap (λ (l : List ℕ). free_behind holds (length session.read) (length l)) c.written.ensures
    ∙ sym (ap (free_of holds) is)
