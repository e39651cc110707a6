use Rattle.std.proofs.Common.{ℕ, List, sym, subst, ap}
use Rattle.hw_io.specs.Doors.{Ask, AsksMore}
use Rattle.hw_io.proofs.Asks.{asks_none, asks_still}
use Rattle.hw_link.specs.Asked.{IsAskedBehind}
use Rattle.hw_link.specs.Told.{door_told}
use Rattle.hw_session.specs.Driving.{driven_said}
use Rattle.hw_session.specs.Outside.{DoorCalls}
use Rattle.hw_session.specs.Drives.{DrivesThere}
use Rattle.hw_session.specs.Standing.{driver_standing}
use Rattle.hw_session.proofs.DrivingLaws.{hello_cut, hello_out}
use Rattle.hw_session.proofs.node.Node.drive.Goals as goal

pub returns-in-Err-clause-driven : goal.returns-in-Err-clause-driven
returns-in-Err-clause-driven g c =
    subst (λ (x : ℕ). DrivesThere g.F.Files.tells (driver_standing c.args.self.now c.args.mark.now (g.F.Files.held c.args.files.now)) (driver_standing c.args.self.now c.args.mark.now (g.F.Files.held c.args.files.now)) (door_told (g.D.Door.sessions c.args.door.now) (g.D.Door.ends c.args.door.now)) (door_told (g.D.Door.sessions c.say_hello.new.door) x) c.in-Err.end)
    (sym (ap (λ (d : DoorCalls). d.ends) c.in-Err.ensures.door)) (hello_cut c.args.self.now c.args.mark.now g.F.Files.tells (g.F.Files.held c.args.files.now) _ _ _ c.in-Err.end c.in-Err.ensures.sent)

pub returns-in-Ok-clause-asks : goal.returns-in-Ok-clause-asks
returns-in-Ok-clause-asks g c =
    let old = g.D.Door.sessions c.args.door.now in
    subst (λ (begun : List Ask). AsksMore (IsAskedBehind (driven_said c.args.self.now c.args.mark.now) old) begun (g.D.Door.asks c.drive_frames.new.door)) (ap (λ (d : DoorCalls). d.asks) c.in-Ok.ensures.door)
    (c.drive_frames.ensures.asks old (hello_out c.args.self.now old (g.D.Door.sessions c.say_hello.new.door) c.in-Ok.ensures.sent))

pub returns-in-Err-clause-asks : goal.returns-in-Err-clause-asks
returns-in-Err-clause-asks g c =
    let P = IsAskedBehind (driven_said c.args.self.now c.args.mark.now) (g.D.Door.sessions c.args.door.now) in
    let begun = g.D.Door.asks c.args.door.now in
    asks_still P begun begun (g.D.Door.asks c.say_hello.new.door) (asks_none P begun) (ap (λ (d : DoorCalls). d.asks) c.in-Err.ensures.door)
