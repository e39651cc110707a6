use Rattle.std.proofs.Common.{Some, refl, ap, ◌∙◌}
use Rattle.hw_meeting_node.specs.declared.meeter.Side.TheVariants.{Caller}
use Rattle.hw_service.specs.Scene.{door_of}
use Rattle.hw_service.proofs.NodeLaws.{meeting_keeps, meeting_leaves}
use Rattle.hw_service.proofs.node_meet.meet_node.Goals as goal

-- both references are those that were lent
pub returns-clause-node : goal.returns-clause-node
returns-clause-node g c =
    let node = c.node-1.given.1 (cc (c.meet_one.ensures.holds)) in
    let files = c.files-1.given.1 (cc (c.meet_one.ensures.holds)) in
    rw (node, files) (meeting_leaves _ Caller (Some c.args.address.now) _ _ _ _ _ (door_of g.D.Door c.args.door.now) (door_of g.D.Door c.meet_one.new.door) _ c.meet_one.ensures.took g.F.Files.tells (λ t. t.node.now) (λ t. g.F.Files.held t.files.now) (λ t v answer u took. took.0) refl refl refl)

pub returns-clause-begun : goal.returns-clause-begun
returns-clause-begun g c = ap g.F.Files.begun (c.files-1.given.1 (cc (c.meet_one.ensures.holds))) ∙ meeting_keeps _ Caller (Some c.args.address.now) _ _ _ _ _ (door_of g.D.Door c.args.door.now) (door_of g.D.Door c.meet_one.new.door) _ c.meet_one.ensures.took (λ t. g.F.Files.begun t.files.now) (λ t v answer u took. took.1.begun)

pub returns-clause-allowance : goal.returns-clause-allowance
returns-clause-allowance g c = ap g.F.Files.allowance (c.files-1.given.1 (cc (c.meet_one.ensures.holds))) ∙ meeting_keeps _ Caller (Some c.args.address.now) _ _ _ _ _ (door_of g.D.Door c.args.door.now) (door_of g.D.Door c.meet_one.new.door) _ c.meet_one.ensures.took (λ t. g.F.Files.allowance t.files.now) (λ t v answer u took. took.1.allowance)

pub returns-clause-reads : goal.returns-clause-reads
returns-clause-reads g c = ap g.F.Files.read_faults (c.files-1.given.1 (cc (c.meet_one.ensures.holds))) ∙ meeting_keeps _ Caller (Some c.args.address.now) _ _ _ _ _ (door_of g.D.Door c.args.door.now) (door_of g.D.Door c.meet_one.new.door) _ c.meet_one.ensures.took (λ t. g.F.Files.read_faults t.files.now) (λ t v answer u took. took.1.reads)
