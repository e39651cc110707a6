use Rattle.hw_log.specs.Reader.{PlacesFit, ahead_of}
use Rattle.highway.proofs.node_log.held_against.Given as goal

abbrev pub invariant-entries : goal.invariant-entries
invariant-entries l = PlacesFit l.reader l.files.allowance

abbrev pub decreases-entries : goal.decreases-entries
decreases-entries l = ahead_of l.reader l.files.allowance
