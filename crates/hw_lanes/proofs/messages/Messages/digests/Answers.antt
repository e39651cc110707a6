use Rattle.std.proofs.Common.{ap, ◌∙◌, map}
use Rattle.sha2.specs.Sha256.{sha256}
use Rattle.hw_lanes.proofs.MessageLaws.{digests_are}
use Rattle.hw_lanes.proofs.messages.Messages.digests.Goals as goal

pub returns : goal.returns
returns c =
    let inside = c.self.inside in
    (rw (c.as_slice.ensures.value, c.as_slice-2.ensures.value) at c.in_ok-digests.ensures)
    ∙ digests_are inside.bytes.items inside.parts.items
    ∙ ap (map sha256) c.self.view_is
