use Rattle.std.proofs.Common.{arith, ◌∙◌}
use Rattle.std.specs.Prelude.{string_bytes}
use Rattle.hw_program.proofs.CallLaws.{no_peers, new_peer, all_peers}
use Rattle.hw_program.proofs.run_turns.peers_of.Goals as goal

pub loop-address-init : goal.loop-address-init
loop-address-init c = no_peers _ c.new-peers.ensures.items

pub loop-address-preserved : goal.loop-address-preserved
loop-address-preserved c =
    let l = c.loop-address in
    let made = c.in_ok-new.ensures in
    rw c.in_ok-push.ensures.items (new_peer string_bytes c.args.addresses.now l.address-index c.address-item.result l.peers.items c.in_ok-new.field-0 c.loop-address-test.true c.address-item.is (made.0 ∙ c.as_str.ensures.value) made.1 l.invariant)

pub returns : goal.returns
returns c = all_peers string_bytes c.args.addresses.now _ _ (let end = c.loop-address-test.false in omega arith) c.loop-address.invariant
