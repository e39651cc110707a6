use Rattle.std.proofs.Common.{length, refl, ◌∙◌, arith}
use Rattle.std.proofs.lemmas.List.{length-set}
use Rattle.std.proofs.lemmas.Option.{slice_get_read}
use Rattle.std.proofs.lemmas.Result.{err_from_is_err_and}
use Rattle.hw_service.proofs.StepLaws.{none_taken, one_taken, last_taken}
use Rattle.hw_service.proofs.CountLaws.{door_then}
use Rattle.hw_service.proofs.turns.drive_peers.Goals as goal

pub loop-place-init : goal.loop-place-init
loop-place-init g c = record {
  taken = none_taken _ _ _;
  whole = λ so. so;
  ready = c.requires.ready;
  config = refl;
  peers = refl;
  lent = refl;
  appends = refl;
  writes = refl;
  link = refl;
  clock = refl;
  reads = refl;
}

pub loop-place-preserved : goal.loop-place-preserved
loop-place-preserved g c =
    let i = c.loop-place.invariant in
    let e = c.in_ok-failed.ensures in
    let at = slice_get_read c.loop-place.peers.items (length c.loop-place.peers.items) c.loop-place.place c.index_mut.result.now refl (omega (arith, c.len-place-end.ensures, c.loop-place.invariant.peers)) c.index_mut.ensures.value in
    record {
      taken = one_taken _ _ _ c.loop-place.place _ _ _ _ _ i.taken (omega arith) (record { before = c.index_mut.result.now; is_at = at; after = c.drive_peer.new.peer; peers = refl; drives = e.drives });
      whole = λ so. e.whole (i.whole so);
      ready = e.ready;
      config = e.config ∙ i.config;
      peers = length-set _ _ _ ∙ i.peers;
      lent = e.lent ∙ i.lent;
      appends = e.appends ∙ i.appends;
      writes = e.writes ∙ i.writes;
      link = door_then _ _ _ _ _ i.link e.link;
      clock = e.clock ∙ i.clock;
      reads = e.reads ∙ i.reads;
    }

pub returns-in_err-failed-clause-drives : goal.returns-in_err-failed-clause-drives
returns-in_err-failed-clause-drives g c =
    let p = err_from_is_err_and c.from_residual.result c.from_residual.ensures.1 in
    let at = slice_get_read c.loop-place.peers.items (length c.loop-place.peers.items) c.loop-place.place c.index_mut.result.now refl (omega (arith, c.len-place-end.ensures, c.loop-place.invariant.peers)) c.index_mut.ensures.value in
    rw (p.1, p.2) (last_taken _ _ _ _ c.loop-place.place _ _ _ _ c.in_err-failed.field-0.0 c.loop-place.invariant.taken (omega arith) (omega arith) (record { before = c.index_mut.result.now; is_at = at; after = c.drive_peer.new.peer; peers = refl; drives = c.in_err-failed.ensures.drives }))
