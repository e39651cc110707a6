use Rattle.std.proofs.Common.{◌≡◌, ◌+◌, ◌++◌, List, ℕ, take, drop, sym, ap, ◌∙◌}
use Rattle.std.proofs.Math.Seq.{take-add}
use Rattle.std.specs.Option.{option_map}
use Rattle.std.specs.Prelude.{string_bytes}
use Rattle.hw_io.specs.Doors.{Session}
use Rattle.hw_doubles.proofs.session.MemSession.hear.Goals as goal

pub returns-clause-heard : goal.returns-clause-heard
returns-clause-heard c =
    let s = c.self.inside in
    let count = c.min-count.result in
    let buf = c.copy_front.new.to in
    let from : c.rest_of-rest.result.now ≡ drop s.given s.said.items = c.rest_of-rest.ensures ∙ ap (drop s.given) c.as_slice.ensures.value in
    let read : take (s.given + count) s.said.items ≡ take s.given s.said.items ++ take count buf =
    take-add s.given count s.said.items
    ∙ ap (λ (l : List ℕ). take s.given s.said.items ++ l) (sym (c.copy_front.ensures ∙ ap (take count) from)) in
    let session : List ℕ → Session = λ l. record { address = option_map string_bytes s.address; read = l; written = s.written.items; failed = s.failed } in
    let grown : Session → Session = λ old. record old { read = old.read ++ take count buf } in
    ap session read ∙ ap grown c.self.view_is
