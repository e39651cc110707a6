use Rattle.std.proofs.Common.{◌≡◌, ◌+◌, ◌∷◌, List, ℕ, map, drop, refl, sym, ap, subst, ◌∙◌, arith}
use Rattle.std.specs.Prelude.{string_bytes}
use Rattle.std.proofs.lemmas.List.{length-drop}
use Rattle.std.proofs.lemmas.Result.{err_from_is_err_and}
use Rattle.hw_eras.proofs.StopLaws.{same_held, names_long, names_at, name_among, named_in, same_then, taken_so, stopped_so, all_taken, about_then}
use Rattle.hw_eras.specs.Filled.{next_in}
use Rattle.hw_eras.specs.Turns.{HasTurnFrom}
use Rattle.hw_eras.proofs.TurnLaws.{at_then, turn_left}
use Rattle.hw_eras.proofs.filled.Filled.take_all.Goals as goal

pub take-requires-clause-filled : goal.take-requires-clause-filled
take-requires-clause-filled g c = c.loop-log.invariant.filled

pub returns-in_err-take-clause-said : goal.returns-in_err-take-clause-said
returns-in_err-take-clause-said g c =
    let p = err_from_is_err_and c.from_residual.result c.from_residual.ensures.1 in
    let names : List (List ℕ) = map string_bytes c.args.logs.now in
    let i = c.loop-log.log-index in
    let log = c.as_str.result.now in
    let at : drop i names ≡ log ∷ drop (i + 1) names = names_at string_bytes c.args.logs.now i (i + 1) c.log-item.result c.loop-log-test.true c.log-item.is refl ∙ ap (λ (n : List ℕ). n ∷ drop (i + 1) names) (sym c.as_str.ensures.value) in
    λ tells. rw (p.1, p.2)
    (stopped_so (g.F.Files.held c.args.files.now) (g.F.Files.held c.loop-log.files) c.loop-log.invariant.files c.loop-log.self c.args.self.now names log i (i + 1) (c.loop-log.invariant.said tells) at c.in_err-take.field-0.0
    (c.in_err-take.ensures.said tells (drop (i + 1) names)))

pub returns-in_err-take-clause-named : goal.returns-in_err-take-clause-named
returns-in_err-take-clause-named g c =
    let p = err_from_is_err_and c.from_residual.result c.from_residual.ensures.1 in
    rw (p.1, p.2)
    (named_in (map string_bytes c.args.logs.now) (string_bytes c.log-item.result) c.in_err-take.field-0.0 (name_among string_bytes c.args.logs.now c.loop-log.log-index c.log-item.result c.loop-log-test.true c.log-item.is)
    (rw (← c.as_str.ensures.value) c.in_err-take.ensures.named))

pub loop-log-preserved : goal.loop-log-preserved
loop-log-preserved g c =
    let inv = c.loop-log.invariant in
    let did = c.in_ok-take.ensures in
    record {
      filled = did.filled;
      count = (let one = did.one in let so = inv.count in omega arith);
      first = did.first ∙ inv.first;
      said = λ tells.
          let names : List (List ℕ) = map string_bytes c.args.logs.now in
          let i = c.loop-log.log-index in
          let log = c.as_str.result.now in
          let at : drop i names ≡ log ∷ drop (i + 1) names = names_at string_bytes c.args.logs.now i (i + 1) c.log-item.result c.loop-log-test.true c.log-item.is refl ∙ ap (λ (n : List ℕ). n ∷ drop (i + 1) names) (sym c.as_str.ensures.value) in
          taken_so (g.F.Files.held c.args.files.now) (g.F.Files.held c.loop-log.files) inv.files c.loop-log.self c.args.self.now names log i (i + 1) (inv.said tells) at c.take.new.self
          (did.said tells (drop (i + 1) names) (let long = names_long string_bytes c.args.logs.now in let rest = length-drop (i + 1) names in let few = c.requires.few in let so = inv.count in let lt = c.loop-log-test.true in omega arith));
      reads = did.cause.counted ∙ inv.reads;
      about = λ tells. did.about tells ∙ inv.about tells;
      turn = λ tells name turn.
          let names : List (List ℕ) = map string_bytes c.args.logs.now in
          let i = c.loop-log.log-index in
          let log = c.as_str.result.now in
          let at : drop i names ≡ log ∷ drop (i + 1) names = names_at string_bytes c.args.logs.now i (i + 1) c.log-item.result c.loop-log-test.true c.log-item.is refl ∙ ap (λ (n : List ℕ). n ∷ drop (i + 1) names) (sym c.as_str.ensures.value) in
          let held = g.F.Files.held c.args.files.now in
          let now = g.F.Files.held c.loop-log.files in
          let here = subst (λ h. HasTurnFrom h (next_in c.take.new.self) (drop (i + 1) names) name) (sym (same_held held now inv.files)) turn in
          inv.turn tells name (turn_left held now inv.files (next_in c.loop-log.self) names log i (i + 1) at name (did.turn tells (drop (i + 1) names) name here));
      files = same_then (g.F.Files.held c.args.files.now) (g.F.Files.held c.loop-log.files) (g.F.Files.held c.take.new.files) inv.files did.files;
      appends = did.appends ∙ inv.appends;
    }

pub returns-clause-said : goal.returns-clause-said
returns-clause-said g c = λ tells.
    all_taken (g.F.Files.held c.args.files.now) c.loop-log.self c.args.self.now (map string_bytes c.args.logs.now) c.loop-log.log-index c.loop-log.invariant.filled
    (let long = names_long string_bytes c.args.logs.now in let end = c.loop-log-test.false in omega arith) (c.loop-log.invariant.said tells)

pub returns-in_err-take-clause-about : goal.returns-in_err-take-clause-about
returns-in_err-take-clause-about g c =
    let p = err_from_is_err_and c.from_residual.result c.from_residual.ensures.1 in
    λ tells. rw (p.1, p.2)
    (about_then (g.F.Files.held c.args.files.now) (g.F.Files.held c.loop-log.files) _ _ _ c.in_err-take.field-0.0 c.loop-log.invariant.files (c.loop-log.invariant.about tells) (c.in_err-take.ensures.about tells))

pub returns-in_err-take-clause-turn : goal.returns-in_err-take-clause-turn
returns-in_err-take-clause-turn g c =
    let p = err_from_is_err_and c.from_residual.result c.from_residual.ensures.1 in
    let names : List (List ℕ) = map string_bytes c.args.logs.now in
    let i = c.loop-log.log-index in
    let log = c.as_str.result.now in
    let at : drop i names ≡ log ∷ drop (i + 1) names = names_at string_bytes c.args.logs.now i (i + 1) c.log-item.result c.loop-log-test.true c.log-item.is refl ∙ ap (λ (n : List ℕ). n ∷ drop (i + 1) names) (sym c.as_str.ensures.value) in
    let held = g.F.Files.held c.args.files.now in
    let now = g.F.Files.held c.loop-log.files in
    λ tells. rw (p.1, p.2)
    (at_then (HasTurnFrom now (next_in c.loop-log.self) (log ∷ drop (i + 1) names)) (HasTurnFrom held (next_in c.args.self.now) names) c.in_err-take.field-0.0
    (λ name turn. c.loop-log.invariant.turn tells name (turn_left held now c.loop-log.invariant.files (next_in c.loop-log.self) names log i (i + 1) at name turn)) (c.in_err-take.ensures.turn tells (drop (i + 1) names)))
