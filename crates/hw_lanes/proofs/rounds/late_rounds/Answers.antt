use Rattle.std.proofs.Common.{arith}
use Rattle.sha2.proofs.Schedule256.{IsRoundsAt_at}
use Rattle.hw_lanes.proofs.rounds.late_rounds.Goals as goal

pub returns : goal.returns
returns c j lane b h at0 =
    let at1 = c.late_round-v.ensures j lane b h at0 in
    let at2 = c.late_round-v-2.ensures j lane b h at1 in
    let at3 = c.late_round-v-3.ensures j lane b h (IsRoundsAt_at b h _ _ _ _ (omega arith) at2) in
    let at4 = c.late_round-v-4.ensures j lane b h (IsRoundsAt_at b h _ _ _ _ (omega arith) at3) in
    let at5 = c.late_round-v-5.ensures j lane b h (IsRoundsAt_at b h _ _ _ _ (omega arith) at4) in
    let at6 = c.late_round-v-6.ensures j lane b h (IsRoundsAt_at b h _ _ _ _ (omega arith) at5) in
    let at7 = c.late_round-v-7.ensures j lane b h (IsRoundsAt_at b h _ _ _ _ (omega arith) at6) in
    let at8 = c.late_round.ensures j lane b h (IsRoundsAt_at b h _ _ _ _ (omega arith) at7) in
    IsRoundsAt_at b h _ _ _ _ (omega arith) at8
