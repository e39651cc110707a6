-- Summits of lesser levels and quorums.
use Rattle.std.proofs.Common.{◌≡◌, ℕ, zero, suc, ◌+◌, ◌-◌, ◌≤◌, true, List, ap, sym, ◌∙◌, arith}
use Rattle.hw_types.specs.declared.unit.Obs.{Obs}
use Rattle.hw_types.specs.Graph.{Node}
use Rattle.hw_types.specs.Summit.{Committees, IsSummit}
use Rattle.hw_horizon.specs.Laws.{LesserSummits}

-- who is in a committee is in each one below
pub member_down : (weights : List ℕ) (units : List Node) (panorama : List Obs) (block : Node) (level quorum : ℕ) (c : Committees) → IsSummit weights units panorama block level quorum c
    → (d j v : ℕ) → j + d ≤ level → c.member (j + d) v ≡ true → c.member j v ≡ true
member_down weights units panorama block level quorum c t zero j v le h = let e : j + zero ≡ j = omega arith in ap (λ (k : ℕ). c.member k v) (sym e) ∙ h
member_down weights units panorama block level quorum c t (suc d) j v le h =
    let e : j + suc d ≡ j + d + 1 = omega arith in
    member_down weights units panorama block level quorum c t d j v (omega arith) (t.nested (j + d) v (omega arith) (ap (λ (k : ℕ). c.member k v) (sym e) ∙ h)).0

pub lesser_summits : LesserSummits
lesser_summits weights units panorama block level quorum lower less le few s =
    let c = s.0 in
    let t = s.1 in
    let d : (k : ℕ) × (lower + k ≡ level) = (level - lower, omega arith) in
    let whole = d.1 in (
      c,
      record {
        correct_slot = t.correct_slot;
        nested = λ j v lt h. t.nested j v (omega arith) h;
        not_empty = (t.not_empty.0, member_down weights units panorama block level quorum c t d.0 lower t.not_empty.0 (omega arith) (ap (λ (k : ℕ). c.member k t.not_empty.0) d.1 ∙ t.not_empty.1));
        start_in_lane = λ j v u below h e. t.start_in_lane j v u (omega arith) h e;
        votes = t.votes;
        quorums = λ j v u pos below h e x m from. let q = t.quorums j v u pos (omega arith) h e x m from in omega arith;
      },
    )
