-- Tallies are scores.
use Rattle.std.proofs.Common.{◌≡◌, ℕ, suc, ◌-◌, ◌<◌, inl, inr, Bool, true, List, [], ◌∷◌, Option, Some, None, refl, sym, ap, ◌∙◌, arith, eqb-true, eq-eqb}
use Rattle.std.specs.Prelude.{nat_le, if◌then◌else◌}
use Rattle.std.proofs.lemmas.Bool.{le-leb}
use Rattle.std.proofs.lemmas.List.Sums.{sum_by-cons}
use Rattle.hw_types.specs.Below.{Among}
use Rattle.hw_types.specs.Votes.{is_block}
use Rattle.hw_types.proofs.StableLaws.{both_ways, and_parts, and_whole}
use Rattle.hw_dag.specs.Dag.{UnitGraph, count_of, node_at}
use Rattle.hw_dag.specs.Admission.{IsGraph}
use Rattle.hw_dag.specs.Lanes.{IsAncestor, itself, further}
use Rattle.hw_dag.specs.Skips.{back_from}
use Rattle.hw_dag.specs.Tables.{chains_of}
use Rattle.hw_dag.proofs.SkipLaws.{back_from-none, back_from-step}
use Rattle.hw_dag.proofs.DepthLaws.{parent_earlier, height_next, chain_at_is, chain_found}
use Rattle.hw_forks.specs.declared.votes.Vote.{Vote}
use Rattle.hw_forks.specs.Votes.{height_at}
use Rattle.hw_forks.specs.Walk.{is_over, score_in}
use Rattle.hw_forks.specs.Laws.{TallyIsScore, is_number, is_ancestor_of, tally_of}
use Rattle.hw_forks.proofs.AncestorLaws.{anc_height, over_anc, anc_over}
use Rattle.hw_forks.proofs.ScoreLaws.{share}
use Rattle.hw_forks.proofs.DefinedLaws.{voted_below, score_is, votes}

number_is : (c : ℕ) (o : Option ℕ) → is_number c o ≡ true → o ≡ Some c
number_is c None t = absurd cc
number_is c (Some n) t = ap Some (eqb-true n c t)

module _ (dag : UnitGraph) (g : IsGraph dag) where
  -- as many steps back as the heights differ lead to an ancestor
  anc_back : (c b : ℕ) → b < count_of dag → IsAncestor dag c b → back_from (chains_of dag.units) (height_at dag b - height_at dag c) b ≡ Some c
  anc_back c _ lt itself = (let e : height_at dag c - height_at dag c ≡ 0 = omega arith in ap (λ (k : ℕ). back_from (chains_of dag.units) k c) e) ∙ back_from-none (chains_of dag.units) c
  anc_back c _ lt (further high parent e k) =
      let less = parent_earlier dag g high parent lt e in
      let next = height_next dag g high parent lt e in
      let le = anc_height dag g c parent.0 (omega arith) k in
      let steps : height_at dag high - height_at dag c ≡ suc (height_at dag parent.0 - height_at dag c) = omega arith in
      ap (λ (n : ℕ). back_from (chains_of dag.units) n high) steps
      ∙ back_from-step (chains_of dag.units) (height_at dag parent.0 - height_at dag c) high parent (chain_at_is dag g high lt ∙ e)
      ∙ anc_back c parent.0 (omega arith) k

  back_anc : (c b : ℕ) → b < count_of dag → is_block (node_at dag b) ≡ true → back_from (chains_of dag.units) (height_at dag b - height_at dag c) b ≡ Some c → IsAncestor dag c b
  back_anc c b lt t h = (chain_found dag g (height_at dag b - height_at dag c) b c lt t h (omega arith)).ancestor

  same_ancestor : (c b : ℕ) → b < count_of dag → is_block (node_at dag b) ≡ true → is_ancestor_of dag c b ≡ is_over dag c b
  same_ancestor c b lt t = both_ways (is_ancestor_of dag c b) (is_over dag c b)
      (λ h. anc_over dag g c b lt (back_anc c b lt t (number_is c _ (and_parts (nat_le (height_at dag c) (height_at dag b)) (is_number c (back_from (chains_of dag.units) (height_at dag b - height_at dag c) b)) h).1)))
      (λ h. let up = over_anc dag g (count_of dag) c b h in
      and_whole (nat_le (height_at dag c) (height_at dag b)) (is_number c (back_from (chains_of dag.units) (height_at dag b - height_at dag c) b))
      (le-leb (height_at dag c) (height_at dag b) (anc_height dag g c b lt up))
      (ap (is_number c) (anc_back c b lt up) ∙ eq-eqb c c refl))

  pub tally_score : (votes : List Vote) (c : ℕ) → ((vote : Vote) → Among vote votes → (vote.block.0 < count_of dag) × (is_block (node_at dag vote.block.0) ≡ true)) → tally_of dag votes c ≡ score_in dag votes c
  unfolding score_in
  tally_score [] c known = refl
  tally_score (vote ∷ votes) c known =
      let here = known vote (inl refl) in
      let same : (if is_ancestor_of dag c vote.block.0 then vote.weight else 0) ≡ share dag c vote = ap (λ (b : Bool). if b then vote.weight else 0) (same_ancestor c vote.block.0 here.0 here.1) in
      let rest = tally_score votes c (λ v m. known v (inr m)) in
      omega (arith, sum_by-cons (share dag c) vote votes, sum_by-cons (λ (v : Vote). if is_ancestor_of dag c v.block.0 then v.weight else 0) vote votes)

pub tally_is_score : TallyIsScore
tally_is_score dag g weights aw panorama ip c lt t =
    tally_score dag g (votes weights dag g aw panorama ip) c (λ vote m. let b = voted_below weights dag g aw panorama ip dag.validators vote m in (b.0, b.1))
    ∙ sym (score_is weights dag g aw panorama ip c lt)
