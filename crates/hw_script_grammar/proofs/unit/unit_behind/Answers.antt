use Rattle.std.proofs.Common.{◌≡◌, length, map, ap, ◌∙◌}
use Rattle.hw_script_grammar.specs.declared.citation.Citation.{Citation}
use Rattle.hw_script_grammar.proofs.FormatLaws.{panorama_fits}
use Rattle.hw_script_grammar.proofs.unit.unit_behind.Goals as goal

pub returns-clause-fits : goal.returns-clause-fits
returns-clause-fits c =
    let config = c.args.config.now in
    let panorama : c.in_ok-panorama.panorama ≡ map (λ (x : Citation). x.observation) c.in_ok-cited.cited = c.in_ok-panorama.ensures ∙ ap (map (λ (x : Citation). x.observation)) c.as_slice-2.ensures in
    let cited : length c.in_ok-cited.cited ≡ length config.weights = c.in_ok-cited.ensures.count ∙ c.len.ensures in
    record {
      time = c.in_ok-numbers.ensures.time;
      panorama = rw panorama (panorama_fits config c.in_ok-cited.cited c.requires.lawful cited);
      value = c.in_ok-value.ensures.fits;
      endorsed = c.in_ok-endorsed.ensures.fits;
    }
