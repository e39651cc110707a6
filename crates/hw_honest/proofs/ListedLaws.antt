-- The laws of joined panoramas and of endorsed lists.
use Rattle.std.proofs.Common.{◌≡◌, Bool, true, false, not, [], refl}
use Rattle.std.specs.Prelude.{None, ◌||◌}
use Rattle.hw_types.specs.declared.unit.WireUnit.{WireUnit}
use Rattle.hw_types.specs.Graph.{Node, cites, is_at_most, is_consistent}
use Rattle.hw_types.specs.Rules.{has_digest}
use Rattle.hw_types.specs.Step.{list_of}
use Rattle.hw_honest.specs.Chosen.{WithOwnIsConsistent, NoCitationIsConsistent, ListsAreKept, RisingListIsOne}
use Rattle.hw_types.proofs.PastLaws.{any_of}
use Rattle.hw_types.proofs.SettledLaws.{digest_self}
use Rattle.hw_types.proofs.WordsLaws.{each_all}
use Rattle.hw_honest.proofs.MetLaws.{cited_at}
use Rattle.hw_honest.proofs.JoinLaws.{own_sound, sound_consistent}
use Rattle.hw_honest.proofs.ListLaws.{list_has, list_from, list_rises, rising_one}

pub with_own_is_consistent : WithOwnIsConsistent
with_own_is_consistent weights faulty units lawful u m = sound_consistent weights faulty units lawful _ (own_sound weights faulty units lawful u m)

pub no_citation_is_consistent : NoCitationIsConsistent
unfolding is_consistent
no_citation_is_consistent units panorama none = each_all _ units (λ w m. go w (cites panorama w) refl)
  where
    go : (w : Node) (b : Bool) → cites panorama w ≡ b → (not b || is_at_most units w.unit.panorama panorama) ≡ true
    go w false e = refl
    go w true e = let i = cited_at panorama w e in absurd (none i.0 w.digest i.1)

pub lists_are_kept : ListsAreKept
lists_are_kept s received units panorama = record {
  in_order = list_rises s received units panorama;
  keeps = λ w m c. each_all (has_digest (list_of s received units panorama)) w.unit.endorsed
      (λ d h. any_of _ d (list_of s received units panorama) (list_has s received units panorama d w m c h) (digest_self d));
  no_other = list_from s received units panorama;
}

-- a unit, whichever
abbrev some_unit : WireUnit
some_unit = record { instance = record { 0 = [] }; creator = 0; seq = 0; time = 0; exponent = 0; panorama = []; value = None; endorsed = [] }

pub rising_list_is_one : RisingListIsOne
rising_list_is_one ds es h k same = rising_one some_unit ds es h k same.to same.back
