use Rattle.std.proofs.Common.{◌≡◌, ℕ, List, length, sym, ◌∙◌, subst}
use Rattle.std.specs.Ordering.{nat_cmp}
use Rattle.std.specs.Cmp.Lexicographic.{slice_cmp}
use Rattle.std.specs.declared.vec.Vec.{Vec}
use Rattle.std.specs.declared.alloc.Global.{Global}
use Rattle.hw_script_grammar.specs.declared.named.Named.{Named}
use Rattle.hw_script_grammar.specs.Names.{AllFit}
use Rattle.hw_script_grammar.specs.Places.{KnowsNames, KnowsDigests, HasNoted, HasNotedDigest}
use Rattle.hw_script_grammar.proofs.FitLaws.{fit_more}
use Rattle.hw_script_grammar.proofs.PlaceLaws.{names_more, digests_more}
use Rattle.hw_script_grammar.proofs.names.Names.with_definition.Goals as goal

pub invariant_of-result : goal.invariant_of-result
invariant_of-result c =
    let named = c.args.named in
    let before = c.self.inside.items.items in
    let key = c.into_vec.result in
    let spelled : key.items ≡ named.name = c.into_vec.ensures ∙ c.in_ok-copy.ensures in
    let noted : HasNoted (λ (k j : Vec ℕ Global). slice_cmp nat_cmp k.items j.items) c.self.inside.by_name c.note.new.places key (length before) = subst (HasNoted (λ (k j : Vec ℕ Global). slice_cmp nat_cmp k.items j.items) c.self.inside.by_name c.note.new.places key) (c.len-place.ensures ∙ c.self.inside.items.ok.0) c.in_ok-note.ensures in
    let noted_digest : HasNotedDigest c.self.inside.by_digest c.note_digest.new.places named.digest (length before) = subst (HasNotedDigest c.self.inside.by_digest c.note_digest.new.places named.digest) (c.len-place.ensures ∙ c.self.inside.items.ok.0) c.in_ok-note_digest.ensures in
    subst (λ (all : List Named). AllFit all × KnowsNames c.note.new.places.entries all × KnowsDigests c.note_digest.new.places.entries all) (sym c.in_ok-push.ensures.items) (
      fit_more before named c.self.invariant.0 c.requires,
      names_more c.self.inside.by_name c.note.new.places key before named spelled noted c.self.invariant.1,
      digests_more c.self.inside.by_digest c.note_digest.new.places before named noted_digest c.self.invariant.2,
    )
