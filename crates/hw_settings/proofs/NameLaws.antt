-- The names of an object's members.
use Rattle.std.proofs.Common.{◌≡◌, ℕ, Bool, ◌&&◌, List, [], ◌∷◌, Some, String, string_bytes, map, refl, sym, ap, ◌∙◌}
use Rattle.std.specs.List.{list_all}
use Rattle.std.specs.declared.alloc.Global.{Global}
use Rattle.std.specs.BTreeMap.{BTreeMap, keys}
use Rattle.hw_types.specs.Graph.{is_some_and}
use Rattle.serde_json.specs.Data.{Data}
use Rattle.serde_json.specs.Find.{as_object}
use Rattle.serde_json.specs.View.{members_view}
use Rattle.serde_json.specs.declared.value.Value.{Value}
use Rattle.hw_settings.specs.Settings.{names_of, is_object_of}

module _ (test : List ℕ → Bool) where
  -- the names in a map
  names_pass : (m : BTreeMap (String Global) Value) → list_all test (names_of (members_view m.entries)) ≡ list_all (λ name. test (string_bytes name)) (keys m)
  names_pass m = go m.entries where
    go : (es : List (String Global × Value)) → list_all test (names_of (members_view es)) ≡ list_all (λ name. test (string_bytes name)) (map (λ (e : String Global × Value). e.0) es)
    go [] = refl
    go (e ∷ es) = ap (λ b. test (string_bytes e.0) && b) (go es)

  -- the names of an object
  pub object_passes : (d : Data) (m : BTreeMap (String Global) Value) → Some (members_view m.entries) ≡ as_object d → is_object_of test d ≡ list_all (λ name. test (string_bytes name)) (keys m)
  object_passes d m is = ap (is_some_and (λ ms. list_all test (names_of ms))) (sym is) ∙ names_pass m
