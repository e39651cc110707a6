use Rattle.std.proofs.Common.{◌≡◌, ℕ, Bool, true, false, List, Some, None, refl, sym, ◌∙◌}
use Rattle.std.proofs.lemmas.Bool.{false≢true}
use Rattle.std.proofs.lemmas.Str.{IsUtf8-from_is_utf8, is_utf8-from_IsUtf8}
use Rattle.std.specs.Str.{IsUtf8, is_utf8}
use Rattle.serde_json.specs.Data.{Data}
use Rattle.serde_json.specs.Read.{read}
use Rattle.hw_settings.specs.Settings.{json_of}
use Rattle.hw_settings.proofs.settings.json_of.Goals as goal

-- the text of a value
is_read : (bytes : List ℕ) (d : Data) → IsUtf8 bytes → read bytes ≡ Some d → json_of bytes ≡ Some d
unfolding json_of
is_read bytes d utf8 text = rw (is_utf8-from_IsUtf8 bytes utf8) text

-- the text of no value, or no text
isn't_read : (bytes : List ℕ) → (IsUtf8 bytes → read bytes ≡ None) → json_of bytes ≡ None
unfolding json_of
isn't_read bytes none = go (is_utf8 bytes) refl where
  go : (b : Bool) → is_utf8 bytes ≡ b → json_of bytes ≡ None
  go true e = rw e (none (IsUtf8-from_is_utf8 bytes e))
  go false e = rw e refl

pub returns-in-Ok : goal.returns-in-Ok
returns-in-Ok c = is_read c.args.bytes.now _ c.in-Ok.ensures.ok.0 c.in-Ok.ensures.ok.1

pub returns-in-Err-2 : goal.returns-in-Err-2
returns-in-Err-2 c = isn't_read c.args.bytes.now (λ utf8. c.in-Err.ensures.err (λ memory. false≢true (sym c.if-is_memory.false ∙ c.is_memory.ensures.1 memory)) utf8)
