-- What is printed of light certificates.
-- Source: ours.
use Rattle.std.specs.Prelude.{ℕ, List, [], ◌++◌, codes}
use Rattle.hw_types.specs.declared.unit.Digest.{Digest}
use Rattle.hw_text.specs.Text.{number_text, digest_text}
use Rattle.hw_text.specs.Lines.{line_feed}
use Rattle.hw_text.specs.Errors.{codec_text, limit_text}
use Rattle.hw_light.specs.declared.answers.CheckFault.{CheckFault}
use Rattle.hw_light.specs.declared.answers.CheckFault.TheVariants.{Config as BadLimit, Refused, Exceeded, Unstood}
use Rattle.hw_light.specs.declared.error.CertError.{CertError}
use Rattle.hw_light.specs.declared.error.CertError.TheVariants as cert
use Rattle.hw_light.specs.Asked.{Outcome, NoDecision, NoStanding, NoLength, HasCertificate}

-- ---- what is wrong with bytes

-- Why bytes are no certificate. Out of memory has no text here.
unfoldable pub error_text : CertError → List ℕ
error_text cert.BadMagic = codes "bad magic"
error_text (cert.Version v) = codes "version " ++ number_text v
error_text (cert.Torn at) = codes "torn at " ++ number_text at
error_text (cert.TooLong at) = codes "too long at " ++ number_text at
error_text (cert.BadConfig e) = codes "config " ++ codec_text e
error_text (cert.BadVertex at e) = codes "bad vertex at " ++ number_text at ++ codes ": " ++ codec_text e
error_text (cert.Trailing at) = codes "trailing at " ++ number_text at
error_text cert.OutOfMemory = []

-- ---- answers, a line each

-- what is reported of a block
unfoldable pub told_line : Outcome → List ℕ
told_line NoDecision = codes "no decision" ++ line_feed
told_line NoStanding = codes "no standing" ++ line_feed
told_line (NoLength count) = codes "no length " ++ number_text count ++ line_feed
told_line (HasCertificate count) = codes "certified " ++ number_text count ++ line_feed

-- why a certificate shows nothing
unfoldable pub fault_line : CheckFault → List ℕ
fault_line (BadLimit fault) = codes "no config " ++ limit_text fault ++ line_feed
fault_line (Refused number why) = codes "no refused " ++ number_text number ++ line_feed
fault_line (Exceeded weight) = codes "no exceeded " ++ number_text weight ++ line_feed
fault_line Unstood = codes "no standing" ++ line_feed

-- that a block of this height has a summit
abbrev pub yes_line : Digest → ℕ → List ℕ
yes_line block height = codes "yes " ++ digest_text block ++ codes " height " ++ number_text height ++ line_feed
