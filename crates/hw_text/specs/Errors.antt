-- What is wrong with bytes and with configurations, as it is printed.
-- Source: ours.
use Rattle.std.specs.Prelude.{List, ℕ, [], ◌++◌, codes}
use Rattle.hw_types.specs.declared.config.ConfigFault.{ConfigFault}
use Rattle.hw_types.specs.declared.config.ConfigFault.TheVariants as limit
use Rattle.hw_types.specs.declared.answers.CodecError.{CodecError}
use Rattle.hw_types.specs.declared.answers.CodecError.TheVariants as codec
use Rattle.hw_text.specs.Text.{number_text}

-- why bytes are no spelling
unfoldable pub codec_text : CodecError → List ℕ
codec_text (codec.Truncated at) = codes "truncated at " ++ number_text at
codec_text (codec.Trailing at) = codes "trailing at " ++ number_text at
codec_text (codec.BadTag at) = codes "bad tag at " ++ number_text at
codec_text (codec.TooLong at) = codes "too long at " ++ number_text at
codec_text (codec.OutOfRange at) = codes "out of range at " ++ number_text at
codec_text codec.OutOfMemory = []

-- which limit a configuration breaks
unfoldable pub limit_text : ConfigFault → List ℕ
limit_text limit.Validators = codes "validators"
limit_text (limit.ZeroWeight v) = codes "zero weight " ++ number_text v
limit_text limit.Total = codes "total"
limit_text limit.Threshold = codes "threshold"
limit_text limit.Levels = codes "levels"
limit_text limit.Exponents = codes "exponents"
limit_text limit.LeaderTable = codes "leader table"
limit_text limit.Records = codes "records"
limit_text limit.Parked = codes "parked"
