-- Random bytes, and values with a random byte changed, cut or added, and what reading gives.
-- The values are those of a second reading of the definitions, written apart from them; the two agree.
use Rattle.std.specs.Prelude.{◌≡◌, [], ◌∷◌, None, Result, Ok, Err}
use Rattle.hw_types.specs.declared.unit.WireUnit.{WireUnit}
use Rattle.hw_types.specs.declared.unit.Vertex.{Vertex}
use Rattle.hw_types.specs.declared.config.Config.{Config}
use Rattle.hw_types.specs.declared.config.Leaders.TheVariants.{Table}
use Rattle.hw_types.specs.declared.answers.CodecError.{CodecError}
use Rattle.hw_types.specs.declared.answers.CodecError.TheVariants as error
use Rattle.hw_types.specs.Spelling.{config_bytes}
use Rattle.hw_types.specs.Reading.{whole, unit_at, vertex_at, config_at}

abbrev x5 : Config
x5 = record { weights = []; ftt = 12884901891; levels = 127; min_exponent = 131; max_exponent = 86; leaders = Table []; max_records = 2604656930; max_parked = 3888332821; end = None }

abbrev x4 : Config
x4 = record { weights = []; ftt = 3; levels = 34; min_exponent = 44; max_exponent = 19; leaders = Table []; max_records = 1414825167; max_parked = 1232605495; end = None }

abbrev e0 : Result Config CodecError
e0 = Err (error.BadTag 16)

abbrev e1 : Result Config CodecError
e1 = Err (error.Truncated 25)

abbrev e2 : Result Vertex CodecError
e2 = Err (error.Truncated 127)

abbrev e3 : Result WireUnit CodecError
e3 = Err (error.Truncated 0)

abbrev e4 : Result Config CodecError
e4 = Ok x4

abbrev e5 : Result Config CodecError
e5 = Ok x5

abbrev e6 : Result Vertex CodecError
e6 = Err (error.Truncated 73)

abbrev e7 : Result WireUnit CodecError
e7 = Err (error.TooLong 53)

abbrev e8 : Result WireUnit CodecError
e8 = Err (error.BadTag 58)

abbrev e9 : Result Config CodecError
e9 = Err (error.Truncated 41)

pub record RandomBytes1 : Type 0 where
  pub read_0 : whole config_at (2 ∷ 0 ∷ 0 ∷ 0 ∷ 0 ∷ 0 ∷ 0 ∷ 0 ∷ 0 ∷ 0 ∷ 0 ∷ 0 ∷ 0 ∷ 43 ∷ 184 ∷ 86 ∷ 4 ∷ 0 ∷ 0 ∷ 0 ∷ 2 ∷ 0 ∷ 0 ∷ 0 ∷ 2 ∷ 0 ∷ 0 ∷ 0 ∷ 2 ∷ 255 ∷ 237 ∷ 146 ∷ 53 ∷ 163 ∷ 114 ∷ 219 ∷ 143 ∷ 255 ∷ 255 ∷ 255 ∷ 255 ∷ 255 ∷ 255 ∷ 255 ∷ 255 ∷ []) ≡ e0
  pub read_1 : whole config_at (2 ∷ 0 ∷ 0 ∷ 0 ∷ 1 ∷ 0 ∷ 0 ∷ 0 ∷ 0 ∷ 0 ∷ 0 ∷ 0 ∷ 0 ∷ 0 ∷ 0 ∷ 0 ∷ 0 ∷ 0 ∷ 0 ∷ 0 ∷ 3 ∷ 194 ∷ 216 ∷ 84 ∷ 1 ∷ 90 ∷ 166 ∷ 88 ∷ 69 ∷ 184 ∷ 93 ∷ 228 ∷ 212 ∷ 186 ∷ 181 ∷ 185 ∷ 228 ∷ 82 ∷ 204 ∷ 236 ∷ 127 ∷ 250 ∷ 142 ∷ []) ≡ e1
  pub read_2 : whole vertex_at (1 ∷ 25 ∷ 139 ∷ 116 ∷ 54 ∷ 69 ∷ 136 ∷ 125 ∷ 107 ∷ 30 ∷ 216 ∷ 16 ∷ 29 ∷ 185 ∷ 184 ∷ 88 ∷ 127 ∷ 12 ∷ 42 ∷ 58 ∷ 34 ∷ 12 ∷ 20 ∷ 10 ∷ 191 ∷ 130 ∷ 65 ∷ 80 ∷ 94 ∷ 0 ∷ 197 ∷ 22 ∷ 126 ∷ 0 ∷ 0 ∷ 0 ∷ 0 ∷ 0 ∷ 0 ∷ 0 ∷ 0 ∷ 0 ∷ 0 ∷ 0 ∷ 0 ∷ 0 ∷ 0 ∷ 0 ∷ 0 ∷ 0 ∷ 0 ∷ 0 ∷ 0 ∷ 4 ∷ 0 ∷ 0 ∷ 0 ∷ 0 ∷ 0 ∷ 0 ∷ 0 ∷ 0 ∷ 3 ∷ 15 ∷ 157 ∷ 229 ∷ 23 ∷ 135 ∷ 205 ∷ 78 ∷ 242 ∷ 115 ∷ 47 ∷ 161 ∷ 52 ∷ 12 ∷ 229 ∷ 65 ∷ 201 ∷ 249 ∷ 167 ∷ 73 ∷ 174 ∷ 132 ∷ 134 ∷ 214 ∷ 9 ∷ 71 ∷ 29 ∷ 129 ∷ 17 ∷ 67 ∷ 82 ∷ 87 ∷ 49 ∷ 118 ∷ 16 ∷ 126 ∷ 119 ∷ 227 ∷ 37 ∷ 128 ∷ 41 ∷ 116 ∷ 184 ∷ 131 ∷ 216 ∷ 142 ∷ 2 ∷ 77 ∷ 18 ∷ 196 ∷ 209 ∷ 82 ∷ 56 ∷ 44 ∷ 123 ∷ 52 ∷ 51 ∷ 10 ∷ 93 ∷ 118 ∷ 53 ∷ 111 ∷ 12 ∷ 237 ∷ 232 ∷ []) ≡ e2
  pub read_3 : whole unit_at (26 ∷ 26 ∷ 26 ∷ 26 ∷ 26 ∷ 26 ∷ 26 ∷ 26 ∷ 26 ∷ 26 ∷ 26 ∷ 26 ∷ 26 ∷ 26 ∷ 26 ∷ 26 ∷ 26 ∷ 26 ∷ 26 ∷ 26 ∷ 26 ∷ 26 ∷ []) ≡ e3
  pub spelled_4 : config_bytes x4 ≡ (1 ∷ 0 ∷ 0 ∷ 0 ∷ 0 ∷ 0 ∷ 0 ∷ 0 ∷ 0 ∷ 0 ∷ 0 ∷ 0 ∷ 3 ∷ 34 ∷ 44 ∷ 19 ∷ 0 ∷ 0 ∷ 0 ∷ 0 ∷ 0 ∷ 84 ∷ 84 ∷ 132 ∷ 207 ∷ 73 ∷ 120 ∷ 17 ∷ 55 ∷ [])
  pub read_4 : whole config_at (1 ∷ 0 ∷ 0 ∷ 0 ∷ 0 ∷ 0 ∷ 0 ∷ 0 ∷ 0 ∷ 0 ∷ 0 ∷ 0 ∷ 3 ∷ 34 ∷ 44 ∷ 19 ∷ 0 ∷ 0 ∷ 0 ∷ 0 ∷ 0 ∷ 84 ∷ 84 ∷ 132 ∷ 207 ∷ 73 ∷ 120 ∷ 17 ∷ 55 ∷ []) ≡ e4
  pub spelled_5 : config_bytes x5 ≡ (1 ∷ 0 ∷ 0 ∷ 0 ∷ 0 ∷ 0 ∷ 0 ∷ 0 ∷ 3 ∷ 0 ∷ 0 ∷ 0 ∷ 3 ∷ 127 ∷ 131 ∷ 86 ∷ 0 ∷ 0 ∷ 0 ∷ 0 ∷ 0 ∷ 155 ∷ 63 ∷ 233 ∷ 34 ∷ 231 ∷ 195 ∷ 64 ∷ 21 ∷ [])
  pub read_5 : whole config_at (1 ∷ 0 ∷ 0 ∷ 0 ∷ 0 ∷ 0 ∷ 0 ∷ 0 ∷ 3 ∷ 0 ∷ 0 ∷ 0 ∷ 3 ∷ 127 ∷ 131 ∷ 86 ∷ 0 ∷ 0 ∷ 0 ∷ 0 ∷ 0 ∷ 155 ∷ 63 ∷ 233 ∷ 34 ∷ 231 ∷ 195 ∷ 64 ∷ 21 ∷ []) ≡ e5
  pub read_6 : whole vertex_at (1 ∷ 88 ∷ 2 ∷ 104 ∷ 37 ∷ 179 ∷ 1 ∷ 248 ∷ 33 ∷ 248 ∷ 171 ∷ 235 ∷ 136 ∷ 235 ∷ 14 ∷ 40 ∷ 177 ∷ 88 ∷ 207 ∷ 130 ∷ 69 ∷ 27 ∷ 83 ∷ 255 ∷ 195 ∷ 237 ∷ 150 ∷ 79 ∷ 5 ∷ 144 ∷ 239 ∷ 0 ∷ 187 ∷ 0 ∷ 0 ∷ 0 ∷ 0 ∷ 255 ∷ 255 ∷ 255 ∷ 255 ∷ 255 ∷ 255 ∷ 255 ∷ 255 ∷ 0 ∷ 0 ∷ 0 ∷ 0 ∷ 0 ∷ 0 ∷ 0 ∷ 17 ∷ 255 ∷ 0 ∷ 0 ∷ 0 ∷ 3 ∷ 2 ∷ 2 ∷ 0 ∷ 1 ∷ 0 ∷ 0 ∷ 0 ∷ 3 ∷ 97 ∷ 98 ∷ 99 ∷ 0 ∷ 0 ∷ 0 ∷ 1 ∷ 175 ∷ 96 ∷ 126 ∷ 122 ∷ 23 ∷ []) ≡ e6
  pub read_7 : whole unit_at (179 ∷ 112 ∷ 88 ∷ 12 ∷ 75 ∷ 218 ∷ 47 ∷ 172 ∷ 238 ∷ 25 ∷ 243 ∷ 123 ∷ 33 ∷ 246 ∷ 71 ∷ 15 ∷ 70 ∷ 30 ∷ 24 ∷ 102 ∷ 3 ∷ 172 ∷ 122 ∷ 71 ∷ 190 ∷ 251 ∷ 0 ∷ 67 ∷ 59 ∷ 126 ∷ 55 ∷ 238 ∷ 0 ∷ 0 ∷ 0 ∷ 0 ∷ 0 ∷ 0 ∷ 0 ∷ 0 ∷ 0 ∷ 0 ∷ 0 ∷ 0 ∷ 127 ∷ 255 ∷ 255 ∷ 255 ∷ 255 ∷ 255 ∷ 255 ∷ 255 ∷ 0 ∷ 0 ∷ 1 ∷ 0 ∷ 0 ∷ 1 ∷ 0 ∷ 0 ∷ 0 ∷ 3 ∷ 97 ∷ 98 ∷ 99 ∷ 0 ∷ 0 ∷ 0 ∷ 1 ∷ 201 ∷ 201 ∷ 201 ∷ 201 ∷ 201 ∷ 201 ∷ 201 ∷ 201 ∷ 201 ∷ 201 ∷ 201 ∷ 201 ∷ 201 ∷ 201 ∷ 201 ∷ 201 ∷ 201 ∷ 201 ∷ 201 ∷ 201 ∷ 201 ∷ 201 ∷ 201 ∷ 201 ∷ 201 ∷ 201 ∷ 201 ∷ 201 ∷ 201 ∷ 201 ∷ 201 ∷ 201 ∷ []) ≡ e7
  pub read_8 : whole unit_at (103 ∷ 152 ∷ 174 ∷ 220 ∷ 73 ∷ 218 ∷ 66 ∷ 203 ∷ 160 ∷ 153 ∷ 50 ∷ 51 ∷ 242 ∷ 139 ∷ 145 ∷ 250 ∷ 143 ∷ 117 ∷ 215 ∷ 70 ∷ 53 ∷ 15 ∷ 103 ∷ 108 ∷ 99 ∷ 200 ∷ 20 ∷ 70 ∷ 12 ∷ 134 ∷ 243 ∷ 24 ∷ 255 ∷ 255 ∷ 255 ∷ 255 ∷ 0 ∷ 0 ∷ 0 ∷ 0 ∷ 0 ∷ 0 ∷ 0 ∷ 0 ∷ 0 ∷ 0 ∷ 0 ∷ 0 ∷ 0 ∷ 0 ∷ 0 ∷ 0 ∷ 255 ∷ 0 ∷ 0 ∷ 0 ∷ 1 ∷ 2 ∷ 87 ∷ 0 ∷ 0 ∷ 0 ∷ 3 ∷ 97 ∷ 98 ∷ 99 ∷ 0 ∷ 0 ∷ 0 ∷ 1 ∷ 243 ∷ 243 ∷ 243 ∷ 243 ∷ 243 ∷ 243 ∷ 243 ∷ 243 ∷ 243 ∷ 243 ∷ 243 ∷ 243 ∷ 243 ∷ 243 ∷ 243 ∷ 243 ∷ 243 ∷ 243 ∷ 243 ∷ 243 ∷ 243 ∷ 243 ∷ 243 ∷ 243 ∷ 243 ∷ 243 ∷ 243 ∷ 243 ∷ 243 ∷ 243 ∷ 243 ∷ 243 ∷ []) ≡ e8
  pub read_9 : whole config_at (2 ∷ 0 ∷ 0 ∷ 0 ∷ 3 ∷ 255 ∷ 255 ∷ 255 ∷ 255 ∷ 255 ∷ 255 ∷ 255 ∷ 255 ∷ 255 ∷ 255 ∷ 255 ∷ 255 ∷ 255 ∷ 255 ∷ 255 ∷ 255 ∷ 0 ∷ 0 ∷ 0 ∷ 0 ∷ 0 ∷ 0 ∷ 0 ∷ 1 ∷ 0 ∷ 0 ∷ 0 ∷ 0 ∷ 0 ∷ 0 ∷ 0 ∷ 3 ∷ 106 ∷ 153 ∷ 50 ∷ 1 ∷ 0 ∷ 0 ∷ 0 ∷ 0 ∷ 253 ∷ 195 ∷ 179 ∷ 23 ∷ 14 ∷ 254 ∷ 13 ∷ 105 ∷ 255 ∷ 255 ∷ 255 ∷ 255 ∷ 255 ∷ 255 ∷ 255 ∷ 255 ∷ []) ≡ e9
