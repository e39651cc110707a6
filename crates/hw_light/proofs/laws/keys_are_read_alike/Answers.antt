use Rattle.hw_light.proofs.KeyLaws.{keys_read, place_read}
use Rattle.hw_light.proofs.laws.keys_are_read_alike.Goals as goal

pub returns : goal.returns
returns c = λ validators text. (keys_read validators text, place_read validators text)
