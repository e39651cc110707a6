-- Random bytes and numbers, by a second reading.
use Rattle.std.proofs.Common.{refl}
use Rattle.hw_samples.specs.RandomBytes1.{RandomBytes1}
use Rattle.hw_samples.specs.RandomBytes2.{RandomBytes2}
use Rattle.hw_samples.specs.RandomNumbers.{RandomNumbers}
use Rattle.hw_samples.specs.ListLimit.{ListLimit}
use Rattle.hw_samples.specs.Gathered.{RandomValues}
use Rattle.hw_samples.specs.JournalWords.{unfold_all}
use Rattle.hw_samples.specs.Words.{unfold_reading}
use Rattle.hw_samples.specs.Words.{unfold_names}
use Rattle.hw_samples.specs.Words.{unfold_draws}

random_bytes_1 : RandomBytes1
unfolding unfold_all unfold_reading unfold_names unfold_draws
random_bytes_1 = record { read_0 = refl; read_1 = refl; read_2 = refl; read_3 = refl; spelled_4 = refl; read_4 = refl; spelled_5 = refl; read_5 = refl; read_6 = refl; read_7 = refl; read_8 = refl; read_9 = refl }

random_bytes_2 : RandomBytes2
unfolding unfold_all unfold_reading unfold_names unfold_draws
random_bytes_2 = record { read_0 = refl; read_1 = refl; spelled_2 = refl; read_2 = refl; spelled_3 = refl; read_3 = refl; spelled_4 = refl; read_4 = refl; spelled_5 = refl; read_5 = refl; read_6 = refl; read_7 = refl; spelled_8 = refl; read_8 = refl; read_9 = refl }

random_numbers : RandomNumbers
unfolding unfold_all unfold_reading unfold_names unfold_draws
random_numbers = record { round_ids = refl; witness_times = refl; changes = refl; drawn0 = refl; drawn1 = refl; drawn2 = refl; drawn3 = refl; drawn4 = refl; drawn5 = refl; table = refl }

list_limit : ListLimit
unfolding unfold_all unfold_reading unfold_names unfold_draws
list_limit = record { has_255 = refl; own_255 = refl; has_256 = refl; own_256 = refl; has_257 = refl; fit_256 = refl; fit_257 = refl }

pub random_values : RandomValues
random_values = record {
  random_bytes_1 = random_bytes_1;
  random_bytes_2 = random_bytes_2;
  random_numbers = random_numbers;
  list_limit = list_limit;
}
