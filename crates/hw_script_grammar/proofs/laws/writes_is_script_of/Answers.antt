use Rattle.hw_script_grammar.proofs.WritesLaws.{written_is, written_there, wrong_is, wrong_there, one_is_written, all_is_read}
use Rattle.hw_script_grammar.proofs.laws.writes_is_script_of.Goals as goal

pub returns : goal.returns
returns c = record {
  read = λ setting text script. (written_is setting text script, written_there setting text script);
  wrong = λ setting text n. (wrong_is setting text n, wrong_there setting text n);
  one = one_is_written;
  all = all_is_read;
}
