use Rattle.std.proofs.Common.{refl}
use Rattle.hw_types.specs.Limits.{config_fault}
use Rattle.hw_text.specs.Numbers.{number_below}
use Rattle.hw_script_grammar.specs.Words.{keyword, optional, number, number_behind, each, one_or_more, next_each}
use Rattle.hw_script_grammar.specs.Wording.{is_one_of, is_setting_word, is_line_word, is_answer_word, is_name, is_value}
use Rattle.hw_script_grammar.specs.Texts.{texts_of}
use Rattle.hw_script_grammar.specs.Lines.{lines_behind}
use Rattle.hw_script_grammar.specs.Settings.{kind_of, one_number, two_exponents, setting_behind, setting_of, with_setting, with_words, config_of, head_from, config_or_line}
use Rattle.hw_script_grammar.specs.Names.{named_as, is_taken, unit_as, digest_as, has_unit}
use Rattle.hw_script_grammar.specs.Units.{new_name, unit_numbers, citation_of, citations, unit_number, value_text, endorsed_names, unit_endorsed, unit_behind, named_unit, unit_line}
use Rattle.hw_script_grammar.specs.Acts.{delivery_of, endorse_line, shown_by, show_line, line_kind, adds_behind, line_adds}
use Rattle.hw_script_grammar.specs.Body.{with_line, lines_add}
use Rattle.hw_script_grammar.specs.Script.{script_in}
use Rattle.hw_script_grammar.specs.Samples.{by_time, small_text, small_script, wrong_text}
use Rattle.hw_script_grammar.proofs.WritesLaws.{written_is, wrong_is}
use Rattle.hw_script_grammar.proofs.samples.small_scripts_are_read.Goals as goal

pub returns : goal.returns
unfolding config_fault number_below keyword optional number number_behind each one_or_more next_each is_one_of is_setting_word is_line_word is_answer_word is_name is_value texts_of lines_behind kind_of one_number two_exponents setting_behind setting_of with_setting with_words config_of head_from config_or_line named_as is_taken unit_as digest_as has_unit new_name unit_numbers citation_of citations unit_number value_text endorsed_names unit_endorsed unit_behind named_unit unit_line delivery_of endorse_line shown_by show_line line_kind adds_behind line_adds with_line lines_add script_in
returns c = record { script = refl; written = written_is by_time small_text small_script refl; line = refl; wrong = wrong_is by_time wrong_text 7 refl; lack = refl; limit = refl }
