use Rattle.std.specs.Prelude.{string_bytes}
use Rattle.hw_program.specs.Serving.{asked_service}
use Rattle.hw_program.proofs.ServiceLaws.{untold_service, told_service, told_meeting}
use Rattle.hw_program.proofs.services.service_of.Goals as goal

pub returns-then-not-are_words : goal.returns-then-not-are_words
returns-then-not-are_words c = untold_service string_bytes c.args.words.now c.as_slice-words.result.now c.are_words.result c.as_slice-words.ensures c.are_words.ensures c.if-not-are_words.true

pub returns-in-len6-up : goal.returns-in-len6-up
returns-in-len6-up c =
    told_service string_bytes c.args.words.now c.as_slice-words.result.now c.are_words.result c.command-item-2.result c.config-item-2.result c.keys-item-2.result c.log-item-2.result c.first-item.result c.second-item.result (asked_service c.service_in.result)
    c.as_slice-words.ensures c.are_words.ensures c.if-not-are_words.false c.in-len6-up.len_at_least c.command-item-2.is c.config-item-2.is c.keys-item-2.is c.log-item-2.is c.first-item.is c.second-item.is
    (rw (← c.as_str-in-len6-up.ensures.value, ← c.as_str-in-len6-up-2.ensures.value, ← c.as_str-in-len6-up-3.ensures.value, ← c.as_str-in-len6-up-4.ensures.value, ← c.as_str-in-len6-up-5.ensures.value, ← c.as_str-in-len6-up-6.ensures.value) c.service_in.ensures)

pub returns-in-len5 : goal.returns-in-len5
returns-in-len5 c =
    told_meeting string_bytes c.args.words.now c.as_slice-words.result.now c.are_words.result c.command-item.result c.config-item.result c.keys-item.result c.log-item.result c.peer-item.result (asked_service c.meeting_in.result)
    c.as_slice-words.ensures c.are_words.ensures c.if-not-are_words.false c.in-len5.len_at_least c.in-len5.len_below c.command-item.is c.config-item.is c.keys-item.is c.log-item.is c.peer-item.is
    (rw (← c.as_str.ensures.value, ← c.as_str-in-len5.ensures.value, ← c.as_str-in-len5-2.ensures.value, ← c.as_str-in-len5-3.ensures.value, ← c.as_str-in-len5-4.ensures.value) c.meeting_in.ensures)
