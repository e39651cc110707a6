use Rattle.hw_codec.proofs.Spelled.{unit_read_in_range, unit_read_spells, unit_spelled_reads, vertex_read_in_range, vertex_read_spells, vertex_spelled_reads, config_read_in_range, config_read_spells, config_spelled_reads, frame_read_in_range, frame_read_spells, frame_spelled_reads}
use Rattle.hw_codec.proofs.laws.reading_is_spelling.Goals as goal

pub returns-clause-unit : goal.returns-clause-unit
returns-clause-unit c = λ bytes x fits. (λ e. (unit_read_in_range bytes x fits e, unit_read_spells bytes x fits e), λ h. unit_spelled_reads bytes x h.0 h.1)

pub returns-clause-vertex : goal.returns-clause-vertex
returns-clause-vertex c = λ bytes x fits. (λ e. (vertex_read_in_range bytes x fits e, vertex_read_spells bytes x fits e), λ h. vertex_spelled_reads bytes x h.0 h.1)

pub returns-clause-config : goal.returns-clause-config
returns-clause-config c = λ bytes x fits. (λ e. (config_read_in_range bytes x fits e, config_read_spells bytes x fits e), λ h. config_spelled_reads bytes x h.0 h.1)

pub returns-clause-frame : goal.returns-clause-frame
returns-clause-frame c = λ bytes x fits. (λ e. (frame_read_in_range bytes x fits e, frame_read_spells bytes x fits e), λ h. frame_spelled_reads bytes x h.0 h.1)
