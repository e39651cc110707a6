use Rattle.std.proofs.Common.{◌≡◌, [], rules}
use Rattle.hw_log.proofs.RunLaws.{says_whole}
use Rattle.hw_log.proofs.whole.read_log.Goals as goal

pub returns-clause-whole : goal.returns-clause-whole
returns-clause-whole g c = λ tells.
    let config : c.into_config.result ≡ c.read_entries.new.reader.config = search rules in
    let none : c.new-entries.result ≡ [] = search rules in
    rw config
    (says_whole (g.F.Files.held c.args.files.now c.args.name.now) c.in_ok-reader.reader (g.F.Files.unread c.begin.new.files)
    c.read_entries.new.reader.config c.read_entries.new.entries (c.in_ok-reader.ensures.said tells)
    (λ bytes first. c.in_ok-read_entries.ensures.whole tells bytes (rw none first)))
