-- What the quiet host holds.
use Rattle.std.specs.Prelude.{ℕ, ◌+◌, ◌-◌}
use Rattle.ff_host.specs.laws.memory.Contents.{file_at}
use Rattle.ff_host.specs.Files.{Files}
use Rattle.ff_host.specs.declared.memory.quiet_host.QuietHost.{QuietHost}

-- its files, by name
abbrev pub quiet_files : QuietHost → Files
quiet_files host = file_at host.files

-- how many of the sources that it opened were not given back
abbrev pub quiet_sources : QuietHost → ℕ
quiet_sources host = host.sources

-- how many of the sinks that it created were not given back
abbrev pub quiet_sinks : QuietHost → ℕ
quiet_sinks host = host.sinks

-- with one more source open
abbrev pub one_source_more : QuietHost → QuietHost
one_source_more host = record host { sources = host.sources + 1 }

-- with one source given back
abbrev pub one_source_less : QuietHost → QuietHost
one_source_less host = record host { sources = host.sources - 1 }
