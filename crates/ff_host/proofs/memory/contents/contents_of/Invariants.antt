use Rattle.std.proofs.Common.{◌≡◌, ℕ, List, vec_len}
use Rattle.ff_host.specs.laws.memory.Given.{given}
use Rattle.ff_host.specs.laws.memory.Contents.{file_at}
use Rattle.ff_host.proofs.MemoryLemmas.GivenFiles.{either}
use Rattle.ff_host.proofs.memory.contents.contents_of.Given as goal

abbrev pub invariant-files : goal.invariant-files
invariant-files l = (name : List ℕ) → given l.fn.files.items name ≡ either (given l.files.items name) (file_at l.map name)

abbrev pub decreases-files : goal.decreases-files
decreases-files l = vec_len l.files
