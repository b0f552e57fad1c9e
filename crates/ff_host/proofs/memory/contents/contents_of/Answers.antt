use Rattle.ff_host.specs.laws.memory.Given.{given}
use Rattle.ff_host.proofs.MemoryLemmas.GivenFiles.{filled}
use Rattle.ff_host.proofs.memory.contents.contents_of.Goals as goal

pub files-preserved-in_ok-insert : goal.files-preserved-in_ok-insert
files-preserved-in_ok-insert c = λ name. filled (given c.args.files.items name) c.files.files.items c.pop.new.self.items (c.in-Some.name, c.in-Some.bytes) c.files.map c.insert.new.self name
    c.in-Some.ensures.items c.in_ok-insert.ensures.updates (c.files.invariant name)

pub files-preserved : goal.files-preserved
files-preserved c = λ name. filled (given c.args.files.items name) c.files.files.items c.pop.new.self.items (c.in-Some.name, c.in-Some.bytes) c.files.map c.insert.new.self name
    c.in-Some.ensures.items c.in_ok-insert.ensures.updates (c.files.invariant name)
