use Rattle.ff_bits.proofs.WriterLemmas.{pad_none, pad_some, padded}
use Rattle.ff_bits.proofs.writer.BitWriter.pad.Goals as goal

pub returns-then-over-eq0-clause-ok : goal.returns-then-over-eq0-clause-ok
returns-then-over-eq0-clause-ok c = pad_none c.self.inside.bytes.items c.self.inside.count c.self.inside.word c.args.self.now c.self.view_is c.if-over-eq0.true

pub returns-then-over-eq0-clause-whole : goal.returns-then-over-eq0-clause-whole
returns-then-over-eq0-clause-whole c =
    padded c.args.self.now c.args.self.now (pad_none c.self.inside.bytes.items c.self.inside.count c.self.inside.word c.args.self.now c.self.view_is c.if-over-eq0.true)

pub returns-clause-ok : goal.returns-clause-ok
returns-clause-ok c = pad_some c.self.inside.bytes.items c.self.inside.count c.self.inside.word c.args.self.now c.put.new.self c.self.view_is c.if-over-eq0.false c.in_ok-put.ensures.ok

pub returns-clause-whole : goal.returns-clause-whole
returns-clause-whole c =
    padded c.args.self.now c.put.new.self (pad_some c.self.inside.bytes.items c.self.inside.count c.self.inside.word c.args.self.now c.put.new.self c.self.view_is c.if-over-eq0.false c.in_ok-put.ensures.ok)
