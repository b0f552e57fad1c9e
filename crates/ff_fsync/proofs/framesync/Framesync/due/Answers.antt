use Rattle.std.proofs.Common.{◌∙◌, sym}
use Rattle.ff_fsync.proofs.Finding.{none_by_known, none_by_start, none_by_time, due_by}
use Rattle.ff_fsync.proofs.framesync.Framesync.due.Goals as goal

pub returns-then-not-is_known-clause-none : goal.returns-then-not-is_known-clause-none
returns-then-not-is_known-clause-none g c e =
    let s = c.args.self.now in
    none_by_known s.head s.shortest s.inputs.items c.args.from c.in-Some.lo c.in-Some.ensures.start (sym c.is_known.ensures ∙ c.if-not-is_known.true)

pub returns-in_default-least-clause-none : goal.returns-in_default-least-clause-none
returns-in_default-least-clause-none g c e =
    let s = c.args.self.now in
    none_by_start s.head s.shortest s.inputs.items c.args.from c.in-Some.lo c.in-Some.ensures.start (c.in_default-least.ensures)

pub returns-then-not-is_known-2-clause-none : goal.returns-then-not-is_known-2-clause-none
returns-then-not-is_known-2-clause-none g c e =
    let s = c.args.self.now in
    none_by_time s.head s.shortest s.inputs.items c.args.from c.in-Some.lo c.in-Some-least.time c.in-Some.ensures.start c.in-Some-least.ensures (sym c.is_known-2.ensures ∙ c.if-not-is_known-2.true)

pub returns-clause-due : goal.returns-clause-due
returns-clause-due g c =
    let s = c.args.self.now in
    due_by s.head s.shortest s.inputs.items c.args.from c.in-Some.lo c.in-Some-least.time c.in-Some.ensures.start c.in-Some-least.ensures (sym c.is_known-2.ensures ∙ c.if-not-is_known-2.false)
