use Rattle.std.proofs.Common.{◌∙◌, sym}
use Rattle.ff_fsync.proofs.Inputting.{trims_more, trimmed, trimmed_as}
use Rattle.ff_fsync.proofs.input.Input.trim.Goals as goal

pub pictures-preserved-in-Some : goal.pictures-preserved-in-Some
pictures-preserved-in-Some c =
    let old = c.args.self.now in
    let s = c.pictures.self in
    let r = trims_more old.queue.items s.queue.items c.pop_front.new.self.items c.args.time s.next c.in-Some.frame c.pictures.invariant.left (sym c.second_by.ensures ∙ c.pictures-test.true) (c.in-Some.ensures.items) s.filled in
    record { left = r.0; head = c.pictures.invariant.head; after = c.pictures.invariant.after; next = c.pictures.invariant.next }

pub returns-clause-trims : goal.returns-clause-trims
returns-clause-trims c =
    let old = c.args.self.now in
    let s = c.pictures.self in
    let i = c.pictures.invariant in
    trimmed_as old.head s.head old.after s.after old.next s.next old.queue.items s.queue.items c.args.time i.head i.after i.next i.left (sym c.second_by.ensures ∙ c.pictures-test.false) s.filled

pub returns-clause-last : goal.returns-clause-last
returns-clause-last c =
    let old = c.args.self.now in
    let s = c.pictures.self in
    (trimmed s.head s.after old.queue.items s.queue.items c.args.time s.next c.pictures.invariant.left (sym c.second_by.ensures ∙ c.pictures-test.false) s.filled).1
