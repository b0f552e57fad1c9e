use Rattle.std.proofs.Common.{ap, ◌∙◌, sym}
use Rattle.ff_stream.specs.declared.item.Lane.TheVariants.{Frames}
use Rattle.ff_filter.specs.Made.{is_over}
use Rattle.ff_fsync.specs.Sides.{Side}
use Rattle.ff_fsync.specs.laws.Syncs.{side_of, sides_of}
use Rattle.ff_fsync.proofs.Showing.{idle_fed}
use Rattle.ff_fsync.proofs.Finding.{side_there}
use Rattle.ff_fsync.proofs.Taken.{replaced, empty_still}
use Rattle.ff_fsync.proofs.framesync.Framesync.pass_over.Goals as goal

pub pass_over-requires : goal.pass_over-requires
pass_over-requires g c =
    let s = c.args.self.now in
    let was = side_there (Frames s.head) s.inputs.items c.args.port c.index_mut.result.now c.requires.there c.index_mut.ensures.value in
    record { going = ap (λ (i : Side). is_over i.after) (sym was) ∙ c.requires.open }

pub returns-clause-fed : goal.returns-clause-fed
returns-clause-fed g c =
    let s = c.args.self.now in
    let new = c.pass_over.new.self in
    idle_fed (g.S.Stack.shows s.stack) s.shortest (Frames s.head) s.from (sides_of s.inputs.items) _ c.args.port (side_of new) c.args.item s.ended s.stopped
    (replaced (Frames s.head) s.inputs.items c.args.port new c.index_mut.result.now c.requires.there c.index_mut.ensures.value (ap (λ h. Frames h) c.pass_over.ensures.head))
    c.requires.open c.pass_over.ensures.shut c.requires.unwanted

pub returns-clause-kept : goal.returns-clause-kept
returns-clause-kept g c kept q =
    let s = c.args.self.now in
    empty_still (Frames s.head) s.inputs.items c.args.port c.pass_over.new.self c.index_mut.result.now c.requires.there c.index_mut.ensures.value c.pass_over.ensures.queue kept q
