use Rattle.std.proofs.Common.{ap, ◌∙◌, sym, refl}
use Rattle.ff_stream.specs.declared.item.Lane.TheVariants.{Frames}
use Rattle.ff_filter.specs.Made.{is_over}
use Rattle.ff_fsync.specs.Sides.{Side}
use Rattle.ff_fsync.proofs.Finding.{side_there}
use Rattle.ff_fsync.proofs.Taken.{ports_there}
use Rattle.ff_fsync.proofs.machine.FramesyncFilter.spent.Goals as goal

pub returns : goal.returns
returns g c =
    let s = c.args.self.now in
    let shut = c.is_shut-shut.ensures ∙ ap (λ (i : Side). is_over i.after) (sym (side_there (Frames s.head) s.inputs.items c.args.port c.index.result.now (ports_there s.inputs.items c.args.port c.requires.there) c.index.ensures)) in
    record { spends = rw (shut, c.is_done-done.ensures) refl }
