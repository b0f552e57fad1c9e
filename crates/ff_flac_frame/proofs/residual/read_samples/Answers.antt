use Rattle.std.proofs.Common.{◌≡◌}
use Rattle.std.proofs.Common.{to_z, of_z}
use Rattle.std.specs.Int.{w32}
use Rattle.std.proofs.lemmas.Int.{to_z-of_z}
use Rattle.std.proofs.lemmas.Result.{err_from_is_err_and}
use Rattle.ff_flac_frame.proofs.Loops.{times_goes_on, times_done}
use Rattle.ff_flac_frame.specs.Frame.{sample}
use Rattle.ff_flac_frame.proofs.FieldLemmas.{times_fails}
use Rattle.ff_flac_frame.proofs.residual.read_samples.Goals as goal

pub returns-in_err-value : goal.returns-in_err-value
returns-in_err-value c =
    let p = err_from_is_err_and c.from_residual.result c.from_residual.ensures.1 in
    let l = c.loop-i in
    let e = c.in_err-value in
    rw (p.1, p.2) (times_fails e.field-0.0 (sample c.args.depth) l.out.items c.args.count l.i l.reader _ c.loop-i-test.true e.ensures.reads l.invariant)

pub loop-i-preserved : goal.loop-i-preserved
loop-i-preserved c =
    let l = c.loop-i in
    let x = c.in_ok-value.value in
    let e : to_z w32 (of_z w32 x) ≡ x = to_z-of_z w32 x c.in_ok-value.ensures.fits in
    let on = times_goes_on (sample c.args.depth) l.out.items c.args.count l.i l.reader _ c.loop-i-test.true x _ c.in_ok-value.ensures.reads l.invariant in
    rw (c.in_ok-push.ensures.items, e) on

pub returns : goal.returns
returns c = times_done (sample c.args.depth) c.loop-i.out.items c.args.count c.loop-i.i c.loop-i.reader _ c.loop-i-test.false c.loop-i.invariant
