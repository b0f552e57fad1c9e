use Rattle.std.proofs.Common.{◌<◌, length, arith, ap, sym}
use Rattle.ff_trim.specs.laws.Taps.{Way}
use Rattle.ff_trim.proofs.Ways.{way_there, long_ways}
use Rattle.ff_trim.proofs.cutting.CuttingFilter.is_stopped.Goals as goal

pub returns : goal.returns
returns g c =
    let ts = c.args.self.now.taps.items in
    let lt : c.args.port < length ts = (let long = c.args.self.now.tied.long in let also = long_ways ts in omega (arith, c.requires, long, also)) in
    ap (λ (w : Way). w.stopped) (sym (way_there ts c.args.port c.index.result.now lt c.index.ensures))
