use Rattle.std.proofs.Common.{sym}
use Rattle.ff_concat.proofs.Lookups.{stopped_read}
use Rattle.ff_concat.proofs.Ports.{out_there}
use Rattle.ff_concat.proofs.concat_filter.ConcatFilter.is_stopped.Goals as goal

pub returns : goal.returns
returns c = let m = c.args.self.now in sym (stopped_read m.tracks.items c.args.port c.index.result.now (out_there m c.args.port c.requires) c.index.ensures)
