use Rattle.ff_concat.proofs.Outputs.{set_stopped}
use Rattle.ff_concat.proofs.concat.Concat.halt.Goals as goal

pub returns : goal.returns
returns c =
    let m = c.args.self.now in
    record {
      stopped = set_stopped m.ticks.items m.segments m.reaches.items m.tracks.items c.args.port c.index_mut.result.now c.stop.new.self c.requires.there c.index_mut.ensures.value
          c.stop.ensures.head c.stop.ensures.ended c.stop.ensures.stopped;
    }
