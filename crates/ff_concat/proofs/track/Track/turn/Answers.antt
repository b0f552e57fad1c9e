use Rattle.std.proofs.Common.{◌+◌, ◌*◌, ◌∙◌, refl, ap, sym, length, arith, ℕ}
use Rattle.std.specs.Prelude.{min}
use Rattle.ff_concat.specs.laws.TrackLaws.{port_there}
use Rattle.ff_concat.proofs.Lookups.{end_get}
use Rattle.ff_concat.proofs.Turns.{turned}
use Rattle.ff_concat.proofs.track.Track.turn.Goals as goal

pub returns-clause-goes_on : goal.returns-clause-goes_on
returns-clause-goes_on c =
    let t = c.args.self.now in
    let w = length c.args.ticks.now in
    let inputs = c.requires.inputs in
    let there = port_there w t.current c.args.number (length t.backlogs.items) c.requires.there c.requires.stream in
    record {
      head = refl;
      backlogs = refl;
      gives = λ ext. turned c.args.ticks.now c.args.number t c.args.reaches.now c.requires.stream c.requires.there c.requires.passed _ _
          (c.saturating_add-begin.ensures ∙ ap (λ (l : ℕ). min (t.begin + l) 340282366920938463463374607431768211455) c.latest.ensures)
          (ap (λ (x : ℕ). t.by + x) (sym (end_get c.args.reaches.now (t.current * w + c.args.number) c.index-reaches-first.result (omega (arith, there, inputs))))) ext;
      ended = refl;
      stopped = refl;
    }
