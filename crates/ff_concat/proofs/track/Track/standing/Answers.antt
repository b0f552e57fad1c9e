use Rattle.std.proofs.Common.{◌+◌, ◌*◌, ◌∙◌, length, sym, arith}
use Rattle.ff_concat.specs.laws.TrackLaws.{port_there}
use Rattle.ff_concat.proofs.Lookups.{after_get}
use Rattle.ff_concat.proofs.Standings.{stands_more, stands_broke, stands_cut, stands_lost, stands_held}
use Rattle.ff_concat.proofs.track.Track.standing.Goals as goal

pub returns-in-More : goal.returns-in-More
returns-in-More c =
    let t = c.args.self.now in
    let inputs = c.requires.inputs in
    let there = port_there c.args.width t.current c.args.number (length t.backlogs.items) c.requires.there c.requires.stream in
    stands_more t c.args.reaches.now c.args.width c.args.number (after_get c.args.reaches.now (t.current * c.args.width + c.args.number) _ (omega (arith, there, inputs)) ∙ c.in-More.is)

pub returns-in-Broke : goal.returns-in-Broke
returns-in-Broke c =
    let t = c.args.self.now in
    let inputs = c.requires.inputs in
    let there = port_there c.args.width t.current c.args.number (length t.backlogs.items) c.requires.there c.requires.stream in
    stands_broke t c.args.reaches.now c.args.width c.args.number (after_get c.args.reaches.now (t.current * c.args.width + c.args.number) _ (omega (arith, there, inputs)) ∙ c.in-Broke.is)

pub returns-in-Whole-together : goal.returns-in-Whole-together
returns-in-Whole-together c =
    let t = c.args.self.now in
    let inputs = c.requires.inputs in
    let there = port_there c.args.width t.current c.args.number (length t.backlogs.items) c.requires.there c.requires.stream in
    (after_get c.args.reaches.now (t.current * c.args.width + c.args.number) _ (omega (arith, there, inputs)) ∙ c.in-Whole.is, sym c.in-Whole-together.ensures)

pub returns-in-Broke-together : goal.returns-in-Broke-together
returns-in-Broke-together c =
    let t = c.args.self.now in
    let inputs = c.requires.inputs in
    let there = port_there c.args.width t.current c.args.number (length t.backlogs.items) c.requires.there c.requires.stream in
    stands_cut t c.args.reaches.now c.args.width c.args.number (after_get c.args.reaches.now (t.current * c.args.width + c.args.number) _ (omega (arith, there, inputs)) ∙ c.in-Whole.is) c.in-Broke-together.ensures

pub returns-then-is_lost_behind : goal.returns-then-is_lost_behind
returns-then-is_lost_behind c =
    let t = c.args.self.now in
    let inputs = c.requires.inputs in
    let there = port_there c.args.width t.current c.args.number (length t.backlogs.items) c.requires.there c.requires.stream in
    stands_lost t c.args.reaches.now c.args.width c.args.number
    (after_get c.args.reaches.now (t.current * c.args.width + c.args.number) _ (omega (arith, there, inputs)) ∙ c.in-Whole.is) c.in-More-together.ensures
    (sym c.is_lost_behind.ensures ∙ c.if-is_lost_behind.true)

pub returns-else-is_lost_behind : goal.returns-else-is_lost_behind
returns-else-is_lost_behind c =
    let t = c.args.self.now in
    let inputs = c.requires.inputs in
    let there = port_there c.args.width t.current c.args.number (length t.backlogs.items) c.requires.there c.requires.stream in
    stands_held t c.args.reaches.now c.args.width c.args.number
    (after_get c.args.reaches.now (t.current * c.args.width + c.args.number) _ (omega (arith, there, inputs)) ∙ c.in-Whole.is) c.in-More-together.ensures
    (sym c.is_lost_behind.ensures ∙ c.if-is_lost_behind.false)
