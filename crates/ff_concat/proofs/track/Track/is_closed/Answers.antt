use Rattle.std.proofs.Common.{◌<◌, ◌+◌, ◌*◌, ◌∙◌, length, ap, sym, arith}
use Rattle.std.specs.Prelude.{◌&&◌}
use Rattle.ff_stream.specs.Stream.{Mark, whole}
use Rattle.ff_filter.specs.declared.after.After.TheVariants.{More, Whole, Broke}
use Rattle.ff_filter.specs.Options.{is_video}
use Rattle.ff_concat.specs.laws.Closing.{closes_at}
use Rattle.ff_concat.specs.laws.Standing.{lost_from}
use Rattle.ff_concat.specs.laws.TrackLaws.{port_there}
use Rattle.ff_concat.specs.laws.Tracks.{closed_from}
use Rattle.ff_concat.proofs.Lookups.{after_get}
use Rattle.ff_concat.proofs.Losing.{closed_step}
use Rattle.ff_concat.proofs.track.Track.is_closed.Goals as goal

pub returns-in-More : goal.returns-in-More
returns-in-More c =
    let t = c.args.self.now in
    let rs = c.args.reaches.now in
    let w = c.args.width in
    let q = c.args.number in
    let k = c.segments.segment in
    let inputs = c.requires.inputs in
    let lt : k < length t.backlogs.items = omega arith in
    let there = port_there w k q (length t.backlogs.items) lt c.requires.stream in
    let at : k * w + q < length rs = omega (arith, there, inputs) in
    sym (sym c.segments.invariant ∙ closed_step t rs w q k lt More (after_get rs (k * w + q) _ at ∙ c.in-More.is))

pub returns-in-Broke : goal.returns-in-Broke
returns-in-Broke c =
    let t = c.args.self.now in
    let rs = c.args.reaches.now in
    let w = c.args.width in
    let q = c.args.number in
    let k = c.segments.segment in
    let inputs = c.requires.inputs in
    let lt : k < length t.backlogs.items = omega arith in
    let there = port_there w k q (length t.backlogs.items) lt c.requires.stream in
    let at : k * w + q < length rs = omega (arith, there, inputs) in
    sym (sym c.segments.invariant ∙ closed_step t rs w q k lt Broke (after_get rs (k * w + q) _ at ∙ c.in-Broke.is))

pub returns-in-Broke-together : goal.returns-in-Broke-together
returns-in-Broke-together c =
    let t = c.args.self.now in
    let rs = c.args.reaches.now in
    let w = c.args.width in
    let q = c.args.number in
    let k = c.segments.segment in
    let inputs = c.requires.inputs in
    let lt : k < length t.backlogs.items = omega arith in
    let there = port_there w k q (length t.backlogs.items) lt c.requires.stream in
    let at : k * w + q < length rs = omega (arith, there, inputs) in
    let own = after_get rs (k * w + q) _ at ∙ c.in-Whole.is in
    sym (sym c.segments.invariant ∙ (closed_step t rs w q k lt Whole own
    ∙ ap (λ (m : Mark). closes_at whole m (is_video t.head && lost_from t.backlogs.items rs w q (k + 1)) (closed_from t rs w q (k + 1))) (sym c.in-Broke-together.ensures)))

pub returns-in-More-together : goal.returns-in-More-together
returns-in-More-together c =
    let t = c.args.self.now in
    let rs = c.args.reaches.now in
    let w = c.args.width in
    let q = c.args.number in
    let k = c.segments.segment in
    let inputs = c.requires.inputs in
    let lt : k < length t.backlogs.items = omega arith in
    let there = port_there w k q (length t.backlogs.items) lt c.requires.stream in
    let at : k * w + q < length rs = omega (arith, there, inputs) in
    let own = after_get rs (k * w + q) _ at ∙ c.in-Whole.is in
    c.is_lost_behind.ensures ∙ sym (sym c.segments.invariant ∙ (closed_step t rs w q k lt Whole own
    ∙ ap (λ (m : Mark). closes_at whole m (is_video t.head && lost_from t.backlogs.items rs w q (k + 1)) (closed_from t rs w q (k + 1))) (sym c.in-More-together.ensures)))

pub segments-preserved : goal.segments-preserved
segments-preserved c =
    let t = c.args.self.now in
    let rs = c.args.reaches.now in
    let w = c.args.width in
    let q = c.args.number in
    let k = c.segments.segment in
    let inputs = c.requires.inputs in
    let lt : k < length t.backlogs.items = omega arith in
    let there = port_there w k q (length t.backlogs.items) lt c.requires.stream in
    let at : k * w + q < length rs = omega (arith, there, inputs) in
    let own = after_get rs (k * w + q) _ at ∙ c.in-Whole.is in
    sym (closed_step t rs w q k lt Whole own
    ∙ ap (λ (m : Mark). closes_at whole m (is_video t.head && lost_from t.backlogs.items rs w q (k + 1)) (closed_from t rs w q (k + 1))) (sym c.in-Whole-together.ensures))
    ∙ c.segments.invariant
