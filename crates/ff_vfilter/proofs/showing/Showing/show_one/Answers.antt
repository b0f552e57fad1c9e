use Rattle.std.proofs.Common.{◌≡◌, ◌+◌, Some, refl, ap, sym, ◌∙◌}
use Rattle.ff_frame.specs.declared.video.VFrame.{VFrame}
use Rattle.ff_stream.specs.declared.item.Item.{Item}
use Rattle.ff_filter.specs.Joins.{before}
use Rattle.ff_vfilter.specs.Rates.{shown}
use Rattle.ff_vfilter.specs.laws.RateSteps.{rated}
use Rattle.ff_vfilter.specs.laws.RateViews.{ahead_then}
use Rattle.ff_vfilter.proofs.Rating.{shows_once}
use Rattle.ff_vfilter.proofs.showing.Showing.show_one.Goals as goal

pub returns-in-Ok-clause-shown : goal.returns-in-Ok-clause-shown
returns-in-Ok-clause-shown c =
    let m = c.args.self.now in
    let f = c.args.frame in
    let is : c.numbered.result ≡ shown m.number f = c.numbered.ensures ∙ ap (λ (g : VFrame). shown m.number g) c.in-Ok.ensures in
    record {
      is = is;
      count = refl;
      rest = λ t. shows_once m.scale f m.number m.ahead t c.requires.due ∙ ap (λ (x : Item). before x (rated m.scale (record { picture = Some f; number = m.number + 1 }) (ahead_then m.ahead t))) (sym is);
    }
