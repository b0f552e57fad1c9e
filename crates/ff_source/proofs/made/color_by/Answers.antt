use Rattle.std.proofs.Common.{false, subst}
use Rattle.ff_filter.specs.Options.{AreRead}
use Rattle.ff_source.specs.declared.color_options.ColorSettings.{ColorSettings}
use Rattle.ff_source.specs.ColorOptions.{color_manual, color_default, MakesColor}
use Rattle.ff_source.proofs.Reading.{made_by_read, refused_by_read}
use Rattle.ff_source.proofs.made.color_by.Goals as goal

pub returns-in-Err : goal.returns-in-Err
returns-in-Err c =
    let read = subst (λ (s : ColorSettings). AreRead color_manual false 0 s c.args.args.now c.read_args.result) c.new.ensures c.read_args.ensures.read in
    refused_by_read color_manual color_default (λ s q. MakesColor s s.duration q) c.args.args.now c.read_args.result c.in-Err.error read c.in-Err.is

pub returns-in-Ok : goal.returns-in-Ok
returns-in-Ok c =
    let read = subst (λ (s : ColorSettings). AreRead color_manual false 0 s c.args.args.now c.read_args.result) c.new.ensures c.read_args.ensures.read in
    made_by_read color_manual color_default c.in-Ok.settings (λ s q. MakesColor s s.duration q) c.args.args.now c.read_args.result c.make_color.result read c.in-Ok.is c.make_color.ensures
