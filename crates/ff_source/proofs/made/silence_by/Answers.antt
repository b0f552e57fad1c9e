use Rattle.std.proofs.Common.{false, subst}
use Rattle.ff_filter.specs.Options.{AreRead}
use Rattle.ff_source.specs.declared.silence_options.SilenceSettings.{SilenceSettings}
use Rattle.ff_source.specs.SilenceOptions.{silence_manual, silence_default, MakesSilence}
use Rattle.ff_source.proofs.Reading.{made_by_read, refused_by_read}
use Rattle.ff_source.proofs.made.silence_by.Goals as goal

pub returns-in-Err : goal.returns-in-Err
returns-in-Err c =
    let read = subst (λ (s : SilenceSettings). AreRead silence_manual false 0 s c.args.args.now c.read_args.result) c.new.ensures c.read_args.ensures.read in
    refused_by_read silence_manual silence_default (λ s q. MakesSilence s s.duration q) c.args.args.now c.read_args.result c.in-Err.error read c.in-Err.is

pub returns-in-Ok : goal.returns-in-Ok
returns-in-Ok c =
    let read = subst (λ (s : SilenceSettings). AreRead silence_manual false 0 s c.args.args.now c.read_args.result) c.new.ensures c.read_args.ensures.read in
    made_by_read silence_manual silence_default c.in-Ok.settings (λ s q. MakesSilence s s.duration q) c.args.args.now c.read_args.result c.make_silence.result read c.in-Ok.is c.make_silence.ensures
