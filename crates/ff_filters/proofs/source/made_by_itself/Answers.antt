use Rattle.ff_filters.proofs.SourcesBy.{color_itself, silence_itself}
use Rattle.ff_filters.proofs.source.made_by_itself.Goals as goal

pub returns-in-Color : goal.returns-in-Color
returns-in-Color c = color_itself c.args.name c.args.args.now c.made_by.result c.some.result c.in-Color.is c.made_by.ensures.is c.some.ensures

pub returns-in-ANullSrc : goal.returns-in-ANullSrc
returns-in-ANullSrc c =
    silence_itself c.args.name c.args.args.now c.made_by-in-ANullSrc.result c.some-in-ANullSrc.result c.in-ANullSrc.is c.made_by-in-ANullSrc.ensures.is c.some-in-ANullSrc.ensures
