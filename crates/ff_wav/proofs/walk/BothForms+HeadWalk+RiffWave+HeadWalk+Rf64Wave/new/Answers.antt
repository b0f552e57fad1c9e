use Rattle.ff_wav.specs.Heads.{riff_grammar, rf64_grammar}
use Rattle.ff_wav.proofs.FormLaws.{reached_start}
use Rattle.ff_wav.proofs.walk.BothForms+HeadWalk+RiffWave+HeadWalk+Rf64Wave.new.Goals as goal

pub returns : goal.returns
returns c = (reached_start riff_grammar _ _ c.new.ensures, reached_start rf64_grammar _ _ c.new-2.ensures)
