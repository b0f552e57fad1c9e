use Rattle.ff_trim.proofs.Ending.{cut_closes, cut_goes_on}
use Rattle.ff_trim.proofs.laws.cut_audio_ends_at_its_length.Goals as goal

pub returns-clause-closes : goal.returns-clause-closes
returns-clause-closes c tb rate bits channels codec k us before after frame m long some all ends =
    cut_closes tb rate bits channels codec k us long some before after frame m all ends

pub returns-clause-goes_on : goal.returns-clause-goes_on
returns-clause-goes_on c tb rate bits channels codec k us s long some all = cut_goes_on tb rate bits channels codec k us long some s all
