use Rattle.ff_words.proofs.MapsLemmas.Places.{IsMap-unique, IsBadAt-unique}
use Rattle.ff_words.proofs.maps.laws.maps_have_one_meaning.Goals as goal

pub returns-clause-map : goal.returns-clause-map
returns-clause-map c = IsMap-unique

pub returns-clause-place : goal.returns-clause-place
returns-clause-place c = IsBadAt-unique
