use Rattle.std.proofs.Common.{◌≡◌, take, Some}
use Rattle.ff_words.specs.maps.Reading.{IsSound}
use Rattle.ff_words.specs.declared.maps.reading.Reading.TheVariants.{Start}
use Rattle.ff_words.proofs.MapsLemmas.Runs.{run}
use Rattle.ff_words.proofs.maps.read.read_map.Given as goal

abbrev pub invariant-loop-at : goal.invariant-loop-at
invariant-loop-at l = record {
  so_far : run (take l.at l.text) Start ≡ Some l.reading;
  sound : IsSound l.reading;
}
