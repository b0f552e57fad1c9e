use Rattle.std.proofs.Common.{◌≡◌, sym, ◌∙◌, true, false}
use Rattle.ff_concat.specs.laws.Breaks.{AreSo}
use Rattle.ff_concat.proofs.Breaking.{items_blind, whole_blind, breaks_off, no_break}
use Rattle.ff_concat.proofs.laws.segments_keep_the_broken_rule.Goals as goal

pub returns-clause-video : goal.returns-clause-video
returns-clause-video c heads head q n timed lt v = record {
  items = λ ss long. items_blind heads head q n lt ss;
  wholeness = λ ss long. whole_blind heads head q n lt ss;
  breaks = λ ss long. (breaks_off heads head q n lt (AreSo _) ss, no_break heads head q n lt ss long timed (λ a. let clash : false ≡ true = sym a ∙ v in cc));
}

pub returns-clause-audio : goal.returns-clause-audio
returns-clause-audio c heads head q n timed lt v = record {
  items = λ ss long. items_blind heads head q n lt ss;
  wholeness = λ ss long. whole_blind heads head q n lt ss;
  breaks = λ ss long room. (breaks_off heads head q n lt (AreSo _) ss, no_break heads head q n lt ss long timed (λ a. room));
}
