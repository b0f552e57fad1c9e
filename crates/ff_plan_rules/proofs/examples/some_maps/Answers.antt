use Rattle.std.proofs.Common.{refl}
use Rattle.ff_lang.specs.Letters.{is_label_byte, is_word_byte}
use Rattle.ff_plan_rules.proofs.examples.some_maps.Goals as goal

pub returns : goal.returns
unfolding is_label_byte is_word_byte
returns c = record { second = refl; label = refl; other = refl }
