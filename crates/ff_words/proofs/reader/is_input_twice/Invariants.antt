use Rattle.std.proofs.Common.{◌≡◌, map, drop}
use Rattle.std.specs.Prelude.{if◌then◌else◌}
use Rattle.std.specs.List.{list_any}
use Rattle.std.specs.Str.{bytes_eq}
use Rattle.ff_words.specs.Words.{is_twice}
use Rattle.ff_words.specs.declared.job.InputJob.{InputJob}
use Rattle.ff_words.proofs.reader.is_input_twice.Given as goal

abbrev pub invariant-loop-input : goal.invariant-loop-input
invariant-loop-input l =
    (if l.seen then list_any (λ m. bytes_eq m l.name) (map (λ (o : InputJob). o.name) (drop l.input-index l.inputs)) else is_twice l.name (map (λ (o : InputJob). o.name) (drop l.input-index l.inputs)))
    ≡ is_twice l.name (map (λ (o : InputJob). o.name) l.inputs)
