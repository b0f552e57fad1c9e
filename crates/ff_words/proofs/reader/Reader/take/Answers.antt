use Rattle.std.proofs.Common.{sym, ◌∙◌, ap}
use Rattle.ff_words.specs.laws.Reading.{output_wrong}
use Rattle.ff_words.proofs.Snoc.{taken-output, taken-input, taken-option, not_file}
use Rattle.ff_words.proofs.reader.Reader.take.Goals as goal

pub returns-in_ok-add_input-in-Input : goal.returns-in_ok-add_input-in-Input
returns-in_ok-add_input-in-Input c es h =
    taken-input es c.args.at c.args.concern c.args.value c.in-Input.name c.args.self.now c.add_input.new.self c.in-Input.is h (sym c.in-None.is ∙ c.input_wrong.ensures) (c.in_ok-add_input-in-Input.ensures)

pub returns-in_ok-add-in_default : goal.returns-in_ok-add-in_default
returns-in_ok-add-in_default c es h =
    taken-option es c.args.at c.args.concern c.args.value c.args.self.now c.add.new.self (not_file c.args.value c.in_default.not-Input c.in_default.not-Output) h (c.in_ok-add-in_default.ensures)

pub returns-in_ok-add_output-in-Some-output_format : goal.returns-in_ok-add_output-in-Some-output_format
returns-in_ok-add_output-in-Some-output_format c es h =
    taken-output es c.args.at c.args.concern c.args.value c.in-Output.word c.in-Output.ending c.in-Some-output_format.format c.args.self.now c.add_output.new.self c.in-Output.is h
    (sym c.in-None-output_wrong.is ∙ (c.output_wrong.ensures ∙ ap (λ n. output_wrong c.args.at n c.in-Output.ending c.args.self.now) c.as_str.ensures)) (sym c.in-Some-output_format.is ∙ c.output_format.ensures) c.in_ok-add_output-in-Some-output_format.ensures
