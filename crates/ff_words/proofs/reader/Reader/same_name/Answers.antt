use Rattle.std.proofs.Common.{◌∙◌, map, arith}
use Rattle.std.specs.Prelude.{option_to_list}
use Rattle.ff_words.specs.declared.job.InputJob.{InputJob}
use Rattle.ff_words.proofs.Names.{name-fresh}
use Rattle.ff_words.proofs.reader.Reader.same_name.Goals as goal

pub outputs-preserved : goal.outputs-preserved
outputs-preserved c =
    record {
      bound = omega (arith, c.outputs-test.true);
      same = name-fresh c.args.self.now.outputs c.as_slice-outputs.result.now c.outputs.at (option_to_list c.args.self.now.trace) (map (λ (i : InputJob). i.name) c.args.self.now.inputs) c.index-outputs-at.result
          c.is_file_repeated.result c.as_slice-outputs.ensures c.outputs-test.true c.index-outputs-at.is c.is_file_repeated.ensures c.if-is_file_repeated.false ∙ c.outputs.invariant.same;
    }
