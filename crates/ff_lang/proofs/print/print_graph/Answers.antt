use Rattle.std.proofs.Common.{◌≡◌, ◌++◌, ◌∙◌, string_bytes, sym, ap, subst}
use Rattle.ff_lang.specs.Grammar.{IsGraph}
use Rattle.ff_lang.specs.laws.Printing.{series, printed_chain, printed}
use Rattle.ff_lang.proofs.Prints.{printed_is}
use Rattle.ff_lang.proofs.print.print_graph.Goals as goal

pub returns-clause-stands : goal.returns-clause-stands
returns-clause-stands c = λ sound.
    (let spelled : string_bytes c.push_series.new.out ≡ printed c.args.graph.now =
    c.in_ok-push_series.ensures
    ∙ (ap (λ t. t ++ series printed_chain 59 c.as_slice.result.now) c.new-out.ensures.bytes
    ∙ ap (λ t. series printed_chain 59 t) c.as_slice.ensures) in
    subst (λ text. IsGraph text c.args.graph.now) (sym spelled) (printed_is c.args.graph.now sound))
