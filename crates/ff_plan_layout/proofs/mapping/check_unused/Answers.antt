use Rattle.std.proofs.Common.{◌≡◌, List, ℕ, None, ◌∙◌, subst}
use Rattle.std.specs.Prelude.{IfOk, IfErr}
use Rattle.std.specs.List.{find, flat_map}
use Rattle.ff_graph_links.specs.labels.Labels.{given_in}
use Rattle.ff_plan_layout.specs.laws.Mapping.{is_unused}
use Rattle.ff_plan_layout.specs.LaidOut.{unused_of}
use Rattle.ff_plan_layout.specs.laws.Refusals.{IsFault}
use Rattle.ff_plan_layout.proofs.mapping.check_unused.Goals as goal

pub returns : goal.returns
returns c =
    let same : c.as_slice.result.now ≡ flat_map given_in c.args.graphs.now = c.as_slice.ensures.value ∙ c.in_ok-given.ensures in
    record {
      fine = subst (λ (l : List (List ℕ)). IfOk c.first_unused.result (λ _. unused_of (find (is_unused c.args.graphs.now c.args.outs.now) l) ≡ None)) same c.first_unused.ensures.fine;
      fault = subst (λ (l : List (List ℕ)). IfErr c.first_unused.result (IsFault (unused_of (find (is_unused c.args.graphs.now c.args.outs.now) l)))) same c.first_unused.ensures.fault;
    }
