use Rattle.std.proofs.Common.{◌≡◌, ◌∙◌, sym, ap, true, false, length, Bool}
use Rattle.std.specs.Prelude.{◌||◌}
use Rattle.std.proofs.lemmas.Bool.{or_left}
use Rattle.ff_filter.specs.Made.{is_over}
use Rattle.ff_node_sync.specs.Lines.{Line, lines_of, line_at}
use Rattle.ff_node_sync.specs.laws.Straights.{through_to}
use Rattle.ff_node_sync.proofs.Moving.{line_there}
use Rattle.ff_node_sync.proofs.Straightening.{straight_exact}
use Rattle.ff_node_sync.proofs.straight.Straight.is_spent.Goals as goal

pub returns-then-is_shut-clause-is : goal.returns-then-is_shut-clause-is
returns-then-is_shut-clause-is c =
    let ss = c.args.self.now.sides.items in
    let ls = lines_of ss in
    let is = line_there ss c.args.port c.index.result.now c.requires.there c.index.ensures in
    sym (or_left (is_over (line_at ls c.args.port).after) (through_to ls (length ls)) (ap (λ (l : Line). is_over l.after) is ∙ (sym c.is_shut.ensures ∙ c.if-is_shut.true)))

pub returns-then-is_shut-clause-exact : goal.returns-then-is_shut-clause-exact
returns-then-is_shut-clause-exact c = straight_exact c.args.self.now.sides.items c.args.port true c.requires.there (returns-then-is_shut-clause-is c)

pub returns-clause-is : goal.returns-clause-is
returns-clause-is c =
    let ss = c.args.self.now.sides.items in
    let ls = lines_of ss in
    let is = line_there ss c.args.port c.index.result.now c.requires.there c.index.ensures in
    let open_still : is_over (line_at ls c.args.port).after ≡ false = ap (λ (l : Line). is_over l.after) is ∙ (sym c.is_shut.ensures ∙ c.if-is_shut.false) in
    c.all_through.ensures ∙ ap (λ (b : Bool). b || through_to ls (length ls)) (sym open_still)

pub returns-clause-exact : goal.returns-clause-exact
returns-clause-exact c = straight_exact c.args.self.now.sides.items c.args.port c.all_through.result c.requires.there (returns-clause-is c)
