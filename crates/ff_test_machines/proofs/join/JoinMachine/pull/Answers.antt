use Rattle.std.proofs.Common.{◌≡◌, ◌<◌, ◌≤◌, ◌⊎◌, List, length, slice_index_or, subst, sym, ap, ◌∙◌, []}
use Rattle.std.proofs.lemmas.List.{get_or_default}
use Rattle.ff_stream.specs.declared.item.Item.{Item}
use Rattle.ff_stream.specs.Stream.{Mark}
use Rattle.ff_stream.specs.Items.{with_item}
use Rattle.ff_stream.specs.Ports.{nothing, IsClosed}
use Rattle.ff_net.specs.Ways.{Flow}
use Rattle.ff_test_machines.specs.Joins.{joined, kept_of, mark_of}
use Rattle.ff_test_machines.proofs.JoinSteps.{join_gives, join_ends}
use Rattle.ff_test_machines.proofs.join.JoinMachine.pull.Goals as goal

pub returns-then-is_paired-clause-gives : goal.returns-then-is_paired-clause-gives
returns-then-is_paired-clause-gives c x is past s goes =
    let m = c.args.self.now in
    let items = m.first.items.items in
    let s' = rw c.if-self.false at s in
    let both : (m.next < length items) × (m.next < length m.second.items.items) = c.is_paired.ensures.yes c.if-is_paired.true in
    let r : Item = c.index-firsts-self.result in
    let same : c.in_ok-item.item ≡ x = cc (is) in
    let item : slice_index_or items m.next x ≡ x =
    get_or_default items m.next x r both.0 ∙ (ap (λ (xs : List Item). slice_index_or xs m.next r) (sym c.as_slice-firsts.ensures.value) ∙ (sym c.index-firsts-self.is ∙ (sym c.in_ok-item.ensures ∙ same))) in
    rw c.if-self.false (join_gives m.lane (kept_of m.first) (kept_of m.second) m.next m.stopped past c.args._port x c.requires both.0 both.1 item s')

pub returns-clause-gives : goal.returns-clause-gives
returns-clause-gives c x is past s goes =
    let m = c.args.self.now in
    let s' = rw c.if-self.false at s in
    let none : (length m.first.items.items ≤ m.next) ⊎ (length m.second.items.items ≤ m.next) = c.is_paired.ensures.no c.if-is_paired.false in
    let ends : mark_of c.closing.result ≡ (joined (kept_of m.first) (kept_of m.second)).mark = c.closing.ensures in
    let same : c.in-Some.item ≡ x = cc (is) in
    let is_x : with_item nothing x ≡ record { items = []; mark = mark_of c.closing.result } = subst (λ (y : Item). with_item nothing y ≡ record { items = []; mark = mark_of c.closing.result }) same (c.closing_item.ensures.some c.in-Some.item c.in-Some.is) in
    let closed : IsClosed (joined (kept_of m.first) (kept_of m.second)) = λ o. c.closing_item.ensures.closes c.in-Some.item c.in-Some.is (ends ∙ o) in
    join_ends m.lane (kept_of m.first) (kept_of m.second) m.next m.stopped past c.args._port x c.requires none (is_x ∙ ap (λ (k : Mark). let t : Flow = record { items = []; mark = k } in t) ends) closed s'
