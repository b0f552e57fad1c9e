use Rattle.std.proofs.Common.{◌≡◌, ◌<◌, ◌≤◌, List, length, slice_index_or, true, false, subst, sym, ap, ◌∙◌}
use Rattle.std.proofs.lemmas.List.{get_or_default}
use Rattle.ff_stream.specs.declared.item.Item.{Item}
use Rattle.ff_stream.specs.declared.item.Item.TheVariants.{End}
use Rattle.ff_stream.specs.Stream.{still_open, LiesBelow}
use Rattle.ff_stream.specs.Items.{with_item}
use Rattle.ff_stream.specs.Ports.{stream_at}
use Rattle.ff_net.specs.Pasts.{gave_item, due}
use Rattle.ff_test_machines.specs.Lists.{Lists}
use Rattle.ff_test_machines.proofs.ListSteps.{list_gives, list_ends}
use Rattle.ff_test_machines.proofs.source.SourceMachine.pull.Goals as goal

pub returns-then-self-items-clause-gives : goal.returns-then-self-items-clause-gives
returns-then-self-items-clause-gives c x is past s goes =
    let m = c.args.self.now in
    let items = m.items.items in
    let p = c.args._port in
    let s' = rw (c.if-self.false, c.if-not-self.false) at s in
    let less : m.next < length items = subst (λ (xs : List Item). m.next < length xs) c.as_slice-items.ensures.value c.if-self-items.true in
    let r : Item = c.index-items-self.result in
    let same : c.in_ok-item.item ≡ x = cc (is) in
    let item : slice_index_or items m.next x ≡ x =
    get_or_default items m.next x r less ∙ (ap (λ (xs : List Item). slice_index_or xs m.next r) (sym c.as_slice-items.ensures.value) ∙ (sym c.index-items-self.is ∙ (sym c.in_ok-item.ensures ∙ same))) in
    let h = list_gives m.lane items m.next m.failed past p x c.requires less item s'.0 in
    rw c.if-self.false ((h.0, s.1), h.1, h.2)

pub returns-clause-gives : goal.returns-clause-gives
returns-clause-gives c x is past s goes =
    let m = c.args.self.now in
    let items = m.items.items in
    let p = c.args._port in
    let s' = rw (c.if-self.false, c.if-not-self.false) at s in
    let over : length items ≤ m.next = subst (λ (xs : List Item). length xs ≤ m.next) c.as_slice-items.ensures.value c.if-self-items.false in
    let same : End ≡ x = cc (is) in
    let h = subst (λ (y : Item). Lists m.lane items m.next true false m.failed (gave_item past p y) × ((stream_at past.gave p).mark ≡ still_open) × LiesBelow (with_item (stream_at past.gave p) y) (stream_at (due past) p)) same
    (list_ends m.lane items m.next m.failed past p c.requires over s'.0) in
    ((h.0, s.1), h.1, h.2)
