use Rattle.std.proofs.Common.{◌≡◌, ◌<◌, ◌≤◌, ℕ, List, length, slice_index_or, sym, ◌∙◌, ap, subst, arith, inl, replicate, length-append, ◌++◌, ◌∷◌, []}
use Rattle.std.proofs.lemmas.List.{get_or_default, length-replicate}
use Rattle.ff_stream.specs.declared.item.Item.{Item}
use Rattle.ff_stream.specs.declared.item.Item.TheVariants.{End}
use Rattle.ff_stream.specs.declared.item.Lane.{Lane}
use Rattle.ff_test_machines.specs.declared.relay.Out.{Out}
use Rattle.ff_test_machines.specs.Relays.{out_of, with_end}
use Rattle.ff_test_machines.proofs.RelaySteps.{gives_at, none_at, with_end_front, with_end_length, end_at, no_end, its_end}
use Rattle.ff_test_machines.proofs.relay.RelayMachine.pull.Goals as goal

there : (outs : List Out) (l : Lane) (p : ℕ) → p < length (replicate (length outs) l) → p < length outs
there outs l p lt = subst (λ (n : ℕ). p < n) (simp length-replicate) lt

read : (outs : List Out) (p : ℕ) (o : Out) → p < length outs → o ≡ slice_index_or outs p o → o ≡ out_of outs p
read outs p o lt is = is ∙ get_or_default outs p o _ lt

pub returns-then-at-count-clause-gives : goal.returns-then-at-count-clause-gives
returns-then-at-count-clause-gives c x is past s goes =
    let m = c.args.self.now in
    let outs = m.outs.items in
    let p = c.args.port in
    let given = m.given.items in
    let lt : p < length outs = there outs m.lane p c.requires in
    let old : c.index.result.now ≡ out_of outs p = read outs p c.index.result.now lt c.index.ensures in
    let old2 : c.index_mut-out.result.now ≡ out_of outs p = read outs p c.index_mut-out.result.now lt c.index_mut-out.ensures.value in
    let at : c.index.result.now.next ≡ (out_of outs p).next = ap (λ (o : Out). o.next) old in
    let same : c.in_ok-item.item ≡ x = cc (is) in
    let less : (out_of outs p).next < length given = subst (λ (n : ℕ). n < length given) at (subst (λ (xs : List Item). c.index.result.now.next < length xs) c.as_slice-given.ensures.value c.if-at-count.true) in
    let r : Item = c.index-given-at.result in
    let item : slice_index_or given (out_of outs p).next x ≡ x =
    get_or_default given (out_of outs p).next x r less ∙ (ap (λ (n : ℕ). slice_index_or given n r) (sym at) ∙ (ap (λ (xs : List Item). slice_index_or xs c.index.result.now.next r) (sym c.as_slice-given.ensures.value) ∙ (sym c.index-given-at.is ∙ (sym c.in_ok-item.ensures ∙ same)))) in
    rw (at, ap (λ (o : Out). o.stopped) old2)
    (gives_at m.lane m.limit m.left m.closed given outs past s p x lt (let k = with_end_length given m.left in omega (arith, less, k)) (with_end_front given m.left (out_of outs p).next x less ∙ item))

pub returns-then-self-gt0-clause-none_due : goal.returns-then-self-gt0-clause-none_due
returns-then-self-gt0-clause-none_due c is fine past s goes =
    let m = c.args.self.now in
    let outs = m.outs.items in
    let p = c.args.port in
    let given = m.given.items in
    let lt : p < length outs = there outs m.lane p c.requires in
    let old : c.index.result.now ≡ out_of outs p = read outs p c.index.result.now lt c.index.ensures in
    let le : length given ≤ (out_of outs p).next = subst (λ (o : Out). length given ≤ o.next) old (subst (λ (xs : List Item). length xs ≤ c.index.result.now.next) c.as_slice-given.ensures.value c.if-at-count.false) in
    inl (none_at m.lane m.limit m.left m.closed given outs past s p lt (subst (λ (xs : List Item). length xs ≤ (out_of outs p).next) (sym (no_end given m.left c.if-self-gt0.true)) le))

pub returns-then-at-count-2-clause-none_due : goal.returns-then-at-count-2-clause-none_due
returns-then-at-count-2-clause-none_due c is fine past s goes =
    let m = c.args.self.now in
    let outs = m.outs.items in
    let p = c.args.port in
    let given = m.given.items in
    let lt : p < length outs = there outs m.lane p c.requires in
    let old : c.index.result.now ≡ out_of outs p = read outs p c.index.result.now lt c.index.ensures in
    let zero : m.left ≡ 0 = omega (arith, c.if-self-gt0.false) in
    let more : length given < (out_of outs p).next = subst (λ (o : Out). length given < o.next) old (subst (λ (xs : List Item). length xs < c.index.result.now.next) c.as_slice-given.ensures.value c.if-at-count-2.true) in
    inl (none_at m.lane m.limit m.left m.closed given outs past s p lt (subst (λ (xs : List Item). length xs ≤ (out_of outs p).next) (sym (its_end given m.left zero)) (omega (arith, more, length-append given (End ∷ [])))))

pub returns-clause-gives : goal.returns-clause-gives
returns-clause-gives c x is past s goes =
    let m = c.args.self.now in
    let outs = m.outs.items in
    let p = c.args.port in
    let given = m.given.items in
    let lt : p < length outs = there outs m.lane p c.requires in
    let old : c.index.result.now ≡ out_of outs p = read outs p c.index.result.now lt c.index.ensures in
    let old2 : c.index_mut-out-2.result.now ≡ out_of outs p = read outs p c.index_mut-out-2.result.now lt c.index_mut-out-2.ensures.value in
    let at : c.index.result.now.next ≡ (out_of outs p).next = ap (λ (o : Out). o.next) old in
    let same : End ≡ x = cc (is) in
    let zero : m.left ≡ 0 = omega (arith, c.if-self-gt0.false) in
    let low : length given ≤ c.index.result.now.next = subst (λ (xs : List Item). length xs ≤ c.index.result.now.next) c.as_slice-given.ensures.value c.if-at-count.false in
    let high : c.index.result.now.next ≤ length given = subst (λ (xs : List Item). c.index.result.now.next ≤ length xs) c.as_slice-given.ensures.value c.if-at-count-2.false in
    let here : (out_of outs p).next ≡ length given = sym at ∙ omega (arith, low, high) in
    let ends = its_end given m.left zero in
    let less : (out_of outs p).next < length (with_end given m.left) = subst (λ (xs : List Item). (out_of outs p).next < length xs) (sym ends) (omega (arith, here, length-append given (End ∷ []))) in
    let item : slice_index_or (with_end given m.left) (out_of outs p).next x ≡ x = ap (λ (xs : List Item). slice_index_or xs (out_of outs p).next x) ends ∙ (ap (λ (n : ℕ). slice_index_or (given ++ End ∷ []) n x) here ∙ (end_at given End x ∙ same)) in
    rw (at, ap (λ (o : Out). o.stopped) old2) (gives_at m.lane m.limit m.left m.closed given outs past s p x lt less item)
