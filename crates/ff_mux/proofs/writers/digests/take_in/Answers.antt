use Rattle.std.proofs.Common.{◌++◌, ℕ, List, subst, arith}
use Rattle.std.proofs.lemmas.List.{length-set}
use Rattle.ff_mux.specs.laws.Hashers.{HasTaken}
use Rattle.ff_mux.proofs.StreamDigests.{kind_set, touched, untouched}
use Rattle.ff_mux.proofs.writers.digests.take_in.Goals as goal

pub returns-then-at-count-clause-taken : goal.returns-then-at-count-clause-taken
returns-then-at-count-clause-taken c = λ packets t.
    untouched c.args.hashers.now.items 0 packets c.args.stream c.args.packet.now
    (λ q le lt clash. omega (arith, lt, clash, c.if-at-count.true, c.len-count.ensures, c.args.hashers.now.ok.0)) t

pub returns-clause-len : goal.returns-clause-len
returns-clause-len c = length-set c.args.hashers.now.items c.args.stream c.update.new.self

pub returns-clause-kinds : goal.returns-clause-kinds
returns-clause-kinds c = λ kind a.
    kind_set kind c.args.hashers.now.items c.args.stream c.index_mut.result.now c.update.new.self
    (omega (arith, c.if-at-count.false, c.len-count.ensures, c.args.hashers.now.ok.0)) c.index_mut.ensures.value c.update.ensures.kind a

pub returns-clause-taken : goal.returns-clause-taken
returns-clause-taken c = λ packets t.
    touched c.args.hashers.now.items c.args.stream 0 packets c.args.stream c.args.packet.now c.index_mut.result.now c.update.new.self
    (omega (arith, c.if-at-count.false, c.len-count.ensures, c.args.hashers.now.ok.0)) (omega arith) c.index_mut.ensures.value
    (λ all h. subst (λ (xs : List ℕ). HasTaken c.update.new.self (all ++ xs)) c.as_slice.ensures (c.update.ensures.taken all h)) t
