use Rattle.std.proofs.Common.{◌≡◌, ◌<◌, ℕ, List, drop, length, [], take, min, ◌++◌, ◌∙◌, ap, sym, subst, arith}
use Rattle.std.specs.Io.KnownBytes.{prepend_known, Consumes}
use Rattle.ff_host.specs.laws.Begun.{still_in}
use Rattle.std.proofs.lemmas.List.{length-drop}
use Rattle.std.proofs.Math.ListN.{drop_of_length-le}
use Rattle.ff_host.proofs.BegunReads.{reads_on, gives_front, from_on}
use Rattle.ff_host.proofs.begun.BegunSource.read.Goals as goal

pub returns-then-self-len-clause-bytes : goal.returns-then-self-len-clause-bytes
returns-then-self-len-clause-bytes g c =
    let b = c.args.self.now in
    let S = g.S.Source in
    let gone : drop b.at b.bytes.items ≡ [] = drop_of_length-le b.bytes.items (omega (arith, c.if-self-len.true, c.len.ensures)) in
    reads_on (drop b.at b.bytes.items) (S.left b.src) (S.left c.read.new.self) c.read.result c.read.new.buf gone c.read.ensures.bytes

pub returns-clause-bytes : goal.returns-clause-bytes
returns-clause-bytes g c =
    let b = c.args.self.now in
    let S = g.S.Source in
    let copied = c.copy_front-count in
    let n = copied.result in
    let xs = drop b.at b.bytes.items in
    let front = from_on b.at b.bytes.items c.deref.result.now c.deref.ensures.value in
    let count : n ≡ min (length c.args.buf.now) (length xs) = copied.ensures.count ∙ ap (λ (ys : List ℕ). min (length c.args.buf.now) (length ys)) front in
    let given : copied.new.buf ≡ take n xs ++ drop n c.args.buf.now = copied.ensures.given ∙ ap (λ (ys : List ℕ). take n ys ++ drop n c.args.buf.now) front in
    let more : 0 < length xs = omega (arith, length-drop b.at b.bytes.items, b.inside, c.if-self-len.false, c.len.ensures) in
    let new = c.pass.new.self in
    let front_given = gives_front (S.left b.src) b.bytes.items b.at n c.args.buf.now copied.new.buf count given in
    let P : List ℕ → Type 0 = λ rest. Consumes (prepend_known xs (S.left b.src)) (prepend_known rest (S.left b.src)) (take n copied.new.buf) in
    let Q : _ → Type 0 = λ s. Consumes (prepend_known xs (S.left b.src)) (prepend_known (still_in new.bytes.items new.at) (S.left s)) (take n copied.new.buf) in
    (subst Q (sym c.pass.ensures.source.0) (subst P (sym c.pass.ensures.still_in) front_given), λ z lt. absurd (omega (arith, z, count, more, c.requires)))
