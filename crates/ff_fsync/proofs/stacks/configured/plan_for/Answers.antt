use Rattle.std.proofs.Common.{◌≡◌, ◌∙◌, None, Some, true, ap, sym, subst, refl}
use Rattle.ff_frame.specs.Video.{IsSide}
use Rattle.ff_frame.specs.declared.head.StreamHead.{StreamHead}
use Rattle.ff_stream.specs.Times.{with_base}
use Rattle.ff_fsync.specs.declared.stacks.shape.Direction.{Direction}
use Rattle.ff_fsync.specs.declared.stacks.shape.Shape.{Shape}
use Rattle.ff_fsync.specs.stacks.Heads.{total, has_size, with_length}
use Rattle.ff_fsync.specs.stacks.Shapes.{shape_of}
use Rattle.ff_fsync.specs.stacks.Stacks.{StackOf}
use Rattle.ff_fsync.proofs.StacksLemmas.Planning.{common_so, no_base, not_alike, no_size, can_stack, has_size_as, sized, shape_direction}
use Rattle.ff_fsync.proofs.stacks.configured.plan_for.Goals as goal

pub returns-in_default : goal.returns-in_default
returns-in_default c =
    no_base c.args.direction c.args.first.now c.args.heads.now c.args.shortest (common_so c.args.heads.now c.args.bases.now None c.requires.bases c.in_default.ensures)

pub returns-then-not-all_alike : goal.returns-then-not-all_alike
returns-then-not-all_alike c = not_alike c.args.direction c.args.first.now c.args.heads.now c.args.shortest (sym c.all_alike.ensures ∙ c.if-not-all_alike.true)

pub returns-then-not-has_size : goal.returns-then-not-has_size
returns-then-not-has_size c =
    no_size c.args.direction c.args.first.now c.args.heads.now c.args.shortest c.in-Some.base
    (common_so c.args.heads.now c.args.bases.now (Some c.in-Some.base) c.requires.bases c.in-Some.ensures)
    (sym c.all_alike.ensures ∙ c.if-not-all_alike.false) (sym c.has_size.ensures ∙ c.if-not-has_size.true)

pub invariant_of-result-clause-columns : goal.invariant_of-result-clause-columns
invariant_of-result-clause-columns c =
    let d = c.args.direction in
    let h = c.args.first.now in
    let hs = c.args.heads.now in
    let base = c.in-Some.base in
    let size : has_size d (with_base base h) hs ≡ true = has_size_as d base h hs ∙ (sym c.has_size.ensures ∙ c.if-not-has_size.false) in
    let head : c.with_length-head.result ≡ with_length d (total d hs) (with_base base h) = rw (c.with_length-head.ensures, c.total-length.ensures, c.with_base.ensures) refl in
    let shape : c.shape_for-shape.result ≡ shape_of d (with_length d (total d hs) (with_base base h)) = c.shape_for-shape.ensures ∙ ap (shape_of d) head in
    subst (λ (s : Shape). IsSide s.width) (sym shape) (sized d (with_base base h) hs size).0

pub invariant_of-result-clause-rows : goal.invariant_of-result-clause-rows
invariant_of-result-clause-rows c =
    let d = c.args.direction in
    let h = c.args.first.now in
    let hs = c.args.heads.now in
    let base = c.in-Some.base in
    let size : has_size d (with_base base h) hs ≡ true = has_size_as d base h hs ∙ (sym c.has_size.ensures ∙ c.if-not-has_size.false) in
    let head : c.with_length-head.result ≡ with_length d (total d hs) (with_base base h) = rw (c.with_length-head.ensures, c.total-length.ensures, c.with_base.ensures) refl in
    let shape : c.shape_for-shape.result ≡ shape_of d (with_length d (total d hs) (with_base base h)) = c.shape_for-shape.ensures ∙ ap (shape_of d) head in
    subst (λ (s : Shape). IsSide s.height) (sym shape) (sized d (with_base base h) hs size).1

pub returns : goal.returns
returns c =
    let d = c.args.direction in
    let h = c.args.first.now in
    let hs = c.args.heads.now in
    let base = c.in-Some.base in
    let of : Direction → StreamHead → StackOf = λ x k. record { direction = x; heads = hs; shortest = c.args.shortest; head = k } in
    let head : c.with_length-head.result ≡ with_length d (total d hs) (with_base base h) = rw (c.with_length-head.ensures, c.total-length.ensures, c.with_base.ensures) refl in
    let way : c.shape_for-shape.result.direction ≡ d = ap (λ (s : Shape). s.direction) c.shape_for-shape.ensures ∙ shape_direction d c.with_length-head.result in
    let same : of c.shape_for-shape.result.direction c.with_length-head.result ≡ of d (with_length d (total d hs) (with_base base h)) =
    ap (λ (x : Direction). of x c.with_length-head.result) way ∙ ap (λ (k : StreamHead). of d k) head in
    can_stack d h hs c.args.shortest base (common_so hs c.args.bases.now (Some base) c.requires.bases c.in-Some.ensures)
    (sym c.all_alike.ensures ∙ c.if-not-all_alike.false) (of c.shape_for-shape.result.direction c.with_length-head.result)
    (sym c.has_size.ensures ∙ c.if-not-has_size.false) same
