use Rattle.std.proofs.Common.{◌≡◌, ◌+◌, ◌<◌, ◌++◌, [], ◌∷◌, ◌∙◌, ℕ, List, ap, sym, subst, arith, drop, length, append_assoc, append-nil, codes, decimal}
use Rattle.ff_lists.specs.Text.{line}
use Rattle.std.proofs.lemmas.List.{drop_all, drop_more}
use Rattle.ff_format.specs.Layouts.{bytes_in}
use Rattle.ff_frame.specs.declared.hash.HashKind.{HashKind}
use Rattle.ff_frame.specs.declared.head.StreamHead.{StreamHead}
use Rattle.ff_mux.specs.DigestTexts.{letter, named_digest, packets_of, stream_line, stream_lines_from}
use Rattle.ff_mux.specs.laws.Hashers.{hasher_kind, HasTaken}
use Rattle.ff_mux.proofs.StreamDigests.{kind_at, taken_at}
use Rattle.ff_mux.proofs.writers.digests.StreamsWriterWriter.tail.Goals as goal

abbrev line_of : ℕ → StreamHead → HashKind → List ℕ → List ℕ
line_of i head kind bytes = line (decimal i ++ codes "," ++ letter head ++ codes "," ++ named_digest kind bytes)

pub streams-preserved : goal.streams-preserved
unfolding stream_line
streams-preserved c = λ ps taken.
    let w = c.args.self.now in
    let i = c.streams.i in
    let heads = w.heads.items in
    let hashers = w.hashers.items in
    let kind = w.kind in
    let head = c.index.result.now in
    let hasher = c.index-in-streams.result.now in
    let text = c.streams.text.items in
    let there : i < length heads = omega (arith, c.streams-test.true, c.len-i-end.ensures, w.heads.ok.0) in
    let inside : i < length hashers = omega (arith, there, w.same) in
    let all = bytes_in (packets_of i ps) in
    let next : drop i heads ≡ head ∷ drop (i + 1) heads = drop_more heads i head there ∙ ap (λ (h : StreamHead). h ∷ drop (i + 1) heads) (sym c.index.ensures) in
    let same : hasher_kind hasher ≡ kind = kind_at kind hashers i hasher inside c.index-in-streams.ensures taken.1 in
    let zero : 0 + i ≡ i = omega arith in
    let took = subst (λ (n : ℕ). HasTaken hasher (bytes_in (packets_of n ps))) zero (taken_at hashers i 0 ps hasher inside c.index-in-streams.ensures taken.0) in
    let pushed = c.in_ok-push_stream_line.ensures all took in
    ap (λ (xs : List ℕ). xs ++ stream_lines_from kind (i + 1) (drop (i + 1) heads) ps) pushed
    ∙ (ap (λ (k : HashKind). (text ++ line_of i head k all) ++ stream_lines_from kind (i + 1) (drop (i + 1) heads) ps) same
    ∙ (append_assoc text (line_of i head kind all) (stream_lines_from kind (i + 1) (drop (i + 1) heads) ps)
    ∙ (ap (λ (hs : List StreamHead). text ++ stream_lines_from kind i hs ps) (sym next)
    ∙ c.streams.invariant ps taken)))

pub returns : goal.returns
returns c = λ ps taken.
    let w = c.args.self.now in
    let i = c.streams.i in
    let heads = w.heads.items in
    let text = c.streams.text.items in
    let none : drop i heads ≡ [] = drop_all i heads (omega (arith, c.streams-test.false, c.len-i-end.ensures, w.heads.ok.0)) in
    sym (append-nil text)
    ∙ (ap (λ (hs : List StreamHead). text ++ stream_lines_from w.kind i hs ps) (sym none) ∙ c.streams.invariant ps taken)
