use Rattle.std.proofs.Common.{◌≡◌, ◌≤◌, ◌*◌, ◌∙◌, ◌∷◌, [], ℕ, List, Ok, get_or, length, take, sym, ap, subst, inl, arith}
use Rattle.ff_frame.specs.declared.head.StreamHead.{StreamHead}
use Rattle.ff_concat.specs.Arguments.{streams_of}
use Rattle.ff_concat.specs.ConcatOptions.{AreAlike, AreJoined}
use Rattle.ff_concat.specs.laws.Tracks.{concat_view}
use Rattle.ff_concat.proofs.Configuring.{take_one, take_two, made_of, one_stream_of}
use Rattle.ff_concat.proofs.concat.Concat.of_heads.Goals as goal

long : (l n w : ℕ) → l ≡ n * w → 2 ≤ n → w ≡ 2 → 2 ≤ l
long l n w e le f = let g : l ≡ n * 2 = e ∙ ap (λ (k : ℕ). n * k) f in omega (arith, g, le)

some : (l n w : ℕ) → l ≡ n * w → 2 ≤ n → w ≡ 1 → 1 ≤ l
some l n w e le f = let g : l ≡ n * 1 = e ∙ ap (λ (k : ℕ). n * k) f in omega (arith, g, le)

pub returns-then-width-eq2-clause-made : goal.returns-then-width-eq2-clause-made
returns-then-width-eq2-clause-made c =
    let a = c.args.asked.now in
    let hs = c.args.heads.now in
    let w : streams_of a ≡ 2 = sym c.streams-width.ensures.is ∙ c.if-width-eq2.true in
    let h = c.index-heads-0.result in
    let g = c.index-heads-1.result in
    let le = long (length hs) a.segments (streams_of a) c.requires.count c.requires.some w in
    let both : take (streams_of a) hs ≡ h ∷ g ∷ [] = ap (λ (k : ℕ). take k hs) w ∙ (take_two hs h g le
    ∙ (ap (λ (x : StreamHead). x ∷ get_or hs 1 g ∷ []) (sym c.index-heads-0.is) ∙ ap (λ (x : StreamHead). h ∷ x ∷ []) (sym c.index-heads-1.is))) in
    made_of (AreJoined a hs) (h ∷ g ∷ []) a.segments
    (inl (subst (λ (k : ℕ). AreAlike k hs) c.streams-width.ensures.is (c.are_alike.ensures.same c.if-not-are_alike.false), ap (λ (xs : List StreamHead). Ok (xs, a.segments)) (sym both)))
    (λ r. concat_view r.0) (λ r. r.1.items) c.two_streams.result c.two_streams.ensures.view c.two_streams.ensures.heads

pub returns-else-width-eq2-clause-made : goal.returns-else-width-eq2-clause-made
returns-else-width-eq2-clause-made c =
    let a = c.args.asked.now in
    let hs = c.args.heads.now in
    let w : streams_of a ≡ 1 = one_stream_of a.video a.audio c.requires.kinds (λ e. c.if-width-eq2.false (c.streams-width.ensures.is ∙ e)) in
    let h = c.index-heads-0-else-width-eq2.result in
    let le = some (length hs) a.segments (streams_of a) c.requires.count c.requires.some w in
    let one : take (streams_of a) hs ≡ h ∷ [] = ap (λ (k : ℕ). take k hs) w ∙ (take_one hs h le ∙ ap (λ (x : StreamHead). x ∷ []) (sym c.index-heads-0-else-width-eq2.is)) in
    made_of (AreJoined a hs) (h ∷ []) a.segments
    (inl (subst (λ (k : ℕ). AreAlike k hs) c.streams-width.ensures.is (c.are_alike.ensures.same c.if-not-are_alike.false), ap (λ (xs : List StreamHead). Ok (xs, a.segments)) (sym one)))
    (λ r. concat_view r.0) (λ r. r.1.items) c.one_stream.result c.one_stream.ensures.view c.one_stream.ensures.heads
