-- Which streams pads took, and the first that passes a test.
use Rattle.std.proofs.Common.{◌≡◌, ℕ, ◌+◌, ◌<◌, ◌||◌, Bool, true, false, List, [], ◌∷◌, ◌++◌, drop, length, get_or, refl, sym, ap, ◌∙◌, arith}
use Rattle.std.proofs.lemmas.List.Folds.{find-append}
use Rattle.std.specs.Prelude.{Option}
use Rattle.std.specs.Option.{option_or}
use Rattle.std.specs.List.{find}
use Rattle.std.specs.declared.alloc.Global.{Global}
use Rattle.std.specs.declared.vec.Vec.{Vec}
use Rattle.ff_frame.specs.declared.head.StreamHead.{StreamHead}
use Rattle.ff_words.specs.declared.maps.streams.Stream.{Stream}
use Rattle.ff_words.specs.maps.Choice.{lists, streams_of, streams_from}
use Rattle.ff_plan_layout.specs.Layout.{same_ref}
use Rattle.ff_plan_layout.specs.Pads.{Want, is_taken}
use Rattle.ff_plan_layout.specs.declared.layout.Want.TheVariants.{KnownStream, Labelled, Nothing}
use Rattle.ff_plan_layout.specs.laws.Rows.{flat}
use Rattle.ff_stream.specs.edges.Ports.{tally}
use Rattle.ff_plan_layout.proofs.Counts.{tally_joined}
use Rattle.ff_plan_layout.proofs.Fronts.{drop_next}

or_step : (a b c d : Bool) → b ≡ (c || d) → (a || b) ≡ ((a || c) || d)
or_step true b c d e = refl
or_step false b c d e = e

pub taken_append : (xs ys : List Want) (k : Stream) → is_taken (xs ++ ys) k ≡ (is_taken xs k || is_taken ys k)
taken_append [] ys k = refl
taken_append (KnownStream j ∷ xs) ys k = or_step (same_ref j.at k.at) (is_taken (xs ++ ys) k) (is_taken xs k) (is_taken ys k) (taken_append xs ys k)
taken_append (Labelled g l ∷ xs) ys k = taken_append xs ys k
taken_append (Nothing ∷ xs) ys k = taken_append xs ys k

-- in the next row, or behind it
pub rows_next : (rows : List (List Want)) (n : ℕ) (row : List Want) (k : Stream) (b whole : Bool) → n < length rows → row ≡ get_or rows n row → is_taken row k ≡ b
    → is_taken (flat (drop n rows)) k ≡ whole → (b || is_taken (flat (drop (n + 1) rows)) k) ≡ whole
rows_next rows n row k b whole lt at here w =
    let rest = drop (n + 1) rows in
    ap (λ (x : Bool). x || is_taken (flat rest) k) (sym here) ∙ (sym (taken_append row (flat rest) k)
    ∙ (ap (λ (r : List Want). is_taken (r ++ flat rest) k) at ∙ (ap (λ (rs : List (List Want)). is_taken (flat rs) k) (sym (drop_next rows n row lt)) ∙ w)))

-- how many pass a test, with the next row
pub rows_counted : (p : Want → Bool) (rows : List (List Want)) (n : ℕ) (row : List Want) (before here whole : ℕ) → n < length rows → row ≡ get_or rows n row → here ≡ tally p row
    → before + tally p (flat (drop n rows)) ≡ whole → (before + here) + tally p (flat (drop (n + 1) rows)) ≡ whole
rows_counted p rows n row before here whole lt at is w =
    let rest = flat (drop (n + 1) rows) in
    let next : tally p (flat (drop n rows)) ≡ tally p (row ++ rest) =
    ap (λ (rs : List (List Want)). tally p (flat rs)) (drop_next rows n row lt) ∙ ap (λ (r : List Want). tally p (r ++ rest)) (sym at) in
    let both = tally_joined p row rest in
    omega (arith, is, w, next, both)

-- the first of an input's streams, else of those behind
pub streams_next : (p : Stream → Bool) (heads : List (Vec StreamHead Global)) (n : ℕ) (x : Vec StreamHead Global) (hs : List StreamHead) (found whole : Option Stream) → n < length heads → x ≡ get_or heads n x
    → hs ≡ x.items → found ≡ find p (streams_of n hs)
    → find p (streams_from n (lists (drop n heads))) ≡ whole → option_or found (find p (streams_from (n + 1) (lists (drop (n + 1) heads)))) ≡ whole
streams_next p heads n x hs found whole lt at same here w =
    let rest = streams_from (n + 1) (lists (drop (n + 1) heads)) in
    ap (λ (o : Option Stream). option_or o (find p rest)) here ∙ (sym (find-append p (streams_of n hs) rest)
    ∙ (ap (λ (l : List StreamHead). find p (streams_of n l ++ rest)) same
    ∙ (ap (λ (y : Vec StreamHead Global). find p (streams_of n y.items ++ rest)) at
    ∙ (ap (λ (l : List (Vec StreamHead Global)). find p (streams_from n (lists l))) (sym (drop_next heads n x lt)) ∙ w))))
