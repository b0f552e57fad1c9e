-- The machine of `join` to which nothing came.
use Rattle.std.proofs.Common.{◌≡◌, ℕ, zero, suc, ℤ, ◌+◌, ◌-◌, ◌<◌, Bool, true, false, None, List, [], ◌∷◌, ◌++◌, length, map, take, refl, ap, sym}
use Rattle.std.proofs.Common.{◌∙◌, arith, get_or}
use Rattle.std.proofs.Math.Seq.{take-suc}
use Rattle.ff_frame.specs.declared.head.StreamHead.{StreamHead}
use Rattle.ff_stream.specs.declared.item.Item.{Item}
use Rattle.ff_stream.specs.declared.item.Lane.{Lane}
use Rattle.ff_stream.specs.declared.item.Lane.TheVariants.{Frames}
use Rattle.ff_stream.specs.Within.{passes_limits}
use Rattle.ff_filter.specs.declared.after.After.TheVariants.{More}
use Rattle.ff_filter.specs.Joins.{Ports}
use Rattle.ff_filter.specs.laws.Limits.{limited, limited_is}
use Rattle.ff_filter.specs.Views.{View}
use Rattle.ff_joins.specs.declared.sound_inlet.SoundInlet.{SoundInlet}
use Rattle.ff_joins.specs.Joined.{Row, joined_rows, first_start, sound_frame}
use Rattle.ff_joins.specs.JoinOptions.{rate_of, bits_of, channels_of}
use Rattle.ff_joins.specs.laws.Lots.{Lot, lots, lot_of, lane_of, last_port, all_come, frame_on, lots_view, no_rows, rows_kept, has_started}
use Rattle.ff_joins.specs.JoinView.{channels_at, join_view, AreEmpty}

abbrev empty_lot : ℕ → Lot
empty_lot c = record { channels = c; count = 0; samples = []; after = More }

-- one input more
pub long_more : {A : Type 0} (xs : List A) (x : A) → length (xs ++ x ∷ []) ≡ length xs + 1
long_more [] x = omega arith
long_more (y ∷ ys) x = let r = long_more ys x in omega (arith, r)

map_more : {A B : Type 0} (f : A → B) (xs : List A) (x : A) → map f (xs ++ x ∷ []) ≡ map f xs ++ f x ∷ []
map_more f [] x = refl
map_more f (y ∷ ys) x = ap (λ (zs : List _). f y ∷ zs) (map_more f ys x)

lots_more : (hs : List StreamHead) (is : List SoundInlet) (h : StreamHead) (i : SoundInlet) → length is ≡ length hs → lot_of i ≡ empty_lot (channels_of h)
    → ((p : ℕ) → lots is p ≡ empty_lot (channels_at hs p)) → (p : ℕ) → lots (is ++ i ∷ []) p ≡ empty_lot (channels_at (hs ++ h ∷ []) p)
lots_more [] [] h i l e each zero = e
lots_more [] [] h i l e each (suc p) = refl
lots_more [] (j ∷ is) h i l e each p = absurd (omega (arith, l))
lots_more (g ∷ hs) [] h i l e each p = absurd (omega (arith, l))
lots_more (g ∷ hs) (j ∷ is) h i l e each zero = each 0
lots_more (g ∷ hs) (j ∷ is) h i l e each (suc p) = lots_more hs is h i (omega (arith, l)) e (λ q. each (suc q)) p

pub empty_none : AreEmpty [] []
empty_none = (refl, refl, λ p. refl)

pub empty_more : (hs : List StreamHead) (is : List SoundInlet) (h : StreamHead) (i : SoundInlet) → AreEmpty hs is → i.head ≡ h → lot_of i ≡ empty_lot (channels_of h)
    → AreEmpty (hs ++ h ∷ []) (is ++ i ∷ [])
empty_more hs is h i a head e = (
  map_more lane_of is i ∙ (ap (λ (ls : List Lane). ls ++ lane_of i ∷ []) a.0 ∙ (ap (λ (g : StreamHead). map Frames hs ++ Frames g ∷ []) head ∙ sym
      (map_more Frames hs h))),
  (let x = long_more is i in let y = long_more hs h in let z = a.1 in omega (arith, x, y, z)),
  lots_more hs is h i a.1 e a.2,
)

-- the heads up to the next one
pub heads_next : (hs : List StreamHead) (p : ℕ) (h : StreamHead) → p < length hs → h ≡ get_or hs p h → take (p + 1) hs ≡ take p hs ++ h ∷ []
heads_next hs p h lt is = let n : p + 1 ≡ suc p = omega arith in ap (λ (k : ℕ). take k hs) n ∙ (take-suc hs p h lt ∙ ap (λ (g : StreamHead). take p hs ++ g ∷ [])
    (sym is))

number_same : (head : StreamHead) (z : ℤ) → (λ (i : ℕ) (rows : List Row). frame_on head 0 z i rows) ≡ sound_frame z (rate_of head) (bits_of head) (channels_of head)
number_same head z j i rows = sound_frame z (rate_of head) (bits_of head) (channels_of head) (e j) rows
  where
    e : 0 + i ≡ i
    e = omega arith

pub started_empty : (hs : List StreamHead) (is : List SoundInlet) → AreEmpty hs is → has_started None (lots is 0) ≡ true
started_empty hs is a = ap (λ (l : Lot). no_rows (rows_kept l)) (a.2 0)

-- the streams side by side, within the limits
pub join_starts : (head : StreamHead) (hs : List StreamHead) (is : List SoundInlet) → AreEmpty hs is
    → lots_view (map lane_of is) head (last_port is) None 0 (lots is) false false More ≡ join_view hs head
join_starts head hs is a =
    let passes = passes_limits (Frames head) in
    let n = length hs - 1 in
    let seen : List Lane → (Ports → Ports) → (ℕ → Bool)
    → View = λ lanes rest shut. record { ins = lanes; outs = Frames head ∷ []; rest = rest; shut = shut; ended = λ q. false; stopped = λ q. false } in
    let empty : ℕ → Lot = λ p. empty_lot (channels_at hs p) in
    ap (λ (lanes : List Lane). lots_view lanes head (last_port is) None 0 (lots is) false false More) a.0
    ∙ (ap (λ (k : ℕ). lots_view (map Frames hs) head (k - 1) None 0 (lots is) false false More) a.1
    ∙ (ap (λ (ls : ℕ → Lot). lots_view (map Frames hs) head n None 0 ls false false More) (λ i p. a.2 p i)
    ∙ ap (λ (rest : Ports → Ports). seen (map Frames hs) rest (λ p. false)) (λ i ext q.
    (ap (λ (make : ℕ → List Row → Item). limited passes 0 (joined_rows n make (all_come empty ext))) (number_same head (first_start (ext 0).items))
    ∙ limited_is passes (joined_rows n (sound_frame (first_start (ext 0).items) (rate_of head) (bits_of head) (channels_of head)) (all_come empty ext))) i)))
