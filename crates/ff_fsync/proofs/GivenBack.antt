-- Pictures are moved out of their inputs and put back.
use Rattle.std.specs.Prelude.{◌≡◌, ℕ, zero, suc, ◌<◌, ◌≤◌, true, List, [], ◌∷◌, ◌++◌, map, length, refl}
use Rattle.std.proofs.Common.{ap, sym, ◌∙◌, subst, arith, get_or, set, append-nil, append_assoc}
use Rattle.ff_frame.specs.declared.video.VFrame.{VFrame}
use Rattle.ff_stream.specs.declared.item.Item.{Item}
use Rattle.ff_stream.specs.declared.item.Item.TheVariants.{Video}
use Rattle.ff_stream.specs.declared.item.Lane.{Lane}
use Rattle.ff_stream.specs.declared.item.Lane.TheVariants.{Frames}
use Rattle.ff_fsync.specs.declared.input.Input.{Input}
use Rattle.ff_fsync.specs.Ranges.{list_to}
use Rattle.ff_fsync.specs.Sides.{Side, side_at, fills_to, Sound}
use Rattle.ff_fsync.specs.laws.Inputs.{items_of, last_by, IsLed, led_by, given_back, all_back}
use Rattle.ff_fsync.specs.laws.Syncs.{side_of, sides_of, AreBegun}
use Rattle.ff_fsync.proofs.Finding.{side_there, long_sides}

pub long_back : (fs : List VFrame) (ss : List Side) → length (all_back fs ss) ≡ length ss
long_back [] ss = refl
long_back (f ∷ fs) [] = refl
long_back (f ∷ fs) (s ∷ ss) = let e = long_back fs ss in omega (arith, e)

pub any_lane : (lane other : Lane) (ss : List Side) (p : ℕ) → p < length ss → side_at lane ss p ≡ side_at other ss p
any_lane lane other [] p lt = absurd (omega (arith, lt))
any_lane lane other (s ∷ ss) zero lt = refl
any_lane lane other (s ∷ ss) (suc p) lt = any_lane lane other ss p (omega (arith, lt))

-- behind the pictures the inputs are as they were
pub back_behind : (lane : Lane) (fs : List VFrame) (ss : List Side) (q : ℕ) → length fs ≤ q → side_at lane (all_back fs ss) q ≡ side_at lane ss q
back_behind lane [] ss q le = refl
back_behind lane (f ∷ fs) [] q le = refl
back_behind lane (f ∷ fs) (s ∷ ss) zero le = absurd (omega (arith, le))
back_behind lane (f ∷ fs) (s ∷ ss) (suc q) le = back_behind lane fs ss q (omega (arith, le))

back_last : (lane : Lane) (fs : List VFrame) (ss : List Side) (f : VFrame) → length fs < length ss → side_at lane (all_back (fs ++ f ∷ []) ss) (length fs) ≡ given_back f (side_at lane ss (length fs))
back_last lane [] [] f lt = absurd (omega (arith, lt))
back_last lane [] (s ∷ ss) f lt = refl
back_last lane (g ∷ fs) [] f lt = absurd (omega (arith, lt))
back_last lane (g ∷ fs) (s ∷ ss) f lt = back_last lane fs ss f (omega (arith, lt))

-- one more is moved out
pub back_more : (fs : List VFrame) (is : List Input) (p : ℕ) (i j : Input) (f : VFrame) → length fs ≡ p → p < length is → j ≡ get_or is p j → given_back f (side_of i) ≡ side_of j → all_back (fs ++ f ∷ []) (sides_of (set is p i)) ≡ all_back fs (sides_of is)
back_more [] [] p i j f l lt e same = absurd (omega (arith, lt))
back_more [] (k ∷ is) zero i j f l lt e same = ap (λ (s : Side). s ∷ sides_of is) (same ∙ ap (λ (x : Input). side_of x) e)
back_more [] (k ∷ is) (suc p) i j f l lt e same = absurd (omega (arith, l))
back_more (g ∷ fs) [] p i j f l lt e same = absurd (omega (arith, lt))
back_more (g ∷ fs) (k ∷ is) zero i j f l lt e same = absurd (omega (arith, l))
back_more (g ∷ fs) (k ∷ is) (suc p) i j f l lt e same = ap (λ (ss : List Side). given_back g (side_of k) ∷ ss) (back_more fs is p i j f (omega (arith, l)) (omega (arith, lt)) e same)

-- one is put back
pub back_less : (fs : List VFrame) (is : List Input) (p : ℕ) (i j : Input) (f : VFrame) → length fs ≡ p → p < length is → j ≡ get_or is p j → side_of i ≡ given_back f (side_of j) → all_back fs (sides_of (set is p i)) ≡ all_back (fs ++ f ∷ []) (sides_of is)
back_less [] [] p i j f l lt e same = absurd (omega (arith, lt))
back_less [] (k ∷ is) zero i j f l lt e same = ap (λ (s : Side). s ∷ sides_of is) (same ∙ ap (λ (x : Input). given_back f (side_of x)) e)
back_less [] (k ∷ is) (suc p) i j f l lt e same = absurd (omega (arith, l))
back_less (g ∷ fs) [] p i j f l lt e same = absurd (omega (arith, lt))
back_less (g ∷ fs) (k ∷ is) zero i j f l lt e same = absurd (omega (arith, l))
back_less (g ∷ fs) (k ∷ is) (suc p) i j f l lt e same = ap (λ (ss : List Side). given_back g (side_of k) ∷ ss) (back_less fs is p i j f (omega (arith, l)) (omega (arith, lt)) e same)

some_frames : (fs : List VFrame) → 0 < length (items_of fs) → 0 < length fs
some_frames [] lt = lt
some_frames (f ∷ fs) lt = omega arith

-- the input in hand has a picture
pub begun_there : (old is : List Input) (fs : List VFrame) (p : ℕ) (j : Input) → AreBegun (sides_of old) → all_back fs (sides_of is) ≡ sides_of old → length fs ≡ p → p < length is → j ≡ get_or is p j → 0 < length j.queue.items
begun_there old is fs p j begun same l lt e =
    let lane : Lane = Frames j.head in
    let there : side_at lane (sides_of old) p ≡ side_of j = sym (ap (λ (ss : List Side). side_at lane ss p) same) ∙ (back_behind lane fs (sides_of is) p (omega (arith, l)) ∙ side_there lane is p j lt e) in
    let long = sym (long_back fs (sides_of is)) ∙ ap (λ (ss : List Side). length ss) same in
    let is_long = long_sides is in
    some_frames j.queue.items (subst (λ (s : Side). 0 < length s.waits) there (begun lane p (omega (arith, long, is_long, lt))))

pub fills_there : (is : List Input) (fs gs : List VFrame) (p : ℕ) (j : Input) (f : VFrame) → ((lane : Lane) → Sound lane (all_back gs (sides_of is))) → gs ≡ fs ++ f ∷ [] → length fs ≡ p → p < length is → j ≡ get_or is p j → fills_to 0 (led_by f (items_of j.queue.items)) j.next ≡ true
fills_there is fs gs p j f sound split l lt e =
    let lane : Lane = Frames j.head in
    let long = long_sides is in
    let there : side_at lane (all_back gs (sides_of is)) p ≡ given_back f (side_of j) =
    ap (λ (hs : List VFrame). side_at lane (all_back hs (sides_of is)) p) split ∙ (ap (λ q. side_at lane (all_back (fs ++ f ∷ []) (sides_of is)) q) (sym l)
    ∙ (back_last lane fs (sides_of is) f (omega (arith, l, long, lt)) ∙ (ap (λ q. given_back f (side_at lane (sides_of is) q)) l ∙ ap (λ (s : Side). given_back f s) (side_there lane is p j lt e)))) in
    subst (λ (s : Side). fills_to 0 s.waits s.next ≡ true) there (sound lane p)

-- what was moved out is what is shown -----------------------------------------------------------------------------------

list_front : {A : Type 0} (n : ℕ) (f : ℕ → List A) → list_to (suc n) f ≡ f 0 ++ list_to n (λ q. f (suc q))
list_front zero f = sym (append-nil (f 0))
list_front (suc n) f = ap (λ (xs : List _). xs ++ f (suc n)) (list_front n f) ∙ append_assoc (f 0) (list_to n (λ q. f (suc q))) (f (suc n))

led_is : (f : VFrame) (waits xs : List Item) (t : ℕ) → led_by f waits ≡ xs → IsLed xs t → last_by xs t ≡ Video f ∷ []
led_is f [] xs t e led = let c : [] ≡ Video led.frame ∷ led.others = e ∙ led.is in cc
led_is f (x ∷ ws) xs t e led = let c : Video f ∷ ws ≡ Video led.frame ∷ led.others = e ∙ led.is in let same : f ≡ led.frame = cc (c) in led.last ∙ ap (λ (g : VFrame). Video g ∷ []) (sym same)

pub lent_are : (lane : Lane) (t : ℕ) (fs : List VFrame) (lent ss : List Side) → length fs ≡ length ss → all_back fs lent ≡ ss → ((q : ℕ) → q < length ss → IsLed (side_at lane ss q).waits t) → list_to (length ss) (λ q. last_by (side_at lane ss q).waits t) ≡ map Video fs
lent_are lane t [] lent [] l e led = refl
lent_are lane t [] lent (s ∷ ss) l e led = absurd (omega (arith, l))
lent_are lane t (f ∷ fs) lent [] l e led = absurd (omega (arith, l))
lent_are lane t (f ∷ fs) [] (s ∷ ss) l e led = cc
lent_are lane t (f ∷ fs) (r ∷ lent) (s ∷ ss) l e led =
    let c : given_back f r ∷ all_back fs lent ≡ s ∷ ss = e in
    let first : given_back f r ≡ s = cc (c) in
    let others : all_back fs lent ≡ ss = cc (c) in
    list_front (length ss) (λ q. last_by (side_at lane (s ∷ ss) q).waits t)
    ∙ (ap (λ (xs : List Item). xs ++ list_to (length ss) (λ q. last_by (side_at lane ss q).waits t)) (led_is f r.waits s.waits t (ap (λ (x : Side). x.waits) first) (led 0 (omega arith)))
    ∙ ap (λ (xs : List Item). Video f ∷ xs) (lent_are lane t fs lent ss (omega (arith, l)) others (λ q lt. led (suc q) (omega (arith, lt)))))

-- an input that is led has begun
pub led_begun : (lane : Lane) (ss : List Side) (t : ℕ) → ((q : ℕ) → q < length ss → IsLed (side_at lane ss q).waits t) → AreBegun ss
led_begun lane ss t led other p lt =
    let is = (led p lt).is in
    subst (λ (s : Side). 0 < length s.waits) (any_lane lane other ss p lt) (subst (λ (xs : List Item). 0 < length xs) (sym is) (omega arith))
