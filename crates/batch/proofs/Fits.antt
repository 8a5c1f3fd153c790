-- The events of good items are transactions that no call refuses, and waits: what each answers, and that buffers as long as the items always suffice.
-- Assumes nothing.
use Rattle.std.proofs.Common.{◌≡◌, ℕ, zero, suc, ◌+◌, ◌*◌, ◌/◌, ◌<◌, ◌≤◌, Bool, true, false, eqb, ltb, List, [], ◌∷◌, map, length, get_or, take, refl, arith, lit<, length-drop, length-take, get_or-take, ltb-false, ltb-true, eqb-true}
use borrow.Author.Tests.{eqb-false}
use lib.ListN.{get_or-eq_default}
use Rattle.slices.proofs.Choices.{both}
use Rattle.chip.specs.Events.{Event, sends, waits, starts, loses}
use Rattle.chip.proofs.Rules.{Bytes}
use Rattle.batch.specs.Items.{length_in, flag_in, first_in, items_from, items_of, good_item, all_good, event_in, events_of}
use Rattle.batch.specs.Batch.{room_of, room_for}
use Rattle.batch.proofs.One.{item-long, flag_small, waits-is, sends-is}

-- ---- of bytes, an item says a length of 16 bits

-- any place of a list of bytes holds one, or 0 past its end
pub byte-any : (xs : List ℕ) → Bytes xs → (i : ℕ) → get_or xs i 0 < 256
byte-any xs b i = go (ltb i (length xs)) refl
  where
    go : (t : Bool) → ltb i (length xs) ≡ t → get_or xs i 0 < 256
    go true e = b i (ltb-true i (length xs) e)
    go false e = rw (get_or-eq_default xs 0 (ltb-false i (length xs) e)) (lit< tt)

abbrev Short : List (List ℕ) → Type 0
Short [] = Unit {0}
Short (i ∷ is) = (length_in i ≤ 65535) × Short is

items-short : (xs : List ℕ) (k : ℕ) → Bytes xs → Short (items_from xs k)
unfolding items_from first_in
items-short [] k b = tt
items-short (x ∷ xs) (suc k) b = items-short xs k (λ i lt. b (suc i) (omega arith))
items-short (x ∷ xs) zero b =
    let n = 3 + length_in (x ∷ xs) in
    let p = get_or-take n (x ∷ xs) 0 0 (omega arith) in
    let q = get_or-take n (x ∷ xs) 1 0 (omega arith) in
    (omega (arith, p, q, byte-any (x ∷ xs) b 0, byte-any (x ∷ xs) b 1), items-short xs (2 + length_in (x ∷ xs)) (λ i lt. b (suc i) (omega arith)))

-- ---- events that no call refuses for their form

-- a transaction of at most 65,536 bytes and 7 further pulses, or a wait
abbrev pub Fits : Event → Type 0
Fits (sends bytes pulses w) = (length bytes ≤ 65536) × (pulses ≤ 7)
Fits (waits t) = Unit {0}
Fits starts = ⊥
Fits (loses mask told) = ⊥

abbrev pub AllFit : List Event → Type 0
AllFit [] = Unit {0}
AllFit (e ∷ es) = Fits e × AllFit es

pub item-fits : (i : List ℕ) → good_item i ≡ true → length_in i ≤ 65535 → Fits (event_in i)
item-fits i g s = go (eqb (flag_in i) 16) refl
  where
    go : (b : Bool) → eqb (flag_in i) 16 ≡ b → Fits (event_in i)
    go true e = rw (waits-is i (eqb-true (flag_in i) 16 e)) tt
    go false e =
        let n = eqb-false (flag_in i) 16 e in
        rw (sends-is i n) (omega (arith, length-drop 3 i, item-long i g), omega (arith, flag_small i g n))

all_fit : (is : List (List ℕ)) → all_good is ≡ true → Short is → AllFit (map event_in is)
all_fit [] g s = tt
all_fit (i ∷ is) g s = let p = both (good_item i) (all_good is) g in (item-fits i p.0 s.0, all_fit is p.1 s.1)

-- the events of good items
pub events-fit : (items : List ℕ) → all_good (items_of items) ≡ true → Bytes items → AllFit (events_of items)
events-fit items g b = all_fit (items_of items) g (items-short items 0 b)

-- ---- buffers that always suffice

-- a good item needs no more response bytes than its length says
pub item_room : (i : List ℕ) → good_item i ≡ true → room_of (event_in i) ≤ length_in i
item_room i g = go (eqb (flag_in i) 16) refl
  where
    go : (b : Bool) → eqb (flag_in i) 16 ≡ b → room_of (event_in i) ≤ length_in i
    go true e = rw (waits-is i (eqb-true (flag_in i) 16 e)) (omega arith)
    go false e = rw (sends-is i (eqb-false (flag_in i) 16 e)) (omega (arith, length-drop 3 i, item-long i g))

-- the items of the bytes behind the first k need no more response bytes than these have, and three bytes for each answer
enough : (xs : List ℕ) (k : ℕ) → k ≤ length xs → all_good (items_from xs k) ≡ true → (k + room_for (map event_in (items_from xs k)) ≤ length xs) × (k + 3 * length (map event_in (items_from xs k)) ≤ length xs)
unfolding items_from first_in
enough [] k h g = (omega arith, omega arith)
enough (x ∷ xs) (suc k) h g = let p = enough xs k (omega arith) g in (omega (arith, p.0), omega (arith, p.1))
enough (x ∷ xs) zero h g =
    let i = take (3 + length_in (x ∷ xs)) (x ∷ xs) in
    let p = both (good_item i) (all_good (items_from xs (2 + length_in (x ∷ xs)))) g in
    let a = get_or-take (3 + length_in (x ∷ xs)) (x ∷ xs) 0 0 (omega arith) in
    let b = get_or-take (3 + length_in (x ∷ xs)) (x ∷ xs) 1 0 (omega arith) in
    let l : length i ≡ 3 + length_in (x ∷ xs) = omega (arith, item-long i p.0) in
    let w : 2 + length_in (x ∷ xs) ≤ length xs = omega (arith, length-take (3 + length_in (x ∷ xs)) (x ∷ xs)) in
    let r = enough xs (2 + length_in (x ∷ xs)) w p.1 in
    (omega (arith, r.0, item_room i p.0), omega (arith, r.1))

-- THEOREM: as many response bytes as the items have, and a third of that for the answers, always suffice
pub always-suffice : (items : List ℕ) → all_good (items_of items) ≡ true → (room_for (events_of items) ≤ length items) × (length (events_of items) ≤ length items / 3)
always-suffice items g = let p = enough items 0 (omega arith) g in (omega (arith, p.0), omega (arith, p.1))
