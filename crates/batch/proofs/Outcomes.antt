-- A promise of an image of the result, as an event or a list of items, admits one outcome only.
-- Assumes nothing.
use Rattle.std.proofs.Common.{◌≡◌, ℕ, zero, suc, ◌+◌, List, [], ◌∷◌, drop, Option, Some, None, option_map, Bor, sym, refl, ap, ◌∙◌, arith, take-append-drop}
use Rattle.std.specs.List.{concat}
use Rattle.std.specs.Iterator.{YieldsFirstRef}
use lib.Seq.{drop-nil}
use Rattle.chip.specs.Events.{Event}
use Rattle.batch.specs.declared.reading.Item.{Item}
use Rattle.batch.specs.declared.reading.Item.TheVariants.{Transaction, Wait}
use Rattle.batch.specs.declared.reading.EachItem.{EachItem}
use Rattle.batch.specs.Items.{length_in, first_in, items_from, items_of}
use Rattle.batch.specs.Found.{event_of}

-- ---- an item

-- two items that say the same: of one variant, and equal in what it holds; where the bytes lie is not said
abbrev pub SameItem : Item → Item → Type 0
SameItem (Transaction sent pulses w) (Transaction other more v) = (sent.now ≡ other.now) × (pulses ≡ more) × (w ≡ v)
SameItem (Transaction sent pulses w) (Wait ticks) = ⊥
SameItem (Wait ticks) (Transaction sent pulses w) = ⊥
SameItem (Wait ticks) (Wait others) = ticks ≡ others

-- two items that are read as one event say the same
pub one-item : (x y : Item) {e : Event} → event_of x ≡ e → event_of y ≡ e → SameItem x y
one-item (Transaction sent pulses w) (Transaction other more v) p q = (cc (p, q), cc (p, q), cc (p, q))
one-item (Transaction sent pulses w) (Wait ticks) p q = cc (p, q)
one-item (Wait ticks) (Transaction sent pulses w) p q = cc (p, q)
one-item (Wait ticks) (Wait others) p q = cc (p, q)

-- ---- a list of items

-- the items joined are the bytes again, behind those that are skipped
items-joined : (xs : List ℕ) (k : ℕ) → concat (items_from xs k) ≡ drop k xs
unfolding items_from first_in
items-joined [] k = sym (drop-nil k)
items-joined (x ∷ xs) zero =
    let n = length_in (x ∷ xs) in
    let z : 3 + n ≡ suc (2 + n) = omega arith in
    rw (items-joined xs (2 + n), z) (take-append-drop (suc (2 + n)) (x ∷ xs))
items-joined (x ∷ xs) (suc k) = items-joined xs k

-- a list of items is that of one batch only
pub items-apart : (xs ys : List ℕ) → items_of xs ≡ items_of ys → xs ≡ ys
items-apart xs ys e = sym (items-joined xs 0) ∙ (ap concat e ∙ items-joined ys 0)

-- ---- the items one by one

-- two iterators that have the items of one batch have the same bytes left; where these lie is not said
pub one-reading : (x y : EachItem) (xs : List ℕ) → items_of x.rest.now ≡ items_of xs → items_of y.rest.now ≡ items_of xs → x.rest.now ≡ y.rest.now
one-reading x y xs p q = items-apart x.rest.now y.rest.now (p ∙ sym q)

-- what a turn gives, and leaves, has one value only: the bytes of the item, or none, and the bytes behind it
pub one-turn : (s u v : EachItem) (r t : Option (Bor (List ℕ))) → YieldsFirstRef (λ (x : EachItem). items_of x.rest.now) s r u → YieldsFirstRef (λ (x : EachItem). items_of x.rest.now) s t v
    → (option_map (λ (i : Bor (List ℕ)). i.now) r ≡ option_map (λ (i : Bor (List ℕ)). i.now) t) × (u.rest.now ≡ v.rest.now)
one-turn s u v None None p q = (refl, items-apart u.rest.now v.rest.now (p.1 ∙ sym q.1))
one-turn s u v None (Some j) p q = cc (p.0, q)
one-turn s u v (Some i) None p q = cc (p, q.0)
one-turn s u v (Some i) (Some j) p q = let h : items_of u.rest.now ≡ items_of v.rest.now = cc (p, q) in (cc (p, q), items-apart u.rest.now v.rest.now h)
