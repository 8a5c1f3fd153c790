-- Chips that fill their parts: rows and arrays of such chips are those chips again.
-- Assumes nothing.
use mathlib.Core.Path.{◌≡◌, refl, sym, ap, ap₂, ◌∙◌}
use mathlib.Core.Bool.{true}
use mathlib.Core.List.{List, [], ◌∷◌, map}
use Prim.Native.Nat.{ℕ, zero, suc, ◌<◌}
use native.Mathlib.Omega.{arith}
use lib.ListN.{length, set, drop, length-drop}
use lib.Seq.{length-take-le, take_at, drop_at}
use Rattle.slices.proofs.Choices.{both}
use Rattle.parts.specs.Parts.{figures_of}
use Rattle.device.specs.declared.Device.{Device}
use Rattle.device.specs.Device.{sound}
use Rattle.device.specs.Chip.{Chip, chip}
use Rattle.chip.specs.Events.{Good, Event, after}
use Rattle.chip.proofs.Events.{after-length, after-part}
use Rattle.bus.specs.Bus.{bytes_of, sum_of, all_sound, chips_in, row_of, array_of, nth}

-- a chip whose bytes are as many as its part has
abbrev pub Fills : Chip → Type 0
Fills c = length c.array ≡ bytes_of c.device

abbrev pub AllFill : List Chip → Type 0
AllFill [] = Unit {0}
AllFill (c ∷ cs) = Fills c × AllFill cs

-- each chip of an array that is the sum of the parts
pub all-fill : (ds : List Device) (xs : List ℕ) → length xs ≡ sum_of ds → AllFill (chips_in ds xs)
all-fill [] xs e = tt
all-fill (d ∷ ds) xs e = (length-take-le (bytes_of d) xs (omega arith), all-fill ds (drop (bytes_of d) xs) (length-drop (bytes_of d) xs ∙ omega arith))

-- an event keeps it
pub fills-after : (e : Event) (c : Chip) → Fills c → Fills (after e c)
fills-after e c f = after-length e c ∙ (f ∙ ap (λ (p : ℕ). (figures_of p).bytes) (sym (after-part e c)))

pub fill-set : (cs : List Chip) (k : ℕ) (c : Chip) → AllFill cs → Fills c → AllFill (set cs k c)
fill-set [] k c h f = tt
fill-set (b ∷ cs) zero c h f = (f, h.1)
fill-set (b ∷ cs) (suc k) c h f = (h.0, fill-set cs k c h.1 f)

pub fill-map : (f : Chip → Chip) → ((c : Chip) → Fills c → Fills (f c)) → (cs : List Chip) → AllFill cs → AllFill (map f cs)
fill-map f step [] h = tt
fill-map f step (c ∷ cs) h = (step c h.0, fill-map f step cs h.1)

-- their records and their bytes, beside each other, are these chips
pub chips-back : (cs : List Chip) → AllFill cs → chips_in (row_of cs) (array_of cs) ≡ cs
chips-back [] h = refl
chips-back (c ∷ cs) h =
    ap₂ (λ (a : List ℕ) (t : List Chip). chip c.device a ∷ t)
    (take_at c.array (array_of cs) (bytes_of c.device) h.0)
    (ap (chips_in (row_of cs)) (drop_at c.array (array_of cs) (bytes_of c.device) h.0) ∙ chips-back cs h.1)

pub nth-map : (f : Chip → Chip) (cs : List Chip) (k : ℕ) → k < length cs → nth (map f cs) k ≡ f (nth cs k)
nth-map f [] k h = absurd (omega arith)
nth-map f (c ∷ cs) zero h = refl
nth-map f (c ∷ cs) (suc k) h = nth-map f cs k (omega arith)

-- each chip of a row of sound records that is whole is good
pub nth-good : (ds : List Device) (xs : List ℕ) (k : ℕ) → k < length ds → all_sound ds ≡ true → length xs ≡ sum_of ds → Good (nth (chips_in ds xs) k)
nth-good [] xs k h s e = absurd (omega arith)
nth-good (d ∷ ds) xs zero h s e = record { sound = (both (sound d) (all_sound ds) s).0; whole = length-take-le (bytes_of d) xs (omega arith) }
nth-good (d ∷ ds) xs (suc k) h s e = nth-good ds (drop (bytes_of d) xs) k (omega arith) (both (sound d) (all_sound ds) s).1 (length-drop (bytes_of d) xs ∙ omega arith)
