-- The pass that touches nothing: the turns of its loop.
-- Assumes nothing.
use mathlib.Core.Path.{◌≡◌, refl, ◌∙◌}
use mathlib.Core.Bool.{Bool, true, false}
use mathlib.Core.List.{List, [], ◌∷◌, map}
use Prim.Native.Nat.{ℕ, zero, suc, ◌+◌, ◌≤◌, ◌<◌}
use native.Mathlib.Omega.{arith}
use borrow.Author.Tests.{ltb-true, ltb-false}
use lib.Dec.{ltb}
use lib.ListN.{length, get_or, replicate, length-replicate, get_or-eq_default}
use Rattle.slices.proofs.Choices.{both}
use Rattle.parts.specs.Parts.{figures_of}
use Rattle.device.specs.declared.Device.{Device}
use Rattle.device.specs.Chip.{Chip, chip}
use Rattle.device.specs.Device.{sound}
use Rattle.chip.specs.Events.{Good, after, reply}
use Rattle.chip.proofs.Events.{after-length, after-good}
use Rattle.batch.specs.Items.{items_of, good_item, all_good, event_in, events_of}
use Rattle.batch.proofs.Items.{bytes_of, items-bytes}
use Rattle.batch.proofs.One.{item-long}
use Rattle.batch.proofs.Fits.{item_room}
use Rattle.report.specs.Totals.{dealt, total_of, totals, largest}
use Rattle.report.specs.Report.{dealt_by, gained}
use Rattle.report.specs.Found.{Spare, SeenOn}
use Rattle.report.proofs.Foresee.{total-none}
use Rattle.report.proofs.Sums.{total-more, event-few}

-- what was counted, and what the items left give to an array that could stand there, is the whole
pub record Going (rest : List (List ℕ)) (bytes n part : ℕ) (whole : ℕ → ℕ) (d : Device) (counts : List ℕ) : Type 0 where
  pub array : List ℕ
  pub array_long : length array ≡ n
  pub good : Good (chip d array)
  pub formed : all_good rest ≡ true
  pub long : length counts ≡ totals
  pub few : (i : ℕ) → get_or counts i 0 + bytes_of rest ≤ bytes
  pub same : (i : ℕ) → i < totals → get_or counts i 0 + total_of (figures_of part) (dealt_by (map event_in rest) (chip d array)) i ≡ whole i

zeros-at : (n i : ℕ) → get_or {A = ℕ} (replicate n 0) i 0 ≡ 0
zeros-at zero i = refl
zeros-at (suc n) zero = refl
zeros-at (suc n) (suc i) = zeros-at n i

pub going-first : (items : List ℕ) (d : Device) (n : ℕ) (array : List ℕ) → length array ≡ n → sound d ≡ true → n ≡ (figures_of d.part).bytes → all_good (items_of items) ≡ true → (rest : List (List ℕ)) → rest ≡ items_of items
    → Going rest (length items) n d.part (gained (events_of items) (chip d array)) d (replicate totals 0)
going-first items d n array l s w f rest e =
    rw e
    (record {
      array = array;
      array_long = l;
      good = record { sound = s; whole = l ∙ w };
      formed = f;
      long = length-replicate {A = ℕ} totals 0;
      few = λ i. omega (arith, zeros-at totals i, items-bytes items);
      same = λ i h. omega (arith, zeros-at totals i);
    })

module _ {rest : List (List ℕ)} {bytes n part : ℕ} {whole : ℕ → ℕ} {d : Device} {counts : List ℕ} (g : Going rest bytes n part whole d counts) (item : List ℕ) (is : List (List ℕ)) (next : rest ≡ item ∷ is) where
  pub going-good : good_item item ≡ true
  going-good = (both (good_item item) (all_good is) (rw next at g.formed)).0

  few-left : (i : ℕ) → get_or counts i 0 + (length item + bytes_of is) ≤ bytes
  few-left i = rw next at (g.few i)

  pub going-spare : bytes ≤ largest → Spare counts (length item)
  going-spare h = record { long = g.long; each = λ i. omega (arith, few-left i) }

  module _ {e : Device} {now : List ℕ} (s : SeenOn (event_in item) (chip d g.array) part counts e now) where
    abbrev c : Chip
    c = chip d g.array

    few-more : (i : ℕ) → total_of (figures_of part) (dealt (event_in item ∷ []) (reply (event_in item) c ∷ [])) i ≤ length item
    few-more i = omega (arith, event-few (figures_of part) (event_in item) c i, item_room item going-good, item-long item going-good)

    few-then : (i : ℕ) (b : Bool) → ltb i totals ≡ b → get_or now i 0 + bytes_of is ≤ bytes
    few-then i true q = omega (arith, few-left i, few-more i, s.grown.each i (ltb-true i totals q))
    few-then i false q = let h = ltb-false i totals q in rw (get_or-eq_default now 0 {n = i} (omega (arith, s.grown.long))) (omega (arith, few-left i))

    pub going_next : Going is bytes n part whole e now
    going_next =
        record {
          array = (after (event_in item) c).array;
          array_long = after-length (event_in item) c ∙ g.array_long;
          good = rw s.device (after-good (event_in item) c g.good);
          formed = (both (good_item item) (all_good is) (rw next at g.formed)).1;
          long = s.grown.long;
          few = λ i. few-then i (ltb i totals) refl;
          same = λ i h.
              let m = total-more (figures_of part) (event_in item) (map event_in is) c i in
              let w = rw next at (g.same i h) in
              rw s.device (omega (arith, s.grown.each i h, m, w));
        }

pub going_end : {rest : List (List ℕ)} {bytes n part : ℕ} {whole : ℕ → ℕ} {d : Device} {counts : List ℕ} → Going rest bytes n part whole d counts → rest ≡ [] → (i : ℕ) → i < totals → get_or counts i 0 ≡ whole i
going_end {part = part} g z i lt =
    let w = rw z at (g.same i lt) in
    omega (arith, w, total-none (figures_of part) i)
