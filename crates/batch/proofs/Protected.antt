-- Wishes 8 and 11 of batches: with W low in every flag byte, a batch's events are such as hardware protection speaks of; and a batch goes by a lock as its items do.
-- Assumes nothing.
use Rattle.std.proofs.Common.{◌≡◌, ℕ, zero, suc, ◌%◌, Bool, true, ◌&&◌, eqb, List, [], ◌∷◌, map, length, refl, arith, ne_eqb, eqb-true}
use Rattle.slices.proofs.Choices.{both, cond_ind}
use Rattle.device.specs.declared.Device.{Device}
use Rattle.device.specs.declared.Checked.{Checked}
use Rattle.device.specs.Chip.{Chip, chip}
use Rattle.chip.specs.Events.{Event, every, goes_on, run}
use Rattle.chip.specs.Protection.{Armed, w_low, Kept}
use Rattle.chip.specs.Locked.{Locked, Held}
use Rattle.chip.proofs.Locked.{lock-holds}
use Rattle.chip.proofs.Protection.{kept-none, hardware-protects}
use Rattle.batch.specs.Items.{flag_in, items_of, event_in, events_of}
use Rattle.batch.specs.Batch.{batch_number, carried_out, batched, Holds, Batched}

-- bit 0 of every flag byte is 0
abbrev pub low_flags : List (List ℕ) → Bool
low_flags [] = true
low_flags (i ∷ is) = eqb (flag_in i % 2) 0 && low_flags is

-- an item whose flag byte says W low is a transaction with W low, or a wait
item-low : (i : List ℕ) → eqb (flag_in i % 2) 0 ≡ true → w_low (event_in i) ≡ true
unfolding event_in
item-low i h =
    let e = eqb-true (flag_in i % 2) 0 h in
    cond_ind (λ (v : Event). w_low v ≡ true) (eqb (flag_in i) 16) refl (rw (ne_eqb (flag_in i % 2) 1 (λ z. omega arith)))

pub items-low : (is : List (List ℕ)) → low_flags is ≡ true → every w_low (map event_in is) ≡ true
items-low [] h = refl
items-low (i ∷ is) h = let p = both (eqb (flag_in i % 2) 0) (low_flags is) h in rw (item-low i p.0) (items-low is p.1)

-- every item is a transaction or a wait: power stays on
item-goes : (i : List ℕ) → goes_on (event_in i) ≡ true
unfolding event_in
item-goes i = cond_ind (λ (v : Event). goes_on v ≡ true) (eqb (flag_in i) 16) refl refl

pub items-go : (is : List (List ℕ)) → every goes_on (map event_in is) ≡ true
items-go [] = refl
items-go (i ∷ is) = rw (item-goes i) (items-go is)

module _ {d : Device} {array items responses answers missing : List ℕ} {r : Checked} {array' responses' answers' missing' : List ℕ} (p : Batched d array items responses answers missing r array' responses' answers' missing') where
  -- what holds of the chip before a batch and after its events holds of what the batch leaves, whatever it answers
  batched-ind : (P : Chip → Type 0) → P (run (events_of items) (chip d array)) → P (chip d array) → P (chip r.device array')
  unfolding batched carried_out
  batched-ind P after before = go (batch_number d (length array) items (length responses) (length answers) (length missing)) p.outcome
    where
      go : (k : ℕ) → Holds (batched k d array items responses answers missing) r.device array' responses' answers' missing' → P (chip r.device array')
      go zero h = rw (h.device, h.memory) after
      go (suc k) h = rw (h.device, h.memory) before

  -- THEOREM: one batch from a chip that hardware protection speaks of, with W low throughout
  pub batch-protects : Armed (chip d array) → low_flags (items_of items) ≡ true → Kept (chip d array) (chip r.device array')
  batch-protects f l = batched-ind (Kept (chip d array)) (hardware-protects.ends (chip d array) f (events_of items) (items-low (items_of items) l)) (kept-none (chip d array))

  -- THEOREM: one batch from a chip whose sector s is write-locked and frozen, whatever the items are
  pub batch-holds : (s : ℕ) → Locked (chip d array) s → Held s (chip d array) (chip r.device array')
  batch-holds s k = batched-ind (Held s (chip d array)) (lock-holds.ends (chip d array) s k (events_of items) (items-go (items_of items))) (record { register = refl; bytes = λ i lt e. refl })
