-- Wishes 8 and 11 of reports: hardware protection and a lock hold through one as through a batch, whatever it answers.
-- Assumes nothing.
use mathlib.Core.Path.{◌≡◌, refl}
use mathlib.Core.Bool.{true}
use mathlib.Core.List.{List}
use Prim.Native.Nat.{ℕ, zero, suc}
use lib.ListN.{length}
use Rattle.device.specs.declared.Device.{Device}
use Rattle.device.specs.declared.Checked.{Checked}
use Rattle.device.specs.Chip.{Chip, chip}
use Rattle.chip.specs.Events.{run}
use Rattle.chip.specs.Protection.{Armed, Kept}
use Rattle.chip.specs.Locked.{Locked, Held}
use Rattle.chip.proofs.Locked.{lock-holds}
use Rattle.chip.proofs.Protection.{kept-none, hardware-protects}
use Rattle.batch.specs.Items.{items_of, events_of}
use Rattle.batch.proofs.Protected.{low_flags, items-low, items-go}
use Rattle.report.specs.Report.{report_number, counted, reported, Holds, Reported}

module _ {d : Device} {array items responses answers held : List ℕ} {r : Checked} {array' responses' answers' held' : List ℕ} (p : Reported d array items responses answers held r array' responses' answers' held') where
  -- what holds of the chip before a report and after its events holds of what it leaves, whatever it answers
  reported-ind : (P : Chip → Type 0) → P (run (events_of items) (chip d array)) → P (chip d array) → P (chip r.device array')
  unfolding reported counted
  reported-ind P after before = go (report_number d array items (length responses) (length answers) held) p.outcome
    where
      go : (k : ℕ) → Holds (reported k d array items responses answers held) r.device array' responses' answers' held' → P (chip r.device array')
      go zero h = rw (h.device, h.memory) after
      go (suc k) h = rw (h.device, h.memory) before

  -- THEOREM: from a chip that hardware protection speaks of, with W low throughout
  pub report-protects : Armed (chip d array) → low_flags (items_of items) ≡ true → Kept (chip d array) (chip r.device array')
  report-protects f l = reported-ind (Kept (chip d array)) (hardware-protects.ends (chip d array) f (events_of items) (items-low (items_of items) l)) (kept-none (chip d array))

  -- THEOREM: from a chip whose sector s is write-locked and frozen, whatever the items are
  pub report-holds : (s : ℕ) → Locked (chip d array) s → Held s (chip d array) (chip r.device array')
  report-holds s k = reported-ind (Held s (chip d array)) (lock-holds.ends (chip d array) s k (events_of items) (items-go (items_of items))) (record { register = refl; bytes = λ i lt e. refl })
