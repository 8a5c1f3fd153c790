-- The numbers of every call's answer come apart again, by the bits that docs/C-CALLS.md names, without a premise.
-- Assumes nothing.
use mathlib.Core.Path.{◌≡◌, refl}
use mathlib.Core.Bool.{Bool, not, ◌&&◌, ◌||◌}
use mathlib.Core.List.{List, [], ◌∷◌}
use Prim.Native.Nat.{ℕ, ◌*◌, ◌/◌, ◌%◌, ◌≤◌, ◌<◌}
use native.Mathlib.Omega.{arith}
use lib.Dec.{eqb, ltb, lit≤}
use lib.ListN.{length}
use Rattle.slices.proofs.Choices.{cond_ind, zero-ind}
use Rattle.memory.specs.Missing.{most_missing}
use Rattle.parts.specs.Parts.{figures_of, known_part}
use Rattle.device.specs.declared.Device.{Device}
use Rattle.device.specs.Chip.{Chip, chip}
use Rattle.device.specs.Device.{sound, ranged_of}
use Rattle.device.specs.Time.{Timed, time_number, mask_number, wait_call, power_up_call, loss_call}
use Rattle.device.specs.Packing.{packed_length, formed, fields_of, unpack_answer, unpack_of}
use Rattle.chip.specs.declared.Answer.{Answer}
use Rattle.chip.specs.Answers.{delivery_answer}
use Rattle.chip.specs.Outcome.{Outcome, bare, outcome_of}
use Rattle.chip.proofs.Rules.{Few, answer-few}
use Rattle.pins.specs.Pins.{odd_samples, too_long}
use Rattle.pins.specs.Run.{run_answer, answer_of}
use Rattle.pins.proofs.Runs as pins
use Rattle.batch.specs.Items.{items_of, all_good, events_of}
use Rattle.batch.specs.Batch.{room_for, missing_bytes, batch_number}
use Rattle.report.specs.Totals.{exceeds}
use Rattle.report.specs.Report.{gained}
use Rattle.report.proofs.Runs.{form, number-split}
use Rattle.image.specs.declared.Reply.{Reply}
use Rattle.image.specs.Images.{bad_places}
use Rattle.image.specs.Calls.{blocks_of, copy_number, salvage_number, found_bad, read_reply, salvage_reply}
use Rattle.image.proofs.Calls.{read-few, salvage-few}
use Rattle.bus.specs.Calls.{Shared, Waited}
use Rattle.m25p.specs.Calls.{packed_answer, high, transacted_c, Called, timed_c, CalledOn, delivery_c, DeliveredC}
use Rattle.m25p.specs.Pins.{pins_c, RanC}
use Rattle.m25p.specs.Batch.{batch_c, BatchedC}
use Rattle.m25p.specs.Report.{report_c, ReportedC}
use Rattle.m25p.specs.Image.{with_blocks, WrittenC, ReadC, SalvagedC}
use Rattle.m25p.specs.Bus.{records_in, row_answer, bused_c, BusedC, bus_waited_c, BusWaitedC}
use Rattle.m25p.proofs.Bus.{turned-few, waited-few}

-- bits 0 to 7, 8 to 15, 16 to 47 and 48 to 63 are the answer's numbers, and there are no bits above
pub record Apart (r : ℕ) (a : Answer) : Type 0 where
  pub number : r % 256 ≡ a.number
  pub first : r / 256 % 256 ≡ a.first
  pub count : r / 65536 % 4294967296 ≡ a.count
  pub missing : r / 281474976710656 ≡ a.missing
  pub fits : r < 18446744073709551616

-- numbers that fit their bits come apart
apart : (a : Answer) → a.number < 256 → a.first < 256 → a.count < 4294967296 → a.missing < 65536 → Apart (packed_answer a) a
unfolding packed_answer
apart a h k l m = record { number = omega arith; first = omega arith; count = omega arith; missing = omega arith; fits = omega arith }

-- no call answers a number above 71
abbrev Small : ℕ → Type 0
Small k = k ≤ 71

-- so an answer with nothing driven and no bits missing comes apart
apart_bare : {r k : ℕ} → r ≡ packed_answer (bare k) → Small k → Apart r (bare k)
apart_bare {r} {k} e h = rw e (apart (bare k) (omega arith) (omega arith) (omega arith) (omega arith))

-- unpacking answers 0, 6 or 8
unpack-few : (b : List ℕ) → unpack_answer b ≤ 8
unfolding unpack_answer
unpack-few b = cond_ind (λ (k : ℕ). k ≤ 8) (eqb (length b) packed_length) (cond_ind (λ (k : ℕ). k ≤ 8) (formed b && sound (fields_of b)) (lit≤ tt) (lit≤ tt)) (lit≤ tt)

-- a transaction
pub transact-apart : (packed array sent : List ℕ) (pulses w : ℕ) (response : List ℕ) {r : ℕ} {packed' array' response' : List ℕ}
    → Called (transacted_c packed array sent pulses w response) packed r packed' array' response' → Apart r (transacted_c packed array sent pulses w response).answer
unfolding transacted_c outcome_of
transact-apart packed array sent pulses w response p =
    let f : Few (transacted_c packed array sent pulses w response).answer = zero-ind (λ (o : Outcome). Few o.answer) (unpack_answer packed)
    (answer-few (unpack_of packed).device array sent pulses (high w) response)
    (record { number = omega (arith, unpack-few packed); first = lit≤ tt; count = lit≤ tt; missing = lit≤ tt }) in
    rw p.answer (apart _ (omega (arith, f.number)) (omega (arith, f.first)) (omega (arith, f.count)) (omega (arith, f.missing)))

-- a call of time or power
timed-few : (call : Chip → Timed) (packed array : List ℕ) → ((c : Chip) → Small (call c).answer) → Small (timed_c call packed array).answer
unfolding timed_c
timed-few call packed array h = zero-ind (λ (o : Timed). Small o.answer) (unpack_answer packed) (h (chip (unpack_of packed).device array)) (omega (arith, unpack-few packed))

time-few : (d : Device) (n next : ℕ) → Small next → Small (time_number d n next)
unfolding time_number
time-few d n next h = cond_ind Small (not (sound d)) (lit≤ tt) (cond_ind Small (not (eqb n (figures_of d.part).bytes)) (lit≤ tt) h)

-- a wait
pub wait-apart : (packed array : List ℕ) (t : ℕ) {r : ℕ} {packed' array' : List ℕ} → CalledOn (timed_c (λ c. wait_call c t) packed array) packed r packed' array' → Apart r (bare (timed_c (λ c. wait_call c t) packed array).answer)
unfolding wait_call
wait-apart packed array t p = apart_bare p.answer (timed-few (λ c. wait_call c t) packed array (λ c. time-few c.device (length c.array) 0 (lit≤ tt)))

-- a power-up
pub power-up-apart : (packed array : List ℕ) {r : ℕ} {packed' array' : List ℕ} → CalledOn (timed_c power_up_call packed array) packed r packed' array' → Apart r (bare (timed_c power_up_call packed array).answer)
unfolding power_up_call
power-up-apart packed array p = apart_bare p.answer (timed-few power_up_call packed array (λ c. time-few c.device (length c.array) 0 (lit≤ tt)))

-- a power loss
pub loss-apart : (packed array mask : List ℕ) (told : Bool) {r : ℕ} {packed' array' : List ℕ} → CalledOn (timed_c (λ c. loss_call c mask told) packed array) packed r packed' array'
    → Apart r (bare (timed_c (λ c. loss_call c mask told) packed array).answer)
unfolding loss_call
loss-apart packed array mask told p =
    apart_bare p.answer
    (timed-few (λ c. loss_call c mask told) packed array (λ c. time-few c.device (length c.array) (mask_number (length mask)) (cond_ind Small (not (eqb (length mask) 256)) (lit≤ tt) (lit≤ tt))))

-- a delivery
pub deliver-apart : (packed : List ℕ) (part : ℕ) (array : List ℕ) (p s b t : ℕ) {r : ℕ} {packed' array' : List ℕ} → DeliveredC packed part array p s b t r packed' array'
    → Apart r (bare (delivery_c packed part (length array) p s b t))
unfolding delivery_c delivery_answer
deliver-apart packed part array p s b t d =
    apart_bare d.answer
    (cond_ind Small (eqb (length packed) packed_length)
    (cond_ind Small (not (known_part part)) (lit≤ tt)
    (cond_ind Small (not (eqb (length array) (figures_of part).bytes)) (lit≤ tt)
    (cond_ind Small (not (ranged_of p && ranged_of s && ranged_of b && ranged_of t)) (lit≤ tt) (lit≤ tt))))
    (lit≤ tt))

-- a run over samples answers at most 23
pins-few : (packed array samples output : List ℕ) → pins_c packed (length array) samples (length output) ≤ 23
unfolding pins_c run_answer
pins-few packed array samples output =
    let P : ℕ → Type 0 = λ k. k ≤ 23 in
    let d = (unpack_of packed).device in
    zero-ind P (unpack_answer packed)
    (cond_ind P (not (sound d)) (lit≤ tt)
    (cond_ind P (not (eqb (length array) (figures_of d.part).bytes)) (lit≤ tt)
    (cond_ind P (odd_samples samples) (lit≤ tt) (cond_ind P (too_long samples) (lit≤ tt) (cond_ind P (ltb (length output) (length samples)) (lit≤ tt) (lit≤ tt))))))
    (omega (arith, unpack-few packed))

-- a run over samples
pub pins-apart : (packed array samples output : List ℕ) {r : ℕ} {packed' array' output' : List ℕ} → RanC packed array samples output r packed' array' output'
    → Apart r (answer_of (pins_c packed (length array) samples (length output)) (unpack_of packed).device array samples)
unfolding answer_of
pins-apart packed array samples output ran =
    let k = pins_c packed (length array) samples (length output) in
    let d = (unpack_of packed).device in
    rw ran.answer
    (apart (answer_of k d array samples) (omega (arith, pins-few packed array samples output)) (omega arith) (omega arith) (omega (arith, pins.answer-few k d array samples)))

-- a batch
batch-few : (d : Device) (array : ℕ) (items : List ℕ) (responses answers missing : ℕ) → Small (batch_number d array items responses answers missing)
unfolding batch_number
batch-few d array items responses answers missing =
    cond_ind Small (not (sound d)) (lit≤ tt)
    (cond_ind Small (not (eqb array (figures_of d.part).bytes)) (lit≤ tt)
    (cond_ind Small (not (all_good (items_of items))) (lit≤ tt)
    (cond_ind Small (ltb responses (room_for (events_of items)) || ltb answers (length (events_of items)) || ltb missing missing_bytes) (lit≤ tt) (lit≤ tt))))

pub batch-apart : (packed array items responses answers missing : List ℕ) {r : ℕ} {packed' array' responses' answers' missing' : List ℕ} → BatchedC packed array items responses answers missing r packed' array' responses' answers' missing'
    → Apart r (bare (batch_c packed (length array) items (length responses) (length answers) (length missing)))
unfolding batch_c
batch-apart packed array items responses answers missing b =
    apart_bare b.answer
    (zero-ind Small (unpack_answer packed) (batch-few (unpack_of packed).device (length array) items (length responses) (length answers) (length missing)) (omega (arith, unpack-few packed)))

-- a report: the number of a batch, 71 or 0
pub report-apart : (packed array items responses answers totals : List ℕ) {r : ℕ} {packed' array' responses' answers' totals' : List ℕ} → ReportedC packed array items responses answers totals r packed' array' responses' answers' totals'
    → Apart r (bare (report_c packed array items (length responses) (length answers) totals))
unfolding report_c
report-apart packed array items responses answers totals p =
    let d = (unpack_of packed).device in
    let k = form d array items responses answers totals in
    apart_bare p.answer
    (zero-ind Small (unpack_answer packed)
    (rw (number-split d array items responses answers totals)
    (zero-ind Small k (cond_ind Small (exceeds (gained (events_of items) (chip d array)) totals) (lit≤ tt) (lit≤ tt)) (batch-few d (length array) items (length responses) (length answers) _)))
    (omega (arith, unpack-few packed)))

-- ---- images

-- the writer's numbers
copy-few : (part array image : ℕ) → Small (copy_number part array image)
unfolding copy_number
copy-few part array image =
    cond_ind Small (not (known_part part)) (lit≤ tt)
    (cond_ind Small (not (eqb image (blocks_of part * 512))) (lit≤ tt) (cond_ind Small (not (eqb array (figures_of part).bytes)) (lit≤ tt) (lit≤ tt)))

pub write-apart : (part : ℕ) (array image : List ℕ) {r : ℕ} {image' : List ℕ} → WrittenC part array image r image' → Apart r (bare (copy_number part (length array) (length image)))
write-apart part array image w = apart_bare w.answer (copy-few part (length array) (length image))

-- a number of blocks stands where a transaction has its driven count
apart-blocks : {r : ℕ} {k : Reply} → r ≡ packed_answer (with_blocks k) → Small k.answer → k.blocks ≤ 33289 → Apart r (with_blocks k)
unfolding with_blocks
apart-blocks {r} {k} e h l = rw e (apart (with_blocks k) (omega arith) (omega arith) (omega arith) (omega arith))

-- the reader
found-few : (xs : List ℕ) → Small (found_bad xs).answer
found-few [] = lit≤ tt
found-few (p ∷ ps) = lit≤ tt

pub read-apart : (part : ℕ) (image array : List ℕ) {r : ℕ} {array' : List ℕ} → ReadC part image array r array' → Apart r (with_blocks (read_reply part image (length array)))
unfolding read_reply
read-apart part image array d =
    apart-blocks d.answer
    (zero-ind (λ (k : Reply). Small k.answer) (copy_number part (length array) (length image)) (found-few (bad_places image (blocks_of part))) (copy-few part (length array) (length image)))
    (read-few part image (length array))

-- salvage
pub salvage-apart : (part : ℕ) (image list : List ℕ) {r : ℕ} {image' list' : List ℕ} → SalvagedC part image list r image' list' → Apart r (with_blocks (salvage_reply part image (length list)))
unfolding salvage_reply salvage_number
salvage-apart part image list d =
    apart-blocks d.answer
    (zero-ind (λ (k : Reply). Small k.answer) (salvage_number part (length image) (length list)) (lit≤ tt)
    (cond_ind Small (not (known_part part)) (lit≤ tt)
    (cond_ind Small (not (eqb (length image) (blocks_of part * 512))) (lit≤ tt) (cond_ind Small (ltb (length list / 8) (blocks_of part)) (lit≤ tt) (lit≤ tt)))))
    (salvage-few part image (length list))

-- ---- a bus

-- a transaction with one chip of a row
pub bus-transact-apart : (row array : List ℕ) (k : ℕ) (sent : List ℕ) (pulses w : ℕ) (response : List ℕ) {r : ℕ} {row' array' response' : List ℕ}
    → BusedC (bused_c row array k sent pulses w response) row r row' array' response' → Apart r (bused_c row array k sent pulses w response).answer
unfolding bused_c
bus-transact-apart row array k sent pulses w response p =
    let f : ((bused_c row array k sent pulses w response).answer.number ≤ 53) × ((bused_c row array k sent pulses w response).answer.first ≤ 5) × ((bused_c row array k sent pulses w response).answer.count ≤ 65536) × ((bused_c row array k sent pulses w response).answer.missing ≤ most_missing) =
    zero-ind (λ (o : Shared). (o.answer.number ≤ 53) × (o.answer.first ≤ 5) × (o.answer.count ≤ 65536) × (o.answer.missing ≤ most_missing)) (row_answer (length row))
    (turned-few array k sent pulses (high w) response (records_in row) refl)
    (cond_ind (λ (n : ℕ). n ≤ 53) (eqb (length row % packed_length) 0) (lit≤ tt) (lit≤ tt), lit≤ tt, lit≤ tt, lit≤ tt) in
    rw p.answer (apart _ (omega (arith, f.0)) (omega (arith, f.1)) (omega (arith, f.2)) (omega (arith, f.3)))

-- a wait of every chip of a row
pub bus-wait-apart : (row array : List ℕ) (t : ℕ) {r : ℕ} {row' array' : List ℕ} → BusWaitedC (bus_waited_c row array t) row r row' array' → Apart r (bare (bus_waited_c row array t).answer)
unfolding bus_waited_c
bus-wait-apart row array t p =
    let f : (bus_waited_c row array t).answer ≤ 53 = zero-ind (λ (o : Waited). o.answer ≤ 53) (row_answer (length row)) (waited-few (records_in row) array t) (cond_ind (λ (n : ℕ). n ≤ 53) (eqb (length row % packed_length) 0) (lit≤ tt) (lit≤ tt)) in
    apart_bare p.answer (omega (arith, f))
