-- The older M25P10-A, part 5, does what part 1 does, but for Read Identification.
-- Assumes nothing.
use mathlib.Core.Path.{◌≡◌, refl, sym, ap, ap₂, ◌∙◌}
use mathlib.Core.Bool.{Bool, true, false, cond, ◌&&◌, false≢true}
use mathlib.Core.List.{List, [], ◌∷◌}
use Prim.Native.Nat.{ℕ, zero, suc, ◌-◌}
use native.Mathlib.Omega.{arith}
use borrow.Author.Tests.{ne_eqb, not-true}
use lib.Dec.{eqb, leb, ltb}
use lib.ListN.{length, get_or, take, replicate}
use Rattle.slices.specs.Changed.{map_at, sum_at}
use Rattle.slices.specs.Chosen.{on_zero}
use Rattle.slices.proofs.Choices.{cond_ind, both}
use Rattle.parts.specs.declared.Figures.{Figures}
use Rattle.parts.specs.Parts.{figures_of, unidentified}
use Rattle.device.specs.declared.Mode.{Mode}
use Rattle.device.specs.declared.Mode.TheVariants.{Standby, Busy, Deep}
use Rattle.device.specs.declared.Device.{Device}
use Rattle.device.specs.declared.Checked.{Checked}
use Rattle.device.specs.declared.cycle.Kind.{Kind}
use Rattle.device.specs.declared.cycle.Kind.TheVariants.{Idle, Page, Sector, All, Settings, PageWrite, PageErase, Subsector}
use Rattle.device.specs.Chip.{chip}
use Rattle.device.specs.Locks.{lock_of, relocked, locks_sound}
use Rattle.device.specs.Cycles.{uses_of, cycle_sound, touched_in, touched, cut_in, cut, duration_of}
use Rattle.device.specs.Device.{sound, status_byte, moded, settled, remembering, locked, running, started, ended, delivered, zero_record}
use Rattle.device.specs.Time.{after_cycle, finished, unlocked, powered_up, lost, waited_in, waited, time_number, mask_number, Timed, timed, wait_call, power_up_call, loss_call}
use Rattle.device.specs.Device as record_is
use Rattle.device.proofs.Outcomes.{same-checked}
use Rattle.chip.specs.declared.table.Turn.{Turn}
use Rattle.chip.specs.declared.table.Turn.TheVariants.{Keep, Enable, Disable, Start, Sleep, Wake, Lock}
use Rattle.chip.specs.declared.table.Row.{Row}
use Rattle.chip.specs.declared.answers.Verdict.{Verdict}
use Rattle.chip.specs.declared.answers.Verdict.TheVariants.{Refused, Ignored, Executed}
use Rattle.chip.specs.Table.{only_if, on_start, row_of, row_in, address_of}
use Rattle.chip.specs.Answers.{delivery_answer, host_number, in_protected, protected_at, protected_any, guarded_in, guarded, chip_number, decided, verdict_of}
use Rattle.chip.specs.Line.{silent, kth, by_row, heard, heard_row, driven, driving, on_line, lined, driving_at, first_from, first_of, count_of}
use Rattle.chip.specs.Change.{cycle_of, missing_of, bp_in, turned}
use Rattle.chip.specs.Outcome.{Outcome, bare, outcome_of, transacted, Delivered}
use Rattle.chip.specs.Events.{Chip, Event, sends, waits, starts, loses, every, Reply, sent, after, reply, run, story}
use Rattle.chip.specs.Older.{as_part, outcome_as, delivered_as, chip_as, timed_as, not_rdid, without9_f, DoesAs}
use Rattle.chip.proofs.Rows.{rows-ind}
use Rattle.chip.proofs.Events.{after-part}

-- ---- figures without Read Identification

-- every other code has its row
row_stays : (f : Figures) (code : ℕ) → eqb code 0x9F ≡ false → row_of (unidentified f) code ≡ row_of f code
unfolding row_of
row_stays f code h = rw h

-- no other row drives the identification
line_stays : (f : Figures) (code : ℕ) → eqb code 0x9F ≡ false → (s : ℕ) (locks array : List ℕ) (at k : ℕ)
    → kth (row_of f code).drive (unidentified f) s locks array at k ≡ kth (row_of f code).drive f s locks array at k
unfolding lock_of
line_stays f =
    rows-ind (λ code r. eqb code 0x9F ≡ false → (s : ℕ) (locks array : List ℕ) (at k : ℕ) → kth r.drive (unidentified f) s locks array at k ≡ kth r.drive f s locks array at k) f
    (λ h s locks array at k. refl)
    (λ h s locks array at k. refl)
    (λ e h. absurd (false≢true (sym h)))
    (λ h s locks array at k. refl)
    (λ h s locks array at k. refl)
    (λ h s locks array at k. refl)
    (λ h s locks array at k. refl)
    (λ h s locks array at k. refl)
    (λ h s locks array at k. refl)
    (λ h s locks array at k. refl)
    (λ e h s locks array at k. refl)
    (λ e h s locks array at k. refl)
    (λ e h s locks array at k. refl)
    (λ e h s locks array at k. refl)
    (λ e h s locks array at k. refl)
    (λ e h s locks array at k. refl)
    (λ e h s locks array at k. refl)
    (λ e h s locks array at k. refl)
    (λ code h s locks array at k. refl)

-- each cycle does the same to a byte, completed or cut
touched-stays : (k : Kind) (f : Figures) (at : ℕ) (slots : List ℕ) (n i x : ℕ) → touched_in k (unidentified f) at slots n i x ≡ touched_in k f at slots n i x
touched-stays Idle f at slots n i x = refl
touched-stays Page f at slots n i x = refl
touched-stays Sector f at slots n i x = refl
touched-stays All f at slots n i x = refl
touched-stays Settings f at slots n i x = refl
touched-stays PageWrite f at slots n i x = refl
touched-stays PageErase f at slots n i x = refl
touched-stays Subsector f at slots n i x = refl

cut-stays : (k : Kind) (f : Figures) (at : ℕ) (slots : List ℕ) (n : ℕ) (mask : List ℕ) (i x : ℕ) → cut_in k (unidentified f) at slots n mask i x ≡ cut_in k f at slots n mask i x
cut-stays Idle f at slots n mask i x = refl
cut-stays Page f at slots n mask i x = refl
cut-stays Sector f at slots n mask i x = refl
cut-stays All f at slots n mask i x = refl
cut-stays Settings f at slots n mask i x = refl
cut-stays PageWrite f at slots n mask i x = refl
cut-stays PageErase f at slots n mask i x = refl
cut-stays Subsector f at slots n mask i x = refl

-- the same guards it, whatever the record's part
guard-stays : (k : Kind) (f : Figures) (p q : ℕ) (d : Device) (at : ℕ) → guarded_in k (unidentified f) (as_part p d) at ≡ guarded_in k f (as_part q d) at
unfolding in_protected protected_at protected_any lock_of
guard-stays Idle f p q d at = refl
guard-stays Page f p q d at = refl
guard-stays Sector f p q d at = refl
guard-stays All f p q d at = refl
guard-stays Settings f p q d at = refl
guard-stays PageWrite f p q d at = refl
guard-stays PageErase f p q d at = refl
guard-stays Subsector f p q d at = refl

guarded-stays : (t : Turn) (f : Figures) (p q : ℕ) (d : Device) (at : ℕ) → guarded t (unidentified f) (as_part p d) at ≡ guarded t f (as_part q d) at
guarded-stays t f p q d at = λ j. on_start t (λ k. guard-stays k f p q d at j) false

-- the same cycle is started
cycle-stays : (k : Kind) (f : Figures) (at : ℕ) (sent : List ℕ) → cycle_of k (unidentified f) at sent ≡ cycle_of k f at sent
unfolding cycle_of bp_in
cycle-stays Idle f at sent = refl
cycle-stays Page f at sent = refl
cycle-stays Sector f at sent = refl
cycle-stays All f at sent = refl
cycle-stays Settings f at sent = refl
cycle-stays PageWrite f at sent = refl
cycle-stays PageErase f at sent = refl
cycle-stays Subsector f at sent = refl

duration-stays : (k : Kind) (p q : ℕ) (d : Device) → duration_of k (as_part p d) ≡ duration_of k (as_part q d)
duration-stays Idle p q d = refl
duration-stays Page p q d = refl
duration-stays Sector p q d = refl
duration-stays All p q d = refl
duration-stays Settings p q d = refl
duration-stays PageWrite p q d = refl
duration-stays PageErase p q d = refl
duration-stays Subsector p q d = refl

-- the same becomes of the record
turned-stays : (t : Turn) (f : Figures) (p q : ℕ) (d : Device) (at : ℕ) (sent : List ℕ) → turned t (unidentified f) (as_part p d) at sent ≡ as_part p (turned t f (as_part q d) at sent)
unfolding turned started running moded remembering locked relocked record_is.latched
turned-stays Keep f p q d at sent = refl
turned-stays Enable f p q d at sent = refl
turned-stays Disable f p q d at sent = refl
turned-stays (Start k) f p q d at sent = λ j. started (as_part p d) (cycle-stays k f at sent j) (duration-stays k p q d j)
turned-stays Sleep f p q d at sent = refl
turned-stays Wake f p q d at sent = refl
turned-stays Lock f p q d at sent = refl

-- ---- the code

-- the code is not 9F, with all bytes and after any number of them
coded : (sent : List ℕ) → not_rdid sent ≡ true → eqb (get_or sent 0 0) 0x9F ≡ false
coded [] h = refl
coded (code ∷ rest) h = not-true (eqb code 0x9F) h

coded-early : (i : ℕ) (sent : List ℕ) → not_rdid sent ≡ true → eqb (get_or (take i sent) 0 0) 0x9F ≡ false
coded-early zero sent h = refl
coded-early (suc i) [] h = refl
coded-early (suc i) (code ∷ rest) h = not-true (eqb code 0x9F) h

-- ---- the answer number

number_same : (d : Device) (r : Row) (n pulses : ℕ) (w : Bool) (at : ℕ) → chip_number (as_part 5 d) r n pulses w at ≡ chip_number (as_part 1 d) r n pulses w at
unfolding chip_number lock_of figures_of
number_same d r n pulses w at = rw (guarded-stays r.turn (figures_of 1) 5 1 d at)

row_same : (d : Device) (before : List ℕ) → eqb (get_or before 0 0) 0x9F ≡ false → row_in (as_part 5 d) before ≡ row_in (as_part 1 d) before
unfolding figures_of
row_same d before h = row_stays (figures_of 1) (get_or before 0 0) h

verdict-same : (d : Device) (array : ℕ) (sent : List ℕ) (pulses : ℕ) (w : Bool) (response : ℕ) → not_rdid sent ≡ true
    → verdict_of (as_part 5 d) array sent pulses w response ≡ verdict_of (as_part 1 d) array sent pulses w response
unfolding verdict_of host_number sound cycle_sound locks_sound address_of figures_of
verdict-same d array sent pulses w response h =
    let at = address_of (figures_of 1) sent in
    let host = host_number (as_part 1 d) array (length sent) pulses response in
    ap (decided host) (ap (λ (r : Row). chip_number (as_part 5 d) r (length sent) pulses w at) (row_same d sent (coded sent h)) ∙ number_same d (row_in (as_part 1 d) sent) (length sent) pulses w at)

-- ---- the line

by-row-stays : (r : Row) (f : Figures) (s : ℕ) (locks array before : List ℕ) → ((at k : ℕ) → kth r.drive (unidentified f) s locks array at k ≡ kth r.drive f s locks array at k)
    → by_row r (unidentified f) s locks array before ≡ by_row r f s locks array before
unfolding by_row address_of lock_of
by-row-stays r f s locks array before e = λ j. cond (leb r.from (length before)) (e (address_of f before) (length before - r.from) j) silent

driven-same : (d : Device) (array before : List ℕ) → eqb (get_or before 0 0) 0x9F ≡ false → driven (as_part 5 d) array before ≡ driven (as_part 1 d) array before
unfolding driven heard_row heard status_byte figures_of
driven-same d array before h =
    let s = status_byte d in
    let code = get_or before 0 0 in
    let r = row_of (figures_of 1) code in
    ap (λ (r : Row). by_row (only_if (heard d r) r) (figures_of 5) s d.locks array before) (row_same d before h)
    ∙ by-row-stays (only_if (heard d r) r) (figures_of 1) s d.locks array before
    (λ at k. cond_ind (λ (x : Row). kth x.drive (figures_of 5) s d.locks array at k ≡ kth x.drive (figures_of 1) s d.locks array at k) (heard d r) (line_stays (figures_of 1) code h s d.locks array at k) refl)

module _ (d : Device) (array sent : List ℕ) (h : not_rdid sent ≡ true) where
  driving-same : driving_at (as_part 5 d) array sent ≡ driving_at (as_part 1 d) array sent
  unfolding driving_at
  driving-same = λ j i. driving (driven-same d array (take i sent) (coded-early i sent h) j)

  lined-same : lined (as_part 5 d) array sent ≡ lined (as_part 1 d) array sent
  unfolding lined
  lined-same = λ j i x. cond (ltb i (length sent)) (on_line (driven-same d array (take i sent) (coded-early i sent h) j)) x

-- ---- the outcome

outcome-same : (v : Verdict) (d : Device) (array sent response : List ℕ) → not_rdid sent ≡ true
    → outcome_of v (as_part 5 d) array sent response ≡ outcome_as 5 (outcome_of v (as_part 1 d) array sent response)
unfolding outcome_of first_of count_of address_of figures_of
outcome-same (Refused k) d array sent response h = refl
outcome-same (Ignored k) d array sent response h = refl
outcome-same Executed d array sent response h =
    let f = figures_of 1 in
    let row = row_same d sent (coded sent h) in
    let next = ap (λ (r : Row). turned r.turn (figures_of 5) (as_part 5 d) (address_of f sent) sent) row ∙ turned-stays (row_in (as_part 1 d) sent).turn f 5 1 d (address_of f sent) sent in
    λ j.
    record {
      answer =
          record {
            number = 0;
            first = first_from (driving-same d array sent h j) 0 sent;
            count = sum_at (λ i x. driving-same d array sent h j i) sent;
            missing = missing_of (row j).turn (address_of f sent) sent array;
          };
      device = next j;
      array = array;
      response = map_at (lined-same d array sent h j) response;
    }

-- a record of part 5
renamed : (d : Device) → d.part ≡ 5 → d ≡ as_part 5 d
renamed d p = λ j. as_part (p j) d

-- a transaction
older-transacts : (d : Device) (array sent : List ℕ) (pulses : ℕ) (w : Bool) (response : List ℕ) → d.part ≡ 5 → not_rdid sent ≡ true
    → transacted d array sent pulses w response ≡ outcome_as 5 (transacted (as_part 1 d) array sent pulses w response)
unfolding transacted
older-transacts d array sent pulses w response p h =
    ap (λ (e : Device). transacted e array sent pulses w response) (renamed d p)
    ∙ (ap (λ (v : Verdict). outcome_of v (as_part 5 d) array sent response) (verdict-same d (length array) sent pulses w (length response) h)
    ∙ outcome-same (verdict_of (as_part 1 d) (length array) sent pulses w (length response)) d array sent response h)

-- ---- waiting, power-up, power loss and delivery

zero-as : (k : ℕ) (x y : Chip) → on_zero k (chip_as 5 x) (chip_as 5 y) ≡ chip_as 5 (on_zero k x y)
zero-as zero x y = refl
zero-as (suc k) x y = refl

-- the end of a cycle
over-same : (d : Device) (told : Bool) → after_cycle (as_part 5 d) told ≡ as_part 5 (after_cycle (as_part 1 d) told)
unfolding after_cycle ended moded remembering settled
over-same d told = go ((uses_of d.cycle.kind).settings && told)
  where
    go : (b : Bool) → ended (cond b (settled (as_part 5 d) d.cycle.srwd d.cycle.bp) (as_part 5 d)) ≡ as_part 5 (ended (cond b (settled (as_part 1 d) d.cycle.srwd d.cycle.bp) (as_part 1 d)))
    go true = refl
    go false = refl

finished-same : (c : Chip) → finished (chip_as 5 c) ≡ chip_as 5 (finished (chip_as 1 c))
unfolding finished touched figures_of
finished-same c = λ j. chip (over-same c.device true j) (map_at (λ i x. touched-stays c.device.cycle.kind (figures_of 1) c.device.cycle.address c.device.cycle.slots c.device.cycle.named i x j) c.array)

powered-same : (c : Chip) → powered_up (chip_as 5 c) ≡ chip_as 5 (powered_up (chip_as 1 c))
unfolding powered_up unlocked locked
powered-same c = λ j. chip (unlocked (finished-same c j).device) (finished-same c j).array

lost-same : (c : Chip) (mask : List ℕ) (told : Bool) → lost (chip_as 5 c) mask told ≡ chip_as 5 (lost (chip_as 1 c) mask told)
unfolding lost cut unlocked locked figures_of
lost-same c mask told = λ j. chip (unlocked (over-same c.device told j)) (map_at (λ i x. cut-stays c.device.cycle.kind (figures_of 1) c.device.cycle.address c.device.cycle.slots c.device.cycle.named mask i x j) c.array)

waited-same : (m : Mode) (c : Chip) (t : ℕ) → waited_in m (chip_as 5 c) t ≡ chip_as 5 (waited_in m (chip_as 1 c) t)
unfolding running moded
waited-same Standby c t = refl
waited-same (Busy left) c t = go (ltb t left)
  where
    go : (b : Bool) → cond b (chip (running (as_part 5 c.device) (left - t)) c.array) (finished (chip_as 5 c)) ≡ chip_as 5 (cond b (chip (running (as_part 1 c.device) (left - t)) c.array) (finished (chip_as 1 c)))
    go true = refl
    go false = finished-same c
waited-same Deep c t = refl

-- a call whose two chips do the same
timed-same : (k : ℕ) (x y c : Chip) → x ≡ chip_as 5 y → timed k x (chip_as 5 c) ≡ timed_as 5 (timed k y (chip_as 1 c))
timed-same k x y c e = λ j. record { answer = k; chip = (ap (λ (n : Chip). on_zero k n (chip_as 5 c)) e ∙ zero-as k y (chip_as 1 c)) j }

-- a chip of part 5
renamed-chip : (c : Chip) → c.device.part ≡ 5 → c ≡ chip_as 5 c
renamed-chip c p = λ j. chip_as (p j) c

module _ (c : Chip) (p : c.device.part ≡ 5) where
  abbrev one : Chip
  one = chip_as 1 c

  older-waits : (t : ℕ) → wait_call c t ≡ timed_as 5 (wait_call one t)
  unfolding wait_call waited time_number sound cycle_sound locks_sound figures_of
  older-waits t = ap (λ (e : Chip). wait_call e t) (renamed-chip c p) ∙ timed-same (time_number one.device (length c.array) 0) (waited (chip_as 5 c) t) (waited one t) c (waited-same c.device.mode c t)

  older-powers-up : power_up_call c ≡ timed_as 5 (power_up_call one)
  unfolding power_up_call time_number sound cycle_sound locks_sound figures_of
  older-powers-up = ap power_up_call (renamed-chip c p) ∙ timed-same (time_number one.device (length c.array) 0) (powered_up (chip_as 5 c)) (powered_up one) c (powered-same c)

  older-loses : (mask : List ℕ) (told : Bool) → loss_call c mask told ≡ timed_as 5 (loss_call one mask told)
  unfolding loss_call time_number sound cycle_sound locks_sound figures_of
  older-loses mask told = ap (λ (e : Chip). loss_call e mask told) (renamed-chip c p) ∙ timed-same (time_number one.device (length c.array) (mask_number (length mask))) (lost (chip_as 5 c) mask told) (lost one mask told) c (lost-same c mask told)

-- whatever the two calls hand back
older-delivers : {array : List ℕ} {program sector bulk status : ℕ} {r s : Checked} {array' array'' : List ℕ}
    → Delivered 1 array program sector bulk status r array' → Delivered 5 array program sector bulk status s array'' → (s ≡ delivered_as 5 r) × (array'' ≡ array')
unfolding delivery_answer delivered figures_of
older-delivers {array} {program} {sector} {bulk} {status} p q =
    (same-checked (q.answer ∙ sym p.answer) (q.device ∙ rw (p.answer, p.device) (go (delivery_answer 1 (length array) program sector bulk status))), q.memory ∙ sym p.memory)
  where
    go : (k : ℕ) → on_zero k (delivered 5 program sector bulk status) zero_record ≡ on_zero k (as_part 5 (on_zero k (delivered 1 program sector bulk status) zero_record)) (on_zero k (delivered 1 program sector bulk status) zero_record)
    go zero = refl
    go (suc k) = refl

-- ---- lists of events

after_same : (e : Event) (c : Chip) → without9_f e ≡ true → after e (chip_as 5 c) ≡ chip_as 5 (after e (chip_as 1 c))
unfolding sent
after_same (sends bytes p w) c h = ap (λ (o : Outcome). record { device = o.device; array = o.array }) (older-transacts (as_part 5 c.device) c.array bytes p w (replicate (length bytes) 0) refl h)
after_same (waits t) c h = ap (λ (o : Timed). o.chip) (older-waits (chip_as 5 c) refl t)
after_same starts c h = ap (λ (o : Timed). o.chip) (older-powers-up (chip_as 5 c) refl)
after_same (loses mask told) c h = ap (λ (o : Timed). o.chip) (older-loses (chip_as 5 c) refl mask told)

reply-same : (e : Event) (c : Chip) → without9_f e ≡ true → reply e (chip_as 5 c) ≡ reply e (chip_as 1 c)
unfolding sent
reply-same (sends bytes p w) c h = ap (λ (o : Outcome). record { answer = o.answer; line = o.response }) (older-transacts (as_part 5 c.device) c.array bytes p w (replicate (length bytes) 0) refl h)
reply-same (waits t) c h = ap (λ (o : Timed). record { answer = bare o.answer; line = [] }) (older-waits (chip_as 5 c) refl t)
reply-same starts c h = ap (λ (o : Timed). record { answer = bare o.answer; line = [] }) (older-powers-up (chip_as 5 c) refl)
reply-same (loses mask told) c h = ap (λ (o : Timed). record { answer = bare o.answer; line = [] }) (older-loses (chip_as 5 c) refl mask told)

-- part 1 stays part 1
still_one : (e : Event) (c : Chip) → chip_as 1 (after e (chip_as 1 c)) ≡ after e (chip_as 1 c)
still_one e c = ap (λ (p : ℕ). chip_as p (after e (chip_as 1 c))) (sym (after-part e (chip_as 1 c)))

run-same : (es : List Event) (c : Chip) → every without9_f es ≡ true → run es (chip_as 5 c) ≡ chip_as 5 (run es (chip_as 1 c))
run-same [] c h = refl
run-same (e ∷ es) c h =
    let both_so = both (without9_f e) (every without9_f es) h in
    ap (run es) (after_same e c both_so.0) ∙ (run-same es (after e (chip_as 1 c)) both_so.1 ∙ ap (λ (x : Chip). chip_as 5 (run es x)) (still_one e c))

story-same : (es : List Event) (c : Chip) → every without9_f es ≡ true → story es (chip_as 5 c) ≡ story es (chip_as 1 c)
story-same [] c h = refl
story-same (e ∷ es) c h =
    let both_so = both (without9_f e) (every without9_f es) h in
    ap₂ (λ (r : Reply) (rs : List Reply). r ∷ rs) (reply-same e c both_so.0)
    (ap (story es) (after_same e c both_so.0) ∙ (story-same es (after e (chip_as 1 c)) both_so.1 ∙ ap (story es) (still_one e c)))

-- a whole life without 9F: the caller sees the same, and the chip ends as the same
older-lives : (es : List Event) (c : Chip) → c.device.part ≡ 5 → every without9_f es ≡ true → (story es c ≡ story es (chip_as 1 c)) × (run es c ≡ chip_as 5 (run es (chip_as 1 c)))
older-lives es c p h =
    let e = renamed-chip c p in
    (ap (story es) e ∙ story-same es c h, ap (run es) e ∙ run-same es c h)

-- part 5 does what part 1 does, but for 9F
pub older : DoesAs 5 1
older = record { transacts = older-transacts; waits = λ c t p. older-waits c p t; powers_up = older-powers-up; loses = λ c mask told p. older-loses c p mask told; delivers = older-delivers; lives = older-lives }

-- and 9F gets 14 there, in every mode, with whatever comes behind it, where the host side does not refuse
pub older-9F : (d : Device) (array : ℕ) (rest : List ℕ) (pulses : ℕ) (w : Bool) (response : ℕ) → d.part ≡ 5 → host_number d array (length (0x9F ∷ rest)) pulses response ≡ 0
    → verdict_of d array (0x9F ∷ rest) pulses w response ≡ Ignored 14
unfolding verdict_of decided chip_number row_of figures_of
older-9F d array rest pulses w response p h = rw (h, ne_eqb (length (0x9F ∷ rest)) 0 (λ e. omega arith), p)
