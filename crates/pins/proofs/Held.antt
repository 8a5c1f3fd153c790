-- What the code holds after i samples of a run, and one sample more.
-- Assumes nothing.
use mathlib.Core.Path.{◌≡◌, refl, sym, ap, ◌∙◌}
use mathlib.Core.Bool.{true, false, cond, ◌||◌}
use mathlib.Core.List.{List}
use Prim.Native.Nat.{ℕ, ◌+◌, ◌≤◌, ◌<◌}
use native.Mathlib.Nat.{add-zero}
use native.Mathlib.Omega.{arith}
use lib.ListN.{length, get_or, set, take}
use lib.Seq.{take_all}
use Rattle.slices.specs.Changed.{map_at, window}
use Rattle.slices.proofs.Choices.{cond_ind}
use Rattle.slices.proofs.Windows.{window-start, loop-step}
use Rattle.memory.specs.Missing.{most_missing}
use Rattle.device.specs.declared.Device.{Device}
use Rattle.chip.specs.Outcome.{transacted}
use Rattle.chip.specs.Events.{left}
use Rattle.pins.specs.declared.Tally.{Tally}
use Rattle.pins.specs.declared.levels.Kept.{Kept}
use Rattle.pins.specs.declared.levels.Levels.{Levels}
use Rattle.pins.specs.declared.underway.Underway.{Underway}
use Rattle.pins.specs.Pins.{rest, on_clock, on_hold, next_pins, levels_of, Pins, on_select, changes, ends, takes, Taking, anew, clocked, next_taking, Seen, at_rest, step, seen, too_long}
use Rattle.pins.specs.Run.{Chip, carried_out, chip_after, missed_in, output_of, output_after, output_at}
use Rattle.pins.specs.Counted.{level, pins_of, underway_of, none_yet, Clocked, ended_with, missed_with, CarriedOut, CarriedAll}
use Rattle.pins.proofs.Seen.{seen_next, few-begun, few-pulses, short}
use Rattle.pins.proofs.Carried.{held-is, ending, missed_by, ended_is, missed-is, chip-next, missed-next, missed-most, no_end, none-yet, byte_more, clock-more}

-- the record d, the array a and the output o are those that the run came with
pub record Held (d : Device) (a samples o : List ℕ) (i : ℕ) (array output sent : List ℕ) (device : Device) (missing : ℕ) (p : Pins) (u : Underway) : Type 0 where
  pub pins : p ≡ (seen (take i samples)).pins
  pub under : u ≡ underway_of (chip_after d a (take i samples)) (seen (take i samples)).taking
  pub bytes : take (length (seen (take i samples)).taking.sent) sent ≡ (seen (take i samples)).taking.sent
  pub chip : ◌≡◌ {A = Chip} (record { device = device; array = array }) (chip_after d a (take i samples))
  pub missed : missing ≡ missed_in d a (take i samples)
  pub shown : output ≡ map_at (window 0 i (output_at d a samples)) o

-- the same with the Select change of sample i taken
pub record Begun (d : Device) (a samples : List ℕ) (i : ℕ) (now : Levels) (array : List ℕ) (device : Device) (missing : ℕ) (u : Underway) : Type 0 where
  pub chip : ◌≡◌ {A = Chip} (record { device = device; array = array }) (chip_after d a (take (i + 1) samples))
  pub under : u ≡ underway_of (chip_after d a (take (i + 1) samples)) (cond (changes (seen (take i samples)).pins now) anew (seen (take i samples)).taking)
  pub missed : missing ≡ missed_in d a (take (i + 1) samples)

pub held_first : (d : Device) (a samples o sent : List ℕ) → Held d a samples o 0 a o sent d 0 rest none_yet
unfolding seen at_rest chip_after missed_in anew
held_first d a samples o sent =
    record { pins = refl; under = none-yet (record { device = d; array = a }); bytes = refl; chip = refl; missed = refl; shown = window-start 0 (output_at d a samples) o }

-- the numbers of what is under way
whole_is : (c : Chip) (t : Taking) {u : Underway} → u ≡ underway_of c t → u.whole ≡ length t.sent
unfolding underway_of
whole_is c t e = ap (λ (u : Underway). u.whole) e

pulses-is : (c : Chip) (t : Taking) {u : Underway} → u ≡ underway_of c t → u.pulses ≡ t.pulses
unfolding underway_of
pulses-is c t e = ap (λ (u : Underway). u.pulses) e

-- at most 65,536 bytes
pub whole-few : {d : Device} {a samples o : List ℕ} {i : ℕ} {array output sent : List ℕ} {device : Device} {missing : ℕ} {p : Pins} {u : Underway}
    → Held d a samples o i array output sent device missing p u → too_long samples ≡ false → u.whole ≤ 65536
whole-few {d} {a} {samples} {o} {i} h e = rw (whole_is (chip_after d a (take i samples)) (seen (take i samples)).taking h.under) (short samples i e)

shows : (c : Chip) (x : Seen) (k : Kept) {u : Underway} → pins_of k ≡ x.pins → u ≡ underway_of c x.taking → cond (k.select || k.holding) 2 (level u.bit) ≡ output_of c x
unfolding pins_of underway_of output_of
shows c x k p e = rw (← p, e, held-is c x.taking.shown)

module _ (d : Device) (a samples o : List ℕ) (i : ℕ) (lt : i < length samples) (fine : too_long samples ≡ false)
    {array output sent : List ℕ} {device : Device} {missing : ℕ} {p : Pins} {u : Underway} (h : Held d a samples o i array output sent device missing p u)
    {now : Levels} (en : now ≡ levels_of (get_or samples i 0)) where
  abbrev x : Seen
  x = seen (take i samples)

  abbrev y : Seen
  y = seen (take (i + 1) samples)

  abbrev begun : Taking
  begun = cond (changes x.pins now) anew x.taking

  next-is : y ≡ step x now
  next-is = seen_next samples i lt ∙ ap (step x) (sym en)

  taking-is : y.taking ≡ clocked (on_select x.pins now) now begun
  unfolding step next_taking
  taking-is = ap (λ (z : Seen). z.taking) next-is

  pins-are : p ≡ x.pins
  pins-are = h.pins

  chip-is : chip_after d a (take (i + 1) samples) ≡ cond (ends x.pins now) (carried_out (chip_after d a (take i samples)) (ending x.taking now)) (chip_after d a (take i samples))
  chip-is = rw en (chip-next d a samples i lt)

  missed-are : missed_in d a (take (i + 1) samples) ≡ missing + cond (ends x.pins now) (missed_by (chip_after d a (take i samples)) (ending x.taking now)) 0
  missed-are = rw (en, h.missed) (missed-next d a samples i lt)

  -- what the code hands to a transaction that ends
  abbrev Ended : List ℕ → Tally → List ℕ → Type 0
  Ended response r array' =
      CarriedOut (ended_with (record { device = device; array = array }) p now (take u.whole sent) u.pulses response)
      (missed_with (record { device = device; array = array }) p now (take u.whole sent) u.pulses response) r array'

  sent_is : take u.whole sent ≡ x.taking.sent
  sent_is = rw (whole_is (chip_after d a (take i samples)) x.taking h.under) h.bytes

  -- the sum with its bits missing
  pub missed_more : {r : Tally} {array' : List ℕ} (response : List ℕ) → 65536 ≤ length response → Ended response r array' → missing + r.missing ≡ missed_in d a (take (i + 1) samples)
  missed_more {r} response room q =
      let m : length x.taking.sent ≤ length response = omega (arith, short samples i fine) in
      let g : missed_with (record { device = device; array = array }) p now (take u.whole sent) u.pulses response ≡ cond (ends x.pins now) (missed_by (chip_after d a (take i samples)) (ending x.taking now)) 0
      = rw (h.chip, pins-are, sent_is, pulses-is (chip_after d a (take i samples)) x.taking h.under) (missed-is (chip_after d a (take i samples)) x.pins now x.taking response m) in
      ap (λ (n : ℕ). missing + n) (q.missing ∙ g) ∙ sym missed-are

  -- it fits 32 bits
  pub missed-fits : {r : Tally} {array' : List ℕ} (response : List ℕ) → 65536 ≤ length response → Ended response r array' → missing + r.missing ≤ most_missing
  missed-fits response room q = rw (missed_more response room q) (missed-most d a (take (i + 1) samples))

  -- Select changes
  pub begun-anew : {r : Tally} {array' : List ℕ} {u' : Underway} (response : List ℕ) → 65536 ≤ length response → changes p now ≡ true → Ended response r array' → u' ≡ none_yet
      → Begun d a samples i now array' r.device (missing + r.missing) u'
  begun-anew {r} {array'} {u'} response room e q n =
      let m : length x.taking.sent ≤ length response = omega (arith, short samples i fine) in
      let g : ended_with (record { device = device; array = array }) p now (take u.whole sent) u.pulses response ≡ chip_after d a (take (i + 1) samples)
      = rw (h.chip, pins-are, sent_is, pulses-is (chip_after d a (take i samples)) x.taking h.under) (ended_is (chip_after d a (take i samples)) x.pins now x.taking response m ∙ sym chip-is) in
      let k : ◌≡◌ {A = Chip} (record { device = r.device; array = array' }) (ended_with (record { device = device; array = array }) p now (take u.whole sent) u.pulses response) = rw (q.device, q.memory) in
      let c : changes x.pins now ≡ true = rw (← pins-are) e in
      record { chip = k ∙ g; under = n ∙ (rw c (none-yet (chip_after d a (take (i + 1) samples)))); missed = missed_more response room q }

  -- Select rises outside a hold: what carrying out promises is what the code hands to the transaction that ends
  pub ended-now : {r : Tally} {array' : List ℕ} (response : List ℕ) → ends p now ≡ true
      → CarriedOut (left (transacted device array (take u.whole sent) u.pulses now.w response)) (transacted device array (take u.whole sent) u.pulses now.w response).answer.missing r array' → Ended response r array'
  unfolding ended_with missed_with
  ended-now response e q = rw e q

  ended-not : (response : List ℕ) → ends p now ≡ false → Ended response (record { device = device; missing = 0 }) array
  unfolding ended_with missed_with
  ended-not response e = rw e (record { device = refl; memory = refl; missing = refl })

  -- Select changes, and no transaction ends
  pub begun-thrown : {u' : Underway} (response : List ℕ) → 65536 ≤ length response → changes p now ≡ true → ends p now ≡ false → u' ≡ none_yet → Begun d a samples i now array device missing u'
  begun-thrown response room e f n = rw (add-zero missing) at (begun-anew response room e (ended-not response f) n)

  -- Select stays
  pub begun-same : changes p now ≡ false → Begun d a samples i now array device missing u
  begun-same e =
      let c : changes x.pins now ≡ false = rw (← pins-are) e in
      let k : chip_after d a (take (i + 1) samples) ≡ chip_after d a (take i samples) = chip-is ∙ rw (no_end x.pins now c) in
      record { chip = h.chip ∙ sym k; under = rw (c, k) h.under; missed = sym (missed-are ∙ (rw (no_end x.pins now c) (add-zero missing))) }

  module _ {array' : List ℕ} {device' : Device} {missing' : ℕ} {u' : Underway} (b : Begun d a samples i now array' device' missing' u') {s : Pins} (eh : s ≡ on_select p now) where
    select-taken : s ≡ on_select x.pins now
    select-taken = eh ∙ ap (λ (q : Pins). on_select q now) pins-are

    pub begun-few : u'.pulses < 8
    begun-few = rw (pulses-is (chip_after d a (take (i + 1) samples)) begun b.under) (few-begun (changes x.pins now) x.taking (few-pulses (take i samples)))

    room_for : 65536 ≤ length sent → takes (on_select x.pins now) now ≡ true → begun.pulses ≡ 7 → length begun.sent < length sent
    room_for room t e =
        let l : length y.taking.sent ≡ length begun.sent + 1 = rw taking-is (byte_more (on_select x.pins now) now begun t e) in
        omega (arith, short samples (i + 1) fine)

    -- a byte that becomes whole has room
    pub begun-room : 65536 ≤ length sent → takes s now ≡ true → u'.pulses ≡ 7 → u'.whole < length sent
    begun-room room t e = rw (whole_is (chip_after d a (take (i + 1) samples)) begun b.under) (room_for room (rw (← select-taken) t) (sym (pulses-is (chip_after d a (take (i + 1) samples)) begun b.under) ∙ e))

    -- the bytes as Select is taken
    begun-bytes : take (length begun.sent) sent ≡ begun.sent
    unfolding anew
    begun-bytes = cond_ind (λ (t : Taking). take (length t.sent) sent ≡ t.sent) (changes x.pins now) refl h.bytes

    -- one sample more
    pub held_next : {u'' : Underway} (k : Kept) {sent' : List ℕ} {v : ℕ} → length output ≡ length o → length samples ≤ length o → 65536 ≤ length sent
        → Clocked u' device' array' sent s now u'' sent' → pins_of k ≡ on_hold (on_clock s now) now → v ≡ cond (k.select || k.holding) 2 (level u''.bit)
        → Held d a samples o (i + 1) array' (set output i v) sent' device' missing' (pins_of k) u''
    unfolding output_at output_after step next_pins
    held_next {u''} k {sent'} {v} len fits room q e ev =
        let c = chip_after d a (take (i + 1) samples) in
        let g : device' ≡ c.device = ap (λ (z : Chip). z.device) b.chip in
        let m : array' ≡ c.array = ap (λ (z : Chip). z.array) b.chip in
        let q' : Clocked (underway_of c begun) c.device c.array sent (on_select x.pins now) now u'' sent' = rw (← b.under, ← g, ← m, ← select-taken) q in
        let t = clock-more c begun sent begun-bytes (on_select x.pins now) now (room_for room) q' in
        let z : pins_of k ≡ y.pins = rw (e, next-is, select-taken) in
        let w : u'' ≡ underway_of c y.taking = rw taking-is t.0 in
        record {
          pins = z;
          under = w;
          bytes = rw taking-is t.1;
          chip = b.chip;
          missed = b.missed;
          shown = loop-step 0 i (output_at d a samples) o v h.shown (omega arith) (omega arith) (ev ∙ shows c y k z w);
        }

-- the run is over
pub held-last : {d : Device} {a samples o : List ℕ} {i : ℕ} {array output sent : List ℕ} {device : Device} {missing : ℕ} {p : Pins} {u : Underway}
    → Held d a samples o i array output sent device missing p u → i ≡ length samples → CarriedAll d a samples o (record { device = device; missing = missing }) array output
held-last {d} {a} {samples} {o} {i} {array} {output} {sent} {device} h e =
    let t : take i samples ≡ samples = take_all i samples (omega arith) in
    let c : ◌≡◌ {A = Chip} (record { device = device; array = array }) (chip_after d a samples) = h.chip ∙ ap (chip_after d a) t in
    record { device = ap (λ (z : Chip). z.device) c; memory = ap (λ (z : Chip). z.array) c; missing = h.missed ∙ ap (missed_in d a) t; shown = rw (← e) h.shown }
