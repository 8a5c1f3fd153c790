-- Laws of events and of lists of them: appended lists, what stays, what does not look at the array, and what stands in a response.
-- Assumes nothing.
use mathlib.Core.Path.{◌≡◌, refl, sym, ap, ◌∙◌}
use mathlib.Core.Bool.{Bool, true, false, cond, ◌&&◌}
use Rattle.std.proofs.Math.Bool.{and_assoc}
use mathlib.Core.List.{List, [], ◌∷◌, ◌++◌}
use Prim.Native.Nat.{ℕ, zero, suc, ◌+◌, ◌-◌, ◌≤◌, ◌<◌}
use native.Mathlib.Nat.{zero-add, add_assoc}
use native.Mathlib.Omega.{arith}
use borrow.Author.Tests.{eq-eqb, le-ltb, lt-ltb}
use lib.Dec.{ltb}
use lib.ListN.{length, replicate, length-replicate}
use Rattle.slices.specs.Changed.{map_at, window, put}
use Rattle.slices.specs.Chosen.{on_zero}
use Rattle.slices.proofs.Choices.{zero-ind}
use Rattle.slices.proofs.Maps.{map-blind}
use Rattle.slices.proofs.Windows.{window-in}
use Rattle.parts.specs.Parts.{figures_of}
use Rattle.device.specs.declared.Mode.{Mode}
use Rattle.device.specs.declared.Mode.TheVariants.{Standby, Busy, Deep}
use Rattle.device.specs.declared.Device.{Device}
use Rattle.device.specs.Chip.{chip}
use Rattle.device.specs.Device.{sound, running}
use Rattle.device.specs.Time.{after_cycle, finished, unlocked, powered_up, lost, waited_in, waited, time_number, mask_number, wait_call, power_up_call, loss_call}
use Rattle.device.proofs.Ends.{powered-length, lost-length, waited-length}
use Rattle.chip.specs.declared.answers.Verdict.{Verdict}
use Rattle.chip.specs.declared.answers.Verdict.TheVariants.{Refused, Ignored, Executed}
use Rattle.chip.specs.declared.Answer.{Answer}
use Rattle.chip.specs.Table.{address_of, row_in}
use Rattle.chip.specs.Answers.{host_number, chip_number, verdict_of}
use Rattle.chip.specs.Line.{heard_row, lined, first_of, count_of}
use Rattle.chip.specs.Outcome.{outcome_of, transacted}
use Rattle.chip.specs.Events.{Chip, Good, Event, sends, waits, starts, loses, every, Reply, sent, left, after, reply, run, missed, story}
use Rattle.chip.proofs.Lines.{span-is}
use Rattle.chip.proofs.Verdicts.{Decision, refuses, ignores, executes, verdict-is, not-refused}
use Rattle.chip.proofs.Rules.{array-stays, response-length, stays-sound, make-stays}
use Rattle.chip.proofs.Records.{wait-sound, power-up-sound, loss-sound, wait-make, power-up-make, loss-make}

-- ---- appended lists

pub run-append : (a b : List Event) (c : Chip) → run (a ++ b) c ≡ run b (run a c)
run-append [] b c = refl
run-append (e ∷ a) b c = run-append a b (after e c)

pub story-append : (a b : List Event) (c : Chip) → story (a ++ b) c ≡ story a c ++ story b (run a c)
story-append [] b c = refl
story-append (e ∷ a) b c = ap (λ (t : List Reply). reply e c ∷ t) (story-append a b (after e c))

pub story-length : (es : List Event) (c : Chip) → length (story es c) ≡ length es
story-length [] c = refl
story-length (e ∷ es) c = ap suc (story-length es (after e c))

pub missed-append : (a b : List Event) (c : Chip) → missed (a ++ b) c ≡ missed a c + missed b (run a c)
missed-append [] b c = sym (zero-add (missed b c))
missed-append (e ∷ a) b c = ap (λ (n : ℕ). (reply e c).answer.missing + n) (missed-append a b (after e c)) ∙ sym (add_assoc (reply e c).answer.missing (missed a (after e c)) (missed b (run a (after e c))))

-- a test of an appended list
pub every_append : (test : Event → Bool) (a b : List Event) → every test (a ++ b) ≡ every test a && every test b
every_append test [] b = refl
every_append test (e ∷ a) b = ap (λ (t : Bool). test e && t) (every_append test a b) ∙ sym (and_assoc (test e) (every test a) (every test b))

-- ---- what every event keeps, every list keeps

pub run-keeps : (P : Chip → Type 0) → ((e : Event) (c : Chip) → P c → P (after e c)) → (es : List Event) (c : Chip) → P c → P (run es c)
run-keeps P step [] c p = p
run-keeps P step (e ∷ es) c p = run-keeps P step es (after e c) (step e c p)

-- the array keeps its length
pub after-length : (e : Event) (c : Chip) → length (after e c).array ≡ length c.array
unfolding sent wait_call power_up_call loss_call
after-length (sends bytes p w) c = ap length (array-stays c.device c.array bytes p w (replicate (length bytes) 0))
after-length (waits t) c = zero-ind (λ (n : Chip). length n.array ≡ length c.array) (time_number c.device (length c.array) 0) (waited-length c t) refl
after-length starts c = zero-ind (λ (n : Chip). length n.array ≡ length c.array) (time_number c.device (length c.array) 0) (powered-length c) refl
after-length (loses mask told) c = zero-ind (λ (n : Chip). length n.array ≡ length c.array) (time_number c.device (length c.array) (mask_number (length mask))) (lost-length c mask told) refl

-- the record keeps its part
pub after-part : (e : Event) (c : Chip) → (after e c).device.part ≡ c.device.part
unfolding sent
after-part (sends bytes p w) c = (make-stays c.device c.array bytes p w (replicate (length bytes) 0)).part
after-part (waits t) c = (wait-make c t).part
after-part starts c = (power-up-make c).part
after-part (loses mask told) c = (loss-make c mask told).part

-- a sound record stays sound
pub after-sound : (e : Event) (c : Chip) → sound c.device ≡ true → sound (after e c).device ≡ true
unfolding sent
after-sound (sends bytes p w) c s = stays-sound c.device c.array bytes p w (replicate (length bytes) 0) s
after-sound (waits t) c s = wait-sound c t s
after-sound starts c s = power-up-sound c s
after-sound (loses mask told) c s = loss-sound c mask told s

pub after-good : (e : Event) (c : Chip) → Good c → Good (after e c)
after-good e c g = record { sound = after-sound e c g.sound; whole = after-length e c ∙ (g.whole ∙ ap (λ (p : ℕ). (figures_of p).bytes) (sym (after-part e c))) }

pub run-good : (es : List Event) (c : Chip) → Good c → Good (run es c)
run-good = run-keeps Good after-good

pub run_length : (es : List Event) (c : Chip) → length (run es c).array ≡ length c.array
run_length [] c = refl
run_length (e ∷ es) c = run_length es (after e c) ∙ after-length e c

-- ---- number, first, count and next record do not look at the array

-- the same number, first driven position and count
pub record Same (a b : Answer) : Type 0 where
  pub number : a.number ≡ b.number
  pub first : a.first ≡ b.first
  pub count : a.count ≡ b.count

module _ (d : Device) (xs ys bytes : List ℕ) where
  -- what first and count are as the code finds them has no array in it
  same_span : (first_of d xs bytes ≡ first_of d ys bytes) × (count_of d xs bytes ≡ count_of d ys bytes)
  same_span =
      let p = span-is d xs bytes (heard_row d bytes).drive refl in
      let q = span-is d ys bytes (heard_row d bytes).drive refl in
      (sym p.0 ∙ q.0, sym p.1 ∙ q.1)

  module _ (r s : List ℕ) where
    pub same_answer : (v : Verdict) → Same (outcome_of v d xs bytes r).answer (outcome_of v d ys bytes s).answer
    unfolding outcome_of
    same_answer (Refused k) = record { number = refl; first = refl; count = refl }
    same_answer (Ignored k) = record { number = refl; first = refl; count = refl }
    same_answer Executed = record { number = refl; first = same_span.0; count = same_span.1 }

    pub same-device : (v : Verdict) → (outcome_of v d xs bytes r).device ≡ (outcome_of v d ys bytes s).device
    unfolding outcome_of
    same-device (Refused k) = refl
    same-device (Ignored k) = refl
    same-device Executed = refl

-- two chips that differ in the bytes of the array alone
pub record Alike (a b : Chip) : Type 0 where
  pub device : a.device ≡ b.device
  pub long : length a.array ≡ length b.array

sent-alike : (a b : Chip) → Alike a b → (bytes : List ℕ) (p : ℕ) (w : Bool) → Same (sent a bytes p w).answer (sent b bytes p w).answer × ((sent a bytes p w).device ≡ (sent b bytes p w).device)
unfolding sent transacted
sent-alike a b k bytes p w =
    let r : List ℕ = replicate (length bytes) 0 in
    rw (k.device, k.long) (same_answer b.device a.array b.array bytes r r _, same-device b.device a.array b.array bytes r r _)

-- what a number chooses of two pairs of chips with the same records
zero-devices : (n : ℕ) (x y a b : Chip) → x.device ≡ y.device → a.device ≡ b.device → (on_zero n x a).device ≡ (on_zero n y b).device
zero-devices zero x y a b e f = e
zero-devices (suc n) x y a b e f = f

waited-alike : (a b : Chip) → a.device ≡ b.device → (t : ℕ) → (waited a t).device ≡ (waited b t).device
unfolding waited finished
waited-alike a b e t = ap (λ (m : Mode). (waited_in m a t).device) (ap (λ (d : Device). d.mode) e) ∙ go b.device.mode
  where
    go : (m : Mode) → (waited_in m a t).device ≡ (waited_in m b t).device
    go Standby = e
    go (Busy left) = on (ltb t left)
      where
        on : (s : Bool) → (cond s (chip (running a.device (left - t)) a.array) (finished a)).device ≡ (cond s (chip (running b.device (left - t)) b.array) (finished b)).device
        on true = ap (λ (d : Device). running d (left - t)) e
        on false = ap (λ (d : Device). after_cycle d true) e
    go Deep = e

-- the number of a call of time or power, and the record that it leaves, do not look at the bytes either
time-alike : (a b : Chip) → Alike a b → (n : ℕ) → time_number a.device (length a.array) n ≡ time_number b.device (length b.array) n
time-alike a b k n = rw (k.device, k.long)

pub after-alike : (e : Event) (a b : Chip) → Alike a b → Alike (after e a) (after e b)
unfolding wait_call power_up_call loss_call powered_up finished lost
after-alike e a b k = record { device = devices e; long = after-length e a ∙ (k.long ∙ sym (after-length e b)) }
  where
    devices : (e : Event) → (after e a).device ≡ (after e b).device
    devices (sends bytes p w) = (sent-alike a b k bytes p w).1
    devices (waits t) = rw (time-alike a b k 0) (zero-devices (time_number b.device (length b.array) 0) (waited a t) (waited b t) a b (waited-alike a b k.device t) k.device)
    devices starts = rw (time-alike a b k 0) (zero-devices (time_number b.device (length b.array) 0) (powered_up a) (powered_up b) a b (ap (λ (d : Device). unlocked (after_cycle d true)) k.device) k.device)
    devices (loses mask told) =
        rw (time-alike a b k (mask_number (length mask)))
        (zero-devices (time_number b.device (length b.array) (mask_number (length mask))) (lost a mask told) (lost b mask told) a b (ap (λ (d : Device). unlocked (after_cycle d told)) k.device) k.device)

pub reply-alike : (e : Event) (a b : Chip) → Alike a b → Same (reply e a).answer (reply e b).answer
unfolding wait_call power_up_call loss_call
reply-alike (sends bytes p w) a b k = (sent-alike a b k bytes p w).0
reply-alike (waits t) a b k = rw (k.device, k.long) (record { number = refl; first = refl; count = refl })
reply-alike starts a b k = rw (k.device, k.long) (record { number = refl; first = refl; count = refl })
reply-alike (loses mask told) a b k = rw (k.device, k.long) (record { number = refl; first = refl; count = refl })

-- so in each place of two stories
abbrev pub AllSame : List Reply → List Reply → Type 0
AllSame [] [] = Unit {0}
AllSame [] (t ∷ ts) = ⊥
AllSame (s ∷ ss) [] = ⊥
AllSame (s ∷ ss) (t ∷ ts) = Same s.answer t.answer × AllSame ss ts

pub run-alike : (es : List Event) (a b : Chip) → Alike a b → Alike (run es a) (run es b) × AllSame (story es a) (story es b)
run-alike [] a b k = (k, tt)
run-alike (e ∷ es) a b k =
    let h = run-alike es (after e a) (after e b) (after-alike e a b k) in
    (h.0, (reply-alike e a b k, h.1))

-- ---- the response

-- none of 6, 2, 3, 4, 5
pub no-refusal : (d : Device) (len n p r : ℕ) → sound d ≡ true → len ≡ (figures_of d.part).bytes → n ≤ 65536 → p ≤ 7 → n ≤ r → host_number d len n p r ≡ 0
unfolding host_number
no-refusal d len n p r s l m q h = rw (s, eq-eqb len (figures_of d.part).bytes l, le-ltb 65536 n m, le-ltb 7 p q, le-ltb r n h)

same-verdict : (d : Device) (array : ℕ) (bytes : List ℕ) (p : ℕ) (w : Bool) (r s : ℕ) → length bytes ≤ r → length bytes ≤ s → verdict_of d array bytes p w r ≡ verdict_of d array bytes p w s
unfolding verdict_of host_number
same-verdict d array bytes p w r s room other = rw (le-ltb r (length bytes) room, le-ltb s (length bytes) other)

-- two responses with room for the line: answer, record and array are the same
pub any-response : (d : Device) (array bytes : List ℕ) (p : ℕ) (w : Bool) (r s : List ℕ) → length bytes ≤ length r → length bytes ≤ length s
    → ((transacted d array bytes p w r).answer ≡ (transacted d array bytes p w s).answer) × ((transacted d array bytes p w r).device ≡ (transacted d array bytes p w s).device)
    × ((transacted d array bytes p w r).array ≡ (transacted d array bytes p w s).array)
unfolding transacted outcome_of
any-response d array bytes p w r s room other = rw (same-verdict d (length array) bytes p w (length r) (length s) room other) (same (verdict_of d (length array) bytes p w (length s)))
  where
    same : (v : Verdict) → ((outcome_of v d array bytes r).answer ≡ (outcome_of v d array bytes s).answer) × ((outcome_of v d array bytes r).device ≡ (outcome_of v d array bytes s).device)
        × ((outcome_of v d array bytes r).array ≡ (outcome_of v d array bytes s).array)
    same (Refused k) = (refl, refl, refl)
    same (Ignored k) = (refl, refl, refl)
    same Executed = (refl, refl, refl)

-- with room, they are those of the event
pub sent-room : (c : Chip) (bytes : List ℕ) (p : ℕ) (w : Bool) (r : List ℕ) → length bytes ≤ length r
    → ((transacted c.device c.array bytes p w r).answer ≡ (sent c bytes p w).answer) × ((transacted c.device c.array bytes p w r).device ≡ (sent c bytes p w).device)
    × ((transacted c.device c.array bytes p w r).array ≡ (sent c bytes p w).array)
unfolding sent
sent-room c bytes p w r room =
    let zeros : List ℕ = replicate (length bytes) 0 in
    let l : length zeros ≡ length bytes = length-replicate {A = ℕ} (length bytes) 0 in
    any-response c.device c.array bytes p w r zeros room (omega arith)

module _ (c : Chip) (g : Good c) (bytes : List ℕ) (p : ℕ) (w : Bool) (few : length bytes ≤ 65536) (pulses : p ≤ 7) where
  abbrev zeros : List ℕ
  zeros = replicate (length bytes) 0

  long : length zeros ≡ length bytes
  long = length-replicate (length bytes) 0

  fine : (r : ℕ) → length bytes ≤ r → host_number c.device (length c.array) (length bytes) p r ≡ 0
  fine r room = no-refusal c.device (length c.array) (length bytes) p r g.sound g.whole few pulses room

  -- a response of the transaction's own length, whatever stood in it: all of the outcome is that of the event
  pub sent_is : (r : List ℕ) → length r ≡ length bytes → transacted c.device c.array bytes p w r ≡ sent c bytes p w
  unfolding sent transacted outcome_of lined
  sent_is r e =
      let z : length r ≡ length zeros = e ∙ sym long in
      rw (← z) (go (verdict-is c.device (length c.array) bytes p w (length r)))
    where
      lines : map_at (lined c.device c.array bytes) r ≡ map_at (lined c.device c.array bytes) zeros
      lines = map-blind _ r zeros (e ∙ sym long) (λ i x y lt. let k : i < length bytes = rw (← long) lt in rw (lt-ltb i (length bytes) k))

      blank : map_at (window 0 (length bytes) (put 255)) r ≡ map_at (window 0 (length bytes) (put 255)) zeros
      blank = map-blind _ r zeros (e ∙ sym long) (λ i x y lt. let k : i < length bytes = rw (← long) lt in window-in 0 (length bytes) (put 255) i x (omega arith) k ∙ sym (window-in 0 (length bytes) (put 255) i y (omega arith) k))

      go : {v : Verdict} → Decision (host_number c.device (length c.array) (length bytes) p (length r)) (chip_number c.device (row_in c.device bytes) (length bytes) p w (address_of (figures_of c.device.part) bytes)) v
          → outcome_of v c.device c.array bytes r ≡ outcome_of v c.device c.array bytes zeros
      go (refuses a) = absurd (a (fine (length r) (omega arith)))
      go (ignores a b) = rw blank
      go (executes a b) = rw lines

-- a line is as long as what was sent
pub line-length : (c : Chip) (bytes : List ℕ) (p : ℕ) (w : Bool) → length (sent c bytes p w).response ≡ length bytes
unfolding sent
line-length c bytes p w = response-length c.device c.array bytes p w (replicate (length bytes) 0) ∙ length-replicate (length bytes) 0

-- a call that the host side refuses changes nothing: record, array and response are as they came
pub refused-nothing : (c : Chip) (bytes : List ℕ) (p : ℕ) (w : Bool) (r : List ℕ) → (host_number c.device (length c.array) (length bytes) p (length r) ≡ 0 → ⊥)
    → ((transacted c.device c.array bytes p w r).device ≡ c.device) × ((transacted c.device c.array bytes p w r).array ≡ c.array) × ((transacted c.device c.array bytes p w r).response ≡ r)
unfolding transacted outcome_of
refused-nothing c bytes p w r h = go (verdict-is c.device (length c.array) bytes p w (length r))
  where
    go : {v : Verdict} → Decision (host_number c.device (length c.array) (length bytes) p (length r)) (chip_number c.device (row_in c.device bytes) (length bytes) p w (address_of (figures_of c.device.part) bytes)) v
        → ((outcome_of v c.device c.array bytes r).device ≡ c.device) × ((outcome_of v c.device c.array bytes r).array ≡ c.array) × ((outcome_of v c.device c.array bytes r).response ≡ r)
    go (refuses a) = (refl, refl, refl)
    go (ignores a b) = absurd (h a)
    go (executes a b) = absurd (h a)

-- a call that it does not refuse leaves the chip as the event does, whatever the response
pub taken-as-event : (c : Chip) (bytes : List ℕ) (p : ℕ) (w : Bool) (r : List ℕ) → host_number c.device (length c.array) (length bytes) p (length r) ≡ 0
    → left (transacted c.device c.array bytes p w r) ≡ after (sends bytes p w) c
taken-as-event c bytes p w r h = let e = sent-room c bytes p w r (not-refused c.device (length c.array) (length bytes) p (length r) h).room in rw (e.1, e.2)
