-- The verdict on a transaction taken apart: which tests passed, and that it is exactly one of the three.
-- Assumes nothing.
use mathlib.Core.Path.{◌≡◌, refl, ◌∙◌}
use mathlib.Core.Bool.{Bool, true, false, cond, not, ◌&&◌, ◌||◌, false≢true}
use mathlib.Core.List.{List}
use Prim.Native.Nat.{ℕ, ◌≤◌}
use native.Mathlib.Omega.{arith}
use borrow.Author.Tests.{eqb-true, eqb-false, leb-true, ltb-false, not-false}
use lib.Dec.{eqb, leb, ltb}
use lib.ListN.{length}
use Rattle.slices.proofs.Choices.{both, past}
use Rattle.parts.specs.Parts.{figures_of}
use Rattle.device.specs.declared.Device.{Device}
use Rattle.device.specs.Device.{is_busy, is_deep, sound}
use Rattle.chip.specs.declared.table.Row.{Row}
use Rattle.chip.specs.declared.answers.Verdict.{Verdict}
use Rattle.chip.specs.declared.answers.Verdict.TheVariants.{Refused, Ignored, Executed}
use Rattle.chip.specs.Table.{address_of, row_in}
use Rattle.chip.specs.Answers.{host_number, writes_settings, guarded, frozen, as_needed, chip_number, decided, verdict_of}

-- ---- tests

-- the first without the second is ruled out
pub unless : (a b : Bool) → a && not b ≡ false → a ≡ true → b ≡ true
unless true b e t = not-false b e
unless false b e t = absurd (false≢true t)

-- the second holds where the first does
pub implied : (a b : Bool) → not a || b ≡ true → a ≡ true → b ≡ true
implied true b e t = e
implied false b e t = absurd (false≢true t)

-- ---- no number of the host

-- a call that the host side does not refuse
pub record Host (d : Device) (array n pulses response : ℕ) : Type 0 where
  pub sound : sound d ≡ true
  pub whole : array ≡ (figures_of d.part).bytes
  pub short : n ≤ 65536
  pub few : pulses ≤ 7
  pub room : n ≤ response

-- no refusal: every test of the host side passed
pub not-refused : (d : Device) (array n pulses response : ℕ) → host_number d array n pulses response ≡ 0 → Host d array n pulses response
unfolding host_number
not-refused d array n pulses response h =
    let p6 = past (not (sound d)) 5 _ h in
    let p2 = past (not (eqb array (figures_of d.part).bytes)) 1 _ p6.1 in
    let p3 = past (ltb 65536 n) 2 _ p2.1 in
    let p4 = past (ltb 7 pulses) 3 _ p3.1 in
    let p5 = past (ltb response n) 4 _ p4.1 in
    record {
      sound = not-false (sound d) p6.0;
      whole = eqb-true array (figures_of d.part).bytes (not-false (eqb array (figures_of d.part).bytes) p2.0);
      short = ltb-false 65536 n p3.0;
      few = ltb-false 7 pulses p4.0;
      room = ltb-false response n p5.0;
    }

-- ---- no number of the chip

-- n and the further pulses are as needed
pub record Needs (r : Row) (n pulses : ℕ) : Type 0 where
  pub least : r.least ≤ n
  pub most : n ≤ r.most
  pub unpulsed : r.no_pulses ≡ true → pulses ≡ 0

-- an instruction that the chip takes
pub record Taken (d : Device) (r : Row) (n pulses : ℕ) (w : Bool) (at : ℕ) : Type 0 where
  pub some : n ≡ 0 → ⊥
  pub known : r.known ≡ true
  pub busy : is_busy d.mode ≡ true → r.busy ≡ true
  pub deep : is_deep d.mode ≡ true → r.deep ≡ true
  pub needed : as_needed r n pulses ≡ true
  pub latch : r.latch ≡ true → d.latch ≡ true
  pub free : guarded r.turn (figures_of d.part) d at ≡ false
  pub unfrozen : writes_settings r.turn && d.srwd ≡ true → w ≡ true
  pub unlocked : frozen r.turn (figures_of d.part) d at ≡ false

pub needs : (r : Row) (n pulses : ℕ) → as_needed r n pulses ≡ true → Needs r n pulses
unfolding as_needed
needs r n pulses e =
    let p = both (leb r.least n && leb n r.most) (not r.no_pulses || eqb pulses 0) e in
    let q = both (leb r.least n) (leb n r.most) p.0 in
    record {
      least = leb-true r.least n q.0;
      most = leb-true n r.most q.1;
      unpulsed = λ s. eqb-true pulses 0 (implied r.no_pulses (eqb pulses 0) p.1 s);
    }

-- no ignorance: every test of the chip passed
pub not-ignored : (d : Device) (r : Row) (n pulses : ℕ) (w : Bool) (at : ℕ) → chip_number d r n pulses w at ≡ 0 → Taken d r n pulses w at
unfolding chip_number
not-ignored d r n pulses w at h =
    let p11 = past (eqb n 0) 10 _ h in
    let p14 = past (not r.known) 13 _ p11.1 in
    let p12 = past (is_busy d.mode && not r.busy) 11 _ p14.1 in
    let p13 = past (is_deep d.mode && not r.deep) 12 _ p12.1 in
    let p15 = past (not (as_needed r n pulses)) 14 _ p13.1 in
    let p16 = past (r.latch && not d.latch) 15 _ p15.1 in
    let p17 = past (guarded r.turn (figures_of d.part) d at) 16 _ p16.1 in
    let p18 = past (writes_settings r.turn && d.srwd && not w) 17 _ p17.1 in
    let p19 = past (frozen r.turn (figures_of d.part) d at) 18 _ p18.1 in
    record {
      some = eqb-false n 0 p11.0;
      known = not-false r.known p14.0;
      busy = unless (is_busy d.mode) r.busy p12.0;
      deep = unless (is_deep d.mode) r.deep p13.0;
      needed = not-false (as_needed r n pulses) p15.0;
      latch = unless r.latch d.latch p16.0;
      free = p17.0;
      unfrozen = unless (writes_settings r.turn && d.srwd) w p18.0;
      unlocked = p19.0;
    }

-- ---- the verdict

-- the three verdicts, by the number of the host and the number of the chip
pub data Decision (host chip : ℕ) : Verdict → Type 0 where
  refuses : (host ≡ 0 → ⊥) → Decision host chip (Refused host)
  ignores : host ≡ 0 → (chip ≡ 0 → ⊥) → Decision host chip (Ignored chip)
  executes : host ≡ 0 → chip ≡ 0 → Decision host chip Executed

-- a verdict is one of the three
pub decision : (host chip : ℕ) → Decision host chip (decided host chip)
unfolding decided
decision host chip = go (eqb host 0) refl (eqb chip 0) refl
  where
    go : (a : Bool) → eqb host 0 ≡ a → (b : Bool) → eqb chip 0 ≡ b → Decision host chip (cond a (cond b Executed (Ignored chip)) (Refused host))
    go true p true q = executes (eqb-true host 0 p) (eqb-true chip 0 q)
    go true p false q = ignores (eqb-true host 0 p) (eqb-false chip 0 q)
    go false p b q = refuses (eqb-false host 0 p)

-- and only one
pub one-verdict : {host chip : ℕ} {v w : Verdict} → Decision host chip v → Decision host chip w → v ≡ w
one-verdict (refuses a) (refuses b) = refl
one-verdict (refuses a) (ignores b c) = absurd (a b)
one-verdict (refuses a) (executes b c) = absurd (a b)
one-verdict (ignores a c) (refuses b) = absurd (b a)
one-verdict (ignores a c) (ignores b e) = refl
one-verdict (ignores a c) (executes b e) = absurd (c e)
one-verdict (executes a c) (refuses b) = absurd (b a)
one-verdict (executes a c) (ignores b e) = absurd (e c)
one-verdict (executes a c) (executes b e) = refl

refused-by : {host chip : ℕ} {v : Verdict} (k : ℕ) → Decision host chip v → v ≡ Refused k → (host ≡ k) × (k ≡ 0 → ⊥)
refused-by {host} k (refuses a) e = let q : host ≡ k = cc in (q, λ z. a (q ∙ z))
refused-by k (ignores a b) e = let z : ◌≡◌ {A = ℕ} 0 1 = cc in absurd (omega arith)
refused-by k (executes a b) e = let z : ◌≡◌ {A = ℕ} 0 1 = cc in absurd (omega arith)

ignored-by : {host chip : ℕ} {v : Verdict} (k : ℕ) → Decision host chip v → v ≡ Ignored k → (host ≡ 0) × (chip ≡ k) × (k ≡ 0 → ⊥)
ignored-by k (refuses a) e = let z : ◌≡◌ {A = ℕ} 0 1 = cc in absurd (omega arith)
ignored-by {chip = chip} k (ignores a b) e = let q : chip ≡ k = cc in (a, q, λ z. b (q ∙ z))
ignored-by k (executes a b) e = let z : ◌≡◌ {A = ℕ} 0 1 = cc in absurd (omega arith)

executed-by : {host chip : ℕ} {v : Verdict} → Decision host chip v → v ≡ Executed → (host ≡ 0) × (chip ≡ 0)
executed-by (refuses a) e = let z : ◌≡◌ {A = ℕ} 0 1 = cc in absurd (omega arith)
executed-by (ignores a b) e = let z : ◌≡◌ {A = ℕ} 0 1 = cc in absurd (omega arith)
executed-by (executes a b) e = (a, b)

module _ (d : Device) (array : ℕ) (sent : List ℕ) (pulses : ℕ) (w : Bool) (response : ℕ) where
  -- the number of the host and the number of the chip
  abbrev pub host : ℕ
  host = host_number d array (length sent) pulses response

  abbrev pub chip : ℕ
  chip = chip_number d (row_in d sent) (length sent) pulses w (address_of (figures_of d.part) sent)

  pub verdict-is : Decision host chip (verdict_of d array sent pulses w response)
  unfolding verdict_of
  verdict-is = decision host chip

  -- refused, with the number of the host
  pub refused : (k : ℕ) → verdict_of d array sent pulses w response ≡ Refused k → (host ≡ k) × (k ≡ 0 → ⊥)
  refused k e = refused-by k verdict-is e

  -- ignored, with the number of the chip
  pub ignored : (k : ℕ) → verdict_of d array sent pulses w response ≡ Ignored k → Host d array (length sent) pulses response × (chip ≡ k) × (k ≡ 0 → ⊥)
  ignored k e =
      let p = ignored-by k verdict-is e in
      (not-refused d array (length sent) pulses response p.0, p.1, p.2)

  -- executed: every test passed
  pub executed : verdict_of d array sent pulses w response ≡ Executed
      → Host d array (length sent) pulses response × Taken d (row_in d sent) (length sent) pulses w (address_of (figures_of d.part) sent)
  executed e =
      let p = executed-by verdict-is e in (
        not-refused d array (length sent) pulses response p.0,
        not-ignored d (row_in d sent) (length sent) pulses w (address_of (figures_of d.part) sent) p.1,
      )
