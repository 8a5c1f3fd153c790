-- A sound record is read back from its packing, and what is read back packs to the same bytes.
-- Assumes nothing.
use mathlib.Core.Path.{◌≡◌, refl, sym, ap, ◌∙◌}
use mathlib.Core.Bool.{Bool, true, false, ◌&&◌}
use mathlib.Core.List.{List, ◌++◌}
use Prim.Native.Nat.{ℕ, ◌≤◌, ◌<◌}
use native.Mathlib.Omega.{arith}
use lib.Dec.{eqb, leb}
use lib.ListN.{length, take, drop}
use lib.Seq.{drop_at, take_at, drop-drop}
use borrow.Author.Tests.{eqb-true, leb-true, ltb-true}
use Rattle.slices.specs.Bytes.{word, word_at}
use Rattle.slices.proofs.Choices.{both}
use Rattle.slices.proofs.Sames.{same_self, same-is}
use Rattle.slices.proofs.Words.{word_number, word-drop}
use Rattle.parts.specs.Parts.{figures_of}
use Rattle.parts.proofs.Laws.{sane}
use Rattle.device.specs.declared.Mode.{Mode}
use Rattle.device.specs.declared.Mode.TheVariants.{Standby, Busy, Deep}
use Rattle.device.specs.declared.cycle.Kind.{Kind}
use Rattle.device.specs.declared.cycle.Kind.TheVariants.{Idle, Page, Sector, All, Settings, PageWrite, PageErase, Subsector}
use Rattle.device.specs.declared.Device.{Device}
use Rattle.device.specs.Cycles.{both_same, named_sound}
use Rattle.device.specs.Device.{sound, mode_sound, ranged_of, latch_at, is_busy}
use Rattle.device.specs.Packing.{packed_length, front_length, named_place, locks_place, bit, mode_number, ticks_of, mode_of, kind_number, kind_of, front_of, pack_of, fields_of, formed, unpack_answer, unpack_of}
use Rattle.device.proofs.Calls.{length_front, length-pack, answered, unpacked-good}
use Rattle.device.proofs.Sound.{Sound, sound-has, ranged-most, cycle_has, slots-long, locks-long}

-- a bit
bit-back : (x : Bool) → eqb (bit x) 1 ≡ x
bit-back true = refl
bit-back false = refl

-- a duration or ticks left of a sound record
ranged-back : (x : ℕ) → ranged_of x ≡ true → word_at (word x) 0 ≡ x
ranged-back x h = let l : x ≤ 1000000 = ranged-most x h in word_number x (omega arith)

mode-back : (m : Mode) (l s : Bool) → mode_sound m l s ≡ true → mode_of (mode_number m) (word_at (word (ticks_of m)) 0) ≡ m
mode-back Standby l s h = refl
mode-back (Busy t) l s h = ap Busy (ranged-back t (both (ranged_of t) (both_same l (latch_at t)) h).0)
mode-back Deep l s h = refl

kind-back : (k : Kind) → kind_of (kind_number k) ≡ k
kind-back Idle = refl
kind-back Page = refl
kind-back Sector = refl
kind-back All = refl
kind-back Settings = refl
kind-back PageWrite = refl
kind-back PageErase = refl
kind-back Subsector = refl

-- the address of a sound record's cycle
address-back : (d : Device) → Sound d → word_at (word d.cycle.address) 0 ≡ d.cycle.address
address-back d s =
    let l : d.cycle.address < (figures_of d.part).bytes = ltb-true _ _ (cycle_has d.cycle (figures_of d.part) (is_busy d.mode) s.cycle-fits).within in
    word_number d.cycle.address (omega (arith, (sane d.part).few))

-- the number of bytes that a sound record's cycle named
named-most : (n : ℕ) (used : Bool) → named_sound n used ≡ true → n ≤ 256
unfolding named_sound
named-most n true h = leb-true n 256 (both (leb 1 n) (leb n 256) h).1
named-most n false h = let e : n ≡ 0 = eqb-true n 0 h in omega arith

named_back : (d : Device) → Sound d → word_at (word d.cycle.named) 0 ≡ d.cycle.named
named_back d s =
    let l : d.cycle.named ≤ 256 = named-most d.cycle.named _ (cycle_has d.cycle (figures_of d.part) (is_busy d.mode) s.cycle-fits).named-used in
    word_number d.cycle.named (omega arith)

-- what stands behind the front
module _ (front slots w locks : List ℕ) (l : length front ≡ front_length) (m : length slots ≡ 256) (n : length w ≡ 4) where
  behind : drop front_length (front ++ (slots ++ (w ++ locks))) ≡ slots ++ (w ++ locks)
  behind = drop_at front (slots ++ (w ++ locks)) front_length l

  slots-there : take 256 (drop front_length (front ++ (slots ++ (w ++ locks)))) ≡ slots
  slots-there = rw behind (take_at slots (w ++ locks) 256 m)

  word-there : drop named_place (front ++ (slots ++ (w ++ locks))) ≡ w ++ locks
  word-there = sym (drop-drop 256 front_length (front ++ (slots ++ (w ++ locks)))) ∙ ap (drop 256) behind ∙ drop_at slots (w ++ locks) 256 m

  locks-there : drop locks_place (front ++ (slots ++ (w ++ locks))) ≡ locks
  locks-there = sym (drop-drop 4 named_place (front ++ (slots ++ (w ++ locks)))) ∙ ap (drop 4) word-there ∙ drop_at w locks 4 n

named-pack : (d : Device) → Sound d → length d.cycle.slots ≡ 256 → word_at (pack_of d) named_place ≡ d.cycle.named
unfolding pack_of
named-pack d s m =
    word-drop named_place (pack_of d) ∙ ap (λ (t : List ℕ). word_at t 0) (word-there (front_of d) d.cycle.slots (word d.cycle.named) d.locks (length_front d) m refl) ∙ named_back d s

-- the fields of a sound record's packing are its own
fields-pack : (d : Device) → Sound d → length d.cycle.slots ≡ 256 → fields_of (pack_of d) ≡ d
unfolding fields_of pack_of front_of
fields-pack d s m = λ i.
    record {
      part = d.part;
      bp = d.bp;
      srwd = bit-back d.srwd i;
      latch = bit-back d.latch i;
      mode = mode-back d.mode d.latch (figures_of d.part).sleeps s.mode-fits i;
      program = ranged-back d.program s.program-fits i;
      sector_erase = ranged-back d.sector_erase s.sector-fits i;
      bulk_erase = ranged-back d.bulk_erase s.bulk-fits i;
      write_status = ranged-back d.write_status s.status-fits i;
      cycle =
          record {
            kind = kind-back d.cycle.kind i;
            address = address-back d s i;
            slots = slots-there (front_of d) d.cycle.slots (word d.cycle.named) d.locks refl m refl i;
            bp = d.cycle.bp;
            srwd = bit-back d.cycle.srwd i;
            named = named-pack d s m i;
          };
      locks = locks-there (front_of d) d.cycle.slots (word d.cycle.named) d.locks refl m refl i;
    }

-- so it is well formed
formed-pack : (d : Device) → fields_of (pack_of d) ≡ d → formed (pack_of d) ≡ true
unfolding formed
formed-pack d e = rw e (same_self (pack_of d))

-- THEOREM: a sound record's packing is unpacked to that record
pub unpack-pack : (d : Device) → sound d ≡ true → unpack_of (pack_of d) ≡ record { answer = 0; device = d }
unpack-pack d h =
    let e : fields_of (pack_of d) ≡ d = fields-pack d (sound-has d h) (slots-long d h) in
    let t : formed (pack_of d) && sound (fields_of (pack_of d)) ≡ true = simp (formed-pack d e, e, h) in
    unpacked-good (pack_of d) (length-pack d (slots-long d h) (locks-long d h)) t ∙ rw e

-- what bytes are that unpack answers 0
pub record Opened (b : List ℕ) : Type 0 where
  pub long : length b ≡ packed_length
  pub well : formed b ≡ true
  pub is-sound : sound (fields_of b) ≡ true
  pub fields : (unpack_of b).device ≡ fields_of b

pub opened : (b : List ℕ) → (unpack_of b).answer ≡ 0 → Opened b
unfolding unpack_of unpack_answer
opened b h =
    let p : (eqb (length b) packed_length ≡ true) × (formed b && sound (fields_of b) ≡ true) = answered (eqb (length b) packed_length) (formed b && sound (fields_of b)) h in
    let t : (formed b ≡ true) × (sound (fields_of b) ≡ true) = both (formed b) (sound (fields_of b)) p.1 in
    record { long = eqb-true (length b) packed_length p.0; well = t.0; is-sound = t.1; fields = rw (p.0, p.1) }

-- well-formed bytes are the packing of the record whose fields stand in them
pack-fields : (b : List ℕ) → formed b ≡ true → pack_of (fields_of b) ≡ b
unfolding formed
pack-fields b well = sym (same-is b (pack_of (fields_of b)) well)

-- THEOREM: whatever unpacks, packs to the same bytes
pub pack-unpack : (b : List ℕ) → (unpack_of b).answer ≡ 0 → pack_of (unpack_of b).device ≡ b
pack-unpack b h =
    let o : Opened b = opened b h in
    ap pack_of o.fields ∙ pack-fields b o.well

-- a sound record of which the bytes are the packing
pub record Packing (b : List ℕ) : Type 0 where
  pub of : Device
  pub of-sound : sound of ≡ true
  pub packs : pack_of of ≡ b

-- THEOREM: only packings of sound records are accepted
pub only-packings : (b : List ℕ) → (unpack_of b).answer ≡ 0 → Packing b
only-packings b h =
    let o : Opened b = opened b h in
    record { of = fields_of b; of-sound = o.is-sound; packs = pack-fields b o.well }
