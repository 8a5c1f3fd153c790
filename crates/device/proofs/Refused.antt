-- Byte strings that unpack refuses, and accepted ones beside them, computed: the first is accepted, the last is empty, and the others differ from the first, or from a busy one, in a few bytes.
-- Assumes nothing.
use mathlib.Core.Path.{◌≡◌, refl}
use mathlib.Core.List.{List, [], ◌∷◌, ◌++◌}
use Prim.Native.Nat.{ℕ}
use lib.ListN.{set, take, replicate}
use Rattle.parts.specs.Parts.{figures_of}
use Rattle.device.specs.Locks.{locks_sound}
use Rattle.device.specs.Cycles.{no_slots, slots_sound, named_sound, cycle_sound}
use Rattle.device.specs.Device.{sound, latch_at}
use Rattle.device.specs.Packing.{front_of, pack_of, formed, fields_of, unpack_answer}

-- the bench part in standby with durations 3, 5, 9, 2
unfoldable pub accepted : List ℕ
accepted = (0 ∷ 0 ∷ 0 ∷ 0 ∷ 0 ∷ 0 ∷ 0 ∷ 0 ∷ 0 ∷ 0 ∷ 0 ∷ 0 ∷ 3 ∷ 0 ∷ 0 ∷ 0 ∷ 5 ∷ 0 ∷ 0 ∷ 0 ∷ 9 ∷ 0 ∷ 0 ∷ 0 ∷ 2 ∷ 0 ∷ 0 ∷ 0 ∷ []) ++ replicate 276 0

-- the same with 7 ticks left in a cycle of a kind, the latch set
unfoldable pub busy-with : ℕ → List ℕ
busy-with kind = set (set (set (set accepted 3 1) 4 1) 8 7) 28 kind

-- the same on part 6
unfoldable pub pe-with : ℕ → List ℕ
pe-with kind = set (busy-with kind) 0 6

pub record Refusals : Type 0 where
  pub as_is : unpack_answer accepted ≡ 0
  pub part : unpack_answer (set accepted 0 7) ≡ 6
  pub bp : unpack_answer (set accepted 1 4) ≡ 6
  pub srwd : unpack_answer (set accepted 2 2) ≡ 6
  pub latch : unpack_answer (set accepted 3 2) ≡ 6
  pub mode : unpack_answer (set accepted 4 3) ≡ 6
  pub busy : unpack_answer (busy-with 3) ≡ 0
  pub busy-without-ticks : unpack_answer (set (busy-with 3) 8 0) ≡ 6
  pub busy-without-latch : unpack_answer (set (busy-with 3) 3 0) ≡ 6
  pub last-tick-with-latch : unpack_answer (set (busy-with 3) 8 1) ≡ 6
  pub last-tick : unpack_answer (set (set (busy-with 3) 8 1) 3 0) ≡ 0
  -- the cycle: outside one, without a kind, of each kind, of no kind
  pub idle-kind : unpack_answer (set accepted 28 3) ≡ 6
  pub idle-bp : unpack_answer (set accepted 29 1) ≡ 6
  pub idle-srwd : unpack_answer (set accepted 30 1) ≡ 6
  pub idle-address : unpack_answer (set accepted 32 1) ≡ 6
  pub idle-slot : unpack_answer (set accepted 291 1) ≡ 6
  pub deep-kind : unpack_answer (set (set accepted 4 2) 28 3) ≡ 6
  pub no_kind : unpack_answer (busy-with 0) ≡ 6
  pub program : unpack_answer (set (set (busy-with 1) 33 15) 291 255) ≡ 0
  pub program-outside : unpack_answer (set (busy-with 1) 33 16) ≡ 6
  pub program-bp : unpack_answer (set (busy-with 1) 29 1) ≡ 6
  pub program-srwd : unpack_answer (set (busy-with 1) 30 1) ≡ 6
  pub sector : unpack_answer (set (busy-with 2) 32 255) ≡ 0
  pub sector-outside : unpack_answer (set (busy-with 2) 35 1) ≡ 6
  pub sector-slot : unpack_answer (set (busy-with 2) 36 1) ≡ 6
  pub bulk-address : unpack_answer (set (busy-with 3) 32 1) ≡ 6
  pub bulk-slot : unpack_answer (set (busy-with 3) 163 1) ≡ 6
  pub settings : unpack_answer (set (set (busy-with 4) 29 3) 30 1) ≡ 0
  pub settings-bp : unpack_answer (set (busy-with 4) 29 4) ≡ 6
  pub settings-srwd : unpack_answer (set (busy-with 4) 30 2) ≡ 6
  pub settings-address : unpack_answer (set (busy-with 4) 32 1) ≡ 6
  pub kind : unpack_answer (busy-with 5) ≡ 6
  pub kind-padding : unpack_answer (set (busy-with 3) 31 1) ≡ 6
  pub deep : unpack_answer (set accepted 4 2) ≡ 0
  pub deep-m25p128 : unpack_answer (set (set accepted 0 4) 4 2) ≡ 6
  pub padding : unpack_answer (set accepted 5 1) ≡ 6
  pub padding-2 : unpack_answer (set accepted 6 1) ≡ 6
  pub padding-3 : unpack_answer (set accepted 7 1) ≡ 6
  pub idle-ticks : unpack_answer (set accepted 8 1) ≡ 6
  pub deep-ticks : unpack_answer (set (set accepted 4 2) 11 1) ≡ 6
  pub no-duration : unpack_answer (set accepted 12 0) ≡ 6
  pub long-duration : unpack_answer (set accepted 15 1) ≡ 6
  -- part 6: its lock registers, its kinds of cycle, the number of bytes named
  pub pe : unpack_answer (set accepted 0 6) ≡ 0
  pub register : unpack_answer (set (set accepted 0 6) 303 3) ≡ 0
  pub register-four : unpack_answer (set (set accepted 0 6) 296 4) ≡ 6
  pub register-elsewhere : unpack_answer (set accepted 296 1) ≡ 6
  pub page_write : unpack_answer (set (pe-with 5) 292 1) ≡ 0
  pub page-write-all : unpack_answer (set (pe-with 5) 293 1) ≡ 0
  pub named_none : unpack_answer (pe-with 5) ≡ 6
  pub named-many : unpack_answer (set (set (pe-with 5) 292 1) 293 1) ≡ 6
  pub named-far : unpack_answer (set (set (pe-with 5) 292 1) 295 1) ≡ 6
  pub page-write-bp : unpack_answer (set (set (pe-with 5) 292 1) 29 1) ≡ 6
  pub page-write-elsewhere : unpack_answer (set (set (pe-with 5) 292 1) 0 2) ≡ 6
  pub page_erase : unpack_answer (pe-with 6) ≡ 0
  pub page-erase-named : unpack_answer (set (pe-with 6) 292 1) ≡ 6
  pub page-erase-slot : unpack_answer (set (pe-with 6) 36 1) ≡ 6
  pub page-erase-elsewhere : unpack_answer (set (pe-with 6) 0 2) ≡ 6
  pub subsector : unpack_answer (set (pe-with 7) 34 7) ≡ 0
  pub subsector-outside : unpack_answer (set (pe-with 7) 34 8) ≡ 6
  pub subsector-elsewhere : unpack_answer (set (pe-with 7) 0 2) ≡ 6
  pub kind-eight : unpack_answer (pe-with 8) ≡ 6
  pub program-named : unpack_answer (set (busy-with 1) 292 1) ≡ 6
  pub pe-deep : unpack_answer (set (set accepted 0 6) 4 2) ≡ 0
  -- the packing without the cycle, and without what comes behind the slots
  pub old-length : unpack_answer (take 292 accepted) ≡ 8
  pub without-cycle : unpack_answer (take 28 accepted) ≡ 8
  pub short : unpack_answer [] ≡ 8

pub refusals : Refusals
unfolding accepted busy-with pe-with unpack_answer formed pack_of front_of sound cycle_sound slots_sound no_slots named_sound locks_sound fields_of figures_of latch_at
refusals = record { as_is = refl; part = refl; bp = refl; srwd = refl; latch = refl; mode = refl; busy = refl; busy-without-ticks = refl; busy-without-latch = refl; last-tick-with-latch = refl; last-tick = refl; idle-kind = refl; idle-bp = refl; idle-srwd = refl; idle-address = refl; idle-slot = refl; deep-kind = refl; no_kind = refl; program = refl; program-outside = refl; program-bp = refl; program-srwd = refl; sector = refl; sector-outside = refl; sector-slot = refl; bulk-address = refl; bulk-slot = refl; settings = refl; settings-bp = refl; settings-srwd = refl; settings-address = refl; kind = refl; kind-padding = refl; deep = refl; deep-m25p128 = refl; padding = refl; padding-2 = refl; padding-3 = refl; idle-ticks = refl; deep-ticks = refl; no-duration = refl; long-duration = refl; pe = refl; register = refl; register-four = refl; register-elsewhere = refl; page_write = refl; page-write-all = refl; named_none = refl; named-many = refl; named-far = refl; page-write-bp = refl; page-write-elsewhere = refl; page_erase = refl; page-erase-named = refl; page-erase-slot = refl; page-erase-elsewhere = refl; subsector = refl; subsector-outside = refl; subsector-elsewhere = refl; kind-eight = refl; program-named = refl; pe-deep = refl; old-length = refl; without-cycle = refl; short = refl }
