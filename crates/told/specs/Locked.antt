-- What a lock is worth told a second time: the events that go on, from where a lock holds, and what counts as held.
use Rattle.std.specs.Prelude.{◌≡◌, refl, true, false, List, [], ◌∷◌, map, ℕ, zero, suc, ◌/◌, ◌<◌, get_or, length, set, replicate}
use Rattle.std.proofs.lemmas.Bool.{false≢true}
use Rattle.std.proofs.Common.{arith, lit<}
use Rattle.std.proofs.lemmas.List.{length-replicate}
use Rattle.parts.specs.Parts.{figures_of}
use Rattle.device.specs.Locks.{locks_sound}
use Rattle.device.specs.declared.Mode.{Mode}
use Rattle.device.specs.declared.Mode.TheVariants.{Standby, Busy, Deep}
use Rattle.device.specs.declared.cycle.Cycle.{Cycle}
use Rattle.device.specs.Chip.{Chip, chip}
use Rattle.device.specs.Cycles.{no_slots, no_cycle, slots_sound, cycle_sound, named_sound}
use Rattle.device.specs.Device.{sound, latch_at}
use Rattle.chip.specs.Events.{sends, waits, starts, loses, every, goes_on}
use Rattle.chip.specs.Locked.{Locked, Held}
use Rattle.told.specs.Cycles.{full, none, erasing_page}
use Rattle.told.specs.Pe.{held, unset}

-- part 6 by mode, cycle and the lock register of sector 3, beside so many bytes FF
abbrev pub guard : Mode → Cycle → ℕ → ℕ → Chip
guard m c r n = chip (held 6 0 false true m c (set unset 3 r)) (replicate n 0xFF)

-- part 6 in standby by the lock registers of sectors 0 and 1, beside two bytes, which are sector 0's
abbrev pub two : ℕ → ℕ → ℕ → ℕ → Chip
two r s x y = chip (held 6 0 false true Standby none (r ∷ s ∷ 0 ∷ 0 ∷ 0 ∷ 0 ∷ 0 ∷ 0 ∷ [])) (x ∷ y ∷ [])

-- what is told
pub record Holds : Type 0 where
  -- transactions and waits go on, W low or high; power-up and loss do not
  pub goes-on : map goes_on (sends [] 0 false ∷ sends (0xE5 ∷ []) 9 true ∷ waits 0 ∷ waits 7 ∷ starts ∷ loses (full 0) true ∷ []) ≡ true ∷ true ∷ true ∷ true ∷ false ∷ false ∷ []
  pub all-go-on : every goes_on [] ∷ every goes_on (sends [] 0 true ∷ waits 7 ∷ []) ∷ every goes_on (sends [] 0 true ∷ starts ∷ waits 7 ∷ []) ∷ every goes_on (waits 7 ∷ loses (full 0) false ∷ []) ∷ [] ≡ true ∷ true ∷ false ∷ false ∷ []
  -- from a register 03 in standby; not with 01, 02 or 07, not for sector 2, not from a cycle or deep power-down, not with a byte less
  pub both : Locked (guard Standby none 3 524288) 3
  pub write-lock-alone : Locked (guard Standby none 1 524288) 3 → ⊥
  pub lock-down-alone : Locked (guard Standby none 2 524288) 3 → ⊥
  pub unsound : Locked (guard Standby none 7 524288) 3 → ⊥
  pub other-sector : Locked (guard Standby none 3 524288) 2 → ⊥
  pub busy : Locked (guard (Busy 2) (erasing_page 0) 3 524288) 3 → ⊥
  pub deep : Locked (guard Deep none 3 524288) 3 → ⊥
  pub short : Locked (guard Standby none 3 524287) 3 → ⊥
  -- of sector 0 its register and its bytes count, and not sector 1's register
  pub same : Held 0 (two 3 0 0x5A 0xA5) (two 3 2 0x5A 0xA5)
  pub other-register : Held 0 (two 3 0 0x5A 0xA5) (two 1 0 0x5A 0xA5) → ⊥
  pub other-first : Held 0 (two 3 0 0x5A 0xA5) (two 3 0 0x58 0xA5) → ⊥
  pub other_last : Held 0 (two 3 0 0x5A 0xA5) (two 3 0 0x5A 0xFF) → ⊥
  -- of sector 1 neither the register of sector 0 nor its bytes
  pub elsewhere : Held 1 (two 3 3 0x5A 0xA5) (two 0 3 0x00 0xFF)
  pub other-elsewhere : Held 1 (two 3 3 0x5A 0xA5) (two 3 1 0x5A 0xA5) → ⊥

-- a list is not of both lengths
not-both : (xs : List ℕ) → length xs ≡ 524287 → length xs ≡ 524288 → ⊥
not-both xs p q = omega arith

-- neither of the first two bytes is sector 1's
not_there : (i : ℕ) {x : ℕ} → i < 2 → i / 65536 ≡ 1 → get_or (0x00 ∷ 0xFF ∷ []) i 0 ≡ x
not_there zero lt p = absurd (omega (arith, p))
not_there (suc zero) lt p = absurd (omega (arith, p))
not_there (suc (suc i)) lt p = absurd (omega arith)

-- computed by the checker
pub holds : Holds
unfolding figures_of sound latch_at no_slots no_cycle slots_sound cycle_sound named_sound locks_sound
holds = record {
  goes-on = refl;
  all-go-on = refl;
  both = record { good = record { sound = refl; whole = length-replicate {A = ℕ} 524288 0xFF }; standby = refl; write_locked = refl; locked_down = refl };
  write-lock-alone = λ l. false≢true l.locked_down;
  lock-down-alone = λ l. false≢true l.write_locked;
  unsound = λ l. false≢true l.good.sound;
  other-sector = λ l. false≢true l.write_locked;
  busy = λ l. let z : ◌≡◌ {A = ℕ} 0 1 = cc l.standby in omega arith;
  deep = λ l. let z : ◌≡◌ {A = ℕ} 0 1 = cc l.standby in omega arith;
  short = λ l. not-both (replicate 524287 0xFF) (length-replicate {A = ℕ} 524287 0xFF) l.good.whole;
  same = record { register = refl; bytes = λ i lt p. refl };
  other-register = λ h. omega (arith, h.register);
  other-first = λ h. omega (arith, h.bytes 0 (lit< tt) refl);
  other_last = λ h. omega (arith, h.bytes 1 (lit< tt) refl);
  elsewhere = record { register = refl; bytes = λ i lt p. not_there i lt p };
  other-elsewhere = λ h. omega (arith, h.register);
}
