-- Hardware protection told a second time: the events it speaks of, the bytes it keeps, from where it starts, and what counts as kept.
use Rattle.std.specs.Prelude.{◌≡◌, refl, Bool, true, false, List, [], ◌∷◌, map, ℕ, zero, suc, ◌-◌, ◌<◌, length, get_or, replicate}
use Rattle.std.proofs.lemmas.Bool.{false≢true}
use Rattle.std.proofs.Common.{arith, lit<}
use Rattle.std.proofs.lemmas.List.{length-replicate}
use Rattle.parts.specs.Parts.{figures_of}
use Rattle.parts.specs.Protected.{protected_of}
use Rattle.device.specs.Locks.{lock_of, locks_sound, no_locks}
use Rattle.device.specs.declared.Mode.{Mode}
use Rattle.device.specs.declared.Mode.TheVariants.{Standby, Deep}
use Rattle.device.specs.declared.cycle.Cycle.{Cycle}
use Rattle.device.specs.Cycles.{no_slots, no_cycle, slots_sound, cycle_sound, named_sound}
use Rattle.device.specs.Device.{sound, latch_at}
use Rattle.chip.specs.Answers.{in_protected, protected_any, protected_at}
use Rattle.chip.specs.Events.{Chip, Good, sends, waits, starts, loses, every}
use Rattle.chip.specs.Protection.{Armed, w_low, is_protected, Kept}
use Rattle.chip.specs.Worked.{record_of}
use Rattle.told.specs.Cycles.{full, none, erasing_sector, erasing_all, writing, busy_of}
use Rattle.told.specs.Pe.{held}
use Rattle.told.specs.Lines.{part}
use Rattle.told.specs.Places.{four}

-- whether the byte below a place and the byte there are protected, for BP b and up, each with its own place
abbrev pub begins : ℕ → ℕ → List ℕ → List (List Bool)
begins p b [] = []
begins p b (a ∷ rest) = (is_protected (part p b) (a - 1) ∷ is_protected (part p b) a ∷ []) ∷ begins p (suc b) rest

-- whether a byte is protected, for these BP
abbrev pub under : ℕ → List ℕ → ℕ → List Bool
under p bps i = map (λ (b : ℕ). is_protected (part p b) i) bps

-- the bench part by BP, SRWD, latch and mode, beside an array
abbrev pub beside : ℕ → Bool → Bool → Mode → List ℕ → Chip
beside b s l m array = record { device = record_of 0 b s l m; array = array }

-- the bench part with BP 1, SRWD set and two ticks left of a cycle, beside 4,096 bytes FF
abbrev pub in_cycle : Cycle → Chip
in_cycle c = record { device = busy_of 0 1 true true 2 c; array = replicate 4096 0xFF }

-- an array of so many bytes FF
abbrev pub long : ℕ → List ℕ
long n = replicate n 0xFF

-- the bench part in standby, SRWD set, by BP, beside two bytes: with BP 1 they are free, with BP 3 all is protected
abbrev pub two : ℕ → ℕ → ℕ → Chip
two b x y = beside b true true Standby (x ∷ y ∷ [])

-- what is told
pub record Protection : Type 0 where
  -- W is low in a transaction; waits, power-ups and power losses have none
  pub low : map w_low (sends [] 0 false ∷ sends (0x01 ∷ 0x00 ∷ []) 9 false ∷ waits 0 ∷ waits 7 ∷ starts ∷ loses [] false ∷ loses (full 0xFF) true ∷ []) ≡ replicate 7 true
  pub high : map w_low (sends [] 0 true ∷ sends (0x01 ∷ 0x00 ∷ []) 9 true ∷ []) ≡ false ∷ false ∷ []
  pub all-low : every w_low [] ∷ every w_low (sends [] 0 false ∷ waits 7 ∷ starts ∷ loses (full 0x00) false ∷ sends [] 0 false ∷ []) ∷ [] ≡ true ∷ true ∷ []
  pub one-high : every w_low (sends [] 0 true ∷ waits 7 ∷ sends [] 0 false ∷ []) ∷ every w_low (sends [] 0 false ∷ loses (full 0x00) true ∷ sends [] 0 true ∷ []) ∷ [] ≡ false ∷ false ∷ []
  -- where the protected bytes begin, on the smallest and the largest part, for BP 1 and up, until all are protected
  pub bench : begins 0 1 (3072 ∷ 2048 ∷ []) ≡ replicate 2 (false ∷ true ∷ [])
  pub m25p128 : begins 4 1 (16515072 ∷ 16252928 ∷ 15728640 ∷ 14680064 ∷ 12582912 ∷ 8388608 ∷ []) ≡ replicate 6 (false ∷ true ∷ [])
  -- on the M25PE40, where lock registers do not count here
  pub m25pe40 : begins 6 1 (458752 ∷ 393216 ∷ 262144 ∷ []) ≡ replicate 3 (false ∷ true ∷ [])
  pub locks : is_protected (held 6 0 true true Standby none (replicate 8 3)) 0 ≡ false
  -- the last byte, for BP 0 to 3
  pub lasts : under 0 four 4095 ∷ under 1 four 131071 ∷ under 5 four 131071 ∷ [] ≡ replicate 3 (false ∷ true ∷ true ∷ true ∷ [])
  -- from where: with either latch; not from a cycle, deep power-down, SRWD 0, a BP above the part's, an array with a byte too few
  pub armed : (l : Bool) → Armed (beside 1 true l Standby (long 4096))
  pub busy : Armed (in_cycle erasing_all) → ⊥
  -- nor from a write of other settings that is sound, with SRWD still set
  pub writing-good : Good (in_cycle (writing false 0))
  pub writing-shows : (in_cycle (writing false 0)).device.srwd ≡ true
  pub writing-busy : Armed (in_cycle (writing false 0)) → ⊥
  pub deep : Armed (beside 1 true true Deep (long 4096)) → ⊥
  pub reset : Armed (beside 1 false true Standby (long 4096)) → ⊥
  pub unsound : Armed (beside 4 true true Standby (long 4096)) → ⊥
  pub short : Armed (beside 1 true true Standby (long 4095)) → ⊥
  -- other free bytes, another latch, mode and cycle do not count; another BP, SRWD, protected byte, part or length does
  pub kept : Kept (two 1 0x5A 0x5A) (record { device = busy_of 0 1 true false 1 (erasing_sector 0); array = 0x00 ∷ 0xFF ∷ [] })
  pub other-bp : Kept (two 3 0x5A 0x5A) (two 2 0x5A 0x5A) → ⊥
  pub other-srwd : Kept (two 3 0x5A 0x5A) (beside 3 false true Standby (0x5A ∷ 0x5A ∷ [])) → ⊥
  pub other-first : Kept (two 3 0x5A 0x5A) (two 3 0x58 0x5A) → ⊥
  pub other_last : Kept (two 3 0x5A 0x5A) (two 3 0x5A 0xFF) → ⊥
  pub other-part : Kept (two 3 0x5A 0x5A) (record { device = record_of 1 3 true true Standby; array = 0x5A ∷ 0x5A ∷ [] }) → ⊥
  pub other_length : Kept (two 3 0x5A 0x5A) (beside 3 true true Standby (0x5A ∷ 0x5A ∷ 0x5A ∷ [])) → ⊥

-- neither of two bytes is protected with BP 1
free : (i : ℕ) {x : ℕ} → i < 2 → is_protected (record_of 0 1 true true Standby) i ≡ true → get_or (0x00 ∷ 0xFF ∷ []) i 0 ≡ x
unfolding figures_of protected_of in_protected protected_at protected_any lock_of
free zero lt p = absurd (false≢true p)
free (suc zero) lt p = absurd (false≢true p)
free (suc (suc i)) lt p = absurd (omega arith)

-- computed by the checker
pub protects : Protection
unfolding figures_of protected_of in_protected sound latch_at no_slots no_cycle slots_sound cycle_sound named_sound locks_sound no_locks protected_at protected_any lock_of
protects = record {
  low = refl;
  high = refl;
  all-low = refl;
  one-high = refl;
  bench = refl;
  m25p128 = refl;
  m25pe40 = refl;
  locks = refl;
  lasts = refl;
  armed = λ l. record { good = record { sound = refl; whole = length-replicate {A = ℕ} 4096 0xFF }; standby = refl; srwd = refl };
  busy = λ f. let z : ◌≡◌ {A = ℕ} 0 1 = cc f.standby in omega arith;
  writing-good = record { sound = refl; whole = length-replicate {A = ℕ} 4096 0xFF };
  writing-shows = refl;
  writing-busy = λ f. let z : ◌≡◌ {A = ℕ} 0 1 = cc f.standby in omega arith;
  deep = λ f. let z : ◌≡◌ {A = ℕ} 0 1 = cc f.standby in omega arith;
  reset = λ f. false≢true f.srwd;
  unsound = λ f. false≢true f.good.sound;
  short = λ f. let l : length (long 4095) ≡ 4095 = length-replicate {A = ℕ} 4095 0xFF in omega (arith, f.good.whole);
  kept = record { bp = refl; srwd = refl; bytes = λ i lt p. free i lt p; part = refl; long = refl };
  other-bp = λ k. omega (arith, k.bp);
  other-srwd = λ k. false≢true k.srwd;
  other-first = λ k. omega (arith, k.bytes 0 (lit< tt) refl);
  other_last = λ k. omega (arith, k.bytes 1 (lit< tt) refl);
  other-part = λ k. omega (arith, k.part);
  other_length = λ k. omega (arith, k.long);
}
