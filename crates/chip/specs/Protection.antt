-- Document 02, Wish 8, with the power losses of Wish 9: what hardware protection is worth, and its limits. The wish asks it of the M25P parts; it is proved of every part, and of the M25PE40 it speaks of what BP protects.
use Rattle.std.specs.Prelude.{◌≡◌, Bool, true, false, not, List, [], ◌∷◌, ◌++◌, map, ℕ, ◌<◌, length, get_or, replicate}
use Rattle.parts.specs.Parts.{figures_of}
use Rattle.device.specs.declared.Mode.TheVariants.{Standby, Busy}
use Rattle.device.specs.declared.Device.{Device}
use Rattle.device.specs.Locks.{no_locks}
use Rattle.device.specs.Cycles.{settings_cycle}
use Rattle.chip.specs.Answers.{host_number, in_protected}
use Rattle.chip.specs.Outcome.{transacted}
use Rattle.chip.specs.Events.{Chip, Good, Event, sends, waits, starts, loses, every, Reply, left, after, run, story}
use Rattle.chip.specs.Worked.{bench, fresh}

-- ---- from where, and over what

-- a sound record in standby with SRWD set, its latch set or not, beside an array of the part's length
pub record Armed (c : Chip) : Type 0 where
  pub good : Good c
  pub standby : c.device.mode ≡ Standby
  pub srwd : c.device.srwd ≡ true

-- a transaction with W low, whatever else it is; a wait; a power-up; a power loss, with whatever mask and word
abbrev pub w_low : Event → Bool
w_low (sends bytes pulses w) = not w
w_low (waits t) = true
w_low starts = true
w_low (loses mask told) = true

-- ---- what stays

-- byte i stands in a sector that BP protects: on the M25P parts, the test that answers 17
abbrev pub is_protected : Device → ℕ → Bool
is_protected d i = in_protected (figures_of d.part) d.bp i

-- BP and SRWD of a chip are what they were, and so is each byte of a protected sector; part and length of the array, too
pub record Kept (was is : Chip) : Type 0 where
  pub bp : is.device.bp ≡ was.device.bp
  pub srwd : is.device.srwd ≡ was.device.srwd
  pub bytes : (i : ℕ) → i < length was.array → is_protected was.device i ≡ true → get_or is.array i 0 ≡ get_or was.array i 0
  pub part : is.device.part ≡ was.device.part
  pub long : length is.array ≡ length was.array

-- the theorem: what stays, when, and for which calls
pub record HardwareProtects : Type 0 where
  -- from such a chip, over any list of such events
  pub ends : (c : Chip) → Armed c → (es : List Event) → every w_low es ≡ true → Kept c (run es c)
  -- and after each event of it: `es` are those so far, `later` those to come
  pub each : (c : Chip) → Armed c → (es later : List Event) → every w_low (es ++ later) ≡ true → Kept c (run es c)
  -- an event has a response of its own length. With whatever response: a call that the host side refuses leaves the chip as it was
  pub refused : (c : Chip) (bytes : List ℕ) (pulses : ℕ) (w : Bool) (response : List ℕ) → (host_number c.device (length c.array) (length bytes) pulses (length response) ≡ 0 → ⊥)
      → left (transacted c.device c.array bytes pulses w response) ≡ c
  -- and any other leaves it as the event does
  pub taken : (c : Chip) (bytes : List ℕ) (pulses : ℕ) (w : Bool) (response : List ℕ) → host_number c.device (length c.array) (length bytes) pulses (length response) ≡ 0
      → left (transacted c.device c.array bytes pulses w response) ≡ after (sends bytes pulses w) c

-- ---- its limits: SRWD set at the start, standby at the start, and W low in every transaction, are all needed

-- the bench part in standby with BP 1, by SRWD, the latch reset, the array all FF: the highest sector, from byte 3,072 on, is protected
abbrev pub start : Bool → Chip
start srwd = fresh (bench 1 srwd false)

-- write enable; a status write of 00, with W at this level; its two ticks; write enable; a program of 00 at byte 3,072; its three ticks. W is low in the other three transactions
abbrev pub attempt : Bool → List Event
attempt w =
    sends (0x06 ∷ []) 0 false ∷ sends (0x01 ∷ 0x00 ∷ []) 0 w ∷ waits 2 ∷ sends (0x06 ∷ []) 0 false ∷ sends (0x02 ∷ 0x00 ∷ 0x0C ∷ 0x00 ∷ 0x00 ∷ []) 0 false ∷ waits 3 ∷ []

-- the same start, SRWD set, but in a write of the settings 00 with two ticks left: it was begun while W was high
abbrev pub begun : Chip
begun = fresh (record { part = 0; bp = 1; srwd = true; latch = true; mode = Busy 2; program = 3; sector_erase = 5; bulk_erase = 9; write_status = 2; cycle = settings_cycle false 0; locks = no_locks })

-- its two ticks, or power lost in it, with a word; then write enable, a program of 00 at byte 3,072 and its three ticks, W low throughout
abbrev pub ending : Event → List Event
ending e = e ∷ sends (0x06 ∷ []) 0 false ∷ sends (0x02 ∷ 0x00 ∷ 0x0C ∷ 0x00 ∷ 0x00 ∷ []) 0 false ∷ waits 3 ∷ []

-- what came of it: the answer numbers; BP, SRWD and byte 3,072 at the end
pub record Tried : Type 0 where
  pub numbers : List ℕ
  pub bp : ℕ
  pub srwd : Bool
  pub byte : ℕ

-- of a list of events from a chip
abbrev pub tried : List Event → Chip → Tried
tried es was =
    let c = run es was in
    record { numbers = map (λ (r : Reply). r.answer.number) (story es was); bp = c.device.bp; srwd = c.device.srwd; byte = get_or c.array 3072 0 }

-- the same attempt three times, and what is left of a settings write
pub record Limits : Type 0 where
  -- with SRWD set the theorem speaks of it
  pub armed : Armed (start true)
  -- SRWD set and W low throughout: the status write gets 18, the program 17, and all stays
  pub low : tried (attempt false) (start true) ≡ record { numbers = 0 ∷ 18 ∷ 0 ∷ 0 ∷ 17 ∷ 0 ∷ []; bp = 1; srwd = true; byte = 0xFF }
  -- SRWD set, W high in one transaction: both are executed
  pub high-once : tried (attempt true) (start true) ≡ record { numbers = 0 ∷ 0 ∷ 0 ∷ 0 ∷ 0 ∷ 0 ∷ []; bp = 0; srwd = false; byte = 0x00 }
  -- W low throughout, SRWD not set at the start: both are executed, too
  pub reset : tried (attempt false) (start false) ≡ record { numbers = 0 ∷ 0 ∷ 0 ∷ 0 ∷ 0 ∷ 0 ∷ []; bp = 0; srwd = false; byte = 0x00 }
  -- sound and SRWD set, but in a settings write: no standby, and the theorem does not speak of it
  pub begun-good : Good begun
  pub begun-unarmed : Armed begun → ⊥
  -- its end, W low throughout, undoes the protection, whether it comes with its last tick, a power-up or a power loss that completes it; a loss that does not leaves it
  pub last-tick : tried (ending (waits 2)) begun ≡ record { numbers = 0 ∷ 0 ∷ 0 ∷ 0 ∷ []; bp = 0; srwd = false; byte = 0x00 }
  pub powered : tried (ending starts) begun ≡ record { numbers = 0 ∷ 0 ∷ 0 ∷ 0 ∷ []; bp = 0; srwd = false; byte = 0x00 }
  pub lost-told : tried (ending (loses (replicate 256 0x00) true)) begun ≡ record { numbers = 0 ∷ 0 ∷ 0 ∷ 0 ∷ []; bp = 0; srwd = false; byte = 0x00 }
  pub lost-not : tried (ending (loses (replicate 256 0x00) false)) begun ≡ record { numbers = 0 ∷ 0 ∷ 17 ∷ 0 ∷ []; bp = 1; srwd = true; byte = 0xFF }
  -- so the protection is undone in each case
  pub high-undoes : Kept (start true) (run (attempt true) (start true)) → ⊥
  pub reset-undoes : Kept (start false) (run (attempt false) (start false)) → ⊥
  pub begun-undoes : Kept begun (run (ending (waits 2)) begun) → ⊥
