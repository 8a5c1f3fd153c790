-- K1 to K15, the further cases and those of the M25PE40 hold: computed, with the array's length handed over as a number.
-- Assumes nothing.
use mathlib.Core.Path.{◌≡◌, refl, ap, ap₂, sym, ◌∙◌, subst}
use mathlib.Core.Bool.{Bool, true, ◌&&◌}
use mathlib.Core.List.{List, [], ◌∷◌}
use Prim.Native.Nat.{ℕ}
use lib.Dec.{T, eqb}
use lib.ListN.{length, get_or, replicate, length-replicate}
use lib.Count.{ones_in, ones}
use Rattle.slices.specs.Changed.{map_at, window, sum_at}
use Rattle.memory.specs.Memory as memory-is
use Rattle.memory.specs.Missing.{missing_at, missing, page_of}
use Rattle.parts.specs.Parts.{figures_of}
use Rattle.parts.specs.Protected.{protected_of}
use Rattle.device.specs.Locks.{no_locks, lock_of, relocked, locks_sound}
use Rattle.device.specs.Device.{sound, status_byte, moded, latched, locked, settled, remembering, running, started, ended, latch_at}
use Rattle.device.specs.Time.{after_cycle, finished, unlocked, powered_up, lost, waited, time_number, mask_number, timed, Timed, wait_call, power_up_call, loss_call}
use Rattle.chip.specs.Table.{row_of, address_of}
use Rattle.chip.specs.Answers.{host_number, in_protected, protected_at, protected_any, as_needed, chip_number, decided, verdict_of}
use Rattle.chip.specs.Line.{by_row, heard, heard_row, driven, lined, driving_at, first_of, count_of}
use Rattle.device.specs.Cycles.{no_slots, no_cycle, page_cycle, write_cycle, erase_cycle, all_cycle, settings_cycle, slots_sound, named_sound, cycle_sound, touched, cut}
use Rattle.chip.specs.Change.{cycle_of, missing_of, bp_in, turned}
use Rattle.chip.specs.Outcome.{bare, outcome_of, transacted}
use Rattle.chip.specs.Worked.{Step, tells, holds, Case, gave, sees, fresh, all, cases, further}
use Rattle.chip.specs.WorkedPe.{pe_cases}
use Rattle.chip.specs.Events.{Chip, Event, sends, waits, starts, loses, Reply, sent, after, reply}
use Rattle.chip.proofs.Events.{after-length}

-- an event on an array of a given length: what it leaves, and what is seen of it
record Done : Type 0 where
  chip : Chip
  reply : Reply

abbrev passes : Timed → Done
passes o = record { chip = o.chip; reply = record { answer = bare o.answer; line = [] } }

abbrev does : ℕ → Event → Chip → Done
does len (sends bytes p w) c =
    let zeros : List ℕ = replicate (length bytes) 0 in
    let o = outcome_of (verdict_of c.device len bytes p w (length zeros)) c.device c.array bytes zeros in
    record { chip = record { device = o.device; array = o.array }; reply = record { answer = o.answer; line = o.response } }
does len (waits t) c = passes (timed (time_number c.device len 0) (waited c t) c)
does len starts c = passes (timed (time_number c.device len 0) (powered_up c) c)
does len (loses mask told) c = passes (timed (time_number c.device len (mask_number (length mask))) (lost c mask told) c)

-- the length given is the array's
does-is : (e : Event) (c : Chip) → does (length c.array) e c ≡ record { chip = after e c; reply = reply e c }
unfolding sent transacted wait_call power_up_call loss_call
does-is (sends bytes p w) c = refl
does-is (waits t) c = refl
does-is starts c = refl
does-is (loses mask told) c = refl

-- `sees`, with the array's length given
unfoldable sees_at : ℕ → List Step → Chip → Bool
sees_at len [] c = true
sees_at len (tells e a r ∷ ss) c =
    let o = does len e c in
    gave o.reply a r && sees_at len ss o.chip
sees_at len (holds i x ∷ ss) c = eqb (get_or c.array i 0) x && sees_at len ss c

sees-at : (ss : List Step) (len : ℕ) (c : Chip) → length c.array ≡ len → sees_at len ss c ≡ sees ss c
unfolding sees_at sees
sees-at [] len c h = refl
sees-at (tells e a r ∷ ss) len c h =
    ap (λ (o : Done). gave o.reply a r && sees_at len ss o.chip) (ap (λ (n : ℕ). does n e c) (sym h) ∙ does-is e c)
    ∙ ap (λ (b : Bool). gave (reply e c) a r && b) (sees-at ss len (after e c) (after-length e c ∙ h))
sees-at (holds i x ∷ ss) len c h = ap (λ (b : Bool). eqb (get_or c.array i 0) x && b) (sees-at ss len c h)

-- `all`, with the arrays' lengths given
unfoldable all_at : List Case → Bool
all_at [] = true
all_at (k ∷ ks) = sees_at (figures_of k.device.part).bytes k.steps (fresh k.device) && all_at ks

all-at : (ks : List Case) → all_at ks ≡ all ks
unfolding all all_at
all-at [] = refl
all-at (k ∷ ks) =
    ap₂ ◌&&◌ (sees-at k.steps (figures_of k.device.part).bytes (fresh k.device) (length-replicate (figures_of k.device.part).bytes 0xFF)) (all-at ks)

computed : T (all_at cases) × T (all_at further) × T (all_at pe_cases)
unfolding all_at cases further pe_cases sees_at map_at window sum_at memory-is.blank memory-is.filled memory-is.programmed memory-is.named memory-is.replaced memory-is.erased memory-is.cut_page memory-is.cut_write memory-is.cut_sector figures_of protected_of time_number waited after_cycle finished unlocked powered_up lost sound locks_sound no_locks lock_of relocked status_byte moded latched locked settled remembering running started ended latch_at row_of address_of host_number in_protected protected_at protected_any as_needed chip_number decided verdict_of by_row heard heard_row driven lined driving_at first_of count_of no_slots no_cycle page_cycle write_cycle erase_cycle all_cycle settings_cycle slots_sound named_sound cycle_sound cycle_of touched cut missing_of missing missing_at page_of memory-is.reached memory-is.landed ones ones_in bp_in turned outcome_of
computed = (tt, tt, tt)

-- K1 to K15 hold
pub worked : T (all cases)
worked = subst T (all-at cases) computed.0

-- the further cases hold
pub worked-further : T (all further)
worked-further = subst T (all-at further) computed.1

-- the cases of the M25PE40 hold
pub worked-pe : T (all pe_cases)
worked-pe = subst T (all-at pe_cases) computed.2
