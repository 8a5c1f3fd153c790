-- The bits missing: an executed program alone has any; and of transactions with no wait, no power-up and no power loss between them one at the most, since it starts a cycle.
-- Assumes nothing.
use mathlib.Core.Path.{◌≡◌, refl, sym, ap, ◌∙◌}
use mathlib.Core.Bool.{Bool, true, false, false≢true}
use mathlib.Core.List.{List, [], ◌∷◌}
use mathlib.Core.Logic.{◌⊎◌, inl, inr}
use Prim.Native.Nat.{ℕ, ◌+◌, ◌/◌, ◌%◌, ◌≤◌, ◌<◌}
use native.Mathlib.Omega.{arith}
use lib.ListN.{length, get_or, drop, replicate, length-drop}
use lib.Seq.{get_or-drop}
use Rattle.slices.specs.Changed.{map_at}
use Rattle.slices.proofs.Maps.{get_or-map}
use Rattle.memory.specs.Memory.{blank, filled, reached, landed, programmed}
use Rattle.memory.specs.Missing.{missing, page_of, most_missing}
use Rattle.memory.proofs.Enough.{none-missing}
use Rattle.parts.specs.declared.Figures.{Figures}
use Rattle.parts.specs.Parts.{figures_of}
use Rattle.device.specs.declared.Device.{Device}
use Rattle.device.specs.Device.{is_busy, moded, remembering, running, started}
use Rattle.device.specs.Cycles.{page_cycle, touched}
use Rattle.device.specs.Time.{finished}
use Rattle.chip.specs.declared.table.Turn.{Turn}
use Rattle.chip.specs.declared.table.Turn.TheVariants.{Keep, Enable, Disable, Start, Sleep, Wake, Lock}
use Rattle.chip.specs.Table.{row_of, row_in, address_of}
use Rattle.chip.specs.Change.{cycle_of, missing_of, turned}
use Rattle.chip.specs.Outcome.{Outcome, outcome_of, transacted}
use Rattle.chip.specs.Events.{Chip, Event, sends, waits, starts, loses, every, sent, left, after, missed}
use Rattle.chip.proofs.Rows.{rows-ind}
use Rattle.chip.proofs.Rules.{Bytes, outcome-ind, answer-few}
use Rattle.chip.proofs.Busy.{busy-stays}

-- no row but that of 02 starts a program
none-but-02 : (f : Figures) (at : ℕ) (sent array : List ℕ) (code : ℕ) → (code ≡ 0x02 → ⊥) → missing_of (row_of f code).turn at sent array ≡ 0
unfolding missing_of
none-but-02 f at sent array =
    rows-ind (λ code r. (code ≡ 0x02 → ⊥) → missing_of r.turn at sent array ≡ 0) f
    (λ h. refl) (λ h. refl) (λ e h. refl) (λ h. refl) (λ h. refl) (λ h. refl) (λ h. refl) (λ h. absurd (h refl)) (λ h. refl) (λ h. refl) (λ e h. refl) (λ e h. refl) (λ e h. refl) (λ e h. refl) (λ e h. refl) (λ e h. refl) (λ e h. refl) (λ e h. refl) (λ code h. refl)

module _ (d : Device) (array bytes : List ℕ) (pulses : ℕ) (w : Bool) (response : List ℕ) where
  abbrev out : Outcome
  out = transacted d array bytes pulses w response

  abbrev at : ℕ
  at = address_of (figures_of d.part) bytes

  -- only an executed program has bits missing
  pub only-programs-miss : (get_or bytes 0 0 ≡ 0x02 → out.answer.number ≡ 0 → ⊥) → out.answer.missing ≡ 0
  unfolding outcome_of
  only-programs-miss =
      outcome-ind d array bytes pulses w response (λ (o : Outcome). (get_or bytes 0 0 ≡ 0x02 → o.answer.number ≡ 0 → ⊥) → o.answer.missing ≡ 0) (λ a n. refl) (λ h b n. refl)
      (λ h t n. none-but-02 (figures_of d.part) at bytes array (get_or bytes 0 0) (λ e. n e refl))

  -- an executed program has those of its data, from byte 4 on, and of the addressed page before
  pub program-misses : get_or bytes 0 0 ≡ 0x02 → out.answer.number ≡ 0 → out.answer.missing ≡ missing at (drop 4 bytes) (page_of at array)
  unfolding outcome_of missing_of row_of
  program-misses c =
      outcome-ind d array bytes pulses w response (λ (o : Outcome). o.answer.number ≡ 0 → o.answer.missing ≡ missing at (drop 4 bytes) (page_of at array)) (λ a z. absurd (a z)) (λ h b z. absurd (b z))
      (λ h t z. rw c)

  -- the array once the cycle of an executed program is completed
  program-array : get_or bytes 0 0 ≡ 0x02 → out.answer.number ≡ 0 → (finished (left out)).array ≡ map_at (programmed at (filled blank at (drop 4 bytes))) array
  unfolding outcome_of turned finished started running moded remembering cycle_of page_cycle touched row_of
  program-array c =
      outcome-ind d array bytes pulses w response (λ (o : Outcome). o.answer.number ≡ 0 → (finished (left o)).array ≡ map_at (programmed at (filled blank at (drop 4 bytes))) array) (λ a z. absurd (a z)) (λ h b z. absurd (b z))
      (λ h t z. rw c)

  -- every byte that the data reached ends, with the cycle, as the last data byte that went to its slot
  abbrev pub AsSent : Type 0
  AsSent = (i : ℕ) → i < length array → i / 256 ≡ at / 256 → reached at (drop 4 bytes) (i % 256) ≡ true → get_or (finished (left out)).array i 0 ≡ landed at (drop 4 bytes) (i % 256) 255

  -- an executed program has no bits missing exactly if that is so
  pub program-enough : Bytes array → Bytes bytes → get_or bytes 0 0 ≡ 0x02 → out.answer.number ≡ 0 → (out.answer.missing ≡ 0 → AsSent) × (AsSent → out.answer.missing ≡ 0)
  program-enough b s c z =
      let n = none-missing at (drop 4 bytes) array data-bytes b in
      let m = program-misses c z in
      (λ e i l p r. ends i l ∙ n.0 (sym m ∙ e) i l p r, λ all. m ∙ n.1 (λ i l p r. sym (ends i l) ∙ all i l p r))
    where
      data-bytes : (i : ℕ) → i < length (drop 4 bytes) → get_or (drop 4 bytes) i 0 < 256
      data-bytes i l = let e = length-drop 4 bytes in rw (get_or-drop 4 bytes i 0) (s (4 + i) (omega arith))

      ends : (i : ℕ) → i < length array → get_or (finished (left out)).array i 0 ≡ programmed at (filled blank at (drop 4 bytes)) i (get_or array i 0)
      ends i l = ap (λ (xs : List ℕ). get_or xs i 0) (program-array c z) ∙ get_or-map (programmed at (filled blank at (drop 4 bytes))) array i 0 l

  -- where bits are missing a cycle runs afterwards
  missing-runs : (out.answer.missing ≡ 0) ⊎ (is_busy out.device.mode ≡ true)
  unfolding outcome_of missing_of turned started running moded
  missing-runs =
      outcome-ind d array bytes pulses w response (λ (o : Outcome). (o.answer.missing ≡ 0) ⊎ (is_busy o.device.mode ≡ true)) (λ a. inl refl) (λ h b. inl refl) (λ h t. go (row_in d bytes).turn)
    where
      go : (t : Turn) → (missing_of t at bytes array ≡ 0) ⊎ (is_busy (turned t (figures_of d.part) d at bytes).mode ≡ true)
      go Keep = inl refl
      go Enable = inl refl
      go Disable = inl refl
      go (Start k) = inr refl
      go Sleep = inl refl
      go Wake = inl refl
      go Lock = inl refl

-- ---- over a list

-- a transaction: no wait, no power-up, no power loss
abbrev pub is_sent : Event → Bool
is_sent (sends bytes p w) = true
is_sent (waits t) = false
is_sent starts = false
is_sent (loses mask told) = false

-- in a cycle none
pub busy-misses : (es : List Event) (c : Chip) → every is_sent es ≡ true → is_busy c.device.mode ≡ true → missed es c ≡ 0
unfolding sent
busy-misses [] c s h = refl
busy-misses (sends bytes p w ∷ es) c s h =
    let e = busy-stays c.device c.array bytes p w (replicate (length bytes) 0) h in
    let rest : missed es (after (sends bytes p w) c) ≡ 0 = busy-misses es (after (sends bytes p w) c) s (rw e.0 h) in
    rw (e.2, rest)
busy-misses (waits t ∷ es) c s h = absurd (false≢true s)
busy-misses (starts ∷ es) c s h = absurd (false≢true s)
busy-misses (loses mask told ∷ es) c s h = absurd (false≢true s)

-- else at most those of one program: it starts a cycle, in which no other one is executed
pub missed-few : (es : List Event) (c : Chip) → every is_sent es ≡ true → missed es c ≤ most_missing
unfolding sent
missed-few [] c s = omega arith
missed-few (sends bytes p w ∷ es) c s =
    go (missing-runs c.device c.array bytes p w (replicate (length bytes) 0)) (missed-few es (after (sends bytes p w) c) s) (busy-misses es (after (sends bytes p w) c) s)
    (answer-few c.device c.array bytes p w (replicate (length bytes) 0)).missing
  where
    go : {m n : ℕ} {b : Type 0} → (m ≡ 0) ⊎ b → n ≤ most_missing → (b → n ≡ 0) → m ≤ most_missing → m + n ≤ most_missing
    go (inl z) h k l = omega arith
    go (inr y) h k l = let e = k y in omega arith
missed-few (waits t ∷ es) c s = absurd (false≢true s)
missed-few (starts ∷ es) c s = absurd (false≢true s)
missed-few (loses mask told ∷ es) c s = absurd (false≢true s)
