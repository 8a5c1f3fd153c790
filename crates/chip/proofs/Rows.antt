-- The instruction table: what holds of each of its rows, with its code, holds of the row of every code.
-- Assumes nothing.
use mathlib.Core.Path.{◌≡◌, refl, sym, subst}
use mathlib.Core.Bool.{Bool, true, false, cond}
use Prim.Native.Nat.{ℕ}
use borrow.Author.Tests.{eqb-true}
use lib.Dec.{eqb}
use Rattle.slices.proofs.Choices.{cond-case}
use Rattle.parts.specs.declared.Figures.{Figures}
use Rattle.device.specs.declared.cycle.Kind.{Kind}
use Rattle.device.specs.declared.cycle.Kind.TheVariants.{Settings, Page, Sector, All, PageWrite, PageErase, Subsector}
use Rattle.chip.specs.declared.table.Turn.{Turn}
use Rattle.chip.specs.declared.table.Turn.TheVariants.{Keep, Enable, Disable, Start, Sleep, Wake, Lock}
use Rattle.chip.specs.declared.table.Drive.TheVariants.{Identification, Status, Array, Signature, Register}
use Rattle.chip.specs.declared.table.Row.{Row}
use Rattle.chip.specs.Table.{longest, order, reading, write, unknown, also_busy, also_deep, only_if, row_of, on_start}

module _ (P : ℕ → Row → Type 0) (f : Figures) where
  -- a code's own row, or what comes after it
  at_code : (code k : ℕ) {r rest : Row} → P k r → P code rest → P code (cond (eqb code k) r rest)
  at_code code k {r} p q = cond-case (P code) (eqb code k) (λ e. subst (λ (c : ℕ). P c r) (sym (eqb-true code k e)) p) (λ e. q)

  -- a row only of a part that has it
  if-had : (code : ℕ) (b : Bool) {r : Row} → (b ≡ true → P code r) → P code unknown → P code (only_if b r)
  if-had code true p q = p refl
  if-had code false p q = q

  -- AB, as the part has it
  if-pe : (b : Bool) → (b ≡ true → P 0xAB (also_deep (order Wake))) → (b ≡ false → P 0xAB (also_deep (reading 1 Signature 4 Wake))) → P 0xAB (also_deep (cond b (order Wake) (reading 1 Signature 4 Wake)))
  if-pe true p q = p refl
  if-pe false p q = q refl

  pub rows-ind : P 0x06 (order Enable) → P 0x04 (order Disable) → (f.identifies ≡ true → P 0x9F (reading 1 Identification 1 Keep)) → P 0x05 (also_busy (reading 1 Status 1 Keep)) → P 0x01 (write 2 2 (Start Settings))
      → P 0x03 (reading 4 Array 4 Keep) → P 0x0B (reading 5 Array 5 Keep) → P 0x02 (write 5 longest (Start Page)) → P 0xD8 (write 4 4 (Start Sector)) → P 0xC7 (write 1 1 (Start All))
      → (f.sleeps ≡ true → P 0xB9 (order Sleep)) → (f.pe ≡ false → P 0xAB (also_deep (reading 1 Signature 4 Wake))) → (f.pe ≡ true → P 0xAB (also_deep (order Wake)))
      → (f.pe ≡ true → P 0x0A (write 5 longest (Start PageWrite))) → (f.pe ≡ true → P 0xDB (write 4 4 (Start PageErase))) → (f.pe ≡ true → P 0x20 (write 4 4 (Start Subsector)))
      → (f.pe ≡ true → P 0xE5 (write 5 5 Lock)) → (f.pe ≡ true → P 0xE8 (reading 4 Register 4 Keep)) → ((code : ℕ) → P code unknown) → (code : ℕ) → P code (row_of f code)
  unfolding row_of
  rows-ind wren wrdi rdid rdsr wrsr read fast pp se be dp res rdp pw pe sse wrlr rdlr none code =
      at_code code 0x06 wren
      (at_code code 0x04 wrdi
      (at_code code 0x9F (if-had 0x9F f.identifies rdid (none 0x9F))
      (at_code code 0x05 rdsr
      (at_code code 0x01 wrsr
      (at_code code 0x03 read
      (at_code code 0x0B fast
      (at_code code 0x02 pp
      (at_code code 0xD8 se
      (at_code code 0xC7 be
      (at_code code 0xB9 (if-had 0xB9 f.sleeps dp (none 0xB9))
      (at_code code 0xAB (if-had 0xAB f.sleeps (λ e. if-pe f.pe rdp res) (none 0xAB))
      (at_code code 0x0A (if-had 0x0A f.pe pw (none 0x0A))
      (at_code code 0xDB (if-had 0xDB f.pe pe (none 0xDB))
      (at_code code 0x20 (if-had 0x20 f.pe sse (none 0x20))
      (at_code code 0xE5 (if-had 0xE5 f.pe wrlr (none 0xE5)) (at_code code 0xE8 (if-had 0xE8 f.pe rdlr (none 0xE8)) (none code)))))))))))))))))

-- what holds by each kind of cycle and of the other holds of what an instruction has
pub start-ind : {A : Type 0} (P : A → Type 0) (t : Turn) (by : Kind → A) (other : A) → ((k : Kind) → P (by k)) → P other → P (on_start t by other)
start-ind P Keep by other p q = q
start-ind P Enable by other p q = q
start-ind P Disable by other p q = q
start-ind P (Start k) by other p q = p k
start-ind P Sleep by other p q = q
start-ind P Wake by other p q = q
start-ind P Lock by other p q = q
