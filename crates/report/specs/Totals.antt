-- Document 02, Wish 12: what is counted, from the transactions and their answers, and where each number stands.
use Rattle.std.specs.Prelude.{Bool, false, cond, ◌&&◌, ◌||◌, List, [], ◌∷◌, ℕ, zero, suc, ◌+◌, ◌-◌, ◌*◌, ◌/◌, ◌%◌, eqb, ltb, get_or}
use Rattle.slices.specs.Bytes.{long, long_at}
use Rattle.slices.specs.Changed.{map_at}
use Rattle.parts.specs.declared.Figures.{Figures}
use Rattle.chip.specs.declared.Answer.{Answer}
use Rattle.chip.specs.Table.{sector_in}
use Rattle.chip.specs.Events.{Event, sends, waits, starts, loses, Reply}

-- ---- the transactions and their answers

-- a transaction: the bytes that were sent, and what it answered
pub record Dealt : Type 0 where
  pub sent : List ℕ
  pub answer : Answer

-- those of a list of events, with what the caller saw of each: waits don't count
abbrev pub dealt : List Event → List Reply → List Dealt
dealt [] rs = []
dealt (e ∷ es) [] = []
dealt (sends bytes pulses w ∷ es) (r ∷ rs) = record { sent = bytes; answer = r.answer } ∷ dealt es rs
dealt (waits t ∷ es) (r ∷ rs) = dealt es rs
dealt (starts ∷ es) (r ∷ rs) = dealt es rs
dealt (loses mask told ∷ es) (r ∷ rs) = dealt es rs

-- a number of each of them, summed over all
abbrev pub sum_over : (Dealt → ℕ) → List Dealt → ℕ
sum_over f [] = 0
sum_over f (t ∷ ts) = f t + sum_over f ts

-- how many pass a test
abbrev pub count_of : (Dealt → Bool) → List Dealt → ℕ
count_of test ts = sum_over (λ t. cond (test t) 1 0) ts

-- ---- what is counted

-- the instruction: the first byte
abbrev pub code_of : Dealt → ℕ
code_of t = get_or t.sent 0 0

-- the answer number
abbrev pub number_of : Dealt → ℕ
number_of t = t.answer.number

-- executed is what answered 0
abbrev pub was_executed : Dealt → Bool
was_executed t = eqb (number_of t) 0

-- an executed page program: code 02
abbrev pub was_program : Dealt → Bool
was_program t = was_executed t && eqb (code_of t) 2

-- executed with this first byte
abbrev pub executed_as : ℕ → List Dealt → ℕ
executed_as code = count_of (λ t. was_executed t && eqb (code_of t) code)

-- answered with this number
abbrev pub answered_as : ℕ → List Dealt → ℕ
answered_as k = count_of (λ t. eqb (number_of t) k)

-- driven bytes in all
abbrev pub driven_in : List Dealt → ℕ
driven_in = sum_over (λ t. t.answer.count)

-- executed page programs that addressed this sector
abbrev pub programs_in : Figures → ℕ → List Dealt → ℕ
programs_in f s = count_of (λ t. was_program t && eqb (sector_in f t.sent) s)

-- ---- the numbers in their order

-- executed by first byte 0 to 255; answers by number 0 to 31; driven bytes; page programs by sector 0 to 63
abbrev pub total_of : Figures → List Dealt → ℕ → ℕ
total_of f ts i =
    cond (ltb i 256) (executed_as i ts)
    (cond (ltb i 288) (answered_as (i - 256) ts)
    (cond (ltb i 289) (driven_in ts)
    (programs_in f (i - 289) ts)))

-- 353 of them
abbrev pub totals : ℕ
totals = 353

-- each of 64 bits, little-endian
abbrev pub total_bytes : ℕ
total_bytes = 2824

-- the most that 64 bits hold
abbrev pub largest : ℕ
largest = 18446744073709551615

-- number i of those that bytes hold
abbrev pub total_in : List ℕ → ℕ → ℕ
total_in b i = long_at b (8 * i)

-- ---- added

-- a test holds of some number below n
abbrev pub some_below : ℕ → (ℕ → Bool) → Bool
some_below zero test = false
some_below (suc n) test = some_below n test || test n

-- whether some sum is more than 64 bits hold
unfoldable pub exceeds : (ℕ → ℕ) → List ℕ → Bool
exceeds more b = some_below totals (λ i. ltb largest (total_in b i + more i))

-- the sums of the first n numbers in their places; each byte behind them stays
unfoldable pub added_to : ℕ → (ℕ → ℕ) → List ℕ → List ℕ
added_to n more b = map_at (λ j x. cond (ltb j (8 * n)) (get_or (long (total_in b (j / 8) + more (j / 8))) (j % 8) 0) x) b

-- all of them
abbrev pub added : (ℕ → ℕ) → List ℕ → List ℕ
added more b = added_to totals more b
