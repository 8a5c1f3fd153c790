-- What is found on the way: a transaction on a part of the array.
use Rattle.std.specs.Prelude.{Bool, List, ◌++◌, ℕ, ◌-◌, take, drop}
use Rattle.device.specs.declared.Device.{Device}
use Rattle.chip.specs.Outcome.{Outcome, transacted}

-- a transaction on the bytes from place a up to e: what stands before and behind them stays
unfoldable pub partly : ℕ → ℕ → Device → List ℕ → List ℕ → ℕ → Bool → List ℕ → Outcome
partly a e d array sent pulses w response =
    let o = transacted d (take (e - a) (drop a array)) sent pulses w response in
    record { answer = o.answer; device = o.device; array = take a array ++ (o.array ++ drop e array); response = o.response }
