use Rattle.std.proofs.Common.{◌≡◌, drop}
use Rattle.image.specs.Sums.{sums_from, sums_of}
use Rattle.image.proofs.sums_of.Given as goal

abbrev pub invariant-loop-byte : goal.invariant-loop-byte
invariant-loop-byte l = sums_from l.first l.second (drop l.byte-index l.bytes) ≡ sums_of l.number l.bytes
