-- The C calls of images: their promises from those of the crate, and that each admits one outcome only.
-- Assumes nothing.
use mathlib.Core.Path.{◌≡◌, ap, ◌∙◌}
use mathlib.Core.List.{List}
use Prim.Native.Nat.{ℕ, ◌<◌}
use native.Mathlib.Omega.{arith}
use lib.ListN.{length}
use Rattle.slices.proofs.Outcomes as same
use Rattle.chip.specs.Outcome.{bare}
use Rattle.image.specs.declared.Reply.{Reply}
use Rattle.image.specs.Calls.{Written, Read, Salvaged}
use Rattle.image.proofs.Calls.{read-few, salvage-few}
use Rattle.m25p.specs.Calls.{packed_answer}
use Rattle.m25p.specs.Image.{with_blocks, WrittenC, ReadC, SalvagedC}

pub wrote : {part : ℕ} {array image : List ℕ} {k r : ℕ} {image' : List ℕ} → Written part array image k image' → r ≡ packed_answer (bare k) → WrittenC part array image r image'
wrote w e = record { answer = e ∙ ap (λ (k : ℕ). packed_answer (bare k)) w.answer; blocks = w.blocks }

pub did_read : {part : ℕ} {image array : List ℕ} {k : Reply} {r : ℕ} {array' : List ℕ} → Read part image array k array' → r ≡ packed_answer (with_blocks k) → ReadC part image array r array'
did_read d e = record { answer = e ∙ ap (λ (k : Reply). packed_answer (with_blocks k)) d.answer; memory = d.memory }

pub did-salvage : {part : ℕ} {image list : List ℕ} {k : Reply} {r : ℕ} {image' list' : List ℕ} → Salvaged part image list k image' list' → r ≡ packed_answer (with_blocks k) → SalvagedC part image list r image' list'
did-salvage s e = record { answer = e ∙ ap (λ (k : Reply). packed_answer (with_blocks k)) s.answer; blocks = s.blocks; places = s.places }

-- so many blocks fit their bits
pub read_fits : {part : ℕ} {image array : List ℕ} {k : Reply} {array' : List ℕ} → Read part image array k array' → k.blocks < 4294967296
read_fits {part} {image} {array} d = rw d.answer (omega (arith, read-few part image (length array)))

pub salvage-fits : {part : ℕ} {image list : List ℕ} {k : Reply} {image' list' : List ℕ} → Salvaged part image list k image' list' → k.blocks < 4294967296
salvage-fits {part} {image} {list} s = rw s.answer (omega (arith, salvage-few part image (length list)))

-- the promises admit one outcome only
pub write-one-outcome : {part : ℕ} {array image : List ℕ} {r t : ℕ} {image' image'' : List ℕ} → WrittenC part array image r image' → WrittenC part array image t image'' → (r ≡ t) × (image' ≡ image'')
write-one-outcome p q = (same.one-outcome p.answer q.answer, same.one-outcome p.blocks q.blocks)

pub read-one-outcome : {part : ℕ} {image array : List ℕ} {r t : ℕ} {array' array'' : List ℕ} → ReadC part image array r array' → ReadC part image array t array'' → (r ≡ t) × (array' ≡ array'')
read-one-outcome p q = (same.one-outcome p.answer q.answer, same.one-outcome p.memory q.memory)

pub salvage-one-outcome : {part : ℕ} {image list : List ℕ} {r t : ℕ} {image' image'' list' list'' : List ℕ} → SalvagedC part image list r image' list' → SalvagedC part image list t image'' list''
    → (r ≡ t) × (image' ≡ image'') × (list' ≡ list'')
salvage-one-outcome p q = (same.one-outcome p.answer q.answer, same.one-outcome p.blocks q.blocks, same.one-outcome p.places q.places)
