-- `device::packing::agrees` meets its contract.
use mathlib.Core.Path.{◌≡◌, sym, ◌∙◌}
use lib.ListN.{take, drop}
use Rattle.slices.specs.Bytes.{same_bytes, word}
use Rattle.slices.proofs.Stores.{stored-whole}
use Rattle.device.proofs.Calls.{length_front}
use Rattle.device.specs.Packing.{front_length, named_place, front_of}
use borrow.Author.Rules.{rules}
use Rattle.device.proofs.packing.agrees.Goals as goal

pub returns-then-eq : goal.returns-then-eq
unfolding front_of
returns-then-eq c =
    let w : c.write_front.new.out ≡ front_of c.args.d = c.write_front.ensures ∙ stored-whole _ _ (length_front c.args.d) in
    let front : c.eq.result ≡ same_bytes (take front_length c.args.b.now) (front_of c.args.d) = search rules in
    let four : c.to_le_bytes.result ≡ word c.args.d.cycle.named = c.to_le_bytes.ensures in
    let mine : c.part_in-named.result ≡ take 4 (drop named_place c.args.b.now) = c.part_in-named.ensures in
    let named : c.eq-then-eq.result ≡ same_bytes (take 4 (drop named_place c.args.b.now)) (word c.args.d.cycle.named) = c.eq-then-eq.ensures ∙ rw (mine, four) in
    rw (sym front, sym named, c.if-eq.true)

pub returns-else-eq : goal.returns-else-eq
unfolding front_of
returns-else-eq c =
    let w : c.write_front.new.out ≡ front_of c.args.d = c.write_front.ensures ∙ stored-whole _ _ (length_front c.args.d) in
    let front : c.eq.result ≡ same_bytes (take front_length c.args.b.now) (front_of c.args.d) = search rules in
    search rules
