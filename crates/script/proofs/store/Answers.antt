-- `store` meets its contract: the bytes up to i are those of the pairs, the others stay.
use Rattle.std.proofs.Common.{◌≡◌, ◌∙◌, ◌+◌, ◌*◌, ◌≤◌, ◌<◌, length, get_or, take, arith, length-take}
use lib.ListN.{get_or-eq_default}
use Rattle.slices.proofs.Windows.{window-start, loop-step, window-end}
use Rattle.script.specs.Lines.{pairs, digit_of}
use Rattle.script.proofs.Reading.{below_at, length_pairs, pairs-at, change-front}
use Rattle.script.proofs.store.Goals as goal

pub loop-i-init : goal.loop-i-init
loop-i-init c = window-start 0 _ _

pub overflow_mul-byte : goal.overflow_mul-byte
overflow_mul-byte c =
    let i = c.loop-i.i in
    let text = c.args.text.now in
    let n = length-take c.min-n.result c.args.out.now in
    let f : digit_of (get_or text (2 * i) 0) < 16 = below_at 16 text (2 * i) c.requires (omega arith) in
    omega (arith, c.digit.ensures)

pub overflow_add-byte : goal.overflow_add-byte
overflow_add-byte c =
    let i = c.loop-i.i in
    let text = c.args.text.now in
    let n = length-take c.min-n.result c.args.out.now in
    let f : digit_of (get_or text (2 * i) 0) < 16 = below_at 16 text (2 * i) c.requires (omega arith) in
    let g : digit_of (get_or text (2 * i + 1) 0) < 16 = below_at 16 text (2 * i + 1) c.requires (omega arith) in
    omega (arith, c.digit.ensures, c.digit-in-loop-i.ensures)

pub loop-i-preserved : goal.loop-i-preserved
loop-i-preserved c =
    let i = c.loop-i.i in
    let text = c.args.text.now in
    let front = take c.min-n.result c.args.out.now in
    let n = length-take c.min-n.result c.args.out.now in
    let v : 16 * c.digit.result + c.digit-in-loop-i.result ≡ get_or (pairs text) i (get_or front i 0) =
    omega (arith, c.digit.ensures, c.digit-in-loop-i.ensures, pairs-at text i (get_or front i 0) (omega arith)) in
    loop-step 0 i _ front _ c.loop-i.invariant (omega arith) c.loop-i-test.true v

pub returns : goal.returns
returns c =
    let text = c.args.text.now in
    let out = c.args.out.now in
    change-front c.min-n.result (get_or (pairs text)) out _ (omega arith) (c.loop-i.invariant ∙ window-end _ _ _ c.loop-i-test.false)
    (λ i x h lt. let k : length (pairs text) ≤ i = omega (arith, length_pairs text, c.min-n.ensures) in get_or-eq_default (pairs text) x k)
