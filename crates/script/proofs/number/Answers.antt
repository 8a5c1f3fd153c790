-- `number` meets its contract: the digits to come after the value so far give the number of the whole.
use Rattle.std.proofs.Common.{◌≡◌, ◌∙◌, ◌+◌, ◌*◌, ◌≤◌, get_or, refl, arith, drop_of_length-le}
use Rattle.script.specs.Lines.{digit_of, number_of}
use Rattle.script.proofs.Reading.{no_digits, too_large, is_one}
use Rattle.script.proofs.number.Goals as goal

pub returns-then-is_empty-all_below : goal.returns-then-is_empty-all_below
returns-then-is_empty-all_below c = no_digits c.args.text.now (rw (c.is_empty.ensures, c.all_below.ensures) at c.if-is_empty-all_below.true)

pub loop-x-init : goal.loop-x-init
unfolding number_of
loop-x-init c = record { small = omega arith; so_far = refl }

pub returns-in_err-checked_mul : goal.returns-in_err-checked_mul
returns-in_err-checked_mul c =
    let l = c.loop-x in
    let big : 4294967296 ≤ 10 * l.v + digit_of (get_or c.args.text.now l.x-index 0) = omega (arith, c.in_err-checked_mul.ensures) in
    c.from_residual.ensures ∙ too_large c.args.text.now l.x-index l.v c.loop-x-test.true l.invariant.so_far big

pub returns-in_err-v : goal.returns-in_err-v
returns-in_err-v c =
    let l = c.loop-x in
    let big : 4294967296 ≤ 10 * l.v + digit_of (get_or c.args.text.now l.x-index 0) = omega (arith, c.in_err-v.ensures, c.in_ok-checked_mul.ensures) in
    c.from_residual-in_err-v.ensures ∙ too_large c.args.text.now l.x-index l.v c.loop-x-test.true l.invariant.so_far big

pub returns : goal.returns
returns c =
    let text = c.args.text.now in
    let l = c.loop-x in
    let e : l.v ≡ number_of text = rw (drop_of_length-le text {i = l.x-index} c.loop-x-test.false) at l.invariant.so_far in
    let s = l.invariant.small in
    is_one text l.v (rw (c.is_empty.ensures, c.all_below.ensures) at c.if-is_empty-all_below.false) e (omega arith)
