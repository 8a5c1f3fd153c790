-- `pins::underway::Underway::bit_taken` meets its contract.
use Rattle.std.proofs.Common.{◌<◌, rules, eq-eqb, ne_eqb}
use Rattle.pins.specs.Counted.{one_more, stored}
use Rattle.pins.proofs.Seen.{shift-few}
use Rattle.pins.proofs.underway.Underway.bit_taken.Goals as goal

pub returns-then-self-ne7 : goal.returns-then-self-ne7
unfolding one_more stored
returns-then-self-ne7 c = let e = ne_eqb _ 7 c.if-self-ne7.true in record { under = rw (e, c.shift_in-register.ensures); bytes = rw e }

pub overflow_cast-sent : goal.overflow_cast-sent
overflow_cast-sent c = let h : c.shift_in-register.result < 256 = rw c.shift_in-register.ensures (shift-few _ _) in search rules

pub returns : goal.returns
unfolding one_more stored
returns c = let e = eq-eqb _ 7 c.if-self-ne7.false in record { under = rw (e, c.driven_byte.ensures, c.shift_in-register.ensures); bytes = rw (e, c.shift_in-register.ensures) }
