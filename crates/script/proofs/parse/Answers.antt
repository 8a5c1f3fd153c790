-- `parse` meets its contract: each way out is a case of the definition.
use mathlib.Core.Path.{◌≡◌, sym, ◌∙◌}
use mathlib.Core.Bool.{true, false}
use borrow.Author.Tests.{lt-ltb, le-ltb}
use lib.ListN.{length}
use Rattle.script.specs.Lines.{meaning, bytes_of, is_power_up}
use Rattle.script.proofs.Reading.{none-stored, exchange-hex, waits, no_wait, length_pairs}
use Rattle.script.proofs.parse.Goals as goal

pub returns-then-line-gt600 : goal.returns-then-line-gt600
unfolding meaning bytes_of
returns-then-line-gt600 c =
    let a = c.args in
    let long = lt-ltb 600 (length a.line.now) c.if-line-gt600.true in
    record { command = rw long; stored = rw long (none-stored a.sent.now) }

pub store-requires : goal.store-requires
store-requires c = let e = c.in-Some.ensures in rw e.3 (exchange-hex c.args.line.now e.0)

pub returns-in-Some : goal.returns-in-Some
unfolding meaning bytes_of
returns-in-Some c =
    let e = c.in-Some.ensures in
    let short = le-ltb 600 (length c.args.line.now) c.if-line-gt600.false in
    record { command = simp (e.1, e.2, e.3, short, e.0, length_pairs); stored = rw (short, e.0, sym e.3) c.store.ensures }

pub returns-in-Some-ticks : goal.returns-in-Some-ticks
unfolding meaning bytes_of
returns-in-Some-ticks c =
    let a = c.args in
    let short = le-ltb 600 (length a.line.now) c.if-line-gt600.false in
    let no = c.in_default.ensures in
    let is = waits a.line.now c.in-Some-ticks.t c.in-Some-ticks.ensures in
    record { command = rw (short, no, is.0, is.1); stored = rw (short, no) (none-stored a.sent.now) }

pub returns-then-is_power_up : goal.returns-then-is_power_up
unfolding meaning bytes_of
returns-then-is_power_up c =
    let a = c.args in
    let short = le-ltb 600 (length a.line.now) c.if-line-gt600.false in
    let no = c.in_default.ensures in
    let not = no_wait a.line.now (sym c.in_default-ticks.ensures) in
    let is : is_power_up a.line.now ≡ true = sym c.is_power_up.ensures ∙ c.if-is_power_up.true in
    record { command = rw (short, no, not, is); stored = rw (short, no) (none-stored a.sent.now) }

pub returns : goal.returns
unfolding meaning bytes_of
returns c =
    let a = c.args in
    let short = le-ltb 600 (length a.line.now) c.if-line-gt600.false in
    let no = c.in_default.ensures in
    let not = no_wait a.line.now (sym c.in_default-ticks.ensures) in
    let nor : is_power_up a.line.now ≡ false = sym c.is_power_up.ensures ∙ c.if-is_power_up.false in
    record { command = rw (short, no, not, nor); stored = rw (short, no) (none-stored a.sent.now) }
