-- Raw pins: the pins as a machine, the transactions found, and the run.
pub mod Pins
pub mod Run
pub mod Counted
pub mod Worked
