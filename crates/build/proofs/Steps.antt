-- One law for each way out of a function and for each turn of its loop, in plain terms: what the calls and tests on the way gave, and what the
-- contract asks. Those of the reader's cycle are in parse/proofs/Steps.
pub mod Inside
pub mod Operation
pub mod Prefixes
