-- One law for each way out of a function of the reader's cycle and for each turn of its loop; those of what nests to the right are in waiting/proofs.
pub mod Binding
pub mod Bproperty
pub mod Comma
pub mod Cursors
pub mod Element
pub mod Head
pub mod Init
pub mod Key
pub mod Left
pub mod Listing
pub mod Primary
pub mod Property
pub mod Rest
pub mod Singles
pub mod Spread
pub mod Unary
