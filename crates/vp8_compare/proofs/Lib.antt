-- What the proofs of several functions use.
mod Maps
mod Parts
