-- Each element of a slice of bytes is below 256, by its type. Assumes nothing.
use Rattle.format.proofs.are_bytes.Goals as goal

pub returns : goal.returns
returns c i = (c.type_inv.bytes i).fits
