-- A u64 is below 2^64, and so is each element of a slice of them; an element of a slice of bytes is below 256. Assumes nothing.
use Rattle.node_compile.proofs.are_numbers.Goals as goal

pub returns : goal.returns
returns c = (c.ranges.final_output.fits, λ i. (c.type_inv.inputs i).fits, λ i. (c.type_inv.outputs i).fits)
