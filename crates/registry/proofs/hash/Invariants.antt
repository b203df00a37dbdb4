-- The hash of what is left is the hash of the record.
-- Assumes nothing.
use Rattle.node_compile.specs.Compile.{builder_is}
use Rattle.packing.specs.Registry.{hash_of}
use Rattle.registry.proofs.Hashing.{Hashed}
use Rattle.registry.proofs.hash.Given as goal

abbrev pub invariant-loop-i : goal.invariant-loop-i
invariant-loop-i l =
    Hashed l.node.inputs.now l.node.outputs.now l.node.targets.now (hash_of (builder_is l.node)) l.h l.i
