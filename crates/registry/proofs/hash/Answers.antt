-- A turn takes a transition more, and at the end none is left.
-- Assumes nothing.
use Rattle.std.proofs.Common.{◌≡◌, Bool, true, false, cond, refl, ◌∙◌, arith}
use mir.Val.{bool_byte}
use Rattle.packing.specs.Registry.{hash_node, hash_of}
use Rattle.registry.proofs.Hashing.{hashed_step, hashed_all}
use Rattle.registry.proofs.hash.Goals as goal

-- a flag as a number
word : (b : Bool) → bool_byte b ≡ cond b 1 0
word true = refl
word false = refl

-- no transition is taken yet
pub loop-i-init : goal.loop-i-init
unfolding hash_of hash_node
loop-i-init c = record {
  within = omega arith;
  rest = rw (c.fnv_step-h.ensures, c.fnv_step-seed.ensures, c.from.ensures ∙ word c.args.node.is_final);
}

pub loop-i-preserved : goal.loop-i-preserved
loop-i-preserved c =
    hashed_step c.hash_transition-h.result c.requires.outputs_len c.requires.targets_len (omega arith) c.hash_transition-h.ensures c.loop-i.invariant

pub returns : goal.returns
returns c = hashed_all (omega arith) c.loop-i.invariant
