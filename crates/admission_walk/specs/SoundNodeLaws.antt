-- What soundness at an address says of the node there.
-- Assumes nothing.
use Rattle.std.specs.Prelude.{◌≡◌, ℕ}
use Rattle.std.proofs.Common.{arith}
use Rattle.format.specs.Node.{Node, sound, unsound, SoundAt, node_of}
use Rattle.format.specs.Laws.NodeLaws.{node_at_sound, node_at_unsound}
use Rattle.format.specs.Paths.{Fst, node_in}

-- a sound node has a meaning, and any other has none
pub sound_node : (f : Fst) (a : ℕ) → SoundAt f.bytes f.version f.root a → (m : Node) × (node_in f a ≡ sound m)
sound_node f a h = (node_of f.bytes f.version a, node_at_sound f.bytes f.version f.root a (λ z. omega (arith, h.above)) h)

pub unsound_node : (f : Fst) (a : ℕ) → ¬ (a ≡ 0) → ¬ SoundAt f.bytes f.version f.root a → node_in f a ≡ unsound
unsound_node f a ne h = node_at_unsound f.bytes f.version f.root a ne h
