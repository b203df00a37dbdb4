-- Laws of `Entries`.
--     met_sound, met_unsound          what an answer of entering says of the judgement
--     ending_final, ending_inner      whether the node is final
--     sound_set, sound_less           the sound addresses of a list after a store; of its first ones
-- Assumes nothing.
use Rattle.std.specs.Prelude.{◌≡◌, refl, Bool, true, false, cond, Ok, Err, Option, Some, None, List, ℕ, ◌+◌, ◌<◌, ◌≤◌, length, set}
use Rattle.std.proofs.Math.Decide.{ℕ_discrete}
use Rattle.std.proofs.Common.{arith, get_or-set_same, get_or-set_other}
use Rattle.format.specs.Node.{Node, Judgement, sound, unsound}
use Rattle.format.specs.Paths.{Fst, node_in}
use Rattle.node.specs.declared.Unsound.{Unsound}
use Rattle.range_node.specs.Entries.{ending_of, met_of, SoundTo}

pub record Meeting (j : Judgement) (e : Option ℕ) : Type 0 where
  pub node : Node
  pub is : j ≡ sound node
  pub ending : e ≡ ending_of node

pub met_sound : (j : Judgement) (e : Option ℕ) → Ok e ≡ met_of j → Meeting j e
met_sound (sound m) e q = record { node = m; is = refl; ending = cc }
met_sound unsound e q = absurd (let z : ◌≡◌ {A = ℕ} 0 1 = cc in omega arith)

pub met_unsound : (j : Judgement) → {u : Unsound} → Err u ≡ met_of j → j ≡ unsound
met_unsound (sound m) q = absurd (let z : ◌≡◌ {A = ℕ} 0 1 = cc in omega arith)
met_unsound unsound q = refl

pub ending_final : (m : Node) (v : ℕ) → Some v ≡ ending_of m → (m.final ≡ true) × (v ≡ m.final_output)
ending_final m v = go m.final
  where
    go : (b : Bool) → Some v ≡ cond b (Some m.final_output) None → (b ≡ true) × (v ≡ m.final_output)
    go true q = (refl, cc)
    go false q = absurd (let z : ◌≡◌ {A = ℕ} 0 1 = cc in omega arith)

pub ending_inner : (m : Node) → None ≡ ending_of m → m.final ≡ false
ending_inner m = go m.final
  where
    go : (b : Bool) → None ≡ cond b (Some m.final_output) None → b ≡ false
    go true q = absurd (let z : ◌≡◌ {A = ℕ} 0 1 = cc in omega arith)
    go false q = refl

-- ---- the sound addresses of a list

pub sound_less : (f : Fst) (xs : List ℕ) (j n : ℕ) → SoundTo f xs n → j ≤ n → SoundTo f xs j
sound_less f xs j n h less = λ k l. h k (omega arith)

pub sound_set : (f : Fst) (xs : List ℕ) (k a : ℕ) {n : Node} → k + 1 < length xs → SoundTo f xs (k + 1) → node_in f a ≡ sound n
    → SoundTo f (set xs (k + 1) a) (k + 1 + 1)
sound_set f xs k a {n} low h is = λ j l.
    elim (ℕ_discrete j (k + 1)) [
      | yes z ↦ rw (z, get_or-set_same xs (k + 1) a 0 low) (record { node = n; is = is })
      | no ne ↦ rw (get_or-set_other xs (k + 1) j a 0 ne) (h j (omega arith))
    ]
