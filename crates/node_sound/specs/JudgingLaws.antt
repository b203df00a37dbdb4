-- A node is judged by its shape: what each way out of the judging functions says.
-- Assumes nothing.
use Rattle.std.specs.Prelude.{◌≡◌, refl, Bool, true, false, cond, ◌&&◌, List, ℕ, ◌+◌, ◌-◌, ◌*◌, ◌%◌, ◌≤◌, ◌<◌, ltb, leb, eqb, get_or, Option, Some, None, is_some}
use Rattle.std.proofs.Common.{arith}
use Rattle.format.specs.declared.State.{State}
use Rattle.format.specs.declared.State.TheVariants.{OneTransNext, OneTrans, AnyTrans}
use Rattle.buffers.specs.Decide.{Decides}
use Rattle.buffers.specs.DecideLaws.{decides_true, decides_false, decides_iff}
use Rattle.format.specs.Node as F
use Rattle.format.specs.Node.{state_form, head_len, ntrans_in, ntrans_of, sizes_len, inputs_len, index_len, end_len, size_of, shape_of, SoundShape, SoundAt}
use Rattle.node_sound.specs.declared.Parts.{Parts as PartsOf}
use Rattle.node_sound.specs.Shapes.{is_any, AtForm, parts_at, PartsRight, Judged}

pub end_len_le : (final : Bool) (osize : ℕ) → end_len final osize ≤ osize
end_len_le true osize = omega arith
end_len_le false osize = omega arith

-- ---- what a shape's size holds

pub record Parts (h : F.Shape) : Type 0 where
  pub whole : end_len h.final h.osize + h.ntrans * h.osize + h.ntrans * h.tsize + inputs_len h.state h.ntrans + h.indexed + sizes_len h.state + 1 ≤ h.size
  pub entries : ¬ (h.indexed ≡ 0) → h.indexed ≡ 256
  pub single : is_any h.state ≡ false → h.ntrans ≡ 1

pub head_len_pos : (s : List ℕ) (a : ℕ) → 1 ≤ head_len s a
unfolding head_len
head_len_pos s a = go (eqb (get_or s a 0 % 64) 0)
  where
    go : (t : Bool) → 1 ≤ cond {A = ℕ} t 2 1
    go true = omega arith
    go false = omega arith

pub parts_of : (s : List ℕ) (v a : ℕ) → Parts (shape_of s v a)
unfolding size_of index_len ntrans_of
parts_of s v a = record {
  whole = omega (arith, head_len_pos s a);
  entries = few (leb 2 v && ltb 32 (ntrans_of s a));
  single = one (state_form (get_or s a 0));
}
  where
    few : (t : Bool) → ¬ (◌≡◌ {A = ℕ} (cond t 256 0) 0) → ◌≡◌ {A = ℕ} (cond t 256 0) 256
    few true ne = refl
    few false ne = absurd (ne refl)

    one : (st : State) → is_any st ≡ false → ntrans_in st s a ≡ 1
    one OneTransNext e = refl
    one OneTrans e = refl
    one AnyTrans e = absurd (let z : ◌≡◌ {A = ℕ} 0 1 = cc in omega arith)

-- a sound node takes at least its state byte, from 16 on
pub sound_low : (s : List ℕ) (v root a : ℕ) → SoundAt s v root a → 16 ≤ a
sound_low s v root a h = omega (arith, h.above, (parts_of s v a).whole)

-- the state byte of a sound node lies from 16 to the root, and in the file
pub sound_form : (s : List ℕ) (v root a : ℕ) → SoundAt s v root a → AtForm s root a
sound_form s v root a is_sound = record { low = sound_low s v root a is_sound; below = is_sound.below; inside = is_sound.inside }

-- ---- soundness is that of the shape

module _ (s : List ℕ) (v root a : ℕ) (h : F.Shape) (is_h : h ≡ shape_of s v a) (ne : ¬ (a ≡ 0)) where
  pub parts : Parts h
  parts = rw is_h (parts_of s v a)

  pub sound_no : ¬ SoundShape s root a h (a + 1 - h.size) → Decides false (SoundAt s v root a)
  sound_no not_sound = decides_false (rw is_h at not_sound)

  pub sound_iff : {P : Type 0} {r : Bool} → (P → SoundShape s root a h (a + 1 - h.size)) → (SoundShape s root a h (a + 1 - h.size) → P) → Decides r P
      → Decides r (SoundAt s v root a)
  sound_iff to from d = rw is_h at (decides_iff to from d)

  pub shape_sound : SoundAt s v root a → SoundShape s root a h (a + 1 - h.size)
  shape_sound is_sound = rw is_h is_sound

  -- the answer with the parts of a sound node
  pub judged_parts : (p : PartsOf) → p ≡ parts_at h a → SoundShape s root a h (a + 1 - h.size) → Judged s v root a (Some p)
  judged_parts p is_p is_sound = record {
    some = λ q e. let same : p ≡ q = cc in rw (← same) (sound, is_parts);
    none = λ e. absurd (let z : ◌≡◌ {A = ℕ} 0 1 = cc in omega arith);
  }
    where
      sound : SoundAt s v root a
      sound = rw is_h at is_sound

      is_parts : p ≡ parts_at (shape_of s v a) a
      is_parts = rw is_h at is_p

-- ---- a node with any number of transitions

-- its parts are stored: it has the state `AnyTrans`
module _ (s : List ℕ) (root a : ℕ) (h : F.Shape) (any : h.state ≡ AnyTrans) where
  -- all tests passed
  pub shape_right : AtForm s root a → h.size ≤ a - 15 → (h.tsize ≤ 8) × (h.osize ≤ 8) × (0 < h.ntrans → 0 < h.tsize)
      → F.Useful h.final h.ntrans a root → PartsRight s (parts_at h a) → SoundShape s root a h (a + 1 - h.size)
  shape_right form above sizes useful right = record {
    inside = form.inside;
    below = form.below;
    above = omega (arith, form.low);
    sizes = record { tsize_le = sizes.0; osize_le = sizes.1; tsize_pos = λ _. sizes.2 };
    ascending = rw any right.ascending;
    entries = rw any right.index;
    targets = rw any right.targets;
    useful = useful;
  }

  pub right_parts : SoundShape s root a h (a + 1 - h.size) → PartsRight s (parts_at h a)
  right_parts is_sound = record {
    ascending = rw any at is_sound.ascending;
    targets = rw any at is_sound.targets;
    index = rw any at is_sound.entries;
  }

module _ {s : List ℕ} {v root a : ℕ} where
  pub judged_none : ¬ SoundAt s v root a → Judged s v root a None
  judged_none not_sound = record {
    some = λ p e. absurd (let z : ◌≡◌ {A = ℕ} 0 1 = cc in omega arith);
    none = λ e. not_sound;
  }

  -- the answer with parts is `true`, and the one with none `false`
  pub judged_decides : (r : Option PartsOf) → Judged s v root a r → Decides (is_some r) (SoundAt s v root a)
  judged_decides (Some p) j = decides_true (j.some p refl).0
  judged_decides None j = decides_false (j.none refl)
