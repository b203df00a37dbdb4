-- The shapes that the three judging functions work out are the definition's, and what makes each of them sound.
-- Assumes nothing.
use Rattle.std.proofs.Math.Path.{◌≡◌}
use Rattle.std.specs.Prelude.{refl, Bool, false, List, [], ◌∷◌, ℕ, ◌+◌, ◌-◌, ◌*◌, ◌/◌, ◌%◌, ◌≤◌, ◌<◌, leb, get_or}
use Rattle.std.proofs.Common.{◌∙◌, inl, mul-le-mul_right, mul-le-mul_left, le_trans}
use Rattle.std.proofs.Math.Logic.{inr}
use native.Mathlib.Omega.{arith}
use Rattle.format.specs.declared.State.TheVariants.{OneTransNext, OneTrans, AnyTrans}
use Rattle.format.specs.Node as F
use Rattle.format.specs.Node.{state_form, is_final, count_of, head_len, input_of, ntrans_of, sizes_byte, index_len, end_len, size_of, shape_of, numbers_down, Ascending, TargetRight, TargetsRight, Useful, SoundShape}
use Rattle.format.specs.Laws.NodeLaws.{any_lt, one_from, next_from, not_final, final_any}
use Rattle.format.specs.Laws.HeadLaws.{ntrans_next, ntrans_one, ntrans_any, sizes_next, sizes_one, sizes_any, index_len_few}
use Rattle.format.specs.Laws.StoredLaws.{length_numbers_down}
use Rattle.node_sound.specs.Shapes.{AtForm, one_shape}

pub ascending_single : (b : ℕ) → Ascending (b ∷ [])
unfolding Ascending
ascending_single b i l = absurd (omega arith)

-- ---- any number of transitions

abbrev pub any_shape : Bool → ℕ → ℕ → ℕ → ℕ → ℕ → F.Shape
any_shape final n tsize osize il size = record {
  state = AnyTrans;
  final = final;
  ntrans = n;
  tsize = tsize;
  osize = osize;
  indexed = il;
  size = size;
}

pub shape_any : (s : List ℕ) (v a st len n sizes el il : ℕ) → st ≡ get_or s a 0 → state_form st ≡ AnyTrans → len ≡ head_len s a → n ≡ count_of s a → sizes ≡ get_or s (a - len) 0
    → el ≡ end_len (leb 64 st) (sizes % 16) → il ≡ index_len v n
    → any_shape (leb 64 st) n (sizes / 16) (sizes % 16) il (el + n * (sizes % 16) + n * (sizes / 16) + n + il + 1 + len) ≡ shape_of s v a
unfolding size_of
shape_any s v a st len n sizes el il is_st is_any is_len is_n is_sizes is_el is_il =
    let form : state_form (get_or s a 0) ≡ AnyTrans = rw is_st at is_any in
    let fin : is_final (get_or s a 0) ≡ leb 64 (get_or s a 0) = final_any (get_or s a 0) (any_lt (get_or s a 0) form) in
    let count : ntrans_of s a ≡ count_of s a = ntrans_any s a form in
    let stored : sizes_byte s a ≡ get_or s (a - head_len s a) 0 = sizes_any s a form in
    rw (form, fin, count, stored, is_el, is_il, is_n, is_sizes, is_len, is_st)

mul_small : (n d : ℕ) → n ≤ 256 → d ≤ 15 → n * d ≤ 3840
mul_small n d hn hd = le_trans (mul-le-mul_right d hn) (mul-le-mul_left 256 hd)

-- 256 transitions at most, each with a delta and an output of 15 bytes at most
pub any_size_le : {n sizes el il len : ℕ} → n ≤ 256 → sizes < 256 → el ≤ sizes % 16 → il ≤ 256 → len ≤ 2
    → el + n * (sizes % 16) + n * (sizes / 16) + n + il + 1 + len ≤ 8210
any_size_le {n} {sizes} few byte le_el le_il le_len =
    omega (arith, mul_small n (sizes % 16) few (omega arith), mul_small n (sizes / 16) few (omega arith))

-- ---- one transition

pub shape_one : (s : List ℕ) (v a len sizes : ℕ) → state_form (get_or s a 0) ≡ OneTrans → len ≡ head_len s a → sizes ≡ get_or s (a - len) 0
    → one_shape (sizes / 16) (sizes % 16) (sizes % 16 + sizes / 16 + 1 + len) ≡ shape_of s v a
unfolding size_of
shape_one s v a len sizes form is_len is_sizes =
    let fin : is_final (get_or s a 0) ≡ false = not_final (get_or s a 0) (one_from (get_or s a 0) form) in
    let count : ntrans_of s a ≡ 1 = ntrans_one s a form in
    let stored : sizes_byte s a ≡ sizes = sizes_one s a form ∙ rw (is_sizes, is_len) in
    let few : index_len v 1 ≡ 0 = index_len_few v 1 (omega arith) in
    let size : size_of s v a ≡ sizes % 16 + sizes / 16 + 1 + len = rw (form, fin, count, stored, few, ← is_len) (omega arith) in
    rw (size, form, fin, count, stored, few)

module _ (s : List ℕ) (root a tsize osize size : ℕ) (place : AtForm s root a) where
  pub one_sound : 16 + size ≤ a + 1 → (tsize ≤ 8) × (osize ≤ 8) × (0 < 1 → 0 < tsize) → (d : ℕ) → d ≡ get_or (numbers_down s (a + 1 - size + osize) tsize 1) 0 0
      → TargetRight (a + 1 - size) d → SoundShape s root a (one_shape tsize osize size) (a + 1 - size)
  unfolding TargetsRight Useful
  one_sound room sizes d is_d right = record {
    inside = place.inside;
    below = place.below;
    above = room;
    sizes = record { tsize_le = sizes.0; osize_le = sizes.1; tsize_pos = λ _ pos. sizes.2 pos };
    ascending = ascending_single (input_of s a);
    entries = λ ne. absurd (ne refl);
    targets = λ i l.
        let z : i ≡ 0 = omega (arith, length_numbers_down s (a + 1 - size + 0 + 1 * osize) tsize 1) in
        let e : a + 1 - size + 0 + 1 * osize ≡ a + 1 - size + osize = omega arith in
        rw (z, e, ← is_d) right;
    useful = inr (inl (omega arith));
  }

  pub one_target : SoundShape s root a (one_shape tsize osize size) (a + 1 - size) → (d : ℕ) → d ≡ get_or (numbers_down s (a + 1 - size + osize) tsize 1) 0 0
      → TargetRight (a + 1 - size) d
  unfolding TargetsRight
  one_target h d is_d =
      let e : a + 1 - size + 0 + 1 * osize ≡ a + 1 - size + osize = omega arith in
      rw (is_d, ← e) (h.targets 0 (omega (arith, length_numbers_down s (a + 1 - size + 0 + 1 * osize) tsize 1)))

-- ---- one transition to the node just below

abbrev pub next_shape : ℕ → F.Shape
next_shape size = record {
  state = OneTransNext;
  final = false;
  ntrans = 1;
  tsize = 0;
  osize = 0;
  indexed = 0;
  size = size;
}

pub shape_next : (s : List ℕ) (v a len : ℕ) → state_form (get_or s a 0) ≡ OneTransNext → len ≡ head_len s a → next_shape len ≡ shape_of s v a
unfolding size_of
shape_next s v a len form is_len =
    let fin : is_final (get_or s a 0) ≡ false = not_final (get_or s a 0) (omega (arith, next_from (get_or s a 0) form)) in
    let count : ntrans_of s a ≡ 1 = ntrans_next s a form in
    let stored : sizes_byte s a ≡ 0 = sizes_next s a form in
    let few : index_len v 1 ≡ 0 = index_len_few v 1 (omega arith) in
    let size : size_of s v a ≡ len = rw (form, fin, count, stored, few, ← is_len) (omega arith) in
    rw (size, form, fin, count, stored, few)

module _ (s : List ℕ) (root a len : ℕ) (place : AtForm s root a) where
  pub next_sound : len ≤ a - 16 → SoundShape s root a (next_shape len) (a + 1 - len)
  unfolding TargetsRight Useful
  next_sound room = record {
    inside = place.inside;
    below = place.below;
    above = omega (arith, place.low);
    sizes = record { tsize_le = omega arith; osize_le = omega arith; tsize_pos = λ e. absurd (let z : ◌≡◌ {A = ℕ} 0 1 = cc in omega arith) };
    ascending = ascending_single (input_of s a);
    entries = λ ne. absurd (ne refl);
    targets = λ i l. let z : i ≡ 0 = omega arith in rw z (record { reach = omega (arith, place.low); low = λ _. omega (arith, place.low); high = λ _. omega (arith, place.low) });
    useful = inr (inl (omega arith));
  }

  pub next_room : SoundShape s root a (next_shape len) (a + 1 - len) → len ≤ a - 16
  unfolding TargetsRight
  next_room h =
      let right = h.targets 0 (omega arith) in
      let above = h.above in
      let low = right.low (λ z. omega (arith, place.low)) in
      omega arith
