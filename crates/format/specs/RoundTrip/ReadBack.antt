-- What reading gives of what was stored: numbers and bytes between other bytes, deltas as targets, and a node by its shape.
-- Assumes nothing.
use Rattle.std.specs.Prelude.{◌≡◌, refl, List, [], ◌∷◌, ◌++◌, map, ℕ, suc, ◌+◌, ◌-◌, ◌*◌, ◌^◌, ◌≤◌, ◌<◌, length, get_or, take, drop}
use Rattle.std.proofs.Common.{ap, ap₂, ◌∙◌, inl, inr, append_assoc, arith, ne_eqb, length-append, take_at, drop_at}
use Rattle.std.proofs.lemmas.List.{get_or_at}
use Rattle.format.specs.Bytes.{le, bytes_of}
use Rattle.format.specs.Laws.BytesLaws.{length_bytes_of, le_bytes_of}
use Rattle.format.specs.Node.{Shape, shape_of, first_of, down_from, bytes_down, numbers_down, target_of, shape_node, node_of, TargetRight, TargetsRight, SoundShape, sound, node_at}
use Rattle.format.specs.Laws.NodeLaws.{node_at_sound}
use Rattle.format.specs.Packed.{TargetOk, TargetsOk, delta_of, stored_numbers, stored_bytes}
use Rattle.format.specs.Laws.PackedLaws.{length_stored_numbers, length_stored_bytes, length_deltas, get_d_deltas, delta_of_le}

-- ---- numbers and bytes

-- a number in k bytes, between other bytes
pub number_between : (pre post : List ℕ) (k n at : ℕ) → n < 256 ^ k → length pre ≡ at → le (take k (drop at (pre ++ (bytes_of k n ++ post)))) ≡ n
number_between pre post k n at h e =
    rw (drop_at pre (bytes_of k n ++ post) at e, take_at (bytes_of k n) post k (length_bytes_of k n), le_bytes_of k n h)

pub one_number : (pre post : List ℕ) (k n at : ℕ) → n < 256 ^ k → length pre ≡ at → numbers_down (pre ++ (bytes_of k n ++ post)) at k 1 ≡ n ∷ []
unfolding numbers_down down_from
one_number pre post k n at h e =
    let start : length pre ≡ at + 0 * k = omega arith in
    ap (λ (m : ℕ). m ∷ []) (number_between pre post k n (at + 0 * k) h start)

pub numbers_of_stored : (pre ns post : List ℕ) (k : ℕ) → ((i : ℕ) → i < length ns → get_or ns i 0 < 256 ^ k)
    → numbers_down (pre ++ (stored_numbers k ns ++ post)) (length pre) k (length ns) ≡ ns
unfolding numbers_down down_from stored_numbers
numbers_of_stored pre [] post k h = refl
numbers_of_stored pre (n ∷ ns) post k h =
    let ih = numbers_of_stored pre ns (bytes_of k n ++ post) k (λ i l. h (suc i) (omega arith)) in
    let same : pre ++ ((stored_numbers k ns ++ bytes_of k n) ++ post) ≡ pre ++ (stored_numbers k ns ++ (bytes_of k n ++ post)) = rw append_assoc in
    let at : length (pre ++ stored_numbers k ns) ≡ length pre + length ns * k = length-append pre (stored_numbers k ns) ∙ rw length_stored_numbers in
    let first = number_between (pre ++ stored_numbers k ns) post k n (length pre + length ns * k) (h 0 (omega arith)) at in
    ap (λ (xs : List ℕ). numbers_down xs (length pre) k (suc (length ns))) same ∙ ap₂ ◌∷◌ (rw append_assoc at first) ih

pub inputs_of_stored : (pre bs post : List ℕ) → bytes_down (pre ++ (stored_bytes bs ++ post)) (length pre) (length bs) ≡ bs
unfolding bytes_down down_from stored_bytes
inputs_of_stored pre [] post = refl
inputs_of_stored pre (b ∷ bs) post =
    let ih = inputs_of_stored pre bs (b ∷ post) in
    let same : pre ++ ((stored_bytes bs ++ (b ∷ [])) ++ post) ≡ pre ++ (stored_bytes bs ++ (b ∷ post)) = rw append_assoc in
    let at : length (pre ++ stored_bytes bs) ≡ length pre + length bs = length-append pre (stored_bytes bs) ∙ rw length_stored_bytes in
    let first = get_or_at (pre ++ stored_bytes bs) b post 0 (length pre + length bs) at in
    ap (λ (xs : List ℕ). bytes_down xs (length pre) (suc (length bs))) same ∙ ap₂ ◌∷◌ (rw append_assoc at first) ih

-- ---- targets

-- the delta of a target leads back to it
pub target_of_delta : (first t : ℕ) → TargetOk first t → target_of first (delta_of first t) ≡ t
unfolding TargetOk
target_of_delta first t (inl z) = rw z
target_of_delta first t (inr h) =
    let ne : ¬ (t ≡ 0) = λ z. omega arith in
    let far : ¬ (first - t ≡ 0) = λ z. omega arith in
    rw (ne_eqb t 0 ne, ne_eqb (first - t) 0 far) (omega arith)

pub targets_of_deltas : (first : ℕ) (ts : List ℕ) → TargetsOk first ts → map (target_of first) (map (delta_of first) ts) ≡ ts
unfolding TargetsOk
targets_of_deltas first [] ok = refl
targets_of_deltas first (t ∷ ts) ok =
    ap₂ ◌∷◌ (target_of_delta first t (ok 0 (omega arith))) (targets_of_deltas first ts (λ i l. ok (suc i) (omega arith)))

-- a delta whose target is 0, or lies from 16 to F - 1
target_right_of : (first d t : ℕ) → d ≤ first → target_of first d ≡ t → TargetOk first t → TargetRight first d
unfolding TargetOk
target_right_of first d t reach is (inl z) = record { reach = reach; low = λ ne. absurd (ne (is ∙ z)); high = λ ne. absurd (ne (is ∙ z)) }
target_right_of first d t reach is (inr h) = record { reach = reach; low = λ ne. rw is h.0; high = λ ne. rw is h.1 }

pub target_right_of_delta : (first t : ℕ) → TargetOk first t → TargetRight first (delta_of first t)
target_right_of_delta first t ok = target_right_of first (delta_of first t) t (delta_of_le first t) (target_of_delta first t ok) ok

pub targets_right_of_deltas : (first : ℕ) (ts : List ℕ) → TargetsOk first ts → TargetsRight first (map (delta_of first) ts)
unfolding TargetsOk TargetsRight
targets_right_of_deltas first ts ok i l =
    let e = length_deltas first ts in
    rw (get_d_deltas first ts i) (target_right_of_delta first (get_or ts i 0) (ok i (omega arith)))

-- ---- lists

-- the last byte of the middle part lies in the whole
pub last_lt : (pre mid post : List ℕ) (a : ℕ) → a + 1 ≡ length pre + length mid → a < length (pre ++ (mid ++ post))
last_lt pre mid post a here = simp length-append (omega arith)

pub one_element : (xs : List ℕ) → length xs ≡ 1 → xs ≡ get_or xs 0 0 ∷ []
one_element [] e = absurd (omega arith)
one_element (x ∷ []) e = refl
one_element (x ∷ y ∷ ys) e = absurd (omega arith)

-- ---- a node whose shape and first byte are known

pub node_at_shape : (s : List ℕ) (v root a : ℕ) (h : Shape) (first : ℕ) → ¬ (a ≡ 0) → shape_of s v a ≡ h → first_of s v a ≡ first
    → SoundShape s root a h first → node_at s v root a ≡ sound (shape_node s a h first)
unfolding node_of
node_at_shape s v root a h first ne shape from is_sound =
    node_at_sound s v root a ne (rw (shape, from) is_sound) ∙ ap₂ (λ h f. sound (shape_node s a h f)) shape from
