-- Laws of `Packed`: what RECORD decides and the packer answers, the lengths of the parts, their sizes, the index, and which form is chosen.
-- Assumes nothing.
use Rattle.std.specs.Prelude.{◌≡◌, Bool, true, false, cond, not, ◌&&◌, ◌⊎◌, List, [], ◌∷◌, ◌++◌, map, ℕ, zero, suc, ◌+◌, ◌-◌, ◌*◌, ◌^◌, ◌≤◌, ◌<◌, ltb, leb, eqb, drop}
use Rattle.std.proofs.Math.Path.{refl}
use Rattle.std.proofs.Common.{sym, ap, ◌∙◌, true≢false, inl, inr, suc-mul, zero-mul, add-zero, eq-or-lt_of_le, add-one, length-append, drop-cons}
use Rattle.std.proofs.lemmas.Bool.{false≢true}
use Rattle.std.proofs.Math.Nat.{zero-add}
use native.Mathlib.Omega.{arith}
use borrow.Author.Tests.{eqb-true, eqb-false, eq-eqb, ne_eqb, le-leb, lt-leb}
use Rattle.std.proofs.Math.ListN.{length, get_or, get_or-map}
use Rattle.std.proofs.lemmas.List.{length-map}
use Rattle.std.proofs.Math.Seq.{drop-length}
use Rattle.buffers.specs.Decide.{Decides, all_below}
use Rattle.buffers.specs.DecideLaws.{decides_true, decides_false, decides_le, decides_lt, decides_eq, decides_iff, decides_and, decides_or, decides_self, decides_implies, decides_below, true_of, false_of}
use Rattle.format.specs.Limits.{first_node, max_len, max_trans, index_threshold, SPACE, RECORD}
use Rattle.format.specs.Bytes.{bytes_of, pack_size, largest}
use Rattle.format.specs.Laws.BytesLaws.{length_bytes_of, size_of_pack, pack_size_low, pack_size_high, largest_ge, largest_lt}
use Rattle.format.specs.CommonInputs.{common_idx}
use Rattle.format.specs.Node.{Ascending, Absent, Indexed, end_len, index_len}
use Rattle.format.specs.Laws.NodeLaws.{decides_ascending}
use Rattle.format.specs.Laws.TransitionLaws.{ascends_by, ascends_lt}
use Rattle.format.specs.Packed.{BuilderNode, Ranges, TargetOk, TargetsOk, RecordOk, target_ok_test, record_test, delta_of, stored_numbers, stored_bytes, place_from, up_from, index_of, index_bytes, output_size, delta_size, input_bytes, packed_next, packed_one, final_flag, head_of, packed_any, packs_to_nothing, has_one, last_addr, leads_next, packed, written, refused, packing}

-- ---- RECORD

-- a test of a Bool that is to be false
decides_false_self : (t : Bool) → Decides (not t) (t ≡ false)
decides_false_self true = decides_false true≢false
decides_false_self false = decides_true refl

pub decides_target_ok : (first t : ℕ) → Decides (target_ok_test first t) (TargetOk first t)
unfolding TargetOk
decides_target_ok first t =
    decides_or (eqb t 0) (leb first_node t && ltb t first) (decides_eq t 0)
    (decides_and (leb first_node t) (ltb t first) (decides_le first_node t) (decides_lt t first))

pub decides_targets_ok : (first : ℕ) (ts : List ℕ) → Decides (all_below (λ i. target_ok_test first (get_or ts i 0)) (length ts)) (TargetsOk first ts)
unfolding TargetsOk
decides_targets_ok first ts =
    decides_below (λ i. target_ok_test first (get_or ts i 0)) (λ i. TargetOk first (get_or ts i 0)) (λ i. decides_target_ok first (get_or ts i 0)) (length ts)

pub decides_record : (first : ℕ) (b : BuilderNode) → Decides (record_test first b) (RecordOk first b)
unfolding record_test
decides_record first b =
    decides_iff
    (λ q. record {
      few = q.0;
      outputs_len = q.1.0;
      targets_len = q.1.1.0;
      ascending = q.1.1.1.0;
      first_low = q.1.1.1.1.0;
      first_high = q.1.1.1.1.1.0;
      targets_ok = q.1.1.1.1.1.1.0;
      final_ok = q.1.1.1.1.1.1.1;
    })
    (λ q. (q.few, (q.outputs_len, (q.targets_len, (q.ascending, (q.first_low, (q.first_high, (q.targets_ok, q.final_ok))))))))
    (decides_and _ _ (decides_le (length b.inputs) max_trans)
    (decides_and _ _ (decides_eq (length b.outputs) (length b.inputs))
    (decides_and _ _ (decides_eq (length b.targets) (length b.inputs))
    (decides_and _ _ (decides_ascending b.inputs)
    (decides_and _ _ (decides_le first_node first)
    (decides_and _ _ (decides_le first max_len)
    (decides_and _ _ (decides_targets_ok first b.targets)
    (decides_implies _ _ (decides_false_self b.final) (decides_eq b.final_output 0)))))))))

-- ---- what the packer answers

module _ (first : ℕ) (b : BuilderNode) (room : ℕ) where
  pub packing_record : ¬ RecordOk first b → packing first b room ≡ refused RECORD
  unfolding packing
  packing_record not_ok = rw (false_of (record_test first b) (decides_record first b) not_ok)

  pub packing_space : RecordOk first b → room < length (packed first b) → packing first b room ≡ refused SPACE
  unfolding packing
  packing_space ok short = rw (true_of (record_test first b) (decides_record first b) ok, lt-leb (length (packed first b)) room short)

  pub packing_written : RecordOk first b → length (packed first b) ≤ room → packing first b room ≡ written (packed first b)
  unfolding packing
  packing_written ok long = rw (true_of (record_test first b) (decides_record first b) ok, le-leb (length (packed first b)) room long)

-- ---- lengths

length_cond : (t : Bool) (xs ys : List ℕ) → length (cond t xs ys) ≡ cond t (length xs) (length ys)
length_cond true xs ys = refl
length_cond false xs ys = refl

pub length_stored_numbers : (k : ℕ) (ns : List ℕ) → length (stored_numbers k ns) ≡ length ns * k
unfolding stored_numbers
length_stored_numbers k [] = sym (zero-mul k)
length_stored_numbers k (n ∷ ns) = length-append (stored_numbers k ns) (bytes_of k n) ∙ rw (length_stored_numbers k ns, length_bytes_of, suc-mul)

pub length_stored_bytes : (bs : List ℕ) → length (stored_bytes bs) ≡ length bs
unfolding stored_bytes
length_stored_bytes [] = refl
length_stored_bytes (b ∷ bs) = length-append (stored_bytes bs) (b ∷ []) ∙ rw (length_stored_bytes bs, add-one)

pub length_up_from : (f : ℕ → ℕ) (i n : ℕ) → length (up_from f i n) ≡ n
unfolding up_from
length_up_from f i zero = refl
length_up_from f i (suc n) = ap suc (length_up_from f (i + 1) n)

pub length_index_of : (bs : List ℕ) → length (index_of bs) ≡ 256
unfolding index_of
length_index_of bs = length_up_from (place_from 0 bs) 0 256

pub index_len_is : (v n : ℕ) → 2 ≤ v → index_len v n ≡ cond (ltb index_threshold n) 256 0
unfolding index_len
index_len_is v n h = rw (le-leb 2 v h)

pub length_index_bytes : (v : ℕ) (bs : List ℕ) → 2 ≤ v → length (index_bytes bs) ≡ index_len v (length bs)
unfolding index_bytes
length_index_bytes v bs h =
    length_cond (ltb index_threshold (length bs)) (index_of bs) [] ∙ (rw (length_index_of bs)) ∙ sym (index_len_is v (length bs) h)

pub length_input_bytes : (inp : ℕ) → length (input_bytes inp) ≡ cond (eqb (common_idx inp) 0) 1 0
unfolding input_bytes
length_input_bytes inp = length_cond (eqb (common_idx inp) 0) (inp ∷ []) []

pub length_head_of : (final : Bool) (n : ℕ) → length (head_of final n) ≡ cond (ltb 0 n && ltb n 64) 1 2
unfolding head_of
length_head_of final n =
    length_cond (ltb 0 n && ltb n 64) ((final_flag final + n) ∷ []) (cond (eqb n 256) 1 n ∷ (final_flag final ∷ []))

pub length_packed_next : (inp : ℕ) → length (packed_next inp) ≡ length (input_bytes inp) + 1
unfolding packed_next
length_packed_next inp = length-append (input_bytes inp) ((192 + common_idx inp) ∷ [])

pub length_packed_one : (inp out delta : ℕ)
    → length (packed_one inp out delta) ≡ output_size out + pack_size delta + 1 + length (input_bytes inp) + 1
unfolding packed_one
length_packed_one inp out delta = simp (length-append, length_bytes_of) (omega arith)

pub length_packed_any : (b : BuilderNode) (deltas : List ℕ) (osize tsize : ℕ)
    → length (packed_any b deltas osize tsize)
    ≡ end_len b.final osize + length b.outputs * osize + length deltas * tsize + length b.inputs + length (index_bytes b.inputs) + 1
    + length (head_of b.final (length b.inputs))
unfolding packed_any
length_packed_any b deltas osize tsize =
    simp (length-append, length_bytes_of, length_stored_numbers, length_stored_bytes) (omega arith)

-- ---- one element more, for a loop that counts down

-- the numbers from place i on, and the one before them
pub stored_numbers_drop : (k : ℕ) (ns : List ℕ) (i : ℕ) → 0 < i → i ≤ length ns
    → stored_numbers k (drop (i - 1) ns) ≡ stored_numbers k (drop i ns) ++ bytes_of k (get_or ns (i - 1) 0)
unfolding stored_numbers
stored_numbers_drop k ns i pos h =
    let e : suc (i - 1) ≡ i = omega arith in
    let d : drop (i - 1) ns ≡ get_or ns (i - 1) 0 ∷ drop i ns = drop-cons ns (i - 1) 0 (omega arith) ∙ rw e in
    rw d

pub stored_bytes_drop : (bs : List ℕ) (i : ℕ) → 0 < i → i ≤ length bs
    → stored_bytes (drop (i - 1) bs) ≡ stored_bytes (drop i bs) ++ (get_or bs (i - 1) 0 ∷ [])
unfolding stored_bytes
stored_bytes_drop bs i pos h =
    let e : suc (i - 1) ≡ i = omega arith in
    let d : drop (i - 1) bs ≡ get_or bs (i - 1) 0 ∷ drop i bs = drop-cons bs (i - 1) 0 (omega arith) ∙ rw e in
    rw d

pub stored_numbers_none : (k : ℕ) (ns : List ℕ) → stored_numbers k (drop (length ns) ns) ≡ []
unfolding stored_numbers
stored_numbers_none k ns = rw drop-length

pub stored_bytes_none : (bs : List ℕ) → stored_bytes (drop (length bs) bs) ≡ []
unfolding stored_bytes
stored_bytes_none bs = rw drop-length

-- ---- the index

pub get_d_up_from : (f : ℕ → ℕ) (i n k : ℕ) → k < n → get_or (up_from f i n) k 0 ≡ f (i + k)
unfolding up_from
get_d_up_from f i zero k h = absurd (omega arith)
get_d_up_from f i (suc n) zero h = rw add-zero
get_d_up_from f i (suc n) (suc k) h =
    let e : i + 1 + k ≡ i + suc k = omega arith in get_d_up_from f (i + 1) n k (omega arith) ∙ rw e

pub get_d_index_of : (bs : List ℕ) (b : ℕ) → b < 256 → get_or (index_of bs) b 0 ≡ place_from 0 bs b
unfolding index_of
get_d_index_of bs b h = let e : 0 + b ≡ b = omega arith in get_d_up_from (place_from 0 bs) 0 256 b h ∙ rw e

-- a byte that bs does not have
pub place_absent : (i : ℕ) (bs : List ℕ) (b : ℕ) → Absent b bs → place_from i bs b ≡ 255
unfolding place_from Absent
place_absent i [] b h = refl
place_absent i (x ∷ xs) b h = rw (ne_eqb x b (h 0 (omega arith))) (place_absent (i + 1) xs b (λ j l. h (suc j) (omega arith)))

-- the first place of a byte that bs has
pub place_first : (i : ℕ) (bs : List ℕ) (b j : ℕ) → j < length bs → get_or bs j 0 ≡ b → ((k : ℕ) → k < j → ¬ (get_or bs k 0 ≡ b)) → place_from i bs b ≡ i + j
unfolding place_from
place_first i [] b j l e h = absurd (omega arith)
place_first i (x ∷ xs) b zero l e h = rw (eq-eqb x b e) (omega arith)
place_first i (x ∷ xs) b (suc j) l e h =
    let s : i + 1 + j ≡ i + suc j = omega arith in
    rw (ne_eqb x b (h 0 (omega arith))) (place_first (i + 1) xs b j (omega arith) e (λ k m. h (suc k) (omega arith)) ∙ s)

module _ (bs : List ℕ) (asc : Ascending bs) (bytes : (i : ℕ) → i < length bs → get_or bs i 0 < 256) where
  -- 256 strictly ascending bytes are all bytes
  pub all_bytes : length bs ≡ 256 → (b : ℕ) → b < 256 → get_or bs b 0 ≡ b
  all_bytes full b h =
      let e : b + (255 - b) ≡ 255 = omega arith in
      omega (arith, rw zero-add at (ascends_by bs asc 0 b (omega arith)), rw e at (ascends_by bs asc b (255 - b) (omega arith)), bytes 255 (omega arith))

  -- entry 255 is right with 256 transitions too: no byte is absent then
  pub indexed_packed : length bs ≤ 256 → Indexed bs (index_of bs)
  unfolding Absent
  indexed_packed small = record {
    present = λ i l.
        let ne : (k : ℕ) → k < i → ¬ (get_or bs k 0 ≡ get_or bs i 0) = λ k m e. omega (arith, ascends_lt bs asc k i m l) in
        get_d_index_of bs (get_or bs i 0) (bytes i l) ∙ place_first 0 bs (get_or bs i 0) i l refl ne ∙ zero-add i;
    absent = λ b h away. rw (get_d_index_of bs b h, place_absent 0 bs b away) (go b h away (eq-or-lt_of_le small));
  }
    where
      go : (b : ℕ) → b < 256 → ((i : ℕ) → i < length bs → ¬ (get_or bs i 0 ≡ b)) → (length bs ≡ 256) ⊎ (length bs < 256) → length bs ≤ 255
      go b h away (inl full) = absurd (away b (omega arith) (all_bytes full b h))
      go b h away (inr less) = omega arith

-- ---- which form is chosen

pub packed_nothing : (first : ℕ) (b : BuilderNode) → packs_to_nothing b ≡ true → packed first b ≡ []
unfolding packed
packed_nothing first b nothing = rw nothing

-- a record with one transition that is not final does not pack to nothing
pub one_not_nothing : (b : BuilderNode) → has_one b ≡ true → packs_to_nothing b ≡ false
one_not_nothing b = go b.final (eqb (length b.inputs) 1) (eqb (length b.inputs) 0) (eqb b.final_output 0)
  where
    go : (final one none nil : Bool) → (not final && one) ≡ true → (final && (none && nil)) ≡ false
    go true one none nil e = absurd (false≢true e)
    go false one none nil e = refl

pub packed_next_is : (first : ℕ) (b : BuilderNode) → has_one b ≡ true → leads_next first b ≡ true
    → packed first b ≡ packed_next (get_or b.inputs 0 0)
unfolding packed
packed_next_is first b one next = rw (one_not_nothing b one, one, next)

pub packed_one_is : (first : ℕ) (b : BuilderNode) → has_one b ≡ true → leads_next first b ≡ false
    → packed first b ≡ packed_one (get_or b.inputs 0 0) (get_or b.outputs 0 0) (delta_of first (get_or b.targets 0 0))
unfolding packed
packed_one_is first b one other = rw (one_not_nothing b one, one, other)

pub packed_any_is : (first : ℕ) (b : BuilderNode) → packs_to_nothing b ≡ false → has_one b ≡ false
    → packed first b
    ≡ packed_any b (map (delta_of first) b.targets) (output_size (largest (b.final_output ∷ b.outputs))) (delta_size (map (delta_of first) b.targets))
unfolding packed
packed_any_is first b some many = rw (some, many)

-- what the tests say that choose it
pub nothing_means : (b : BuilderNode) → packs_to_nothing b ≡ true → (b.final ≡ true) × ((length b.inputs ≡ 0) × (b.final_output ≡ 0))
nothing_means b =
    (decides_and b.final (eqb (length b.inputs) 0 && eqb b.final_output 0) (decides_self b.final)
    (decides_and _ _ (decides_eq (length b.inputs) 0) (decides_eq b.final_output 0))).yes

pub one_means : (b : BuilderNode) → has_one b ≡ true → (b.final ≡ false) × (length b.inputs ≡ 1)
one_means b = (decides_and (not b.final) (eqb (length b.inputs) 1) (decides_false_self b.final) (decides_eq (length b.inputs) 1)).yes

pub leads_next_means : (first : ℕ) (b : BuilderNode) → leads_next first b ≡ true → (get_or b.targets 0 0 ≡ last_addr first) × (get_or b.outputs 0 0 ≡ 0)
leads_next_means first b =
    (decides_and (eqb (get_or b.targets 0 0) (last_addr first)) (eqb (get_or b.outputs 0 0) 0) (decides_eq (get_or b.targets 0 0) (last_addr first))
    (decides_eq (get_or b.outputs 0 0) 0)).yes

-- at 16 no target is the address before
pub last_addr_ok : (first t : ℕ) → first_node ≤ first → TargetOk first t → t ≡ last_addr first → (first_node < first) × (t ≡ first - 1)
unfolding TargetOk
last_addr_ok first t low ok = go (eqb first 16) refl ok
  where
    go : (z : Bool) → eqb first 16 ≡ z → (t ≡ 0) ⊎ ((first_node ≤ t) × (t < first)) → t ≡ cond z 1 (first - 1) → (first_node < first) × (t ≡ first - 1)
    go true e (inl z) is = absurd (omega arith)
    go true e (inr h) is = absurd (omega arith)
    go false e h is = let ne = eqb-false first 16 e in (omega (arith, ne), is)

-- ---- sizes

pub output_size_zero : output_size 0 ≡ 0
unfolding output_size
output_size_zero = refl

pub output_size_pos : (n : ℕ) → ¬ (n ≡ 0) → output_size n ≡ pack_size n
unfolding output_size
output_size_pos n ne = rw (ne_eqb n 0 ne)

pub output_size_le : (n : ℕ) → output_size n ≤ 8
unfolding output_size
output_size_le n = go (eqb n 0)
  where
    go : (t : Bool) → cond t 0 (pack_size n) ≤ 8
    go true = omega arith
    go false = pack_size_high n

pub output_size_holds : (n : ℕ) → n < 2 ^ 64 → n < 256 ^ output_size n
unfolding output_size
output_size_holds n h = go (eqb n 0) refl
  where
    go : (t : Bool) → eqb n 0 ≡ t → n < 256 ^ cond t 0 (pack_size n)
    go true e = let z = eqb-true n 0 e in omega arith
    go false e = (size_of_pack n h).holds

pub delta_size_le : (ds : List ℕ) → delta_size ds ≤ 8
unfolding delta_size
delta_size_le [] = omega arith
delta_size_le (d ∷ ds) = pack_size_high (largest (d ∷ ds))

pub delta_size_pos : (ds : List ℕ) → 0 < length ds → 1 ≤ delta_size ds
unfolding delta_size
delta_size_pos [] h = absurd (omega arith)
delta_size_pos (d ∷ ds) h = pack_size_low (largest (d ∷ ds))

pub delta_size_is : (ds : List ℕ) → 0 < length ds → delta_size ds ≡ pack_size (largest ds)
unfolding delta_size
delta_size_is [] h = absurd (omega arith)
delta_size_is (d ∷ ds) h = refl

-- ---- what the sizes of a record hold

pub delta_of_le : (first t : ℕ) → delta_of first t ≤ first
delta_of_le first t = go (eqb t 0)
  where
    go : (z : Bool) → cond z 0 (first - t) ≤ first
    go true = omega arith
    go false = omega arith

pub length_deltas : (first : ℕ) (ts : List ℕ) → length (map (delta_of first) ts) ≡ length ts
length_deltas first ts = length-map ts (delta_of first)

pub get_d_deltas : (first : ℕ) (ts : List ℕ) (i : ℕ) → get_or (map (delta_of first) ts) i 0 ≡ delta_of first (get_or ts i 0)
get_d_deltas first ts i = get_or-map (delta_of first) ts i 0

module _ (b : BuilderNode) (ranges : Ranges b) where
  pub largest_output_lt : largest (b.final_output ∷ b.outputs) < 2 ^ 64
  largest_output_lt = largest_lt (2 ^ 64) (b.final_output ∷ b.outputs) (omega arith) each
    where
      each : (i : ℕ) → i < length (b.final_output ∷ b.outputs) → get_or (b.final_output ∷ b.outputs) i 0 < 2 ^ 64
      each zero l = ranges.final_lt
      each (suc i) l = ranges.output_lt i (omega arith)

  pub final_output_holds : b.final_output < 256 ^ output_size (largest (b.final_output ∷ b.outputs))
  final_output_holds =
      omega (arith, largest_ge (b.final_output ∷ b.outputs) 0 (omega arith), output_size_holds (largest (b.final_output ∷ b.outputs)) largest_output_lt)

  pub outputs_hold : (i : ℕ) → i < length b.outputs → get_or b.outputs i 0 < 256 ^ output_size (largest (b.final_output ∷ b.outputs))
  outputs_hold i l =
      omega (arith, largest_ge (b.final_output ∷ b.outputs) (suc i) (omega arith), output_size_holds (largest (b.final_output ∷ b.outputs)) largest_output_lt)

-- deltas are at most F, which has less than 64 bits
pub delta_lt : (first t : ℕ) → first ≤ max_len → delta_of first t < 2 ^ 64
delta_lt first t h = omega (arith, delta_of_le first t)

pub deltas_hold : (first : ℕ) (ts : List ℕ) → first ≤ max_len → (i : ℕ) → i < length (map (delta_of first) ts)
    → get_or (map (delta_of first) ts) i 0 < 256 ^ delta_size (map (delta_of first) ts)
deltas_hold first ts h i l =
    let ds : List ℕ = map (delta_of first) ts in
    let small = largest_lt (2 ^ 64) ds (omega arith) (λ j m. rw (get_d_deltas first ts j) (delta_lt first (get_or ts j 0) h)) in
    rw (delta_size_is ds (omega arith)) (omega (arith, largest_ge ds i l, (size_of_pack (largest ds) small).holds))
