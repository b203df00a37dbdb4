-- The head of a node, its last bytes: what the state byte says by its form, and what the heads that are packed say where they are read.
-- Assumes nothing.
use Rattle.std.specs.Prelude.{◌≡◌, refl, Bool, true, false, cond, ◌&&◌, List, [], ◌∷◌, ◌++◌, ℕ, ◌+◌, ◌-◌, ◌%◌, ◌≤◌, ◌<◌, ltb, leb, eqb, length, get_or}
use Rattle.std.proofs.Common.{sym, ap, ◌∙◌, append_assoc, arith, eqb-true, eq-eqb, ne_eqb, le-leb, le-ltb, length-append}
use Rattle.std.proofs.lemmas.Bool.{eqb-false, lt-leb}
use Rattle.std.proofs.lemmas.List.{get_or_at}
use Rattle.format.specs.declared.State.TheVariants.{OneTransNext, OneTrans, AnyTrans}
use Rattle.buffers.specs.Decide.{Decides}
use Rattle.buffers.specs.DecideLaws.{decides_and, decides_lt}
use Rattle.format.specs.Limits.{index_threshold}
use Rattle.format.specs.CommonInputs.{common_idx, common_input}
use Rattle.format.specs.Laws.CommonInputsLaws.{common_idx_lt, common_input_idx}
use Rattle.format.specs.Node.{state_form, is_final, low_bits, head_len, count_of, input_of, ntrans_of, sizes_byte, index_len}
use Rattle.format.specs.Laws.NodeLaws.{final_any}
use Rattle.format.specs.Packed.{input_bytes, final_flag, head_of}

-- ---- the low six bits

module _ (s : List ℕ) (a : ℕ) where
  pub head_len_two : low_bits s a ≡ 0 → head_len s a ≡ 2
  unfolding head_len
  head_len_two z = rw (eq-eqb (low_bits s a) 0 z)

  pub head_len_one : ¬ (low_bits s a ≡ 0) → head_len s a ≡ 1
  unfolding head_len
  head_len_one ne = rw (ne_eqb (low_bits s a) 0 ne)

  pub input_of_byte : low_bits s a ≡ 0 → input_of s a ≡ get_or s (a - 1) 0
  unfolding input_of
  input_of_byte z = rw (eq-eqb (low_bits s a) 0 z)

  pub input_of_common : ¬ (low_bits s a ≡ 0) → input_of s a ≡ common_input (low_bits s a)
  unfolding input_of
  input_of_common ne = rw (ne_eqb (low_bits s a) 0 ne)

  pub count_of_bits : ¬ (low_bits s a ≡ 0) → count_of s a ≡ low_bits s a
  count_of_bits ne = rw (ne_eqb (low_bits s a) 0 ne)

  pub count_of_256 : low_bits s a ≡ 0 → get_or s (a - 1) 0 ≡ 1 → count_of s a ≡ 256
  count_of_256 z one = rw (eq-eqb (low_bits s a) 0 z, eq-eqb (get_or s (a - 1) 0) 1 one)

  pub count_of_byte : low_bits s a ≡ 0 → ¬ (get_or s (a - 1) 0 ≡ 1) → count_of s a ≡ get_or s (a - 1) 0
  count_of_byte z ne = rw (eq-eqb (low_bits s a) 0 z, ne_eqb (get_or s (a - 1) 0) 1 ne)

  -- ---- the transition count and the sizes byte, by form

  pub ntrans_next : state_form (get_or s a 0) ≡ OneTransNext → ntrans_of s a ≡ 1
  unfolding ntrans_of
  ntrans_next form = rw form

  pub ntrans_one : state_form (get_or s a 0) ≡ OneTrans → ntrans_of s a ≡ 1
  unfolding ntrans_of
  ntrans_one form = rw form

  pub ntrans_any : state_form (get_or s a 0) ≡ AnyTrans → ntrans_of s a ≡ count_of s a
  unfolding ntrans_of
  ntrans_any form = rw form

  pub sizes_next : state_form (get_or s a 0) ≡ OneTransNext → sizes_byte s a ≡ 0
  unfolding sizes_byte
  sizes_next form = rw form

  pub sizes_one : state_form (get_or s a 0) ≡ OneTrans → sizes_byte s a ≡ get_or s (a - head_len s a) 0
  unfolding sizes_byte
  sizes_one form = rw form

  pub sizes_any : state_form (get_or s a 0) ≡ AnyTrans → sizes_byte s a ≡ get_or s (a - head_len s a) 0
  unfolding sizes_byte
  sizes_any form = rw form

-- few transitions have no index, in any version
pub index_len_few : (v n : ℕ) → n ≤ index_threshold → index_len v n ≡ 0
unfolding index_len
index_len_few v n few = rw (le-ltb index_threshold n few) (go (leb 2 v))
  where
    go : (t : Bool) → ◌≡◌ {A = ℕ} (cond (t && false) 256 0) 0
    go true = refl
    go false = refl

-- ---- the head of one transition: the input, where it is no common one, and the state byte

pub record OneHead (s : List ℕ) (a inp top len : ℕ) : Type 0 where
  pub state : get_or s a 0 ≡ top + common_idx inp
  pub size : head_len s a ≡ len + 1
  pub input : input_of s a ≡ inp

-- top is 192 or 128, which leave the low six bits to the input
pub one_head_at : (pre post : List ℕ) (top inp a : ℕ) → inp < 256 → top % 64 ≡ 0 → a ≡ length pre + length (input_bytes inp)
    → OneHead (pre ++ (input_bytes inp ++ ((top + common_idx inp) ∷ post))) a inp top (length (input_bytes inp))
unfolding input_bytes
one_head_at pre post top inp a byte whole = go (eqb (common_idx inp) 0) refl
  where
    go : (t : Bool) → eqb (common_idx inp) 0 ≡ t → a ≡ length pre + length (cond t (inp ∷ []) [])
        → OneHead (pre ++ (cond t (inp ∷ []) [] ++ ((top + common_idx inp) ∷ post))) a inp top (length (cond t (inp ∷ []) []))
    go true e here =
        let z = eqb-true (common_idx inp) 0 e in
        let s : List ℕ = pre ++ (inp ∷ (top + common_idx inp) ∷ post) in
        let below : get_or s (a - 1) 0 ≡ inp = get_or_at pre inp ((top + common_idx inp) ∷ post) 0 (a - 1) (omega arith) in
        let state : get_or s a 0 ≡ top + common_idx inp =
        rw append_assoc at (get_or_at (pre ++ (inp ∷ [])) (top + common_idx inp) post 0 a (length-append pre (inp ∷ []) ∙ omega arith)) in
        let low : low_bits s a ≡ 0 = omega arith in
        record { state = state; size = head_len_two s a low; input = input_of_byte s a low ∙ below }
    go false e here =
        let ne = eqb-false (common_idx inp) 0 e in
        let s : List ℕ = pre ++ ((top + common_idx inp) ∷ post) in
        let state : get_or s a 0 ≡ top + common_idx inp = get_or_at pre (top + common_idx inp) post 0 a (omega arith) in
        let low : low_bits s a ≡ common_idx inp = omega (arith, common_idx_lt inp) in
        let some : ¬ (low_bits s a ≡ 0) = λ z. ne (sym low ∙ z) in
        record { state = state; size = head_len_one s a some; input = input_of_common s a some ∙ ap common_input low ∙ common_input_idx inp byte ne }

-- ---- the head of any number of transitions: the count byte, where there is one, and the state byte

pub record AnyHead (s : List ℕ) (a n : ℕ) (final : Bool) (len : ℕ) : Type 0 where
  pub count : count_of s a ≡ n
  pub size : head_len s a ≡ len
  pub final_is : is_final (get_or s a 0) ≡ final
  pub state_lt : get_or s a 0 < 128

-- the flag leaves the low six bits to the count
flag_mod : (final : Bool) (n : ℕ) → n < 64 → (final_flag final + n) % 64 ≡ n
flag_mod true n h = omega arith
flag_mod false n h = omega arith

flag_lt : (final : Bool) (n : ℕ) → n < 64 → final_flag final + n < 128
flag_lt true n h = omega arith
flag_lt false n h = omega arith

flag_final : (final : Bool) (n : ℕ) → n < 64 → is_final (final_flag final + n) ≡ final
flag_final true n h = final_any (64 + n) (omega arith) ∙ le-leb 64 (64 + n) (omega arith)
flag_final false n h = final_any (0 + n) (omega arith) ∙ lt-leb 64 (0 + n) (omega arith)

flag_zero : (final : Bool) → final_flag final ≡ final_flag final + 0
flag_zero final = omega arith

pub any_head_at : (pre post : List ℕ) (final : Bool) (n a : ℕ) → n ≤ 256 → a + 1 ≡ length pre + length (head_of final n)
    → AnyHead (pre ++ (head_of final n ++ post)) a n final (length (head_of final n))
unfolding head_of
any_head_at pre post final n a few =
    go (ltb 0 n && ltb n 64) (decides_and (ltb 0 n) (ltb n 64) (decides_lt 0 n) (decides_lt n 64)) (eqb n 256) refl
  where
    -- a count byte k below the state
    counted : (k : ℕ) → a + 1 ≡ length pre + 2 → ((s : List ℕ) → low_bits s a ≡ 0 → get_or s (a - 1) 0 ≡ k → count_of s a ≡ n)
        → AnyHead (pre ++ (k ∷ final_flag final ∷ post)) a n final 2
    counted k here count =
        let s : List ℕ = pre ++ (k ∷ final_flag final ∷ post) in
        let below : get_or s (a - 1) 0 ≡ k = get_or_at pre k (final_flag final ∷ post) 0 (a - 1) (omega arith) in
        let state : get_or s a 0 ≡ final_flag final + 0 =
        (rw append_assoc at (get_or_at (pre ++ (k ∷ [])) (final_flag final) post 0 a (length-append pre (k ∷ []) ∙ omega arith))) ∙ flag_zero final in
        let low : low_bits s a ≡ 0 = rw state (flag_mod final 0 (omega arith)) in
        record {
          count = count s low below;
          size = head_len_two s a low;
          final_is = rw state (flag_final final 0 (omega arith));
          state_lt = rw state (flag_lt final 0 (omega arith));
        }

    go : (t : Bool) → Decides t ((0 < n) × (n < 64)) → (u : Bool) → eqb n 256 ≡ u
        → a + 1 ≡ length pre + length (cond t ((final_flag final + n) ∷ []) (cond u 1 n ∷ (final_flag final ∷ [])))
        → AnyHead (pre ++ (cond t ((final_flag final + n) ∷ []) (cond u 1 n ∷ (final_flag final ∷ [])) ++ post)) a n final
        (length (cond t ((final_flag final + n) ∷ []) (cond u 1 n ∷ (final_flag final ∷ []))))
    go true d u is_u here =
        let lt = d.yes refl in
        let s : List ℕ = pre ++ ((final_flag final + n) ∷ post) in
        let state : get_or s a 0 ≡ final_flag final + n = get_or_at pre (final_flag final + n) post 0 a (omega arith) in
        let low : low_bits s a ≡ n = rw state (flag_mod final n lt.1) in
        let some : ¬ (low_bits s a ≡ 0) = λ z. omega arith in
        record {
          count = count_of_bits s a some ∙ low;
          size = head_len_one s a some;
          final_is = rw state (flag_final final n lt.1);
          state_lt = rw state (flag_lt final n lt.1);
        }
    -- 1 stands for 256
    go false d true is_u here = counted 1 here (λ s low below. count_of_256 s a low below ∙ sym (eqb-true n 256 is_u))
    -- one transition is never written here
    go false d false is_u here =
        let ne : ¬ (n ≡ 1) = λ one. d.no refl (omega arith) in
        counted n here (λ s low below. count_of_byte s a low (λ one. ne (sym below ∙ one)) ∙ below)
