-- Laws of `One`: the length, and that the bytes are those of the packer.
--     length_bytes    how many bytes: what is kept of the input decides, and not the input
--     length_by_own   whether it is 0 decides
--     code_of         what is kept of an input
--     bytes_packed    the bytes of a record with one transition that is not final
-- Assumes nothing.
use Rattle.std.specs.Prelude.{◌≡◌, refl, Bool, true, false, cond, ◌&&◌, ℕ, ◌+◌, eqb, length, get_or}
use Rattle.std.proofs.Common.{sym, ap, ◌∙◌}
use Rattle.format.specs.Bytes.{pack_size}
use Rattle.format.specs.CommonInputs.{common_idx}
use Rattle.format.specs.Packed.{BuilderNode, delta_of, output_size, last_addr, has_one, leads_next, packed}
use Rattle.format.specs.Laws.PackedLaws.{packed_next_is, packed_one_is}
use Rattle.node_compile.specs.Parts.{Code, state_for, one_for}
use Rattle.node_compile.specs.StateLaws.{length_state, length_state_by, length_one, next_for_is, one_for_is}
use Rattle.node_compile.specs.One.{one_bytes}

-- ---- the length

pub length_bytes : (first idx rare rare' out target : ℕ) → length (one_bytes first idx rare out target) ≡ length (one_bytes first idx rare' out target)
length_bytes first idx rare rare' out target = go (eqb target (last_addr first) && eqb out 0)
  where
    go : (t : Bool) → length (cond t (state_for 192 idx rare) (one_for idx rare out (delta_of first target)))
        ≡ length (cond t (state_for 192 idx rare') (one_for idx rare' out (delta_of first target)))
    go true = length_state 192 idx rare 192 rare'
    go false =
        length_one idx rare out (delta_of first target)
        ∙ ap (λ (n : ℕ). output_size out + pack_size (delta_of first target) + 1 + n) (length_state 128 idx rare 128 rare')
        ∙ sym (length_one idx rare' out (delta_of first target))

pub length_by_own : (first idx idx' rare out target : ℕ) → eqb idx 0 ≡ eqb idx' 0 → length (one_bytes first idx rare out target) ≡ length (one_bytes first idx' rare out target)
length_by_own first idx idx' rare out target e = go (eqb target (last_addr first) && eqb out 0)
  where
    same : (form : ℕ) → length (state_for form idx rare) ≡ length (state_for form idx' rare)
    same form = length_state_by form idx rare ∙ ap (λ (b : Bool). cond b 2 1) e ∙ sym (length_state_by form idx' rare)

    go : (t : Bool) → length (cond t (state_for 192 idx rare) (one_for idx rare out (delta_of first target)))
        ≡ length (cond t (state_for 192 idx' rare) (one_for idx' rare out (delta_of first target)))
    go true = same 192
    go false =
        length_one idx rare out (delta_of first target)
        ∙ ap (λ (n : ℕ). output_size out + pack_size (delta_of first target) + 1 + n) (same 128)
        ∙ sym (length_one idx' rare out (delta_of first target))

-- ---- the packer's bytes

-- the input itself stands beside what is kept of it
pub code_of : (input : ℕ) → Code input (common_idx input) input
code_of input = record { is = refl; rare_is = λ _. refl }

-- of a record with one transition, which is not final
pub bytes_packed : (first : ℕ) (b : BuilderNode) (idx rare out target : ℕ) → has_one b ≡ true → Code (get_or b.inputs 0 0) idx rare → out ≡ get_or b.outputs 0 0
    → target ≡ get_or b.targets 0 0 → one_bytes first idx rare out target ≡ packed first b
bytes_packed first b idx rare out target one code is_out is_target = rw (is_out, is_target) (go (leads_next first b) refl)
  where
    go : (t : Bool) → leads_next first b ≡ t
        → cond t (state_for 192 idx rare) (one_for idx rare (get_or b.outputs 0 0) (delta_of first (get_or b.targets 0 0))) ≡ packed first b
    go true e = next_for_is code ∙ sym (packed_next_is first b one e)
    go false e = one_for_is code (get_or b.outputs 0 0) (delta_of first (get_or b.targets 0 0)) ∙ sym (packed_one_is first b one e)
