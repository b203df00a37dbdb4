-- The sizes are those of the largest output and of the largest delta.
use Rattle.std.proofs.Common.{◌≡◌, ◌∙◌, ◌∷◌, List, ℕ, max, sym, ap, map, arith}
use Rattle.format.specs.Bytes.{largest}
use Rattle.format.specs.Packed.{BuilderNode, delta_of, output_size, delta_size}
use Rattle.format.specs.Laws.PackedLaws.{output_size_le, delta_size_le}
use Rattle.node_compile.specs.Compile.{builder_is}
use Rattle.node_compile.specs.Compile.{builder_is}
use Rattle.node_compile.specs.Parts.{any_in, any_bytes}
use Rattle.node_compile.specs.CompileLaws.{fitted_space, fitted_written, fitted_same, any_len_is}
use Rattle.node_compile.proofs.Largest.{largest_cons}
use Rattle.node_compile.proofs.compile_any.Goals as goal

-- the size of the outputs, from the largest of them and of the final output
size_is : (n : ℕ) (ns : List ℕ) {l m o : ℕ} → l ≡ largest ns → m ≡ max n l → o ≡ output_size m → o ≡ output_size (largest (n ∷ ns))
size_is n ns is_l is_m is_o = is_o ∙ ap output_size (is_m ∙ ap (max n) is_l ∙ sym (largest_cons n ns))

bytes_is : (first : ℕ) (b : BuilderNode) {o t : ℕ} → o ≡ output_size (largest (b.final_output ∷ b.outputs))
    → t ≡ delta_size (map (delta_of first) b.targets) → any_in first b o t ≡ any_bytes first b
bytes_is first b is_o is_t = rw (is_o, is_t)

pub any_len-len-requires : goal.any_len-len-requires
any_len-len-requires c = (
  c.requires.few,
  omega (arith, c.output_size-osize.ensures, output_size_le c.max.result),
  omega (arith, c.delta_size-tsize.ensures, delta_size_le (map (delta_of c.args.first) c.args.node.targets.now)),
)

-- no room
pub returns-then-out-len : goal.returns-then-out-len
returns-then-out-len c =
    let a = c.args in
    let b = builder_is a.node in
    let len = any_len_is a.first b c.output_size-osize.result c.delta_size-tsize.result c.requires in
    fitted_same (bytes_is a.first b (size_is a.node.final_output a.node.outputs.now c.largest_of.ensures c.max.ensures c.output_size-osize.ensures) c.delta_size-tsize.ensures)
    (fitted_space (any_in a.first b c.output_size-osize.result c.delta_size-tsize.result) a.out.now (omega (arith, c.any_len-len.ensures, len)))

-- the record is in order, both sizes are at most 8, and the buffer has room
pub put_any-requires : goal.put_any-requires
put_any-requires c =
    let a = c.args in
    let b = builder_is a.node in
    let len = any_len_is a.first b c.output_size-osize.result c.delta_size-tsize.result c.requires in
    record {
      ok = c.requires;
      osize_le = omega (arith, c.output_size-osize.ensures, output_size_le c.max.result);
      tsize_le = omega (arith, c.delta_size-tsize.ensures, delta_size_le (map (delta_of a.first) a.node.targets.now));
      fits = omega (arith, c.any_len-len.ensures, len);
    }

-- the node is written
pub returns : goal.returns
returns c =
    let a = c.args in
    let b = builder_is a.node in
    let len = any_len_is a.first b c.output_size-osize.result c.delta_size-tsize.result c.requires in
    fitted_same (bytes_is a.first b (size_is a.node.final_output a.node.outputs.now c.largest_of.ensures c.max.ensures c.output_size-osize.ensures) c.delta_size-tsize.ensures)
    (fitted_written (any_in a.first b c.output_size-osize.result c.delta_size-tsize.result) a.out.now c.put_any.new.out c.any_len-len.result
    (c.any_len-len.ensures ∙ len) (omega (arith, c.any_len-len.ensures, len)) c.put_any.ensures.is)
