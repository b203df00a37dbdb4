-- The bytes by what the state byte keeps of the input, where they have room.
use Rattle.std.proofs.Common.{◌≡◌, ap₂, ℕ, arith}
use Rattle.format.specs.CommonInputs.{common_idx}
use Rattle.node_compile.specs.One.{one_bytes}
use Rattle.node_compile.specs.CompileLaws.{fitted_space, fitted_written, fitted_same}
use Rattle.node_compile.proofs.compile_one.Goals as goal
use Rattle.node_compile.proofs.compile_one.Goals.{After-of-kept}

-- what is kept is the input's
kept : (c : After-of-kept) → one_bytes c.args.first c.of-kept.result.idx c.of-kept.result.input c.args.output c.args.target
    ≡ one_bytes c.args.first (common_idx c.args.input) c.args.input c.args.output c.args.target
kept c = ap₂ (λ (i x : ℕ). one_bytes c.args.first i x c.args.output c.args.target) c.of-kept.ensures.0.is c.of-kept.ensures.1

-- no room
pub returns-then-out-len : goal.returns-then-out-len
returns-then-out-len c =
    let a = c.args in
    let k = c.of-kept.result in
    fitted_same (kept (goal.at.returns-then-out-len c).After-of-kept)
    (fitted_space (one_bytes a.first k.idx k.input a.output a.target) a.out.now (omega (arith, c.one_len-len.ensures)))

-- the buffer has room
pub pack_one-requires : goal.pack_one-requires
pack_one-requires c = (c.requires.0, c.requires.1, omega (arith, c.one_len-len.ensures))

-- the node is written
pub returns : goal.returns
returns c =
    let a = c.args in
    let k = c.of-kept.result in
    fitted_same (kept (goal.at.returns c).After-of-kept)
    (fitted_written (one_bytes a.first k.idx k.input a.output a.target) a.out.now c.pack_one.new.out _ c.one_len-len.ensures
    (omega (arith, c.one_len-len.ensures)) c.pack_one.ensures.is)
