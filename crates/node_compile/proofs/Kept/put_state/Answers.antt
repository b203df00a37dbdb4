use Rattle.node_compile.specs.Parts.{form_bits}
use Rattle.node_compile.proofs.States.{rare_put, common_put}
use Rattle.node_compile.proofs.Kept.put_state.Goals as goal

-- the input has a byte of its own
pub returns-then-self-eq0 : goal.returns-then-self-eq0
returns-then-self-eq0 c =
    let a = c.args in
    rw (c.form_bits-form.ensures.0) (rare_put (form_bits a.state) a.self.idx a.self.input a.out.now a.at c.requires c.if-self-eq0.true)

-- the state byte keeps the input
pub returns : goal.returns
returns c =
    let a = c.args in
    rw (c.form_bits-form.ensures.0) (common_put (form_bits a.state) a.self.idx a.self.input a.out.now a.at c.requires c.if-self-eq0.false)
