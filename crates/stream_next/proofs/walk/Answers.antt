-- `stream_next::walk`: one law for each answer of the pops, and one for each of the descent.
use Rattle.std.proofs.Common.{◌≡◌, refl, ap, ◌∙◌, Ok, Err, None, Result, ◌<◌, arith}
use Rattle.std.proofs.lemmas.Result.{err_from_is_err_and}
use Rattle.format.specs.declared.Refusal.{Refusal}
use Rattle.stream_descend.specs.declared.Followed.{Followed}
use Rattle.format.specs.Limits.{max_levels}
use Rattle.stream_start.specs.Views.{bound_of}
use Rattle.stream_next.proofs.WalkCases.{pops_is, descends_is, descends_low, ended_is, found_is, gone_empty, gone_bad, gone_halted, gone_passed, gone_found, inputs_hold, inputs_copied}
use Rattle.stream_next.proofs.walk.Goals as goal

-- a node that the pops look at is not sound
pub returns-in_err-top : goal.returns-in_err-top
returns-in_err-top c =
    let a = c.args in
    let s = a.stack.now in
    let p = err_from_is_err_and c.from_residual.result c.from_residual.ensures.1 in
    λ len n e.
    rw (p.1, p.2)
    (gone_bad a.fst.bytes.now a.fst.version a.fst.root len (bound_of a.upper) n e a.total a.levels s.addrs s.inps s.trans s.outs
    (pops_is c.highest.ensures c.in_err-top.was s.inps s.outs) a.key.now _ _ _ _)

-- no level has a transition left
pub returns-in_default : goal.returns-in_default
returns-in_default c =
    let a = c.args in
    let s = a.stack.now in
    λ len n e. gone_empty a.fst.bytes.now a.fst.version a.fst.root len (bound_of a.upper) n e a.total a.levels s.addrs s.inps s.trans s.outs
    (pops_is c.highest.ensures (c.in_ok-top.was ∙ ap Ok c.in_default.is) s.inps s.outs) a.key.now _ _ _ _

-- the level found is one of 256, and its node is judged
pub descend-requires : goal.descend-requires
descend-requires c =
    let p = c.highest.ensures in
    let same = c.in_ok-top.was ∙ ap Ok c.in-Some.is in
    record { top_lt_max_levels = (p.low c.in-Some.top c.in-Some.node same, c.requires.1, p.ready c.in-Some.top c.in-Some.node same) }

-- the descent is refused
pub returns-in_err-followed : goal.returns-in_err-followed
returns-in_err-followed c =
    let a = c.args in
    let s = a.stack.now in
    let told : c.from_residual-in_err-followed.result ≡ Err c.in_err-followed.field-0.0 = grind arith in
    λ len n e.
    rw told
    (gone_halted a.fst.bytes.now a.fst.version a.fst.root len (bound_of a.upper) n e a.total a.levels s.addrs s.inps s.trans s.outs
    c.in-Some.top c.in-Some.node (pops_is c.highest.ensures (c.in_ok-top.was ∙ ap Ok c.in-Some.is) s.inps s.outs)
    (descends_is c.descend.ensures c.in_err-followed.was) _ refl a.key.now _ _ _ _)

-- the upper bound is passed
pub returns-in_default-found : goal.returns-in_default-found
returns-in_default-found c =
    let a = c.args in
    let s = a.stack.now in
    let g = c.in_ok-followed.followed in
    let same : ◌≡◌ {A = Result Followed Refusal} (Ok g) (Ok (record { found = None; total = g.total })) = ended_is g c.in_default-found.is in
    λ len n e.
    rw same
    (gone_passed a.fst.bytes.now a.fst.version a.fst.root len (bound_of a.upper) n e a.total a.levels s.addrs s.inps s.trans s.outs
    c.in-Some.top c.in-Some.node (pops_is c.highest.ensures (c.in_ok-top.was ∙ ap Ok c.in-Some.is) s.inps s.outs)
    (descends_is c.descend.ensures (c.in_ok-followed.was ∙ same)) g.total refl a.key.now _ _ _ _)

-- the key found has a level for each of its bytes, and fits the buffer
pub copy_front-requires : goal.copy_front-requires
copy_front-requires c =
    let low : c.in-Some-found.k < max_levels = descends_low c.descend.ensures (c.in_ok-followed.was ∙ found_is c.in_ok-followed.followed _ c.in-Some-found.is) in
    (inputs_hold c.descend.ensures c.in-Some-found.k low, omega (arith, c.requires.2))

-- a key is found
pub returns-in-Some-found : goal.returns-in-Some-found
returns-in-Some-found c =
    let a = c.args in
    let s = a.stack.now in
    let g = c.in_ok-followed.followed in
    let same = found_is g _ c.in-Some-found.is in
    let low : c.in-Some-found.k < max_levels = descends_low c.descend.ensures (c.in_ok-followed.was ∙ same) in
    λ len n e.
    rw same
    (gone_found a.fst.bytes.now a.fst.version a.fst.root len (bound_of a.upper) n e a.total a.levels s.addrs s.inps s.trans s.outs
    c.in-Some.top c.in-Some.node (pops_is c.highest.ensures (c.in_ok-top.was ∙ ap Ok c.in-Some.is) s.inps s.outs)
    (descends_is c.descend.ensures (c.in_ok-followed.was ∙ same)) c.in-Some-found.k _ g.total _ _ _ _ a.key.now _ refl low c.descend.ensures.len
    (inputs_copied c.descend.ensures c.in-Some-found.k low a.key.now _ c.copy_front.ensures))
