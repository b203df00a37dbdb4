-- `lookup::get_from` meets its contract: one turn follows one byte of the key.
-- Assumes nothing.
use Rattle.std.proofs.Common.{◌≡◌, ◌+◌, ◌≤◌, ◌<◌, ℕ, List, length, get_or, drop, sym, ◌∙◌, arith}
use Rattle.format.specs.Limits.{max_sum}
use Rattle.format.specs.Node as F
use Rattle.format.specs.Node.{sound, Search, find_input, transition_at}
use Rattle.format.specs.Paths.{Fst, node_in}
use Rattle.format.specs.View.{fst_is}
use Rattle.format.specs.Laws.LookupLaws.{get_from_past}
use Rattle.std.specs.Prelude.{Ok}
use Rattle.std.proofs.lemmas.Result.{err_from_is_err_and}
use Rattle.node_way.specs.Ways.{way_in}
use Rattle.node_way.specs.WaysLaws.{step_sound, step_stuck, way_found, way_none}
use Rattle.lookup.proofs.LookupWalks.{Looking, looking_unsound, looking_absent, looking_step}
use Rattle.lookup.proofs.get_from.Goals as goal

-- one byte more, along the way that it leads
module _ {f : Fst} {key : List ℕ} {i a sum : ℕ} (h : Looking f key i a sum) (m : F.Node) (e : node_in f a ≡ sound m) (fits : sum ≤ max_sum) (more : i < length key)
    (out target : ℕ) where
  looking_along : (j : ℕ) → find_input m.transitions (get_or key i 0) ≡ Search.at j → out ≡ (transition_at m.transitions j).out
      → target ≡ (transition_at m.transitions j).addr → Looking f key (i + 1) target (sum + out)
  looking_along j found is_out is_target = rw (is_out, is_target) (looking_step h m e fits more j found)

  looking_on : Ok (out, target) ≡ way_in m.transitions (get_or key i 0) → Looking f key (i + 1) target (sum + out)
  looking_on is_way =
      let t = way_found m.transitions (get_or key i 0) out target is_way in
      looking_along t.0 t.1.0 t.1.1 t.1.2

-- the node is not sound
pub returns-in_err-way : goal.returns-in_err-way
returns-in_err-way c =
    let a = c.args in
    let at = c.loop-b in
    let p = err_from_is_err_and c.from_residual.result c.from_residual.ensures.1 in
    rw (p.1, p.2)
    (sym (looking_unsound at.invariant.1
    (step_stuck (node_in (fst_is a.fst) at.addr) (get_or a.key.now at.b-index 0) (sym c.in_err-way.was ∙ c.step_at.ensures))))

-- no transition has the byte
pub returns-in_default : goal.returns-in_default
returns-in_default c =
    let a = c.args in
    let at = c.loop-b in
    let b = get_or a.key.now at.b-index 0 in
    let n = step_sound (node_in (fst_is a.fst) at.addr) b c.in_ok-way.way (sym c.in_ok-way.was ∙ c.step_at.ensures) in
    sym (looking_absent at.invariant.1 n.0 n.1.0 at.invariant.0 c.loop-b-test.true
    (way_none n.0.transitions b c.in_default.field-0 (sym c.in_default.is ∙ n.1.1)))

-- the sum passes the largest
pub returns-in_default-checked_add : goal.returns-in_default-checked_add
returns-in_default-checked_add c =
    let a = c.args in
    let at = c.loop-b in
    let f = fst_is a.fst in
    let b = get_or a.key.now at.b-index 0 in
    let w = c.in-Ok in
    let n = step_sound (node_in f at.addr) b c.in_ok-way.way (sym c.in_ok-way.was ∙ c.step_at.ensures) in
    let next = looking_on at.invariant.1 n.0 n.1.0 at.invariant.0 c.loop-b-test.true w.out w.target (sym w.is ∙ n.1.1) in
    let past : max_sum < at.sum + w.out = omega (arith, c.in_default-checked_add.ensures) in
    sym (next.same ∙ rw c.past_sum.ensures (get_from_past f (drop (at.b-index + 1) a.key.now) _ (at.sum + w.out) past))

-- one byte more
pub loop-b-preserved : goal.loop-b-preserved
loop-b-preserved c =
    let a = c.args in
    let at = c.loop-b in
    let f = fst_is a.fst in
    let b = get_or a.key.now at.b-index 0 in
    let w = c.in-Ok in
    let n = step_sound (node_in f at.addr) b c.in_ok-way.way (sym c.in_ok-way.was ∙ c.step_at.ensures) in
    let total = c.in-Some.ensures in
    (omega (arith, total.0, total.1), rw total.1 (looking_on at.invariant.1 n.0 n.1.0 at.invariant.0 c.loop-b-test.true w.out w.target (sym w.is ∙ n.1.1)))
