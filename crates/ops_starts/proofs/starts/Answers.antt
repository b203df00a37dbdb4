-- `ops_starts::starts` meets its contract: one file more is started.
-- Assumes nothing.
use Rattle.std.proofs.Common.{◌≡◌, Err, List, ℕ, map, refl, sym, ap, ◌∙◌, subst, length, get_or-set_same, rules, arith}
use Rattle.reading.specs.Reading as R
use Rattle.stream_start.specs.Views.{bound_of}
use Rattle.ops_live.specs.Lives.{BeginsTo}
use Rattle.ops_starts.proofs.StartLoop.{starting_none, starting_on, starting_refused, starting_all, at_file, files_long}
use Rattle.ops_starts.proofs.starts.Goals as goal

pub loop-i-init : goal.loop-i-init
loop-i-init c =
    let a = c.args in
    starting_none (map (λ f. f.now) a.files) a.count (bound_of a.lower) (bound_of a.upper) a.lives.now a.keys.now a.seen.now (search rules) (search rules) (search rules)

-- a start is refused
pub returns-in_err-begin : goal.returns-in_err-begin
returns-in_err-begin c =
    let a = c.args in
    let l = c.loop-i in
    let fs = map (λ f. f.now) a.files in
    let long : length a.files ≡ 8 = search rules in
    let told : c.from_residual.result ≡ Err c.in_err-begin.field-0.0 = grind arith in
    let one = rw c.in_err-begin.was at c.begin.ensures in
    rw told (starting_refused fs a.count (bound_of a.lower) (bound_of a.upper) l.lives l.keys l.seen l.i l.invariant c.requires (files_long a.files long) c.loop-i-test.true
    c.in_err-begin.field-0.0 (ap (λ (f : List ℕ). R.start f (bound_of a.lower) (bound_of a.upper)) (at_file a.files l.i _ refl) ∙ one))

-- one more is started
pub loop-i-preserved : goal.loop-i-preserved
loop-i-preserved c =
    let a = c.args in
    let l = c.loop-i in
    let fs = map (λ f. f.now) a.files in
    let long : length a.files ≡ 8 = search rules in
    let one = rw c.in_ok-begin.was at c.begin.ensures in
    starting_on fs a.count (bound_of a.lower) (bound_of a.upper) l.lives l.keys l.seen l.i l.invariant c.requires (files_long a.files long) c.loop-i-test.true
    c.begin.new.self (subst (λ (f : List ℕ). BeginsTo f (bound_of a.upper) c.begin.new.self (R.start f (bound_of a.lower) (bound_of a.upper))) (sym (at_file a.files l.i _ refl)) one)
    _ c.put_key-key.result (rw (get_or-set_same l.lives l.i c.begin.new.self _ (omega (arith, l.invariant.lives_len))) at c.put_key-key.ensures)

pub returns : goal.returns
returns c =
    let a = c.args in
    let l = c.loop-i in
    let long : length a.files ≡ 8 = search rules in
    starting_all (map (λ f. f.now) a.files) a.count (bound_of a.lower) (bound_of a.upper) l.lives l.keys l.seen l.i l.invariant c.requires
    (files_long a.files long) c.loop-i-test.false
