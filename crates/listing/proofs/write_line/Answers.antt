-- `listing::write_line` meets its contract: each way out is a law of LinedLaws.
-- Assumes nothing.
use Rattle.std.proofs.Common.{◌≡◌, Ok, Some, None, refl, sym, length, length-take-le, rules, arith}
use Rattle.listing.proofs.LinedLaws.{wrote_key, wrote_end, wrote_refused}
use Rattle.stream.specs.PlainsLaws.{plain_told}
use Rattle.stream_step.specs.SteppedLaws.{step_fits}
use Rattle.listing.proofs.write_line.Goals as goal

-- the key lies in its buffer of 255 bytes
pub slice_bounds-key_line-end : goal.slice_bounds-key_line-end
slice_bounds-key_line-end c =
    let e : c.next-step.result.answer ≡ Ok (Some (c.in-Ok-Some.n, c.in-Ok-Some.value)) = grind arith in
    let fits = step_fits (plain_told c.next-step.ensures) _ _ e (search rules) in
    let len : length c.next-step.new.key ≡ 255 = search rules in
    sym (length-take-le c.in-Ok-Some.n c.next-step.new.key (omega (arith, fits, len)))

-- a key is left: its line
pub returns-in-Ok-Some : goal.returns-in-Ok-Some
returns-in-Ok-Some c =
    let a = c.args in
    let e : c.next-step.result.answer ≡ Ok (Some (c.in-Ok-Some.n, c.in-Ok-Some.value)) = grind arith in
    wrote_key a.file.now _ a.keys _ refl c.next-step.ensures a.line.now _ _ _ refl _ _ e c.key_line-len.ensures refl c.counted.ensures

-- no key is left: the last line
pub returns-in-Ok-None : goal.returns-in-Ok-None
returns-in-Ok-None c =
    let a = c.args in
    let e : c.next-step.result.answer ≡ Ok None = grind arith in
    wrote_end a.file.now _ a.keys _ refl c.next-step.ensures a.line.now _ _ _ refl e c.end_line-len.ensures refl refl

-- the reading is refused: its line
pub returns-in-Err : goal.returns-in-Err
returns-in-Err c =
    let a = c.args in
    wrote_refused a.file.now _ a.keys _ refl c.next-step.ensures a.line.now _ _ _ refl _ c.in-Err.is c.refused_line-len.ensures refl refl
