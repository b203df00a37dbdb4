-- A call where no key is to come, and a key, which lowers the number.
use Rattle.std.proofs.Common.{◌∙◌, Ok, refl, ap, length, arith}
use Rattle.stream_start.specs.Views.{view_is}
use Rattle.stream.proofs.PlainCases.{stepped_by, gave_key, some_left, none_left}
use Rattle.stream.proofs.turn.Goals as goal

-- the number says that none is to come, and the buffer has room
pub returns-then-key-ge-MAX_KEY : goal.returns-then-key-ge-MAX_KEY
returns-then-key-ge-MAX_KEY c =
    let a = c.args in
    none_left a.file.now (view_is a.plain.now.reading) a.plain.now.keys (length a.key.now) a.key.now _ c.if-plain-eq0.true c.if-key-ge-MAX_KEY.true c.turn_of_none.ensures

-- a key was handed out, so the number is not 0
pub overflow_sub-plain : goal.overflow_sub-plain
overflow_sub-plain c =
    let h = stepped_by c.args.plain.now.reading c.turn.new.reading c.turn.ensures (c.in_ok-found.was ∙ ap Ok c.in-Some.is) in
    let ne = some_left _ _ _ h _ _ refl _ c.else-plain-eq0.either in
    omega arith

-- a key lowers the number by one
pub returns-in-Some : goal.returns-in-Some
returns-in-Some c =
    let h = stepped_by c.args.plain.now.reading c.turn.new.reading c.turn.ensures (c.in_ok-found.was ∙ ap Ok c.in-Some.is) in
    rw c.in-Some.is (gave_key h _ _ _ _ _ refl (some_left _ _ _ h _ _ refl _ c.else-plain-eq0.either) refl refl)
