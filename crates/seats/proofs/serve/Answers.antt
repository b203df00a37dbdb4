-- `seats::serve` meets its contract: a law of SeatCases for each answer of the reading served. Assumes nothing.
use Rattle.std.proofs.Common.{◌≡◌, Ok, Err, None, rules, arith}
use Rattle.seats_turn.specs.SeatViews.{seats_is}
use Rattle.seats.proofs.SeatCases.{turn_number, serve_key, serve_end, serve_refused, turn_empty}
use Rattle.seats.proofs.serve.Goals.{in-Some-found, in-None}
use Rattle.seats.proofs.serve.Goals as goal

pub offset_bounds-seats-number : goal.offset_bounds-seats-number
offset_bounds-seats-number c = let le = turn_number (seats_is c.args.seats) c.args.number c.requires.1 in search rules

pub bounds : goal.bounds
bounds c = let le = turn_number (seats_is c.args.seats) c.args.number c.requires.1 in omega arith

pub kept-requires : goal.kept-requires
kept-requires c = turn_number (seats_is c.args.seats) c.args.number c.requires.1

-- a key, or the end
pub returns : goal.returns
returns c =
    let a = c.args in
    elim c.match-found.branch [
      | in-Some-found w ↦
          serve_key a.file.now a.seats (search rules) a.number _ c.requires.0 c.requires.1 _ c.in-Some.is a.key.now _ _ c.next-step.ensures _ _ _ w.served-is (grind arith) c.kept.ensures
      | in-None w ↦
          let e : c.next-step.result.answer ≡ Ok None = grind arith in
          serve_end a.file.now a.seats (search rules) a.number _ c.requires.0 c.requires.1 _ c.in-Some.is a.key.now _ _ c.next-step.ensures _ e w.served-is c.kept.ensures
    ]

-- the reading is refused
pub returns-in_err-found : goal.returns-in_err-found
returns-in_err-found c =
    let a = c.args in
    let told : c.from_residual.result ≡ Err c.in_err-found.field-0.0 = grind arith in
    rw told (serve_refused a.file.now a.seats (search rules) a.number _ c.requires.0 c.requires.1 _ c.in-Some.is a.key.now _ _ c.next-step.ensures _ c.in_err-found.was)

-- whose turn it is has a reading
pub returns-in_default : goal.returns-in_default
returns-in_default c = let a = c.args in absurd (turn_empty a.seats (search rules) a.number _ c.requires.0 c.requires.1 c.in_default.is)
