-- The numbers of the refusals.
--     number_from, number_to    from 1 to 20: none is the 0 of an answer
--     number_apart              each refusal has a number of its own
-- Assumes nothing.
use Rattle.std.specs.Prelude.{◌≡◌, refl, ℕ, ◌≤◌, cond, eqb, Option, Some, None}
use Rattle.std.proofs.Common.{sym, ap, ◌∙◌, arith}
use Rattle.format.specs.declared.Refusal.{Refusal}
use Rattle.format.specs.declared.Refusal.TheVariants.{Short, Version, Root, Large, Node, Deep, Sum, Space, Bound, Record, State, Pattern, List, Cards, Edition, Carry, Name, Full, Count, Seat}
use Rattle.format.specs.Limits.{number}

pub number_from : (why : Refusal) → 1 ≤ number why
number_from Short = omega arith
number_from Version = omega arith
number_from Root = omega arith
number_from Large = omega arith
number_from Node = omega arith
number_from Deep = omega arith
number_from Sum = omega arith
number_from Space = omega arith
number_from Bound = omega arith
number_from Record = omega arith
number_from State = omega arith
number_from Pattern = omega arith
number_from List = omega arith
number_from Cards = omega arith
number_from Edition = omega arith
number_from Carry = omega arith
number_from Name = omega arith
number_from Full = omega arith
number_from Count = omega arith
number_from Seat = omega arith

pub number_to : (why : Refusal) → number why ≤ 20
number_to Short = omega arith
number_to Version = omega arith
number_to Root = omega arith
number_to Large = omega arith
number_to Node = omega arith
number_to Deep = omega arith
number_to Sum = omega arith
number_to Space = omega arith
number_to Bound = omega arith
number_to Record = omega arith
number_to State = omega arith
number_to Pattern = omega arith
number_to List = omega arith
number_to Cards = omega arith
number_to Edition = omega arith
number_to Carry = omega arith
number_to Name = omega arith
number_to Full = omega arith
number_to Count = omega arith
number_to Seat = omega arith

-- the refusal of a number, and none of any other
abbrev refusal_of : ℕ → Option Refusal
refusal_of n =
    cond (eqb n 1) (Some Short) (cond (eqb n 2) (Some Version) (cond (eqb n 3) (Some Root) (cond (eqb n 4) (Some Large) (
    cond (eqb n 5) (Some Node) (cond (eqb n 6) (Some Deep) (cond (eqb n 7) (Some Sum) (cond (eqb n 8) (Some Space) (
    cond (eqb n 9) (Some Bound) (cond (eqb n 10) (Some Record) (cond (eqb n 11) (Some State) (cond (eqb n 12) (Some Pattern) (
    cond (eqb n 13) (Some List) (cond (eqb n 14) (Some Cards) (cond (eqb n 15) (Some Edition) (cond (eqb n 16) (Some Carry) (
    cond (eqb n 17) (Some Name) (cond (eqb n 18) (Some Full) (cond (eqb n 19) (Some Count) (cond (eqb n 20) (Some Seat) None)))))))))))))))))))

back : (why : Refusal) → refusal_of (number why) ≡ Some why
back Short = refl
back Version = refl
back Root = refl
back Large = refl
back Node = refl
back Deep = refl
back Sum = refl
back Space = refl
back Bound = refl
back Record = refl
back State = refl
back Pattern = refl
back List = refl
back Cards = refl
back Edition = refl
back Carry = refl
back Name = refl
back Full = refl
back Count = refl
back Seat = refl

pub number_apart : (a b : Refusal) → number a ≡ number b → a ≡ b
number_apart a b e =
    let t : ◌≡◌ {A = Option Refusal} (Some a) (Some b) = sym (back a) ∙ ap refusal_of e ∙ back b in
    cc
