-- Laws of `left`, what a walk has still to do: it is the measure of a walk that follows any number of transitions.
--     left_pop, left_follow      a pop and a follow lower it, on every file and from every levels, sane or not
-- Assumes nothing.
use Rattle.std.specs.Prelude.{◌≡◌, List, ◌∷◌, map, ℕ, ◌-◌, ◌<◌, length}
use Rattle.std.proofs.Common.{ap, arith, length-append}
use Rattle.format.specs.Limits.{max_path}
use Rattle.format.specs.Node.{Node, sound}
use Rattle.format.specs.Paths.{Fst, node_in}
use Rattle.reading.specs.Reading.{Level, key_of, child, stepped}
use Rattle.reading.specs.Visits.{Visit, under, rest, to_come, left}
use Rattle.reading.proofs.RunLaws.{come_step}

pub left_pop : (f : Fst) (l : Level) (s : List Level) → left f s < left f (l ∷ s)
left_pop f l s =
    let e = length-append (map (under (key_of (l ∷ s)) l.out) (rest (max_path - length s) f l.addr l.trans)) (to_come f s) in
    omega (arith, e)

pub left_follow : (f : Fst) (l : Level) (m : Node) (s : List Level) → length s < max_path → node_in f l.addr ≡ sound m → l.trans < length m.transitions
    → left f (child l m ∷ stepped l ∷ s) < left f (l ∷ s)
left_follow f l m s h e g =
    let c = ap (λ (vs : List Visit). length vs) (come_step f l m s h e g) in
    omega (arith, c)
