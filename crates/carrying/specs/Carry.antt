-- A reading carried to another file (document 02, N8; docs/FORMAT.md, "Carrying"), for any two files and any reading, admitted or made.
--     Carrying, carry_levels        the levels in the new file, level by level from the first
--     Carried, carry_with           what carrying answers: a reading of the new file, or a refusal
--     carry old new r              a reading without the number of keys to come
--     carry_by old new p r          a reading by the pattern p, which stays as it is
--     carry_plain old new p         a plain reading; its number of keys to come is copied
-- On the old side a level's address is taken as held: it is not judged whether the bytes lead there. Next places, upper bound, pending empty key,
-- total and number are copied and not judged.
-- Assumes nothing.
use Rattle.std.specs.Prelude.{Bool, true, false, cond, ◌&&◌, List, [], ◌∷◌, ℕ, ◌+◌, leb, eqb, length}
use Rattle.format.specs.declared.Refusal.{Refusal}
use Rattle.format.specs.declared.Transition.{Transition}
use Rattle.format.specs.Limits.{max_path, NODE, STATE, PATTERN, CARRY}
use Rattle.format.specs.Node.{Node, find_input, transition_at}
use Rattle.format.specs.Opening.{opening}
use Rattle.format.specs.Paths.{Fst, fst_of, node_in}
use Rattle.reading.specs.Reading.{Level, level_with, View, on_node, on_search, on_opened, state_test}
use Rattle.plain.specs.Plain.{Plain, plain_with}
use Rattle.pattern.specs.Pattern.{Pattern}

-- ---- the levels

-- no level yet; the highest level carried, those below it and its new node; or why not
pub data Carrying : Type 0 where
  none_yet : Carrying
  over : Level → List Level → Node → Carrying
  halted : Refusal → Carrying

-- the same level at another address
abbrev pub level_at : ℕ → Level → Level
level_at a l = level_with a l.inp l.trans l.out

-- the level l, whose old node is m, at the address a of the new file and with the running value sum there, over the levels s: NODE, then CARRY
-- where the transition count or the running value is another. A held value fits 64 bits, so a sum past them is another.
abbrev pub settle : Fst → Level → Node → ℕ → ℕ → List Level → Carrying
settle new l m a sum s =
    on_node (node_in new a)
    (λ n. cond (eqb (length n.transitions) (length m.transitions) && eqb sum l.out) (over (level_at a l) s n) (halted CARRY))
    (halted NODE)

-- where the transition t of the level k's new node leads
abbrev pub settle_by : Fst → Level → Node → Level → List Level → Transition → Carrying
settle_by new l m k s t = settle new l m t.addr (k.out + t.out) (k ∷ s)

-- one level more: NODE in the old file, CARRY where the new file lacks the byte that led to it, then as it settles; the first one stands at the root
abbrev pub carry_level : Fst → Fst → Level → Carrying → Carrying
carry_level old new l none_yet = on_node (node_in old l.addr) (λ m. settle new l m new.root 0 []) (halted NODE)
carry_level old new l (over k s n) =
    on_node (node_in old l.addr)
    (λ m. on_search (find_input n.transitions l.inp) (λ p. settle_by new l m k s (transition_at n.transitions p)) (λ p. halted CARRY))
    (halted NODE)
carry_level old new l (halted c) = halted c

-- levels are listed highest first, so those below are carried first
unfoldable pub carry_levels : Fst → Fst → List Level → Carrying
carry_levels old new [] = none_yet
carry_levels old new (l ∷ s) = carry_level old new l (carry_levels old new s)

-- ---- a reading

pub data Carried : Type 0 where
  carried : View → Carried
  refused : Refusal → Carried

-- the new file's length and the carried levels; all else as it was
abbrev pub carried_to : ℕ → View → List Level → View
carried_to n r s = record { len = n; bound = r.bound; bound_len = r.bound_len; empty = r.empty; total = r.total; levels = s }

abbrev pub after_levels : ℕ → View → Carrying → Carried
after_levels n r none_yet = carried (carried_to n r [])
after_levels n r (over l s m) = carried (carried_to n r (l ∷ s))
after_levels n r (halted c) = refused c

-- the old file's refusals, the new file's, STATE as a next on the old file judges it, PATTERN where a pattern is too long, then the levels
unfoldable pub carry_with : Bool → List ℕ → List ℕ → View → Carried
unfolding carry_levels
carry_with fits old new r =
    on_opened (opening old)
    (λ m.
    on_opened (opening new)
    (λ q.
    cond (state_test r (length old))
    (cond fits (after_levels (length new) r (carry_levels (fst_of old m) (fst_of new q) r.levels)) (refused PATTERN))
    (refused STATE))
    (λ n. refused n))
    (λ n. refused n)

abbrev pub carry : List ℕ → List ℕ → View → Carried
carry old new r = carry_with true old new r

abbrev pub carry_by : List ℕ → List ℕ → Pattern → View → Carried
carry_by old new p r = carry_with (leb (length p.positions) max_path) old new r

-- ---- a plain reading

pub data CarriedPlain : Type 0 where
  carried : Plain → CarriedPlain
  refused : Refusal → CarriedPlain

abbrev pub with_keys : ℕ → Carried → CarriedPlain
with_keys keys (Carried.carried r) = CarriedPlain.carried (plain_with r keys)
with_keys keys (Carried.refused n) = CarriedPlain.refused n

abbrev pub carry_plain : List ℕ → List ℕ → Plain → CarriedPlain
carry_plain old new p = with_keys p.keys (carry old new p.view)
