-- The visits of a reading: every non-empty string along the transitions from a node, in order, with the node that it leads to.
--     Visit, under p o v       a string from a node, with its value and whether it is a key there; the same from further up
--     row, below, rest         the visits by a list of transitions; below a node; by its transitions from a place on
--     to_come f levels          the visits that a reading has still to make
--     left f levels            what a walk has still to do: a pop and a follow both lower it (LeftLaws)
--     Fine d f a sum           every node from a on is sound, at most d steps down, and every sum from sum on fits 64 bits
--     Sane f levels            levels whose nodes are fine
--     AllV, RisingV            a fact of each visit; each string comes before all that follow
--     kept P vs                the visits whose string passes a test
-- Assumes nothing.
use Prim.{Unit, tt}
use Rattle.std.specs.Prelude.{◌≡◌, Bool, true, false, cond, ℕ, zero, suc, ◌+◌, ◌*◌, ◌-◌, ◌≤◌, length, drop}
use mathlib.Core.List.{List, [], ◌∷◌, ◌++◌, map, Memᴰ}
use Rattle.format.specs.declared.Transition.{Transition}
use Rattle.format.specs.Limits.{max_path, max_sum}
use Rattle.format.specs.Node.{Node, Judgement, sound, unsound}
use Rattle.format.specs.Paths.{Fst, node_in}
use Rattle.format.specs.Tables.{transitions_of?, final_output_of?}
use Rattle.format.specs.Strings.{Before}
use Rattle.reading.specs.Reading.{Level, key_of}

-- the value is the sum of the outputs plus the node's final output
pub record Visit : Type 0 where
  pub key : List ℕ
  pub value : ℕ
  pub final : Bool

abbrev pub under : List ℕ → ℕ → Visit → Visit
under p o v = record { key = p ++ v.key; value = o + v.value; final = v.final }

abbrev pub final? : Judgement → Bool
final? (sound m) = m.final
final? unsound = false

-- what a transition leads to
abbrev pub visit_by : Fst → Transition → Visit
visit_by f t = record { key = t.inp ∷ []; value = t.out + final_output_of? (node_in f t.addr); final = final? (node_in f t.addr) }

-- sub gives the visits below a target
abbrev pub row : (ℕ → List Visit) → Fst → List Transition → List Visit
row sub f [] = []
row sub f (t ∷ ts) = visit_by f t ∷ (map (under (t.inp ∷ []) t.out) (sub t.addr) ++ row sub f ts)

abbrev pub transitions_at : Fst → ℕ → List Transition
transitions_at f a = transitions_of? (node_in f a)

-- with at most d steps
abbrev pub below : ℕ → Fst → ℕ → List Visit
below zero f a = []
below (suc d) f a = row (below d f) f (transitions_at f a)

abbrev pub rest : ℕ → Fst → ℕ → ℕ → List Visit
rest zero f a p = []
rest (suc d) f a p = row (below d f) f (drop p (transitions_at f a))

-- for each level, highest first, the visits below its transitions from its next place on
abbrev pub to_come : Fst → List Level → List Visit
to_come f [] = []
to_come f (l ∷ s) = map (under (key_of (l ∷ s)) l.out) (rest (max_path - length s) f l.addr l.trans) ++ to_come f s

abbrev pub left : Fst → List Level → ℕ
left f s = length s + 2 * length (to_come f s)

-- ---- files and readings without refusals

abbrev pub Fine : ℕ → Fst → ℕ → ℕ → Type 0
Fine zero f a sum = (m : Node) × (node_in f a ≡ sound m) × (sum + m.final_output ≤ max_sum) × (m.transitions ≡ [])
Fine (suc d) f a sum =
    (m : Node) × (node_in f a ≡ sound m) × (sum + m.final_output ≤ max_sum) × ((t : Transition) → Memᴰ t m.transitions → Fine d f t.addr (sum + t.out))

abbrev pub Sane : Fst → List Level → Type 0
Sane f [] = Unit {0}
Sane f (l ∷ s) = (length s ≤ max_path) × Fine (max_path - length s) f l.addr l.out × Sane f s

-- ---- lists of visits

abbrev pub AllV : (Visit → Type 0) → List Visit → Type 0
AllV P [] = Unit {0}
AllV P (v ∷ vs) = P v × AllV P vs

abbrev pub RisingV : List Visit → Type 0
RisingV [] = Unit {0}
RisingV (v ∷ vs) = AllV (λ w. Before v.key w.key) vs × RisingV vs

abbrev pub kept : (List ℕ → Bool) → List Visit → List Visit
kept P [] = []
kept P (v ∷ vs) = cond (P v.key) (v ∷ kept P vs) (kept P vs)
