-- A list of keys and values packed into a file of version 2 (document 02, N4): a fold over the pairs, on lists.
-- Outputs are pushed to the front: along every string that begins a listed key they add up to the least value of the keys that it begins,
-- along the empty string to 0. Nodes are finished depth first, each after its targets, in the order of the keys.
--     Arc                  a finished transition: its input, the least value of the keys that go along it, its target
--     Open                 an open node: the byte that led there, the value of the key that ends there, its finished transitions
--     least_at o            the least value of the keys at the open node o; record_of o base its record with outputs counted from base
--     State                the nodes and cells so far, the root, and the open nodes below it along the last key, highest first
--     close B o s          the node o with the open nodes s below it is finished, those below it first
--     insert B o s k v     the key k with the value v below the open node o
--     pack_nodes, file_of    the whole list; the file
--     pack_file ps n        the file of the pairs ps with n cells, all empty at first; pack_cells the cells afterwards
--     Answer, pack_answer   what packing answers, and output_after, cells_after what it leaves
-- Assumes nothing.
use Rattle.std.specs.Prelude.{◌≡◌, Bool, true, false, cond, ◌&&◌, List, [], ◌∷◌, ◌++◌, map, ℕ, zero, suc, ◌+◌, ◌-◌, min, leb, eqb, length, replicate}
use Rattle.std.proofs.Math.Option.{Option, none, some}
use Rattle.format.specs.declared.Refusal.{Refusal}
use Rattle.format.specs.Limits.{LARGE, SPACE, LIST}
use Rattle.format.specs.Bytes.{bytes_of}
use Rattle.format.specs.Packed.{BuilderNode}
use Rattle.packing.specs.Lists.{Pair, list_test, pairs_of}
use Rattle.packing.specs.Registry.{Cell, empty_cell, Build, Interned, intern}

-- ---- open nodes

pub record Arc : Type 0 where
  pub inp : ℕ
  pub least : ℕ
  pub addr : ℕ

pub record Open : Type 0 where
  pub inp : ℕ
  pub value : Option ℕ
  pub arcs : List Arc

unfoldable pub least_of : List Arc → ℕ → ℕ
least_of [] v = v
least_of (a ∷ more) v = least_of more (min v a.least)

-- 0 where there is no key
abbrev pub least_in : Option ℕ → List Arc → ℕ
least_in (some v) arcs = least_of arcs v
least_in none [] = 0
least_in none (a ∷ more) = least_of more a.least

unfoldable pub least_at : Open → ℕ
unfolding least_of
least_at o = least_in o.value o.arcs

abbrev pub is_some : Option ℕ → Bool
is_some (some v) = true
is_some none = false

abbrev pub final_out : Option ℕ → ℕ → ℕ
final_out (some v) base = v - base
final_out none base = 0

unfoldable pub record_of : Open → ℕ → BuilderNode
record_of o base = record {
  final = is_some o.value;
  final_output = final_out o.value base;
  inputs = map (λ (a : Arc). a.inp) o.arcs;
  outputs = map (λ (a : Arc). a.least - base) o.arcs;
  targets = map (λ (a : Arc). a.addr) o.arcs;
}

abbrev pub with_arc : Open → Arc → Open
with_arc o a = record { inp = o.inp; value = o.value; arcs = o.arcs ++ (a ∷ []) }

abbrev pub with_value : Open → ℕ → Open
with_value o v = record { inp = o.inp; value = some v; arcs = o.arcs }

-- ---- a node is finished

pub record Closed : Type 0 where
  pub build : Build
  pub arc : Arc

-- its outputs are counted from the least value below it, which goes to the transition that leads to it
abbrev pub closed_as : Open → Interned → Closed
closed_as o r = record { build = r.build; arc = record { inp = o.inp; least = least_at o; addr = r.addr } }

abbrev pub finish : Build → Open → Closed
finish B o = closed_as o (intern B (record_of o (least_at o)))

abbrev pub finish_with : Open → Closed → Closed
finish_with o c = finish c.build (with_arc o c.arc)

unfoldable pub close : Build → Open → List Open → Closed
unfolding intern record_of least_at
close B o [] = finish B o
close B o (p ∷ s) = finish_with o (close B p s)

-- ---- a pair more

pub record State : Type 0 where
  pub build : Build
  pub top : Open
  pub below : List Open

abbrev pub state_with : Build → Open → List Open → State
state_with B o s = record { build = B; top = o; below = s }

-- the open nodes along a new key, b its first byte
unfoldable pub open_key : ℕ → List ℕ → ℕ → List Open
open_key b [] v = record { inp = b; value = some v; arcs = [] } ∷ []
open_key b (c ∷ k) v = record { inp = b; value = none; arcs = [] } ∷ open_key c k v

-- the state seen from a node above
abbrev pub under : Open → State → State
under o t = state_with t.build o (t.top ∷ t.below)

-- the nodes off the new key are finished
abbrev pub branch : Open → Closed → ℕ → List ℕ → ℕ → State
branch o c b k v = state_with c.build (with_arc o c.arc) (open_key b k v)

-- the new key goes along the open nodes as far as their bytes are its own
unfoldable pub insert : Build → Open → List Open → List ℕ → ℕ → State
unfolding open_key close
insert B o s [] v = state_with B (with_value o v) s
insert B o [] (b ∷ k) v = state_with B o (open_key b k v)
insert B o (p ∷ s) (b ∷ k) v = cond (eqb p.inp b) (under o (insert B p s k v)) (branch o (close B p s) b k v)

abbrev pub insert_pair : State → Pair → State
insert_pair t p = insert t.build t.top t.below p.key p.value

unfoldable pub insert_all : State → List Pair → State
unfolding insert
insert_all t [] = t
insert_all t (p ∷ ps) = insert_all (insert_pair t p) ps

-- ---- the whole list

-- the root's outputs are counted from 0; it goes through the cells like every other node, last
abbrev pub close_root : Build → Open → List Open → Interned
close_root B o [] = intern B (record_of o 0)
close_root B o (p ∷ s) = go (close B p s)
  where
    go : Closed → Interned
    go c = intern c.build (record_of (with_arc o c.arc) 0)

abbrev pub close_all : State → Interned
close_all t = close_root t.build t.top t.below

-- no node yet, and the root open
abbrev pub start : List Cell → State
start cells = state_with (record { nodes = []; cells = cells }) (record { inp = 0; value = none; arcs = [] }) []

unfoldable pub pack_nodes : List Pair → ℕ → Interned
unfolding insert_all intern close
pack_nodes ps n = close_all (insert_all (start (replicate n empty_cell)) ps)

-- version 2, type 0, the nodes, the number of keys, the root
unfoldable pub file_of : ℕ → Interned → List ℕ
file_of count r = bytes_of 8 2 ++ (bytes_of 8 0 ++ (r.build.nodes ++ (bytes_of 8 count ++ bytes_of 8 r.addr)))

abbrev pub pack_file : List Pair → ℕ → List ℕ
pack_file ps n = file_of (length ps) (pack_nodes ps n)

abbrev pub pack_cells : List Pair → ℕ → List Cell
pack_cells ps n = (pack_nodes ps n).build.cells

-- ---- what packing answers, and what it leaves

pub data Answer : Type 0 where
  -- the file, and the cells as the run left them
  written : List ℕ → List Cell → Answer
  refused : Refusal → Answer

-- with room for so many bytes and n cells; tables says whether every working table has its size
abbrev pub placed : ℕ → Bool → ℕ → ℕ → List ℕ → List Cell → Answer
placed limit tables n room file cells =
    cond (tables && (leb 2 n && leb (length file) room)) (cond (leb (length file) limit) (written file cells) (refused LARGE)) (refused SPACE)

-- LIST, then SPACE, then LARGE
unfoldable pub pack_answer : ℕ → List ℕ → Bool → ℕ → ℕ → Answer
unfolding list_test pack_nodes file_of
pack_answer limit s tables n room =
    cond (list_test s) (placed limit tables n room (pack_file (pairs_of s) n) (pack_cells (pairs_of s) n)) (refused LIST)

-- the file and zeros beyond it; zeros after a refusal
abbrev pub output_after : Answer → ℕ → List ℕ
output_after (written file cells) room = file ++ replicate (room - length file) 0
output_after (refused k) room = replicate room 0

-- every cell is empty after a refusal
abbrev pub cells_after : Answer → ℕ → List Cell
cells_after (written file cells) n = cells
cells_after (refused k) n = replicate n empty_cell
