-- A version 1 file brought to version 2 (document 02, N7; docs/FORMAT.md, "Conversion"), over the chain of an admitted file.
--     vanishes j             the node judged j is final, without transitions and with output 0: it becomes address 0
--     Moved, new_addr         an old address with its new one; the new address of an old one
--     record_by ren m         the record of the node m, with its targets replaced by ren; record_of ms m by new addresses
--     Laid, lay_out f l       the nodes of the chain l of f (root first), packed from the lowest on, and where each went
--     laid A                 the same of an admitted file: no node where its root vanishes
--     moved_to A a            the new address of a
--     converted A            the new file
--     table_of A              the table of new addresses, an entry for each byte of the old file
--     Conversion, conversion limit A room entries    what converting answers into an output of room bytes and a table of so many entries
-- Assumes nothing.
use Rattle.std.specs.Prelude.{Bool, false, cond, ◌&&◌, List, [], ◌∷◌, ◌++◌, map, ℕ, ◌+◌, eqb, ltb, leb, length, take, drop}
use Rattle.format.specs.declared.Refusal.{Refusal}
use Rattle.format.specs.declared.Transition.{Transition}
use Rattle.format.specs.Limits.{LARGE, SPACE, EDITION}
use Rattle.format.specs.Bytes.{bytes_of}
use Rattle.format.specs.Node.{Node, Judgement, sound, unsound}
use Rattle.format.specs.Packed.{BuilderNode, packed, up_from}
use Rattle.format.specs.Paths.{Fst, fst_of, node_in}
use Rattle.format.specs.Admitted.{Admitted}

-- ---- new addresses

abbrev pub vanishes : Judgement → Bool
vanishes (sound m) = m.final && (eqb (length m.transitions) 0 && eqb m.final_output 0)
vanishes unsound = false

pub record Moved : Type 0 where
  pub from : ℕ
  pub to : ℕ

-- an address that went nowhere, as address 0, is 0
unfoldable pub new_addr : List Moved → ℕ → ℕ
new_addr [] a = 0
new_addr (x ∷ xs) a = cond (eqb x.from a) x.to (new_addr xs a)

abbrev pub record_by : (ℕ → ℕ) → Node → BuilderNode
record_by ren m = record {
  final = m.final;
  final_output = m.final_output;
  inputs = map (λ (t : Transition). t.inp) m.transitions;
  outputs = map (λ (t : Transition). t.out) m.transitions;
  targets = map (λ (t : Transition). ren t.addr) m.transitions;
}

abbrev pub record_of : List Moved → Node → BuilderNode
record_of ms m = record_by (new_addr ms) m

-- ---- the layout

-- the new nodes from 16 on, and where each went
pub record Laid : Type 0 where
  pub nodes : List ℕ
  pub moved : List Moved

-- a node's bytes at the next free place; its address is that of its last byte
abbrev pub laid_at : Laid → ℕ → List ℕ → Laid
laid_at r a bytes = record { nodes = r.nodes ++ bytes; moved = record { from = a; to = 15 + length (r.nodes ++ bytes) } ∷ r.moved }

abbrev pub lay_node : Laid → ℕ → Judgement → Laid
lay_node r a (sound m) =
    cond (vanishes (sound m))
    (record { nodes = r.nodes; moved = record { from = a; to = 0 } ∷ r.moved })
    (laid_at r a (packed (16 + length r.nodes) (record_of r.moved m)))
lay_node r a unsound = r

-- a chain is listed from the root down; its lowest node is packed first
unfoldable pub lay_out : Fst → List ℕ → Laid
unfolding new_addr
lay_out f [] = record { nodes = []; moved = [] }
lay_out f (a ∷ l) = lay_node (lay_out f l) a (node_in f a)

-- where the root vanishes, no node is written
abbrev pub chain_of : Fst → List ℕ → List ℕ
chain_of f l = cond (vanishes (node_in f f.root)) [] l

-- ---- an admitted file

abbrev pub laid : {s : List ℕ} → Admitted s → Laid
laid {s} A = lay_out (fst_of s A.meta) (chain_of (fst_of s A.meta) A.nodes)

abbrev pub moved_to : {s : List ℕ} → Admitted s → ℕ → ℕ
moved_to A a = new_addr (laid A).moved a

-- version 2, the type, the nodes, the count, the root
unfoldable pub converted : {s : List ℕ} → Admitted s → List ℕ
unfolding lay_out
converted {s} A = bytes_of 8 2 ++ (take 8 (drop 8 s) ++ ((laid A).nodes ++ (bytes_of 8 A.meta.len ++ bytes_of 8 (moved_to A A.meta.root))))

-- each node's new address at its old one, elsewhere 0
unfoldable pub table_of : {s : List ℕ} → Admitted s → List ℕ
unfolding lay_out new_addr up_from
table_of {s} A = up_from (moved_to A) 0 (length s)

-- ---- what converting answers

pub data Conversion : Type 0 where
  -- the new file and the table
  written : List ℕ → List ℕ → Conversion
  refused : Refusal → Conversion

-- SPACE where the output has less room than the file, or the table fewer than n entries
abbrev pub placing : List ℕ → List ℕ → ℕ → ℕ → ℕ → Conversion
placing file table n room entries = cond (leb (length file) room && leb n entries) (written file table) (refused SPACE)

-- EDITION, then LARGE where the new file passes the limit, then SPACE
unfoldable pub conversion : ℕ → {s : List ℕ} → Admitted s → ℕ → ℕ → Conversion
unfolding converted table_of
conversion limit {s} A room entries =
    cond (eqb A.meta.version 1)
    (cond (ltb limit (length (converted A))) (refused LARGE) (placing (converted A) (table_of A) (length s) room entries))
    (refused EDITION)
