-- Held keys (document 01, "A reading": the words of demand 3; docs/FORMAT.md, "Keys").
--     Fst, fst_with, fst_of    a file's bytes with its version and its root
--     node_in f a           the node at the address a of f, where it is sound
--     Path f a k sum b     the transitions with the inputs k lead from a to b, through sound nodes; their outputs add up to sum
--     Reached f a          a path from the root leads to the address a; the root is reached
--     Held f k v           the key k is held, with the value v (document 01's word)
--     HeldFrom f a k v     the key k leads from a to a final node, with the value v; Held is HeldFrom the root
--     KeyFrom f a k        the same with some value
-- Assumes nothing.
use Rattle.std.specs.Prelude.{◌≡◌, Bool, true, false, ℕ, ◌+◌}
use mathlib.Core.List.{List, [], ◌∷◌, Memᴰ}
use Rattle.format.specs.declared.Transition.{Transition}
use Rattle.format.specs.Node.{Node, Judgement, sound, unsound, node_at}
use Rattle.format.specs.Opening.{Meta}

pub record Fst : Type 0 where
  pub bytes : List ℕ
  pub version : ℕ
  pub root : ℕ

abbrev pub fst_with : List ℕ → ℕ → ℕ → Fst
fst_with s v root = record { bytes = s; version = v; root = root }

-- as opening reads it
abbrev pub fst_of : List ℕ → Meta → Fst
fst_of s m = fst_with s m.version m.root

abbrev pub node_in : Fst → ℕ → Judgement
node_in f a = node_at f.bytes f.version f.root a

-- no transition, or a transition of a sound node and then a path
pub data Path (f : Fst) : ℕ → List ℕ → ℕ → ℕ → Type 0 where
  here : {a : ℕ} → Path f a [] 0 a
  follow : {a : ℕ} {k : List ℕ} {sum b : ℕ} (m : Node) (t : Transition) → node_in f a ≡ sound m → Memᴰ t m.transitions → Path f t.addr k sum b
      → Path f a (t.inp ∷ k) (t.out + sum) b

pub record Reached (f : Fst) (a : ℕ) : Type 0 where
  pub key : List ℕ
  pub sum : ℕ
  pub path : Path f f.root key sum a

-- a path from the root to a final node; the value is the sum of its outputs plus that node's final output
pub record Held (f : Fst) (k : List ℕ) (v : ℕ) : Type 0 where
  pub sum : ℕ
  pub to : ℕ
  pub last : Node
  pub path : Path f f.root k sum to
  pub ends : node_in f to ≡ sound last
  pub final : last.final ≡ true
  pub value : v ≡ sum + last.final_output

-- the same from any node
pub record HeldFrom (f : Fst) (a : ℕ) (k : List ℕ) (v : ℕ) : Type 0 where
  pub sum : ℕ
  pub to : ℕ
  pub last : Node
  pub path : Path f a k sum to
  pub ends : node_in f to ≡ sound last
  pub final : last.final ≡ true
  pub value : v ≡ sum + last.final_output

-- with some value
abbrev pub KeyFrom : Fst → ℕ → List ℕ → Type 0
KeyFrom f a k = (v : ℕ) × HeldFrom f a k v
