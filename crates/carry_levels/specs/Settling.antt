-- What the parts of carrying a reading's levels answer, against `carry_levels` (crate carrying).
--     settled_is new l s r          what an answer stands for, the level being l over the carried levels s
--     Legible new r                a node that it hands out can be read
--     Settles, FirstCarried, LevelCarried      a level at an address; the first one; one over another
--     WalkedTo .. k .. below       the first k levels are carried, their new addresses in ys, the highest one's new node is below
--     LevelsCarried .. r           all levels are carried, or why not
-- Their numbers: v and root are the new file's version and the address of its root; a is the level's address, n its old node's count of transitions,
-- inp and out the byte that led to it and its running value, sum the running value of the level below.
-- Next places carry no meaning here: they stay as they are, whatever they are.
-- Assumes nothing.
use Rattle.std.specs.Prelude.{◌≡◌, Bool, List, [], ◌∷◌, ℕ, ◌-◌, eqb, length, Ok, Err, Result, ⊤}
use Rattle.format.specs.declared.Refusal.{Refusal}
use Rattle.format.specs.Node as F
use Rattle.format.specs.Paths.{Fst, fst_with}
use Rattle.node.specs.declared.Node.{Node}
use Rattle.node.specs.Read.{meaning, Readable}
use Rattle.reading.specs.Reading.{Level, View, level_with}
use Rattle.stream_start.specs.Views.{level_at, stack_is}
use Rattle.carrying.specs.Carry as C
use Rattle.carrying.specs.Carry.{Carrying, none_yet, over, carry_level, carry_levels, Carried, carried, refused, carried_to, after_levels}

abbrev pub settled_is : List ℕ → Level → List Level → Result (ℕ × Node) Refusal → Carrying
settled_is new l s (Ok (a, m)) = over (C.level_at a l) s (meaning new m)
settled_is new l s (Err c) = C.Carrying.halted c

abbrev pub Legible : List ℕ → Result (ℕ × Node) Refusal → Type 0
Legible new r = (a : ℕ) (m : Node) → r ≡ Ok (a, m) → Readable new m

-- for every level whose running value is the same as the sum or not, over any levels
pub record Settles (new : List ℕ) (v root a n : ℕ) (same : Bool) (r : Result (ℕ × Node) Refusal) : Type 0 where
  pub settled : (l : Level) (m : F.Node) (sum : ℕ) (s : List Level) → length m.transitions ≡ n → eqb sum l.out ≡ same
      → settled_is new l s r ≡ C.settle (fst_with new v root) l m a sum s
  pub legible : Legible new r

pub record FirstCarried (old : Fst) (new : List ℕ) (v root a out : ℕ) (r : Result (ℕ × Node) Refusal) : Type 0 where
  pub settled : (inp p : ℕ) → settled_is new (level_with a inp p out) [] r ≡ carry_level old (fst_with new v root) (level_with a inp p out) none_yet
  pub legible : Legible new r

pub record LevelCarried (old : Fst) (new : List ℕ) (v root a inp out : ℕ) (below : Node) (sum : ℕ) (r : Result (ℕ × Node) Refusal) : Type 0 where
  pub settled : (p : ℕ) (k : Level) (s : List Level) → k.out ≡ sum
      → settled_is new (level_with a inp p out) (k ∷ s) r ≡ carry_level old (fst_with new v root) (level_with a inp p out) (over k s (meaning new below))
  pub legible : Legible new r

pub record WalkedTo (old : Fst) (new : List ℕ) (v root k : ℕ) (xs is os ys : List ℕ) (below : Node) : Type 0 where
  pub carried : (ps : List ℕ) → carry_levels old (fst_with new v root) (stack_is k xs is ps os)
      ≡ over (level_at (k - 1) ys is ps os) (stack_is (k - 1) ys is ps os) (meaning new below)
  pub legible : Readable new below

-- what a reading then is
abbrev pub carried_as : ℕ → View → List Level → Result ⊤ Refusal → Carried
carried_as n r s (Ok tt) = carried (carried_to n r s)
carried_as n r s (Err c) = refused c

pub record LevelsCarried (old new : Fst) (levels : ℕ) (xs is os ys : List ℕ) (r : Result ⊤ Refusal) : Type 0 where
  pub carries : (ps : List ℕ) (n : ℕ) (v : View) → carried_as n v (stack_is levels ys is ps os) r ≡ after_levels n v (carry_levels old new (stack_is levels xs is ps os))
