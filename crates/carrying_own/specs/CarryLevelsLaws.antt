-- Carrying the levels of a path whose nodes stand in the other file gives the same levels at the new addresses.
--     carry_levels_lem        level by level
--     carry_there         a reading that a start and calls on the old file gave
-- Assumes nothing.
use Prim.{Unit, tt}
use Rattle.std.specs.Prelude.{◌≡◌, Bool, true, ℕ, ◌+◌, length}
use Rattle.std.proofs.Math.Path.{refl, ap}
use Rattle.std.proofs.Common.{sym, ◌∙◌, subst}
use mathlib.Core.List.{List, [], ◌∷◌, map, Memᴰ}
use borrow.Author.Tests.{eq-eqb}
use Rattle.std.proofs.lemmas.List.{length-map}
use Rattle.format.specs.declared.Transition.{Transition}
use Rattle.format.specs.Node.{Node, sound, Search, find_input, transition_at}
use Rattle.format.specs.Laws.NodeFacts.{find_some}
use Rattle.format.specs.Opening.{Meta, opened, opening}
use Rattle.format.specs.Paths.{Fst, fst_of, node_in}
use Rattle.reading.specs.Reading.{Level, View}
use Rattle.converting.specs.Mirror.{renamed}
use Rattle.converting.specs.Laws.MirrorLaws.{mem_map}
use Rattle.carrying.specs.Carry.{Carrying, over, carry_level, carry_levels, Carried, carried, carried_to, after_levels, carry_with}
use Rattle.carrying_own.specs.LevelsPath.{LedTo, from_root, by_byte, OnPath, LevelsPath, Own}
use Rattle.carrying_own.specs.LevelsPathLaws.{state_own}
use Rattle.carrying_own.specs.Alike.{level_there, levels_there, view_there, Imaged, AllImaged}

module _ (f g : Fst) (ren : ℕ → ℕ) (root_is : ren f.root ≡ g.root) where
  -- what the walk stands at after the level l
  record Over (l : Level) (s : List Level) : Type 0 where
    new : Node
    is : carry_levels f g (l ∷ s) ≡ over (level_there ren l) (levels_there ren s) new
    stands : node_in g (ren l.addr) ≡ sound new

  -- a transition of the node below, in the other file
  there_by : (k : Level) (n : Node) (t : Transition) → Imaged f g ren k → node_in f k.addr ≡ sound n → Memᴰ t n.transitions → (new : Node)
      → node_in g (ren k.addr) ≡ sound new → Memᴰ (renamed ren t) new.transitions
  there_by k n t im e mem new stands =
      let e' = im.judged in
      let s' = im.stands in
      let old_is : n ≡ im.old = cc in
      let new_is : new ≡ im.new = cc in
      let are : new.transitions ≡ map (renamed ren) n.transitions =
      ap (λ (x : Node). x.transitions) new_is ∙ im.transitions_are ∙ ap (λ (x : Node). map (renamed ren) x.transitions) (sym old_is) in
      subst (λ (ts : List Transition). Memᴰ (renamed ren t) ts) (sym are) (mem_map (renamed ren) mem)

  counts_same : (l : Level) (im : Imaged f g ren l) → length im.new.transitions ≡ length im.old.transitions
  counts_same l im = ap length im.transitions_are ∙ length-map im.old.transitions (renamed ren)

  carry_levels_lem : (l : Level) (s : List Level) → LevelsPath f (l ∷ s) → AllImaged f g ren (l ∷ s) → Over l s
  unfolding carry_levels
  carry_levels_lem l [] h im = first h.0.led
    where
      first : LedTo f l [] → Over l []
      first (from_root a o) =
          let at : ren l.addr ≡ g.root = ap ren a ∙ root_is in
          let stands : node_in g g.root ≡ sound im.0.new = ap (node_in g) (sym at) ∙ im.0.stands in
          record {
            new = im.0.new;
            is = rw (im.0.judged, stands, eq-eqb (length im.0.new.transitions) (length im.0.old.transitions) (counts_same l im.0), eq-eqb 0 l.out (sym o), at);
            stands = im.0.stands;
          }
  carry_levels_lem l (k ∷ s) h im = more h.0.led (carry_levels_lem k s h.1 im.1)
    where
      more : LedTo f l (k ∷ s) → Over k s → Over l (k ∷ s)
      more (by_byte n t e mem i a o) below =
          let found = find_some g (ren k.addr) below.new below.stands l.inp (renamed ren t) (there_by k n t im.1.0 e mem below.new below.stands) (sym i) in
          let at : ren t.addr ≡ ren l.addr = ap ren (sym a) in
          let stands : node_in g (ren t.addr) ≡ sound im.0.new = ap (node_in g) at ∙ im.0.stands in
          record {
            new = im.0.new;
            is =
                ap (carry_level f g l) below.is
                ∙ rw (im.0.judged, found.2, found.3, stands, eq-eqb (length im.0.new.transitions) (length im.0.old.transitions) (counts_same l im.0), eq-eqb (k.out + t.out) l.out (sym o), at);
            stands = im.0.stands;
          }

module _ (s s' : List ℕ) (m m' : Meta) (opens : opening s ≡ opened m) (opens' : opening s' ≡ opened m') (ren : ℕ → ℕ) (root_is : ren m.root ≡ m'.root) where
  levels_there_lem : (r : View) → (ls : List Level) → LevelsPath (fst_of s m) ls → AllImaged (fst_of s m) (fst_of s' m') ren ls
      → after_levels (length s') r (carry_levels (fst_of s m) (fst_of s' m') ls) ≡ carried (carried_to (length s') r (levels_there ren ls))
  unfolding carry_levels
  levels_there_lem r [] h im = refl
  levels_there_lem r (l ∷ ls) h im = ap (after_levels (length s') r) (carry_levels_lem (fst_of s m) (fst_of s' m') ren root_is l ls h im).is

  pub carry_there : (fits : Bool) → fits ≡ true → (r : View) → Own s m r → AllImaged (fst_of s m) (fst_of s' m') ren r.levels
      → carry_with fits s s' r ≡ carried (view_there ren (length s') r)
  unfolding carry_with
  carry_there fits short r o im = rw (opens, opens', state_own s m opens r o, short) (levels_there_lem r r.levels o.path im)
