-- Two files of which the one has the other's nodes at other addresses (`Mirror`): a start and a call answer alike, and leave the same reading at the
-- new addresses.
--     find_there, at_there        a byte among transitions with their targets replaced
--     images_there                the nodes of a path stand in the other file
--     start-there                 a start
--     walk_there                  a call
-- Assumes nothing.
use Prim.{Unit, tt}
use Rattle.std.specs.Prelude.{◌≡◌, Bool, true, false, cond, ltb, leb, eqb, length, drop, get_or}
use Rattle.std.proofs.Math.Path.{refl}
use Rattle.std.proofs.Common.{sym, ap, ap₂, ◌∙◌, subst, arith, ltb-true, ne_eqb}
use Rattle.std.proofs.Math.Option.{Option, none, some}
use mathlib.Core.List.{List, [], ◌∷◌, ◌++◌, map}
use Prim.Native.Nat.{ℕ, zero, suc, ◌+◌, ◌-◌, ◌<◌, ◌≤◌}
use Rattle.std.proofs.Math.ListN.{length-map}
use Rattle.format.specs.declared.Transition.{Transition}
use Rattle.format.specs.Limits.{max_path, max_levels, max_sum}
use Rattle.format.specs.Node.{Node, Judgement, sound, unsound, Search, find_from, first_above, search_of, find_input, transition_at}
use Rattle.format.specs.Laws.TransitionLaws.{at_member, find_input_member}
use Rattle.format.specs.Opening.{Meta, opened, opening}
use Rattle.format.specs.Paths.{Fst, fst_of, node_in}
use Rattle.format.specs.Strings.{Bound}
use Rattle.reading.specs.Reading.{passes_test, bound_bytes, is_inclusive, Level, level_with, View, path_of, key_of, on_node, on_search, Sought, got, last_levels, seek, pending_at, Started, started, started_at, start, Answer, Step, refuse, moved, counted, Popped, top, used_up, bad, pop, next_trans, child, stepped, Went, found, passed, descend, after_descend, after_pop, walk}
use Rattle.reading.proofs.RunLaws.{target_live}
use Rattle.converting.specs.Mirror.{renamed, mirrored, Image, Mirror}
use Rattle.converting.specs.Laws.LayLaws.{get_d_map_lt}
use Rattle.carrying.specs.Carry.{carried_to}
use Rattle.carrying_own.specs.LevelsPath.{LedTo, from_root, by_byte, OnPath, LevelsPath}
use Rattle.carrying_own.specs.LevelsPathLaws.{PoppedPath, pop_path}
use Rattle.carrying_own.specs.Alike.{level_there, levels_there, view_there, Imaged, AllImaged}

-- ---- transitions with their targets replaced

module _ (ren : ℕ → ℕ) where
  find_from_there : (i : ℕ) (ts : List Transition) (b : ℕ) → find_from i (map (renamed ren) ts) b ≡ find_from i ts b
  unfolding find_from
  find_from_there i [] b = refl
  find_from_there i (t ∷ ts) b = rw (find_from_there (i + 1) ts b)

  first_above_there : (ts : List Transition) (b : ℕ) → first_above (map (renamed ren) ts) b ≡ first_above ts b
  unfolding first_above
  first_above_there [] b = refl
  first_above_there (t ∷ ts) b = rw (first_above_there ts b)

  pub find_there : (ts : List Transition) (b : ℕ) → find_input (map (renamed ren) ts) b ≡ find_input ts b
  find_there ts b = ap₂ search_of (find_from_there 0 ts b) (first_above_there ts b)

  pub at_there : (ts : List Transition) (p : ℕ) → p < length ts → transition_at (map (renamed ren) ts) p ≡ renamed ren (transition_at ts p)
  at_there [] p lt = absurd (omega arith)
  at_there (t ∷ ts) zero lt = refl
  at_there (t ∷ ts) (suc p) lt = at_there ts p (omega arith)

  -- ---- the key of levels at other addresses

  path_there : (s : List Level) → path_of (levels_there ren s) ≡ path_of s
  unfolding path_of
  path_there [] = refl
  path_there (l ∷ s) = rw (path_there s)

  pub key_there : (s : List Level) → key_of (levels_there ren s) ≡ key_of s
  key_there s = ap (drop 1) (path_there s)

module _ {f g : Fst} {ren : ℕ → ℕ} {On : ℕ → Type 0} (mirror : Mirror f g ren On) where
  -- ---- the nodes of a path

  pub on_there : (l : Level) (s : List Level) → LevelsPath f (l ∷ s) → On l.addr
  on_there l [] h = by h.0.led
    where
      by : LedTo f l [] → On l.addr
      by (from_root a o) = subst On (sym a) mirror.root_on
  on_there l (k ∷ s) h = by (on_there k s h.1) h.0.led
    where
      by : On k.addr → LedTo f l (k ∷ s) → On l.addr
      by on (by_byte n t e mem i a o) = subst On (sym a) (mirror.closed k.addr n t on e mem)

  -- the node at a is one node
  pub node_there : (a : ℕ) (m : Node) → On a → node_in f a ≡ sound m → (first : ℕ) × (node_in g (ren a) ≡ sound (mirrored ren first m))
  node_there a m on e =
      let i = mirror.image a on in
      let e' = i.judged in
      let same : i.node ≡ m = cc in
      (i.first, i.stands ∙ ap (λ (x : Node). sound (mirrored ren i.first x)) same)

  pub images_there : (s : List Level) → LevelsPath f s → AllImaged f g ren s
  images_there [] h = tt
  images_there (l ∷ s) h =
      let i = mirror.image l.addr (on_there l s h) in
      (record { old = i.node; new = mirrored ren i.first i.node; judged = i.judged; stands = i.stands; transitions_are = refl }, images_there s h.1)

  -- ---- start

  abbrev pub sought_there : Sought → Sought
  sought_there (got s) = got (levels_there ren s)
  sought_there (Sought.halted n) = Sought.halted n

  last_there : (inclusive : Bool) (l : Level) (s : List Level) → last_levels inclusive (level_there ren l) (levels_there ren s) ≡ levels_there ren (last_levels inclusive l s)
  last_there true l [] = refl
  last_there true l (k ∷ s) = refl
  last_there false l s = refl

  cond_there : (c : Bool) (x y x' y' : Sought) → x' ≡ sought_there x → y' ≡ sought_there y → cond c x' y' ≡ sought_there (cond c x y)
  cond_there true x y x' y' h k = h
  cond_there false x y x' y' h k = k

  pub seek_there : (inclusive : Bool) (lo : List ℕ) (a i sum : ℕ) (s : List Level) → On a
      → seek g inclusive (ren a) i sum (levels_there ren s) lo ≡ sought_there (seek f inclusive a i sum s lo)
  unfolding seek
  seek_there inclusive [] a i sum s on =
      let im = mirror.image a on in
      rw (im.judged, im.stands)
      (cond_there (leb sum max_sum) _ _ _ _ (ap got (last_there inclusive (level_with a i 0 sum) s)) refl)
  seek_there inclusive (b ∷ lo) a i sum s on =
      let im = mirror.image a on in
      rw (im.judged, im.stands)
      (cond_there (leb sum max_sum) _ _ _ _
      (rw (find_there ren im.node.transitions b) (by im.node im.judged (seek_there inclusive lo) (find_input im.node.transitions b) refl))
      refl)
    where
      by : (m : Node) → node_in f a ≡ sound m
          → ((a i sum : ℕ) (s : List Level) → On a → seek g inclusive (ren a) i sum (levels_there ren s) lo ≡ sought_there (seek f inclusive a i sum s lo))
          → (q : Search) → find_input m.transitions b ≡ q
          → on_search q
          (λ p. seek g inclusive (transition_at (map (renamed ren) m.transitions) p).addr b (sum + (transition_at (map (renamed ren) m.transitions) p).out)
          (level_with (ren a) i (p + 1) sum ∷ levels_there ren s) lo)
          (λ p. got (level_with (ren a) i p sum ∷ levels_there ren s))
          ≡ sought_there
          (on_search q
          (λ p. seek f inclusive (transition_at m.transitions p).addr b (sum + (transition_at m.transitions p).out) (level_with a i (p + 1) sum ∷ s) lo)
          (λ p. got (level_with a i p sum ∷ s)))
      by m e again (Search.at p) is =
          let q = find_input_member m.transitions b p is in
          rw (at_there ren m.transitions p q.0)
          (again (transition_at m.transitions p).addr b (sum + (transition_at m.transitions p).out) (level_with a i (p + 1) sum ∷ s)
          (mirror.closed a m (transition_at m.transitions p) on e (at_member m.transitions p q.0)))
      by m e again (Search.absent p) is = refl

  pub pending_there : (lo : Bound) → pending_at lo (node_in g g.root) ≡ pending_at lo (node_in f f.root)
  pending_there lo =
      let im = mirror.image f.root mirror.root_on in
      let stands : node_in g g.root ≡ sound (mirrored ren im.first im.node) = ap (node_in g) (sym mirror.root_is) ∙ im.stands in
      rw (stands, im.judged)

  -- ---- next

  data PopBoth : Popped → Popped → Type 0 where
    both_top : {l : Level} {m : Node} {s : List Level} (first : ℕ) → PopBoth (top l m s) (top (level_there ren l) (mirrored ren first m) (levels_there ren s))
    both_used_up : PopBoth used_up used_up
    both_bad : PopBoth bad bad

  pop_both : (c : Bool) (p q p' q' : Popped) → PopBoth p p' → PopBoth q q' → PopBoth (cond c p q) (cond c p' q')
  pop_both true p q p' q' h k = h
  pop_both false p q p' q' h k = k

  pop_there : (s : List Level) → LevelsPath f s → PopBoth (pop f s) (pop g (levels_there ren s))
  unfolding pop
  pop_there [] h = both_used_up
  pop_there (l ∷ s) h =
      let im = mirror.image l.addr (on_there l s h) in
      rw (im.judged, im.stands, length-map im.node.transitions (renamed ren))
      (pop_both (ltb l.trans (length im.node.transitions)) _ _ _ _ (both_top im.first) (pop_there s h.1))

  abbrev went_there : Went → Went
  went_there (found s v t) = found (levels_there ren s) v t
  went_there (passed t) = passed t
  went_there (Went.halted n) = Went.halted n

  went_cond : (c : Bool) (x y x' y' : Went) → x' ≡ went_there x → (c ≡ false → y' ≡ went_there y) → cond c x' y' ≡ went_there (cond c x y)
  went_cond true x y x' y' h k = h
  went_cond false x y x' y' h k = k refl

  descend_there : (hi : Bound) (room : ℕ) (l : Level) (m : Node) (first : ℕ) (s : List Level) (t : ℕ) → node_in f l.addr ≡ sound m
      → l.trans < length m.transitions → On l.addr
      → descend room g hi (level_there ren l) (mirrored ren first m) (levels_there ren s) t ≡ went_there (descend room f hi l m s t)
  unfolding descend
  descend_there hi zero l m first s t e lt on = refl
  descend_there hi (suc room) l m first s t e lt on =
      let mem = at_member m.transitions l.trans lt in
      let on' = mirror.closed l.addr m (next_trans l m) on e mem in
      let im = mirror.image (next_trans l m).addr on' in
      rw (at_there ren m.transitions l.trans lt, im.judged, im.stands, key_there ren (child l m ∷ stepped l ∷ s))
      (went_cond (leb (l.out + (next_trans l m).out) max_sum) _ _ _ _
      (went_cond (passes_test hi (key_of (child l m ∷ stepped l ∷ s))) _ _ _ _ refl
      (λ _.
      went_cond im.node.final _ _ _ _
      (went_cond (leb (l.out + (next_trans l m).out + im.node.final_output) max_sum) _ _ _ _ refl (λ _. refl))
      (λ nf.
      descend_there hi room (child l m) im.node im.first (stepped l ∷ s) (counted t) im.judged
      (target_live f l.addr m (next_trans l m) e mem im.node im.judged nf) on')))
      (λ _. refl))

  -- a call's answer, and the reading after it at the new addresses
  abbrev pub step_there : ℕ → Step → Step
  step_there n o = record { answer = o.answer; reading = view_there ren n o.reading }

  descended_there : (n : ℕ) (r : View) (w : Went) → after_descend (view_there ren n r) (went_there w) ≡ step_there n (after_descend r w)
  descended_there n r (found s v t) = rw (key_there ren s)
  descended_there n r (passed t) = refl
  descended_there n r (Went.halted c) = refl

  popped_there : (n : ℕ) (r : View) (p p' : Popped) → PopBoth p p' → PoppedPath f max_levels p → after_pop g (view_there ren n r) p' ≡ step_there n (after_pop f r p)
  popped_there n r p p' (both_top {l} {m} {s} first) h =
      rw (length-map s (level_there ren))
      (ap (after_descend (view_there ren n r)) (descend_there r.bound (max_path - length s) l m first s r.total h.0 h.1 (on_there l s h.2))
      ∙ descended_there n r (descend (max_path - length s) f r.bound l m s r.total))
  popped_there n r p p' both_used_up h = refl
  popped_there n r p p' both_bad h = refl

  pub walk_there : (n : ℕ) (r : View) → length r.levels ≤ max_levels → LevelsPath f r.levels → (e : Option ℕ)
      → walk g (view_there ren n r) e ≡ step_there n (walk f r e)
  walk_there n r le h (some v) = pending (passes_test r.bound [])
    where
      pending : (c : Bool)
          → cond c (record { answer = Answer.end; reading = moved (view_there ren n r) [] r.total })
          (record { answer = Answer.key [] v; reading = moved (view_there ren n r) (levels_there ren r.levels) r.total })
          ≡ step_there n
          (cond c (record { answer = Answer.end; reading = moved r [] r.total }) (record { answer = Answer.key [] v; reading = moved r r.levels r.total }))
      pending true = refl
      pending false = refl
  walk_there n r le h none =
      popped_there n r (pop f r.levels) (pop g (levels_there ren r.levels)) (pop_there r.levels h) (pop_path f max_levels r.levels le h)
