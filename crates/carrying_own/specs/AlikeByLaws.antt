-- Calls by pattern, on a file and on another that mirrors it: the levels stay a path, and a call answers alike (document 02, N1 and N8).
--     start_by_start                    a start by a pattern of at most 255 positions is a start
--     walk_by_path, call_by_own         the levels after a call by pattern; a reading stays its file's own
--     walk_by_there, pending_by_there   the walk and the call on both files
-- Assumes nothing.
use Prim.{Unit, tt}
use Rattle.std.specs.Prelude.{◌≡◌, refl, Bool, true, cond, ◌&&◌, ℕ, zero, suc, ◌+◌, ◌<◌, ◌≤◌, ltb, leb}
use Rattle.std.proofs.Common.{sym, ◌∙◌, subst, arith}
use Rattle.std.proofs.Math.Path.{ap}
use Rattle.std.proofs.Math.Bool.{false}
use Rattle.std.proofs.Math.Option.{Option, none, some}
use Rattle.std.proofs.Math.Logic.{⊎_elim}
use mathlib.Core.List.{List, [], ◌∷◌, map}
use borrow.Author.Tests.{ltb-true, le-leb, lt-leb}
use Rattle.std.proofs.Math.ListN.{length}
use Rattle.std.proofs.lemmas.List.{length-map}
use Rattle.std.proofs.lemmas.Bool.{and_parts}
use Rattle.format.specs.declared.Refusal.{Refusal}
use Rattle.format.specs.Limits.{max_path, max_levels, max_sum, SPACE, STATE}
use Rattle.format.specs.Node.{Node, sound}
use Rattle.format.specs.Laws.TransitionLaws.{at_member}
use Rattle.format.specs.Opening.{Meta, Opening, opened, opening}
use Rattle.format.specs.Opening as Opening
use Rattle.format.specs.Paths.{Fst, fst_of, node_in}
use Rattle.format.specs.Strings.{Bound}
use Rattle.reading.specs.Reading.{passes_test, Level, View, key_of, on_node, start, Answer, key, end, Step, refuse, moved, counted, next_trans, child, stepped, state_test}
use Rattle.reading.specs.Visits.{left}
use Rattle.reading.proofs.LeftLaws.{left_pop, left_follow}
use Rattle.reading.proofs.RunLaws.{lt_or}
use Rattle.reading.specs.Demand.{Call, Allowed}
use Rattle.pattern.specs.Pattern.{Pattern, start_test, fits_test, WentBy, found, ended, halted, turn_by, walk_by, after_walk, pending_by, next_by, start_by}
use Rattle.pattern.specs.PatternDemand.{call_by, reading_after_by}
use Rattle.pattern.proofs.WalkLaws.{walk_by_lem}
use Rattle.converting.specs.Mirror.{renamed, Mirror}
use Rattle.carrying_own.specs.LevelsPath.{LevelsPath, Own}
use Rattle.carrying_own.specs.LevelsPathLaws.{on_node_lem, on_cond, step_path, file_same, allowed_or, state_own, state_other, moved_own}
use Rattle.carrying_own.specs.Alike.{level_there, levels_there, view_there}
use Rattle.carrying_own.specs.AlikeLaws.{at_there, key_there, on_there, step_there}

-- ---- the levels stay a path

module _ (f : Fst) (p : Pattern) (hi : Bound) where
  abbrev pub WentByPath : WentBy → Type 0
  WentByPath (found s v t) = LevelsPath f s × (length s ≤ max_levels)
  WentByPath (ended t) = Unit {0}
  WentByPath (halted n) = Unit {0}

  turn_path : (again : List Level → ℕ → WentBy) (s : List Level) (t : ℕ)
      → ((s' : List Level) (t' : ℕ) → left f s' < left f s → LevelsPath f s' → length s' ≤ max_levels → WentByPath (again s' t'))
      → LevelsPath f s → length s ≤ max_levels → WentByPath (turn_by f p hi again s t)
  turn_path again [] t more h le = tt
  turn_path again (l ∷ s) t more h le =
      on_node_lem WentByPath (node_in f l.addr) _ _
      (λ m e.
      on_cond WentByPath (ltb l.trans (length m.transitions) && start_test p.positions p.rest (key_of (l ∷ s))) _ _
      (λ live.
      let lt = ltb-true l.trans (length m.transitions) (and_parts (ltb l.trans (length m.transitions)) (start_test p.positions p.rest (key_of (l ∷ s))) live).0 in
      on_cond WentByPath (ltb (length s) max_path) _ _
      (λ low.
      let room = ltb-true (length s) max_path low in
      on_cond WentByPath (leb (l.out + (next_trans l m).out) max_sum) _ _
      (λ _.
      on_node_lem WentByPath (node_in f (next_trans l m).addr) _ _
      (λ n en.
      let on = step_path f l m n s e lt en h in
      on_cond WentByPath (passes_test hi (key_of (child l m ∷ stepped l ∷ s))) _ _ (λ _. tt)
      (λ _.
      on_cond WentByPath (n.final && fits_test p.positions p.rest (key_of (child l m ∷ stepped l ∷ s))) _ _
      (λ _. on_cond WentByPath (leb (l.out + (next_trans l m).out + n.final_output) max_sum) _ _ (λ _. (on, omega arith)) (λ _. tt))
      (λ _. more (child l m ∷ stepped l ∷ s) (counted t) (left_follow f l m s room e lt) on (omega arith))))
      tt)
      (λ _. tt))
      (λ _. tt))
      (λ _. more s t (left_pop f l s) h.1 (omega arith)))
      tt

  walk_path_in : (n : ℕ) (s : List Level) (t : ℕ) → left f s < n → LevelsPath f s → length s ≤ max_levels → WentByPath (walk_by f p hi s t)
  walk_path_in zero s t lt h le = absurd (omega arith)
  walk_path_in (suc n) s t lt h le =
      subst WentByPath (sym (walk_by_lem f p hi s t))
      (turn_path (walk_by f p hi) s t (λ s' t' less h' le'. walk_path_in n s' t' (omega arith) h' le') h le)

  pub walk_by_path : (s : List Level) (t : ℕ) → LevelsPath f s → length s ≤ max_levels → WentByPath (walk_by f p hi s t)
  walk_by_path s t h le = walk_path_in (suc (left f s)) s t (omega arith) h le

-- ---- a reading stays its file's own

module _ (s : List ℕ) (m : Meta) (opens : opening s ≡ opened m) (p : Pattern) (short : leb (length p.positions) max_path ≡ true) where
  pub start_by_start : (lo hi : Bound) → start_by s p lo hi ≡ start s lo hi
  unfolding start_by
  start_by_start lo hi = rw (opens, short)

  abbrev OwnStep : Step → Type 0
  OwnStep o = Own s m o.reading

  walked_own : (r : View) → Own s m r → (w : WentBy) → WentByPath (fst_of s m) p r.bound w → OwnStep (after_walk r w)
  walked_own r o (found ls v t) h = moved_own s m opens r o ls t h.0 h.1
  walked_own r o (ended t) h = moved_own s m opens r o [] t tt (omega arith)
  walked_own r o (halted n) h = o

  on_walk : (r : View) → Own s m r → OwnStep (after_walk r (walk_by (fst_of s m) p r.bound r.levels r.total))
  on_walk r o =
      walked_own r o (walk_by (fst_of s m) p r.bound r.levels r.total)
      (walk_by_path (fst_of s m) p r.bound r.levels r.total o.path o.levels_le)

  pending_own : (r : View) → Own s m r → (e : Option ℕ) → OwnStep (pending_by (fst_of s m) p r e)
  pending_own r o (some v) =
      on_cond OwnStep (passes_test r.bound []) _ _ (λ _. moved_own s m opens r o [] r.total tt (omega arith))
      (λ _.
      on_cond OwnStep (fits_test p.positions p.rest []) _ _ (λ _. moved_own s m opens r o r.levels r.total o.path o.levels_le) (λ _. on_walk r o))
  pending_own r o none = on_walk r o

  pub call_by_walks : (r : View) → Own s m r → (c : Call s) → Allowed c → call_by p r c ≡ pending_by (fst_of s m) p r r.empty
  unfolding next_by
  call_by_walks r o c h =
      ap (λ (file : List ℕ). next_by file p r c.space) (file_same c h) ∙ rw (opens, state_own s m opens r o, short, le-leb max_path c.space h.room)

  pub call_by_refused : (r : View) → Own s m r → (c : Call s) → ¬ Allowed c → (n : Refusal) × (call_by p r c ≡ refuse r n)
  unfolding next_by
  call_by_refused r o c out =
      ⊎_elim
      (λ (same : c.file ≡ s).
      ⊎_elim
      (λ (lt : c.space < max_path). (
        SPACE,
        ap (λ (file : List ℕ). next_by file p r c.space) same ∙ rw (opens, state_own s m opens r o, short, lt-leb max_path c.space lt),
      ))
      (λ (ge : max_path ≤ c.space). absurd (out (record { same = ap length same; room = ge })))
      (lt_or c.space max_path))
      (λ ne. by c.file (state_other s m opens r o c.file ne) (opening c.file) refl)
      c.which
    where
      by : (other : List ℕ) → state_test r (length other) ≡ false → (q : Opening) → opening other ≡ q → (n : Refusal) × (next_by other p r c.space ≡ refuse r n)
      by other wrong (opened m') q = (STATE, rw (q, wrong))
      by other wrong (Opening.refused n) q = (n, rw q)

  pub call_by_own : (r : View) → Own s m r → (c : Call s) → Own s m (call_by p r c).reading
  call_by_own r o c =
      ⊎_elim (λ (h : Allowed c). subst OwnStep (sym (call_by_walks r o c h)) (pending_own r o r.empty))
      (λ (out : ¬ Allowed c). subst OwnStep (sym (call_by_refused r o c out).1) o) (allowed_or c)

  pub calls_by_own : (cs : List (Call s)) (r : View) → Own s m r → Own s m (reading_after_by p r cs)
  calls_by_own [] r o = o
  calls_by_own (c ∷ cs) r o = calls_by_own cs (call_by p r c).reading (call_by_own r o c)

-- ---- on both files

module _ {f g : Fst} {ren : ℕ → ℕ} {On : ℕ → Type 0} (mirror : Mirror f g ren On) (p : Pattern) (hi : Bound) where
  abbrev went_by_there : WentBy → WentBy
  went_by_there (found s v t) = found (levels_there ren s) v t
  went_by_there (ended t) = ended t
  went_by_there (halted n) = halted n

  by_cond : (c : Bool) (x y x' y' : WentBy) → (c ≡ true → x' ≡ went_by_there x) → y' ≡ went_by_there y → cond c x' y' ≡ went_by_there (cond c x y)
  by_cond true x y x' y' h k = h refl
  by_cond false x y x' y' h k = k

  turn_there : (again again' : List Level → ℕ → WentBy) (s : List Level) (t : ℕ)
      → ((s' : List Level) (t' : ℕ) → left f s' < left f s → LevelsPath f s' → again' (levels_there ren s') t' ≡ went_by_there (again s' t'))
      → LevelsPath f s → turn_by g p hi again' (levels_there ren s) t ≡ went_by_there (turn_by f p hi again s t)
  turn_there again again' [] t more h = refl
  turn_there again again' (l ∷ s) t more h =
      let on = on_there mirror l s h in
      let im = mirror.image l.addr on in
      let m : Node = im.node in
      rw (im.judged, im.stands, length-map im.node.transitions (renamed ren), key_there ren (l ∷ s), length-map s (level_there ren))
      (by_cond (ltb l.trans (length m.transitions) && start_test p.positions p.rest (key_of (l ∷ s))) _ _ _ _
      (λ live.
      let lt = ltb-true l.trans (length m.transitions) (and_parts (ltb l.trans (length m.transitions)) (start_test p.positions p.rest (key_of (l ∷ s))) live).0 in
      let on' = mirror.closed l.addr m (next_trans l m) on im.judged (at_member m.transitions l.trans lt) in
      let to = mirror.image (next_trans l m).addr on' in
      by_cond (ltb (length s) max_path) _ _ _ _
      (λ low.
      rw (at_there ren m.transitions l.trans lt, to.judged, to.stands, key_there ren (child l m ∷ stepped l ∷ s))
      (by_cond (leb (l.out + (next_trans l m).out) max_sum) _ _ _ _
      (λ _.
      by_cond (passes_test hi (key_of (child l m ∷ stepped l ∷ s))) _ _ _ _ (λ _. refl)
      (by_cond (to.node.final && fits_test p.positions p.rest (key_of (child l m ∷ stepped l ∷ s))) _ _ _ _
      (λ _. by_cond (leb (l.out + (next_trans l m).out + to.node.final_output) max_sum) _ _ _ _ (λ _. refl) refl)
      (more (child l m ∷ stepped l ∷ s) (counted t) (left_follow f l m s (ltb-true (length s) max_path low) im.judged lt)
      (step_path f l m to.node s im.judged lt to.judged h))))
      refl))
      refl)
      (more s t (left_pop f l s) h.1))

  walk_in_there : (n : ℕ) (s : List Level) (t : ℕ) → left f s < n → LevelsPath f s → walk_by g p hi (levels_there ren s) t ≡ went_by_there (walk_by f p hi s t)
  walk_in_there zero s t lt h = absurd (omega arith)
  walk_in_there (suc n) s t lt h =
      walk_by_lem g p hi (levels_there ren s) t
      ∙ turn_there (walk_by f p hi) (walk_by g p hi) s t (λ s' t' less h'. walk_in_there n s' t' (omega arith) h') h ∙ ap went_by_there (sym (walk_by_lem f p hi s t))

  pub walk_by_there : (s : List Level) (t : ℕ) → LevelsPath f s → walk_by g p hi (levels_there ren s) t ≡ went_by_there (walk_by f p hi s t)
  walk_by_there s t h = walk_in_there (suc (left f s)) s t (omega arith) h

module _ {f g : Fst} {ren : ℕ → ℕ} {On : ℕ → Type 0} (mirror : Mirror f g ren On) (p : Pattern) (n : ℕ) (r : View) (h : LevelsPath f r.levels) where
  abbrev step_of : Step → Step
  step_of o = step_there mirror n o

  walked_there : (w : WentBy) → after_walk (view_there ren n r) (went_by_there mirror p r.bound w) ≡ step_of (after_walk r w)
  walked_there (found s v t) = rw (key_there ren s)
  walked_there (ended t) = refl
  walked_there (halted c) = refl

  walks_there : after_walk (view_there ren n r) (walk_by g p r.bound (levels_there ren r.levels) r.total)
      ≡ step_of (after_walk r (walk_by f p r.bound r.levels r.total))
  walks_there =
      ap (after_walk (view_there ren n r)) (walk_by_there mirror p r.bound r.levels r.total h) ∙ walked_there (walk_by f p r.bound r.levels r.total)

  step_cond : (c : Bool) (x y x' y' : Step) → x' ≡ step_of x → y' ≡ step_of y → cond c x' y' ≡ step_of (cond c x y)
  step_cond true x y x' y' a b = a
  step_cond false x y x' y' a b = b

  pub pending_by_there : (e : Option ℕ) → pending_by g p (view_there ren n r) e ≡ step_of (pending_by f p r e)
  pending_by_there (some v) =
      step_cond (passes_test r.bound []) _ _ _ _ refl (step_cond (fits_test p.positions p.rest []) _ _ _ _ refl walks_there)
  pending_by_there none = walks_there
