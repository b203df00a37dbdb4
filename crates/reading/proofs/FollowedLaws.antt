-- What a call follows is what it adds to the total, on every file and every reading: `followed` of Demand is document 01's word.
--     followed_adds        as far as 2^64 - 1, the total after a call is the total before plus what the call follows
--     followed_at_most     and never more
-- The call from a total of 0 takes the same way: `next_both`, of any relation between two totals that one transition more keeps.
-- Assumes nothing.
use Rattle.std.specs.Prelude.{◌≡◌, Bool, true, false, List, [], ◌∷◌, leb, length}
use Rattle.std.proofs.Common.{sym, ◌∙◌, ap, ⊎_elim, arith, lt-ltb, le-ltb}
use Rattle.std.proofs.Math.Bool.{cond}
use Rattle.std.proofs.Math.Option.{Option, none, some}
use Rattle.format.specs.declared.Refusal.{Refusal}
use Prim.Native.Nat.{ℕ, zero, suc, ◌+◌, ◌-◌, ◌<◌, ◌≤◌}
use Rattle.format.specs.Limits.{max_path, max_sum, SPACE, STATE}
use Rattle.format.specs.Node.{Node, Judgement, sound, unsound}
use Rattle.format.specs.Opening.{Opening, opened, opening}
use Rattle.format.specs.Opening as Opening
use Rattle.format.specs.Paths.{Fst, fst_of, node_in}
use Rattle.format.specs.Strings.{Bound}
use Rattle.reading.specs.Reading.{passes_test, Level, View, key_of, on_node, on_opened, Step, refuse, counted, Popped, top, used_up, bad, pop, next_trans, child, stepped, Went, found, passed, descend, after_descend, after_pop, walk, state_test, next}
use Rattle.reading.proofs.RunLaws.{lt_or, capped_low, capped_high, counted_capped}
use Rattle.reading.specs.Demand.{Call, call, at_zero, followed, capped}

-- ---- two calls that differ in the total

module _ (R : ℕ → ℕ → Type 0) (more : (t u : ℕ) → R t u → R (counted t) (counted u)) where
  data Both : Went → Went → Type 0 where
    both_found : {s : List Level} {v t u : ℕ} → R t u → Both (found s v t) (found s v u)
    both_passed : {t u : ℕ} → R t u → Both (passed t) (passed u)
    both_halted : {n : Refusal} → Both (Went.halted n) (Went.halted n)

  cond_both : (b : Bool) (w w' x x' : Went) → Both w w' → Both x x' → Both (cond b w x) (cond b w' x')
  cond_both true w w' x x' h g = h
  cond_both false w w' x x' h g = g

  node_both : (j : Judgement) (go go' : Node → Went) (x : Went) → ((n : Node) → Both (go n) (go' n)) → Both x x → Both (on_node j go x) (on_node j go' x)
  node_both (sound m) go go' x h g = h m
  node_both unsound go go' x h g = g

  descend_both : (room : ℕ) (f : Fst) (hi : Bound) (l : Level) (m : Node) (s : List Level) (t u : ℕ) → R t u
      → Both (descend room f hi l m s t) (descend room f hi l m s u)
  unfolding descend
  descend_both zero f hi l m s t u r = both_halted
  descend_both (suc room) f hi l m s t u r =
      cond_both (leb (l.out + (next_trans l m).out) max_sum) _ _ _ _
      (node_both (node_in f (next_trans l m).addr) _ _ _
      (λ n.
      cond_both (passes_test hi (key_of (child l m ∷ stepped l ∷ s))) _ _ _ _ (both_passed (more t u r))
      (cond_both n.final _ _ _ _
      (cond_both (leb (l.out + (next_trans l m).out + n.final_output) max_sum) _ _ _ _ (both_found (more t u r)) both_halted)
      (descend_both room f hi (child l m) n (stepped l ∷ s) (counted t) (counted u) (more t u r))))
      both_halted)
      both_halted

  module _ (r : View) (from : R r.total 0) where
    abbrev z : View
    z = at_zero r

    abbrev BothSteps : Step → Step → Type 0
    BothSteps o o' = R o.reading.total o'.reading.total

    after_both : (w w' : Went) → Both w w' → BothSteps (after_descend r w) (after_descend z w')
    after_both w w' (both_found h) = h
    after_both w w' (both_passed h) = h
    after_both w w' both_halted = from

    pop_both : (f : Fst) (p : Popped) → BothSteps (after_pop f r p) (after_pop f z p)
    pop_both f (top l m s) = after_both _ _ (descend_both (max_path - length s) f r.bound l m s r.total 0 from)
    pop_both f used_up = from
    pop_both f bad = from

    cond_steps : (b : Bool) (o o' q q' : Step) → BothSteps o o' → BothSteps q q' → BothSteps (cond b o q) (cond b o' q')
    cond_steps true o o' q q' h g = h
    cond_steps false o o' q q' h g = g

    walk_both : (f : Fst) (e : Option ℕ) → BothSteps (walk f r e) (walk f z e)
    walk_both f (some v) = cond_steps (passes_test r.bound []) _ _ _ _ from from
    walk_both f none = pop_both f (pop f r.levels)

    pub next_both : (s : List ℕ) (space : ℕ) → BothSteps (next s r space) (next s z space)
    unfolding next
    next_both s space = by (opening s)
      where
        by : (o : Opening)
            → BothSteps
            (on_opened o (λ m. cond (state_test r (length s)) (cond (leb max_path space) (walk (fst_of s m) r r.empty) (refuse r SPACE)) (refuse r STATE)) (λ n. refuse r n))
            (on_opened o (λ m. cond (state_test r (length s)) (cond (leb max_path space) (walk (fst_of s m) z r.empty) (refuse z SPACE)) (refuse z STATE)) (λ n. refuse z n))
        by (opened m) =
            cond_steps (state_test r (length s)) _ _ _ _ (cond_steps (leb max_path space) _ _ _ _ (walk_both (fst_of s m) r.empty) from) from
        by (Opening.refused n) = from

-- ---- one transition more

counted_low : (t : ℕ) → t < max_sum → counted t ≡ t + 1
counted_low t h = simp (lt-ltb t max_sum h)

counted_high : (t : ℕ) → max_sum ≤ t → counted t ≡ t
counted_high t h = simp (le-ltb t max_sum h)

adds_more : (d t u : ℕ) → t ≡ capped (d + u) → counted t ≡ capped (d + counted u)
adds_more d t u e =
    ⊎_elim
    (λ (h : u < max_sum).
    let q : d + u + 1 ≡ d + counted u = omega (arith, counted_low u h) in
    ap counted e ∙ counted_capped (d + u) ∙ ap capped q)
    (λ (h : max_sum ≤ u).
    let q : d + counted u ≡ d + u = omega (arith, counted_high u h) in
    ap counted e ∙ counted_capped (d + u) ∙ capped_high (d + u + 1) (omega arith) ∙ sym (capped_high (d + u) (omega arith)) ∙ ap capped (sym q))
    (lt_or u max_sum)

at_most_more : (d t u : ℕ) → t ≤ d + u → counted t ≤ d + counted u
at_most_more d t u e =
    ⊎_elim
    (λ (h : u < max_sum).
    ⊎_elim (λ (g : t < max_sum). omega (arith, counted_low u h, counted_low t g)) (λ (g : max_sum ≤ t). omega (arith, counted_low u h, counted_high t g)) (lt_or t max_sum))
    (λ (h : max_sum ≤ u).
    ⊎_elim (λ (g : t < max_sum). omega (arith, counted_high u h, counted_low t g)) (λ (g : max_sum ≤ t). omega (arith, counted_high u h, counted_high t g)) (lt_or t max_sum))
    (lt_or u max_sum)

-- ---- a call

pub followed_adds : {s : List ℕ} (r : View) (c : Call s) → r.total ≤ max_sum → (call r c).reading.total ≡ capped (r.total + followed r c)
followed_adds r c h =
    let q : r.total + 0 ≡ r.total = omega arith in
    next_both (λ (t u : ℕ). t ≡ capped (r.total + u)) (adds_more r.total) r (sym (ap capped q ∙ capped_low r.total h)) c.file c.space

pub followed_at_most : {s : List ℕ} (r : View) (c : Call s) → (call r c).reading.total ≤ r.total + followed r c
followed_at_most r c = next_both (λ (t u : ℕ). t ≤ r.total + u) (at_most_more r.total) r (omega arith) c.file c.space
