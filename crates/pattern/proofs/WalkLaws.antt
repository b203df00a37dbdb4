-- The walk by pattern without fuel: `left` falls with every turn (LeftLaws of `reading`), so that more fuel changes nothing.
--     walk_by_lem      the walk is one turn, and the walk from there
-- Assumes nothing.
use Rattle.std.specs.Prelude.{◌≡◌, refl, Bool, true, false, cond, ◌&&◌, List, [], ◌∷◌, ltb, leb, length}
use Rattle.std.proofs.lemmas.Bool.{and_parts}
use Prim.Native.Nat.{ℕ, zero, suc, ◌+◌, ◌<◌}
use Rattle.std.proofs.Common.{arith, ltb-true}
use Rattle.format.specs.Limits.{max_path, max_sum, NODE}
use Rattle.format.specs.Node.{Node, Judgement, sound, unsound}
use Rattle.format.specs.Paths.{Fst, node_in}
use Rattle.format.specs.Strings.{Bound}
use Rattle.reading.specs.Reading.{passes_test, Level, key_of, on_node, counted, next_trans, child, stepped}
use Rattle.reading.specs.Visits.{left}
use Rattle.reading.proofs.LeftLaws.{left_pop, left_follow}
use Rattle.pattern.specs.Pattern.{Pattern, start_test, fits_test, WentBy, halted, turn_by, walk_to, walk_by}

-- ---- more fuel changes nothing

cond_cong : {A : Type 0} (c : Bool) {x x' y y' : A} → (c ≡ true → x ≡ x') → y ≡ y' → cond c x y ≡ cond c x' y'
cond_cong true h k = h refl
cond_cong false h k = k

node_cong : {A : Type 0} (stop : A) (j : Judgement) {go go' : Node → A} → ((m : Node) → j ≡ sound m → go m ≡ go' m) → on_node j go stop ≡ on_node j go' stop
node_cong stop (sound m) h = h m refl
node_cong stop unsound h = refl

module _ (f : Fst) (p : Pattern) (hi : Bound) where
  turn_cong : (a b : List Level → ℕ → WentBy) (s : List Level) (t : ℕ) → ((s' : List Level) (t' : ℕ) → left f s' < left f s → a s' t' ≡ b s' t')
      → turn_by f p hi a s t ≡ turn_by f p hi b s t
  turn_cong a b [] t h = refl
  turn_cong a b (l ∷ s) t h =
      node_cong (halted NODE) (node_in f l.addr)
      (λ m e.
      cond_cong (ltb l.trans (length m.transitions) && start_test p.positions p.rest (key_of (l ∷ s)))
      (λ live.
      cond_cong (ltb (length s) max_path)
      (λ room.
      cond_cong (leb (l.out + (next_trans l m).out) max_sum)
      (λ _.
      node_cong (halted NODE) (node_in f (next_trans l m).addr)
      (λ n _.
      cond_cong (passes_test hi (key_of (child l m ∷ stepped l ∷ s))) (λ _. refl)
      (cond_cong (n.final && fits_test p.positions p.rest (key_of (child l m ∷ stepped l ∷ s))) (λ _. refl)
      (h (child l m ∷ stepped l ∷ s) (counted t)
      (left_follow f l m s (ltb-true (length s) max_path room) e (ltb-true l.trans (length m.transitions) (and_parts _ _ live).0))))))
      refl)
      refl)
      (h s t (left_pop f l s)))

  walk_enough : (n k : ℕ) (s : List Level) (t : ℕ) → left f s < n → left f s < k → walk_to n f p hi s t ≡ walk_to k f p hi s t
  unfolding walk_to
  walk_enough zero k s t h g = absurd (omega arith)
  walk_enough (suc n) zero s t h g = absurd (omega arith)
  walk_enough (suc n) (suc k) s t h g =
      turn_cong (walk_to n f p hi) (walk_to k f p hi) s t (λ s' t' less. walk_enough n k s' t' (omega arith) (omega arith))

  -- the walk's own equation: what others cite
  pub walk_by_lem : (s : List Level) (t : ℕ) → walk_by f p hi s t ≡ turn_by f p hi (walk_by f p hi) s t
  unfolding walk_by walk_to
  walk_by_lem s t = turn_cong (walk_to (left f s) f p hi) (walk_by f p hi) s t (λ s' t' less. walk_enough (left f s) (suc (left f s')) s' t' less (omega arith))
