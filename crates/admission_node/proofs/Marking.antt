-- The marks that one node gives to its targets: what is known after the first i of its transitions.
--     MarkedTo ..       their targets have at least the mark, and no entry is lowered or raised otherwise
-- Assumes nothing.
use mathlib.Core.Path.{◌≡◌, refl, sym, subst}
use mathlib.Core.Logic.{◌⊎◌, inl, inr}
use mathlib.Core.List.Memᴰ
use mathlib.Core.List.{List, Memᴰ}
use Prim.Native.Nat.{ℕ, ◌+◌, ◌≤◌, ◌<◌, max}
use native.Mathlib.Omega.{arith}
use lib.ListN.{length, get_or, set, take}
use lib.Seq.{take_all}
use Rattle.format.specs.declared.Transition.{Transition}
use Rattle.format.specs.Node.{Node, sound, SoundAt, transition_at}
use Rattle.format.specs.Paths.{Fst, node_in}
use Rattle.format.specs.Laws.NodeFacts.{node_target_lt}
use Rattle.format.specs.Laws.TransitionLaws.{at_member}
use Rattle.admission_node.specs.Entries.{Kept, TargetIn, Markable, Unpassed, MarksTargets}
use Rattle.admission_node.specs.KeptLaws.{at_set, kept_none, kept_set}
use Rattle.admission_node.proofs.Surveying.{each_more}

pub record MarkedTo (n mark : ℕ) (ts : List Transition) (d₀ d : List ℕ) (i : ℕ) : Type 0 where
  pub kept : Kept n d₀ d
  pub led : (j : ℕ) → (get_or d j 0 ≡ get_or d₀ j 0) ⊎ (TargetIn ts j × (get_or d j 0 ≡ max (get_or d₀ j 0) mark))
  pub aim : (t : Transition) → Memᴰ t (take i ts) → mark ≤ get_or d t.addr 0

pub marked_none : (n mark : ℕ) (ts : List Transition) (d : List ℕ) → MarkedTo n mark ts d d 0
marked_none n mark ts d =
    record { kept = kept_none n d; led = λ j. inl refl; aim = λ t m. absurd (Memᴰ.not-nil m) }

module _ {n mark : ℕ} {ts : List Transition} {d₀ d : List ℕ} (ok : Markable n d₀ ts) (i : ℕ) (l : i < length ts) (a : ℕ) (a_is : a ≡ (transition_at ts i).addr)
    (h : MarkedTo n mark ts d₀ d i) where
  pub mark_inside : a < n
  mark_inside = rw a_is (ok.inside (transition_at ts i) (at_member ts i l))

  pub mark_room : a < length d
  mark_room = omega (arith, mark_inside, ok.room, h.kept.long)

  -- no mark is above 2
  pub mark_fresh : mark ≤ 2 → get_or d a 0 ≤ 2
  mark_fresh le = fresh_by (h.led a)
    where
      fresh_was : get_or d₀ a 0 ≤ 2
      fresh_was = rw a_is (ok.fresh (transition_at ts i) (at_member ts i l))

      fresh_by : (get_or d a 0 ≡ get_or d₀ a 0) ⊎ (TargetIn ts a × (get_or d a 0 ≡ max (get_or d₀ a 0) mark)) → get_or d a 0 ≤ 2
      fresh_by (inl e) = omega (arith, fresh_was)
      fresh_by (inr p) = omega (arith, fresh_was, p.1)

  module _ (x : ℕ) (x_is : x ≡ max (get_or d a 0) mark) where
    -- the target's own entry, whether it was raised before or not
    raised_here : (get_or d a 0 ≡ get_or d₀ a 0) ⊎ (TargetIn ts a × (get_or d a 0 ≡ max (get_or d₀ a 0) mark)) → x ≡ max (get_or d₀ a 0) mark
    raised_here (inl e) = omega (arith, x_is)
    raised_here (inr p) = omega (arith, x_is, p.1)

    led_more : (j : ℕ) → (get_or (set d a x) j 0 ≡ get_or d₀ j 0) ⊎ (TargetIn ts j × (get_or (set d a x) j 0 ≡ max (get_or d₀ j 0) mark))
    led_more =
        at_set (λ j y. (y ≡ get_or d₀ j 0) ⊎ (TargetIn ts j × (y ≡ max (get_or d₀ j 0) mark))) d a x mark_room
        (inr (record { by = transition_at ts i; one = at_member ts i l; addr_is = sym a_is }, raised_here (h.led a)))
        (λ j ne. h.led j)

    grows : (j : ℕ) → get_or d j 0 ≤ get_or (set d a x) j 0
    grows = at_set (λ j y. get_or d j 0 ≤ y) d a x mark_room (omega (arith, x_is)) (λ j ne. omega arith)

    aimed : (j : ℕ) → j ≡ a → mark ≤ get_or (set d a x) j 0
    aimed = at_set (λ j y. j ≡ a → mark ≤ y) d a x mark_room (λ _. omega (arith, x_is)) (λ j ne e. absurd (ne e))

    pub marked_step : MarkedTo n mark ts d₀ (set d a x) (i + 1)
    marked_step =
        record {
          kept = kept_set a x mark_inside h.kept;
          led = led_more;
          aim = each_more (λ t. mark ≤ get_or (set d a x) t.addr 0) ts i l (λ t m. omega (arith, h.aim t m, grows t.addr))
              (aimed (transition_at ts i).addr (sym a_is));
        }

pub marked_all : {n mark : ℕ} {ts : List Transition} {d₀ d : List ℕ} {i : ℕ} → MarkedTo n mark ts d₀ d i → length ts ≤ i → MarksTargets n mark ts d₀ d
marked_all {ts = ts} {i = i} h l =
    let all : take i ts ≡ ts = take_all i ts l in
    record { kept = h.kept; led = h.led; aim = λ t m. h.aim t (subst (λ u. Memᴰ t u) (sym all) m) }

-- ---- the node at an address

-- the targets of a sound node lie below it
pub markable_node : (f : Fst) (a : ℕ) (m : Node) (d : List ℕ) → node_in f a ≡ sound m → SoundAt f.bytes f.version f.root a → length f.bytes ≤ length d
    → Unpassed (length f.bytes) d a → Markable (length f.bytes) d m.transitions
markable_node f a m d e h room fresh =
    record {
      room = room;
      inside = λ t mem. omega (arith, node_target_lt f a m e t mem, h.inside);
      fresh = λ t mem. fresh.low t.addr (node_target_lt f a m e t mem) (omega (arith, node_target_lt f a m e t mem, h.inside));
    }

-- ---- a node with one transition

module _ {n : ℕ} {ts : List Transition} {d : List ℕ} (ok : Markable n d ts) (one : length ts ≡ 1) (a : ℕ) (a_is : a ≡ (transition_at ts 0).addr) where
  pub single_inside : a < length d
  single_inside = mark_room ok 0 (omega (arith, one)) a a_is (marked_none _ 0 _ _)

  pub single_fresh : get_or d a 0 ≤ 2
  single_fresh = mark_fresh ok 0 (omega (arith, one)) a a_is (marked_none _ 0 _ _) (omega arith)

  pub single_marked : (mark x : ℕ) → x ≡ max (get_or d a 0) mark → MarksTargets n mark ts d (set d a x)
  single_marked mark x x_is =
      marked_all (marked_step ok 0 (omega (arith, one)) a a_is (marked_none _ mark _ _) x x_is) (omega (arith, one))
