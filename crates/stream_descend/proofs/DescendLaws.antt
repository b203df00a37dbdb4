-- The descent: what the definition says of each way out of a turn.
--     down-..                     the definition, one law for each way out of a turn
-- Assumes nothing.
use mathlib.Core.Path.{◌≡◌}
use mathlib.Core.Bool.{true, false, cond}
use mathlib.Core.List.{List, ◌∷◌}
use Prim.Native.Nat.{ℕ, suc, ◌+◌, ◌-◌, ◌<◌, ◌≤◌}
use native.Mathlib.Omega.{arith}
use borrow.Author.Tests.{le-leb, lt-leb}
use lib.Dec.{leb}
use Rattle.format.specs.Limits.{max_sum, NODE, DEEP, SUM}
use Rattle.format.specs.Node.{Node, sound, unsound}
use Rattle.format.specs.Paths.{Fst, node_in}
use Rattle.format.specs.Strings.{Bound}
use Rattle.reading.specs.Reading.{Level, passes_test, key_of, counted, Went, found, passed, next_trans, child, stepped, descend}

-- ---- the definition

module _ (k : ℕ) (f : Fst) (hi : Bound) (l : Level) (m : Node) (s : List Level) (t : ℕ) where
  pub down_deep : 255 ≤ k → descend (255 - k) f hi l m s t ≡ Went.halted DEEP
  unfolding descend
  down_deep h = let e : 255 - k ≡ 0 = omega arith in rw e

  module _ (h : k < 255) where
    room : 255 - k ≡ suc (255 - (k + 1))
    room = omega arith

    pub down_sum : max_sum < l.out + (next_trans l m).out → descend (255 - k) f hi l m s t ≡ Went.halted SUM
    unfolding descend
    down_sum past = rw room (simp (lt-leb (l.out + (next_trans l m).out) max_sum past))

    module _ (fits : l.out + (next_trans l m).out ≤ max_sum) where
      fit : leb (l.out + (next_trans l m).out) max_sum ≡ true
      fit = le-leb (l.out + (next_trans l m).out) max_sum fits

      pub down_bad : node_in f (next_trans l m).addr ≡ unsound → descend (255 - k) f hi l m s t ≡ Went.halted NODE
      unfolding descend
      down_bad e = rw room (simp (fit, e))

      module _ (n : Node) (e : node_in f (next_trans l m).addr ≡ sound n) where
        pub down_passed : passes_test hi (key_of (child l m ∷ stepped l ∷ s)) ≡ true → descend (255 - k) f hi l m s t ≡ passed (counted t)
        unfolding descend
        down_passed p = rw room (simp (fit, e, p))

        module _ (p : passes_test hi (key_of (child l m ∷ stepped l ∷ s)) ≡ false) where
          pub down_final : n.final ≡ true
              → descend (255 - k) f hi l m s t
              ≡ cond (leb (l.out + (next_trans l m).out + n.final_output) max_sum)
              (found (child l m ∷ stepped l ∷ s) (l.out + (next_trans l m).out + n.final_output) (counted t))
              (Went.halted SUM)
          unfolding descend
          down_final b = rw room (simp (fit, e, p, b))

          pub down_on : n.final ≡ false → descend (255 - k) f hi l m s t ≡ descend (255 - (k + 1)) f hi (child l m) n (stepped l ∷ s) (counted t)
          unfolding descend
          down_on b = rw room (simp (fit, e, p, b))
