-- Laws of a start's walk along the lower bound, one for each way out of a turn of the code.
--     enter_unsound, enter_miss, enter_hit   a byte looked for at a node
--     seek_unsound, seek_past, seek_done     the ways out of `R.seek`, whatever is left of the bound
--     bound_done, bound_bad, bound_miss, bound_on     the same with k bytes of the bound passed
-- Assumes nothing.
use mathlib.Core.Path.{◌≡◌, refl, sym, ◌∙◌}
use mathlib.Core.Bool.{Bool}
use mathlib.Core.List.{List, [], ◌∷◌}
use Prim.Native.Nat.{ℕ, ◌+◌, ◌<◌, ◌≤◌}
use native.Mathlib.Numerals.{add-one}
use borrow.Author.Tests.{le-leb, lt-leb}
use lib.ListN.{length, get_or, drop, drop_of_length-le}
use lib.Seq.{drop-cons}
use Rattle.format.specs.Limits.{max_sum, NODE, SUM}
use Rattle.format.specs.Node.{Node, Judgement, sound, unsound, Search, find_input, transition_at}
use Rattle.format.specs.Paths.{Fst, node_in}
use Rattle.format.specs.Lookup.{past_sum}
use Rattle.reading.specs.Reading.{Level, level_with, on_node, on_search, got, halted, last_levels, seek}
use Rattle.std.specs.Prelude.{Ok, Err, Result}
use Rattle.node.specs.declared.Unsound.{Unsound}
use Rattle.stream_seek.specs.declared.Hit.{Hit}
use Rattle.stream_seek.specs.Seeks.{hit_at, enter_of}

-- ---- a byte looked for at a node

module _ (f : Fst) (a b : ℕ) where
  pub enter_unsound : node_in f a ≡ unsound → enter_of f a b ≡ Err (record {})
  unfolding enter_of
  enter_unsound e = simp e

  module _ (m : Node) (e : node_in f a ≡ sound m) where
    pub enter_miss : (p : ℕ) → find_input m.transitions b ≡ Search.absent p → enter_of f a b ≡ Ok (Err p)
    unfolding enter_of
    enter_miss p none = simp (e, none)

    pub enter_hit : (p : ℕ) → find_input m.transitions b ≡ Search.at p → enter_of f a b ≡ Ok (Ok (hit_at m p))
    unfolding enter_of
    enter_hit p found = simp (e, found)

-- ---- the walk, whatever is left of the bound

abbrev on_entered : {A : Type 0} → Result (Result Hit ℕ) Unsound → (Hit → A) → (ℕ → A) → A → A
on_entered (Ok (Ok h)) hit miss bad = hit h
on_entered (Ok (Err p)) hit miss bad = miss p
on_entered (Err u) hit miss bad = bad

module _ (f : Fst) (c : Bool) (a i sum : ℕ) (s : List Level) where
  pub seek_unsound : (lo : List ℕ) → node_in f a ≡ unsound → seek f c a i sum s lo ≡ halted NODE
  unfolding seek
  seek_unsound [] e = simp e
  seek_unsound (b ∷ lo) e = simp e

  seek_sum : (lo : List ℕ) (m : Node) → node_in f a ≡ sound m → max_sum < sum → seek f c a i sum s lo ≡ halted SUM
  unfolding seek
  seek_sum [] m e h = simp (e, lt-leb sum max_sum h)
  seek_sum (b ∷ lo) m e h = simp (e, lt-leb sum max_sum h)

  pub seek_past : (lo : List ℕ) → max_sum < sum → seek f c a i sum s lo ≡ halted (past_sum (node_in f a))
  seek_past lo h = by (node_in f a) refl
    where
      by : (j : Judgement) → node_in f a ≡ j → seek f c a i sum s lo ≡ halted (past_sum (node_in f a))
      by (sound m) e = rw e (seek_sum lo m e h)
      by unsound e = rw e (seek_unsound lo e)

  module _ (fits : sum ≤ max_sum) where
    pub seek_done : (m : Node) → node_in f a ≡ sound m → seek f c a i sum s [] ≡ got (last_levels c (level_with a i 0 sum) s)
    unfolding seek
    seek_done m e = simp (e, le-leb sum max_sum fits)

    -- a turn, by what the byte leads to
    seek_turn : (b : ℕ) (lo : List ℕ)
        → seek f c a i sum s (b ∷ lo)
        ≡ on_entered (enter_of f a b)
        (λ h. seek f c h.target b (sum + h.output) (level_with a i (h.place + 1) sum ∷ s) lo)
        (λ p. got (level_with a i p sum ∷ s))
        (halted NODE)
    unfolding seek enter_of
    seek_turn b lo = simp (le-leb sum max_sum fits) (judged (node_in f a))
      where
        placed : (m : Node) (q : Search)
            → on_search q
            (λ p. seek f c (transition_at m.transitions p).addr b (sum + (transition_at m.transitions p).out) (level_with a i (p + 1) sum ∷ s) lo)
            (λ p. got (level_with a i p sum ∷ s))
            ≡ on_entered
            (on_search q (λ p. Ok (Ok (hit_at m p))) (λ p. Ok (Err p)))
            (λ h. seek f c h.target b (sum + h.output) (level_with a i (h.place + 1) sum ∷ s) lo)
            (λ p. got (level_with a i p sum ∷ s))
            (halted NODE)
        placed m (Search.at p) = refl
        placed m (Search.absent p) = refl

        judged : (j : Judgement)
            → on_node j
            (λ m.
            on_search (find_input m.transitions b)
            (λ p. seek f c (transition_at m.transitions p).addr b (sum + (transition_at m.transitions p).out) (level_with a i (p + 1) sum ∷ s) lo)
            (λ p. got (level_with a i p sum ∷ s)))
            (halted NODE)
            ≡ on_entered
            (on_node j
            (λ m. on_search (find_input m.transitions b) (λ p. Ok (Ok (hit_at m p))) (λ p. Ok (Err p)))
            (Err (record {})))
            (λ h. seek f c h.target b (sum + h.output) (level_with a i (h.place + 1) sum ∷ s) lo)
            (λ p. got (level_with a i p sum ∷ s))
            (halted NODE)
        judged (sound m) = placed m (find_input m.transitions b)
        judged unsound = refl

    -- ---- with k bytes of the bound passed

    module _ (lo : List ℕ) (k : ℕ) where
      pub bound_done : length lo ≤ k → (m : Node) → node_in f a ≡ sound m → seek f c a i sum s (drop k lo) ≡ got (last_levels c (level_with a i 0 sum) s)
      bound_done h m e = rw (drop_of_length-le lo {i = k} h) (seek_done m e)

      module _ (h : k < length lo) where
        cut : drop k lo ≡ get_or lo k 0 ∷ drop (k + 1) lo
        cut = drop-cons lo k 0 h ∙ sym (rw (add-one k))

        pub bound_bad : {u : Unsound} → enter_of f a (get_or lo k 0) ≡ Err u → seek f c a i sum s (drop k lo) ≡ halted NODE
        bound_bad e = rw cut (seek_turn (get_or lo k 0) (drop (k + 1) lo) ∙ rw e)

        pub bound_miss : (p : ℕ) → enter_of f a (get_or lo k 0) ≡ Ok (Err p) → seek f c a i sum s (drop k lo) ≡ got (level_with a i p sum ∷ s)
        bound_miss p e = rw cut (seek_turn (get_or lo k 0) (drop (k + 1) lo) ∙ rw e)

        pub bound_on : (hit : Hit) → enter_of f a (get_or lo k 0) ≡ Ok (Ok hit)
            → seek f c a i sum s (drop k lo) ≡ seek f c hit.target (get_or lo k 0) (sum + hit.output) (level_with a i (hit.place + 1) sum ∷ s) (drop (k + 1) lo)
        bound_on hit e = rw cut (seek_turn (get_or lo k 0) (drop (k + 1) lo) ∙ rw e)
