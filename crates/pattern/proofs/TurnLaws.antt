-- One turn of the walk by pattern, a law for each way out: the walk from here is the answer of the whole call. For every file and every levels.
-- `left_pop` and `left_follow` (LeftLaws of `reading`) are the measure of a loop.
--     turn_end, turn_bad, turn_popped             no level; an unsound node; a level that is used up or can fit no more
--     turn_deep, turn_sum, turn_target            the refusals of a follow
--     turn_past, turn_key, turn_final, turn_on    past the upper bound; a key that fits; its sum; further down
-- Assumes nothing.
use Rattle.std.specs.Prelude.{◌≡◌, Bool, true, false, ◌&&◌, List, [], ◌∷◌, ℕ, ◌+◌, ◌<◌, ◌≤◌, ltb, leb, length}
use Rattle.std.proofs.Common.{◌∙◌, lt-ltb, le-ltb, le-leb}
use Rattle.std.proofs.lemmas.Bool.{lt-leb}
use Rattle.format.specs.Limits.{max_path, max_sum, NODE, DEEP, SUM}
use Rattle.format.specs.Node.{Node, sound, unsound}
use Rattle.format.specs.Paths.{Fst, node_in}
use Rattle.format.specs.Strings.{Bound}
use Rattle.reading.specs.Reading.{passes_test, Level, key_of, counted, next_trans, child, stepped}
use Rattle.pattern.specs.Pattern.{Pattern, start_test, fits_test, found, ended, halted, walk_by}
use Rattle.pattern.proofs.WalkLaws.{walk_by_lem}

-- a level is left by its next transition: it has one, and its bytes fit the pattern's start
abbrev pub live_test : Pattern → Node → Level → List Level → Bool
live_test p m l s = ltb l.trans (length m.transitions) && start_test p.positions p.rest (key_of (l ∷ s))

module _ (f : Fst) (p : Pattern) (hi : Bound) (t : ℕ) where
  pub turn_end : walk_by f p hi [] t ≡ ended t
  turn_end = walk_by_lem f p hi [] t

  module _ (l : Level) (s : List Level) where
    pub turn_bad : node_in f l.addr ≡ unsound → walk_by f p hi (l ∷ s) t ≡ halted NODE
    turn_bad e = walk_by_lem f p hi (l ∷ s) t ∙ simp e

    module _ (m : Node) (e : node_in f l.addr ≡ sound m) where
      pub turn_popped : live_test p m l s ≡ false → walk_by f p hi (l ∷ s) t ≡ walk_by f p hi s t
      turn_popped dead = walk_by_lem f p hi (l ∷ s) t ∙ simp (e, dead)

      module _ (live : live_test p m l s ≡ true) where
        pub turn_deep : max_path ≤ length s → walk_by f p hi (l ∷ s) t ≡ halted DEEP
        turn_deep h = walk_by_lem f p hi (l ∷ s) t ∙ simp (e, live, le-ltb (length s) max_path h)

        module _ (room : length s < max_path) where
          deep : ltb (length s) max_path ≡ true
          deep = lt-ltb (length s) max_path room

          pub turn_sum : max_sum < l.out + (next_trans l m).out → walk_by f p hi (l ∷ s) t ≡ halted SUM
          turn_sum h = walk_by_lem f p hi (l ∷ s) t ∙ simp (e, live, deep, lt-leb (l.out + (next_trans l m).out) max_sum h)

          module _ (light : l.out + (next_trans l m).out ≤ max_sum) where
            sum : leb (l.out + (next_trans l m).out) max_sum ≡ true
            sum = le-leb (l.out + (next_trans l m).out) max_sum light

            pub turn_target : node_in f (next_trans l m).addr ≡ unsound → walk_by f p hi (l ∷ s) t ≡ halted NODE
            turn_target en = walk_by_lem f p hi (l ∷ s) t ∙ simp (e, live, deep, sum, en)

            module _ (n : Node) (en : node_in f (next_trans l m).addr ≡ sound n) where
              pub turn_past : passes_test hi (key_of (child l m ∷ stepped l ∷ s)) ≡ true → walk_by f p hi (l ∷ s) t ≡ ended (counted t)
              turn_past past = walk_by_lem f p hi (l ∷ s) t ∙ simp (e, live, deep, sum, en, past)

              module _ (within : passes_test hi (key_of (child l m ∷ stepped l ∷ s)) ≡ false) where
                -- further down, final or not, where the key is none that fits
                pub turn_on : (n.final && fits_test p.positions p.rest (key_of (child l m ∷ stepped l ∷ s))) ≡ false
                    → walk_by f p hi (l ∷ s) t ≡ walk_by f p hi (child l m ∷ stepped l ∷ s) (counted t)
                turn_on idle = walk_by_lem f p hi (l ∷ s) t ∙ simp (e, live, deep, sum, en, within, idle)

                module _ (fits : (n.final && fits_test p.positions p.rest (key_of (child l m ∷ stepped l ∷ s))) ≡ true) where
                  pub turn_key : l.out + (next_trans l m).out + n.final_output ≤ max_sum
                      → walk_by f p hi (l ∷ s) t ≡ found (child l m ∷ stepped l ∷ s) (l.out + (next_trans l m).out + n.final_output) (counted t)
                  turn_key h =
                      walk_by_lem f p hi (l ∷ s) t
                      ∙ simp (e, live, deep, sum, en, within, fits, le-leb (l.out + (next_trans l m).out + n.final_output) max_sum h)

                  pub turn_final : max_sum < l.out + (next_trans l m).out + n.final_output → walk_by f p hi (l ∷ s) t ≡ halted SUM
                  turn_final h =
                      walk_by_lem f p hi (l ∷ s) t
                      ∙ simp (e, live, deep, sum, en, within, fits, lt-leb (l.out + (next_trans l m).out + n.final_output) max_sum h)
