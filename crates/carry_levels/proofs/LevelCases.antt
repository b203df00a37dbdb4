-- The cases of a level, and of the loop over the levels.
--     settle-..             a level at an address of the new file
--     first-.., level-..    the first level; a level over another
--     walked-..             the levels carried so far: the first, one more, all of them, or a refusal
-- Assumes nothing.
use mathlib.Core.Path.{◌≡◌, refl, sym, ap, ap₂, ◌∙◌, subst}
use Rattle.std.specs.Prelude.{Ok, Err, Result}
use Rattle.format.specs.declared.Refusal.{Refusal}
use mathlib.Core.Bool.{Bool, true, false}
use mathlib.Core.List.{List, [], ◌∷◌}
use Prim.Native.Nat.{ℕ, zero, suc, ◌+◌, ◌-◌, ◌<◌, ◌≤◌}
use native.Mathlib.Decide.{ℕ_discrete}
use native.Mathlib.Omega.{arith}
use borrow.Author.Tests.{eq-eqb, ne_eqb}
use lib.Dec.{eqb}
use lib.ListN.{length, get_or, set}
use lib.Seq.{get_or-set_same, get_or-set_other}
use Rattle.format.specs.Limits.{CARRY}
use Rattle.format.specs.Node.{sound, Search, find_input, transition_at, node_at}
use Rattle.format.specs.Paths.{Fst, fst_with}
use Rattle.node.specs.declared.Node.{Node}
use Rattle.node.specs.Read.{meaning, transitions_in, Readable}
use Rattle.node.specs.ReadLaws.{length_node_transitions}
use Rattle.reading.specs.Reading.{Level, level_with}
use Rattle.stream_start.specs.Views.{level_at, stack_is}
use Rattle.stream_start.specs.StackLaws.{stack_more, stack_suc, stack_ext}
use Rattle.carrying.specs.Carry.{Carrying, over, carry_level, carry_levels, carried, carried_to, after_levels}
use Rattle.carry_levels.specs.Settling.{settled_is, Legible, Settles, FirstCarried, LevelCarried, WalkedTo, LevelsCarried}

halted_legible : (new : List ℕ) (c : Refusal) → Legible new (Err c)
halted_legible new c a m is = absurd (let z : ◌≡◌ {A = ℕ} 0 1 = cc in omega arith)

stands_legible : (new : List ℕ) (a : ℕ) (m : Node) → Readable new m → Legible new (Ok (a, m))
stands_legible new a m h b n is = subst (Readable new) (ap node_of is) h
  where
    node_of : Result (ℕ × Node) Refusal → Node
    node_of (Ok p) = p.1
    node_of (Err c) = m

-- ---- a level at an address

module _ (new : List ℕ) (v root a n : ℕ) (same : Bool) where
  module _ (m : Node) (e : node_at new v root a ≡ sound (meaning new m)) (h : Readable new m) where
    count : length (transitions_in new m) ≡ m.ntrans
    count = length_node_transitions new m h

    pub settle_stands : m.ntrans ≡ n → same ≡ true → Settles new v root a n same (Ok (a, m))
    settle_stands is holds = record {
      settled = λ l o sum s len eq. rw (e, eq-eqb (length (transitions_in new m)) (length o.transitions) (count ∙ is ∙ sym len), eq ∙ holds);
      legible = stands_legible new a m h;
    }

    pub settle_value : m.ntrans ≡ n → same ≡ false → Settles new v root a n same (Err CARRY)
    settle_value is fails = record {
      settled = λ l o sum s len eq. rw (e, eq-eqb (length (transitions_in new m)) (length o.transitions) (count ∙ is ∙ sym len), eq ∙ fails);
      legible = halted_legible new CARRY;
    }

    pub settle_count : ¬ (m.ntrans ≡ n) → Settles new v root a n same (Err CARRY)
    settle_count ne = record {
      settled = λ l o sum s len eq. rw (e, ne_eqb (length (transitions_in new m)) (length o.transitions) (λ q. ne (sym count ∙ q ∙ len)));
      legible = halted_legible new CARRY;
    }

-- ---- the first level, and one over another

module _ (old : List ℕ) (v₀ root₀ : ℕ) (new : List ℕ) (v root a : ℕ) where
  abbrev f : Fst
  f = fst_with old v₀ root₀

  pub first_settles : (out : ℕ) (m : Node) → node_at old v₀ root₀ a ≡ sound (meaning old m) → Readable old m → {r : Result (ℕ × Node) Refusal}
      → Settles new v root root m.ntrans (eqb 0 out) r → FirstCarried f new v root a out r
  first_settles out m e h w = record {
    settled = λ inp p. w.settled (level_with a inp p out) (meaning old m) 0 [] (length_node_transitions old m h) refl ∙ rw e;
    legible = w.legible;
  }

  module _ (inp out : ℕ) (below : Node) (sum : ℕ) where
    module _ (m : Node) (e : node_at old v₀ root₀ a ≡ sound (meaning old m)) (h : Readable old m) where
      pub level_settles : (p : ℕ) → find_input (transitions_in new below) inp ≡ Search.at p → {to : ℕ} {same : Bool} {r : Result (ℕ × Node) Refusal}
          → to ≡ (transition_at (transitions_in new below) p).addr → same ≡ eqb (sum + (transition_at (transitions_in new below) p).out) out
          → Settles new v root to m.ntrans same r → LevelCarried f new v root a inp out below sum r
      level_settles p at to_is same_is w = record {
        settled = λ q k s is.
            w.settled (level_with a inp q out) (meaning old m) (k.out + (transition_at (transitions_in new below) p).out) (k ∷ s) (length_node_transitions old m h)
            (ap (λ (x : ℕ). eqb (x + (transition_at (transitions_in new below) p).out) out) is ∙ sym same_is)
            ∙ rw (to_is, e, at);
        legible = w.legible;
      }

-- ---- the levels so far

module _ (old : Fst) (new : List ℕ) (v root : ℕ) (xs is os : List ℕ) where
  abbrev g : Fst
  g = fst_with new v root

  pub walked_first : (ys : List ℕ) (to : ℕ) (m : Node) → 0 < length ys → {r : Result (ℕ × Node) Refusal} → FirstCarried old new v root (get_or xs 0 0) (get_or os 0 0) r → r ≡ Ok (to, m)
      → WalkedTo old new v root 1 xs is os (set ys 0 to) m
  unfolding carry_levels stack_is
  walked_first ys to m room w is_r = record {
    carried = λ ps.
        sym (w.settled (get_or is 0 0) (get_or ps 0 0)) ∙ ap (settled_is new (level_at 0 xs is ps os) []) is_r
        ∙ ap (λ (a : ℕ). over (level_with a (get_or is 0 0) (get_or ps 0 0) (get_or os 0 0)) [] (meaning new m)) (sym (get_or-set_same ys 0 to 0 room));
    legible = w.legible to m is_r;
  }

  -- the level over k carried ones
  level_at_lem : (k : ℕ) (ys : List ℕ) (below : Node) → WalkedTo old new v root k xs is os ys below → {r : Result (ℕ × Node) Refusal}
      → LevelCarried old new v root (get_or xs k 0) (get_or is k 0) (get_or os k 0) below (get_or os (k - 1) 0) r → (ps : List ℕ)
      → carry_levels old g (stack_is (k + 1) xs is ps os) ≡ settled_is new (level_at k xs is ps os) (level_at (k - 1) ys is ps os ∷ stack_is (k - 1) ys is ps os) r
  unfolding carry_levels
  level_at_lem k ys below inv w ps =
      ap (carry_levels old g) (stack_more k xs is ps os) ∙ ap (carry_level old g (level_at k xs is ps os)) (inv.carried ps)
      ∙ sym (w.settled (get_or ps k 0) (level_at (k - 1) ys is ps os) (stack_is (k - 1) ys is ps os) refl)

  pub walked_step : (k : ℕ) (ys : List ℕ) (below : Node) → 0 < k → k < length ys → WalkedTo old new v root k xs is os ys below → {r : Result (ℕ × Node) Refusal}
      → LevelCarried old new v root (get_or xs k 0) (get_or is k 0) (get_or os k 0) below (get_or os (k - 1) 0) r → (to : ℕ) (m : Node) → r ≡ Ok (to, m)
      → WalkedTo old new v root (k + 1) xs is os (set ys k to) m
  walked_step k ys below pos room inv w to m is_r = record {
    carried = λ ps.
        let less : k + 1 - 1 ≡ k = omega arith in
        let rest : stack_is k (set ys k to) is ps os ≡ level_at (k - 1) ys is ps os ∷ stack_is (k - 1) ys is ps os =
        stack_ext k (set ys k to) is ps os ys is ps os (λ j lt. get_or-set_other ys k j to 0 (λ e. omega arith)) (λ j lt. refl) (λ j lt. refl) (λ j lt. refl)
        ∙ stack_suc k ys is ps os pos in
        level_at_lem k ys below inv w ps ∙ ap (settled_is new (level_at k xs is ps os) (level_at (k - 1) ys is ps os ∷ stack_is (k - 1) ys is ps os)) is_r
        ∙ ap₂ (λ (a : ℕ) (s : List Level). over (level_with a (get_or is k 0) (get_or ps k 0) (get_or os k 0)) s (meaning new m)) (sym (get_or-set_same ys k to 0 room)) (sym rest)
        ∙ ap (λ (j : ℕ). over (level_at j (set ys k to) is ps os) (stack_is j (set ys k to) is ps os) (meaning new m)) (sym less);
    legible = w.legible to m is_r;
  }

  -- a refusal at a level is the answer, whatever levels are above it
  halted_up : (c : Refusal) (k j : ℕ) (ps : List ℕ) → k ≤ j → carry_levels old g (stack_is k xs is ps os) ≡ Carrying.halted c
      → carry_levels old g (stack_is j xs is ps os) ≡ Carrying.halted c
  unfolding carry_levels stack_is
  halted_up c k zero ps le e = let z : 0 ≡ k = omega arith in ap (λ (j : ℕ). carry_levels old g (stack_is j xs is ps os)) z ∙ e
  halted_up c k (suc j) ps le e =
      elim (ℕ_discrete k (suc j)) [
        | yes z ↦ ap (λ (i : ℕ). carry_levels old g (stack_is i xs is ps os)) (sym z) ∙ e
        | no ne ↦ ap (carry_level old g (level_at j xs is ps os)) (halted_up c k j ps (omega arith) e)
      ]

  halted_all : (c : Refusal) (k levels : ℕ) (ys : List ℕ) → k ≤ levels → ((ps : List ℕ) → carry_levels old g (stack_is k xs is ps os) ≡ Carrying.halted c)
      → LevelsCarried old g levels xs is os ys (Err c)
  halted_all c k levels ys le e = record { carries = λ ps n r. sym (ap (after_levels n r) (halted_up c k levels ps le (e ps))) }

  pub walked_halted : (k levels : ℕ) (ys : List ℕ) (below : Node) → k < levels → WalkedTo old new v root k xs is os ys below → {r : Result (ℕ × Node) Refusal}
      → LevelCarried old new v root (get_or xs k 0) (get_or is k 0) (get_or os k 0) below (get_or os (k - 1) 0) r → (c : Refusal) → r ≡ Err c
      → LevelsCarried old g levels xs is os ys (Err c)
  walked_halted k levels ys below lt inv w c is_r =
      halted_all c (k + 1) levels ys (omega arith)
      (λ ps. level_at_lem k ys below inv w ps ∙ ap (settled_is new (level_at k xs is ps os) (level_at (k - 1) ys is ps os ∷ stack_is (k - 1) ys is ps os)) is_r)

  pub first_halted : (levels : ℕ) (ys : List ℕ) → 0 < levels → {r : Result (ℕ × Node) Refusal} → FirstCarried old new v root (get_or xs 0 0) (get_or os 0 0) r → (c : Refusal) → r ≡ Err c
      → LevelsCarried old g levels xs is os ys (Err c)
  unfolding carry_levels stack_is
  first_halted levels ys pos w c is_r =
      halted_all c 1 levels ys (omega arith)
      (λ ps. sym (w.settled (get_or is 0 0) (get_or ps 0 0)) ∙ ap (settled_is new (level_at 0 xs is ps os) []) is_r)

  pub walked_all : (levels : ℕ) (ys : List ℕ) (below : Node) → 0 < levels → WalkedTo old new v root levels xs is os ys below
      → LevelsCarried old g levels xs is os ys (Ok tt)
  walked_all levels ys below pos inv = record {
    carries = λ ps n r.
        ap (λ (s : List Level). carried (carried_to n r s)) (stack_suc levels ys is ps os pos) ∙ sym (ap (after_levels n r) (inv.carried ps));
  }

  pub walked_none : (ys : List ℕ) → LevelsCarried old g 0 xs is os ys (Ok tt)
  unfolding carry_levels stack_is
  walked_none ys = record { carries = λ ps n r. refl }
