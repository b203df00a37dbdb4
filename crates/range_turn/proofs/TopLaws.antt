-- The pops over the arrays, where every level is that of a judged node.
--     pop_end, pop_at, pop_on     the definition at the first k levels
--     Topping ..                  the pops go on from level k
-- Assumes nothing.
use mathlib.Core.Path.{◌≡◌, refl, ◌∙◌, ap}
use mathlib.Core.List.{List}
use Prim.Native.Nat.{ℕ, ◌-◌, ◌<◌, ◌≤◌}
use native.Mathlib.Omega.{arith}
use borrow.Author.Tests.{lt-ltb, le-ltb}
use lib.ListN.{length, get_or}
use Rattle.format.specs.Node.{Node, sound}
use Rattle.format.specs.Paths.{Fst, node_in}
use Rattle.reading.specs.Reading.{top, used_up, pop}
use Rattle.stream_start.specs.Views.{level_at, stack_is}
use Rattle.stream_start.specs.StackLaws.{stack_suc}
use Rattle.range_node.specs.Entries.{SoundTo, CountsAt}
use Rattle.std.specs.Prelude.{Some, None}
use Rattle.range_turn.specs.Turns.{Tops}

-- ---- the definition

module _ (f : Fst) (k : ℕ) (xs is ps os : List ℕ) where
  pop_end : k ≤ 0 → pop f (stack_is k xs is ps os) ≡ used_up
  unfolding pop stack_is
  pop_end h = let e : k ≡ 0 = omega arith in rw e

  module _ (pos : 0 < k) (m : Node) (e : node_in f (get_or xs (k - 1) 0) ≡ sound m) where
    pop_at : get_or ps (k - 1) 0 < length m.transitions
        → pop f (stack_is k xs is ps os) ≡ top (level_at (k - 1) xs is ps os) m (stack_is (k - 1) xs is ps os)
    unfolding pop
    pop_at t = ap (pop f) (stack_suc k xs is ps os pos) ∙ simp (e, lt-ltb (get_or ps (k - 1) 0) (length m.transitions) t)

    pop_on : length m.transitions ≤ get_or ps (k - 1) 0 → pop f (stack_is k xs is ps os) ≡ pop f (stack_is (k - 1) xs is ps os)
    unfolding pop
    pop_on t = ap (pop f) (stack_suc k xs is ps os pos) ∙ simp (e, le-ltb (get_or ps (k - 1) 0) (length m.transitions) t)

-- ---- the loop

-- the first k levels decide
pub record Topping (f : Fst) (xs ps : List ℕ) (levels k : ℕ) : Type 0 where
  pub within : k ≤ levels
  pub sounds : SoundTo f xs levels
  pub same : (is os : List ℕ) → pop f (stack_is levels xs is ps os) ≡ pop f (stack_is k xs is ps os)

pub topping_none : (f : Fst) (xs ps : List ℕ) (levels : ℕ) → SoundTo f xs levels → Topping f xs ps levels levels
topping_none f xs ps levels h = record { within = omega arith; sounds = h; same = λ is os. refl }

module _ {f : Fst} {xs ps : List ℕ} {levels k : ℕ} (p : Topping f xs ps levels k) where
  pub topping_end : k ≤ 0 → Tops f xs ps levels None
  topping_end h = record {
    at = λ j e. absurd (let z : ◌≡◌ {A = ℕ} 0 1 = cc in omega arith);
    none_left = λ e is os. p.same is os ∙ pop_end f k xs is ps os h;
  }

  module _ (pos : 0 < k) where
    module _ {a : ℕ} (ea : a ≡ get_or xs (k - 1) 0) {n : ℕ} (counts : CountsAt f a n) where
      abbrev m : Node
      m = (p.sounds (k - 1) (omega (arith, p.within))).node

      is_m : node_in f (get_or xs (k - 1) 0) ≡ sound m
      is_m = (p.sounds (k - 1) (omega (arith, p.within))).is

      count_is : n ≡ length m.transitions
      count_is = counts m (ap (node_in f) ea ∙ is_m)

      pub topping_at : get_or ps (k - 1) 0 < n → Tops f xs ps levels (Some (k - 1))
      topping_at t = record {
        at = λ j e.
            let z : k - 1 ≡ j = cc in
            rw (← z) (record {
              low = omega (arith, p.within);
              node = m;
              is = is_m;
              has = omega (arith, count_is);
              pops = λ is os. p.same is os ∙ pop_at f k xs is ps os pos m is_m (omega (arith, count_is));
            });
        none_left = λ e. absurd (let z : ◌≡◌ {A = ℕ} 0 1 = cc in omega arith);
      }

      pub topping_on : n ≤ get_or ps (k - 1) 0 → Topping f xs ps levels (k - 1)
      topping_on t = record {
        within = omega (arith, p.within);
        sounds = p.sounds;
        same = λ is os. p.same is os ∙ pop_on f k xs is ps os pos m is_m (omega (arith, count_is));
      }
