-- The hash of transitions that are taken one after the other: the rest decides.
--     Hashed is os ts want h i     h of the transitions from place i on is what is wanted
-- Assumes nothing.
use Rattle.std.proofs.Common.{◌≡◌, ℕ, suc, ◌+◌, ◌<◌, ◌≤◌, List, ◌∷◌, length, get_or, drop, sym, ap, ◌∙◌, add-one, arith, drop_of_length-le, drop-cons}
use Rattle.format.specs.Node.{transitions_of}
use Rattle.packing.specs.Registry.{fnv_step, hash_transitions}

pub record Hashed (is os ts : List ℕ) (want h i : ℕ) : Type 0 where
  pub within : i ≤ length is
  pub rest : hash_transitions h (transitions_of (drop i is) (drop i os) (drop i ts)) ≡ want

-- the transitions from place i on, one taken
pub transitions_drop : (is os ts : List ℕ) (i : ℕ) → length os ≡ length is → length ts ≡ length is → i < length is
    → transitions_of (drop i is) (drop i os) (drop i ts)
    ≡ record { inp = get_or is i 0; out = get_or os i 0; addr = get_or ts i 0 } ∷ transitions_of (drop (suc i) is) (drop (suc i) os) (drop (suc i) ts)
unfolding transitions_of
transitions_drop is os ts i o t l = rw (drop-cons is i 0 l, drop-cons os i 0 (omega arith), drop-cons ts i 0 (omega arith))

pub hashed_step : {is os ts : List ℕ} {want h i : ℕ} (x : ℕ) → length os ≡ length is → length ts ≡ length is → i < length is
    → x ≡ fnv_step (fnv_step (fnv_step h (get_or is i 0)) (get_or os i 0)) (get_or ts i 0) → Hashed is os ts want h i → Hashed is os ts want x (i + 1)
unfolding hash_transitions
hashed_step {is} {os} {ts} {want} {h} {i} x o t l e w = record {
  within = omega arith;
  rest = rw (add-one, e) (sym (ap (hash_transitions h) (transitions_drop is os ts i o t l)) ∙ w.rest);
}

pub hashed_all : {is os ts : List ℕ} {want h i : ℕ} → length is ≤ i → Hashed is os ts want h i → h ≡ want
unfolding hash_transitions transitions_of
hashed_all {is} {os} {ts} {want} {h} {i} l w = let r = w.rest in rw (drop_of_length-le is {i = i} l) at r
