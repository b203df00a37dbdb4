-- The lookup by value as a loop: what the loop knows before each turn, the turn, and each way out. The answer is always that of the whole walk.
--     with_bytes k r                the bytes k before what is found
--     Searching f v₀ k room a v    the search for v₀ has taken the bytes k to the node at a, with v left
-- Assumes nothing.
use mathlib.Core.Path.{◌≡◌, refl, sym, ap, ◌∙◌}
use Rattle.format.specs.declared.Refusal.{Refusal}
use mathlib.Core.Bool.{true, false, ◌&&◌}
use mathlib.Core.List.{List, [], ◌∷◌, ◌++◌}
use Prim.Native.Nat.{ℕ, suc, ◌+◌, ◌-◌, ◌<◌}
use native.Mathlib.Omega.{arith}
use lib.Dec.{eqb}
use lib.ListN.{length, length-append}
use Rattle.format.specs.Limits.{max_path, NODE, DEEP}
use Rattle.format.specs.Node.{Node, sound, unsound, at, absent, transition_at}
use Rattle.format.specs.Paths.{Fst, node_in}
use Rattle.format.specs.Lookup.{KeyAnswer, last_fitting, with_byte, get_key_from}
use Rattle.format.specs.Laws.LookupLaws.{get_key_from_unsound, get_key_from_end, get_key_from_none, get_key_from_deep, get_key_from_step}

unfoldable pub with_bytes : List ℕ → KeyAnswer → KeyAnswer
with_bytes [] r = r
with_bytes (b ∷ k) r = with_byte b (with_bytes k r)

pub with_bytes_snoc : (k : List ℕ) (b : ℕ) (r : KeyAnswer) → with_bytes (k ++ (b ∷ [])) r ≡ with_bytes k (with_byte b r)
unfolding with_bytes
with_bytes_snoc [] b r = refl
with_bytes_snoc (c ∷ k) b r = ap (with_byte c) (with_bytes_snoc k b r)

pub with_bytes_found : (k : List ℕ) → with_bytes k (KeyAnswer.found []) ≡ KeyAnswer.found k
unfolding with_bytes
with_bytes_found [] = refl
with_bytes_found (b ∷ k) = ap (with_byte b) (with_bytes_found k)

pub with_bytes_none : (k : List ℕ) → with_bytes k KeyAnswer.none ≡ KeyAnswer.none
unfolding with_bytes
with_bytes_none [] = refl
with_bytes_none (b ∷ k) = ap (with_byte b) (with_bytes_none k)

pub with_bytes_refused : (k : List ℕ) (n : Refusal) → with_bytes k (KeyAnswer.refused n) ≡ KeyAnswer.refused n
unfolding with_bytes
with_bytes_refused [] n = refl
with_bytes_refused (b ∷ k) n = ap (with_byte b) (with_bytes_refused k n)

pub record Searching (f : Fst) (v₀ : ℕ) (k : List ℕ) (room a v : ℕ) : Type 0 where
  pub room_is : length k + room ≡ max_path
  pub same : get_key_from max_path f f.root v₀ ≡ with_bytes k (get_key_from room f a v)

pub searching_none : (f : Fst) (v : ℕ) → Searching f v [] max_path f.root v
unfolding with_bytes
searching_none f v = record { room_is = refl; same = refl }

module _ {f : Fst} {v₀ : ℕ} {k : List ℕ} {room a v : ℕ} (h : Searching f v₀ k room a v) where
  answer_is_lem : (r : KeyAnswer) → get_key_from room f a v ≡ r → get_key_from max_path f f.root v₀ ≡ with_bytes k r
  answer_is_lem r e = h.same ∙ ap (with_bytes k) e

  pub searching_unsound : node_in f a ≡ unsound → get_key_from max_path f f.root v₀ ≡ KeyAnswer.refused NODE
  searching_unsound e = answer_is_lem (KeyAnswer.refused NODE) (get_key_from_unsound f room a v e) ∙ with_bytes_refused k NODE

  module _ (m : Node) (e : node_in f a ≡ sound m) where
    pub searching_found : v ≡ 0 → m.final ≡ true → get_key_from max_path f f.root v₀ ≡ KeyAnswer.found k
    searching_found z is = answer_is_lem (KeyAnswer.found []) (get_key_from_end f a v m e room z is) ∙ with_bytes_found k

    module _ (on : (eqb v 0 && m.final) ≡ false) where
      pub searching_stuck : last_fitting m.transitions v ≡ absent → get_key_from max_path f f.root v₀ ≡ KeyAnswer.none
      searching_stuck none = answer_is_lem KeyAnswer.none (get_key_from_none f a v m e on room none) ∙ with_bytes_none k

      pub searching_deep : room ≡ 0 → (i : ℕ) → last_fitting m.transitions v ≡ at i → get_key_from max_path f f.root v₀ ≡ KeyAnswer.refused DEEP
      searching_deep z i fits =
          answer_is_lem (KeyAnswer.refused DEEP) (ap (λ r. get_key_from r f a v) z ∙ get_key_from_deep f a v m e on i fits) ∙ with_bytes_refused k DEEP

      pub searching_step : 0 < room → (i : ℕ) → last_fitting m.transitions v ≡ at i
          → Searching f v₀ (k ++ ((transition_at m.transitions i).inp ∷ [])) (room - 1) (transition_at m.transitions i).addr (v - (transition_at m.transitions i).out)
      searching_step pos i fits =
          let t = transition_at m.transitions i in
          let next : room ≡ suc (room - 1) = omega arith in
          record {
            room_is = omega (arith, length-append k (t.inp ∷ []), h.room_is);
            same =
                answer_is_lem (with_byte t.inp (get_key_from (room - 1) f t.addr (v - t.out)))
                (ap (λ r. get_key_from r f a v) next ∙ get_key_from_step f a v m e on (room - 1) i fits)
                ∙ sym (with_bytes_snoc k t.inp (get_key_from (room - 1) f t.addr (v - t.out)));
          }
