-- One node, by the entries of its targets: what is known after the first i of its transitions.
--     SurveyedTo ..       their largest depth and their largest sum
-- Assumes nothing.
use Rattle.std.specs.Prelude.{Option, Some, None, cond, Bool, true, false, ◌&&◌, leb, ◌-◌, ◌%◌, ◌^◌}
use Rattle.std.proofs.Common.{le-leb}
use Rattle.std.proofs.Math.Decide.{dec_le}
use Rattle.std.proofs.lemmas.Bool.{lt-leb}
use mathlib.Core.Path.{◌≡◌, refl, sym, ap, ◌∙◌, subst}
use mathlib.Core.Logic.{⊎_elim}
use mathlib.Core.List.Memᴰ
use mathlib.Core.List.{List, [], ◌∷◌, ◌++◌, Memᴰ}
use Prim.Native.Nat.{ℕ, ◌+◌, ◌≤◌, ◌<◌, max}
use native.Mathlib.Numerals.{add-one}
use native.Mathlib.Omega.{arith}
use lib.ListN.{length, take}
use lib.Seq.{take-suc, take_all}
use Rattle.format.specs.declared.Transition.{Transition}
use Rattle.format.specs.Limits.{max_path, max_sum}
use Rattle.format.specs.Node.{transition_at}
use Rattle.format.specs.Laws.TransitionLaws.{at_member}
use Rattle.format.specs.Tables.{max_of}
use Rattle.admission_node.specs.Entries.{child_depth, child_sum, deepest, heaviest, total_as, raised_by, Surveyable, Surveyed}
use Rattle.admission_node.specs.TotalLaws.{total_of_le, raised_total}

-- ---- the largest over one transition more

pub max_snoc : (g : Transition → ℕ) (ts : List Transition) (t : Transition) → max_of g (ts ++ (t ∷ [])) ≡ max (max_of g ts) (g t)
unfolding max_of
max_snoc g [] t = refl
max_snoc g (u ∷ ts) t = omega (arith, max_snoc g ts t)

-- the first i + 1 transitions
take_more : (ts : List Transition) (i : ℕ) → i < length ts → take (i + 1) ts ≡ take i ts ++ (transition_at ts i ∷ [])
take_more ts i l = rw add-one (take-suc ts i (record { inp = 0; out = 0; addr = 0 }) l)

max_more : (g : Transition → ℕ) (ts : List Transition) (i : ℕ) → i < length ts → max_of g (take (i + 1) ts) ≡ max (max_of g (take i ts)) (g (transition_at ts i))
max_more g ts i l = ap (max_of g) (take_more ts i l) ∙ max_snoc g (take i ts) (transition_at ts i)

deepest_more : (d : List ℕ) (ts : List Transition) (i : ℕ) → i < length ts
    → deepest d (take (i + 1) ts) ≡ max (deepest d (take i ts)) (child_depth d (transition_at ts i).addr)
unfolding deepest
deepest_more d ts i l = max_more (λ t. child_depth d t.addr) ts i l

heaviest_more : (s : List ℕ) (out : ℕ) (ts : List Transition) (i : ℕ) → i < length ts
    → heaviest s out (take (i + 1) ts) ≡ max (heaviest s out (take i ts)) ((transition_at ts i).out + child_sum s (transition_at ts i).addr)
unfolding heaviest
heaviest_more s out ts i l = omega (arith, max_more (λ t. t.out + child_sum s t.addr) ts i l)

pub each_more : (P : Transition → Type 0) (ts : List Transition) (i : ℕ) → i < length ts → ((t : Transition) → Memᴰ t (take i ts) → P t)
    → P (transition_at ts i) → (t : Transition) → Memᴰ t (take (i + 1) ts) → P t
each_more P ts i l before this t m =
    ⊎_elim (λ k. before t k) (λ k. subst P (sym (Memᴰ.eq_of_singleton k)) this)
    (Memᴰ.append_cases (take i ts) (subst (λ x. Memᴰ t x) (take_more ts i l) m))

-- ---- the loop

pub record SurveyedTo (d s : List ℕ) (out : ℕ) (ts : List Transition) (i best : ℕ) (total : Option ℕ) : Type 0 where
  pub low : best ≤ max_path + 2
  pub best_is : best ≡ deepest d (take i ts)
  pub total_is : total ≡ total_as (heaviest s out (take i ts))

pub surveyed_none : {d s : List ℕ} {out : ℕ} {ts : List Transition} → Surveyable d s out ts → SurveyedTo d s out ts 0 0 (Some out)
unfolding deepest heaviest max_of
surveyed_none {out = out} ok =
    let same : out ≡ max out 0 = omega arith in
    record {
      low = omega arith;
      best_is = refl;
      total_is = total_of_le out ok.out_le ∙ ap total_as same;
    }

module _ {d s : List ℕ} {out : ℕ} {ts : List Transition} (ok : Surveyable d s out ts) (i : ℕ) (l : i < length ts) (a : ℕ) (a_is : a ≡ (transition_at ts i).addr) where
  pub target_in_depths : a < length d
  target_in_depths = rw a_is (ok.in_depths (transition_at ts i) (at_member ts i l))

  pub target_in_sums : a < length s
  target_in_sums = rw a_is (ok.in_sums (transition_at ts i) (at_member ts i l))

  module _ (c : ℕ) (c_is : c ≡ child_depth d a) where
    depth_is : c ≡ child_depth d (transition_at ts i).addr
    depth_is = c_is ∙ ap (child_depth d) a_is

    pub target_small : c ≤ max_path + 2
    target_small = omega (arith, depth_is, ok.small (transition_at ts i) (at_member ts i l))

    pub surveyed_step : {best : ℕ} {total : Option ℕ} (w x best' : ℕ) (total' : Option ℕ) → SurveyedTo d s out ts i best total
        → x ≡ child_sum s a → w ≡ (transition_at ts i).out → best' ≡ max best c → total' ≡ raised_by total (w + x)
        → SurveyedTo d s out ts (i + 1) best' total'
    surveyed_step {best} {total} w x best' total' before x_is w_is best_now total_now =
        let small = ok.small (transition_at ts i) (at_member ts i l) in
        let sum_is : w + x ≡ (transition_at ts i).out + child_sum s (transition_at ts i).addr = rw (w_is, x_is, a_is) in
        record {
          low = omega (arith, before.low, depth_is);
          best_is = omega (arith, before.best_is, depth_is, deepest_more d ts i l);
          total_is =
              total_now
              ∙ ap (λ u. raised_by u (w + x)) before.total_is
              ∙ raised_total (heaviest s out (take i ts)) (w + x)
              ∙ ap (λ u. total_as (max (heaviest s out (take i ts)) u)) sum_is
              ∙ ap total_as (sym (heaviest_more s out ts i l));
        }

pub surveyed_all : {d s : List ℕ} {out : ℕ} {ts : List Transition} {i best : ℕ} {total : Option ℕ} → SurveyedTo d s out ts i best total → length ts ≤ i
    → Surveyed d s out ts (record { depth = best + 1; total = total })
surveyed_all {d} {s} {out} {ts} {i} {best} {total} h l =
    let all : take i ts ≡ ts = take_all i ts l in
    record {
      depth = ap (λ u. u + 1) (h.best_is ∙ ap (deepest d) all);
      total = h.total_is ∙ ap (λ u. total_as (heaviest s out u)) all;
    }

-- ---- a total by a flag

-- one sum more, which is added past the limit or not
pub raised_flag : (fits : Bool) (most w s : ℕ) → w ≤ max_sum → s ≤ max_sum
    → cond (fits && leb w (max_sum - s)) (Some (max most ((w + s) % 2 ^ 64))) None ≡ raised_by (cond fits (Some most) None) (w + s)
raised_flag false most w s lw ls = refl
raised_flag true most w s lw ls =
    elim (dec_le (w + s) max_sum) [
      | yes p ↦
          let same : (w + s) % 2 ^ 64 ≡ w + s = omega arith in
          rw (le-leb w (max_sum - s) (omega arith), le-leb (w + s) max_sum p, same) refl
      | no p ↦ rw (lt-leb w (max_sum - s) (omega arith), lt-leb (w + s) max_sum (omega arith)) refl
    ]

-- ---- a node with one transition

pub surveyed_single : {d s : List ℕ} {out : ℕ} {ts : List Transition} → Surveyable d s out ts → length ts ≡ 1 → (a : ℕ) → a ≡ (transition_at ts 0).addr
    → (c : ℕ) → c ≡ child_depth d a → (w x : ℕ) (total : Option ℕ) → x ≡ child_sum s a → w ≡ (transition_at ts 0).out
    → total ≡ raised_by (Some out) (w + x) → Surveyed d s out ts (record { depth = c + 1; total = total })
surveyed_single ok one a a_is c c_is w x total x_is w_is total_is =
    surveyed_all
    (surveyed_step ok 0 (omega (arith, one)) a a_is c c_is w x c total (surveyed_none ok) x_is w_is (omega arith) total_is)
    (omega (arith, one))
