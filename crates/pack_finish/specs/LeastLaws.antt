-- Laws of least values and of rows that lose one.
--     from_each, from_value    a least value is below each
--     lessened_none, -step     a loop that subtracts
--     lessened_row, -above     a row after it; the rows above
--     lessened_all, -part      the whole of a list; a part of one
-- Assumes nothing.
use Rattle.std.specs.Prelude.{◌≡◌, refl, Bool, true, false, List, [], ◌∷◌, ◌++◌, map, ℕ, zero, suc, ◌+◌, ◌-◌, ◌*◌, ◌≤◌, ◌<◌, min, length, get_or, take, drop, set}
use Rattle.std.proofs.Common.{sym, ap, ◌∙◌, subst, inl, inr, ⊎_elim, arith, take_all, length-append, length-set, length-drop, length-take-le, get_or-set_same, get_or-set_other, get_or-take, get_or-drop, ext_get_or}
use Rattle.std.proofs.lemmas.List.{length-map, get_or-map, get_or_append_left, get_or-append_right}
use Rattle.std.specs.List.{fold}
use Rattle.std.proofs.Math.Decide.{ℕ_discrete}
use Rattle.packing_rows.specs.WorkTables.{row_in, least_num, least_from}
use Rattle.packing_rows.specs.WorkTableLaws.{length_row}
use Rattle.pack_finish.specs.FinishRow.{Lessened}

-- ---- least values

num_le : (ms : List ℕ) (v : ℕ) → least_num ms v ≤ v
unfolding least_num
num_le [] v = omega arith
num_le (m ∷ ms) v = omega (arith, num_le ms (min v m))

num_each : (ms : List ℕ) (v i : ℕ) → i < length ms → least_num ms v ≤ get_or ms i 0
unfolding least_num
num_each [] v i l = absurd (omega arith)
num_each (m ∷ ms) v zero l = omega (arith, num_le ms (min v m))
num_each (m ∷ ms) v (suc i) l = num_each ms (min v m) i (omega arith)

pub from_each : (final : Bool) (v : ℕ) (ms : List ℕ) (i : ℕ) → i < length ms → least_from final v ms ≤ get_or ms i 0
from_each true v ms i l = num_each ms v i l
from_each false v [] i l = absurd (omega arith)
from_each false v (m ∷ ms) zero l = num_le ms m
from_each false v (m ∷ ms) (suc i) l = num_each ms m i (omega arith)

pub from_value : (final : Bool) (v : ℕ) (ms : List ℕ) → final ≡ true → least_from final v ms ≤ v
from_value true v ms e = num_le ms v
from_value false v ms e = absurd (let z : ◌≡◌ {A = ℕ} 0 1 = cc in omega arith)

pub num_fold : (ms : List ℕ) (v : ℕ) → fold min v ms ≡ least_num ms v
unfolding least_num
num_fold [] v = refl
num_fold (m ∷ ms) v = num_fold ms (min v m)

-- ---- a row loses a number

pub lessened_none : (d : List ℕ) (at base : ℕ) → Lessened d d at 0 base
lessened_none d at base = record { long = refl; done = λ j l h. absurd (omega arith); rest = λ j h. refl }

pub lessened_step : {d₀ d : List ℕ} {at i base : ℕ} → Lessened d₀ d at i base → at + i < length d → Lessened d₀ (set d (at + i) (get_or d (at + i) 0 - base)) at (i + 1) base
lessened_step {d₀} {d} {at} {i} {base} s l = record {
  long = length-set d (at + i) _ ∙ s.long;
  done = λ j low high.
      elim (ℕ_discrete j (at + i)) [
        | yes z ↦ subst (λ (k : ℕ). get_or (set d (at + i) (get_or d (at + i) 0 - base)) k 0 ≡ get_or d₀ k 0 - base) (sym z)
            (get_or-set_same d (at + i) _ 0 l ∙ ap (λ (x : ℕ). x - base) (s.rest (at + i) (inr (omega arith))))
        | no z ↦ get_or-set_other d (at + i) j _ 0 z ∙ s.done j low (omega arith)
      ];
  rest = λ j h.
      get_or-set_other d (at + i) j _ 0 (λ z. ⊎_elim (λ q. omega arith) (λ q. omega arith) h)
      ∙ s.rest j (⊎_elim (λ q. inl q) (λ q. inr (omega arith)) h);
}

get_d_row : (t : List ℕ) (d n i : ℕ) → i < n → get_or (row_in t d n) i 0 ≡ get_or t (256 * d + i) 0
get_d_row t d n i l = get_or-take n (drop (256 * d) t) i 0 l ∙ get_or-drop (256 * d) t i 0

pub length_less : (base : ℕ) (l : List ℕ) → length (map (λ (m : ℕ). m - base) l) ≡ length l
length_less base l = length-map l (λ (m : ℕ). m - base)

pub lessened_row : {d₀ d : List ℕ} {n base : ℕ} (k : ℕ) → Lessened d₀ d (256 * k) n base → 256 * k + n ≤ length d₀
    → row_in d k n ≡ map (λ (m : ℕ). m - base) (row_in d₀ k n)
lessened_row {d₀} {d} {n} {base} k s room =
    let l₀ = length_row d₀ k n room in
    let l = length_row d k n (omega (arith, s.long)) in
    ext_get_or 0 (row_in d k n) (map (λ (m : ℕ). m - base) (row_in d₀ k n)) (l ∙ sym (length_less base (row_in d₀ k n) ∙ l₀))
    (λ i h.
    get_d_row d k n i (omega (arith, l)) ∙ s.done (256 * k + i) (omega arith) (omega (arith, l)) ∙ ap (λ (x : ℕ). x - base) (sym (get_d_row d₀ k n i (omega (arith, l))))
    ∙ sym (get_or-map (λ (m : ℕ). m - base) (row_in d₀ k n) i 0 0 (omega (arith, l, l₀))))

pub lessened_above : {d₀ d : List ℕ} {at n base : ℕ} → Lessened d₀ d at n base → at ≤ length d₀ → (k : ℕ) → k ≤ at → take k d ≡ take k d₀
lessened_above {d₀} {d} {at} {n} {base} s room k le =
    let l₀ = length-take-le k d₀ (omega arith) in
    let l = length-take-le k d (omega (arith, s.long)) in
    ext_get_or 0 (take k d) (take k d₀) (l ∙ sym l₀)
    (λ i h. get_or-take k d i 0 (omega (arith, l)) ∙ s.rest i (inl (omega (arith, l))) ∙ sym (get_or-take k d₀ i 0 (omega (arith, l))))

-- the whole of it
pub lessened_all : {d₀ d : List ℕ} {n base : ℕ} → n ≡ length d₀ → Lessened d₀ d 0 n base → d ≡ map (λ (m : ℕ). m - base) d₀
lessened_all {d₀} {d} {n} {base} e s =
    sym (take_all n d (omega (arith, s.long))) ∙ lessened_row 0 s (omega arith) ∙ ap (map (λ (m : ℕ). m - base)) (take_all n d₀ (omega arith))

-- a part of it, n' being the length by its ends
pub lessened_part : (d₀ part : List ℕ) (at n n' base : ℕ) → n' ≡ n → at + n ≤ length d₀ → part ≡ map (λ (m : ℕ). m - base) (take n' (drop at d₀))
    → Lessened d₀ (take at d₀ ++ (part ++ drop n' (drop at d₀))) at n base
lessened_part d₀ part at n n' base e room is =
    let front : length (take at d₀) ≡ at = length-take-le at d₀ (omega arith) in
    let back : length (drop at d₀) ≡ length d₀ - at = length-drop at d₀ in
    let middle : length part ≡ n = ap length is ∙ length_less base (take n' (drop at d₀)) ∙ length-take-le n' (drop at d₀) (omega arith) ∙ e in
    record {
      long = length-append (take at d₀) (part ++ drop n' (drop at d₀)) ∙ (omega (arith, length-append part (drop n' (drop at d₀)), length-drop n' (drop at d₀)));
      done = λ j low high.
          let place : at + (j - at) ≡ j = omega arith in
          get_or-append_right (take at d₀) (part ++ drop n' (drop at d₀)) at j 0 front low
          ∙ get_or_append_left part (drop n' (drop at d₀)) 0 (j - at) (omega arith)
          ∙ ap (λ (l : List ℕ). get_or l (j - at) 0) is
          ∙ get_or-map (λ (m : ℕ). m - base) (take n' (drop at d₀)) (j - at) 0 0 (omega (arith, length-take-le n' (drop at d₀) (omega arith)))
          ∙ ap (λ (x : ℕ). x - base) (get_or-take n' (drop at d₀) (j - at) 0 (omega arith) ∙ get_or-drop at d₀ (j - at) 0 ∙ ap (λ (i : ℕ). get_or d₀ i 0) place);
      rest = λ j.
          ⊎_elim (λ l. get_or_append_left (take at d₀) (part ++ drop n' (drop at d₀)) 0 j (omega arith) ∙ get_or-take at d₀ j 0 l)
          (λ h.
          let place : at + (n' + (j - at - n)) ≡ j = omega arith in
          get_or-append_right (take at d₀) (part ++ drop n' (drop at d₀)) at j 0 front (omega arith)
          ∙ get_or-append_right part (drop n' (drop at d₀)) n (j - at) 0 middle (omega arith)
          ∙ get_or-drop n' (drop at d₀) (j - at - n) 0 ∙ get_or-drop at d₀ (n' + (j - at - n)) 0 ∙ ap (λ (i : ℕ). get_or d₀ i 0) place);
    }
