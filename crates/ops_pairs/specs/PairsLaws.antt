-- Laws of pairs in arrays.
--     in_length, in_at, in_set       two arrays as one list: its length, the pair at a place, a pair put at a place
--     in_values, in_files            the arrays are the list's values and file numbers
--     the_values, the_files          so of pairs that are held
-- Assumes nothing.
use Rattle.std.specs.Prelude.{◌≡◌, refl, List, [], ◌∷◌, map, ℕ, zero, suc, ◌<◌, length, get_or, set}
use Rattle.std.proofs.Common.{sym, ap, ap₂, ◌∙◌, arith}
use Rattle.ops_spec.specs.Ops.{Indexed, indexed}
use Rattle.ops_pairs.specs.declared.Pairs.{Pairs}
use Rattle.ops_pairs.specs.Pairs.{padded, pairs_in, PairsAre}

pub in_length : (vs fs : List ℕ) → length vs ≡ length fs → length (pairs_in vs fs) ≡ length vs
in_length [] fs e = refl
in_length (v ∷ vs) [] e = absurd (omega arith)
in_length (v ∷ vs) (f ∷ fs) e = ap suc (in_length vs fs (omega arith))

pub in_at : (vs fs : List ℕ) (j : ℕ) (d : Indexed) → j < length vs → j < length fs → get_or (pairs_in vs fs) j d ≡ indexed (get_or vs j 0) (get_or fs j 0)
in_at [] fs j d h g = absurd (omega arith)
in_at (v ∷ vs) [] j d h g = absurd (omega arith)
in_at (v ∷ vs) (f ∷ fs) zero d h g = refl
in_at (v ∷ vs) (f ∷ fs) (suc j) d h g = in_at vs fs j d (omega arith) (omega arith)

pub in_set : (vs fs : List ℕ) (j v f : ℕ) → pairs_in (set vs j v) (set fs j f) ≡ set (pairs_in vs fs) j (indexed v f)
in_set [] fs j v f = refl
in_set (w ∷ vs) [] zero v f = refl
in_set (w ∷ vs) [] (suc j) v f = refl
in_set (w ∷ vs) (g ∷ fs) zero v f = refl
in_set (w ∷ vs) (g ∷ fs) (suc j) v f = ap (λ (l : List Indexed). indexed w g ∷ l) (in_set vs fs j v f)

pub in_values : (vs fs : List ℕ) → length vs ≡ length fs → vs ≡ map (λ (x : Indexed). x.value) (pairs_in vs fs)
in_values [] fs e = refl
in_values (v ∷ vs) [] e = absurd (omega arith)
in_values (v ∷ vs) (f ∷ fs) e = ap (λ (l : List ℕ). v ∷ l) (in_values vs fs (omega arith))

pub in_files : (vs fs : List ℕ) → length vs ≡ length fs → fs ≡ map (λ (x : Indexed). x.index) (pairs_in vs fs)
in_files [] [] e = refl
in_files [] (f ∷ fs) e = absurd (omega arith)
in_files (v ∷ vs) [] e = absurd (omega arith)
in_files (v ∷ vs) (f ∷ fs) e = ap (λ (l : List ℕ). f ∷ l) (in_files vs fs (omega arith))

pub the_values : {ps : List Indexed} {p : Pairs} → PairsAre ps p → p.values ≡ map (λ (x : Indexed). x.value) (padded ps)
the_values {p = p} h = in_values p.values p.files (h.values_len ∙ sym h.files_len) ∙ ap (map (λ (x : Indexed). x.value)) h.pairs

pub the_files : {ps : List Indexed} {p : Pairs} → PairsAre ps p → p.files ≡ map (λ (x : Indexed). x.index) (padded ps)
the_files {p = p} h = in_files p.values p.files (h.values_len ∙ sym h.files_len) ∙ ap (map (λ (x : Indexed). x.index)) h.pairs
