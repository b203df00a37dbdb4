-- The rows by value of document 01's bench table, drawn from what is promised of numbered files (`get_key_exact`) and from the keys that D
-- holds, and not computed.
--     runs_same           a reading has one run to its end
--     keys_D              D holds "a" with 1, "at" with 3 and "e" with 4, and nothing else
--     values_D            by value 3 is "at", by value 2 none
-- Assumes nothing.
use Rattle.std.specs.Prelude.{◌≡◌, refl, ℕ, ◌≤◌}
use Rattle.std.proofs.Common.{sym, ◌∙◌, ap, ⊎_elim, arith}
use mathlib.Core.List.Memᴰ
use mathlib.Core.List.{List, [], ◌∷◌, Memᴰ}
use Rattle.format.specs.Limits.{max_path}
use Rattle.format.specs.Paths.{fst_of, Held}
use Rattle.format.specs.Strings.{unbounded}
use Rattle.format.specs.Lookup.{value, get, found, get_key, KeyAnswer}
use Rattle.format.specs.Exact.{GetExact, KeyExact}
use Rattle.format.specs.Laws.LookupHeld.{get_exact}
use Rattle.format.specs.Laws.NumberedLaws.{get_key_exact}
use Rattle.reading.specs.Reading.{View, started, start, Answer, end, Step, next}
use Rattle.reading.specs.Demand.{Entry, entry, hand_out}
use Rattle.reading.specs.WholeRun.{Runs, run_end, run_key, Whole}
use Rattle.reading.proofs.WholeLaws.{whole, between_all}
use Rattle.bench_table.specs.BenchTable.{D, Reads, bench_table}
use Rattle.bench_table.specs.DAdmitted.{meta_d, admitted_D, numbered_D, meta_D, numbered_meta_D}

-- ---- one run

runs_same : {s : List ℕ} {space : ℕ} {r p q : View} {es fs : List Entry} → Runs s space r es p → Runs s space r fs q → es ≡ fs
runs_same (run_end x) (run_end y) = refl
runs_same (run_end x) (run_key e y more) =
    let a = ap (λ (o : Step). o.answer) (sym x ∙ y) in
    let z : ◌≡◌ {A = ℕ} 0 1 = cc in absurd (omega arith)
runs_same (run_key e x more) (run_end y) =
    let a = ap (λ (o : Step). o.answer) (sym x ∙ y) in
    let z : ◌≡◌ {A = ℕ} 0 1 = cc in absurd (omega arith)
runs_same {s} {space} (run_key {r₁ = r₁} {es = es} d x xs) (run_key {r₁ = r₂} {es = fs} e y ys) =
    let a : hand_out d ≡ hand_out e = ap (λ (o : Step). o.answer) (sym x ∙ y) in
    let k : d.key ≡ e.key = cc in
    let v : d.value ≡ e.value = cc in
    let one : d ≡ e = ap (λ (l : List ℕ). entry l d.value) k ∙ ap (λ (n : ℕ). entry e.key n) v in
    let after : r₁ ≡ r₂ = ap (λ (o : Step). o.reading) (sym x ∙ y) in
    let more : es ≡ fs = runs_same xs (rw (sym after) at ys) in
    rw (one, more)

-- ---- the keys that D holds

abbrev pub entries_d : List Entry
entries_d = entry (97 ∷ []) 1 ∷ entry (97 ∷ 116 ∷ []) 3 ∷ entry (101 ∷ []) 4 ∷ []

whole_D : Whole admitted_D unbounded unbounded max_path
whole_D = whole admitted_D unbounded unbounded (omega arith) (omega arith) max_path (omega arith)

same_entries : whole_D.entries ≡ entries_d
same_entries =
    let row = bench_table.D-whole in
    let begins : started whole_D.reading ≡ started row.reading = sym whole_D.starts ∙ row.starts in
    let one : whole_D.reading ≡ row.reading = cc in
    runs_same whole_D.runs (rw (sym one) at row.runs)

pub keys_D : (k : List ℕ) (v : ℕ) → Held (fst_of D meta_d) k v → Memᴰ (entry k v) entries_d
keys_D k v h = rw same_entries at (whole_D.none_left k v (rw meta_D h) (between_all k))

-- ---- the rows

pub record ValuesD : Type 0 where
  -- D by value 3 is "at"
  pub at_3 : get_key D 3 max_path ≡ found (97 ∷ 116 ∷ [])
  -- by value 2 none
  pub none_2 : get_key D 2 max_path ≡ KeyAnswer.none

abbrev value_in : Entry → ℕ
value_in e = e.value

not_2 : (k : List ℕ) → ¬ Held (fst_of D meta_d) k 2
not_2 k h = by (keys_D k 2 h)
  where
    by : Memᴰ (entry k 2) entries_d → ⊥
    by q =
        ⊎_elim (λ (e : entry k 2 ≡ entry (97 ∷ []) 1). omega (arith, ap value_in e))
        (λ q₁.
        ⊎_elim (λ (e : entry k 2 ≡ entry (97 ∷ 116 ∷ []) 3). omega (arith, ap value_in e))
        (λ q₂.
        ⊎_elim (λ (e : entry k 2 ≡ entry (101 ∷ []) 4). omega (arith, ap value_in e)) (λ q₃. Memᴰ.not-nil q₃) (Memᴰ.cases_cons q₂))
        (Memᴰ.cases_cons q₁))
        (Memᴰ.cases_cons q)

at_held : Held (fst_of D meta_d) (97 ∷ 116 ∷ []) 3
at_held = rw meta_D at ((get_exact admitted_D (97 ∷ 116 ∷ [])).held_get 3 bench_table.D-at)

pub values_D : ValuesD
values_D =
    record {
      at_3 = (get_key_exact numbered_D 3 max_path).get_key_held (omega arith) (97 ∷ 116 ∷ []) (rw numbered_meta_D at_held);
      none_2 = (get_key_exact numbered_D 2 max_path).get_key_none (omega arith) (λ k h. not_2 k (rw numbered_meta_D at h));
    }
