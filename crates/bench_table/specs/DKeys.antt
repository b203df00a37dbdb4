-- The table of keys of the 50-byte file of document 01's listing: whatever three tables are lent, if each has room for 50 entries, it is
-- filled, with 2 at address 21, 3 at address 29 and 0 at the other addresses of the file.
--     keys_t, keys_root    the keys from its two nodes
--     ThirdTable c         these entries
--     counted_D            that, for every outcome of the fill
-- Assumes nothing.
use Rattle.std.specs.Prelude.{◌≡◌, refl, List, ℕ, ◌≤◌, ◌<◌, length, get_or, Ok, Result, ⊤}
use Rattle.std.proofs.Common.{sym, ap, ◌∙◌, subst, ⊎_elim, arith}
use Rattle.format.specs.declared.Refusal.{Refusal}
use mathlib.Core.List.Memᴰ
use Rattle.format.specs.Bytes.{bytes_of}
use Rattle.format.specs.Opening.{Meta, opened, opening}
use Rattle.format.specs.Paths.{Fst, fst_of}
use Rattle.format.specs.Tables.{sum_of, keys_from, InTable}
use Rattle.format.specs.Laws.KeysLaws.{keys_of, keys_zero, keys_path_le}
use Rattle.format.specs.Laws.ReachedLaws.{reached_root, reached_by, reached_stays}
use Rattle.counting.specs.CountOutcomes.{FewKeys, Counts, CountOutcome}
use Rattle.counting.proofs.CountExactly.{FewAdmitted, count_exactly}
use Rattle.bench_table.specs.BenchTable.{D}
use Rattle.bench_table.specs.DAdmitted.{root_node, t_node, in_two, nodes_two, meta_d, opens_D, root_D, t_D, admitted_D, meta_D}

abbrev file : Fst
file = fst_of D meta_d

length_D : length D ≡ 50
unfolding bytes_of
length_D = refl

-- ---- the numbers

keys_none : keys_from file 0 ≡ 1
keys_none = keys_zero file (omega (arith, length_D))

pub keys_t : keys_from file 21 ≡ 2
unfolding sum_of
keys_t = omega (arith, keys_of file 21 t_node t_D, keys_none)

pub keys_root : keys_from file 29 ≡ 3
unfolding sum_of
keys_root = omega (arith, keys_of file 29 root_node root_D, keys_t, keys_none)

few : FewKeys file
unfolding FewKeys
few a r = omega (arith, keys_path_le r.path, keys_root)

-- ---- the reached nodes

root_in : InTable file 29
root_in = record { not_zero = λ z. omega arith; reached = reached_root file }

t_in : InTable file 21
t_in = record { not_zero = λ z. omega arith; reached = reached_by (reached_root file) root_node _ root_D (Memᴰ.head refl) }

only_these : (a : ℕ) → ¬ (a ≡ 21) → ¬ (a ≡ 29) → ¬ InTable file a
only_these a not_t not_root h =
    ⊎_elim (λ z. h.not_zero z) (λ on. ⊎_elim (λ e. not_root e) (λ e. not_t e) (in_two on)) (reached_stays (nodes_two file refl root_D t_D) h.reached)

-- ---- the table

pub record ThirdTable (c : List ℕ) : Type 0 where
  pub at_21 : get_or c 21 0 ≡ 2
  pub at_29 : get_or c 29 0 ≡ 3
  pub elsewhere : (a : ℕ) → a < 50 → ¬ (a ≡ 21) → ¬ (a ≡ 29) → get_or c a 0 ≡ 0

same_file : {m : Meta} → opening D ≡ opened m → fst_of D m ≡ file
same_file {m} e = let known = opens_D in let same : m ≡ meta_d = cc in rw same

filled_D : {d₀ s₀ c₀ d t c : List ℕ} → Counts D d₀ s₀ c₀ d t c → ThirdTable c
filled_D {c = c} o =
    let is = same_file o.admits.admitted.opens in
    record {
      at_21 = o.counts.on 21 (subst (λ (f : Fst). InTable f 21) (sym is) t_in) ∙ ap (λ (f : Fst). keys_from f 21) is ∙ keys_t;
      at_29 = o.counts.on 29 (subst (λ (f : Fst). InTable f 29) (sym is) root_in) ∙ ap (λ (f : Fst). keys_from f 29) is ∙ keys_root;
      elsewhere = λ a l not_t not_root.
          o.counts.off a (omega (arith, length_D)) (λ h. only_these a not_t not_root (subst (λ (f : Fst). InTable f a) is h));
    }

few_D : FewAdmitted D
few_D = record { admitted = admitted_D; few = subst (λ (m : Meta). FewKeys (fst_of D m)) (sym meta_D) few }

pub counted_D : (d₀ s₀ c₀ d t c : List ℕ) (r : Result ⊤ Refusal) → 50 ≤ length d₀ → 50 ≤ length s₀ → 50 ≤ length c₀ → CountOutcome D d₀ s₀ c₀ d t c r
    → (r ≡ (Ok tt)) × ThirdTable c
counted_D d₀ s₀ c₀ d t c r h g k o =
    let is = (count_exactly D d₀ s₀ c₀ d t c r (omega (arith, length_D)) (omega (arith, length_D)) (omega (arith, length_D)) o).1 few_D in
    (is, filled_D (subst (λ x. CountOutcome D d₀ s₀ c₀ d t c x) is o))
