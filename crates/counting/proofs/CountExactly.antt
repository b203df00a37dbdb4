-- What the answers of filling the table of keys say of the file: where the three tables have room, it is filled exactly when the file is
-- admitted and no reached node has more than 2^64 - 1 keys.
--     count_exactly     that, as one claim
--     count_root        some reached node has more exactly when the root has
--     counted_filled    the table is one as filled for the file
--     counted_none      with root 0 all its entries are 0
--     blank_counted     a file without bytes is counted, whatever the tables are, and they stay as they were
-- Assumes nothing.
use Rattle.std.specs.Prelude.{◌≡◌, refl, List, [], ℕ, ◌≤◌, ◌<◌, length, get_or, Ok, Err, Result, ⊤}
use Rattle.std.proofs.Common.{ap, subst, ⊎_elim, arith}
use Rattle.format.specs.declared.Refusal.{Refusal}
use Rattle.format.specs.Limits.{max_sum}
use Rattle.format.specs.Opening.{Meta, opened, opening}
use Rattle.format.specs.Paths.{Fst, fst_of, Path, here, follow}
use Rattle.format.specs.Admitted.{Admitted}
use Rattle.format.specs.Tables.{keys_from, KeysFilled}
use Rattle.format.specs.Laws.NodeFacts.{node_zero_none}
use Rattle.format.specs.Laws.KeysLaws.{keys_zero_le}
use Rattle.format.specs.Laws.OpeningLaws.{blank_root}
use Rattle.format.specs.Laws.BlankLaws.{blank_admitted}
use Rattle.admission.specs.Exactly.{not_refused}
use Rattle.counting.specs.CountOutcomes.{FewKeys, ManyKeys, CountRefusedFor, not_opened, no_space, not_admitted, too_many, Counts, CountOutcome}
use Rattle.counting.proofs.CountLaws.{many_root, root_many, few_not_many}

-- an admitted file, as it opens, in which no reached node has more than 2^64 - 1 keys
pub record FewAdmitted (s : List ℕ) : Type 0 where
  pub admitted : Admitted s
  pub few : FewKeys (fst_of s admitted.meta)

-- ---- such a file is not refused

-- what opens, opens in one way
same_file : (s : List ℕ) {m m' : Meta} → opening s ≡ opened m → opening s ≡ opened m' → fst_of s m ≡ fst_of s m'
same_file s {m = m} {m' = m'} e e' = let same : m ≡ m' = cc in rw same

not_turned : {s d₀ s₀ c₀ d t c : List ℕ} {r : Refusal} → length s ≤ length d₀ → length s ≤ length s₀ → length s ≤ length c₀ → FewAdmitted s
    → ¬ CountRefusedFor s d₀ s₀ c₀ d t c r
not_turned h g k a (not_opened e p q w) = let o = a.admitted.opens in let z : ◌≡◌ {A = ℕ} 0 1 = cc in omega arith
not_turned h g k a (no_space m o e short p q w) = ⊎_elim (λ x. omega arith) (λ y. ⊎_elim (λ x. omega arith) (λ x. omega arith) y) short
not_turned h g k a (not_admitted m o rd rs rc why w) = not_refused h g a.admitted why
not_turned {s} h g k a (too_many A rc e many w) =
    few_not_many (subst (λ (f : Fst). FewKeys f) (same_file s a.admitted.opens A.admitted.opens) a.few) many

counted_is : (s d₀ s₀ c₀ d t c : List ℕ) (r : Result ⊤ Refusal) → length s ≤ length d₀ → length s ≤ length s₀ → length s ≤ length c₀
    → CountOutcome s d₀ s₀ c₀ d t c r → FewAdmitted s → r ≡ Ok tt
counted_is s d₀ s₀ c₀ d t c (Ok tt) h g k o a = refl
counted_is s d₀ s₀ c₀ d t c (Err n) h g k o a = absurd (not_turned h g k a o)

is_counted : {s d₀ s₀ c₀ d t c : List ℕ} → Counts s d₀ s₀ c₀ d t c → FewAdmitted s
is_counted o = record { admitted = o.admits.admitted; few = o.few }

pub count_exactly : (s d₀ s₀ c₀ d t c : List ℕ) (r : Result ⊤ Refusal) → length s ≤ length d₀ → length s ≤ length s₀ → length s ≤ length c₀
    → CountOutcome s d₀ s₀ c₀ d t c r → (r ≡ Ok tt → FewAdmitted s) × (FewAdmitted s → r ≡ (Ok tt))
count_exactly s d₀ s₀ c₀ d t c r h g k o =
    (λ e. is_counted (subst (λ x. CountOutcome s d₀ s₀ c₀ d t c x) e o), counted_is s d₀ s₀ c₀ d t c r h g k o)

-- ---- the root

-- root 0 has at most one key
pub count_root : (f : Fst) → (ManyKeys f → max_sum < keys_from f f.root) × (max_sum < keys_from f f.root → ManyKeys f)
count_root f = (many_root, root_many f)

-- ---- the table

pub counted_filled : {s d₀ s₀ c₀ d t c : List ℕ} (o : Counts s d₀ s₀ c₀ d t c) → KeysFilled (fst_of s o.admits.admitted.meta) c
unfolding FewKeys
counted_filled o a h = record { entry = o.counts.on a h; fits = o.few a h.reached }

-- ---- root 0, and no bytes

stays_zero : {f : Fst} {a : ℕ} {k : List ℕ} {sum b : ℕ} → Path f a k sum b → a ≡ 0 → b ≡ 0
stays_zero here z = z
stays_zero {f} {a} (follow m t e mem p) z = absurd (node_zero_none f a m e z t mem)

pub counted_none : {s d₀ s₀ c₀ d t c : List ℕ} (o : Counts s d₀ s₀ c₀ d t c) → o.admits.admitted.meta.root ≡ 0 → (a : ℕ) → a < length s → get_or c a 0 ≡ 0
counted_none o z a l = o.counts.off a l (λ h. h.not_zero (stays_zero h.reached.path z))

blank_few : FewAdmitted []
unfolding FewKeys
blank_few =
    let f = fst_of [] blank_admitted.meta in
    record {
      admitted = blank_admitted;
      few = λ a r.
          let zero = stays_zero r.path (blank_root [] blank_admitted.meta blank_admitted.opens refl) in
          omega (arith, ap (keys_from f) zero, keys_zero_le f);
    }

pub blank_counted : (d₀ s₀ c₀ d t c : List ℕ) (r : Result ⊤ Refusal) → CountOutcome [] d₀ s₀ c₀ d t c r → (r ≡ (Ok tt)) × (d ≡ d₀) × (t ≡ s₀) × (c ≡ c₀)
blank_counted d₀ s₀ c₀ d t c r o =
    let is = (count_exactly [] d₀ s₀ c₀ d t c r (omega arith) (omega arith) (omega arith) o).1 blank_few in
    let all = subst (λ x. CountOutcome [] d₀ s₀ c₀ d t c x) is o in
    (is, all.admits.depths.kept.beyond, all.admits.sums.kept.beyond, all.counts.kept.beyond)
