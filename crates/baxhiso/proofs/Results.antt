-- From a refusal of admission to what the function for C leaves. No refusal's number is 0, which is the result of an admitted file.
-- Assumes nothing.
use Rattle.std.proofs.Common.{◌≡◌, refl, List, ℕ, ◌≤◌, arith}
use Rattle.std.specs.Prelude.{zero, suc, pos, Ok, Err, Result, ⊤}
use Rattle.format.specs.declared.Refusal.{Refusal}
use Rattle.format.specs.Limits.{number}
use Rattle.format.specs.Laws.RefusalLaws.{number_from}
use Rattle.admission.specs.Outcome.{RefusedFor, Outcome}
use Rattle.baxhiso.specs.Exports.{code, done_of, AdmitLeaves}

refused_leaves : {s d₀ s₀ d t : List ℕ} (why : Refusal) → RefusedFor s d₀ s₀ d t why → AdmitLeaves s d₀ s₀ d t (code why)
refused_leaves {s} {d₀} {s₀} {d} {t} why h = go (number why) (number_from why) refl
  where
    go : (n : ℕ) → 1 ≤ n → number why ≡ n → AdmitLeaves s d₀ s₀ d t (pos n)
    go zero l e = absurd (omega arith)
    go (suc n) l e = (why, e, h)

pub done_leaves : (s d₀ s₀ d t : List ℕ) (r : Result ⊤ Refusal) → Outcome s d₀ s₀ d t r → AdmitLeaves s d₀ s₀ d t (done_of r)
done_leaves s d₀ s₀ d t (Ok u) h = h
done_leaves s d₀ s₀ d t (Err why) h = refused_leaves why h
