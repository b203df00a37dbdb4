-- The beginning of a listing, case by case.
--     begins_counted     the unbounded reading of a file whose keys are counted begins
-- Assumes nothing.
use mathlib.Core.Path.{◌≡◌, refl, sym}
use Rattle.std.specs.Prelude.{Ok, Err, Result}
use Rattle.format.specs.declared.Refusal.{Refusal}
use mathlib.Core.Logic.{inl, ⊎_elim}
use mathlib.Core.List.{List}
use Prim.Native.Nat.{ℕ, ◌≤◌, ◌<◌}
use native.Mathlib.Omega.{arith}
use lib.ListN.{length}
use Rattle.format.specs.Limits.{max_path}
use Rattle.format.specs.Strings.{unbounded}
use Rattle.counting.specs.CountOutcomes.{Counts}
use Rattle.counting.proofs.CountExactly.{counted_filled}
use Rattle.plain.specs.Plain as P
use Rattle.plain.specs.Plain.{begun, start_plain}
use Rattle.plain.proofs.PlainLaws.{start_plain_only}
use Rattle.stream.specs.Plains.{begun_is}
use Rattle.stream.specs.declared.Plain.{Plain}
use Rattle.listing_start.specs.Begun.{Begins as BeginsAs, begins}

-- the table is long enough and as filled, so the start is not refused
unbounded_begins : {s d₀ s₀ c₀ d t c : List ℕ} (a : Counts s d₀ s₀ c₀ d t c) → (p : P.Plain) × (start_plain s unbounded unbounded c ≡ begun p)
unbounded_begins {s} {c = c} a =
    ⊎_elim (λ w. w)
    (λ w. absurd (⊎_elim (λ x. ⊎_elim (λ (h : max_path < 0). omega arith) (λ (h : max_path < 0). omega arith) x.1) (λ x. let l = x.1 in omega (arith, a.room_counts, a.counts.kept.long)) w))
    (start_plain_only a.admits.admitted unbounded unbounded c (inl (counted_filled a)))

pub begins_counted : {s d₀ s₀ c₀ d t c : List ℕ} (r : Result Plain Refusal) → length s ≤ 4096 → Counts s d₀ s₀ c₀ d t c → begun_is r ≡ start_plain s unbounded unbounded c
    → BeginsAs s d₀ s₀ c₀ d t c r
begins_counted (Ok p) h a e = begins h p refl a (sym e)
begins_counted (Err n) h a e = let w = (unbounded_begins a).1 in let z : ◌≡◌ {A = ℕ} 0 1 = cc in absurd (omega arith)
