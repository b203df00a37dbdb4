-- A table that is wiped over the file.
-- Assumes nothing.
use Rattle.std.specs.Prelude.{◌≡◌, List, ◌++◌, ℕ, ◌≤◌, ◌<◌, length, get_or, drop, replicate}
use Rattle.std.proofs.Common.{ap, ◌∙◌, arith, length-append, length-drop, drop_at}
use Rattle.std.proofs.lemmas.List.{length-replicate, get_or-replicate}
use Rattle.std.proofs.Math.ListN.{get_or-append}
use Rattle.admission_node.specs.Entries.{Kept}
use Rattle.admission.specs.Outcome.{Wiped}

pub length_wiped : (n : ℕ) (d₀ d : List ℕ) → n ≤ length d₀ → Wiped n d₀ d → length d ≡ length d₀
length_wiped n d₀ d h e = ap length e ∙ simp (length-append, length-replicate, length-drop) (omega arith)

pub wiped_kept : (n : ℕ) (d₀ d : List ℕ) → n ≤ length d₀ → Wiped n d₀ d → Kept n d₀ d
wiped_kept n d₀ d h e =
    record {
      long = length_wiped n d₀ d h e;
      beyond = ap (drop n) e ∙ drop_at (replicate n 0) (drop n d₀) n (length-replicate n 0);
    }

pub wiped_at : (n : ℕ) (d₀ d : List ℕ) → Wiped n d₀ d → (j : ℕ) → j < n → get_or d j 0 ≡ 0
wiped_at n d₀ d e j h =
    ap (λ x. get_or x j 0) e ∙ get_or-append (replicate n 0) (drop n d₀) 0 j (rw (length-replicate {A = ℕ} n 0) h) ∙ get_or-replicate n j 0 0 h

pub wiped_after : {n : ℕ} {d₀ d e : List ℕ} → Kept n d₀ d → Wiped n d e → Wiped n d₀ e
wiped_after {n} k w = w ∙ ap (λ x. replicate n 0 ++ x) k.beyond
