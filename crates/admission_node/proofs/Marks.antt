-- The first address from a place on that has an entry, by the part of the table from that place on.
-- Assumes nothing.
use mathlib.Core.Path.{◌≡◌, sym, ap, ◌∙◌}
use mathlib.Core.List.{List}
use Prim.Native.Nat.{ℕ, ◌+◌, ◌-◌, ◌≤◌, ◌<◌}
use native.Mathlib.Omega.{arith}
use lib.ListN.{length, get_or, take, drop}
use Rattle.std.proofs.lemmas.List.{length-take, length-drop, get_or-take, get_or-drop}
use Rattle.admission_node.specs.Entries.{FirstEntry, FirstMarked}

module _ (d : List ℕ) (from n k : ℕ) (low : from ≤ n) (room : n ≤ length d) (first : FirstEntry (take (n - from) (drop from d)) k) where
  part_long : length (take (n - from) (drop from d)) ≡ n - from
  part_long = simp (length-take, length-drop) (omega arith)

  part_at : (j : ℕ) → from ≤ j → j < n → get_or (take (n - from) (drop from d)) (j - from) 0 ≡ get_or d j 0
  part_at j p l =
      let back : from + (j - from) ≡ j = omega arith in
      get_or-take (n - from) (drop from d) (j - from) 0 (omega arith) ∙ get_or-drop from d (j - from) 0 ∙ ap (λ i. get_or d i 0) back

  pub first_marked : FirstMarked d from n (from + k)
  first_marked =
      record {
        low = omega arith;
        high = omega (arith, first.within, part_long);
        none = λ j p l. sym (part_at j p (omega (arith, first.within, part_long))) ∙ first.none (j - from) (omega arith);
        marked = λ l z.
            let back : from + k - from ≡ k = omega arith in
            first.next (omega (arith, part_long))
            (ap (λ i. get_or (take (n - from) (drop from d)) i 0) (sym back) ∙ part_at (from + k) (omega arith) l ∙ z);
      }
