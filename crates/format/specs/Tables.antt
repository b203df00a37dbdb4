-- What the two tables of admission hold (document 01, "An admitted file"), and the table of keys (document 02, N11), by recursion on the
-- addresses, since every target lies below its node. TableLaws and KeysLaws show that these numbers are what their names say.
--     max_of g ts           the largest g over ts, 0 of none
--     longest f a          the longest path from the node at a
--     largest_sum f a       the largest path sum from the node at a, final output included
--     one b, sum_of g ts    1 where b holds; the sum of g over ts
--     keys_from f a         the number of keys from the node at a: 1 if it is final, and those from its transitions' targets
--     keys_at c a           the same by the entries of the table c
--     InTable f a          the tables have entries at a: a node with bytes that a path from the root reaches
--     KeysFilled f c       c is a table of keys as filled for the file
-- Assumes nothing.
use Rattle.std.specs.Prelude.{◌≡◌, Bool, true, false, cond, List, [], ◌∷◌, ℕ, zero, suc, ◌+◌, ◌≤◌, max, eqb, get_or}
use Rattle.format.specs.declared.Transition.{Transition}
use Rattle.format.specs.Limits.{max_sum}
use Rattle.format.specs.Node.{Node, Judgement, sound, unsound}
use Rattle.format.specs.Paths.{Fst, node_in, Reached}

unfoldable pub max_of : (Transition → ℕ) → List Transition → ℕ
max_of g [] = 0
max_of g (t ∷ ts) = max (max_of g ts) (g t)

-- the transitions and the final output of a judged node; none and 0 of one that is not sound
abbrev pub transitions_of? : Judgement → List Transition
transitions_of? (sound m) = m.transitions
transitions_of? unsound = []

abbrev pub final_output_of? : Judgement → ℕ
final_output_of? (sound m) = m.final_output
final_output_of? unsound = 0

-- the first argument is at least the address
unfoldable pub longest_to : ℕ → Fst → ℕ → ℕ
unfolding max_of
longest_to zero f a = 0
longest_to (suc k) f a = max_of (λ t. suc (longest_to k f t.addr)) (transitions_of? (node_in f a))

unfoldable pub longest : Fst → ℕ → ℕ
unfolding longest_to
longest f a = longest_to a f a

unfoldable pub largest_to : ℕ → Fst → ℕ → ℕ
unfolding max_of
largest_to zero f a = final_output_of? (node_in f a)
largest_to (suc k) f a = max (final_output_of? (node_in f a)) (max_of (λ t. t.out + largest_to k f t.addr) (transitions_of? (node_in f a)))

unfoldable pub largest_sum : Fst → ℕ → ℕ
unfolding largest_to
largest_sum f a = largest_to a f a

-- ---- the keys from a node

abbrev pub one : Bool → ℕ
one true = 1
one false = 0

unfoldable pub sum_of : (Transition → ℕ) → List Transition → ℕ
sum_of g [] = 0
sum_of g (t ∷ ts) = g t + sum_of g ts

-- the key that ends at a judged node; none at one that is not sound
abbrev pub own_keys? : Judgement → ℕ
own_keys? (sound m) = one m.final
own_keys? unsound = 0

-- the first argument is at least the address
unfoldable pub keys_to : ℕ → Fst → ℕ → ℕ
unfolding sum_of
keys_to zero f a = own_keys? (node_in f a)
keys_to (suc k) f a = own_keys? (node_in f a) + sum_of (λ t. keys_to k f t.addr) (transitions_of? (node_in f a))

unfoldable pub keys_from : Fst → ℕ → ℕ
unfolding keys_to
keys_from f a = keys_to a f a

-- the keys from the node at a by the table c; address 0 counts one key and has no entry
abbrev pub keys_at : List ℕ → ℕ → ℕ
keys_at c a = cond (eqb a 0) 1 (get_or c a 0)

-- ---- the entries

-- address 0 has no bytes, and so no entry
pub record InTable (f : Fst) (a : ℕ) : Type 0 where
  pub not_zero : ¬ (a ≡ 0)
  pub reached : Reached f a

pub record Filled (f : Fst) (c : List ℕ) (a : ℕ) : Type 0 where
  pub entry : get_or c a 0 ≡ keys_from f a
  pub fits : keys_from f a ≤ max_sum

abbrev pub KeysFilled : Fst → List ℕ → Type 0
KeysFilled f c = (a : ℕ) → InTable f a → Filled f c a
