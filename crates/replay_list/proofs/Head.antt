-- The head of a record, which is split off the list at its place: its numbers are those of the list, and the part stands behind it.
-- Assumes nothing.
use Rattle.std.specs.Prelude.{◌≡◌, Some, None, List, ℕ, ◌+◌, ◌≤◌, ◌<◌, length, take, drop}
use Rattle.std.proofs.Common.{refl, sym, ap, ◌∙◌, arith, le-leb, take-take}
use Rattle.std.proofs.lemmas.Bool.{lt-leb}
use Rattle.std.proofs.lemmas.List.{drop-take, drop-drop}
use Rattle.format.specs.Bytes.{le}
use Rattle.replay_list.specs.Records.{field_at, parsed_at}

module _ (s head behind : List ℕ) (at len : ℕ) (is_head : head ≡ take 15 (drop at s)) (is_behind : behind ≡ drop 15 (drop at s)) (is_len : len ≡ le (take 2 (drop 13 head))) where
  -- the number of n bytes at place k of the head
  field : (k m n : ℕ) → k + m ≡ 15 → n ≤ m → le (take n (drop k head)) ≡ field_at s (at + k) n
  field k m n is fits =
      ap (λ (h : List ℕ). le (take n (drop k h))) (is_head ∙ ap (λ (j : ℕ). take j (drop at s)) (sym is))
      ∙ ap (λ (t : List ℕ). le (take n t)) (drop-take k m (drop at s))
      ∙ ap le (take-take n m (drop k (drop at s)) fits ∙ ap (take n) (drop-drop k at s))

  len_told : len ≡ field_at s (at + 13) 2
  len_told = is_len ∙ field 13 2 2 refl (omega arith)

  pub parsed : (kind a b c : ℕ) (part : List ℕ) → at + 15 + len ≤ length s → kind ≡ le (take 1 (drop 0 head)) → a ≡ le (take 2 (drop 1 head))
      → b ≡ le (take 8 (drop 3 head)) → c ≡ le (take 2 (drop 11 head)) → part ≡ take len behind
      → Some (record { kind = kind; a = a; b = b; c = c; part = part }) ≡ parsed_at s at
  unfolding parsed_at
  parsed kind a b c part fits is_kind is_a is_b is_c is_part =
      let none : at + 0 ≡ at = omega arith in
      let k : kind ≡ field_at s at 1 = is_kind ∙ field 0 15 1 refl (omega arith) ∙ ap (λ (i : ℕ). field_at s i 1) none in
      let p : part ≡ take (field_at s (at + 13) 2) (drop (at + 15) s) = is_part ∙ ap (λ (t : List ℕ). take len t) (is_behind ∙ drop-drop 15 at s) ∙ ap (λ (n : ℕ). take n (drop (at + 15) s)) len_told in
      rw (le-leb (at + 15 + field_at s (at + 13) 2) (length s) (omega (arith, len_told)), k, is_a ∙ field 1 14 2 refl (omega arith), is_b ∙ field 3 12 8 refl (omega arith), is_c ∙ field 11 4 2 refl (omega arith), p) refl

  pub cut_short : length s < at + 15 + len → None ≡ parsed_at s at
  unfolding parsed_at
  cut_short short = rw (lt-leb (at + 15 + field_at s (at + 13) 2) (length s) (omega (arith, len_told))) refl
