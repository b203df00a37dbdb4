-- A buffer that is held to a part of a list: its front is compared, and the rest is what it held.
-- Assumes nothing.
use Rattle.std.specs.Prelude.{◌≡◌, Bool, true, false, not, List, ℕ, ◌+◌, ◌-◌, ◌≤◌, ◌<◌, eqb, ltb, length, get_or, take, drop}
use Rattle.std.specs.Cmp.Lexicographic.{pointwise}
use Rattle.std.proofs.Common.{refl, sym, ap, ◌∙◌, arith, lt-ltb, le-ltb, ltb-true, ltb-false, length-drop}
use Rattle.std.proofs.Math.Seq.{length-take-le}
use Rattle.std.proofs.lemmas.List.{ext_get_or, get_or-take, get_or-drop}
use Rattle.std.proofs.lemmas.Slice.Eq.{bytes_eq-Decides}
use Rattle.buffers.specs.Decide.{Decides}
use Rattle.buffers.specs.DecideLaws.{decides_false, decides_iff}
use Rattle.replay_list.specs.Tallies.{wanted_at, Holds, AllKept}

wanted_front : (s : List ℕ) (i : ℕ) → i < length s → wanted_at s i ≡ get_or s i 0
unfolding wanted_at
wanted_front s i l = rw (lt-ltb i (length s) l)

wanted_past : (s : List ℕ) (i : ℕ) → length s ≤ i → wanted_at s i ≡ 170
unfolding wanted_at
wanted_past s i past = rw (le-ltb i (length s) past)

module _ (s buf : List ℕ) (n m : ℕ) (is_n : n ≡ length s) (fits : n ≤ 4096) (long : length buf ≡ 4096) (is_m : m ≡ 4096 - n) where
  rest_at : (i : ℕ) → i < m → get_or (take m (drop n buf)) i 0 ≡ get_or buf (n + i) 0
  rest_at i l = get_or-take m (drop n buf) i 0 l ∙ get_or-drop n buf i 0

  rest_len : length (take m (drop n buf)) ≡ m
  rest_len = length-take-le m (drop n buf) (omega (arith, length-drop n buf))

  front : Holds s buf → take n buf ≡ s
  front h =
      let a : length (take n buf) ≡ n = length-take-le n buf (omega arith) in
      ext_get_or 0 (take n buf) s (a ∙ is_n)
      (λ i l. let low : i < n = omega (arith, a) in get_or-take n buf i 0 low ∙ h.bytes i (omega arith) ∙ wanted_front s i (omega arith))

  pub held_not : (r : Bool) → r ≡ not (pointwise eqb (take n buf) s) → r ≡ true → Decides false (Holds s buf)
  held_not r is taken =
      decides_false (λ h.
      let same : pointwise eqb (take n buf) s ≡ true = (bytes_eq-Decides (take n buf) s).1 (front h) in
      let both : true ≡ false = sym taken ∙ is ∙ ap not same in
      cc)

  pub held_if : (r : Bool) → r ≡ not (pointwise eqb (take n buf) s) → r ≡ false → {t : Bool} → Decides t (AllKept (take m (drop n buf))) → Decides t (Holds s buf)
  held_if r is passed = decides_iff to from
    where
      same : take n buf ≡ s
      same = (bytes_eq-Decides (take n buf) s).0 (go (pointwise eqb (take n buf) s) (sym passed ∙ is))
        where
          go : (t : Bool) → false ≡ not t → t ≡ true
          go true e = cc
          go false e = cc

      to : AllKept (take m (drop n buf)) → Holds s buf
      to kept = record { fits = omega arith; bytes = λ i l. by i l (ltb i n) refl }
        where
          by : (i : ℕ) → i < 4096 → (t : Bool) → ltb i n ≡ t → get_or buf i 0 ≡ wanted_at s i
          by i l true e =
              let low = ltb-true i n e in
              sym (get_or-take n buf i 0 low) ∙ ap (λ (xs : List ℕ). get_or xs i 0) same ∙ sym (wanted_front s i (omega arith))
          by i l false e =
              let past = ltb-false i n e in
              let place : n + (i - n) ≡ i = omega arith in
              let there : get_or buf (n + (i - n)) 0 ≡ 170 = sym (rest_at (i - n) (omega arith)) ∙ kept (i - n) (omega (arith, rest_len)) in
              (rw place at there) ∙ sym (wanted_past s i (omega arith))

      from : Holds s buf → AllKept (take m (drop n buf))
      from h i l =
          let low : i < m = omega (arith, rest_len) in
          rest_at i low ∙ h.bytes (n + i) (omega arith) ∙ wanted_past s (n + i) (omega arith)
