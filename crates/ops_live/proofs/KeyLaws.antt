-- The bytes of a key put among those of eight.
--     Putting, putting_mid, putting_all     a key's 256 bytes are put, the others stay
-- Assumes nothing.
use mathlib.Core.Path.{◌≡◌, refl, sym, ap, ◌∙◌}
use mathlib.Core.Logic.{⊎_elim, ◌⊎◌, inl, inr}
use mathlib.Core.List.{List, ◌++◌, append_assoc}
use Prim.Native.Nat.{ℕ, zero, suc, ◌+◌, ◌-◌, ◌*◌, ◌<◌, ◌≤◌}
use native.Mathlib.Omega.{arith}
use lib.ListN.{length, get_or, take, drop, length-drop, length-append, get_or-append}
use lib.Seq.{paste, get_or-take, get_or-drop, length-take-le, take-length, ext_get_or}
use Rattle.std.proofs.lemmas.List.{get_or-append_right}
use Rattle.reading.proofs.RunLaws.{lt_or}
use Rattle.reading.specs.Reading.{path_of, key_of}
use Rattle.stream_start.specs.Views.{stack_is}
use Rattle.stream_start.specs.StackLaws.{stack_none, stack_suc, key_stack}
use Rattle.stream.specs.declared.Plain.{Plain}
use Rattle.ops_keys.specs.declared.Place.{Place}
use Rattle.ops_keys.specs.Heads.{place_key, Within, BytesPut}

-- ---- a key by its bytes

key_length : (ks : List ℕ) (p : Place) → length ks ≡ 2048 → Within p → length (place_key ks p) ≡ p.levels - 1
key_length ks p len w =
    let a = length-drop 1 (drop (p.at * 256) ks) in
    let b = length-drop (p.at * 256) ks in
    let e = w.eight in
    let f = w.few in
    length-take-le (p.levels - 1) (drop 1 (drop (p.at * 256) ks)) (omega arith)

key_byte : (ks : List ℕ) (p : Place) (j : ℕ) → j < p.levels - 1 → get_or (place_key ks p) j 0 ≡ get_or ks (p.at * 256 + (1 + j)) 0
key_byte ks p j h =
    get_or-take (p.levels - 1) (drop 1 (drop (p.at * 256) ks)) j 0 h ∙ get_or-drop 1 (drop (p.at * 256) ks) j 0 ∙ get_or-drop (p.at * 256) ks (1 + j) 0

bytes_length : (is : List ℕ) (n : ℕ) → length is ≡ 256 → n ≤ 256 → length (take (n - 1) (drop 1 is)) ≡ n - 1
bytes_length is n len few = let a = length-drop 1 is in length-take-le (n - 1) (drop 1 is) (omega arith)

bytes_byte : (is : List ℕ) (n j : ℕ) → j < n - 1 → get_or (take (n - 1) (drop 1 is)) j 0 ≡ get_or is (1 + j) 0
bytes_byte is n j h = get_or-take (n - 1) (drop 1 is) j 0 h ∙ get_or-drop 1 is j 0

-- the same bytes, the same key
same_bytes : (ks is : List ℕ) (p : Place) → length ks ≡ 2048 → length is ≡ 256 → Within p → ((m : ℕ) → m < 256 → get_or ks (p.at * 256 + m) 0 ≡ get_or is m 0)
    → place_key ks p ≡ take (p.levels - 1) (drop 1 is)
same_bytes ks is p len long w same =
    let few = w.few in
    let a = key_length ks p len w in
    let b = bytes_length is p.levels long few in
    ext_get_or 0 (place_key ks p) (take (p.levels - 1) (drop 1 is)) (a ∙ sym b)
    (λ j h. key_byte ks p j (omega arith) ∙ same (1 + j) (omega arith) ∙ sym (bytes_byte is p.levels j (omega arith)))

-- the key of the levels stands in the bytes after the first
head_key_lem : (n : ℕ) (xs is ps os : List ℕ) → length is ≡ 256 → n ≤ 256 → take (n - 1) (drop 1 is) ≡ key_of (stack_is n xs is ps os)
unfolding path_of
head_key_lem n xs is ps os len few = ⊎_elim (λ (z : n ≡ 0). none z) (λ (h : 0 < n). some h) (zero_or n)
  where
    zero_or : (n : ℕ) → (n ≡ 0) ⊎ (0 < n)
    zero_or zero = inl refl
    zero_or (suc n) = inr (omega arith)

    none : n ≡ 0 → take (n - 1) (drop 1 is) ≡ key_of (stack_is n xs is ps os)
    none z = rw (z, stack_none xs is ps os)

    some : 0 < n → take (n - 1) (drop 1 is) ≡ key_of (stack_is n xs is ps os)
    some h = sym (ap key_of (stack_suc n xs is ps os h) ∙ key_stack (n - 1) xs is ps os (omega arith))

-- ---- a key put

pub record Putting (is : List ℕ) (from : ℕ) (ks₀ ks : List ℕ) : Type 0 where
  pub long : length ks ≡ 2048
  pub done : (m : ℕ) → m < 256 → get_or ks (from + m) 0 ≡ get_or is m 0
  pub front : (m : ℕ) → m < from → get_or ks m 0 ≡ get_or ks₀ m 0
  pub behind : (m : ℕ) → from + 256 ≤ m → get_or ks m 0 ≡ get_or ks₀ m 0

pub putting_mid : (is : List ℕ) (from : ℕ) (ks₀ ks : List ℕ) → length is ≡ 256 → length ks₀ ≡ 2048 → from + 256 ≤ 2048
    → ks ≡ paste ks₀ from is 256 → Putting is from ks₀ ks
putting_mid is from ks₀ ks li lk room pasted =
    let whole : take 256 is ≡ is = ap (λ (n : ℕ). take n is) (sym li) ∙ take-length is in
    let q = rw whole at pasted in
    let e : ks ≡ take from ks₀ ++ (is ++ drop (from + 256) ks₀) = q ∙ append_assoc (take from ks₀) is (drop (from + 256) ks₀) in
    let head : length (take from ks₀) ≡ from = length-take-le from ks₀ (omega arith) in
    let tail : length (drop (from + 256) ks₀) ≡ 2048 - (from + 256) = length-drop (from + 256) ks₀ ∙ omega arith in
    record {
      long = rw e (omega (arith, length-append (take from ks₀) (is ++ drop (from + 256) ks₀), length-append is (drop (from + 256) ks₀)));
      done = λ m h.
          rw e (get_or-append_right (take from ks₀) (is ++ drop (from + 256) ks₀) from (from + m) 0 head (omega arith)
          ∙ ap (λ (x : ℕ). get_or (is ++ drop (from + 256) ks₀) x 0) (omega arith)
          ∙ get_or-append is (drop (from + 256) ks₀) 0 m (omega arith));
      front = λ m h. rw e (get_or-append (take from ks₀) (is ++ drop (from + 256) ks₀) 0 m (omega arith) ∙ get_or-take from ks₀ m 0 h);
      behind = λ m h.
          rw e (get_or-append_right (take from ks₀) (is ++ drop (from + 256) ks₀) from m 0 head (omega arith)
          ∙ get_or-append_right is (drop (from + 256) ks₀) 256 (m - from) 0 li (omega arith)
          ∙ get_or-drop (from + 256) ks₀ (m - from - 256) 0
          ∙ ap (λ (x : ℕ). get_or ks₀ x 0) (omega arith));
    }

module _ (p : Plain) (i : ℕ) (ks₀ ks : List ℕ) (eight : i < 8) (long : length p.reading.stack.inps ≡ 256) (len : length ks₀ ≡ 2048)
    (P : Putting p.reading.stack.inps (i * 256) ks₀ ks) where
  abbrev place : Place
  place = record { at = i; levels = p.reading.levels }

  other : (q : Place) → Within q → ¬ (q.at ≡ i) → place_key ks q ≡ place_key ks₀ q
  other q w ne =
      let few = w.few in
      let a = key_length ks q P.long w in
      let b = key_length ks₀ q len w in
      ext_get_or 0 (place_key ks q) (place_key ks₀ q) (a ∙ sym b)
      (λ m h. key_byte ks q m (omega arith) ∙ byte m (omega arith) ∙ sym (key_byte ks₀ q m (omega arith)))
    where
      byte : (m : ℕ) → m < q.levels - 1 → get_or ks (q.at * 256 + (1 + m)) 0 ≡ get_or ks₀ (q.at * 256 + (1 + m)) 0
      byte m h =
          let few = w.few in
          ⊎_elim (λ (z : q.at < i). P.front (q.at * 256 + (1 + m)) (omega arith))
          (λ (z : i ≤ q.at). ⊎_elim (λ (y : i < q.at). P.behind (q.at * 256 + (1 + m)) (omega arith)) (λ (y : q.at ≤ i). absurd (ne (omega arith))) (lt_or i q.at))
          (lt_or q.at i)

  pub putting_all : BytesPut p i ks₀ ks place
  putting_all =
      let r = p.reading in
      record {
        here = record {
          at = refl;
          levels = refl;
          key = λ few.
              same_bytes ks r.stack.inps place P.long long (record { eight = eight; few = few }) (λ m h. P.done m (omega arith))
              ∙ head_key_lem r.levels r.stack.addrs r.stack.inps r.stack.trans r.stack.outs long few;
        };
        others = other;
        long = P.long;
      }
