-- Files with no node of their own (document 02, N3): a blank card, and a file of version 1 or 2 with only header and trailer.
--     blank_admitted         no bytes are admitted
--     blank_holds_nothing    and hold no key
--     old_empty              32 bytes of version 1 or 2 with root 0 open, and hold the empty key with 0 and nothing else
-- Assumes nothing.
use Rattle.std.specs.Prelude.{◌≡◌, refl, true, ◌⊎◌, List, [], ℕ, ◌+◌, ◌≤◌, ◌<◌, length}
use Rattle.std.proofs.Common.{sym, ap, ◌∙◌, inl, inr, arith}
use mathlib.Core.List.Memᴰ
use Rattle.format.specs.Node.{Node, sound, empty_final}
use Rattle.format.specs.Opening.{Meta, meta_of, opened, opening}
use Rattle.format.specs.OpeningExact.{RootRight, right_root}
use Rattle.format.specs.Paths.{Fst, fst_of, node_in, Path, here, follow, Held}
use Rattle.format.specs.Admitted.{empty, Shallow, Light, Admitted}
use Rattle.format.specs.Laws.NodeLaws.{node_at_zero, sound_not_empty}
use Rattle.format.specs.Laws.NodeFacts.{node_zero, node_zero_none}
use Rattle.format.specs.Laws.OpeningLaws.{blank_meta, opening_blank, opening_exactly, least_of_other}
use Rattle.format.specs.Laws.PathLaws.{blank_held}

-- ---- a blank card

-- no transition leads anywhere
blank_path : {f : Fst} {a : ℕ} {k : List ℕ} {sum b : ℕ} → length f.bytes ≡ 0 → Path f a k sum b → k ≡ []
blank_path z here = refl
blank_path {f} {a} z (follow m t e mem p) = absurd (omega (arith, sound_not_empty f.bytes f.version f.root a m e))

pub blank_admitted : Admitted []
unfolding Shallow Light
blank_admitted =
    record {
      meta = meta_of [];
      nodes = [];
      opens = opening_blank [] refl;
      chained = record { chain = empty (ap (λ (m : Meta). m.root) blank_meta); closed = λ a m t on e mem ne. absurd (Memᴰ.not-nil on) };
      shallow = λ a k sum b on p. omega (arith, ap length (blank_path refl p));
      light = λ a k sum b m on p e. absurd (omega (arith, sound_not_empty [] (meta_of []).version (meta_of []).root b m e));
    }

pub blank_holds_nothing : (m : Meta) (k : List ℕ) (v : ℕ) → ¬ Held (fst_of [] m) k v
blank_holds_nothing m k v h = blank_held refl h

-- ---- header and trailer alone, in version 1 or 2

-- from address 0 no transition leads on
zero_path : {f : Fst} {a : ℕ} {k : List ℕ} {sum b : ℕ} → a ≡ 0 → Path f a k sum b → (k ≡ []) × (sum ≡ 0) × (b ≡ 0)
zero_path z here = (refl, refl, z)
zero_path {f} {a} z (follow m t e mem p) = absurd (node_zero_none f a m e z t mem)

pub root_zero_holds : (f : Fst) → 0 < length f.bytes → f.root ≡ 0 → (k : List ℕ) (v : ℕ)
    → (Held f k v → (k ≡ []) × (v ≡ 0)) × ((k ≡ []) × (v ≡ 0) → Held f k v)
root_zero_holds f pos z k v = (only, holds)
  where
    only : Held f k v → (k ≡ []) × (v ≡ 0)
    only h =
        let p = zero_path z h.path in
        let last : h.last.final_output ≡ 0 = ap (λ (m : Node). m.final_output) (node_zero f h.to h.last h.ends p.2) in
        (p.0, omega (arith, h.value, p.1))

    holds : (k ≡ []) × (v ≡ 0) → Held f k v
    holds e =
        rw (e.0, e.1) (record {
          sum = 0;
          to = f.root;
          last = empty_final;
          path = here;
          ends = rw z (node_at_zero f.bytes f.version 0 pos);
          final = refl;
          value = refl;
        })

pub old_empty : (s : List ℕ) → length s ≡ 32 → ((meta_of s).version ≡ 1) ⊎ ((meta_of s).version ≡ 2) → (meta_of s).root ≡ 0
    → (opening s ≡ opened (meta_of s))
    × ((k : List ℕ) (v : ℕ) → (Held (fst_of s (meta_of s)) k v → (k ≡ []) × (v ≡ 0)) × ((k ≡ []) × (v ≡ 0) → Held (fst_of s (meta_of s)) k v))
unfolding RootRight
old_empty s len old z = (opens (from_1 old) (to_2 old), root_zero_holds (fst_of s (meta_of s)) (omega arith) z)
  where
    from_1 : ((meta_of s).version ≡ 1) ⊎ ((meta_of s).version ≡ 2) → 1 ≤ (meta_of s).version
    from_1 (inl e) = omega arith
    from_1 (inr e) = omega arith

    to_2 : ((meta_of s).version ≡ 1) ⊎ ((meta_of s).version ≡ 2) → (meta_of s).version ≤ 2
    to_2 (inl e) = omega arith
    to_2 (inr e) = omega arith

    opens : 1 ≤ (meta_of s).version → (meta_of s).version ≤ 2 → opening s ≡ opened (meta_of s)
    opens low high =
        let least = least_of_other (meta_of s).version (λ e. omega arith) in
        (opening_exactly s (opened (meta_of s))).1
        (right_root (record { low = omega arith; high = omega arith; version = record { from_1 = low; to_3 = omega arith } }) (inl (z, omega arith)))
