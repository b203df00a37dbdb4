-- A node that was judged, read again by its address.
--     sound_of, not_zero         it is sound; with a transition it is not at address 0
--     no_count                   address 0 has no transition
--     same_count                 the numbers read again are those of the judged node
--     leads_sound, leads_reads   a judged node with a transition i is sound; its numbers, read again, have it too
--     met_inner                  what entering a sound node with one transition says
-- Assumes nothing.
use mathlib.Core.Path.{◌≡◌, refl, sym, ap, ◌∙◌}
use mathlib.Core.Logic.{⊎_elim}
use mathlib.Core.List.{List}
use Prim.Native.Nat.{ℕ, ◌<◌, ◌≤◌}
use native.Mathlib.Omega.{arith}
use lib.ListN.{length, get_or}
use Rattle.format.specs.Node as F
use Rattle.format.specs.Node.{SoundAt, node_at, node_of, sound}
use Rattle.format.specs.Laws.NodeLaws.{node_at_cases, node_at_sound, not_final}
use Rattle.format.specs.Paths.{Fst, node_in}
use Rattle.node_sound.specs.JudgingLaws.{sound_low}
use Rattle.node.specs.declared.Node.{Node}
use Rattle.node.specs.Read.{meaning, Judges, Readable}
use Rattle.node.specs.ReadLaws.{length_node_transitions}
use Rattle.std.specs.Prelude.{Ok, None}
use Rattle.range_node.specs.Entries.{Leads, met_of}

sound_same : {m n : F.Node} → sound m ≡ sound n → m ≡ n
sound_same e = cc

module _ (f : Fst) (a : ℕ) {n : F.Node} (is : node_in f a ≡ sound n) where
  pub sound_of : ¬ (a ≡ 0) → SoundAt f.bytes f.version f.root a
  sound_of ne = ⊎_elim (λ w. absurd (ne w.0)) (λ w. w.1) (node_at_cases f.bytes f.version f.root a n is)

  pub no_count : a ≡ 0 → 0 ≡ length n.transitions
  no_count z =
      ⊎_elim (λ w. ap (λ (x : F.Node). length x.transitions) (sym w.1)) (λ w. absurd (w.0 z)) (node_at_cases f.bytes f.version f.root a n is)

  pub not_zero : (i : ℕ) → i < length n.transitions → ¬ (a ≡ 0)
  not_zero i has z = omega (arith, no_count z)

  module _ {m : Node} (j : Judges f.bytes f.version f.root a (Ok m)) where
    same : meaning f.bytes m ≡ n
    same = sound_same (j.answer ∙ is)

    readable : Readable f.bytes m
    readable = j.readable m refl

    pub same_count : m.ntrans ≡ length n.transitions
    same_count = sym (length_node_transitions f.bytes m readable) ∙ ap (λ (x : F.Node). length x.transitions) same

    pub reads : (i : ℕ) → i < length n.transitions → Readable f.bytes m × (i < m.ntrans)
    reads i has = (readable, omega (arith, same_count))

-- a node with a transition i, and its numbers as they are read again
pub leads_sound : {f : Fst} {a i : ℕ} (l : Leads f a i) → SoundAt f.bytes f.version f.root a
leads_sound {f} {a} {i} l = sound_of f a l.is (not_zero f a l.is i l.has)

pub leads_reads : {f : Fst} {a i : ℕ} (l : Leads f a i) {m : Node} → Judges f.bytes f.version f.root a (Ok m)
    → Readable f.bytes m × (i < m.ntrans)
leads_reads {f} {a} {i} l j = reads f a l.is j i l.has

-- ---- as it is entered

module _ (s : List ℕ) (v root a : ℕ) (h : SoundAt s v root a) where
  not_low : ¬ (a ≡ 0)
  not_low z = omega (arith, sound_low s v root a h)

  pub met_inner : 128 ≤ get_or s a 0 → Ok None ≡ met_of (node_at s v root a)
  unfolding node_of
  met_inner big = sym (ap met_of (node_at_sound s v root a not_low h) ∙ rw (not_final (get_or s a 0) big))
