-- The two answers of judging a node, from its shape.
-- Assumes nothing.
use Rattle.std.specs.Prelude.{Ok, Err, ◌≡◌, refl, List, [], ℕ, ◌+◌, ◌-◌, ◌<◌, length, take, drop}
use Rattle.std.proofs.Math.Path.{sym, ap}
use Rattle.std.proofs.Common.{◌∙◌, arith}
use Rattle.format.specs.Bytes.{le}
use Rattle.format.specs.Node as F
use Rattle.format.specs.Node.{end_len, shape_of, outputs_at, inputs_at, inputs_in, shape_inputs, node_of, SoundShape, SoundAt, sound}
use Rattle.format.specs.Laws.NodeLaws.{node_at_zero, node_at_blank, node_at_sound, node_at_unsound}
use Rattle.node_sound.specs.JudgingLaws.{Parts, parts}
use Rattle.node.specs.declared.Node.{Node}
use Rattle.node.specs.Read.{meaning, Judges, empty_node}

-- the answer for a sound node of the shape h
abbrev pub code_node : F.Shape → ℕ → ℕ → ℕ → ℕ → Node
code_node h first fo inp outs = record {
  state = h.state;
  first = first;
  is_final = h.final;
  ntrans = h.ntrans;
  tsize = h.tsize;
  osize = h.osize;
  index_len = h.indexed;
  final_output = fo;
  input = inp;
  outputs = outs;
}

pub judged_unsound : (s : List ℕ) (v root a : ℕ) → ¬ (a ≡ 0) → ¬ SoundAt s v root a → Judges s v root a (Err (record {}))
judged_unsound s v root a ne not_sound = record {
  answer = sym (node_at_unsound s v root a ne not_sound);
  readable = λ m e. absurd (let z : ◌≡◌ {A = ℕ} 0 1 = cc in omega arith);
}

-- no bytes, no node
pub judged_blank : (s : List ℕ) (v root a : ℕ) → length s ≡ 0 → Judges s v root a (Err (record {}))
judged_blank s v root a z = record {
  answer = sym (node_at_blank s v root a z);
  readable = λ m e. absurd (let z : ◌≡◌ {A = ℕ} 0 1 = cc in omega arith);
}

pub judged_empty : (s : List ℕ) (v root : ℕ) → 0 < length s → Judges s v root 0 (Ok empty_node)
unfolding F.transitions_of F.bytes_down F.down_from F.numbers_down F.Ascending F.TargetsRight
judged_empty s v root pos = record {
  answer = sym (node_at_zero s v root pos);
  readable = λ m e. let q : empty_node ≡ m = cc in rw (← q) (record {
    room = omega arith;
    tsize_le = omega arith;
    osize_le = omega arith;
    single = λ z. absurd (let y : ◌≡◌ {A = ℕ} 0 1 = cc in omega arith);
    ascending = empty_ascending;
    targets = empty_targets;
    entries_len = λ ne. absurd (ne refl);
    entries = λ ne. absurd (ne refl);
  });
}
  where
    empty_ascending : F.Ascending []
    empty_ascending i l = absurd (omega arith)

    empty_targets : F.TargetsRight 0 []
    empty_targets i l = absurd (omega arith)

module _ (s : List ℕ) (v root a : ℕ) (h : F.Shape) (is_h : h ≡ shape_of s v a) (ne : ¬ (a ≡ 0)) where
  held : Parts h
  held = parts s v root a h is_h ne

  pub judged_yes : (fo inp outs : ℕ) → SoundShape s root a h (a + 1 - h.size) → fo ≡ le (take (end_len h.final h.osize) (drop (a + 1 - h.size) s))
      → inputs_in h.state s (inputs_at (outputs_at (a + 1 - h.size) h.final h.osize) h.ntrans h.osize h.tsize) h.ntrans inp ≡ shape_inputs s a h (a + 1 - h.size)
      → outs ≡ outputs_at (a + 1 - h.size) h.final h.osize → Judges s v root a (Ok (code_node h (a + 1 - h.size) fo inp outs))
  unfolding node_of
  judged_yes fo inp outs is_sound is_fo is_inputs is_outs = rw is_outs (record {
    answer = ap sound same ∙ sym (node_at_sound s v root a ne (rw is_h at is_sound));
    readable = λ m e. let q : code_node h (a + 1 - h.size) fo inp (outputs_at (a + 1 - h.size) h.final h.osize) ≡ m = cc in rw (← q) (record {
      room = omega (arith, is_sound.above, is_sound.inside, held.whole);
      tsize_le = is_sound.sizes.tsize_le;
      osize_le = is_sound.sizes.osize_le;
      single = held.single;
      ascending = rw is_inputs is_sound.ascending;
      targets = is_sound.targets;
      entries_len = held.entries;
      entries = rw is_inputs is_sound.entries;
    });
  })
    where
      same : meaning s (code_node h (a + 1 - h.size) fo inp (outputs_at (a + 1 - h.size) h.final h.osize)) ≡ node_of s v a
      same = rw (is_fo, is_inputs, is_h)
