-- From what admission leaves in the depths to what the pass asks, and from what the pass answers to what filling the table answers.
-- The depths of an admitted file have an entry at each node that is reached, and at no other: of an entry it is only known that the node
-- cannot but be reached, and that is enough for each claim here, since each can be decided or denied.
-- Assumes nothing.
use mathlib.Core.Path.{◌≡◌, refl, sym, ap, ◌∙◌, subst}
use Rattle.std.specs.Prelude.{Ok, Err, Result, ⊤}
use Rattle.format.specs.declared.Refusal.{Refusal}
use Rattle.fst.specs.declared.Meta.{Meta}
use mathlib.Core.Logic.{inl, inr, ⊎_elim}
use mathlib.Core.List.{List}
use Prim.Native.Nat.{ℕ, ◌≤◌, ◌<◌}
use native.Mathlib.Decide.{ℕ_discrete, dec_le}
use native.Mathlib.Omega.{arith}
use lib.ListN.{length}
use Rattle.format.specs.Limits.{max_sum, SPACE}
use Rattle.format.specs.Node.{Node, Judgement, sound, unsound, SoundAt}
use Rattle.format.specs.Opening.{opening}
use Rattle.format.specs.Paths.{Fst, fst_with, fst_of, node_in}
use Rattle.format.specs.Admitted.{Admitted}
use Rattle.format.specs.Tables.{keys_from, InTable}
use Rattle.format.specs.Laws.NodeLaws.{node_at_cases}
use Rattle.format.specs.Laws.NodeFacts.{node_inside}
use Rattle.format.specs.Laws.KeysLaws.{keys_zero_le, keys_path_le}
use Rattle.format.specs.Laws.ReachedLaws.{reached_by, reached_stays}
use Rattle.format.specs.Laws.ChainLaws.{root_chain_sound}
use Rattle.fst.specs.declared.Meta as Code
use Rattle.fst.specs.Open.{meta_is, opening_is}
use Rattle.admission.specs.Outcome.{RefusedFor, Admits, Opens}
use Rattle.admission.specs.Outcome as Admission
use Rattle.counting.specs.CountOutcomes.{FewKeys, ManyKeys, CountRefusedFor, not_opened, no_space, not_admitted, too_many, Counts, CountOutcome}
use Rattle.counting.specs.CountPasses.{HasEntry, Countable, OverOne, Passed, Leaves}
use Rattle.counting.proofs.CountLaws.{root_many}

-- ---- the depths of an admitted file

module _ {s d₀ s₀ d t : List ℕ} (A : Admits s d₀ s₀ d t) where
  abbrev file : Fst
  file = fst_of s A.admitted.meta

  table_entered : {j : ℕ} → InTable file j → HasEntry d j
  table_entered {j} h z = omega (arith, A.depths.on j h)

  entered_table : {j : ℕ} → j < length s → HasEntry d j → ¬ ¬ InTable file j
  entered_table {j} l e none = e (A.depths.off j l none)

  table_sound : {j : ℕ} → InTable file j → (m : Node) × (node_in file j ≡ sound m)
  table_sound {j} h =
      ⊎_elim (λ z. absurd (h.not_zero z)) (λ mem. root_chain_sound A.admitted.chained.chain j mem) (reached_stays A.admitted.chained h.reached)

  table_inside : {j : ℕ} → InTable file j → j < length s
  table_inside {j} h = let n = table_sound h in node_inside file j n.0 n.1 h.not_zero

  entered_sound : (j : ℕ) → j < length s → HasEntry d j → SoundAt file.bytes file.version file.root j
  entered_sound j l e = go (node_in file j) refl
    where
      go : (x : Judgement) → node_in file j ≡ x → SoundAt file.bytes file.version file.root j
      go (sound m) is =
          ⊎_elim (λ z. absurd (entered_table l e (λ h. h.not_zero z.0))) (λ n. n.1) (node_at_cases file.bytes file.version file.root j m is)
      go unsound is =
          absurd (entered_table l e (λ h. let n = table_sound h in let o = n.1 in let z : ◌≡◌ {A = ℕ} 0 1 = cc in omega arith))

  entered_countable : {c : List ℕ} → length s ≤ length c → Countable file d c
  entered_countable room =
      record {
        room_depths = omega (arith, A.room_depths, A.depths.kept.long);
        room_counts = room;
        sounds = entered_sound;
        targets = λ j m u l e is mem ne z.
            entered_table l e (λ h. table_entered (record { not_zero = ne; reached = reached_by h.reached m u is mem }) z);
      }

  -- ---- what the pass answers

  all_few : {c₀ c : List ℕ} → Passed file d c₀ c (Ok tt) → FewKeys file
  unfolding FewKeys
  all_few all a r =
      elim (ℕ_discrete a 0) [
        | yes z ↦ omega (arith, ap (keys_from file) z, keys_zero_le file)
        | no ne ↦
            let h : InTable file a = record { not_zero = ne; reached = r } in
            (all.found a (table_inside h)).low (table_entered h)
      ]

  all_counts : {c₀ c : List ℕ} → length s ≤ length c₀ → Passed file d c₀ c (Ok tt) → Counts s d₀ s₀ c₀ d t c
  all_counts room all =
      record {
        admits = A;
        room_counts = room;
        few = all_few all;
        counts =
            record {
              on = λ a h. (all.found a (table_inside h)).on (table_entered h);
              off = λ a l none. (all.found a l).off (A.depths.off a l none);
              kept = all.kept;
            };
      }

  -- if the root had no more, no reached node would
  over_many : OverOne file d → ManyKeys file
  over_many one =
      elim (dec_le (keys_from file file.root) max_sum) [
        | yes low ↦ absurd (entered_table one.inside one.entered (λ h. omega (arith, one.over, keys_path_le h.reached.path)))
        | no high ↦ root_many file (omega arith)
      ]

  leaves_outcome : (c₀ c : List ℕ) → length s ≤ length c₀ → (r : Result ⊤ Refusal) → Leaves file d c₀ c r → CountOutcome s d₀ s₀ c₀ d t c r
  leaves_outcome c₀ c room (Ok tt) all = all_counts room all
  leaves_outcome c₀ c room (Err n) not = too_many A room not.is (over_many not.one) not.wiped

-- ---- the file as it was opened

-- what opens, opens in one way
same_file : {s : List ℕ} {v root : ℕ} (o : Opens s v root) (A : Admitted s) → fst_with s v root ≡ fst_of s A.meta
same_file {s} o A =
    let first = o.opens in
    let second = A.opens in
    let same : o.meta ≡ A.meta = cc in
    rw (o.version, o.root_is, same)

module _ {s d₀ s₀ d t : List ℕ} {v root : ℕ} (c₀ : List ℕ) (o : Opens s v root) (room : length s ≤ length c₀) where
  pub admitted_countable : Admits s d₀ s₀ d t → Countable (fst_with s v root) d c₀
  admitted_countable A = subst (λ (f : Fst). Countable f d c₀) (sym (same_file o A.admitted)) (entered_countable A room)

  pub admitted_counted : (c : List ℕ) (r : Result ⊤ Refusal) → Admits s d₀ s₀ d t → Leaves (fst_with s v root) d c₀ c r → CountOutcome s d₀ s₀ c₀ d t c r
  admitted_counted c r A l = leaves_outcome A c₀ c room r (subst (λ (f : Fst). Leaves f d c₀ c r) (same_file o A.admitted) l)

  -- a refusal of admission leaves the third table as it was
  pub admission_refused : {r : Refusal} → RefusedFor s d₀ s₀ d t r → CountRefusedFor s d₀ s₀ c₀ d t c₀ r
  admission_refused (Admission.not_opened e p q) = not_opened e p q refl
  admission_refused (Admission.no_space m e is short p q) = no_space m e is (⊎_elim inl (λ x. inr (inl x)) short) p q refl
  admission_refused (Admission.no_nodes m e rd rs is none p q) = not_admitted m e rd rs room (Admission.no_nodes m e rd rs is none p q) refl
  admission_refused (Admission.too_deep m l e rd rs is n long p q) = not_admitted m e rd rs room (Admission.too_deep m l e rd rs is n long p q) refl
  admission_refused (Admission.too_heavy m l e rd rs is n shallow large p q) =
      not_admitted m e rd rs room (Admission.too_heavy m l e rd rs is n shallow large p q) refl

-- ---- refused before the tables are touched

pub space_refused : {s : List ℕ} {v root : ℕ} (d₀ s₀ c₀ : List ℕ) → Opens s v root → length c₀ < length s → CountRefusedFor s d₀ s₀ c₀ d₀ s₀ c₀ SPACE
space_refused d₀ s₀ c₀ o short = no_space o.meta o.opens refl (inr (inr short)) refl refl refl

module _ {s : List ℕ} {r : Result Meta Refusal} (e : opening_is r ≡ opening s) where
  pub opening_refused : (d₀ s₀ c₀ : List ℕ) (n : Refusal) → r ≡ Err n → CountRefusedFor s d₀ s₀ c₀ d₀ s₀ c₀ n
  opening_refused d₀ s₀ c₀ n is = not_opened (sym e ∙ ap opening_is is) refl refl refl

  pub opening_opens : (m : Code.Meta) → r ≡ Ok m → Opens s m.version m.root
  opening_opens m is = record { meta = meta_is m; opens = sym e ∙ ap opening_is is; version = refl; root_is = refl }
