-- The pops by pattern over the arrays: what the walk says of each way out of a turn, and the contract that it gives.
--     told_key                what a number tells of the level with i bytes
--     PoppingBy ..            the walk goes on from the first k levels
--     popping-..              the contract at each way out, and the next turn
-- Assumes nothing.
use mathlib.Core.Path.{◌≡◌, refl, sym, ◌∙◌, ap, subst}
use Rattle.std.specs.Prelude.{Ok, Err, Some, None, Result, Option}
use Rattle.std.proofs.lemmas.Bool.{and_parts}
use mathlib.Core.Bool.{Bool, true, false, ◌&&◌}
use mathlib.Core.List.{List, ◌∷◌}
use Prim.Native.Nat.{ℕ, ◌-◌, ◌<◌, ◌≤◌}
use native.Mathlib.Omega.{arith}
use borrow.Author.Tests.{ltb-true}
use lib.Dec.{ltb}
use lib.ListN.{length, get_or, take, drop, length-drop}
use lib.Seq.{length-take-le, take-take}
use Rattle.format.specs.Node.{sound, unsound}
use Rattle.format.specs.Paths.{Fst, fst_with, node_in}
use Rattle.format.specs.Strings.{Bound}
use Rattle.node.specs.declared.Node.{Node}
use Rattle.node.specs.declared.Unsound.{Unsound}
use Rattle.node.specs.Read.{meaning, Readable}
use Rattle.node.specs.ReadLaws.{length_node_transitions}
use Rattle.reading.specs.Reading.{Level}
use Rattle.reading.specs.Visits.{left}
use Rattle.reading.proofs.LeftLaws.{left_pop}
use Rattle.stream_start.specs.Views.{level_at, stack_is}
use Rattle.stream_start.specs.StackLaws.{stack_none, stack_suc, key_stack}
use Rattle.pattern.specs.Pattern.{Pattern, start_test, walk_by}
use Rattle.pattern.specs.FitCount.{goes_on}
use Rattle.pattern.proofs.TurnLaws.{live_test, turn_end, turn_bad, turn_popped}
use Rattle.patterned_walk.specs.Walks.{Told, PopsBy}

pub told_key : {n : ℕ} {rest : Bool} {levels fit : ℕ} {is : List ℕ} {p : Pattern} → Told n rest levels fit is p → (i : ℕ) → i < levels → levels ≤ 256
    → start_test p.positions p.rest (take i (drop 1 is)) ≡ goes_on fit n rest i
told_key {n} {rest} {levels} {fit} {is} {p} w i h g =
    let len : length (take (levels - 1) (drop 1 is)) ≡ levels - 1 = length-take-le (levels - 1) (drop 1 is) (simp length-drop (omega (arith, w.inps_len))) in
    ap (start_test p.positions p.rest) (sym (take-take i (levels - 1) (drop 1 is) (omega arith)))
    ∙ w.tells.each i (omega (arith, len))
    ∙ rw (w.count, w.any_rest_lem)

pub record PoppingBy (s : List ℕ) (v root n : ℕ) (rest : Bool) (xs ps : List ℕ) (levels fit k : ℕ) : Type 0 where
  pub most : levels ≤ 256
  pub within : k ≤ levels
  pub same : (is os : List ℕ) (p : Pattern) → Told n rest levels fit is p → (hi : Bound) (t : ℕ)
      → walk_by (fst_with s v root) p hi (stack_is k xs is ps os) t ≡ walk_by (fst_with s v root) p hi (stack_is levels xs is ps os) t
  pub less : (is os : List ℕ) → left (fst_with s v root) (stack_is k xs is ps os) ≤ left (fst_with s v root) (stack_is levels xs is ps os)

pub popping_none : (s : List ℕ) (v root n : ℕ) (rest : Bool) (xs ps : List ℕ) (levels fit : ℕ) → levels ≤ 256
    → PoppingBy s v root n rest xs ps levels fit levels
popping_none s v root n rest xs ps levels fit h =
    record { most = h; within = omega arith; same = λ is os p w hi t. refl; less = λ is os. omega arith }

below_one : {a b c : ℕ} → a < b → b ≤ c → a ≤ c
below_one h g = omega arith

pair_of : {k j : ℕ} {m y : Node} → ◌≡◌ {A = Result (Option (ℕ × Node)) Unsound} (Ok (Some (k, m))) (Ok (Some (j, y))) → (k ≡ j) × (m ≡ y)
pair_of {k} {j} {m} {y} e =
    let both : ◌≡◌ {A = ℕ × Node} (k, m) (j, y) = cc in
    (ap (λ (p : ℕ × Node). p.0) both, ap (λ (p : ℕ × Node). p.1) both)

module _ {s : List ℕ} {v root n : ℕ} {rest : Bool} {xs ps : List ℕ} {levels fit k : ℕ} (w : PoppingBy s v root n rest xs ps levels fit k) where
  abbrev f : Fst
  f = fst_with s v root

  pub popping_end : k ≤ 0 → PopsBy s v root n rest xs ps levels fit (Ok None)
  popping_end h = record {
    seen = λ is os p told hi t.
        let e : k ≡ 0 = omega arith in
        sym (turn_end f p hi t)
        ∙ ap (λ (x : List Level). walk_by f p hi x t) (sym (ap (λ (j : ℕ). stack_is j xs is ps os) e ∙ stack_none xs is ps os))
        ∙ w.same is os p told hi t;
    low = λ j m e. absurd (let z : ◌≡◌ {A = ℕ} 0 1 = cc in omega arith);
    ready = λ j m e. absurd (let z : ◌≡◌ {A = ℕ} 0 1 = cc in omega arith);
    fits = λ j m e. absurd (let z : ◌≡◌ {A = ℕ} 0 1 = cc in omega arith);
    less = λ j m e. absurd (let z : ◌≡◌ {A = ℕ} 0 1 = cc in omega arith);
  }

  module _ (pos : 0 < k) where
    top_of : (is os : List ℕ) → stack_is k xs is ps os ≡ level_at (k - 1) xs is ps os ∷ stack_is (k - 1) xs is ps os
    top_of is os = stack_suc k xs is ps os pos

    from_top : (is os : List ℕ) (p : Pattern) → Told n rest levels fit is p → (hi : Bound) (t : ℕ)
        → walk_by f p hi (level_at (k - 1) xs is ps os ∷ stack_is (k - 1) xs is ps os) t ≡ walk_by f p hi (stack_is levels xs is ps os) t
    from_top is os p told hi t = ap (λ (x : List Level). walk_by f p hi x t) (sym (top_of is os)) ∙ w.same is os p told hi t

    pub popping_bad : (u : Unsound) → node_in f (get_or xs (k - 1) 0) ≡ unsound → PopsBy s v root n rest xs ps levels fit (Err u)
    popping_bad u e = record {
      seen = λ is os p told hi t.
          sym (turn_bad f p hi t (level_at (k - 1) xs is ps os) (stack_is (k - 1) xs is ps os) e) ∙ from_top is os p told hi t;
      low = λ j m e. absurd (let z : ◌≡◌ {A = ℕ} 0 1 = cc in omega arith);
      ready = λ j m e. absurd (let z : ◌≡◌ {A = ℕ} 0 1 = cc in omega arith);
      fits = λ j m e. absurd (let z : ◌≡◌ {A = ℕ} 0 1 = cc in omega arith);
      less = λ j m e. absurd (let z : ◌≡◌ {A = ℕ} 0 1 = cc in omega arith);
    }

    module _ (m : Node) (e : node_in f (get_or xs (k - 1) 0) ≡ sound (meaning s m)) (readable : Readable s m) {place : ℕ} (ei : place ≡ get_or ps (k - 1) 0) where
      live_is : (is os : List ℕ) (p : Pattern) → Told n rest levels fit is p
          → live_test p (meaning s m) (level_at (k - 1) xs is ps os) (stack_is (k - 1) xs is ps os) ≡ (ltb place m.ntrans && goes_on fit n rest (k - 1))
      live_is is os p told =
          let key = key_stack (k - 1) xs is ps os (omega (arith, told.inps_len, w.within, w.most)) in
          let t = told_key told (k - 1) (omega (arith, w.within)) w.most in
          rw (length_node_transitions s m readable, key, t, ei)

      pub popping_at : (ltb place m.ntrans && goes_on fit n rest (k - 1)) ≡ true → PopsBy s v root n rest xs ps levels fit (Ok (Some (k - 1, m)))
      popping_at live =
          let both = and_parts (ltb place m.ntrans) (goes_on fit n rest (k - 1)) live in
          let next : get_or ps (k - 1) 0 < m.ntrans = omega (arith, ltb-true place m.ntrans both.0) in
          record {
            seen = λ is os p told hi t. from_top is os p told hi t;
            low = λ j y q. let z : k - 1 ≡ j = (pair_of q).0 in omega (arith, w.within);
            ready = λ j y q. let z : k - 1 ≡ j = (pair_of q).0 in let x : m ≡ y = (pair_of q).1 in rw (← z, ← x) (record { node = e; readable = readable; next = next });
            fits = λ j y q. let z : k - 1 ≡ j = (pair_of q).0 in rw (← z) both.1;
            less = λ j y q is os.
                let z : k - 1 ≡ j = (pair_of q).0 in
                subst (λ (i : ℕ). left f (level_at i xs is ps os ∷ stack_is i xs is ps os) ≤ left f (stack_is levels xs is ps os)) z
                (subst (λ (x : List Level). left f x ≤ left f (stack_is levels xs is ps os)) (top_of is os) (w.less is os));
          }

      pub popping_on : (ltb place m.ntrans && goes_on fit n rest (k - 1)) ≡ false → PoppingBy s v root n rest xs ps levels fit (k - 1)
      popping_on dead = record {
        most = w.most;
        within = omega (arith, w.within);
        same = λ is os p told hi t.
            sym (turn_popped f p hi t (level_at (k - 1) xs is ps os) (stack_is (k - 1) xs is ps os) (meaning s m) e (live_is is os p told ∙ dead))
            ∙ from_top is os p told hi t;
        less = λ is os.
            below_one (left_pop f (level_at (k - 1) xs is ps os) (stack_is (k - 1) xs is ps os))
            (subst (λ (x : List Level). left f x ≤ left f (stack_is levels xs is ps os)) (top_of is os) (w.less is os));
      }
