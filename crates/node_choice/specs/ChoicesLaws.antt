-- Laws of `Choices`: what a step says to a caller.
-- Assumes nothing.
use Rattle.std.specs.Prelude.{Ok, Err, ◌≡◌, refl, Bool, true, false, cond, ◌&&◌, ℕ, eqb}
use Rattle.std.proofs.Common.{arith}
use Rattle.format.specs.declared.Transition.{Transition}
use Rattle.format.specs.Node as F
use Rattle.format.specs.Node.{transition_at, Place, at, absent, Judgement, sound, unsound}
use Rattle.format.specs.Lookup.{last_fitting}
use Rattle.node_choice.specs.declared.Choice.{Choice}
use Rattle.node_choice.specs.declared.Choice.TheVariants.{Ends, To as Along, Absent as Missing}
use Rattle.node_choice.specs.Choices.{choice_as, choice_in, fit_of}

pub fit_sound : (j : Judgement) (v : ℕ) (c : Choice) → Ok c ≡ fit_of j v → (m : F.Node) × ((j ≡ sound m) × (c ≡ choice_in m v))
fit_sound (sound m) v c e = (m, (refl, cc))
fit_sound unsound v c e = absurd (let z : ◌≡◌ {A = ℕ} 0 1 = cc in omega arith)

pub fit_stuck : (j : Judgement) (v : ℕ) → Err (record {}) ≡ fit_of j v → j ≡ unsound
fit_stuck (sound m) v e = absurd (let z : ◌≡◌ {A = ℕ} 0 1 = cc in omega arith)
fit_stuck unsound v e = refl

module _ (m : F.Node) (v : ℕ) where
  pub choice_ended : Ends ≡ choice_in m v → (eqb v 0 && m.final) ≡ true
  choice_ended e = go (eqb v 0 && m.final) refl (last_fitting m.transitions v) e
    where
      go : (t : Bool) → (eqb v 0 && m.final) ≡ t → (p : Place) → Ends ≡ cond t Ends (choice_as m.transitions p) → (eqb v 0 && m.final) ≡ true
      go true is_t p e = is_t
      go false is_t (at i) e = absurd (let z : ◌≡◌ {A = ℕ} 0 1 = cc in omega arith)
      go false is_t absent e = absurd (let z : ◌≡◌ {A = ℕ} 0 1 = cc in omega arith)

  pub choice_stuck : Missing ≡ choice_in m v → ((eqb v 0 && m.final) ≡ false) × (last_fitting m.transitions v ≡ absent)
  choice_stuck e = go (eqb v 0 && m.final) refl (last_fitting m.transitions v) refl e
    where
      go : (t : Bool) → (eqb v 0 && m.final) ≡ t → (p : Place) → last_fitting m.transitions v ≡ p → Missing ≡ cond t Ends (choice_as m.transitions p)
          → ((eqb v 0 && m.final) ≡ false) × (last_fitting m.transitions v ≡ absent)
      go true is_t p is_p e = absurd (let z : ◌≡◌ {A = ℕ} 0 1 = cc in omega arith)
      go false is_t (at i) is_p e = absurd (let z : ◌≡◌ {A = ℕ} 0 1 = cc in omega arith)
      go false is_t absent is_p e = (is_t, is_p)

  -- the transition that fits
  pub record Followed (t : Transition) : Type 0 where
    pub on : (eqb v 0 && m.final) ≡ false
    pub place : ℕ
    pub fits : last_fitting m.transitions v ≡ at place
    pub is_it : t ≡ transition_at m.transitions place

  pub choice_followed : (t : Transition) → Along t ≡ choice_in m v → Followed t
  choice_followed t e = go (eqb v 0 && m.final) refl (last_fitting m.transitions v) refl e
    where
      go : (ends : Bool) → (eqb v 0 && m.final) ≡ ends → (p : Place) → last_fitting m.transitions v ≡ p
          → Along t ≡ cond ends Ends (choice_as m.transitions p) → Followed t
      go true on p is_p e = absurd (let z : ◌≡◌ {A = ℕ} 0 1 = cc in omega arith)
      go false on (at i) is_p e = record { on = on; place = i; fits = is_p; is_it = cc }
      go false on absent is_p e = absurd (let z : ◌≡◌ {A = ℕ} 0 1 = cc in omega arith)
