-- The cases of carrying a reading: each refusal, the reading at its new addresses, and the plain reading and the pattern around it.
-- Assumes nothing.
use mathlib.Core.Path.{◌≡◌, sym, ap, ◌∙◌}
use Rattle.std.specs.Prelude.{Ok, Err, Result, ⊤}
use Rattle.std.proofs.lemmas.Bool.{and_parts}
use Rattle.format.specs.declared.Refusal.{Refusal}
use mathlib.Core.Bool.{Bool, true, false, ◌&&◌}
use mathlib.Core.List.{List}
use Prim.Native.Nat.{ℕ, ◌≤◌}
use native.Mathlib.Omega.{arith}
use borrow.Author.Tests.{leb-true}
use lib.Dec.{leb, eqb}
use lib.ListN.{length}
use Rattle.format.specs.Limits.{max_path, max_levels, STATE, PATTERN}
use Rattle.format.specs.Opening as Opening
use Rattle.format.specs.Opening.{Meta, opened, opening}
use Rattle.format.specs.Paths.{Fst, fst_of}
use Rattle.reading.specs.Reading.{state_test}
use Rattle.stream_start.specs.declared.Reading.{Reading}
use Rattle.stream_start.specs.Views.{view_is, stack_is, stack_of}
use Rattle.stream_start.specs.StackLaws.{stack_length}
use Rattle.stream_bounds.specs.State.{state_right}
use Rattle.stream.specs.declared.Plain.{Plain}
use Rattle.patterned.specs.declared.Patterned.{Patterned}
use Rattle.carrying.specs.Carry as C
use Rattle.carrying.specs.Carry.{carry_levels, after_levels, carried_to, carry_with, with_keys}
use Rattle.carry_levels.specs.Settling.{carried_as, LevelsCarried}
use Rattle.carry.specs.Carries.{carried_is, carried_plain_is, PatternedCarried}

-- ---- the levels

module _ (r : Reading) {f g : Fst} {ys : List ℕ} {d : Result ⊤ Refusal} (w : LevelsCarried f g r.levels r.stack.addrs r.stack.inps r.stack.outs ys d) (len : ℕ) where
  abbrev want : C.Carried
  want = after_levels len (view_is r) (carry_levels f g (stack_of r.levels r.stack))

  levels_are : (x : Result ⊤ Refusal) → d ≡ x → carried_as len (view_is r) (stack_is r.levels ys r.stack.inps r.stack.trans r.stack.outs) x ≡ want
  levels_are x is = ap (carried_as len (view_is r) (stack_is r.levels ys r.stack.inps r.stack.trans r.stack.outs)) (sym is) ∙ w.carries r.stack.trans len (view_is r)

  pub levels_halted : (why : Refusal) → d ≡ Err why → C.Carried.refused why ≡ want
  levels_halted why is = levels_are (Err why) is

  pub levels_all : d ≡ Ok tt → C.Carried.carried (carried_to len (view_is r) (stack_is r.levels ys r.stack.inps r.stack.trans r.stack.outs)) ≡ want
  levels_all is = levels_are (Ok tt) is

-- ---- what is judged before the levels

pub levels_right : (r : Reading) (len : ℕ) → state_right r.levels r.bound_len r.len len ≡ true → r.levels ≤ max_levels
levels_right r len e = leb-true r.levels max_levels (and_parts (leb r.levels max_levels) (leb r.bound_len max_path && eqb r.len len) e).0

state_is_lem : (r : Reading) (len : ℕ) → state_right r.levels r.bound_len r.len len ≡ state_test (view_is r) len
state_is_lem r len = rw (stack_length r.levels r.stack.addrs r.stack.inps r.stack.trans r.stack.outs)

module _ (fits : Bool) (old new : List ℕ) (r : Reading) where
  abbrev whole : C.Carried
  whole = carry_with fits old new (view_is r)

  pub old_refused : (n : Refusal) → opening old ≡ Opening.refused n → C.Carried.refused n ≡ whole
  unfolding carry_with
  old_refused n e = rw e

  module _ (m : Meta) (opens : opening old ≡ opened m) where
    pub new_refused : (n : Refusal) → opening new ≡ Opening.refused n → C.Carried.refused n ≡ whole
    unfolding carry_with
    new_refused n e = rw (opens, e)

    module _ (q : Meta) (opens_new : opening new ≡ opened q) where
      pub state_wrong : state_right r.levels r.bound_len r.len (length old) ≡ false → C.Carried.refused STATE ≡ whole
      unfolding carry_with
      state_wrong e = let t = sym (state_is_lem r (length old)) ∙ e in rw (opens, opens_new, t)

      module _ (right : state_right r.levels r.bound_len r.len (length old) ≡ true) where
        pub pattern_wrong : fits ≡ false → C.Carried.refused PATTERN ≡ whole
        unfolding carry_with
        pattern_wrong e = let t = sym (state_is_lem r (length old)) ∙ right in rw (opens, opens_new, t, e)

        pub levels_carried : fits ≡ true
            → after_levels (length new) (view_is r) (carry_levels (fst_of old m) (fst_of new q) (stack_of r.levels r.stack)) ≡ whole
        unfolding carry_with
        levels_carried e = let t = sym (state_is_lem r (length old)) ∙ right in rw (opens, opens_new, t, e)

-- ---- around the reading

module _ (given : Plain) {q : C.Carried} {r : Result Reading Refusal} (w : carried_is r ≡ q) where
  pub plain_refused : (n : Refusal) → r ≡ Err n → carried_plain_is (Err n) ≡ with_keys given.keys q
  plain_refused n e = ap (with_keys given.keys) (sym (ap carried_is e) ∙ w)

  pub plain_carried : (after : Reading) → r ≡ Ok after → carried_plain_is (Ok (record { reading = after; keys = given.keys })) ≡ with_keys given.keys q
  plain_carried after e = ap (with_keys given.keys) (sym (ap carried_is e) ∙ w)

pattern_of : {x y : Patterned} → ◌≡◌ {A = Result Patterned Refusal} (Ok x) (Ok y) → x.pattern ≡ y.pattern
pattern_of {x} {y} e = let z : x ≡ y = cc in ap (λ (w : Patterned). w.pattern) z

module _ (given : Patterned) {q : C.Carried} {r : Result Reading Refusal} (w : carried_is r ≡ q) where
  pub patterned_refused : (n : Refusal) → r ≡ Err n → PatternedCarried q given (Err n)
  patterned_refused n e = record {
    answer = sym (ap carried_is e) ∙ w;
    pattern = λ x is. absurd (let z : ◌≡◌ {A = ℕ} 0 1 = cc in omega arith);
  }

  pub patterned_carried : (after : Reading) → r ≡ Ok after → PatternedCarried q given (Ok (record { reading = after; pattern = given.pattern }))
  patterned_carried after e = record { answer = sym (ap carried_is e) ∙ w; pattern = λ x is. sym (pattern_of is) }
