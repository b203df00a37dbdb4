-- What follows from what a call of next judges first.
--     on_judged, judged_way       the rest of a definition that begins so, by what was judged
--     judged_facts                the root, the levels and the held bound of a reading that goes on
-- Assumes nothing.
use mathlib.Core.Path.{◌≡◌, refl, sym, ◌∙◌}
use Rattle.std.specs.Prelude.{Ok, Err, Result}
use Rattle.std.proofs.lemmas.Bool.{and_parts}
use Rattle.format.specs.declared.Refusal.{Refusal}
use mathlib.Core.Bool.{Bool, true, false, cond, ◌&&◌}
use mathlib.Core.List.{List}
use Prim.Native.Nat.{ℕ, ◌<◌, ◌≤◌}
use native.Mathlib.Omega.{arith}
use borrow.Author.Tests.{leb-true}
use lib.Dec.{leb, eqb}
use lib.ListN.{length}
use Rattle.format.specs.Limits.{max_path, max_levels, STATE}
use Rattle.format.specs.Opening as O
use Rattle.format.specs.Opening.{Opening, opened, opening}
use Rattle.format.specs.Paths.{Fst, fst_of}
use Rattle.format.specs.Laws.OpeningLaws.{root_fits}
use Rattle.reading.specs.Reading.{View, on_opened, state_test}
use Rattle.stream_start.specs.declared.Reading.{Reading}
use Rattle.stream_start.specs.Views.{view_is}
use Rattle.stream_start.specs.StackLaws.{stack_length}
use Rattle.stream_bounds.specs.State.{state_right}
use Rattle.stream_step.specs.Judged.{judging}

abbrev pub on_judged : {A : Type 0} → Result Fst Refusal → (Fst → A) → (Refusal → A) → A
on_judged (Ok f) go stop = go f
on_judged (Err n) go stop = stop n

pub judged_way : {A : Type 0} (s : List ℕ) (v : View) (go : Fst → A) (stop : Refusal → A)
    → on_opened (opening s) (λ m. cond (state_test v (length s)) (go (fst_of s m)) (stop STATE)) (λ n. stop n) ≡ on_judged (judging s v) go stop
unfolding judging
judged_way {A} s v go stop = by (opening s) (state_test v (length s))
  where
    by : (o : Opening) (t : Bool) → on_opened o (λ m. cond t (go (fst_of s m)) (stop STATE)) (λ n. stop n)
        ≡ on_judged (on_opened o (λ m. cond t (Ok (fst_of s m)) (Err STATE)) (λ n. Err n)) go stop
    by (opened m) true = refl
    by (opened m) false = refl
    by (O.refused n) t = refl

-- ---- the cases of the code

state_is_lem : (r : Reading) (len : ℕ) → state_right r.levels r.bound_len r.len len ≡ state_test (view_is r) len
state_is_lem r len = rw (stack_length r.levels r.stack.addrs r.stack.inps r.stack.trans r.stack.outs)

module _ (s : List ℕ) (r : Reading) where
  pub judged_shut : (n : Refusal) → opening s ≡ O.refused n → Err n ≡ judging s (view_is r)
  unfolding judging
  judged_shut n e = rw e

  module _ (m : O.Meta) (opens : opening s ≡ opened m) where
    pub judged_state : state_right r.levels r.bound_len r.len (length s) ≡ false → Err STATE ≡ judging s (view_is r)
    unfolding judging
    judged_state h = let t = sym (state_is_lem r (length s)) ∙ h in rw (opens, t)

    pub judged_right : state_right r.levels r.bound_len r.len (length s) ≡ true → Ok (fst_of s m) ≡ judging s (view_is r)
    unfolding judging
    judged_right h = let t = sym (state_is_lem r (length s)) ∙ h in rw (opens, t)

-- ---- what it says of a reading that goes on

pub judged_facts : (s : List ℕ) (r : Reading) (f : Fst) → Ok f ≡ judging s (view_is r) → (f.root < 4294967296) × (r.levels ≤ max_levels) × (r.bound_len ≤ max_path)
unfolding judging
judged_facts s r f e = by (opening s) refl (state_test (view_is r) (length s)) refl e
  where
    by : (o : Opening) → opening s ≡ o → (t : Bool) → state_test (view_is r) (length s) ≡ t
        → ◌≡◌ {A = Result Fst Refusal} (Ok f) (on_opened o (λ m. cond t (Ok (fst_of s m)) (Err STATE)) (λ n. Err n))
        → (f.root < 4294967296) × (r.levels ≤ max_levels) × (r.bound_len ≤ max_path)
    by (opened m) opens true right q =
        let same : f ≡ fst_of s m = cc in
        let p = and_parts (leb r.levels max_levels) (leb r.bound_len max_path && eqb r.len (length s)) (state_is_lem r (length s) ∙ right) in
        let b = and_parts (leb r.bound_len max_path) (eqb r.len (length s)) p.1 in
        (rw same (root_fits s m opens), leb-true r.levels max_levels p.0, leb-true r.bound_len max_path b.0)
    by (opened m) opens false right q = absurd (let z : ◌≡◌ {A = ℕ} 0 1 = cc in omega arith)
    by (O.refused n) opens t right q = absurd (let z : ◌≡◌ {A = ℕ} 0 1 = cc in omega arith)
