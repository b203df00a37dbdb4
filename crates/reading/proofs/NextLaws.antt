-- A call of next on a reading of an admitted file, whatever the total is.
--     view_at ..                 a reading of the file
--     next_short, next_other    the refusals: a short buffer, a file of another length
--     next_pending_on, next_pending_off     the pending empty key is handed out, or ends the reading
--     Ways, next_come           the other calls: the end, past the upper bound, or a key
-- Assumes nothing.
use Prim.{Unit, tt}
use Rattle.std.specs.Prelude.{◌≡◌, Bool, true, cond, ◌&&◌, ◌⊎◌, List, [], ◌∷◌, ◌++◌, ℕ, zero, suc, ◌+◌, ◌-◌, ◌<◌, ◌≤◌, leb, length}
use Rattle.std.proofs.Math.Path.{refl}
use Rattle.std.proofs.Common.{sym, ◌∙◌, ap, ⊎_elim, inl, inr, arith}
use Rattle.std.proofs.Math.Bool.{false}
use Rattle.std.proofs.Math.Option.{Option, none, some}
use borrow.Author.Tests.{le-leb, lt-leb, eq-eqb, ne_eqb}
use Rattle.std.proofs.Math.Dec.{eqb}
use Rattle.format.specs.declared.Refusal.{Refusal}
use Rattle.format.specs.Limits.{max_path, max_levels, SPACE, STATE}
use Rattle.format.specs.Opening.{Meta, Opening, opened, opening}
use Rattle.format.specs.Opening as Opening
use Rattle.format.specs.Paths.{Fst, fst_of}
use Rattle.format.specs.Strings.{Bound}
use Rattle.reading.specs.Reading.{passes_test, Level, View, Step, key, end, Answer, refuse, moved, on_opened, Popped, pop, after_pop, after_descend, walk, state_test, next}
use Rattle.reading.specs.Visits.{Visit, to_come, Sane, AllV}
use Rattle.reading.specs.Demand.{capped}
use Rattle.reading.proofs.RunLaws.{Idle, Go, key_at_lem, past_at, go_come, Top, pop_come}

pub sane_length : (f : Fst) (s : List Level) → Sane f s → length s ≤ max_levels
sane_length f [] h = omega arith
sane_length f (l ∷ s) h = omega (arith, h.0)

module _ (s : List ℕ) (m : Meta) (opens : opening s ≡ opened m) (hi : Bound) (bl : ℕ) (short : bl ≤ max_path) where
  abbrev f : Fst
  f = fst_of s m

  -- nothing but the levels, the pending empty key and the total ever changes
  abbrev pub view_at : List Level → Option ℕ → ℕ → View
  view_at levels e n = record { len = length s; bound = hi; bound_len = bl; empty = e; total = capped n; levels = levels }

  pub state_right_lem : (levels : List Level) (e : Option ℕ) (n : ℕ) → length levels ≤ max_levels → state_test (view_at levels e n) (length s) ≡ true
  state_right_lem levels e n h =
      let a = le-leb (length levels) max_levels h in
      let b = le-leb bl max_path short in
      let c = eq-eqb (length s) (length s) refl in
      simp (a, b, c)

  module _ (levels : List Level) (e : Option ℕ) (n : ℕ) (sane : Sane f levels) where
    pub next_walk : (space : ℕ) → max_path ≤ space → next s (view_at levels e n) space ≡ walk f (view_at levels e n) e
    unfolding next
    next_walk space h =
        let a = state_right_lem levels e n (sane_length f levels sane) in
        let b = le-leb max_path space h in
        rw (opens, a, b)

    pub next_short : (space : ℕ) → space < max_path → next s (view_at levels e n) space ≡ refuse (view_at levels e n) SPACE
    unfolding next
    next_short space h =
        let a = state_right_lem levels e n (sane_length f levels sane) in
        let b = lt-leb max_path space h in
        rw (opens, a, b)

  -- opening's refusal, or STATE
  pub next_other : (levels : List Level) (e : Option ℕ) (n : ℕ) (other : List ℕ) → ¬ (length other ≡ length s) → (space : ℕ)
      → (c : Refusal) × (next other (view_at levels e n) space ≡ refuse (view_at levels e n) c)
  unfolding next
  next_other levels e n other ne space = by (opening other) refl
    where
      a : eqb (length s) (length other) ≡ false
      a = ne_eqb (length s) (length other) (λ q. ne (sym q))

      both : (x y : Bool) → (x && (y && false)) ≡ false
      both true true = refl
      both true false = refl
      both false y = refl

      state_wrong : state_test (view_at levels e n) (length other) ≡ false
      state_wrong = rw a (both (leb (length levels) max_levels) (leb bl max_path))

      by : (o : Opening) → opening other ≡ o → (c : Refusal) × (next other (view_at levels e n) space ≡ refuse (view_at levels e n) c)
      by (opened m') q = (STATE, rw (q, state_wrong))
      by (Opening.refused c) q = (c, rw q)

  module _ (space : ℕ) (room : max_path ≤ space) where
    pub next_pending_on : (levels : List Level) (v n : ℕ) → Sane f levels → passes_test hi [] ≡ false
        → next s (view_at levels (some v) n) space ≡ record { answer = key [] v; reading = view_at levels none n }
    next_pending_on levels v n sane p = next_walk levels (some v) n sane space room ∙ rw p

    pub next_pending_off : (levels : List Level) (v n : ℕ) → Sane f levels → passes_test hi [] ≡ true
        → next s (view_at levels (some v) n) space ≡ record { answer = end; reading = view_at [] none n }
    next_pending_off levels v n sane p = next_walk levels (some v) n sane space room ∙ rw p

    pub data Ways (levels : List Level) : Type 0 where
      at_end : to_come f levels ≡ [] → ((n : ℕ) → next s (view_at levels none n) space ≡ record { answer = end; reading = view_at [] none n }) → Ways levels
      over_at : (taken : List Visit) (v : Visit) (more : List Visit) → AllV (Idle hi) taken → to_come f levels ≡ taken ++ (v ∷ more)
          → passes_test hi v.key ≡ true → suc (length taken) ≤ length v.key
          → ((n : ℕ) → next s (view_at levels none n) space ≡ record { answer = end; reading = view_at [] none (n + suc (length taken)) }) → Ways levels
      handed_at : (taken : List Visit) (v : Visit) (to : List Level) → AllV (Idle hi) taken → to_come f levels ≡ taken ++ (v ∷ to_come f to) → Sane f to
          → passes_test hi v.key ≡ false → v.final ≡ true → suc (length taken) ≤ length v.key
          → ((n : ℕ) → next s (view_at levels none n) space ≡ record { answer = key v.key v.value; reading = view_at to none (n + suc (length taken)) })
          → Ways levels

    pub next_come : (levels : List Level) → Sane f levels → Ways levels
    next_come levels sane =
        ⊎_elim
        (λ w. at_end w.1 (λ n. next_walk levels none n sane space room ∙ ap (after_pop f (view_at levels none n)) w.0))
        (λ (w : Top f levels).
        by w
        (go_come f hi (max_path - length w.lower) w.level w.node w.lower (omega (arith, w.sane.0)) w.sane w.judged w.room))
        (pop_come f levels sane)
      where
        goes : (w : Top f levels) (n : ℕ)
            → next s (view_at levels none n) space ≡ after_pop f (view_at levels none n) (Popped.top w.level w.node w.lower)
        goes w n = next_walk levels none n sane space room ∙ ap (after_pop f (view_at levels none n)) w.pops

        by : (w : Top f levels) → Go (max_path - length w.lower) f hi w.level w.node w.lower → Ways levels
        by w (key_at_lem taken v to idle split sane_to np fin key_is_lem len desc) =
            handed_at taken v to idle (w.come ∙ split) sane_to np fin (omega arith)
            (λ n. goes w n ∙ ap (after_descend (view_at levels none n)) (desc n) ∙ ap (λ (k : List ℕ). record { answer = key k v.value; reading = view_at to none (n + suc (length taken)) }) key_is_lem)
        by w (past_at taken v more idle split ps len desc) =
            over_at taken v more idle (w.come ∙ split) ps (omega arith)
            (λ n. goes w n ∙ ap (after_descend (view_at levels none n)) (desc n))
