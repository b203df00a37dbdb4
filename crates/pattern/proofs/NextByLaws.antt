-- A call of next by pattern on a reading of an admitted file, whatever the total is.
--     by_short, by_other                 the refusals: a short buffer, a file of another length
--     by_pending_on, by_pending_off      the pending empty key is handed out, or ends the reading
--     by_open, by_dropped                nothing is pending, or an empty key that does not fit: the call walks
--     WaysBy, next_by_come               the ways of a walk: the end, past the upper bound, or a key
-- Assumes nothing.
use Rattle.std.specs.Prelude.{◌≡◌, Bool, true, ◌&&◌, List, [], ◌∷◌, ◌++◌, ℕ, suc, ◌+◌, ◌<◌, ◌≤◌, leb, length}
use Rattle.std.proofs.Math.Path.{refl}
use Rattle.std.proofs.Common.{sym, ◌∙◌, ap}
use Rattle.std.proofs.Math.Bool.{false}
use Rattle.std.proofs.Math.Option.{Option, none, some}
use borrow.Author.Tests.{le-leb, lt-leb, ne_eqb}
use Rattle.std.proofs.Math.Dec.{eqb}
use Rattle.format.specs.declared.Refusal.{Refusal}
use Rattle.format.specs.Limits.{max_path, max_levels, SPACE, STATE}
use Rattle.format.specs.Opening.{Meta, Opening, opened, opening}
use Rattle.format.specs.Paths.{Fst, fst_of}
use Rattle.format.specs.Strings.{Bound}
use Rattle.reading.specs.Demand.{capped}
use Rattle.reading.specs.Reading.{passes_test, Level, View, key, end, refuse, state_test}
use Rattle.reading.specs.Visits.{Visit, Sane, AllV}
use Rattle.reading.proofs.RunLaws.{Idle}
use Rattle.reading.proofs.NextLaws.{view_at, sane_length, state_right_lem}
use Rattle.pattern.specs.Pattern.{Pattern, fits_test, walk_by, after_walk, pending_by, next_by}
use Rattle.pattern.proofs.ViableLaws.{come_by}
use Rattle.pattern.proofs.RunByLaws.{Walked, walk_come}
use Rattle.pattern.proofs.RunByLaws as Run

module _ (s : List ℕ) (m : Meta) (opens : opening s ≡ opened m) (hi : Bound) (bl : ℕ) (short : bl ≤ max_path) (p : Pattern) (few : length p.positions ≤ max_path) where
  abbrev f : Fst
  f = fst_of s m

  abbrev view : List Level → Option ℕ → ℕ → View
  view levels e n = view_at s m opens hi bl short levels e n

  module _ (levels : List Level) (e : Option ℕ) (n : ℕ) (sane : Sane f levels) where
    by_pending : (space : ℕ) → max_path ≤ space → next_by s p (view levels e n) space ≡ pending_by f p (view levels e n) e
    unfolding next_by
    by_pending space h =
        let a = state_right_lem s m opens hi bl short levels e n (sane_length f levels sane) in
        let b = le-leb (length p.positions) max_path few in
        let c = le-leb max_path space h in
        rw (opens, a, b, c)

    pub by_short : (space : ℕ) → space < max_path → next_by s p (view levels e n) space ≡ refuse (view levels e n) SPACE
    unfolding next_by
    by_short space h =
        let a = state_right_lem s m opens hi bl short levels e n (sane_length f levels sane) in
        let b = le-leb (length p.positions) max_path few in
        let c = lt-leb max_path space h in
        rw (opens, a, b, c)

  -- opening's refusal, or STATE
  pub by_other : (levels : List Level) (e : Option ℕ) (n : ℕ) (other : List ℕ) → ¬ (length other ≡ length s) → (space : ℕ)
      → (c : Refusal) × (next_by other p (view levels e n) space ≡ refuse (view levels e n) c)
  unfolding next_by
  by_other levels e n other ne space = by (opening other) refl
    where
      a : eqb (length s) (length other) ≡ false
      a = ne_eqb (length s) (length other) (λ q. ne (sym q))

      both : (x y : Bool) → (x && (y && false)) ≡ false
      both true true = refl
      both true false = refl
      both false y = refl

      state_wrong : state_test (view levels e n) (length other) ≡ false
      state_wrong = rw a (both (leb (length levels) max_levels) (leb bl max_path))

      by : (o : Opening) → opening other ≡ o → (c : Refusal) × (next_by other p (view levels e n) space ≡ refuse (view levels e n) c)
      by (opened m') q = (STATE, rw (q, state_wrong))
      by (Opening.refused c) q = (c, rw q)

  module _ (space : ℕ) (room : max_path ≤ space) where
    pub by_pending_on : (levels : List Level) (v n : ℕ) → Sane f levels → passes_test hi [] ≡ false → fits_test p.positions p.rest [] ≡ true
        → next_by s p (view levels (some v) n) space ≡ record { answer = key [] v; reading = view levels none n }
    by_pending_on levels v n sane q t = by_pending levels (some v) n sane space room ∙ rw (q, t)

    pub by_pending_off : (levels : List Level) (v n : ℕ) → Sane f levels → passes_test hi [] ≡ true
        → next_by s p (view levels (some v) n) space ≡ record { answer = end; reading = view [] none n }
    by_pending_off levels v n sane q = by_pending levels (some v) n sane space room ∙ rw q

    -- the call walks
    abbrev pub Walks : List Level → Option ℕ → Type 0
    Walks levels e = (n : ℕ) → next_by s p (view levels e n) space ≡ after_walk (view levels e n) (walk_by f p hi levels (capped n))

    pub by_open : (levels : List Level) → Sane f levels → Walks levels none
    by_open levels sane n = by_pending levels none n sane space room

    pub by_dropped : (levels : List Level) (v : ℕ) → Sane f levels → passes_test hi [] ≡ false → fits_test p.positions p.rest [] ≡ false → Walks levels (some v)
    by_dropped levels v sane q t n = by_pending levels (some v) n sane space room ∙ rw (q, t)

    pub data WaysBy (levels : List Level) (e : Option ℕ) : Type 0 where
      at_end : (taken : List Visit) → AllV (Idle hi) taken → come_by f p levels ≡ taken
          → ((n : ℕ) → next_by s p (view levels e n) space ≡ record { answer = end; reading = view [] none (n + length taken) }) → WaysBy levels e
      over_at : (taken : List Visit) (v : Visit) (more : List Visit) → AllV (Idle hi) taken → come_by f p levels ≡ taken ++ (v ∷ more) → passes_test hi v.key ≡ true
          → ((n : ℕ) → next_by s p (view levels e n) space ≡ record { answer = end; reading = view [] none (n + suc (length taken)) }) → WaysBy levels e
      handed_at : (taken : List Visit) (v : Visit) (to : List Level) → AllV (Idle hi) taken → come_by f p levels ≡ taken ++ (v ∷ come_by f p to) → Sane f to
          → passes_test hi v.key ≡ false → v.final ≡ true
          → ((n : ℕ) → next_by s p (view levels e n) space ≡ record { answer = key v.key v.value; reading = view to none (n + suc (length taken)) })
          → WaysBy levels e

    pub next_by_come : (levels : List Level) (e : Option ℕ) → Sane f levels → Walks levels e → WaysBy levels e
    next_by_come levels e sane walks = by (walk_come f p hi levels sane)
      where
        by : Walked f p hi levels → WaysBy levels e
        by (Run.at_end taken idle split go) = at_end taken idle split (λ n. walks n ∙ ap (after_walk (view levels e n)) (go n))
        by (Run.over_at taken v more idle split ps go) = over_at taken v more idle split ps (λ n. walks n ∙ ap (after_walk (view levels e n)) (go n))
        by (Run.key_at_lem taken v to idle split sane_to np fin key_is_lem go) =
            handed_at taken v to idle split sane_to np fin
            (λ n.
            walks n ∙ ap (after_walk (view levels e n)) (go n)
            ∙ ap (λ (k : List ℕ). record { answer = key k v.value; reading = view to none (n + suc (length taken)) }) key_is_lem)
