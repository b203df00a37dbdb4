-- The transitions that a dispatch follows.
--     came_after             readings that came from starts on the file stay such, after any list of events
--     dispatch_limit         a dispatch follows no more transitions than the longest held key has bytes; `limit` of demand 3 for the seat
--     dispatch_limit_after   the same after any list of events from `new` that seats readings of the file
-- Assumes nothing.
use Rattle.std.specs.Prelude.{◌≡◌, refl, Bool, true, false, cond, List, [], ◌∷◌, ◌++◌, ℕ, ◌≤◌, length, get_or, set}
use Rattle.std.proofs.Common.{sym, ◌∙◌, ap, subst, inl, arith}
use Rattle.std.proofs.Math.Option.{Option, none, some}
use Rattle.std.proofs.Math.Decide.{ℕ_discrete}
use Rattle.format.specs.Paths.{fst_of, Held}
use Rattle.format.specs.Admitted.{Admitted}
use Rattle.reading.specs.Reading.{View}
use Rattle.reading.specs.Demand.{Call, reading_after, followed}
use Rattle.plain.specs.Plain.{Plain, call_plain, plain_after}
use Rattle.plain.specs.PlainDemand.{DemandPlain}
use Rattle.turns.specs.Turns.{Seat, Seats, no_seat, seat_at, right_test, turn, Done, seat, Dispatch, dispatch, Event, raises, sits, dispatches, or_kept, dispatched, after_event, after, new}
use Rattle.turns.specs.TurnsDemand.{SeatsRight, followed_at, followed_by, CameFrom, AllCame, SeatsFrom, HandsOn, FollowsAtMost}
use Rattle.turns.proofs.TurnsLaws.{turn_some, turn_le, Sat, sat, not_sat, seat_ways, Ways, way_served, way_nobody, way_refused, dispatch_ways, some_inj, none_some}
use Rattle.turns.proofs.AloneLaws.{put_same, put_other, raise_reading, begun_inj, demand_of, new_seat, new_right}
use Rattle.turns.proofs.FairLaws.{event_right}

-- ---- readings that came from starts on the file

after_more : {file : List ℕ} (p : Plain) (cs : List (Call file)) (c : Call file) → plain_after p (cs ++ (c ∷ [])) ≡ (call_plain (plain_after p cs) c).reading
after_more p [] c = refl
after_more p (d ∷ cs) c = after_more (call_plain p d).reading cs c

module _ {file : List ℕ} (A : Admitted file) where
  came_next : {p : Plain} → CameFrom A p → (c : Call file) → CameFrom A (call_plain p c).reading
  came_next w c =
      record {
        lo = w.lo;
        hi = w.hi;
        table = w.table;
        fits = w.fits;
        first = w.first;
        starts = w.starts;
        calls = w.calls ++ (c ∷ []);
        after_calls = ap (λ (x : Plain). (call_plain x c).reading) w.after_calls ∙ sym (after_more w.first w.calls c);
      }

  -- a seat that was put at j came from a start, and so did the others
  came_put : (s : Seats) (j : ℕ) (p₀ : Plain) (waiting : Bool) → SeatsRight s → j ≤ 7 → AllCame A s → CameFrom A p₀
      → (i : ℕ) (p : Plain) → (get_or (set s.seats j (record { reading = some p₀; waiting = waiting })) i no_seat).reading ≡ some p → CameFrom A p
  came_put s j p₀ waiting h hj all w i p e =
      let x : Seat = record { reading = some p₀; waiting = waiting } in
      elim (ℕ_discrete i j) [
        | yes q ↦
            let at : (get_or (set s.seats j x) j no_seat).reading ≡ some p = subst (λ (k : ℕ). (get_or (set s.seats j x) k no_seat).reading ≡ some p) q e in
            subst (CameFrom A) (some_inj (sym (put_same s j x h hj) ∙ at)) w
        | no ne ↦ all i p (sym (put_other s i j x ne) ∙ e)
      ]

  came_sits : (s : Seats) (j : ℕ) (p₀ : Plain) (d : Done) → Sat s j p₀ d → SeatsRight s → CameFrom A p₀ → AllCame A s → AllCame A (or_kept s d)
  came_sits s j p₀ d (sat hj) h w all = came_put s j p₀ (seat_at s j).waiting h hj all w
  came_sits s j p₀ d (not_sat n) h w all = all

  came_served : (s : Seats) (c : Call file) (d : Dispatch) → Ways c.file s c.space d → SeatsRight s → AllCame A s → AllCame A (dispatched s d)
  came_served s c d (way_served j p₀ a hr ht hs ha nr) h all =
      came_put s j (call_plain p₀ c).reading false h (turn_le (turn_some s j ht)) all (came_next (all j p₀ hs) c)
  came_served s c d (way_nobody hr ht) h all = all
  came_served s c d (way_refused n) h all = all

  pub came_after : (es : List Event) (s : Seats) → SeatsRight s → SeatsFrom A es → HandsOn file es → AllCame A s → AllCame A (after s es)
  came_after [] s h from on all = all
  came_after (raises j ∷ es) s h from on all =
      came_after es (after_event s (raises j)) (event_right s (raises j) h) from on (λ i p e. all i p (sym (raise_reading s i j h) ∙ e))
  came_after (sits j p ∷ es) s h from on all =
      came_after es (after_event s (sits j p)) (event_right s (sits j p) h) from.1 on (came_sits s j p (seat s j p) (seat_ways s j p) h from.0 all)
  came_after (dispatches given space ∷ es) s h from on all =
      came_after es (after_event s (dispatches given space)) (event_right s (dispatches given space) h) from on.1
      (came_served s (record { file = given; space = space; which = on.0 }) (dispatch given s space) (dispatch_ways given s space) h all)

-- ---- the transitions of a dispatch

module _ {file : List ℕ} (A : Admitted file) (n : ℕ) (longest : (k : List ℕ) (v : ℕ) → Held (fst_of file A.meta) k v → length k ≤ n) where
  call_limit : (p : Plain) → CameFrom A p → (c : Call file) → followed p.view c ≤ n
  call_limit p w c =
      let d = demand_of A w.lo w.hi w.table w.fits w.first w.starts w.calls in
      let more = demand_of A w.lo w.hi w.table w.fits w.first w.starts (w.calls ++ (c ∷ [])) in
      let first : d.reading ≡ w.first = begun_inj (sym d.starts ∙ w.starts) in
      let again : more.reading ≡ w.first = begun_inj (sym more.starts ∙ w.starts) in
      let view : more.demand.reading ≡ d.demand.reading = sym more.same_reading ∙ ap (λ (x : Plain). x.view) (again ∙ sym first) ∙ d.same_reading in
      let is : p.view ≡ reading_after d.demand.reading w.calls =
      ap (λ (x : Plain). x.view) w.after_calls ∙ ap (λ (x : Plain). (plain_after x w.calls).view) (sym first) ∙ d.same_readings in
      subst (λ (x : View). followed x c ≤ n) (ap (λ (x : View). reading_after x w.calls) view ∙ sym is) (more.demand.limit w.calls [] c refl n longest)

  pub dispatch_limit : (s : Seats) → AllCame A s → FollowsAtMost file s n
  dispatch_limit s all space = by_right (right_test s)
    where
      by_reading : (i : ℕ) (o : Option Plain) → (seat_at s i).reading ≡ o → followed_at file space o ≤ n
      by_reading i (some p) e = call_limit p (all i p e) (record { file = file; space = space; which = inl refl })
      by_reading i none e = omega arith

      by_turn : (o : Option ℕ) → followed_by file s space o ≤ n
      by_turn (some i) = by_reading i (seat_at s i).reading refl
      by_turn none = omega arith

      by_right : (b : Bool) → cond b (followed_by file s space (turn s)) 0 ≤ n
      by_right true = by_turn (turn s)
      by_right false = omega arith

  -- after any list of events from new that seats readings of the file
  pub dispatch_limit_after : (es : List Event) → SeatsFrom A es → HandsOn file es → FollowsAtMost file (after new es) n
  dispatch_limit_after es from on =
      dispatch_limit (after new es)
      (came_after A es new new_right from on (λ i p e. absurd (none_some (sym (ap (λ (x : Seat). x.reading) (new_seat 8 i)) ∙ e))))
