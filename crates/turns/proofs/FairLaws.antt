-- A waiting seat is served in time, whatever the others raise.
--     after_right     no list of events makes the seats wrong
--     ahead_new       from `new`, at most w come before seat w
--     fairness        at most `ahead` unrefused dispatches come before the one that serves w; so one of the first eight does
-- The idea: a dispatch that serves another seat moves `last` towards w, so that fewer seats are ahead of w (`ahead_less`); raising,
-- seating (also at w: a request stays as it was) and a refused dispatch leave both `last` and w's request alone (`Still`).
-- Assumes nothing.
use Prim.{tt}
use Rattle.std.specs.Prelude.{◌≡◌, refl, Bool, true, false, ℕ, zero, suc, ◌+◌, ◌%◌, ◌≤◌, ◌<◌, length, take}
use Rattle.std.proofs.Common.{sym, ◌∙◌, ap, subst, arith, get_or-set_other}
use Rattle.std.proofs.Math.Option.{Option, some}
use mathlib.Core.List.Memᴰ
use mathlib.Core.List.{List, [], ◌∷◌, ◌++◌, Memᴰ}
use Rattle.std.proofs.Math.Decide.{ℕ_discrete}
use Rattle.plain.specs.Plain.{Plain, next_plain}
use Rattle.turns.specs.Turns.{Seat, Seats, no_seat, seat_at, turn, Done, with_seat, seat, raise, Dispatch, kept, dispatch, Event, raises, sits, dispatches, or_kept, dispatched, after_event, after, new}
use Rattle.turns.specs.TurnsDemand.{SeatsRight, unrefused_then, unrefused_in, ahead, Fair, in_time, waits_still, Fairness}
use Rattle.turns.proofs.TurnsLaws.{ahead_le, ahead_at, ahead_less, turn_some, turn_none, turn_le, right_last, right_set, held_right, Raised, raised, not_raised, raise_ways, Sat, sat, not_sat, seat_ways, Ways, way_served, way_nobody, way_refused, dispatch_ways, at_same}

-- ---- no event makes the seats wrong

raised_right : (s : Seats) (i : ℕ) (d : Done) → Raised s i d → SeatsRight s → SeatsRight (or_kept s d)
raised_right s i d (raised hi t) h = right_set s s.last i _ h h.last_within t
raised_right s i d (not_raised n) h = h

sat_right : (s : Seats) (i : ℕ) (r : Plain) (d : Done) → Sat s i r d → SeatsRight s → SeatsRight (or_kept s d)
sat_right s i r d (sat hi) h = right_set s s.last i _ h h.last_within (held_right (seat_at s i).waiting r)
sat_right s i r d (not_sat n) h = h

dispatched_right : (file : List ℕ) (s : Seats) (space : ℕ) (d : Dispatch) → Ways file s space d → SeatsRight s → SeatsRight (dispatched s d)
dispatched_right file s space d (way_served i r a hr ht hs ha nr) h = right_set s i i _ h (turn_le (turn_some s i ht)) refl
dispatched_right file s space d (way_nobody hr ht) h = h
dispatched_right file s space d (way_refused n) h = h

pub event_right : (s : Seats) (e : Event) → SeatsRight s → SeatsRight (after_event s e)
event_right s (raises i) h = raised_right s i (raise s i) (raise_ways s i) h
event_right s (sits i r) h = sat_right s i r (seat s i r) (seat_ways s i r) h
event_right s (dispatches file space) h = dispatched_right file s space (dispatch file s space) (dispatch_ways file s space) h

pub after_right : (es : List Event) (s : Seats) → SeatsRight s → SeatsRight (after s es)
after_right [] s h = h
after_right (e ∷ es) s h = after_right es (after_event s e) (event_right s e h)

-- ---- what leaves a waiting seat alone

pub record Still (s : Seats) (w : ℕ) (t : Seats) : Type 0 where
  pub right : SeatsRight t
  pub last_is : t.last ≡ s.last
  pub waits : (seat_at t w).waiting ≡ true

module _ (s : Seats) (w : ℕ) (h : SeatsRight s) (hw : w ≤ 7) (waits : (seat_at s w).waiting ≡ true) where
  raised_waits : (i : ℕ) → (seat_at (with_seat s i (record { reading = (seat_at s i).reading; waiting = true })) w).waiting ≡ true
  raised_waits i = elim (ℕ_discrete w i) [
    | yes e ↦ rw (← e) (ap (λ (x : Seat). x.waiting) (at_same s w _ h.eight hw))
    | no ne ↦ ap (λ (x : Seat). x.waiting) (get_or-set_other s.seats i w _ no_seat ne) ∙ waits
  ]

  raise_still : (i : ℕ) → Still s w (after_event s (raises i))
  raise_still i = by (raise s i) (raise_ways s i)
    where
      by : (d : Done) → Raised s i d → Still s w (or_kept s d)
      by d (raised hi t) = record { right = raised_right s i _ (raised hi t) h; last_is = refl; waits = raised_waits i }
      by d (not_raised n) = record { right = h; last_is = refl; waits = waits }

  -- a reading that is seated at w leaves the request as it was
  sat_waits : (i : ℕ) (r : Plain) → (seat_at (with_seat s i (record { reading = some r; waiting = (seat_at s i).waiting })) w).waiting ≡ true
  sat_waits i r = elim (ℕ_discrete w i) [
    | yes e ↦ rw (← e) (ap (λ (x : Seat). x.waiting) (at_same s w _ h.eight hw) ∙ waits)
    | no ne ↦ ap (λ (x : Seat). x.waiting) (get_or-set_other s.seats i w _ no_seat ne) ∙ waits
  ]

  seat_still : (i : ℕ) (r : Plain) → Still s w (after_event s (sits i r))
  seat_still i r = by (seat s i r) (seat_ways s i r)
    where
      by : (d : Done) → Sat s i r d → Still s w (or_kept s d)
      by d (sat hi) = record { right = sat_right s i r _ (sat hi) h; last_is = refl; waits = sat_waits i r }
      by d (not_sat n) = record { right = h; last_is = refl; waits = waits }

  -- another seat is served: its turn came before w's
  served_less : (i : ℕ) → turn s ≡ some i → ¬ (i ≡ w) → ahead i w < ahead s.last w
  served_less i ht ne =
      let t = turn_some s i ht in
      let hl = h.last_within in
      let at = ahead_at s.last w hl hw in
      let not_later : ¬ (ahead s.last w + 1 < t.step) =
      (λ lt.
      let f = t.none_between (ahead s.last w + 1) (omega arith) lt in
      let z : ◌≡◌ {A = Bool} true false = sym waits ∙ sym (ap (λ (x : ℕ). (seat_at s x).waiting) at) ∙ f in
      let z : ◌≡◌ {A = ℕ} 0 1 = cc in omega arith) in
      let not_same : ¬ (t.step ≡ ahead s.last w + 1) = (λ e. ne (t.is ∙ ap (λ (k : ℕ). (s.last + k) % 8) e ∙ at)) in
      rw t.is (ahead_less s.last w t.step hl hw t.from_one (omega (arith, not_later, not_same)))

-- ---- fair

fair_more : (w d d' i : ℕ) (l : List (Option ℕ)) (t : Seats) → ¬ (i ≡ w) → d' < d → Fair w d' l t → Fair w d (some i ∷ l) t
fair_more w d d' i l t ne lt (in_time before more e len o) =
    in_time (some i ∷ before) more (ap (λ (x : List (Option ℕ)). some i ∷ x) e) (omega arith) (ne, o)
fair_more w d d' i l t ne lt (waits_still len o wt) = waits_still (omega arith) (ne, o) wt

pub fair : (es : List Event) (s : Seats) (w : ℕ) → SeatsRight s → w ≤ 7 → (seat_at s w).waiting ≡ true
    → Fair w (ahead s.last w) (unrefused_in s es) (after s es)
fair [] s w h hw wt = waits_still (omega arith) tt wt
fair (raises i ∷ es) s w h hw wt =
    let q = raise_still s w h hw wt i in
    subst (λ (l : ℕ). Fair w (ahead l w) (unrefused_in s (raises i ∷ es)) (after s (raises i ∷ es))) q.last_is
    (fair es (after_event s (raises i)) w q.right hw q.waits)
fair (sits i r ∷ es) s w h hw wt =
    let q = seat_still s w h hw wt i r in
    subst (λ (l : ℕ). Fair w (ahead l w) (unrefused_in s (sits i r ∷ es)) (after s (sits i r ∷ es))) q.last_is
    (fair es (after_event s (sits i r)) w q.right hw q.waits)
fair (dispatches file space ∷ es) s w h hw wt =
    by (dispatch file s space) (dispatch_ways file s space) (λ t ht wt. fair es t w ht hw wt)
  where
    by : (d : Dispatch) → Ways file s space d
        → ((t : Seats) → SeatsRight t → (seat_at t w).waiting ≡ true → Fair w (ahead t.last w) (unrefused_in t es) (after t es))
        → Fair w (ahead s.last w) (unrefused_then d (unrefused_in (dispatched s d) es)) (after (dispatched s d) es)
    by d (way_served i r a hr ht hs ha nr) ih = elim (ℕ_discrete i w) [
      | yes e ↦ in_time [] (unrefused_in (kept s i (next_plain file r space).reading) es) (ap (λ (k : ℕ). some k ∷ unrefused_in (kept s i (next_plain file r space).reading) es) e) (omega arith) tt
      | no ne ↦
          fair_more w (ahead s.last w) (ahead i w) i _ _ ne (served_less s w h hw wt i ht ne)
          (ih (kept s i (next_plain file r space).reading) (dispatched_right file s space _ (way_served i r a hr ht hs ha nr) h)
          (ap (λ (x : Seat). x.waiting) (get_or-set_other s.seats i w _ no_seat (λ e. ne (sym e))) ∙ wt))
    ]
    by d (way_nobody hr ht) ih =
        let z : ◌≡◌ {A = Bool} true false = sym wt ∙ turn_none s ht (right_last s hr) w hw in
        absurd (let z : ◌≡◌ {A = ℕ} 0 1 = cc in omega arith)
    by d (way_refused n) ih = ih s h wt

-- ---- the first eight

take_mem : (before more : List (Option ℕ)) (x : Option ℕ) (n : ℕ) → length before < n → Memᴰ x (take n (before ++ (x ∷ more)))
take_mem before more x zero h = absurd (omega arith)
take_mem [] more x (suc n) h = Memᴰ.head refl
take_mem (y ∷ before) more x (suc n) h = Memᴰ.tail (take_mem before more x n (omega arith))

pub fairness : (s : Seats) (w : ℕ) (es : List Event) → SeatsRight s → w ≤ 7 → (seat_at s w).waiting ≡ true → Fairness s w es
fairness s w es h hw wt =
    record {
      stays_right = after_right es s h;
      fair = fair es s w h hw wt;
      within_eight = λ many. eight many (fair es s w h hw wt);
      waits = λ out. waits out (fair es s w h hw wt);
    }
  where
    eight : 8 ≤ length (unrefused_in s es) → Fair w (ahead s.last w) (unrefused_in s es) (after s es) → Memᴰ (some w) (take 8 (unrefused_in s es))
    eight many (in_time before more e len o) = rw e (take_mem before more (some w) 8 (omega (arith, ahead_le s.last w)))
    eight many (waits_still len o q) = absurd (omega (arith, ahead_le s.last w))

    waits : ¬ Memᴰ (some w) (unrefused_in s es) → Fair w (ahead s.last w) (unrefused_in s es) (after s es) → (seat_at (after s es) w).waiting ≡ true
    waits out (in_time before more e len o) = absurd (out (rw e (Memᴰ.append_right before (Memᴰ.head refl))))
    waits out (waits_still len o q) = q

-- from new, seat w waits for at most w others: the first turn is seat 0's
pub ahead_new : (w : ℕ) → w ≤ 7 → ahead new.last w ≡ w
ahead_new w h = omega arith
