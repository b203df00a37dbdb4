-- A seat by itself: what it holds and what was answered to it, whatever the other seats did.
--     alone            after any list of events from `new`, each seat stands as the reading seated there last would alone
--     alone_same       two lists that serve a seat by the same calls give it the same answers and leave it the same reading
--     seat_demand_3    demand 3 for a seat; seat_calls: its calls, where every dispatch had the file or one of another length
-- Assumes nothing.
use Prim.{Unit, tt}
use Rattle.std.specs.Prelude.{◌≡◌, refl, Bool, true, false, cond, List, [], ◌∷◌, ◌++◌, map, ℕ, zero, suc, ◌≤◌, ◌<◌, eqb, length, get_or, set, replicate}
use Rattle.std.proofs.Common.{sym, ◌∙◌, ap, subst, ⊎_elim, inl, inr, arith, eqb-true, get_or-set_other}
use Rattle.std.proofs.Math.Option.{Option, some}
use Rattle.std.proofs.Math.Decide.{ℕ_discrete}
use Rattle.std.proofs.lemmas.Bool.{eqb-false}
use Rattle.format.specs.declared.Refusal.{Refusal}
use Rattle.format.specs.Paths.{fst_of}
use Rattle.format.specs.Admitted.{Admitted}
use Rattle.format.specs.Limits.{max_path}
use Rattle.format.specs.Strings.{Bound}
use Rattle.reading.specs.Reading.{Answer, bound_bytes}
use Rattle.reading.proofs.RunLaws.{lt_or}
use Rattle.reading.specs.Demand.{Call}
use Rattle.plain.specs.Numbers.{TableFits}
use Rattle.plain.specs.Plain.{Plain, Begun, begun, start_plain, next_plain, call_plain, plain_after, answers_plain}
use Rattle.plain.specs.PlainDemand.{DemandPlain}
use Rattle.plain.proofs.PlainLaws.{plain_long_bound, plain_short, demand_3_plain}
use Rattle.turns.specs.Turns.{Seat, Seats, no_seat, seat_at, all_seats, Done, done, seat, raise, Dispatch, served, nobody, dispatch, Event, raises, sits, dispatches, or_kept, dispatched, after_event, after, new}
use Rattle.turns.specs.TurnsDemand.{SeatsRight, Asked, asked, read_after, answers_to, Past, empty, since, heard, past_sits, past_served, past_after, Alone, nobody_sat, as_alone, HandsOn, asked_of, SeatDemand}
use Rattle.turns.proofs.TurnsLaws.{test_right, turn_some, turn_le, Raised, raised, not_raised, raise_ways, Sat, sat, not_sat, seat_ways, Ways, way_served, way_nobody, way_refused, dispatch_ways, at_same, some_inj, none_some}
use Rattle.turns.proofs.FairLaws.{event_right}

-- ---- a seat's reading after an event

-- what a call puts at a seat
abbrev raised_seat : Seats → ℕ → Seat
raised_seat s j = record { reading = (seat_at s j).reading; waiting = true }

abbrev sat_seat : Seats → ℕ → Plain → Seat
sat_seat s j r = record { reading = some r; waiting = (seat_at s j).waiting }

abbrev served_seat : List ℕ → Plain → ℕ → Seat
served_seat file r space = record { reading = some (next_plain file r space).reading; waiting = false }

-- the reading at i, after a seat was put at j
pub put_same : (s : Seats) (i : ℕ) (x : Seat) → SeatsRight s → i ≤ 7 → (get_or (set s.seats i x) i no_seat).reading ≡ x.reading
put_same s i x h hi = ap (λ (y : Seat). y.reading) (at_same s i x h.eight hi)

pub put_other : (s : Seats) (i j : ℕ) (x : Seat) → ¬ (i ≡ j) → (get_or (set s.seats j x) i no_seat).reading ≡ (seat_at s i).reading
put_other s i j x ne = ap (λ (y : Seat). y.reading) (get_or-set_other s.seats j i x no_seat ne)

pub raise_reading : (s : Seats) (i j : ℕ) → SeatsRight s → (seat_at (after_event s (raises j)) i).reading ≡ (seat_at s i).reading
raise_reading s i j h = by (raise s j) (raise_ways s j)
  where
    by : (d : Done) → Raised s j d → (seat_at (or_kept s d) i).reading ≡ (seat_at s i).reading
    by d (raised hj t) = elim (ℕ_discrete i j) [
      | yes e ↦ rw e (put_same s j (raised_seat s j) h hj)
      | no ne ↦ put_other s i j (raised_seat s j) ne
    ]
    by d (not_raised n) = refl

-- ---- a reading alone

read_snoc : (r : Plain) (cs : List Asked) (c : Asked) → read_after r (cs ++ (c ∷ [])) ≡ (next_plain c.file (read_after r cs) c.space).reading
read_snoc r [] c = refl
read_snoc r (d ∷ cs) c = read_snoc (next_plain d.file r d.space).reading cs c

answers_snoc : (r : Plain) (cs : List Asked) (c : Asked)
    → answers_to r (cs ++ (c ∷ [])) ≡ answers_to r cs ++ ((next_plain c.file (read_after r cs) c.space).answer ∷ [])
answers_snoc r [] c = refl
answers_snoc r (d ∷ cs) c =
    ap (λ (l : List Answer). (next_plain d.file r d.space).answer ∷ l) (answers_snoc (next_plain d.file r d.space).reading cs c)

-- ---- alone

alone_as : (held held' : Option Plain) (p : Past) → held' ≡ held → Alone held p → Alone held' p
alone_as held held' p e a = rw e a

-- one call more
alone_heard : (held : Option Plain) (p : Past) (r : Plain) (c : Asked) → Alone held p → held ≡ some r
    → Alone (some (next_plain c.file r c.space).reading) (heard c (next_plain c.file r c.space).answer p)
alone_heard held p r c (nobody_sat e) q = absurd (none_some (sym e ∙ q))
alone_heard held p r c (as_alone r₀ cs e) q =
    let is : r ≡ read_after r₀ cs = some_inj (sym q ∙ e) in
    rw is
    (subst (λ (l : List Answer). Alone (some (next_plain c.file (read_after r₀ cs) c.space).reading) (since r₀ (cs ++ (c ∷ [])) l)) (answers_snoc r₀ cs c)
    (as_alone r₀ (cs ++ (c ∷ [])) (ap some (sym (read_snoc r₀ cs c)))))

module _ (i : ℕ) where
  alone_sits : (s : Seats) (p : Past) (j : ℕ) (r : Plain) (d : Done) → Sat s j r d → SeatsRight s → Alone (seat_at s i).reading p
      → Alone (seat_at (or_kept s d) i).reading (past_sits i j r d p)
  alone_sits s p j r d (sat hj) h a = by (eqb j i) refl
    where
      by : (b : Bool) → eqb j i ≡ b → Alone (get_or (set s.seats j (sat_seat s j r)) i no_seat).reading (cond b (since r [] []) p)
      by true e = as_alone r [] (rw (← eqb-true j i e) (put_same s j (sat_seat s j r) h hj))
      by false e = alone_as _ _ p (put_other s i j (sat_seat s j r) (λ q. eqb-false j i e (sym q))) a
  alone_sits s p j r d (not_sat n) h a = a

  alone_served : (s : Seats) (p : Past) (file : List ℕ) (space : ℕ) (d : Dispatch) → Ways file s space d → SeatsRight s → Alone (seat_at s i).reading p
      → Alone (seat_at (dispatched s d) i).reading (past_served i (asked file space) d p)
  alone_served s p file space d (way_served j r a hr ht hs ha nr) h al = by (eqb j i) refl
    where
      by : (b : Bool) → eqb j i ≡ b
          → Alone (get_or (set s.seats j (served_seat file r space)) i no_seat).reading (cond b (heard (asked file space) a p) p)
      by true e =
          let ji : j ≡ i = eqb-true j i e in
          alone_as _ _ _
          (subst (λ (k : ℕ). (get_or (set s.seats j (served_seat file r space)) k no_seat).reading ≡ some (next_plain file r space).reading) ji
          (put_same s j (served_seat file r space) h (turn_le (turn_some s j ht))))
          (subst (λ (b : Answer). Alone (some (next_plain file r space).reading) (heard (asked file space) b p)) ha
          (alone_heard (seat_at s i).reading p r (asked file space) al (subst (λ (k : ℕ). (seat_at s k).reading ≡ some r) ji hs)))
      by false e = alone_as _ _ p (put_other s i j (served_seat file r space) (λ q. eqb-false j i e (sym q))) al
  alone_served s p file space d (way_nobody hr ht) h a = a
  alone_served s p file space d (way_refused n) h a = a

  pub alone_from : (es : List Event) (s : Seats) (p : Past) → SeatsRight s → Alone (seat_at s i).reading p
      → Alone (seat_at (after s es) i).reading (past_after i s p es)
  alone_from [] s p h a = a
  alone_from (raises j ∷ es) s p h a =
      alone_from es (after_event s (raises j)) p (event_right s (raises j) h) (alone_as _ _ p (raise_reading s i j h) a)
  alone_from (sits j r ∷ es) s p h a =
      alone_from es (after_event s (sits j r)) (past_sits i j r (seat s j r) p) (event_right s (sits j r) h)
      (alone_sits s p j r (seat s j r) (seat_ways s j r) h a)
  alone_from (dispatches file space ∷ es) s p h a =
      alone_from es (after_event s (dispatches file space)) (past_served i (asked file space) (dispatch file s space) p) (event_right s (dispatches file space) h)
      (alone_served s p file space (dispatch file s space) (dispatch_ways file s space) h a)

pub new_seat : (n i : ℕ) → get_or (replicate n no_seat) i no_seat ≡ no_seat
new_seat zero i = refl
new_seat (suc n) zero = refl
new_seat (suc n) (suc i) = new_seat n i

pub new_right : SeatsRight new
unfolding all_seats
new_right = test_right new refl refl

pub alone : (i : ℕ) (es : List Event) → Alone (seat_at (after new es) i).reading (past_after i new empty es)
alone i es = alone_from i es new empty new_right (nobody_sat (ap (λ (x : Seat). x.reading) (new_seat 8 i)))

-- ---- the same calls, the same answers

pub alone_since : (held : Option Plain) (p : Past) (r : Plain) (cs : List Asked) (l : List Answer) → Alone held p → p ≡ since r cs l
    → (l ≡ answers_to r cs) × (held ≡ some (read_after r cs))
alone_since held p r cs l (nobody_sat e) q = absurd (let z : ◌≡◌ {A = ℕ} 0 1 = cc in omega arith)
alone_since held p r cs l (as_alone r₀ cs₀ e) q =
    let a : r₀ ≡ r = cc in
    let b : cs₀ ≡ cs = cc in
    let c : answers_to r₀ cs₀ ≡ l = cc in (
      sym c ∙ ap (λ (x : Plain). answers_to x cs₀) a ∙ ap (λ (x : List Asked). answers_to r x) b,
      e ∙ ap (λ (x : Plain). some (read_after x cs₀)) a ∙ ap (λ (x : List Asked). some (read_after r x)) b,
    )

pub alone_same : (i : ℕ) (es es' : List Event) (r : Plain) (cs : List Asked) (l l' : List Answer) → past_after i new empty es ≡ since r cs l
    → past_after i new empty es' ≡ since r cs l' → (l ≡ l') × ((seat_at (after new es) i).reading ≡ (seat_at (after new es') i).reading)
alone_same i es es' r cs l l' e e' =
    let a = alone_since _ _ r cs l (alone i es) e in
    let b = alone_since _ _ r cs l' (alone i es') e' in
    (a.0 ∙ sym b.0, a.1 ∙ sym b.1)

-- ---- demand 3 for a seat

asked_read : {file : List ℕ} (r : Plain) (calls : List (Call file)) → read_after r (map asked_of calls) ≡ plain_after r calls
asked_read r [] = refl
asked_read r (c ∷ cs) = asked_read (call_plain r c).reading cs

asked_answers : {file : List ℕ} (r : Plain) (calls : List (Call file)) → answers_to r (map asked_of calls) ≡ answers_plain r calls
asked_answers r [] = refl
asked_answers r (c ∷ cs) = ap (λ (l : List Answer). (call_plain r c).answer ∷ l) (asked_answers (call_plain r c).reading cs)

pub begun_inj : {p q : Plain} → begun p ≡ begun q → p ≡ q
begun_inj e = cc

begun_refused : {p : Plain} {n : Refusal} → ¬ (begun p ≡ Begun.refused n)
begun_refused e = let z : ◌≡◌ {A = ℕ} 0 1 = cc in omega arith

-- a start that gave a reading had bounds of at most 255 bytes and a table that is long enough
module _ {file : List ℕ} (A : Admitted file) (lo hi : Bound) (table : List ℕ) (fits : TableFits (fst_of file A.meta) lo hi table) (r : Plain)
    (starts : start_plain file lo hi table ≡ begun r) where
  started_lo : length (bound_bytes lo) ≤ max_path
  started_lo =
      ⊎_elim (λ (h : max_path < length (bound_bytes lo)). absurd (begun_refused (sym starts ∙ plain_long_bound A lo hi table (inl h)))) (λ h. h)
      (lt_or max_path (length (bound_bytes lo)))

  started_hi : length (bound_bytes hi) ≤ max_path
  started_hi =
      ⊎_elim (λ (h : max_path < length (bound_bytes hi)). absurd (begun_refused (sym starts ∙ plain_long_bound A lo hi table (inr h)))) (λ h. h)
      (lt_or max_path (length (bound_bytes hi)))

  started_long : length file ≤ length table
  started_long =
      ⊎_elim (λ (h : length table < length file). absurd (begun_refused (sym starts ∙ plain_short A lo hi started_lo started_hi table h))) (λ h. h)
      (lt_or (length table) (length file))

  pub demand_of : (calls : List (Call file)) → DemandPlain A lo hi table calls
  demand_of calls = demand_3_plain A lo hi started_lo started_hi table started_long fits calls

-- the dispatches that served the seat were handed the file or one of another length: `calls` says so
pub seat_demand_3 : {file : List ℕ} (A : Admitted file) (lo hi : Bound) (table : List ℕ) → TableFits (fst_of file A.meta) lo hi table → (i : ℕ) (es : List Event)
    (r : Plain) (calls : List (Call file)) (l : List Answer) → start_plain file lo hi table ≡ begun r → past_after i new empty es ≡ since r (map asked_of calls) l
    → SeatDemand A lo hi table i es r calls
seat_demand_3 A lo hi table fits i es r calls l st e =
    let a = alone_since _ _ r (map asked_of calls) l (alone i es) e in
    let d = demand_of A lo hi table fits r st calls in
    record {
      demand = d;
      seated = begun_inj (sym d.starts ∙ st);
      holds = a.1 ∙ ap some (asked_read r calls);
      past = e ∙ ap (λ (x : List Answer). since r (map asked_of calls) x) (a.0 ∙ asked_answers r calls);
    }

-- the calls, where every dispatch of the list was handed the file or one of another length
abbrev PastOn : List ℕ → Past → Type 0
PastOn file empty = Unit {0}
PastOn file (since r cs l) = (calls : List (Call file)) × (map asked_of calls ≡ cs)

map_snoc : {file : List ℕ} (calls : List (Call file)) (c : Call file) → map asked_of (calls ++ (c ∷ [])) ≡ map asked_of calls ++ (asked_of c ∷ [])
map_snoc [] c = refl
map_snoc (d ∷ calls) c = ap (λ (l : List Asked). asked_of d ∷ l) (map_snoc calls c)

module _ (file : List ℕ) (i : ℕ) where
  on_heard : (c : Call file) (a : Answer) (p : Past) → PastOn file p → PastOn file (heard (asked_of c) a p)
  on_heard c a empty h = tt
  on_heard c a (since r cs l) h = (h.0 ++ (c ∷ []), map_snoc h.0 c ∙ ap (λ (x : List Asked). x ++ (asked_of c ∷ [])) h.1)

  on_cond : (b : Bool) (p q : Past) → PastOn file p → PastOn file q → PastOn file (cond b p q)
  on_cond true p q h g = h
  on_cond false p q h g = g

  on_sits : (j : ℕ) (r : Plain) (d : Done) (p : Past) → PastOn file p → PastOn file (past_sits i j r d p)
  on_sits j r (done t) p h = on_cond (eqb j i) (since r [] []) p ([], refl) h
  on_sits j r (Done.refused n) p h = h

  on_served : (c : Call file) (d : Dispatch) (p : Past) → PastOn file p → PastOn file (past_served i (asked_of c) d p)
  on_served c (served j a t) p h = on_cond (eqb j i) (heard (asked_of c) a p) p (on_heard c a p h) h
  on_served c nobody p h = h
  on_served c (Dispatch.refused n) p h = h

  past_on : (es : List Event) (s : Seats) (p : Past) → HandsOn file es → PastOn file p → PastOn file (past_after i s p es)
  past_on [] s p on h = h
  past_on (raises j ∷ es) s p on h = past_on es (after_event s (raises j)) p on h
  past_on (sits j r ∷ es) s p on h = past_on es (after_event s (sits j r)) (past_sits i j r (seat s j r) p) on (on_sits j r (seat s j r) p h)
  past_on (dispatches given space ∷ es) s p on h =
      past_on es (after_event s (dispatches given space)) (past_served i (asked given space) (dispatch given s space) p) on.1
      (on_served (record { file = given; space = space; which = on.0 }) (dispatch given s space) p h)

  pub seat_calls : (es : List Event) → HandsOn file es → (r : Plain) (cs : List Asked) (l : List Answer) → past_after i new empty es ≡ since r cs l
      → (calls : List (Call file)) × (map asked_of calls ≡ cs)
  seat_calls es on r cs l e = subst (PastOn file) e (past_on es new empty on tt)
