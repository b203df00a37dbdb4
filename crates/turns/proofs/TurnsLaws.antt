-- The turn of eight seats, and one dispatch.
--     ahead_at, ahead_less             arithmetic modulo 8: w is the seat after the `ahead`, and an earlier turn leaves fewer ahead
--     TurnAt, turn_some, turn_none     whose turn it is; none exactly when nobody waits
--     right_test_lem, test_right           of eight seats right_test decides SeatsRight
--     right_set                        a right seat put among right seats
--     Raised, Sat, Ways                the ways of the three calls
--     dispatch_wrong, dispatch_nobody, dispatch_turn     dispatch by cases, for the code
--     one_served, serves               an unrefused dispatch changes exactly one seat
-- Assumes nothing.
use Rattle.std.specs.Prelude.{◌≡◌, refl, ◌⊎◌, Bool, true, false, cond, ◌&&◌, List, [], ◌∷◌, ℕ, zero, suc, ◌+◌, ◌%◌, ◌≤◌, ◌<◌, leb, length, get_or, set}
use Rattle.std.proofs.Common.{sym, ◌∙◌, ap, subst, ⊎_elim, inl, inr, arith, leb-true, le-leb, length-set, get_or-set_same, get_or-set_other}
use Rattle.std.proofs.Math.Option.{Option, none, some}
use Rattle.std.proofs.lemmas.Bool.{and_parts, and_from}
use Rattle.format.specs.declared.Refusal.{Refusal}
use Rattle.format.specs.Limits.{SEAT}
use Rattle.reading.specs.Reading.{Answer, key, end}
use Rattle.plain.specs.Plain.{Plain, next_plain}
use Rattle.turns.specs.Turns.{Seat, Seats, no_seat, seat_at, taken, seat_test, all_seats, right_test, turn_from, turn, Done, done, with_seat, seat, raise, Dispatch, served, nobody, kept, by_answer, after_step, serve, by_turn, dispatch}
use Rattle.turns.specs.TurnsDemand.{ahead, SeatsRight, OneServed, Serves}

-- ---- arithmetic of turns

pub ahead_le : (last w : ℕ) → ahead last w ≤ 7
ahead_le last w = omega arith

-- w is the seat of its own turn
pub ahead_at : (last w : ℕ) → last ≤ 7 → w ≤ 7 → (last + (ahead last w + 1)) % 8 ≡ w
ahead_at last w hl hw = omega arith

-- an earlier turn leaves fewer ahead
pub ahead_less : (last w k : ℕ) → last ≤ 7 → w ≤ 7 → 1 ≤ k → k ≤ ahead last w → ahead ((last + k) % 8) w < ahead last w
ahead_less last w k hl hw h1 hk = omega arith

step_mod : (i m : ℕ) → ((i + 1) % 8 + m) % 8 ≡ (i + (m + 1)) % 8
step_mod i m = omega arith

-- ---- whose turn it is

-- the k-th seat after i waits, and none between
pub record TurnAt (s : Seats) (i n j : ℕ) : Type 0 where
  pub step : ℕ
  pub from_one : 1 ≤ step
  pub to : step ≤ n
  pub is : j ≡ (i + step) % 8
  pub waits : (seat_at s j).waiting ≡ true
  pub none_between : (m : ℕ) → 1 ≤ m → m < step → (seat_at s ((i + m) % 8)).waiting ≡ false

-- the seat after i, or one of those after that
split_one : (n m : ℕ) → 1 ≤ m → m ≤ suc n → (m ≡ 1) ⊎ ((k : ℕ) × (m ≡ k + 1) × (1 ≤ k) × (k ≤ n))
split_one n zero h1 h = absurd (omega arith)
split_one n (suc zero) h1 h = inl refl
split_one n (suc (suc k)) h1 h = inr (suc k, omega arith, omega arith, omega arith)

waits_at : (s : Seats) (a b : ℕ) (v : Bool) → a ≡ b → (seat_at s a).waiting ≡ v → (seat_at s b).waiting ≡ v
waits_at s a b v e h = subst (λ (x : ℕ). (seat_at s x).waiting ≡ v) e h

pub some_inj : {A : Type 0} {x y : A} → some x ≡ some y → x ≡ y
some_inj e = cc

pub none_some : {A : Type 0} {x : A} → ¬ (◌≡◌ {A = Option A} none (some x))
none_some e = let z : ◌≡◌ {A = ℕ} 0 1 = cc in omega arith

pub turn_from_some : (n : ℕ) (s : Seats) (i j : ℕ) → turn_from n s i ≡ some j → TurnAt s i n j
unfolding turn_from
turn_from_some zero s i j e = absurd (none_some e)
turn_from_some (suc n) s i j e = by (seat_at s ((i + 1) % 8)).waiting refl e (turn_from_some n s ((i + 1) % 8) j)
  where
    between : (seat_at s ((i + 1) % 8)).waiting ≡ false → (k : ℕ) → ((m : ℕ) → 1 ≤ m → m < k → (seat_at s (((i + 1) % 8 + m) % 8)).waiting ≡ false)
        → (m : ℕ) → 1 ≤ m → m < k + 1 → (seat_at s ((i + m) % 8)).waiting ≡ false
    between f k h m h1 lt =
        ⊎_elim
        (λ (e : m ≡ 1). rw e f)
        (λ (w : (q : ℕ) × (m ≡ q + 1) × (1 ≤ q) × (q ≤ k)). rw w.1 (waits_at s _ _ false (step_mod i w.0) (h w.0 w.2 (omega (arith, w.1)))))
        (split_one k m h1 (omega arith))

    by : (b : Bool) → (seat_at s ((i + 1) % 8)).waiting ≡ b → cond b (some ((i + 1) % 8)) (turn_from n s ((i + 1) % 8)) ≡ some j
        → (turn_from n s ((i + 1) % 8) ≡ some j → TurnAt s ((i + 1) % 8) n j) → TurnAt s i (suc n) j
    by true q e ih =
        record {
          step = 1;
          from_one = omega arith;
          to = omega arith;
          is = sym (some_inj e);
          waits = waits_at s _ _ true (some_inj e) q;
          none_between = λ m h1 lt. absurd (omega arith);
        }
    by false q e ih =
        let t = ih e in
        record {
          step = t.step + 1;
          from_one = omega arith;
          to = omega (arith, t.to);
          is = t.is ∙ step_mod i t.step;
          waits = t.waits;
          none_between = between q t.step t.none_between;
        }

pub turn_from_none : (n : ℕ) (s : Seats) (i : ℕ) → turn_from n s i ≡ none → (m : ℕ) → 1 ≤ m → m ≤ n → (seat_at s ((i + m) % 8)).waiting ≡ false
unfolding turn_from
turn_from_none zero s i e m h1 h = absurd (omega arith)
turn_from_none (suc n) s i e m h1 h = by (seat_at s ((i + 1) % 8)).waiting refl e (turn_from_none n s ((i + 1) % 8))
  where
    by : (b : Bool) → (seat_at s ((i + 1) % 8)).waiting ≡ b → cond b (some ((i + 1) % 8)) (turn_from n s ((i + 1) % 8)) ≡ none
        → (turn_from n s ((i + 1) % 8) ≡ none → (m : ℕ) → 1 ≤ m → m ≤ n → (seat_at s (((i + 1) % 8 + m) % 8)).waiting ≡ false)
        → (seat_at s ((i + m) % 8)).waiting ≡ false
    by true q e ih = absurd (none_some (sym e))
    by false q e ih =
        ⊎_elim
        (λ (e : m ≡ 1). rw e q)
        (λ (w : (k : ℕ) × (m ≡ k + 1) × (1 ≤ k) × (k ≤ n)). rw w.1 (waits_at s _ _ false (step_mod i w.0) (ih e w.0 w.2 w.3)))
        (split_one n m h1 h)

pub turn_some : (s : Seats) (j : ℕ) → turn s ≡ some j → TurnAt s s.last 8 j
unfolding turn
turn_some s j e = turn_from_some 8 s s.last j e

pub turn_none : (s : Seats) → turn s ≡ none → s.last ≤ 7 → (w : ℕ) → w ≤ 7 → (seat_at s w).waiting ≡ false
unfolding turn
turn_none s e hl w hw = waits_at s _ _ false (ahead_at s.last w hl hw) (turn_from_none 8 s s.last e (ahead s.last w + 1) (omega arith) (omega arith))

pub turn_le : {s : Seats} {i n j : ℕ} → TurnAt s i n j → j ≤ 7
turn_le t = rw t.is (omega arith)

-- ---- right seats

pub right_last : (s : Seats) → right_test s ≡ true → s.last ≤ 7
right_last s e = leb-true s.last 7 (and_parts (leb s.last 7) (all_seats s.seats) e).0

right_all : (s : Seats) → right_test s ≡ true → all_seats s.seats ≡ true
right_all s e = (and_parts (leb s.last 7) (all_seats s.seats) e).1

all_set : (l : List Seat) (i : ℕ) (x : Seat) → all_seats l ≡ true → seat_test x ≡ true → all_seats (set l i x) ≡ true
unfolding all_seats
all_set [] i x h hx = h
all_set (y ∷ l) zero x h hx = and_from (seat_test x) (all_seats l) hx (and_parts (seat_test y) (all_seats l) h).1
all_set (y ∷ l) (suc i) x h hx =
    and_from (seat_test y) (all_seats (set l i x)) (and_parts (seat_test y) (all_seats l) h).0 (all_set l i x (and_parts (seat_test y) (all_seats l) h).1 hx)

-- a seat with a reading is never wrong
pub held_right : (b : Bool) (r : Plain) → seat_test (record { reading = some r; waiting = b }) ≡ true
held_right true r = refl
held_right false r = refl

all_at : (l : List Seat) (i : ℕ) → all_seats l ≡ true → seat_test (get_or l i no_seat) ≡ true
unfolding all_seats
all_at [] i h = refl
all_at (x ∷ l) zero h = (and_parts (seat_test x) (all_seats l) h).0
all_at (x ∷ l) (suc i) h = all_at l i (and_parts (seat_test x) (all_seats l) h).1

all_from : (l : List Seat) → ((i : ℕ) → seat_test (get_or l i no_seat) ≡ true) → all_seats l ≡ true
unfolding all_seats
all_from [] h = refl
all_from (x ∷ l) h = and_from (seat_test x) (all_seats l) (h 0) (all_from l (λ i. h (suc i)))

pub seat_test_true : (x : Seat) → (x.waiting ≡ true → taken x.reading ≡ true) → seat_test x ≡ true
seat_test_true x h = by x.waiting refl
  where
    by : (b : Bool) → x.waiting ≡ b → cond b (taken x.reading) true ≡ true
    by true e = h e
    by false e = refl

pub right_test_lem : {s : Seats} → SeatsRight s → right_test s ≡ true
right_test_lem {s} h =
    and_from (leb s.last 7) (all_seats s.seats) (le-leb s.last 7 h.last_within) (all_from s.seats (λ i. seat_test_true (seat_at s i) (h.waiting_taken i)))

pub test_right : (s : Seats) → length s.seats ≡ 8 → right_test s ≡ true → SeatsRight s
test_right s h e =
    record {
      eight = h;
      last_within = right_last s e;
      waiting_taken = λ i w. subst (λ (b : Bool). cond b (taken (seat_at s i).reading) true ≡ true) w (all_at s.seats i (right_all s e));
    }

pub right_set : (s : Seats) (last i : ℕ) (x : Seat) → SeatsRight s → last ≤ 7 → seat_test x ≡ true → SeatsRight (record { last = last; seats = set s.seats i x })
right_set s last i x h hl hx =
    test_right (record { last = last; seats = set s.seats i x }) (length-set s.seats i x ∙ h.eight)
    (and_from (leb last 7) (all_seats (set s.seats i x)) (le-leb last 7 hl) (all_set s.seats i x (right_all s (right_test_lem h)) hx))

-- ---- what a call does

pub data Raised (s : Seats) (i : ℕ) : Done → Type 0 where
  raised : i ≤ 7 → taken (seat_at s i).reading ≡ true → Raised s i (done (with_seat s i (record { reading = (seat_at s i).reading; waiting = true })))
  not_raised : (n : Refusal) → Raised s i (Done.refused n)

pub raise_ways : (s : Seats) (i : ℕ) → Raised s i (raise s i)
unfolding raise
raise_ways s i = by (leb i 7) (right_test s) (taken (seat_at s i).reading) refl refl
  where
    by : (a b c : Bool) → leb i 7 ≡ a → taken (seat_at s i).reading ≡ c
        → Raised s i (cond (a && (b && c)) (done (with_seat s i (record { reading = (seat_at s i).reading; waiting = true }))) (Done.refused SEAT))
    by true true true e q = raised (leb-true i 7 e) q
    by true true false e q = not_raised SEAT
    by true false c e q = not_raised SEAT
    by false b c e q = not_raised SEAT

pub data Sat (s : Seats) (i : ℕ) (r : Plain) : Done → Type 0 where
  sat : i ≤ 7 → Sat s i r (done (with_seat s i (record { reading = some r; waiting = (seat_at s i).waiting })))
  not_sat : (n : Refusal) → Sat s i r (Done.refused n)

pub seat_ways : (s : Seats) (i : ℕ) (r : Plain) → Sat s i r (seat s i r)
unfolding seat
seat_ways s i r = by (leb i 7) (right_test s) refl
  where
    by : (a b : Bool) → leb i 7 ≡ a
        → Sat s i r (cond (a && b) (done (with_seat s i (record { reading = some r; waiting = (seat_at s i).waiting }))) (Done.refused SEAT))
    by true true e = sat (leb-true i 7 e)
    by true false e = not_sat SEAT
    by false b e = not_sat SEAT

pub data Ways (file : List ℕ) (s : Seats) (space : ℕ) : Dispatch → Type 0 where
  way_served : (i : ℕ) (r : Plain) (a : Answer) → right_test s ≡ true → turn s ≡ some i → (seat_at s i).reading ≡ some r → (next_plain file r space).answer ≡ a
      → ((n : Refusal) → ¬ (a ≡ Answer.refused n)) → Ways file s space (served i a (kept s i (next_plain file r space).reading))
  way_nobody : right_test s ≡ true → turn s ≡ none → Ways file s space nobody
  way_refused : (n : Refusal) → Ways file s space (Dispatch.refused n)

key_unrefused : (k : List ℕ) (v : ℕ) (n : Refusal) → ¬ (◌≡◌ {A = Answer} (key k v) (Answer.refused n))
key_unrefused k v n e = let z : ◌≡◌ {A = ℕ} 0 1 = cc in omega arith

end_unrefused : (n : Refusal) → ¬ (◌≡◌ {A = Answer} end (Answer.refused n))
end_unrefused n e = let z : ◌≡◌ {A = ℕ} 0 1 = cc in omega arith

pub dispatch_ways : (file : List ℕ) (s : Seats) (space : ℕ) → Ways file s space (dispatch file s space)
unfolding dispatch
dispatch_ways file s space = by_right (right_test s) refl
  where
    by_answer_lem : (i : ℕ) (r : Plain) (a : Answer) → right_test s ≡ true → turn s ≡ some i → (seat_at s i).reading ≡ some r → (next_plain file r space).answer ≡ a
        → Ways file s space (by_answer s i (next_plain file r space).reading a)
    by_answer_lem i r (key k v) h t e q = way_served i r (key k v) h t e q (λ n. key_unrefused k v n)
    by_answer_lem i r end h t e q = way_served i r end h t e q (λ n. end_unrefused n)
    by_answer_lem i r (Answer.refused n) h t e q = way_refused n

    by_reading : (i : ℕ) (o : Option Plain) → right_test s ≡ true → turn s ≡ some i → (seat_at s i).reading ≡ o → Ways file s space (serve file s space i o)
    by_reading i (some r) h t e = by_answer_lem i r (next_plain file r space).answer h t e refl
    by_reading i none h t e = way_refused SEAT

    by_turn_lem : (o : Option ℕ) → right_test s ≡ true → turn s ≡ o → Ways file s space (by_turn file s space o)
    by_turn_lem (some i) h t = by_reading i (seat_at s i).reading h t refl
    by_turn_lem none h t = way_nobody h t

    by_right : (b : Bool) → right_test s ≡ b → Ways file s space (cond b (by_turn file s space (turn s)) (Dispatch.refused SEAT))
    by_right true h = by_turn_lem (turn s) h refl
    by_right false h = way_refused SEAT

-- ---- one dispatch

served_inj : {i j : ℕ} {a b : Answer} {t u : Seats} → ◌≡◌ {A = Dispatch} (served i a t) (served j b u) → (i ≡ j) × (a ≡ b) × (t ≡ u)
served_inj e = (cc, cc, cc)

pub at_same : (s : Seats) (i : ℕ) (x : Seat) → length s.seats ≡ 8 → i ≤ 7 → get_or (set s.seats i x) i no_seat ≡ x
at_same s i x h hi = get_or-set_same s.seats i x no_seat (omega arith)

pub one_served : (file : List ℕ) (s : Seats) (space i : ℕ) (a : Answer) (t : Seats) → length s.seats ≡ 8 → dispatch file s space ≡ served i a t
    → OneServed file s space i a t
one_served file s space i a t h e = by (dispatch file s space) (dispatch_ways file s space) e
  where
    by : (d : Dispatch) → Ways file s space d → d ≡ served i a t → OneServed file s space i a t
    by d (way_served j r b hr ht hs ha nr) e =
        let le = turn_le (turn_some s j ht) in
        let q = served_inj e in
        let o : OneServed file s space j b (kept s j (next_plain file r space).reading) =
        record {
          is_turn = ht;
          number = le;
          waited = (turn_some s j ht).waits;
          reading = r;
          held = hs;
          answered = ha;
          unrefused = nr;
          now = at_same s j _ h le;
          others = λ k ne. get_or-set_other s.seats j k _ no_seat ne;
          last_is = refl;
        } in
        subst (λ (u : Seats). OneServed file s space i a u) q.2
        (subst (λ (x : Answer). OneServed file s space i x (kept s j (next_plain file r space).reading)) q.1
        (subst (λ (k : ℕ). OneServed file s space k b (kept s j (next_plain file r space).reading)) q.0 o))
    by d (way_nobody hr ht) e = absurd (let z : ◌≡◌ {A = ℕ} 0 1 = cc in omega arith)
    by d (way_refused n) e = absurd (let z : ◌≡◌ {A = ℕ} 0 1 = cc in omega arith)

-- with somebody waiting an unrefused dispatch serves a seat
pub waiting_served : (file : List ℕ) (s : Seats) (space w : ℕ) → w ≤ 7 → (seat_at s w).waiting ≡ true → ¬ (dispatch file s space ≡ nobody)
waiting_served file s space w hw h e = by (dispatch file s space) (dispatch_ways file s space) e
  where
    by : (d : Dispatch) → Ways file s space d → d ≡ nobody → ⊥
    by d (way_served j r b hr ht hs ha nr) e = let z : ◌≡◌ {A = ℕ} 0 1 = cc in omega arith
    by d (way_nobody hr ht) e =
        let f = turn_none s ht (right_last s hr) w hw in
        let z : ◌≡◌ {A = Bool} true false = sym h ∙ f in
        let z : ◌≡◌ {A = ℕ} 0 1 = cc in omega arith
    by d (way_refused n) e = let z : ◌≡◌ {A = ℕ} 0 1 = cc in omega arith

pub serves : (file : List ℕ) (s : Seats) (space w : ℕ) → length s.seats ≡ 8 → w ≤ 7 → (seat_at s w).waiting ≡ true
    → ((n : Refusal) → ¬ (dispatch file s space ≡ Dispatch.refused n)) → Serves file s space
serves file s space w h hw wt nr = by (dispatch file s space) refl
  where
    by : (d : Dispatch) → dispatch file s space ≡ d → Serves file s space
    by (served i a t) e = record { seat = i; answer = a; seats = t; is = e; one = one_served file s space i a t h e }
    by nobody e = absurd (waiting_served file s space w hw wt e)
    by (Dispatch.refused n) e = absurd (nr n e)

-- ---- dispatch by cases

pub dispatch_wrong : (file : List ℕ) (s : Seats) (space : ℕ) → right_test s ≡ false → dispatch file s space ≡ Dispatch.refused SEAT
unfolding dispatch
dispatch_wrong file s space e = rw e

-- with nobody waiting neither the file nor the buffer is judged
pub dispatch_nobody : (file : List ℕ) (s : Seats) (space : ℕ) → right_test s ≡ true → ((w : ℕ) → w ≤ 7 → (seat_at s w).waiting ≡ false)
    → dispatch file s space ≡ nobody
unfolding dispatch
dispatch_nobody file s space e idle = rw (e, no_turn (turn s) refl)
  where
    no_turn : (o : Option ℕ) → turn s ≡ o → turn s ≡ none
    no_turn none q = q
    no_turn (some i) q =
        let t = turn_some s i q in
        let z : ◌≡◌ {A = Bool} true false = sym t.waits ∙ idle i (turn_le t) in
        absurd (let z : ◌≡◌ {A = ℕ} 0 1 = cc in omega arith)

pub dispatch_turn : (file : List ℕ) (s : Seats) (space i : ℕ) (r : Plain) → right_test s ≡ true → turn s ≡ some i → (seat_at s i).reading ≡ some r
    → dispatch file s space ≡ after_step s i (next_plain file r space)
unfolding dispatch
dispatch_turn file s space i r e t h = rw (e, t, h)

-- the seat whose turn it is has a reading
pub turn_held : (s : Seats) (i : ℕ) → right_test s ≡ true → turn s ≡ some i → (r : Plain) × ((seat_at s i).reading ≡ some r)
turn_held s i h t = by (seat_at s i).reading refl (subst (λ (b : Bool). cond b (taken (seat_at s i).reading) true ≡ true) (turn_some s i t).waits (all_at s.seats i (right_all s h)))
  where
    by : (o : Option Plain) → (seat_at s i).reading ≡ o → taken (seat_at s i).reading ≡ true → (r : Plain) × ((seat_at s i).reading ≡ some r)
    by (some r) e q = (r, e)
    by none e q =
        let z : ◌≡◌ {A = Bool} false true = sym (ap taken e) ∙ q in
        absurd (let z : ◌≡◌ {A = ℕ} 0 1 = cc in omega arith)
