-- A reading of an admitted file from its start to its end, call after call, and what it has to do with lookup.
--     whole                    a reading from its start to its end (`WholeRun`: `Whole`)
--     OnWay, on_way_next       a reading on its way: the next call hands out a key and leaves fewer visits, or ends it
--     start_only_bound         on an admitted file a start is refused only for a bound
--     lookup_agrees            the unbounded reading hands out a key with v exactly when lookup answers v
-- Assumes nothing.
use Prim.{tt}
use Rattle.std.specs.Prelude.{◌≡◌, refl, Bool, true, false, cond, ◌&&◌, ◌⊎◌, ℕ, zero, suc, ◌+◌, ◌<◌, ◌≤◌, leb, length}
use Rattle.std.proofs.Common.{sym, ◌∙◌, ap, subst, ⊎_elim, inl, inr, arith, le-leb}
use mathlib.Core.List.{List, [], ◌∷◌, ◌++◌, append_assoc, append-nil, Memᴰ}
use Rattle.std.proofs.lemmas.Bool.{lt-leb}
use Rattle.format.specs.Limits.{max_path, BOUND}
use Rattle.format.specs.Paths.{Fst, fst_of, Held}
use Rattle.format.specs.Laws.PathLaws.{held_unique}
use Rattle.format.specs.Admitted.{Admitted}
use Rattle.format.specs.Strings.{Bound, unbounded, MeetsLower, no_lower, PassesUpper, Between, Rising, NumberOf}
use Rattle.format.specs.Lookup as L
use Rattle.format.specs.Lookup.{get}
use Rattle.format.specs.Exact.{GetExact}
use Rattle.format.specs.Laws.LookupHeld.{get_exact}
use Rattle.reading.specs.Reading.{bound_bytes, bounds_test, View, Started, started, start, Answer, end, Step, next}
use Rattle.reading.proofs.RunLaws.{lt_or}
use Rattle.reading.specs.Demand.{Within, Extra, EmptyExcluded, Entry, entry, hand_out, NoneLeft, capped}
use Rattle.reading.specs.WholeRun.{Runs, run_end, run_key, Whole}
use Rattle.reading.proofs.ProgressLaws.{left, Called, hands, ended, ask_step}
use Rattle.reading.proofs.CutLaws.{keys_out}
use Rattle.reading.proofs.DemandLaws.{visits, pend, Comes, comes_held, comes_rising, comes_none_left, comes_total_ended, start_comes, begun, reading₀, start_given}

answered : (o : Step) (a : Answer) → o.answer ≡ a → o ≡ record { answer = a; reading = o.reading }
answered o a e = ap (λ (x : Answer). record { answer = x; reading = o.reading }) e

module _ {s : List ℕ} (A : Admitted s) (lo hi : Bound) (short_lo : length (bound_bytes lo) ≤ max_path) (short_hi : length (bound_bytes hi) ≤ max_path)
    (space : ℕ) (room : max_path ≤ space) where
  record Finished (handed : List Entry) (r : View) : Type 0 where
    rest : List Entry
    last : View
    runs : Runs s space r rest last
    comes : Comes A lo hi short_hi (handed ++ rest) 1 last

  abbrev asked : (handed : List Entry) (r : View) → Type 0
  asked handed r =
      Called s A.meta A.opens hi (length (bound_bytes hi)) short_hi (visits A lo hi short_hi) (pend A lo hi short_hi) handed 0 r (next s r space)

  ask : (handed : List Entry) (r : View) → Comes A lo hi short_hi handed 0 r → asked handed r
  ask handed r c = ask_step s A.meta A.opens hi (length (bound_bytes hi)) short_hi (visits A lo hi short_hi) (pend A lo hi short_hi) space room handed 0 r c

  finish_by : (handed : List Entry) (r : View) → asked handed r
      → ((e : Entry) → left (fst_of s A.meta) (next s r space).reading < left (fst_of s A.meta) r → Comes A lo hi short_hi (handed ++ (e ∷ [])) 0 (next s r space).reading
      → Finished (handed ++ (e ∷ [])) (next s r space).reading)
      → Finished handed r
  finish_by handed r (hands e z is c less) more =
      let w = more e less c in
      record {
        rest = e ∷ w.rest;
        last = w.last;
        runs = run_key e (answered (next s r space) (hand_out e) is) w.runs;
        comes = rw (append_assoc handed (e ∷ []) w.rest) at w.comes;
      }
  finish_by handed r (ended is c) more =
      record {
        rest = [];
        last = (next s r space).reading;
        runs = run_end (answered (next s r space) end is);
        comes = rw (append-nil handed) c;
      }

  -- each key that is handed out leaves fewer visits
  finish : (n : ℕ) (handed : List Entry) (r : View) → left (fst_of s A.meta) r ≤ n → Comes A lo hi short_hi handed 0 r → Finished handed r
  finish zero handed r le c = finish_by handed r (ask handed r c) (λ e less d. absurd (omega arith))
  finish (suc n) handed r le c = finish_by handed r (ask handed r c) (λ e less d. finish n (handed ++ (e ∷ [])) (next s r space).reading (omega arith) d)

  pub whole : Whole A lo hi space
  whole =
      let r : View = reading₀ A lo hi short_lo short_hi in
      let q = begun A lo hi short_lo short_hi in
      let w = finish (left (fst_of s A.meta) r) [] r (omega arith) (start_comes A lo hi short_hi q.levels (pend A lo hi short_hi) refl q.sane q.comes) in
      record {
        reading = r;
        starts = start_given A lo hi short_lo short_hi;
        entries = w.rest;
        last = w.last;
        runs = w.runs;
        ascending = comes_rising A lo hi short_hi w.rest 1 w.last w.comes;
        held = comes_held A lo hi short_hi w.rest 1 w.last w.comes;
        none_left = comes_none_left A lo hi short_hi w.rest 1 w.last w.comes (omega arith);
        total = λ x. comes_total_ended A lo hi short_hi w.rest 1 w.last w.comes x (omega arith);
      }

-- ---- a reading on its way, for a loop of calls

pub record OnWay {s : List ℕ} (A : Admitted s) (lo hi : Bound) (r : View) : Type 0 where
  pub short : length (bound_bytes hi) ≤ max_path
  pub handed : List Entry
  pub comes : Comes A lo hi short handed 0 r

pub data OnWayNext {s : List ℕ} (A : Admitted s) (lo hi : Bound) (r : View) (o : Step) : Type 0 where
  goes_on : (e : Entry) → o.answer ≡ hand_out e → OnWay A lo hi o.reading → left (fst_of s A.meta) o.reading < left (fst_of s A.meta) r
      → OnWayNext A lo hi r o
  comes_to_end : o.answer ≡ end → OnWayNext A lo hi r o

pub on_way_start : {s : List ℕ} (A : Admitted s) (lo hi : Bound) → length (bound_bytes lo) ≤ max_path → length (bound_bytes hi) ≤ max_path
    → (r : View) → start s lo hi ≡ started r → OnWay A lo hi r
on_way_start A lo hi a b r is =
    let q = begun A lo hi a b in
    let given = start_given A lo hi a b in
    let same : r ≡ reading₀ A lo hi a b = cc in
    record { short = b; handed = []; comes = rw same (start_comes A lo hi b q.levels (pend A lo hi b) refl q.sane q.comes) }

pub on_way_next : {s : List ℕ} (A : Admitted s) (lo hi : Bound) (r : View) → OnWay A lo hi r → (space : ℕ) → max_path ≤ space → OnWayNext A lo hi r (next s r space)
on_way_next {s} A lo hi r w space room =
    by (ask_step s A.meta A.opens hi (length (bound_bytes hi)) w.short (visits A lo hi w.short) (pend A lo hi w.short) space room w.handed 0 r w.comes)
  where
    by : Called s A.meta A.opens hi (length (bound_bytes hi)) w.short (visits A lo hi w.short) (pend A lo hi w.short) w.handed 0 r (next s r space)
        → OnWayNext A lo hi r (next s r space)
    by (hands e z is c less) = goes_on e is (record { short = w.short; handed = w.handed ++ (e ∷ []); comes = c }) less
    by (ended is c) = comes_to_end is

-- ---- the refusals of a start

pub both_false : (x : Bool) → (x && false) ≡ false
both_false true = refl
both_false false = refl

pub start_long_bound : {s : List ℕ} → Admitted s → (lo hi : Bound) → (max_path < length (bound_bytes lo)) ⊎ (max_path < length (bound_bytes hi))
    → start s lo hi ≡ Started.refused BOUND
unfolding start
start_long_bound A lo hi (inl h) = let a = lt-leb (length (bound_bytes lo)) max_path h in rw (A.opens, a)
start_long_bound A lo hi (inr h) =
    let b = lt-leb (length (bound_bytes hi)) max_path h in
    rw (A.opens, b, both_false (leb (length (bound_bytes lo)) max_path))

-- a reading, or BOUND for a bound over 255 bytes
pub start_only_bound : {s : List ℕ} (A : Admitted s) (lo hi : Bound)
    → ((r : View) × (start s lo hi ≡ started r))
    ⊎ ((start s lo hi ≡ Started.refused BOUND) × ((max_path < length (bound_bytes lo)) ⊎ (max_path < length (bound_bytes hi))))
start_only_bound A lo hi =
    ⊎_elim
    (λ (h : max_path < length (bound_bytes lo)). inr (start_long_bound A lo hi (inl h), inl h))
    (λ (a : length (bound_bytes lo) ≤ max_path).
    ⊎_elim
    (λ (h : max_path < length (bound_bytes hi)). inr (start_long_bound A lo hi (inr h), inr h))
    (λ (b : length (bound_bytes hi) ≤ max_path). inl (reading₀ A lo hi a b, start_given A lo hi a b))
    (lt_or max_path (length (bound_bytes hi))))
    (lt_or max_path (length (bound_bytes lo)))

-- ---- reading and lookup

pub between_all : (k : List ℕ) → Between unbounded unbounded k
between_all k = record { meets = no_lower; within = λ p. elim p [ ] }

pub record Agrees {s : List ℕ} (A : Admitted s) (space : ℕ) (W : Whole A unbounded unbounded space) : Type 0 where
  pub read_looked : (k : List ℕ) (v : ℕ) → Memᴰ (entry k v) W.entries → get s k ≡ L.Answer.value v
  pub looked_read : (k : List ℕ) (v : ℕ) → get s k ≡ L.Answer.value v → Memᴰ (entry k v) W.entries

pub lookup_agrees : {s : List ℕ} (A : Admitted s) (space : ℕ) (W : Whole A unbounded unbounded space) → Agrees A space W
lookup_agrees A space W =
    record {
      read_looked = λ k v on. (get_exact A k).get_held v (W.held (entry k v) on).0;
      looked_read = λ k v e. W.none_left k v ((get_exact A k).held_get v e) (between_all k);
    }
