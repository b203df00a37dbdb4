-- What a reading of an admitted file has still to hand out, as a list, with what a card asks of each step.
--     Tidy r              where the empty key is pending, there is one level at most
--     next_right          a key handed out is the key of the levels, on any file and any tidy reading
--     plain_few           a key leaves at most 256 levels, on any file and any reading
--     plain_by_room       of a buffer it matters only whether it has room for every key
--     Ahead s r es        calls with room hand out es, each the key of the levels that it leaves, and then "end"
--     start_ahead         from the start: the held keys between the bounds, ascending
-- Assumes nothing.
use Prim.{Unit, tt}
use Rattle.std.specs.Prelude.{◌≡◌, refl, Bool, true, false, cond, ◌&&◌, ◌⊎◌, ℕ, zero, suc, ◌+◌, ◌-◌, ◌<◌, ◌≤◌, leb, eqb, length, drop}
use Rattle.std.proofs.Common.{sym, ◌∙◌, ap, subst, ⊎_elim, inl, inr, arith, le-leb, leb-true}
use Rattle.std.proofs.Math.Option.{Option, none, some}
use mathlib.Core.List.{List, [], ◌∷◌, ◌++◌, Memᴰ}
use Rattle.format.specs.Limits.{max_path, max_sum, SPACE, STATE, BOUND, SUM, max_levels}
use Rattle.format.specs.Node.{Node, Judgement, sound, unsound}
use Rattle.format.specs.Opening.{Meta, Opening, opened, opening}
use Rattle.format.specs.Opening as Opening
use Rattle.format.specs.Paths.{Fst, fst_of, node_in, Held}
use Rattle.format.specs.Admitted.{Admitted}
use Rattle.format.specs.Strings.{Bound, unbounded, included, excluded, Between, before_test, Rising}
use Rattle.reading.specs.Reading.{meets_test, passes_test, bound_bytes, is_inclusive, Level, level_with, View, path_of, key_of, on_node, on_opened, Sought, got, halted, seek, last_levels, pending_at, Started, started, started_at, bounds_test, start, Answer, key, end, Step, refuse, moved, counted, Popped, top, used_up, bad, pop, next_trans, child, stepped, Went, found, passed, descend, after_descend, after_pop, walk, state_test, next}
use Rattle.reading.proofs.RunLaws.{lt_or}
use Rattle.reading.specs.Demand.{Entry, entry, hand_out, NoneLeft}
use Rattle.reading.proofs.CutLaws.{keys_out}
use Rattle.plain.specs.Numbers.{TableFits}
use Rattle.plain.specs.Plain.{Plain, plain_with, begun, start_plain, PlainStep, counted_step, next_plain}
use Rattle.plain.specs.PlainRun.{RunsPlain, run_end, run_key, WholePlain}
use Rattle.plain.proofs.PlainRunLaws.{plain_key, plain_started, whole_plain}
use Rattle.ops_spec.specs.OpsFuelLaws.{cond_way, node_way}

-- ---- the key of the levels

abbrev WentFits : Went → Type 0
WentFits (found s v t) = length s ≤ max_levels
WentFits (passed t) = Unit {0}
WentFits (Went.halted c) = Unit {0}

descend_fits : (room : ℕ) (f : Fst) (hi : Bound) (l : Level) (m : Node) (s : List Level) (t : ℕ) → (room + length s ≤ max_path) ⊎ (room ≡ 0) → WentFits (descend room f hi l m s t)
unfolding descend
descend_fits zero f hi l m s t h = tt
descend_fits (suc room) f hi l m s t (inr h) = absurd (omega arith)
descend_fits (suc room) f hi l m s t (inl h) =
    cond_way WentFits (leb (l.out + (next_trans l m).out) max_sum)
    (λ _.
    node_way WentFits (node_in f (next_trans l m).addr)
    (λ n en.
    cond_way WentFits (passes_test hi (key_of (child l m ∷ stepped l ∷ s))) (λ _. tt)
    (λ _.
    cond_way WentFits n.final
    (λ _. cond_way WentFits (leb (l.out + (next_trans l m).out + n.final_output) max_sum) (λ _. omega arith) (λ _. tt))
    (λ nf. descend_fits room f hi (child l m) n (stepped l ∷ s) (counted t) (inl (omega arith)))))
    tt)
    (λ _. tt)

abbrev pub RightBy : View → Answer → Type 0
RightBy r (key k v) = (key_of r.levels ≡ k) × (length r.levels ≤ max_levels) × (r.empty ≡ none)
RightBy r end = Unit {0}
RightBy r (Answer.refused c) = Unit {0}

abbrev pub Right : Step → Type 0
Right o = RightBy o.reading o.answer

abbrev pub TidyBy : Option ℕ → List Level → Type 0
TidyBy none s = Unit {0}
TidyBy (some v) s = length s ≤ 1

abbrev pub Tidy : View → Type 0
Tidy r = TidyBy r.empty r.levels

went_right : (r : View) (w : Went) → WentFits w → Right (after_descend r w)
went_right r (found s v t) h = (refl, h, refl)
went_right r (passed t) h = tt
went_right r (Went.halted c) h = tt

popped_right : (f : Fst) (r : View) (p : Popped) → Right (after_pop f r p)
popped_right f r (top l m s) =
    went_right r (descend (max_path - length s) f r.bound l m s r.total) (descend_fits (max_path - length s) f r.bound l m s r.total room)
  where
    room : (max_path - length s + length s ≤ max_path) ⊎ (max_path - length s ≡ 0)
    room = ⊎_elim (λ (a : length s < max_path). inl (omega arith)) (λ (a : max_path ≤ length s). inr (omega arith)) (lt_or (length s) max_path)
popped_right f r used_up = tt
popped_right f r bad = tt

one_key : (s : List Level) → length s ≤ 1 → key_of s ≡ []
unfolding path_of
one_key [] h = refl
one_key (l ∷ []) h = refl
one_key (l ∷ m ∷ s) h = absurd (omega arith)

walk_right : (f : Fst) (r : View) (o : Option ℕ) → TidyBy o r.levels → Right (walk f r o)
walk_right f r (some v) h = cond_way Right (passes_test r.bound []) (λ _. tt) (λ _. (one_key r.levels h, omega arith, refl))
walk_right f r none h = popped_right f r (pop f r.levels)

pub next_right : (s : List ℕ) (r : View) (space : ℕ) → Tidy r → Right (next s r space)
unfolding next
next_right s r space h = by (opening s)
  where
    by : (o : Opening)
        → Right (on_opened o (λ m. cond (state_test r (length s)) (cond (leb max_path space) (walk (fst_of s m) r r.empty) (refuse r SPACE)) (refuse r STATE)) (λ n. refuse r n))
    by (opened m) =
        cond_way Right (state_test r (length s)) (λ _. cond_way Right (leb max_path space) (λ _. walk_right (fst_of s m) r r.empty h) (λ _. tt)) (λ _. tt)
    by (Opening.refused n) = tt

-- ---- a key leaves at most 256 levels, on any file and any reading

abbrev FewBy : View → Answer → Type 0
FewBy r (key k v) = length r.levels ≤ max_levels
FewBy r end = Unit {0}
FewBy r (Answer.refused c) = Unit {0}

abbrev Few : Step → Type 0
Few o = FewBy o.reading o.answer

right_few : (r : View) (a : Answer) → RightBy r a → FewBy r a
right_few r (key k v) h = h.1
right_few r end h = tt
right_few r (Answer.refused c) h = tt

walk_few : (f : Fst) (r : View) (o : Option ℕ) → length r.levels ≤ max_levels → Few (walk f r o)
walk_few f r (some v) h = cond_way Few (passes_test r.bound []) (λ _. tt) (λ _. h)
walk_few f r none h =
    right_few (after_pop f r (pop f r.levels)).reading (after_pop f r (pop f r.levels)).answer (popped_right f r (pop f r.levels))

state_few : (r : View) (n : ℕ) → state_test r n ≡ true → length r.levels ≤ max_levels
state_few r n e = leb-true (length r.levels) max_levels (by (leb (length r.levels) max_levels) (leb r.bound_len max_path && eqb r.len n) e)
  where
    by : (a b : Bool) → (a && b) ≡ true → a ≡ true
    by true b e = refl
    by false b e = e

next_few : (s : List ℕ) (r : View) (space : ℕ) → Few (next s r space)
unfolding next
next_few s r space = by (opening s)
  where
    by : (o : Opening)
        → Few (on_opened o (λ m. cond (state_test r (length s)) (cond (leb max_path space) (walk (fst_of s m) r r.empty) (refuse r SPACE)) (refuse r STATE)) (λ n. refuse r n))
    by (opened m) =
        cond_way Few (state_test r (length s))
        (λ right. cond_way Few (leb max_path space) (λ _. walk_few (fst_of s m) r r.empty (state_few r (length s) right)) (λ _. tt)) (λ _. tt)
    by (Opening.refused n) = tt

pub plain_few : (s : List ℕ) (p : Plain) (space : ℕ) (k : List ℕ) (v : ℕ) → (next_plain s p space).answer ≡ key k v
    → length (next_plain s p space).reading.view.levels ≤ max_levels
plain_few s p space k v e =
    let w = plain_key p (next s p.view space).reading (next s p.view space).answer k v e in
    let few : FewBy (next s p.view space).reading (key k v) = subst (FewBy (next s p.view space).reading) w.0 (next_few s p.view space) in
    subst (λ (r : View). length r.levels ≤ max_levels) (sym w.1) few

-- ---- a start leaves a tidy reading

abbrev TidyStart : Started → Type 0
TidyStart (started r) = Tidy r
TidyStart (Started.refused n) = Unit {0}

abbrev OneSought : Sought → Type 0
OneSought (got s) = length s ≤ 1
OneSought (halted n) = Unit {0}

tidy_by : (o : Option ℕ) (s : List Level) → (o ≡ none) ⊎ (length s ≤ 1) → TidyBy o s
tidy_by none s h = tt
tidy_by (some v) s (inl e) = let z : ◌≡◌ {A = ℕ} 0 1 = cc in absurd (omega arith)
tidy_by (some v) s (inr h) = h

tidy_sought : (s : List ℕ) (hi : Bound) (o : Option ℕ) (x : Sought) → (o ≡ none) ⊎ OneSought x → TidyStart (started_at s hi o x)
tidy_sought s hi o (got l) h = tidy_by o l h
tidy_sought s hi o (halted n) h = tt

seek_one : (f : Fst) (b : Bool) (a : ℕ) → OneSought (seek f b a 0 0 [] [])
unfolding seek
seek_one f b a = node_way OneSought (node_in f a) (λ m e. cond_way OneSought (leb 0 max_sum) {x = got (last_levels b (level_with a 0 0 0) [])} {y = halted SUM} (λ _. by b) (λ _. tt)) tt
  where
    by : (b : Bool) → length (last_levels b (level_with a 0 0 0) []) ≤ 1
    by true = omega arith
    by false = omega arith

-- the empty key meets no other bound than an empty one
pending_or : (lo : Bound) (j : Judgement) → (pending_at lo j ≡ none) ⊎ (bound_bytes lo ≡ [])
unfolding before_test
pending_or unbounded j = inr refl
pending_or (included []) j = inr refl
pending_or (included (b ∷ bs)) j = inl refl
pending_or (excluded []) j = inr refl
pending_or (excluded (b ∷ bs)) j = inl refl

start_tidy_any : (s : List ℕ) (lo hi : Bound) → TidyStart (start s lo hi)
unfolding start
start_tidy_any s lo hi = by (opening s)
  where
    sought : (m : Meta) → TidyStart (started_at s hi (pending_at lo (node_in (fst_of s m) m.root)) (seek (fst_of s m) (is_inclusive lo) m.root 0 0 [] (bound_bytes lo)))
    sought m =
        tidy_sought s hi (pending_at lo (node_in (fst_of s m) m.root)) (seek (fst_of s m) (is_inclusive lo) m.root 0 0 [] (bound_bytes lo))
        (⊎_elim (λ e. inl e)
        (λ (e : bound_bytes lo ≡ []). inr (subst (λ (b : List ℕ). OneSought (seek (fst_of s m) (is_inclusive lo) m.root 0 0 [] b)) (sym e) (seek_one (fst_of s m) (is_inclusive lo) m.root)))
        (pending_or lo (node_in (fst_of s m) m.root)))

    by : (o : Opening)
        → TidyStart
        (on_opened o
        (λ m.
        cond (bounds_test lo hi)
        (cond (eqb (length s) 0) (started_at s hi none (got []))
        (started_at s hi (pending_at lo (node_in (fst_of s m) m.root)) (seek (fst_of s m) (is_inclusive lo) m.root 0 0 [] (bound_bytes lo))))
        (Started.refused BOUND))
        (λ n. Started.refused n))
    by (opened m) =
        cond_way TidyStart (bounds_test lo hi)
        (λ _. cond_way TidyStart (eqb (length s) 0) {x = started_at s hi none (got [])} (λ _. tt) (λ _. sought m))
        (λ _. tt)
    by (Opening.refused n) = tt

pub start_tidy : (s : List ℕ) (lo hi : Bound) (r : View) → start s lo hi ≡ started r → Tidy r
start_tidy s lo hi r e = subst TidyStart e (start_tidy_any s lo hi)

-- ---- the list of what is to come

pub data Ahead (s : List ℕ) : Plain → List Entry → Type 0 where
  ahead_end : {p : Plain} (p' : Plain) → next_plain s p max_path ≡ record { answer = end; reading = p' } → Ahead s p []
  ahead_key : {p : Plain} {es : List Entry} (e : Entry) (p' : Plain) → next_plain s p max_path ≡ record { answer = hand_out e; reading = p' }
      → key_of p'.view.levels ≡ e.key → length p'.view.levels ≤ max_levels → Ahead s p' es → Ahead s p (e ∷ es)

-- a key handed out by a plain reading is the key of its levels too
pub plain_right : (s : List ℕ) (p q : Plain) (e : Entry) → Tidy p.view → next_plain s p max_path ≡ record { answer = hand_out e; reading = q }
    → RightBy q.view (hand_out e)
plain_right s p q e tidy is =
    let w = plain_key p (next s p.view max_path).reading (next s p.view max_path).answer e.key e.value (ap (λ (o : PlainStep). o.answer) is) in
    let same : q.view ≡ (next s p.view max_path).reading = sym (ap (λ (o : PlainStep). o.reading.view) is) ∙ w.1 in
    let one : RightBy (next s p.view max_path).reading (hand_out e) = subst (RightBy (next s p.view max_path).reading) w.0 (next_right s p.view max_path tidy) in
    subst (λ (r : View). RightBy r (hand_out e)) (sym same) one

pub runs_ahead : (s : List ℕ) (p p' : Plain) (es : List Entry) → Tidy p.view → RunsPlain s max_path p es p' → Ahead s p es
runs_ahead s p p' _ tidy (run_end e) = ahead_end p' e
runs_ahead s p p' _ tidy (run_key {p₁ = p₁} {es = es} x e more) =
    let w = plain_right s p p₁ x tidy e in
    ahead_key x p₁ e w.0 w.1 (runs_ahead s p₁ p' es (tidy_by p₁.view.empty p₁.view.levels (inl w.2)) more)

-- a buffer has room or it has not
pub next_by_room : (s : List ℕ) (r : View) (a b : ℕ) → leb max_path a ≡ leb max_path b → next s r a ≡ next s r b
unfolding next
next_by_room s r a b h = rw h

pub plain_by_room : (s : List ℕ) (p : Plain) (a b : ℕ) → leb max_path a ≡ leb max_path b → next_plain s p a ≡ next_plain s p b
plain_by_room s p a b h = ap (counted_step p) (next_by_room s p.view a b h)

pub plain_room : (s : List ℕ) (p : Plain) (space : ℕ) → max_path ≤ space → next_plain s p space ≡ next_plain s p max_path
plain_room s p space h = plain_by_room s p space max_path (le-leb max_path space h)

pub record AheadOf {s : List ℕ} (A : Admitted s) (lo hi : Bound) (p : Plain) : Type 0 where
  pub entries : List Entry
  pub ahead : Ahead s p entries
  pub ascending : Rising (keys_out entries)
  pub held : (e : Entry) → Memᴰ e entries → Held (fst_of s A.meta) e.key e.value × Between lo hi e.key
  pub none_left : NoneLeft (fst_of s A.meta) lo hi entries

pub start_ahead : {s : List ℕ} (A : Admitted s) (lo hi : Bound) → length (bound_bytes lo) ≤ max_path → length (bound_bytes hi) ≤ max_path
    → (c : List ℕ) → length s ≤ length c → TableFits (fst_of s A.meta) lo hi c → (p : Plain) → start_plain s lo hi c ≡ begun p → AheadOf A lo hi p
start_ahead {s} A lo hi a b c long fits p is =
    let W : WholePlain A lo hi c max_path = whole_plain A lo hi a b c long fits max_path (omega arith) in
    let E : List Entry = W.whole.entries in
    let last : Plain = plain_with W.whole.last 0 in
    let first : Plain = plain_with W.whole.reading (length W.whole.entries) in
    let given = W.starts in
    let same : first ≡ p = cc in
    record {
      entries = E;
      ahead = runs_ahead s p last E (start_tidy s lo hi p.view (plain_started s lo hi c p is)) (subst (λ (x : Plain). RunsPlain s max_path x E last) same W.runs);
      ascending = W.whole.ascending;
      held = W.whole.held;
      none_left = W.whole.none_left;
    }
