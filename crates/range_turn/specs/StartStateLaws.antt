-- A reading that a start gave can go on: its state is right, so a call of next comes to the walk.
--     seek_levels       the walk along a bound writes at most one level more than the bound has bytes
--     AllSound, seek_sound, start_sound     each of its levels is that of a judged node
--     stack_sound       the same of levels in arrays
--     StateRight, start_state     the state of a reading that a start gave
--     next_walk         a call of next where the state is right
-- Assumes nothing.
use Rattle.std.specs.Prelude.{◌≡◌, refl, Bool, true, false, cond, ◌⊎◌, List, [], ◌∷◌, ℕ, zero, suc, ◌+◌, ◌-◌, ◌≤◌, leb, eqb, length}
use Rattle.std.proofs.Common.{sym, ap, subst, ⊎_elim, inl, inr, arith, le-leb, eq-eqb}
use Rattle.std.proofs.Math.Option.{Option}
use Rattle.std.proofs.Math.Decide.{ℕ_discrete}
use Rattle.format.specs.declared.Refusal.{Refusal}
use Rattle.buffers.specs.DecideLaws.{decides_and, decides_le}
use Rattle.format.specs.Limits.{max_path, max_levels, max_sum, BOUND, NODE, SUM}
use Rattle.format.specs.Node.{Node, Judgement, sound, unsound, Search, find_input, transition_at}
use Rattle.format.specs.Opening as O
use Rattle.format.specs.Opening.{Meta, Opening, opened, opening}
use Rattle.format.specs.Paths.{Fst, fst_of, node_in}
use Rattle.format.specs.Strings.{Bound}
use Rattle.reading.specs.Reading.{View, Level, level_with, on_node, on_search, on_opened, Sought, got, halted, last_levels, seek, bound_bytes, bounds_test, is_inclusive}
use Rattle.reading.specs.Reading.{Started, started, started_at, pending_at, start, next, walk}
use Rattle.stream_start.specs.Views.{stack_is}
use Rattle.range_node.specs.Entries.{Entered, SoundTo}

-- ---- the ways of a test

record NodeWay {A : Type 0} (j : Judgement) (go : Node → A) (x : A) : Type 0 where
  node : Node
  is : j ≡ sound node
  goes : go node ≡ x

on_node_lem : {A : Type 0} (j : Judgement) (go : Node → A) (stop x : A) → on_node j go stop ≡ x → NodeWay j go x ⊎ (stop ≡ x)
on_node_lem (sound m) go stop x e = inl (record { node = m; is = refl; goes = e })
on_node_lem unsound go stop x e = inr e

on_search_lem : {A : Type 0} (s : Search) (go miss : ℕ → A) (x : A) → on_search s go miss ≡ x → ((p : ℕ) × (go p ≡ x)) ⊎ ((p : ℕ) × (miss p ≡ x))
on_search_lem (Search.at i) go miss x e = inl (i, e)
on_search_lem (Search.absent p) go miss x e = inr (p, e)

on_opened_lem : {A : Type 0} (o : Opening) (go : Meta → A) (stop : Refusal → A) (x : A) → on_opened o go stop ≡ x → ((m : Meta) × (go m ≡ x)) ⊎ ((n : Refusal) × (stop n ≡ x))
on_opened_lem (opened m) go stop x e = inl (m, e)
on_opened_lem (O.Opening.refused n) go stop x e = inr (n, e)

on_test : {A : Type 0} (b : Bool) (then other x : A) → cond b then other ≡ x → ((b ≡ true) × (then ≡ x)) ⊎ (other ≡ x)
on_test true then other x e = inl (refl, e)
on_test false then other x e = inr e

-- ---- the levels that the walk along a bound writes

not_got : {ls : List Level} {n : Refusal} → halted n ≡ got ls → ⊥
not_got e = let z : ◌≡◌ {A = ℕ} 0 1 = cc in omega arith

got_same : {ls ks : List Level} → got ls ≡ got ks → ls ≡ ks
got_same e = cc

last_levels_lem : (b : Bool) (l : Level) (s : List Level) → length (last_levels b l s) ≤ length s + 1
last_levels_lem true l [] = omega arith
last_levels_lem true l (p ∷ s) = omega arith
last_levels_lem false l s = omega arith

seek_levels : (f : Fst) (inclusive : Bool) (a i sum : ℕ) (s : List Level) (lo : List ℕ) (ls : List Level) → seek f inclusive a i sum s lo ≡ got ls
    → length ls ≤ length s + length lo + 1
unfolding seek
seek_levels f inclusive a i sum s [] ls e =
    ⊎_elim
    (λ w.
    ⊎_elim
    (λ q. omega (arith, last_levels_lem inclusive (level_with a i 0 sum) s, ap length (got_same q.1)))
    (λ q. absurd (not_got q))
    (on_test (leb sum max_sum) (got (last_levels inclusive (level_with a i 0 sum) s)) (halted SUM) (got ls) w.goes))
    (λ q. absurd (not_got q))
    (on_node_lem (node_in f a) (λ m. cond (leb sum max_sum) (got (last_levels inclusive (level_with a i 0 sum) s)) (halted SUM)) (halted NODE) (got ls) e)
seek_levels f inclusive a i sum s (b ∷ lo) ls e =
    ⊎_elim
    (λ w.
    ⊎_elim
    (λ q.
    ⊎_elim
    (λ p.
    let t = transition_at w.node.transitions p.0 in
    omega (arith, seek_levels f inclusive t.addr b (sum + t.out) (level_with a i (p.0 + 1) sum ∷ s) lo ls p.1))
    (λ p. omega (arith, ap length (got_same p.1)))
    (on_search_lem (find_input w.node.transitions b)
    (λ p. seek f inclusive (transition_at w.node.transitions p).addr b (sum + (transition_at w.node.transitions p).out) (level_with a i (p + 1) sum ∷ s) lo)
    (λ p. got (level_with a i p sum ∷ s)) (got ls) q.1))
    (λ q. absurd (not_got q))
    (on_test (leb sum max_sum)
    (on_search (find_input w.node.transitions b)
    (λ p. seek f inclusive (transition_at w.node.transitions p).addr b (sum + (transition_at w.node.transitions p).out) (level_with a i (p + 1) sum ∷ s) lo)
    (λ p. got (level_with a i p sum ∷ s)))
    (halted SUM) (got ls) w.goes))
    (λ q. absurd (not_got q))
    (on_node_lem (node_in f a)
    (λ m. cond (leb sum max_sum)
    (on_search (find_input m.transitions b)
    (λ p. seek f inclusive (transition_at m.transitions p).addr b (sum + (transition_at m.transitions p).out) (level_with a i (p + 1) sum ∷ s) lo)
    (λ p. got (level_with a i p sum ∷ s)))
    (halted SUM))
    (halted NODE) (got ls) e)

-- ---- each level that it writes is that of a judged node

pub data AllSound (f : Fst) : List Level → Type 0 where
  no_level : AllSound f []
  one_more : (l : Level) (s : List Level) → Entered f l.addr → AllSound f s → AllSound f (l ∷ s)

highest_sound : {f : Fst} {l : Level} {s : List Level} → AllSound f (l ∷ s) → Entered f l.addr
highest_sound (one_more l s e rest) = e

others_sound : {f : Fst} {l : Level} {s : List Level} → AllSound f (l ∷ s) → AllSound f s
others_sound (one_more l s e rest) = rest

last_sound : (f : Fst) (b : Bool) (l : Level) (s : List Level) → Entered f l.addr → AllSound f s → AllSound f (last_levels b l s)
last_sound f true l [] e rest = one_more l [] e no_level
last_sound f true l (p ∷ s) e rest = one_more (level_with p.addr p.inp (p.trans - 1) p.out) s (highest_sound rest) (others_sound rest)
last_sound f false l s e rest = one_more l s e rest

seek_sound : (f : Fst) (inclusive : Bool) (a i sum : ℕ) (s : List Level) (lo : List ℕ) (ls : List Level) → AllSound f s
    → seek f inclusive a i sum s lo ≡ got ls → AllSound f ls
unfolding seek
seek_sound f inclusive a i sum s [] ls all e =
    ⊎_elim
    (λ w.
    ⊎_elim
    (λ q. subst (AllSound f) (got_same q.1) (last_sound f inclusive (level_with a i 0 sum) s (record { node = w.node; is = w.is }) all))
    (λ q. absurd (not_got q))
    (on_test (leb sum max_sum) (got (last_levels inclusive (level_with a i 0 sum) s)) (halted SUM) (got ls) w.goes))
    (λ q. absurd (not_got q))
    (on_node_lem (node_in f a) (λ m. cond (leb sum max_sum) (got (last_levels inclusive (level_with a i 0 sum) s)) (halted SUM)) (halted NODE) (got ls) e)
seek_sound f inclusive a i sum s (b ∷ lo) ls all e =
    ⊎_elim
    (λ w.
    ⊎_elim
    (λ q.
    ⊎_elim
    (λ p.
    let t = transition_at w.node.transitions p.0 in
    seek_sound f inclusive t.addr b (sum + t.out) (level_with a i (p.0 + 1) sum ∷ s) lo ls
    (one_more (level_with a i (p.0 + 1) sum) s (record { node = w.node; is = w.is }) all) p.1)
    (λ p. subst (AllSound f) (got_same p.1) (one_more (level_with a i p.0 sum) s (record { node = w.node; is = w.is }) all))
    (on_search_lem (find_input w.node.transitions b)
    (λ p. seek f inclusive (transition_at w.node.transitions p).addr b (sum + (transition_at w.node.transitions p).out) (level_with a i (p + 1) sum ∷ s) lo)
    (λ p. got (level_with a i p sum ∷ s)) (got ls) q.1))
    (λ q. absurd (not_got q))
    (on_test (leb sum max_sum)
    (on_search (find_input w.node.transitions b)
    (λ p. seek f inclusive (transition_at w.node.transitions p).addr b (sum + (transition_at w.node.transitions p).out) (level_with a i (p + 1) sum ∷ s) lo)
    (λ p. got (level_with a i p sum ∷ s)))
    (halted SUM) (got ls) w.goes))
    (λ q. absurd (not_got q))
    (on_node_lem (node_in f a)
    (λ m. cond (leb sum max_sum)
    (on_search (find_input m.transitions b)
    (λ p. seek f inclusive (transition_at m.transitions p).addr b (sum + (transition_at m.transitions p).out) (level_with a i (p + 1) sum ∷ s) lo)
    (λ p. got (level_with a i p sum ∷ s)))
    (halted SUM))
    (halted NODE) (got ls) e)

-- the addresses in arrays
pub stack_sound : (f : Fst) (n : ℕ) (xs is ps os : List ℕ) → AllSound f (stack_is n xs is ps os) → SoundTo f xs n
unfolding stack_is
stack_sound f zero xs is ps os all = λ k l. absurd (omega arith)
stack_sound f (suc n) xs is ps os all = λ k l.
    elim (ℕ_discrete k n) [
      | yes z ↦ rw z (highest_sound all)
      | no ne ↦ stack_sound f n xs is ps os (others_sound all) k (omega arith)
    ]

-- ---- a reading that a start gave

pub record StateRight (s : List ℕ) (r : View) : Type 0 where
  pub few : length r.levels ≤ max_levels
  pub short : r.bound_len ≤ max_path
  pub same : r.len ≡ length s

started_same : {r q : View} → started r ≡ started q → r ≡ q
started_same e = cc

not_started : {r : View} {n : Refusal} → Started.refused n ≡ started r → ⊥
not_started e = let z : ◌≡◌ {A = ℕ} 0 1 = cc in omega arith

state_at : (s : List ℕ) (hi : Bound) (empty : Option ℕ) (w : Sought) (r : View) → started_at s hi empty w ≡ started r → length (bound_bytes hi) ≤ max_path
    → ((ls : List Level) → w ≡ got ls → length ls ≤ max_levels) → StateRight s r
state_at s hi empty (got ls) r e short few =
    let q = started_same e in
    record {
      few = omega (arith, few ls refl, ap (λ (x : View). length x.levels) q);
      short = omega (arith, ap (λ (x : View). x.bound_len) q);
      same = sym (ap (λ (x : View). x.len) q);
    }
state_at s hi empty (halted n) r e short few = absurd (not_started e)

pub start_state : (s : List ℕ) (lo hi : Bound) (r : View) → start s lo hi ≡ started r → StateRight s r
unfolding start
start_state s lo hi r e =
    ⊎_elim (λ w. by w.0 w.1) (λ w. absurd (not_started w.1))
    (on_opened_lem (opening s)
    (λ m.
    cond (bounds_test lo hi)
    (cond (eqb (length s) 0) (started_at s hi Option.none (got []))
    (started_at s hi (pending_at lo (node_in (fst_of s m) m.root)) (seek (fst_of s m) (is_inclusive lo) m.root 0 0 [] (bound_bytes lo))))
    (Started.refused BOUND))
    (λ n. Started.refused n) (started r) e)
  where
    walked : (m : Meta) → bounds_test lo hi ≡ true
        → cond (eqb (length s) 0) (started_at s hi Option.none (got []))
        (started_at s hi (pending_at lo (node_in (fst_of s m) m.root)) (seek (fst_of s m) (is_inclusive lo) m.root 0 0 [] (bound_bytes lo)))
        ≡ started r → StateRight s r
    walked m short q =
        let b = (decides_and (leb (length (bound_bytes lo)) max_path) (leb (length (bound_bytes hi)) max_path) (decides_le (length (bound_bytes lo)) max_path)
        (decides_le (length (bound_bytes hi)) max_path)).yes short in
        ⊎_elim
        (λ w. state_at s hi Option.none (got []) r w.1 b.1 (λ ls x. omega (arith, ap length (got_same x))))
        (λ w.
        state_at s hi (pending_at lo (node_in (fst_of s m) m.root)) (seek (fst_of s m) (is_inclusive lo) m.root 0 0 [] (bound_bytes lo)) r w b.1
        (λ ls x. omega (arith, b.0, seek_levels (fst_of s m) (is_inclusive lo) m.root 0 0 [] (bound_bytes lo) ls x)))
        (on_test (eqb (length s) 0) (started_at s hi Option.none (got []))
        (started_at s hi (pending_at lo (node_in (fst_of s m) m.root)) (seek (fst_of s m) (is_inclusive lo) m.root 0 0 [] (bound_bytes lo))) (started r) q)

    by : (m : Meta)
        → cond (bounds_test lo hi)
        (cond (eqb (length s) 0) (started_at s hi Option.none (got []))
        (started_at s hi (pending_at lo (node_in (fst_of s m) m.root)) (seek (fst_of s m) (is_inclusive lo) m.root 0 0 [] (bound_bytes lo))))
        (Started.refused BOUND)
        ≡ started r → StateRight s r
    by m q =
        ⊎_elim (λ w. walked m w.0 w.1) (λ w. absurd (not_started w))
        (on_test (bounds_test lo hi)
        (cond (eqb (length s) 0) (started_at s hi Option.none (got []))
        (started_at s hi (pending_at lo (node_in (fst_of s m) m.root)) (seek (fst_of s m) (is_inclusive lo) m.root 0 0 [] (bound_bytes lo))))
        (Started.refused BOUND) (started r) q)

sound_at : (f : Fst) (s : List ℕ) (hi : Bound) (empty : Option ℕ) (w : Sought) (r : View) → started_at s hi empty w ≡ started r
    → ((ls : List Level) → w ≡ got ls → AllSound f ls) → AllSound f r.levels
sound_at f s hi empty (got ls) r e all = subst (AllSound f) (ap (λ (x : View). x.levels) (started_same e)) (all ls refl)
sound_at f s hi empty (halted n) r e all = absurd (not_started e)

pub start_sound : (s : List ℕ) (lo hi : Bound) (r : View) (m : Meta) → opening s ≡ opened m → start s lo hi ≡ started r → AllSound (fst_of s m) r.levels
unfolding start
start_sound s lo hi r m opens e =
    ⊎_elim (λ w. walked w.1) (λ w. absurd (not_started w))
    (on_test (bounds_test lo hi)
    (cond (eqb (length s) 0) (started_at s hi Option.none (got []))
    (started_at s hi (pending_at lo (node_in (fst_of s m) m.root)) (seek (fst_of s m) (is_inclusive lo) m.root 0 0 [] (bound_bytes lo))))
    (Started.refused BOUND) (started r) (rw opens at e))
  where
    walked : cond (eqb (length s) 0) (started_at s hi Option.none (got []))
        (started_at s hi (pending_at lo (node_in (fst_of s m) m.root)) (seek (fst_of s m) (is_inclusive lo) m.root 0 0 [] (bound_bytes lo)))
        ≡ started r → AllSound (fst_of s m) r.levels
    walked q =
        ⊎_elim
        (λ w. sound_at (fst_of s m) s hi Option.none (got []) r w.1 (λ ls x. subst (AllSound (fst_of s m)) (got_same x) no_level))
        (λ w.
        sound_at (fst_of s m) s hi (pending_at lo (node_in (fst_of s m) m.root)) (seek (fst_of s m) (is_inclusive lo) m.root 0 0 [] (bound_bytes lo)) r w
        (λ ls x. seek_sound (fst_of s m) (is_inclusive lo) m.root 0 0 [] (bound_bytes lo) ls no_level x))
        (on_test (eqb (length s) 0) (started_at s hi Option.none (got []))
        (started_at s hi (pending_at lo (node_in (fst_of s m) m.root)) (seek (fst_of s m) (is_inclusive lo) m.root 0 0 [] (bound_bytes lo))) (started r) q)

-- ---- a call of next

pub next_walk : (s : List ℕ) (m : Meta) → opening s ≡ opened m → (r : View) → StateRight s r → next s r max_path ≡ walk (fst_of s m) r r.empty
unfolding next
next_walk s m opens r h =
    let x = le-leb (length r.levels) max_levels h.few in
    let y = le-leb r.bound_len max_path h.short in
    let z = eq-eqb r.len (length s) h.same in
    rw (opens, x, y, z)
