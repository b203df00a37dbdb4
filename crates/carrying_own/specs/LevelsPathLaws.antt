-- A start's levels are a path from the root, and every call keeps them one (`LevelsPath`), on any file that opens.
--     seek_path, pop_path, descend_path      the parts of a start and of a call
--     start_own, next-own                    a start's reading is its file's own, and so is the reading after a call with that file
--     call_own, calls_own                    after any call, refused ones included, and after any list of calls
-- Assumes nothing.
use Prim.{Unit, tt}
use Rattle.std.specs.Prelude.{◌≡◌, Bool, true, cond, ◌&&◌, ◌⊎◌, ltb, leb, eqb}
use Rattle.std.proofs.Math.Path.{refl, ap, subst}
use Rattle.std.proofs.Common.{sym, ◌∙◌, inl, inr}
use Rattle.std.proofs.Math.Bool.{false}
use Rattle.std.proofs.lemmas.Bool.{and_parts}
use Rattle.std.proofs.Math.Option.{Option, none, some}
use Rattle.std.proofs.Math.Logic.{⊎_elim}
use mathlib.Core.List.{List, [], ◌∷◌}
use Prim.Native.Nat.{ℕ, zero, suc, ◌+◌, ◌-◌, ◌<◌, ◌≤◌}
use native.Mathlib.Omega.{arith}
use borrow.Author.Tests.{ltb-true, leb-true, le-leb, lt-leb, eq-eqb, ne_eqb}
use Rattle.std.proofs.Math.ListN.{length}
use Rattle.format.specs.declared.Refusal.{Refusal}
use Rattle.format.specs.Limits.{max_path, max_levels, max_sum, SPACE, BOUND, STATE}
use Rattle.format.specs.Node.{Node, Judgement, sound, unsound, Search, find_input, transition_at}
use Rattle.format.specs.Laws.TransitionLaws.{at_member, find_input_member}
use Rattle.format.specs.Opening.{Meta, Opening, opened, opening}
use Rattle.format.specs.Opening as Opening
use Rattle.format.specs.Paths.{Fst, fst_of, node_in}
use Rattle.format.specs.Strings.{Bound}
use Rattle.reading.specs.Reading.{passes_test, bound_bytes, is_inclusive, Level, level_with, View, key_of, on_node, on_search, on_opened, Sought, got, last_levels, seek, pending_at, Started, started, started_at, bounds_test, start, Step, refuse, moved, counted, Popped, top, used_up, bad, pop, next_trans, child, stepped, Went, found, passed, descend, after_descend, after_pop, walk, state_test, next}
use Rattle.reading.proofs.RunLaws.{lt_or, target_live}
use Rattle.reading.specs.Demand.{Call, Allowed, call, reading_after}
use Rattle.carrying_own.specs.LevelsPath.{LedTo, from_root, by_byte, OnPath, LevelsPath, Own}

-- ---- the cases of a judgement, a test and a search

pub on_node_lem : {A : Type 0} (P : A → Type 0) (j : Judgement) (go : Node → A) (stop : A) → ((m : Node) → j ≡ sound m → P (go m)) → P stop
    → P (on_node j go stop)
on_node_lem P (sound m) go stop h g = h m refl
on_node_lem P unsound go stop h g = g

pub on_cond : {A : Type 0} (P : A → Type 0) (c : Bool) (x y : A) → (c ≡ true → P x) → (c ≡ false → P y) → P (cond c x y)
on_cond P true x y h g = h refl
on_cond P false x y h g = g refl

pub on_search_lem : {A : Type 0} (P : A → Type 0) (q : Search) (go miss : ℕ → A) → ((p : ℕ) → q ≡ Search.at p → P (go p)) → ((p : ℕ) → q ≡ Search.absent p → P (miss p))
    → P (on_search q go miss)
on_search_lem P (Search.at p) go miss h g = h p refl
on_search_lem P (Search.absent p) go miss h g = g p refl

-- ---- another next place

module _ (f : Fst) where
  led_place : (l : Level) (p : ℕ) (s : List Level) → LedTo f l s → LedTo f (level_with l.addr l.inp p l.out) s
  led_place l p s (from_root a o) = from_root a o
  led_place l p s (by_byte n t e mem i a o) = by_byte n t e mem i a o

  pub on_place : (l : Level) (p : ℕ) (s : List Level) → OnPath f l s → OnPath f (level_with l.addr l.inp p l.out) s
  on_place l p s h = record { node = h.node; judged = h.judged; led = led_place l p s h.led }

  -- ---- start

  -- with so many levels at most
  abbrev pub SoughtPath : ℕ → Sought → Type 0
  SoughtPath n (got s) = LevelsPath f s × (length s ≤ n)
  SoughtPath n (Sought.halted c) = Unit {0}

  last_path : (inclusive : Bool) (l : Level) (s : List Level) → OnPath f l s → LevelsPath f s
      → LevelsPath f (last_levels inclusive l s) × (length (last_levels inclusive l s) ≤ suc (length s))
  last_path true l [] h below = ((h, below), omega arith)
  last_path true l (k ∷ s) h below = ((on_place k (k.trans - 1) s below.0, below.1), omega arith)
  last_path false l s h below = ((h, below), omega arith)

  pub seek_path : (inclusive : Bool) (lo : List ℕ) (a i sum : ℕ) (s : List Level) → LedTo f (level_with a i 0 sum) s → LevelsPath f s
      → SoughtPath (suc (length s + length lo)) (seek f inclusive a i sum s lo)
  unfolding seek
  seek_path inclusive [] a i sum s led below =
      on_node_lem (SoughtPath _) (node_in f a) _ _
      (λ m e.
      on_cond (SoughtPath _) (leb sum max_sum) _ _
      (λ _. let r = last_path inclusive (level_with a i 0 sum) s (record { node = m; judged = e; led = led }) below in (r.0, omega (arith, r.1)))
      (λ _. tt))
      tt
  seek_path inclusive (b ∷ lo) a i sum s led below =
      on_node_lem (SoughtPath _) (node_in f a) _ _
      (λ m e.
      let here : (p : ℕ) → OnPath f (level_with a i p sum) s = λ p. record { node = m; judged = e; led = led_place (level_with a i 0 sum) p s led } in
      on_cond (SoughtPath _) (leb sum max_sum) _ _
      (λ _.
      on_search_lem (SoughtPath _) (find_input m.transitions b) _ _
      (λ p found.
      let q = find_input_member m.transitions b p found in
      let r = seek_path inclusive lo (transition_at m.transitions p).addr b (sum + (transition_at m.transitions p).out) (level_with a i (p + 1) sum ∷ s)
      (by_byte m (transition_at m.transitions p) e (at_member m.transitions p q.0) (sym q.1) refl refl) (here (p + 1), below) in
      let n : suc (suc (length s) + length lo) ≡ suc (length s + suc (length lo)) = omega arith in
      subst (λ (k : ℕ). SoughtPath k (seek f inclusive (transition_at m.transitions p).addr b (sum + (transition_at m.transitions p).out) (level_with a i (p + 1) sum ∷ s) lo)) n r)
      (λ p _. ((here p, below), omega arith)))
      (λ _. tt))
      tt

  -- ---- next

  abbrev pub PoppedPath : ℕ → Popped → Type 0
  PoppedPath n (top l m s) = (node_in f l.addr ≡ sound m) × (l.trans < length m.transitions) × LevelsPath f (l ∷ s) × (length (l ∷ s) ≤ n)
  PoppedPath n used_up = Unit {0}
  PoppedPath n bad = Unit {0}

  pub pop_path : (n : ℕ) (s : List Level) → length s ≤ n → LevelsPath f s → PoppedPath n (pop f s)
  unfolding pop
  pop_path n [] le h = tt
  pop_path n (l ∷ s) le h =
      on_node_lem (PoppedPath n) (node_in f l.addr) _ _
      (λ m e.
      on_cond (PoppedPath n) (ltb l.trans (length m.transitions)) _ _ (λ c. (e, ltb-true l.trans (length m.transitions) c, h, le))
      (λ _. pop_path n s (omega arith) h.1))
      tt

  abbrev pub WentPath : Went → Type 0
  WentPath (found s v t) = LevelsPath f s × (length s ≤ max_levels)
  WentPath (passed t) = Unit {0}
  WentPath (Went.halted n) = Unit {0}

  -- the levels after one transition
  pub step_path : (l : Level) (m n : Node) (s : List Level) → node_in f l.addr ≡ sound m → l.trans < length m.transitions
      → node_in f (next_trans l m).addr ≡ sound n → LevelsPath f (l ∷ s) → LevelsPath f (child l m ∷ stepped l ∷ s)
  step_path l m n s e lt en h = (
    record { node = n; judged = en; led = by_byte m (next_trans l m) e (at_member m.transitions l.trans lt) refl refl refl },
    (on_place l (l.trans + 1) s h.0, h.1),
  )

  pub descend_path : (hi : Bound) (room : ℕ) (l : Level) (m : Node) (s : List Level) (t : ℕ) → room + length s ≤ max_path → node_in f l.addr ≡ sound m
      → l.trans < length m.transitions → LevelsPath f (l ∷ s) → WentPath (descend room f hi l m s t)
  unfolding descend
  descend_path hi zero l m s t le e lt h = tt
  descend_path hi (suc room) l m s t le e lt h =
      on_cond WentPath (leb (l.out + (next_trans l m).out) max_sum) _ _
      (λ _.
      on_node_lem WentPath (node_in f (next_trans l m).addr) _ _
      (λ n en.
      let on = step_path l m n s e lt en h in
      on_cond WentPath (passes_test hi (key_of (child l m ∷ stepped l ∷ s))) _ _ (λ _. tt)
      (λ _.
      on_cond WentPath n.final _ _
      (λ _.
      on_cond WentPath (leb (l.out + (next_trans l m).out + n.final_output) max_sum) _ _ (λ _. (on, omega arith)) (λ _. tt))
      (λ nf.
      descend_path hi room (child l m) n (stepped l ∷ s) (counted t) (omega arith) en
      (target_live f l.addr m (next_trans l m) e (at_member m.transitions l.trans lt) n en nf) on)))
      tt)
      (λ _. tt)

-- ---- calls

pub allowed_or : {s : List ℕ} (c : Call s) → (Allowed c) ⊎ (¬ Allowed c)
allowed_or {s} c =
    ⊎_elim
    (λ (lt : c.space < max_path). inr (λ h. omega (arith, h.room)))
    (λ (ge : max_path ≤ c.space).
    ⊎_elim (λ (e : c.file ≡ s). inl (record { same = ap length e; room = ge })) (λ ne. inr (λ h. ne h.same)) c.which)
    (lt_or c.space max_path)

pub file_same : {s : List ℕ} (c : Call s) → Allowed c → c.file ≡ s
file_same {s} c h = ⊎_elim (λ (e : c.file ≡ s). e) (λ ne. absurd (ne h.same)) c.which

both_false : (a b : Bool) → (a && (b && false)) ≡ false
both_false true true = refl
both_false true false = refl
both_false false b = refl

module _ (s : List ℕ) (m : Meta) (opens : opening s ≡ opened m) where
  pub state_own : (r : View) → Own s m r → state_test r (length s) ≡ true
  state_own r o = simp (le-leb (length r.levels) max_levels o.levels_le, le-leb r.bound_len max_path o.bound_le, eq-eqb r.len (length s) o.len_is)

  -- a reading is not one of a file of another length
  pub state_other : (r : View) → Own s m r → (other : List ℕ) → ¬ (length other ≡ length s) → state_test r (length other) ≡ false
  state_other r o other ne =
      rw (ne_eqb r.len (length other) (λ q. ne (sym q ∙ o.len_is))) (both_false (leb (length r.levels) max_levels) (leb r.bound_len max_path))

  -- ---- start

  abbrev OwnStart : Started → Type 0
  OwnStart (started r) = Own s m r
  OwnStart (Started.refused n) = Unit {0}

  started_own : (hi : Bound) (e : Option ℕ) (w : Sought) → length (bound_bytes hi) ≤ max_path → SoughtPath (fst_of s m) max_levels w → OwnStart (started_at s hi e w)
  started_own hi e (got ls) le h = record { len_is = refl; bound_le = le; levels_le = h.1; path = h.0 }
  started_own hi e (Sought.halted n) le h = tt

  sought_more : (n k : ℕ) (w : Sought) → n ≤ k → SoughtPath (fst_of s m) n w → SoughtPath (fst_of s m) k w
  sought_more n k (got ls) le h = (h.0, omega (arith, h.1))
  sought_more n k (Sought.halted c) le h = tt

  abbrev seek_of : Bound → Sought
  seek_of lo = seek (fst_of s m) (is_inclusive lo) m.root 0 0 [] (bound_bytes lo)

  seek_own : (lo : Bound) → length (bound_bytes lo) ≤ max_path → SoughtPath (fst_of s m) max_levels (seek_of lo)
  seek_own lo le =
      sought_more (suc (0 + length (bound_bytes lo))) max_levels (seek_of lo) (omega arith)
      (seek_path (fst_of s m) (is_inclusive lo) (bound_bytes lo) m.root 0 0 [] (from_root refl refl) tt)

  starts_own : (lo hi : Bound) → OwnStart (start s lo hi)
  unfolding start
  starts_own lo hi =
      rw opens
      (on_cond OwnStart (bounds_test lo hi)
      (cond (eqb (length s) 0) (started_at s hi none (got [])) (started_at s hi (pending_at lo (node_in (fst_of s m) m.root)) (seek_of lo)))
      (Started.refused BOUND)
      (λ ok.
      let lo_le = leb-true (length (bound_bytes lo)) max_path (and_parts (leb (length (bound_bytes lo)) max_path) (leb (length (bound_bytes hi)) max_path) ok).0 in
      let hi_le = leb-true (length (bound_bytes hi)) max_path (and_parts (leb (length (bound_bytes lo)) max_path) (leb (length (bound_bytes hi)) max_path) ok).1 in
      on_cond OwnStart (eqb (length s) 0) _ _ (λ _. started_own hi none (got []) hi_le (tt, omega arith))
      (λ _. started_own hi (pending_at lo (node_in (fst_of s m) m.root)) (seek_of lo) hi_le (seek_own lo lo_le)))
      (λ _. tt))

  pub start_own : (lo hi : Bound) (r : View) → start s lo hi ≡ started r → Own s m r
  start_own lo hi r is = subst OwnStart is (starts_own lo hi)

  -- ---- next

  pub moved_own : (r : View) → Own s m r → (ls : List Level) (t : ℕ) → LevelsPath (fst_of s m) ls → length ls ≤ max_levels → Own s m (moved r ls t)
  moved_own r o ls t h le = record { len_is = o.len_is; bound_le = o.bound_le; levels_le = le; path = h }

  abbrev OwnStep : Step → Type 0
  OwnStep o = Own s m o.reading

  descended_own : (r : View) → Own s m r → (w : Went) → WentPath (fst_of s m) w → OwnStep (after_descend r w)
  descended_own r o (found ls v t) h = moved_own r o ls t h.0 h.1
  descended_own r o (passed t) h = moved_own r o [] t tt (omega arith)
  descended_own r o (Went.halted n) h = o

  popped_own : (r : View) → Own s m r → (p : Popped) → PoppedPath (fst_of s m) max_levels p → OwnStep (after_pop (fst_of s m) r p)
  popped_own r o (top l n ls) h =
      descended_own r o (descend (max_path - length ls) (fst_of s m) r.bound l n ls r.total)
      (descend_path (fst_of s m) r.bound (max_path - length ls) l n ls r.total (omega (arith, h.3)) h.0 h.1 h.2)
  popped_own r o used_up h = moved_own r o [] r.total tt (omega arith)
  popped_own r o bad h = o

  pub walk_own : (r : View) → Own s m r → (e : Option ℕ) → OwnStep (walk (fst_of s m) r e)
  walk_own r o (some v) =
      on_cond OwnStep (passes_test r.bound []) _ _ (λ _. moved_own r o [] r.total tt (omega arith))
      (λ _. moved_own r o r.levels r.total o.path o.levels_le)
  walk_own r o none = popped_own r o (pop (fst_of s m) r.levels) (pop_path (fst_of s m) max_levels r.levels o.levels_le o.path)

  -- an allowed call walks; any other is refused
  pub call_walks : (r : View) → Own s m r → (c : Call s) → Allowed c → call r c ≡ walk (fst_of s m) r r.empty
  unfolding next
  call_walks r o c h =
      ap (λ (file : List ℕ). next file r c.space) (file_same c h) ∙ rw (opens, state_own r o, le-leb max_path c.space h.room)

  pub call_refused : (r : View) → Own s m r → (c : Call s) → ¬ Allowed c → (n : Refusal) × (call r c ≡ refuse r n)
  unfolding next
  call_refused r o c out =
      ⊎_elim
      (λ (same : c.file ≡ s).
      ⊎_elim
      (λ (lt : c.space < max_path). (SPACE, ap (λ (file : List ℕ). next file r c.space) same ∙ rw (opens, state_own r o, lt-leb max_path c.space lt)))
      (λ (ge : max_path ≤ c.space). absurd (out (record { same = ap length same; room = ge })))
      (lt_or c.space max_path))
      (λ ne. by c.file (state_other r o c.file ne) (opening c.file) refl)
      c.which
    where
      by : (other : List ℕ) → state_test r (length other) ≡ false → (q : Opening) → opening other ≡ q → (n : Refusal) × (next other r c.space ≡ refuse r n)
      by other wrong (opened m') q = (STATE, rw (q, wrong))
      by other wrong (Opening.refused n) q = (n, rw q)

  pub call_own : (r : View) → Own s m r → (c : Call s) → Own s m (call r c).reading
  call_own r o c =
      ⊎_elim (λ (h : Allowed c). subst OwnStep (sym (call_walks r o c h)) (walk_own r o r.empty))
      (λ (out : ¬ Allowed c). subst OwnStep (sym (call_refused r o c out).1) o) (allowed_or c)

  pub calls_own : (cs : List (Call s)) (r : View) → Own s m r → Own s m (reading_after r cs)
  calls_own [] r o = o
  calls_own (c ∷ cs) r o = calls_own cs (call r c).reading (call_own r o c)
