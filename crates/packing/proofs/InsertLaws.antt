-- Laws of `insert`: a key more is held, and nothing else is lost or new.
--     inputs s             the bytes that lead along the open nodes s
--     Next o s k           the key k comes after the last one, or is the first and empty
--     insert_ok            one pair more; insert_all_ok a list of pairs
-- Assumes nothing.
use Prim.{Unit, tt}
use Rattle.std.proofs.Math.Path.{◌≡◌, refl, ap}
use Rattle.std.proofs.Common.{sym, ◌∙◌, subst, arith, eqb-true}
use Rattle.std.proofs.Math.Bool.{Bool}
use Rattle.std.specs.Prelude.{true, false, cond, ◌&&◌, ◌⊎◌, ℕ, zero, suc, ◌+◌, ◌-◌, ◌≤◌, ◌<◌, eqb, length}
use Rattle.std.proofs.Math.Logic.{inl, inr, ⊎_elim}
use Rattle.std.proofs.Math.Option.{Option, none, some}
use mathlib.Core.List.Memᴰ
use mathlib.Core.List.{List, [], ◌∷◌, ◌++◌, map, Memᴰ}
use Rattle.std.proofs.lemmas.Bool.{eqb-false}
use Rattle.format.specs.Limits.{max_sum}
use Rattle.format.specs.Node.{Ascending}
use Rattle.format.specs.Paths.{Fst}
use Rattle.format.specs.Strings.{Before, AllAfter, Rising}
use Rattle.format.specs.Laws.StringLaws.{before_nil, before_cons}
use Rattle.packing.specs.Lists.{Pair}
use Rattle.packing.specs.Registry.{Build}
use Rattle.packing.specs.Packing.{Arc, Open, with_arc, with_value, Closed, close, State, state_with, open_key, under, branch, insert, insert_pair, insert_all}
use Rattle.packing.specs.Promise.{Bytes, PairOk}
use Rattle.packing.proofs.FileLaws.{Has}
use Rattle.packing.proofs.BuildLaws.{Entry, BuildOk}
use Rattle.packing.proofs.HoldingLaws.{ArcHolds, OpenHolds, ends, along, StackHolds}
use Rattle.packing.specs.Kept.{close_keeps, insert_keeps, insert_all_keeps}
use Rattle.packing.proofs.KeptLaws.{and_true, and_assoc, Kept, kept_as}
use Rattle.packing.proofs.CloseLaws.{ArcOk, OpenOk, NextOk, StackOk, LastFinal, Shorter, Keeps, open_keeps, Grows, grows_trans, grows_none, has_grown, close_grows, CloseOk, holds_with, with_holds_stack, with_ok, close_ok}

abbrev pub inputs : List Open → List ℕ
inputs s = map (λ (o : Open). o.inp) s

abbrev pub Next : Open → List Open → List ℕ → Type 0
Next o s k = (Before (inputs s) k) ⊎ ((k ≡ []) × (s ≡ []) × (o.value ≡ none))

abbrev pub BelowFinal : List Open → Type 0
BelowFinal [] = Unit {0}
BelowFinal (p ∷ s) = LastFinal p s

-- the deepest open node has no finished transition yet
abbrev pub LastBare : Open → List Open → Type 0
LastBare o [] = o.arcs ≡ []
LastBare o (p ∷ s) = LastBare p s

pub last_below : (o : Open) (s : List Open) → LastFinal o s → BelowFinal s
last_below o [] w = tt
last_below o (p ∷ s) w = w

some_inj : {v w : ℕ} → ◌≡◌ {A = Option ℕ} (some v) (some w) → v ≡ w
some_inj e = cc

some_none : {v : ℕ} {o : Option ℕ} → o ≡ some v → o ≡ none → ⊥
some_none e f = let z : ◌≡◌ {A = ℕ} 0 1 = cc in omega arith

-- ---- new open nodes

ascending_none : Ascending []
unfolding Ascending
ascending_none i l = absurd (omega arith)

none_ok : (log : List Entry) (b : ℕ) → OpenOk log (record { inp = b; value = none; arcs = [] })
none_ok log b = record { arcs_ok = λ a mem. absurd (Memᴰ.not-nil mem); value_ok = λ v e. absurd (some_none e refl); ascending = ascending_none }

some_ok : (log : List Entry) (b v : ℕ) → v ≤ max_sum → OpenOk log (record { inp = b; value = some v; arcs = [] })
some_ok log b v fits = record {
  arcs_ok = λ a mem. absurd (Memᴰ.not-nil mem);
  value_ok = λ w e. omega (arith, fits, some_inj e);
  ascending = ascending_none;
}

pub open_key_ok : (log : List Entry) (o : Open) (b : ℕ) (k : List ℕ) (v : ℕ) → OpenOk log o → ((a : Arc) → Memᴰ a o.arcs → a.inp < b) → Bytes (b ∷ k) → v ≤ max_sum
    → StackOk log o (open_key b k v)
unfolding open_key
open_key_ok log o b [] v ok before bytes fits = (ok, record { before = before; byte = bytes.0 }, some_ok log b v fits)
open_key_ok log o b (c ∷ k) v ok before bytes fits =
    (ok, record { before = before; byte = bytes.0 }, open_key_ok log (record { inp = b; value = none; arcs = [] }) c k v (none_ok log b) (λ a mem. absurd (Memᴰ.not-nil mem)) bytes.1 fits)

pub open_key_last : (o : Open) (b : ℕ) (k : List ℕ) (v : ℕ) → LastFinal o (open_key b k v)
unfolding open_key
open_key_last o b [] v = (v, refl)
open_key_last o b (c ∷ k) v = open_key_last (record { inp = b; value = none; arcs = [] }) c k v

pub open_key_bare : (o : Open) (b : ℕ) (k : List ℕ) (v : ℕ) → LastBare o (open_key b k v)
unfolding open_key
open_key_bare o b [] v = refl
open_key_bare o b (c ∷ k) v = open_key_bare (record { inp = b; value = none; arcs = [] }) c k v

pub open_key_inputs : (b : ℕ) (k : List ℕ) (v : ℕ) → inputs (open_key b k v) ≡ b ∷ k
unfolding open_key
open_key_inputs b [] v = refl
open_key_inputs b (c ∷ k) v = ap (λ (l : List ℕ). b ∷ l) (open_key_inputs c k v)

module _ (g : Fst) where
  none_holds : (b : ℕ) (l : List ℕ) (w : ℕ) → OpenHolds g (record { inp = b; value = none; arcs = [] }) l w → ⊥
  none_holds b l w (ends e is) = some_none is refl
  none_holds b l w (along a mem h) = Memᴰ.not-nil mem

  some_holds : (b v : ℕ) (l : List ℕ) (w : ℕ) → OpenHolds g (record { inp = b; value = some v; arcs = [] }) l w → (l ≡ []) × (w ≡ v)
  some_holds b v l w (ends e is) = (e, sym (some_inj is))
  some_holds b v l w (along a mem h) = absurd (Memᴰ.not-nil mem)

  pub open_key_holds : (o : Open) (b : ℕ) (k : List ℕ) (v : ℕ) (l : List ℕ) (w : ℕ) → StackHolds g o (open_key b k v) l w
      → (OpenHolds g o l w) ⊎ ((l ≡ b ∷ k) × (w ≡ v))
  unfolding open_key
  open_key_holds o b [] v l w (inl h) = inl h
  open_key_holds o b [] v l w (inr (m, e, h)) = let r = some_holds b v m w h in inr (e ∙ ap (λ (x : List ℕ). b ∷ x) r.0, r.1)
  open_key_holds o b (c ∷ k) v l w (inl h) = inl h
  open_key_holds o b (c ∷ k) v l w (inr (m, e, h)) =
      ⊎_elim (λ z. absurd (none_holds b m w z)) (λ r. inr (e ∙ ap (λ (x : List ℕ). b ∷ x) r.0, r.1))
      (open_key_holds (record { inp = b; value = none; arcs = [] }) c k v m w h)

  pub open_key_old : (o : Open) (b : ℕ) (k : List ℕ) (v : ℕ) (l : List ℕ) (w : ℕ) → OpenHolds g o l w → StackHolds g o (open_key b k v) l w
  unfolding open_key
  open_key_old o b [] v l w h = inl h
  open_key_old o b (c ∷ k) v l w h = inl h

  pub open_key_new : (o : Open) (b : ℕ) (k : List ℕ) (v : ℕ) → StackHolds g o (open_key b k v) (b ∷ k) v
  unfolding open_key
  open_key_new o b [] v = inr ([], refl, ends refl refl)
  open_key_new o b (c ∷ k) v = inr (c ∷ k, refl, open_key_new (record { inp = b; value = none; arcs = [] }) c k v)

-- ---- nodes are only added

pub insert_grows : (B : Build) (o : Open) (s : List Open) (k : List ℕ) (v : ℕ) → Grows B.nodes (insert B o s k v).build.nodes
unfolding insert
insert_grows B o [] [] v = grows_none B.nodes
insert_grows B o (p ∷ s) [] v = grows_none B.nodes
insert_grows B o [] (b ∷ k) v = grows_none B.nodes
insert_grows B o (p ∷ s) (b ∷ k) v = go (eqb p.inp b) (insert_grows B p s k v)
  where
    go : (x : Bool) → Grows B.nodes (insert B p s k v).build.nodes
        → Grows B.nodes (cond x (under o (insert B p s k v)) (branch o (close B p s) b k v)).build.nodes
    go true rec = rec
    go false rec = close_grows B p s

pub insert_all_grows : (t : State) (ps : List Pair) → Grows t.build.nodes (insert_all t ps).build.nodes
unfolding insert_all
insert_all_grows t [] = grows_none t.build.nodes
insert_all_grows t (p ∷ ps) = grows_trans (insert_grows t.build t.top t.below p.key p.value) (insert_all_grows (insert_pair t p) ps)

-- ---- a pair more

module _ (g : Fst) (n : ℕ) where
  -- from the build B; y says that no filled cell was overwritten meanwhile
  pub record InsertOk (B : Build) (y : Bool) (o : Open) (s : List Open) (k : List ℕ) (v : ℕ) (log : List Entry) (t : State) : Type 0 where
    pub log' : List Entry
    pub keeps : Keeps log log'
    pub build : BuildOk t.build log'
    pub shorter : Shorter g n log'
    pub inp_is : t.top.inp ≡ o.inp
    pub stack : StackOk log' t.top t.below
    pub final : LastFinal t.top t.below
    pub bare : LastBare t.top t.below
    pub inputs_are : inputs t.below ≡ k
    pub holds : (l : List ℕ) (w : ℕ) → StackHolds g t.top t.below l w → (StackHolds g o s l w) ⊎ ((l ≡ k) × (w ≡ v))
    pub old : (l : List ℕ) (w : ℕ) → StackHolds g o s l w → StackHolds g t.top t.below l w
    pub new : StackHolds g t.top t.below k v
    pub kept : (x : Bool) → Kept B log x → Kept t.build log' (x && y)

  -- the first key, and empty
  ending : (B : Build) (o : Open) (v : ℕ) (log : List Entry) → BuildOk B log → Shorter g n log → OpenOk log o → o.value ≡ none → o.arcs ≡ [] → v ≤ max_sum
      → InsertOk B true o [] [] v log (state_with B (with_value o v) [])
  ending B o v log build shorter ok empty bare fits = record {
    log' = log;
    keeps = λ e mem. mem;
    build = build;
    shorter = shorter;
    inp_is = refl;
    stack = record { arcs_ok = ok.arcs_ok; value_ok = λ w e. omega (arith, fits, some_inj e); ascending = ok.ascending };
    final = (v, refl);
    bare = bare;
    inputs_are = refl;
    holds = λ l w h. with_value_lem l w h;
    old = λ l w h. keep l w h;
    new = ends refl refl;
    kept = λ x w. kept_as (sym (and_true x)) w;
  }
    where
      with_value_lem : (l : List ℕ) (w : ℕ) → OpenHolds g (with_value o v) l w → (OpenHolds g o l w) ⊎ ((l ≡ []) × (w ≡ v))
      with_value_lem l w (ends e is) = inr (e, sym (some_inj is))
      with_value_lem l w (along a mem h) = inl (along a mem h)

      keep : (l : List ℕ) (w : ℕ) → OpenHolds g o l w → OpenHolds g (with_value o v) l w
      keep l w (ends e is) = absurd (some_none is empty)
      keep l w (along a mem h) = along a mem h

  -- the key leaves the open nodes at o, where all that stood below has been finished
  opening : (B : Build) (o : Open) (b : ℕ) (k : List ℕ) (v : ℕ) (log : List Entry) → BuildOk B log → Shorter g n log → OpenOk log o
      → ((a : Arc) → Memᴰ a o.arcs → a.inp < b) → Bytes (b ∷ k) → v ≤ max_sum → InsertOk B true o [] (b ∷ k) v log (state_with B o (open_key b k v))
  opening B o b k v log build shorter ok before bytes fits = record {
    log' = log;
    keeps = λ e mem. mem;
    build = build;
    shorter = shorter;
    inp_is = refl;
    stack = open_key_ok log o b k v ok before bytes fits;
    final = open_key_last o b k v;
    bare = open_key_bare o b k v;
    inputs_are = open_key_inputs b k v;
    holds = λ l w h. open_key_holds g o b k v l w h;
    old = λ l w h. open_key_old g o b k v l w h;
    new = open_key_new g o b k v;
    kept = λ x w. kept_as (sym (and_true x)) w;
  }

  -- the key goes on below o
  going : {B : Build} {y : Bool} (o p : Open) (s : List Open) (b : ℕ) (k : List ℕ) (v : ℕ) (log : List Entry) (t : State) → p.inp ≡ b → OpenOk log o → NextOk o p → InsertOk B y p s k v log t
      → InsertOk B y o (p ∷ s) (b ∷ k) v log (under o t)
  going o p s b k v log t e ok next r = record {
    log' = r.log';
    keeps = r.keeps;
    build = r.build;
    shorter = r.shorter;
    inp_is = refl;
    stack = (open_keeps r.keeps ok, record { before = λ a mem. omega (arith, next.before a mem, r.inp_is); byte = omega (arith, next.byte, r.inp_is) }, r.stack);
    final = r.final;
    bare = r.bare;
    inputs_are = rw (r.inp_is, e, r.inputs_are);
    holds = λ l w h. holds l w h;
    old = λ l w h. old l w h;
    new = inr (k, ap (λ (x : ℕ). x ∷ k) (sym e ∙ sym r.inp_is), r.new);
    kept = r.kept;
  }
    where
      holds : (l : List ℕ) (w : ℕ) → StackHolds g o (t.top ∷ t.below) l w → (StackHolds g o (p ∷ s) l w) ⊎ ((l ≡ b ∷ k) × (w ≡ v))
      holds l w (inl h) = inl (inl h)
      holds l w (inr (m, is, h)) =
          let at_p : l ≡ p.inp ∷ m = is ∙ ap (λ (x : ℕ). x ∷ m) r.inp_is in
          ⊎_elim (λ q. inl (inr (m, at_p, q))) (λ q. inr (at_p ∙ (rw (e, q.0)), q.1)) (r.holds m w h)

      old : (l : List ℕ) (w : ℕ) → StackHolds g o (p ∷ s) l w → StackHolds g o (t.top ∷ t.below) l w
      old l w (inl h) = inl h
      old l w (inr (m, is, h)) = inr (m, is ∙ ap (λ (x : ℕ). x ∷ m) (sym r.inp_is), r.old m w h)

  -- the nodes below o are finished, and the key leaves there
  leaving : {B : Build} {y : Bool} (o p : Open) (s : List Open) (b : ℕ) (k : List ℕ) (v : ℕ) (log : List Entry) (c : Closed) → p.inp < b → OpenOk log o → NextOk o p → Bytes (b ∷ k) → v ≤ max_sum
      → CloseOk g n B y p (StackHolds g p s) log c → InsertOk B y o (p ∷ s) (b ∷ k) v log (branch o c b k v)
  leaving {B} {y} o p s b k v log c lower ok next bytes fits r =
      let q = opening c.build (with_arc o c.arc) b k v r.log' r.build r.shorter (with_ok g n o p s log c r ok next)
      (λ a mem.
      ⊎_elim (λ m. omega (arith, next.before a m, lower)) (λ m. omega (arith, ap (λ (x : Arc). x.inp) (Memᴰ.eq_of_singleton m), r.inp_is, lower))
      (Memᴰ.append_cases o.arcs mem)) bytes fits in
      record {
        log' = q.log';
        keeps = λ e mem. q.keeps e (r.keeps e mem);
        build = q.build;
        shorter = q.shorter;
        inp_is = refl;
        stack = q.stack;
        final = q.final;
        bare = q.bare;
        inputs_are = q.inputs_are;
        holds = λ l w h. ⊎_elim (λ z. inl (with_holds_stack g n o p s log c r l w z)) (λ z. inr z) (q.holds l w h);
        old = λ l w h. q.old l w (holds_with g n o p s log c r l w h);
        new = q.new;
        kept = λ x w. kept_as (and_true (x && y)) (q.kept (x && y) (r.kept x w));
      }

  pub insert_ok : (B : Build) (o : Open) (s : List Open) (k : List ℕ) (v : ℕ) (log : List Entry) → Has (insert B o s k v).build.nodes g → BuildOk B log → Shorter g n log
      → StackOk log o s → BelowFinal s → Next o s k → Bytes k → v ≤ max_sum → ((l : List ℕ) (w : ℕ) → StackHolds g o s l w → length l ≤ n)
      → LastBare o s → InsertOk B (insert_keeps B o s k) o s k v log (insert B o s k v)
  unfolding insert insert_keeps
  insert_ok B o [] [] v log has build shorter ok below (inl h) bytes fits short bare = absurd (before_nil [] h)
  insert_ok B o [] [] v log has build shorter ok below (inr h) bytes fits short bare = ending B o v log build shorter ok h.2 bare fits
  insert_ok B o (p ∷ s) [] v log has build shorter ok below (inl h) bytes fits short bare = absurd (before_nil (inputs (p ∷ s)) h)
  insert_ok B o (p ∷ s) [] v log has build shorter ok below (inr h) bytes fits short bare =
      absurd (let e = h.1 in let z : ◌≡◌ {A = ℕ} 0 1 = cc in omega arith)
  insert_ok B o [] (b ∷ k) v log has build shorter ok below next bytes fits short bare =
      opening B o b k v log build shorter ok (λ a mem. absurd (Memᴰ.not-nil (subst (Memᴰ a) bare mem))) bytes fits
  insert_ok B o (p ∷ s) (b ∷ k) v log has build shorter (ok, next_ok, below_ok) below next bytes fits short bare =
      go (eqb p.inp b) refl has (λ h q. insert_ok B p s k v log h build shorter below_ok (last_below p s below) q bytes.1 fits (λ l w z. omega (arith, short (p.inp ∷ l) w (inr (l, refl, z)))) bare)
    where
      after : (Before (p.inp ∷ inputs s) (b ∷ k)) ⊎ ((b ∷ k ≡ []) × (p ∷ s ≡ []) × (o.value ≡ none)) → (p.inp < b) ⊎ ((p.inp ≡ b) × Before (inputs s) k)
      after (inl h) = before_cons h
      after (inr h) = absurd (let e = h.0 in let z : ◌≡◌ {A = ℕ} 0 1 = cc in omega arith)

      go : (x : Bool) → eqb p.inp b ≡ x → Has (cond x (under o (insert B p s k v)) (branch o (close B p s) b k v)).build.nodes g
          → (Has (insert B p s k v).build.nodes g → Next p s k → InsertOk B (insert_keeps B p s k) p s k v log (insert B p s k v))
          → InsertOk B (cond x (insert_keeps B p s k) (close_keeps B p s)) o (p ∷ s) (b ∷ k) v log (cond x (under o (insert B p s k v)) (branch o (close B p s) b k v))
      go true e h rec =
          let is = eqb-true p.inp b e in
          going o p s b k v log (insert B p s k v) is ok next_ok (rec h (⊎_elim (λ l. absurd (omega arith)) (λ q. inl q.1) (after next)))
      go false e h rec =
          leaving o p s b k v log (close B p s) (⊎_elim (λ l. l) (λ q. absurd (eqb-false p.inp b e q.0)) (after next)) ok next_ok bytes fits
          (close_ok g n B p s log h build shorter below_ok next_ok.byte below (λ l w z. omega (arith, short (p.inp ∷ l) w (inr (l, refl, z)))))

  -- ---- a list of pairs

  pub record RunOk (t : State) (log₀ : List Entry) (y : Bool) (ps : List Pair) (u : State) : Type 0 where
    pub log : List Entry
    pub build : BuildOk u.build log
    pub shorter : Shorter g n log
    pub stack : StackOk log u.top u.below
    pub final : BelowFinal u.below
    pub ended : (ps ≡ []) ⊎ LastFinal u.top u.below
    pub holds : (l : List ℕ) (w : ℕ) → StackHolds g u.top u.below l w → (StackHolds g t.top t.below l w) ⊎ Memᴰ (record { key = l; value = w }) ps
    pub old : (l : List ℕ) (w : ℕ) → StackHolds g t.top t.below l w → StackHolds g u.top u.below l w
    pub new : (p : Pair) → Memᴰ p ps → StackHolds g u.top u.below p.key p.value
    pub kept : (x : Bool) → Kept t.build log₀ x → Kept u.build log (x && y)

  abbrev pub Follows : Open → List Open → List Pair → Type 0
  Follows o s [] = Unit {0}
  Follows o s (p ∷ ps) = Next o s p.key

  pub insert_all_ok : (t : State) (ps : List Pair) (log : List Entry) → Has (insert_all t ps).build.nodes g → BuildOk t.build log → Shorter g n log
      → StackOk log t.top t.below → BelowFinal t.below → LastBare t.top t.below → ((l : List ℕ) (w : ℕ) → StackHolds g t.top t.below l w → length l ≤ n)
      → ((p : Pair) → Memᴰ p ps → PairOk n p) → Follows t.top t.below ps → Rising (map (λ (p : Pair). p.key) ps) → RunOk t log (insert_all_keeps t ps) ps (insert_all t ps)
  unfolding insert_all insert_all_keeps
  insert_all_ok t [] log has build shorter stack final bare short pairs follows rising = record {
    log = log;
    build = build;
    shorter = shorter;
    stack = stack;
    final = final;
    ended = inl refl;
    holds = λ l w h. inl h;
    old = λ l w h. h;
    new = λ p mem. absurd (Memᴰ.not-nil mem);
    kept = λ x w. kept_as (sym (and_true x)) w;
  }
  insert_all_ok t (p ∷ ps) log has build shorter stack final bare short pairs follows rising =
      let ok = pairs p (Memᴰ.head refl) in
      let u : State = insert_pair t p in
      let r = insert_ok t.build t.top t.below p.key p.value log (has_grown (insert_all_grows u ps) has) build shorter stack final follows ok.bytes ok.fits short bare in
      let q = insert_all_ok u ps r.log' has r.build r.shorter r.stack (last_below u.top u.below r.final) r.bare
      (λ l w h. ⊎_elim (λ z. short l w z) (λ z. rw z.0 ok.short) (r.holds l w h))
      (λ e mem. pairs e (Memᴰ.tail mem)) (follow_on u r.inputs_are ps rising.0) rising.1 in
      record {
        log = q.log;
        build = q.build;
        shorter = q.shorter;
        stack = q.stack;
        final = q.final;
        ended = inr (⊎_elim (λ z. none_left ps z r.final) (λ z. z) q.ended);
        holds = λ l w h.
            ⊎_elim
            (λ z. ⊎_elim (λ x. inl x) (λ x. inr (Memᴰ.head (same l w x))) (r.holds l w z))
            (λ z. inr (Memᴰ.tail z)) (q.holds l w h);
        old = λ l w h. q.old l w (r.old l w h);
        new = λ e mem. ⊎_elim (λ z. rw z (q.old p.key p.value r.new)) (λ z. q.new e z) (Memᴰ.cases_cons mem);
        kept = λ x w.
            let y : Bool = insert_keeps t.build t.top t.below p.key in
            kept_as (and_assoc x y (insert_all_keeps u ps)) (q.kept (x && y) (r.kept x w));
      }
    where
      follow_on : (u : State) → inputs u.below ≡ p.key → (ps : List Pair) → AllAfter p.key (map (λ (x : Pair). x.key) ps) → Follows u.top u.below ps
      follow_on u e [] h = tt
      follow_on u e (x ∷ xs) h = inl (subst (λ (l : List ℕ). Before l x.key) (sym e) h.0)

      none_left : (ps : List Pair) → ps ≡ [] → LastFinal (insert_pair t p).top (insert_pair t p).below → LastFinal (insert_all (insert_pair t p) ps).top (insert_all (insert_pair t p) ps).below
      none_left [] e h = h
      none_left (x ∷ xs) e h = absurd (let z : ◌≡◌ {A = ℕ} 0 1 = cc in omega arith)

      same : (l : List ℕ) (w : ℕ) → (l ≡ p.key) × (w ≡ p.value) → ◌≡◌ {A = Pair} (record { key = l; value = w }) p
      same l w x = rw (x.0, x.1)
