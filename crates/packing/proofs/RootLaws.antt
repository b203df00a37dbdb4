-- The run to its end: the root is written last, since no other node has a key as long as the longest.
--     longest              a pair whose key is as long as any
--     RootOk g r Held      the root r stands last or is address 0 without nodes; it holds what Held says
--     run_ok               the root of a list that is not empty holds its pairs, in any file around the nodes
-- Assumes nothing.
use Prim.{Unit, tt}
use Rattle.std.specs.Prelude.{◌≡◌, refl, Bool, true, false, cond, ◌&&◌, ◌⊎◌, ℕ, zero, suc, ◌+◌, ◌-◌, ◌≤◌, ◌<◌, length, get_or, replicate, eqb, leb}
use Rattle.std.proofs.Common.{sym, ap, ◌∙◌, subst, inl, inr, ⊎_elim, zero-add, arith, leb-true, leb-false, eqb-true, length-append}
use Rattle.std.proofs.Math.Option.{Option, none, some}
use mathlib.Core.List.Memᴰ
use mathlib.Core.List.{List, [], ◌∷◌, ◌++◌, map, Memᴰ}
use Rattle.std.proofs.Math.Nat.{sub-zero}
use Rattle.std.proofs.lemmas.List.{length-map, length-replicate}
use Rattle.format.specs.Limits.{max_path, max_sum}
use Rattle.format.specs.Node.{Ascending}
use Rattle.format.specs.Packed.{BuilderNode, packs_to_nothing}
use Rattle.format.specs.Laws.PackedLaws.{nothing_means}
use Rattle.format.specs.Paths.{Fst, HeldFrom}
use Rattle.format.specs.Strings.{Before, Rising}
use Rattle.packing.specs.Lists.{Pair}
use Rattle.packing.specs.Registry.{Cell, empty_cell, Build, cell_at, Interned, intern}
use Rattle.packing.specs.Packing.{Arc, Open, record_of, with_arc, Closed, close, State, open_key, under, branch, insert, insert_pair, insert_all, close_root, close_all, start, pack_nodes}
use Rattle.packing.specs.Promise.{PairOk, Listed, pair_with}
use Rattle.packing.proofs.FileLaws.{Has, At, grown_more}
use Rattle.packing.proofs.BuildLaws.{Entry, InLog, BuildOk, Fine, Interning, nothing, first, second, wrote, intern_cases, InternOk, matched, intern_ok}
use Rattle.packing.proofs.HoldingLaws.{OpenHolds, ends, along, StackHolds, zero_base, held_open, open_held}
use Rattle.packing.specs.Kept.{keeps, close_keeps, insert_all_keeps, root_keeps, end_keeps, pack_keeps}
use Rattle.packing.proofs.KeptLaws.{and_assoc, Lost, Kept, kept_as, intern_kept}
use Rattle.packing.proofs.CloseLaws.{OpenOk, NextOk, StackOk, LastFinal, Live, Shorter, fine_of, Grows, grows_trans, has_grown, intern_grows, close_grows, CloseOk, holds_with, with_holds_stack, with_ok, close_ok}
use Rattle.packing.proofs.InsertLaws.{Next, BelowFinal, Follows, RunOk, insert_all_ok}

-- ---- the longest key

pub record Longest (ps : List Pair) : Type 0 where
  pub pair : Pair
  pub member : Memᴰ pair ps
  pub longest : (p : Pair) → Memᴰ p ps → length p.key ≤ length pair.key

pub longest : (p : Pair) (ps : List Pair) → Longest (p ∷ ps)
longest p [] = record { pair = p; member = Memᴰ.head refl; longest = λ q mem. ⊎_elim (λ z. rw z (omega arith)) (λ m. absurd (Memᴰ.not-nil m)) (Memᴰ.cases_cons mem) }
longest p (q ∷ ps) = by (longest q ps) (leb (length (longest q ps).pair.key) (length p.key)) refl
  where
    by : (l : Longest (q ∷ ps)) (x : Bool) → leb (length l.pair.key) (length p.key) ≡ x → Longest (p ∷ q ∷ ps)
    by l true e = record {
      pair = p;
      member = Memᴰ.head refl;
      longest = λ x mem.
          ⊎_elim (λ z. rw z (omega arith)) (λ m. omega (arith, l.longest x m, leb-true (length l.pair.key) (length p.key) e)) (Memᴰ.cases_cons mem);
    }
    by l false e = record {
      pair = l.pair;
      member = Memᴰ.tail l.member;
      longest = λ x mem.
          ⊎_elim (λ z. rw z (omega (arith, leb-false (length l.pair.key) (length p.key) e))) (λ m. l.longest x m) (Memᴰ.cases_cons mem);
    }

-- ---- where no key has a byte, no node is written

abbrev pub Unwritten : Build → List Open → Type 0
Unwritten B s = s ≡ [] → B.nodes ≡ []

cons_not_nil : {x : Open} {xs : List Open} → x ∷ xs ≡ [] → ⊥
cons_not_nil e = let z : ◌≡◌ {A = ℕ} 0 1 = cc in omega arith

open_key_some : (b : ℕ) (k : List ℕ) (v : ℕ) → open_key b k v ≡ [] → ⊥
unfolding open_key
open_key_some b [] v e = cons_not_nil e
open_key_some b (c ∷ k) v e = cons_not_nil e

insert_unwritten : (B : Build) (o : Open) (s : List Open) (k : List ℕ) (v : ℕ) → Unwritten B s → Unwritten (insert B o s k v).build (insert B o s k v).below
unfolding insert
insert_unwritten B o [] [] v un e = un e
insert_unwritten B o (p ∷ s) [] v un e = un e
insert_unwritten B o [] (b ∷ k) v un e = absurd (open_key_some b k v e)
insert_unwritten B o (p ∷ s) (b ∷ k) v un e = go (eqb p.inp b) e
  where
    go : (x : Bool) → (cond x (under o (insert B p s k v)) (branch o (close B p s) b k v)).below ≡ []
        → (cond x (under o (insert B p s k v)) (branch o (close B p s) b k v)).build.nodes ≡ []
    go true e = absurd (cons_not_nil e)
    go false e = absurd (open_key_some b k v e)

insert_all_unwritten : (t : State) (ps : List Pair) → Unwritten t.build t.below → Unwritten (insert_all t ps).build (insert_all t ps).below
unfolding insert_all
insert_all_unwritten t [] un = un
insert_all_unwritten t (p ∷ ps) un = insert_all_unwritten (insert_pair t p) ps (insert_unwritten t.build t.top t.below p.key p.value un)

-- ---- the root

bare_record : (o : Open) → packs_to_nothing (record_of o 0) ≡ true → o.arcs ≡ []
unfolding record_of
bare_record o e = none_left o.arcs (sym (length-map o.arcs (λ (a : Arc). a.inp)) ∙ (nothing_means (record_of o 0) e).1.0)
  where
    none_left : (arcs : List Arc) → length arcs ≡ 0 → arcs ≡ []
    none_left [] z = refl
    none_left (a ∷ arcs) z = absurd (omega arith)

module _ (g : Fst) (n : ℕ) where
  -- from the build B with the log log₀; y says that no filled cell was overwritten meanwhile
  pub record RootOk (B : Build) (log₀ : List Entry) (y : Bool) (r : Interned) (Holds : List ℕ → ℕ → Type 0) : Type 0 where
    pub log : List Entry
    pub build : BuildOk r.build log
    pub place : ((r.addr ≡ 0) × (length r.build.nodes ≡ 0)) ⊎ ((r.addr ≡ 15 + length r.build.nodes) × (0 < length r.build.nodes))
    pub holds : (k : List ℕ) (v : ℕ) → HeldFrom g r.addr k v → Holds k v
    pub back : (k : List ℕ) (v : ℕ) → Holds k v → HeldFrom g r.addr k v
    pub kept : (x : Bool) → Kept B log₀ x → Kept r.build log (x && y)

  -- a key as long as the longest
  pub record Long (Holds : List ℕ → ℕ → Type 0) : Type 0 where
    pub key : List ℕ
    pub value : ℕ
    pub holds : Holds key value
    pub long : length key ≡ n

  -- the last node is finished: o with nothing open below it
  root_step : (B : Build) (o : Open) (log : List Entry) → Has (intern B (record_of o 0)).build.nodes g → BuildOk B log → Shorter g n log → OpenOk log o → Live o
      → (o.arcs ≡ [] → B.nodes ≡ []) → Long (OpenHolds g o) → RootOk B log (keeps B (record_of o 0)) (intern B (record_of o 0)) (OpenHolds g o)
  root_step B o log has build less ok live un long =
      let b : BuilderNode = record_of o 0 in
      let has₀ = has_grown (intern_grows B b) has in
      let fine = fine_of build ok 0 live in
      let r = intern_ok B log build (omega (arith, has₀.low, has₀.high)) b fine in
      let reads = r.at.reads g has in
      record {
        log = r.added ++ log;
        build = r.build;
        place = place has₀ fine (intern B b) (intern_cases B b);
        holds = λ k v h. subst (OpenHolds g o k) (zero-add v) (held_open o 0 (zero_base o) reads k v h);
        back = λ k v h. subst (HeldFrom g (intern B b).addr k) (sub-zero v) (open_held o 0 (zero_base o) reads k v h).1;
        kept = intern_kept B log build (omega (arith, has₀.low, has₀.high)) b fine r;
      }
    where
      -- an earlier node has no key as long
      never : Has B.nodes g → (a : ℕ) → At B.nodes (record_of o 0) a × InLog a log → ⊥
      never has₀ a (at, w) =
          let h = (open_held o 0 (zero_base o) (at.reads g has₀) long.key long.value long.holds).1 in
          omega (arith, long.long, less w.entry w.member long.key (long.value - 0) (subst (λ (x : ℕ). HeldFrom g x long.key (long.value - 0)) (sym w.is) h))

      place : Has B.nodes g → Fine B.nodes log (record_of o 0) → (r : Interned) → Interning B (record_of o 0) r
          → ((r.addr ≡ 0) × (length r.build.nodes ≡ 0)) ⊎ ((r.addr ≡ 15 + length r.build.nodes) × (0 < length r.build.nodes))
      place has₀ fine r (nothing e) = inl (refl, ap length (un (bare_record o e)))
      place has₀ fine r (first e m) = absurd (never has₀ _ (matched B log build (omega (arith, has₀.low, has₀.high)) (record_of o 0) _ m))
      place has₀ fine r (second e m) = absurd (never has₀ _ (matched B log build (omega (arith, has₀.low, has₀.high)) (record_of o 0) _ m))
      place has₀ fine r (wrote e m k) = inr (refl, omega (arith, grown_more B.nodes (record_of o 0) e fine.ranges fine.ok))

  pub root_ok : (B : Build) (o : Open) (s : List Open) (log : List Entry) → Has (close_root B o s).build.nodes g → BuildOk B log → Shorter g n log → StackOk log o s
      → LastFinal o s → Unwritten B s → ((k : List ℕ) (v : ℕ) → StackHolds g o s k v → length k ≤ n) → Long (StackHolds g o s) → RootOk B log (root_keeps B o s) (close_root B o s) (StackHolds g o s)
  root_ok B o [] log has build less ok last un short long = root_step B o log has build less ok (inl last) (λ e. un refl) long
  root_ok B o (p ∷ s) log has build less (ok, next, below) last un short long =
      let c : Closed = close B p s in
      let o' : Open = with_arc o c.arc in
      let has₀ = has_grown (intern_grows c.build (record_of o' 0)) has in
      let r = close_ok g n B p s log has₀ build less below next.byte last (λ k v h. omega (arith, short (p.inp ∷ k) v (inr (k, refl, h)))) in
      let more : 0 < length o'.arcs = omega (arith, length-append o.arcs (c.arc ∷ [])) in
      let f = root_step c.build o' r.log' has r.build r.shorter (with_ok g n o p s log c r ok next) (inr more)
      (λ e. absurd (omega (arith, more, ap length e)))
      (record { key = long.key; value = long.value; holds = holds_with g n o p s log c r long.key long.value long.holds; long = long.long }) in
      record {
        log = f.log;
        build = f.build;
        place = f.place;
        holds = λ k v h. with_holds_stack g n o p s log c r k v (f.holds k v h);
        back = λ k v h. f.back k v (holds_with g n o p s log c r k v h);
        kept = λ x w. kept_as (and_assoc x (close_keeps B p s) (keeps c.build (record_of o' 0))) (f.kept (x && close_keeps B p s) (r.kept x w));
      }

close_root_grows : (B : Build) (o : Open) (s : List Open) → Grows B.nodes (close_root B o s).build.nodes
close_root_grows B o [] = intern_grows B (record_of o 0)
close_root_grows B o (p ∷ s) = let c : Closed = close B p s in grows_trans (close_grows B p s) (intern_grows c.build (record_of (with_arc o c.arc) 0))

-- ---- the whole run

pub cell_empty : (m i : ℕ) → cell_at (replicate m empty_cell) i ≡ empty_cell
cell_empty zero i = refl
cell_empty (suc m) zero = refl
cell_empty (suc m) (suc i) = cell_empty m i

start_ok : (m : ℕ) → BuildOk (start (replicate m empty_cell)).build []
start_ok m = record {
  stands = λ e mem. absurd (Memᴰ.not-nil mem);
  chained = λ g h. inl (refl, refl);
  cells_ok = λ i. inl (cell_empty m i);
  minimal = λ d e md me cd ce s. absurd (Memᴰ.not-nil md);
}

pub start_kept : (m : ℕ) → 2 ≤ m → Kept (start (replicate m empty_cell)).build [] true
start_kept m two = record {
  two = omega (arith, two, length-replicate m empty_cell);
  distinct = λ i j e filled. absurd (filled (ap (λ (c : Cell). c.addr) (cell_empty m i)));
  all = λ t e mem. absurd (Memᴰ.not-nil mem);
  lost = λ f. absurd (let z : ◌≡◌ {A = ℕ} 0 1 = cc in omega arith);
}

start_stack : OpenOk [] (record { inp = 0; value = none; arcs = [] })
unfolding Ascending
start_stack = record {
  arcs_ok = λ a mem. absurd (Memᴰ.not-nil mem);
  value_ok = λ v e. absurd (let z : ◌≡◌ {A = ℕ} 0 1 = cc in omega arith);
  ascending = λ i l. absurd (omega arith);
}

start_holds : (g : Fst) (k : List ℕ) (v : ℕ) → OpenHolds g (record { inp = 0; value = none; arcs = [] }) k v → ⊥
start_holds g k v (ends e is) = let z : ◌≡◌ {A = ℕ} 0 1 = cc in omega arith
start_holds g k v (along a mem h) = Memᴰ.not-nil mem

first_next : (k : List ℕ) → Next (record { inp = 0; value = none; arcs = [] }) [] k
first_next [] = inr (refl, refl, refl)
first_next (b ∷ k) = inl Before.shorter

some_last : (p : Pair) (ps : List Pair) {P : Type 0} → (p ∷ ps ≡ []) ⊎ P → P
some_last p ps (inl e) = absurd (let z : ◌≡◌ {A = ℕ} 0 1 = cc in omega arith)
some_last p ps (inr w) = w

pub run_ok : (g : Fst) (p : Pair) (ps : List Pair) (m : ℕ) → Listed (p ∷ ps) → Has (pack_nodes (p ∷ ps) m).build.nodes g
    → RootOk g (length (longest p ps).pair.key) (start (replicate m empty_cell)).build [] (pack_keeps (p ∷ ps) m) (pack_nodes (p ∷ ps) m) (λ k v. Memᴰ (pair_with k v) (p ∷ ps))
unfolding pack_nodes pack_keeps
run_ok g p ps m listed has =
    let t : State = start (replicate m empty_cell) in
    let u : State = insert_all t (p ∷ ps) in
    let l = longest p ps in
    let n : ℕ = length l.pair.key in
    let has₀ = has_grown (close_root_grows u.build u.top u.below) has in
    let r = insert_all_ok g n t (p ∷ ps) [] has₀ (start_ok m) (λ e mem k v h. absurd (Memᴰ.not-nil mem)) start_stack tt refl
    (λ k v h. absurd (start_holds g k v h))
    (λ q mem. let ok = listed.pairs q mem in record { bytes = ok.bytes; short = l.longest q mem; fits = ok.fits }) (first_next p.key) listed.rising in
    let there : (k : List ℕ) (v : ℕ) → StackHolds g u.top u.below k v → Memᴰ (pair_with k v) (p ∷ ps) =
    λ k v h. ⊎_elim (λ z. absurd (start_holds g k v z)) (λ z. z) (r.holds k v h) in
    let f = root_ok g n u.build u.top u.below r.log has r.build r.shorter r.stack (some_last p ps r.ended)
    (insert_all_unwritten t (p ∷ ps) (λ e. refl)) (λ k v h. l.longest (pair_with k v) (there k v h))
    (record { key = l.pair.key; value = l.pair.value; holds = r.new l.pair l.member; long = refl }) in
    record {
      log = f.log;
      build = f.build;
      place = f.place;
      holds = λ k v h. there k v (f.holds k v h);
      back = λ k v mem. f.back k v (r.new (pair_with k v) mem);
      kept = λ x w. kept_as {log = f.log} (and_assoc x (insert_all_keeps t (p ∷ ps)) (end_keeps u)) (f.kept (x && insert_all_keeps t (p ∷ ps)) (r.kept x w));
    }
