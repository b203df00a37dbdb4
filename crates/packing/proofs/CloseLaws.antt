-- Laws of `close`: the transition that leads to a finished node holds what the open nodes held.
--     ArcOk, OpenOk, StackOk   what the run keeps of a finished transition, of an open node, of the open nodes below each other
--     LastFinal o s            the deepest of the open nodes has a key
--     Shorter g n log          every key from a written node is shorter than n
--     close_grows              nodes are only added
--     close_ok                 what is kept, and that nothing held is lost or new
-- Assumes nothing.
use Rattle.std.specs.Prelude.{◌≡◌, Bool, true, false, ◌&&◌, ◌⊎◌, ℕ, zero, suc, ◌+◌, ◌-◌, ◌^◌, ◌≤◌, ◌<◌, get_or}
use Rattle.std.proofs.Math.Path.{refl, sym, subst}
use Rattle.std.proofs.Common.{ap, ◌∙◌, zero-add, suc-add, arith}
use Rattle.std.proofs.Math.Logic.{inl, inr, ⊎_elim}
use Rattle.std.proofs.Math.Option.{Option, none, some}
use mathlib.Core.List.Memᴰ
use mathlib.Core.List.{List, [], ◌∷◌, ◌++◌, append-nil, append_assoc, map, Memᴰ}
use Rattle.std.proofs.Math.ListN.{length, length-map, length-append}
use Rattle.format.specs.declared.Transition.{Transition}
use Rattle.format.specs.Limits.{max_len, max_sum}
use Rattle.format.specs.Node.{Ascending}
use Rattle.format.specs.Packed.{BuilderNode, Ranges, TargetOk, TargetsOk, RecordOk, packed}
use Rattle.format.specs.Paths.{Fst, HeldFrom}
use Rattle.format.specs.Laws.TransitionLaws.{ascends_by}
use Rattle.packing.specs.Registry.{transitions_in, Build, Interned, intern}
use Rattle.packing.specs.Packing.{Arc, Open, least_at, is_some, final_out, record_of, with_arc, with_value, Closed, closed_as, finish, finish_with, close}
use Rattle.packing.specs.Kept.{keeps, close_keeps}
use Rattle.packing.proofs.FileLaws.{Has, has_less, At}
use Rattle.packing.proofs.BuildLaws.{Entry, InLog, OnLog, BuildOk, Fine, Interning, nothing, first, second, wrote, intern_cases, InternOk, intern_ok}
use Rattle.packing.proofs.KeptLaws.{and_assoc, Kept, kept_as, intern_kept}
use Rattle.packing.proofs.HoldingLaws.{ArcHolds, OpenHolds, ends, along, StackHolds, OfArc, transition_of_arc, Base, zero_base, least_base, held_open, open_held}

-- ---- what is kept

pub record ArcOk (log : List Entry) (a : Arc) : Type 0 where
  pub byte : a.inp < 256
  pub fits : a.least ≤ max_sum
  pub on : OnLog a.addr log

pub record OpenOk (log : List Entry) (o : Open) : Type 0 where
  pub arcs_ok : (a : Arc) → Memᴰ a o.arcs → ArcOk log a
  pub value_ok : (v : ℕ) → o.value ≡ some v → v ≤ max_sum
  pub ascending : Ascending (map (λ (a : Arc). a.inp) o.arcs)

-- the finished transitions of a node come before the open one
pub record NextOk (o p : Open) : Type 0 where
  pub before : (a : Arc) → Memᴰ a o.arcs → a.inp < p.inp
  pub byte : p.inp < 256

abbrev pub StackOk : List Entry → Open → List Open → Type 0
StackOk log o [] = OpenOk log o
StackOk log o (p ∷ s) = OpenOk log o × NextOk o p × StackOk log p s

abbrev pub LastFinal : Open → List Open → Type 0
LastFinal o [] = (v : ℕ) × (o.value ≡ some v)
LastFinal o (p ∷ s) = LastFinal p s

-- a key ends at the node, or goes on
abbrev pub Live : Open → Type 0
Live o = ((v : ℕ) × (o.value ≡ some v)) ⊎ (0 < length o.arcs)

abbrev pub Shorter : Fst → ℕ → List Entry → Type 0
Shorter g n log = (e : Entry) → Memᴰ e log → (k : List ℕ) (v : ℕ) → HeldFrom g e.addr k v → length k < n

-- ---- a longer log

abbrev pub Keeps : List Entry → List Entry → Type 0
Keeps log more = (e : Entry) → Memᴰ e log → Memᴰ e more

pub on_keeps : {log more : List Entry} → Keeps log more → {a : ℕ} → OnLog a log → OnLog a more
on_keeps keeps (inl z) = inl z
on_keeps keeps (inr w) = inr (record { entry = w.entry; member = keeps w.entry w.member; is = w.is })

pub arc_keeps : {log more : List Entry} → Keeps log more → {a : Arc} → ArcOk log a → ArcOk more a
arc_keeps keeps s = record { byte = s.byte; fits = s.fits; on = on_keeps keeps s.on }

pub open_keeps : {log more : List Entry} → Keeps log more → {o : Open} → OpenOk log o → OpenOk more o
open_keeps keeps s = record { arcs_ok = λ a mem. arc_keeps keeps (s.arcs_ok a mem); value_ok = s.value_ok; ascending = s.ascending }

-- ---- an open node's record

pub record ArcAt (h : Arc → ℕ) (arcs : List Arc) (i : ℕ) : Type 0 where
  pub arc : Arc
  pub member : Memᴰ arc arcs
  pub is : get_or (map h arcs) i 0 ≡ h arc

pub arc_at : (h : Arc → ℕ) (arcs : List Arc) (i : ℕ) → i < length (map h arcs) → ArcAt h arcs i
arc_at h [] i l = absurd (omega arith)
arc_at h (a ∷ arcs) zero l = record { arc = a; member = Memᴰ.head refl; is = refl }
arc_at h (a ∷ arcs) (suc i) l =
    let r = arc_at h arcs i (omega arith) in
    record { arc = r.arc; member = Memᴰ.tail r.member; is = r.is }

-- bytes that ascend are at most 256
pub few_bytes : (bs : List ℕ) → Ascending bs → ((i : ℕ) → i < length bs → get_or bs i 0 < 256) → length bs ≤ 256
few_bytes [] up low = omega arith
few_bytes (b ∷ bs) up low =
    let up_to_lem = rw zero-add at (ascends_by (b ∷ bs) up 0 (length bs) (omega arith)) in
    omega (arith, up_to_lem, low (length bs) (omega arith))

pub ascending_snoc : (bs : List ℕ) (b : ℕ) → Ascending bs → ((i : ℕ) → i < length bs → get_or bs i 0 < b) → Ascending (bs ++ (b ∷ []))
unfolding Ascending
ascending_snoc [] b up low i l = absurd (omega arith)
ascending_snoc (x ∷ []) b up low zero l = low 0 (omega arith)
ascending_snoc (x ∷ []) b up low (suc i) l = absurd (omega arith)
ascending_snoc (x ∷ y ∷ bs) b up low zero l = up 0 (omega arith)
ascending_snoc (x ∷ y ∷ bs) b up low (suc i) l =
    rw suc-add
    (ascending_snoc (y ∷ bs) b (λ j h. rw suc-add at (up (suc j) (omega arith))) (λ j h. low (suc j) (omega arith)) i (omega arith))

module _ {B : Build} {log : List Entry} (build : BuildOk B log) {o : Open} (ok : OpenOk log o) (base : ℕ) where
  target_ok : (a : ℕ) → OnLog a log → TargetOk (16 + length B.nodes) a
  unfolding TargetOk
  target_ok a (inl z) = inl z
  target_ok a (inr w) = let s = build.stands w.entry w.member in inr (omega (arith, s.low, w.is), omega (arith, s.high, w.is))

  final_out_lem : (value : Option ℕ) → ((v : ℕ) → value ≡ some v → v ≤ max_sum) → final_out value base < 2 ^ 64
  final_out_lem (some v) le = omega (arith, le v refl)
  final_out_lem none le = omega arith

  final_none : (value : Option ℕ) → is_some value ≡ false → final_out value base ≡ 0
  final_none (some v) e = absurd (let z : ◌≡◌ {A = ℕ} 0 1 = cc in omega arith)
  final_none none e = refl

  final_some : (value : Option ℕ) (v : ℕ) → value ≡ some v → is_some value ≡ true
  final_some value v e = rw e

  pub fine_of : Live o → Fine B.nodes log (record_of o base)
  unfolding record_of TargetsOk
  fine_of live = record {
    ranges = record {
      input_lt = λ i l. let r = arc_at (λ (a : Arc). a.inp) o.arcs i l in omega (arith, r.is, (ok.arcs_ok r.arc r.member).byte);
      output_lt = λ i l. let r = arc_at (λ (a : Arc). a.least - base) o.arcs i l in omega (arith, r.is, (ok.arcs_ok r.arc r.member).fits);
      final_lt = final_out_lem o.value ok.value_ok;
    };
    ok = λ small. record {
      few = few_bytes (map (λ (a : Arc). a.inp) o.arcs) ok.ascending (λ i l. let r = arc_at (λ (a : Arc). a.inp) o.arcs i l in omega (arith, r.is, (ok.arcs_ok r.arc r.member).byte));
      outputs_len = length-map o.arcs (λ (a : Arc). a.least - base) ∙ sym (length-map o.arcs (λ (a : Arc). a.inp));
      targets_len = length-map o.arcs (λ (a : Arc). a.addr) ∙ sym (length-map o.arcs (λ (a : Arc). a.inp));
      ascending = ok.ascending;
      first_low = omega arith;
      first_high = small;
      targets_ok = λ i l.
          let r = arc_at (λ (a : Arc). a.addr) o.arcs i l in
          subst (TargetOk (16 + length B.nodes)) (sym r.is) (target_ok r.arc.addr (ok.arcs_ok r.arc r.member).on);
      final_ok = final_none o.value;
    };
    live = ⊎_elim (λ w. inl (final_some o.value w.0 w.1)) (λ l. inr (omega (arith, length-map o.arcs (λ (a : Arc). a.inp)))) live;
    closed = λ t mem.
        let r = transition_of_arc o base t mem in
        subst (λ (a : ℕ). OnLog a log) (sym (ap (λ (u : Transition). u.addr) r.is)) (ok.arcs_ok r.arc r.member).on;
  }

  pub least_fits : Base o base → Live o → base ≤ max_sum
  least_fits low (inl (v, e)) = omega (arith, low.value_high v e, ok.value_ok v e)
  least_fits low (inr l) =
      let r = arc_at (λ (a : Arc). a.least) o.arcs 0 (omega (arith, length-map o.arcs (λ (a : Arc). a.least))) in
      omega (arith, low.arcs_high r.arc r.member, (ok.arcs_ok r.arc r.member).fits)

-- a finished transition more
pub with_arc_ok : {log : List Entry} {o : Open} {a : Arc} → OpenOk log o → ArcOk log a → ((c : Arc) → Memᴰ c o.arcs → c.inp < a.inp) → OpenOk log (with_arc o a)
with_arc_ok {log} {o} {a} ok arc_ok before = record {
  arcs_ok = λ c mem. ⊎_elim (λ m. ok.arcs_ok c m) (λ m. subst (ArcOk log) (sym (Memᴰ.eq_of_singleton m)) arc_ok) (Memᴰ.append_cases o.arcs mem);
  value_ok = ok.value_ok;
  ascending =
      subst Ascending (sym (map_snoc o.arcs))
      (ascending_snoc (map (λ (c : Arc). c.inp) o.arcs) a.inp ok.ascending
      (λ i l. let r = arc_at (λ (c : Arc). c.inp) o.arcs i l in omega (arith, r.is, before r.arc r.member)));
}
  where
    map_snoc : (arcs : List Arc) → map (λ (c : Arc). c.inp) (arcs ++ (a ∷ [])) ≡ map (λ (c : Arc). c.inp) arcs ++ (a.inp ∷ [])
    map_snoc [] = refl
    map_snoc (c ∷ arcs) = ap (λ (l : List ℕ). c.inp ∷ l) (map_snoc arcs)

-- ---- nodes are only added

pub record Grows (nodes more : List ℕ) : Type 0 where
  pub added : List ℕ
  pub is : more ≡ nodes ++ added

pub grows_trans : {a b c : List ℕ} → Grows a b → Grows b c → Grows a c
grows_trans {a} r s = record { added = r.added ++ s.added; is = s.is ∙ ap (λ (l : List ℕ). l ++ s.added) r.is ∙ append_assoc a r.added s.added }

pub grows_none : (a : List ℕ) → Grows a a
grows_none a = record { added = []; is = sym (append-nil a) }

pub has_grown : {a b : List ℕ} {g : Fst} → Grows a b → Has b g → Has a g
has_grown {a} {g = g} r h = has_less a r.added (subst (λ (l : List ℕ). Has l g) r.is h)

interning_grows : {B : Build} {b : BuilderNode} {r : Interned} → Interning B b r → Grows B.nodes r.build.nodes
interning_grows {B} (nothing e) = grows_none B.nodes
interning_grows {B} (first e f) = grows_none B.nodes
interning_grows {B} (second e f) = grows_none B.nodes
interning_grows {B} {b} (wrote e f h) = record { added = packed (16 + length B.nodes) b; is = refl }

pub intern_grows : (B : Build) (b : BuilderNode) → Grows B.nodes (intern B b).build.nodes
intern_grows B b = interning_grows (intern_cases B b)

pub close_grows : (B : Build) (o : Open) (s : List Open) → Grows B.nodes (close B o s).build.nodes
unfolding close
close_grows B o [] = intern_grows B (record_of o (least_at o))
close_grows B o (p ∷ s) =
    let c : Closed = close B p s in
    grows_trans (close_grows B p s) (intern_grows c.build (record_of (with_arc o c.arc) (least_at (with_arc o c.arc))))

-- ---- a node is finished

module _ (g : Fst) (n : ℕ) where
  -- from the build B; y says that no filled cell was overwritten meanwhile, Held what the open nodes held
  pub record CloseOk (B : Build) (y : Bool) (o : Open) (Held : List ℕ → ℕ → Type 0) (log : List Entry) (c : Closed) : Type 0 where
    pub log' : List Entry
    pub keeps : Keeps log log'
    pub build : BuildOk c.build log'
    pub shorter : Shorter g n log'
    pub arc_ok : ArcOk log' c.arc
    pub inp_is : c.arc.inp ≡ o.inp
    pub holds : (k : List ℕ) (v : ℕ) → ArcHolds g c.arc (o.inp ∷ k) v → Held k v
    pub back : (k : List ℕ) (v : ℕ) → Held k v → ArcHolds g c.arc (o.inp ∷ k) v
    pub kept : (x : Bool) → Kept B log x → Kept c.build log' (x && y)

  pub finish_ok : (B : Build) (o : Open) (log : List Entry) → Has (finish B o).build.nodes g → BuildOk B log → Shorter g n log → OpenOk log o → o.inp < 256 → Live o
      → ((k : List ℕ) (v : ℕ) → OpenHolds g o k v → length k < n) → CloseOk B (keeps B (record_of o (least_at o))) o (OpenHolds g o) log (finish B o)
  finish_ok B o log has build shorter ok byte live short =
      let base : ℕ = least_at o in
      let low = least_base o in
      let has₀ = has_grown (intern_grows B (record_of o base)) has in
      let r = intern_ok B log build (omega (arith, has₀.low, has₀.high)) (record_of o base) (fine_of build ok base live) in
      let reads = r.at.reads g has in
      record {
        log' = r.added ++ log;
        keeps = λ e mem. Memᴰ.append_right r.added mem;
        build = r.build;
        shorter = λ e mem k v h.
            ⊎_elim (λ m. short k (base + v) (held_open o base low reads k v (subst (λ (a : ℕ). HeldFrom g a k v) (r.added_is e m).1 h))) (λ m. shorter e m k v h)
            (Memᴰ.append_cases r.added mem);
        arc_ok = record { byte = byte; fits = least_fits build ok base low live; on = r.on };
        inp_is = refl;
        holds = λ k v w.
            let w_is = w.key_is_lem in
            let rest_is_lem : w.rest ≡ k = cc in
            subst (λ (m : ℕ). OpenHolds g o k m) (sym w.value_is)
            (held_open o base low reads k w.more (subst (λ (l : List ℕ). HeldFrom g _ l w.more) rest_is_lem w.held));
        back = λ k v w.
            let h = open_held o base low reads k v w in
            record { rest = k; more = v - base; key_is_lem = refl; value_is = omega (arith, h.0); held = h.1 };
        kept = intern_kept B log build (omega (arith, has₀.low, has₀.high)) (record_of o base) (fine_of build ok base live) r;
      }

  -- the open nodes below have become a transition
  module _ {B : Build} {y : Bool} (o p : Open) (s : List Open) (log : List Entry) (c : Closed) (r : CloseOk B y p (StackHolds g p s) log c) where
    with_holds : (k : List ℕ) (v : ℕ) → OpenHolds g (with_arc o c.arc) k v → StackHolds g o (p ∷ s) k v
    with_holds k v (ends e is) = inl (ends e is)
    with_holds k v (along a mem w) =
        ⊎_elim (λ m. inl (along a m w))
        (λ m.
        let w' = subst (λ (x : Arc). ArcHolds g x k v) (Memᴰ.eq_of_singleton m) w in
        let key : k ≡ p.inp ∷ w'.rest = w'.key_is_lem ∙ ap (λ (b : ℕ). b ∷ w'.rest) r.inp_is in
        inr (w'.rest, key, r.holds w'.rest v (subst (λ (l : List ℕ). ArcHolds g c.arc l v) key w')))
        (Memᴰ.append_cases o.arcs mem)

    open_with : (k : List ℕ) (v : ℕ) → OpenHolds g o k v → OpenHolds g (with_arc o c.arc) k v
    open_with k v (ends e is) = ends e is
    open_with k v (along a mem w) = along a (Memᴰ.append_left (c.arc ∷ []) mem) w

    pub holds_with : (k : List ℕ) (v : ℕ) → StackHolds g o (p ∷ s) k v → OpenHolds g (with_arc o c.arc) k v
    holds_with k v (inl w) = open_with k v w
    holds_with k v (inr (l, e, w)) =
        along c.arc (Memᴰ.append_right o.arcs (Memᴰ.head refl)) (subst (λ (x : List ℕ). ArcHolds g c.arc x v) (sym e) (r.back l v w))

    pub with_holds_stack : (k : List ℕ) (v : ℕ) → OpenHolds g (with_arc o c.arc) k v → StackHolds g o (p ∷ s) k v
    with_holds_stack k v w = with_holds k v w

    pub with_ok : OpenOk log o → NextOk o p → OpenOk r.log' (with_arc o c.arc)
    with_ok ok next = with_arc_ok (open_keeps r.keeps ok) r.arc_ok (λ a mem. omega (arith, next.before a mem, r.inp_is))

  pub close_ok : (B : Build) (o : Open) (s : List Open) (log : List Entry) → Has (close B o s).build.nodes g → BuildOk B log → Shorter g n log → StackOk log o s → o.inp < 256
      → LastFinal o s → ((k : List ℕ) (v : ℕ) → StackHolds g o s k v → length k < n) → CloseOk B (close_keeps B o s) o (StackHolds g o s) log (close B o s)
  unfolding close close_keeps
  close_ok B o [] log has build shorter ok byte last short = finish_ok B o log has build shorter ok byte (inl last) short
  close_ok B o (p ∷ s) log has build shorter (ok, next, below) byte last short =
      let c : Closed = close B p s in
      let o' : Open = with_arc o c.arc in
      let has₀ = has_grown (intern_grows c.build (record_of o' (least_at o'))) has in
      let r = close_ok B p s log has₀ build shorter below next.byte last
      (λ k v w. let l = short (p.inp ∷ k) v (inr (k, refl, w)) in omega arith) in
      let some_arc : 0 < length o'.arcs = omega (arith, length-append o.arcs (c.arc ∷ [])) in
      let f = finish_ok c.build o' r.log' has r.build r.shorter (with_ok o p s log c r ok next) byte (inr some_arc)
      (λ k v w. short k v (with_holds_stack o p s log c r k v w)) in
      record {
        log' = f.log';
        keeps = λ e mem. f.keeps e (r.keeps e mem);
        build = f.build;
        shorter = f.shorter;
        arc_ok = f.arc_ok;
        inp_is = f.inp_is;
        holds = λ k v w. with_holds_stack o p s log c r k v (f.holds k v w);
        back = λ k v w. f.back k v (holds_with o p s log c r k v w);
        kept = λ x w. kept_as (and_assoc x (close_keeps B p s) (keeps c.build (record_of o' (least_at o')))) (f.kept (x && close_keeps B p s) (r.kept x w));
      }
