-- Laws of closing: what each function of the crate asks and leaves, from the rows to the definition.
--     finish_high, finish_less, finish_fits, finish_asked, finish_done    a row finished
--     row_closable         the deepest row can be read
--     finishable           an orderly row can be finished
--     step_at, step_full   the deepest node is finished, or has no room
--     closing_none, -step, -full, -all     nodes closed one after the other, down to a depth
-- Assumes nothing.
use Rattle.std.specs.Prelude.{◌≡◌, Option, None, Some, refl, false, cond, List, ◌++◌, map, ℕ, suc, ◌+◌, ◌-◌, ◌*◌, ◌≤◌, ◌<◌, length, get_or, take, drop}
use Rattle.std.proofs.Common.{sym, ◌∙◌, subst, arith, length-append, get_or-take, get_or-drop}
use Rattle.std.proofs.Math.Path.{ap}
use Rattle.format.specs.Packed.{BuilderNode}
use Rattle.node_compile.specs.Compile.{builder_with}
use Rattle.node_compile.specs.Parts.{RecordFits}
use Rattle.packing.specs.Registry.{Build, intern}
use Rattle.packing.specs.Packing.{Open, least_at, record_of, with_arc, finish, closed_as}
use Rattle.packing_rows.specs.WorkTables.{Tables, tables_with, row_in, arc_with, count_at, open_at, levels, Joined, close_into, Sized, Orderly, SameAbove}
use Rattle.packing_rows.specs.OpenLaws.{closed_with, close_deepest, finish_into_grows}
use Rattle.packing_rows.specs.WorkTableLaws.{length_row, open_least, record_row, open_same, with_entry, open_more, same_more, sized_more, room_for_one, orderly_more}
use Rattle.pack_cell.specs.declared.Cell.{Cell}
use Rattle.pack_intern.specs.Interning.{build_is, Ready, AtIs, InternIs}
use Rattle.pack_intern.specs.declared.Placed.{Placed}
use Rattle.pack_finish.specs.FinishRow.{Lessened, EachAtLeast}
use Rattle.pack_finish.specs.FinishRowLaws.{part_high}
use Rattle.pack_close.specs.Closing.{Closable, RowsFit, node_at, node_from, least_in, CanFinish, with_leasts, RowFinished, closed_to, StepTo, StepIs, JoinedAt, ClosesTo, ClosingTo}
use Rattle.pack_finish.specs.LeastLaws.{from_each, from_value, length_less, lessened_row, lessened_above, lessened_part}

-- ---- one node

module _ (out : List ℕ) (first : ℕ) (cells : List Cell) (T : Tables) (d base : ℕ) (F : CanFinish out first cells T d base) where
  -- the row subtracted from
  pub finish_high : (n : ℕ) → n ≡ count_at T d → EachAtLeast base (take n (drop (256 * d) T.leasts))
  finish_high n same = part_high d (count_at T d) n base T.leasts same F.high

  pub finish_less : (part : List ℕ) (n : ℕ) → n ≡ count_at T d → part ≡ map (λ (m : ℕ). m - base) (take n (drop (256 * d) T.leasts))
      → Lessened T.leasts (take (256 * d) T.leasts ++ (part ++ drop n (drop (256 * d) T.leasts))) (256 * d) (count_at T d) base
  finish_less part n same is = lessened_part T.leasts part (256 * d) (count_at T d) n base same F.high.within is

  module _ (leasts' : List ℕ) (less : Lessened T.leasts leasts' (256 * d) (count_at T d) base) where
    pub finish_fits : RowsFit (with_leasts T leasts') d
    finish_fits = record {
      low = F.low;
      few = F.few;
      inputs_long = F.inputs_long;
      leasts_long = omega (arith, F.leasts_long, less.long);
      targets_long = F.targets_long;
    }

    module _ (fo : ℕ) (fo_is : fo ≡ cond (get_or T.finals d false) (get_or T.values d 0 - base) 0) where
      node_same : node_at (with_leasts T leasts') d fo ≡ node_from T d base
      node_same =
          ap (λ (o : ℕ). node_at (with_leasts T leasts') d o) fo_is
          ∙ ap (λ (l : List ℕ). builder_with (get_or T.finals d false) (cond (get_or T.finals d false) (get_or T.values d 0 - base) 0) (row_in T.inputs d (count_at T d)) l (row_in T.targets d (count_at T d)))
          (lessened_row d less F.high.within)

      pub finish_asked : {b : BuilderNode} → b ≡ node_at (with_leasts T leasts') d fo → Ready out first cells × RecordFits first b
      finish_asked e = (F.ready, subst (RecordFits first) (sym (e ∙ node_same)) F.fits)

      pub finish_done : {b : BuilderNode} → b ≡ node_at (with_leasts T leasts') d fo → {out' : List ℕ} {cells' : List Cell} {r : Option Placed}
          → InternIs (intern (build_is out first cells) b) first out' cells' r → RowFinished out first cells T d base out' cells' (with_leasts T leasts') r
      finish_done e {out'} {cells'} {r} w = record {
        less = less;
        rest = refl;
        interned = subst (λ (b : BuilderNode). InternIs (intern (build_is out first cells) b) first out' cells' r) (e ∙ node_same) w;
      }

-- ---- the deepest node

module _ (out : List ℕ) (first : ℕ) (cells : List Cell) (T : Tables) (e : ℕ) (C : Closable out first cells T (e + 1))
    (bytes : (i : ℕ) → get_or T.inputs i 0 < 256) (base : ℕ)
    (least : base ≡ least_in T (e + 1)) where
  abbrev d : ℕ
  d = e + 1

  abbrev n : ℕ
  n = count_at T (e + 1)

  abbrev B : Build
  B = build_is out first cells

  abbrev node : BuilderNode
  node = node_from T d base

  few : n ≤ 256
  few = C.orderly.few d (omega arith)

  pub room : count_at T e < 256
  room = room_for_one C.sized bytes C.orderly e (omega arith) (omega (arith, C.low))

  fits : RecordFits first node
  fits =
      let s = C.sized in
      let l = C.low in
      let f = few in
      let i = length_row T.inputs d n (omega (arith, s.inputs_long)) in
      let o = length_row T.leasts d n (omega (arith, s.leasts_long)) in
      let t = length_row T.targets d n (omega (arith, s.targets_long)) in
      record {
        few = omega (arith, i, f);
        outputs_len = length_less base (row_in T.leasts d n) ∙ o ∙ sym i;
        targets_len = t ∙ sym i;
        ascending = C.orderly.deepest;
        first_low = C.ready.laid.low;
        targets_ok = C.orderly.targets_ok d (omega arith);
      }

  pub row_fits : RowsFit T d
  row_fits = record {
    low = C.low;
    few = few;
    inputs_long = C.sized.inputs_long;
    leasts_long = C.sized.leasts_long;
    targets_long = C.sized.targets_long;
  }

  pub finishable : CanFinish out first cells T d base
  finishable =
      let s = C.sized in
      let low = C.low in
      let f = few in
      let o = length_row T.leasts d n (omega (arith, s.leasts_long)) in
      record {
        ready = C.ready;
        fits = fits;
        low = low;
        few = f;
        inputs_long = s.inputs_long;
        leasts_long = s.leasts_long;
        targets_long = s.targets_long;
        high = record {
          within = omega (arith, s.leasts_long);
          high = λ j l h.
              let i : ℕ = j - 256 * d in
              let at : 256 * d + i ≡ j = omega arith in
              let e₁ = get_or-take n (drop (256 * d) T.leasts) i 0 (omega arith) ∙ get_or-drop (256 * d) T.leasts i 0 ∙ ap (λ (k : ℕ). get_or T.leasts k 0) at in
              omega (arith, least, e₁, from_each (get_or T.finals d false) (get_or T.values d 0) (row_in T.leasts d n) i (omega (arith, o)));
        };
        value_high = λ z. omega (arith, least, from_value (get_or T.finals d false) (get_or T.values d 0) (row_in T.leasts d n) z);
      }

  -- the definition's record is the row's
  record_is : record_of (open_at T d) (least_at (open_at T d)) ≡ node
  record_is =
      let l = open_least T C.sized d C.low few ∙ sym least in
      ap (record_of (open_at T d)) l ∙ record_row T C.sized d C.low few base

  least_is_lem : least_at (open_at T d) ≡ base
  least_is_lem = open_least T C.sized d C.low few ∙ sym least

  finish_is : finish B (open_at T d) ≡ closed_as (open_at T d) (intern B node)
  finish_is = ap (λ (b : BuilderNode). closed_as (open_at T d) (intern B b)) record_is

  pub step_full : (out' : List ℕ) → length out' < 16 + length (intern B node).build.nodes → (m : ℕ) → m ≤ e → length out' < 16 + length (closed_to B T m (e + 1)).build.nodes
  step_full out' short m le =
      let r : e + 1 - m ≡ suc (e - m) = omega arith in
      let g = finish_into_grows (open_at T) B m (e - m) d (omega arith) in
      let l = ap length g.is ∙ length-append (finish B (open_at T d)).build.nodes g.added in
      let same = ap (λ (k : ℕ). length (close_into B (open_at T m) (levels (open_at T) (m + 1) k)).build.nodes) r in
      omega (arith, short, l, same, ap (λ (c : _). length c.build.nodes) finish_is)

  module _ (out' : List ℕ) (cells' : List Cell) (leasts' : List ℕ) (less : Lessened T.leasts leasts' (256 * d) n base) (a next : ℕ)
      (at : AtIs (intern B node) first out' cells' a next) where
    abbrev T₁ : Tables
    T₁ = tables_with T.inputs leasts' T.targets T.counts T.led T.finals T.values

    abbrev T₂ : Tables
    T₂ = with_entry T₁ e (get_or T.led d 0) base a

    sized₁ : Sized T₁
    sized₁ =
        let s = C.sized in
        record {
          inputs_long = s.inputs_long;
          leasts_long = omega (arith, s.leasts_long, less.long);
          targets_long = s.targets_long;
          counts_long = s.counts_long;
          led_long = s.led_long;
          finals_long = s.finals_long;
          values_long = s.values_long;
        }

    same₁ : SameAbove d T T₁
    same₁ = record {
      inputs_same = refl;
      leasts_same = lessened_above less (omega (arith, C.sized.leasts_long, C.low)) (256 * d) (omega arith);
      targets_same = refl;
      counts_same = λ j l. refl;
      led_same = λ j l. refl;
      finals_same = λ j l. refl;
      values_same = λ j l. refl;
    }

    orderly₁ : Orderly first T₁ (e + 1)
    orderly₁ = let o = C.orderly in record { few = o.few; deepest = o.deepest; next = o.next; byte = o.byte; targets_ok = o.targets_ok }

    same_open : (j : ℕ) → j < e → open_at T₂ j ≡ open_at T j
    same_open j l =
        open_same T₁ T₂ e j l (C.orderly.few j (omega arith)) (same_more T₁ sized₁ e (omega (arith, C.low)) room (get_or T.led d 0) base a)
        ∙ open_same T T₁ d j (omega arith) (C.orderly.few j (omega arith)) same₁

    added : open_at T₂ e ≡ with_arc (open_at T e) (arc_with (get_or T.led d 0) base a)
    added =
        open_more T₁ sized₁ e (omega (arith, C.low)) room (get_or T.led d 0) base a
        ∙ ap (λ (o : Open). with_arc o (arc_with (get_or T.led d 0) base a)) (open_same T T₁ d e (omega arith) (C.orderly.few e (omega arith)) same₁)

    done : finish B (open_at T d) ≡ closed_with (build_is out' next cells') (arc_with (get_or T.led d 0) base a)
    unfolding open_at
    done =
        finish_is ∙ ap (closed_as (open_at T d)) at.is
        ∙ ap (λ (m : ℕ). closed_with (build_is out' next cells') (arc_with (get_or T.led d 0) m a)) least_is_lem

    step_two : StepTo B first T e out' cells' T₂ next
    step_two = record {
      is = λ m le.
          let r : e + 1 - m ≡ suc (e - m) = omega arith in
          ap (λ (k : ℕ). close_into B (open_at T m) (levels (open_at T) (m + 1) k)) r
          ∙ close_deepest (open_at T) (open_at T₂) B (build_is out' next cells') (arc_with (get_or T.led d 0) base a) d e done added same_open m (e - m) (omega arith) (omega arith);
      same = same_open;
      closable = record {
        ready = at.ready;
        sized = sized_more T₁ sized₁ e (omega (arith, C.low)) room (get_or T.led d 0) base a;
        orderly = orderly_more first next T₁ e base a sized₁ (omega (arith, C.low)) room at.grown at.target orderly₁;
        low = omega (arith, C.low);
      };
    }

    -- the tables as the code has them then
    pub step_at : (T' : Tables) → T' ≡ with_entry T₁ e (get_or T.led d 0) base a → StepTo B first T e out' cells' T' next
    step_at T' p = rw p step_two

pub step_done : {B : Build} {first : ℕ} {T : Tables} {e : ℕ} {out : List ℕ} {cells : List Cell} {T' : Tables} {next : ℕ} → StepTo B first T e out cells T' next
    → StepIs B first T e out cells T' (Some next)
step_done {B} {first} {T} {e} {out} {cells} {T'} {next} s = record {
  at = λ k z. let p : next ≡ k = cc in subst (λ (x : ℕ). StepTo B first T e out cells T' x) p s;
  full = λ z. cc;
}

pub step_no_room : {B : Build} {first : ℕ} {T : Tables} {e : ℕ} {out : List ℕ} {cells : List Cell} {T' : Tables}
    → ((m : ℕ) → m ≤ e → length out < 16 + length (closed_to B T m (e + 1)).build.nodes) → StepIs B first T e out cells T' None
step_no_room f = record { at = λ k z. cc; full = λ z. f }

-- ---- down to a depth

pub closing_none : (out : List ℕ) (first : ℕ) (cells : List Cell) (T : Tables) (k m : ℕ) → Closable out first cells T k → m ≤ k
    → ClosingTo (closed_to (build_is out first cells) T m k) T m out cells T first k
closing_none out first cells T k m C le = record { is = refl; same = λ j l. refl; closable = C; low = le }

pub closing_step : {J : Joined} {T₀ : Tables} {m : ℕ} {out : List ℕ} {cells : List Cell} {T : Tables} {next d e : ℕ} → ClosingTo J T₀ m out cells T next d → d ≡ e + 1 → m ≤ e
    → {out' : List ℕ} {cells' : List Cell} {T' : Tables} {r : Option ℕ} {after : ℕ} → StepIs (build_is out next cells) next T e out' cells' T' r → r ≡ Some after
    → ClosingTo J T₀ m out' cells' T' after e
closing_step {m = m} {out} {cells} {T} {next} {d} {e} c de le s z =
    let t = s.at _ z in
    record { is = c.is ∙ ap (closed_to (build_is out next cells) T m) de ∙ t.is m le; same = λ j l. t.same j (omega arith) ∙ c.same j l; closable = t.closable; low = le }

pub closing_full : {J : Joined} {T₀ : Tables} {m : ℕ} {out : List ℕ} {cells : List Cell} {T : Tables} {next d e : ℕ} → ClosingTo J T₀ m out cells T next d → d ≡ e + 1 → m ≤ e
    → {out' : List ℕ} {cells' : List Cell} {T' : Tables} {r : Option ℕ} → StepIs (build_is out next cells) next T e out' cells' T' r → r ≡ None
    → ClosesTo J T₀ m out' cells' T' None
closing_full {m = m} {out} {cells} {T} {next} c de le s z = record {
  at = λ k q. cc;
  full = λ q. omega (arith, s.full z m le, ap (λ (j : Joined). length j.build.nodes) (c.is ∙ ap (closed_to (build_is out next cells) T m) de));
}

pub closing_all : {J : Joined} {T₀ : Tables} {m : ℕ} {out : List ℕ} {cells : List Cell} {T : Tables} {next e : ℕ} → ClosingTo J T₀ m out cells T next e → e ≤ m
    → ClosesTo J T₀ m out cells T (Some next)
unfolding levels
closing_all {J} {T₀} {m} {out} {cells} {T} {next} {e} c le =
    let z : e ≡ m = omega (arith, c.low) in
    let r : e - m ≡ 0 = omega arith in
    let w : JoinedAt J T₀ m out cells T next = record {
      is = c.is ∙ ap (λ (k : ℕ). close_into (build_is out next cells) (open_at T m) (levels (open_at T) (m + 1) k)) r;
      same = c.same;
      closable = subst (Closable out next cells T) z c.closable;
    } in
    record {
      at = λ k q. let p : next ≡ k = cc in subst (λ (x : ℕ). JoinedAt J T₀ m out cells T x) p w;
      full = λ q. cc;
    }
