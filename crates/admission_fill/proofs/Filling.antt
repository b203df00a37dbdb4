-- The pass up the file: what is known once the addresses below a are passed. The claims on the numbers hold while a flag is down;
-- once it is up, a node that is too deep, or too heavy, is known, and the entries are only bounded.
--     DepthE, SumE          the entries for an address that is passed
--     Filling f ..          all of this, with the flags
-- Assumes nothing.
use Rattle.std.specs.Prelude.{Option, Some, Ok, Err, Result, ⊤}
use mathlib.Core.Path.{◌≡◌, refl, sym, ap, ◌∙◌, subst}
use mathlib.Core.Bool.{Bool, true, false, cond}
use mathlib.Core.List.{List, Memᴰ}
use Prim.Native.Nat.{ℕ, ◌+◌, ◌/◌, ◌%◌, ◌≤◌, ◌<◌, min}
use native.Mathlib.Omega.{arith}
use native.Mathlib.Decide.{ℕ_discrete}
use Rattle.std.proofs.Math.Decide.{dec_le}
use mathlib.Core.Logic.{◌⊎◌, ⊎_elim}
use borrow.Author.Tests.{ltb-true, ltb-false}
use lib.Dec.{ltb}
use lib.ListN.{length, get_or, set, take}
use Rattle.std.proofs.lemmas.List.{length-take, get_or-take}
use Rattle.format.specs.declared.Transition.{Transition}
use Rattle.format.specs.declared.Refusal.{Refusal}
use Rattle.format.specs.Limits.{max_path, max_sum, NODE, DEEP, SUM}
use Rattle.format.specs.Node.{Node, sound}
use Rattle.format.specs.Paths.{Fst, node_in}
use Rattle.format.specs.Laws.NodeFacts.{node_target_lt, node_final_lt}
use Rattle.format.specs.Tables.{longest, largest_sum}
use Rattle.admission_node.specs.declared.Survey.{Survey}
use Rattle.admission_node.specs.Entries.{Kept, deepest, heaviest, total_as, entry_is, or_over, FirstMarked, Surveyable, SurveyableAt, SurveyedAt}
use Rattle.admission_walk.specs.Walks.{Live, marks_in}
use Rattle.admission_fill.specs.Fills.{AllPassed, NoneLost, Leads, NextOf, Fillable, LostOne, DeepOne, HeavyOne, GoodAll, HeavyCase, FillRefused, FillCase, Filled}
use Rattle.admission_node.specs.KeptLaws.{kept_none, kept_set, kept_lt}
use Rattle.admission_node.specs.TotalLaws.{total_cases}
use Rattle.admission_walk.specs.SoundNodeLaws.{sound_node}
use Rattle.admission_walk.specs.MarksLaws.{marks_at}
use Rattle.admission_fill.proofs.HalfFilled.{Half, half_jump, half_store, half_map}
use Rattle.admission_node.specs.ChildLaws.{child_depth_le, deepest_is, heaviest_is}

pub record DepthE (f : Fst) (m₀ : List ℕ) (deep : Bool) (j x : ℕ) : Type 0 where
  pub off : ¬ Live m₀ j → x ≡ 0
  pub low : x ≤ max_path + 2
  pub on : deep ≡ false → Live m₀ j → x ≡ longest f j + 1
  pub fine : deep ≡ false → Live m₀ j → longest f j ≤ max_path

pub record SumE (f : Fst) (m₀ : List ℕ) (heavy : Bool) (j x : ℕ) : Type 0 where
  pub off : ¬ Live m₀ j → x ≡ 0
  pub on : heavy ≡ false → Live m₀ j → x ≡ largest_sum f j
  pub fine : heavy ≡ false → Live m₀ j → largest_sum f j ≤ max_sum

pub record Filling (f : Fst) (d₀ s₀ d s : List ℕ) (deep heavy : Bool) (a : ℕ) : Type 0 where
  pub depths_kept : Kept (length f.bytes) d₀ d
  pub sums_kept : Kept (length f.bytes) s₀ s
  pub depths : Half (DepthE f (marks_in d₀) deep) d₀ d a
  pub sums : Half (SumE f (marks_in d₀) heavy) s₀ s a
  pub one_deep : deep ≡ true → DeepOne f (marks_in d₀)
  pub one_heavy : heavy ≡ true → HeavyOne f (marks_in d₀)

-- ---- the flags

no_flag : {X : Type 0} → ◌≡◌ {A = Bool} false true → X
no_flag e = let z : ◌≡◌ {A = ℕ} 0 1 = cc in absurd (omega arith)

deep_down : (b deep : Bool) → cond b true deep ≡ false → (b ≡ false) × (deep ≡ false)
deep_down true deep e = no_flag (sym e)
deep_down false deep e = (refl, e)

deep_up : {X : Type 0} (b deep : Bool) → (deep ≡ true → X) → (deep ≡ false → b ≡ true → X) → cond b true deep ≡ true → X
deep_up b true f g e = f refl
deep_up true false f g e = g refl refl
deep_up false false f g e = no_flag e

-- ---- the pass

module _ {f : Fst} {d₀ s₀ d s : List ℕ} {deep heavy : Bool} {a : ℕ} (h : Filling f d₀ s₀ d s deep heavy a) where
  -- the mark of a is as it was
  mark_was : get_or d a 0 % 8 ≡ get_or (marks_in d₀) a 0
  mark_was = omega (arith, h.depths.above a (omega arith), marks_at d₀ a)

  -- addresses with no mark
  pub filling_jump : (b : ℕ) → a ≤ b → b ≤ length f.bytes → ((j : ℕ) → j < length f.bytes → get_or s₀ j 0 ≡ 0)
      → ((j : ℕ) → a ≤ j → j < b → get_or d j 0 ≡ 0) → Filling f d₀ s₀ d s deep heavy b
  filling_jump b le inside zeros none =
      let was : (j : ℕ) → a ≤ j → j < b → get_or (marks_in d₀) j 0 ≡ 0 = λ j lo hi. omega (arith, none j lo hi, h.depths.above j lo, marks_at d₀ j) in
      let away : (j : ℕ) → a ≤ j → j < b → ¬ Live (marks_in d₀) j = λ j lo hi live. omega (arith, was j lo hi) in
      record {
        depths_kept = h.depths_kept;
        sums_kept = h.sums_kept;
        depths = half_jump b le h.depths
            (λ j lo hi. record {
              off = λ _. none j lo hi;
              low = omega (arith, none j lo hi);
              on = λ _ live. absurd (away j lo hi live);
              fine = λ _ live. absurd (away j lo hi live);
            });
        sums = half_jump b le h.sums
            (λ j lo hi. record {
              off = λ _. h.sums.above j lo ∙ zeros j (omega arith);
              on = λ _ live. absurd (away j lo hi live);
              fine = λ _ live. absurd (away j lo hi live);
            });
        one_deep = h.one_deep;
        one_heavy = h.one_heavy;
      }

  module _ (ok : Fillable f d₀ s₀) (passed : AllPassed (marks_in d₀) (length f.bytes)) (inside : a < length f.bytes) (chain : 3 ≤ get_or d a 0 % 8) (not_zero : ¬ (a ≡ 0)) where
    live_here : ¬ (get_or d a 0 % 8 ≡ 3) → Live (marks_in d₀) a
    live_here ne = omega (arith, mark_was, ok.high a inside)

    -- address 0 has no mark
    no_live : ¬ Live (marks_in d₀) 0
    no_live live = omega (arith, marks_at d₀ 0, ok.zero)

    module _ (m : Node) (q : node_in f a ≡ sound m) where
      pub surveyable : ((i : ℕ) → get_or f.bytes i 0 < 256) → a < length d → a < length s → Surveyable d s m.final_output m.transitions
      surveyable bytes ld ls =
          record {
            in_depths = λ t mem. omega (arith, node_target_lt f a m q t mem);
            in_sums = λ t mem. omega (arith, node_target_lt f a m q t mem);
            no_depth = (h.depths.below 0 (omega arith)).off no_live;
            no_sum = (h.sums.below 0 (omega arith)).off no_live;
            small = λ t mem. child_depth_le d t.addr (h.depths.below t.addr (node_target_lt f a m q t mem)).low;
            out_le = omega (arith, node_final_lt f a m q bytes);
          }

    pub surveyable_at : ((i : ℕ) → get_or f.bytes i 0 < 256) → a < length d → a < length s → SurveyableAt f d s a (get_or d a 0 % 8)
    surveyable_at bytes ld ls =
        record { sounds = λ ne. ok.sounds a inside (live_here ne); ready = λ ne. record { each = λ m q. surveyable m q bytes ld ls } }

    -- the flags of a step, where the number before is kept: both tables, with the entries stored at a
    stored : (x : ℕ) (t : Option ℕ) → (cond (ltb 256 x) true deep ≡ false → deep ≡ false) → (or_over heavy t ≡ false → heavy ≡ false)
        → DepthE f (marks_in d₀) (cond (ltb 256 x) true deep) a (min x 257) → SumE f (marks_in d₀) (or_over heavy t) a (entry_is t)
        → (cond (ltb 256 x) true deep ≡ true → DeepOne f (marks_in d₀)) → (or_over heavy t ≡ true → HeavyOne f (marks_in d₀))
        → Filling f d₀ s₀ (set d a (min x 257)) (set s a (entry_is t)) (cond (ltb 256 x) true deep) (or_over heavy t) (a + 1)
    stored x t deep_down heavy_down depth_entry sum_entry deep_up heavy_up =
        record {
          depths_kept = kept_set a (min x 257) inside h.depths_kept;
          sums_kept = kept_set a (entry_is t) inside h.sums_kept;
          depths = half_store (min x 257) (omega (arith, ok.room_depths, h.depths_kept.long))
              (half_map (λ j y k. record { off = k.off; low = k.low; on = λ e. k.on (deep_down e); fine = λ e. k.fine (deep_down e) }) h.depths)
              depth_entry;
          sums = half_store (entry_is t) (omega (arith, ok.room_sums, h.sums_kept.long))
              (half_map (λ j y k. record { off = k.off; on = λ e. k.on (heavy_down e); fine = λ e. k.fine (heavy_down e) }) h.sums)
              sum_entry;
          one_deep = deep_up;
          one_heavy = heavy_up;
        }

    -- a node that is not reached: zeros, and no flag
    unused_store : get_or d a 0 % 8 ≡ 3 → Filling f d₀ s₀ (set d a (min 0 257)) (set s a 0) deep heavy (a + 1)
    unused_store is =
        let away : ¬ Live (marks_in d₀) a = λ live. omega (arith, mark_was) in
        stored 0 (Some 0) (λ e. e) (λ e. e)
        (record { off = λ _. omega arith; low = omega arith; on = λ _ live. absurd (away live); fine = λ _ live. absurd (away live) })
        (record { off = λ _. refl; on = λ _ live. absurd (away live); fine = λ _ live. absurd (away live) })
        h.one_deep h.one_heavy

    module _ (m : Node) (q : node_in f a ≡ sound m) (live : Live (marks_in d₀) a) (x : ℕ) (t : Option ℕ) (x_is : x ≡ deepest d m.transitions + 1)
        (t_is : t ≡ total_as (heaviest s m.final_output m.transitions)) where
      -- a target below a has a reached mark, and every address below a that is led to is passed
      target_live : (u : Transition) → Memᴰ u m.transitions → ¬ (u.addr ≡ 0) → Live (marks_in d₀) u.addr
      target_live u mem ne =
          let lt = node_target_lt f a m q u mem in
          let hit = ok.hits a m u inside live q mem ne in
          let high = ok.high u.addr (omega arith) in
          let low = passed.each u.addr (omega (arith, lt, inside)) (omega (arith, hit.low)) in
          four hit.used high low
        where
          four : {y : ℕ} → ¬ (y ≡ 3) → y ≤ 4 → 3 ≤ y → y ≡ 4
          four ne high low = omega arith

      is_longest : deep ≡ false → x ≡ longest f a + 1
      is_longest no_deep =
          x_is
          ∙ ap (λ y. y + 1)
          (deepest_is f a m q d (λ u mem ne. (h.depths.below u.addr (node_target_lt f a m q u mem)).on no_deep (target_live u mem ne)))

      is_largest : heavy ≡ false → heaviest s m.final_output m.transitions ≡ largest_sum f a
      is_largest no_heavy =
          heaviest_is f a m q s (λ u mem ne. (h.sums.below u.addr (node_target_lt f a m q u mem)).on no_heavy (target_live u mem ne))

      depth_entry : DepthE f (marks_in d₀) (cond (ltb 256 x) true deep) a (min x 257)
      depth_entry =
          record {
            off = λ away. absurd (away live);
            low = omega arith;
            on = λ e _. let k = deep_down (ltb 256 x) deep e in omega (arith, is_longest k.1, ltb-false 256 x k.0);
            fine = λ e _. let k = deep_down (ltb 256 x) deep e in omega (arith, is_longest k.1, ltb-false 256 x k.0);
          }

      sum_entry : SumE f (marks_in d₀) (or_over heavy t) a (entry_is t)
      sum_entry =
          total_cases (heaviest s m.final_output m.transitions) t t_is
          (λ p i. rw i (record { off = λ away. absurd (away live); on = λ e _. is_largest e; fine = λ e _. omega (arith, is_largest e) }))
          (λ p i. rw i (record { off = λ away. absurd (away live); on = λ e _. no_flag (sym e); fine = λ e _. no_flag (sym e) }))

      heavy_down : or_over heavy t ≡ false → heavy ≡ false
      heavy_down e =
          total_cases (heaviest s m.final_output m.transitions) t t_is
          (λ p i. sym (ap (or_over heavy) i) ∙ e)
          (λ p i. no_flag (sym (sym (ap (or_over heavy) i) ∙ e)))

      heavy_up : or_over heavy t ≡ true → HeavyOne f (marks_in d₀)
      heavy_up e =
          total_cases (heaviest s m.final_output m.transitions) t t_is
          (λ p i. h.one_heavy (sym (ap (or_over heavy) i) ∙ e))
          (λ p i. over heavy refl p)
        where
          over : (b : Bool) → heavy ≡ b → max_sum < heaviest s m.final_output m.transitions → HeavyOne f (marks_in d₀)
          over true k p = h.one_heavy k
          over false k p = record { at = a; inside = inside; live = live; heavy = omega (arith, is_largest k) }

      deep_now : deep ≡ false → ltb 256 x ≡ true → DeepOne f (marks_in d₀)
      deep_now e b = record { at = a; inside = inside; live = live; deep = omega (arith, is_longest e, ltb-true 256 x b) }

      -- a reached node, with both its entries stored
      live_store : Filling f d₀ s₀ (set d a (min x 257)) (set s a (entry_is t)) (cond (ltb 256 x) true deep) (or_over heavy t) (a + 1)
      live_store =
          stored x t (λ e. (deep_down (ltb 256 x) deep e).1) heavy_down depth_entry sum_entry (deep_up (ltb 256 x) deep h.one_deep deep_now) heavy_up

    -- an address of the chain, reached or not
    pub filling_store : (r : Survey) → SurveyedAt f d s a (get_or d a 0 % 8) r
        → Filling f d₀ s₀ (set d a (min r.depth 257)) (set s a (entry_is r.total)) (cond (ltb 256 r.depth) true deep) (or_over heavy r.total) (a + 1)
    filling_store r v =
        elim (ℕ_discrete (get_or d a 0 % 8) 3) [
          | yes is ↦ rw (v.no_depth is, v.no_total is) (unused_store is)
          | no ne ↦
              let live = live_here ne in
              let n = sound_node f a (ok.sounds a inside live) in
              let g = (v.found ne).each n.0 n.1 in
              live_store n.0 n.1 live r.depth r.total g.depth g.total
        ]

-- the tables and the flags by other names, as after a branch
pub filling_as : {f : Fst} {d₀ s₀ d d' s s' : List ℕ} {deep deep' heavy heavy' : Bool} {a : ℕ} → d' ≡ d → s' ≡ s → deep' ≡ deep → heavy' ≡ heavy
    → Filling f d₀ s₀ d s deep heavy a → Filling f d₀ s₀ d' s' deep' heavy' a
filling_as p q r k h = rw (p, q, r, k) h

-- a way out of the pass, with what was found
pub filling_ends : {f : Fst} {d₀ s₀ d s : List ℕ} {deep heavy : Bool} {a : ℕ} → Filling f d₀ s₀ d s deep heavy a → (v : Result ⊤ Refusal) → FillCase f (marks_in d₀) d s v
    → Filled f d₀ s₀ d s v
filling_ends h v found = record { depths_kept = h.depths_kept; sums_kept = h.sums_kept; found = found }

-- ---- from node to node

-- no address is passed yet
pub filling_none : {f : Fst} {d₀ s₀ : List ℕ} → Filling f d₀ s₀ d₀ s₀ false false 0
filling_none {f} {d₀} {s₀} =
    record {
      depths_kept = kept_none (length f.bytes) d₀;
      sums_kept = kept_none (length f.bytes) s₀;
      depths = record { below = λ j l. absurd (omega arith); above = λ j l. refl };
      sums = record { below = λ j l. absurd (omega arith); above = λ j l. refl };
      one_deep = λ e. no_flag e;
      one_heavy = λ e. no_flag e;
    }

-- a mark that stands at no node of the chain
pub lost_one : (f : Fst) (d : List ℕ) → length f.bytes ≤ length d → NoneLost (take (length f.bytes) d) (length (take (length f.bytes) d)) false → LostOne f (marks_in d)
lost_one f d room h =
    let o = h.no refl in
    let long : length (take (length f.bytes) d) ≡ length f.bytes = simp (length-take) (omega arith) in
    let inside : o.0 < length f.bytes = omega (arith, o.1.0) in
    let same : get_or (take (length f.bytes) d) o.0 0 ≡ get_or d o.0 0 = get_or-take (length f.bytes) d o.0 0 inside in
    record { at = o.0; inside = inside; led = omega (arith, marks_at d o.0, o.1.1, o.1.2); lost = omega (arith, marks_at d o.0, o.1.2) }

pub filling_lost : {f : Fst} {d₀ s₀ : List ℕ} → LostOne f (marks_in d₀) → Filled f d₀ s₀ d₀ s₀ (Err NODE)
filling_lost {f} {d₀} {s₀} o =
    record { depths_kept = kept_none (length f.bytes) d₀; sums_kept = kept_none (length f.bytes) s₀; found = FillRefused.lost refl o }

module _ {f : Fst} {d₀ s₀ : List ℕ} (ok : Fillable f d₀ s₀) (h : NoneLost (take (length f.bytes) d₀) (length (take (length f.bytes) d₀)) true) where
  clean : (j : ℕ) → j < length f.bytes → (get_or d₀ j 0 ≡ 0) ⊎ (3 ≤ get_or d₀ j 0)
  clean j l =
      let long : length (take (length f.bytes) d₀) ≡ length f.bytes = simp (length-take) (omega (arith, ok.room_depths)) in
      subst (λ x. (x ≡ 0) ⊎ (3 ≤ x)) (get_or-take (length f.bytes) d₀ j 0 l) (h.yes refl j (omega arith))

  -- an entry is 0, or that of a node of the chain
  pub blank : (j : ℕ) → j < length f.bytes → get_or (marks_in d₀) j 0 < 3 → get_or d₀ j 0 ≡ 0
  blank j l low = ⊎_elim (λ z. z) (λ k. absurd (omega (arith, ok.off j l low))) (clean j l)

  pub chained : (j : ℕ) → j < length f.bytes → ¬ (get_or d₀ j 0 ≡ 0) → 3 ≤ get_or (marks_in d₀) j 0
  chained j l ne = elim (dec_le 3 (get_or (marks_in d₀) j 0)) [ yes p ↦ p | no p ↦ absurd (ne (blank j l (omega arith))) ]

  pub all_passed : AllPassed (marks_in d₀) (length f.bytes)
  all_passed = record { each = λ j l one. chained j l (λ z. omega (arith, marks_at d₀ j)) }

  chain_at : {d s : List ℕ} {deep heavy : Bool} {a : ℕ} → Filling f d₀ s₀ d s deep heavy a → a < length f.bytes → ¬ (get_or d₀ a 0 ≡ 0)
      → 3 ≤ get_or d a 0 % 8
  chain_at {a = a} k inside ne = omega (arith, mark_was k, chained a inside ne)

  not_zero : {a : ℕ} → ¬ (get_or d₀ a 0 ≡ 0) → ¬ (a ≡ 0)
  not_zero ne z = ne (ap (λ x. get_or d₀ x 0) z ∙ ok.zero)

  -- the node at a marked address
  pub survey_ready : {d s : List ℕ} {deep heavy : Bool} {a : ℕ} → Filling f d₀ s₀ d s deep heavy a → a < length f.bytes → ¬ (get_or d₀ a 0 ≡ 0)
      → ((i : ℕ) → get_or f.bytes i 0 < 256) → SurveyableAt f d s a (get_or d a 0 % 8)
  survey_ready k inside ne bytes =
      surveyable_at k ok all_passed inside (chain_at k inside ne) (not_zero ne) bytes (kept_lt k.depths_kept ok.room_depths inside)
      (kept_lt k.sums_kept ok.room_sums inside)

  pub filling_step : {d s : List ℕ} {deep heavy : Bool} {a : ℕ} → Filling f d₀ s₀ d s deep heavy a → a < length f.bytes → ¬ (get_or d₀ a 0 ≡ 0)
      → (r : Survey) → SurveyedAt f d s a (get_or d a 0 % 8) r
      → Filling f d₀ s₀ (set d a (min r.depth 257)) (set s a (entry_is r.total)) (cond (ltb 256 r.depth) true deep) (or_over heavy r.total) (a + 1)
  filling_step k inside ne r v = filling_store k ok all_passed inside (chain_at k inside ne) (not_zero ne) r v

  -- the link of a leads to the next node
  pub next_marked : {d s : List ℕ} {deep heavy : Bool} {a : ℕ} → Filling f d₀ s₀ d s deep heavy (a + 1) → a < length f.bytes → ¬ (get_or d₀ a 0 ≡ 0)
      → NextOf d a (get_or d₀ a 0 / 8) (length f.bytes)
  next_marked {d} {a = a} k inside ne =
      record {
        room = omega (arith, k.depths_kept.long, ok.room_depths);
        inside = inside;
        next = λ nz. ⊎_elim (λ z. absurd (nz z)) (λ l. found nz l) (ok.links a inside (chained a inside ne));
      }
    where
      found : ¬ (get_or d₀ a 0 / 8 ≡ 0) → Leads (length f.bytes) d₀ a (get_or d₀ a 0 / 8) → FirstMarked d (a + 1) (length f.bytes) (a + get_or d₀ a 0 / 8)
      found nz l =
          record {
            low = omega arith;
            high = omega (arith, l.inside);
            none = λ j lo hi. k.depths.above j lo ∙ blank j (omega (arith, l.inside)) (l.none j (omega arith) hi);
            marked = λ lt z. omega (arith, l.marked, marks_at d₀ (a + get_or d₀ a 0 / 8), k.depths.above (a + get_or d₀ a 0 / 8) (omega arith));
          }

  -- on to the next node, or to the end
  pub filling_on : {d s : List ℕ} {deep heavy : Bool} {a : ℕ} (b : ℕ) → Filling f d₀ s₀ d s deep heavy a → FirstMarked d a (length f.bytes) b
      → Filling f d₀ s₀ d s deep heavy b × (b ≤ length f.bytes) × (b < length f.bytes → ¬ (get_or d₀ b 0 ≡ 0))
  filling_on {d} {a = a} b k next = (
    filling_jump k b next.low next.high ok.zeros next.none,
    next.high,
    λ lt z. next.marked lt (k.depths.above b next.low ∙ z),
  )

-- ---- every address is passed

module _ {f : Fst} {d₀ s₀ d s : List ℕ} {deep heavy : Bool} {a : ℕ} (h : Filling f d₀ s₀ d s deep heavy a) (passed_all : AllPassed (marks_in d₀) (length f.bytes)) (all : length f.bytes ≤ a) where
  filled_heavy : deep ≡ false → heavy ≡ true → HeavyCase f (marks_in d₀)
  filled_heavy no_deep is =
      record { passed = passed_all; low = λ j l. (h.depths.below j (omega arith)).fine no_deep; one = h.one_heavy is }

  filled_good : deep ≡ false → heavy ≡ false → GoodAll f (marks_in d₀) d s
  filled_good no_deep no_heavy =
      record {
        passed = passed_all;
        depths = λ j l.
            let e = h.depths.below j (omega arith) in
            record { off = e.off; on = e.on no_deep; low = e.fine no_deep };
        sums = λ j l.
            let e = h.sums.below j (omega arith) in
            record { off = e.off; on = e.on no_heavy; low = e.fine no_heavy };
      }

  verdict_case : (x y : Bool) → deep ≡ x → heavy ≡ y → FillCase f (marks_in d₀) d s (cond x (Err DEEP) (cond y (Err SUM) (Ok tt)))
  verdict_case true y is _ = FillRefused.deep refl passed_all (h.one_deep is)
  verdict_case false true low is = FillRefused.heavy refl (filled_heavy low is)
  verdict_case false false low light = filled_good low light

  -- the two flags tell
  pub filling_told : (v : Result ⊤ Refusal) → v ≡ cond deep (Err DEEP) (cond heavy (Err SUM) (Ok tt)) → Filled f d₀ s₀ d s v
  filling_told v e = filling_ends h v (rw e (verdict_case deep heavy refl refl))
