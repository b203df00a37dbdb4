-- The descent over the arrays: a turn, and each way out of it.
--     Going ..                        from level k on, the answer is the one that is wanted
--     found_fits, found_past          a key's value fits, or does not
--     target_fits, place_fits         a target fits 32 bits, and a place 16
--     going-..                        the contract at each way out, and the next turn
-- Assumes nothing.
use mathlib.Core.Path.{◌≡◌, refl, sym, ◌∙◌, ap, subst}
use mathlib.Core.Bool.{Bool, true, false, cond, true≢false}
use mathlib.Core.Logic.{⊎_elim}
use mathlib.Core.List.{List, ◌∷◌}
use Prim.Native.Nat.{ℕ, ◌+◌, ◌-◌, ◌<◌, ◌≤◌}
use native.Mathlib.Omega.{arith}
use borrow.Author.Tests.{le-leb, lt-leb}
use lib.Dec.{leb}
use lib.ListN.{length, get_or, take, drop, set, length-set}
use lib.Seq.{get_or-set_same}
use Rattle.format.specs.declared.Transition.{Transition}
use Rattle.format.specs.Limits.{max_sum, NODE, DEEP, SUM}
use Rattle.format.specs.Node.{Node, sound, unsound, transition_at}
use Rattle.format.specs.Laws.NodeFacts.{node_zero, node_count}
use Rattle.format.specs.Laws.LiveLaws.{live_below_root, target_below_root}
use Rattle.format.specs.Laws.TransitionLaws.{at_member}
use Rattle.format.specs.Paths.{Fst, node_in}
use Rattle.format.specs.Strings.{Bound}
use Rattle.reading.specs.Reading as R
use Rattle.reading.specs.Reading.{Level, passes_test, key_of, counted, next_trans, child, stepped, descend, on_node}
use Rattle.stream_start.specs.Views.{Arrays, level_at, stack_is}
use Rattle.stream_start.specs.StackLaws.{key_stack, pushed_top, pushed_below}
use Rattle.std.specs.Prelude.{Option, Ok, Err, Some, None, Result, ℕ}
use Rattle.format.specs.declared.Refusal.{Refusal}
use Rattle.range_bound.specs.Besides.{Beside, Followed}
use Rattle.range_bound.specs.BesideLaws.{beside_within}
use Rattle.range_node.specs.Entries.{Leads, SoundTo}
use Rattle.range_node.specs.EntriesLaws.{sound_less, sound_set}
use Rattle.range_down.specs.declared.Next.{Next}
use Rattle.range_down.specs.Downs.{down_from, went_seen, went_at, found_at, DescendsOn}
use Rattle.range_down.proofs.RangeDescent.{down_deep, down_sum, down_bad, down_passed, down_final, down_on}

-- the answer that is wanted from a total is that from level k and another total
pub record WantedFrom (f : Fst) (hi : Bound) (want : ℕ → R.Went) (xs is ps os : List ℕ) (k : ℕ) (m : Node) (t₀ : ℕ) : Type 0 where
  pub total : ℕ
  pub same : want t₀ ≡ descend (255 - k) f hi (level_at k xs is ps os) m (stack_is k xs is ps os) total

pub record Going (f : Fst) (hi : Bound) (b : List ℕ) (want : ℕ → R.Went) (xs is ps os : List ℕ) (k same : ℕ) (over : Bool) : Type 0 where
  pub low : k < 256
  pub arrays : Arrays xs is ps os
  pub sounds : SoundTo f xs (k + 1)
  pub leads : Leads f (get_or xs k 0) (get_or ps k 0)
  pub beside : Beside hi b (drop 1 is) k same over
  pub from : (t : ℕ) → WantedFrom f hi want xs is ps os k leads.node t

pub going_none : (f : Fst) (hi : Bound) (b xs is ps os : List ℕ) (k same : ℕ) (over : Bool) → k < 256 → Arrays xs is ps os → SoundTo f xs (k + 1)
    → Leads f (get_or xs k 0) (get_or ps k 0) → Beside hi b (drop 1 is) k same over → Going f hi b (down_from f hi xs is ps os k) xs is ps os k same over
going_none f hi b xs is ps os k same over l w sounds leads beside = record {
  low = l;
  arrays = w;
  sounds = sounds;
  leads = leads;
  beside = beside;
  from = λ t. record {
    total = t;
    same =
        ap (λ j. on_node j (λ m. descend (255 - k) f hi (level_at k xs is ps os) m (stack_is k xs is ps os) t) (R.Went.halted NODE)) leads.is;
  };
}

-- a key's value, where it fits or not
pub found_fits : (k sum end s v : ℕ) → sum + end ≤ max_sum → v ≡ sum + end → Ok (Some (record { level = k; value = v; same = s })) ≡ found_at k sum end s
found_fits k sum end s v h e = rw (le-leb (sum + end) max_sum h, e)

pub found_past : (k sum end s : ℕ) → max_sum < sum + end → Err SUM ≡ found_at k sum end s
found_past k sum end s h = rw (lt-leb (sum + end) max_sum h)

found_low : (k sum end s n : ℕ) → k < n → went_at (found_at k sum end s) < n
found_low k sum end s n h = go (leb (sum + end) max_sum)
  where
    go : (b : Bool) → went_at (cond {A = Result (Option Next) Refusal} b (Ok (Some (record { level = k; value = sum + end; same = s }))) (Err SUM)) < n
    go true = h
    go false = omega arith

found_seen : (xs is ps os : List ℕ) (k sum end s t : ℕ)
    → went_seen xs is ps os t (found_at k sum end s)
    ≡ cond (leb (sum + end) max_sum) (R.found (level_at k xs is ps os ∷ stack_is k xs is ps os) (sum + end) t) (R.Went.halted SUM)
found_seen xs is ps os k sum end s t = go (leb (sum + end) max_sum)
  where
    go : (b : Bool) → went_seen xs is ps os t (cond b (Ok (Some (record { level = k; value = sum + end; same = s }))) (Err SUM))
        ≡ cond b (R.found (level_at k xs is ps os ∷ stack_is k xs is ps os) (sum + end) t) (R.Went.halted SUM)
    go true = refl
    go false = refl

found_is : (k sum end s : ℕ) (q : Next) → found_at k sum end s ≡ Ok (Some q) → (k ≡ q.level) × (s ≡ q.same)
found_is k sum end s q = go (leb (sum + end) max_sum)
  where
    go : (b : Bool) → cond {A = Result (Option Next) Refusal} b (Ok (Some (record { level = k; value = sum + end; same = s }))) (Err SUM) ≡ Ok (Some q) → (k ≡ q.level) × (s ≡ q.same)
    go true e =
        let z : ◌≡◌ {A = Next} (record { level = k; value = sum + end; same = s }) q = cc in
        (ap (λ (p : Next). p.level) z, ap (λ (p : Next). p.same) z)
    go false e = absurd (let z : ◌≡◌ {A = ℕ} 0 1 = cc in omega arith)

module _ {f : Fst} {hi : Bound} {b : List ℕ} {want : ℕ → R.Went} {xs is ps os : List ℕ} {k same : ℕ} {over : Bool} (g : Going f hi b want xs is ps os k same over) where
  abbrev l : Level
  l = level_at k xs is ps os

  abbrev m : Node
  m = g.leads.node

  abbrev below : List Level
  below = stack_is k xs is ps os

  first_sound : SoundTo f xs 1
  first_sound = sound_less f xs 1 (k + 1) g.sounds (omega arith)

  pub going_deep : 255 ≤ k → DescendsOn f hi b want xs is ps os (Err DEEP)
  going_deep h = record {
    low = omega arith;
    arrays = g.arrays;
    sound = first_sound;
    beside = λ j q. absurd (let z : ◌≡◌ {A = ℕ} 0 1 = cc in omega arith);
    from = λ t. let w = g.from t in record { total = 0; seen = sym (w.same ∙ down_deep k f hi l m below w.total h) };
  }

  -- ---- a turn, with the place of the transition and the transition

  module _ {i : ℕ} (ei : i ≡ get_or ps k 0) where
    pub leads_at : {a : ℕ} → a ≡ get_or xs k 0 → Leads f a i
    leads_at ea = rw (ea, ei) g.leads

    place_in : i < length m.transitions
    place_in = omega (arith, ei, g.leads.has)

    pub place_fits : ((j : ℕ) → get_or f.bytes j 0 < 256) → i < 256
    place_fits bytes = omega (arith, place_in, node_count f (get_or xs k 0) m g.leads.is bytes)

    module _ {e : Transition} (ee : e ≡ transition_at m.transitions i) where
      edge_is : e ≡ next_trans l m
      edge_is = ee ∙ ap (transition_at m.transitions) ei

      target_low : e.addr < f.root
      target_low =
          rw ee (target_below_root f (get_or xs k 0) m (transition_at m.transitions i) g.leads.is (at_member m.transitions i place_in))

      pub target_fits : f.root < 4294967296 → e.addr < 4294967296
      target_fits small = omega (arith, target_low)

      module _ (hk : k < 255) where
        out_is : get_or os k 0 + e.out ≡ l.out + (next_trans l m).out
        out_is = ap (λ (x : Transition). get_or os k 0 + x.out) edge_is

        pub going_sum : max_sum < get_or os k 0 + e.out → DescendsOn f hi b want xs is ps os (Err SUM)
        going_sum h = record {
          low = omega arith;
          arrays = g.arrays;
          sound = first_sound;
          beside = λ j q. absurd (let z : ◌≡◌ {A = ℕ} 0 1 = cc in omega arith);
          from = λ t. let w = g.from t in record { total = 0; seen = sym (w.same ∙ down_sum k f hi l m below w.total hk (rw out_is at h)) };
        }

        module _ (fits : get_or os k 0 + e.out ≤ max_sum) where
          fit : l.out + (next_trans l m).out ≤ max_sum
          fit = rw out_is at fits

          target_is : e.addr ≡ (next_trans l m).addr
          target_is = ap (λ (x : Transition). x.addr) edge_is

          pub going_bad : node_in f e.addr ≡ unsound → DescendsOn f hi b want xs is ps os (Err NODE)
          going_bad bad = record {
            low = omega arith;
            arrays = g.arrays;
            sound = first_sound;
            beside = λ j q. absurd (let z : ◌≡◌ {A = ℕ} 0 1 = cc in omega arith);
            from = λ t. let w = g.from t in record { total = 0; seen = sym (w.same ∙ down_bad k f hi l m below w.total hk fit (rw target_is at bad)) };
          }

          -- ---- the target is judged, and its level is written

          module _ (n : Node) (en : node_in f e.addr ≡ sound n) {sum : ℕ} (es : sum ≡ get_or os k 0 + e.out) where
            abbrev xs⁺ : List ℕ
            xs⁺ = set xs (k + 1) e.addr

            abbrev is⁺ : List ℕ
            is⁺ = set is (k + 1) e.inp

            abbrev ps⁺ : List ℕ
            ps⁺ = set (set ps k (i + 1)) (k + 1) 0

            abbrev os⁺ : List ℕ
            os⁺ = set os (k + 1) sum

            sum_is : sum ≡ l.out + (next_trans l m).out
            sum_is = es ∙ out_is

            input_is : e.inp ≡ (next_trans l m).inp
            input_is = ap (λ (x : Transition). x.inp) edge_is

            top⁺ : level_at (k + 1) xs⁺ is⁺ ps⁺ os⁺ ≡ child l m
            top⁺ =
                pushed_top k xs is ps os e.addr e.inp (i + 1) sum (omega (arith, g.arrays.addrs_len)) (omega (arith, g.arrays.inps_len))
                (omega (arith, g.arrays.trans_len)) (omega (arith, g.arrays.outs_len))
                ∙ rw (target_is, input_is, sum_is)

            below⁺ : stack_is (k + 1) xs⁺ is⁺ ps⁺ os⁺ ≡ stepped l ∷ below
            below⁺ =
                pushed_below k xs is ps os e.addr e.inp (i + 1) sum (omega (arith, g.arrays.addrs_len)) (omega (arith, g.arrays.inps_len))
                (omega (arith, g.arrays.trans_len)) (omega (arith, g.arrays.outs_len))
                ∙ rw ei

            target⁺ : node_in f (next_trans l m).addr ≡ sound n
            target⁺ = rw target_is at en

            len⁺ : length is⁺ ≡ 256
            len⁺ = length-set is (k + 1) e.inp ∙ g.arrays.inps_len

            arrays⁺ : Arrays xs⁺ is⁺ ps⁺ os⁺
            arrays⁺ = record {
              addrs_len = length-set xs (k + 1) e.addr ∙ g.arrays.addrs_len;
              inps_len = len⁺;
              trans_len = simp length-set g.arrays.trans_len;
              outs_len = length-set os (k + 1) sum ∙ g.arrays.outs_len;
            }

            sounds⁺ : SoundTo f xs⁺ (k + 1 + 1)
            sounds⁺ = sound_set f xs k e.addr (omega (arith, g.arrays.addrs_len)) g.sounds en

            key⁺ : key_of (child l m ∷ stepped l ∷ below) ≡ take (k + 1) (drop 1 is⁺)
            key⁺ =
                sym (ap (λ (c : Level). key_of (c ∷ stepped l ∷ below)) top⁺)
                ∙ sym (ap (λ (r : List Level). key_of (level_at (k + 1) xs⁺ is⁺ ps⁺ os⁺ ∷ r)) below⁺)
                ∙ key_stack (k + 1) xs⁺ is⁺ ps⁺ os⁺ (omega (arith, len⁺))

            -- the bound, with one input more
            pub further : {r : Option ℕ}
                → ((path : List ℕ) → k + 1 < length path → Beside hi b (drop 1 path) k same over → Followed hi b (drop 1 (set path (k + 1) e.inp)) (k + 1) over r)
                → Followed hi b (drop 1 is⁺) (k + 1) over r
            further follows = follows is (omega (arith, g.arrays.inps_len)) g.beside

            pub going_passed : passes_test hi (take (k + 1) (drop 1 is⁺)) ≡ true → DescendsOn f hi b want xs is ps os (Ok None)
            going_passed p = record {
              low = omega arith;
              arrays = g.arrays;
              sound = first_sound;
              beside = λ j q. absurd (let z : ◌≡◌ {A = ℕ} 0 1 = cc in omega arith);
              from = λ t.
                  let w = g.from t in
                  record {
                    total = counted w.total;
                    seen = sym (w.same ∙ down_passed k f hi l m below w.total hk fit n target⁺ (ap (passes_test hi) key⁺ ∙ p));
                  };
            }

            module _ {s⁺ : ℕ} (within : (passes_test hi (take (k + 1) (drop 1 is⁺)) ≡ false) × Beside hi b (drop 1 is⁺) (k + 1) s⁺ over) where
              p : passes_test hi (take (k + 1) (drop 1 is⁺)) ≡ false
              p = within.0

              pub going_final : (end : ℕ) → (n.final ≡ true) × (end ≡ n.final_output) → (r : Result (Option Next) Refusal) → r ≡ found_at (k + 1) sum end s⁺
                  → DescendsOn f hi b want xs⁺ is⁺ ps⁺ os⁺ r
              going_final end ended r er = record {
                low = rw er (found_low (k + 1) sum end s⁺ 256 (omega arith));
                arrays = arrays⁺;
                sound =
                    sound_less f xs⁺ (went_at r + 1) (k + 1 + 1) sounds⁺
                    (omega (arith, ap went_at er, found_low (k + 1) sum end s⁺ (k + 1 + 1) (omega arith)));
                beside = λ j q.
                    let w = found_is (k + 1) sum end s⁺ j (sym er ∙ q) in
                    subst (λ (i : ℕ). Beside hi b (drop 1 is⁺) i j.same false) w.0
                    (subst (λ (i : ℕ). Beside hi b (drop 1 is⁺) (k + 1) i false) w.1 (beside_within within.1 p));
                from = λ t.
                    let w = g.from t in
                    record {
                      total = counted w.total;
                      seen =
                          ap (went_seen xs⁺ is⁺ ps⁺ os⁺ (counted w.total)) er ∙ found_seen xs⁺ is⁺ ps⁺ os⁺ (k + 1) sum end s⁺ (counted w.total)
                          ∙ sym
                          (w.same ∙ down_final k f hi l m below w.total hk fit n target⁺ (ap (passes_test hi) key⁺ ∙ p) ended.0
                          ∙ sym (rw (top⁺, below⁺, sum_is, ended.1)));
                    };
              }

              live : n.final ≡ false → 0 < length n.transitions
              live inner =
                  ⊎_elim (λ y. absurd (true≢false (sym y ∙ inner))) (λ y. y) (live_below_root f e.addr n en not_zero (λ z. omega (arith, target_low)))
                where
                  not_zero : ¬ (e.addr ≡ 0)
                  not_zero z = true≢false (sym (ap (λ (x : Node). x.final) (node_zero f e.addr n en z)) ∙ inner)

              pub going_on : n.final ≡ false → Going f hi b want xs⁺ is⁺ ps⁺ os⁺ (k + 1) s⁺ over
              going_on inner =
                  let x : get_or xs⁺ (k + 1) 0 ≡ e.addr = get_or-set_same xs (k + 1) e.addr 0 (omega (arith, g.arrays.addrs_len)) in
                  let lp : k + 1 < length (set ps k (i + 1)) = simp length-set (omega (arith, g.arrays.trans_len)) in
                  let y : get_or ps⁺ (k + 1) 0 ≡ 0 = get_or-set_same (set ps k (i + 1)) (k + 1) 0 0 lp in
                  record {
                    low = omega arith;
                    arrays = arrays⁺;
                    sounds = sounds⁺;
                    leads = record { node = n; is = rw x en; has = rw y (live inner) };
                    beside = within.1;
                    from = λ t.
                        let w = g.from t in
                        record {
                          total = counted w.total;
                          same =
                              w.same ∙ down_on k f hi l m below w.total hk fit n target⁺ (ap (passes_test hi) key⁺ ∙ p) inner ∙ sym (rw (top⁺, below⁺));
                        };
                  }
