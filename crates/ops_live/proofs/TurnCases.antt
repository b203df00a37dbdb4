-- A turn of a reading of a page, against a call of next.
--     next_turn                         a call of next with nothing pending, by the levels
--     pending_over, pending_key         the empty key passes the upper bound, or is handed out
--     turn_over, turn_key, turn_refused a turn by what the levels say
-- Assumes nothing.
use Rattle.std.specs.Prelude.{◌≡◌, refl, Bool, true, false, cond, List, [], ℕ, ◌+◌, ◌-◌, ◌≤◌, ◌<◌, length, drop, take, Ok, Err, Some, None, Result, Option}
use Rattle.std.proofs.Common.{sym, ap, ap₂, ◌∙◌, subst, arith}
use Rattle.std.proofs.Math.Option as M
use Rattle.format.specs.declared.Refusal.{Refusal}
use Rattle.format.specs.Limits.{max_path, max_levels}
use Rattle.format.specs.Paths.{Fst, fst_with, fst_of}
use Rattle.format.specs.Strings as S
use Rattle.reading.specs.Reading as R
use Rattle.reading.specs.Reading.{View, Level, Step, Popped, Went, key, end, next, walk, moved, after_pop, after_descend, pop, passes_test, bound_bytes}
use Rattle.stream_start.specs.Views.{empty_is, stack_is, stack_of}
use Rattle.stream_start.specs.StackLaws.{stack_length, stack_none}
use Rattle.range_bound.specs.Besides.{Beside}
use Rattle.range_down.specs.declared.Next.{Next}
use Rattle.range_node.specs.Entries.{SoundTo}
use Rattle.range_turn.specs.Turns.{view_at, step_of, Turned, goes_on, ends, stops}
use Rattle.range_turn.specs.StartStateLaws.{next_walk}
use Rattle.ops_live.specs.declared.Live.{Live}
use Rattle.ops_live.specs.Lives.{view_from, Fit, OverAs, GoesTo, TurnTold}

-- ---- the reading after an end, and after a refusal

not_key : {k : List ℕ} {v : ℕ} → key k v ≡ end → ⊥
not_key e = let z : ◌≡◌ {A = ℕ} 0 1 = cc in omega arith

not_end : {n : Refusal} → end ≡ R.Answer.refused n → ⊥
not_end e = let z : ◌≡◌ {A = ℕ} 0 1 = cc in omega arith

not_refused : {k : List ℕ} {v : ℕ} {n : Refusal} → key k v ≡ R.Answer.refused n → ⊥
not_refused e = let z : ◌≡◌ {A = ℕ} 0 1 = cc in omega arith

refused_end : {n : Refusal} → R.Answer.refused n ≡ end → ⊥
refused_end e = not_end (sym e)

record Over (r : View) (w : Step) : Type 0 where
  total : ℕ
  is : w.reading ≡ moved r [] total

over_went : (r : View) (w : Went) → (after_descend r w).answer ≡ end → Over r (after_descend r w)
over_went r (R.found s v t) e = absurd (not_key e)
over_went r (R.passed t) e = record { total = t; is = refl }
over_went r (Went.halted n) e = absurd (refused_end e)

over_pop : (f : Fst) (r : View) (p : Popped) → (after_pop f r p).answer ≡ end → Over r (after_pop f r p)
over_pop f r (R.top l m s) e = over_went r (R.descend (max_path - length s) f r.bound l m s r.total) e
over_pop f r R.used_up e = record { total = r.total; is = refl }
over_pop f r R.bad e = absurd (refused_end e)

same_went : (r : View) (w : Went) (n : Refusal) → (after_descend r w).answer ≡ R.Answer.refused n → (after_descend r w).reading ≡ r
same_went r (R.found s v t) n e = absurd (not_refused e)
same_went r (R.passed t) n e = absurd (not_end e)
same_went r (Went.halted m) n e = refl

same_pop : (f : Fst) (r : View) (p : Popped) (n : Refusal) → (after_pop f r p).answer ≡ R.Answer.refused n → (after_pop f r p).reading ≡ r
same_pop f r (R.top l m s) n e = same_went r (R.descend (max_path - length s) f r.bound l m s r.total) n e
same_pop f r R.used_up n e = absurd (not_end e)
same_pop f r R.bad n e = refl

-- ---- what a turn on the levels says

record KeyTurn (f : Fst) (len : ℕ) (hi : S.Bound) (b : List ℕ) (n t : ℕ) (levels : List Level) (xs is ps os : List ℕ) (k v s : ℕ) : Type 0 where
  low : k < max_levels
  sounds : SoundTo f xs (k + 1)
  beside : Beside hi b (drop 1 is) k s false
  after : ℕ
  answer : (step_of f len hi n t levels).answer ≡ key (take k (drop 1 is)) v
  reading : (step_of f len hi n t levels).reading ≡ view_at len hi n after (stack_is (k + 1) xs is ps os)

module _ {f : Fst} {len : ℕ} {hi : S.Bound} {b : List ℕ} {n t : ℕ} {levels : List Level} {xs is ps os : List ℕ} where
  key_turn : {q : Next} → Turned f len hi b n t levels xs is ps os (Ok (Some q)) → KeyTurn f len hi b n t levels xs is ps os q.level q.value q.same
  key_turn (goes_on q t' low arrays sounds beside a r) = record { low = low; sounds = sounds; beside = beside; after = t'; answer = a; reading = r }

  end_turn : Turned f len hi b n t levels xs is ps os (Ok None) → (step_of f len hi n t levels).answer ≡ end
  end_turn (ends e) = e

  refused_turn : {c : Refusal} → Turned f len hi b n t levels xs is ps os (Err c) → (step_of f len hi n t levels).answer ≡ R.Answer.refused c
  refused_turn (stops c e) = e

-- ---- where it ends, nothing stands beside the bound

beside_none : (hi : S.Bound) (b path : List ℕ) → Beside hi b path 0 0 false
beside_none hi b path = record { low = omega arith; agrees = refl; decided = λ h. absurd (omega arith); undecided = λ e. refl }

module _ (f : List ℕ) (hi : S.Bound) (l₀ : Live) (fit : Fit f hi l₀) where
  abbrev n : ℕ
  n = length (bound_bytes hi)

  few : length (stack_of l₀.levels l₀.stack) ≤ max_levels
  few = let e = stack_length l₀.levels l₀.stack.addrs l₀.stack.inps l₀.stack.trans l₀.stack.outs in let h = fit.ready.few in omega arith

  walked : (t : ℕ) → next f (view_from f hi l₀ t) max_path ≡ walk (fst_of f fit.ready.opens.meta) (view_from f hi l₀ t) (empty_is l₀.empty)
  walked t = next_walk f fit.ready.opens.meta fit.ready.opens.opens (view_from f hi l₀ t) (record { few = few; short = fit.ready.short; same = refl })

  -- ---- the reading that is over

  module _ (mid l : Live) (version : mid.version ≡ l₀.version) (root : mid.root ≡ l₀.root) (keys : mid.keys ≡ l₀.keys) (over : OverAs mid l) where
    over_fit : Fit f hi l
    over_fit =
        let o = fit.ready.opens in
        let e = over.levels in
        record {
          ready = record {
            opens = record { meta = o.meta; opens = o.opens; version_is = o.version_is ∙ sym (over.version ∙ version); root_is = o.root_is ∙ sym (over.root ∙ root) };
            few = omega arith;
            sounds = λ k h. absurd (omega arith);
            short = fit.ready.short;
          };
          beside = over_beside l.levels l.standing.same l.standing.over over.levels over.same over.over;
        }
      where
        over_beside : (m s : ℕ) (v : Bool) → m ≡ 0 → s ≡ 0 → v ≡ false → Beside hi (bound_bytes hi) (drop 1 l.stack.inps) (m - 1) s v
        over_beside m s v a b c = rw (a, b, c) (beside_none hi (bound_bytes hi) (drop 1 l.stack.inps))

    over_view : (t u : ℕ) → moved (view_from f hi l₀ t) [] u ≡ view_from f hi l u
    over_view t u =
        ap₂ (λ (e : M.Option ℕ) (s : List Level). record { len = length f; bound = hi; bound_len = n; empty = e; total = u; levels = s })
        (sym (ap empty_is over.empty))
        (sym (ap (λ (k : ℕ). stack_of k l.stack) over.levels ∙ stack_none l.stack.addrs l.stack.inps l.stack.trans l.stack.outs))

    goes_over : (t : ℕ) (w : Step) → Over (view_from f hi l₀ t) w → GoesTo f hi l₀ l w
    goes_over t w o = record { total = o.total; reading = o.is ∙ over_view t o.total; fit = over_fit; keys = over.keys ∙ keys }

  -- ---- the empty key is pending

  abbrev pending_step : View → ℕ → Bool → Step
  pending_step r x b = cond b (record { answer = end; reading = moved r [] r.total }) (record { answer = key [] x; reading = moved r r.levels r.total })

  module _ (x : ℕ) (e : l₀.empty ≡ Some x) where
    pending : (t : ℕ) (b : Bool) → passes_test hi [] ≡ b → next f (view_from f hi l₀ t) max_path ≡ pending_step (view_from f hi l₀ t) x b
    pending t b p =
        walked t
        ∙ ap (λ (y : Option ℕ). walk (fst_of f fit.ready.opens.meta) (view_from f hi l₀ t) (empty_is y)) e
        ∙ ap (pending_step (view_from f hi l₀ t) x) p

    pub pending_over : passes_test hi [] ≡ true → (l : Live) → OverAs l₀ l → (t : ℕ) → TurnTold f hi t l₀ l (Ok None)
    pending_over p l over t =
        let w = pending t true p in
        record {
          answer = ap (λ (s : Step). s.answer) w;
          leaves = goes_over l₀ l refl refl refl over t (next f (view_from f hi l₀ t) max_path) (record { total = t; is = ap (λ (s : Step). s.reading) w });
        }

    pub pending_key : passes_test hi [] ≡ false → (l : Live) → l ≡ record { version = l₀.version; root = l₀.root; empty = None; keys = l₀.keys; standing = l₀.standing; levels = l₀.levels; stack = l₀.stack }
        → (t : ℕ) → TurnTold f hi t l₀ l (Ok (Some x))
    pending_key p l is t =
        let w = pending t false p in
        rw is (record {
          answer = ([], ap (λ (s : Step). s.answer) w);
          leaves = record { total = t; reading = ap (λ (s : Step). s.reading) w; fit = record { ready = fit.ready; beside = fit.beside }; keys = refl };
        })

  -- ---- nothing is pending

  module _ (none_is : l₀.empty ≡ None) where
    called : (t : ℕ) → next f (view_from f hi l₀ t) max_path ≡ step_of (fst_with f l₀.version l₀.root) (length f) hi n t (stack_of l₀.levels l₀.stack)
    called t =
        let o = fit.ready.opens in
        ap (λ (y : Option ℕ). next f (record { len = length f; bound = hi; bound_len = n; empty = empty_is y; total = t; levels = stack_of l₀.levels l₀.stack }) max_path) none_is
        ∙ next_walk f o.meta o.opens (view_at (length f) hi n t (stack_of l₀.levels l₀.stack)) (record { few = few; short = fit.ready.short; same = refl })
        ∙ ap₂ (λ (v r : ℕ). step_of (fst_with f v r) (length f) hi n t (stack_of l₀.levels l₀.stack)) o.version_is o.root_is

    there : (t : ℕ) → view_from f hi l₀ t ≡ view_at (length f) hi n t (stack_of l₀.levels l₀.stack)
    there t = ap (λ (y : Option ℕ). record { len = length f; bound = hi; bound_len = n; empty = empty_is y; total = t; levels = stack_of l₀.levels l₀.stack }) none_is

    module _ {xs is ps os : List ℕ} {r : Result (Option Next) Refusal}
        (turned : (len n t : ℕ) → Turned (fst_with f l₀.version l₀.root) len hi (bound_bytes hi) n t (stack_of l₀.levels l₀.stack) xs is ps os r) where
      abbrev By : ℕ → Result (Option Next) Refusal → Type 0
      By t x = Turned (fst_with f l₀.version l₀.root) (length f) hi (bound_bytes hi) n t (stack_of l₀.levels l₀.stack) xs is ps os x

      by : (t : ℕ) (x : Result (Option Next) Refusal) → r ≡ x → By t x
      by t x e = subst (By t) e (turned (length f) n t)

      pub turn_refused : (c : Refusal) → r ≡ Err c → (l : Live) (t : ℕ) → TurnTold f hi t l₀ l (Err c)
      turn_refused c e l t =
          let a = refused_turn (by t (Err c) e) in
          record {
            answer = ap (λ (s : Step). s.answer) (called t) ∙ a;
            leaves =
                ap (λ (s : Step). s.reading) (called t)
                ∙ same_pop (fst_with f l₀.version l₀.root) (view_at (length f) hi n t (stack_of l₀.levels l₀.stack)) (pop (fst_with f l₀.version l₀.root) (stack_of l₀.levels l₀.stack)) c a
                ∙ sym (there t);
          }

      pub turn_over : r ≡ Ok None → (mid l : Live) → mid.version ≡ l₀.version → mid.root ≡ l₀.root → mid.keys ≡ l₀.keys → OverAs mid l → (t : ℕ) → TurnTold f hi t l₀ l (Ok None)
      turn_over e mid l version root keys over t =
          let a = end_turn (by t (Ok None) e) in
          let o = over_pop (fst_with f l₀.version l₀.root) (view_at (length f) hi n t (stack_of l₀.levels l₀.stack)) (pop (fst_with f l₀.version l₀.root) (stack_of l₀.levels l₀.stack)) a in
          record {
            answer = ap (λ (s : Step). s.answer) (called t) ∙ a;
            leaves = goes_over mid l version root keys over t (next f (view_from f hi l₀ t) max_path)
                (record { total = o.total; is = ap (λ (s : Step). s.reading) (called t) ∙ o.is });
          }

      module _ (q : Next) (e : r ≡ Ok (Some q)) where
        found : (t : ℕ) → KeyTurn (fst_with f l₀.version l₀.root) (length f) hi (bound_bytes hi) n t (stack_of l₀.levels l₀.stack) xs is ps os q.level q.value q.same
        found t = key_turn (by t (Ok (Some q)) e)

        pub level_low : q.level < max_levels
        level_low = (found 0).low

        pub turn_key : (l : Live)
            → l ≡ record {
              version = l₀.version;
              root = l₀.root;
              empty = l₀.empty;
              keys = l₀.keys;
              standing = record { same = q.same; over = false };
              levels = q.level + 1;
              stack = record { addrs = xs; inps = is; trans = ps; outs = os };
            }
            → (t : ℕ) → TurnTold f hi t l₀ l (Ok (Some q.value))
        turn_key l same t =
            let g = found t in
            let o = fit.ready.opens in
            let low = g.low in
            let back : q.level ≡ q.level + 1 - 1 = omega arith in
            rw same (record {
              answer = (take q.level (drop 1 is), ap (λ (s : Step). s.answer) (called t) ∙ g.answer);
              leaves = record {
                total = g.after;
                reading = ap (λ (s : Step). s.reading) (called t) ∙ g.reading
                    ∙ ap (λ (y : Option ℕ). record { len = length f; bound = hi; bound_len = n; empty = empty_is y; total = g.after; levels = stack_is (q.level + 1) xs is ps os }) (sym none_is);
                fit = record {
                  ready = record { opens = fit.ready.opens; few = omega arith; sounds = g.sounds; short = fit.ready.short };
                  beside = subst (λ (j : ℕ). Beside hi (bound_bytes hi) (drop 1 is) j q.same false) back g.beside;
                };
                keys = refl;
              };
            })
