-- A step of a reading of a page, by its turn and the number of keys to come.
--     step_stops, step_over, step_none_left, step_key     by the answer of the turn
-- Assumes nothing.
use Rattle.std.specs.Prelude.{◌≡◌, refl, Bool, true, false, cond, List, ℕ, ◌-◌, eqb, length, Ok, Err, Some, None}
use Rattle.std.proofs.Common.{sym, ap, ap₂, ◌∙◌, subst, eq-eqb, ne_eqb}
use Rattle.format.specs.declared.Refusal.{Refusal}
use Rattle.format.specs.Limits.{max_path, STATE}
use Rattle.format.specs.Strings as S
use Rattle.reading.specs.Reading as R
use Rattle.reading.specs.Reading.{View, Step, key, end, next}
use Rattle.plain.specs.Plain as P
use Rattle.plain.specs.Plain.{PlainStep, plain_with, counting, next_plain}
use Rattle.stream_start.specs.Views.{view_is}
use Rattle.stream_step.specs.declared.Step.{Step as CallStep}
use Rattle.stream_step.specs.Stepped.{answer_as}
use Rattle.stream.specs.declared.Plain.{Plain}
use Rattle.stream.specs.Plains.{plain_is, CallGave}
use Rattle.ops_live.specs.declared.Live.{Live}
use Rattle.ops_live.specs.Lives.{view_from, plain_of, TurnTold, StepGave}
use Rattle.ops_live.specs.LivesLaws.{view_is_lem}

-- what a key does, by whether none is to come
abbrev counting_by : P.Plain → View → List ℕ → ℕ → Bool → PlainStep
counting_by p r k v b = cond b (record { answer = R.Answer.refused STATE; reading = p }) (record { answer = key k v; reading = plain_with r (p.keys - 1) })

abbrev counted : Live → Live
counted l = record { version = l.version; root = l.root; empty = l.empty; keys = l.keys - 1; standing = l.standing; levels = l.levels; stack = l.stack }

module _ (f : List ℕ) (hi : S.Bound) (t : ℕ) (l₀ l : Live) where
  abbrev w : Step
  w = next f (view_from f hi l₀ t) max_path

  -- the call on the plain reading, by the answer and the reading of that without the number
  called : (a : R.Answer) (r : View) → w.answer ≡ a → w.reading ≡ r
      → next_plain f (plain_is (plain_of f hi l₀ t)) max_path ≡ counting (plain_is (plain_of f hi l₀ t)) r a
  called a r ea er =
      let same : next f (view_is (plain_of f hi l₀ t).reading) max_path ≡ w = ap (λ (v : View). next f v max_path) (view_is_lem f hi l₀ t) in
      ap (λ (s : Step). counting (plain_is (plain_of f hi l₀ t)) s.reading s.answer) same
      ∙ ap₂ (counting (plain_is (plain_of f hi l₀ t))) er ea

  plain_same : (m : Live) (u k : ℕ) → m.keys ≡ k → plain_is (plain_of f hi m u) ≡ plain_with (view_from f hi m u) k
  plain_same m u k e = ap₂ plain_with (view_is_lem f hi m u) e

  gave : (q : PlainStep) (s : CallStep Plain) → next_plain f (plain_is (plain_of f hi l₀ t)) max_path ≡ q → s.answer ≡ answer_as q.answer → plain_is s.reading ≡ q.reading
      → CallGave (next_plain f (plain_is (plain_of f hi l₀ t)) max_path) s
  gave q s e a p = subst (λ (x : PlainStep). CallGave x s) (sym e) (record { answer = a; plain = p })

  pub step_stops : (c : Refusal) → TurnTold f hi t l₀ l (Err c) → StepGave f hi t l₀ l (Err c)
  step_stops c h =
      record {
        call = record { answer = Err c; reading = plain_of f hi l₀ t };
        gave = gave (record { answer = R.Answer.refused c; reading = plain_with (view_from f hi l₀ t) l₀.keys }) (record { answer = Err c; reading = plain_of f hi l₀ t })
            (called (R.Answer.refused c) (view_from f hi l₀ t) h.answer h.leaves) refl (plain_same l₀ t l₀.keys refl);
        answer = refl;
        after = record {};
      }

  pub step_over : TurnTold f hi t l₀ l (Ok None) → StepGave f hi t l₀ l (Ok None)
  step_over h =
      let g = h.leaves in
      let s : CallStep Plain = record { answer = Ok None; reading = plain_of f hi l g.total } in
      record {
        call = s;
        gave = gave (record { answer = end; reading = plain_with (view_from f hi l g.total) l₀.keys }) s
            (called end (view_from f hi l g.total) h.answer g.reading) refl (plain_same l g.total l₀.keys g.keys);
        answer = refl;
        after = record { total = g.total; is = refl; fit = g.fit };
      }

  module _ (v : ℕ) (h : TurnTold f hi t l₀ l (Ok (Some v))) where
    -- a key that came would be one too many
    pub step_none_left : l.keys ≡ 0 → StepGave f hi t l₀ l (Err STATE)
    step_none_left e =
        let g = h.leaves in
        let p = plain_is (plain_of f hi l₀ t) in
        let z : eqb l₀.keys 0 ≡ true = eq-eqb l₀.keys 0 (sym g.keys ∙ e) in
        record {
          call = record { answer = Err STATE; reading = plain_of f hi l₀ t };
          gave = gave (record { answer = R.Answer.refused STATE; reading = p }) (record { answer = Err STATE; reading = plain_of f hi l₀ t })
              (called (key h.answer.0 v) (view_from f hi l g.total) h.answer.1 g.reading
              ∙ ap (λ (b : Bool). counting_by p (view_from f hi l g.total) h.answer.0 v b) z) refl refl;
          answer = refl;
          after = record {};
        }

    pub step_key : ¬ (l.keys ≡ 0) → StepGave f hi t l₀ (counted l) (Ok (Some v))
    step_key ne =
        let g = h.leaves in
        let p = plain_is (plain_of f hi l₀ t) in
        let s : CallStep Plain = record { answer = Ok (Some (length h.answer.0, v)); reading = plain_of f hi (counted l) g.total } in
        let z : eqb l₀.keys 0 ≡ false = ne_eqb l₀.keys 0 (λ x. ne (g.keys ∙ x)) in
        record {
          call = s;
          gave = gave (record { answer = key h.answer.0 v; reading = plain_with (view_from f hi l g.total) (l₀.keys - 1) }) s
              (called (key h.answer.0 v) (view_from f hi l g.total) h.answer.1 g.reading
              ∙ ap (λ (b : Bool). counting_by p (view_from f hi l g.total) h.answer.0 v b) z)
              refl (plain_same (counted l) g.total (l₀.keys - 1) (ap (λ (k : ℕ). k - 1) g.keys));
          answer = (length h.answer.0, refl);
          after = record { total = g.total; is = refl; fit = record { ready = g.fit.ready; beside = g.fit.beside } };
        }
