-- A call of an operation with a buffer of under 255 bytes is refused, on any files and any cards.
--     next_short_any     so is a call of next, on any file and any reading
--     item_short         a call
-- Assumes nothing.
use Prim.{Unit, tt}
use Rattle.std.specs.Prelude.{◌≡◌, Bool, true, false, ◌&&◌, ◌||◌, ℕ, ◌<◌, ◌≤◌, ltb, leb, length}
use Rattle.std.proofs.Math.Path.{refl}
use Rattle.std.proofs.Common.{sym, ◌∙◌, ap, subst}
use Rattle.std.proofs.Math.Bool.{cond}
use Rattle.format.specs.declared.Refusal.{Refusal}
use mathlib.Core.List.{List, [], ◌∷◌}
use borrow.Author.Tests.{lt-leb}
use Rattle.format.specs.Limits.{max_path, SPACE, STATE, max_levels, CARDS}
use Rattle.format.specs.Opening.{Meta, Opening, opened, opening}
use Rattle.format.specs.Opening as Opening
use Rattle.format.specs.Paths.{fst_of}
use Rattle.reading.specs.Reading.{View, on_opened, Answer, Step, refuse, walk, state_test, next}
use Rattle.plain.specs.Plain.{Plain, PlainStep, counted_step, next_plain}
use Rattle.ops_spec.specs.Ops.{Op, Slot, used, holds, ended, Card, Stepped, cards, halted, with_card, by_answer, step_one, step_all, decide, Merged, by_verdict, after_steps, next_item}
use Rattle.ops_spec.specs.OpsFuelLaws.{cond_way, rounds_by, next_item_by}

abbrev Refuses : View → Step → Type 0
Refuses r o = (n : Refusal) × (o ≡ refuse r n)

abbrev NoStep : Stepped → Type 0
NoStep (cards ds now) = now ≡ false
NoStep (halted n) = Unit {0}

abbrev IsRefused : Merged → Type 0
IsRefused m = (n : Refusal) × (m ≡ Merged.refused n)

module _ (space : ℕ) (short : space < max_path) where
  pub next_short_any : (s : List ℕ) (r : View) → (n : Refusal) × (next s r space ≡ refuse r n)
  unfolding next
  next_short_any s r = by (opening s)
    where
      by : (o : Opening)
          → Refuses r (on_opened o (λ m. cond (state_test r (length s)) (cond (leb max_path space) (walk (fst_of s m) r r.empty) (refuse r SPACE)) (refuse r STATE)) (λ n. refuse r n))
      by (opened m) =
          cond_way (Refuses r) (state_test r (length s)) (λ _. let a = lt-leb max_path space short in (SPACE, rw a)) (λ _. (STATE, refl))
      by (Opening.refused n) = (n, refl)

  pub plain_short_any : (s : List ℕ) (p : Plain) → (n : Refusal) × (next_plain s p space ≡ record { answer = Answer.refused n; reading = p })
  plain_short_any s p = let w = next_short_any s p.view in (w.0, ap (counted_step p) w.1)

  kept : (c : Card) (o : Stepped) → NoStep o → NoStep (with_card c false o)
  kept c (cards ds now) h = h
  kept c (halted n) h = tt

  short_one : (c : Card) (x : Slot) (o : Stepped) → NoStep o → NoStep (step_one space c x o)
  short_one c used o h =
      let w = plain_short_any c.file c.reading in
      subst (λ (y : PlainStep). NoStep (by_answer c.file y.reading y.answer o)) (sym w.1) tt
  short_one c (holds v) o h = cond_way NoStep (leb (length c.reading.view.levels) max_levels) {x = with_card c false o} {y = halted STATE} (λ _. kept c o h) (λ _. tt)
  short_one c ended o h = kept c o h

  short_all : (cs : List Card) → NoStep (step_all space cs)
  unfolding step_all
  short_all [] = refl
  short_all (c ∷ cs) = short_one c c.slot (step_all space cs) (short_all cs)

  short_after : (op : Op) (more : List Card → Merged) (o : Stepped) → NoStep o → IsRefused (after_steps op space false more o)
  short_after op more (cards ds now) h =
      let a = lt-leb max_path space short in
      let b : (now || leb max_path space) ≡ false = ap (λ (x : Bool). x || leb max_path space) h ∙ a in
      (SPACE, ap (λ (x : Bool). cond x (by_verdict ds more (decide op ds)) (Merged.refused SPACE)) b)
  short_after op more (halted n) h = (n, refl)

  pub item_short : (op : Op) (cs : List Card) → (n : Refusal) × (next_item op cs space ≡ Merged.refused n)
  item_short op cs =
      subst IsRefused (sym (next_item_by op cs space))
      (cond_way IsRefused (ltb 0 (length cs) && leb (length cs) 8) (λ _. short_after op (rounds_by op space true) (step_all space cs) (short_all cs)) (λ _. (CARDS, refl)))
