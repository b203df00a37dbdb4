-- One card's part in a round: a law for each case.
--     gave_room                              of the buffer it matters only whether it has room for every key
--     card_ended, card_held, card_long       a reading that has ended; a key that is held; one of over 256 levels
--     card_key_lem, card_end, card_refused       a used-up reading, by the answer of its call
-- Assumes nothing.
use Prim.{tt}
use Rattle.std.specs.Prelude.{◌≡◌, refl, Bool, false, cond, List, [], ℕ, ◌<◌, ◌≤◌, leb, length, Ok, Err, Some, None}
use Rattle.std.proofs.Common.{sym, ap, ap₂, ◌∙◌, subst, arith, le-leb}
use Rattle.std.proofs.lemmas.Bool.{lt-leb}
use Rattle.format.specs.declared.Refusal.{Refusal}
use Rattle.format.specs.Limits.{max_path, max_levels, STATE}
use Rattle.reading.specs.Reading as R
use Rattle.plain.specs.Plain as P
use Rattle.plain.specs.Plain.{next_plain}
use Rattle.ops_spec.specs.Ops as O
use Rattle.ops_spec.specs.Ops.{with_card, by_answer, step_one}
use Rattle.ops_spec.specs.OpsAheadLaws.{plain_by_room, plain_few}
use Rattle.stream_start.specs.StackLaws.{stack_length}
use Rattle.stream_step.specs.SteppedLaws.{Told, step_key, step_end, step_refused}
use Rattle.stream.specs.declared.Plain.{Plain}
use Rattle.stream_step.specs.declared.Step.{Step}
use Rattle.stream.specs.Plains.{plain_is, CallGave}
use Rattle.ops_round.specs.declared.Slot.TheVariants.{Holds, Ended}
use Rattle.ops_round.specs.declared.Card.{Card}
use Rattle.ops_round.specs.Cards.{slot_is, card_is, FewBy, Still, Moved, Halted, used_card, OneStepped}

pub gave_room : (s : List ℕ) (p : P.Plain) (a b : ℕ) (r : Step Plain) → leb max_path a ≡ leb max_path b → CallGave (next_plain s p a) r → CallGave (next_plain s p b) r
gave_room s p a b r e g = subst (λ w. CallGave w r) (plain_by_room s p a b e) g

told_by_lem : {w : P.PlainStep} {r : Step Plain} → CallGave w r → Told w.answer r.answer [] (R.written w.answer [])
told_by_lem g = record { answer = g.answer; buffer = refl }

levels_number : (p : Plain) → length (plain_is p).view.levels ≡ p.reading.levels
levels_number p = stack_length p.reading.levels p.reading.stack.addrs p.reading.stack.inps p.reading.stack.trans p.reading.stack.outs

module _ (f : List ℕ) (space : ℕ) (c : Card) where
  slot_as : (x : O.Slot) (others : O.Stepped) → slot_is c.slot ≡ x
      → step_one space (card_is f c) (slot_is c.slot) others ≡ step_one space (card_is f c) x others
  slot_as x others e = ap (λ (y : O.Slot). step_one space (card_is f c) y others) e

  pub card_ended : c.slot ≡ Ended → OneStepped f space c (record { answer = Still; card = c })
  card_ended e =
      record {
        steps = λ others. slot_as O.ended others (ap slot_is e);
        few = subst (λ x. FewBy x c.reading.reading.levels) (sym e) tt;
      }

  pub card_held : (v : ℕ) → c.slot ≡ Holds v → c.reading.reading.levels ≤ max_levels → OneStepped f space c (record { answer = Still; card = c })
  card_held v e h =
      let n = levels_number c.reading in
      let t = le-leb (length (plain_is c.reading).view.levels) max_levels (omega arith) in
      record {
        steps = λ others.
            slot_as (O.holds v) others (ap slot_is e)
            ∙ ap (λ (b : Bool). cond b (with_card (card_is f c) false others) (O.halted STATE)) t;
        few = subst (λ x. FewBy x c.reading.reading.levels) (sym e) h;
      }

  pub card_long : (v : ℕ) → c.slot ≡ Holds v → max_levels < c.reading.reading.levels → OneStepped f space c (record { answer = Halted STATE; card = c })
  card_long v e h =
      let n = levels_number c.reading in
      let t = lt-leb (length (plain_is c.reading).view.levels) max_levels (omega arith) in
      record {
        steps = λ others.
            slot_as (O.holds v) others (ap slot_is e)
            ∙ ap (λ (b : Bool). cond b (with_card (card_is f c) false others) (O.halted STATE)) t;
        few = tt;
      }

-- ---- a reading whose key is used up

module _ (f : List ℕ) (space : ℕ) (p : Plain) (g : Step Plain) (gave : CallGave (next_plain f (plain_is p) space) g) where
  used_as : (others : O.Stepped) (a : R.Answer) → (next_plain f (plain_is p) space).answer ≡ a
      → step_one space (card_is f (used_card p)) O.used others ≡ by_answer f (plain_is g.reading) a others
  used_as others a is = ap₂ (λ (q : P.Plain) (x : R.Answer). by_answer f q x others) (sym gave.plain) is

  pub card_key_lem : (n v : ℕ) → g.answer ≡ Ok (Some (n, v))
      → OneStepped f space (used_card p) (record { answer = Moved; card = record { reading = g.reading; slot = Holds v } })
  card_key_lem n v e =
      let q = step_key (told_by_lem gave) n v e in
      let number = levels_number g.reading in
      let same = ap (λ (x : P.Plain). length x.view.levels) gave.plain in
      let few = plain_few f (plain_is p) space q.0 v q.1 in
      record { steps = λ others. used_as others (R.key q.0 v) q.1; few = omega arith }

  pub card_end : g.answer ≡ Ok None → OneStepped f space (used_card p) (record { answer = Moved; card = record { reading = g.reading; slot = Ended } })
  card_end e = record { steps = λ others. used_as others R.end (step_end (told_by_lem gave) e); few = tt }

  pub card_refused : (c : Card) (n : Refusal) → g.answer ≡ Err n → OneStepped f space (used_card p) (record { answer = Halted n; card = c })
  card_refused c n e = record { steps = λ others. used_as others (R.Answer.refused n) (step_refused (told_by_lem gave) n e); few = tt }
