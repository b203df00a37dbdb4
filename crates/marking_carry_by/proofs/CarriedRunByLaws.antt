-- A reading by pattern with marks carried to its file's conversion, and marks set there (CarriedRunBy), proved in the way of marks_carry `CarriedRunLaws`.
--     carried_marked_run_by    the claim
-- Assumes nothing.
use Rattle.std.specs.Prelude.{◌≡◌, refl, true, List, [], ℕ, ◌≤◌, leb, length}
use Rattle.std.proofs.Common.{ap, ◌∙◌, subst, le-leb}
use Rattle.std.proofs.lemmas.Bool.{and_from}
use Rattle.format.specs.Limits.{max_path}
use Rattle.format.specs.Admitted.{Admitted}
use Rattle.format.specs.Strings.{Bound}
use Rattle.reading.specs.Reading.{bound_bytes, View, Started, started}
use Rattle.reading.specs.Demand.{Call}
use Rattle.pattern.specs.Pattern.{Pattern, start_by}
use Rattle.pattern.specs.PatternDemand.{reading_after_by}
use Rattle.converting.specs.Converting.{converted}
use Rattle.carrying.specs.Carry.{carried, carry_by}
use Rattle.carrying_own.specs.CarryOwn.{SameCalls, Convertible}
use Rattle.carrying_own.specs.CarryOwnLaws.{new_admitted}
use Rattle.carrying_own.specs.CarryByLaws.{carry_own_by}
use Rattle.marking.specs.MarkCalls.{each_right, marks_test}
use Rattle.marking.specs.MarksDemand.{Did, history_of}
use Rattle.marking_by.specs.MarksByDemand.{now_from_by}
use Rattle.marking_by.proofs.MarksByLaws.{demand, r₀, kept, marked_run_by}
use Rattle.marks_carry.specs.MarksCarryLaws.{marked_carries}
use Rattle.marking_carry_by.specs.CarriedRunBy.{CarriedMarkedRunBy}

started_same : {b : Started} {r r' : View} → b ≡ started r → b ≡ started r' → r ≡ r'
started_same is also = cc

module _ {s : List ℕ} (A : Admitted s) (can : Convertible A) (lo hi : Bound) (short_lo : length (bound_bytes lo) ≤ max_path) (short_hi : length (bound_bytes hi) ≤ max_path)
    (q : Pattern) (short : length q.positions ≤ max_path) where
  old_right : (first : View) → start_by s q lo hi ≡ started first → (bs : List (Did s)) → marks_test (length s) (now_from_by q first [] bs).marks ≡ true
  old_right first starts bs =
      let k = kept A lo hi short_lo short_hi q short [] bs in
      let r = r₀ A lo hi short_lo short_hi q short in
      let is : r ≡ first = started_same (demand A lo hi short_lo short_hi q short []).starts starts in
      let few = le-leb (length (now_from_by q r [] bs).marks) 16 k.few in
      subst (λ (v : View). marks_test (length s) (now_from_by q v [] bs).marks ≡ true) is
      (and_from (leb (length (now_from_by q r [] bs).marks) 16) (each_right (length s) (now_from_by q r [] bs).marks) few k.right)

  pub carried_marked_run_by : (bs : List (Did s)) (cs' : List (Call (converted A))) → SameCalls (history_of [] bs).calls cs' → (ds : List (Did (converted A)))
      → CarriedMarkedRunBy A can q lo hi bs cs' ds
  carried_marked_run_by bs cs' same ds =
      let old = marked_run_by A lo hi short_lo short_hi q short [] bs in
      let new = marked_run_by (new_admitted A can) lo hi short_lo short_hi q short cs' ds in
      let own = carry_own_by A can q short lo hi short_lo short_hi (history_of [] bs).calls cs' same in
      let old_is : old.first ≡ own.reading = started_same old.starts own.starts in
      let new_is : own.new_reading ≡ new.first = started_same own.new_starts new.starts in
      let w = now_from_by q old.first [] bs in
      record {
        before = old;
        after = new;
        carries =
            marked_carries (leb (length q.positions) max_path) s (converted A) w.reading w.marks (old_right old.first old.starts bs)
            ∙ ap (carry_by s (converted A) q) (old.reading_is ∙ ap (λ (r : View). reading_after_by q r (history_of [] bs).calls) old_is) ∙ own.carries
            ∙ ap (λ (r : View). carried (reading_after_by q r cs')) new_is;
        no_marks_lem = refl;
      }
