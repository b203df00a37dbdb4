-- A reading with marks carried to its file's conversion, and marks set there (CarriedRun), proved: `carry_own_plain` carries the reading of the calls in
-- force, its marks are right, and `marked_run` of the new file begins with the calls that were made on the old one.
--     carry_right              with right marks a carry is that without marks
--     calls_only               operations that are calls alone: all are in force
--     carried_marked_run       the claim
-- Assumes nothing.
use Rattle.std.specs.Prelude.{◌≡◌, refl, true, List, [], ◌∷◌, ◌++◌, map, ℕ, ◌≤◌, leb, length}
use Rattle.std.proofs.Common.{sym, ap, ◌∙◌, subst, append-nil, append_assoc, le-leb}
use Rattle.std.proofs.lemmas.Bool.{and_from}
use Rattle.format.specs.Limits.{max_path}
use Rattle.format.specs.Paths.{Fst, fst_of, Held}
use Rattle.format.specs.Admitted.{Admitted}
use Rattle.format.specs.Strings.{Bound}
use Rattle.reading.specs.Reading.{bound_bytes}
use Rattle.reading.specs.Demand.{Call}
use Rattle.plain.specs.Numbers.{TableFits}
use Rattle.plain.specs.Plain.{Plain, Begun, begun, start_plain, plain_after}
use Rattle.plain.proofs.PlainLaws.{start_numbered}
use Rattle.converting.specs.Converting.{converted}
use Rattle.carrying.specs.Carry.{CarriedPlain, with_keys, carry_plain}
use Rattle.carrying_own.specs.CarryOwn.{SameCalls, Convertible}
use Rattle.carrying_own.specs.CarryOwnLaws.{new_admitted, same_contents, held_old}
use Rattle.carrying_own.specs.CarryPlainLaws.{carry_own_plain}
use Rattle.marking.specs.MarkCalls.{Named, Mark, each_right, marks_test}
use Rattle.marking.specs.MarksDemand.{Did, reads, now_from, history_is, recorded_all, history_of}
use Rattle.marking.proofs.MarksLaws.{r₀, kept, marked_run}
use Rattle.marks_carry.specs.MarksCarry.{carry_marked}
use Rattle.marks_carry.specs.MarksCarryLaws.{marked_carries}
use Rattle.marks_carry.specs.CarriedRun.{CarriedMarkedRun}

pub carry_right : (old new : List ℕ) (p : Plain) (ms : List Mark) → marks_test (length old) ms ≡ true → carry_marked old new p ms ≡ carry_plain old new p
carry_right old new p ms right = ap (with_keys p.keys) (marked_carries true old new p.view ms right)

calls_from : {s : List ℕ} (cs ds : List (Call s)) (ns : List (Named (List (Call s)))) → (recorded_all (history_is cs ns) (map reads ds)).calls ≡ cs ++ ds
calls_from cs [] ns = sym (append-nil cs)
calls_from cs (d ∷ ds) ns = calls_from (cs ++ (d ∷ [])) ds ns ∙ append_assoc cs (d ∷ []) ds

pub calls_only : {s : List ℕ} (ds : List (Call s)) → (history_of [] (map reads ds)).calls ≡ ds
calls_only ds = calls_from [] ds []

begun_same : {b : Begun} {p q : Plain} → b ≡ begun p → b ≡ begun q → p ≡ q
begun_same is also = cc

module _ {s : List ℕ} (A : Admitted s) (can : Convertible A) (lo hi : Bound) (short_lo : length (bound_bytes lo) ≤ max_path) (short_hi : length (bound_bytes hi) ≤ max_path)
    (counts counts' : List ℕ) (long : length s ≤ length counts) (long' : length (converted A) ≤ length counts')
    (fits : TableFits (fst_of s A.meta) lo hi counts) (fits' : TableFits (fst_of (converted A) (new_admitted A can).meta) lo hi counts') where
  old_right : (first : Plain) → start_plain s lo hi counts ≡ begun first → (bs : List (Did s)) → marks_test (length s) (now_from first [] bs).marks ≡ true
  old_right first starts bs =
      let k = kept A lo hi short_lo short_hi counts long fits [] bs in
      let r = r₀ A lo hi short_lo short_hi counts long fits in
      let given = start_numbered A lo hi short_lo short_hi counts long fits in
      let is : r ≡ first = cc in
      let few = le-leb (length (now_from r [] bs).marks) 16 k.few in
      subst (λ (p : Plain). marks_test (length s) (now_from p [] bs).marks ≡ true) is
      (and_from (leb (length (now_from r [] bs).marks) 16) (each_right (length s) (now_from r [] bs).marks) few k.right)

  pub carried_marked_run : (bs : List (Did s)) (cs' : List (Call (converted A))) → SameCalls (history_of [] bs).calls cs' → (ds : List (Did (converted A)))
      → CarriedMarkedRun A can lo hi counts counts' bs cs' ds
  carried_marked_run bs cs' same ds =
      let old = marked_run A lo hi short_lo short_hi counts long fits [] bs in
      let new = marked_run (new_admitted A can) lo hi short_lo short_hi counts' long' fits' cs' ds in
      let own = carry_own_plain A can lo hi short_lo short_hi counts counts' long long' fits fits' (history_of [] bs).calls cs' same in
      let old_is : old.first ≡ own.reading = begun_same old.starts own.starts in
      let new_is : own.new_reading ≡ new.first = begun_same own.new_starts new.starts in
      let w = now_from old.first [] bs in
      record {
        before = old;
        after = new;
        carries =
            carry_right s (converted A) w.reading w.marks (old_right old.first old.starts bs)
            ∙ ap (carry_plain s (converted A)) (old.reading_is ∙ ap (λ (p : Plain). plain_after p (history_of [] bs).calls) old_is) ∙ own.carries
            ∙ ap (λ (p : Plain). CarriedPlain.carried (plain_after p cs')) new_is;
        no_marks_lem = refl;
        limit = λ ds₁ ds₂ c is n longest.
            new.limit ds₁ ds₂ c is n
            (λ k v h. longest k v (held_old A can k v (subst (λ (f : Fst). Held f k v) (sym (same_contents A can).file) h)));
      }
