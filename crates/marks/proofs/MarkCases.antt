-- The calls by cases, as the code goes through them.
--     state_is_lem                                         whether a reading is right
--     name_short                                           a name has at most 8 bytes
--     set_no, set_told, set_full, set_more                 a mark, where they are
--     back_no, back_told, back_nowhere                     going back, where they are
--     mark_refused, mark_set, back_refused, back_taken     the calls by what is judged first
--     next_refused, next_goes                              a next by what is judged first
-- Assumes nothing.
use mathlib.Core.Path.{◌≡◌, refl, sym, ap, ◌∙◌, subst}
use mathlib.Core.Bool.{true, false}
use mathlib.Core.Option.{some, none}
use mathlib.Core.List.{List, [], ◌∷◌, ◌++◌, map}
use Prim.Native.Nat.{ℕ, ◌+◌, ◌≤◌, ◌<◌}
use native.Mathlib.Omega.{arith}
use borrow.Author.Tests.{lt-leb, le-leb, leb-true}
use lib.Dec.{leb}
use lib.ListN.{length, get_or, set}
use Rattle.std.specs.Prelude.{Some, None, Ok, Err, Result, ⊤}
use Rattle.std.proofs.lemmas.Bool.{and_parts}
use Rattle.format.specs.declared.Refusal.{Refusal}
use Rattle.format.specs.Limits.{NAME, FULL}
use Rattle.reading.specs.Reading.{state_test}
use Rattle.plain.specs.Plain as P
use Rattle.plain.specs.Plain.{next_plain}
use Rattle.marking.specs.MarkCalls as M
use Rattle.marking.specs.MarkCalls.{named, name_test, is_there, marked, marks_test, refuse_with}
use Rattle.marking.proofs.NamedLaws.{put_added}
use Rattle.stream_start.specs.declared.Reading.{Reading}
use Rattle.stream_start.specs.Views.{view_is}
use Rattle.stream_start.specs.StackLaws.{stack_length}
use Rattle.stream_bounds.specs.State.{state_right}
use Rattle.stream.specs.declared.Plain.{Plain}
use Rattle.stream_step.specs.declared.Step.{Step}
use Rattle.stream.specs.Plains.{plain_is, PlainStepped}
use Rattle.marks_held.specs.declared.Mark.{Mark}
use Rattle.marks_held.specs.declared.Marks.{Marks}
use Rattle.marks_held.specs.MarkViews.{stated, no_mark, mark_is, marks_is, SeekTold, put_at}
use Rattle.marks_held.specs.MarkViewsLaws.{stated_length, stated_set, stated_more, mark_at_lem, marked_place, put_place, place_lt, marked_nowhere}
use Rattle.marks.specs.MarkAnswers.{judging, judging_marks, on_judged_marks, on_judged_mark, on_judged_back, set_in, back_in, marking_is, return_is}
use Rattle.marks.specs.MarkAnswersLaws.{judged_marks, judged_mark, judged_back}

-- ---- whether a reading is right

pub state_is_lem : (r : Reading) (len : ℕ) → state_test (view_is r) len ≡ state_right r.levels r.bound_len r.len len
state_is_lem r len = rw (stack_length r.levels r.stack.addrs r.stack.inps r.stack.trans r.stack.outs)

pub name_short : (n : List ℕ) → name_test n ≡ true → length n ≤ 8
name_short n e = leb-true (length n) 8 (and_parts (leb 1 (length n)) (leb (length n) 8) e).1

-- a place that was found is one of the 16
pub place_small : (m : Marks) → m.count ≤ 16 → (n : List ℕ) (i : ℕ) → SeekTold n (marks_is m) 0 (Some i) → i < 16
place_small m few n i t = omega (arith, place_lt n (marks_is m) 0 i t, stated_length m.count no_mark (map mark_is m.marks))

-- ---- a mark

module _ (p : P.Plain) (ms : List M.Mark) (n : List ℕ) where
  pub set_no : name_test n ≡ false → marking_is (Err NAME) ≡ set_in p ms n
  set_no e = rw e

  module _ (e : name_test n ≡ true) where
    set_at : (i : ℕ) → SeekTold n ms 0 (Some i) → set_in p ms n ≡ M.has_marks (set ms i (named n p))
    set_at i t =
        let there : is_there (marked n ms) ≡ true = ap is_there (marked_place n ms i t) in
        rw (e, there, put_place n ms p i t)

    off : SeekTold n ms 0 None → is_there (marked n ms) ≡ false
    off t = ap is_there (marked_nowhere n ms 0 t)

    set_none_left : SeekTold n ms 0 None → 16 ≤ length ms → set_in p ms n ≡ M.Marking.refused FULL
    set_none_left t h = rw (e, off t, lt-leb (length ms) 15 (omega arith))

    set_added : SeekTold n ms 0 None → length ms < 16 → set_in p ms n ≡ M.has_marks (ms ++ (named n p ∷ []))
    set_added t h = rw (e, off t, le-leb (length ms) 15 (omega arith), put_added n p ms (off t))

-- of the code's marks
module _ (m : Marks) (sixteen : length m.marks ≡ 16) (few : m.count ≤ 16) (p : Plain) (n held : List ℕ) (holds : stated (length n) 0 held ≡ n) where
  abbrev placed : Mark
  placed = record { name_len = length n; name = held; reading = p }

  placed_is : mark_is placed ≡ named n (plain_is p)
  placed_is = ap (λ (l : List ℕ). named l (plain_is p)) holds

  long : length (marks_is m) ≡ m.count
  long = stated_length m.count no_mark (map mark_is m.marks)

  module _ (named_right : name_test n ≡ true) where
    pub set_told : (i : ℕ) → SeekTold n (marks_is m) 0 (Some i) → (r : Marks) → r ≡ put_at m m.count i placed
        → marking_is (Ok r) ≡ set_in (plain_is p) (marks_is m) n
    set_told i t r is =
        let lt = place_lt n (marks_is m) 0 i t in
        ap M.has_marks
        (ap marks_is is ∙ stated_set m.count m.marks i placed (omega (arith, long)) (omega arith) ∙ ap (set (marks_is m) i) placed_is)
        ∙ sym (set_at (plain_is p) (marks_is m) n named_right i t)

    pub set_full : SeekTold n (marks_is m) 0 None → 16 ≤ m.count → marking_is (Err FULL) ≡ set_in (plain_is p) (marks_is m) n
    set_full t h = sym (set_none_left (plain_is p) (marks_is m) n named_right t (omega (arith, long)))

    pub set_more : SeekTold n (marks_is m) 0 None → m.count < 16 → (r : Marks) → r ≡ put_at m (m.count + 1) m.count placed
        → marking_is (Ok r) ≡ set_in (plain_is p) (marks_is m) n
    set_more t h r is =
        ap M.has_marks
        (ap marks_is is ∙ stated_more m.count m.marks placed (omega arith) ∙ ap (λ (x : M.Mark). marks_is m ++ (x ∷ [])) placed_is)
        ∙ sym (set_added (plain_is p) (marks_is m) n named_right t (omega (arith, long)))

-- ---- going back

pub back_no : (ms : List M.Mark) (n : List ℕ) → name_test n ≡ false → return_is (Err NAME) ≡ back_in ms n
back_no ms n e = rw e

module _ (m : Marks) (sixteen : length m.marks ≡ 16) (few : m.count ≤ 16) (n : List ℕ) (named_right : name_test n ≡ true) where
  pub back_nowhere : SeekTold n (marks_is m) 0 None → return_is (Err NAME) ≡ back_in (marks_is m) n
  back_nowhere t =
      let none_there : marked n (marks_is m) ≡ none = marked_nowhere n (marks_is m) 0 t in
      rw (named_right, none_there)

  pub back_told : (i : ℕ) (d : Mark) → SeekTold n (marks_is m) 0 (Some i) → return_is (Ok (get_or m.marks i d).reading) ≡ back_in (marks_is m) n
  back_told i d t =
      let lt : i < m.count = omega (arith, place_lt n (marks_is m) 0 i t, stated_length m.count no_mark (map mark_is m.marks)) in
      let held_there : marked n (marks_is m) ≡ some (plain_is (get_or m.marks i d).reading) =
      marked_place n (marks_is m) i t ∙ ap (λ (x : M.Mark). some x.held) (mark_at_lem m sixteen few i d lt) in
      rw (named_right, held_there)

-- ---- the calls

module _ (s : List ℕ) (p : P.Plain) (ms : List M.Mark) (n : List ℕ) where
  mark_is_judged : on_judged_mark (judging s p ms) (set_in p ms n) ≡ M.mark s p ms n
  unfolding M.mark
  mark_is_judged = judged_mark s p ms (set_in p ms n)

  pub mark_refused : (c : Refusal) → Err c ≡ judging s p ms → marking_is (Err c) ≡ M.mark s p ms n
  mark_refused c e = ap (λ (j : Result ⊤ Refusal). on_judged_mark j (set_in p ms n)) e ∙ mark_is_judged

  pub mark_set : Ok tt ≡ judging s p ms → set_in p ms n ≡ M.mark s p ms n
  mark_set e = ap (λ (j : Result ⊤ Refusal). on_judged_mark j (set_in p ms n)) e ∙ mark_is_judged

  back_is_judged : on_judged_back (judging s p ms) (back_in ms n) ≡ M.back s p ms n
  unfolding M.back
  back_is_judged = judged_back s p ms (back_in ms n)

  pub back_refused : (c : Refusal) → Err c ≡ judging s p ms → return_is (Err c) ≡ M.back s p ms n
  back_refused c e = ap (λ (j : Result ⊤ Refusal). on_judged_back j (back_in ms n)) e ∙ back_is_judged

  pub back_taken : Ok tt ≡ judging s p ms → back_in ms n ≡ M.back s p ms n
  back_taken e = ap (λ (j : Result ⊤ Refusal). on_judged_back j (back_in ms n)) e ∙ back_is_judged

module _ (s : List ℕ) (p : Plain) (ms : List M.Mark) (space : ℕ) where
  next_is_judged : on_judged_marks (judging_marks s ms) (next_plain s (plain_is p) space) (λ n. refuse_with (plain_is p) n) ≡ M.next_marked s (plain_is p) ms space
  unfolding M.next_marked
  next_is_judged = judged_marks s ms (next_plain s (plain_is p) space) (λ n. refuse_with (plain_is p) n)

  next_as : (j : Result ⊤ Refusal) → j ≡ judging_marks s ms → {buf₀ buf : List ℕ} {x : Step Plain}
      → PlainStepped (on_judged_marks j (next_plain s (plain_is p) space) (λ n. refuse_with (plain_is p) n)) buf₀ buf x → PlainStepped (M.next_marked s (plain_is p) ms space) buf₀ buf x
  next_as j e {buf₀} {buf} {x} h =
      subst (λ (w : P.PlainStep). PlainStepped w buf₀ buf x)
      (ap (λ (k : Result ⊤ Refusal). on_judged_marks k (next_plain s (plain_is p) space) (λ n. refuse_with (plain_is p) n)) e ∙ next_is_judged) h

  pub next_refused : (n : Refusal) → Err n ≡ judging_marks s ms → (buf : List ℕ) (x : Step Plain) → (x.answer ≡ Err n) × (x.reading ≡ p)
      → PlainStepped (M.next_marked s (plain_is p) ms space) buf buf x
  next_refused n e buf x h = next_as (Err n) e (record { gave = record { answer = h.0; plain = ap plain_is h.1 }; buffer = refl })

  pub next_goes : Ok tt ≡ judging_marks s ms → {buf₀ buf : List ℕ} {x : Step Plain} → PlainStepped (next_plain s (plain_is p) space) buf₀ buf x
      → PlainStepped (M.next_marked s (plain_is p) ms space) buf₀ buf x
  next_goes e h = next_as (Ok tt) e h
