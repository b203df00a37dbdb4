-- Demand 3 by pattern with marks (document 02, N10 with N1). `MarkedRunBy A q lo hi cs ds` is the claim about an admitted file, a pattern, two bounds, a
-- list of calls before there are marks and a list of operations; MarksByLaws proves it (`marked_run_by`) for every pattern of at most 255 positions, every
-- two bounds of at most 255 bytes, and every two lists. Operations, calls in force and what a mark answers are those of plain readings (marking
-- `MarksDemand`). It differs from `MarkedRun` in these:
--     a start takes a pattern, and no table                 `starts`
--     the limit on a call is for plain readings only        no `limit`
--     a reading by pattern holds no number of keys          no `keys_to_come`; a mark's number is 0 and carries no meaning (`as_mark_by`)
--     the pattern is the reading's own                      it is the same before and after every operation
-- Assumes nothing.
use Rattle.std.specs.Prelude.{◌≡◌, true, false, List, [], ◌∷◌, ◌++◌, map, ℕ, length}
use Rattle.std.proofs.Math.Option.{none, some}
use Rattle.format.specs.declared.Refusal.{Refusal}
use Rattle.format.specs.Limits.{NAME}
use Rattle.format.specs.Admitted.{Admitted}
use Rattle.format.specs.Strings.{Bound}
use Rattle.reading.specs.Reading.{View, started, Answer, Step, refuse}
use Rattle.reading.specs.Demand.{Call, Allowed}
use Rattle.plain.specs.Plain.{Plain, plain_with}
use Rattle.pattern.specs.Pattern.{Pattern, start_by}
use Rattle.pattern.specs.PatternDemand.{call_by, reading_after_by, DemandBy}
use Rattle.marking.specs.MarkCalls.{name_test, Named, named, marked, Mark, Marking, has_marks, Return, at}
use Rattle.marking.specs.MarksDemand.{Given, Did, reads, marks, returns, Now, now_is, marks_after, History, history_of, MarkTold, Replaced}
use Rattle.marks_by.specs.MarksBy.{mark_by, back_by, next_marked_by}

-- ---- what the calls do

pub record NowBy : Type 0 where
  pub reading : View
  pub marks : List Mark

abbrev pub now_by_is : View → List Mark → NowBy
now_by_is v ms = record { reading = v; marks = ms }

-- as a mark holds it
abbrev pub stored : View → Plain
stored v = plain_with v 0

abbrev pub stored_now : NowBy → Now
stored_now w = now_is (stored w.reading) w.marks

abbrev pub next_now_by : {s : List ℕ} → Pattern → NowBy → Call s → Step
next_now_by q w c = next_marked_by c.file q w.reading w.marks c.space

abbrev pub mark_now_by : {s : List ℕ} → Pattern → NowBy → Given s → List ℕ → Marking
mark_now_by q w g n = mark_by g.file q w.reading w.marks n

abbrev pub back_now_by : {s : List ℕ} → Pattern → NowBy → Given s → List ℕ → Return
back_now_by q w g n = back_by g.file q (stored w.reading) w.marks n

-- the reading after a return
abbrev pub view_at : View → Return → View
view_at v (at p) = p.view
view_at v (Return.refused c) = v

abbrev pub one_more_by : {s : List ℕ} → Pattern → NowBy → Did s → NowBy
one_more_by q w (reads c) = now_by_is (next_now_by q w c).reading w.marks
one_more_by q w (marks g n) = now_by_is w.reading (marks_after w.marks (mark_now_by q w g n))
one_more_by q w (returns g n) = now_by_is (view_at w.reading (back_now_by q w g n)) w.marks

abbrev pub now_after_by : {s : List ℕ} → Pattern → NowBy → List (Did s) → NowBy
now_after_by q w [] = w
now_after_by q w (d ∷ ds) = now_after_by q (one_more_by q w d) ds

-- from a start, the calls cs and no marks
abbrev pub now_from_by : {s : List ℕ} → Pattern → View → List (Call s) → List (Did s) → NowBy
now_from_by q r cs ds = now_after_by q (now_by_is (reading_after_by q r cs) []) ds

-- ---- the claim

-- the reading of the calls in force when it was set
abbrev pub as_mark_by : {s : List ℕ} → Pattern → View → Named (List (Call s)) → Mark
as_mark_by q r m = named m.name (stored (reading_after_by q r m.held))

-- what a return answers with the history h, from the start r
pub data BackToldBy {s : List ℕ} (q : Pattern) (r : View) (h : History s) (g : Given s) (n : List ℕ) : Return → Type 0 where
  returned : length g.file ≡ length s → name_test n ≡ true → (cs : List (Call s)) → marked n h.noted ≡ some cs
      → BackToldBy q r h g n (at (stored (reading_after_by q r cs)))
  other_file : ¬ (length g.file ≡ length s) → (c : Refusal) → BackToldBy q r h g n (Return.refused c)
  no_name : length g.file ≡ length s → name_test n ≡ false → BackToldBy q r h g n (Return.refused NAME)
  not_marked : length g.file ≡ length s → name_test n ≡ true → marked n h.noted ≡ none → BackToldBy q r h g n (Return.refused NAME)

pub record MarkedRunBy {s : List ℕ} (A : Admitted s) (q : Pattern) (lo hi : Bound) (cs : List (Call s)) (ds : List (Did s)) : Type 0 where
  -- the start is not refused
  pub first : View
  pub starts : start_by s q lo hi ≡ started first
  -- after the list: the reading is that of the calls in force, and each mark holds that of the calls in force when it was last set
  pub reading_is : (now_from_by q first cs ds).reading ≡ reading_after_by q first (history_of cs ds).calls
  pub marks_are : (now_from_by q first cs ds).marks ≡ map (as_mark_by q first) (history_of cs ds).noted
  -- demand 3 by pattern of the calls in force
  pub demand : DemandBy A q lo hi (history_of cs ds).calls
  pub demand_first : demand.reading ≡ first
  -- each next answers as the call after the calls in force
  pub nexts : (ds₁ ds₂ : List (Did s)) (c : Call s) → ds ≡ ds₁ ++ (reads c ∷ ds₂)
      → next_now_by q (now_from_by q first cs ds₁) c ≡ call_by q (reading_after_by q first (history_of cs ds₁).calls) c
  -- what is refused, exactly
  pub next_refused : (ds₁ ds₂ : List (Did s)) (c : Call s) → ds ≡ ds₁ ++ (reads c ∷ ds₂)
      → (Allowed c → (n : Refusal) → ¬ ((next_now_by q (now_from_by q first cs ds₁) c).answer ≡ Answer.refused n))
      × (¬ Allowed c → (n : Refusal) × (next_now_by q (now_from_by q first cs ds₁) c ≡ refuse (now_from_by q first cs ds₁).reading n))
  pub mark_told : (ds₁ ds₂ : List (Did s)) (g : Given s) (n : List ℕ) → ds ≡ ds₁ ++ (marks g n ∷ ds₂)
      → MarkTold (history_of cs ds₁) g n (stored_now (now_from_by q first cs ds₁)) (mark_now_by q (now_from_by q first cs ds₁) g n)
  pub back_told : (ds₁ ds₂ : List (Did s)) (g : Given s) (n : List ℕ) → ds ≡ ds₁ ++ (returns g n ∷ ds₂)
      → BackToldBy q first (history_of cs ds₁) g n (back_now_by q (now_from_by q first cs ds₁) g n)
  -- a return changes no mark, and neither does a next; a mark that is set changes the one of its name only, and no mark changes the reading
  pub survive : (ds₁ ds₂ : List (Did s)) (g : Given s) (n : List ℕ) → ds ≡ ds₁ ++ (returns g n ∷ ds₂)
      → (now_from_by q first cs (ds₁ ++ (returns g n ∷ []))).marks ≡ (now_from_by q first cs ds₁).marks
  pub next_keeps : (ds₁ ds₂ : List (Did s)) (c : Call s) → ds ≡ ds₁ ++ (reads c ∷ ds₂)
      → (now_from_by q first cs (ds₁ ++ (reads c ∷ []))).marks ≡ (now_from_by q first cs ds₁).marks
  pub replaced : (ds₁ ds₂ : List (Did s)) (g : Given s) (n : List ℕ) → ds ≡ ds₁ ++ (marks g n ∷ ds₂) → (ms : List Mark)
      → mark_now_by q (now_from_by q first cs ds₁) g n ≡ has_marks ms
      → Replaced n (stored (now_from_by q first cs ds₁).reading) (now_from_by q first cs ds₁).marks ms
  pub mark_keeps : (ds₁ ds₂ : List (Did s)) (g : Given s) (n : List ℕ) → ds ≡ ds₁ ++ (marks g n ∷ ds₂)
      → (now_from_by q first cs (ds₁ ++ (marks g n ∷ []))).reading ≡ (now_from_by q first cs ds₁).reading
