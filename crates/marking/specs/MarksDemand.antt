-- Demand 3 with marks (document 02, N10). `MarkedRun A lo hi t cs ds` is the claim about an admitted file, two bounds, a table, a list of
-- calls before there are marks and a list of operations; MarksLaws proves it (`marked_run`) for every two bounds of at most 255 bytes, every table that
-- fits (`TableFits`), and every two lists.
--     Given, Did           the file that a mark or a return is handed; an operation
--     Now, now_after        the reading and the marks after a list of operations, by the calls' definitions
--     now_from              the same from a start, some calls and no marks
--     History, history_of   the calls in force after the list, and for each name those in force when it was last marked; no reading in it
-- Each next appends its call, refused or not, as in Demand3. A return takes the calls in force when its name was last marked, and the rest is
-- forgotten. A mark or a return that is refused changes nothing.
-- Assumes nothing.
use Rattle.std.specs.Prelude.{◌≡◌, Bool, true, false, cond, ◌&&◌, ◌⊎◌, List, [], ◌∷◌, ◌++◌, map, ℕ, ◌≤◌, eqb, length}
use Rattle.std.proofs.Math.Option.{Option, none, some}
use Rattle.format.specs.declared.Refusal.{Refusal}
use Rattle.format.specs.Limits.{NAME, FULL}
use Rattle.format.specs.Paths.{fst_of, Held}
use Rattle.format.specs.Admitted.{Admitted}
use Rattle.format.specs.Strings.{Bound, NumberOf}
use Rattle.reading.specs.Reading.{Answer}
use Rattle.reading.specs.Demand.{Call, Allowed, followed, handed_in}
use Rattle.plain.specs.Plain.{Plain, begun, start_plain, PlainStep, call_plain, plain_after, answers_plain}
use Rattle.plain.specs.PlainDemand.{keys_out, StillToCome, DemandPlain}
use Rattle.marking.specs.MarkCalls.{name_test, Named, named, marked, is_there, put, room_for, Mark, Marking, has_marks, mark, Return, at, back, refuse_with, next_marked}

-- ---- operations

-- as each next: the file, or one of another length
pub record Given (s : List ℕ) : Type 0 where
  pub file : List ℕ
  pub which : (file ≡ s) ⊎ (¬ (length file ≡ length s))

pub data Did (s : List ℕ) : Type 0 where
  reads : Call s → Did s
  marks : Given s → List ℕ → Did s
  returns : Given s → List ℕ → Did s

-- ---- what the calls do

pub record Now : Type 0 where
  pub reading : Plain
  pub marks : List Mark

abbrev pub now_is : Plain → List Mark → Now
now_is r ms = record { reading = r; marks = ms }

abbrev pub marks_after : List Mark → Marking → List Mark
marks_after ms (has_marks ms') = ms'
marks_after ms (Marking.refused c) = ms

abbrev pub reading_at : Plain → Return → Plain
reading_at r (at r') = r'
reading_at r (Return.refused c) = r

abbrev pub next_now : {s : List ℕ} → Now → Call s → PlainStep
next_now w c = next_marked c.file w.reading w.marks c.space

abbrev pub mark_now : {s : List ℕ} → Now → Given s → List ℕ → Marking
mark_now w g n = mark g.file w.reading w.marks n

abbrev pub back_now : {s : List ℕ} → Now → Given s → List ℕ → Return
back_now w g n = back g.file w.reading w.marks n

abbrev pub one_more : {s : List ℕ} → Now → Did s → Now
one_more w (reads c) = now_is (next_now w c).reading w.marks
one_more w (marks g n) = now_is w.reading (marks_after w.marks (mark_now w g n))
one_more w (returns g n) = now_is (reading_at w.reading (back_now w g n)) w.marks

abbrev pub now_after : {s : List ℕ} → Now → List (Did s) → Now
now_after w [] = w
now_after w (d ∷ ds) = now_after (one_more w d) ds

-- ---- the calls in force

pub record History (s : List ℕ) : Type 0 where
  pub calls : List (Call s)
  pub noted : List (Named (List (Call s)))

abbrev pub history_is : {s : List ℕ} → List (Call s) → List (Named (List (Call s))) → History s
history_is cs ns = record { calls = cs; noted = ns }

-- the file, a name of 1 to 8 bytes, and a name held or room for it
abbrev pub takes : {s : List ℕ} → History s → Given s → List ℕ → Bool
takes {s} h g n = eqb (length g.file) (length s) && (name_test n && room_for n h.noted)

abbrev pub or_else : {s : List ℕ} → List (Call s) → Option (List (Call s)) → List (Call s)
or_else cs (some cs') = cs'
or_else cs none = cs

abbrev pub recorded : {s : List ℕ} → History s → Did s → History s
recorded h (reads c) = history_is (h.calls ++ (c ∷ [])) h.noted
recorded h (marks g n) = history_is h.calls (cond (takes h g n) (put n h.calls h.noted) h.noted)
recorded {s} h (returns g n) =
    history_is (cond (eqb (length g.file) (length s) && name_test n) (or_else h.calls (marked n h.noted)) h.calls) h.noted

abbrev pub recorded_all : {s : List ℕ} → History s → List (Did s) → History s
recorded_all h [] = h
recorded_all h (d ∷ ds) = recorded_all (recorded h d) ds

-- from a start, the calls cs and no marks: cs is empty, or what a carried reading had behind it
abbrev pub history_of : {s : List ℕ} → List (Call s) → List (Did s) → History s
history_of cs ds = recorded_all (history_is cs []) ds

abbrev pub now_from : {s : List ℕ} → Plain → List (Call s) → List (Did s) → Now
now_from r cs ds = now_after (now_is (plain_after r cs) []) ds

-- ---- the claim

-- the reading of the calls in force when it was set
abbrev pub as_mark : {s : List ℕ} → Plain → Named (List (Call s)) → Mark
as_mark r m = named m.name (plain_after r m.held)

-- what a mark answers with the history h, from the start r: each way with its reason, so that it is refused exactly for these
pub data MarkTold {s : List ℕ} (h : History s) (g : Given s) (n : List ℕ) (w : Now) : Marking → Type 0 where
  taken : length g.file ≡ length s → name_test n ≡ true → room_for n h.noted ≡ true → MarkTold h g n w (has_marks (put n w.reading w.marks))
  other_file : ¬ (length g.file ≡ length s) → (c : Refusal) → MarkTold h g n w (Marking.refused c)
  no_name : length g.file ≡ length s → name_test n ≡ false → MarkTold h g n w (Marking.refused NAME)
  full : length g.file ≡ length s → name_test n ≡ true → room_for n h.noted ≡ false → MarkTold h g n w (Marking.refused FULL)

-- and a return
pub data BackTold {s : List ℕ} (r : Plain) (h : History s) (g : Given s) (n : List ℕ) : Return → Type 0 where
  returned : length g.file ≡ length s → name_test n ≡ true → (cs : List (Call s)) → marked n h.noted ≡ some cs → BackTold r h g n (at (plain_after r cs))
  other_file : ¬ (length g.file ≡ length s) → (c : Refusal) → BackTold r h g n (Return.refused c)
  no_name : length g.file ≡ length s → name_test n ≡ false → BackTold r h g n (Return.refused NAME)
  not_marked : length g.file ≡ length s → name_test n ≡ true → marked n h.noted ≡ none → BackTold r h g n (Return.refused NAME)

-- the marks afterwards, when the name n is marked at r: under n stands r, under each other name what stood there; a name that is held keeps
-- its place, and so do all others; a new name comes last
pub record Replaced (n : List ℕ) (r : Plain) (ms after : List Mark) : Type 0 where
  pub this : marked n after ≡ some r
  pub others : (k : List ℕ) → ¬ (k ≡ n) → marked k after ≡ marked k ms
  pub in_place : is_there (marked n ms) ≡ true → map (λ (m : Mark). m.name) after ≡ map (λ (m : Mark). m.name) ms
  pub added : is_there (marked n ms) ≡ false → after ≡ ms ++ (named n r ∷ [])

pub record MarkedRun {s : List ℕ} (A : Admitted s) (lo hi : Bound) (t : List ℕ) (cs : List (Call s)) (ds : List (Did s)) : Type 0 where
  -- the start is not refused
  pub first : Plain
  pub starts : start_plain s lo hi t ≡ begun first
  -- after the list: the reading is that of the calls in force, and each mark holds that of the calls in force when it was last set
  pub reading_is : (now_from first cs ds).reading ≡ plain_after first (history_of cs ds).calls
  pub marks_are : (now_from first cs ds).marks ≡ map (as_mark first) (history_of cs ds).noted
  -- demand 3 of the calls in force
  pub demand : DemandPlain A lo hi t (history_of cs ds).calls
  pub demand_first : demand.reading ≡ first
  -- the number of keys to come is true after every operation
  pub keys_to_come : NumberOf (StillToCome (fst_of s A.meta) lo hi (keys_out (handed_in (answers_plain first (history_of cs ds).calls))))
      (now_from first cs ds).reading.keys
  -- each next answers as the call after the calls in force, and follows no more transitions than the longest held key has bytes
  pub nexts : (ds₁ ds₂ : List (Did s)) (c : Call s) → ds ≡ ds₁ ++ (reads c ∷ ds₂)
      → next_now (now_from first cs ds₁) c ≡ call_plain (plain_after first (history_of cs ds₁).calls) c
  pub limit : (ds₁ ds₂ : List (Did s)) (c : Call s) → ds ≡ ds₁ ++ (reads c ∷ ds₂) → (n : ℕ)
      → ((k : List ℕ) (v : ℕ) → Held (fst_of s A.meta) k v → length k ≤ n) → followed (now_from first cs ds₁).reading.view c ≤ n
  -- what is refused, exactly
  pub next_refused : (ds₁ ds₂ : List (Did s)) (c : Call s) → ds ≡ ds₁ ++ (reads c ∷ ds₂)
      → (Allowed c → (n : Refusal) → ¬ ((next_now (now_from first cs ds₁) c).answer ≡ Answer.refused n))
      × (¬ Allowed c → (n : Refusal) × (next_now (now_from first cs ds₁) c ≡ refuse_with (now_from first cs ds₁).reading n))
  pub mark_told : (ds₁ ds₂ : List (Did s)) (g : Given s) (n : List ℕ) → ds ≡ ds₁ ++ (marks g n ∷ ds₂)
      → MarkTold (history_of cs ds₁) g n (now_from first cs ds₁) (mark_now (now_from first cs ds₁) g n)
  pub back_told : (ds₁ ds₂ : List (Did s)) (g : Given s) (n : List ℕ) → ds ≡ ds₁ ++ (returns g n ∷ ds₂)
      → BackTold first (history_of cs ds₁) g n (back_now (now_from first cs ds₁) g n)
  -- a return changes no mark, and neither does a next; a mark that is set changes the one of its name only, and no mark changes the reading
  pub survive : (ds₁ ds₂ : List (Did s)) (g : Given s) (n : List ℕ) → ds ≡ ds₁ ++ (returns g n ∷ ds₂)
      → (now_from first cs (ds₁ ++ (returns g n ∷ []))).marks ≡ (now_from first cs ds₁).marks
  pub next_keeps : (ds₁ ds₂ : List (Did s)) (c : Call s) → ds ≡ ds₁ ++ (reads c ∷ ds₂)
      → (now_from first cs (ds₁ ++ (reads c ∷ []))).marks ≡ (now_from first cs ds₁).marks
  pub replaced : (ds₁ ds₂ : List (Did s)) (g : Given s) (n : List ℕ) → ds ≡ ds₁ ++ (marks g n ∷ ds₂) → (ms : List Mark)
      → mark_now (now_from first cs ds₁) g n ≡ has_marks ms
      → Replaced n (now_from first cs ds₁).reading (now_from first cs ds₁).marks ms
  pub mark_keeps : (ds₁ ds₂ : List (Did s)) (g : Given s) (n : List ℕ) → ds ≡ ds₁ ++ (marks g n ∷ ds₂)
      → (now_from first cs (ds₁ ++ (marks g n ∷ []))).reading ≡ (now_from first cs ds₁).reading
