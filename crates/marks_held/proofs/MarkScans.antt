-- The loops over a name and over the marks: what is known after each turn.
--     names_differ, same_bytes                       whether two names are the same
--     name_none, name_over, name_told                    whether the name of one mark is right
--     head_test, head_state, head_name                   whether the mark is
--     name_at, long_at, state_at               what the code's marks have
--     each_on, each_wrong, each_through                 whether all are
-- Assumes nothing.
use mathlib.Core.Path.{◌≡◌, refl, sym, ap, ◌∙◌}
use mathlib.Core.Bool.{Bool, true, false, ◌&&◌, not, false≢true}
use Rattle.std.specs.Prelude.{Option}
use Rattle.std.specs.Option.{is_some}
use mathlib.Core.List.{List, [], ◌∷◌}
use Prim.Native.Nat.{ℕ, zero, suc, ◌+◌, ◌≤◌, ◌<◌}
use native.Mathlib.Omega.{arith}
use native.Mathlib.Numerals.{add-one}
use borrow.Author.Tests.{lt-leb, le-leb}
use lib.Dec.{eqb}
use lib.ListN.{length, get_or, take, drop}
use lib.Seq.{drop-cons}
use Rattle.std.specs.Cmp.Lexicographic.{pointwise}
use Rattle.reading.specs.Reading.{state_test}
use Rattle.stream_start.specs.declared.Reading.{Reading}
use Rattle.stream_start.specs.Views.{view_is}
use Rattle.stream_start.specs.StackLaws.{stack_length}
use Rattle.stream_bounds.specs.State.{state_right}
use Rattle.marking.specs.MarkCalls as M
use Rattle.marking.specs.MarkCalls.{same_name, name_test, marked, is_there, each_right, marks_test}
use Rattle.marking.proofs.NamedLaws.{same_not}
use Rattle.marks_held.specs.declared.Mark.{Mark}
use Rattle.marks_held.specs.declared.Marks.{Marks}
use Rattle.marks_held.specs.MarkViews.{stated, no_mark, mark_is, marks_is, mark_at, name_right, SeekTold, at_place, nowhere}
use Rattle.marks_held.specs.MarkViewsLaws.{stated_length, stated_take, mark_at_lem, there_place, marked_nowhere}

-- ---- two names

pub names_differ : (held name : List ℕ) (n : ℕ) → ¬ (n ≡ length name) → false ≡ same_name (stated n 0 held) name
names_differ held name n ne = sym (same_not (stated n 0 held) name (λ e. ne (sym (stated_length n 0 held) ∙ ap length e)))

pub same_bytes : (a b : List ℕ) → pointwise eqb a b ≡ same_name a b
unfolding same_name
same_bytes [] [] = refl
same_bytes [] (y ∷ b) = refl
same_bytes (x ∷ a) [] = refl
same_bytes (x ∷ a) (y ∷ b) = ap (λ (r : Bool). eqb x y && r) (same_bytes a b)

-- ---- one mark

pub state_is_lem : (r : Reading) (len : ℕ) → state_test (view_is r) len ≡ state_right r.levels r.bound_len r.len len
state_is_lem r len = rw (stack_length r.levels r.stack.addrs r.stack.inps r.stack.trans r.stack.outs)

-- its name, of n bytes
module _ (ms : List M.Mark) (i n : ℕ) (long : length (mark_at ms i).name ≡ n) where
  pub name_none : n ≡ 0 → false ≡ name_right ms i
  name_none e = let z : length (mark_at ms i).name ≡ 0 = long ∙ e in rw z

  pub name_over : 8 < n → false ≡ name_right ms i
  name_over h = rw (long, le-leb 1 n (omega arith), lt-leb n 8 h)

  -- right where no later mark is found to have it
  pub name_told : {r : Option ℕ} (b : Bool) → ¬ (n ≡ 0) → n ≤ 8 → SeekTold (mark_at ms i).name ms (i + 1) r → is_some r ≡ not b → b ≡ name_right ms i
  name_told true ne le (at_place j from lt is before) e = absurd (false≢true (sym e))
  name_told false ne le (at_place j from lt is before) e =
      let t = there_place (mark_at ms i).name ms (i + 1) j (at_place j from lt is before) in
      rw (long, le-leb 1 n (omega arith), le-leb n 8 le, t)
  name_told true ne le (nowhere off) e =
      let t = marked_nowhere (mark_at ms i).name ms (i + 1) (nowhere off) in
      rw (long, le-leb 1 n (omega arith), le-leb n 8 le, t)
  name_told false ne le (nowhere off) e = absurd (false≢true e)

-- as each_right judges its first mark
abbrev pub head_test : ℕ → List M.Mark → ℕ → Bool
head_test len ms i =
    name_test (mark_at ms i).name && (state_test (mark_at ms i).held.view len && not (is_there (marked (mark_at ms i).name (drop (i + 1) ms))))

-- its name and its reading
module _ (len : ℕ) (ms : List M.Mark) (i : ℕ) where
  off : (a : Bool) → false ≡ (a && false)
  off true = refl
  off false = refl

  pub head_state : state_test (mark_at ms i).held.view len ≡ false → false ≡ head_test len ms i
  head_state e = rw e (off (name_test (mark_at ms i).name))

  pub head_name : state_test (mark_at ms i).held.view len ≡ true → name_right ms i ≡ head_test len ms i
  head_name e = rw e

-- of the code's marks
module _ (m : Marks) (sixteen : length m.marks ≡ 16) (few : m.count ≤ 16) (i : ℕ) (d : Mark) (lt : i < m.count) where
  at_is : mark_at (marks_is m) i ≡ mark_is (get_or m.marks i d)
  at_is = mark_at_lem m sixteen few i d lt

  pub name_at : (mark_at (marks_is m) i).name ≡ stated (get_or m.marks i d).name_len 0 (get_or m.marks i d).name
  name_at = ap (λ (x : M.Mark). x.name) at_is

  pub long_at : length (mark_at (marks_is m) i).name ≡ (get_or m.marks i d).name_len
  long_at = ap length name_at ∙ stated_length (get_or m.marks i d).name_len 0 (get_or m.marks i d).name

  pub state_at : (len : ℕ) (b : Bool)
      → state_right (get_or m.marks i d).reading.reading.levels (get_or m.marks i d).reading.reading.bound_len (get_or m.marks i d).reading.reading.len len ≡ b
      → state_test (mark_at (marks_is m) i).held.view len ≡ b
  state_at len b e = ap (λ (x : M.Mark). state_test x.held.view len) at_is ∙ state_is_lem (get_or m.marks i d).reading.reading len ∙ e

-- ---- all marks

module _ (len : ℕ) (ms : List M.Mark) where
  assoc : (a b c d : Bool) → (a && (b && (c && d))) ≡ ((a && (b && c)) && d)
  assoc true true c d = refl
  assoc true false c d = refl
  assoc false b c d = refl

  each_at : (i : ℕ) → i < length ms → each_right len (drop i ms) ≡ (head_test len ms i && each_right len (drop (i + 1) ms))
  unfolding each_right
  each_at i h =
      rw (add-one, drop-cons ms i no_mark h)
      (assoc (name_test (mark_at ms i).name) (state_test (mark_at ms i).held.view len) (not (is_there (marked (mark_at ms i).name (drop (suc i) ms)))) (each_right len (drop (suc i) ms)))

  pub each_on : (i : ℕ) → i < length ms → true ≡ head_test len ms i → each_right len ms ≡ each_right len (drop i ms) → each_right len ms ≡ each_right len (drop (i + 1) ms)
  each_on i h t e = e ∙ each_at i h ∙ ap (λ (b : Bool). b && each_right len (drop (i + 1) ms)) (sym t)

  pub each_many : 16 < length ms → false ≡ marks_test len ms
  each_many h = rw (lt-leb (length ms) 16 h)

  pub each_wrong : (i : ℕ) → i < length ms → length ms ≤ 16 → false ≡ head_test len ms i → each_right len ms ≡ each_right len (drop i ms) → false ≡ marks_test len ms
  each_wrong i h few t e =
      let off : each_right len ms ≡ false = e ∙ each_at i h ∙ ap (λ (b : Bool). b && each_right len (drop (i + 1) ms)) (sym t) in
      rw (le-leb (length ms) 16 few, off)

  pub each_through : (i : ℕ) → length ms ≤ i → length ms ≤ 16 → each_right len ms ≡ each_right len (drop i ms) → true ≡ marks_test len ms
  unfolding each_right
  each_through i h few e =
      let past : drop i ms ≡ [] = all_dropped ms i h in
      let all : each_right len ms ≡ true = e ∙ ap (each_right len) past in
      rw (le-leb (length ms) 16 few, all)
    where
      all_dropped : (l : List M.Mark) (i : ℕ) → length l ≤ i → drop i l ≡ []
      all_dropped [] zero h = refl
      all_dropped [] (suc i) h = refl
      all_dropped (x ∷ l) zero h = absurd (omega arith)
      all_dropped (x ∷ l) (suc i) h = all_dropped l i (omega arith)
