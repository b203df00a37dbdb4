-- Rows of marks (document 02, N10) on the file D of document 01's listing, each by computation.
--     says w os      what the operations of a list answer, marks that are set and returns left out, and the total after each next
--     r              the whole reading of D, started and not yet called
-- Assumes nothing.
use Rattle.std.specs.Prelude.{◌≡◌, refl, List, [], ◌∷◌, ◌++◌, map, ℕ, zero, suc, ◌+◌, replicate}
use Rattle.std.proofs.Math.Option.{none, some}
use Rattle.format.specs.declared.Refusal.{Refusal}
use Rattle.format.specs.Limits.{SHORT, STATE, NAME, FULL}
use Rattle.format.specs.Bytes.{le, bytes_of}
use Rattle.format.specs.CommonInputs.{common_inputs_inv}
use Rattle.format.specs.Node.{head_len, input_of, ntrans_of, sizes_byte, index_len, size_of, down_from, bytes_down, numbers_down, transitions_of, node_of, sound_test, node_at, find_from}
use Rattle.format.specs.Opening.{meta_of, root_test, opening}
use Rattle.format.specs.Strings.{unbounded, before_test}
use Rattle.reading.specs.Reading.{path_of, View, Level, pop, descend, next, level_with, Answer, key, end}
use Rattle.plain.specs.Plain.{Plain, plain_with, PlainStep}
use Rattle.marking.specs.MarkCalls.{same_name, named, marked, put, Mark, each_right, Marking, has_marks, mark, Return, at, back, next_marked}
use Rattle.bench_table.specs.BenchTable.{D}

-- ---- operations, with the file D

pub data Did : Type 0 where
  go : Did
  marks : List ℕ → Did
  returns : List ℕ → Did

pub record Now : Type 0 where
  pub reading : Plain
  pub held : List Mark

abbrev pub now_is : Plain → List Mark → Now
now_is p ms = record { reading = p; held = ms }

pub data Said : Type 0 where
  keys : List ℕ → ℕ → ℕ → Said
  ends : ℕ → Said
  no : Refusal → Said

abbrev pub said_of : Answer → ℕ → Said
said_of (key k v) t = keys k v t
said_of end t = ends t
said_of (Answer.refused n) t = no n

abbrev pub step_of : Now → PlainStep
step_of w = next_marked D w.reading w.held 255

abbrev pub after_mark : List Mark → Marking → List Mark
after_mark ms (has_marks l) = l
after_mark ms (Marking.refused n) = ms

abbrev pub mark_said : Marking → List Said → List Said
mark_said (has_marks l) more = more
mark_said (Marking.refused n) more = no n ∷ more

abbrev pub after_back : Plain → Return → Plain
after_back p (at q) = q
after_back p (Return.refused n) = p

abbrev pub back_said : Return → List Said → List Said
back_said (at p) more = more
back_said (Return.refused n) more = no n ∷ more

abbrev pub one_more : Now → Did → Now
one_more w go = now_is (step_of w).reading w.held
one_more w (marks n) = now_is w.reading (after_mark w.held (mark D w.reading w.held n))
one_more w (returns n) = now_is (after_back w.reading (back D w.reading w.held n)) w.held

abbrev pub one_said : Now → Did → List Said → List Said
one_said w go more = said_of (step_of w).answer (step_of w).reading.view.total ∷ more
one_said w (marks n) more = mark_said (mark D w.reading w.held n) more
one_said w (returns n) more = back_said (back D w.reading w.held n) more

abbrev pub says : Now → List Did → List Said
says w [] = []
says w (d ∷ ds) = one_said w d (says (one_more w d) ds)

-- ---- the rows

abbrev pub view : ℕ → ℕ → List Level → View
view len bound_len levels = record { len = len; bound = unbounded; bound_len = bound_len; empty = none; total = 0; levels = levels }

abbrev pub r : Plain
r = plain_with (view 50 0 (level_with 29 0 0 0 ∷ [])) 3

abbrev pub fresh : Now
fresh = now_is r []

abbrev pub x : List ℕ
x = 120 ∷ []

abbrev pub y : List ℕ
y = 121 ∷ []

abbrev pub a : ℕ → Said
a t = keys (97 ∷ []) 1 t

abbrev pub t : ℕ → Said
t n = keys (97 ∷ 116 ∷ []) 3 n

abbrev pub e : ℕ → Said
e n = keys (101 ∷ []) 4 n

-- so many marks, with one name each
abbrev pub full : ℕ → List Did
full zero = []
full (suc n) = full n ++ (marks ((n + 65) ∷ []) ∷ [])

-- held marks that are wrong: next and mark answer STATE
pub record Wrong (ms : List Mark) : Type 0 where
  pub next_refuses : says (now_is r ms) (go ∷ []) ≡ no STATE ∷ []
  pub mark_refuses : says (now_is r ms) (marks x ∷ []) ≡ no STATE ∷ []
  pub back_refuses : says (now_is r ms) (returns x ∷ []) ≡ no STATE ∷ []

pub record MarksTable : Type 0 where
  -- back to "x" after the end: the answers that followed, with the total as it was there
  pub back_again : says fresh (go ∷ marks x ∷ go ∷ go ∷ go ∷ returns x ∷ go ∷ []) ≡ a 1 ∷ t 2 ∷ e 3 ∷ ends 3 ∷ t 2 ∷ []
  pub at_both_ends : says fresh (marks x ∷ go ∷ go ∷ go ∷ go ∷ marks y ∷ returns x ∷ go ∷ returns y ∷ go ∷ []) ≡ a 1 ∷ t 2 ∷ e 3 ∷ ends 3 ∷ a 1 ∷ ends 3 ∷ []
  -- marking again replaces
  pub replaced : says fresh (marks x ∷ go ∷ marks x ∷ returns x ∷ go ∷ []) ≡ a 1 ∷ t 2 ∷ []
  -- a return keeps a mark that was set later
  pub both_stand : says fresh (marks x ∷ go ∷ marks y ∷ returns x ∷ go ∷ returns y ∷ go ∷ []) ≡ a 1 ∷ a 1 ∷ t 2 ∷ []
  -- names
  pub lengths : says fresh (marks [] ∷ marks (replicate 1 97) ∷ marks (replicate 8 97) ∷ marks (replicate 9 97) ∷ []) ≡ no NAME ∷ no NAME ∷ []
  pub zero_counts : says fresh (marks (97 ∷ []) ∷ go ∷ marks (97 ∷ 0 ∷ []) ∷ returns (97 ∷ []) ∷ go ∷ []) ≡ a 1 ∷ a 1 ∷ []
  pub seventeenth : says fresh (full 16 ++ (marks x ∷ marks (65 ∷ []) ∷ marks [] ∷ [])) ≡ no FULL ∷ no NAME ∷ []
  pub never_marked : says fresh (returns x ∷ returns (replicate 9 97) ∷ []) ≡ no NAME ∷ no NAME ∷ []
  -- a file of another length, and one that does not open
  pub other_length : (back [] r (named x r ∷ []) x ≡ Return.refused STATE) × (mark [] r [] x ≡ Marking.refused STATE)
  pub not_opened : (back (replicate 3 0) r (named x r ∷ []) x ≡ Return.refused SHORT) × (mark (replicate 3 0) r [] x ≡ Marking.refused SHORT)
  -- an empty key pending, marked, handed out, and back
  pub pending : says (now_is (plain_with (record { len = 50; bound = unbounded; bound_len = 0; empty = some 7; total = 0; levels = [] }) 1) []) (marks x ∷ go ∷ go ∷ returns x ∷ go ∷ [])
      ≡ keys [] 7 0 ∷ ends 0 ∷ keys [] 7 0 ∷ []
  -- wrong marks
  pub many : Wrong (replicate 17 (named x r))
  pub no_name : Wrong (named [] r ∷ [])
  pub long_name : Wrong (named (replicate 9 97) r ∷ [])
  pub twice : Wrong (named x r ∷ named y r ∷ named x r ∷ [])
  pub levels : Wrong (named x (plain_with (view 50 0 (replicate 257 (level_with 29 0 0 0))) 3) ∷ [])
  pub bound : Wrong (named x (plain_with (view 50 256 []) 3) ∷ [])
  pub other_len : Wrong (named x (plain_with (view 51 0 []) 3) ∷ [])

pub marks_table : MarksTable
unfolding bytes_of common_inputs_inv le head_len input_of ntrans_of sizes_byte index_len size_of down_from bytes_down numbers_down transitions_of node_of sound_test node_at find_from meta_of root_test opening before_test path_of pop descend next same_name marked put each_right mark back next_marked
marks_table = record {
  back_again = refl;
  at_both_ends = refl;
  replaced = refl;
  both_stand = refl;
  lengths = refl;
  zero_counts = refl;
  seventeenth = refl;
  never_marked = refl;
  other_length = (refl, refl);
  not_opened = (refl, refl);
  pending = refl;
  many = record { next_refuses = refl; mark_refuses = refl; back_refuses = refl };
  no_name = record { next_refuses = refl; mark_refuses = refl; back_refuses = refl };
  long_name = record { next_refuses = refl; mark_refuses = refl; back_refuses = refl };
  twice = record { next_refuses = refl; mark_refuses = refl; back_refuses = refl };
  levels = record { next_refuses = refl; mark_refuses = refl; back_refuses = refl };
  bound = record { next_refuses = refl; mark_refuses = refl; back_refuses = refl };
  other_len = record { next_refuses = refl; mark_refuses = refl; back_refuses = refl };
}
