-- The records of a replay list (oracle/README.md, "The replay lists"): 15 bytes of numbers, then the part.
--     Item               a record as its numbers and the bytes of its part
--     entry_is e         the record e of the code as that; parsed_is of one that may be there
--     field_at s at k    the number of the k bytes at place at
--     entry_at s at      the record at place at, as the layout says
--     parsed_at s at     that record, or None where the list ends within it
--     asked_file e f     the file that the record e is about: its own part if it is a file, else f, that of the one before
-- Assumes nothing.
use Rattle.std.specs.Prelude.{cond, Option, Some, None, List, ℕ, ◌+◌, eqb, leb, length, take, drop}
use Rattle.format.specs.Bytes.{le}
use Rattle.replay_list.specs.declared.Entry.{Entry}

pub record Item : Type 0 where
  pub kind : ℕ
  pub a : ℕ
  pub b : ℕ
  pub c : ℕ
  pub part : List ℕ

abbrev pub entry_is : Entry → Item
entry_is e = record { kind = e.kind; a = e.a; b = e.b; c = e.c; part = e.part.now }

abbrev pub parsed_is : Option Entry → Option Item
parsed_is (Some e) = Some (entry_is e)
parsed_is None = None

abbrev pub field_at : List ℕ → ℕ → ℕ → ℕ
field_at s at k = le (take k (drop at s))

-- kind 1 byte, a 2, b 8, c 2, the part's length 2
abbrev pub entry_at : List ℕ → ℕ → Item
entry_at s at = record {
  kind = field_at s at 1;
  a = field_at s (at + 1) 2;
  b = field_at s (at + 3) 8;
  c = field_at s (at + 11) 2;
  part = take (field_at s (at + 13) 2) (drop (at + 15) s);
}

unfoldable pub parsed_at : List ℕ → ℕ → Option Item
parsed_at s at = cond (leb (at + 15 + field_at s (at + 13) 2) (length s)) (Some (entry_at s at)) None

-- 1 is the kind of a file
abbrev pub asked_file : Item → List ℕ → List ℕ
asked_file e f = cond (eqb e.kind 1) e.part f
