-- The limits of document 01, and the refusals of documents 01 and 02, by name, once.
-- Assumes nothing.
use Rattle.std.specs.Prelude.{ℕ}
use Rattle.format.specs.declared.Refusal.{Refusal}
use Rattle.format.specs.declared.Refusal.TheVariants.{Short, Version, Root, Large, Node, Deep, Sum, Space, Bound, Record, State, Pattern, List, Cards, Edition, Carry, Name, Full, Count, Seat}

-- the first byte that a node may take: the header ends before it
abbrev pub first_node : ℕ
first_node = 16

-- the smallest length of a file that is not blank: header and trailer of versions 1 and 2
abbrev pub min_len : ℕ
min_len = 32

-- the largest length of a file, and the largest F of a node record: the largest number of 32 bits
abbrev pub max_len : ℕ
max_len = 4294967295

-- the most transitions of a node: one for each byte
abbrev pub max_trans : ℕ
max_trans = 256

-- a node with more transitions than this has an index, in versions 2 and 3
abbrev pub index_threshold : ℕ
index_threshold = 32

-- the longest path of an admitted file, and the longest key, bound and key buffer that a reading needs
abbrev pub max_path : ℕ
max_path = 255

-- the most levels of a reading: the root's, and one for each byte of a key
abbrev pub max_levels : ℕ
max_levels = 256

-- the largest value, and the largest path sum of an admitted file
abbrev pub max_sum : ℕ
max_sum = 18446744073709551615

-- ---- the refusals, in capitals: Node, State and Bound are other words of the definitions

abbrev pub SHORT : Refusal
SHORT = Short

abbrev pub VERSION : Refusal
VERSION = Version

abbrev pub ROOT : Refusal
ROOT = Root

abbrev pub LARGE : Refusal
LARGE = Large

abbrev pub NODE : Refusal
NODE = Node

abbrev pub DEEP : Refusal
DEEP = Deep

abbrev pub SUM : Refusal
SUM = Sum

abbrev pub SPACE : Refusal
SPACE = Space

abbrev pub BOUND : Refusal
BOUND = Bound

abbrev pub RECORD : Refusal
RECORD = Record

abbrev pub STATE : Refusal
STATE = State

-- over 255 positions of a pattern
abbrev pub PATTERN : Refusal
PATTERN = Pattern

-- a list to pack that is not one
abbrev pub LIST : Refusal
LIST = List

-- no file, or over eight
abbrev pub CARDS : Refusal
CARDS = Cards

-- a file to convert that is not of version 1
abbrev pub EDITION : Refusal
EDITION = Edition

-- a held level that the new file does not have
abbrev pub CARRY : Refusal
CARRY = Carry

-- a mark's name of a wrong length, or of no mark
abbrev pub NAME : Refusal
NAME = Name

-- a seventeenth mark
abbrev pub FULL : Refusal
FULL = Full

-- over 2^64 - 1 keys, or a table that cannot be right
abbrev pub COUNT : Refusal
COUNT = Count

-- a seat's number over seven, or a seat without a reading
abbrev pub SEAT : Refusal
SEAT = Seat

-- the numbers of document 01's table, and from 12 on of document 02's
abbrev pub number : Refusal → ℕ
number Short = 1
number Version = 2
number Root = 3
number Large = 4
number Node = 5
number Deep = 6
number Sum = 7
number Space = 8
number Bound = 9
number Record = 10
number State = 11
number Pattern = 12
number List = 13
number Cards = 14
number Edition = 15
number Carry = 16
number Name = 17
number Full = 18
number Count = 19
number Seat = 20
