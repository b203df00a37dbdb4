-- Rows of the operations (document 02, N5), in one theorem, each by computation. A has a 1, b 2, d 9; B has a 1, c 3, d 4; C has b 2, d 4.
--     listed n op cs          what at most n calls hand out, and the totals once "end" is answered
--     Hands op cs is ns       calls hand out the items is and then answer "end", and leave readings with the totals ns
--     of f                    the reading that a start without bounds gives of the file f, with so many keys to come, still to be stepped
-- Assumes nothing.
use Rattle.std.specs.Prelude.{◌≡◌, refl, List, [], ◌∷◌, ◌++◌, map, ℕ, zero, suc, length, replicate}
use Rattle.std.proofs.Math.Option.{none, some}
use Rattle.format.specs.Bytes.{le, bytes_of}
use Rattle.format.specs.CommonInputs.{common_inputs_inv, common_input}
use Rattle.format.specs.Limits.{SHORT, SPACE, STATE, CARDS}
use Rattle.format.specs.Node.{head_len, input_of, ntrans_of, sizes_byte, index_len, size_of, down_from, bytes_down, numbers_down, transitions_of, node_of, sound_test, node_at, find_from, first_above}
use Rattle.format.specs.Opening.{meta_of, root_test, opening}
use Rattle.format.specs.Strings.{unbounded, before_test}
use Rattle.reading.specs.Reading.{path_of, seek, level_with, View, started, start, pop, descend, next}
use Rattle.plain.specs.Plain.{plain_with}
use Rattle.ops_spec.specs.Ops.{Op, union, intersection, difference, symmetric, used, ended, Card, card_is, card_key, Merged, item, ending, Indexed, indexed, step_all, least_key, insert, pairs_from, use_up, all_left, rounds, next_item}
use Rattle.ops_spec.specs.OpsLists.{Item, item_is}

abbrev pub totals_of : List Card → List ℕ
totals_of cs = map (λ (c : Card). c.reading.view.total) cs

-- what calls hand out, and the totals once "end" is answered
pub record Listed : Type 0 where
  pub items : List Item
  pub totals : List ℕ

abbrev pub listed_by : (List Card → Listed) → Merged → Listed
listed_by more (item k ps ds) = record { items = item_is k ps ∷ (more ds).items; totals = (more ds).totals }
listed_by more (ending ds) = record { items = []; totals = totals_of ds }
listed_by more (Merged.refused n) = record { items = []; totals = [] }

-- at most so many calls with a buffer of 255 bytes
abbrev pub listed : ℕ → Op → List Card → Listed
listed zero op cs = record { items = []; totals = [] }
listed (suc n) op cs = listed_by (listed n op) (next_item op cs 255)

-- the cards after so many items
abbrev pub left_by : (List Card → List Card) → Merged → List Card
left_by more (item k ps ds) = more ds
left_by more (ending ds) = []
left_by more (Merged.refused n) = []

abbrev pub left_after : ℕ → Op → List Card → List Card
left_after zero op cs = cs
left_after (suc n) op cs = left_by (left_after n op) (next_item op cs 255)

abbrev pub Hands : Op → List Card → List Item → List ℕ → Type 0
Hands op cs is ns = listed 9 op cs ≡ record { items = is; totals = ns }

-- a file whose root, at this address, is this node
abbrev file_with : ℕ → ℕ → List ℕ → List ℕ
file_with keys root node = bytes_of 8 3 ++ bytes_of 8 0 ++ node ++ bytes_of 8 keys ++ bytes_of 8 root ++ replicate 4 0

abbrev A : List ℕ
A = file_with 3 26 (9 ∷ 2 ∷ 1 ∷ 0 ∷ 0 ∷ 0 ∷ 100 ∷ 98 ∷ 97 ∷ 17 ∷ 3 ∷ [])

abbrev B : List ℕ
B = file_with 3 26 (4 ∷ 3 ∷ 1 ∷ 0 ∷ 0 ∷ 0 ∷ 100 ∷ 99 ∷ 97 ∷ 17 ∷ 3 ∷ [])

abbrev C : List ℕ
C = file_with 2 23 (4 ∷ 2 ∷ 0 ∷ 0 ∷ 100 ∷ 98 ∷ 17 ∷ 2 ∷ [])

abbrev view_of : ℕ → ℕ → View
view_of len root = record { len = len; bound = unbounded; bound_len = 0; empty = none; total = 0; levels = level_with root 0 0 0 ∷ [] }

abbrev of_a : Card
of_a = card_is A (plain_with (view_of 47 26) 3) used

abbrev of_b : Card
of_b = card_is B (plain_with (view_of 47 26) 3) used

abbrev of_c : Card
of_c = card_is C (plain_with (view_of 44 23) 2) used

abbrev Nested : List ℕ
Nested = file_with 3 27 (0 ∷ 1 ∷ 0 ∷ 98 ∷ 17 ∷ 65 ∷ 5 ∷ 1 ∷ 1 ∷ 97 ∷ 17 ∷ 65 ∷ [])

abbrev of_nested : Card
of_nested =
    card_is Nested (plain_with (record { len = 48; bound = unbounded; bound_len = 0; empty = some 5; total = 0; levels = level_with 27 0 0 0 ∷ [] }) 3) used

abbrev of_blank : Card
of_blank = card_is [] (plain_with (record { len = 0; bound = unbounded; bound_len = 0; empty = none; total = 0; levels = [] }) 0) used

-- a value in each of eight files
abbrev eight : ℕ → List Indexed
eight v = indexed v 0 ∷ indexed v 1 ∷ indexed v 2 ∷ indexed v 3 ∷ indexed v 4 ∷ indexed v 5 ∷ indexed v 6 ∷ indexed v 7 ∷ []

abbrev a : List ℕ
a = 97 ∷ []

abbrev b : List ℕ
b = 98 ∷ []

abbrev c : List ℕ
c = 99 ∷ []

abbrev d : List ℕ
d = 100 ∷ []

pub record OpsTable : Type 0 where
  -- the starts
  pub start_A : start A unbounded unbounded ≡ started (view_of 47 26)
  pub start_B : start B unbounded unbounded ≡ started (view_of 47 26)
  pub start_C : start C unbounded unbounded ≡ started (view_of 44 23)
  pub start_Nested : start Nested unbounded unbounded ≡ started of_nested.reading.view
  pub start_blank : start [] unbounded unbounded ≡ started of_blank.reading.view
  -- union A B C: a 1@0 1@1; b 2@0 2@2; c 3@1; d 4@1 4@2 9@0; totals 3 3 2
  pub union_ABC : Hands union (of_a ∷ of_b ∷ of_c ∷ [])
      (item_is a (indexed 1 0 ∷ indexed 1 1 ∷ []) ∷ item_is b (indexed 2 0 ∷ indexed 2 2 ∷ []) ∷ item_is c (indexed 3 1 ∷ []) ∷ item_is d (indexed 4 1 ∷ indexed 4 2 ∷ indexed 9 0 ∷ []) ∷ [])
      (3 ∷ 3 ∷ 2 ∷ [])
  -- after "b" of the union: totals 2 2 1, and the readings at b, c and b
  pub after_b : totals_of (left_after 2 union (of_a ∷ of_b ∷ of_c ∷ [])) ≡ 2 ∷ 2 ∷ 1 ∷ []
  pub keys_after_b : map card_key (left_after 2 union (of_a ∷ of_b ∷ of_c ∷ [])) ≡ b ∷ c ∷ b ∷ []
  -- intersection A B C: d 4@1 4@2 9@0; totals 3 3 2
  pub intersection_ABC : Hands intersection (of_a ∷ of_b ∷ of_c ∷ []) (item_is d (indexed 4 1 ∷ indexed 4 2 ∷ indexed 9 0 ∷ []) ∷ []) (3 ∷ 3 ∷ 2 ∷ [])
  -- symmetric difference A B C: c 3@1; d 4@1 4@2 9@0; totals 3 3 2
  pub symmetric_ABC : Hands symmetric (of_a ∷ of_b ∷ of_c ∷ [])
      (item_is c (indexed 3 1 ∷ []) ∷ item_is d (indexed 4 1 ∷ indexed 4 2 ∷ indexed 9 0 ∷ []) ∷ []) (3 ∷ 3 ∷ 2 ∷ [])
  -- difference A B: b 2@0; totals 3 3
  pub difference_AB : Hands difference (of_a ∷ of_b ∷ []) (item_is b (indexed 2 0 ∷ []) ∷ []) (3 ∷ 3 ∷ [])
  -- a difference ends with its first file: the other stands at b, its first key after ab, and after no key at its first
  pub difference_Nested : Hands difference (of_nested ∷ of_a ∷ []) (item_is [] (indexed 5 0 ∷ []) ∷ item_is (97 ∷ 98 ∷ []) (indexed 2 0 ∷ []) ∷ []) (2 ∷ 2 ∷ [])
  pub difference_blank : Hands difference (of_blank ∷ of_c ∷ []) [] (0 ∷ 1 ∷ [])
  -- one file, each operation: A's three keys; total 3
  pub one_file : (op : Op) → Hands op (of_a ∷ []) (item_is a (indexed 1 0 ∷ []) ∷ item_is b (indexed 2 0 ∷ []) ∷ item_is d (indexed 9 0 ∷ []) ∷ []) (3 ∷ [])
  -- the same file twice: every key common, none in the symmetric difference
  pub same_file : Hands symmetric (of_a ∷ of_a ∷ []) [] (3 ∷ 3 ∷ [])
  -- the same file eight times: every key with eight values in the intersection, none in the symmetric difference
  pub eight_common : Hands intersection (replicate 8 of_a) (item_is a (eight 1) ∷ item_is b (eight 2) ∷ item_is d (eight 9) ∷ []) (replicate 8 3)
  pub eight_even : Hands symmetric (replicate 8 of_a) [] (replicate 8 3)
  -- the empty key: Nested has "" with 5, a with 1 and ab with 2
  pub empty_key : Hands union (of_nested ∷ of_c ∷ [])
      (item_is [] (indexed 5 0 ∷ []) ∷ item_is a (indexed 1 0 ∷ []) ∷ item_is (97 ∷ 98 ∷ []) (indexed 2 0 ∷ []) ∷ item_is b (indexed 2 1 ∷ []) ∷ item_is d (indexed 4 1 ∷ []) ∷ [])
      (2 ∷ 2 ∷ [])
  -- a blank card among them, and alone
  pub blank_first : Hands union (of_blank ∷ of_c ∷ []) (item_is b (indexed 2 1 ∷ []) ∷ item_is d (indexed 4 1 ∷ []) ∷ []) (0 ∷ 2 ∷ [])
  pub all_blank : Hands intersection (of_blank ∷ of_blank ∷ []) [] (0 ∷ 0 ∷ [])
  -- file 0 does not open and the buffer is short: file 0's refusal
  pub unopened : next_item union (card_is (1 ∷ 2 ∷ 3 ∷ []) (plain_with (view_of 3 0) 0) used ∷ of_a ∷ []) 254 ≡ Merged.refused SHORT
  -- no card, nine: 14; file 1 of another length: 11; 254 bytes: 8, and after "end" too
  pub no_card : next_item union [] 255 ≡ Merged.refused CARDS
  pub nine_cards : next_item union (replicate 9 of_a) 255 ≡ Merged.refused CARDS
  pub other_file : next_item union (of_a ∷ card_is C (plain_with (view_of 47 26) 3) used ∷ []) 255 ≡ Merged.refused STATE
  pub short : next_item union (of_a ∷ []) 254 ≡ Merged.refused SPACE
  pub short_ended : next_item union (card_is A (plain_with (view_of 47 26) 0) ended ∷ []) 254 ≡ Merged.refused SPACE

row_union_ABC : Hands union (of_a ∷ of_b ∷ of_c ∷ [])
    (item_is a (indexed 1 0 ∷ indexed 1 1 ∷ []) ∷ item_is b (indexed 2 0 ∷ indexed 2 2 ∷ []) ∷ item_is c (indexed 3 1 ∷ []) ∷ item_is d (indexed 4 1 ∷ indexed 4 2 ∷ indexed 9 0 ∷ []) ∷ [])
    (3 ∷ 3 ∷ 2 ∷ [])
unfolding bytes_of common_inputs_inv common_input le head_len input_of ntrans_of sizes_byte index_len size_of down_from bytes_down numbers_down transitions_of node_of sound_test node_at find_from first_above meta_of root_test opening before_test path_of seek start pop descend next step_all least_key insert pairs_from use_up all_left rounds next_item
row_union_ABC = refl

row_intersection_ABC : Hands intersection (of_a ∷ of_b ∷ of_c ∷ []) (item_is d (indexed 4 1 ∷ indexed 4 2 ∷ indexed 9 0 ∷ []) ∷ []) (3 ∷ 3 ∷ 2 ∷ [])
unfolding bytes_of common_inputs_inv common_input le head_len input_of ntrans_of sizes_byte index_len size_of down_from bytes_down numbers_down transitions_of node_of sound_test node_at find_from first_above meta_of root_test opening before_test path_of seek start pop descend next step_all least_key insert pairs_from use_up all_left rounds next_item
row_intersection_ABC = refl

row_symmetric_ABC : Hands symmetric (of_a ∷ of_b ∷ of_c ∷ [])
    (item_is c (indexed 3 1 ∷ []) ∷ item_is d (indexed 4 1 ∷ indexed 4 2 ∷ indexed 9 0 ∷ []) ∷ []) (3 ∷ 3 ∷ 2 ∷ [])
unfolding bytes_of common_inputs_inv common_input le head_len input_of ntrans_of sizes_byte index_len size_of down_from bytes_down numbers_down transitions_of node_of sound_test node_at find_from first_above meta_of root_test opening before_test path_of seek start pop descend next step_all least_key insert pairs_from use_up all_left rounds next_item
row_symmetric_ABC = refl

row_difference_AB : Hands difference (of_a ∷ of_b ∷ []) (item_is b (indexed 2 0 ∷ []) ∷ []) (3 ∷ 3 ∷ [])
unfolding bytes_of common_inputs_inv common_input le head_len input_of ntrans_of sizes_byte index_len size_of down_from bytes_down numbers_down transitions_of node_of sound_test node_at find_from first_above meta_of root_test opening before_test path_of seek start pop descend next step_all least_key insert pairs_from use_up all_left rounds next_item
row_difference_AB = refl

row_one_file : (op : Op) → Hands op (of_a ∷ []) (item_is a (indexed 1 0 ∷ []) ∷ item_is b (indexed 2 0 ∷ []) ∷ item_is d (indexed 9 0 ∷ []) ∷ []) (3 ∷ [])
unfolding bytes_of common_inputs_inv common_input le head_len input_of ntrans_of sizes_byte index_len size_of down_from bytes_down numbers_down transitions_of node_of sound_test node_at find_from first_above meta_of root_test opening before_test path_of seek start pop descend next step_all least_key insert pairs_from use_up all_left rounds next_item
row_one_file union = refl
row_one_file intersection = refl
row_one_file difference = refl
row_one_file symmetric = refl

row_difference_Nested : Hands difference (of_nested ∷ of_a ∷ []) (item_is [] (indexed 5 0 ∷ []) ∷ item_is (97 ∷ 98 ∷ []) (indexed 2 0 ∷ []) ∷ []) (2 ∷ 2 ∷ [])
unfolding bytes_of common_inputs_inv common_input le head_len input_of ntrans_of sizes_byte index_len size_of down_from bytes_down numbers_down transitions_of node_of sound_test node_at find_from first_above meta_of root_test opening before_test path_of seek start pop descend next step_all least_key insert pairs_from use_up all_left rounds next_item
row_difference_Nested = refl

row_difference_blank : Hands difference (of_blank ∷ of_c ∷ []) [] (0 ∷ 1 ∷ [])
unfolding bytes_of common_inputs_inv common_input le head_len input_of ntrans_of sizes_byte index_len size_of down_from bytes_down numbers_down transitions_of node_of sound_test node_at find_from first_above meta_of root_test opening before_test path_of seek start pop descend next step_all least_key insert pairs_from use_up all_left rounds next_item
row_difference_blank = refl

row_same_file : Hands symmetric (of_a ∷ of_a ∷ []) [] (3 ∷ 3 ∷ [])
unfolding bytes_of common_inputs_inv common_input le head_len input_of ntrans_of sizes_byte index_len size_of down_from bytes_down numbers_down transitions_of node_of sound_test node_at find_from first_above meta_of root_test opening before_test path_of seek start pop descend next step_all least_key insert pairs_from use_up all_left rounds next_item
row_same_file = refl

row_after_b : totals_of (left_after 2 union (of_a ∷ of_b ∷ of_c ∷ [])) ≡ 2 ∷ 2 ∷ 1 ∷ []
unfolding bytes_of common_inputs_inv common_input le head_len input_of ntrans_of sizes_byte index_len size_of down_from bytes_down numbers_down transitions_of node_of sound_test node_at find_from first_above meta_of root_test opening before_test path_of seek start pop descend next step_all least_key insert pairs_from use_up all_left rounds next_item
row_after_b = refl

row_keys_after_b : map card_key (left_after 2 union (of_a ∷ of_b ∷ of_c ∷ [])) ≡ b ∷ c ∷ b ∷ []
unfolding bytes_of common_inputs_inv common_input le head_len input_of ntrans_of sizes_byte index_len size_of down_from bytes_down numbers_down transitions_of node_of sound_test node_at find_from first_above meta_of root_test opening before_test path_of seek start pop descend next step_all least_key insert pairs_from use_up all_left rounds next_item
row_keys_after_b = refl

row_eight_common : Hands intersection (replicate 8 of_a) (item_is a (eight 1) ∷ item_is b (eight 2) ∷ item_is d (eight 9) ∷ []) (replicate 8 3)
unfolding bytes_of common_inputs_inv common_input le head_len input_of ntrans_of sizes_byte index_len size_of down_from bytes_down numbers_down transitions_of node_of sound_test node_at find_from first_above meta_of root_test opening before_test path_of seek start pop descend next step_all least_key insert pairs_from use_up all_left rounds next_item
row_eight_common = refl

row_eight_even : Hands symmetric (replicate 8 of_a) [] (replicate 8 3)
unfolding bytes_of common_inputs_inv common_input le head_len input_of ntrans_of sizes_byte index_len size_of down_from bytes_down numbers_down transitions_of node_of sound_test node_at find_from first_above meta_of root_test opening before_test path_of seek start pop descend next step_all least_key insert pairs_from use_up all_left rounds next_item
row_eight_even = refl

row_empty_key : Hands union (of_nested ∷ of_c ∷ [])
    (item_is [] (indexed 5 0 ∷ []) ∷ item_is a (indexed 1 0 ∷ []) ∷ item_is (97 ∷ 98 ∷ []) (indexed 2 0 ∷ []) ∷ item_is b (indexed 2 1 ∷ []) ∷ item_is d (indexed 4 1 ∷ []) ∷ [])
    (2 ∷ 2 ∷ [])
unfolding bytes_of common_inputs_inv common_input le head_len input_of ntrans_of sizes_byte index_len size_of down_from bytes_down numbers_down transitions_of node_of sound_test node_at find_from first_above meta_of root_test opening before_test path_of seek start pop descend next step_all least_key insert pairs_from use_up all_left rounds next_item
row_empty_key = refl

row_blank_first : Hands union (of_blank ∷ of_c ∷ []) (item_is b (indexed 2 1 ∷ []) ∷ item_is d (indexed 4 1 ∷ []) ∷ []) (0 ∷ 2 ∷ [])
unfolding bytes_of common_inputs_inv common_input le head_len input_of ntrans_of sizes_byte index_len size_of down_from bytes_down numbers_down transitions_of node_of sound_test node_at find_from first_above meta_of root_test opening before_test path_of seek start pop descend next step_all least_key insert pairs_from use_up all_left rounds next_item
row_blank_first = refl

row_all_blank : Hands intersection (of_blank ∷ of_blank ∷ []) [] (0 ∷ 0 ∷ [])
unfolding bytes_of common_inputs_inv common_input le head_len input_of ntrans_of sizes_byte index_len size_of down_from bytes_down numbers_down transitions_of node_of sound_test node_at find_from first_above meta_of root_test opening before_test path_of seek start pop descend next step_all least_key insert pairs_from use_up all_left rounds next_item
row_all_blank = refl

pub ops_table : OpsTable
unfolding bytes_of common_inputs_inv common_input le head_len input_of ntrans_of sizes_byte index_len size_of down_from bytes_down numbers_down transitions_of node_of sound_test node_at find_from first_above meta_of root_test opening before_test path_of seek start pop descend next step_all least_key insert pairs_from use_up all_left rounds next_item
ops_table = record {
  start_A = refl;
  start_B = refl;
  start_C = refl;
  start_Nested = refl;
  start_blank = refl;
  union_ABC = row_union_ABC;
  intersection_ABC = row_intersection_ABC;
  symmetric_ABC = row_symmetric_ABC;
  difference_AB = row_difference_AB;
  one_file = row_one_file;
  same_file = row_same_file;
  after_b = row_after_b;
  keys_after_b = row_keys_after_b;
  difference_Nested = row_difference_Nested;
  difference_blank = row_difference_blank;
  eight_common = row_eight_common;
  eight_even = row_eight_even;
  empty_key = row_empty_key;
  blank_first = row_blank_first;
  all_blank = row_all_blank;
  unopened = refl;
  no_card = refl;
  nine_cards = refl;
  other_file = refl;
  short = refl;
  short_ended = refl;
}
