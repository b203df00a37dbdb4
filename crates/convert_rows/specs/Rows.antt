-- Worked rows of the conversion (document 02, N7), by computation, for every way in which the file is admitted.
--     W1, W2        a file with a node that vanishes: `00 00 40`, and a final node that leads by a to it and by b to address 0
--     G1            a root that vanishes, with a node of output 3 below it
--     E1            no node
--     L1            one node, neither final nor with a transition
--     I1            one node of 33 transitions
-- Assumes nothing.
use Rattle.std.specs.Prelude.{◌≡◌, refl, Bool, true, false, cond, List, [], ◌∷◌, ◌++◌, ℕ, zero, suc, eqb, ltb, length, take, drop, replicate}
use Rattle.std.proofs.Common.{ap, ◌∙◌, subst, arith, ne_eqb}
use Rattle.std.proofs.Math.Path.{ap₂}
use Rattle.std.proofs.Math.Option.{none}
use Rattle.format.specs.Limits.{max_len, LARGE, SPACE, EDITION}
use Rattle.format.specs.declared.Transition.{Transition}
use Rattle.format.specs.Laws.OpeningLaws.{blank_meta, opening_blank}
use Rattle.format.specs.Bytes.{le, bytes_of, size_up_to, pack_size, largest}
use Rattle.format.specs.CommonInputs.{common_inputs, common_inputs_inv, common_idx}
use Rattle.format.specs.Packed.{stored_numbers, stored_bytes, place_from, up_from, index_of, index_bytes, output_size, delta_size, input_bytes, packed_next, packed_one, head_of, packed_any, packed}
use Rattle.format.specs.Node.{Node, sound, head_len, input_of, ntrans_of, sizes_byte, index_len, size_of, down_from, bytes_down, numbers_down, transitions_of, node_of, sound_test, node_at}
use Rattle.format.specs.Opening.{Meta, meta_of, root_test, opened, opening}
use Rattle.format.specs.Paths.{fst_of, node_in}
use Rattle.format.specs.Admitted.{last, next, RootChain, empty, rooted, Admitted}
use Rattle.format.specs.Laws.ChainLaws.{root_chain_unique}
use Rattle.converting.specs.Converting.{new_addr, Laid, lay_out, chain_of, converted, table_of, Conversion, refused, placing, conversion}

-- ---- a file is admitted in one way

abbrev lay_by : List ℕ → Meta → List ℕ → Laid
lay_by s m l = lay_out (fst_of s m) (chain_of (fst_of s m) l)

abbrev file_by : List ℕ → Meta → List ℕ → List ℕ
file_by s m l =
    bytes_of 8 2 ++ (take 8 (drop 8 s) ++ ((lay_by s m l).nodes ++ (bytes_of 8 m.len ++ bytes_of 8 (new_addr (lay_by s m l).moved m.root))))

abbrev table_by : List ℕ → Meta → List ℕ → List ℕ
table_by s m l = up_from (new_addr (lay_by s m l).moved) 0 (length s)

abbrev conversion_by : ℕ → List ℕ → ℕ → ℕ → Meta → List ℕ → Conversion
conversion_by limit s room entries m l =
    cond (eqb m.version 1)
    (cond (ltb limit (length (file_by s m l))) (refused LARGE) (placing (file_by s m l) (table_by s m l) (length s) room entries))
    (refused EDITION)

module _ {s : List ℕ} (A : Admitted s) {m : Meta} {l : List ℕ} (opens : opening s ≡ opened m) (chain : RootChain (fst_of s m) l) where
  meta_is_lem : A.meta ≡ m
  meta_is_lem = let o = A.opens in cc

  nodes_are : A.nodes ≡ l
  nodes_are = root_chain_unique (subst (λ (n : Meta). RootChain (fst_of s n) A.nodes) meta_is_lem A.chained.chain) chain

  file_row : converted A ≡ file_by s m l
  unfolding converted
  file_row = ap₂ (file_by s) meta_is_lem nodes_are

  table_row : table_of A ≡ table_by s m l
  unfolding table_of
  table_row = ap₂ (table_by s) meta_is_lem nodes_are

  conversion_row : (limit room entries : ℕ) → conversion limit A room entries ≡ conversion_by limit s room entries m l
  unfolding conversion
  conversion_row limit room entries = ap₂ (conversion_by limit s room entries) meta_is_lem nodes_are

-- ---- the files

abbrev pub file_is : ℕ → List ℕ → ℕ → List ℕ
file_is v nodes root = bytes_of 8 v ++ (bytes_of 8 7 ++ (nodes ++ (bytes_of 8 3 ++ bytes_of 8 root)))

abbrev pub W1 : List ℕ
W1 = file_is 1 (0 ∷ 0 ∷ 64 ∷ 0 ∷ 0 ∷ 2 ∷ 0 ∷ 1 ∷ 98 ∷ 97 ∷ 17 ∷ 66 ∷ []) 27

abbrev pub W2 : List ℕ
W2 = file_is 2 (0 ∷ 0 ∷ 2 ∷ 0 ∷ 0 ∷ 98 ∷ 97 ∷ 17 ∷ 66 ∷ []) 24

abbrev pub G1 : List ℕ
G1 = file_is 1 (3 ∷ 1 ∷ 0 ∷ 64 ∷ 0 ∷ 0 ∷ 64 ∷ []) 22

abbrev pub E1 : List ℕ
E1 = file_is 1 [] 0

abbrev pub L1 : List ℕ
L1 = file_is 1 (0 ∷ 0 ∷ 0 ∷ []) 18

abbrev pub meta_is : ℕ → Meta
meta_is root = record { version = 1; ty = 7; len = 3; root = root; checksum = none }

-- ---- the rows

pub opens_W : opening W1 ≡ opened (meta_is 27)
unfolding bytes_of le meta_of root_test opening
opens_W = refl

opens_G : opening G1 ≡ opened (meta_is 22)
unfolding bytes_of le meta_of root_test opening
opens_G = refl

pub opens_E : opening E1 ≡ opened (meta_is 0)
unfolding bytes_of le meta_of root_test opening
opens_E = refl

opens_L : opening L1 ≡ opened (meta_is 18)
unfolding bytes_of le meta_of root_test opening
opens_L = refl

-- ---- the chains

-- final, a/2 to 18, b/0 to 0
abbrev pub node_w : Node
node_w = record { first = 19; final = true; final_output = 0; transitions = record { inp = 97; out = 2; addr = 18 } ∷ record { inp = 98; out = 0; addr = 0 } ∷ [] }

abbrev pub plain : ℕ → Bool → ℕ → Node
plain first final out = record { first = first; final = final; final_output = out; transitions = [] }

pub at_W : (node_in (fst_of W1 (meta_is 27)) 27 ≡ sound node_w) × (node_in (fst_of W1 (meta_is 27)) 18 ≡ sound (plain 16 true 0))
unfolding bytes_of le head_len input_of ntrans_of sizes_byte index_len size_of down_from bytes_down numbers_down transitions_of node_of sound_test node_at
at_W = (refl, refl)

pub chain_W : RootChain (fst_of W1 (meta_is 27)) (27 ∷ 18 ∷ [])
chain_W = rooted (λ z. omega arith) (next node_w at_W.0 (λ z. omega arith) (last (plain 16 true 0) at_W.1 refl))

at_G : (node_in (fst_of G1 (meta_is 22)) 22 ≡ sound (plain 20 true 0)) × (node_in (fst_of G1 (meta_is 22)) 19 ≡ sound (plain 16 true 3))
unfolding bytes_of le head_len input_of ntrans_of sizes_byte index_len size_of down_from bytes_down numbers_down transitions_of node_of sound_test node_at
at_G = (refl, refl)

chain_G : RootChain (fst_of G1 (meta_is 22)) (22 ∷ 19 ∷ [])
chain_G = rooted (λ z. omega arith) (next (plain 20 true 0) at_G.0 (λ z. omega arith) (last (plain 16 true 3) at_G.1 refl))

pub chain_E : RootChain (fst_of E1 (meta_is 0)) []
chain_E = empty refl

at_L : node_in (fst_of L1 (meta_is 18)) 18 ≡ sound (plain 16 false 0)
unfolding bytes_of le head_len input_of ntrans_of sizes_byte index_len size_of down_from bytes_down numbers_down transitions_of node_of sound_test node_at
at_L = refl

chain_L : RootChain (fst_of L1 (meta_is 18)) (18 ∷ [])
chain_L = rooted (λ z. omega arith) (last (plain 16 false 0) at_L refl)

-- ---- the rows

-- the node that vanishes is address 0, and so its target; the other is packed at 16
pub row_vanished : (A : Admitted W1) → (converted A ≡ W2) × ((length (converted A) ≡ 41) × (table_of A ≡ replicate 27 0 ++ (24 ∷ replicate 16 0)))
unfolding bytes_of size_up_to pack_size largest common_inputs common_inputs_inv common_idx stored_numbers stored_bytes place_from up_from index_of index_bytes output_size delta_size input_bytes packed_next packed_one head_of packed_any packed le head_len input_of ntrans_of sizes_byte index_len size_of down_from bytes_down numbers_down transitions_of node_of sound_test node_at new_addr lay_out
row_vanished A = (file_row A opens_W chain_W, (ap length (file_row A opens_W chain_W), table_row A opens_W chain_W))

-- the root vanishes, and with it the node of output 3 below
pub row_root_vanished : (A : Admitted G1) → (converted A ≡ file_is 2 [] 0) × (table_of A ≡ replicate 39 0)
unfolding bytes_of le head_len input_of ntrans_of sizes_byte index_len size_of down_from bytes_down numbers_down transitions_of node_of sound_test node_at up_from new_addr lay_out
row_root_vanished A = (file_row A opens_G chain_G, table_row A opens_G chain_G)

-- root 0: 32 bytes
pub row_no_node : (A : Admitted E1) → (converted A ≡ file_is 2 [] 0) × (table_of A ≡ replicate 32 0)
unfolding bytes_of le head_len input_of ntrans_of sizes_byte index_len size_of down_from bytes_down numbers_down transitions_of node_of sound_test node_at up_from new_addr lay_out
row_no_node A = (file_row A opens_E chain_E, table_row A opens_E chain_E)

-- a file of 35 bytes that holds nothing stays as long
pub row_nothing_held : (A : Admitted L1) → converted A ≡ file_is 2 (0 ∷ 0 ∷ 0 ∷ []) 18
unfolding bytes_of size_up_to pack_size largest common_inputs common_inputs_inv common_idx stored_numbers stored_bytes place_from up_from index_of index_bytes output_size delta_size input_bytes packed_next packed_one head_of packed_any packed le head_len input_of ntrans_of sizes_byte index_len size_of down_from bytes_down numbers_down transitions_of node_of sound_test node_at new_addr lay_out
row_nothing_held A = file_row A opens_L chain_L

-- the output one byte short; the table one entry short; both, with the limit below the result
pub row_refused : (A : Admitted W1)
    → (conversion max_len A 40 44 ≡ refused SPACE) × ((conversion max_len A 41 43 ≡ refused SPACE) × (conversion 40 A 40 43 ≡ refused LARGE))
unfolding bytes_of size_up_to pack_size largest common_inputs common_inputs_inv common_idx stored_numbers stored_bytes place_from up_from index_of index_bytes output_size delta_size input_bytes packed_next packed_one head_of packed_any packed le head_len input_of ntrans_of sizes_byte index_len size_of down_from bytes_down numbers_down transitions_of node_of sound_test node_at new_addr lay_out
row_refused A =
    (conversion_row A opens_W chain_W max_len 40 44, (conversion_row A opens_W chain_W max_len 41 43, conversion_row A opens_W chain_W 40 40 43))

-- what is of version 2 already
opens_W2 : opening W2 ≡ opened (record { version = 2; ty = 7; len = 3; root = 24; checksum = none })
unfolding bytes_of le meta_of root_test opening
opens_W2 = refl

-- another version than 1 is refused, whatever else is given
edition : {s : List ℕ} (A : Admitted s) (limit room entries : ℕ) → ¬ (A.meta.version ≡ 1) → conversion limit A room entries ≡ refused EDITION
unfolding conversion
edition A limit room entries ne = rw (ne_eqb A.meta.version 1 ne)

pub row_version_2 : (A : Admitted W2) (limit room entries : ℕ) → conversion limit A room entries ≡ refused EDITION
row_version_2 A limit room entries =
    let o = A.opens in
    let p = opens_W2 in
    let is : A.meta ≡ record { version = 2; ty = 7; len = 3; root = 24; checksum = none } = cc in
    let v : A.meta.version ≡ 2 = ap (λ (m : Meta). m.version) is in
    edition A limit room entries (λ z. omega arith)

-- a blank card says version 0
pub row_blank : (A : Admitted []) (limit room entries : ℕ) → conversion limit A room entries ≡ refused EDITION
row_blank A limit room entries =
    let o = A.opens in
    let p = opening_blank [] refl in
    let is : A.meta ≡ meta_of [] = cc in
    let v : A.meta.version ≡ 0 = ap (λ (m : Meta). m.version) (is ∙ blank_meta) in
    edition A limit room entries (λ z. omega arith)

-- ---- one node of 33 transitions to address 0, inputs 32 to 0 as they are stored: the index came

unfoldable pub down_to : ℕ → List ℕ
down_to zero = 0 ∷ []
down_to (suc n) = suc n ∷ down_to n

abbrev pub I1 : List ℕ
I1 = file_is 1 (replicate 33 0 ++ (down_to 32 ++ (16 ∷ 33 ∷ []))) 83

opens_I : opening I1 ≡ opened (meta_is 83)
unfolding bytes_of le meta_of root_test opening down_to
opens_I = refl

abbrev alike : ℕ → Transition
alike inp = record { inp = inp; out = 0; addr = 0 }

unfoldable pub up_to : ℕ → ℕ → List Transition
up_to i zero = []
up_to i (suc n) = alike i ∷ up_to (suc i) n

abbrev node_i : Node
node_i = record { first = 16; final = false; final_output = 0; transitions = up_to 0 33 }

at_I : node_in (fst_of I1 (meta_is 83)) 83 ≡ sound node_i
unfolding bytes_of le head_len input_of ntrans_of sizes_byte index_len size_of down_from bytes_down numbers_down transitions_of node_of sound_test node_at down_to up_to
at_I = refl

chain_I : RootChain (fst_of I1 (meta_is 83)) (83 ∷ [])
chain_I = rooted (λ z. omega arith) (last node_i at_I refl)

pub row_index : (A : Admitted I1) → (length I1 ≡ 100) × (length (converted A) ≡ 356)
unfolding bytes_of size_up_to pack_size largest common_inputs common_inputs_inv common_idx stored_numbers stored_bytes place_from up_from index_of index_bytes output_size delta_size input_bytes packed_next packed_one head_of packed_any packed le head_len input_of ntrans_of sizes_byte index_len size_of down_from bytes_down numbers_down transitions_of node_of sound_test node_at new_addr lay_out down_to up_to
row_index A = (refl, ap length (file_row A opens_I chain_I))
