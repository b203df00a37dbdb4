-- What a packed file says of itself: version 2, type 0, the number of keys and the root.
--     length_file          32 bytes and the nodes
--     file_has             the file has the nodes, for any root that is not below their end
--     version_said .. root_said    what is read back
--     file_opens           it opens where its root is 0 without nodes, or the last byte of the nodes
-- Assumes nothing.
use Rattle.std.specs.Prelude.{◌≡◌, Bool, true, false, ◌⊎◌, take, drop}
use Rattle.std.proofs.Math.Path.{refl, sym, ap}
use Rattle.std.proofs.Common.{ap₂, ◌∙◌, inl, inr, ⊎_elim, arith, le-leb, eq-eqb, take_at, drop_at}
use mathlib.Core.List.{List, [], ◌∷◌, ◌++◌, append_assoc, append-nil}
use Prim.Native.Nat.{ℕ, ◌+◌, ◌-◌, ◌^◌, ◌≤◌, ◌<◌}
use Rattle.std.proofs.Math.ListN.{length, length-append}
use Rattle.format.specs.Limits.{max_len}
use Rattle.format.specs.Bytes.{le, bytes_of}
use Rattle.format.specs.Laws.BytesLaws.{length_bytes_of, le_bytes_of}
use Rattle.format.specs.Opening.{Meta, number_at, trailer_len, least_len, meta_of, root_test, opened, opening}
use Rattle.format.specs.Laws.OpeningLaws.{root_none, root_some, opening_opened}
use Rattle.format.specs.Paths.{Fst, fst_with, fst_of}
use Rattle.packing.specs.Registry.{Interned}
use Rattle.packing.specs.Packing.{file_of}
use Rattle.packing.proofs.FileLaws.{Has}

-- a number of k bytes between other bytes
number_between : (pre post : List ℕ) (k n at : ℕ) → n < 256 ^ k → length pre ≡ at → number_at (pre ++ (bytes_of k n ++ post)) at k ≡ n
number_between pre post k n at small e =
    ap (λ (l : List ℕ). le (take k l)) (drop_at pre (bytes_of k n ++ post) at e) ∙ ap le (take_at (bytes_of k n) post k (length_bytes_of k n)) ∙ le_bytes_of k n small

module _ (count : ℕ) (r : Interned) where
  abbrev nodes : List ℕ
  nodes = r.build.nodes

  abbrev file : List ℕ
  file = file_of count r

  abbrev header : List ℕ
  header = bytes_of 8 2 ++ bytes_of 8 0

  abbrev trailer : List ℕ
  trailer = bytes_of 8 count ++ bytes_of 8 r.addr

  length_header : length header ≡ 16
  length_header = omega (arith, length-append (bytes_of 8 2) (bytes_of 8 0), length_bytes_of 8 2, length_bytes_of 8 0)

  length_trailer : length trailer ≡ 16
  length_trailer = omega (arith, length-append (bytes_of 8 count) (bytes_of 8 r.addr), length_bytes_of 8 count, length_bytes_of 8 r.addr)

  file_is_lem : file ≡ header ++ (nodes ++ trailer)
  unfolding file_of
  file_is_lem = sym (append_assoc (bytes_of 8 2) (bytes_of 8 0) (nodes ++ trailer))

  pub length_file : length file ≡ 32 + length nodes
  length_file =
      ap length file_is_lem
      ∙ (omega (arith, length-append header (nodes ++ trailer), length-append nodes trailer, length_header, length_trailer))

  pub file_has : (root : ℕ) → 15 + length nodes ≤ root → root < max_len → Has nodes (fst_with file 2 root)
  file_has root low high = record { pre = header; post = trailer; at = length_header; bytes = file_is_lem; version = refl; low = low; high = high }

  pub version_said : number_at file 0 8 ≡ 2
  unfolding file_of
  version_said = number_between [] (bytes_of 8 0 ++ (nodes ++ trailer)) 8 2 0 (omega arith) refl

  pub type_said : (meta_of file).ty ≡ 0
  unfolding meta_of file_of
  type_said = number_between (bytes_of 8 2) (nodes ++ trailer) 8 0 8 (omega arith) (length_bytes_of 8 2)

  trailer_place : length file - trailer_len (number_at file 0 8) ≡ 16 + length nodes
  trailer_place = rw version_said (omega (arith, length_file))

  pub count_said : count < 256 ^ 8 → (meta_of file).len ≡ count
  unfolding meta_of
  count_said small =
      let is : file ≡ (header ++ nodes) ++ trailer = file_is_lem ∙ sym (append_assoc header nodes trailer) in
      rw trailer_place
      (ap (λ (l : List ℕ). number_at l (16 + length nodes) 8) is
      ∙ number_between (header ++ nodes) (bytes_of 8 r.addr) 8 count (16 + length nodes) small (omega (arith, length-append header nodes, length_header)))

  pub root_said : r.addr < 256 ^ 8 → (meta_of file).root ≡ r.addr
  unfolding meta_of
  root_said small =
      let k : List ℕ = bytes_of 8 count in
      let a : List ℕ = bytes_of 8 r.addr in
      let is : file ≡ ((header ++ nodes) ++ k) ++ (a ++ []) =
      file_is_lem ∙ sym (append_assoc header nodes (k ++ a)) ∙ sym (append_assoc (header ++ nodes) k a) ∙ ap (λ (l : List ℕ). ((header ++ nodes) ++ k) ++ l) (sym (append-nil a)) in
      rw trailer_place
      (ap (λ (l : List ℕ). number_at l (16 + length nodes + 8) 8) is
      ∙ number_between ((header ++ nodes) ++ k) [] 8 r.addr (16 + length nodes + 8) small
      (omega (arith, length-append (header ++ nodes) k, length-append header nodes, length_header, length_bytes_of 8 count)))

  abbrev pub Placed : Type 0
  Placed = ((r.addr ≡ 0) × (length nodes ≡ 0)) ⊎ ((r.addr ≡ 15 + length nodes) × (0 < length nodes))

  module _ (small : length file ≤ max_len) (place : Placed) where
    root_lt : r.addr < 256 ^ 8
    root_lt = ⊎_elim (λ q. omega (arith, q.0)) (λ q. omega (arith, q.0, length_file, small)) place

    pub file_said : fst_with file 2 r.addr ≡ fst_of file (meta_of file)
    unfolding meta_of
    file_said = sym (ap₂ (λ (v a : ℕ). fst_with file v a) version_said (root_said root_lt))

    root_right : root_test 2 r.addr (length file) ≡ true
    root_right =
        ⊎_elim
        (λ q.
        ap (λ (a : ℕ). root_test 2 a (length file)) q.0
        ∙ root_none 2 (length file)
        ∙ eq-eqb (length file) (least_len 2) (omega (arith, length_file, q.1)))
        (λ q.
        root_some 2 r.addr (length file) (λ z. omega (arith, q.0))
        ∙ (rw (le-leb 16 r.addr (omega (arith, q.0, q.1)), eq-eqb (r.addr + 1 + trailer_len 2) (length file) (omega (arith, q.0, length_file)))))
        place

    pub file_opens : opening file ≡ opened (meta_of file)
    unfolding meta_of
    file_opens =
        opening_opened file (λ z. omega (arith, length_file)) (omega (arith, length_file)) small (rw version_said refl)
        (rw version_said (omega (arith, length_file)))
        (ap₂ (λ (v a : ℕ). root_test v a (length file)) version_said (root_said root_lt) ∙ root_right)
