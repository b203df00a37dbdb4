-- Laws of interning in the lent buffers: each way to an address.
--     laid_is, laid_of     the output as 16 bytes 0, nodes and zeros, and back
--     laid_front           what stands below the next node's place
--     cell_at_lem              a lent cell
--     found_nothing, found_first, found_second, written, no_room    what each way of the code leaves
-- Assumes nothing.
use Rattle.std.specs.Prelude.{◌≡◌, Option, None, Some, Bool, true, false, cond, ◌&&◌, not, eqb, leb, take, drop, set, replicate, Ok, Err, Result, ℕ}
use Rattle.std.proofs.Math.Path.{refl, ap, ap₂, subst}
use Rattle.std.specs.Result.{result_ok}
use Rattle.std.proofs.Common.{sym, ◌∙◌, eq-eqb, leb-true, leb-false, length-drop, take-append-drop, drop_of_length-le, length-take-le, take_all, take_at, drop_at, take-add}
use Rattle.std.proofs.Math.Logic.{inl, inr}
use mathlib.Core.List.{List, [], ◌∷◌, ◌++◌, append_assoc, append-nil}
use Prim.Native.Nat.{ℕ, zero, suc, ◌+◌, ◌-◌, ◌*◌, ◌/◌, ◌%◌, ◌≤◌, ◌<◌}
use native.Mathlib.Omega.{arith}
use Rattle.std.proofs.Math.ListN.{length, length-append}
use Rattle.std.proofs.lemmas.List.{length-replicate}
use Rattle.format.specs.declared.Refusal.{Refusal}
use Rattle.format.specs.Limits.{SPACE}
use Rattle.format.specs.Packed.{BuilderNode, TargetOk, packed, packs_to_nothing, written, refused}
use Rattle.node_compile.specs.Compile.{answer_as, buffer_after}
use Rattle.node_compile.specs.Parts.{Fitted}
use Rattle.packing.specs.Registry.{hash_of, Cell, Build, cell_at, row_of, matches, Interned, row_set, write_node, promote, intern}
use Rattle.packing.proofs.FileLaws.{packed_some}
use Rattle.packing.proofs.BuildLaws.{row_set_lem}
use Rattle.pack_cell.specs.Cells.{at}
use Rattle.pack_cell.specs.declared.Cell as code
use Rattle.registry.specs.Matching.{cell_with, cell_of, matches_in, matches_in_lem, chosen, intern_by, intern_chosen}
use Rattle.registry.specs.declared.Choice.{Choice}
use Rattle.registry.specs.declared.Choice.TheVariants.{First, Second, Write}
use Rattle.pack_intern.specs.declared.Placed.{Placed}
use Rattle.pack_intern.specs.Interning.{nodes_in, cells_is, build_is, Laid, CellFit, CellsFit, Ready, Writable, write_of, interned_with, placed, AtIs, InternIs}

-- ---- the output

length_nodes : {out : List ℕ} {first : ℕ} → Laid out first → 16 + length (nodes_in out first) ≡ first
length_nodes {out} {first} l =
    let n = length-take-le (first - 16) (drop 16 out) (omega (arith, length-drop 16 out, l.high)) in
    omega (arith, n, l.low)

pub nodes_length : {out : List ℕ} {first : ℕ} → Laid out first → 16 + length (nodes_in out first) ≡ first
nodes_length l = length_nodes l

pub laid_front : {out : List ℕ} {first : ℕ} → Laid out first → take first out ≡ replicate 16 0 ++ nodes_in out first
laid_front {out} {first} l =
    let e : first ≡ 16 + (first - 16) = omega (arith, l.low) in
    ap (λ (n : ℕ). take n out) e ∙ take-add 16 (first - 16) out ∙ ap (λ (z : List ℕ). z ++ nodes_in out first) l.head

pub laid_is : {out : List ℕ} {first : ℕ} → Laid out first → out ≡ (replicate 16 0 ++ nodes_in out first) ++ replicate (length out - first) 0
laid_is {out} {first} l = sym (take-append-drop first out) ∙ ap₂ (λ (a b : List ℕ). a ++ b) (laid_front l) l.rest

module _ (nodes : List ℕ) (z : ℕ) where
  abbrev out' : List ℕ
  out' = (replicate 16 0 ++ nodes) ++ replicate z 0

  front_length : length (replicate 16 0 ++ nodes) ≡ 16 + length nodes
  front_length = length-append (replicate 16 0) nodes ∙ ap (λ (n : ℕ). n + length nodes) (length-replicate {A = ℕ} 16 0)

  out_length : length out' ≡ 16 + length nodes + z
  out_length = length-append (replicate 16 0 ++ nodes) (replicate z 0) ∙ ap₂ (λ (a b : ℕ). a + b) front_length (length-replicate {A = ℕ} z 0)

  pub nodes_of : nodes_in out' (16 + length nodes) ≡ nodes
  nodes_of =
      let e : 16 + length nodes - 16 ≡ length nodes = omega arith in
      rw e (ap (λ (l : List ℕ). take (length nodes) (drop 16 l)) (append_assoc (replicate 16 0) nodes (replicate z 0))
      ∙ ap (take (length nodes)) (drop_at (replicate 16 0) (nodes ++ replicate z 0) 16 (length-replicate {A = ℕ} 16 0)) ∙ take_at nodes (replicate z 0) (length nodes) refl)

  pub laid_of : Laid out' (16 + length nodes)
  laid_of = record {
    low = omega arith;
    high = omega (arith, out_length);
    head = ap (take 16) (append_assoc (replicate 16 0) nodes (replicate z 0)) ∙ take_at (replicate 16 0) (nodes ++ replicate z 0) 16 (length-replicate {A = ℕ} 16 0);
    rest =
        let e : length out' - (16 + length nodes) ≡ z = omega (arith, out_length) in
        drop_at (replicate 16 0 ++ nodes) (replicate z 0) (16 + length nodes) front_length ∙ ap (λ (n : ℕ). replicate n 0) (sym e);
  }

drop_replicate : (k n : ℕ) → drop {A = ℕ} k (replicate n 0) ≡ replicate (n - k) 0
drop_replicate zero n = let e : n - 0 ≡ n = omega arith in rw e
drop_replicate (suc k) zero = let e : 0 - suc k ≡ 0 = omega arith in rw e
drop_replicate (suc k) (suc n) = let e : suc n - suc k ≡ n - k = omega arith in rw e (drop_replicate k n)

-- ---- cells

pub cell_at_lem : (cells : List code.Cell) (i : ℕ) → cell_at (cells_is cells) i ≡ cell_of (at cells i)
cell_at_lem [] i = refl
cell_at_lem (c ∷ cells) zero = refl
cell_at_lem (c ∷ cells) (suc i) = cell_at_lem cells i

pub length_cells : (cells : List code.Cell) → length (cells_is cells) ≡ length cells
length_cells [] = refl
length_cells (c ∷ cells) = ap suc (length_cells cells)

map_set : (cells : List code.Cell) (i : ℕ) (c : code.Cell) → cells_is (set cells i c) ≡ set (cells_is cells) i (cell_of c)
map_set [] i c = refl
map_set (x ∷ cells) zero c = refl
map_set (x ∷ cells) (suc i) c = ap (λ (l : List Cell). cell_of x ∷ l) (map_set cells i c)

pub row_stored : (cells : List code.Cell) (i : ℕ) (c d : code.Cell) → cells_is (set (set cells i c) (i + 1) d) ≡ row_set (cells_is cells) i (cell_of c) (cell_of d)
row_stored cells i c d = map_set (set cells i c) (i + 1) d ∙ ap (λ (l : List Cell). set l (i + 1) (cell_of d)) (map_set cells i c)

fit_grows : (first later : ℕ) (c : Cell) → first ≤ later → CellFit first c → CellFit later c
fit_grows first later c le (inl z) = inl z
fit_grows first later c le (inr w) = inr (w.0, omega (arith, w.1))

-- the two cells of a row are stored
row_fits : (first later : ℕ) (cells cells' : List code.Cell) (i : ℕ) (c d : Cell) → first ≤ later → CellsFit first cells → cells_is cells' ≡ row_set (cells_is cells) i c d
    → CellFit later c → CellFit later d → CellsFit later cells'
row_fits first later cells cells' i c d le f is fc fd = record {
  fit = λ j.
      subst (λ (l : List Cell). CellFit later (cell_at l j)) (sym is)
      (row_set_lem (λ (k : ℕ) (x : Cell). CellFit later x) (cells_is cells) i c d fc fd (λ k. fit_grows first later (cell_at (cells_is cells) k) le (f.fit k)) j);
}

-- ---- a match

never_true : {A : Type 0} → false ≡ true → A
never_true e = absurd (let z : ◌≡◌ {A = ℕ} 0 1 = cc in omega arith)

-- a cell that matches has an address of a node
match_target : (file : List ℕ) (b : BuilderNode) (c : Cell) (first : ℕ) → matches_in file b c ≡ true → CellFit first c → TargetOk first c.addr
unfolding TargetOk
match_target file b c first e (inl z) = never_true (sym (and_false (eqb c.addr 1) _ (eq-eqb c.addr 1 z)) ∙ e)
  where
    and_false : (x y : Bool) → x ≡ true → (not x && y) ≡ false
    and_false true y p = refl
    and_false false y p = never_true p
match_target file b c first e (inr w) = inr w

chosen_first : (x y : Bool) → chosen x y ≡ First → x ≡ true
chosen_first true y e = refl
chosen_first false true e = absurd (let z : ◌≡◌ {A = ℕ} 0 1 = cc in omega arith)
chosen_first false false e = absurd (let z : ◌≡◌ {A = ℕ} 0 1 = cc in omega arith)

chosen_second : (x y : Bool) → chosen x y ≡ Second → y ≡ true
chosen_second true y e = absurd (let z : ◌≡◌ {A = ℕ} 0 1 = cc in omega arith)
chosen_second false true e = refl
chosen_second false false e = absurd (let z : ◌≡◌ {A = ℕ} 0 1 = cc in omega arith)

-- ---- what each way leaves

-- an answer with an address
pub answered : {R : Interned} {first : ℕ} {out : List ℕ} {cells : List code.Cell} {a next : ℕ} → AtIs R first out cells a next → InternIs R first out cells (Some (placed a next))
answered {R} {first} {out} {cells} {a} {next} w = record {
  at = λ p e. let same : placed a next ≡ p = cc in subst (λ (q : Placed). AtIs R first out cells q.addr q.next) same w;
  full = λ e. cc;
}

module _ (out : List ℕ) (first : ℕ) (cells : List code.Cell) (ready : Ready out first cells) (b : BuilderNode) where
  abbrev B : Build
  B = build_is out first cells

  pub found_nothing : packs_to_nothing b ≡ true → InternIs (intern B b) first out cells (Some (placed 0 first))
  unfolding intern TargetOk
  found_nothing e = answered (record { is = rw e; ready = ready; grown = omega arith; target = inl refl })

  module _ (some : packs_to_nothing b ≡ false) (i : ℕ) (row : i ≡ row_of (cells_is cells) b) (low : i + 1 < length cells)
      {one two : code.Cell} (one_is : one ≡ at cells i) (two_is : two ≡ at cells (i + 1)) (choice : Choice)
      (by : choice ≡ chosen (matches_in (take first out) b (cell_of one)) (matches_in (take first out) b (cell_of two))) where
    abbrev M : ℕ → Bool
    M j = matches_in (take first out) b (cell_of (at cells j))

    is : choice ≡ chosen (M i) (M (i + 1))
    is = by ∙ ap₂ (λ (c d : code.Cell). chosen (matches_in (take first out) b (cell_of c)) (matches_in (take first out) b (cell_of d))) one_is two_is

    match_is : (j : ℕ) → j < length cells → M j ≡ matches B.nodes b (cell_at (cells_is cells) j)
    match_is j l =
        ap (λ (f : List ℕ). matches_in f b (cell_of (at cells j))) (laid_front ready.laid) ∙ matches_in_lem (nodes_in out first) b (cell_of (at cells j))
        ∙ ap (matches B.nodes b) (sym (cell_at_lem cells j))

    pub by_choice : intern B b ≡ intern_by B b choice
    by_choice =
        intern_chosen B b some
        ∙ ap (intern_by B b) (ap₂ chosen (sym (match_is i (omega arith) ∙ ap (λ (j : ℕ). matches B.nodes b (cell_at (cells_is cells) j)) row))
        (sym (match_is (i + 1) low ∙ ap (λ (j : ℕ). matches B.nodes b (cell_at (cells_is cells) (j + 1))) row)) ∙ sym is)

    pub found_first : choice ≡ First → InternIs (intern B b) first out cells (Some (placed one.addr first))
    found_first e = rw one_is (answered (record {
      is = by_choice ∙ ap (intern_by B b) e ∙ ap (λ (a : ℕ). interned_with B a) (ap (λ (j : ℕ). (cell_at (cells_is cells) j).addr) (sym row) ∙ ap (λ (c : Cell). c.addr) (cell_at_lem cells i));
      ready = ready;
      grown = omega arith;
      target = match_target (take first out) b (cell_of (at cells i)) first (chosen_first (M i) (M (i + 1)) (sym is ∙ e))
          (subst (CellFit first) (cell_at_lem cells i) (ready.cells_fit.fit i));
    }))

    pub found_second : choice ≡ Second → (cells' : List code.Cell) → length cells' ≡ length cells
        → cells' ≡ set (set cells i (at cells (i + 1))) (i + 1) (at cells i)
        → InternIs (intern B b) first out cells' (Some (placed two.addr first))
    found_second e cells' len put =
        let stored = ap cells_is put ∙ row_stored cells i (at cells (i + 1)) (at cells i) in
        let c₀ = cell_at_lem cells i in
        let c₁ = cell_at_lem cells (i + 1) in
        let fit₀ = subst (CellFit first) c₀ (ready.cells_fit.fit i) in
        let fit₁ = subst (CellFit first) c₁ (ready.cells_fit.fit (i + 1)) in
        rw two_is (answered (record {
          is = by_choice ∙ ap (intern_by B b) e ∙ ap (promote B) (sym row)
              ∙ ap₂ (λ (x y : Cell). interned_with (record { nodes = B.nodes; cells = row_set (cells_is cells) i y x }) y.addr) c₀ c₁
              ∙ ap (λ (l : List Cell). interned_with (record { nodes = B.nodes; cells = l }) ((at cells (i + 1)).addr)) (sym stored);
          ready = record {
            laid = ready.laid;
            cells_fit = row_fits first first cells cells' i (cell_of (at cells (i + 1))) (cell_of (at cells i)) (omega arith) ready.cells_fit stored fit₁ fit₀;
            two = omega (arith, len, ready.two);
          };
          grown = omega arith;
          target = match_target (take first out) b (cell_of (at cells (i + 1))) first (chosen_second (M i) (M (i + 1)) (sym is ∙ e)) fit₁;
        }))

    pub by_write : choice ≡ Write → (out' : List ℕ) (cells' : List code.Cell) (r : Option Placed) → InternIs (write_of B b) first out' cells' r → InternIs (intern B b) first out' cells' r
    by_write e out' cells' r w = subst (λ (x : Interned). InternIs x first out' cells' r) (sym (by_choice ∙ ap (intern_by B b) e)) w

  pub row_is : (hash i : ℕ) → hash ≡ hash_of b → i ≡ 2 * (hash % (length cells / 2)) → i ≡ row_of (cells_is cells) b
  unfolding row_of
  row_is hash i h e = e ∙ ap₂ (λ (x n : ℕ). 2 * (x % (n / 2))) h (sym (length_cells cells))

  -- ---- a node is written

  abbrev bytes : List ℕ
  bytes = packed (16 + length (nodes_in out first)) b

  abbrev R : Interned
  R = write_node B b (nodes_in out first ++ bytes)

  abbrev z : ℕ
  z = length out - first

  -- the output's rest after the packer has written to its front
  abbrev grown_out : List ℕ → List ℕ
  grown_out part = take first out ++ part

  grown_is : (part : List ℕ) → length bytes ≤ z → part ≡ bytes ++ drop (length bytes) (drop first out)
      → grown_out part ≡ (replicate 16 0 ++ (nodes_in out first ++ bytes)) ++ replicate (z - length bytes) 0
  grown_is part room is =
      ap₂ (λ (a c : List ℕ). a ++ c) (laid_front ready.laid) (is ∙ ap (λ (l : List ℕ). bytes ++ drop (length bytes) l) ready.laid.rest ∙ ap (λ (l : List ℕ). bytes ++ l) (drop_replicate (length bytes) z))
      ∙ sym (append_assoc (replicate 16 0 ++ nodes_in out first) bytes (replicate (z - length bytes) 0))
      ∙ ap (λ (l : List ℕ). l ++ replicate (z - length bytes) 0) (append_assoc (replicate 16 0) (nodes_in out first) bytes)

  pub no_room : z < length bytes → length out < 16 + length R.build.nodes
  no_room short = omega (arith, short, length-append (nodes_in out first) bytes, length_nodes ready.laid, ready.laid.high)

  pub written_at : (some : packs_to_nothing b ≡ false) (i : ℕ) → i ≡ row_of (cells_is cells) b → i + 1 < length cells → length bytes ≤ z
      → (part : List ℕ) → part ≡ bytes ++ drop (length bytes) (drop first out) → (cells' : List code.Cell) → length cells' ≡ length cells
      → cells_is cells' ≡ row_set (cells_is cells) i (cell_with (first + length bytes - 1) (hash_of b)) (cell_of (at cells i))
      → AtIs R first (grown_out part) cells' (first + length bytes - 1) (first + length bytes)
  unfolding TargetOk
  written_at some i row low room part is cells' len stored =
      let n = length_nodes ready.laid in
      let nodes : List ℕ = nodes_in out first ++ bytes in
      let more = packed_some (16 + length (nodes_in out first)) b some in
      let size = length-append (nodes_in out first) bytes in
      let place : 16 + length nodes ≡ first + length bytes = omega arith in
      let addr : 15 + length nodes ≡ first + length bytes - 1 = omega arith in
      let w = grown_is part room is in
      let nodes_are : nodes_in (grown_out part) (first + length bytes) ≡ nodes =
      ap₂ (λ (l : List ℕ) (k : ℕ). nodes_in l k) w (sym place) ∙ nodes_of nodes (z - length bytes) in
      let laid : Laid (grown_out part) (first + length bytes) =
      subst (λ (l : List ℕ). Laid l (first + length bytes)) (sym w) (subst (Laid _) place (laid_of nodes (z - length bytes))) in
      let c₀ = cell_at_lem cells i in
      record {
        is =
            ap (λ (a : ℕ). interned_with (record { nodes = nodes; cells = row_set (cells_is cells) (row_of (cells_is cells) b) (cell_with a (hash_of b)) (cell_at (cells_is cells) (row_of (cells_is cells) b)) }) a) addr
            ∙ ap (λ (j : ℕ). interned_with (record { nodes = nodes; cells = row_set (cells_is cells) j (cell_with (first + length bytes - 1) (hash_of b)) (cell_at (cells_is cells) j) }) (first + length bytes - 1)) (sym row)
            ∙ ap (λ (c : Cell). interned_with (record { nodes = nodes; cells = row_set (cells_is cells) i (cell_with (first + length bytes - 1) (hash_of b)) c }) (first + length bytes - 1)) c₀
            ∙ ap₂ (λ (m : List ℕ) (l : List Cell). interned_with (record { nodes = m; cells = l }) (first + length bytes - 1)) (sym nodes_are) (sym stored);
        ready = record {
          laid = laid;
          cells_fit = row_fits first (first + length bytes) cells cells' i (cell_with (first + length bytes - 1) (hash_of b)) (cell_of (at cells i)) (omega arith)
              ready.cells_fit stored (inr (omega (arith, ready.laid.low), omega arith))
              (fit_grows first (first + length bytes) (cell_of (at cells i)) (omega arith) (subst (CellFit first) c₀ (ready.cells_fit.fit i)));
          two = omega (arith, len, ready.two);
        };
        grown = omega arith;
        target = inr (omega (arith, ready.laid.low), omega arith);
      }

  -- ---- the packer's answer

  abbrev part₀ : List ℕ
  part₀ = take z (drop first out)

  part_whole : part₀ ≡ drop first out
  part_whole = take_all z (drop first out) (omega (arith, length-drop first out))

  part_length : length part₀ ≡ z
  part_length = ap length part_whole ∙ length-drop first out

  after_nil : drop z (drop first out) ≡ []
  after_nil = drop_of_length-le (drop first out) {i = z} (omega (arith, length-drop first out))

  abbrev out_after : List ℕ → List ℕ
  out_after part = take first out ++ (part ++ drop z (drop first out))

  out_after_lem : (part : List ℕ) → out_after part ≡ grown_out part
  out_after_lem part = ap (λ (l : List ℕ). take first out ++ (part ++ l)) after_nil ∙ ap (λ (l : List ℕ). take first out ++ l) (append-nil part)

  bytes_at : packed first b ≡ bytes
  bytes_at = ap (λ (n : ℕ). packed n b) (sym (length_nodes ready.laid))

  -- it wrote len bytes
  pub fitted_len : (part : List ℕ) (r : Result ℕ Refusal) (len : ℕ) → Fitted (packed first b) part₀ part r → r ≡ Ok len
      → (length bytes ≤ z) × (len ≡ length bytes) × (part ≡ bytes ++ drop (length bytes) (drop first out))
  fitted_len part r len f e = go (leb (length (packed first b)) (length part₀)) refl (sym e ∙ f.answer) f.buffer
    where
      go : (t : Bool) → leb (length (packed first b)) (length part₀) ≡ t → Ok len ≡ answer_as (cond t (written (packed first b)) (refused SPACE))
          → part ≡ buffer_after (cond t (written (packed first b)) (refused SPACE)) part₀
          → (length bytes ≤ z) × (len ≡ length bytes) × (part ≡ bytes ++ drop (length bytes) (drop first out))
      go true fits is buf =
          let same : length (packed first b) ≡ len = cc in
          let l = ap length bytes_at in (
            omega (arith, leb-true (length (packed first b)) (length part₀) fits, part_length, l),
            omega (arith, same, l),
            buf ∙ ap₂ (λ (x y : List ℕ). x ++ drop (length x) y) bytes_at part_whole,
          )
      go false fits is buf = absurd (let w : ◌≡◌ {A = ℕ} 0 1 = cc in omega arith)

  fitted_not : (part : List ℕ) (r : Result ℕ Refusal) (k : Refusal) → Fitted (packed first b) part₀ part r → r ≡ Err k → (z < length bytes) × (part ≡ part₀)
  fitted_not part r k f e = go (leb (length (packed first b)) (length part₀)) refl (sym e ∙ f.answer) f.buffer
    where
      go : (t : Bool) → leb (length (packed first b)) (length part₀) ≡ t → Err k ≡ answer_as (cond t (written (packed first b)) (refused SPACE))
          → part ≡ buffer_after (cond t (written (packed first b)) (refused SPACE)) part₀ → (z < length bytes) × (part ≡ part₀)
      go true fits is buf = absurd (let w : ◌≡◌ {A = ℕ} 0 1 = cc in omega arith)
      go false fits is buf = (omega (arith, leb-false (length (packed first b)) (length part₀) fits, part_length, ap length bytes_at), buf)

  pub wrote : (i hash : ℕ) → Writable out first cells i hash b → (part : List ℕ) (r : Result ℕ Refusal) (len : ℕ) → Fitted (packed first b) part₀ part r → r ≡ Ok len
      → {old : code.Cell} → old ≡ at cells i → {cells' : List code.Cell} → length cells' ≡ length cells → cells' ≡ set (set cells i (record { addr = first + len - 1; hash = hash })) (i + 1) old
      → InternIs (write_of B b) first (out_after part) cells' (Some (placed (first + len - 1) (first + len)))
  wrote i hash w part r len f e {old} old_is {cells'} long put =
      let stored : cells_is cells' ≡ row_set (cells_is cells) i (cell_with (first + len - 1) hash) (cell_of (at cells i)) =
      ap cells_is put ∙ row_stored cells i (record { addr = first + len - 1; hash = hash }) old ∙ ap (λ (c : code.Cell). row_set (cells_is cells) i (cell_with (first + len - 1) hash) (cell_of c)) old_is in
      let p = fitted_len part r len f e in
      let at = written_at w.some i w.row w.low p.0 part p.2 cells' long
      (stored ∙ ap₂ (λ (n h : ℕ). row_set (cells_is cells) i (cell_with (first + n - 1) h) (cell_of (at cells i))) p.1 w.hash_is) in
      answered (subst (λ (l : List ℕ). AtIs R first l cells' (first + len - 1) (first + len)) (sym (out_after_lem part))
      (subst (λ (n : ℕ). AtIs R first (grown_out part) cells' (first + n - 1) (first + n)) (sym p.1) at))

  pub has_no_room : (part : List ℕ) (r : Result ℕ Refusal) (k : Refusal) → Fitted (packed first b) part₀ part r → r ≡ Err k → InternIs (write_of B b) first (out_after part) cells None
  has_no_room part r k f e =
      let p = fitted_not part r k f e in
      let same : out_after part ≡ out =
      out_after_lem part ∙ ap (λ (l : List ℕ). take first out ++ l) (p.1 ∙ part_whole) ∙ take-append-drop first out in
      record {
        at = λ p q. cc;
        full = λ q. omega (arith, no_room p.0, ap length same);
      }

  pub has_no_len : (part : List ℕ) (r : Result ℕ Refusal) → Fitted (packed first b) part₀ part r → None ≡ result_ok r → InternIs (write_of B b) first (out_after part) cells None
  has_no_len part (Ok len) f e = absurd (let z : ◌≡◌ {A = ℕ} 0 1 = cc in omega arith)
  has_no_len part (Err k) f e = has_no_room part (Err k) k f refl
