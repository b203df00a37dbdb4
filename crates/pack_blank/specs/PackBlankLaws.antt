-- Laws of packing into an output of zeros: each way to an answer, and the file in the output.
--     answer_refused           a refusal
--     full_answer, short_answer, over_answer, done_answer      the answers after the run
-- Assumes nothing.
use Rattle.std.specs.Prelude.{◌≡◌, Option, None, Bool, true, false, ◌&&◌, leb, drop, Ok, Err, Result, ℕ}
use Rattle.std.proofs.Math.Path.{refl, ap, ap₂}
use Rattle.std.proofs.Common.{sym, ◌∙◌, arith, take_at}
use mathlib.Core.List.{List, ◌∷◌, ◌++◌, append_assoc}
use Prim.Native.Nat.{ℕ, zero, suc, ◌+◌, ◌-◌, ◌≤◌, ◌<◌}
use borrow.Author.Tests.{le-leb, leb-true}
use Rattle.std.proofs.Math.ListN.{length, replicate, length-append}
use Rattle.std.proofs.lemmas.List.{length-replicate}
use Rattle.std.proofs.Math.Seq.{drop-append-add}
use Rattle.format.specs.declared.Refusal.{Refusal}
use Rattle.buffers.specs.Put.{put}
use Rattle.buffers.specs.PutLaws.{put_zero}
use Rattle.buffers.specs.DecideLaws.{true_of}
use Rattle.format.specs.Limits.{LARGE, SPACE}
use Rattle.format.specs.Bytes.{bytes_of}
use Rattle.format.specs.Laws.BytesLaws.{length_bytes_of}
use Rattle.packing.specs.Lists.{count_in, IsList, list_test, pairs_of}
use Rattle.packing.specs.Registry.{Cell, empty_cell, Interned}
use Rattle.packing.specs.Packing.{pack_nodes, file_of, pack_file, pack_cells, Answer, written, refused, pack_answer, output_after, cells_after}
use Rattle.packing.proofs.ListLaws.{decides_list, length_pairs}
use Rattle.packing.proofs.ListedLaws.{answer_room, answer_over}
use Rattle.packing.proofs.TrailerLaws.{length_file}
use Rattle.pack_cell.specs.Cells.{empty}
use Rattle.pack_cell.specs.declared.Cell as code
use Rattle.pack_intern.specs.Interning.{nodes_in, cells_is}
use Rattle.pack_intern.specs.InterningLaws.{nodes_length, laid_is}
use Rattle.pack_intern.specs.declared.Placed.{Placed}
use Rattle.pack_run.specs.Running.{Blank, RunAt, Runs}
use Rattle.pack_blank.specs.PackBlank.{answer_as, trailed, Answers}

pub refused_not : {k : Refusal} {n : ℕ} → ¬ (◌≡◌ {A = Result ℕ Refusal} (Err k) (Ok n))
refused_not e = let z : ◌≡◌ {A = ℕ} 0 1 = cc in omega arith

pub answer_refused : {A : Answer} {k : Refusal} → A ≡ refused k → (out : List ℕ) (cells : List code.Cell) → Answers A out cells (Err k)
answer_refused e out cells = record { answer = sym (ap answer_as e); output = λ n q. absurd (refused_not q); cells_left = λ n q. absurd (refused_not q) }

-- ---- zeros and empty cells

pub cells_empty : (n : ℕ) → cells_is (replicate n empty) ≡ replicate n empty_cell
cells_empty zero = refl
cells_empty (suc n) = ap (λ (l : List Cell). empty_cell ∷ l) (cells_empty n)

-- as long as it was
pub zeros_again : {A : Type 0} (v : A) (n : ℕ) {d : List A} → d ≡ replicate n v → d ≡ replicate (length d) v
zeros_again {A} v n {d} e = e ∙ ap (λ (k : ℕ). replicate k v) (sym (ap length e ∙ length-replicate n v))

pub blank_of : (out : List ℕ) (cells : List code.Cell) → out ≡ replicate (length out) 0 → cells ≡ replicate (length cells) empty → 2 ≤ length cells → 32 ≤ length out → Blank out cells
blank_of out cells z e two room = record { room = room; zeros = z; empty = ap cells_is e ∙ cells_empty (length cells); two = two }

-- what the test on the tables says
pub sizes : (i l t : ℕ) → (leb 65536 i && (leb 65536 l && leb 65536 t)) ≡ true → (65536 ≤ i) × (65536 ≤ l) × (65536 ≤ t)
sizes i l t e = go (leb 65536 i) refl (leb 65536 l) refl (leb 65536 t) refl e
  where
    go : (x : Bool) → leb 65536 i ≡ x → (y : Bool) → leb 65536 l ≡ y → (z : Bool) → leb 65536 t ≡ z → (x && (y && z)) ≡ true → (65536 ≤ i) × (65536 ≤ l) × (65536 ≤ t)
    go true p true q true r e = (leb-true 65536 i p, leb-true 65536 l q, leb-true 65536 t r)
    go false p y q z r e = absurd (let w : ◌≡◌ {A = ℕ} 0 1 = cc in omega arith)
    go true p false q z r e = absurd (let w : ◌≡◌ {A = ℕ} 0 1 = cc in omega arith)
    go true p true q false r e = absurd (let w : ◌≡◌ {A = ℕ} 0 1 = cc in omega arith)

-- ---- the file

drop_zeros : (k n : ℕ) → drop {A = ℕ} k (replicate n 0) ≡ replicate (n - k) 0
drop_zeros zero n = let e : n - 0 ≡ n = omega arith in rw e
drop_zeros (suc k) zero = let e : 0 - suc k ≡ 0 = omega arith in rw e
drop_zeros (suc k) (suc n) = let e : suc n - suc k ≡ n - k = omega arith in rw e (drop_zeros k n)

-- written after p, over zeros
put_end : (p : List ℕ) (z at : ℕ) (v : List ℕ) → length p ≡ at → put (p ++ replicate z 0) at v ≡ (p ++ v) ++ replicate (z - length v) 0
unfolding put
put_end p z at v e =
    rw (← e) (ap₂ (λ (a b : List ℕ). a ++ v ++ b) (take_at p (replicate z 0) (length p) refl) (drop-append-add p (replicate z 0) (length v) ∙ drop_zeros (length v) z))

module _ (nodes : List ℕ) (z count root next : ℕ) (at : 16 + length nodes ≡ next) where
  abbrev p₁ : List ℕ
  p₁ = bytes_of 8 2 ++ (replicate 8 0 ++ nodes)

  p₁_length : length p₁ ≡ next
  p₁_length = omega (arith, length-append (bytes_of 8 2) (replicate 8 0 ++ nodes), length-append (replicate 8 0) nodes, length_bytes_of 8 2, length-replicate {A = ℕ} 8 0, at)

  version_put : put ((replicate 16 0 ++ nodes) ++ replicate z 0) 0 (bytes_of 8 2) ≡ p₁ ++ replicate z 0
  version_put =
      put_zero ((replicate 16 0 ++ nodes) ++ replicate z 0) (bytes_of 8 2)
      ∙ ap (λ (n : ℕ). bytes_of 8 2 ++ drop n ((replicate 16 0 ++ nodes) ++ replicate z 0)) (length_bytes_of 8 2)
      ∙ sym (append_assoc (bytes_of 8 2) (replicate 8 0 ++ nodes) (replicate z 0))

  zero_bytes_is : bytes_of 8 0 ≡ replicate 8 0
  unfolding bytes_of
  zero_bytes_is = refl

  pub file_put : (r : Interned) → r.build.nodes ≡ nodes → r.addr ≡ root
      → trailed ((replicate 16 0 ++ nodes) ++ replicate z 0) count root next ≡ file_of count r ++ replicate (z - 8 - 8) 0
  unfolding file_of
  file_put r n_is a_is =
      let c : List ℕ = bytes_of 8 count in
      let d : List ℕ = bytes_of 8 root in
      let lc = length_bytes_of 8 count in
      let ld = length_bytes_of 8 root in
      let two : length (p₁ ++ c) ≡ next + 8 = omega (arith, length-append p₁ c, p₁_length, lc) in
      ap (λ (o : List ℕ). put (put o next c) (next + 8) d) version_put
      ∙ ap (λ (o : List ℕ). put o (next + 8) d) (put_end p₁ z next c p₁_length)
      ∙ put_end (p₁ ++ c) (z - length c) (next + 8) d two
      ∙ ap₂ (λ (l : List ℕ) (n : ℕ). l ++ replicate n 0) whole (ap₂ (λ (x y : ℕ). z - x - y) lc ld)
    where
      whole : (p₁ ++ bytes_of 8 count) ++ bytes_of 8 root ≡ bytes_of 8 2 ++ (bytes_of 8 0 ++ (r.build.nodes ++ (bytes_of 8 count ++ bytes_of 8 r.addr)))
      whole = rw (n_is, a_is, zero_bytes_is) (simp append_assoc)

-- ---- the answers after the run

module _ (limit : ℕ) (s : List ℕ) (tables : Bool) (n room : ℕ) (ok : IsList s) (fit : tables ≡ true) (two : 2 ≤ n) where
  abbrev A : Answer
  A = pack_answer limit s tables n room

  abbrev R : Interned
  R = pack_nodes (pairs_of s) n

  abbrev file : List ℕ
  file = pack_file (pairs_of s) n

  size : length file ≡ 32 + length R.build.nodes
  size = length_file (length (pairs_of s)) R

  pub small_answer : room < 32 → (out : List ℕ) (cells : List code.Cell) → Answers A out cells (Err SPACE)
  small_answer h out cells = answer_refused (answer_room limit s tables n room ok fit two (omega (arith, size))) out cells

  pub full_answer : {out : List ℕ} {cells : List code.Cell} {r : Option Placed} → Runs R out cells r → r ≡ None → length out ≡ room → Answers A out cells (Err SPACE)
  full_answer {out} {cells} w e len = answer_refused (answer_room limit s tables n room ok fit two (omega (arith, size, w.full e))) out cells

  module _ {out : List ℕ} {cells : List code.Cell} {a next : ℕ} (w : RunAt R out cells a next) (len : length out ≡ room) where
    nodes_are : R.build.nodes ≡ nodes_in out next
    nodes_are = ap (λ (x : Interned). x.build.nodes) w.is

    file_length : length file ≡ next + 16
    file_length = omega (arith, size, ap length nodes_are, nodes_length w.laid)

    pub short_answer : room - next < 16 → Answers A out cells (Err SPACE)
    short_answer h = answer_refused (answer_room limit s tables n room ok fit two (omega (arith, file_length, w.laid.high))) out cells

    pub over_answer : ¬ (room - next < 16) → limit < next + 16 → Answers A out cells (Err LARGE)
    over_answer h over = answer_refused (answer_over limit s tables n room ok fit two (omega (arith, file_length, w.laid.high)) (omega (arith, file_length))) out cells

    answer_is_lem : ¬ (room - next < 16) → ¬ (limit < next + 16) → A ≡ written file (pack_cells (pairs_of s) n)
    unfolding pack_answer
    answer_is_lem h g =
        rw (
          true_of (list_test s) (decides_list s) ok,
          fit,
          le-leb 2 n two,
          le-leb (length file) room (omega (arith, file_length, w.laid.high)),
          le-leb (length file) limit (omega (arith, file_length)),
        )

    pub done_answer : ¬ (room - next < 16) → ¬ (limit < next + 16) → (count : ℕ) → count ≡ count_in s → (out' : List ℕ) → out' ≡ trailed out count a next → length out' ≡ room
        → Answers A out' cells (Ok (next + 16))
    done_answer h g count c_is out' is len' =
        let e = answer_is_lem h g in
        record {
          answer = sym (ap answer_as e ∙ ap Ok file_length);
          output = λ k q. file_out ∙ ap (λ (x : Answer). output_after x (length out')) (sym e);
          cells_left = λ k q. sym (ap (λ (x : Interned). x.build.cells) w.is) ∙ ap (λ (x : Answer). cells_after x (length cells)) (sym e);
        }
      where
        z : ℕ
        z = length out - next

        file_out : out' ≡ file ++ replicate (length out' - length file) 0
        file_out =
            is ∙ ap (λ (o : List ℕ). trailed o count a next) (laid_is w.laid)
            ∙ file_put (nodes_in out next) (length out - next) count a next (nodes_length w.laid) R nodes_are (ap (λ (x : Interned). x.addr) w.is)
            ∙ ap₂ (λ (k m : ℕ). file_of k R ++ replicate m 0) (c_is ∙ sym (length_pairs s))
            (let q : length out - next - 8 - 8 ≡ length out' - length file = omega (arith, file_length, len, len') in q)
