-- What packing a list of bytes answers.
--     Written              what an answer with a file says
--     answer_written_means where a file is answered, it is the file of the list's pairs
--     answer_list, answer_tables, answer_cells, answer_room, answer_over   each refusal in its case, and so their order: LIST, SPACE, LARGE
-- Assumes nothing.
use Rattle.std.specs.Prelude.{◌≡◌, Bool, ◌&&◌, ℕ, ◌≤◌, ◌<◌}
use Rattle.std.proofs.Math.Path.{refl, sym, subst}
use Rattle.std.proofs.Common.{ap, ◌∙◌, arith}
use Rattle.std.proofs.Math.Bool.{true, false, cond}
use mathlib.Core.List.{List}
use borrow.Author.Tests.{leb-true, le-leb, lt-leb}
use Rattle.std.proofs.Math.Dec.{leb}
use Rattle.std.proofs.Math.ListN.{length}
use Rattle.format.specs.declared.Refusal.{Refusal}
use Rattle.buffers.specs.DecideLaws.{true_of, false_of}
use Rattle.format.specs.Limits.{LARGE, SPACE, LIST}
use Rattle.packing.specs.Lists.{IsList, list_test, pairs_of}
use Rattle.packing.specs.Registry.{Cell}
use Rattle.packing.specs.Packing.{pack_file, pack_cells, Answer, written, refused, pack_answer}
use Rattle.packing.proofs.ListLaws.{decides_list}

pub record Written (limit : ℕ) (s : List ℕ) (tables : Bool) (n room : ℕ) (file : List ℕ) (cells : List Cell) : Type 0 where
  pub list : IsList s
  pub tables_right : tables ≡ true
  pub enough_cells : 2 ≤ n
  pub file_is_lem : file ≡ pack_file (pairs_of s) n
  pub cells_are : cells ≡ pack_cells (pairs_of s) n
  pub fits : length file ≤ room
  pub small : length file ≤ limit

module _ (limit : ℕ) (s : List ℕ) (tables : Bool) (n room : ℕ) where
  abbrev file₀ : List ℕ
  file₀ = pack_file (pairs_of s) n

  refused_not : {k : Refusal} {file : List ℕ} {cells : List Cell} → ◌≡◌ {A = Answer} (refused k) (written file cells) → ⊥
  refused_not e = let z : ◌≡◌ {A = ℕ} 0 1 = cc in omega arith

  pub answer_written_means : (file : List ℕ) (cells : List Cell) → pack_answer limit s tables n room ≡ written file cells → Written limit s tables n room file cells
  unfolding pack_answer
  answer_written_means file cells e =
      go (list_test s) refl tables refl (leb 2 n) refl (leb (length file₀) room) refl (leb (length file₀) limit) refl e
    where
      go : (a : Bool) → list_test s ≡ a → (b : Bool) → tables ≡ b → (c : Bool) → leb 2 n ≡ c → (d : Bool) → leb (length file₀) room ≡ d
          → (f : Bool) → leb (length file₀) limit ≡ f
          → cond a (cond (b && (c && d)) (cond f (written file₀ (pack_cells (pairs_of s) n)) (refused LARGE)) (refused SPACE)) (refused LIST) ≡ written file cells
          → Written limit s tables n room file cells
      go true a true b true c true d true f q =
          let file_is_lem : file₀ ≡ file = cc in
          let cells_are : pack_cells (pairs_of s) n ≡ cells = cc in
          record {
            list = (decides_list s).yes a;
            tables_right = b;
            enough_cells = leb-true 2 n c;
            file_is_lem = sym file_is_lem;
            cells_are = sym cells_are;
            fits = subst (λ (l : List ℕ). length l ≤ room) file_is_lem (leb-true (length file₀) room d);
            small = subst (λ (l : List ℕ). length l ≤ limit) file_is_lem (leb-true (length file₀) limit f);
          }
      go false a b is_b c is_c d is_d f is_f q = absurd (refused_not q)
      go true a false b c is_c d is_d f is_f q = absurd (refused_not q)
      go true a true b false c d is_d f is_f q = absurd (refused_not q)
      go true a true b true c false d f is_f q = absurd (refused_not q)
      go true a true b true c true d false f q = absurd (refused_not q)

  -- LIST before the others
  pub answer_list : ¬ IsList s → pack_answer limit s tables n room ≡ refused LIST
  unfolding pack_answer
  answer_list ne = rw (false_of (list_test s) (decides_list s) ne)

  -- SPACE before LARGE: a working table under its size, fewer than two cells, an output shorter than the file
  pub answer_tables : IsList s → tables ≡ false → pack_answer limit s tables n room ≡ refused SPACE
  unfolding pack_answer
  answer_tables ok e = rw (true_of (list_test s) (decides_list s) ok, e)

  pub answer_cells : IsList s → tables ≡ true → n < 2 → pack_answer limit s tables n room ≡ refused SPACE
  unfolding pack_answer
  answer_cells ok e few = rw (true_of (list_test s) (decides_list s) ok, e, lt-leb 2 n few)

  pub answer_room : IsList s → tables ≡ true → 2 ≤ n → room < length file₀ → pack_answer limit s tables n room ≡ refused SPACE
  unfolding pack_answer
  answer_room ok e cells short = rw (true_of (list_test s) (decides_list s) ok, e, le-leb 2 n cells, lt-leb (length file₀) room short)

  pub answer_over : IsList s → tables ≡ true → 2 ≤ n → length file₀ ≤ room → limit < length file₀ → pack_answer limit s tables n room ≡ refused LARGE
  unfolding pack_answer
  answer_over ok e cells fits over =
      rw (true_of (list_test s) (decides_list s) ok, e, le-leb 2 n cells, le-leb (length file₀) room fits, lt-leb (length file₀) limit over)
