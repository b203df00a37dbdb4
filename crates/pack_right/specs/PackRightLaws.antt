-- From the contract of `pack` to its promise: a file that it answers with is admitted and holds exactly the listed pairs.
--     PackedList s n file      the file of the list s with n cells
--     pack_promise             where `pack` answers a length, its output begins with such a file
-- Assumes nothing.
use Rattle.std.specs.Prelude.{◌≡◌, refl, Bool, true, false, cond, ◌&&◌, List, ◌++◌, ℕ, ◌-◌, ◌≤◌, ◌<◌, leb, length, get_or, replicate, Ok, Err, Result}
use Rattle.std.proofs.Common.{sym, ap, ◌∙◌, subst, arith, leb-true}
use Rattle.format.specs.declared.Refusal.{Refusal}
use Rattle.format.specs.Limits.{max_len, LARGE, SPACE, LIST}
use Rattle.format.specs.Admitted.{Admitted}
use Rattle.packing.specs.Lists.{IsList, list_test, pairs_of}
use Rattle.packing.specs.Packing.{pack_file, pack_cells, Answer, written, refused, pack_answer}
use Rattle.packing.specs.Promise.{PackRight}
use Rattle.packing.proofs.ListLaws.{decides_list, list_listed, count_lt}
use Rattle.packing.specs.Kept.{pack_keeps, KeptSeen}
use Rattle.packing.proofs.PackLaws.{pack_admitted, pack_right, pack_kept}
use Rattle.pack_cell.specs.declared.Cell.{Cell}
use Rattle.pack_intern.specs.Interning.{cells_is}
use Rattle.pack_blank.specs.PackBlank.{answer_as}
use Rattle.pack.specs.PackList.{PacksBy}

pub record PackedList (s : List ℕ) (n : ℕ) (out : List ℕ) (cells : List Cell) : Type 0 where
  pub list : IsList s
  pub output : out ≡ pack_file (pairs_of s) n ++ replicate (length out - length (pack_file (pairs_of s) n)) 0
  pub cells_are : cells_is cells ≡ pack_cells (pairs_of s) n
  pub admitted : Admitted (pack_file (pairs_of s) n)
  pub right : PackRight (pairs_of s) n admitted
  -- whether no filled cell was overwritten is seen from outside
  pub kept : KeptSeen (pack_keeps (pairs_of s) n) (pack_cells (pairs_of s) n) admitted.nodes

pub pack_promise : (s : List ℕ) → ((i : ℕ) → get_or s i 0 < 256) → (tables : Bool) (n room : ℕ) (out : List ℕ) (cells : List Cell) (inputs leasts targets : List ℕ) (len : ℕ)
    → PacksBy (pack_answer max_len s tables n room) out cells inputs leasts targets (Ok len) → PackedList s n out cells
unfolding pack_answer
pack_promise s bytes tables n room out cells inputs leasts targets len w =
    go (list_test s) refl tables (leb 2 n) refl (leb (length file) room) (leb (length file) max_len) refl w
  where
    file : List ℕ
    file = pack_file (pairs_of s) n

    never : {A : Type 0} {k : Refusal} → ◌≡◌ {A = Result ℕ Refusal} (Ok len) (Err k) → A
    never e = absurd (let z : ◌≡◌ {A = ℕ} 0 1 = cc in omega arith)

    go : (a : Bool) → list_test s ≡ a → (b t : Bool) → leb 2 n ≡ t → (r c : Bool) → leb (length file) max_len ≡ c
        → PacksBy (cond a (cond (b && (t && r)) (cond c (written file (pack_cells (pairs_of s) n)) (refused LARGE)) (refused SPACE)) (refused LIST)) out cells inputs leasts targets (Ok len)
        → PackedList s n out cells
    go true a true true t true true c p =
        let ok = (decides_list s).yes a in
        let listed = list_listed s bytes ok in
        let small = leb-true (length file) max_len c in
        record {
          list = ok;
          output = p.output;
          cells_are = p.cells_left;
          admitted = pack_admitted (pairs_of s) n listed small;
          right = pack_right (pairs_of s) n listed small (count_lt s bytes) (pack_admitted (pairs_of s) n listed small);
          kept = pack_kept (pairs_of s) n listed small (leb-true 2 n t) (pack_admitted (pairs_of s) n listed small);
        }
    go true a true true t true false c p = never p.answer
    go true a true true t false x c p = never p.answer
    go true a true false t y x c p = never p.answer
    go true a false z t y x c p = never p.answer
    go false a b z t y x c p = never p.answer
