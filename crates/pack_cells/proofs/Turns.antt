-- The loop of `run`: what a turn may change, what holds between two turns, and what a step asks and leaves of the cells.
-- Assumes nothing.
use Rattle.std.specs.Prelude.{◌≡◌, Bool, true, List, [], ◌∷◌, ℕ, ◌+◌, ◌<◌, length, set, Ok, Result}
use Rattle.std.proofs.Common.{refl, sym, ap₂, subst, arith}
use Rattle.format.specs.declared.Refusal.{Refusal}
use Rattle.packing_rows.specs.WorkTables.{Tables}
use Rattle.pack_cell.specs.Cells.{at}
use Rattle.pack_cell.specs.declared.Cell.{Cell}
use Rattle.pack_intern.specs.declared.Placed.{Placed}
use Rattle.pack_row.specs.Row.{put_pair, TakenFrom}
use Rattle.pack_node.specs.declared.Due.{Due}
use Rattle.pack_step.specs.Standing.{Ended, Standing, StepAsked, Steps, turn_left}
use Rattle.pack_step.specs.declared.Turn.{Turn}
use Rattle.pack_step.specs.declared.Turn.TheVariants.{Next, Done}

pub record State : Type 0 where
  pub out : List ℕ
  pub cells : List Cell
  pub tables : Tables
  pub turn : Result Turn Refusal

-- n cells are lent and m bytes of output; the working tables have their sizes, since begin has judged them
abbrev pub Between : List ℕ → ℕ → ℕ → State → Type 0
Between s n m v = Standing s true n m v.out v.cells v.tables v.turn

pub stands_fit : {s : List ℕ} {b : Bool} {n m : ℕ} {out : List ℕ} {table : List Cell} {T : Tables} (t : Turn) → Standing s b n m out table T (Ok t) → b ≡ true
stands_fit (Next d) st = (st.on d refl).sound.fit
stands_fit (Done p) st = ((st.ended (Ok p) refl).done p refl).0.fit

pub stands_judged : {s : List ℕ} {b b' : Bool} {n m : ℕ} {out : List ℕ} {table : List Cell} {T : Tables} {t : Result Turn Refusal}
    → b ≡ b' → Standing s b n m out table T t → Standing s b' n m out table T t
stands_judged {s} {n = n} {m} {out} {table} {T} {t} e st = subst (λ (b : Bool). Standing s b n m out table T t) e st

pub ended_judged : {s : List ℕ} {b b' : Bool} {n m : ℕ} {out : List ℕ} {table : List Cell} {r : Result Placed Refusal} → b ≡ b' → Ended s b n m out table r → Ended s b' n m out table r
ended_judged {s} {n = n} {m} {out} {table} {r} e w = subst (λ (b : Bool). Ended s b n m out table r) e w

pub standing_as : {s : List ℕ} {b : Bool} {n m : ℕ} {out : List ℕ} {table : List Cell} {T : Tables} {t t' : Result Turn Refusal}
    → t ≡ t' → Standing s b n m out table T t → Standing s b n m out table T t'
standing_as {s} {b} {n} {m} {out} {table} {T} e st = subst (Standing s b n m out table T) e st

module _ {s : List ℕ} {n m : ℕ} (v : State) (f : Between s n m v) where
  abbrev Stands : ℕ → ℕ → List ℕ → List Cell → Tables → Result Turn Refusal → Type 0
  Stands = Standing s true

  pub cells_same : length v.cells ≡ n
  cells_same = f.count

  -- a node is due
  module _ (d : Due) (on : v.turn ≡ Ok (Next d)) where
    pub within : d.row + 1 < length v.cells
    within = omega (arith, (f.on d on).within, cells_same)

    here : Stands (length v.cells) (length v.out) v.out v.cells v.tables (Ok (Next d))
    here =
        subst (λ (k : ℕ). Stands k (length v.out) v.out v.cells v.tables (Ok (Next d))) (sym cells_same)
        (subst (λ (k : ℕ). Stands n k v.out v.cells v.tables (Ok (Next d))) (sym f.long)
        (subst (λ (x : Result Turn Refusal). Stands n m v.out v.cells v.tables x) on f))

    -- one and two are the cells of its row
    module _ {one two : Cell} (one_is : one ≡ at v.cells d.row) (two_is : two ≡ at v.cells (d.row + 1)) where
      abbrev row : List Cell
      row = one ∷ two ∷ []

      taken : TakenFrom v.cells d.row row
      taken = record { within = within; is = ap₂ (λ (a b : Cell). a ∷ b ∷ []) one_is two_is }

      pub asked : StepAsked s (length v.cells) v.out row v.tables d
      asked = record { tables = true; table = v.cells; standing = here; taken = taken }

      -- v' is what a step leaves, with its two cells put back
      module _ (v' : State) {back : List Cell} {t : Result Turn Refusal} (w : Steps s (length v.cells) v.out row v.tables d v'.out back v'.tables t) (next : t ≡ v'.turn)
          (put : v'.cells ≡ set (set v.cells d.row (at back 0)) (d.row + 1) (at back 1)) where
        abbrev table' : List Cell
        table' = put_pair v.cells d.row back

        pub after : Stands n m v'.out v'.cells v'.tables v'.turn
        after =
            subst (λ (k : ℕ). Stands k m v'.out v'.cells v'.tables v'.turn) cells_same
            (subst (λ (k : ℕ). Stands (length v.cells) k v'.out v'.cells v'.tables v'.turn) f.long
            (subst (λ (x : List Cell). Stands (length v.cells) (length v.out) v'.out x v'.tables v'.turn) (sym put)
            (subst (λ (x : Result Turn Refusal). Stands (length v.cells) (length v.out) v'.out table' v'.tables x) next (w.stands true v.cells here taken))))

        pub less : turn_left s v'.turn < turn_left s v.turn
        less = subst (λ (x : Result Turn Refusal). turn_left s v'.turn < turn_left s x) (sym on) (subst (λ (x : Result Turn Refusal). turn_left s x < turn_left s (Ok (Next d))) next w.less)
