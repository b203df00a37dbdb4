-- The view of eight seats in arrays, place by place.
--     table_at, table_len     an element of a table, and how many there are
--     table_set               a table that differs from another at one place
--     seat_in                 one of the seats
--     flag_yes, flag_no       what a number stands for; flag_put, one that was written
--     row_set_lem, row_put        the rows after one was written
-- Assumes nothing.
use Rattle.std.specs.Prelude.{◌≡◌, refl, true, false, List, [], ◌∷◌, ℕ, zero, suc, ◌<◌, length, get_or, set}
use Rattle.std.proofs.Common.{sym, ap, ap₂, ◌∙◌, arith, get_or-set_same, get_or-set_other}
use Rattle.plain.specs.Plain as P
use Rattle.turns.specs.Turns as T
use Rattle.turns.specs.Turns.{no_seat, seat_at}
use Rattle.stream.specs.declared.Plain.{Plain}
use Rattle.stream_start.specs.Views.{view_is}
use Rattle.stream_arrays.specs.Arrays.{Held, held_is, held_as}
use Rattle.stream_arrays.specs.ArraysLaws.{held_back}
use Rattle.seats_arrays.specs.SeatArrays.{flag, seat_of, table, seats_of, Rows, row_of, plain_at, rows_set, Within, FlagPut, RowSet, RowPut}

-- ---- numbers for yes and no

pub flag_yes : (n : ℕ) → ¬ (n ≡ 0) → flag n ≡ true
flag_yes zero h = absurd (h refl)
flag_yes (suc n) h = refl

pub flag_no : (n : ℕ) → n ≡ 0 → flag n ≡ false
flag_no n e = ap flag e

pub flag_put : (i n : ℕ) (l : List ℕ) → i < length l → FlagPut i n l (set l i n)
flag_put i n l h = record { is = refl; here = get_or-set_same l i n 0 h; others = λ j ne. get_or-set_other l i j n 0 ne }

-- ---- tables

pub table_len : (n : ℕ) (f : ℕ → T.Seat) → length (table n f) ≡ n
table_len zero f = refl
table_len (suc n) f = ap suc (table_len n (λ i. f (suc i)))

pub table_at : (n : ℕ) (f : ℕ → T.Seat) (i : ℕ) (d : T.Seat) → i < n → get_or (table n f) i d ≡ f i
table_at zero f i d h = absurd (omega arith)
table_at (suc n) f zero d h = refl
table_at (suc n) f (suc i) d h = table_at n (λ j. f (suc j)) i d (omega arith)

table_same : (n : ℕ) (f g : ℕ → T.Seat) → ((j : ℕ) → g j ≡ f j) → table n g ≡ table n f
table_same zero f g h = refl
table_same (suc n) f g h = ap₂ ◌∷◌ (h 0) (table_same n (λ j. f (suc j)) (λ j. g (suc j)) (λ j. h (suc j)))

not_zero : (j : ℕ) → ¬ (suc j ≡ 0)
not_zero j e = omega arith

suc_other : (j i : ℕ) → ¬ (j ≡ i) → ¬ (suc j ≡ suc i)
suc_other j i h e = h (omega arith)

pub table_set : (n : ℕ) (f g : ℕ → T.Seat) (i : ℕ) (x : T.Seat) → g i ≡ x → ((j : ℕ) → ¬ (j ≡ i) → g j ≡ f j) → table n g ≡ set (table n f) i x
table_set zero f g i x here others = refl
table_set (suc n) f g zero x here others =
    ap₂ ◌∷◌ here (table_same n (λ j. f (suc j)) (λ j. g (suc j)) (λ j. others (suc j) (not_zero j)))
table_set (suc n) f g (suc i) x here others =
    ap₂ ◌∷◌ (others 0 (λ e. not_zero i (sym e))) (table_set n (λ j. f (suc j)) (λ j. g (suc j)) i x here (λ j ne. others (suc j) (suc_other j i ne)))

-- ---- one of the seats

module _ (last : ℕ) (t w : List ℕ) (plains : ℕ → P.Plain) (i : ℕ) (small : i < 8) where
  pub seat_in : seat_at (seats_of last t w plains) i ≡ seat_of t w plains i
  seat_in = table_at 8 (seat_of t w plains) i no_seat small

-- ---- rows

abbrev held_at : Held → ℕ → P.Plain
held_at h n = P.plain_with (view_is (held_is h)) n

module _ (r₀ : Rows) (i : ℕ) (h : Held) (n : ℕ) where
  row_other : (j : ℕ) → ¬ (j ≡ i) → row_of (rows_set r₀ i h n) j ≡ row_of r₀ j
  row_other j ne =
      let a = get_or-set_other r₀.heads i j h.head [] ne in
      let b = get_or-set_other r₀.bounds i j h.bound [] ne in
      let c = get_or-set_other r₀.addrs i j h.addrs [] ne in
      let d = get_or-set_other r₀.inps i j h.inps [] ne in
      let e = get_or-set_other r₀.trans i j h.trans [] ne in
      let f = get_or-set_other r₀.outs i j h.outs [] ne in
      rw (a, b, c, d, e, f) refl

  pub plain_other : (j : ℕ) → ¬ (j ≡ i) → plain_at (rows_set r₀ i h n) j ≡ plain_at r₀ j
  plain_other j ne = ap₂ held_at (row_other j ne) (get_or-set_other r₀.keys i j n 0 ne)

  module _ (long : Within i r₀) where
    row_here : row_of (rows_set r₀ i h n) i ≡ h
    row_here =
        let a = get_or-set_same r₀.heads i h.head [] long.heads in
        let b = get_or-set_same r₀.bounds i h.bound [] long.bounds in
        let c = get_or-set_same r₀.addrs i h.addrs [] long.addrs in
        let d = get_or-set_same r₀.inps i h.inps [] long.inps in
        let e = get_or-set_same r₀.trans i h.trans [] long.trans in
        let f = get_or-set_same r₀.outs i h.outs [] long.outs in
        rw (a, b, c, d, e, f) refl

    pub plain_here : plain_at (rows_set r₀ i h n) i ≡ held_at h n
    plain_here = ap₂ held_at row_here (get_or-set_same r₀.keys i n 0 long.keys)

    pub row_set_lem : RowSet h n i r₀ (rows_set r₀ i h n)
    row_set_lem = record { is = refl; here = plain_here; others = plain_other }

    pub row_put : (p : Plain) → h ≡ held_as p.reading → n ≡ p.keys → RowPut p i r₀ (rows_set r₀ i h n)
    row_put p e k =
        record {
          is = ap₂ (rows_set r₀ i) e k;
          here = plain_here ∙ ap₂ held_at e k ∙ ap (λ v. P.plain_with v p.keys) (held_back p.reading);
          others = plain_other;
        }
