-- What stands in the rows afterwards, byte by byte: each row has its key's length and its key, and every other byte is as given.
--     RowsHold es rows₀ rows     the claim
--     rows_hold                  it holds of `rows_after`, for keys of at most 255 bytes and rows that have room for them
-- Assumes nothing.
use Rattle.std.specs.Prelude.{◌≡◌, refl, ◌⊎◌, ℕ, zero, suc, ◌+◌, ◌-◌, ◌*◌, ◌≤◌, ◌<◌, take}
use Rattle.std.proofs.Common.{sym, subst, ◌∙◌, ⊎_elim, inl, inr, length-append, length-take-le}
use Rattle.std.proofs.Math.Path.{ap}
use mathlib.Core.List.{List, [], ◌∷◌, ◌++◌, Memᴰ}
use native.Mathlib.Omega.{arith}
use Rattle.std.proofs.Math.ListN.{length, get_or, drop, get_or-append}
use Rattle.std.proofs.Math.Seq.{get_or-append-add, get_or-take, get_or-drop}
use Rattle.buffers.specs.Put.{put}
use Rattle.buffers.specs.PutLaws.{length_put}
use Rattle.format.specs.Limits.{max_path}
use Rattle.reading.proofs.RunLaws.{lt_or}
use Rattle.reading.specs.Demand.{Entry, entry}
use Rattle.paging.specs.Paging.{row_len, row_of, rows_from, rows_after}

-- the key of row i
abbrev pub key_at : List Entry → ℕ → List ℕ
key_at es i = (get_or es i (entry [] 0)).key

pub record RowsHold (es : List Entry) (rows₀ rows : List ℕ) : Type 0 where
  pub lengths : (i : ℕ) → i < length es → get_or rows (row_len * i) 0 ≡ length (key_at es i)
  pub bytes : (i j : ℕ) → i < length es → j < length (key_at es i) → get_or rows (row_len * i + 1 + j) 0 ≡ get_or (key_at es i) j 0
  pub past_the_key : (i j : ℕ) → i < length es → length (key_at es i) < j → j < row_len → get_or rows (row_len * i + j) 0 ≡ get_or rows₀ (row_len * i + j) 0
  pub other_rows : (p : ℕ) → row_len * length es ≤ p → get_or rows p 0 ≡ get_or rows₀ p 0

-- ---- a byte of a buffer that was written in

module _ (out : List ℕ) (at : ℕ) (v : List ℕ) (room : at + length v ≤ length out) where
  front_len : length (take at out) ≡ at
  front_len = length-take-le at out (omega arith)

  both_len : length (take at out ++ v) ≡ at + length v
  both_len = length-append (take at out) v ∙ ap (λ (n : ℕ). n + length v) front_len

  put_before : (p : ℕ) → p < at → get_or (put out at v) p 0 ≡ get_or out p 0
  unfolding put
  put_before p h =
      get_or-append (take at out ++ v) (drop (at + length v) out) 0 p (omega (arith, both_len))
      ∙ get_or-append (take at out) v 0 p (omega (arith, front_len))
      ∙ get_or-take at out p 0 h

  put_in : (j : ℕ) → j < length v → get_or (put out at v) (at + j) 0 ≡ get_or v j 0
  unfolding put
  put_in j h =
      get_or-append (take at out ++ v) (drop (at + length v) out) 0 (at + j) (omega (arith, both_len))
      ∙ ap (λ (n : ℕ). get_or (take at out ++ v) (n + j) 0) (sym front_len)
      ∙ get_or-append-add (take at out) v j 0

  put_after : (p : ℕ) → at + length v ≤ p → get_or (put out at v) p 0 ≡ get_or out p 0
  unfolding put
  put_after p h =
      let q : p ≡ at + length v + (p - (at + length v)) = omega arith in
      ap (λ (n : ℕ). get_or (take at out ++ v ++ drop (at + length v) out) n 0) (q ∙ ap (λ (n : ℕ). n + (p - (at + length v))) (sym both_len))
      ∙ get_or-append-add (take at out ++ v) (drop (at + length v) out) (p - (at + length v)) 0
      ∙ get_or-drop (at + length v) out (p - (at + length v)) 0
      ∙ ap (λ (n : ℕ). get_or out n 0) (sym q)

-- ---- the rows from row i on

abbrev Short : List Entry → Type 0
Short es = (e : Entry) → Memᴰ e es → length e.key ≤ max_path

module _ (e : Entry) (es : List Entry) (short : Short (e ∷ es)) (i : ℕ) (rows : List ℕ) (room : row_len * (i + suc (length es)) ≤ length rows) where
  short_key : length e.key ≤ max_path
  short_key = short e (Memᴰ.head refl)

  row_room : row_len * i + length (row_of e) ≤ length rows
  row_room = omega (arith, short_key)

  put_len : length (put rows (row_len * i) (row_of e)) ≡ length rows
  put_len = length_put rows (row_len * i) (row_of e) row_room

-- rows before row i, and those behind the last, are as given
rows_outside : (es : List Entry) → Short es → (i : ℕ) (rows : List ℕ) → row_len * (i + length es) ≤ length rows → (p : ℕ)
    → (p < row_len * i) ⊎ (row_len * (i + length es) ≤ p) → get_or (rows_from i es rows) p 0 ≡ get_or rows p 0
unfolding rows_from
rows_outside [] short i rows room p h = refl
rows_outside (e ∷ es) short i rows room p h =
    let k = short_key e es short i rows room in
    rows_outside es (λ d on. short d (Memᴰ.tail on)) (i + 1) (put rows (row_len * i) (row_of e)) (omega (arith, put_len e es short i rows room)) p
    (⊎_elim (λ (l : p < row_len * i). inl (omega arith)) (λ (l : row_len * (i + suc (length es)) ≤ p). inr (omega arith)) h)
    ∙ ⊎_elim
    (λ (l : p < row_len * i). put_before rows (row_len * i) (row_of e) (row_room e es short i rows room) p l)
    (λ (l : row_len * (i + suc (length es)) ≤ p). put_after rows (row_len * i) (row_of e) (row_room e es short i rows room) p (omega arith)) h

-- a byte of row i + n
rows_byte : (es : List Entry) → Short es → (i : ℕ) (rows : List ℕ) → row_len * (i + length es) ≤ length rows → (n j : ℕ) → n < length es → j ≤ length (key_at es n)
    → get_or (rows_from i es rows) (row_len * (i + n) + j) 0 ≡ get_or (length (key_at es n) ∷ key_at es n) j 0
unfolding rows_from
rows_byte [] short i rows room n j h low = absurd (omega arith)
rows_byte (e ∷ es) short i rows room zero j h low =
    let k = short_key e es short i rows room in
    let at : row_len * (i + 0) + j ≡ row_len * i + j = omega arith in
    ap (λ (p : ℕ). get_or (rows_from (i + 1) es (put rows (row_len * i) (row_of e))) p 0) at
    ∙ rows_outside es (λ d on. short d (Memᴰ.tail on)) (i + 1) (put rows (row_len * i) (row_of e)) (omega (arith, put_len e es short i rows room)) (row_len * i + j)
    (inl (omega arith))
    ∙ put_in rows (row_len * i) (row_of e) (row_room e es short i rows room) j (omega arith)
rows_byte (e ∷ es) short i rows room (suc n) j h low =
    let at : row_len * (i + suc n) + j ≡ row_len * (i + 1 + n) + j = omega arith in
    ap (λ (p : ℕ). get_or (rows_from (i + 1) es (put rows (row_len * i) (row_of e))) p 0) at
    ∙ rows_byte es (λ d on. short d (Memᴰ.tail on)) (i + 1) (put rows (row_len * i) (row_of e)) (omega (arith, put_len e es short i rows room)) n j (omega arith) low

-- a byte of row i + n behind its key
rows_past : (es : List Entry) → Short es → (i : ℕ) (rows : List ℕ) → row_len * (i + length es) ≤ length rows → (n j : ℕ) → n < length es
    → length (key_at es n) < j → j < row_len → get_or (rows_from i es rows) (row_len * (i + n) + j) 0 ≡ get_or rows (row_len * (i + n) + j) 0
unfolding rows_from
rows_past [] short i rows room n j h low high = absurd (omega arith)
rows_past (e ∷ es) short i rows room zero j h low high =
    rows_outside es (λ d on. short d (Memᴰ.tail on)) (i + 1) (put rows (row_len * i) (row_of e)) (omega (arith, put_len e es short i rows room))
    (row_len * (i + 0) + j) (inl (omega arith))
    ∙ put_after rows (row_len * i) (row_of e) (row_room e es short i rows room) (row_len * (i + 0) + j) (omega arith)
rows_past (e ∷ es) short i rows room (suc n) j h low high =
    let k = short_key e es short i rows room in
    let at : row_len * (i + suc n) + j ≡ row_len * (i + 1 + n) + j = omega arith in
    ap (λ (p : ℕ). get_or (rows_from (i + 1) es (put rows (row_len * i) (row_of e))) p 0) at
    ∙ rows_past es (λ d on. short d (Memᴰ.tail on)) (i + 1) (put rows (row_len * i) (row_of e)) (omega (arith, put_len e es short i rows room)) n j (omega arith) low high
    ∙ ap (λ (p : ℕ). get_or (put rows (row_len * i) (row_of e)) p 0) (sym at)
    ∙ put_after rows (row_len * i) (row_of e) (row_room e es short i rows room) (row_len * (i + suc n) + j) (omega arith)

pub rows_hold : (es : List Entry) (rows : List ℕ) → ((e : Entry) → Memᴰ e es → length e.key ≤ max_path) → row_len * length es ≤ length rows
    → RowsHold es rows (rows_after es rows)
rows_hold es rows short room =
    let fits : row_len * (0 + length es) ≤ length rows = omega arith in
    let at : (i j : ℕ) → row_len * i + j ≡ row_len * (0 + i) + j = λ i j. omega arith in
    record {
      lengths = λ i h.
          ap (λ (p : ℕ). get_or (rows_from 0 es rows) p 0) (omega arith) ∙ rows_byte es short 0 rows fits i 0 h (omega arith);
      bytes = λ i j h low.
          ap (λ (p : ℕ). get_or (rows_from 0 es rows) p 0) (omega arith) ∙ rows_byte es short 0 rows fits i (suc j) h low;
      past_the_key = λ i j h low high.
          ap (λ (p : ℕ). get_or (rows_from 0 es rows) p 0) (at i j) ∙ rows_past es short 0 rows fits i j h low high ∙ ap (λ (p : ℕ). get_or rows p 0) (sym (at i j));
      other_rows = λ p h. rows_outside es short 0 rows fits p (inr (omega arith));
    }
