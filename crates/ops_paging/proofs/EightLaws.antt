-- What stands in the file numbers and in the values afterwards, place by place: each item has its eight places, and every other place is as given.
--     EightsHold f is out₀ out     the claim
--     eights_hold                  it holds of `eights_after`, for items of at most eight pairs and buffers that have room for them
-- Assumes nothing.
use Rattle.std.specs.Prelude.{◌≡◌, ◌⊎◌, take, replicate}
use Rattle.std.proofs.Math.Path.{refl, ap}
use Rattle.std.proofs.Common.{sym, ◌∙◌, length-append, length-take-le}
use Rattle.std.proofs.Math.Logic.{⊎_elim, inl, inr}
use mathlib.Core.List.{List, [], ◌∷◌, ◌++◌, map, Memᴰ}
use Prim.Native.Nat.{ℕ, zero, suc, ◌+◌, ◌-◌, ◌*◌, ◌≤◌, ◌<◌}
use native.Mathlib.Omega.{arith}
use Rattle.std.proofs.Math.ListN.{length, get_or, drop, get_or-append}
use Rattle.std.proofs.lemmas.List.{length-map, length-replicate}
use Rattle.std.proofs.Math.Seq.{get_or-append-add, get_or-take, get_or-drop}
use Rattle.buffers.specs.Put.{put}
use Rattle.buffers.specs.PutLaws.{length_put}
use Rattle.ops_spec.specs.Ops.{Indexed, indexed}
use Rattle.ops_spec.specs.OpsLists.{Item, item_is}
use Rattle.ops_pairs.specs.Pairs.{padded}
use Rattle.ops_paging.specs.ItemPaging.{eight_of, eights_from, eights_after}

-- item i
abbrev pub item_at : List Item → ℕ → Item
item_at is i = get_or is i (item_is [] [])

pub record EightsHold (f : Indexed → ℕ) (is : List Item) (out₀ out : List ℕ) : Type 0 where
  pub eight : (i j : ℕ) → i < length is → j < 8 → get_or out (8 * i + j) 0 ≡ get_or (eight_of f (item_at is i)) j 0
  pub others : (p : ℕ) → 8 * length is ≤ p → get_or out p 0 ≡ get_or out₀ p 0

pub eight_length : (f : Indexed → ℕ) (x : Item) → length x.pairs ≤ 8 → length (eight_of f x) ≡ 8
eight_length f x few =
    let z : List Indexed = replicate (8 - length x.pairs) (indexed 0 0) in
    length-map (padded x.pairs) f ∙ length-append x.pairs z ∙ ap (λ (n : ℕ). length x.pairs + n) (length-replicate (8 - length x.pairs) (indexed 0 0)) ∙ omega arith

-- ---- a place of a buffer that was written in

module _ (out : List ℕ) (at : ℕ) (v : List ℕ) (room : at + length v ≤ length out) where
  front_len : length (take at out) ≡ at
  front_len = length-take-le at out (omega arith)

  both_len : length (take at out ++ v) ≡ at + length v
  both_len = length-append (take at out) v ∙ ap (λ (n : ℕ). n + length v) front_len

  put_before : (p : ℕ) → p < at → get_or (put out at v) p 0 ≡ get_or out p 0
  unfolding put
  put_before p h =
      get_or-append (take at out ++ v) (drop (at + length v) out) 0 p (omega (arith, both_len))
      ∙ get_or-append (take at out) v 0 p (omega (arith, front_len))
      ∙ get_or-take at out p 0 h

  put_in : (j : ℕ) → j < length v → get_or (put out at v) (at + j) 0 ≡ get_or v j 0
  unfolding put
  put_in j h =
      get_or-append (take at out ++ v) (drop (at + length v) out) 0 (at + j) (omega (arith, both_len))
      ∙ ap (λ (n : ℕ). get_or (take at out ++ v) (n + j) 0) (sym front_len)
      ∙ get_or-append-add (take at out) v j 0

  put_after : (p : ℕ) → at + length v ≤ p → get_or (put out at v) p 0 ≡ get_or out p 0
  unfolding put
  put_after p h =
      let q : p ≡ at + length v + (p - (at + length v)) = omega arith in
      ap (λ (n : ℕ). get_or (take at out ++ v ++ drop (at + length v) out) n 0) (q ∙ ap (λ (n : ℕ). n + (p - (at + length v))) (sym both_len))
      ∙ get_or-append-add (take at out ++ v) (drop (at + length v) out) (p - (at + length v)) 0
      ∙ get_or-drop (at + length v) out (p - (at + length v)) 0
      ∙ ap (λ (n : ℕ). get_or out n 0) (sym q)

-- ---- from item i on

abbrev Few : List Item → Type 0
Few is = (x : Item) → Memᴰ x is → length x.pairs ≤ 8

module _ (f : Indexed → ℕ) where
  module _ (x : Item) (is : List Item) (few : Few (x ∷ is)) (i : ℕ) (out : List ℕ) (room : 8 * (i + suc (length is)) ≤ length out) where
    eight_len : length (eight_of f x) ≡ 8
    eight_len = eight_length f x (few x (Memᴰ.head refl))

    eight_room : 8 * i + length (eight_of f x) ≤ length out
    eight_room = omega (arith, eight_len)

    put_len : length (put out (8 * i) (eight_of f x)) ≡ length out
    put_len = length_put out (8 * i) (eight_of f x) eight_room

  -- places before item i, and those behind the last, are as given
  outside : (is : List Item) → Few is → (i : ℕ) (out : List ℕ) → 8 * (i + length is) ≤ length out → (p : ℕ)
      → (p < 8 * i) ⊎ (8 * (i + length is) ≤ p) → get_or (eights_from f i is out) p 0 ≡ get_or out p 0
  unfolding eights_from
  outside [] few i out room p h = refl
  outside (x ∷ is) few i out room p h =
      let k = eight_len x is few i out room in
      outside is (λ y on. few y (Memᴰ.tail on)) (i + 1) (put out (8 * i) (eight_of f x)) (omega (arith, put_len x is few i out room)) p
      (⊎_elim (λ (l : p < 8 * i). inl (omega arith)) (λ (l : 8 * (i + suc (length is)) ≤ p). inr (omega arith)) h)
      ∙ ⊎_elim
      (λ (l : p < 8 * i). put_before out (8 * i) (eight_of f x) (eight_room x is few i out room) p l)
      (λ (l : 8 * (i + suc (length is)) ≤ p). put_after out (8 * i) (eight_of f x) (eight_room x is few i out room) p (omega (arith, k))) h

  -- a place of item i + n
  inside : (is : List Item) → Few is → (i : ℕ) (out : List ℕ) → 8 * (i + length is) ≤ length out → (n j : ℕ) → n < length is → j < 8
      → get_or (eights_from f i is out) (8 * (i + n) + j) 0 ≡ get_or (eight_of f (item_at is n)) j 0
  unfolding eights_from
  inside [] few i out room n j h low = absurd (omega arith)
  inside (x ∷ is) few i out room zero j h low =
      let k = eight_len x is few i out room in
      let at : 8 * (i + 0) + j ≡ 8 * i + j = omega arith in
      ap (λ (p : ℕ). get_or (eights_from f (i + 1) is (put out (8 * i) (eight_of f x))) p 0) at
      ∙ outside is (λ y on. few y (Memᴰ.tail on)) (i + 1) (put out (8 * i) (eight_of f x)) (omega (arith, put_len x is few i out room)) (8 * i + j) (inl (omega arith))
      ∙ put_in out (8 * i) (eight_of f x) (eight_room x is few i out room) j (omega (arith, k))
  inside (x ∷ is) few i out room (suc n) j h low =
      let at : 8 * (i + suc n) + j ≡ 8 * (i + 1 + n) + j = omega arith in
      ap (λ (p : ℕ). get_or (eights_from f (i + 1) is (put out (8 * i) (eight_of f x))) p 0) at
      ∙ inside is (λ y on. few y (Memᴰ.tail on)) (i + 1) (put out (8 * i) (eight_of f x)) (omega (arith, put_len x is few i out room)) n j (omega arith) low

  pub eights_hold : (is : List Item) (out : List ℕ) → ((x : Item) → Memᴰ x is → length x.pairs ≤ 8) → 8 * length is ≤ length out
      → EightsHold f is out (eights_after f is out)
  eights_hold is out few room =
      let fits : 8 * (0 + length is) ≤ length out = omega arith in
      record {
        eight = λ i j h low. ap (λ (p : ℕ). get_or (eights_from f 0 is out) p 0) (omega arith) ∙ inside is few 0 out fits i j h low;
        others = λ p h. outside is few 0 out fits p (inr (omega arith));
      }
