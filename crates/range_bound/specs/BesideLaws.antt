-- Laws of `Besides`.
--     beside_none                 no byte yet
--     Longer path path⁺ k x       one byte more, x, after k bytes
--     beside_over, beside_keep    where a byte before it does not agree
--     beside_past, ..             where all before it agree, by its side
--     beside_pop, beside_agree    fewer bytes
--     beside_within               a key that does not pass
-- Assumes nothing.
use Rattle.std.specs.Prelude.{◌≡◌, refl, Bool, true, false, List, [], ◌∷◌, ◌++◌, ℕ, ◌+◌, ◌≤◌, ◌<◌, length, get_or, take, drop, set}
use Rattle.std.proofs.Common.{sym, ap, ap₂, ◌∙◌, add_comm, add-one, arith, length-drop, length-set, take-append-drop, take-suc, take-take, get_or-set_same}
use Rattle.std.proofs.lemmas.List.{take-set-le, drop-set-add}
use Rattle.std.proofs.Math.Seq.{append_snoc}
use Rattle.format.specs.Strings as S
use Rattle.reading.specs.Reading.{passes_test}
use Rattle.range_bound.specs.declared.Side.{Side}
use Rattle.range_bound.specs.declared.Side.TheVariants.{Below, Along, Past}
use Rattle.range_bound.specs.Besides.{SideOf, Beside}

pub beside_none : (hi : S.Bound) (b path : List ℕ) → Beside hi b path 0 0 false
beside_none hi b path = record { low = omega arith; agrees = refl; decided = λ h. absurd (omega arith); undecided = λ e. refl }

pub record Longer (path path⁺ : List ℕ) (k x : ℕ) : Type 0 where
  pub first : take k path⁺ ≡ take k path
  pub here : get_or path⁺ k 0 ≡ x
  pub room : k < length path⁺

-- a path is its own, one byte further
pub longer_self : (path : List ℕ) (k : ℕ) → k < length path → Longer path path k (get_or path k 0)
longer_self path k h = record { first = refl; here = refl; room = h }

-- the inputs after the first, with one more
pub longer_set : (is : List ℕ) (k x : ℕ) → k + 1 < length is → Longer (drop 1 is) (drop 1 (set is (k + 1) x)) k x
longer_set is k x h =
    let e : drop 1 (set is (k + 1) x) ≡ set (drop 1 is) k x = ap (λ (j : ℕ). drop 1 (set is j x)) (add_comm k 1) ∙ drop-set-add 1 is k x in
    let l : k < length (drop 1 is) = simp length-drop (omega arith) in
    record {
      first = ap (take k) e ∙ take-set-le k (drop 1 is) k x (omega arith);
      here = ap (λ (p : List ℕ). get_or p k 0) e ∙ get_or-set_same (drop 1 is) k x 0 l;
      room = rw e (simp length-set l);
    }

module _ {hi : S.Bound} {b path path⁺ : List ℕ} {k x same : ℕ} {over : Bool} (l : Longer path path⁺ k x) (g : Beside hi b path k same over) where
  first_same : (j : ℕ) → j ≤ k → take j path⁺ ≡ take j path
  first_same j h = sym (take-take j k path⁺ h) ∙ ap (take j) l.first ∙ take-take j k path h

  -- ---- a byte before it does not agree

  pub beside_over : same < k → passes_test hi (take (k + 1) path⁺) ≡ over
  beside_over h =
      ap (passes_test hi)
      (sym (take-append-drop (same + 1) (take (k + 1) path⁺))
      ∙ ap (λ (p : List ℕ). p ++ drop (same + 1) (take (k + 1) path⁺)) (take-take (same + 1) (k + 1) path⁺ (omega arith) ∙ first_same (same + 1) (omega arith)))
      ∙ g.decided h (drop (same + 1) (take (k + 1) path⁺))

  pub beside_keep : same < k → Beside hi b path⁺ (k + 1) same over
  beside_keep h = record {
    low = omega arith;
    agrees = first_same same g.low ∙ g.agrees;
    decided = λ _ more. ap (λ (p : List ℕ). passes_test hi (p ++ more)) (first_same (same + 1) (omega arith)) ∙ g.decided h more;
    undecided = λ e. absurd (omega arith);
  }

  -- ---- all before it agree

  module _ (all : k ≤ same) {r : Side} (side : SideOf hi b k x r) where
    same_is : same ≡ k
    same_is = omega (arith, g.low)

    front : take k path⁺ ≡ take k b
    front = l.first ∙ ap (λ (j : ℕ). take j path) (sym same_is) ∙ g.agrees ∙ ap (λ (j : ℕ). take j b) same_is

    key_is_lem : take (k + 1) path⁺ ≡ take k b ++ (x ∷ [])
    key_is_lem =
        ap (λ (j : ℕ). take j path⁺) (add-one k) ∙ take-suc path⁺ k 0 l.room
        ∙ ap₂ (λ (p : List ℕ) (y : ℕ). p ++ (y ∷ [])) front l.here

    key_more : (more : List ℕ) → take (k + 1) path⁺ ++ more ≡ take k b ++ (x ∷ more)
    key_more more = ap (λ (p : List ℕ). p ++ more) key_is_lem ∙ append_snoc (take k b) x more

    pub beside_past : r ≡ Past → passes_test hi (take (k + 1) path⁺) ≡ true
    beside_past e = ap (passes_test hi) key_is_lem ∙ side.past e []

    pub beside_beyond : r ≡ Past → Beside hi b path⁺ (k + 1) k true
    beside_beyond e = record {
      low = omega arith;
      agrees = front;
      decided = λ _ more. ap (passes_test hi) (key_more more) ∙ side.past e more;
      undecided = λ z. absurd (omega arith);
    }

    pub beside_below : r ≡ Below → (passes_test hi (take (k + 1) path⁺) ≡ false) × Beside hi b path⁺ (k + 1) same over
    beside_below e = (
      ap (passes_test hi) key_is_lem ∙ side.below e [],
      record {
        low = omega (arith, g.low);
        agrees = ap (λ (j : ℕ). take j path⁺) same_is ∙ front ∙ ap (λ (j : ℕ). take j b) (sym same_is);
        decided = λ _ more.
            ap (λ (j : ℕ). passes_test hi (take (j + 1) path⁺ ++ more)) same_is ∙ ap (passes_test hi) (key_more more) ∙ side.below e more
            ∙ sym (g.undecided same_is);
        undecided = λ z. absurd (omega (arith, g.low));
      },
    )

    pub beside_along : r ≡ Along → (passes_test hi (take (k + 1) path⁺) ≡ false) × Beside hi b path⁺ (k + 1) (k + 1) over
    beside_along e =
        let w = side.along e in (
          ap (passes_test hi) key_is_lem ∙ w.2,
          record {
            low = omega arith;
            agrees =
                key_is_lem ∙ ap (λ (y : ℕ). take k b ++ (y ∷ [])) (sym w.1) ∙ sym (take-suc b k 0 w.0) ∙ ap (λ (j : ℕ). take j b) (sym (add-one k));
            decided = λ h. absurd (omega arith);
            undecided = λ _. g.undecided same_is;
          },
        )

-- ---- fewer bytes

module _ {hi : S.Bound} {b path : List ℕ} {k same : ℕ} {over : Bool} (g : Beside hi b path k same over) (top : ℕ) (h : top ≤ k) where
  -- the first byte that does not agree is still there
  pub beside_pop : same < top → Beside hi b path top same over
  beside_pop low = record {
    low = omega arith;
    agrees = g.agrees;
    decided = λ _ more. g.decided (omega arith) more;
    undecided = λ z. absurd (omega arith);
  }

  pub beside_agree : top ≤ same → Beside hi b path top top false
  beside_agree low = record {
    low = omega arith;
    agrees = sym (take-take top same path low) ∙ ap (take top) g.agrees ∙ take-take top same b low;
    decided = λ z. absurd (omega arith);
    undecided = λ _. refl;
  }

-- ---- a key that does not pass

pub beside_within : {hi : S.Bound} {b path : List ℕ} {k same : ℕ} {over : Bool} → Beside hi b path k same over → passes_test hi (take k path) ≡ false
    → Beside hi b path k same false
beside_within {hi} {b} {path} {k} {same} {over} g p = record {
  low = g.low;
  agrees = g.agrees;
  decided = λ h more. g.decided h more ∙ over_false h;
  undecided = λ _. refl;
}
  where
    over_false : same < k → over ≡ false
    over_false h =
        sym (g.decided h (drop (same + 1) (take k path)))
        ∙ ap (passes_test hi)
        (ap (λ (q : List ℕ). q ++ drop (same + 1) (take k path)) (sym (take-take (same + 1) k path (omega arith))) ∙ take-append-drop (same + 1) (take k path))
        ∙ p
