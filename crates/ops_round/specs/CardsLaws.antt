-- Laws of `with_files`: the cards with the files that they are lent, place by place.
--     files_length, files_at, files_set        their number; the card at a place; a card put at a place
--     cards_length                             the first n of eight
--     cards_cons                               the card at a place, and those behind it
--     put_front, put_back                      the cards up to a place and behind it, where a card was put there
--     few_put                                  few levels, where a card was put
-- Assumes nothing.
use Rattle.std.specs.Prelude.{◌≡◌, refl, ◌⊎◌, List, [], ◌∷◌, ◌++◌, ℕ, zero, suc, ◌+◌, ◌≤◌, ◌<◌, length, take, drop, get_or, set}
use Rattle.std.proofs.Common.{sym, ap, ap₂, ◌∙◌, subst, ⊎_elim, inl, inr, arith, add-one, length-take-le, drop-cons, get_or-take, take-suc-set, drop-set-lt, get_or-set_same, get_or-set_other}
use Rattle.std.proofs.Math.Seq.{take-set-lt}
use Rattle.reading.proofs.RunLaws.{lt_or}
use Rattle.ops_spec.specs.Ops as O
use Rattle.ops_round.specs.declared.Card.{Card}
use Rattle.ops_round.specs.Cards.{card_is, with_files, cards_is, Few}

pub files_length : (fs : List (List ℕ)) (cs : List Card) → length (with_files fs cs) ≡ length cs
unfolding with_files
files_length fs [] = refl
files_length [] (c ∷ cs) = ap suc (files_length [] cs)
files_length (f ∷ fs) (c ∷ cs) = ap suc (files_length fs cs)

pub files_at : (fs : List (List ℕ)) (cs : List Card) (i : ℕ) (d : O.Card) (e : Card) → i < length cs
    → get_or (with_files fs cs) i d ≡ card_is (get_or fs i []) (get_or cs i e)
unfolding with_files
files_at fs [] i d e h = absurd (omega arith)
files_at [] (c ∷ cs) zero d e h = refl
files_at [] (c ∷ cs) (suc i) d e h = files_at [] cs i d e (omega arith)
files_at (f ∷ fs) (c ∷ cs) zero d e h = refl
files_at (f ∷ fs) (c ∷ cs) (suc i) d e h = files_at fs cs i d e (omega arith)

pub files_set : (fs : List (List ℕ)) (cs : List Card) (i : ℕ) (c : Card) → with_files fs (set cs i c) ≡ set (with_files fs cs) i (card_is (get_or fs i []) c)
unfolding with_files
files_set fs [] i c = refl
files_set [] (x ∷ cs) zero c = refl
files_set [] (x ∷ cs) (suc i) c = ap (λ (l : List O.Card). card_is [] x ∷ l) (files_set [] cs i c)
files_set (f ∷ fs) (x ∷ cs) zero c = refl
files_set (f ∷ fs) (x ∷ cs) (suc i) c = ap (λ (l : List O.Card). card_is f x ∷ l) (files_set fs cs i c)

pub cards_length : (fs : List (List ℕ)) (n : ℕ) (cs : List Card) → n ≤ length cs → length (cards_is fs n cs) ≡ n
cards_length fs n cs h =
    let same = files_length fs cs in
    length-take-le n (with_files fs cs) (omega arith)

module _ (fs : List (List ℕ)) (n : ℕ) (cs : List Card) (long : n ≤ length cs) (i : ℕ) (h : i < n) where
  pub cards_cons : (d : Card) → drop i (cards_is fs n cs) ≡ card_is (get_or fs i []) (get_or cs i d) ∷ drop (i + 1) (cards_is fs n cs)
  cards_cons d =
      let e : O.Card = card_is [] d in
      let len = cards_length fs n cs long in
      let at : get_or (cards_is fs n cs) i e ≡ card_is (get_or fs i []) (get_or cs i d) = get_or-take n (with_files fs cs) i e h ∙ files_at fs cs i e d (omega arith) in
      drop-cons (cards_is fs n cs) i e (omega arith) ∙ rw (at, ← add-one i)

  module _ (c : Card) where
    put_is : cards_is fs n (set cs i c) ≡ set (cards_is fs n cs) i (card_is (get_or fs i []) c)
    put_is = ap (take n) (files_set fs cs i c) ∙ take-set-lt n (with_files fs cs) i (card_is (get_or fs i []) c) h

    pub put_front : take (i + 1) (cards_is fs n (set cs i c)) ≡ take i (cards_is fs n cs) ++ (card_is (get_or fs i []) c ∷ [])
    put_front =
        let len = cards_length fs n cs long in
        ap₂ take (add-one i) put_is ∙ take-suc-set (cards_is fs n cs) i (card_is (get_or fs i []) c) (omega arith)

    pub put_back : drop (i + 1) (cards_is fs n (set cs i c)) ≡ drop (i + 1) (cards_is fs n cs)
    put_back = ap (drop (i + 1)) put_is ∙ drop-set-lt (i + 1) (cards_is fs n cs) i (card_is (get_or fs i []) c) (omega arith)

-- few levels, where a card was put
pub few_put : (cs : List Card) (i j : ℕ) (c e : Card) → i < length cs → Few c → (¬ (j ≡ i) → Few (get_or cs j e)) → Few (get_or (set cs i c) j e)
few_put cs i j c e h few other = ⊎_elim (λ z. same z) (λ z. subst Few (sym (get_or-set_other cs i j c e z)) (other z)) (eq_or j i)
  where
    same : j ≡ i → Few (get_or (set cs i c) j e)
    same z = subst Few (sym (ap (λ (x : ℕ). get_or (set cs i c) x e) z ∙ get_or-set_same cs i c e h)) few

    eq_or : (a b : ℕ) → (a ≡ b) ⊎ (¬ (a ≡ b))
    eq_or a b = ⊎_elim (λ (l : a < b). inr (λ z. omega arith)) (λ (g : b ≤ a). ⊎_elim (λ (l : b < a). inr (λ z. omega arith)) (λ (k : a ≤ b). inl (omega arith)) (lt_or b a)) (lt_or a b)
