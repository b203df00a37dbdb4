-- What is still to do does not go by the totals of the readings.
--     to_do_as     the measure by the readings is that by the cards which they stand for
-- Assumes nothing.
use Rattle.std.specs.Prelude.{◌≡◌, refl, List, [], ◌∷◌, ℕ, zero, suc, ◌+◌, ◌-◌, ◌*◌, ◌<◌, ◌≤◌, length, get_or}
use Rattle.std.proofs.Common.{sym, ap, ap₂, ◌∙◌, arith, get_or-take}
use Rattle.format.specs.Strings as S
use Rattle.ops_spec.specs.Ops as O
use Rattle.stream.specs.declared.Plain.{Plain}
use Rattle.stream.specs.Plains.{plain_is, no_plain}
use Rattle.ops_round.specs.declared.Card.{Card}
use Rattle.ops_round.specs.Cards.{slot_is, card_is, with_files, cards_is, used_card}
use Rattle.ops_round.specs.CardsLaws.{cards_length, files_at}
use Rattle.ops_seen.specs.declared.Seen.{Seen}
use Rattle.ops_seen.specs.Sights.{dealt_card}
use Rattle.ops_turn.specs.Parts.{dealt_all, weight, load, to_do}
use Rattle.ops_turn.specs.PartsLaws.{dealt_length, dealt_at}
use Rattle.ops_live.specs.declared.Live.{Live}
use Rattle.ops_live.specs.Lives.{plain_of, AllStand}
use Rattle.ops_lives.specs.LiveRounds.{cards_from}

from_length : (fs : List (List ℕ)) (hi : S.Bound) (ls : List Live) → length (cards_from fs hi ls) ≡ length ls
unfolding cards_from
from_length fs hi [] = refl
from_length [] hi (l ∷ ls) = ap suc (from_length [] hi ls)
from_length (f ∷ fs) hi (l ∷ ls) = ap suc (from_length fs hi ls)

from_at : (fs : List (List ℕ)) (hi : S.Bound) (ls : List Live) (i : ℕ) (d : Card) (x : Live) → i < length ls
    → get_or (cards_from fs hi ls) i d ≡ used_card (plain_of (get_or fs i []) hi (get_or ls i x) 0)
unfolding cards_from
from_at fs hi [] i d x h = absurd (omega arith)
from_at [] hi (l ∷ ls) zero d x h = refl
from_at [] hi (l ∷ ls) (suc i) d x h = from_at [] hi ls i d x (omega arith)
from_at (f ∷ fs) hi (l ∷ ls) zero d x h = refl
from_at (f ∷ fs) hi (l ∷ ls) (suc i) d x h = from_at fs hi ls i d x (omega arith)

load_ext : (X Y : List O.Card) → length X ≡ length Y → ((i : ℕ) (e : O.Card) → i < length X → weight (get_or X i e) ≡ weight (get_or Y i e)) → load X ≡ load Y
unfolding load
load_ext [] [] e at = refl
load_ext [] (y ∷ Y) e at = absurd (omega arith)
load_ext (x ∷ X) [] e at = absurd (omega arith)
load_ext (x ∷ X) (y ∷ Y) e at = ap₂ ◌+◌ (at 0 x (omega arith)) (load_ext X Y (omega arith) (λ i d h. at (suc i) d (omega arith)))

-- the total of a reading does not count
weight_same : (f : List ℕ) (hi : S.Bound) (l : Live) (t : ℕ) (s : O.Slot) → weight (O.card_is f (plain_is (plain_of f hi l t)) s) ≡ weight (O.card_is f (plain_is (plain_of f hi l 0)) s)
weight_same f hi l t O.used = refl
weight_same f hi l t (O.holds v) = refl
weight_same f hi l t O.ended = refl

module _ {fs : List (List ℕ)} {n : ℕ} {hi : S.Bound} {ls : List Live} {all : List Card} (st : AllStand fs n hi ls all) (ss : List Seen) (small : n ≤ 8) (eight : length ss ≡ 8) where
  abbrev other : List Card
  other = cards_from fs hi ls

  other_len : length other ≡ 8
  other_len = from_length fs hi ls ∙ st.lives

  b : Card
  b = used_card no_plain

  at_card : (cs : List Card) → length cs ≡ 8 → (i : ℕ) (e : O.Card) (q : Seen) → i < n
      → get_or (cards_is fs n (dealt_all cs ss)) i e ≡ card_is (get_or fs i []) (dealt_card (get_or cs i b) (get_or ss i q))
  at_card cs len i e q h =
      let d = dealt_length cs ss in
      get_or-take n (with_files fs (dealt_all cs ss)) i e h
      ∙ files_at fs (dealt_all cs ss) i e b (omega arith)
      ∙ ap (card_is (get_or fs i [])) (dealt_at cs ss i b q (omega arith) (omega arith))

  same_at : (q : Seen) (l : Live) (i : ℕ) (e : O.Card) → i < n → weight (get_or (cards_is fs n (dealt_all all ss)) i e) ≡ weight (get_or (cards_is fs n (dealt_all other ss)) i e)
  same_at q l i e h =
      let s = st.at i l b h in
      let len = st.lives in
      let f = get_or fs i [] in
      let x = slot_is (get_or ss i q).slot in
      ap weight (at_card all st.eight i e q h)
      ∙ ap (λ (p : Plain). weight (O.card_is f (plain_is p) x)) s.is
      ∙ weight_same f hi (get_or ls i l) s.total x
      ∙ ap (λ (c : Card). weight (O.card_is f (plain_is c.reading) x)) (sym (from_at fs hi ls i b l (omega arith)))
      ∙ ap weight (sym (at_card other other_len i e q h))

  some_of : {A : Type 0} (l : List A) → 0 < length l → A
  some_of [] h = absurd (omega arith)
  some_of (x ∷ l) h = x

  pub to_do_as : (i : ℕ) → to_do fs n all ss i ≡ to_do fs n other ss i
  to_do_as i =
      let a = dealt_length all ss in
      let c = dealt_length other ss in
      let e = st.eight in
      let g = other_len in
      let len = st.lives in
      let x = cards_length fs n (dealt_all all ss) (omega arith) in
      let y = cards_length fs n (dealt_all other ss) (omega arith) in
      ap (λ (m : ℕ). 9 * m + (n - i))
      (load_ext (cards_is fs n (dealt_all all ss)) (cards_is fs n (dealt_all other ss)) (x ∙ sym y)
      (λ j d h. same_at (some_of ss (omega arith)) (some_of ls (omega arith)) j d (omega arith)))
