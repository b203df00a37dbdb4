-- Laws of what is seen of cards.
--     front_is                 the card at a place, and those behind it
--     used1, used_at, used_kept    a card whose key is used up where it is meant; `use_up` place by place
--     key_kept                 a key that is put leaves the others
--     see_sees, see_few        what is seen of cards is seen of the cards that they stand for
--     deal_is                  cards dealt by what is seen of Y stand for Y
-- Assumes nothing.
use Rattle.std.specs.Prelude.{◌≡◌, refl, Bool, true, false, cond, List, [], ◌∷◌, ℕ, zero, suc, ◌+◌, ◌≤◌, ◌<◌, length, drop, get_or}
use Rattle.std.proofs.Common.{sym, ap, ap₂, ◌∙◌, subst, arith, add-one, drop-cons, get_or-take, ext_get_or}
use Rattle.format.specs.Limits.{max_levels}
use Rattle.plain.specs.Plain as P
use Rattle.ops_spec.specs.Ops as O
use Rattle.ops_spec.specs.Ops.{card_key, if_holds, use_up}
use Rattle.stream.specs.declared.Plain.{Plain}
use Rattle.ops_keys.specs.declared.Place.{Place}
use Rattle.ops_keys.specs.Heads.{KeyAt, BytesPut}
use Rattle.ops_round.specs.declared.Slot.{Slot}
use Rattle.ops_round.specs.declared.Slot.TheVariants.{Holds}
use Rattle.ops_round.specs.declared.Card.{Card}
use Rattle.ops_round.specs.Cards.{slot_is, card_is, with_files, cards_is, FewBy}
use Rattle.ops_round.specs.Cards as C
use Rattle.ops_round.specs.CardsLaws.{cards_length, files_at}
use Rattle.ops_seen.specs.declared.Seen.{Seen}
use Rattle.ops_seen.specs.Sights.{SeenAt, AllSeen, dealt_card, AllDealt, Shows, Sees, Few, Kept}

-- ---- the card at a place

pub record Front (X : List O.Card) (i : ℕ) : Type 0 where
  pub other : O.Card
  pub is : drop i X ≡ get_or X i other ∷ drop (i + 1) X

cons_at : (X : List O.Card) (i : ℕ) (e : O.Card) → i < length X → drop i X ≡ get_or X i e ∷ drop (i + 1) X
cons_at X i e h = drop-cons X i e h ∙ rw (← add-one i)

pub front_is : (X : List O.Card) (i : ℕ) → i < length X → Front X i
front_is [] i h = absurd (omega arith)
front_is (x ∷ X) i h = record { other = x; is = cons_at (x ∷ X) i x h }

-- ---- keys used up

abbrev pub used1 : (List ℕ → Bool) → O.Card → O.Card
used1 P x = if_holds x.slot (λ v. cond (P (card_key x)) (O.card_is x.file x.reading O.used) x) x

pub used_count : (P : List ℕ → Bool) (X : List O.Card) → length (use_up P X) ≡ length X
unfolding use_up
used_count P [] = refl
used_count P (x ∷ X) = ap suc (used_count P X)

pub used_at : (P : List ℕ → Bool) (X : List O.Card) (i : ℕ) (e : O.Card) → i < length X → get_or (use_up P X) i e ≡ used1 P (get_or X i e)
unfolding use_up
used_at P [] i e h = absurd (omega arith)
used_at P (x ∷ X) zero e h = refl
used_at P (x ∷ X) (suc i) e h = used_at P X i e (omega arith)

cond_file : (x : O.Card) (b : Bool) → (cond b (O.card_is x.file x.reading O.used) x).file ≡ x.file
cond_file x true = refl
cond_file x false = refl

cond_reading : (x : O.Card) (b : Bool) → (cond b (O.card_is x.file x.reading O.used) x).reading ≡ x.reading
cond_reading x true = refl
cond_reading x false = refl

used_file : (P : List ℕ → Bool) (x : O.Card) (s : O.Slot) → (if_holds s (λ v. cond (P (card_key x)) (O.card_is x.file x.reading O.used) x) x).file ≡ x.file
used_file P x O.used = refl
used_file P x (O.holds v) = cond_file x (P (card_key x))
used_file P x O.ended = refl

used_reading : (P : List ℕ → Bool) (x : O.Card) (s : O.Slot)
    → (if_holds s (λ v. cond (P (card_key x)) (O.card_is x.file x.reading O.used) x) x).reading ≡ x.reading
used_reading P x O.used = refl
used_reading P x (O.holds v) = cond_reading x (P (card_key x))
used_reading P x O.ended = refl

files_kept : (P : List ℕ → Bool) (X : List O.Card) (i : ℕ) (e : O.Card) → (get_or (use_up P X) i e).file ≡ (get_or X i e).file
unfolding use_up
files_kept P [] i e = refl
files_kept P (x ∷ X) zero e = used_file P x x.slot
files_kept P (x ∷ X) (suc i) e = files_kept P X i e

readings_kept : (P : List ℕ → Bool) (X : List O.Card) (i : ℕ) (e : O.Card) → (get_or (use_up P X) i e).reading ≡ (get_or X i e).reading
unfolding use_up
readings_kept P [] i e = refl
readings_kept P (x ∷ X) zero e = used_reading P x x.slot
readings_kept P (x ∷ X) (suc i) e = readings_kept P X i e

pub used_kept : (P : List ℕ → Bool) (X : List O.Card) → Kept X (use_up P X)
used_kept P X = record { count = used_count P X; file = files_kept P X; reading = readings_kept P X }

-- ---- what is seen of cards

-- a key that was put leaves the others as they are
pub key_kept : (p q : Plain) (i j : ℕ) (ks₀ ks : List ℕ) (h g : Place) → BytesPut p i ks₀ ks h → j < 8 → ¬ (j ≡ i) → KeyAt ks₀ q j g → KeyAt ks q j g
key_kept p q i j ks₀ ks h g put eight ne at =
    let a = at.at in
    let l = at.levels in
    record {
      at = at.at;
      levels = at.levels;
      key = λ few. put.others g (record { eight = omega arith; few = omega arith }) (λ z. ne (sym a ∙ z)) ∙ at.key few;
    }

module _ (n : ℕ) (cs : List Card) (ks : List ℕ) (r : List Seen) (all : AllSeen n cs ks r) (small : n ≤ 8) where
  few_levels : (c : Card) → C.Few c → (v : ℕ) → c.slot ≡ Holds v → c.reading.reading.levels ≤ max_levels
  few_levels c few v e = subst (λ (x : Slot). FewBy x c.reading.reading.levels) e few

  pub see_few : C.AllFew n cs → (i : ℕ) (d : Seen) → i < n → (b : Card) → Few (get_or r i d)
  see_few few i d h b =
      let s = all.at i b d h in
      let a = s.key.at in
      let l = s.key.levels in
      record {
        held = λ v e. let f = few_levels (get_or cs i b) (few i b h) v (sym s.slot ∙ e) in record { eight = omega arith; few = omega arith };
      }

  shown : (f : List ℕ) (c : Card) (i : ℕ) (s : Seen) → SeenAt ks c i s → C.Few c → Shows ks s (card_is f c)
  shown f c i s o few =
      record {
        slot = sym (ap slot_is o.slot);
        key = λ v e. sym (o.key.key (few_levels c few v (sym o.slot ∙ e)));
      }

  card_at : (fs : List (List ℕ)) (i : ℕ) (b : Card) (e : O.Card) → i < n → get_or (cards_is fs n cs) i e ≡ card_is (get_or fs i []) (get_or cs i b)
  card_at fs i b e h = let g = all.given in get_or-take n (with_files fs cs) i e h ∙ files_at fs cs i e b (omega arith)

  pub see_sees : (fs : List (List ℕ)) (b : Card) → C.AllFew n cs → Sees ks n r (cards_is fs n cs)
  see_sees fs b few =
      let g = all.given in
      record {
        count = cards_length fs n cs (omega arith);
        at = λ i d e h. subst (Shows ks (get_or r i d)) (sym (card_at fs i b e h)) (shown (get_or fs i []) (get_or cs i b) i (get_or r i d) (all.at i b d h) (few i b h));
      }

-- ---- cards dealt

card_ext : (x y : O.Card) → x.file ≡ y.file → x.reading ≡ y.reading → x.slot ≡ y.slot → x ≡ y
card_ext x y f r s =
    ap (λ (a : List ℕ). O.card_is a x.reading x.slot) f ∙ ap₂ (λ (a : P.Plain) (b : O.Slot). O.card_is y.file a b) r s

pub deal_is : (n : ℕ) (cs : List Card) (ss : List Seen) (r : List Card) → length cs ≡ 8 → n ≤ 8 → AllDealt n cs ss r → (fs : List (List ℕ)) (Y : List O.Card) (b : Card) (d : Seen)
    (o : O.Card) (ks : List ℕ) → Sees ks n ss Y → Kept (cards_is fs n cs) Y → cards_is fs n r ≡ Y
deal_is n cs ss r given small all fs Y b d o ks sees kept =
    let eight = all.eight in
    let len : length (cards_is fs n r) ≡ n = cards_length fs n r (omega arith) in
    let count = sees.count in
    ext_get_or o (cards_is fs n r) Y (len ∙ sym count) (λ i h. at i (omega arith))
  where
    at : (i : ℕ) → i < n → get_or (cards_is fs n r) i o ≡ get_or Y i o
    at i h =
        let eight = all.eight in
        let new : get_or (cards_is fs n r) i o ≡ card_is (get_or fs i []) (get_or r i b) = get_or-take n (with_files fs r) i o h ∙ files_at fs r i o b (omega arith) in
        let old : get_or (cards_is fs n cs) i o ≡ card_is (get_or fs i []) (get_or cs i b) = get_or-take n (with_files fs cs) i o h ∙ files_at fs cs i o b (omega arith) in
        new ∙ ap (card_is (get_or fs i [])) (all.at i b d h)
        ∙ card_ext (card_is (get_or fs i []) (dealt_card (get_or cs i b) (get_or ss i d))) (get_or Y i o)
        (sym (kept.file i o ∙ ap (λ (x : O.Card). x.file) old)) (sym (kept.reading i o ∙ ap (λ (x : O.Card). x.reading) old)) (sym (sees.at i d o h).slot)
