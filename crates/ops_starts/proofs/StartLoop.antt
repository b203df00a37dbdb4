-- The starts of a page, file after file.
--     before ds o        the cards of some files, and then the others' starts
--     Starting ..        the first i files are started, and the rest decides
--     starting_none, starting_on, starting_refused, starting_all     at the start, after a file, and each way out
-- Assumes nothing.
use mathlib.Core.Path.{◌≡◌, refl, sym, ap, ap₂, ◌∙◌, subst}
use Rattle.std.specs.Prelude.{Ok, Err}
use Rattle.format.specs.declared.Refusal.{Refusal}
use mathlib.Core.Logic.{⊎_elim}
use mathlib.Core.List.{List, [], ◌∷◌, ◌++◌, map, replicate, append_assoc, append-nil}
use Prim.Native.Nat.{ℕ, ◌+◌, ◌<◌, ◌≤◌}
use native.Mathlib.Omega.{arith}
use native.Mathlib.Numerals.{add-one}
use denote.Ref.{Bor}
use lib.ListN.{get_or-map, length, take, drop, get_or, set, length-set, length-map, drop_of_length-le}
use lib.Seq.{take-length, drop-cons, get_or-take, length-take-le, get_or-set_same, get_or-set_other}
use Rattle.std.proofs.lemmas.List.{length-replicate}
use Rattle.format.specs.Strings as S
use Rattle.reading.proofs.RunLaws.{lt_or}
use Rattle.reading.specs.Reading as R
use Rattle.plain.specs.Plain as Q
use Rattle.plain.specs.Plain.{plain_with}
use Rattle.ops_spec.specs.Ops as O
use Rattle.ops_paging.specs.ItemPaging.{Starts, wide_card, with_start, start_all}
use Rattle.ops_paging.specs.ItemPaging as P
use Rattle.stream.specs.Plains.{no_plain}
use Rattle.ops_round.specs.declared.Card.{Card}
use Rattle.ops_round.specs.declared.Slot.TheVariants.{Used}
use Rattle.ops_round.specs.Cards.{card_is, cards_is, used_card}
use Rattle.ops_round.specs.CardsLaws.{cards_length, put_front}
use Rattle.ops_keys.specs.declared.Place.{Place}
use Rattle.ops_seen.specs.declared.Seen.{Seen}
use Rattle.ops_seen.specs.Sights.{SeenAt}
use Rattle.ops_seen.specs.SightsLaws.{key_kept}
use Rattle.ops_live.specs.declared.Live.{Live}
use Rattle.ops_live.specs.Lives.{view_from, plain_of, StandsFor, AllStand, BeginsTo, KeyPut}
use Rattle.ops_live.specs.LivesLaws.{view_is_lem}
use Rattle.ops_starts.specs.StartedCards.{StartsBy}

abbrev pub before : List O.Card → Starts → Starts
before ds (P.cards es) = P.cards (ds ++ es)
before ds (Starts.refused n) = Starts.refused n

none_first : (o : Starts) → before [] o ≡ o
none_first (P.cards es) = refl
none_first (Starts.refused n) = refl

one_more : (ds : List O.Card) (s : List ℕ) (r : R.View) (o : Starts) → before ds (with_start s (R.started r) o) ≡ before (ds ++ (wide_card s r ∷ [])) o
one_more ds s r (P.cards es) = ap P.cards (sym (append_assoc ds (wide_card s r ∷ []) es))
one_more ds s r (Starts.refused n) = refl

-- the first i readings stand for cards, of which the first i are seen
pub record Starting (fs : List (List ℕ)) (n : ℕ) (lo hi : S.Bound) (ls : List Live) (ks : List ℕ) (ss : List Seen) (i : ℕ) : Type 0 where
  pub within : i ≤ n
  pub cards : List Card
  pub eight : length cards ≡ 8
  pub rest : start_all lo hi (take n fs) ≡ before (take i (cards_is fs n cards)) (start_all lo hi (drop i (take n fs)))
  pub stands : AllStand fs i hi ls cards
  pub seen : (j : ℕ) (d : Card) (e : Seen) → j < i → SeenAt ks (get_or cards j d) j (get_or ss j e)
  pub lives_len : length ls ≡ 8
  pub seen_len : length ss ≡ 8
  pub keys_len : length ks ≡ 2048

pub starting_none : (fs : List (List ℕ)) (n : ℕ) (lo hi : S.Bound) (ls : List Live) (ks : List ℕ) (ss : List Seen) → length ls ≡ 8 → length ks ≡ 2048 → length ss ≡ 8
    → Starting fs n lo hi ls ks ss 0
starting_none fs n lo hi ls ks ss a b c =
    record {
      within = omega arith;
      cards = replicate 8 (used_card no_plain);
      eight = length-replicate 8 (used_card no_plain);
      rest = sym (none_first (start_all lo hi (take n fs)));
      stands = record { lives = a; eight = length-replicate 8 (used_card no_plain); at = λ i d e h. absurd (omega arith) };
      seen = λ j d e h. absurd (omega arith);
      lives_len = a;
      seen_len = c;
      keys_len = b;
    }

module _ (fs : List (List ℕ)) (n : ℕ) (lo hi : S.Bound) (ls : List Live) (ks : List ℕ) (ss : List Seen) (i : ℕ) (T : Starting fs n lo hi ls ks ss i) (small : n ≤ 8) (long : length fs ≡ 8) where
  module _ (h : i < n) where
    abbrev f : List ℕ
    f = get_or fs i []

    files_cons : drop i (take n fs) ≡ f ∷ drop (i + 1) (take n fs)
    files_cons =
        let len : length (take n fs) ≡ n = length-take-le n fs (omega arith) in
        drop-cons (take n fs) i [] (omega arith) ∙ rw (get_or-take n fs i [] h, ← add-one i)

    head_started : (w : R.Started) → R.start f lo hi ≡ w
        → start_all lo hi (take n fs) ≡ before (take i (cards_is fs n T.cards)) (with_start f w (start_all lo hi (drop (i + 1) (take n fs))))
    unfolding start_all
    head_started w e =
        T.rest
        ∙ ap (λ (gs : List (List ℕ)). before (take i (cards_is fs n T.cards)) (start_all lo hi gs)) files_cons
        ∙ ap (λ (x : R.Started). before (take i (cards_is fs n T.cards)) (with_start f x (start_all lo hi (drop (i + 1) (take n fs))))) e

    pub starting_refused : (c : Refusal) → R.start f lo hi ≡ R.Started.refused c → StartsBy fs n hi (start_all lo hi (take n fs)) ls ks ss (Err c)
    starting_refused c e = head_started (R.Started.refused c) e

    module _ (l : Live) (b : BeginsTo f hi l (R.start f lo hi)) (ks' : List ℕ) (key : Place) (put : KeyPut l i ks ks' key) where
      abbrev one : Card
      one = used_card (plain_of f hi l 0)

      abbrev sight : Seen
      sight = record { key = key; slot = Used }

      one_is : card_is f one ≡ wide_card f (view_from f hi l 0)
      one_is = ap (λ (p : Q.Plain). O.card_is f p O.used) (ap₂ plain_with (view_is_lem f hi l 0) b.keys)

      stands_on : AllStand fs (i + 1) hi (set ls i l) (set T.cards i one)
      stands_on = record { lives = length-set ls i l ∙ T.lives_len; eight = length-set T.cards i one ∙ T.eight; at = λ j d e less. ⊎_elim (λ (z : j < i). old j d e z) (λ (z : i ≤ j). new j d e (omega arith)) (lt_or j i) }
        where
          old : (j : ℕ) (d : Live) (e : Card) → j < i → StandsFor (get_or fs j []) hi (get_or (set ls i l) j d) (get_or (set T.cards i one) j e).reading
          old j d e z =
              let ne : ¬ (j ≡ i) = λ w. omega arith in
              subst (λ (c : Card). StandsFor (get_or fs j []) hi (get_or (set ls i l) j d) c.reading) (sym (get_or-set_other T.cards i j one e ne))
              (subst (λ (x : Live). StandsFor (get_or fs j []) hi x (get_or T.cards j e).reading) (sym (get_or-set_other ls i j l d ne)) (T.stands.at j d e z))

          new : (j : ℕ) (d : Live) (e : Card) → j ≡ i → StandsFor (get_or fs j []) hi (get_or (set ls i l) j d) (get_or (set T.cards i one) j e).reading
          new j d e z =
              let a = T.eight in
              let g = T.lives_len in
              subst (λ (m : ℕ). StandsFor (get_or fs m []) hi (get_or (set ls i l) m d) (get_or (set T.cards i one) m e).reading) (sym z)
              (subst (λ (c : Card). StandsFor f hi (get_or (set ls i l) i d) c.reading) (sym (get_or-set_same T.cards i one e (omega arith)))
              (subst (λ (x : Live). StandsFor f hi x (plain_of f hi l 0)) (sym (get_or-set_same ls i l d (omega arith))) (record { total = 0; is = refl; fit = b.fit })))

      seen_on : (j : ℕ) (d : Card) (e : Seen) → j < i + 1 → SeenAt ks' (get_or (set T.cards i one) j d) j (get_or (set ss i sight) j e)
      seen_on j d e less = ⊎_elim (λ (z : j < i). old z) (λ (z : i ≤ j). new (omega arith)) (lt_or j i)
        where
          old : j < i → SeenAt ks' (get_or (set T.cards i one) j d) j (get_or (set ss i sight) j e)
          old z =
              let ne : ¬ (j ≡ i) = λ w. omega arith in
              let s = T.seen j d e z in
              subst (λ (c : Card). SeenAt ks' c j (get_or (set ss i sight) j e)) (sym (get_or-set_other T.cards i j one d ne))
              (subst (λ (x : Seen). SeenAt ks' (get_or T.cards j d) j x) (sym (get_or-set_other ss i j sight e ne))
              (record { slot = s.slot; key = key_kept (plain_of f hi l 0) (get_or T.cards j d).reading i j ks ks' key (get_or ss j e).key (put f hi 0) (omega arith) ne s.key }))

          new : j ≡ i → SeenAt ks' (get_or (set T.cards i one) j d) j (get_or (set ss i sight) j e)
          new z =
              let a = T.eight in
              let g = T.seen_len in
              subst (λ (m : ℕ). SeenAt ks' (get_or (set T.cards i one) m d) m (get_or (set ss i sight) m e)) (sym z)
              (subst (λ (c : Card). SeenAt ks' c i (get_or (set ss i sight) i e)) (sym (get_or-set_same T.cards i one d (omega arith)))
              (subst (λ (x : Seen). SeenAt ks' one i x) (sym (get_or-set_same ss i sight e (omega arith))) (record { slot = refl; key = (put f hi 0).here })))

      pub starting_on : Starting fs n lo hi (set ls i l) ks' (set ss i sight) (i + 1)
      starting_on =
          let eight = T.eight in
          let v = view_from f hi l 0 in
          let front : take (i + 1) (cards_is fs n (set T.cards i one)) ≡ take i (cards_is fs n T.cards) ++ (wide_card f v ∷ []) =
          put_front fs n T.cards (omega arith) i h one ∙ ap (λ (x : O.Card). take i (cards_is fs n T.cards) ++ (x ∷ [])) one_is in
          record {
            within = omega arith;
            cards = set T.cards i one;
            eight = length-set T.cards i one ∙ eight;
            rest = head_started (R.started v) b.is
                ∙ one_more (take i (cards_is fs n T.cards)) f v (start_all lo hi (drop (i + 1) (take n fs)))
                ∙ ap (λ (ds : List O.Card). before ds (start_all lo hi (drop (i + 1) (take n fs)))) (sym front);
            stands = stands_on;
            seen = seen_on;
            lives_len = length-set ls i l ∙ T.lives_len;
            seen_len = length-set ss i sight ∙ T.seen_len;
            keys_len = (put f hi 0).long;
          }

  pub starting_all : n ≤ i → StartsBy fs n hi (start_all lo hi (take n fs)) ls ks ss (Ok (record {}))
  unfolding start_all
  starting_all h =
      let within = T.within in
      let eight = T.eight in
      let same : i ≡ n = omega arith in
      let len = cards_length fs n T.cards (omega arith) in
      let files_len : length (take n fs) ≡ n = length-take-le n fs (omega arith) in
      let front : take i (cards_is fs n T.cards) ≡ cards_is fs n T.cards = ap (λ (j : ℕ). take j (cards_is fs n T.cards)) (same ∙ sym len) ∙ take-length (cards_is fs n T.cards) in
      let back : drop i (take n fs) ≡ [] = drop_of_length-le (take n fs) {i = i} (omega arith) in
      record {
        all = T.cards;
        begun = record {
          stands = record { lives = T.lives_len; eight = T.eight; at = λ j d e less. T.stands.at j d e (omega arith) };
          seen = record { at = λ j d e less. T.seen j d e (omega arith); eight = T.seen_len; given = T.eight; long = T.keys_len };
        };
        is = T.rest
            ∙ ap₂ (λ (ds : List O.Card) (gs : List (List ℕ)). before ds (start_all lo hi gs)) front back
            ∙ ap P.cards (append-nil (cards_is fs n T.cards));
      }

-- the file at a place
pub at_file : (l : List (Bor (List ℕ))) (i : ℕ) (d : Bor (List ℕ)) → d.now ≡ []
    → get_or (map (λ (f : Bor (List ℕ)). f.now) l) i [] ≡ (get_or l i d).now
at_file l i d e = ap (get_or (map (λ (f : Bor (List ℕ)). f.now) l) i) (sym e) ∙ get_or-map (λ (f : Bor (List ℕ)). f.now) l i d

pub files_long : (l : List (Bor (List ℕ))) → length l ≡ 8 → length (map (λ (f : Bor (List ℕ)). f.now) l) ≡ 8
files_long l e = length-map l (λ (f : Bor (List ℕ)). f.now) ∙ e
