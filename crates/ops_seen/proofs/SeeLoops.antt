-- The cards looked at one by one.
--     Seeing, Dealing              what is done of a loop
--     seeing-.., dealing-..        at its start, after a card, and at its end
-- Assumes nothing.
use mathlib.Core.Path.{◌≡◌, refl, sym, ap, ◌∙◌, subst}
use mathlib.Core.Logic.{⊎_elim}
use mathlib.Core.List.{List, [], ◌∷◌}
use Prim.Native.Nat.{ℕ, zero, suc, ◌+◌, ◌<◌, ◌≤◌}
use native.Mathlib.Omega.{arith}
use lib.ListN.{length, get_or, set, length-set}
use lib.Seq.{get_or-set_same, get_or-set_other}
use Rattle.reading.proofs.RunLaws.{lt_or}
use Rattle.ops_round.specs.declared.Card.{Card}
use Rattle.ops_seen.specs.declared.Seen.{Seen}
use Rattle.ops_seen.specs.Sights.{SeenOf, SeenAt, AllSeen, dealt_card, AllDealt}
use Rattle.ops_seen.specs.SightsLaws.{key_kept}

-- a place within a list has the same element whatever else is named
default_any : {A : Type 0} (l : List A) (i : ℕ) (a b : A) → i < length l → get_or l i a ≡ get_or l i b
default_any [] i a b h = absurd (omega arith)
default_any (x ∷ l) zero a b h = refl
default_any (x ∷ l) (suc i) a b h = default_any l i a b (omega arith)

-- ---- what is seen

pub record Seeing (n : ℕ) (cs : List Card) (ks : List ℕ) (r : List Seen) (i : ℕ) : Type 0 where
  pub within : i ≤ n
  pub eight : length r ≡ 8
  pub long : length ks ≡ 2048
  pub at : (j : ℕ) (d : Card) (e : Seen) → j < i → SeenAt ks (get_or cs j d) j (get_or r j e)

pub seeing_none : (n : ℕ) (cs : List Card) (ks : List ℕ) (r : List Seen) → length ks ≡ 2048 → length r ≡ 8 → Seeing n cs ks r 0
seeing_none n cs ks r long len = record { within = omega arith; eight = len; long = long; at = λ j d e h. absurd (omega arith) }

pub seeing_on : (n : ℕ) (cs : List Card) (ks₀ ks : List ℕ) (r : List Seen) (i : ℕ) (b : Card) (s : Seen) → n ≤ 8 → length cs ≡ 8 → Seeing n cs ks₀ r i → i < n
    → SeenOf (get_or cs i b) i ks₀ ks s → Seeing n cs ks (set r i s) (i + 1)
seeing_on n cs ks₀ ks r i b s small given S h one =
    let eight = S.eight in
    record {
      within = omega arith;
      eight = length-set r i s ∙ eight;
      long = one.put.long;
      at = λ j d e l. ⊎_elim (λ (k : j < i). earlier j d e k) (λ (k : i ≤ j). here j d e (omega arith)) (lt_or j i);
    }
  where
    kept : (j : ℕ) (d : Card) (e : Seen) → j < i → SeenAt ks (get_or cs j d) j (get_or r j e)
    kept j d e k =
        let o = S.at j d e k in
        record {
          slot = o.slot;
          key = key_kept (get_or cs i b).reading (get_or cs j d).reading i j ks₀ ks s.key (get_or r j e).key one.put (omega arith) (λ z. omega arith) o.key;
        }

    earlier : (j : ℕ) (d : Card) (e : Seen) → j < i → SeenAt ks (get_or cs j d) j (get_or (set r i s) j e)
    earlier j d e k = subst (SeenAt ks (get_or cs j d) j) (sym (get_or-set_other r i j s e (λ z. omega arith))) (kept j d e k)

    one_at : (d : Card) → SeenAt ks (get_or cs i d) i s
    one_at d =
        subst (λ (c : Card). SeenAt ks c i s) (default_any cs i b d (omega arith)) (record { slot = one.slot; key = one.put.here })

    here : (j : ℕ) (d : Card) (e : Seen) → j ≡ i → SeenAt ks (get_or cs j d) j (get_or (set r i s) j e)
    here j d e z =
        let eight = S.eight in
        subst (λ (k : ℕ). SeenAt ks (get_or cs k d) k (get_or (set r i s) k e)) (sym z)
        (subst (SeenAt ks (get_or cs i d) i) (sym (get_or-set_same r i s e (omega arith))) (one_at d))

pub seeing_all : (n : ℕ) (cs : List Card) (ks : List ℕ) (r : List Seen) (i : ℕ) → length cs ≡ 8 → n ≤ i → Seeing n cs ks r i → AllSeen n cs ks r
seeing_all n cs ks r i given h S = record { at = λ j d e k. S.at j d e (omega arith); eight = S.eight; given = given; long = S.long }

-- ---- cards dealt

pub record Dealing (n : ℕ) (cs : List Card) (ss : List Seen) (all : List Card) (i : ℕ) : Type 0 where
  pub within : i ≤ n
  pub eight : length all ≡ 8
  pub done : (j : ℕ) (d : Card) (e : Seen) → j < i → get_or all j d ≡ dealt_card (get_or cs j d) (get_or ss j e)
  pub rest : (j : ℕ) (d : Card) → i ≤ j → get_or all j d ≡ get_or cs j d

pub dealing_none : (n : ℕ) (cs : List Card) (ss : List Seen) → length cs ≡ 8 → Dealing n cs ss cs 0
dealing_none n cs ss len = record { within = omega arith; eight = len; done = λ j d e h. absurd (omega arith); rest = λ j d h. refl }

pub dealing_on : (n : ℕ) (cs : List Card) (ss : List Seen) (all : List Card) (i : ℕ) (b : Card) (q : Seen) (r : Card) → n ≤ 8 → Dealing n cs ss all i → i < n
    → r ≡ dealt_card (get_or all i b) (get_or ss i q) → length ss ≡ 8 → Dealing n cs ss (set all i r) (i + 1)
dealing_on n cs ss all i b q r small D h is held =
    let eight = D.eight in
    record {
      within = omega arith;
      eight = length-set all i r ∙ eight;
      done = λ j d e l. ⊎_elim (λ (k : j < i). earlier j d e k) (λ (k : i ≤ j). here j d e (omega arith)) (lt_or j i);
      rest = λ j d l. get_or-set_other all i j r d (λ z. omega arith) ∙ D.rest j d (omega arith);
    }
  where
    earlier : (j : ℕ) (d : Card) (e : Seen) → j < i → get_or (set all i r) j d ≡ dealt_card (get_or cs j d) (get_or ss j e)
    earlier j d e k = get_or-set_other all i j r d (λ z. omega arith) ∙ D.done j d e k

    here : (j : ℕ) (d : Card) (e : Seen) → j ≡ i → get_or (set all i r) j d ≡ dealt_card (get_or cs j d) (get_or ss j e)
    here j d e z =
        let eight = D.eight in
        subst (λ (k : ℕ). get_or (set all i r) k d ≡ dealt_card (get_or cs k d) (get_or ss k e)) (sym z)
        (get_or-set_same all i r d (omega arith)
        ∙ is
        ∙ ap (λ (c : Card). dealt_card c (get_or ss i q)) (default_any all i b d (omega arith) ∙ D.rest i d (omega arith))
        ∙ ap (dealt_card (get_or cs i d)) (default_any ss i q e (omega arith)))

pub dealing_all : (n : ℕ) (cs : List Card) (ss : List Seen) (all : List Card) (i : ℕ) → n ≤ i → Dealing n cs ss all i → AllDealt n cs ss all
dealing_all n cs ss all i h D = record { at = λ j d e k. D.done j d e (omega arith); eight = D.eight }
