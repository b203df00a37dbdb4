-- The rounds of a call, turn after turn.
--     Rounds ..                          the call from the cards given goes on
--     rounds_none, rounds_on, rounds_again    at the start, after the steps of a round, after a round
--     called_..                          the ways out
--     steps_less, round_less             the steps leave no more to do, and the measure falls
-- Assumes nothing.
use mathlib.Core.Path.{◌≡◌, refl, sym, ap, ◌∙◌, subst}
use Rattle.std.specs.Prelude.{Ok, Err, Some, None, Result}
use Rattle.format.specs.declared.Refusal.{Refusal}
use mathlib.Core.Bool.{Bool, true, false, ◌||◌}
use mathlib.Core.List.{List, ◌++◌}
use Prim.Native.Nat.{ℕ, ◌<◌, ◌≤◌}
use native.Mathlib.Omega.{arith}
use lib.Dec.{leb}
use lib.ListN.{length, take, drop}
use Rattle.format.specs.Limits.{max_path, SPACE}
use Rattle.ops_spec.specs.Ops as O
use Rattle.ops_spec.specs.Ops.{by_verdict, decide}
use Rattle.ops_spec.specs.OpsFuelLaws.{rounds_by}
use Rattle.ops_keys.specs.declared.Head.{Head}
use Rattle.ops_keys.specs.declared.Place.{Place}
use Rattle.ops_keys.specs.Heads.{head_key, place_key, Within}
use Rattle.ops_pairs.specs.declared.Pairs.{Pairs}
use Rattle.ops_round.specs.declared.Card.{Card}
use Rattle.ops_round.specs.Cards.{cards_is}
use Rattle.ops_seen.specs.declared.Seen.{Seen}
use Rattle.ops_seen.specs.Sights.{AllSeen, AllDealt, Sees, Ready, Kept}
use Rattle.ops_turn.specs.Parts.{dealt_all, Turning, to_do, Went, CardsStepped}
use Rattle.ops_turn.specs.LoadLaws.{Lighter, decide_lighter}
use Rattle.ops_turn.specs.PartsLaws.{turning_none, turn_sees, turn_ready, turn_judged, turn_short, turning_again, dealt_is, again_less}
use Rattle.ops_decide.specs.declared.Verdict.TheVariants.{This, NoMore, Another}
use Rattle.ops_decide.specs.declared.Verdict.{Verdict}
use Rattle.ops_decide.specs.Verdicts.{DecidedBy}
use Rattle.ops_decide.specs.VerdictsLaws.{lent_length, lent_sees, lent_ready, ThisOf, AnotherOf, this_by, over_by, another_by}
use Rattle.ops_rounds.specs.Turns.{CalledBy}

pub record Rounds (fs : List (List ℕ)) (o : O.Op) (n space : ℕ) (cs all : List Card) (ks : List ℕ) (ss : List Seen) (i : ℕ) (stepped : Bool) : Type 0 where
  pub given : length cs ≡ 8
  pub turning : Turning space fs o n (cards_is fs n cs) all ks ss i stepped

pub rounds_none : (fs : List (List ℕ)) (o : O.Op) (n space : ℕ) (cs : List Card) (ks : List ℕ) (ss : List Seen) → n ≤ 8 → AllSeen n cs ks ss → Rounds fs o n space cs cs ks ss 0 false
rounds_none fs o n space cs ks ss small all = record { given = all.given; turning = turning_none space fs o n cs ks ss small all }

-- ---- the steps of a round

module _ {fs : List (List ℕ)} {o : O.Op} {n space : ℕ} {cs all : List Card} {ks : List ℕ} {ss : List Seen} {stepped : Bool} (R : Rounds fs o n space cs all ks ss 0 stepped)
    {all' : List Card} {ks' : List ℕ} {ss' : List Seen} {r : Result Bool Refusal} (by : CardsStepped fs space n all ks ss all' ks' ss' r) where
  pub called_refused : (why : Refusal) → r ≡ Err why → CalledBy fs n cs (rounds_by o space false (cards_is fs n cs)) (Err why)
  called_refused why t =
      record { is = (subst (CardsStepped fs space n all ks ss all' ks' ss') t by).is o (cards_is fs n cs) stepped R.turning; given = R.given }

  module _ (m : Bool) (t : r ≡ Ok m) where
    went : Went space fs o n (cards_is fs n cs) all ss all' ks' ss' n (stepped || m)
    went = (subst (CardsStepped fs space n all ks ss all' ks' ss') t by).is o (cards_is fs n cs) stepped R.turning

    pub rounds_on : Rounds fs o n space cs all' ks' ss' n (stepped || m)
    rounds_on = record { given = R.given; turning = went.turning }

    pub steps_less : to_do fs n all' ss' n ≤ to_do fs n all ss 0
    steps_less = went.less

-- ---- all cards have had their part

module _ {fs : List (List ℕ)} {o : O.Op} {n space : ℕ} {cs all : List Card} {ks : List ℕ} {ss : List Seen} {i : ℕ} {stepped : Bool}
    (R : Rounds fs o n space cs all ks ss i stepped) (some : 0 < n) (small : n ≤ 8) where
  abbrev M : O.Merged
  M = rounds_by o space false (cards_is fs n cs)

  module _ (full : n ≤ i) where
    abbrev Y : List O.Card
    Y = cards_is fs n (dealt_all all ss)

    pub called_short : (stepped || leb max_path space) ≡ false → CalledBy fs n cs M (Err SPACE)
    called_short t = record { is = turn_short R.turning small some full t; given = R.given }

    long : n ≤ length ss
    long = let e = R.turning.seen_len in omega arith

    pub rounds_ready : (0 < length (take n ss)) × (length (take n ss) ≤ 8) × Ready ks (length (take n ss)) (take n ss)
    rounds_ready =
        let len = lent_length ks ss n long in
        (omega arith, omega arith, lent_ready ks ss n long (turn_ready R.turning small some full))

    module _ (room : (stepped || leb max_path space) ≡ true) (w : List Seen) (v : Verdict)
        (by : (X : List O.Card) → Sees ks (length (take n ss)) (take n ss) X → DecidedBy ks (take n ss) X (decide o X) w v) where
      abbrev m : List Seen
      m = w ++ drop n ss

      sees : Sees ks n ss Y
      sees = turn_sees R.turning small some full

      here : DecidedBy ks (take n ss) Y (decide o Y) w v
      here = by Y (lent_sees ks ss n long Y sees)

      here_as : (u : Verdict) → v ≡ u → DecidedBy ks (take n ss) Y (decide o Y) w u
      here_as u e = subst (DecidedBy ks (take n ss) Y (decide o Y) w) e here

      judged : (q : O.Verdict) → decide o Y ≡ q → M ≡ by_verdict Y (rounds_by o space true) q
      judged q e = turn_judged R.turning small some full room ∙ ap (by_verdict Y (rounds_by o space true)) e

      kept_same : Kept Y Y
      kept_same = record { count = refl; file = λ j x. refl; reading = λ j x. refl }

      pub called_end : v ≡ NoMore → (after : List Card) → AllDealt n all m after → CalledBy fs n cs M (Ok (record { item = None; cards = after }))
      called_end e after dealt =
          let o_b = over_by ks ss n long w Y (decide o Y) (here_as NoMore e) in
          let dealt_ss = subst (λ (l : List Seen). AllDealt n all l after) o_b.1 dealt in
          record {
            is = judged O.no_more o_b.0
                ∙ ap O.ending (sym (dealt_is R.turning small some full ss R.turning.seen_len Y sees kept_same after dealt_ss));
            given = R.given;
          }

      module _ (place : Place) (its : Pairs) (e : v ≡ This place its) where
        this_of : ThisOf ks ss Y n (decide o Y) m place its
        this_of = this_by ks ss n long w Y place its (decide o Y) (here_as (This place its) e)

        pub item_within : Within place
        item_within = this_of.few

        pub called_item : (hd : Head) → hd.levels ≡ place.levels → head_key hd ≡ place_key ks place → (after : List Card) → AllDealt n all m after
            → CalledBy fs n cs M (Ok (record { item = Some (hd, its); cards = after }))
        called_item hd levels key after dealt =
            let a = this_of in
            let fits = a.few.few in
            let cards : cards_is fs n after ≡ a.cards = dealt_is R.turning small some full m (a.long ∙ R.turning.seen_len) a.cards a.sees a.kept after dealt in
            record {
              is = record {
                pairs = a.pairs;
                are = a.are;
                few = omega arith;
                is = judged (O.this (place_key ks place) a.pairs a.cards) a.is
                    ∙ ap (λ (k : List ℕ). O.item k a.pairs a.cards) (sym key)
                    ∙ ap (O.item (head_key hd) a.pairs) (sym cards);
              };
              given = R.given;
            }

      another_of : v ≡ Another → AnotherOf ks ss Y n (decide o Y) m
      another_of e = another_by ks ss n long w Y (decide o Y) (here_as Another e)

      pub rounds_again : v ≡ Another → Rounds fs o n space cs all ks m 0 true
      rounds_again e =
          let a = another_of e in
          record { given = R.given; turning = turning_again R.turning small some full m (a.long ∙ R.turning.seen_len) a.cards a.sees a.kept a.keys room a.is }

      pub round_less : v ≡ Another → to_do fs n all m 0 < to_do fs n all ss i
      round_less e =
          let a = another_of e in
          again_less R.turning small some full m (a.long ∙ R.turning.seen_len) a.cards a.sees a.kept (subst (Lighter Y) a.is (decide_lighter o Y))
