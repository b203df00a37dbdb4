-- The walk along a string as a loop: what it knows before each turn, the turn, and each way out. What is left of the string decides.
--     turn_unsound, -gone, -on     a turn, by what the byte leads to
--     turned-..                    the same read back
--     Walking f c own x k a t      k bytes of x have led to the node at a, with the total t so far
-- Assumes nothing.
use Rattle.std.specs.Prelude.{Option, Some, None, Ok, Err, Result, ℕ}
use Rattle.format.specs.declared.Refusal.{Refusal}
use mathlib.Core.Path.{◌≡◌, refl, sym, ap, ◌∙◌}
use mathlib.Core.Bool.{Bool, ◌&&◌}
use mathlib.Core.List.{List, [], ◌∷◌}
use Prim.Native.Nat.{ℕ, ◌+◌, ◌<◌, ◌≤◌}
use native.Mathlib.Omega.{arith}
use native.Mathlib.Numerals.{add-one}
use lib.ListN.{length, get_or, drop, drop_of_length-le}
use lib.Seq.{drop-cons}
use Rattle.format.specs.Limits.{NODE}
use Rattle.format.specs.Node.{Node, Judgement, sound, unsound, Search, find_input, transition_at}
use Rattle.format.specs.Paths.{Fst, node_in}
use Rattle.format.specs.Tables.{one}
use Rattle.plain.specs.Numbers.{Tally, comes_to, refused, plus, keys_below, up_to}
use Rattle.plain.proofs.UpToLaws.{up_to_unsound, up_to_end, up_to_absent, up_to_at}
use Rattle.node.specs.declared.Unsound.{Unsound}
use Rattle.stream_upto.specs.Counts.{total_as, added_to, turn_of, walked_as}
use Rattle.stream_upto.proofs.TotalLaws.{added_total}
use Rattle.stream_upto.proofs.Summing.{first_keys, below_at, below_absent}

-- ---- tallies with more

plus_none : (t : Tally) → t ≡ plus 0 t
plus_none (comes_to n) = let z : n ≡ 0 + n = omega arith in ap comes_to z
plus_none (refused n) = refl

plus_more : (m n : ℕ) (t : Tally) → plus m (plus n t) ≡ plus (m + n) t
plus_more m n (comes_to k) = let z : m + (n + k) ≡ m + n + k = omega arith in ap comes_to z
plus_more m n (refused k) = refl

-- ---- a turn

same_pair : {x y : Option ℕ × Option ℕ} → ◌≡◌ {A = Result (Option ℕ × Option ℕ) Unsound} (Ok x) (Ok y) → x ≡ y
same_pair e = cc

same_target : {x y : Option ℕ × Option ℕ} → ◌≡◌ {A = Result (Option ℕ × Option ℕ) Unsound} (Ok x) (Ok y) → x.0 ≡ y.0
same_target e = ap (λ (p : Option ℕ × Option ℕ). p.0) (same_pair e)

same_total : {x y : Option ℕ × Option ℕ} → ◌≡◌ {A = Result (Option ℕ × Option ℕ) Unsound} (Ok x) (Ok y) → x.1 ≡ y.1
same_total e = ap (λ (p : Option ℕ × Option ℕ). p.1) (same_pair e)

module _ (f : Fst) (c : List ℕ) (a b n : ℕ) where
  pub turn_unsound : node_in f a ≡ unsound → Err (record {}) ≡ turn_of f c a b n
  unfolding turn_of
  turn_unsound e = rw e

  module _ (m : Node) (e : node_in f a ≡ sound m) (p : ℕ) (s : Option ℕ) (s_is : s ≡ total_as (n + one m.final + first_keys c p m.transitions)) where
    same : keys_below c b m.transitions ≡ first_keys c p m.transitions → s ≡ total_as (n + (one m.final + keys_below c b m.transitions))
    same q =
        let z : n + one m.final + first_keys c p m.transitions ≡ n + (one m.final + keys_below c b m.transitions) = omega arith in
        s_is ∙ ap total_as z

    pub turn_gone : find_input m.transitions b ≡ Search.absent p → Ok (None, s) ≡ turn_of f c a b n
    unfolding turn_of
    turn_gone none = rw (e, none) (ap (λ (o : Option ℕ). Ok (None, o)) (same (below_absent f a m e c b p none)))

    pub turn_on : (t : ℕ) → t ≡ (transition_at m.transitions p).addr → find_input m.transitions b ≡ Search.at p → Ok (Some t, s) ≡ turn_of f c a b n
    unfolding turn_of
    turn_on t t_is found = rw (e, found, t_is) (ap (λ (o : Option ℕ). Ok (Some (transition_at m.transitions p).addr, o)) (same (below_at f a m e c b p found)))

  -- ---- read back

  pub record TurnedGone (own : Bool) (x : List ℕ) (s : Option ℕ) : Type 0 where
    pub more : ℕ
    pub s_is : s ≡ total_as (n + more)
    pub comes : up_to f c own a (b ∷ x) ≡ comes_to more

  pub record TurnedOn (own : Bool) (x : List ℕ) (t : ℕ) (s : Option ℕ) : Type 0 where
    pub more : ℕ
    pub s_is : s ≡ total_as (n + more)
    pub rest : up_to f c own a (b ∷ x) ≡ plus more (up_to f c own t x)

  module _ (own : Bool) (x : List ℕ) where
    pub turned_unsound : {u : Unsound} → turn_of f c a b n ≡ Err u → up_to f c own a (b ∷ x) ≡ refused NODE
    unfolding turn_of
    turned_unsound is = go (node_in f a) refl
      where
        on : (m : Node) → node_in f a ≡ sound m → (q : Search) → find_input m.transitions b ≡ q → up_to f c own a (b ∷ x) ≡ refused NODE
        on m e (Search.at p) found = absurd (let w = rw (e, found) at is in let z : ◌≡◌ {A = ℕ} 0 1 = cc in omega arith)
        on m e (Search.absent p) none = absurd (let w = rw (e, none) at is in let z : ◌≡◌ {A = ℕ} 0 1 = cc in omega arith)

        go : (j : Judgement) → node_in f a ≡ j → up_to f c own a (b ∷ x) ≡ refused NODE
        go (sound m) e = on m e (find_input m.transitions b) refl
        go unsound e = up_to_unsound f c own a (b ∷ x) e

    pub turned_gone : (s : Option ℕ) → turn_of f c a b n ≡ Ok (None, s) → TurnedGone own x s
    unfolding turn_of
    turned_gone s is = go (node_in f a) refl
      where
        on : (m : Node) → node_in f a ≡ sound m → (q : Search) → find_input m.transitions b ≡ q → TurnedGone own x s
        on m e (Search.at p) found = absurd (let w = same_target (rw (e, found) at is) in let z : ◌≡◌ {A = ℕ} 0 1 = cc in omega arith)
        on m e (Search.absent p) none =
            let w = same_total (rw (e, none) at is) in
            let z : one m.final + keys_below c b m.transitions + 0 ≡ one m.final + keys_below c b m.transitions = omega arith in
            record {
              more = one m.final + keys_below c b m.transitions;
              s_is = cc;
              comes = up_to_absent f c own a m e b x p none ∙ ap comes_to z;
            }

        go : (j : Judgement) → node_in f a ≡ j → TurnedGone own x s
        go (sound m) e = on m e (find_input m.transitions b) refl
        go unsound e = absurd (let w = rw e at is in let z : ◌≡◌ {A = ℕ} 0 1 = cc in omega arith)

    pub turned_on : (t : ℕ) (s : Option ℕ) → turn_of f c a b n ≡ Ok (Some t, s) → TurnedOn own x t s
    unfolding turn_of
    turned_on t s is = go (node_in f a) refl
      where
        on : (m : Node) → node_in f a ≡ sound m → (q : Search) → find_input m.transitions b ≡ q → TurnedOn own x t s
        on m e (Search.at p) found =
            let w = same_total (rw (e, found) at is) in
            let led = same_target (rw (e, found) at is) in
            let to : (transition_at m.transitions p).addr ≡ t = cc in
            record {
              more = one m.final + keys_below c b m.transitions;
              s_is = cc;
              rest = up_to_at f c own a m e b x p found ∙ ap (λ u. plus (one m.final + keys_below c b m.transitions) (up_to f c own u x)) to;
            }
        on m e (Search.absent p) none = absurd (let w = same_target (rw (e, none) at is) in let z : ◌≡◌ {A = ℕ} 0 1 = cc in omega arith)

        go : (j : Judgement) → node_in f a ≡ j → TurnedOn own x t s
        go (sound m) e = on m e (find_input m.transitions b) refl
        go unsound e = absurd (let w = rw e at is in let z : ◌≡◌ {A = ℕ} 0 1 = cc in omega arith)

-- ---- where the string ends

module _ (f : Fst) (own : Bool) (a : ℕ) where
  pub end_unsound : node_in f a ≡ unsound → (c : List ℕ) (n : ℕ) → Err NODE ≡ walked_as (plus n (up_to f c own a []))
  end_unsound e c n = rw (up_to_unsound f c own a [] e)

  pub end_sound : (m : Node) → node_in f a ≡ sound m → (k : ℕ) → k ≡ one (own && m.final) → (t s : Option ℕ) → s ≡ added_to t k
      → (c : List ℕ) (n : ℕ) → t ≡ total_as n → Ok s ≡ walked_as (plus n (up_to f c own a []))
  end_sound m e k k_is t s s_is c n t_is =
      rw (up_to_end f c own a m e) (ap Ok (s_is ∙ ap (λ u. added_to u k) t_is ∙ added_total n k ∙ ap (λ u. total_as (n + u)) k_is))

-- ---- the loop

pub record Walking (f : Fst) (c : List ℕ) (own : Bool) (x : List ℕ) (k a : ℕ) (t : Option ℕ) : Type 0 where
  pub so_far : ℕ
  pub total : t ≡ total_as so_far
  pub same : up_to f c own f.root x ≡ plus so_far (up_to f c own a (drop k x))

pub walking_none : (f : Fst) (c : List ℕ) (own : Bool) (x : List ℕ) → Walking f c own x 0 f.root (total_as 0)
walking_none f c own x = record { so_far = 0; total = refl; same = plus_none (up_to f c own f.root x) }

module _ {f : Fst} {c : List ℕ} {own : Bool} {x : List ℕ} {k a : ℕ} {t : Option ℕ} (h : Walking f c own x k a t) where
  pub walking_end : length x ≤ k → (r : Result (Option ℕ) Refusal) → r ≡ walked_as (plus h.so_far (up_to f c own a [])) → r ≡ walked_as (up_to f c own f.root x)
  walking_end l r is = is ∙ sym (ap walked_as h.same ∙ rw (drop_of_length-le x {i = k} l))

  module _ (l : k < length x) where
    cut : drop k x ≡ get_or x k 0 ∷ drop (k + 1) x
    cut = drop-cons x k 0 l ∙ sym (rw (add-one k))

    here : up_to f c own f.root x ≡ plus h.so_far (up_to f c own a (get_or x k 0 ∷ drop (k + 1) x))
    here = h.same ∙ ap (λ u. plus h.so_far (up_to f c own a u)) cut

    pub walking_bad : {u : Unsound} → turn_of f c a (get_or x k 0) h.so_far ≡ Err u → Err NODE ≡ walked_as (up_to f c own f.root x)
    walking_bad e = sym (ap walked_as (here ∙ ap (plus h.so_far) (turned_unsound f c a (get_or x k 0) h.so_far own (drop (k + 1) x) e)))

    pub walking_gone : (s : Option ℕ) → turn_of f c a (get_or x k 0) h.so_far ≡ Ok (None, s) → Ok s ≡ walked_as (up_to f c own f.root x)
    walking_gone s e =
        let w = turned_gone f c a (get_or x k 0) h.so_far own (drop (k + 1) x) s e in
        ap Ok w.s_is ∙ sym (ap walked_as (here ∙ ap (plus h.so_far) w.comes))

    pub walking_step : (to : ℕ) (s : Option ℕ) → turn_of f c a (get_or x k 0) h.so_far ≡ Ok (Some to, s) → Walking f c own x (k + 1) to s
    walking_step to s e =
        let w = turned_on f c a (get_or x k 0) h.so_far own (drop (k + 1) x) to s e in
        record {
          so_far = h.so_far + w.more;
          total = w.s_is;
          same = here ∙ ap (plus h.so_far) w.rest ∙ plus_more h.so_far w.more (up_to f c own to (drop (k + 1) x));
        }
