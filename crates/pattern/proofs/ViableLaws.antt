-- The visits that a patterned reading makes: those whose string, less its last byte, fits the pattern's start.
--     most, viable             a string less its last byte; the test of a visit
--     dead_on, most_append     a string that fits no start is begun by no string that does; the last byte of two strings put together
--     come_dead, come_follow   a level that can fit no more has no viable visit left; a follow is the first viable visit
--     come_by                   the viable visits to come, each a key where it is final and fits
-- Assumes nothing.
use Prim.{tt}
use Rattle.std.specs.Prelude.{◌≡◌, refl, Bool, true, false, ◌&&◌, List, [], ◌∷◌, ◌++◌, map, ℕ, zero, suc, ◌-◌, ◌<◌, ◌≤◌, length, drop}
use Rattle.std.proofs.Common.{◌∙◌, ap, true≢false, arith}
use Rattle.std.proofs.Math.Option.{Option}
use Rattle.format.specs.declared.Transition.{Transition}
use Rattle.format.specs.Limits.{max_path}
use Rattle.format.specs.Node.{Node, sound}
use Rattle.format.specs.Paths.{Fst, node_in}
use Rattle.reading.specs.Reading.{Level, key_of, next_trans, child, stepped}
use Rattle.reading.specs.Visits.{Visit, under, row, transitions_at, below, rest, to_come, AllV, kept}
use Rattle.reading.specs.VisitLists.{all_append, all_under}
use Rattle.reading.proofs.SeekLaws.{kept_append}
use Rattle.reading.proofs.RunLaws.{first, come_step, come_on}
use Rattle.pattern.specs.Pattern.{Pattern, at_test, start_test, fits_test}

-- ---- a string less its last byte

abbrev pub most : List ℕ → List ℕ
most [] = []
most (x ∷ []) = []
most (x ∷ y ∷ s) = x ∷ most (y ∷ s)

pub most_append : (k : List ℕ) (x : ℕ) (z : List ℕ) → most (k ++ (x ∷ z)) ≡ k ++ most (x ∷ z)
most_append [] x z = refl
most_append (y ∷ []) x z = refl
most_append (y ∷ w ∷ k) x z = ap (λ (r : List ℕ). y ∷ r) (most_append (w ∷ k) x z)

pub most_snoc : (k : List ℕ) (x : ℕ) → most (k ++ (x ∷ [])) ≡ k
most_snoc [] x = refl
most_snoc (y ∷ []) x = refl
most_snoc (y ∷ w ∷ k) x = ap (λ (r : List ℕ). y ∷ r) (most_snoc (w ∷ k) x)

-- a string that fits no start is begun by no string that does
pub dead_on : (ps : List (Option ℕ)) (r : Bool) (k z : List ℕ) → start_test ps r k ≡ false → start_test ps r (k ++ z) ≡ false
unfolding start_test
dead_on ps r [] z h = absurd (true≢false h)
dead_on [] r (b ∷ k) z h = h
dead_on (p ∷ ps) r (b ∷ k) z h = by (at_test p b) h (λ g. dead_on ps r k z g)
  where
    by : (a : Bool) → (a && start_test ps r k) ≡ false → (start_test ps r k ≡ false → start_test ps r (k ++ z) ≡ false) → (a && start_test ps r (k ++ z)) ≡ false
    by true g i = i g
    by false g i = refl

-- ---- no visit has the empty string

abbrev pub Full : Visit → Type 0
Full v = ¬ (v.key ≡ [])

cons_full : {x : ℕ} {s : List ℕ} → ¬ (◌≡◌ {A = List ℕ} (x ∷ s) [])
cons_full e = let z : ◌≡◌ {A = ℕ} 0 1 = cc in omega arith

row_full : (sub : ℕ → List Visit) (f : Fst) (ts : List Transition) → AllV Full (row sub f ts)
row_full sub f [] = tt
row_full sub f (t ∷ ts) = (
  cons_full,
  all_append Full (map (under (t.inp ∷ []) t.out) (sub t.addr)) (row sub f ts) (all_under Full (t.inp ∷ []) t.out (λ v. cons_full) (sub t.addr))
      (row_full sub f ts),
)

pub rest_full : (d : ℕ) (f : Fst) (a i : ℕ) → AllV Full (rest d f a i)
rest_full zero f a i = tt
rest_full (suc d) f a i = row_full (below d f) f (drop i (transitions_at f a))

-- ---- the viable visits

abbrev pub viable : Pattern → List ℕ → Bool
viable p k = start_test p.positions p.rest (most k)

-- a visit is handed out where it is final and fits
abbrev pub judged_by : Pattern → Visit → Visit
judged_by p v = record { key = v.key; value = v.value; final = v.final && fits_test p.positions p.rest v.key }

abbrev pub come_by : Fst → Pattern → List Level → List Visit
come_by f p s = map (judged_by p) (kept (viable p) (to_come f s))

module _ (p : Pattern) where
  dead_key : (k z : List ℕ) → start_test p.positions p.rest k ≡ false → ¬ (z ≡ []) → viable p (k ++ z) ≡ false
  dead_key k [] h g = absurd (g refl)
  dead_key k (x ∷ z) h g = rw (most_append k x z) (dead_on p.positions p.rest k (most (x ∷ z)) h)

  kept_dead : (k : List ℕ) (o : ℕ) → start_test p.positions p.rest k ≡ false → (vs : List Visit) → AllV Full vs → kept (viable p) (map (under k o) vs) ≡ []
  kept_dead k o h [] g = refl
  kept_dead k o h (v ∷ vs) g = rw (dead_key k v.key h g.0, kept_dead k o h vs g.1)

  -- a pop of a level that can fit no more removes only visits that are not viable; for every file and every levels
  pub come_dead : (f : Fst) (l : Level) (s : List Level) → start_test p.positions p.rest (key_of (l ∷ s)) ≡ false
      → kept (viable p) (to_come f (l ∷ s)) ≡ kept (viable p) (to_come f s)
  come_dead f l s h =
      let vs : List Visit = rest (max_path - length s) f l.addr l.trans in
      kept_append (viable p) (map (under (key_of (l ∷ s)) l.out) vs) (to_come f s)
      ∙ ap (λ (r : List Visit). r ++ kept (viable p) (to_come f s)) (kept_dead (key_of (l ∷ s)) l.out h vs (rest_full (max_path - length s) f l.addr l.trans))

  -- a follow removes exactly the first viable visit
  pub come_follow : (f : Fst) (l : Level) (m : Node) (s : List Level) → length s < max_path → node_in f l.addr ≡ sound m → l.trans < length m.transitions
      → start_test p.positions p.rest (key_of (l ∷ s)) ≡ true
      → kept (viable p) (to_come f (l ∷ s)) ≡ first f l m s ∷ kept (viable p) (to_come f (child l m ∷ stepped l ∷ s))
  come_follow f l m s h e g live =
      let on : viable p (key_of (l ∷ s) ++ ((next_trans l m).inp ∷ [])) ≡ true = rw (most_snoc (key_of (l ∷ s)) (next_trans l m).inp) live in
      ap (kept (viable p)) (come_step f l m s h e g) ∙ rw on

  -- the same of the visits as they are judged
  pub by_dead : (f : Fst) (l : Level) (s : List Level) → start_test p.positions p.rest (key_of (l ∷ s)) ≡ false → come_by f p (l ∷ s) ≡ come_by f p s
  by_dead f l s h = ap (map (judged_by p)) (come_dead f l s h)

  pub by_used : (f : Fst) (l : Level) (m : Node) (s : List Level) → node_in f l.addr ≡ sound m → length m.transitions ≤ l.trans → come_by f p (l ∷ s) ≡ come_by f p s
  by_used f l m s e h = ap (λ (vs : List Visit). map (judged_by p) (kept (viable p) vs)) (come_on f l m s e h)

  pub by_follow : (f : Fst) (l : Level) (m : Node) (s : List Level) → length s < max_path → node_in f l.addr ≡ sound m → l.trans < length m.transitions
      → start_test p.positions p.rest (key_of (l ∷ s)) ≡ true
      → come_by f p (l ∷ s) ≡ judged_by p (first f l m s) ∷ come_by f p (child l m ∷ stepped l ∷ s)
  by_follow f l m s h e g live = ap (map (judged_by p)) (come_follow f l m s h e g live)
