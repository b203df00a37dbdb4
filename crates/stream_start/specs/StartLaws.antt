-- Laws of a start around its walk: the pending empty key, and each answer by what leads to it.
--     meets_empty-..                         whether the empty key meets a bound with bytes
--     pending-.., walk-.., same_walk         the pending empty key and the walk, on a file that opens
--     reading-.., from-..                    the answers on a file that opens
--     start_opened, start_refused            and on any file
-- Assumes nothing.
use Rattle.std.specs.Prelude.{◌≡◌, Bool, ◌&&◌, List, [], ◌∷◌, ℕ, ◌<◌, ◌≤◌, eqb, leb, length}
use Rattle.std.proofs.Math.Path.{refl}
use Rattle.std.proofs.Common.{sym, ◌∙◌, ap, ap₂, arith, le-leb, eq-eqb, ne_eqb}
use Rattle.std.proofs.Math.Bool.{true, false, cond}
use Rattle.std.proofs.Math.Option.{Option, none, some}
use Rattle.std.proofs.lemmas.Bool.{lt-leb}
use Rattle.format.specs.declared.Refusal.{Refusal}
use Rattle.format.specs.Limits.{max_path, BOUND}
use Rattle.format.specs.Node.{Node, Judgement, sound, unsound}
use Rattle.format.specs.Opening as O
use Rattle.format.specs.Opening.{Meta, opened, opening}
use Rattle.format.specs.Paths.{Fst, fst_of, node_in}
use Rattle.format.specs.Strings as S
use Rattle.format.specs.Strings.{unbounded, included, excluded, before_test}
use Rattle.reading.specs.Reading as R
use Rattle.reading.specs.Reading.{Level, got, meets_test, is_inclusive, bound_bytes, bounds_test, pending_at}
use Rattle.stream_start.specs.Starts.{pending_if, pending_from, walk_from, reading_at, start_from}

-- ---- a lower bound and the empty key

pub meets_empty_included : (bs : List ℕ) → eqb (length bs) 0 ≡ meets_test (included bs) []
unfolding before_test
meets_empty_included [] = refl
meets_empty_included (b ∷ bs) = ne_eqb (length (b ∷ bs)) 0 (λ z. omega arith)

pub meets_empty_excluded : (bs : List ℕ) → false ≡ meets_test (excluded bs) []
unfolding before_test
meets_empty_excluded [] = refl
meets_empty_excluded (b ∷ bs) = refl

-- ---- the pending empty key

module _ (j : Judgement) (meets : Bool) where
  pub pending_not : meets ≡ false → none ≡ pending_if meets j
  pending_not e = rw e

  pub pending_unsound : j ≡ unsound → none ≡ pending_if meets j
  pending_unsound e = rw e (go meets)
    where
      go : (t : Bool) → none ≡ pending_if t unsound
      go true = refl
      go false = refl

  module _ (m : Node) (e : j ≡ sound m) where
    pub pending_final : meets ≡ true → m.final ≡ true → some m.final_output ≡ pending_if meets j
    pending_final b is = rw (b, e, is)

    pub pending_no_key : meets ≡ true → m.final ≡ false → none ≡ pending_if meets j
    pending_no_key b is = rw (b, e, is)

-- ---- the answers

pub same_walk : (f : Fst) (a : ℕ) {c d : Bool} {l k : List ℕ} → c ≡ d → l ≡ k → R.seek f c a 0 0 [] l ≡ R.seek f d a 0 0 [] k
same_walk f a p q = cc

reading_at_lem : (s : List ℕ) (hi : S.Bound) (empty : Option ℕ) (w : R.Sought) → reading_at (length s) hi (length (bound_bytes hi)) empty w ≡ R.started_at s hi empty w
reading_at_lem s hi empty (got levels) = refl
reading_at_lem s hi empty (R.Sought.halted n) = refl

-- what the walk answered
module _ (len : ℕ) (b : S.Bound) (n : ℕ) (empty : Option ℕ) {w : R.Sought} where
  pub reading_halted : (k : Refusal) → R.Sought.halted k ≡ w → R.Started.refused k ≡ reading_at len b n empty w
  reading_halted k e = ap (reading_at len b n empty) e

  pub reading_levels : (s : List Level) → got s ≡ w
      → R.started (record { len = len; bound = b; bound_len = n; empty = empty; total = 0; levels = s }) ≡ reading_at len b n empty w
  reading_levels s e = ap (reading_at len b n empty) e

-- the pending empty key and the walk, by whether the file has bytes
module _ (f : Fst) (lo : S.Bound) where
  pub pending_blank : length f.bytes ≡ 0 → none ≡ pending_from f lo
  pending_blank z = rw (eq-eqb (length f.bytes) 0 z)

  pub pending_some : 0 < length f.bytes → pending_at lo (node_in f f.root) ≡ pending_from f lo
  pending_some pos =
      let ne : ¬ (length f.bytes ≡ 0) = λ z. omega arith in
      rw (ne_eqb (length f.bytes) 0 ne)

  pub walk_blank : length f.bytes ≡ 0 → got [] ≡ walk_from f lo
  walk_blank z = rw (eq-eqb (length f.bytes) 0 z)

  pub walk_some : 0 < length f.bytes → R.seek f (is_inclusive lo) f.root 0 0 [] (bound_bytes lo) ≡ walk_from f lo
  walk_some pos =
      let ne : ¬ (length f.bytes ≡ 0) = λ z. omega arith in
      rw (ne_eqb (length f.bytes) 0 ne)

pub bounds_short : (lo hi : S.Bound) → length (bound_bytes lo) ≤ max_path → length (bound_bytes hi) ≤ max_path → bounds_test lo hi ≡ true
bounds_short lo hi short_lo short_hi = rw (le-leb (length (bound_bytes lo)) max_path short_lo, le-leb (length (bound_bytes hi)) max_path short_hi)

module _ (f : Fst) (lo hi : S.Bound) where
  pub from_lower : max_path < length (bound_bytes lo) → R.Started.refused BOUND ≡ start_from f lo hi
  from_lower h = rw (lt-leb (length (bound_bytes lo)) max_path h)

  pub from_upper : max_path < length (bound_bytes hi) → R.Started.refused BOUND ≡ start_from f lo hi
  from_upper h = rw (lt-leb (length (bound_bytes hi)) max_path h) (go (leb (length (bound_bytes lo)) max_path) _)
    where
      go : (t : Bool) (r : R.Started) → R.Started.refused BOUND ≡ cond (t && false) r (R.Started.refused BOUND)
      go true r = refl
      go false r = refl

  pub from_reading : bounds_test lo hi ≡ true → (b : S.Bound) (n : ℕ) (empty : Option ℕ) (w : R.Sought)
      → b ≡ hi → n ≡ length (bound_bytes hi) → empty ≡ pending_from f lo → w ≡ walk_from f lo
      → reading_at (length f.bytes) b n empty w ≡ start_from f lo hi
  from_reading short b n empty w eb en ee ew =
      rw (eb, en) (reading_at_lem f.bytes hi empty w ∙ sym (ap (λ t. cond t (R.started_at f.bytes hi (pending_from f lo) (walk_from f lo)) (R.Started.refused BOUND)) short
      ∙ ap₂ (R.started_at f.bytes hi) (sym ee) (sym ew)))

module _ (s : List ℕ) (lo hi : S.Bound) where
  pub start_opened : (m : Meta) → opening s ≡ opened m → R.start s lo hi ≡ start_from (fst_of s m) lo hi
  unfolding R.start
  start_opened m e = rw e (ap (λ (r : R.Started). cond (bounds_test lo hi) r (R.Started.refused BOUND)) (go (eqb (length s) 0) _ _))
    where
      go : (t : Bool) (p : Option ℕ) (w : R.Sought)
          → cond t (R.started_at s hi none (got [])) (R.started_at s hi p w) ≡ R.started_at s hi (cond t none p) (cond t (got []) w)
      go true p w = refl
      go false p w = refl

  pub start_refused : (n : Refusal) → opening s ≡ O.refused n → R.start s lo hi ≡ R.Started.refused n
  unfolding R.start
  start_refused n e = rw e
