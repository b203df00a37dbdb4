-- What is put into the arrays is read back, and a start or a call by numbers and arrays is one by kinds and readings.
--     held_back, plain_back      the arrays hold the reading, and the plain reading, that was put into them
--     bounds_of, start_bounds    a start by the bounds that two numbers with bytes stand for; of plain readings
--     next_of                    a call on the reading that the arrays hold
-- Assumes nothing.
use Rattle.std.specs.Prelude.{◌≡◌, refl, Option, Some, None, List, ℕ, get_or, ⊤}
use Rattle.std.proofs.Common.{ap, ◌∙◌, subst}
use Rattle.format.specs.Strings as F
use Rattle.plain.specs.Plain as P
use Rattle.std.specs.declared.ops.Bound.{Bound}
use Rattle.std.specs.declared.ops.Bound.TheVariants.{Included, Excluded, Unbounded}
use Rattle.stream_start.specs.declared.Reading.{Reading}
use Rattle.stream_start.specs.Views.{bound_is, view_is}
use Rattle.stream.specs.declared.Plain.{Plain}
use Rattle.stream_step.specs.declared.Step.{Step}
use Rattle.stream.specs.Plains.{plain_is, PlainStepped}
use Rattle.stream_arrays.specs.Arrays.{kind_is, kind_number, pending_is, pending_flag, pending_value, Held, held_is, held_as, held_plain, PlainPut}

-- ---- what was put is there

kind_back : (k : Bound ⊤) → kind_is (kind_number k) ≡ k
kind_back (Included tt) = refl
kind_back (Excluded tt) = refl
kind_back Unbounded = refl

pending_back : (e : Option ℕ) → pending_is (pending_flag e) (pending_value e) ≡ e
pending_back None = refl
pending_back (Some v) = refl

pub held_back : (r : Reading) → view_is (held_is (held_as r)) ≡ view_is r
held_back r = rw (kind_back r.kind) (rw (pending_back r.empty_output) refl)

pub plain_back : {p : Plain} {h : Held} {n : List ℕ} → PlainPut p h n → held_plain h n ≡ plain_is p
plain_back {p} {h} {n} put =
    ap (λ x. held_plain x n) put.reading ∙ ap (λ x. held_plain (held_as p.reading) x) put.keys
    ∙ ap (λ v. P.plain_with v p.keys) (held_back p.reading)

-- ---- the bounds are those whose kinds the numbers stand for

pub bounds_of : {A : Type 0} {w : A} (start : F.Bound → F.Bound → A) (lo hi : List ℕ) {x y : F.Bound} (n m : ℕ) → x ≡ bound_is (kind_is n) lo
    → y ≡ bound_is (kind_is m) hi → w ≡ start x y → w ≡ start (bound_is (kind_is n) lo) (bound_is (kind_is m) hi)
bounds_of start lo hi {y = y} n m a b e = e ∙ ap (λ v. start v y) a ∙ ap (λ v. start (bound_is (kind_is n) lo) v) b

pub start_bounds : {w : P.Begun} (f lo hi c : List ℕ) {x y : F.Bound} (n m : ℕ) → x ≡ bound_is (kind_is n) lo → y ≡ bound_is (kind_is m) hi
    → w ≡ P.start_plain f x y c → w ≡ P.start_plain f (bound_is (kind_is n) lo) (bound_is (kind_is m) hi) c
start_bounds f lo hi c n m a b e = bounds_of (λ x y. P.start_plain f x y c) lo hi n m a b e

-- ---- the reading that is handed on is the one that the arrays hold

pub next_of : (f : List ℕ) (m : ℕ) (h : Held) (n : List ℕ) {k₀ k : List ℕ} {r : Reading} {s : Step Plain} → r ≡ held_is h
    → PlainStepped (P.next_plain f (P.plain_with (view_is r) (get_or n 0 0)) m) k₀ k s → PlainStepped (P.next_plain f (held_plain h n) m) k₀ k s
next_of f m h n {k₀} {k} {r} {s} e st = subst (λ x. PlainStepped (P.next_plain f (P.plain_with (view_is x) (get_or n 0 0)) m) k₀ k s) e st
