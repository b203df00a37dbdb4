-- Two rows of transitions, as long as each other, are the same exactly where each place is.
--     same_at t u      two transitions, as the code compares them
-- Assumes nothing.
use Rattle.std.proofs.Common.{◌≡◌, ℕ, zero, suc, ◌<◌, Bool, true, false, ◌&&◌, eqb, List, [], ◌∷◌, length, refl, sym, ap, arith}
use Rattle.format.specs.declared.Transition.{Transition}
use Rattle.format.specs.Node.{transition_at}
use Rattle.packing.specs.Registry.{same_transitions}

abbrev pub same_at : Transition → Transition → Bool
same_at t u = (eqb t.inp u.inp && eqb t.out u.out) && eqb t.addr u.addr

-- rows of different lengths
pub lengths_differ : (ts us : List Transition) → ¬ (length ts ≡ length us) → same_transitions ts us ≡ false
unfolding same_transitions
lengths_differ [] [] ne = absurd (ne refl)
lengths_differ [] (u ∷ us) ne = refl
lengths_differ (t ∷ ts) [] ne = refl
lengths_differ (t ∷ ts) (u ∷ us) ne = rw (lengths_differ ts us (λ e. ne (ap suc e))) (and_false (eqb t.inp u.inp) (eqb t.out u.out) (eqb t.addr u.addr))
  where
    and_false : (a b c : Bool) → (a && (b && (c && false))) ≡ false
    and_false true true true = refl
    and_false true true false = refl
    and_false true false c = refl
    and_false false b c = refl

not_so : {A : Type 0} → false ≡ true → A
not_so e = absurd (let z : ◌≡◌ {A = ℕ} 0 1 = cc in omega arith)

parted : (a b c d : Bool) → (a && (b && (c && d))) ≡ true → (((a && b) && c) ≡ true) × (d ≡ true)
parted true true true d e = (refl, e)
parted true true false d e = not_so e
parted true false c d e = not_so e
parted false b c d e = not_so e

joined : (a b c d : Bool) → ((a && b) && c) ≡ true → d ≡ true → (a && (b && (c && d))) ≡ true
joined true true true d e f = f
joined true true false d e f = e
joined true false c d e f = e
joined false b c d e f = e

each_of : (ts us : List Transition) → length us ≡ length ts → same_transitions ts us ≡ true → (i : ℕ) → i < length ts → same_at (transition_at ts i) (transition_at us i) ≡ true
unfolding same_transitions
each_of [] us n e i l = absurd (omega arith)
each_of (t ∷ ts) [] n e i l = absurd (omega arith)
each_of (t ∷ ts) (u ∷ us) n e zero l = (parted (eqb t.inp u.inp) (eqb t.out u.out) (eqb t.addr u.addr) (same_transitions ts us) e).0
each_of (t ∷ ts) (u ∷ us) n e (suc i) l = each_of ts us (omega arith) (parted (eqb t.inp u.inp) (eqb t.out u.out) (eqb t.addr u.addr) (same_transitions ts us) e).1 i (omega arith)

same_of : (ts us : List Transition) → length us ≡ length ts → ((i : ℕ) → i < length ts → same_at (transition_at ts i) (transition_at us i) ≡ true) → same_transitions ts us ≡ true
unfolding same_transitions
same_of [] [] n f = refl
same_of [] (u ∷ us) n f = absurd (omega arith)
same_of (t ∷ ts) [] n f = absurd (omega arith)
same_of (t ∷ ts) (u ∷ us) n f =
    joined (eqb t.inp u.inp) (eqb t.out u.out) (eqb t.addr u.addr) (same_transitions ts us) (f 0 (omega arith)) (same_of ts us (omega arith) (λ i l. f (suc i) (omega arith)))

both_ways : (a b : Bool) → (a ≡ true → b ≡ true) → (b ≡ true → a ≡ true) → a ≡ b
both_ways true b f g = sym (f refl)
both_ways false true f g = g refl
both_ways false false f g = refl

-- a test of every place
pub rows_same : (ts us : List Transition) → length us ≡ length ts → (r : Bool) → (r ≡ true → (i : ℕ) → i < length ts → same_at (transition_at ts i) (transition_at us i) ≡ true)
    → (((i : ℕ) → i < length ts → same_at (transition_at ts i) (transition_at us i) ≡ true) → r ≡ true) → r ≡ same_transitions ts us
rows_same ts us n r f g = both_ways r (same_transitions ts us) (λ e. same_of ts us n (f e)) (λ e. g (each_of ts us n e))
