-- A reading carried from a file to that file itself is unchanged, on any file that opens (document 02, N8).
--     carry_self          a reading that a start and calls gave
--     carry-self-by       by a pattern that a start takes
-- Assumes nothing.
use Prim.{Unit, tt}
use Rattle.std.specs.Prelude.{◌≡◌, refl, Bool, true, List, [], ◌∷◌, map, ℕ}
use Rattle.std.proofs.Common.{sym, ap, ap₂, ◌∙◌, subst, arith}
use Rattle.format.specs.declared.Transition.{Transition}
use Rattle.format.specs.Opening.{Meta, Opening, opened, opening}
use Rattle.format.specs.Opening as Opening
use Rattle.format.specs.Paths.{Fst, fst_of}
use Rattle.format.specs.Strings.{Bound}
use Rattle.reading.specs.Reading.{Level, View, Started, started, start}
use Rattle.reading.specs.Demand.{Call, reading_after}
use Rattle.converting.specs.Mirror.{renamed}
use Rattle.carrying.specs.Carry.{Carried, carried, carried_to, carry_with, carry}
use Rattle.carrying_own.specs.LevelsPath.{LevelsPath, Own}
use Rattle.carrying_own.specs.LevelsPathLaws.{start_own, calls_own}
use Rattle.carrying_own.specs.Alike.{levels_there, AllImaged}
use Rattle.carrying_own.specs.CarryLevelsLaws.{carry_there}

transitions_stay : (ts : List Transition) → ts ≡ map (renamed (λ a. a)) ts
transitions_stay [] = refl
transitions_stay (t ∷ ts) = ap (λ (us : List Transition). t ∷ us) (transitions_stay ts)

levels_stay : (ls : List Level) → levels_there (λ a. a) ls ≡ ls
levels_stay [] = refl
levels_stay (l ∷ ls) = ap (λ (ks : List Level). l ∷ ks) (levels_stay ls)

images_stay : (f : Fst) (ls : List Level) → LevelsPath f ls → AllImaged f f (λ a. a) ls
images_stay f [] h = tt
images_stay f (l ∷ ls) h = (
  record { old = h.0.node; new = h.0.node; judged = h.0.judged; stands = h.0.judged; transitions_are = transitions_stay h.0.node.transitions },
  images_stay f ls h.1,
)

pub self_carried : (s : List ℕ) (m : Meta) → opening s ≡ opened m → (fits : Bool) → fits ≡ true → (r : View) → Own s m r → carry_with fits s s r ≡ carried r
self_carried s m opens fits short r o =
    carry_there s s m m opens opens (λ a. a) refl fits short r o (images_stay (fst_of s m) r.levels o.path)
    ∙ ap₂ (λ (n : ℕ) (ls : List Level). carried (carried_to n r ls)) (sym o.len_is) (levels_stay r.levels)

-- a file on which a start is not refused opens
pub started_opens : (s : List ℕ) (lo hi : Bound) (r : View) → start s lo hi ≡ started r → (m : Meta) × (opening s ≡ opened m)
unfolding start
started_opens s lo hi r is = by (opening s) refl
  where
    by : (q : Opening) → opening s ≡ q → (m : Meta) × (opening s ≡ opened m)
    by (opened m) e = (m, e)
    by (Opening.refused n) e =
        let no : ◌≡◌ {A = Started} (Started.refused n) (started r) = sym (rw e) ∙ is in
        absurd (let z : ◌≡◌ {A = ℕ} 0 1 = cc in omega arith)

pub carry_self : (s : List ℕ) (lo hi : Bound) (r : View) → start s lo hi ≡ started r → (cs : List (Call s)) → carry s s (reading_after r cs) ≡ carried (reading_after r cs)
carry_self s lo hi r is cs =
    let q = started_opens s lo hi r is in
    self_carried s q.0 q.1 true refl (reading_after r cs) (calls_own s q.0 q.1 cs r (start_own s q.0 q.1 lo hi r is))
