-- What a line that was written says of the listing's loop: a key's line leaves the reading on its way, with fewer visits to come; every line fits its
-- buffer; and a listing that begins is on its way.
-- Assumes nothing.
use mathlib.Core.Path.{◌≡◌, refl, sym, ap, ◌∙◌, subst}
use Rattle.std.specs.Prelude.{Ok, Result}
use Rattle.format.specs.declared.Refusal.{Refusal}
use mathlib.Core.List.{List}
use Prim.Native.Nat.{ℕ, ◌≤◌, ◌<◌}
use native.Mathlib.Omega.{arith}
use Rattle.format.specs.Limits.{max_path}
use Rattle.format.specs.Opening.{meta_of}
use Rattle.format.specs.Laws.OpeningLaws.{opened_facts}
use Rattle.format.specs.Paths.{fst_of}
use Rattle.format.specs.Strings.{unbounded}
use Rattle.format.specs.Admitted.{Admitted}
use Rattle.reading.specs.Reading as R
use Rattle.reading.specs.Reading.{View, Answer, key, end, counted, next}
use Rattle.plain.specs.Plain.{Plain, next_plain, begun, start_plain}
use Rattle.plain.proofs.PlainRunLaws.{plain_key, plain_started}
use Rattle.reading.proofs.ProgressLaws.{left}
use Rattle.reading.proofs.WholeLaws.{OnWay, OnWayNext, goes_on, comes_to_end, on_way_start, on_way_next}
use Rattle.stream.specs.Plains.{plain_is}
use Rattle.stream.specs.declared.Plain as Code
use Rattle.listing.specs.declared.Line.TheVariants.{Key, Last}
use Rattle.listing.specs.declared.Listed.{Listed}
use Rattle.listing.specs.Listing.{Line, State, state, more, last, line_by, line_of}
use Rattle.listing_start.specs.Begun.{Begins, too_large, not_counted, begins}
use Rattle.listing.specs.Lined.{Wrote, Lined}
use Rattle.list.specs.Stands.{Stands}

-- what is left to visit, read off the file and the reading alone
abbrev pub left_in : List ℕ → View → ℕ
left_in s r = left (fst_of s (meta_of s)) r

left_is : {s : List ℕ} (A : Admitted s) (r : View) → left (fst_of s A.meta) r ≡ left_in s r
left_is {s} A r = ap (λ m. left (fst_of s m) r) (opened_facts s A.meta A.opens).is

-- ---- lines

key_not_last : {n m : ℕ} → ¬ (Key n ≡ Last m)
key_not_last e = let z : ◌≡◌ {A = ℕ} 0 1 = cc in omega arith

key_same : {n m : ℕ} → Key n ≡ Key m → n ≡ m
key_same e = cc

last_same : {n m : ℕ} → Last n ≡ Last m → n ≡ m
last_same e = cc

key_short : (x : Line) (buf₀ buf : List ℕ) (r : Listed) (n : ℕ) → Wrote x buf₀ buf r → r.line ≡ Key n → n ≤ 532
key_short (more b st) buf₀ buf r n w e = let q = key_same (sym e ∙ w.0) in omega (arith, w.3)
key_short (last b st) buf₀ buf r n w e = absurd (key_not_last (sym e ∙ w.0))

last_short : (x : Line) (buf₀ buf : List ℕ) (r : Listed) (n : ℕ) → Wrote x buf₀ buf r → r.line ≡ Last n → n ≤ 532
last_short (more b st) buf₀ buf r n w e = absurd (key_not_last (sym w.0 ∙ e))
last_short (last b st) buf₀ buf r n w e = let q = last_same (sym e ∙ w.0) in omega (arith, w.3)

-- a line that was answered was written
pub lined_wrote : (x : Line) (buf₀ buf : List ℕ) (r : Result Listed Refusal) (y : Listed) → Lined x buf₀ buf r → r ≡ Ok y → Wrote x buf₀ buf y
lined_wrote x buf₀ buf r y l e = (subst (λ z. Lined x buf₀ buf z) e l).0

pub key_fits : (x : Line) (buf₀ buf : List ℕ) (r : Result Listed Refusal) (y : Listed) (n : ℕ) → Lined x buf₀ buf r → r ≡ Ok y → y.line ≡ Key n → n ≤ 532
key_fits x buf₀ buf r y n l is e = key_short x buf₀ buf y n (lined_wrote x buf₀ buf r y l is) e

pub last_fits : (x : Line) (buf₀ buf : List ℕ) (r : Result Listed Refusal) (y : Listed) (n : ℕ) → Lined x buf₀ buf r → r ≡ Ok y → y.line ≡ Last n → n ≤ 532
last_fits x buf₀ buf r y n l is e = last_short x buf₀ buf y n (lined_wrote x buf₀ buf r y l is) e

-- ---- a key's line

-- the line of a key comes from an answer that hands it out
key_line_of : (a : Answer) (p : Plain) (keys : ℕ) (buf₀ buf : List ℕ) (r : Listed) (n : ℕ) → Wrote (line_by a p keys) buf₀ buf r → r.line ≡ Key n
    → (k : List ℕ) × (v : ℕ) × (a ≡ key k v) × (plain_is r.plain ≡ p)
key_line_of (key k v) p keys buf₀ buf r n w e = (k, v, refl, ap (λ (st : State). st.reading) w.2)
key_line_of end p keys buf₀ buf r n w e = absurd (key_not_last (sym e ∙ w.0))
key_line_of (Answer.refused c) p keys buf₀ buf r n w e = absurd (key_not_last (sym e ∙ w.0))

pub record After (s : List ℕ) (v : View) (r : Listed) : Type 0 where
  pub stands : Stands s (plain_is r.plain).view
  pub less : left_in s (plain_is r.plain).view < left_in s v

module _ (s : List ℕ) (p : Plain) (keys : ℕ) (buf₀ buf : List ℕ) (r : Listed) (n : ℕ) where
  abbrev call : R.Step
  call = next s p.view max_path

  goes : (A : Admitted s) → OnWayNext A unbounded unbounded p.view call → (k : List ℕ) (u : ℕ) → call.answer ≡ key k u → (plain_is r.plain).view ≡ call.reading
      → After s p.view r
  goes A (goes_on e is way less) k u q same =
      record {
        stands = record { admitted = A; on_way = subst (λ x. OnWay A unbounded unbounded x) (sym same) way };
        less = omega (arith, less, left_is A call.reading, left_is A p.view, ap (left_in s) same);
      }
  goes A (comes_to_end is) k u q same = absurd (let z : ◌≡◌ {A = ℕ} 0 1 = cc in omega arith)

  wrote_goes : (A : Admitted s) → OnWayNext A unbounded unbounded p.view call → Wrote (line_of s (state p keys)) buf₀ buf r → r.line ≡ Key n → After s p.view r
  unfolding line_of
  wrote_goes A way w e =
      let q = key_line_of (next_plain s p max_path).answer (next_plain s p max_path).reading keys buf₀ buf r n w e in
      let c = plain_key p call.reading call.answer q.0 q.1 q.2 in
      goes A way q.0 q.1 c.0 (ap (λ (x : Plain). x.view) q.3 ∙ c.1)

  pub way_on : Stands s p.view → {u : Result Listed Refusal} → Lined (line_of s (state p keys)) buf₀ buf u → u ≡ Ok r → r.line ≡ Key n → After s p.view r
  way_on st {u} l is e =
      wrote_goes st.admitted (on_way_next st.admitted unbounded unbounded p.view st.on_way max_path (omega arith))
      (lined_wrote (line_of s (state p keys)) buf₀ buf u r l is) e

-- ---- the beginning

pub way_begins : {s d₀ s₀ c₀ d t c : List ℕ} {r : Result Code.Plain Refusal} (p : Code.Plain) → Begins s d₀ s₀ c₀ d t c r → r ≡ Ok p → Stands s (plain_is p).view
way_begins p (too_large h e k q w) is = let z : ◌≡◌ {A = ℕ} 0 1 = cc in absurd (omega arith)
way_begins p (not_counted h n e k) is = let z : ◌≡◌ {A = ℕ} 0 1 = cc in absurd (omega arith)
way_begins {s} {c = c} p (begins h b e a st) is =
    let A = a.admits.admitted in
    let same : b ≡ p = cc in
    let q = subst (λ x. start_plain s unbounded unbounded c ≡ begun (plain_is x)) same st in
    record {
      admitted = A;
      on_way = on_way_start A unbounded unbounded (omega arith) (omega arith) (plain_is p).view (plain_started s unbounded unbounded c (plain_is p) q);
    }
