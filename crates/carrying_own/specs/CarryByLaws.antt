-- `carry_own` and `carry_self` of readings by pattern (document 02, N8 and N1).
--     alike_calls_by, alike_answers_by      two files of which the one mirrors the other
--     carry_own_by                          the claim, for every pattern of at most 255 positions
--     carry_self_by                         to the file itself
-- Assumes nothing.
use Rattle.std.specs.Prelude.{◌≡◌, refl, Bool, true, false, cond, List, [], ◌∷◌, ℕ, ◌≤◌, leb, length}
use Rattle.std.proofs.Common.{sym, ap, ◌∙◌, subst, arith, le-leb}
use Rattle.format.specs.Limits.{max_path, PATTERN}
use Rattle.format.specs.Opening.{Meta, Opening, opened, opening}
use Rattle.format.specs.Opening as Opening
use Rattle.format.specs.Paths.{fst_of}
use Rattle.format.specs.Admitted.{Admitted}
use Rattle.format.specs.Strings.{Bound}
use Rattle.reading.specs.Reading.{bound_bytes, View, Started, started, start, Answer, Step}
use Rattle.reading.specs.Demand.{Call, Allowed, unrefused_then, unrefused}
use Rattle.pattern.specs.Pattern.{Pattern, start_by, pending_by}
use Rattle.pattern.specs.PatternDemand.{call_by, reading_after_by, answers_by}
use Rattle.converting.specs.Mirror.{Mirror}
use Rattle.converting.specs.Converting.{moved_to, converted}
use Rattle.carrying.specs.Carry.{Carried, carried, carry_by}
use Rattle.carrying_own.specs.LevelsPath.{Own}
use Rattle.carrying_own.specs.LevelsPathLaws.{start_own}
use Rattle.carrying_own.specs.Alike.{view_there}
use Rattle.carrying_own.specs.AlikeLaws.{step_there}
use Rattle.carrying_own.specs.AlikeByLaws.{start_by_start, call_by_walks, call_by_refused, call_by_own, calls_by_own, pending_by_there}
use Rattle.carrying_own.specs.CarrySelfLaws.{self_carried}
use Rattle.carrying_own.specs.CarryOwn.{Same, both_allowed, neither_allowed, SameCalls, no_calls, and_then, Convertible, GoesOnBy, CarryOwnBy}
use Rattle.carrying_own.specs.CarryOwnLaws.{Pair, Alike, alike_start, alike_carry, refused_none, new_admitted, pair_own, by_mirror, old_start, new_start, old_started, new_started}

-- ---- two files of which the one mirrors the other

module _ {s s' : List ℕ} {m m' : Meta} (pair : Pair s s' m m') {ren : ℕ → ℕ} {On : ℕ → Type 0} (mirror : Mirror (fst_of s m) (fst_of s' m') ren On)
    (p : Pattern) (short : leb (length p.positions) max_path ≡ true) where
  call_there : (r r' : View) → Alike pair mirror r r' → (c : Call s) (c' : Call s') → Allowed c → Allowed c'
      → call_by p r' c' ≡ step_there mirror (length s') (call_by p r c)
  call_there r r' a c c' h h' =
      call_by_walks s' m' pair.opens' p short r' a.own' c' h'
      ∙ ap (λ (v : View). pending_by (fst_of s' m') p v v.empty) a.is
      ∙ pending_by_there mirror p (length s') r a.own.path r.empty
      ∙ ap (step_there mirror (length s')) (sym (call_by_walks s m pair.opens p short r a.own c h))

  alike_answer_by : (r r' : View) → Alike pair mirror r r' → (c : Call s) (c' : Call s') → Allowed c → Allowed c' → (call_by p r' c').answer ≡ (call_by p r c).answer
  alike_answer_by r r' a c c' h h' = ap (λ (o : Step). o.answer) (call_there r r' a c c' h h')

  call_is_lem : (r r' : View) → Alike pair mirror r r' → (c : Call s) (c' : Call s') → Same c c' → (call_by p r' c').reading ≡ view_there ren (length s') (call_by p r c).reading
  call_is_lem r r' a c c' (both_allowed h h') = ap (λ (o : Step). o.reading) (call_there r r' a c c' h h')
  call_is_lem r r' a c c' (neither_allowed out out') =
      ap (λ (o : Step). o.reading) (call_by_refused s' m' pair.opens' p short r' a.own' c' out').1 ∙ a.is
      ∙ ap (λ (o : Step). view_there ren (length s') o.reading) (sym (call_by_refused s m pair.opens p short r a.own c out).1)

  alike_call_by : (r r' : View) → Alike pair mirror r r' → (c : Call s) (c' : Call s') → Same c c' → Alike pair mirror (call_by p r c).reading (call_by p r' c').reading
  alike_call_by r r' a c c' same = record {
    own = call_by_own s m pair.opens p short r a.own c;
    own' = call_by_own s' m' pair.opens' p short r' a.own' c';
    is = call_is_lem r r' a c c' same;
  }

  pub alike_calls_by : {cs : List (Call s)} {cs' : List (Call s')} → SameCalls cs cs' → (r r' : View) → Alike pair mirror r r'
      → Alike pair mirror (reading_after_by p r cs) (reading_after_by p r' cs')
  alike_calls_by no_calls r r' a = a
  alike_calls_by (and_then {c} {c'} {cs} {cs'} same more) r r' a = alike_calls_by more (call_by p r c).reading (call_by p r' c').reading (alike_call_by r r' a c c' same)

  answer_then : (r r' : View) → Alike pair mirror r r' → (c : Call s) (c' : Call s') → Same c c' → (more : List Answer)
      → unrefused_then (call_by p r' c').answer more ≡ unrefused_then (call_by p r c).answer more
  answer_then r r' a c c' (both_allowed h h') more = ap (λ (x : Answer). unrefused_then x more) (alike_answer_by r r' a c c' h h')
  answer_then r r' a c c' (neither_allowed out out') more =
      let q = call_by_refused s m pair.opens p short r a.own c out in
      let q' = call_by_refused s' m' pair.opens' p short r' a.own' c' out' in
      refused_none q'.0 more (ap (λ (o : Step). o.answer) q'.1) ∙ sym (refused_none q.0 more (ap (λ (o : Step). o.answer) q.1))

  pub alike_answers_by : {cs : List (Call s)} {cs' : List (Call s')} → SameCalls cs cs' → (r r' : View) → Alike pair mirror r r'
      → unrefused (answers_by p r' cs') ≡ unrefused (answers_by p r cs)
  alike_answers_by no_calls r r' a = refl
  alike_answers_by (and_then {c} {c'} {cs} {cs'} same more) r r' a =
      ap (unrefused_then (call_by p r' c').answer) (alike_answers_by more (call_by p r c).reading (call_by p r' c').reading (alike_call_by r r' a c c' same))
      ∙ answer_then r r' a c c' same (unrefused (answers_by p (call_by p r c).reading cs))

-- ---- a file and its conversion

module _ {s : List ℕ} (A : Admitted s) (can : Convertible A) (p : Pattern) (few : length p.positions ≤ max_path) (lo hi : Bound)
    (short_lo : length (bound_bytes lo) ≤ max_path) (short_hi : length (bound_bytes hi) ≤ max_path) (cs : List (Call s)) (cs' : List (Call (converted A)))
    (same : SameCalls cs cs') where
  abbrev B : Admitted (converted A)
  B = new_admitted A can

  abbrev pair₀ : Pair s (converted A) A.meta B.meta
  pair₀ = pair_own A can

  abbrev first : View
  first = old_start A can lo hi short_lo short_hi

  abbrev first' : View
  first' = new_start A can lo hi short_lo short_hi

  abbrev stayed : View
  stayed = reading_after_by p first cs

  abbrev moved_on : View
  moved_on = reading_after_by p first' cs'

  short : leb (length p.positions) max_path ≡ true
  short = le-leb (length p.positions) max_path few

  module _ (On : ℕ → Type 0) (mirror : Mirror (fst_of s A.meta) (fst_of (converted A) B.meta) (moved_to A) On) where
    alike_own : Alike pair₀ mirror stayed moved_on
    alike_own =
        alike_calls_by pair₀ mirror p short same first first'
        (alike_start pair₀ mirror lo hi first first' (old_started A can lo hi short_lo short_hi) (new_started A can lo hi short_lo short_hi))

    carries_by : carry_by s (converted A) p stayed ≡ carried moved_on
    carries_by = alike_carry pair₀ mirror (leb (length p.positions) max_path) short stayed moved_on alike_own

    goes_by : (ds : List (Call s)) (ds' : List (Call (converted A))) → SameCalls ds ds' → GoesOnBy A p stayed moved_on ds ds'
    goes_by ds ds' more =
        let a = alike_calls_by pair₀ mirror p short more stayed moved_on alike_own in
        record {
          answers_same = alike_answers_by pair₀ mirror p short more stayed moved_on alike_own;
          each_call = λ c c' h h'. alike_answer_by pair₀ mirror p short (reading_after_by p stayed ds) (reading_after_by p moved_on ds') a c c' h h';
          total_same = ap (λ (v : View). v.total) a.is;
        }

  pub carry_own_by : CarryOwnBy A p lo hi cs cs'
  carry_own_by = record {
    reading = first;
    starts = start_by_start s A.meta A.opens p short lo hi ∙ old_started A can lo hi short_lo short_hi;
    new_reading = first';
    new_starts = start_by_start (converted A) B.meta B.opens p short lo hi ∙ new_started A can lo hi short_lo short_hi;
    carries = by_mirror A can (carry_by s (converted A) p stayed ≡ carried moved_on) carries_by;
    goes_on = λ ds ds' more. by_mirror A can (GoesOnBy A p stayed moved_on ds ds') (λ On mirror. goes_by On mirror ds ds' more);
  }

-- ---- a file to itself

-- a start by pattern that is not refused: the file opens, the pattern is short enough, and the start is one without it
pub started_by : (s : List ℕ) (p : Pattern) (lo hi : Bound) (r : View) → start_by s p lo hi ≡ started r
    → (m : Meta) × (opening s ≡ opened m) × (leb (length p.positions) max_path ≡ true) × (start s lo hi ≡ started r)
unfolding start_by
started_by s p lo hi r is = by (opening s) refl (leb (length p.positions) max_path) refl
  where
    by : (q : Opening) → opening s ≡ q → (b : Bool) → leb (length p.positions) max_path ≡ b
        → (m : Meta) × (opening s ≡ opened m) × (leb (length p.positions) max_path ≡ true) × (start s lo hi ≡ started r)
    by (opened m) e true b = (m, e, b, sym (rw (e, b)) ∙ is)
    by (opened m) e false b =
        let no : ◌≡◌ {A = Started} (Started.refused PATTERN) (started r) = sym (rw (e, b)) ∙ is in
        absurd (let z : ◌≡◌ {A = ℕ} 0 1 = cc in omega arith)
    by (Opening.refused n) e b eb =
        let no : ◌≡◌ {A = Started} (Started.refused n) (started r) = sym (rw e) ∙ is in
        absurd (let z : ◌≡◌ {A = ℕ} 0 1 = cc in omega arith)

pub carry_self_by : (s : List ℕ) (p : Pattern) (lo hi : Bound) (r : View) → start_by s p lo hi ≡ started r → (cs : List (Call s))
    → carry_by s s p (reading_after_by p r cs) ≡ carried (reading_after_by p r cs)
carry_self_by s p lo hi r is cs =
    let q = started_by s p lo hi r is in
    self_carried s q.0 q.1 (leb (length p.positions) max_path) q.2 (reading_after_by p r cs)
    (calls_by_own s q.0 q.1 p q.2 cs r (start_own s q.0 q.1 lo hi r q.3))
