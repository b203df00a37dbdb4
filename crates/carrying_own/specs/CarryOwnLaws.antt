-- A reading carried to its file's conversion is the one that the same calls on the new file would have left (document 02, N8).
--     own_calls_same, twin_calls       the same buffers make the same calls; each list of calls has its like on another file
--     Alike, alike_start, alike_calls, alike_answers, alike_carry      two files of which the one mirrors the other
--     written_convertible       what `conversion` does not refuse
--     carry_own                 the claim
-- Assumes nothing.
use Rattle.std.specs.Prelude.{◌≡◌, refl, Bool, true, false, cond, ◌&&◌, ℕ, ◌≤◌, ◌<◌, ltb, leb, eqb, length, get_or}
use Rattle.std.proofs.Common.{sym, ap, ap₂, ◌∙◌, subst, ⊎_elim, arith}
use Rattle.std.proofs.Math.Option.{Option, none, some}
use Rattle.format.specs.declared.Refusal.{Refusal}
use mathlib.Core.List.{List, [], ◌∷◌, ◌++◌, map, append_assoc}
use borrow.Author.Tests.{ne_eqb, eqb-true, ltb-false}
use Rattle.format.specs.Limits.{max_path, max_len, LARGE, SPACE, EDITION}
use Rattle.format.specs.Opening.{Meta, opened, opening}
use Rattle.format.specs.Paths.{Fst, fst_of, node_in, Held}
use Rattle.format.specs.Admitted.{Admitted}
use Rattle.format.specs.Strings.{Bound}
use Rattle.reading.specs.Reading.{bound_bytes, is_inclusive, View, Sought, got, seek, pending_at, Started, started, started_at, bounds_test, start, Answer, key, end, Step, refuse, walk}
use Rattle.reading.specs.Demand.{Call, Allowed, call, reading_after, answers, unrefused_then, unrefused, followed, Demand3}
use Rattle.reading.proofs.DemandLaws.{reading₀, start_given, demand_3}
use Rattle.reading.proofs.RunLaws.{lt_or}
use Rattle.converting.specs.Mirror.{Mirror}
use Rattle.converting.specs.Converting.{vanishes, moved_to, converted, table_of, Conversion, written, placing, conversion}
use Rattle.converting.specs.Converted.{old_fst, new_fst, OnChain, SameContents}
use Rattle.converting.specs.Laws.ConvertedLaws.{old_has_bytes, length_converted, mirrors_vanished, mirrors_kept, held_both}
use Rattle.converting.specs.Laws.AdmittedLaws.{converted_admitted, converted_holds}
use Rattle.carrying.specs.Carry.{Carried, carried, carry_with, carry}
use Rattle.carrying_own.specs.LevelsPath.{Own}
use Rattle.carrying_own.specs.LevelsPathLaws.{allowed_or, start_own, call_own, call_walks, call_refused}
use Rattle.carrying_own.specs.Alike.{view_there}
use Rattle.carrying_own.specs.AlikeLaws.{images_there, sought_there, seek_there, pending_there, step_there, walk_there}
use Rattle.carrying_own.specs.CarryLevelsLaws.{carry_there}
use Rattle.carrying_own.specs.CarryOwn.{Same, both_allowed, neither_allowed, SameCalls, no_calls, and_then, own_call, own_calls, Convertible, GoesOn, CarryOwn}

-- ---- the same calls

pub own_calls_same : (s s' : List ℕ) (ns : List ℕ) → SameCalls (own_calls s ns) (own_calls s' ns)
own_calls_same s s' [] = no_calls
own_calls_same s s' (n ∷ ns) =
    and_then
    (⊎_elim (λ (lt : n < max_path). neither_allowed (λ (h : Allowed (own_call s n)). omega (arith, h.room)) (λ (h : Allowed (own_call s' n)). omega (arith, h.room)))
    (λ (ge : max_path ≤ n). both_allowed (record { same = refl; room = ge }) (record { same = refl; room = ge })) (lt_or n max_path))
    (own_calls_same s s' ns)

-- each list of calls has its like on another file
pub twin_calls : {s : List ℕ} (s' : List ℕ) (cs : List (Call s)) → (cs' : List (Call s')) × SameCalls cs cs'
twin_calls s' [] = ([], no_calls)
twin_calls s' (c ∷ cs) =
    let more = twin_calls s' cs in
    ⊎_elim (λ (h : Allowed c). (own_call s' max_path ∷ more.0, and_then (both_allowed h (record { same = refl; room = omega arith })) more.1))
    (λ (out : ¬ Allowed c). (own_call s' 0 ∷ more.0, and_then (neither_allowed out (λ (h : Allowed (own_call s' 0)). omega (arith, h.room))) more.1))
    (allowed_or c)

-- ---- two files of which the one mirrors the other

pub refused_none : {a : Answer} (n : Refusal) (more : List Answer) → a ≡ Answer.refused n → unrefused_then a more ≡ more
refused_none n more is = rw is

-- both files have bytes and open
pub record Pair (s s' : List ℕ) (m m' : Meta) : Type 0 where
  pub opens : opening s ≡ opened m
  pub opens' : opening s' ≡ opened m'
  pub some_bytes : ¬ (length s ≡ 0)
  pub some_bytes' : ¬ (length s' ≡ 0)

module _ {s s' : List ℕ} {m m' : Meta} (pair : Pair s s' m m') {ren : ℕ → ℕ} {On : ℕ → Type 0} (mirror : Mirror (fst_of s m) (fst_of s' m') ren On) where
  pub record Alike (r r' : View) : Type 0 where
    pub own : Own s m r
    pub own' : Own s' m' r'
    pub is : r' ≡ view_there ren (length s') r

  abbrev started_there : Started → Started
  started_there (started r) = started (view_there ren (length s') r)
  started_there (Started.refused n) = Started.refused n

  sought_there_lem : (hi : Bound) (e : Option ℕ) (w : Sought) → started_at s' hi e (sought_there mirror w) ≡ started_there (started_at s hi e w)
  sought_there_lem hi e (got ls) = refl
  sought_there_lem hi e (Sought.halted n) = refl

  cond_there : (c : Bool) (x y x' y' : Started) → x' ≡ started_there x → y' ≡ started_there y → cond c x' y' ≡ started_there (cond c x y)
  cond_there true x y x' y' h k = h
  cond_there false x y x' y' h k = k

  start_there : (lo hi : Bound) → start s' lo hi ≡ started_there (start s lo hi)
  unfolding start
  start_there lo hi =
      rw (pair.opens, pair.opens', ne_eqb (length s) 0 pair.some_bytes, ne_eqb (length s') 0 pair.some_bytes')
      (cond_there (bounds_test lo hi) _ _ _ _
      (ap₂ (started_at s' hi) (pending_there mirror lo)
      (ap (λ (a : ℕ). seek (fst_of s' m') (is_inclusive lo) a 0 0 [] (bound_bytes lo)) (sym mirror.root_is)
      ∙ seek_there mirror (is_inclusive lo) (bound_bytes lo) m.root 0 0 [] mirror.root_on)
      ∙ sought_there_lem hi (pending_at lo (node_in (fst_of s m) m.root)) (seek (fst_of s m) (is_inclusive lo) m.root 0 0 [] (bound_bytes lo)))
      refl)

  pub alike_start : (lo hi : Bound) (r r' : View) → start s lo hi ≡ started r → start s' lo hi ≡ started r' → Alike r r'
  alike_start lo hi r r' is is' =
      let both : started (view_there ren (length s') r) ≡ started r' = sym (ap started_there is) ∙ sym (start_there lo hi) ∙ is' in
      let same : view_there ren (length s') r ≡ r' = cc in
      record { own = start_own s m pair.opens lo hi r is; own' = start_own s' m' pair.opens' lo hi r' is'; is = sym same }

  -- ---- a call

  call_there : (r r' : View) → Alike r r' → (c : Call s) (c' : Call s') → Allowed c → Allowed c' → call r' c' ≡ step_there mirror (length s') (call r c)
  call_there r r' a c c' h h' =
      call_walks s' m' pair.opens' r' a.own' c' h'
      ∙ ap (λ (v : View). walk (fst_of s' m') v v.empty) a.is
      ∙ walk_there mirror (length s') r a.own.levels_le a.own.path r.empty
      ∙ ap (step_there mirror (length s')) (sym (call_walks s m pair.opens r a.own c h))

  pub alike_answer : (r r' : View) → Alike r r' → (c : Call s) (c' : Call s') → Allowed c → Allowed c' → (call r' c').answer ≡ (call r c).answer
  alike_answer r r' a c c' h h' = ap (λ (o : Step). o.answer) (call_there r r' a c c' h h')

  call_is_lem : (r r' : View) → Alike r r' → (c : Call s) (c' : Call s') → Same c c' → (call r' c').reading ≡ view_there ren (length s') (call r c).reading
  call_is_lem r r' a c c' (both_allowed h h') = ap (λ (o : Step). o.reading) (call_there r r' a c c' h h')
  call_is_lem r r' a c c' (neither_allowed out out') =
      ap (λ (o : Step). o.reading) (call_refused s' m' pair.opens' r' a.own' c' out').1 ∙ a.is
      ∙ ap (λ (o : Step). view_there ren (length s') o.reading) (sym (call_refused s m pair.opens r a.own c out).1)

  alike_call : (r r' : View) → Alike r r' → (c : Call s) (c' : Call s') → Same c c' → Alike (call r c).reading (call r' c').reading
  alike_call r r' a c c' same =
      record { own = call_own s m pair.opens r a.own c; own' = call_own s' m' pair.opens' r' a.own' c'; is = call_is_lem r r' a c c' same }

  pub alike_calls : {cs : List (Call s)} {cs' : List (Call s')} → SameCalls cs cs' → (r r' : View) → Alike r r' → Alike (reading_after r cs) (reading_after r' cs')
  alike_calls no_calls r r' a = a
  alike_calls (and_then {c} {c'} {cs} {cs'} same more) r r' a = alike_calls more (call r c).reading (call r' c').reading (alike_call r r' a c c' same)

  answer_then : (r r' : View) → Alike r r' → (c : Call s) (c' : Call s') → Same c c' → (more : List Answer)
      → unrefused_then (call r' c').answer more ≡ unrefused_then (call r c).answer more
  answer_then r r' a c c' (both_allowed h h') more = ap (λ (x : Answer). unrefused_then x more) (alike_answer r r' a c c' h h')
  answer_then r r' a c c' (neither_allowed out out') more =
      let q = call_refused s m pair.opens r a.own c out in
      let q' = call_refused s' m' pair.opens' r' a.own' c' out' in
      refused_none q'.0 more (ap (λ (o : Step). o.answer) q'.1) ∙ sym (refused_none q.0 more (ap (λ (o : Step). o.answer) q.1))

  pub alike_answers : {cs : List (Call s)} {cs' : List (Call s')} → SameCalls cs cs' → (r r' : View) → Alike r r'
      → unrefused (answers r' cs') ≡ unrefused (answers r cs)
  alike_answers no_calls r r' a = refl
  alike_answers (and_then {c} {c'} {cs} {cs'} same more) r r' a =
      ap (unrefused_then (call r' c').answer) (alike_answers more (call r c).reading (call r' c').reading (alike_call r r' a c c' same))
      ∙ answer_then r r' a c c' same (unrefused (answers (call r c).reading cs))

  -- ---- carrying

  pub alike_carry : (fits : Bool) → fits ≡ true → (r r' : View) → Alike r r' → carry_with fits s s' r ≡ carried r'
  alike_carry fits short r r' a =
      carry_there s s' m m' pair.opens pair.opens' ren mirror.root_is fits short r a.own (images_there mirror r.levels a.own.path) ∙ ap carried (sym a.is)

-- ---- a file and its conversion

placing_written : (whole table file told : List ℕ) (n room entries : ℕ) → placing whole table n room entries ≡ written file told → file ≡ whole
placing_written whole table file told n room entries is = by (leb (length whole) room && leb n entries) is
  where
    by : (c : Bool) → cond c (written whole table) (Conversion.refused SPACE) ≡ written file told → file ≡ whole
    by true e = let q : whole ≡ file = cc in sym q
    by false e = absurd (let z : ◌≡◌ {A = ℕ} 0 1 = cc in omega arith)

-- a conversion that is not refused: the file can be converted, and what is written is its conversion
pub written_convertible : {s : List ℕ} (A : Admitted s) (limit room entries : ℕ) (file table : List ℕ) → ((i : ℕ) → get_or s i 0 < 256) → limit ≤ max_len
    → conversion limit A room entries ≡ written file table → Convertible A × (file ≡ converted A)
unfolding conversion
written_convertible {s} A limit room entries file table bytes le is = by (eqb A.meta.version 1) refl (ltb limit (length (converted A))) refl is
  where
    by : (v : Bool) → eqb A.meta.version 1 ≡ v → (l : Bool) → ltb limit (length (converted A)) ≡ l
        → cond v (cond l (Conversion.refused LARGE) (placing (converted A) (table_of A) (length s) room entries)) (Conversion.refused EDITION) ≡ written file table
        → Convertible A × (file ≡ converted A)
    by true ev true el e = absurd (let z : ◌≡◌ {A = ℕ} 0 1 = cc in omega arith)
    by true ev false el e = (
      record { version_is = eqb-true A.meta.version 1 ev; bytes = bytes; small = omega (arith, ltb-false limit (length (converted A)) el) },
      placing_written (converted A) (table_of A) file table (length s) room entries e,
    )
    by false ev l el e = absurd (let z : ◌≡◌ {A = ℕ} 0 1 = cc in omega arith)

pub after_append : {s : List ℕ} (r : View) (cs ds : List (Call s)) → reading_after r (cs ++ ds) ≡ reading_after (reading_after r cs) ds
after_append r [] ds = refl
after_append r (c ∷ cs) ds = after_append (call r c).reading cs ds

module _ {s : List ℕ} (A : Admitted s) (can : Convertible A) where
  has_bytes : 0 < length s
  has_bytes = old_has_bytes A can.version_is

  pub new_admitted : Admitted (converted A)
  new_admitted = converted_admitted A has_bytes can.bytes can.small

  pub same_contents : SameContents A new_admitted
  same_contents = converted_holds A has_bytes can.bytes can.small new_admitted

  -- the same keys with the same values
  pub held_new : (k : List ℕ) (v : ℕ) → Held (old_fst A) k v → Held (new_fst A) k v
  held_new k v h = (held_both A has_bytes can.bytes can.small k v).0 h

  pub held_old : (k : List ℕ) (v : ℕ) → Held (new_fst A) k v → Held (old_fst A) k v
  held_old k v h = (held_both A has_bytes can.bytes can.small k v).1 h

  -- what is shown of every two files of which the one mirrors the other holds of a file and its conversion
  pub by_mirror : (P : Type 0)
      → ((On : ℕ → Type 0) → Mirror (fst_of s A.meta) (fst_of (converted A) new_admitted.meta) (moved_to A) On → P) → P
  by_mirror P shown = go (vanishes (node_in (old_fst A) A.meta.root)) refl
    where
      go : (t : Bool) → vanishes (node_in (old_fst A) A.meta.root) ≡ t → P
      go true gone = shown (λ a. a ≡ A.meta.root) (subst (λ (g : Fst). Mirror (old_fst A) g (moved_to A) (λ a. a ≡ A.meta.root)) same_contents.file (mirrors_vanished A has_bytes gone))
      go false kept = shown (OnChain A) (subst (λ (g : Fst). Mirror (old_fst A) g (moved_to A) (OnChain A)) same_contents.file (mirrors_kept A has_bytes kept can.bytes can.small))

  pub pair_own : Pair s (converted A) A.meta new_admitted.meta
  pair_own = record {
    opens = A.opens;
    opens' = new_admitted.opens;
    some_bytes = λ z. omega (arith, has_bytes);
    some_bytes' = λ z. omega (arith, length_converted A has_bytes);
  }

  module _ (lo hi : Bound) (short_lo : length (bound_bytes lo) ≤ max_path) (short_hi : length (bound_bytes hi) ≤ max_path) where
    abbrev pub old_start : View
    old_start = reading₀ A lo hi short_lo short_hi

    abbrev pub new_start : View
    new_start = reading₀ new_admitted lo hi short_lo short_hi

    pub old_started : start s lo hi ≡ started old_start
    old_started = start_given A lo hi short_lo short_hi

    pub new_started : start (converted A) lo hi ≡ started new_start
    new_started = start_given new_admitted lo hi short_lo short_hi

    limit_on : (cs ds : List (Call (converted A))) (c : Call (converted A)) (n : ℕ) → ((k : List ℕ) (v : ℕ) → Held (old_fst A) k v → length k ≤ n)
        → followed (reading_after (reading_after new_start cs) ds) c ≤ n
    limit_on cs ds c n long =
        let D = demand_3 new_admitted lo hi short_lo short_hi ((cs ++ ds) ++ (c ∷ [])) in
        let starts = D.starts in
        let given = new_started in
        let same : D.reading ≡ new_start = cc in
        subst (λ (r : View). followed r c ≤ n) (ap (λ (r : View). reading_after r (cs ++ ds)) same ∙ after_append new_start cs ds)
        (D.limit (cs ++ ds) [] c refl n (λ k v h. long k v (same_contents.back k v h)))

    module _ (cs : List (Call s)) (cs' : List (Call (converted A))) (same : SameCalls cs cs') where
      abbrev stayed : View
      stayed = reading_after old_start cs

      abbrev moved_on : View
      moved_on = reading_after new_start cs'

      module _ (On : ℕ → Type 0) (mirror : Mirror (fst_of s A.meta) (fst_of (converted A) new_admitted.meta) (moved_to A) On) where
        alike_own : Alike pair_own mirror stayed moved_on
        alike_own = alike_calls pair_own mirror same old_start new_start (alike_start pair_own mirror lo hi old_start new_start old_started new_started)

        carries_by : carry s (converted A) stayed ≡ carried moved_on
        carries_by = alike_carry pair_own mirror true refl stayed moved_on alike_own

        goes_by : (ds : List (Call s)) (ds' : List (Call (converted A))) → SameCalls ds ds' → GoesOn A stayed moved_on ds ds'
        goes_by ds ds' more =
            let a = alike_calls pair_own mirror more stayed moved_on alike_own in
            record {
              answers_same = alike_answers pair_own mirror more stayed moved_on alike_own;
              each_call = λ c c' h h'. alike_answer pair_own mirror (reading_after stayed ds) (reading_after moved_on ds') a c c' h h';
              total_same = ap (λ (v : View). v.total) a.is;
              limit = λ c' n long. limit_on cs' ds' c' n long;
            }

      pub carries_at : carry s (converted A) (reading_after old_start cs) ≡ carried (reading_after new_start cs')
      carries_at = by_mirror (carry s (converted A) stayed ≡ carried moved_on) carries_by

      pub goes_at : (ds : List (Call s)) (ds' : List (Call (converted A))) → SameCalls ds ds' → GoesOn A (reading_after old_start cs) (reading_after new_start cs') ds ds'
      goes_at ds ds' more = by_mirror (GoesOn A stayed moved_on ds ds') (λ On mirror. goes_by On mirror ds ds' more)

      -- the claim: the carried reading is the one that the same calls on the new file would have left
      pub carry_own : CarryOwn A lo hi cs cs'
      carry_own = record {
        reading = old_start;
        starts = old_started;
        new_reading = new_start;
        new_starts = new_started;
        carries = carries_at;
        goes_on = goes_at;
      }
