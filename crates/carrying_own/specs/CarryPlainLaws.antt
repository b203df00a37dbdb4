-- `carry_own` of plain readings: the number of keys to come is carried too, and stays true (document 02, N8 and N11).
--     same_append              the same calls, and then the same calls
--     carry_own_plain          the claim
--     carry_keeps_count        the carried number is that of the new file's held keys still to come
--     carry_self_plain         to the file itself
-- Assumes nothing.
use Rattle.std.specs.Prelude.{◌≡◌, refl, true, ℕ, ◌≤◌, eqb, length}
use Rattle.std.proofs.Common.{sym, ap, ap₂, ◌∙◌, subst}
use mathlib.Core.List.{List, [], ◌∷◌, ◌++◌, append_assoc, append-nil, Memᴰ}
use Rattle.format.specs.Limits.{max_path}
use Rattle.format.specs.Opening.{Meta, opened, opening}
use Rattle.format.specs.Paths.{Fst, fst_of, Held}
use Rattle.format.specs.Admitted.{Admitted}
use Rattle.format.specs.Strings.{Bound, Between, NumberOf}
use Rattle.format.specs.Laws.NumberOfLaws.{number_iff, number_unique}
use Rattle.reading.specs.Reading.{bound_bytes, View, start, started, Answer, key, end}
use Rattle.reading.specs.Demand.{Call, call, reading_after, answers, unrefused, followed, Entry, entry, handed_in, Demand3}
use Rattle.reading.proofs.DemandLaws.{reading₀, start_given}
use Rattle.plain.specs.Numbers.{TableFits}
use Rattle.plain.specs.Plain.{Plain, plain_with, start_plain, begun, PlainStep, counting, call_plain, plain_after, answers_plain}
use Rattle.plain.specs.PlainDemand.{keys_out, StillToCome, DemandPlain}
use Rattle.plain.proofs.PlainLaws.{right, start_numbered, demand_3_plain}
use Rattle.plain.proofs.PlainRunLaws.{plain_started}
use Rattle.converting.specs.Converting.{converted}
use Rattle.converting.specs.Converted.{old_fst, new_fst}
use Rattle.carrying.specs.Carry.{Carried, carried, carry, CarriedPlain, with_keys, carry_plain}
use Rattle.carrying_own.specs.LevelsPath.{Own}
use Rattle.carrying_own.specs.LevelsPathLaws.{on_cond, start_own, call_own}
use Rattle.carrying_own.specs.CarrySelfLaws.{started_opens, self_carried}
use Rattle.carrying_own.specs.CarryOwn.{SameCalls, no_calls, and_then, Convertible, GoesOn, CarryOwn, GoesOnPlain, CarryOwnPlain, KeepsCount}
use Rattle.carrying_own.specs.CarryOwnLaws.{after_append, new_admitted, same_contents, held_new, held_old, new_start, twin_calls, carries_at, goes_at}

pub same_append : {s s' : List ℕ} {cs ds : List (Call s)} {cs' ds' : List (Call s')} → SameCalls cs cs' → SameCalls ds ds' → SameCalls (cs ++ ds) (cs' ++ ds')
same_append no_calls more = more
same_append (and_then same rest) more = and_then same (same_append rest more)

-- ---- keys handed out, and lists of calls

handed_unrefused : (xs : List Answer) → handed_in (unrefused xs) ≡ handed_in xs
handed_unrefused [] = refl
handed_unrefused (key k v ∷ xs) = ap (λ (es : List Entry). entry k v ∷ es) (handed_unrefused xs)
handed_unrefused (end ∷ xs) = handed_unrefused xs
handed_unrefused (Answer.refused n ∷ xs) = handed_unrefused xs

plain_append : {s : List ℕ} (q : Plain) (cs ds : List (Call s)) → plain_after q (cs ++ ds) ≡ plain_after (plain_after q cs) ds
plain_append q [] ds = refl
plain_append q (c ∷ cs) ds = plain_append (call_plain q c).reading cs ds

-- every call of a plain reading answers as it would without the number
answers_on : {s : List ℕ} (q : Plain) (r : View)
    → ((cs : List (Call s)) → (plain_after q cs).view ≡ reading_after r cs)
    → ((cs : List (Call s)) (d : Call s) → (call_plain (plain_after q cs) d).answer ≡ (call (reading_after r cs) d).answer)
    → (ds cs : List (Call s)) → answers_plain (plain_after q cs) ds ≡ answers (reading_after r cs) ds
answers_on q r views each [] cs = refl
answers_on q r views each (d ∷ ds) cs =
    ap₂ ◌∷◌ (each cs d)
    (ap (λ (p : Plain). answers_plain p ds) (sym (plain_append q cs (d ∷ []))) ∙ answers_on q r views each ds (cs ++ (d ∷ []))
    ∙ ap (λ (v : View). answers v ds) (after_append r cs (d ∷ [])))

-- a plain reading stays its file's own, on any file that opens
module _ (s : List ℕ) (m : Meta) (opens : opening s ≡ opened m) where
  counting_own : (q : Plain) (r : View) (a : Answer) → Own s m q.view → Own s m r → Own s m (counting q r a).reading.view
  counting_own q r (key k v) o o' = on_cond (λ (w : PlainStep). Own s m w.reading.view) (eqb q.keys 0) _ _ (λ _. o) (λ _. o')
  counting_own q r end o o' = o'
  counting_own q r (Answer.refused n) o o' = o'

  pub plain_own : (cs : List (Call s)) (q : Plain) → Own s m q.view → Own s m (plain_after q cs).view
  plain_own [] q o = o
  plain_own (c ∷ cs) q o = plain_own cs (call_plain q c).reading (counting_own q (call q.view c).reading (call q.view c).answer o (call_own s m opens q.view o c))

-- ---- a plain reading of an admitted file, and the reading without the number

module _ {s : List ℕ} (A : Admitted s) (lo hi : Bound) (short_lo : length (bound_bytes lo) ≤ max_path) (short_hi : length (bound_bytes hi) ≤ max_path)
    (counts : List ℕ) (long : length s ≤ length counts) (fits : TableFits (fst_of s A.meta) lo hi counts) where
  abbrev view₀ : View
  view₀ = reading₀ A lo hi short_lo short_hi

  abbrev pub plain₀ : Plain
  plain₀ = plain_with (reading₀ A lo hi short_lo short_hi) (right A lo hi short_lo short_hi counts long fits).keys

  demand : (cs : List (Call s)) → DemandPlain A lo hi counts cs
  demand cs = demand_3_plain A lo hi short_lo short_hi counts long fits cs

  plain_is_lem : (cs : List (Call s)) → (demand cs).reading ≡ plain₀
  plain_is_lem cs =
      let given = start_numbered A lo hi short_lo short_hi counts long fits in
      let starts = (demand cs).starts in
      cc

  view_is_lem : (cs : List (Call s)) → (demand cs).demand.reading ≡ view₀
  view_is_lem cs = sym (demand cs).same_reading ∙ ap (λ (q : Plain). q.view) (plain_is_lem cs)

  views_on : (cs : List (Call s)) → (plain_after plain₀ cs).view ≡ reading_after view₀ cs
  views_on cs =
      ap (λ (q : Plain). (plain_after q cs).view) (sym (plain_is_lem cs)) ∙ (demand cs).same_readings ∙ ap (λ (v : View). reading_after v cs) (view_is_lem cs)

  calls_on : (cs : List (Call s)) (d : Call s) → (call_plain (plain_after plain₀ cs) d).answer ≡ (call (reading_after view₀ cs) d).answer
  calls_on cs d =
      ap (λ (q : Plain). (call_plain (plain_after q cs) d).answer) (sym (plain_is_lem cs)) ∙ (demand cs).same_call d
      ∙ ap (λ (v : View). (call (reading_after v cs) d).answer) (view_is_lem cs)

  answers_at : (cs ds : List (Call s)) → answers_plain (plain_after plain₀ cs) ds ≡ answers (reading_after view₀ cs) ds
  answers_at cs ds = answers_on plain₀ view₀ views_on calls_on ds cs

  number_on : (cs : List (Call s)) → NumberOf (StillToCome (fst_of s A.meta) lo hi (keys_out (handed_in (answers view₀ cs)))) (plain_after plain₀ cs).keys
  number_on cs =
      subst (λ (xs : List Answer). NumberOf (StillToCome (fst_of s A.meta) lo hi (keys_out (handed_in xs))) (plain_after plain₀ cs).keys) (answers_at [] cs)
      (subst (λ (q : Plain). NumberOf (StillToCome (fst_of s A.meta) lo hi (keys_out (handed_in (answers_plain q cs)))) (plain_after q cs).keys) (plain_is_lem cs)
      (demand cs).keys_to_come)

-- ---- the number stays true

module _ {s : List ℕ} (A : Admitted s) (can : Convertible A) (lo hi : Bound) (short_lo : length (bound_bytes lo) ≤ max_path) (short_hi : length (bound_bytes hi) ≤ max_path)
    (counts : List ℕ) (long : length s ≤ length counts) (fits : TableFits (fst_of s A.meta) lo hi counts) where
  abbrev from : Plain
  from = plain₀ A lo hi short_lo short_hi counts long fits

  -- both files hold the same keys
  count_kept : (cs : List (Call s)) → NumberOf (StillToCome (new_fst A) lo hi (keys_out (handed_in (answers from.view cs)))) (plain_after from cs).keys
  count_kept cs =
      number_iff (StillToCome (old_fst A) lo hi (keys_out (handed_in (answers from.view cs))))
      (StillToCome (new_fst A) lo hi (keys_out (handed_in (answers from.view cs)))) (plain_after from cs).keys
      (λ k h. (h.0, held_new A can k h.0 h.1, h.2, h.3)) (λ k h. (h.0, held_old A can k h.0 h.1, h.2, h.3))
      (number_on A lo hi short_lo short_hi counts long fits cs)

  pub carry_keeps_count : (cs : List (Call s)) → KeepsCount A lo hi counts cs
  carry_keeps_count cs =
      let twin = twin_calls (converted A) cs in
      record {
        reading = from;
        starts = start_numbered A lo hi short_lo short_hi counts long fits;
        to = plain_with (reading_after (new_start A can lo hi short_lo short_hi) twin.0) (plain_after from cs).keys;
        carries =
            ap (with_keys (plain_after from cs).keys)
            (ap (carry s (converted A)) (views_on A lo hi short_lo short_hi counts long fits cs) ∙ carries_at A can lo hi short_lo short_hi cs twin.0 twin.1);
        number =
            subst (λ (xs : List Answer). NumberOf (StillToCome (new_fst A) lo hi (keys_out (handed_in xs))) (plain_after from cs).keys)
            (sym (answers_at A lo hi short_lo short_hi counts long fits [] cs)) (count_kept cs);
      }

-- ---- a file and its conversion

module _ {s : List ℕ} (A : Admitted s) (can : Convertible A) (lo hi : Bound) (short_lo : length (bound_bytes lo) ≤ max_path) (short_hi : length (bound_bytes hi) ≤ max_path)
    (counts counts' : List ℕ) (long : length s ≤ length counts) (long' : length (converted A) ≤ length counts')
    (fits : TableFits (fst_of s A.meta) lo hi counts) (fits' : TableFits (fst_of (converted A) (new_admitted A can).meta) lo hi counts') where
  abbrev B : Admitted (converted A)
  B = new_admitted A can

  abbrev old : Plain
  old = plain₀ A lo hi short_lo short_hi counts long fits

  abbrev new : Plain
  new = plain₀ B lo hi short_lo short_hi counts' long' fits'

  abbrev old_view : View
  old_view = old.view

  abbrev new_view : View
  new_view = new.view

  module _ {cs : List (Call s)} {cs' : List (Call (converted A))} (same : SameCalls cs cs') where
    handed_same : handed_in (answers new_view cs') ≡ handed_in (answers old_view cs)
    handed_same =
        sym (handed_unrefused (answers new_view cs')) ∙ ap handed_in (goes_at A can lo hi short_lo short_hi [] [] no_calls cs cs' same).answers_same
        ∙ handed_unrefused (answers old_view cs)

    keys_kept : (plain_after new cs').keys ≡ (plain_after old cs).keys
    keys_kept =
        number_unique (StillToCome (new_fst A) lo hi (keys_out (handed_in (answers old_view cs)))) (plain_after new cs').keys (plain_after old cs).keys
        (subst (λ (f : Fst). NumberOf (StillToCome f lo hi (keys_out (handed_in (answers old_view cs)))) (plain_after new cs').keys) (sym (same_contents A can).file)
        (subst (λ (es : List Entry). NumberOf (StillToCome (fst_of (converted A) B.meta) lo hi (keys_out es)) (plain_after new cs').keys) handed_same
        (number_on B lo hi short_lo short_hi counts' long' fits' cs')))
        (count_kept A can lo hi short_lo short_hi counts long fits cs)

  -- every plain reading is its view with its number
  plain_with_lem : (q : Plain) (v : View) (n : ℕ) → q.view ≡ v → q.keys ≡ n → plain_with v n ≡ q
  plain_with_lem q v n is keys = ap₂ plain_with (sym is) (sym keys)

  carries_plain : {cs : List (Call s)} {cs' : List (Call (converted A))} → SameCalls cs cs'
      → carry_plain s (converted A) (plain_after old cs) ≡ CarriedPlain.carried (plain_after new cs')
  carries_plain {cs} {cs'} same =
      ap (with_keys (plain_after old cs).keys)
      (ap (carry s (converted A)) (views_on A lo hi short_lo short_hi counts long fits cs) ∙ carries_at A can lo hi short_lo short_hi cs cs' same)
      ∙ ap CarriedPlain.carried
      (plain_with_lem (plain_after new cs') (reading_after new_view cs') (plain_after old cs).keys (views_on B lo hi short_lo short_hi counts' long' fits' cs') (keys_kept same))

  goes_plain : (cs : List (Call s)) (cs' : List (Call (converted A))) → SameCalls cs cs' → (ds : List (Call s)) (ds' : List (Call (converted A))) → SameCalls ds ds'
      → GoesOnPlain A (plain_after old cs) (plain_after new cs') ds ds'
  goes_plain cs cs' same ds ds' more =
      let g = goes_at A can lo hi short_lo short_hi cs cs' same ds ds' more in
      let all = goes_at A can lo hi short_lo short_hi (cs ++ ds) (cs' ++ ds') (same_append same more) [] [] no_calls in
      let old_is = plain_append old cs ds in
      let New-is = plain_append new cs' ds' in
      let old_view_is = views_on A lo hi short_lo short_hi counts long fits (cs ++ ds) in
      let new_view_is = views_on B lo hi short_lo short_hi counts' long' fits' (cs' ++ ds') in
      record {
        answers_same =
            ap unrefused (answers_at B lo hi short_lo short_hi counts' long' fits' cs' ds') ∙ g.answers_same
            ∙ ap unrefused (sym (answers_at A lo hi short_lo short_hi counts long fits cs ds));
        each_call = λ c c' h h'.
            ap (λ (q : Plain). (call_plain q c').answer) (sym New-is) ∙ calls_on B lo hi short_lo short_hi counts' long' fits' (cs' ++ ds') c' ∙ all.each_call c c' h h'
            ∙ sym (calls_on A lo hi short_lo short_hi counts long fits (cs ++ ds) c) ∙ ap (λ (q : Plain). (call_plain q c).answer) old_is;
        total_same =
            ap (λ (q : Plain). q.view.total) (sym New-is) ∙ ap (λ (v : View). v.total) new_view_is ∙ all.total_same ∙ ap (λ (v : View). v.total) (sym old_view_is)
            ∙ ap (λ (q : Plain). q.view.total) old_is;
        keys_same = ap (λ (q : Plain). q.keys) (sym New-is) ∙ keys_kept (same_append same more) ∙ ap (λ (q : Plain). q.keys) old_is;
        limit = λ c' n most.
            subst (λ (v : View). followed v c' ≤ n) (sym new_view_is ∙ ap (λ (q : Plain). q.view) New-is) (all.limit c' n most);
      }

  pub carry_own_plain : (cs : List (Call s)) (cs' : List (Call (converted A))) → SameCalls cs cs' → CarryOwnPlain A lo hi counts counts' cs cs'
  carry_own_plain cs cs' same = record {
    reading = old;
    starts = start_numbered A lo hi short_lo short_hi counts long fits;
    new_reading = new;
    new_starts = start_numbered B lo hi short_lo short_hi counts' long' fits';
    carries = carries_plain same;
    goes_on = goes_plain cs cs' same;
  }

-- ---- a file to itself

pub carry_self_plain : (s : List ℕ) (lo hi : Bound) (counts : List ℕ) (q : Plain) → start_plain s lo hi counts ≡ begun q → (cs : List (Call s))
    → carry_plain s s (plain_after q cs) ≡ CarriedPlain.carried (plain_after q cs)
carry_self_plain s lo hi counts q is cs =
    let r = plain_started s lo hi counts q is in
    let o = started_opens s lo hi q.view r in
    ap (with_keys (plain_after q cs).keys)
    (self_carried s o.0 o.1 true refl (plain_after q cs).view (plain_own s o.0 o.1 cs q (start_own s o.0 o.1 lo hi q.view r)))
