-- Ascending lists of visits cut in two, whatever the strings are that are begun and the keys that are handed out: the sentences of demand 3
-- about one ascending list, for plain and for patterned readings.
--     FactsOf Begun Out lo W e₀     W are the strings begun that meet the lower bound, each a key where it is handed out; e₀ is the pending empty key
--     Cut, cut-..                   the visits taken and those to come
-- Assumes nothing.
use Prim.{tt}
use Rattle.std.specs.Prelude.{◌≡◌, refl, Bool, true, false, cond, ◌⊎◌, ℕ, length}
use Rattle.std.proofs.Common.{sym, ◌∙◌, ap, ⊎_elim, inl, inr, arith}
use Rattle.std.proofs.Math.Option.{Option, none, some}
use mathlib.Core.List.{List, [], ◌∷◌, ◌++◌, map, append_assoc, Memᴰ}
use Rattle.std.proofs.lemmas.List.{length-map}
use Rattle.format.specs.Strings.{Before, Bound, MeetsLower, Between, AllAfter, Rising, NumberOf}
use Rattle.format.specs.Laws.StringLaws.{before_irrefl, before_trans}
use Rattle.reading.specs.Reading.{passes_test}
use Rattle.reading.proofs.BoundLaws.{decides_passes}
use Rattle.reading.specs.Visits.{Visit, AllV, RisingV}
use Rattle.reading.proofs.VisitLaws.{before_full, all_mem}
use Rattle.reading.specs.Demand.{Entry, entry, NotAfterLast}
use Rattle.reading.proofs.ProgressLaws.{entries_of, entries_append, entries_one, LastFinal, no_visit, last_visit, Pre, no_empty, empty_key}

pub none_some : {v : ℕ} → ¬ (◌≡◌ {A = Option ℕ} none (some v))
none_some e = let z : ◌≡◌ {A = ℕ} 0 1 = cc in omega arith

pub some_same : {v w : ℕ} → ◌≡◌ {A = Option ℕ} (some v) (some w) → v ≡ w
some_same e = cc

pub record FactsOf (Begun : List ℕ → Type 0) (Out : List ℕ → ℕ → Type 0) (lo : Bound) (W : List Visit) (e₀ : Option ℕ) : Type 0 where
  pub rising : RisingV W
  pub full : (v : Visit) → Memᴰ v W → ¬ (v.key ≡ [])
  pub begins : (v : Visit) → Memᴰ v W → Begun v.key
  pub meets : (v : Visit) → Memᴰ v W → MeetsLower lo v.key
  pub whole : (x : List ℕ) → Begun x → MeetsLower lo x → (v : Visit) × Memᴰ v W × (v.key ≡ x)
  pub held : (v : Visit) → Memᴰ v W → v.final ≡ true → Out v.key v.value
  pub keys : (k : List ℕ) (w : ℕ) → Out k w → ¬ (k ≡ []) → MeetsLower lo k → Memᴰ (record { key = k; value = w; final = true }) W
  pub empty_held : (v : ℕ) → e₀ ≡ some v → Out [] v × MeetsLower lo []
  pub empty_pending : (v : ℕ) → Out [] v → MeetsLower lo [] → e₀ ≡ some v

-- ---- ascending lists of visits, cut in two

rising_cut : (xs ys : List Visit) → RisingV (xs ++ ys) → (v w : Visit) → Memᴰ v xs → Memᴰ w ys → Before v.key w.key
rising_cut [] ys h v w mv mw = absurd (mathlib.Core.List.Memᴰ.not-nil mv)
rising_cut (x ∷ xs) ys h v w mv mw =
    ⊎_elim
    (λ (e : v ≡ x). rw e (all_mem (λ y. Before x.key y.key) (xs ++ ys) h.0 w (mathlib.Core.List.Memᴰ.append_right xs mw)))
    (λ (on : Memᴰ v xs). rising_cut xs ys h.1 v w on mw)
    (mathlib.Core.List.Memᴰ.cases_cons mv)

pub rising_left : (xs ys : List Visit) → RisingV (xs ++ ys) → RisingV xs
rising_left [] ys h = tt
rising_left (x ∷ xs) ys h = (left xs h.0, rising_left xs ys h.1)
  where
    left : (zs : List Visit) → AllV (λ y. Before x.key y.key) (zs ++ ys) → AllV (λ y. Before x.key y.key) zs
    left [] g = tt
    left (z ∷ zs) g = (g.0, left zs g.1)

-- the strings of visits
abbrev keys_in : List Visit → List (List ℕ)
keys_in vs = map (λ (v : Visit). v.key) vs

keys_after : (k : List ℕ) (vs : List Visit) → AllV (λ v. Before k v.key) vs → AllAfter k (keys_in vs)
keys_after k [] h = tt
keys_after k (v ∷ vs) h = (h.0, keys_after k vs h.1)

keys_rising : (vs : List Visit) → RisingV vs → Rising (keys_in vs)
keys_rising [] h = tt
keys_rising (v ∷ vs) h = (keys_after v.key vs h.0, keys_rising vs h.1)

keys_mem : (vs : List Visit) (x : List ℕ) → Memᴰ x (keys_in vs) → (v : Visit) × Memᴰ v vs × (v.key ≡ x)
keys_mem [] x on = absurd (mathlib.Core.List.Memᴰ.not-nil on)
keys_mem (v ∷ vs) x on =
    ⊎_elim
    (λ (e : x ≡ v.key). (v, mathlib.Core.List.Memᴰ.head refl, sym e))
    (λ (h : Memᴰ x (keys_in vs)). let w = keys_mem vs x h in (w.0, mathlib.Core.List.Memᴰ.tail w.1, w.2))
    (mathlib.Core.List.Memᴰ.cases_cons on)

mem_keys : (vs : List Visit) (v : Visit) (x : List ℕ) → Memᴰ v vs → v.key ≡ x → Memᴰ x (keys_in vs)
mem_keys [] v x on e = absurd (mathlib.Core.List.Memᴰ.not-nil on)
mem_keys (w ∷ vs) v x on e =
    ⊎_elim
    (λ (q : v ≡ w). mathlib.Core.List.Memᴰ.head (sym e ∙ ap (λ (y : Visit). y.key) q))
    (λ (h : Memᴰ v vs). mathlib.Core.List.Memᴰ.tail (mem_keys vs v x h e))
    (mathlib.Core.List.Memᴰ.cases_cons on)

-- the keys among visits
abbrev Source : Entry → List Visit → Type 0
Source e vs = (v : Visit) × Memᴰ v vs × (v.final ≡ true) × (e ≡ entry v.key v.value)

entries_mem : (vs : List Visit) (e : Entry) → Memᴰ e (entries_of vs) → Source e vs
entries_mem [] e on = absurd (mathlib.Core.List.Memᴰ.not-nil on)
entries_mem (v ∷ vs) e on = by v.final refl (λ h. entries_mem vs e h) on
  where
    later : Source e vs → Source e (v ∷ vs)
    later w = (w.0, mathlib.Core.List.Memᴰ.tail w.1, w.2, w.3)

    by : (b : Bool) → v.final ≡ b → (Memᴰ e (entries_of vs) → Source e vs) → Memᴰ e (cond b (entry v.key v.value ∷ entries_of vs) (entries_of vs))
        → Source e (v ∷ vs)
    by true eb ih h = ⊎_elim (λ (q : e ≡ entry v.key v.value). (v, mathlib.Core.List.Memᴰ.head refl, eb, q)) (λ g. later (ih g)) (mathlib.Core.List.Memᴰ.cases_cons h)
    by false eb ih h = later (ih h)

mem_entries : (vs : List Visit) (v : Visit) → Memᴰ v vs → v.final ≡ true → Memᴰ (entry v.key v.value) (entries_of vs)
mem_entries [] v on fin = absurd (mathlib.Core.List.Memᴰ.not-nil on)
mem_entries (w ∷ vs) v on fin =
    ⊎_elim
    (λ (q : v ≡ w). let f : w.final ≡ true = ap (λ (y : Visit). y.final) (sym q) ∙ fin in rw (f, q) (mathlib.Core.List.Memᴰ.head refl))
    (λ (h : Memᴰ v vs). by w.final (mem_entries vs v h fin))
    (mathlib.Core.List.Memᴰ.cases_cons on)
  where
    by : (b : Bool) → Memᴰ (entry v.key v.value) (entries_of vs)
        → Memᴰ (entry v.key v.value) (cond b (entry w.key w.value ∷ entries_of vs) (entries_of vs))
    by true h = mathlib.Core.List.Memᴰ.tail h
    by false h = h

abbrev pub keys_out : List Entry → List (List ℕ)
keys_out es = map (λ (e : Entry). e.key) es

entries_after : (k : List ℕ) (vs : List Visit) → AllV (λ v. Before k v.key) vs → AllAfter k (keys_out (entries_of vs))
entries_after k [] h = tt
entries_after k (v ∷ vs) h = by v.final (entries_after k vs h.1)
  where
    by : (b : Bool) → AllAfter k (keys_out (entries_of vs)) → AllAfter k (keys_out (cond b (entry v.key v.value ∷ entries_of vs) (entries_of vs)))
    by true g = (h.0, g)
    by false g = g

entries_rising : (vs : List Visit) → RisingV vs → Rising (keys_out (entries_of vs))
entries_rising [] h = tt
entries_rising (v ∷ vs) h = by v.final (entries_rising vs h.1)
  where
    by : (b : Bool) → Rising (keys_out (entries_of vs)) → Rising (keys_out (cond b (entry v.key v.value ∷ entries_of vs) (entries_of vs)))
    by true g = (entries_after v.key vs h.0, g)
    by false g = g

-- in an ascending list of entries the last comes after every other
pub rising_last : (es : List Entry) (e d : Entry) → Rising (keys_out (es ++ (e ∷ []))) → Memᴰ d es → Before d.key e.key
rising_last [] e d h on = absurd (mathlib.Core.List.Memᴰ.not-nil on)
rising_last (x ∷ es) e d h on =
    ⊎_elim
    (λ (q : d ≡ x). rw q (all_last es h.0))
    (λ (g : Memᴰ d es). rising_last es e d h.1 g)
    (mathlib.Core.List.Memᴰ.cases_cons on)
  where
    all_last : (zs : List Entry) → AllAfter x.key (keys_out (zs ++ (e ∷ []))) → Before x.key e.key
    all_last [] g = g.0
    all_last (z ∷ zs) g = all_last zs g.1

-- ---- a cut of the start's visits

pub snoc_not_nil : (es : List Entry) (e : Entry) → ¬ (◌≡◌ {A = List Entry} [] (es ++ (e ∷ [])))
snoc_not_nil [] e q = let z : ◌≡◌ {A = ℕ} 0 1 = cc in omega arith
snoc_not_nil (x ∷ es) e q = let z : ◌≡◌ {A = ℕ} 0 1 = cc in omega arith

-- the last of two lists that are the same
pub snoc_mem : (es : List Entry) (e : Entry) → Memᴰ e (es ++ (e ∷ []))
snoc_mem es e = mathlib.Core.List.Memᴰ.append_right es (mathlib.Core.List.Memᴰ.head refl)

module _ (Begun : List ℕ → Type 0) (Out : List ℕ → ℕ → Type 0) (lo hi : Bound) (W : List Visit) (e₀ : Option ℕ) (F : FactsOf Begun Out lo W e₀) where
  pub record Cut (pre : List Entry) (taken rest : List Visit) : Type 0 where
    pub before : Pre hi e₀ pre
    pub split : W ≡ taken ++ rest
    pub under : AllV (λ v. passes_test hi v.key ≡ false) taken

  pre_held : (pre : List Entry) → Pre hi e₀ pre → (e : Entry) → Memᴰ e pre → (Out e.key e.value × Between lo hi e.key) × (e.key ≡ [])
  pre_held pre (no_empty z) e on = absurd (mathlib.Core.List.Memᴰ.not-nil on)
  pre_held pre (empty_key v is p) e on =
      ⊎_elim
      (λ (q : e ≡ entry [] v). let h = F.empty_held v is in rw q ((h.0, record { meets = h.1; within = (decides_passes hi []).no p }), refl))
      (λ g. absurd (mathlib.Core.List.Memᴰ.not-nil g))
      (mathlib.Core.List.Memᴰ.cases_cons on)

  module _ {pre : List Entry} {taken rest : List Visit} (C : Cut pre taken rest) where
    abbrev handed : List Entry
    handed = pre ++ entries_of taken

    on_left : (v : Visit) → Memᴰ v taken → Memᴰ v W
    on_left v on = rw C.split (mathlib.Core.List.Memᴰ.append_left rest on)

    on_right : (v : Visit) → Memᴰ v rest → Memᴰ v W
    on_right v on = rw C.split (mathlib.Core.List.Memᴰ.append_right taken on)

    between : (v : Visit) → Memᴰ v taken → Between lo hi v.key
    between v on =
        record {
          meets = F.meets v (on_left v on);
          within = (decides_passes hi v.key).no (all_mem (λ x. passes_test hi x.key ≡ false) taken C.under v on);
        }

    rises : RisingV (taken ++ rest)
    rises = rw C.split at F.rising

    pub cut_held : (e : Entry) → Memᴰ e handed → Out e.key e.value × Between lo hi e.key
    cut_held e on =
        ⊎_elim
        (λ (h : Memᴰ e pre). (pre_held pre C.before e h).0)
        (λ (h : Memᴰ e (entries_of taken)).
        let w = entries_mem taken e h in
        rw w.3 (F.held w.0 (on_left w.0 w.1) w.2, between w.0 w.1))
        (mathlib.Core.List.Memᴰ.append_cases pre on)

    pub cut_rising : Rising (keys_out handed)
    cut_rising = by pre C.before
      where
        full : (vs : List Visit) → ((v : Visit) → Memᴰ v vs → Memᴰ v W) → AllV (λ v. Before [] v.key) vs
        full [] h = tt
        full (v ∷ vs) h = (before_full v.key (F.full v (h v (mathlib.Core.List.Memᴰ.head refl))), full vs (λ w on. h w (mathlib.Core.List.Memᴰ.tail on)))

        by : (pre : List Entry) → Pre hi e₀ pre → Rising (keys_out (pre ++ entries_of taken))
        by pre (no_empty z) = entries_rising taken (rising_left taken rest rises)
        by pre (empty_key v is p) = (entries_after [] taken (full taken on_left), entries_rising taken (rising_left taken rest rises))

    -- a held key that meets the lower bound was handed out, or is to come
    cut_find : (k : List ℕ) (v : ℕ) → Out k v → MeetsLower lo k
        → Memᴰ (entry k v) handed ⊎ Memᴰ (record { key = k; value = v; final = true }) rest
    cut_find [] v h meets = by pre C.before
      where
        by : (pre : List Entry) → Pre hi e₀ pre → Memᴰ (entry [] v) (pre ++ entries_of taken) ⊎ Memᴰ (record { key = []; value = v; final = true }) rest
        by pre (no_empty z) = absurd (none_some (sym z ∙ F.empty_pending v h meets))
        by pre (empty_key w is p) =
            let q : w ≡ v = some_same (sym is ∙ F.empty_pending v h meets) in
            inl (rw q (mathlib.Core.List.Memᴰ.head refl))
    cut_find (x ∷ k) v h meets =
        let on = F.keys (x ∷ k) v h (λ e. let z : ◌≡◌ {A = ℕ} 0 1 = cc in omega arith) meets in
        ⊎_elim
        (λ (g : Memᴰ (record { key = x ∷ k; value = v; final = true }) taken). inl (mathlib.Core.List.Memᴰ.append_right pre (mem_entries taken _ g refl)))
        (λ g. inr g)
        (mathlib.Core.List.Memᴰ.append_cases taken (rw C.split at on))

    -- what was handed out comes before what is to come
    cut_before : (e : Entry) → Memᴰ e handed → (w : Visit) → Memᴰ w rest → Before e.key w.key
    cut_before e on w to_come =
        ⊎_elim
        (λ (h : Memᴰ e pre). rw (pre_held pre C.before e h).1 (before_full w.key (F.full w (on_right w to_come))))
        (λ (h : Memᴰ e (entries_of taken)).
        let q = entries_mem taken e h in
        rw q.3 (rising_cut taken rest rises q.0 w q.1 to_come))
        (mathlib.Core.List.Memᴰ.append_cases pre on)

    pub cut_none_left_out : (k : List ℕ) (v : ℕ) → Out k v → Between lo hi k → (e : Entry) → Memᴰ e handed → ¬ Before e.key k → Memᴰ (entry k v) handed
    cut_none_left_out k v h b e on not_after =
        ⊎_elim (λ g. g) (λ g. absurd (not_after (cut_before e on (record { key = k; value = v; final = true }) g))) (cut_find k v h b.meets)

    module _ (past : (w : Visit) → Memᴰ w rest → passes_test hi w.key ≡ true) where
      pub cut_none_left : (k : List ℕ) (v : ℕ) → Out k v → Between lo hi k → Memᴰ (entry k v) handed
      cut_none_left k v h b =
          ⊎_elim (λ g. g)
          (λ g. absurd (b.within ((decides_passes hi k).yes (past (record { key = k; value = v; final = true }) g))))
          (cut_find k v h b.meets)

      pub cut_number : NumberOf (λ x. Begun x × Between lo hi x) (length taken)
      cut_number =
          record {
            strings = keys_in taken;
            rising = keys_rising taken (rising_left taken rest rises);
            such = λ x on. let w = keys_mem taken x on in rw (sym w.2) (F.begins w.0 (on_left w.0 w.1), between w.0 w.1);
            all = λ x h.
                let w = F.whole x h.0 h.1.meets in
                ⊎_elim
                (λ (g : Memᴰ w.0 taken). mem_keys taken w.0 x g w.2)
                (λ (g : Memᴰ w.0 rest). absurd (h.1.within ((decides_passes hi x).yes (rw w.2 at (past w.0 g)))))
                (mathlib.Core.List.Memᴰ.append_cases taken (rw C.split at w.1));
            number = length-map taken (λ (v : Visit). v.key);
          }

    -- the key handed out last is that of the last visit made
    last_entry : (vs : List Visit) (v : Visit) → v.final ≡ true → taken ≡ vs ++ (v ∷ []) → handed ≡ (pre ++ entries_of vs) ++ (entry v.key v.value ∷ [])
    last_entry vs v fin e =
        ap (λ (x : List Visit). pre ++ entries_of x) e
        ∙ ap (λ (r : List Entry). pre ++ r) (entries_append vs (v ∷ []) ∙ ap (λ (r : List Entry). entries_of vs ++ r) (entries_one v fin))
        ∙ sym (append_assoc pre (entries_of vs) (entry v.key v.value ∷ []))

    not_after_last : LastFinal taken → (w : Visit) → Memᴰ w taken → NotAfterLast handed w.key
    not_after_last last w on = by taken last refl on
      where
        by : (ts : List Visit) → LastFinal ts → ts ≡ taken → Memᴰ w ts → NotAfterLast handed w.key
        by ts no_visit e h = absurd (mathlib.Core.List.Memᴰ.not-nil h)
        by ts (last_visit vs v fin) e h =
            record {
              before = pre ++ entries_of vs;
              last = entry v.key v.value;
              is_last = last_entry vs v fin (sym e);
              not_after = λ b.
                  ⊎_elim
                  (λ (g : Memᴰ w vs).
                  before_irrefl w.key (before_trans (rising_cut vs (v ∷ []) (rising_left (vs ++ (v ∷ [])) rest (rw (sym e) at rises)) w v g (mathlib.Core.List.Memᴰ.head refl)) b))
                  (λ (g : Memᴰ w (v ∷ [])).
                  ⊎_elim (λ (q : w ≡ v). before_irrefl w.key (rw (sym q) at b)) (λ z. mathlib.Core.List.Memᴰ.not-nil z) (mathlib.Core.List.Memᴰ.cases_cons g))
                  (mathlib.Core.List.Memᴰ.append_cases vs h);
            }

    pub cut_number_before : LastFinal taken → NumberOf (λ x. (Begun x × Between lo hi x) × NotAfterLast handed x) (length taken)
    cut_number_before last =
        record {
          strings = keys_in taken;
          rising = keys_rising taken (rising_left taken rest rises);
          such = λ x on.
              let w = keys_mem taken x on in
              rw (sym w.2) ((F.begins w.0 (on_left w.0 w.1), between w.0 w.1), not_after_last last w.0 w.1);
          all = λ x h.
              let w = F.whole x h.0.0 h.0.1.meets in
              let l = h.1 in
              ⊎_elim
              (λ (g : Memᴰ w.0 taken). mem_keys taken w.0 x g w.2)
              (λ (g : Memᴰ w.0 rest).
              absurd (l.not_after (rw w.2 at (cut_before l.last (rw l.is_last (snoc_mem l.before l.last)) w.0 g))))
              (mathlib.Core.List.Memᴰ.append_cases taken (rw C.split at w.1));
          number = length-map taken (λ (v : Visit). v.key);
        }

pub rising_right : (xs ys : List Visit) → RisingV (xs ++ ys) → RisingV ys
rising_right [] ys h = h
rising_right (x ∷ xs) ys h = rising_right xs ys h.1
