-- What the viable visits of a start are, in the words of the demand by pattern: `facts_by`.
-- Assumes nothing.
use Prim.{tt}
use Rattle.std.specs.Prelude.{◌≡◌, refl, Bool, true, false, cond, ℕ}
use Rattle.std.proofs.Common.{◌∙◌, ap, subst}
use Rattle.std.proofs.lemmas.Bool.{and_parts}
use Rattle.std.proofs.Math.Option.{Option, none, some}
use mathlib.Core.List.Memᴰ
use mathlib.Core.List.{List, [], ◌∷◌, map, Memᴰ}
use Rattle.format.specs.Paths.{Fst, fst_of, node_in, Held}
use Rattle.format.specs.Admitted.{Admitted}
use Rattle.buffers.specs.DecideLaws.{true_of}
use Rattle.format.specs.Strings.{Before, Bound, MeetsLower}
use Rattle.format.specs.Limits.{max_path}
use Rattle.reading.specs.Reading.{meets_test, pending_at}
use Rattle.reading.specs.Visits.{Visit, below, kept, AllV, RisingV}
use Rattle.reading.proofs.VisitLaws.{kept_mem, mem_kept, kept_rising}
use Rattle.reading.specs.Demand.{BeginsHeld}
use Rattle.reading.proofs.DemandLaws.{Facts, facts}
use Rattle.reading.proofs.CutLaws.{FactsOf, none_some}
use Rattle.pattern.specs.Pattern.{Pattern, Fits, fits_test}
use Rattle.pattern.specs.PatternDemand.{StartFits}
use Rattle.pattern.proofs.ViableLaws.{viable, judged_by}
use Rattle.pattern.proofs.FitLaws.{fits_decides, fits_viable, viable_decides}
use Rattle.pattern.proofs.ProgressByLaws.{fitting}

abbrev pub Begun : Fst → Pattern → List ℕ → Type 0
Begun f p x = BeginsHeld f x × StartFits p x

abbrev pub Out : Fst → Pattern → List ℕ → ℕ → Type 0
Out f p k v = Held f k v × Fits p k

judged_after : (p : Pattern) (k : List ℕ) (vs : List Visit) → AllV (λ w. Before k w.key) vs → AllV (λ w. Before k w.key) (map (judged_by p) vs)
judged_after p k [] h = tt
judged_after p k (v ∷ vs) h = (h.0, judged_after p k vs h.1)

judged_rising : (p : Pattern) (vs : List Visit) → RisingV vs → RisingV (map (judged_by p) vs)
judged_rising p [] h = tt
judged_rising p (v ∷ vs) h = (judged_after p v.key vs h.0, judged_rising p vs h.1)

pub fitting_some : (p : Pattern) (e : Option ℕ) (v : ℕ) → fitting p e ≡ some v → (e ≡ some v) × (fits_test p.positions p.rest [] ≡ true)
fitting_some p none v h = absurd (none_some h)
fitting_some p (some w) v h = by (fits_test p.positions p.rest []) refl h
  where
    by : (b : Bool) → fits_test p.positions p.rest [] ≡ b → cond b (some w) none ≡ some v → (◌≡◌ {A = Option ℕ} (some w) (some v)) × (b ≡ true)
    by true e q = (q, refl)
    by false e q = absurd (none_some q)

module _ (f : Fst) (lo : Bound) (U : List Visit) (pend : Option ℕ) (F : Facts f lo U pend) (p : Pattern) where
  abbrev W : List Visit
  W = map (judged_by p) (kept (viable p) U)

  from : (v : Visit) → Memᴰ v W → (w : Visit) × Memᴰ w U × (viable p w.key ≡ true) × (judged_by p w ≡ v)
  from v on =
      let r = Memᴰ.of_map (judged_by p) (kept (viable p) U) on in
      let k = kept_mem (viable p) U r.0 r.1 in
      (r.0, k.0, k.1, r.2)

  to : (w : Visit) → Memᴰ w U → viable p w.key ≡ true → Memᴰ (judged_by p w) W
  to w on h = Memᴰ.map (judged_by p) (mem_kept (viable p) U w on h)

  held_by : (w : Visit) → Memᴰ w U → (judged_by p w).final ≡ true → Out f p w.key w.value
  held_by w on fin =
      let b = and_parts w.final (fits_test p.positions p.rest w.key) fin in
      (F.held w on b.0, (fits_decides p w.key).yes b.1)

  pub facts_of : FactsOf (Begun f p) (Out f p) lo W (fitting p pend)
  facts_of =
      record {
        rising = judged_rising p (kept (viable p) U) (kept_rising (viable p) U F.rising);
        full = λ v on. let r = from v on in subst (λ (x : Visit). ¬ (x.key ≡ [])) r.3 (F.begins r.0 r.1).not_empty;
        begins = λ v on.
            let r = from v on in
            let b = F.begins r.0 r.1 in
            subst (λ (x : Visit). Begun f p x.key) r.3 (b, (viable_decides p r.0.key b.not_empty).yes r.2);
        meets = λ v on. let r = from v on in subst (λ (x : Visit). MeetsLower lo x.key) r.3 (F.meets r.0 r.1);
        whole = λ x b meets.
            let w = F.whole x b.0 meets in
            let t : viable p x ≡ true = true_of (viable p x) (viable_decides p x b.0.not_empty) b.1 in
            (judged_by p w.0, to w.0 w.1 (rw w.2 t), w.2);
        held = λ v on fin.
            let r = from v on in
            subst (λ (x : Visit). Out f p x.key x.value) r.3 (held_by r.0 r.1 (ap (λ (x : Visit). x.final) r.3 ∙ fin));
        keys = λ k w h ne meets.
            let t : fits_test p.positions p.rest k ≡ true = true_of (fits_test p.positions p.rest k) (fits_decides p k) h.1 in
            let on = to (record { key = k; value = w; final = true }) (F.keys k w h.0 ne meets) (fits_viable p k ne h.1) in
            subst (λ (b : Bool). Memᴰ (record { key = k; value = w; final = b }) W) t on;
        empty_held = λ v is.
            let q = fitting_some p pend v is in
            let h = F.empty_held v q.0 in
            ((h.0, (fits_decides p []).yes q.1), h.1);
        empty_pending = λ v h meets.
            let t : fits_test p.positions p.rest [] ≡ true = true_of (fits_test p.positions p.rest []) (fits_decides p []) h.1 in
            ap (fitting p) (F.empty_pending v h.0 meets) ∙ rw t;
      }

-- for an admitted file
module _ {s : List ℕ} (A : Admitted s) (lo : Bound) (p : Pattern) where
  abbrev pub visits_by : List Visit
  visits_by = map (judged_by p) (kept (viable p) (kept (meets_test lo) (below max_path (fst_of s A.meta) A.meta.root)))

  abbrev pub pend_by : Option ℕ
  pend_by = pending_at lo (node_in (fst_of s A.meta) A.meta.root)

  pub facts_by : FactsOf (Begun (fst_of s A.meta) p) (Out (fst_of s A.meta) p) lo visits_by (fitting p pend_by)
  facts_by =
      facts_of (fst_of s A.meta) lo (kept (meets_test lo) (below max_path (fst_of s A.meta) A.meta.root))
      (pending_at lo (node_in (fst_of s A.meta) A.meta.root)) (facts A lo) p
