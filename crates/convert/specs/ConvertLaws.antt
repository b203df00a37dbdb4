-- Laws of a conversion: each answer in its case, for every way in which the file is admitted; and admission, made again.
--     conversion_edition, conversion_large, conversion_placing    the three cases, in their order
--     same-admitted, conversion_same    a file is admitted in one way, and so converted in one way
--     chain_only                        admission leaves 0 off the chain
--     admitted_again                    a second admission leaves the tables as the first did, whatever was in them meanwhile
-- Assumes nothing.
use Rattle.std.specs.Prelude.{◌≡◌, refl, cond, ◌⊎◌, ℕ, ◌+◌, ◌-◌, ◌≤◌, ◌<◌, eqb, ltb, length, get_or, take, drop}
use Rattle.std.proofs.Common.{sym, ap, ap₂, ◌∙◌, subst, inl, inr, ⊎_elim, arith, ext_get_or, get_or-drop}
use mathlib.Core.List.{List, ◌++◌, Memᴰ}
use Rattle.std.proofs.Math.Decide.{ℕ_discrete}
use borrow.Author.Tests.{eq-eqb, ne_eqb, lt-ltb, le-ltb}
use Rattle.format.specs.Limits.{LARGE, EDITION}
use Rattle.format.specs.Opening.{Meta, opened, opening}
use Rattle.format.specs.Paths.{Fst, fst_of}
use Rattle.format.specs.Tables.{longest, largest_sum, InTable}
use Rattle.format.specs.Admitted.{RootChain, Admitted}
use Rattle.format.specs.Laws.ChainLaws.{root_chain_unique}
use Rattle.format.specs.Laws.ReachedLaws.{reached_stays}
use Rattle.admission_node.specs.Entries.{Kept}
use Rattle.admission.specs.Outcome.{Holds, Admits}
use Rattle.format.specs.Bytes.{bytes_of}
use Rattle.format.specs.Packed.{up_from}
use Rattle.converting.specs.Converting.{new_addr, Laid, lay_out, chain_of, Conversion, refused, placing, conversion, converted, table_of}

-- ---- each answer in its case

module _ (limit : ℕ) {s : List ℕ} (A : Admitted s) (room entries : ℕ) where
  pub conversion_edition : ¬ (A.meta.version ≡ 1) → conversion limit A room entries ≡ refused EDITION
  unfolding conversion
  conversion_edition ne = rw (ne_eqb A.meta.version 1 ne)

  pub conversion_large : A.meta.version ≡ 1 → limit < length (converted A) → conversion limit A room entries ≡ refused LARGE
  unfolding conversion
  conversion_large old l = rw (eq-eqb A.meta.version 1 old, lt-ltb limit (length (converted A)) l)

  pub conversion_placing : A.meta.version ≡ 1 → length (converted A) ≤ limit
      → conversion limit A room entries ≡ placing (converted A) (table_of A) (length s) room entries
  unfolding conversion
  conversion_placing old l = rw (eq-eqb A.meta.version 1 old, le-ltb limit (length (converted A)) l)

-- ---- a file is admitted in one way

pub same_meta : (s : List ℕ) {m m' : Meta} → opening s ≡ opened m → opening s ≡ opened m' → m ≡ m'
same_meta s e e' = cc

pub same_nodes : {s : List ℕ} (A B : Admitted s) → A.nodes ≡ B.nodes
same_nodes {s} A B =
    root_chain_unique A.chained.chain
    (subst (λ (m : Meta). RootChain (fst_of s m) B.nodes) (same_meta s B.opens A.opens) B.chained.chain)

-- a conversion takes no more of an admitted file than what it says and its chain
abbrev lay_by : List ℕ → Meta → List ℕ → Laid
lay_by s m l = lay_out (fst_of s m) (chain_of (fst_of s m) l)

abbrev file_by : List ℕ → Meta → List ℕ → List ℕ
file_by s m l =
    bytes_of 8 2 ++ (take 8 (drop 8 s) ++ ((lay_by s m l).nodes ++ (bytes_of 8 m.len ++ bytes_of 8 (new_addr (lay_by s m l).moved m.root))))

abbrev conversion_by : ℕ → List ℕ → ℕ → ℕ → Meta → List ℕ → Conversion
conversion_by limit s room entries m l =
    cond (eqb m.version 1)
    (cond (ltb limit (length (file_by s m l))) (refused LARGE) (placing (file_by s m l) (up_from (new_addr (lay_by s m l).moved) 0 (length s)) (length s) room entries))
    (refused EDITION)

by_parts : (limit : ℕ) {s : List ℕ} (A : Admitted s) (room entries : ℕ) → conversion limit A room entries ≡ conversion_by limit s room entries A.meta A.nodes
unfolding conversion
by_parts limit A room entries = refl

pub conversion_same : (limit : ℕ) {s : List ℕ} (A B : Admitted s) (room entries : ℕ) → conversion limit A room entries ≡ conversion limit B room entries
conversion_same limit {s} A B room entries =
    by_parts limit A room entries ∙ ap₂ (conversion_by limit s room entries) (same_meta s A.opens B.opens) (same_nodes A B) ∙ sym (by_parts limit B room entries)

-- ---- the tables of admission

-- an entry other than 0 stands at an address of the chain
pub chain_only : {s d₀ t₀ d t : List ℕ} (X : Admits s d₀ t₀ d t) (A : Admitted s) → (j : ℕ) → j < length s → ¬ Memᴰ j A.nodes → get_or d j 0 ≡ 0
chain_only {s} X A j l away =
    X.depths.off j l (λ i.
    ⊎_elim (λ z. i.not_zero z) (λ mem. away (subst (Memᴰ j) (same_nodes X.admitted A) mem))
    (reached_stays X.admitted.chained i.reached))

module _ {f : Fst} {g : ℕ → ℕ} {n : ℕ} where
  -- both tables hold the same: an entry that differs would be in the table and not in it
  entries_same : {d₀ d d' e : List ℕ} → Holds g (InTable f) n d₀ d → Holds g (InTable f) n d' e → (j : ℕ) → j < n → get_or e j 0 ≡ get_or d j 0
  entries_same {d = d} {e = e} h k j l =
      elim (ℕ_discrete (get_or e j 0) (get_or d j 0)) [
        | yes q ↦ q
        | no q ↦ let out : ¬ InTable f j = λ i. q (k.on j i ∙ sym (h.on j i)) in absurd (q (k.off j l out ∙ sym (h.off j l out)))
      ]

  holds_again : {d₀ d d' e : List ℕ} → n ≤ length d → Holds g (InTable f) n d₀ d → Kept n d d' → Holds g (InTable f) n d' e → e ≡ d
  holds_again {d₀} {d} {d'} {e} room h kept k =
      ext_get_or 0 e d (k.kept.long ∙ kept.long) (λ i l. go i l (below i))
    where
      below : (i : ℕ) → (i < n) ⊎ (n ≤ i)
      below i = elim (ℕ_discrete (n - i) 0) [ yes z ↦ inr (omega arith) | no z ↦ inl (omega arith) ]

      rest : drop n e ≡ drop n d
      rest = k.kept.beyond ∙ kept.beyond

      go : (i : ℕ) → i < length e → (i < n) ⊎ (n ≤ i) → get_or e i 0 ≡ get_or d i 0
      go i l (inl low) = entries_same h k i low
      go i l (inr high) =
          let is : n + (i - n) ≡ i = omega arith in
          ap (λ (x : ℕ). get_or e x 0) (sym is) ∙ sym (get_or-drop n e (i - n) 0) ∙ ap (λ (x : List ℕ). get_or x (i - n) 0) rest
          ∙ get_or-drop n d (i - n) 0 ∙ ap (λ (x : ℕ). get_or d x 0) is

pub admitted_again : {s d₀ t₀ d t d' t' e u : List ℕ} → Admits s d₀ t₀ d t → Kept (length s) d d' → Kept (length s) t t' → Admits s d' t' e u → (e ≡ d) × (u ≡ t)
admitted_again {s} {d = d} {t = t} {d' = d'} {t' = t'} {e = e} {u = u} X p q Y = (
  holds_again (omega (arith, X.room_depths, X.depths.kept.long)) X.depths p
      (subst (λ (m : Meta). Holds (λ a. longest (fst_of s m) a + 1) (InTable (fst_of s m)) (length s) d' e) same Y.depths),
  holds_again (omega (arith, X.room_sums, X.sums.kept.long)) X.sums q
      (subst (λ (m : Meta). Holds (largest_sum (fst_of s m)) (InTable (fst_of s m)) (length s) t' u) same Y.sums),
)
  where
    same : Y.admitted.meta ≡ X.admitted.meta
    same = same_meta s Y.admitted.opens X.admitted.opens
