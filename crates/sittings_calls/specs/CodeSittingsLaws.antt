-- A long list in two sittings, of the code's own calls (document 02, N14): `two_sittings_code`, and `keys_add_code` of its starts. No bound's and no
-- table's length is a premise: a start with a longer bound or a shorter table would have been refused.
--     code_full            a sitting hands out the held keys between its bounds, and has demand 3's total
--     code_keys            the number of keys to come at its start
-- Assumes nothing.
use Prim.{tt}
use Rattle.std.specs.Prelude.{◌≡◌, ℕ, ◌+◌}
use Rattle.std.proofs.Common.{sym, ap, subst}
use mathlib.Core.List.{List, [], Memᴰ}
use Rattle.format.specs.Paths.{fst_of}
use Rattle.format.specs.Admitted.{Admitted}
use Rattle.format.specs.Strings as S
use Rattle.format.specs.Strings.{Between}
use Rattle.reading.specs.Reading as R
use Rattle.reading.specs.Reading.{end}
use Rattle.reading.specs.Demand.{handed_in}
use Rattle.plain.specs.Numbers.{TableFits}
use Rattle.plain.specs.Plain as P
use Rattle.sittings.specs.Sittings.{up_to_cut, from_cut, InTwo, total_after}
use Rattle.sittings.proofs.TwoPartsLaws.{KeysBetween, keys_cut, Full, in_two}
use Rattle.sittings.proofs.SittingsLaws.{full_plain, keys_started}
use Rattle.stream.specs.declared.Plain.{Plain}
use Rattle.stream_calls.specs.Calls.{CodeCall, code_answers, calls_is, StartMade}
use Rattle.stream_calls.specs.CallsLaws.{code_as_defined}
use Rattle.sittings_calls.specs.CodeSittings.{Sitting, code_total}

code_full : {s : List ℕ} (A : Admitted s) (lo hi : S.Bound) (t : List ℕ) → TableFits (fst_of s A.meta) lo hi t → {b : Plain} {cs : List CodeCall}
    → Sitting s lo hi t b cs → Full (fst_of s A.meta) lo hi (handed_in (code_answers cs)) (code_total b cs)
code_full {s} A lo hi t fits {b} {cs} w =
    let W = code_as_defined A lo hi t fits b w.first cs w.made in
    let n = total_after W.demand.reading (calls_is b cs w.made) in
    let total_is : code_total b cs ≡ n = ap (λ (p : P.Plain). p.view.total) W.last_reading_lem in
    subst (λ (m : ℕ). Full (fst_of s A.meta) lo hi (handed_in (code_answers cs)) m) (sym total_is)
    (subst (λ (l : List R.Answer). Full (fst_of s A.meta) lo hi (handed_in l) n) (sym W.same_answers)
    (full_plain A lo hi t (calls_is b cs w.made) W.demand (subst (Memᴰ end) W.same_answers w.ends)))

code_keys : {s : List ℕ} (A : Admitted s) (lo hi : S.Bound) (t : List ℕ) → TableFits (fst_of s A.meta) lo hi t → {b : Plain} → StartMade s lo hi t b
    → KeysBetween (fst_of s A.meta) lo hi b.keys
code_keys {s} A lo hi t fits {b} first =
    let W = code_as_defined A lo hi t fits b first [] tt in
    subst (λ (p : P.Plain). KeysBetween (fst_of s A.meta) lo hi p.keys) (sym W.first_reading) (keys_started A lo hi t W.demand)

module _ {s : List ℕ} (A : Admitted s) (lo hi : S.Bound) (c : List ℕ) (cut : Between lo hi c) (t t₁ t₂ : List ℕ) (fits : TableFits (fst_of s A.meta) lo hi t)
    (fits₁ : TableFits (fst_of s A.meta) lo (up_to_cut c) t₁) (fits₂ : TableFits (fst_of s A.meta) (from_cut c) hi t₂) {b b₁ b₂ : Plain} where
  pub two_sittings_code : {cs cs₁ cs₂ : List CodeCall} → Sitting s lo hi t b cs → Sitting s lo (up_to_cut c) t₁ b₁ cs₁ → Sitting s (from_cut c) hi t₂ b₂ cs₂
      → InTwo (fst_of s A.meta) c (handed_in (code_answers cs)) (handed_in (code_answers cs₁)) (handed_in (code_answers cs₂)) (code_total b cs) (code_total b₁ cs₁)
      (code_total b₂ cs₂)
  two_sittings_code whole first second =
      in_two (fst_of s A.meta) lo hi c cut (code_full A lo hi t fits whole) (code_full A lo (up_to_cut c) t₁ fits₁ first)
      (code_full A (from_cut c) hi t₂ fits₂ second)

  pub keys_add_code : StartMade s lo hi t b → StartMade s lo (up_to_cut c) t₁ b₁ → StartMade s (from_cut c) hi t₂ b₂
      → b₁.keys + b₂.keys ≡ b.keys
  keys_add_code whole first second =
      keys_cut (fst_of s A.meta) lo hi c cut b.keys b₁.keys b₂.keys (code_keys A lo hi t fits whole)
      (code_keys A lo (up_to_cut c) t₁ fits₁ first) (code_keys A (from_cut c) hi t₂ fits₂ second)
