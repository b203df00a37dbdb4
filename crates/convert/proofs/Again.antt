-- The straight line of a conversion: what the file says, the answer for another version, the work tables restored, and the whole.
-- Assumes nothing.
use mathlib.Core.Path.{◌≡◌, refl, sym, ap, ◌∙◌, subst}
use Rattle.std.specs.Prelude.{Ok, Err, Result, ⊤, ℕ}
use Rattle.format.specs.declared.Refusal.{Refusal}
use mathlib.Core.Logic.{inl}
use mathlib.Core.List.{List}
use native.Mathlib.Omega.{arith}
use lib.ListN.{length}
use Rattle.format.specs.Limits.{EDITION}
use Rattle.format.specs.Opening as O
use Rattle.format.specs.Paths.{fst_with}
use Rattle.format.specs.Admitted.{Admitted}
use Rattle.admission.specs.Outcome.{Outcome}
use Rattle.admission.specs.Exactly.{admitted_is}
use Rattle.convert.specs.Convert.{Converts, Marked, Says, OldFile, OldConverted, AgainConverted}
use Rattle.convert.specs.ConvertLaws.{conversion_edition, same_meta, chain_only, admitted_again}
use Rattle.convert.proofs.Finishing.{converts_as}

-- ---- what the file says

module _ {s d t : List ℕ} {version count root : ℕ} (marks : Marked s d t) (says : Says s version count root) where
  meta_is_lem : (A : Admitted s) → A.meta ≡ says.meta
  meta_is_lem A = same_meta s A.opens says.opens

  -- another version
  pub edition_again : (limit : ℕ) (o b : List ℕ) → ¬ (version ≡ 1) → AgainConverted limit s d t o b d t o b (Err EDITION)
  edition_again limit o b ne =
      record {
        depths_same = refl;
        sums_same = refl;
        each = λ A.
            converts_as (sym (conversion_edition limit A (length o) (length b) (λ z. ne (says.version_is ∙ sym (ap (λ (m : O.Meta). m.version) (meta_is_lem A)) ∙ z))))
            (record { answer = refl; out_is = refl; table_is = refl });
      }

  pub old_of : version ≡ 1 → OldFile (fst_with s version root) count d t
  old_of is =
      let X = marks.admits in
      let A = X.admitted in
      record {
        admitted = A;
        old = is;
        version_is = ap (λ (m : O.Meta). m.version) (meta_is_lem A) ∙ sym says.version_is ∙ is;
        root_is = says.root_is ∙ sym (ap (λ (m : O.Meta). m.root) (meta_is_lem A));
        count_is = says.count_is ∙ sym (ap (λ (m : O.Meta). m.len) (meta_is_lem A));
        room_depths = omega (arith, X.room_depths, X.depths.kept.long);
        room_sums = omega (arith, X.room_sums, X.sums.kept.long);
        off = chain_only X A;
      }

-- the second admission restores the tables
pub restored : {limit : ℕ} {s d t o₀ b₀ d' t' o b e u : List ℕ} {r : Result ℕ Refusal} (x : Result ⊤ Refusal) → Marked s d t
    → OldConverted limit s d t o₀ b₀ d' t' o b r → Outcome s d' t' e u x → AgainConverted limit s d t o₀ b₀ e u o b r
restored {s = s} {d} {t} {o₀} {b₀} {d'} {t'} {o} {b} {e} {u} {r} x marks done again =
    let X = marks.admits in
    let p = done.depths_kept in
    let q = done.sums_kept in
    let yes : x ≡ (Ok tt) =
    admitted_is s d' t' e u x (omega (arith, X.room_depths, X.depths.kept.long, p.long)) (omega (arith, X.room_sums, X.sums.kept.long, q.long)) again
    X.admitted in
    let both = admitted_again X p q (subst (Outcome s d' t' e u) yes again) in
    record { depths_same = both.0; sums_same = both.1; each = done.each }

-- ---- the whole

pub refused_whole : {limit : ℕ} {s d₀ t₀ d t o b : List ℕ} {x : Result ⊤ Refusal} → Outcome s d₀ t₀ d t x → (k : Refusal) → x ≡ Err k
    → Converts limit s d₀ t₀ o b d t o b (Err k)
refused_whole {s = s} {d₀} {t₀} {d} {t} out k e =
    inl (record { why = k; refuses = subst (Outcome s d₀ t₀ d t) e out; answer = refl; out_is = refl; table_is = refl })
