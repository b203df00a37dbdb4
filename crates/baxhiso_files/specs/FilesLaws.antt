-- What a result tells the C caller. No refusal has the number 0, so FST_OK comes for a written file only.
--     convert_ok     on FST_OK the file was admitted and converted, and the output begins with the new file
-- Assumes nothing.
use Rattle.std.specs.Prelude.{◌≡◌, refl, List, ◌++◌, ℕ, ℤ, length, drop, Err, Result}
use Rattle.std.proofs.Common.{sym, ap, ◌∙◌, inl, inr}
use Rattle.format.specs.declared.Refusal.{Refusal}
use Rattle.format.specs.Limits.{max_len}
use Rattle.format.specs.Admitted.{Admitted}
use Rattle.admission.specs.Outcome.{RefusedFor}
use Rattle.converting.specs.Converting.{Conversion, written, refused, conversion}
use Rattle.convert.specs.Convert.{Converts, ConvertsBy}
use Rattle.baxhiso.specs.Exports.{OK, result_of, len_of}
use Rattle.baxhiso.specs.ExportsLaws.{positive_not_0}
use Rattle.baxhiso_files.specs.Files.{ConvertLeaves}

-- ---- conversion

-- the file is admitted, it is converted, and output and table begin with what was written
pub record Written (s out₀ table₀ out table : List ℕ) (n : ℕ) : Type 0 where
  pub admitted : Admitted s
  pub file : List ℕ
  pub entries : List ℕ
  pub is_written : conversion max_len admitted (length out₀) (length table₀) ≡ written file entries
  pub len_is : n ≡ length file
  pub out_is : out ≡ file ++ drop (length file) out₀
  pub table_is : table ≡ entries ++ drop (length entries) table₀

module _ (s d₀ t₀ out₀ table₀ d t out table : List ℕ) (n₀ n : ℕ) (r : ℤ) (ok : r ≡ OK) where
  of_conversion : (A : Admitted s) (q : Conversion) → conversion max_len A (length out₀) (length table₀) ≡ q
      → (a : Result ℕ Refusal) → ConvertsBy q out₀ table₀ out table a → r ≡ result_of a → n ≡ len_of a n₀ → Written s out₀ table₀ out table n
  of_conversion A (written file entries) is a by e len = record {
    admitted = A;
    file = file;
    entries = entries;
    is_written = is;
    len_is = len ∙ ap (λ (x : Result ℕ Refusal). len_of x n₀) by.answer;
    out_is = by.out_is;
    table_is = by.table_is;
  }
  of_conversion A (refused k) is a by e len = absurd (positive_not_0 k (sym (ap result_of by.answer) ∙ sym e ∙ ok))

  pub convert_ok : ConvertLeaves s d₀ t₀ out₀ table₀ d t out table n₀ n r → Written s out₀ table₀ out table n
  convert_ok h = go h.converts
    where
      go : Converts max_len s d₀ t₀ out₀ table₀ d t out table h.answer → Written s out₀ table₀ out table n
      go (inl stays) = not_admitted stays.why stays.refuses stays.answer
        where
          not_admitted : (k : Refusal) → RefusedFor s d₀ t₀ d t k → h.answer ≡ Err k → Written s out₀ table₀ out table n
          not_admitted k f e = absurd (positive_not_0 k (sym (ap result_of e) ∙ sym h.result ∙ ok))
      go (inr yields) =
          of_conversion yields.admits.admitted _ refl h.answer yields.converts h.result h.len_is
