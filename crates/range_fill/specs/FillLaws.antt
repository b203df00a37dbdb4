-- Rows filled one after the other: what a turn of the loop over next knows, and what each way out of it gives back.
--     Filling w s r most rows₀ values₀ rows values count     `count` rows are written, and the page w goes on from the reading r
--     filling_none, filling_key                              before the first row, after a row
--     filled_more, filled_end, filled_refused                the ways out
--     FilledFrom s r count most ..                           the rest of a page, from row `count` on
--     ranged_as, refused_by                                  by an equation between pages; a refusal before any key
-- Assumes nothing.
use Rattle.std.specs.Prelude.{◌≡◌, refl, List, [], ◌∷◌, ◌++◌, ℕ, ◌+◌, ◌-◌, ◌*◌, ◌≤◌, ◌<◌, length, set, Ok, Err}
use Rattle.std.proofs.Common.{sym, ap, ap₂, subst, ◌∙◌, arith, length-append, length-set}
use Rattle.format.specs.declared.Refusal.{Refusal}
use Rattle.buffers.specs.Put.{put}
use Rattle.buffers.specs.PutLaws.{length_put}
use Rattle.format.specs.Limits.{max_path}
use Rattle.reading.specs.Reading.{View, Answer, key, end, next}
use Rattle.reading.specs.Demand.{Entry, entry}
use Rattle.paging.specs.Paging as P
use Rattle.paging.specs.Paging.{Page, page, refused_page, ended, more, fold, row_len, row_of, rows_after, values_after}
use Rattle.paging.proofs.FoldLaws.{Folded, folded_none, folded_key, folded_more, folded_end, folded_refused, rows_none, rows_snoc, values_none, values_snoc}
use Rattle.range_fill.specs.declared.Stop.TheVariants.{End, More}
use Rattle.range_fill.specs.declared.Ranged.{Ranged}
use Rattle.range_fill.specs.RangedRows.{stop_as, refused_range, RangedBy}

pub record Filling (w : Page) (s : List ℕ) (r : View) (most : ℕ) (rows₀ values₀ rows values : List ℕ) (count : ℕ) : Type 0 where
  pub entries : List Entry
  pub count_is : count ≡ length entries
  pub within : count ≤ most
  pub folded : Folded w entries (most - count) s r
  pub rows_are : rows ≡ rows_after entries rows₀
  pub values_are : values ≡ values_after entries values₀
  pub rows_len : length rows ≡ length rows₀
  pub values_len : length values ≡ length values₀

pub filling_none : (s : List ℕ) (r : View) (most : ℕ) (rows values : List ℕ) → Filling (fold s r most) s r most rows values rows values 0
filling_none s r most rows values =
    record {
      entries = [];
      count_is = refl;
      within = omega arith;
      folded = subst (λ (n : ℕ). Folded (fold s r most) [] n s r) (omega arith) (folded_none s r most);
      rows_are = sym (rows_none rows);
      values_are = sym (values_none values);
      rows_len = refl;
      values_len = refl;
    }

module _ {w : Page} {s : List ℕ} {r : View} {most : ℕ} {rows₀ values₀ rows values : List ℕ} {count : ℕ}
    (f : Filling w s r most rows₀ values₀ rows values count) where
  -- the next row lies within the rows
  pub row_fits : row_len * most ≤ length rows₀ → count < most → count * 256 + row_len ≤ length rows
  row_fits room left = omega (arith, f.rows_len)

  pub filling_key : row_len * most ≤ length rows₀ → most ≤ length values₀ → count < most → (k : List ℕ) (v n : ℕ) (r' : View) {rows' : List ℕ}
      → (next s r max_path).answer ≡ key k v → (next s r max_path).reading ≡ r' → length k ≡ n → n ≤ max_path → rows' ≡ put rows (count * 256) (n ∷ k)
      → Filling w s r' most rows₀ values₀ rows' (set values count v) (count + 1)
  filling_key room value_room left k v n r' {rows'} is on len short put_is =
      let e = entry k v in
      let count_is = f.count_is in
      let row_is : rows' ≡ put rows (count * 256) (row_of e) = put_is ∙ ap (λ (j : ℕ). put rows (count * 256) (j ∷ k)) (sym len) in
      let place : count * 256 ≡ row_len * length f.entries = omega arith in
      let more_len : length (f.entries ++ (e ∷ [])) ≡ length f.entries + 1 = length-append f.entries (e ∷ []) in
      let in_values : length f.entries < length values₀ = omega arith in
      record {
        entries = f.entries ++ (e ∷ []);
        count_is = omega arith;
        within = omega arith;
        folded = folded_key f.folded k v r' (most - (count + 1)) (omega arith) is on;
        rows_are =
            row_is
            ∙ ap₂ (λ (l : List ℕ) (j : ℕ). put l j (row_of e)) f.rows_are place
            ∙ sym (rows_snoc f.entries e rows₀);
        values_are =
            ap₂ (λ (l : List ℕ) (j : ℕ). set l j v) f.values_are count_is ∙ sym (values_snoc f.entries e values₀ in_values);
        rows_len = ap length row_is ∙ length_put rows (count * 256) (row_of e) (omega (arith, f.rows_len)) ∙ f.rows_len;
        values_len = length-set values count v ∙ f.values_len;
      }

  -- the page stops with the rows that are written
  stops : (why : P.Stop) → w ≡ page f.entries why → RangedBy w rows₀ rows values₀ values (record { count = count; stop = stop_as why })
  stops why is =
      subst (λ (q : Page). RangedBy q rows₀ rows values₀ values (record { count = count; stop = stop_as why })) (sym is)
      (record { count = f.count_is; stop = refl; rows_are = f.rows_are; values_are = f.values_are })

  pub filled_more : most ≤ count → RangedBy w rows₀ rows values₀ values (record { count = count; stop = Ok More })
  filled_more full = stops more (folded_more f.folded (omega arith))

  pub filled_end : count < most → (next s r max_path).answer ≡ end → RangedBy w rows₀ rows values₀ values (record { count = count; stop = Ok End })
  filled_end left is = stops ended (folded_end f.folded (omega arith) is)

  pub filled_refused : count < most → (n : Refusal) → (next s r max_path).answer ≡ Answer.refused n
      → RangedBy w rows₀ rows values₀ values (record { count = count; stop = Err n })
  filled_refused left n is = stops (P.Stop.refused n) (folded_refused f.folded (omega arith) n is)

-- whatever page the rows before `count` were part of
abbrev pub FilledFrom : List ℕ → View → ℕ → ℕ → List ℕ → List ℕ → List ℕ → List ℕ → Ranged → Type 0
FilledFrom s r count most rows₀ rows values₀ values out =
    (w : Page) (rs vs : List ℕ) → Filling w s r most rs vs rows₀ values₀ count → RangedBy w rs rows vs values out

-- by an equation between readings
pub filled_as : {s : List ℕ} {q r : View} {count most : ℕ} {rows₀ rows values₀ values : List ℕ} {out : Ranged} → q ≡ r
    → FilledFrom s q count most rows₀ rows values₀ values out → FilledFrom s r count most rows₀ rows values₀ values out
filled_as {s} {q} {r} {count} {most} {rows₀} {rows} {values₀} {values} {out} e h w rs vs f =
    h w rs vs (subst (λ (x : View). Filling w s x most rs vs rows₀ values₀ count) (sym e) f)

-- by an equation between pages
pub ranged_as : {v w : Page} {rows₀ rows values₀ values : List ℕ} {r : Ranged} → v ≡ w → RangedBy v rows₀ rows values₀ values r → RangedBy w rows₀ rows values₀ values r
ranged_as {v} {w} {rows₀} {rows} {values₀} {values} {r} e h = subst (λ (q : Page). RangedBy q rows₀ rows values₀ values r) e h

pub refused_by : {w : Page} (n : Refusal) (rows values : List ℕ) → w ≡ refused_page n → {r : Ranged} → r ≡ refused_range n → RangedBy w rows rows values values r
refused_by n rows values is {r} e =
    ranged_as (sym is)
    (subst (RangedBy (refused_page n) rows rows values values) (sym e)
    (record { count = refl; stop = refl; rows_are = sym (rows_none rows); values_are = sym (values_none values) }))
