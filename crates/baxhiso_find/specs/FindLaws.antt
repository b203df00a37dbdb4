-- What a result of a page by pattern tells the C caller, on an admitted file.
--     FindTells, find_tells     with a pattern and bounds that are not too long, and room: FST_END or FST_MORE, and the first keys between the bounds that fit
-- Assumes nothing.
use Rattle.std.specs.Prelude.{◌≡◌, refl, ◌⊎◌, List, ℕ, ◌*◌, ◌≤◌, ℤ, length}
use Rattle.std.proofs.Common.{sym, ap, subst, ◌∙◌, inl, inr, arith}
use Rattle.format.specs.Limits.{max_path}
use Rattle.format.specs.Admitted.{Admitted}
use Rattle.format.specs.Strings.{Bound}
use Rattle.reading.specs.Reading.{bound_bytes}
use Rattle.pattern.specs.Pattern.{Pattern}
use Rattle.paging.specs.Paging as G
use Rattle.paging.specs.Paging.{Page, ended, more, row_len, values_after}
use Rattle.paging.proofs.RangeLaws.{held_short}
use Rattle.paging.proofs.RowLaws.{RowsHold, rows_hold}
use Rattle.finding.specs.Finding.{find}
use Rattle.finding.specs.FindExact.{FindExact}
use Rattle.finding.proofs.FindLaws.{find_exact}
use Rattle.baxhiso_readings.specs.Readings.{END, MORE, range_result, RangeLeaves}

-- the result, and the page: its keys are the first held ones between the bounds that fit, each stands in its row, byte by byte, and its value in its place
pub record FindTells {s : List ℕ} (A : Admitted s) (p : Pattern) (lo hi : Bound) (most : ℕ) (w : Page) (rows₀ rows values₀ values : List ℕ) (count : ℕ) (r : ℤ)
    : Type 0 where
  pub answered : (r ≡ END) ⊎ (r ≡ MORE)
  pub exact : FindExact A p lo hi most w
  pub end_ended : r ≡ END → w.stop ≡ ended
  pub more_more : r ≡ MORE → w.stop ≡ more
  pub count_is : count ≡ length w.entries
  pub rows_are : RowsHold w.entries rows₀ rows
  pub values_are : values ≡ values_after w.entries values₀

more_not_end : ¬ (MORE ≡ END)
more_not_end e = let z : ◌≡◌ {A = ℕ} 0 1 = cc in omega arith

module _ {s : List ℕ} (A : Admitted s) (p : Pattern) (lo hi : Bound) (most : ℕ) (rows₀ rows values₀ values : List ℕ) (count : ℕ) (r : ℤ)
    (row_room : row_len * most ≤ length rows₀) where
  abbrev Told : Page → Type 0
  Told w = FindTells A p lo hi most w rows₀ rows values₀ values count r

  abbrev Left : Page → Type 0
  Left w = RangeLeaves w rows₀ rows values₀ values count r

  rows_told : (w : Page) → FindExact A p lo hi most w → Left w → RowsHold w.entries rows₀ rows
  rows_told w exact l =
      subst (RowsHold w.entries rows₀) (sym l.rows_are)
      (rows_hold w.entries rows₀ (λ e on. held_short A (exact.wanted e on).held) (omega (arith, exact.at_most, row_room)))

  tells_of : (w : Page) (why : G.Stop) → w.stop ≡ why → FindExact A p lo hi most w → Left w → Told w
  tells_of w ended is exact l =
      let e : r ≡ END = l.result ∙ ap range_result is in
      record {
        answered = inl e;
        exact = exact;
        end_ended = λ q. is;
        more_more = λ q. absurd (more_not_end (sym q ∙ e));
        count_is = l.count_is;
        rows_are = rows_told w exact l;
        values_are = l.values_are;
      }
  tells_of w more is exact l =
      let e : r ≡ MORE = l.result ∙ ap range_result is in
      record {
        answered = inr e;
        exact = exact;
        end_ended = λ q. absurd (more_not_end (sym e ∙ q));
        more_more = λ q. is;
        count_is = l.count_is;
        rows_are = rows_told w exact l;
        values_are = l.values_are;
      }
  tells_of w (G.Stop.refused n) is exact l = absurd (exact.not_refused n is)

  pub find_tells : length p.positions ≤ max_path → length (bound_bytes lo) ≤ max_path → length (bound_bytes hi) ≤ max_path → most ≤ length values₀
      → Left (find s p lo hi most (length rows₀) (length values₀)) → Told (find s p lo hi most (length rows₀) (length values₀))
  find_tells few short_lo short_hi value_room h =
      let w = find s p lo hi most (length rows₀) (length values₀) in
      tells_of w w.stop refl (find_exact A p lo hi most (length rows₀) (length values₀) few short_lo short_hi row_room value_room) h
