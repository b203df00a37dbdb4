-- Rows filled one after the other from a reading by pattern: what a turn of the loop over next knows, and what each way out of it gives back.
--     Going s p w most rows₀ values₀ rows values b here count     `count` rows are written, and the page w goes on from the reading `here`
--     going_none, going_key                                     before the first row, after a row
--     going_more, going_end, going_refused                      the ways out
-- Assumes nothing.
use mathlib.Core.Path.{◌≡◌, refl, sym, ap, ap₂, subst, ◌∙◌}
use Rattle.std.specs.Prelude.{Ok, Err, Some, None}
use Rattle.format.specs.declared.Refusal.{Refusal}
use mathlib.Core.List.{List, [], ◌∷◌, ◌++◌}
use Prim.Native.Nat.{ℕ, ◌+◌, ◌-◌, ◌*◌, ◌≤◌, ◌<◌}
use native.Mathlib.Omega.{arith}
use lib.ListN.{length, take, set, length-append, length-set}
use lib.Seq.{length-take-le}
use Rattle.buffers.specs.Put.{put}
use Rattle.buffers.specs.PutLaws.{length_put}
use Rattle.format.specs.Limits.{max_path}
use Rattle.reading.specs.Reading as R
use Rattle.reading.specs.Demand.{Entry, entry}
use Rattle.pattern.specs.Pattern as P
use Rattle.pattern.specs.Pattern.{next_by}
use Rattle.paging.specs.Paging as G
use Rattle.paging.specs.Paging.{Page, page, ended, more, row_len, row_of, rows_after, values_after}
use Rattle.paging.proofs.FoldLaws.{rows_none, rows_snoc, values_none, values_snoc}
use Rattle.finding.specs.Finding.{fold_by}
use Rattle.finding.proofs.FoldByLaws.{FoldedBy, by_none, by_key, by_more, by_end, by_refused}
use Rattle.stream_start.specs.Views.{view_is}
use Rattle.stream_step.specs.declared.Step.{Step}
use Rattle.stream_step.specs.SteppedLaws.{Told, step_end, step_refused, step_text, step_fits}
use Rattle.patterned.specs.declared.Patterned.{Patterned}
use Rattle.patterned_held.specs.HeldPatterns.{held_is}
use Rattle.patterned.specs.Patterns.{SteppedBy}
use Rattle.range_fill.specs.declared.Stop.TheVariants.{End as Ended, More}
use Rattle.range_fill.specs.RangedRows.{stop_as, RangedBy}

pub record Going (s : List ℕ) (p : P.Pattern) (w : Page) (most : ℕ) (rows₀ values₀ rows values b : List ℕ) (here : Patterned) (count : ℕ) : Type 0 where
  pub entries : List Entry
  pub count_is : count ≡ length entries
  pub within : count ≤ most
  -- the key buffer has room for the longest key
  pub space : length b ≡ max_path
  -- the pattern is the one of the start
  pub pattern_is_lem : held_is here.pattern ≡ p
  pub folded : FoldedBy w entries (most - count) s p (view_is here.reading)
  pub rows_are : rows ≡ rows_after entries rows₀
  pub values_are : values ≡ values_after entries values₀
  pub rows_len : length rows ≡ length rows₀
  pub values_len : length values ≡ length values₀

pub going_none : (s : List ℕ) (first : Patterned) (most : ℕ) (rows values b : List ℕ) → length b ≡ max_path
    → Going s (held_is first.pattern) (fold_by s (held_is first.pattern) (view_is first.reading) most) most rows values rows values b first 0
going_none s first most rows values b space =
    let p = held_is first.pattern in
    let r = view_is first.reading in
    record {
      entries = [];
      count_is = refl;
      within = omega arith;
      space = space;
      pattern_is_lem = refl;
      folded = subst (λ (n : ℕ). FoldedBy (fold_by s p r most) [] n s p r) (omega arith) (by_none s p r most);
      rows_are = sym (rows_none rows);
      values_are = sym (values_none values);
      rows_len = refl;
      values_len = refl;
    }

module _ {s : List ℕ} {p : P.Pattern} {w : Page} {most : ℕ} {rows₀ values₀ rows values b₀ : List ℕ} {here : Patterned} {count : ℕ}
    (g : Going s p w most rows₀ values₀ rows values b₀ here count) where
  -- the page stops with the rows that are written
  stops : (why : G.Stop) → w ≡ page g.entries why → RangedBy w rows₀ rows values₀ values (record { count = count; stop = stop_as why })
  stops why is =
      subst (λ (q : Page). RangedBy q rows₀ rows values₀ values (record { count = count; stop = stop_as why })) (sym is)
      (record { count = g.count_is; stop = refl; rows_are = g.rows_are; values_are = g.values_are })

  pub going_more : most ≤ count → RangedBy w rows₀ rows values₀ values (record { count = most; stop = Ok More })
  going_more full =
      let e : count ≡ most = omega (arith, g.within) in
      subst (λ (j : ℕ). RangedBy w rows₀ rows values₀ values (record { count = j; stop = Ok More })) e (stops more (by_more g.folded (omega arith)))

  -- a call of next
  module _ (left : count < most) {b : List ℕ} (same : length b ≡ max_path) {o : Step Patterned}
      (h : SteppedBy (next_by s (held_is here.pattern) (view_is here.reading) (length b₀)) here.pattern b₀ b o) where
    call_told : Told (next_by s (held_is here.pattern) (view_is here.reading) (length b₀)).answer o.answer b₀ b
    call_told = record { answer = h.answer; buffer = h.buffer }

    -- the same by the pattern of the start
    call_is_lem : next_by s p (view_is here.reading) max_path ≡ next_by s (held_is here.pattern) (view_is here.reading) (length b₀)
    call_is_lem = sym (ap₂ (λ (q : P.Pattern) (n : ℕ). next_by s q (view_is here.reading) n) g.pattern_is_lem g.space)

    answer_is_lem : {a : R.Answer} → (next_by s (held_is here.pattern) (view_is here.reading) (length b₀)).answer ≡ a → (next_by s p (view_is here.reading) max_path).answer ≡ a
    answer_is_lem e = ap (λ (x : R.Step). x.answer) call_is_lem ∙ e

    pub going_end : o.answer ≡ Ok None → RangedBy w rows₀ rows values₀ values (record { count = count; stop = Ok Ended })
    going_end e = stops ended (by_end g.folded (omega arith) (answer_is_lem (step_end call_told e)))

    pub going_refused : (n : Refusal) → o.answer ≡ Err n → RangedBy w rows₀ rows values₀ values (record { count = count; stop = Err n })
    going_refused n e = stops (G.Stop.refused n) (by_refused g.folded (omega arith) n (answer_is_lem (step_refused call_told n e)))

    pub key_fits : (n v : ℕ) → o.answer ≡ Ok (Some (n, v)) → n ≤ max_path
    key_fits n v e = omega (arith, g.space, step_fits call_told n v e (same ∙ sym g.space))

    pub key_len : (n v : ℕ) → o.answer ≡ Ok (Some (n, v)) → length (take n b) ≡ n
    key_len n v e = let short = key_fits n v e in length-take-le n b (omega arith)

    pub going_key : row_len * most ≤ length rows₀ → most ≤ length values₀ → (n v : ℕ) → o.answer ≡ Ok (Some (n, v)) → {rows' : List ℕ}
        → rows' ≡ put rows (count * 256) (length (take n b) ∷ take n b) → Going s p w most rows₀ values₀ rows' (set values count v) b o.reading (count + 1)
    going_key row_room value_room n v e {rows'} put_is =
        let k = take n b in
        let x = entry k v in
        let short = key_fits n v e in
        let len : length k ≡ n = length-take-le n b (omega arith) in
        let count_is = g.count_is in
        let row_is : rows' ≡ put rows (count * 256) (row_of x) = put_is in
        let place : count * 256 ≡ row_len * length g.entries = omega arith in
        let more_len : length (g.entries ++ (x ∷ [])) ≡ length g.entries + 1 = length-append g.entries (x ∷ []) in
        let in_values : length g.entries < length values₀ = omega arith in
        record {
          entries = g.entries ++ (x ∷ []);
          count_is = omega arith;
          within = omega arith;
          space = same;
          pattern_is_lem = ap held_is h.pattern ∙ g.pattern_is_lem;
          folded =
              by_key g.folded k v (view_is o.reading.reading) (most - (count + 1)) (omega arith) (answer_is_lem (step_text call_told n v e))
              (ap (λ (z : R.Step). z.reading) call_is_lem ∙ sym h.reading);
          rows_are =
              row_is
              ∙ ap₂ (λ (l : List ℕ) (j : ℕ). put l j (row_of x)) g.rows_are place
              ∙ sym (rows_snoc g.entries x rows₀);
          values_are =
              ap₂ (λ (l : List ℕ) (j : ℕ). set l j v) g.values_are count_is ∙ sym (values_snoc g.entries x values₀ in_values);
          rows_len = ap length row_is ∙ length_put rows (count * 256) (row_of x) (omega (arith, g.rows_len)) ∙ g.rows_len;
          values_len = length-set values count v ∙ g.values_len;
        }
