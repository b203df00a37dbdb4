-- The place that is found is that of the first number above what is left; where there is none, all of them lead.
use Rattle.std.proofs.Common.{rules, ◌≤◌, ◌<◌, ℕ, get_or, arith, sym, ◌∙◌, inl, inr, eq-or-lt_of_le}
use Rattle.std.proofs.iter.runs.Sources.{ranges}
use mathlib.Core.Logic.{⊎_elim}
use Rattle.format.specs.Node.{numbers_down}
use Rattle.format.specs.Laws.StoredLaws.{length_numbers_down}
use Rattle.node_choice.proofs.fitting.Goals as goal

pub returns-clause-leading : goal.returns-clause-leading
returns-clause-leading c =
    let a = c.args in
    let os = numbers_down a.file.now a.at a.size a.n in
    let len = length_numbers_down a.file.now a.at a.size a.n in
    let high : c.unwrap_or.result ≤ a.n = search (rules, ranges) in
    let fit : (j : ℕ) → j < c.unwrap_or.result → get_or os j 0 ≤ a.left = search (rules, ranges) in
    let stop : c.unwrap_or.result < a.n → a.left < get_or os c.unwrap_or.result 0 = search (rules, ranges) in
    record {
      within = omega (arith, high, len);
      fit = fit;
      stop = ⊎_elim (λ e. inl (e ∙ sym len)) (λ l. inr (stop l)) (eq-or-lt_of_le high);
    }
