-- Names of one length are compared byte by byte; names of two lengths differ.
-- Assumes nothing.
use Rattle.std.proofs.Common.{ℕ, List, length, ap, ◌∙◌}
use borrow.Author.Tests.{ne_eqb}
use lib.Dec.{eqb}
use Rattle.std.specs.Cmp.Lexicographic.{pointwise}
use Rattle.marks_held.proofs.MarkScans.{names_differ, same_bytes}
use Rattle.marks_held.proofs.Mark.is_named.Goals as goal

pub returns-then-self-name : goal.returns-then-self-name
returns-then-self-name c =
    c.eq.ensures ∙ ap (λ (x : List ℕ). pointwise eqb x c.args.name.now) c.stated.ensures ∙ same_bytes _ _

pub returns-else-self-name : goal.returns-else-self-name
returns-else-self-name c =
    let a = c.args in
    ne_eqb a.self.now.name_len (length a.name.now) c.if-self-name.false ∙ names_differ a.self.now.name a.name.now a.self.now.name_len c.if-self-name.false
