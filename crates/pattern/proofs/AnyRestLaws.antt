-- A pattern of no positions and any rest is no pattern: for every file, reading and buffer, a call by it is a call without pattern.
--     plain_walk             the walk is the pops and then the descent
--     plain_is_any_rest      next_by is next
-- Assumes nothing.
use Rattle.std.specs.Prelude.{◌≡◌, Bool, cond, ◌&&◌, leb}
use Rattle.std.proofs.Math.Path.{refl, ap}
use Rattle.std.proofs.Common.{◌∙◌, arith}
use Rattle.std.proofs.Math.Bool.{true, false}
use Rattle.std.proofs.Math.Option.{Option, none, some}
use mathlib.Core.List.{List, [], ◌∷◌}
use Prim.Native.Nat.{ℕ, zero, suc, ◌+◌, ◌-◌, ◌<◌}
use Rattle.std.proofs.Math.Dec.{ltb}
use Rattle.std.proofs.Math.ListN.{length}
use borrow.Author.Tests.{lt-ltb, le-ltb, ltb-true}
use Rattle.format.specs.Limits.{max_path, max_sum, NODE, SUM, SPACE, STATE, PATTERN}
use Rattle.format.specs.Node.{Node, Judgement, sound, unsound}
use Rattle.format.specs.Opening.{Opening, opened, opening}
use Rattle.format.specs.Paths.{Fst, fst_of, node_in}
use Rattle.format.specs.Laws.TransitionLaws.{at_member}
use Rattle.format.specs.Strings.{Bound}
use Rattle.reading.specs.Reading.{passes_test, Level, View, key_of, on_node, on_opened, Step, refuse, counted, Popped, top, used_up, bad, pop, next_trans, child, stepped, Went, passed, descend, after_descend, after_pop, walk, state_test, next}
use Rattle.reading.proofs.RunLaws.{target_live}
use Rattle.pattern.specs.Pattern.{Pattern, start_test, fits_test, WentBy, found, ended, halted, walk_by, after_walk, pending_by, next_by}
use Rattle.pattern.proofs.WalkLaws.{walk_by_lem}

abbrev pub any_rest : Pattern
any_rest = record { positions = []; rest = true }

any_start : (k : List ℕ) → start_test [] true k ≡ true
unfolding start_test
any_start [] = refl
any_start (b ∷ k) = refl

any_fits : (k : List ℕ) → fits_test [] true k ≡ true
unfolding fits_test
any_fits [] = refl
any_fits (b ∷ k) = refl

abbrev went_by : Went → WentBy
went_by (Went.found s v t) = found s v t
went_by (passed t) = ended t
went_by (Went.halted n) = halted n

and_true : (b : Bool) → (b && true) ≡ b
and_true true = refl
and_true false = refl

module _ (f : Fst) (hi : Bound) where
  abbrev again : List Level → ℕ → WentBy
  again = walk_by f any_rest hi

  module _ (l : Level) (m : Node) (s : List Level) (t : ℕ) where
    abbrev to : List Level
    to = child l m ∷ stepped l ∷ s

    abbrev value : Node → ℕ
    value n = l.out + (next_trans l m).out + n.final_output

    abbrev turned : (List Level → ℕ → WentBy) → Node → WentBy
    turned more n =
        cond (passes_test hi (key_of (child l m ∷ stepped l ∷ s))) (ended (counted t))
        (cond (n.final && fits_test [] true (key_of (child l m ∷ stepped l ∷ s)))
        (cond (leb (value n) max_sum) (found to (value n) (counted t)) (halted SUM))
        (more to (counted t)))

    abbrev descended : ℕ → Node → Went
    descended room n =
        cond (passes_test hi (key_of (child l m ∷ stepped l ∷ s))) (passed (counted t))
        (cond n.final
        (cond (leb (value n) max_sum) (Went.found to (value n) (counted t)) (Went.halted SUM))
        (descend room f hi (child l m) n (stepped l ∷ s) (counted t)))

    module _ (room : ℕ) (e : node_in f l.addr ≡ sound m) (g : l.trans < length m.transitions)
        (deeper : (n : Node) → node_in f (next_trans l m).addr ≡ sound n → 0 < length n.transitions
        → again to (counted t) ≡ went_by (descend room f hi (child l m) n (stepped l ∷ s) (counted t))) where
      ways : (n : Node) → node_in f (next_trans l m).addr ≡ sound n → (c b o : Bool) → n.final ≡ b
          → cond c (ended (counted t)) (cond b (cond o (found to (value n) (counted t)) (halted SUM)) (again to (counted t)))
          ≡ went_by (cond c (passed (counted t)) (cond b (cond o (Went.found to (value n) (counted t)) (Went.halted SUM)) (descend room f hi (child l m) n (stepped l ∷ s) (counted t))))
      ways n en true b o eb = refl
      ways n en false true true eb = refl
      ways n en false true false eb = refl
      ways n en false false o eb = deeper n en (target_live f l.addr m (next_trans l m) e (at_member m.transitions l.trans g) n en eb)

      on_target : (b : Bool) (j : Judgement) → node_in f (next_trans l m).addr ≡ j
          → cond b (on_node j (turned again) (halted NODE)) (halted SUM) ≡ went_by (cond b (on_node j (descended room) (Went.halted NODE)) (Went.halted SUM))
      on_target false j ej = refl
      on_target true unsound ej = refl
      on_target true (sound n) ej =
          simp (any_fits (key_of (child l m ∷ stepped l ∷ s)), and_true n.final) (ways n ej (passes_test hi (key_of (child l m ∷ stepped l ∷ s))) n.final (leb (value n) max_sum) refl)

  -- down from a level that has a transition left
  plain_descend : (room : ℕ) (l : Level) (m : Node) (s : List Level) (t : ℕ) → max_path - length s ≡ room → node_in f l.addr ≡ sound m
      → l.trans < length m.transitions → again (l ∷ s) t ≡ went_by (descend room f hi l m s t)
  unfolding descend
  plain_descend zero l m s t z e g =
      walk_by_lem f any_rest hi (l ∷ s) t
      ∙ simp (e, lt-ltb l.trans (length m.transitions) g, any_start (key_of (l ∷ s)), le-ltb (length s) max_path (omega arith))
  plain_descend (suc room) l m s t z e g =
      walk_by_lem f any_rest hi (l ∷ s) t
      ∙ simp (e, lt-ltb l.trans (length m.transitions) g, any_start (key_of (l ∷ s)), lt-ltb (length s) max_path (omega arith))
      (on_target l m s t room e g (λ n en live. plain_descend room (child l m) n (stepped l ∷ s) (counted t) (omega arith) en live)
      (leb (l.out + (next_trans l m).out) max_sum) (node_in f (next_trans l m).addr) refl)

  -- what the pops lead to
  abbrev after_pops : ℕ → Popped → WentBy
  after_pops t (top l m s) = went_by (descend (max_path - length s) f hi l m s t)
  after_pops t used_up = ended t
  after_pops t bad = halted NODE

  pub plain_walk : (s : List Level) (t : ℕ) → again s t ≡ after_pops t (pop f s)
  unfolding pop
  plain_walk [] t = walk_by_lem f any_rest hi [] t
  plain_walk (l ∷ s) t = by (node_in f l.addr) refl (plain_walk s t)
    where
      at_node : (m : Node) → node_in f l.addr ≡ sound m → again s t ≡ after_pops t (pop f s) → (b : Bool) → ltb l.trans (length m.transitions) ≡ b
          → again (l ∷ s) t ≡ after_pops t (cond b (top l m s) (pop f s))
      at_node m e ih true eb = plain_descend (max_path - length s) l m s t refl e (ltb-true l.trans (length m.transitions) eb)
      at_node m e ih false eb = walk_by_lem f any_rest hi (l ∷ s) t ∙ simp (e, eb) ih

      by : (j : Judgement) → node_in f l.addr ≡ j → again s t ≡ after_pops t (pop f s)
          → again (l ∷ s) t ≡ after_pops t (on_node j (λ m. cond (ltb l.trans (length m.transitions)) (top l m s) (pop f s)) bad)
      by (sound m) e ih = at_node m e ih (ltb l.trans (length m.transitions)) refl
      by unsound e ih = walk_by_lem f any_rest hi (l ∷ s) t ∙ simp e

-- ---- a call

module _ (f : Fst) (r : View) where
  after_went : (w : Went) → after_walk r (went_by w) ≡ after_descend r w
  after_went (Went.found s v t) = refl
  after_went (passed t) = refl
  after_went (Went.halted n) = refl

  after_pops_lem : (o : Popped) → after_walk r (after_pops f r.bound r.total o) ≡ after_pop f r o
  after_pops_lem (top l m s) = after_went (descend (max_path - length s) f r.bound l m s r.total)
  after_pops_lem used_up = refl
  after_pops_lem bad = refl

  plain_pending : (e : Option ℕ) → pending_by f any_rest r e ≡ walk f r e
  unfolding fits_test
  plain_pending (some v) = refl
  plain_pending none = ap (after_walk r) (plain_walk f r.bound r.levels r.total) ∙ after_pops_lem (pop f r.levels)

pub plain_is_any_rest : (s : List ℕ) (r : View) (space : ℕ) → next_by s any_rest r space ≡ next s r space
unfolding next_by next
plain_is_any_rest s r space = by (opening s)
  where
    by : (o : Opening)
        → on_opened o
        (λ m.
        cond (state_test r (length s))
        (cond true (cond (leb max_path space) (pending_by (fst_of s m) any_rest r r.empty) (refuse r SPACE)) (refuse r PATTERN))
        (refuse r STATE))
        (λ n. refuse r n)
        ≡ on_opened o
        (λ m. cond (state_test r (length s)) (cond (leb max_path space) (walk (fst_of s m) r r.empty) (refuse r SPACE)) (refuse r STATE))
        (λ n. refuse r n)
    by (opened m) = ap (λ (x : Step). cond (state_test r (length s)) (cond (leb max_path space) x (refuse r SPACE)) (refuse r STATE)) (plain_pending (fst_of s m) r r.empty)
    by (Opening.refused n) = refl
