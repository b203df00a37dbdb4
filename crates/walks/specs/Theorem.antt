-- The theorem of a function that is walked, and what its callers are told. Its contract is one fact of what it is given, or none, and one of what it leaves.
--     free_spec             a contract that asks nothing
--     Shown                what is left to show of a walk: at entry, from what the contract asks
--     meets, meets_free    the function meets its contract
--     known, known_free    so a caller may take it for known
-- Assumes the kit's logic.
use Prim.{Unit}
use Rattle.std.specs.Prelude.{◌≡◌, refl, List, [], ◌∷◌, ℕ}
use seplogic.Ra.Ura.{Ura}
use mir.Syntax.{Ty, Home, Body}
use prog.Model.{Model}
use prog.Routine.{Callee, Routine}
use prog.Routine as routine
use prog.Wp.{Closed}
use base.Logic.{sep, emp, id⊢, via, mono_r}
use types.Logic.{Logic}
use contract.Lifetimes.{Lfts, Shares}
use contract.Monad.{fact, fact_i}
use contract.Running.{Running, tables}
use denote.Ask.Run.{routine_mono}
use denote.Triple.Spec.{Meets}
use denote.Triple.Statement.{Triple}
use denote.Triple.Entry.{on_entry}
use denote.Signature.{Signature}
use denote.Triple.Clauses.{Clauses, AtExit, closing}
use denote.Triple.Walked.{Walks, walk_Meets}
use borrow.Fn.Kind.{ParamKind, ResultKind}
use borrow.Fn.Kinds.{In, Out, Dens, GoodsP, ty_r, ended_of, stays}
use borrow.Fn.Enter.{tys_p}
use borrow.Fn.Any.{want_q}
use borrow.Fn.Learn.{no_pin, no_pins, no_own}
use borrow.Fn.Read.{Read, all_models, r_last, r_top}
use borrow.Fn.World.{World, Pr, ArgsD, ResD}
use borrow.Fn.Written.{Base, cited}
use borrow.Fn.Function.{S, Γin, Δret, init, fn_of, plain_spec, plain_of, go_p}
use borrow.Fn.Run.{Over}
use borrow.Fn.Plain.{Known, t_fn_plain}
use borrow.Fn.PlainRun.{plain_entry}
use Rattle.walks.specs.Walk.{Knows, Runs}

abbrev pub free_spec : {M : Type 1} (𝓤 : Ura M) (n : ℕ) (ps : List (ParamKind n)) (r : ResultKind n) → Out n ps r → Clauses 𝓤 (ended_of n ps r)
free_spec 𝓤 n ps r Post κs a = record { ghost = Unit {0}; requires = λ _. emp 𝓤; ensures = λ _ x e. fact 𝓤 (Post κs a x e) }

-- ---- the function's side

module _ (K : Knows) (n : ℕ) (ps : List (ParamKind n)) (r : ResultKind n) (xs : List Ty) (m : ℕ) (hs : List Home) (body : Body)
    (walk : (κs : Lfts n) (qs : Shares n) → Runs K (ty_r r ∷ tys_p ps xs) (Γin n ps r xs m κs qs) body (Δret n ps r xs m κs qs)) where
  abbrev pub Shown : In n ps → Out n ps r → Type 0
  Shown Pre Post = (κs : Lfts n) (qs : Shares n) (a : Dens κs ps) → GoodsP κs ps a → Pre κs a → (walk κs qs).Φ (want_q n ps r xs m κs qs a (Post κs a)) (init n ps r xs m κs qs a)

  module _ (Pre : In n ps) (Post : Out n ps r) (shown : Shown Pre Post) {M : Type 1} {𝓤 : Ura M} (𝓛 : Logic 𝓤) (𝓜 : Model 𝓤 𝓛.H) (𝓡 : Running 𝓤 𝓛.H 𝓜) (γ : routine.Env)
      (k : Callee) (closed : Closed 𝓤 𝓛.H (tables 𝓤 𝓛.H 𝓜 𝓡 γ).C (tables 𝓤 𝓛.H 𝓜 𝓡 γ).Λ k (fn_of n ps r xs m hs body)) (told : K M 𝓤 𝓛 (Over 𝓛 𝓜 𝓡 γ)) where
    open 𝓛 use {H}

    plain : Triple 𝓤 (𝓡.run (γ k)) (plain_of 𝓛 n ps r Pre Post)
    plain =
        let 𝓣 = Over 𝓛 𝓜 𝓡 γ in
        plain_entry 𝓛 𝓜 𝓡 γ n ps r Pre Post k (fn_of n ps r xs m hs body) closed
        (t_fn_plain 𝓛 𝓣 n ps r xs m hs body (λ κs qs bs. (walk κs qs).Φ) (λ κs qs bs bd. (walk κs qs).typed M 𝓤 𝓛 𝓣 told bs) Pre Post (λ κs qs a g p bs. shown κs qs a g p))

    meets_by : (c : Clauses 𝓤 (ended_of n ps r)) → Walks 𝓛 (ended_of n ps r) (stays ps) (𝓡.run (γ k)) c
        → Meets 𝓛 (ended_of n ps r).signature (𝓡.run (γ k)) (closing 𝓛 (ended_of n ps r) c)
    meets_by c w =
        walk_Meets 𝓛 (ended_of n ps r) (stays ps) (go_p 𝓛 ps) c (𝓡.run (γ k)) (routine_mono 𝓤 H 𝓜 𝓡 (γ k)) w

    pub meets : Meets 𝓛 (ended_of n ps r).signature (𝓡.run (γ k)) (closing 𝓛 (ended_of n ps r) (plain_spec 𝓤 n ps r Pre Post))
    meets = meets_by (plain_spec 𝓤 n ps r Pre Post) plain

    pub meets_free : ((κs : Lfts n) (a : Dens κs ps) → Pre κs a) → Meets 𝓛 (ended_of n ps r).signature (𝓡.run (γ k)) (closing 𝓛 (ended_of n ps r) (free_spec 𝓤 n ps r Post))
    meets_free always = meets_by (free_spec 𝓤 n ps r Post) (λ y.
        let On = on_entry 𝓛 (ended_of n ps r).signature y.0.0 y.0.1 y.0.3 y.0.4 in
        via 𝓤 (sep 𝓤 On (fact 𝓤 (Pre y.0.0 y.0.3))) (mono_r 𝓤 On (fact_i 𝓤 (Pre y.0.0 y.0.3) (emp 𝓤) (always y.0.0 y.0.3))) (plain y))

-- ---- the caller's side

module _ (n : ℕ) (ps : List (ParamKind n)) (r : ResultKind n) (Post : Out n ps r) where
  abbrev Sg : Signature
  Sg = S n ps r [] 0

  abbrev left : (κs : Lfts n) → ArgsD Sg κs → Unit {0} → ResD Sg κs → AtExit (ended_of n ps r) κs → (w : World) → Pr w
  left κs a g z e w = fact w.𝓤 (Post κs a z e)

  abbrev no_pin_at : (κs : Lfts n) → ArgsD Sg κs → (w : World) → Type 1
  no_pin_at κs = no_pin Sg κs

  abbrev no_own_at : (κs : Lfts n) → ResD Sg κs → AtExit (ended_of n ps r) κs → (w : World) → Type 1
  no_own_at κs = no_own (ended_of n ps r) κs

  read_left : (κs : Lfts n) (a : ArgsD Sg κs) (g : Unit {0}) (z : ResD Sg κs) (e : AtExit (ended_of n ps r) κs) → Read (Base n ps r no_pin_at κs a) (no_own_at κs z e) (left κs a g z e)
  read_left κs a g z e = all_models (λ w. fact w.𝓤 (Post κs a z e)) (λ w. r_last (Post κs a z e)) (λ w. refl) (λ w. refl) (λ w. refl)

  pub known : (Pre : In n ps) (w : World) (γ : routine.Env) (k : Callee) (ρ : Routine) → γ k ≡ ρ
      → Meets w.𝓛 (ended_of n ps r).signature (w.𝓡.run ρ) (closing w.𝓛 (ended_of n ps r) (plain_spec w.𝓤 n ps r Pre Post))
      → Known w.𝓛 (Over w.𝓛 w.𝓜 w.𝓡 γ) n ps r Pre Post k
  unfolding read_left
  known Pre w γ k ρ same met =
      cited n ps r (Unit {0}) (λ κs a g w'. fact w'.𝓤 (Pre κs a)) left
      (λ κs a g. all_models (λ w'. fact w'.𝓤 (Pre κs a)) (λ w'. r_last (Pre κs a)) (λ w'. refl) (λ w'. refl) (λ w'. refl)) no_pin_at no_own_at read_left w γ k ρ same (λ κs a. tt)
      (λ κs a. id⊢ w.𝓤 (emp w.𝓤)) (λ κs a z ws ft p. tt) (λ κs. no_pins Sg κs w) met

  pub known_free : (w : World) (γ : routine.Env) (k : Callee) (ρ : Routine) → γ k ≡ ρ
      → Meets w.𝓛 (ended_of n ps r).signature (w.𝓡.run ρ) (closing w.𝓛 (ended_of n ps r) (free_spec w.𝓤 n ps r Post))
      → Known w.𝓛 (Over w.𝓛 w.𝓜 w.𝓡 γ) n ps r (λ κs a. Unit {0}) Post k
  unfolding read_left
  known_free w γ k ρ same met =
      cited n ps r (Unit {0}) (λ κs a g w'. emp w'.𝓤) left
      (λ κs a g. all_models (λ w'. emp w'.𝓤) (λ w'. r_top) (λ w'. refl) (λ w'. refl) (λ w'. refl)) no_pin_at no_own_at read_left w γ k ρ same (λ κs a. tt)
      (λ κs a. id⊢ w.𝓤 (emp w.𝓤)) (λ κs a z ws ft p. tt) (λ κs. no_pins Sg κs w) met
