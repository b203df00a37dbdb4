-- A walk through a function's code by the rules of the kit's borrow checker, written as a chain of steps from the entry to the return. The borrow
-- checker writes such a walk itself, but for no function that has a reference to a struct; its rules hold for a slice whose elements have any type.
--     Knows                what a walk is told of the functions that are called
--     Runs K L Γ b Δ       the code b, with locals of the types L, from the context Γ: what is to be shown at entry (Φ), and the rules' derivation
--     Does K L Γ a Γ'      one statement, from Γ to Γ'
--     Turns L Γ Γ'         a step without code
--     standing             the context written out
--     _then_, _so_, _also_ a statement and the rest; a step without code and the rest; a statement and a step without code
--     part, blocks, loops, tests, skips, leaves, returns, last     the code's shape
-- Assumes the kit's logic (`Logic`), as its rules do.
use Rattle.std.specs.Prelude.{◌≡◌, Bool, List, [], ℕ}
use Rattle.std.proofs.Math.Option.{some}
use seplogic.Ra.Ura.{Ura}
use mir.Syntax.{Ty, Body, ty_bool, place, copy, seq, skip, exit, loop, block, cond, return}
use mir.Val.{vbool}
use prog.Wp.{Tables, spot_of}
use types.Logic.{Logic}
use borrow.Table.Row.{Cx, get_row}
use borrow.Table.Reads.{ReadsAs}
use borrow.Table.Typed.{Mo, Tf, TF, Outs, Typed, Stmt, Ghost, Leaves, the, at_next, at_exit, at_ret, exit_at, with_next, want_next, in_block₀, in_block, in_loop₀, LoopBy, s_seq, g_pre_lem, g_post, s_Typed, t_skip, t_exit, t_return, t_seq, t_block, t_loop_by}
use borrow.Rule.Scalar.{Φcond, t_cond}
use borrow.Fn.Frame.{EnvOf}

abbrev pub Knows : Type 2
Knows = (M : Type 1) (𝓤 : Ura M) (𝓛 : Logic 𝓤) → Tables 𝓤 𝓛.H → Type 1

pub record Runs (K : Knows) (L : List Ty) (Γ : Cx) (b : Body) (Δ : Outs) : Type 2 where
  pub Φ : TF Γ Δ
  pub typed : (M : Type 1) (𝓤 : Ura M) (𝓛 : Logic 𝓤) (𝓣 : Tables 𝓤 𝓛.H) → K M 𝓤 𝓛 𝓣 → (bs : List ℕ) → Typed 𝓛 𝓣 (EnvOf 𝓛 L bs) Γ b Δ Φ

pub record Does (K : Knows) (L : List Ty) (Γ : Cx) (a : Body) (Γ' : Cx) : Type 2 where
  pub φ : Tf Γ Γ'
  pub stmt : (M : Type 1) (𝓤 : Ura M) (𝓛 : Logic 𝓤) (𝓣 : Tables 𝓤 𝓛.H) → K M 𝓤 𝓛 𝓣 → (bs : List ℕ) → Stmt 𝓛 𝓣 (EnvOf 𝓛 L bs) Γ a Γ' φ

pub record Turns (L : List Ty) (Γ Γ' : Cx) : Type 2 where
  pub φ : Tf Γ Γ'
  pub ghost : (M : Type 1) (𝓤 : Ura M) (𝓛 : Logic 𝓤) (bs : List ℕ) → Ghost 𝓛 (EnvOf 𝓛 L bs) Γ Γ' φ

-- what follows is checked against Γ as it is written, and not against what the steps before it compute: in a long walk that is cheaper
abbrev pub standing : {K : Knows} {L : List Ty} (Γ : Cx) {b : Body} {Δ : Outs} → Runs K L Γ b Δ → Runs K L Γ b Δ
standing Γ w = w

-- ---- one after the other

abbrev pub ◌then◌ : {K : Knows} {L : List Ty} {Γ Γ₁ : Cx} {a b : Body} {Δ : Outs} → Does K L Γ a Γ₁ → Runs K L Γ₁ b Δ → Runs K L Γ (seq a b) Δ
◌then◌ {K} {L} {Γ} {Γ₁} {a} {b} {Δ} s w = record {
  Φ = λ Ψ. s.φ (w.Φ Ψ);
  typed = λ M 𝓤 𝓛 𝓣 k bs. s_seq 𝓛 𝓣 (EnvOf 𝓛 L bs) Γ Γ₁ a b Δ s.φ w.Φ (s.stmt M 𝓤 𝓛 𝓣 k bs) (w.typed M 𝓤 𝓛 𝓣 k bs);
}

abbrev pub ◌so◌ : {K : Knows} {L : List Ty} {Γ Γ₁ : Cx} {b : Body} {Δ : Outs} → Turns L Γ Γ₁ → Runs K L Γ₁ b Δ → Runs K L Γ b Δ
◌so◌ {K} {L} {Γ} {Γ₁} {b} {Δ} s w = record {
  Φ = λ Ψ. s.φ (w.Φ Ψ);
  typed = λ M 𝓤 𝓛 𝓣 k bs. g_pre_lem 𝓛 𝓣 (EnvOf 𝓛 L bs) Γ Γ₁ b Δ s.φ w.Φ (s.ghost M 𝓤 𝓛 bs) (w.typed M 𝓤 𝓛 𝓣 k bs);
}

abbrev pub ◌also◌ : {K : Knows} {L : List Ty} {Γ Γ₁ Γ₂ : Cx} {a : Body} → Does K L Γ a Γ₁ → Turns L Γ₁ Γ₂ → Does K L Γ a Γ₂
◌also◌ {K} {L} {Γ} {Γ₁} {Γ₂} {a} s g = record {
  φ = λ Ψ. s.φ (g.φ Ψ);
  stmt = λ M 𝓤 𝓛 𝓣 k bs. g_post 𝓛 𝓣 (EnvOf 𝓛 L bs) Γ Γ₁ Γ₂ a s.φ g.φ (s.stmt M 𝓤 𝓛 𝓣 k bs) (g.ghost M 𝓤 𝓛 bs);
}

infixr 5 ◌then◌ ◌so◌
infixl 6 ◌also◌
-- a part that may leave, and the rest, which begins at Γ₁
abbrev pub part : {K : Knows} {L : List Ty} {Γ : Cx} (Γ₁ : Cx) {a b : Body} {Δ : Outs} → Runs K L Γ a (with_next (some Γ₁) Δ) → Runs K L Γ₁ b Δ → Runs K L Γ (seq a b) Δ
part {K} {L} {Γ} Γ₁ {a} {b} {Δ} s w = record {
  Φ = λ Ψ. s.Φ (want_next Γ₁ Δ (w.Φ Ψ) Ψ);
  typed = λ M 𝓤 𝓛 𝓣 k bs. t_seq 𝓛 𝓣 (EnvOf 𝓛 L bs) Γ Γ₁ a b Δ s.Φ w.Φ (s.typed M 𝓤 𝓛 𝓣 k bs) (w.typed M 𝓤 𝓛 𝓣 k bs);
}

-- ---- the ends of a part

abbrev pub last : {K : Knows} {L : List Ty} {Γ : Cx} {a : Body} {Δ : Outs} → Leaves Δ.next → Does K L Γ a (the Δ.next) → Runs K L Γ a Δ
last {K} {L} {Γ} {a} {Δ} l s = record {
  Φ = λ Ψ. s.φ (at_next Δ Ψ);
  typed = λ M 𝓤 𝓛 𝓣 k bs. s_Typed 𝓛 𝓣 (EnvOf 𝓛 L bs) Γ a Δ s.φ l (s.stmt M 𝓤 𝓛 𝓣 k bs);
}

abbrev pub skips : {K : Knows} {L : List Ty} {Δ : Outs} → Leaves Δ.next → Runs K L (the Δ.next) skip Δ
skips {K} {L} {Δ} l = record { Φ = at_next Δ; typed = λ M 𝓤 𝓛 𝓣 k bs. t_skip 𝓛 𝓣 (EnvOf 𝓛 L bs) Δ l }

abbrev pub leaves : {K : Knows} {L : List Ty} {Δ : Outs} (n : ℕ) → Leaves (exit_at n Δ) → Runs K L (the (exit_at n Δ)) (exit n) Δ
leaves {K} {L} {Δ} n l = record { Φ = at_exit n Δ; typed = λ M 𝓤 𝓛 𝓣 k bs. t_exit 𝓛 𝓣 (EnvOf 𝓛 L bs) n Δ l }

abbrev pub returns : {K : Knows} {L : List Ty} {Δ : Outs} → Leaves Δ.returns → Runs K L (the Δ.returns) return Δ
returns {K} {L} {Δ} l = record { Φ = at_ret Δ; typed = λ M 𝓤 𝓛 𝓣 k bs. t_return 𝓛 𝓣 (EnvOf 𝓛 L bs) Δ l }

-- ---- blocks, tests and loops

abbrev pub blocks : {K : Knows} {L : List Ty} {Γ : Cx} {b : Body} {Δ : Outs} → Runs K L Γ b (in_block₀ Δ) → Runs K L Γ (block b) Δ
blocks {K} {L} {Γ} {b} {Δ} w = record {
  Φ = λ Ψ. w.Φ (in_block Δ Ψ);
  typed = λ M 𝓤 𝓛 𝓣 k bs. t_block 𝓛 𝓣 (EnvOf 𝓛 L bs) Γ b Δ w.Φ (w.typed M 𝓤 𝓛 𝓣 k bs);
}

-- the flag stands at nc
abbrev pub tests : {K : Knows} {L : List Ty} {Γ : Cx} {a b : Body} {Δ : Outs} (nc : ℕ) (t : (get_row nc Γ.locals).1.Mod → Bool)
    → ((M : Type 1) (𝓤 : Ura M) (𝓛 : Logic 𝓤) (bs : List ℕ)
    → ReadsAs 𝓛 (get_row nc Γ.locals).1 ty_bool (λ x. vbool (t x)) × ((spot_of 𝓤 𝓛.H (EnvOf 𝓛 L bs) (get_row nc Γ.locals).0).0 ≡ ty_bool))
    → Runs K L Γ a Δ → Runs K L Γ b Δ → Runs K L Γ (cond (copy (place (get_row nc Γ.locals).0 [])) a b) Δ
tests {K} {L} {Γ} {a} {b} {Δ} nc t side v w = record {
  Φ = Φcond Γ Δ nc t v.Φ w.Φ;
  typed = λ M 𝓤 𝓛 𝓣 k bs.
      let s = side M 𝓤 𝓛 bs in
      t_cond 𝓛 (EnvOf 𝓛 L bs) 𝓣 Γ nc t a b Δ v.Φ w.Φ s.0 s.1 (v.typed M 𝓤 𝓛 𝓣 k bs) (w.typed M 𝓤 𝓛 𝓣 k bs);
}

-- put writes what a turn may change; I is the invariant and μ the measure
abbrev pub loops : {K : Knows} {L : List Ty} {Hd : Cx} {b : Body} {Δ : Outs} {Vs : Type 0} (put : Vs → Mo Hd → Mo Hd) (I : Mo Hd → Vs → Type 0) (μ : Mo Hd → Vs → ℕ)
    → Runs K L Hd b (in_loop₀ Hd Δ) → Runs K L Hd (loop b) Δ
loops {K} {L} {Hd} {b} {Δ} put I μ w = record {
  Φ = LoopBy Hd Δ put I μ w.Φ;
  typed = λ M 𝓤 𝓛 𝓣 k bs. t_loop_by 𝓛 𝓣 (EnvOf 𝓛 L bs) Hd b Δ put I μ w.Φ (w.typed M 𝓤 𝓛 𝓣 k bs);
}
