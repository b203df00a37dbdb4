-- Steps of a walk on locals that hold a number, a flag or a struct. What a rule asks of the rows where it stands is given with the step.
--     computes     `d = a op b`
--     copies       `d = a`
--     drops        a local is given up
-- Assumes the kit's logic.
use Rattle.std.specs.Prelude.{◌≡◌, List, [], ℕ, T}
use seplogic.Ra.Ura.{Ura}
use mir.Syntax.{Ty, Op2, assign, place, rv_opd, op2}
use mir.Val.{Val, has_ty, op2_val}
use prog.Wp.{spot_of}
use types.Logic.{Logic}
use borrow.Table.Row.{Row, Cx, get_row}
use borrow.Table.Rows.{any_gone}
use borrow.Table.Reads.{ToRoom}
use borrow.Table.Typed.{Mo, pass}
use borrow.Rule.Scalar.{Holds, Oper, op_o, val_o, HasO, After, Φuse, Φop2, n_room, t_use, t_op2, g_room}
use borrow.Fn.Frame.{EnvOf}
use Rattle.walks.specs.Walk.{Knows, Does, Turns}

abbrev pub computes : {K : Knows} {L : List Ty} {Γ : Cx} (o : Op2) (x y : Oper Γ.locals) (nd : ℕ) (r' : Row) (τ : Ty) (f : r'.Mod → Val) (of : Val → r'.Mod)
    → ((M : Type 1) (𝓤 : Ura M) (𝓛 : Logic 𝓤) (bs : List ℕ)
    → HasO 𝓛 (EnvOf 𝓛 L bs) Γ.locals x × HasO 𝓛 (EnvOf 𝓛 L bs) Γ.locals y × ToRoom 𝓛 (get_row nd Γ.locals).1 τ × Holds 𝓛 r' τ f
    × ((spot_of 𝓤 𝓛.H (EnvOf 𝓛 L bs) (get_row nd Γ.locals).0).0 ≡ τ))
    → ((u : Mo Γ) → f (of (op2_val o (val_o Γ.locals x u) (val_o Γ.locals y u))) ≡ op2_val o (val_o Γ.locals x u) (val_o Γ.locals y u))
    → ((u : Mo Γ) → T (has_ty τ (op2_val o (val_o Γ.locals x u) (val_o Γ.locals y u))))
    → Does K L Γ (assign (place (get_row nd Γ.locals).0 []) (op2 o (op_o Γ.locals x) (op_o Γ.locals y))) (After Γ nd r')
computes {K} {L} {Γ} o x y nd r' τ f of side sh ty = record {
  φ = Φop2 Γ o x y nd r' of;
  stmt = λ M 𝓤 𝓛 𝓣 k bs.
      let s = side M 𝓤 𝓛 bs in
      t_op2 𝓛 (EnvOf 𝓛 L bs) 𝓣 Γ o x y nd r' τ f of s.0 s.1 s.2 s.3 s.4 sh ty;
}

abbrev pub copies : {K : Knows} {L : List Ty} {Γ : Cx} (x : Oper Γ.locals) (nd : ℕ) (r' : Row) (τ : Ty) (f : r'.Mod → Val) (of : Val → r'.Mod)
    → ((M : Type 1) (𝓤 : Ura M) (𝓛 : Logic 𝓤) (bs : List ℕ)
    → HasO 𝓛 (EnvOf 𝓛 L bs) Γ.locals x × ToRoom 𝓛 (get_row nd Γ.locals).1 τ × Holds 𝓛 r' τ f
    × ((spot_of 𝓤 𝓛.H (EnvOf 𝓛 L bs) (get_row nd Γ.locals).0).0 ≡ τ))
    → ((u : Mo Γ) → f (of (val_o Γ.locals x u)) ≡ val_o Γ.locals x u) → ((u : Mo Γ) → T (has_ty τ (val_o Γ.locals x u)))
    → Does K L Γ (assign (place (get_row nd Γ.locals).0 []) (rv_opd (op_o Γ.locals x))) (After Γ nd r')
copies {K} {L} {Γ} x nd r' τ f of side sh ty = record {
  φ = Φuse Γ x nd r' of;
  stmt = λ M 𝓤 𝓛 𝓣 k bs.
      let s = side M 𝓤 𝓛 bs in
      t_use 𝓛 (EnvOf 𝓛 L bs) 𝓣 Γ x nd r' τ f of s.0 s.1 s.2 s.3 sh ty;
}

abbrev pub drops : {L : List Ty} {Γ : Cx} (n : ℕ) (τ : Ty) → ((M : Type 1) (𝓤 : Ura M) (𝓛 : Logic 𝓤) → ToRoom 𝓛 (get_row n Γ.locals).1 τ)
    → Turns L Γ (After Γ n (any_gone τ))
drops {L} {Γ} n τ room = record {
  φ = pass Γ (After Γ n (any_gone τ)) (n_room Γ n τ);
  ghost = λ M 𝓤 𝓛 bs. g_room 𝓛 (EnvOf 𝓛 L bs) Γ n τ (room M 𝓤 𝓛);
}
