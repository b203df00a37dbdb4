-- Steps of a walk on a local that holds an array, or another value whole.
--     repeats      `d = [v; n]`, v a literal
--     lends_local  `r = &mut x`, at a lifetime that has begun; x stands at nx, r at nr
--     backs_local  the lifetime has ended: x is back with what the callee left of r
-- Assumes the kit's logic.
use Rattle.std.specs.Prelude.{◌≡◌, List, [], ◌∷◌, ℕ, T}
use seplogic.Ra.Ura.{Ura}
use mir.Syntax.{Ty, ty_array, assign, place, addr_of, repeat}
use mir.Val.{WT, has_ty, vptr}
use prog.Wp.{spot_of}
use types.Logic.{Logic}
use Rattle.std.specs.Borrow.{RattleType, MutBor, Array}
use denote.Laws.{Is, Lawful, Copy, Makes}
use denote.Memory.{lone}
use borrow.Table.Row.{Cx, St, get_row, get_life, out, dead}
use borrow.Table.Rows.{whole, mref, mleft, sc_owed}
use borrow.Table.Reads.{ToRoom, As}
use borrow.Table.Typed.{ent₁, ent₂, pass}
use borrow.Rule.Scalar.{Oper, op_o, val_o, HasO, After}
use borrow.Rule.Local.{InMem, AfterLend, AfterBack, Φsc_borrow, Φback_sc, t_sc_borrow, g_back_sc, whole_mem}
use borrow.Rule.Array.Repeat.{n_repeat, t_repeat}
use borrow.Fn.Frame.{EnvOf}
use Rattle.walks.specs.Walk.{Knows, Does, Turns}

abbrev pub repeats : {K : Knows} {L : List Ty} {Γ : Cx} (R : RattleType) (n nd : ℕ) (x : Oper (out nd Γ.locals)) (v : R.Denot)
    → ((M : Type 1) (𝓤 : Ura M) (𝓛 : Logic 𝓤) (bs : List ℕ)
    → Lawful 𝓛 R × Copy 𝓛 R × Makes 𝓛 R (Is R) × ToRoom 𝓛 (get_row nd Γ.locals).1 (ty_array (lone R.mir) n) × HasO 𝓛 (EnvOf 𝓛 L bs) (out nd Γ.locals) x
    × ((spot_of 𝓤 𝓛.H (EnvOf 𝓛 L bs) (get_row nd Γ.locals).0).0 ≡ ty_array (lone R.mir) n))
    → ((m : St (out nd Γ.locals)) → WT (val_o (out nd Γ.locals) x m) → Is R v (val_o (out nd Γ.locals) x m ∷ []))
    → Does K L Γ (assign (place (get_row nd Γ.locals).0 []) (repeat (op_o (out nd Γ.locals) x) n)) (After Γ nd (whole (Array R n)))
repeats {K} {L} {Γ} R n nd x v side is = record {
  φ = pass Γ (After Γ nd (whole (Array R n))) (n_repeat R n Γ nd (λ m. v));
  stmt = λ M 𝓤 𝓛 𝓣 k bs.
      let s = side M 𝓤 𝓛 bs in
      t_repeat 𝓛 (EnvOf 𝓛 L bs) 𝓣 R s.0 s.1 s.2 n Γ nd x (λ m. v) s.3 s.4 s.5 is;
}

abbrev pub lends_local : {K : Knows} {L : List Ty} {Γ : Cx} (R : RattleType) (nx nr β : ℕ) (τ : Ty) (h : (ent₁ Γ nx nr).1.Mod → R.Denot)
    → ((M : Type 1) (𝓤 : Ura M) (𝓛 : Logic 𝓤) (bs : List ℕ)
    → InMem 𝓛 (ent₁ Γ nx nr).1 R h × ToRoom 𝓛 (ent₂ Γ nx nr).1 τ × ((spot_of 𝓤 𝓛.H (EnvOf 𝓛 L bs) (ent₂ Γ nx nr).0).0 ≡ τ))
    → ((b o : ℕ) → T (has_ty τ (vptr b o)))
    → Does K L Γ (assign (place (ent₂ Γ nx nr).0 []) (addr_of (place (ent₁ Γ nx nr).0 []))) (AfterLend Γ nx nr (sc_owed R β) (mref R τ β))
lends_local {K} {L} {Γ} R nx nr β τ h side ty = record {
  φ = Φsc_borrow Γ nx nr β R τ h;
  stmt = λ M 𝓤 𝓛 𝓣 k bs.
      let s = side M 𝓤 𝓛 bs in
      t_sc_borrow 𝓛 (EnvOf 𝓛 L bs) 𝓣 Γ nx nr β R τ h s.0 s.1 s.2 ty;
}

abbrev pub backs_local : {L : List Ty} {Γ : Cx} (R : RattleType) (nr nx β : ℕ) (τ : Ty) (ref : (ent₁ Γ nr nx).1.Mod → MutBor R.Denot) (due : (ent₂ Γ nr nx).1.Mod → ℕ)
    → ((M : Type 1) (𝓤 : Ura M) (𝓛 : Logic 𝓤) → As 𝓛 (ent₁ Γ nr nx).1 (mleft R τ) ref × As 𝓛 (ent₂ Γ nr nx).1 (sc_owed R β) due)
    → get_life β Γ.slots ≡ dead → Turns L Γ (AfterBack Γ nr nx β τ (whole R))
backs_local {L} {Γ} R nr nx β τ ref due side e = record {
  φ = Φback_sc Γ nr nx β R τ (whole R) ref due (λ y. y);
  ghost = λ M 𝓤 𝓛 bs.
      let s = side M 𝓤 𝓛 in
      g_back_sc 𝓛 (EnvOf 𝓛 L bs) Γ nr nx β R τ (whole R) ref due (λ y. y) s.0 s.1 (whole_mem 𝓛 R) e;
}
