-- Steps of a walk on a lent slice whose elements have any Copy type R of one machine value, as a struct of numbers. What a rule asks of the rows
-- where it stands is given with the step.
--     stores       `*q = y`, where q points at an element and the local y holds a value of R
--     takes        `d = *q`
--     begins, relends, bundles_as  a lifetime begins, and the slice is lent on in it: its pointer, then the slice that a callee is handed
--     calls        a call of a function that is known
--     relends_one, backs_one       the same of a reference to an array; reshares, backs_shared: of a slice lent on as `&`
--     ends, backs, forgets         the lifetime ends, the slice is back with what the callee left, and the lifetime's name is free again
-- Assumes the kit's logic.
use Prim.{Unit}
use Rattle.std.specs.Prelude.{◌≡◌, refl, List, [], ◌∷◌, ℕ, zero, T}
use Rattle.std.proofs.Common.{sym, subst}
use Rattle.std.proofs.Math.Option.{some}
use seplogic.Ra.Ura.{Ura}
use mir.Syntax.{w64, Ty, ty_int, ty_ptr, tcons, tnil, assign, call, place, field, deref, copy, rv_opd, addr_of, aggregate}
use mir.Raw.{raw as raw_ty}
use prog.Memory.{field_at, field_of}
use mir.Val.{has_ty, vptr}
use prog.Wp.{Tables, spot_of}
use types.Logic.{Logic}
use Rattle.std.specs.Borrow.{RattleType, MutBor}
use denote.Laws.{Copy}
use denote.RattleType.{RowLaws}
use denote.Memory.{mem, lone}
use denote.Slice.{slice_ty, slice_val}
use borrow.Table.Row.{Rho, Cx, Life, IsTok, alive, dead, off, s_ptr, Fresh, get_row, get_life, set_life}
use borrow.Table.Rows.{sc_here, whole, mref, mref_owed, mleft}
use borrow.Table.Elements.{at}
use borrow.Table.OneValue.{One}
use borrow.Table.Own.{Told}
use borrow.Table.Reads.{ToRoom, As}
use borrow.Table.Typed.{Mo, Stmt, tab₂, ent₁, ent₂, pass, both}
use borrow.Rule.Scalar.{Oper, op_o, HasO}
use borrow.Rule.DerefMove.{Learns-nothing}
use borrow.Rule.Reborrow.{Relent, Back, Φmref_relend, Φback_mref, t_mref_relend, g_Back_mref}
use borrow.Rule.Slice.Reshare.{mslice_owed_s, AfterReshare, AfterBackShr, Φsl_reshare, Φback_sl_shr, t_sl_reshare_as, g_back_sl_shr}
use borrow.Rule.Lifetime.{Begun, Ended, Forgot, g_begin, g_end, g_forget}
use borrow.Rule.Yields.{Yields, Makes, Told-none}
use borrow.Rule.Slice.Shared.{by_size}
use borrow.Rule.Slice.Mut.{mslice, msleft}
use borrow.Rule.Slice.Move.{AfterSl, Φsl_set_from, Φsl_copy_out, t_sl_set_from, t_sl_copy_out}
use borrow.Rule.Slice.Relend.{Owns, slptr, mslice_owed, AfterLend, AfterAgg, AfterBack, Φsl_relend, Φsl_aggregate, Φback_sl, t_sl_relend, t_sl_aggregate, g_back_sl}
use borrow.Rule.Array.Share.{LendsEach}
use borrow.Rule.Token.Call.{HasH}
use borrow.Rule.Token.Open.{Takes-whole}
use borrow.Fn.Kind.{ParamKind, ResultKind}
use borrow.Fn.Kinds.{In, Out, DestOk, ty_rc}
use borrow.Fn.Args.{ArgsT, Has, ops_v, outs_m}
use borrow.Fn.Call.{call_b, Γafter, sub_id}
use borrow.Fn.Plain.{Known, t_call_plain}
use borrow.Fn.Frame.{EnvOf}
use Rattle.walks.specs.Walk.{Knows, Does, Turns}

abbrev None : Rho → Type 0
None ρ = Unit {0}

-- ---- elements; k is an element's size

module _ {K : Knows} {L : List Ty} {Γ : Cx} (R : RattleType) (one : One R) (ns nq ny α k : ℕ) (τ υ δ : Ty) (idx : Mo Γ → ℕ) (hs : (ent₁ Γ ns nq).1.Mod → MutBor (List R.Denot))
    (hq : (ent₂ Γ ns nq).1.Mod → ℕ × ℕ) (lies : (i o : ℕ) → at o (mem R).size i ≡ by_size k i o) (eδ : raw_ty δ ≡ raw_ty (lone R.mir)) (eυ : raw_ty υ ≡ raw_ty (lone R.mir))
    (tok : IsTok (get_life α Γ.slots)) where
  abbrev pub stores : (hy : (get_row ny (tab₂ Γ ns nq)).1.Mod → R.Denot)
      → ((M : Type 1) (𝓤 : Ura M) (𝓛 : Logic 𝓤) (bs : List ℕ)
      → As 𝓛 (ent₁ Γ ns nq).1 (mslice R τ α) hs × As 𝓛 (ent₂ Γ ns nq).1 (sc_here s_ptr) hq × Yields 𝓛 None υ (get_row ny (tab₂ Γ ns nq)).1 (whole R) R hy hy
      × ((spot_of 𝓤 𝓛.H (EnvOf 𝓛 L bs) (ent₂ Γ ns nq).0).0 ≡ ty_ptr) × ((spot_of 𝓤 𝓛.H (EnvOf 𝓛 L bs) (get_row ny (tab₂ Γ ns nq)).0).0 ≡ υ))
      → Does K L Γ (assign (place (ent₂ Γ ns nq).0 (deref δ ∷ [])) (rv_opd (copy (place (get_row ny (tab₂ Γ ns nq)).0 [])))) (AfterSl R Γ ns nq ny α τ (get_life α Γ.slots) (whole R))
  stores hy side = record {
    φ = Φsl_set_from R Γ ns nq ny α τ (get_life α Γ.slots) (whole R) (by_size k) idx hs hq hy hy;
    stmt = λ M 𝓤 𝓛 𝓣 kn bs.
        let s = side M 𝓤 𝓛 bs in
        t_sl_set_from 𝓛 (EnvOf 𝓛 L bs) R 𝓣 one None Γ ns nq ny α τ (get_life α Γ.slots) δ υ (whole R) (by_size k) idx hs hq hy hy lies eδ eυ (Told-none 𝓛 Γ.slots) s.0 s.1 s.2 refl tok s.3 s.4;
  }

  -- past is what stands for an element beyond the end, which is never read
  abbrev pub takes : (past : R.Denot)
      → ((M : Type 1) (𝓤 : Ura M) (𝓛 : Logic 𝓤) (bs : List ℕ)
      → Copy 𝓛 R × As 𝓛 (ent₁ Γ ns nq).1 (mslice R τ α) hs × As 𝓛 (ent₂ Γ ns nq).1 (sc_here s_ptr) hq × ToRoom 𝓛 (get_row ny (tab₂ Γ ns nq)).1 υ × Makes 𝓛 None υ (whole R) R (λ x. x)
      × ((spot_of 𝓤 𝓛.H (EnvOf 𝓛 L bs) (ent₂ Γ ns nq).0).0 ≡ ty_ptr) × ((spot_of 𝓤 𝓛.H (EnvOf 𝓛 L bs) (get_row ny (tab₂ Γ ns nq)).0).0 ≡ υ))
      → Does K L Γ (assign (place (get_row ny (tab₂ Γ ns nq)).0 []) (rv_opd (copy (place (ent₂ Γ ns nq).0 (deref δ ∷ []))))) (AfterSl R Γ ns nq ny α τ (get_life α Γ.slots) (whole R))
  takes past side = record {
    φ = Φsl_copy_out R Γ ns nq ny α τ (get_life α Γ.slots) (whole R) (by_size k) idx (λ x. x) past (λ x. Unit {0}) hs hq;
    stmt = λ M 𝓤 𝓛 𝓣 kn bs.
        let s = side M 𝓤 𝓛 bs in
        t_sl_copy_out 𝓛 (EnvOf 𝓛 L bs) R 𝓣 one s.0 None Γ ns nq ny α τ (get_life α Γ.slots) δ υ (whole R) (by_size k) idx (λ x. x) past (λ x. Unit {0}) hs hq lies eδ eυ (Told-none 𝓛 Γ.slots) (Learns-nothing 𝓛 R) s.1 s.2 s.3 s.4 refl tok s.5 s.6;
  }

-- ---- a slice lent on for a call, and back. It stands at nm, at the lifetime α; the new lifetime is β

abbrev pub begins : {L : List Ty} {Γ : Cx} (β : ℕ) → Fresh β Γ.locals → Turns L Γ (Begun Γ β)
begins {L} {Γ} β fresh = record { φ = pass Γ (Begun Γ β) (λ u. u); ghost = λ M 𝓤 𝓛 bs. g_begin 𝓛 (EnvOf 𝓛 L bs) Γ β fresh }

-- the pointer goes to nd
abbrev pub relends : {K : Knows} {L : List Ty} {Γ : Cx} (R : RattleType) (nm nd α β : ℕ) (τ τ' : Ty) (hm : (ent₁ Γ nm nd).1.Mod → MutBor (List R.Denot))
    → ((M : Type 1) (𝓤 : Ura M) (𝓛 : Logic 𝓤) (bs : List ℕ)
    → As 𝓛 (ent₁ Γ nm nd).1 (mslice R τ α) hm × ToRoom 𝓛 (ent₂ Γ nm nd).1 τ' × (field_of (spot_of 𝓤 𝓛.H (EnvOf 𝓛 L bs) (ent₁ Γ nm nd).0).0 0 ≡ some (τ, 0))
    × ((spot_of 𝓤 𝓛.H (EnvOf 𝓛 L bs) (ent₂ Γ nm nd).0).0 ≡ τ'))
    → field_at zero (tcons τ (tcons (ty_int w64) tnil)) 0 ≡ some (τ, 0) → ((b o : ℕ) → T (has_ty τ' (vptr b o))) → IsTok (get_life α Γ.slots)
    → Does K L Γ (assign (place (ent₂ Γ nm nd).0 []) (addr_of (place (ent₁ Γ nm nd).0 (field 0 ∷ deref (lone R.mir) ∷ [])))) (AfterLend R Γ nm nd α β τ τ' (get_life α Γ.slots))
relends {K} {L} {Γ} R nm nd α β τ τ' hm side e ty tok = record {
  φ = Φsl_relend R Γ nm nd α β τ τ' (get_life α Γ.slots) hm;
  stmt = λ M 𝓤 𝓛 𝓣 k bs.
      let s = side M 𝓤 𝓛 bs in
      t_sl_relend 𝓛 (EnvOf 𝓛 L bs) R 𝓣 Γ nm nd α β τ τ' (get_life α Γ.slots) 0 hm s.0 s.1 refl tok s.2 e s.3 ty;
}

-- the pointer at np and the length n make the slice at nd, which is lent as O says: `as_mut R` or `as_shr R`
abbrev pub bundles_as : {K : Knows} {L : List Ty} {Γ : Cx} (R : RattleType) (O : Owns R) (np nd β : ℕ) (τ : Ty) (hp : (ent₁ Γ np nd).1.Mod → O.Of) (n : Oper (tab₂ Γ np nd))
    → ((M : Type 1) (𝓤 : Ura M) (𝓛 : Logic 𝓤) (bs : List ℕ)
    → As 𝓛 (ent₁ Γ np nd).1 (slptr R O τ β) hp × ToRoom 𝓛 (ent₂ Γ np nd).1 (slice_ty τ) × HasO 𝓛 (EnvOf 𝓛 L bs) (tab₂ Γ np nd) n
    × ((spot_of 𝓤 𝓛.H (EnvOf 𝓛 L bs) (ent₁ Γ np nd).0).0 ≡ τ) × ((spot_of 𝓤 𝓛.H (EnvOf 𝓛 L bs) (ent₂ Γ np nd).0).0 ≡ slice_ty τ))
    → ((b o k : ℕ) → T (has_ty (slice_ty τ) (slice_val (b, o) k)))
    → Does K L Γ (assign (place (ent₂ Γ np nd).0 []) (aggregate (copy (place (ent₁ Γ np nd).0 []) ∷ op_o (tab₂ Γ np nd) n ∷ []))) (AfterAgg R O Γ np nd β τ τ)
bundles_as {K} {L} {Γ} R O np nd β τ hp n side ty = record {
  φ = Φsl_aggregate R O Γ np nd β τ τ hp n;
  stmt = λ M 𝓤 𝓛 𝓣 k bs.
      let s = side M 𝓤 𝓛 bs in
      t_sl_aggregate 𝓛 (EnvOf 𝓛 L bs) R 𝓣 O Γ np nd β τ τ hp n s.0 s.1 s.2 s.3 s.4 ty;
}

abbrev pub ends : {L : List Ty} {Γ : Cx} (β : ℕ) → get_life β Γ.slots ≡ alive → Turns L Γ (Ended Γ β)
ends {L} {Γ} β e = record { φ = pass Γ (Ended Γ β) (λ u. u); ghost = λ M 𝓤 𝓛 bs. g_end 𝓛 (EnvOf 𝓛 L bs) Γ β e }

-- what the callee left of the slice stands at nd; the lender's lifetime was l
abbrev pub backs : {L : List Ty} {Γ : Cx} (R : RattleType) (nd nm α β : ℕ) (τ τ' : Ty) (l : Life) (hd : (ent₁ Γ nd nm).1.Mod → MutBor (List R.Denot)) (hm : (ent₂ Γ nd nm).1.Mod → MutBor (List R.Denot) × ℕ)
    → ((M : Type 1) (𝓤 : Ura M) (𝓛 : Logic 𝓤) → As 𝓛 (ent₁ Γ nd nm).1 (msleft R τ') hd × As 𝓛 (ent₂ Γ nd nm).1 (mslice_owed R τ α β l) hm)
    → get_life β Γ.slots ≡ dead → get_life α (set_life β dead (set_life β off Γ.slots)) ≡ off → Turns L Γ (AfterBack R Γ nd nm α β τ τ' l)
backs {L} {Γ} R nd nm α β τ τ' l hd hm side e e' = record {
  φ = Φback_sl R Γ nd nm α β τ τ' l hd hm;
  ghost = λ M 𝓤 𝓛 bs.
      let s = side M 𝓤 𝓛 in
      g_back_sl 𝓛 (EnvOf 𝓛 L bs) R Γ nd nm α β τ τ' l hd hm s.0 s.1 e e';
}

abbrev pub forgets : {L : List Ty} {Γ : Cx} (β : ℕ) (l : Life) → get_life β Γ.slots ≡ l → Turns L Γ (Forgot Γ β)
forgets {L} {Γ} β l e = record { φ = pass Γ (Forgot Γ β) (λ u. u); ghost = λ M 𝓤 𝓛 bs. g_forget 𝓛 (EnvOf 𝓛 L bs) Γ β l e }

-- ---- a call of a function that is known; the result goes to nd, whose type is τ

module _ {n : ℕ} (ps : List (ParamKind n)) (r : ResultKind n) (P : In n ps) (Q : Out n ps r) (name : mir.Syntax.Callee) where
  abbrev pub Callee : Knows
  Callee M 𝓤 𝓛 𝓣 = Known 𝓛 𝓣 n ps r P Q name

  abbrev pub calls : {K : Knows} {L : List Ty} {Γ : Cx} (ar : ArgsT ps Γ.locals) (nd : ℕ) (βs : List ℕ) (τ : Ty)
      → ((M : Type 1) (𝓤 : Ura M) (𝓛 : Logic 𝓤) (𝓣 : Tables 𝓤 𝓛.H) → K M 𝓤 𝓛 𝓣 → Callee M 𝓤 𝓛 𝓣)
      → ((M : Type 1) (𝓤 : Ura M) (𝓛 : Logic 𝓤) (bs : List ℕ)
      → Has 𝓛 (EnvOf 𝓛 L bs) n βs (λ pos β. β) ps Γ.locals ar × ToRoom 𝓛 (get_row nd (outs_m ps Γ.locals ar)).1 (ty_rc r τ)
      × ((spot_of 𝓤 𝓛.H (EnvOf 𝓛 L bs) (get_row nd (outs_m ps Γ.locals ar)).0).0 ≡ τ))
      → HasH n βs Γ.slots → DestOk r βs τ → Does K L Γ (call name (ops_v ps Γ.locals ar) (place (get_row nd (outs_m ps Γ.locals ar)).0 [])) (Γafter ps r Γ ar nd βs τ)
  calls {K} {L} {Γ} ar nd βs τ known side held dest = record {
    φ = both (call_b ps r P Q Γ ar nd βs τ);
    stmt = λ M 𝓤 𝓛 𝓣 k bs.
        let s = side M 𝓤 𝓛 bs in
        let E = EnvOf 𝓛 L bs in
        let to = (get_row nd (outs_m ps Γ.locals ar)).0 in
        subst (λ (υ : Ty). Stmt 𝓛 𝓣 E Γ (call name (ops_v ps Γ.locals ar) (place to [])) (Γafter ps r Γ ar nd βs υ) (both (call_b ps r P Q Γ ar nd βs υ))) s.2
        (t_call_plain 𝓛 𝓣 n ps r P Q name (known M 𝓤 𝓛 𝓣 k) E (λ pos β. β) Γ ar nd βs (sub_id 𝓛 Γ.slots) s.0
        (subst (λ (υ : Ty). ToRoom 𝓛 (get_row nd (outs_m ps Γ.locals ar)).1 (ty_rc r υ)) (sym s.2) s.1) held (subst (DestOk r βs) (sym s.2) dest));
  }

-- ---- the same of a reference to an array or a number, `&mut *m`: it stands at nm, the new one at nd

abbrev pub relends_one : {K : Knows} {L : List Ty} {Γ : Cx} (R : RattleType) (nm nd α β : ℕ) (σ τ τ' : Ty) (h : (ent₁ Γ nm nd).1.Mod → MutBor R.Denot)
    → ((M : Type 1) (𝓤 : Ura M) (𝓛 : Logic 𝓤) (bs : List ℕ)
    → As 𝓛 (ent₁ Γ nm nd).1 (mref R τ α) h × ToRoom 𝓛 (ent₂ Γ nm nd).1 τ' × ((spot_of 𝓤 𝓛.H (EnvOf 𝓛 L bs) (ent₁ Γ nm nd).0).0 ≡ τ) × ((spot_of 𝓤 𝓛.H (EnvOf 𝓛 L bs) (ent₂ Γ nm nd).0).0 ≡ τ'))
    → ((b o : ℕ) → T (has_ty τ' (vptr b o))) → IsTok (get_life α Γ.slots)
    → Does K L Γ (assign (place (ent₂ Γ nm nd).0 []) (addr_of (place (ent₁ Γ nm nd).0 (deref σ ∷ [])))) (Relent Γ nm nd α β R τ τ' (get_life α Γ.slots) (set_life α off Γ.slots))
relends_one {K} {L} {Γ} R nm nd α β σ τ τ' h side ty tok = record {
  φ = Φmref_relend Γ nm nd α β R τ τ' (get_life α Γ.slots) (set_life α off Γ.slots) h;
  stmt = λ M 𝓤 𝓛 𝓣 k bs.
      let s = side M 𝓤 𝓛 bs in
      t_mref_relend 𝓛 (EnvOf 𝓛 L bs) 𝓣 Γ nm nd α β R σ τ τ' (get_life α Γ.slots) h s.0 s.1 refl tok s.2 s.3 ty;
}

abbrev pub backs_one : {L : List Ty} {Γ : Cx} (R : RattleType) (nd nm α β : ℕ) (τ τ' : Ty) (l : Life) (hd : (ent₁ Γ nd nm).1.Mod → MutBor R.Denot) (hm : (ent₂ Γ nd nm).1.Mod → MutBor R.Denot × ℕ)
    → ((M : Type 1) (𝓤 : Ura M) (𝓛 : Logic 𝓤) → As 𝓛 (ent₁ Γ nd nm).1 (mleft R τ') hd × As 𝓛 (ent₂ Γ nd nm).1 (mref_owed R τ α β l) hm)
    → get_life β Γ.slots ≡ dead → get_life α (set_life β dead (set_life β off Γ.slots)) ≡ off → Turns L Γ (Back Γ nd nm α R τ τ' (set_life α l (set_life β dead (set_life β off Γ.slots))))
backs_one {L} {Γ} R nd nm α β τ τ' l hd hm side e e' = record {
  φ = Φback_mref Γ nd nm α R τ τ' (set_life α l (set_life β dead (set_life β off Γ.slots))) hd hm;
  ghost = λ M 𝓤 𝓛 bs.
      let s = side M 𝓤 𝓛 in
      g_Back_mref 𝓛 (EnvOf 𝓛 L bs) Γ nd nm α β R τ τ' l hd hm s.0 s.1 e e';
}

-- ---- a slice lent on as `&` for a call, and back: its pointer goes to nd. P is what the lifetimes tell, and `LendsEach` says that elements of R can then be lent
-- as `&`. At a Copy type they always can (`each_copy`), and P says nothing

abbrev pub reshares : {K : Knows} {L : List Ty} {Γ : Cx} (R : RattleType) (laws : RowLaws R) (P : Rho → Type 0) (nm nd α β : ℕ) (τ τ' : Ty) (hm : (ent₁ Γ nm nd).1.Mod → MutBor (List R.Denot))
    → ((M : Type 1) (𝓤 : Ura M) (𝓛 : Logic 𝓤) (bs : List ℕ)
    → Told 𝓛 Γ.slots P × LendsEach 𝓛 P (set_life α off Γ.slots) R β × As 𝓛 (ent₁ Γ nm nd).1 (mslice R τ α) hm × ToRoom 𝓛 (ent₂ Γ nm nd).1 τ'
    × (field_of (spot_of 𝓤 𝓛.H (EnvOf 𝓛 L bs) (ent₁ Γ nm nd).0).0 0 ≡ some (τ, 0)) × ((spot_of 𝓤 𝓛.H (EnvOf 𝓛 L bs) (ent₂ Γ nm nd).0).0 ≡ τ'))
    → field_at zero (tcons τ (tcons (ty_int w64) tnil)) 0 ≡ some (τ, 0) → ((b o : ℕ) → T (has_ty τ' (vptr b o))) → IsTok (get_life α Γ.slots)
    → Does K L Γ (assign (place (ent₂ Γ nm nd).0 []) (addr_of (place (ent₁ Γ nm nd).0 (field 0 ∷ deref (lone R.mir) ∷ [])))) (AfterReshare R Γ nm nd α β τ τ' (get_life α Γ.slots))
reshares {K} {L} {Γ} R laws P nm nd α β τ τ' hm side e ty tok = record {
  φ = Φsl_reshare R Γ nm nd α β τ τ' (get_life α Γ.slots) hm;
  stmt = λ M 𝓤 𝓛 𝓣 k bs.
      let s = side M 𝓤 𝓛 bs in
      t_sl_reshare_as 𝓛 (EnvOf 𝓛 L bs) R 𝓣 laws P Γ nm nd α β τ τ' (get_life α Γ.slots) (set_life α off Γ.slots) 0 hm s.0 s.1 s.2 s.3 (Takes-whole 𝓛 α Γ.slots (get_life α Γ.slots) refl tok) s.4 e s.5 ty;
}

abbrev pub backs_shared : {L : List Ty} {Γ : Cx} (R : RattleType) (nm α β : ℕ) (τ : Ty) (l : Life) (hm : (get_row nm Γ.locals).1.Mod → MutBor (List R.Denot))
    → ((M : Type 1) (𝓤 : Ura M) (𝓛 : Logic 𝓤) → As 𝓛 (get_row nm Γ.locals).1 (mslice_owed_s R τ α β l) hm)
    → get_life β Γ.slots ≡ dead → get_life α (set_life β dead (set_life β off Γ.slots)) ≡ off → Turns L Γ (AfterBackShr R Γ nm α β τ l)
backs_shared {L} {Γ} R nm α β τ l hm side e e' = record {
  φ = Φback_sl_shr R Γ nm α β τ l hm;
  ghost = λ M 𝓤 𝓛 bs. g_back_sl_shr 𝓛 (EnvOf 𝓛 L bs) R Γ nm α β τ l hm (side M 𝓤 𝓛) e e';
}
