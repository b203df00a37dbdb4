-- A declared struct of numbers in a walk: held by a local, passed and returned, stored in an element and taken out of one.
--     p_struct, r_struct     the parameter and the result
--     yields, makes, copied, room  what `stores`, `takes` and `drops` ask
--     moves                `d = y`, from local to local
-- Assumes the kit's logic.
use Prim.{Unit}
use Rattle.std.specs.Prelude.{◌≡◌, refl, List, [], ℕ}
use seplogic.Ra.Ura.{Ura}
use mir.Syntax.{Ty, assign, place, copy, rv_opd}
use prog.Wp.{spot_of}
use types.Logic.{Logic}
use Rattle.std.specs.Borrow.{RattleType}
use denote.Exit.{yes}
use denote.Laws.{Copy}
use denote.Memory.{lone}
use denote.Struct.Declared.{Declared, row, fields}
use denote.Struct.Laws as of
use denote.Struct.Struct.{Plains}
use borrow.Fn.Kind.{ParamKind, ResultKind}
use borrow.Kind.Value.{Valued, ValuedLaws, p_val, r_val}
use borrow.Rule.Local.{AfterLend, mem_whole, whole_mem, room_whole}
use borrow.Rule.LocalCopy.{Φval_copy, t_val_copy}
use borrow.Rule.Yields.{Yields, Makes, Yields-copy, Makes-mem, Told-none}
use borrow.Table.Reads.{ToRoom}
use borrow.Table.Row.{Cx}
use borrow.Table.Typed.{ent₁, ent₂}
use borrow.Table.Rows.{whole}
use borrow.Fn.Frame.{EnvOf}
use Rattle.walks.specs.Walk.{Knows, Does}

module _ (T : Declared) (l : of.Laws T) (c : of.Copyables T.parts) (p : Plains (fields T)) where
  abbrev R : RattleType
  R = row T

  abbrev value : Valued
  value = record { ty = R; one = refl; val = of.val T l; tells = of.tells T l; still = of.still T c yes; row = whole R; rd = λ x. x; mk = λ x. x }

  pub value_laws : (M : Type 1) (𝓤 : Ura M) (𝓛 : Logic 𝓤) → ValuedLaws 𝓛 value
  value_laws M 𝓤 𝓛 = record {
    copies = of.copy T c 𝓛;
    lawful = of.lawful T l 𝓛;
    makes = of.makes T p 𝓛;
    in_mem = mem_whole 𝓛 R;
    of_mem = whole_mem 𝓛 R;
  }

  abbrev pub p_struct : {n : ℕ} → ParamKind n
  p_struct = p_val value value_laws

  abbrev pub r_struct : {n : ℕ} → ResultKind n
  r_struct = r_val value value_laws

module _ (T : Declared) (c : of.Copyables T.parts) {M : Type 1} {𝓤 : Ura M} (𝓛 : Logic 𝓤) where
  pub copied : Copy 𝓛 (row T)
  copied = of.copy T c 𝓛

  pub yields : Yields 𝓛 (λ ρ. Unit {0}) (lone (row T).mir) (whole (row T)) (whole (row T)) (row T) (λ x. x) (λ x. x)
  yields = Yields-copy 𝓛 (λ ρ. Unit {0}) (row T) refl (of.copy T c 𝓛) (whole (row T)) (λ x. x) (λ x. x) (λ ρ told. mem_whole 𝓛 (row T) ρ) (λ ρ told. whole_mem 𝓛 (row T) ρ)

  pub makes : Makes 𝓛 (λ ρ. Unit {0}) (lone (row T).mir) (whole (row T)) (row T) (λ x. x)
  makes = Makes-mem 𝓛 (λ ρ. Unit {0}) (row T) refl (whole (row T)) (λ x. x) (λ ρ told. whole_mem 𝓛 (row T) ρ)

  pub room : ToRoom 𝓛 (whole (row T)) (lone (row T).mir)
  room = room_whole 𝓛 (row T) (lone (row T).mir) refl

-- `d = y`, from the local at ny to the one at nd
abbrev pub moves : {K : Knows} {L : List Ty} {Γ : Cx} (T : Declared) (ny nd : ℕ) (h : (ent₁ Γ ny nd).1.Mod → (row T).Denot)
    → ((M : Type 1) (𝓤 : Ura M) (𝓛 : Logic 𝓤) (bs : List ℕ)
    → Yields 𝓛 (λ ρ. Unit {0}) (lone (row T).mir) (ent₁ Γ ny nd).1 (whole (row T)) (row T) h h × ToRoom 𝓛 (ent₂ Γ ny nd).1 (lone (row T).mir)
    × Makes 𝓛 (λ ρ. Unit {0}) (lone (row T).mir) (whole (row T)) (row T) (λ x. x)
    × ((spot_of 𝓤 𝓛.H (EnvOf 𝓛 L bs) (ent₁ Γ ny nd).0).0 ≡ lone (row T).mir) × ((spot_of 𝓤 𝓛.H (EnvOf 𝓛 L bs) (ent₂ Γ ny nd).0).0 ≡ lone (row T).mir))
    → Does K L Γ (assign (place (ent₂ Γ ny nd).0 []) (rv_opd (copy (place (ent₁ Γ ny nd).0 [])))) (AfterLend Γ ny nd (whole (row T)) (whole (row T)))
moves {K} {L} {Γ} T ny nd h side = record {
  φ = Φval_copy Γ ny nd (row T) (whole (row T)) (whole (row T)) h h (λ x. x);
  stmt = λ M 𝓤 𝓛 𝓣 k bs.
      let s = side M 𝓤 𝓛 bs in
      t_val_copy 𝓛 (EnvOf 𝓛 L bs) 𝓣 (λ ρ. Unit {0}) Γ ny nd (row T) (lone (row T).mir) (lone (row T).mir) (whole (row T)) (whole (row T)) h h (λ x. x) refl (Told-none 𝓛 Γ.slots) s.0 s.1 s.2 s.3 s.4;
}
