-- A declared enum of numbers in a walk: held by a local, passed and returned. What `Structs` has for a struct.
--     p_enum, r_enum         the parameter and the result
--     enum_yields, enum_makes, enum_room   what calls, `moves_enum` and `drops` ask
--     moves_enum           `d = y`, from local to local
-- Assumes the kit's logic.
use Prim.{Unit}
use Rattle.std.specs.Prelude.{◌≡◌, refl, List, [], ℕ}
use seplogic.Ra.Ura.{Ura}
use mir.Syntax.{Ty, assign, place, copy, rv_opd}
use prog.Wp.{spot_of}
use types.Logic.{Logic}
use denote.Memory.{lone}
use denote.Enum.Enum.{Few, Plainss}
use denote.Enum.Declared.{Declared, row, variants, shape}
use denote.Enum.Laws as of
use borrow.Enum.Whole.{valued, valued_laws}
use borrow.Fn.Kind.{ParamKind, ResultKind}
use borrow.Kind.Value.{p_val, r_val}
use borrow.Rule.Local.{AfterLend, mem_whole, whole_mem, room_whole}
use borrow.Rule.LocalCopy.{Φval_copy, t_val_copy}
use borrow.Rule.Yields.{Yields, Makes, Yields-copy, Makes-mem, Told-none}
use borrow.Table.Reads.{ToRoom}
use borrow.Table.Row.{Cx}
use borrow.Table.Typed.{ent₁, ent₂}
use borrow.Table.Rows.{whole}
use borrow.Fn.Frame.{EnvOf}
use Rattle.walks.specs.Walk.{Knows, Does}

module _ (T : Declared) (l : of.Laws T) (c : of.Copyabless T.parts) (p : Plainss (variants T)) (few : Few (shape T)) where
  abbrev pub p_enum : {n : ℕ} → ParamKind n
  p_enum = p_val (valued T l c) (valued_laws T l c p few)

  abbrev pub r_enum : {n : ℕ} → ResultKind n
  r_enum = r_val (valued T l c) (valued_laws T l c p few)

module _ (T : Declared) (c : of.Copyabless T.parts) {M : Type 1} {𝓤 : Ura M} (𝓛 : Logic 𝓤) where
  pub enum_yields : Yields 𝓛 (λ ρ. Unit {0}) (lone (row T).mir) (whole (row T)) (whole (row T)) (row T) (λ x. x) (λ x. x)
  enum_yields = Yields-copy 𝓛 (λ ρ. Unit {0}) (row T) refl (of.copy T c 𝓛) (whole (row T)) (λ x. x) (λ x. x) (λ ρ told. mem_whole 𝓛 (row T) ρ) (λ ρ told. whole_mem 𝓛 (row T) ρ)

  pub enum_makes : Makes 𝓛 (λ ρ. Unit {0}) (lone (row T).mir) (whole (row T)) (row T) (λ x. x)
  enum_makes = Makes-mem 𝓛 (λ ρ. Unit {0}) (row T) refl (whole (row T)) (λ x. x) (λ ρ told. whole_mem 𝓛 (row T) ρ)

  pub enum_room : ToRoom 𝓛 (whole (row T)) (lone (row T).mir)
  enum_room = room_whole 𝓛 (row T) (lone (row T).mir) refl

-- `d = y`, from the local at ny to the one at nd
abbrev pub moves_enum : {K : Knows} {L : List Ty} {Γ : Cx} (T : Declared) (ny nd : ℕ) (h : (ent₁ Γ ny nd).1.Mod → (row T).Denot)
    → ((M : Type 1) (𝓤 : Ura M) (𝓛 : Logic 𝓤) (bs : List ℕ)
    → Yields 𝓛 (λ ρ. Unit {0}) (lone (row T).mir) (ent₁ Γ ny nd).1 (whole (row T)) (row T) h h × ToRoom 𝓛 (ent₂ Γ ny nd).1 (lone (row T).mir)
    × Makes 𝓛 (λ ρ. Unit {0}) (lone (row T).mir) (whole (row T)) (row T) (λ x. x)
    × ((spot_of 𝓤 𝓛.H (EnvOf 𝓛 L bs) (ent₁ Γ ny nd).0).0 ≡ lone (row T).mir) × ((spot_of 𝓤 𝓛.H (EnvOf 𝓛 L bs) (ent₂ Γ ny nd).0).0 ≡ lone (row T).mir))
    → Does K L Γ (assign (place (ent₂ Γ ny nd).0 []) (rv_opd (copy (place (ent₁ Γ ny nd).0 [])))) (AfterLend Γ ny nd (whole (row T)) (whole (row T)))
moves_enum {K} {L} {Γ} T ny nd h side = record {
  φ = Φval_copy Γ ny nd (row T) (whole (row T)) (whole (row T)) h h (λ x. x);
  stmt = λ M 𝓤 𝓛 𝓣 k bs.
      let s = side M 𝓤 𝓛 bs in
      t_val_copy 𝓛 (EnvOf 𝓛 L bs) 𝓣 (λ ρ. Unit {0}) Γ ny nd (row T) (lone (row T).mir) (lone (row T).mir) (whole (row T)) (whole (row T)) h h (λ x. x) refl (Told-none 𝓛 Γ.slots) s.0 s.1 s.2 s.3 s.4;
}
