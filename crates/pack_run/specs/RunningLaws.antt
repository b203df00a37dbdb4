-- Laws of the run: the start, and the root.
--     fresh                    the tables at the start
--     run_full, run_closed_full, run_done  the root
-- Assumes nothing.
use Rattle.std.specs.Prelude.{◌≡◌, Option, None, refl, Bool, false, List, [], ◌∷◌, ◌++◌, ℕ, ◌+◌, ◌-◌, ◌≤◌, ◌<◌, length, get_or, replicate}
use Rattle.std.proofs.Common.{sym, ◌∙◌, subst, inl, arith, length-append}
use Rattle.std.proofs.Math.Path.{ap}
use Rattle.std.proofs.Math.Nat.{sub-zero}
use Rattle.std.proofs.lemmas.List.{length-replicate, get_or-replicate, replicate-append-replicate}
use Rattle.format.specs.Node.{Ascending}
use Rattle.format.specs.Packed.{BuilderNode, TargetsOk}
use Rattle.packing.specs.Lists.{Pair}
use Rattle.packing.specs.Registry.{Cell, empty_cell, Build, cell_at, Interned, intern}
use Rattle.packing.specs.Packing.{Open, record_of, State, state_with, insert_all, close_all, start, pack_nodes}
use Rattle.packing.proofs.CloseLaws.{intern_grows}
use Rattle.packing.proofs.RootLaws.{cell_empty}
use Rattle.packing_rows.specs.WorkTables.{Tables, tables_with, row_in, zip_arcs, count_at, open_at, levels, Joined, close_into}
use Rattle.packing_rows.specs.OpenLaws.{close_into_grows}
use Rattle.packing_rows.specs.WorkTableLaws.{length_row, record_row}
use Rattle.pack_cell.specs.declared.Cell as code
use Rattle.pack_intern.specs.Interning.{build_is, Laid, InternIs}
use Rattle.pack_intern.specs.InterningLaws.{laid_of}
use Rattle.pack_intern.specs.declared.Placed.{Placed}
use Rattle.pack_finish.specs.FinishRow.{row_node, Finishable}
use Rattle.pack_finish.specs.LeastLaws.{length_less}
use Rattle.pack_close.specs.Closing.{Closable, closed_to, JoinedAt, ClosesTo}
use Rattle.pack_insert.specs.Inserting.{state_of, Between}
use Rattle.pack_keys.specs.AddKeys.{BuildsTo, Builds}
use Rattle.pack_run.specs.Running.{Blank, Runs}

-- ---- the start

none_ascends : Ascending []
unfolding Ascending
none_ascends i h = absurd (omega arith)

none_targets : (first : ℕ) → TargetsOk first []
unfolding TargetsOk
none_targets first i h = absurd (omega arith)

module _ (out : List ℕ) (cells : List code.Cell) (blank : Blank out cells) (inputs leasts targets : List ℕ) (is_long : 65536 ≤ length inputs) (ls_long : 65536 ≤ length leasts)
    (ts_long : 65536 ≤ length targets) where
  abbrev T₀ : Tables
  T₀ = tables_with inputs leasts targets (replicate 256 0) (replicate 256 0) (replicate 256 false) (replicate 256 0)

  fresh_laid : Laid out 16
  fresh_laid =
      let n : 16 + (length out - 16) ≡ length out = omega (arith, blank.room) in
      let e : out ≡ (replicate 16 0 ++ []) ++ replicate (length out - 16) 0 = blank.zeros ∙ ap (λ (k : ℕ). replicate k 0) (sym n) ∙ sym (replicate-append-replicate {A = ℕ} 16 (length out - 16) 0) in
      subst (λ (l : List ℕ). Laid l 16) (sym e) (laid_of [] (length out - 16))

  pub fresh : Between out 16 cells T₀ 0
  fresh = record {
    closable = record {
      ready = record {
        laid = fresh_laid;
        cells_fit = record {
          fit = λ i. inl (ap (λ (c : Cell). c.addr) (ap (λ (l : List Cell). cell_at l i) blank.empty ∙ cell_empty (length cells) i));
        };
        two = blank.two;
      };
      sized = record {
        inputs_long = is_long;
        leasts_long = ls_long;
        targets_long = ts_long;
        counts_long = length-replicate {A = ℕ} 256 0;
        led_long = length-replicate {A = ℕ} 256 0;
        finals_long = length-replicate {A = Bool} 256 false;
        values_long = length-replicate {A = ℕ} 256 0;
      };
      orderly = record {
        few = λ d l. omega (arith, get_or-replicate {A = ℕ} 256 d 0 0 (omega arith));
        deepest = none_ascends;
        next = λ d l. absurd (omega arith);
        byte = λ d l. absurd (omega arith);
        targets_ok = λ d l. let e : d ≡ 0 = omega arith in subst (λ (i : ℕ). TargetsOk 16 (row_in targets i (get_or (replicate 256 0) i 0))) (sym e) (none_targets 16);
      };
      low = omega arith;
    };
    bare = refl;
  }

  start_is : state_of (build_is out 16 cells) T₀ 0 ≡ start (replicate (length cells) empty_cell)
  unfolding open_at levels zip_arcs
  start_is = ap start blank.empty

  -- ---- the root

  module _ (ps : List Pair) where
    abbrev t₀ : State
    t₀ = insert_all (state_of (build_is out 16 cells) T₀ 0) ps

    abbrev R : Interned
    R = pack_nodes ps (length cells)

    -- what is finished into the root, and the root
    rooted : (B : Build) (o : Open) (s : List Open) → close_all (state_with B o s) ≡ intern (close_into B o s).build (record_of (close_into B o s).top 0)
    rooted B o [] = refl
    rooted B o (p ∷ s) = refl

    run_is : R ≡ close_all t₀
    unfolding pack_nodes
    run_is = ap (λ (x : State). close_all (insert_all x ps)) (sym start_is)

    abbrev J : State → Joined
    J t = close_into t.build t.top t.below

    root_is : R ≡ intern (J t₀).build (record_of (J t₀).top 0)
    root_is = run_is ∙ rooted t₀.build t₀.top t₀.below

    joined_le : length (J t₀).build.nodes ≤ length R.build.nodes
    joined_le =
        let g = intern_grows (J t₀).build (record_of (J t₀).top 0) in
        omega (arith, ap length g.is, length-append (J t₀).build.nodes g.added, ap (λ (x : Interned). length x.build.nodes) root_is)

    full_runs : (out' : List ℕ) (cells' : List code.Cell) → length out' < 16 + length R.build.nodes → Runs R out' cells' None
    full_runs out' cells' h = record { at = λ p q. cc; full = λ q. h }

    pub run_full : {out' : List ℕ} {cells' : List code.Cell} {T : Tables} {r : Option (ℕ × ℕ)} → Builds t₀ out' cells' T r → r ≡ None → Runs R out' cells' None
    run_full {out'} {cells'} b e =
        let g = close_into_grows t₀.build t₀.top t₀.below in
        full_runs out' cells' (omega (arith, b.full e, joined_le, ap length g.is, length-append t₀.build.nodes g.added))

    module _ {out₁ : List ℕ} {cells₁ : List code.Cell} {T₁ : Tables} {next k : ℕ} (b : BuildsTo t₀ out₁ cells₁ T₁ next k) where
      joined_is : J t₀ ≡ closed_to (build_is out₁ next cells₁) T₁ 0 k
      joined_is = ap J b.is ∙ ap (λ (n : ℕ). close_into (build_is out₁ next cells₁) (open_at T₁ 0) (levels (open_at T₁) 1 n)) (sym (sub-zero k))

      pub run_closed_full : {out₂ : List ℕ} {cells₂ : List code.Cell} {T₂ : Tables} {r : Option ℕ} → ClosesTo (closed_to (build_is out₁ next cells₁) T₁ 0 k) T₁ 0 out₂ cells₂ T₂ r
          → r ≡ None → Runs R out₂ cells₂ None
      run_closed_full {out₂} {cells₂} c e = full_runs out₂ cells₂ (omega (arith, c.full e, joined_le, ap (λ (j : Joined). length j.build.nodes) joined_is))

      module _ {out₂ : List ℕ} {cells₂ : List code.Cell} {T₂ : Tables} {last : ℕ} (j : JoinedAt (closed_to (build_is out₁ next cells₁) T₁ 0 k) T₁ 0 out₂ cells₂ T₂ last) where
        C : Closable out₂ last cells₂ T₂ 0
        C = j.closable

        abbrev n : ℕ
        n = count_at T₂ 0

        abbrev node : BuilderNode
        node = row_node (get_or T₂.finals 0 false) (get_or T₂.values 0 0) T₂.inputs T₂.leasts T₂.targets 0 n 0

        pub root_finishable : Finishable out₂ last cells₂ (get_or T₂.finals 0 false) (get_or T₂.values 0 0) T₂.inputs T₂.leasts T₂.targets 0 n 0
        root_finishable =
            let s = C.sized in
            let f = C.orderly.few 0 (omega arith) in
            let li = length_row T₂.inputs 0 n (omega (arith, s.inputs_long)) in
            let lo = length_row T₂.leasts 0 n (omega (arith, s.leasts_long)) in
            let lt = length_row T₂.targets 0 n (omega (arith, s.targets_long)) in
            record {
              ready = C.ready;
              fits = record {
                few = omega (arith, li, f);
                outputs_len = length_less 0 (row_in T₂.leasts 0 n) ∙ lo ∙ sym li;
                targets_len = lt ∙ sym li;
                ascending = C.orderly.deepest;
                first_low = C.ready.laid.low;
                targets_ok = C.orderly.targets_ok 0 (omega arith);
              };
              low = omega arith;
              few = f;
              inputs_long = s.inputs_long;
              leasts_long = s.leasts_long;
              targets_long = s.targets_long;
              high = record { within = omega (arith, s.leasts_long, f); high = λ i l h. omega arith };
              value_high = λ z. omega arith;
            }

        root_row : R ≡ intern (build_is out₂ last cells₂) node
        root_row =
            root_is ∙ ap (λ (x : Joined). intern x.build (record_of x.top 0)) (joined_is ∙ j.is)
            ∙ ap (intern (build_is out₂ last cells₂)) (record_row T₂ C.sized 0 (omega arith) (C.orderly.few 0 (omega arith)) 0)

        pub run_done : {out₃ : List ℕ} {cells₃ : List code.Cell} {r : Option Placed} → InternIs (intern (build_is out₂ last cells₂) node) last out₃ cells₃ r → Runs R out₃ cells₃ r
        run_done w = record {
          at = λ q e. let p = w.at q e in record { is = root_row ∙ p.is; laid = p.ready.laid };
          full = λ e. omega (arith, w.full e, ap (λ (x : Interned). length x.build.nodes) root_row);
        }
