-- What the marks and the layout of an admitted version 1 file are: those of the definition.
-- Assumes nothing.
use mathlib.Core.Path.{◌≡◌, refl, sym, ap, ap₂, ◌∙◌, subst}
use Rattle.std.specs.Prelude.{Ok, Err, Result, ℕ, Option, Some, None}
use Rattle.std.specs.Option.{ok_or}
use Rattle.format.specs.declared.Refusal.{Refusal}
use mathlib.Core.Bool.{Bool, true, false, cond}
use mathlib.Core.List.Memᴰ
use mathlib.Core.List.{List, [], Memᴰ}
use Prim.Native.Nat.{ℕ, ◌+◌, ◌≤◌, ◌<◌}
use native.Mathlib.Omega.{arith}
use lib.ListN.{length, get_or, take, length-take}
use lib.Seq.{ext_get_or, get_or-take}
use Rattle.format.specs.Limits.{max_len, LARGE}
use Rattle.format.specs.Laws.PackedLaws.{length_up_from, get_d_up_from}
use Rattle.format.specs.Paths.{Fst, fst_with, fst_of, node_in}
use Rattle.format.specs.Admitted.{RootChain, Admitted}
use Rattle.format.specs.Laws.OpeningLaws.{root_inside}
use Rattle.format.specs.Laws.ChainLaws.{root_chain_sound, root_chain_low}
use Rattle.admission_node.specs.Entries.{Kept}
use Rattle.converting.specs.Converting.{vanishes, new_addr, Laid, lay_out, chain_of, laid, moved_to, converted, table_of, placing}
use Rattle.converting.specs.Laws.ConvertedLaws.{old_has_bytes, old_low, converted_is, length_converted}
use Rattle.convert_marks.specs.Marks.{Markable, MarksNodes}
use Rattle.convert_marks.specs.MarkLaws.{marked_member}
use Rattle.convert_layout.specs.Layout.{laid_to, MarkedSound, Layable, Lays, LaidOut}
use Rattle.convert_write.specs.Written.{file_of}
use Rattle.convert.specs.Convert.{OldFile, OldConverted, Finishable, Finished}
use Rattle.convert.specs.ConvertLaws.{conversion_large, conversion_placing, conversion_same}
use Rattle.convert.proofs.Finishing.{converts_as}

table_len : {s : List ℕ} (A : Admitted s) → length (table_of A) ≡ length s
unfolding table_of
table_len {s} A = length_up_from (moved_to A) 0 (length s)

table_at : {s : List ℕ} (A : Admitted s) (j : ℕ) → j < length s → get_or (table_of A) j 0 ≡ moved_to A j
unfolding table_of
table_at {s} A j l = get_d_up_from (moved_to A) 0 (length s) j l ∙ ap (moved_to A) (omega arith)

-- an address that is laid out is on the chain
on_chain : (t : Bool) (l : List ℕ) (j : ℕ) → Memᴰ j (cond t [] l) → Memᴰ j l
on_chain true l j mem = absurd (Memᴰ.not-nil mem)
on_chain false l j mem = mem

-- ---- the place past the nodes, or LARGE

module _ (f : Fst) (d t : List ℕ) {limit : ℕ} {r : Result ℕ Refusal} where
  pub lays_some : (o : Option ℕ) {next : ℕ} → r ≡ ok_or o LARGE → r ≡ Ok next → Lays f d t limit o → LaidOut f d t limit next
  lays_some None is ok l = let z : ◌≡◌ {A = ℕ} 0 1 = cc in absurd (omega arith)
  lays_some (Some x) {next} is ok l = let same : x ≡ next = cc in subst (LaidOut f d t limit) same l

  pub lays_none : (o : Option ℕ) {n : Refusal} → r ≡ ok_or o LARGE → r ≡ Err n → Lays f d t limit o
      → (limit < 32 + length (laid_to f d (length f.bytes)).nodes) × (n ≡ LARGE)
  lays_none None {n} is err l = let same : n ≡ LARGE = cc in (l, same)
  lays_none (Some x) is err l = let z : ◌≡◌ {A = ℕ} 0 1 = cc in absurd (omega arith)

-- ---- an admitted version 1 file

module _ {f : Fst} {count : ℕ} {d₀ t₀ : List ℕ} (old : OldFile f count d₀ t₀) where
  abbrev s : List ℕ
  s = f.bytes

  abbrev A : Admitted s
  A = old.admitted

  has_bytes : 0 < length s
  has_bytes = old_has_bytes A old.version_is

  file_is_lem : f ≡ fst_of s A.meta
  file_is_lem = ap₂ (λ (v r : ℕ). fst_with s v r) (old.old ∙ sym old.version_is) old.root_is

  root_chain : RootChain f A.nodes
  root_chain = subst (λ (g : Fst). RootChain g A.nodes) (sym file_is_lem) A.chained.chain

  pub old_markable : Markable f d₀
  old_markable = record { nodes = A.nodes; chain = root_chain; room = old.room_depths; inside = has_bytes; off = old.off }

  module _ {d : List ℕ} (marks : MarksNodes f d₀ d) where
    pub old_laid : laid_to f d (length s) ≡ laid A
    old_laid = ap (lay_out f) (marks.each A.nodes root_chain) ∙ ap (λ (g : Fst). lay_out g (chain_of g A.nodes)) file_is_lem

    -- a marked address is on the chain
    marked_on : (j : ℕ) → j < length s → ¬ (get_or d j 0 ≡ 0) → Memᴰ j A.nodes
    marked_on j l ne = on_chain (vanishes (node_in f f.root)) A.nodes j (subst (Memᴰ j) (marks.each A.nodes root_chain) (marked_member d (length s) j l ne))

    pub old_sounds : MarkedSound f d
    old_sounds =
        record {
          each = λ j l ne. root_chain_sound root_chain j (marked_on j l ne);
          low = λ j l ne. root_chain_low root_chain j (marked_on j l ne);
        }

    pub old_layable : {limit : ℕ} → limit ≤ max_len → Layable f d t₀ limit
    old_layable le = record { room_depths = omega (arith, old.room_depths, marks.kept.long); room_sums = old.room_sums; sounds = old_sounds; hops = marks.hops; limit_le = le }

    len_is : length (converted A) ≡ 32 + length (laid_to f d (length s)).nodes
    len_is = length_converted A has_bytes ∙ ap (λ (r : Laid). 32 + length r.nodes) (sym old_laid)

    module _ {limit : ℕ} (le : limit ≤ max_len) {t : List ℕ} (sums_kept : Kept (length s) t₀ t) (o₀ b₀ : List ℕ) where
      -- the new file passes the limit
      pub old_over : limit < 32 + length (laid_to f d (length s)).nodes → OldConverted limit s d₀ t₀ o₀ b₀ d t o₀ b₀ (Err LARGE)
      old_over l =
          record {
            depths_kept = marks.kept;
            sums_kept = sums_kept;
            each = λ B.
                converts_as (sym (conversion_large limit A (length o₀) (length b₀) old.version_is (omega (arith, len_is))) ∙ conversion_same limit A B (length o₀) (length b₀))
                (record { answer = refl; out_is = refl; table_is = refl });
          }

      module _ {next : ℕ} (laid_out : LaidOut f d t limit next) where
        pub old_finishable : Finishable f d t next
        old_finishable =
            record {
              long = omega (arith, old_low A has_bytes);
              root_in = rw old.root_is (root_inside s A.meta A.opens has_bytes);
              room_depths = omega (arith, old.room_depths, marks.kept.long);
              room_sums = omega (arith, old.room_sums, sums_kept.long);
              sounds = old_sounds;
              hops = marks.hops;
              laid_out = record { next_is = laid_out.next_is; fits = omega (arith, laid_out.fits); entered = laid_out.entered };
            }

        entry_is_lem : (j : ℕ) → j < length s → get_or t j 0 ≡ moved_to A j
        entry_is_lem j l = laid_out.entered.entry j l ∙ ap (λ (r : Laid). new_addr r.moved j) old_laid

        bytes_are : file_of s (laid_to f d (length s)).nodes count (get_or t f.root 0) ≡ converted A
        bytes_are =
            let inside : f.root < length s = rw old.root_is (root_inside s A.meta A.opens has_bytes) in
            ap (λ (r : Laid). file_of s r.nodes count (get_or t f.root 0)) old_laid
            ∙ ap₂ (λ (c x : ℕ). file_of s (laid A).nodes c x) old.count_is (entry_is_lem f.root inside ∙ ap (moved_to A) old.root_is)
            ∙ sym (converted_is A has_bytes)

        entries_are : take (length s) t ≡ table_of A
        entries_are =
            let m : length (take (length s) t) ≡ length s = omega (arith, length-take (length s) t, old.room_sums, sums_kept.long) in
            ext_get_or 0 (take (length s) t) (table_of A) (m ∙ sym (table_len A)) (λ j l.
            get_or-take (length s) t j 0 (omega arith) ∙ entry_is_lem j (omega arith) ∙ sym (table_at A j (omega arith)))

        pub old_finished : {o b : List ℕ} {r : Result ℕ Refusal} → Finished f count d t o₀ b₀ o b r → OldConverted limit s d₀ t₀ o₀ b₀ d t o b r
        old_finished {o} {b} {r} done =
            record {
              depths_kept = marks.kept;
              sums_kept = sums_kept;
              each = λ B.
                  converts_as
                  (ap₂ (λ (x y : List ℕ). placing x y (length s) (length o₀) (length b₀)) bytes_are entries_are
                  ∙ sym (conversion_placing limit A (length o₀) (length b₀) old.version_is (omega (arith, len_is, laid_out.next_is, laid_out.fits)))
                  ∙ conversion_same limit A B (length o₀) (length b₀))
                  done.converts;
            }
