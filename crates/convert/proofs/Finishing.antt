-- The new file and the table written, or refused for want of room.
-- Assumes nothing.
use mathlib.Core.Path.{◌≡◌, sym, ap, ◌∙◌}
use Rattle.std.specs.Prelude.{Ok, Err, Result, ℕ}
use Rattle.format.specs.declared.Refusal.{Refusal}
use mathlib.Core.Logic.{⊎_elim}
use mathlib.Core.List.{List, ◌++◌}
use Prim.Native.Nat.{ℕ, ◌+◌, ◌≤◌, ◌<◌}
use native.Mathlib.Omega.{arith}
use borrow.Author.Tests.{le-leb, lt-leb}
use lib.Seq.{get_or-take}
use lib.ListN.{length, get_or, take, drop, length-append, length-take, length-drop}
use Rattle.format.specs.Limits.{SPACE}
use Rattle.format.specs.Bytes.{bytes_of}
use Rattle.format.specs.Laws.BytesLaws.{length_bytes_of}
use Rattle.format.specs.Packed.{TargetOk}
use Rattle.format.specs.Paths.{Fst}
use Rattle.buffers.specs.Put.{put}
use Rattle.buffers.specs.PutLaws.{put_zero}
use Rattle.converting.specs.Converting.{Conversion, written, refused, placing}
use Rattle.converting.specs.Laws.LayLaws.{new_ok}
use Rattle.convert_marks.specs.Marks.{marked}
use Rattle.convert_layout.specs.Layout.{laid_to, Narrow}
use Rattle.convert_write.specs.Written.{header_of, file_of}
use Rattle.convert.specs.Convert.{ConvertsBy, Finishable, Finished}

pub length_file : (s nodes : List ℕ) (count root : ℕ) → 16 ≤ length s → length (file_of s nodes count root) ≡ 32 + length nodes
length_file s nodes count root low =
    omega (
      arith,
      length-append (header_of s) (nodes ++ (bytes_of 8 count ++ bytes_of 8 root)),
      length-append nodes (bytes_of 8 count ++ bytes_of 8 root),
      length-append (bytes_of 8 count) (bytes_of 8 root),
      length-append (bytes_of 8 2) (take 8 (drop 8 s)),
      length_bytes_of 8 2,
      length_bytes_of 8 count,
      length_bytes_of 8 root,
      length-take 8 (drop 8 s),
      length-drop 8 s,
    )

pub converts_as : {q q' : Conversion} {o₀ b₀ o b : List ℕ} {r : Result ℕ Refusal} → q ≡ q' → ConvertsBy q o₀ b₀ o b r → ConvertsBy q' o₀ b₀ o b r
converts_as e h = rw (← e) h

module _ {f : Fst} {d t : List ℕ} {next : ℕ} (ok : Finishable f d t next) (count : ℕ) (o₀ b₀ : List ℕ) where
  abbrev n : ℕ
  n = length f.bytes

  abbrev F : List ℕ
  F = file_of f.bytes (laid_to f d n).nodes count (get_or t f.root 0)

  file_len : length F ≡ next + 16
  file_len = omega (arith, length_file f.bytes (laid_to f d n).nodes count (get_or t f.root 0) ok.long, ok.laid_out.next_is)

  refused_by : {o b : List ℕ} {r : Result ℕ Refusal} → placing F (take n t) n (length o₀) (length b₀) ≡ refused SPACE → (r ≡ Err SPACE) × (o ≡ o₀) × (b ≡ b₀)
      → Finished f count d t o₀ b₀ o b r
  refused_by e h = record { converts = converts_as (sym e) (record { answer = h.0; out_is = h.1; table_is = h.2 }) }

  pub finish_short_out : {o b : List ℕ} {r : Result ℕ Refusal} → length o₀ < next + 16 → (r ≡ Err SPACE) × (o ≡ o₀) × (b ≡ b₀) → Finished f count d t o₀ b₀ o b r
  finish_short_out l h = refused_by (rw (lt-leb (length F) (length o₀) (omega (arith, file_len)))) h

  pub finish_short_table : {o b : List ℕ} {r : Result ℕ Refusal} → next + 16 ≤ length o₀ → length b₀ < n → (r ≡ Err SPACE) × (o ≡ o₀) × (b ≡ b₀)
      → Finished f count d t o₀ b₀ o b r
  finish_short_table room l h = refused_by (rw (le-leb (length F) (length o₀) (omega (arith, file_len)), lt-leb n (length b₀) l)) h

  -- new addresses have 32 bits
  pub finish_narrow : n ≤ length b₀ → Narrow (length (take n t)) (take n t) b₀
  unfolding TargetOk
  finish_narrow h =
      let cut = length-take n t in
      let room = ok.room_sums in
      record {
        in_sums = omega arith;
        in_table = omega arith;
        small = λ j l.
            let low : j < n = omega arith in
            let same = get_or-take n t j 0 low in
            let e = ok.laid_out.entered.entry j low in
            let fits = ok.laid_out.fits in
            let is = ok.laid_out.next_is in
            ⊎_elim (λ z. omega (arith, z, e)) (λ p. omega (arith, p.1, e)) (new_ok f (marked d n) j);
      }

  pub finish_done : {o b : List ℕ} → next + 16 ≤ length o₀ → n ≤ length b₀ → o ≡ put o₀ 0 F → b ≡ take n t ++ drop (length (take n t)) b₀
      → Finished f count d t o₀ b₀ o b (Ok (next + 16))
  finish_done h g p q =
      let e : placing F (take n t) n (length o₀) (length b₀) ≡ written F (take n t) =
      rw (le-leb (length F) (length o₀) (omega (arith, file_len)), le-leb n (length b₀) g) in
      record { converts = converts_as (sym e) (record { answer = ap Ok (sym file_len); out_is = p ∙ put_zero o₀ F; table_is = q }) }
