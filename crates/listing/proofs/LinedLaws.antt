-- What a call of next gives a listing: the line of its answer, case by case.
--     wrote_key, wrote_end, wrote_refused     the three ways out of `write_line`
--     wrote_whole                             a line in the buffer's first bytes is one in the whole of it
-- Assumes nothing.
use mathlib.Core.Path.{◌≡◌, sym, ap, ◌∙◌, subst}
use Rattle.std.specs.Prelude.{Ok, Err, Some, None}
use Rattle.format.specs.declared.Refusal.{Refusal}
use mathlib.Core.List.{List}
use Prim.Native.Nat.{ℕ, ◌≤◌}
use native.Mathlib.Omega.{arith}
use lib.ListN.{length, take, drop}
use Rattle.std.proofs.lemmas.List.{drop-append-le, take-append-drop}
use lib.Seq.{length-take-le}
use mathlib.Core.List.{◌++◌, append_assoc}
use Rattle.format.specs.Limits.{max_path}
use Rattle.reading.specs.Reading as R
use Rattle.reading.specs.Reading.{key, end, counted}
use Rattle.plain.specs.Plain.{Plain, next_plain}
use Rattle.stream.specs.Plains.{plain_is, PlainStepped}
use Rattle.stream.specs.PlainsLaws.{plain_told}
use Rattle.stream_step.specs.SteppedLaws.{step_end, step_refused, step_text}
use Rattle.stream_step.specs.declared.Step.{Step}
use Rattle.stream.specs.declared.Plain as S
use Rattle.listing.specs.declared.Line.TheVariants.{Key as KeyLine, Last}
use Rattle.listing.specs.declared.Listed.{Listed}
use Rattle.listing_lines.specs.Lines.{key_line, end_line, refused_line, Written}
use Rattle.listing.specs.Listing.{state, more, last, line_by, line_of}
use Rattle.listing.specs.Lined.{Wrote}

-- ---- the line that `next_line` writes

rest_of : (n k : ℕ) (s : List ℕ) → n ≤ k → k ≤ length s → drop n (take k s) ++ drop k s ≡ drop n s
rest_of n k s low room =
    let l : n ≤ length (take k s) = omega (arith, length-take-le k s room) in
    sym (drop-append-le n (take k s) (drop k s) l) ∙ ap (drop n) (take-append-drop k s)

-- a line in the buffer's first 532 bytes, the rest as given
line_rest : (b s ws buf : List ℕ) → 532 ≤ length s → length b ≤ 532 → ws ≡ b ++ drop (length b) (take 532 s) → buf ≡ ws ++ drop 532 s → buf ≡ b ++ drop (length b) s
line_rest b s ws buf room short w is =
    is ∙ ap (λ (x : List ℕ). x ++ drop 532 s) w ∙ append_assoc b (drop (length b) (take 532 s)) (drop 532 s)
    ∙ ap (λ (x : List ℕ). b ++ x) (rest_of (length b) 532 s short room)

pub wrote_whole : (w : Rattle.listing.specs.Listing.Line) (s ws buf : List ℕ) (r : Listed) → 532 ≤ length s → Wrote w (take 532 s) ws r → buf ≡ ws ++ drop 532 s → Wrote w s buf r
wrote_whole (more b st) s ws buf r room q is = (q.0, line_rest b s ws buf room q.3 q.1 is, q.2, q.3)
wrote_whole (last b st) s ws buf r room q is = (q.0, line_rest b s ws buf room q.3 q.1 is, q.2, q.3)

-- ---- the ways out of `write_line`

module _ (s : List ℕ) (v : Plain) (keys space : ℕ) (room : space ≡ max_path) {buf₀ buf : List ℕ} {o : Step S.Plain} (h : PlainStepped (next_plain s v space) buf₀ buf o)
    (line₀ line : List ℕ) (len : ℕ) (r : Listed) (rest : plain_is r.plain ≡ plain_is o.reading) where
  by_line : (a : R.Answer) → (next_plain s v space).answer ≡ a → line_of s (state v keys) ≡ line_by a (plain_is r.plain) keys
  unfolding line_of
  by_line a e =
      ap (λ (n : ℕ). line_by (next_plain s v n).answer (next_plain s v n).reading keys) (sym room)
      ∙ ap (λ (x : R.Answer). line_by x (next_plain s v space).reading keys) e
      ∙ ap (λ (x : Plain). line_by a x keys) (sym (rest ∙ h.gave.plain))

  wrote : (x : Rattle.listing.specs.Listing.Line) → line_of s (state v keys) ≡ x → Wrote x line₀ line r → Wrote (line_of s (state v keys)) line₀ line r
  wrote x e q = subst (λ z. Wrote z line₀ line r) (sym e) q

  pub wrote_key : (n value : ℕ) → o.answer ≡ Ok (Some (n, value)) → Written (key_line (take n buf) value) line₀ line len → r.line ≡ KeyLine len → r.keys ≡ counted keys
      → Wrote (line_of s (state v keys)) line₀ line r
  wrote_key n value e wr is count =
      wrote (more (key_line (take n buf) value) (state (plain_is r.plain) (counted keys))) (by_line (key (take n buf) value) (step_text (plain_told h) n value e))
      (is ∙ ap KeyLine wr.answer, wr.buffer, ap (state (plain_is r.plain)) count, omega (arith, wr.answer, wr.short))

  pub wrote_end : o.answer ≡ Ok None → Written (end_line keys (plain_is o.reading).view.total) line₀ line len → r.line ≡ Last len → r.keys ≡ keys
      → Wrote (line_of s (state v keys)) line₀ line r
  wrote_end e wr is count =
      let t : (plain_is r.plain).view.total ≡ (plain_is o.reading).view.total = ap (λ (x : Plain). x.view.total) rest in
      let q = by_line end (step_end (plain_told h) e) ∙ ap (λ (n : ℕ). last (end_line keys n) (state (plain_is r.plain) keys)) t in
      wrote (last (end_line keys (plain_is o.reading).view.total) (state (plain_is r.plain) keys)) q
      (is ∙ ap Last wr.answer, wr.buffer, ap (state (plain_is r.plain)) count, omega (arith, wr.answer, wr.short))

  pub wrote_refused : (n : Refusal) → o.answer ≡ Err n → Written (refused_line n) line₀ line len → r.line ≡ Last len → r.keys ≡ keys
      → Wrote (line_of s (state v keys)) line₀ line r
  wrote_refused n e wr is count =
      wrote (last (refused_line n) (state (plain_is r.plain) keys)) (by_line (R.Answer.refused n) (step_refused (plain_told h) n e))
      (is ∙ ap Last wr.answer, wr.buffer, ap (state (plain_is r.plain)) count, omega (arith, wr.answer, wr.short))
