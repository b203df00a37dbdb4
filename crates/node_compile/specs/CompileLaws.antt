-- Laws of `Compile` and `Parts`: what a whole node answers and leaves follows from its bytes, once they are written.
--     any_len_is    how many bytes a node of the forms 00 and 01 has
-- Assumes nothing.
use Rattle.std.specs.Prelude.{◌≡◌, Bool, true, false, cond, List, map, ℕ, ◌*◌, ◌≤◌, ◌<◌, leb, length, take, drop, Ok, Err, Result}
use Rattle.std.proofs.Common.{sym, ap, ◌∙◌, le-leb, arith, take_at}
use Rattle.std.proofs.lemmas.Bool.{lt-leb}
use Rattle.format.specs.declared.Refusal.{Refusal}
use Rattle.format.specs.Limits.{SPACE, RECORD}
use Rattle.buffers.specs.Put.{put}
use Rattle.buffers.specs.PutLaws.{put_zero}
use Rattle.buffers.specs.DecideLaws.{true_of}
use Rattle.format.specs.Packed.{BuilderNode, delta_of, packed_any, Ranges, RecordOk, record_test, packed, written, refused, packing}
use Rattle.format.specs.Laws.PackedLaws.{decides_record, packing_record, length_deltas, length_index_bytes, length_packed_any}
use Rattle.format.specs.RoundTrip.RoundTrip.{round_trip}
use Rattle.node_compile.specs.Compile.{answer_as, buffer_after, ReadsBack, Compiles}
use Rattle.node_compile.specs.Parts.{Fitted, RecordFits, any_len}

module _ (bs out₀ : List ℕ) where
  pub fitted_space : length out₀ < length bs → Fitted bs out₀ out₀ (Err SPACE)
  fitted_space short = record { answer = rw (lt-leb (length bs) (length out₀) short); buffer = rw (lt-leb (length bs) (length out₀) short) }

  pub fitted_written : (out : List ℕ) (len : ℕ) → len ≡ length bs → length bs ≤ length out₀ → out ≡ put out₀ 0 bs → Fitted bs out₀ out (Ok len)
  fitted_written out len is room put_is = record {
    answer = rw (le-leb (length bs) (length out₀) room, is);
    buffer = rw (le-leb (length bs) (length out₀) room) (put_is ∙ put_zero out₀ bs);
  }

-- the bytes by another name
pub fitted_same : {bs bs' out₀ out : List ℕ} {r : Result ℕ Refusal} → bs ≡ bs' → Fitted bs out₀ out r → Fitted bs' out₀ out r
fitted_same e f = rw (← e) f

refused_not_len : {k : Refusal} {n : ℕ} → ¬ (◌≡◌ {A = Result ℕ Refusal} (Err k) (Ok n))
refused_not_len e = let z : ◌≡◌ {A = ℕ} 0 1 = cc in omega arith

-- the bytes stand at the buffer's front
fitted_bytes : {bs out₀ out : List ℕ} {r : Result ℕ Refusal} → Fitted bs out₀ out r → (n : ℕ) → r ≡ Ok n → take n out ≡ bs
fitted_bytes {bs} {out₀} {out} {r} f n e = by (leb (length bs) (length out₀)) (sym e ∙ f.answer) f.buffer
  where
    by : (t : Bool) → Ok n ≡ answer_as (cond t (written bs) (refused SPACE)) → out ≡ buffer_after (cond t (written bs) (refused SPACE)) out₀ → take n out ≡ bs
    by true is buf = let same : length bs ≡ n = cc in rw buf (take_at bs (drop (length bs) out₀) n same)
    by false is buf = absurd (refused_not_len (sym is))

module _ (first : ℕ) (b : BuilderNode) (out₀ : List ℕ) where
  pub compiles_record : ¬ RecordOk first b → Compiles b first out₀ out₀ (Err RECORD)
  compiles_record not_ok = record {
    answer = rw (packing_record first b (length out₀) not_ok);
    buffer = rw (packing_record first b (length out₀) not_ok);
    reads_back = λ n e. absurd (refused_not_len e);
  }

  -- RECORD does not refuse, so the node's bytes decide
  pub compiles_fitted : (bs out : List ℕ) (r : Result ℕ Refusal) → Ranges b → RecordOk first b → packed first b ≡ bs → Fitted bs out₀ out r → Compiles b first out₀ out r
  unfolding packing
  compiles_fitted bs out r ranges ok is f = record {
    answer = rw (true_of (record_test first b) (decides_record first b) ok, is) f.answer;
    buffer = rw (true_of (record_test first b) (decides_record first b) ok, is) f.buffer;
    reads_back = λ n e. rw (fitted_bytes f n e) (rw is at read);
  }
    where
      read : ReadsBack b first (packed first b)
      read = record { node = λ pre post v root at version below useful. round_trip first b pre post v root ranges ok at version below useful }

-- ---- the length of a node of the forms 00 and 01

pub any_len_is : (first : ℕ) (b : BuilderNode) (osize tsize : ℕ) → RecordFits first b
    → any_len b.final (length b.inputs) osize tsize ≡ length (packed_any b (map (delta_of first) b.targets) osize tsize)
any_len_is first b osize tsize ok =
    let all = length_packed_any b (map (delta_of first) b.targets) osize tsize in
    let outputs : length b.outputs * osize ≡ length b.inputs * osize = ap (λ (n : ℕ). n * osize) ok.outputs_len in
    let deltas : length (map (delta_of first) b.targets) * tsize ≡ length b.inputs * tsize =
    ap (λ (n : ℕ). n * tsize) (length_deltas first b.targets ∙ ok.targets_len) in
    omega (arith, length_index_bytes 3 b.inputs (omega arith))
