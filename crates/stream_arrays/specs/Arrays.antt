-- A plain reading in arrays, as a caller in another language keeps it between calls. The reading itself is in `reading`, `plain` and `stream`.
--     kind_is n, kind_number k        the kind of a bound that a number stands for, and back
--     pending_is n v                 the pending empty key that two numbers stand for; pending_flag and pending_value go back
--     Held, held_is h                six arrays, and the reading that they hold
--     head_as r, held_as r            the first of the arrays, and all of them, for a reading
--     held_plain h n                 the plain reading that the arrays hold with the number of keys to come in n
--     PlainPut p h n                the arrays hold the plain reading p
-- Assumes nothing.
use Rattle.std.specs.Prelude.{◌≡◌, Option, Some, None, List, [], ◌∷◌, ℕ, zero, suc, get_or, ⊤}
use Rattle.plain.specs.Plain as P
use Rattle.plain.specs.Plain.{plain_with}
use Rattle.std.specs.declared.ops.Bound.{Bound}
use Rattle.std.specs.declared.ops.Bound.TheVariants.{Included, Excluded, Unbounded}
use Rattle.stream_start.specs.declared.Reading.{Reading}
use Rattle.stream_start.specs.Views.{view_is}
use Rattle.stream.specs.declared.Plain.{Plain}

-- ---- a reading in six arrays

abbrev pub kind_is : ℕ → Bound ⊤
kind_is zero = Included tt
kind_is (suc zero) = Excluded tt
kind_is (suc (suc n)) = Unbounded

abbrev pub kind_number : Bound ⊤ → ℕ
kind_number (Included u) = 0
kind_number (Excluded u) = 1
kind_number Unbounded = 2

abbrev pub pending_is : ℕ → ℕ → Option ℕ
pending_is zero v = None
pending_is (suc n) v = Some v

abbrev pub pending_flag : Option ℕ → ℕ
pending_flag None = 0
pending_flag (Some v) = 1

abbrev pub pending_value : Option ℕ → ℕ
pending_value None = 0
pending_value (Some v) = v

pub record Held : Type 0 where
  pub head : List ℕ
  pub bound : List ℕ
  pub addrs : List ℕ
  pub inps : List ℕ
  pub trans : List ℕ
  pub outs : List ℕ

abbrev pub held : List ℕ → List ℕ → List ℕ → List ℕ → List ℕ → List ℕ → Held
held h b a i t o = record { head = h; bound = b; addrs = a; inps = i; trans = t; outs = o }

abbrev pub held_is : Held → Reading
held_is h = record {
  len = get_or h.head 0 0;
  kind = kind_is (get_or h.head 1 0);
  bound_len = get_or h.head 2 0;
  bound = h.bound;
  empty_output = pending_is (get_or h.head 3 0) (get_or h.head 4 0);
  total = get_or h.head 5 0;
  levels = get_or h.head 6 0;
  stack = record { addrs = h.addrs; inps = h.inps; trans = h.trans; outs = h.outs };
}

abbrev pub head_as : Reading → List ℕ
head_as r =
    r.len
    ∷ (kind_number r.kind
    ∷ (r.bound_len ∷ (pending_flag r.empty_output ∷ (pending_value r.empty_output ∷ (r.total ∷ (r.levels ∷ []))))))

abbrev pub held_as : Reading → Held
held_as r = held (head_as r) r.bound r.stack.addrs r.stack.inps r.stack.trans r.stack.outs

-- ---- with the number of keys to come

abbrev pub held_plain : Held → List ℕ → P.Plain
held_plain h n = plain_with (view_is (held_is h)) (get_or n 0 0)

pub record PlainPut (p : Plain) (h : Held) (n : List ℕ) : Type 0 where
  pub reading : h ≡ held_as p.reading
  pub keys : n ≡ p.keys ∷ []
