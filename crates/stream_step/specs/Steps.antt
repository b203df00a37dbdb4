-- What a call of next gives back.
--     placed_at r k t, ended_at r t    the reading with k levels, the total t and nothing pending; the end
--     found_at r q k v t               a key of k bytes with the value v: the reading behind it has the first k + 1 levels of the stack q
-- Assumes nothing.
use Rattle.std.specs.Prelude.{Ok, Some, None, [], ℕ, ◌+◌}
use Rattle.reading.specs.Reading as R
use Rattle.stream_levels.specs.declared.Stack.{Stack}
use Rattle.stream_start.specs.declared.Reading.{Reading}
use Rattle.stream_step.specs.declared.Step.{Step}

-- with k levels and the total t, and nothing pending
abbrev pub placed_at : Reading → ℕ → ℕ → Reading
placed_at r k t = record {
  len = r.len;
  kind = r.kind;
  bound_len = r.bound_len;
  bound = r.bound;
  empty_output = None;
  total = t;
  levels = k;
  stack = r.stack;
}

-- the end, with this total
abbrev pub ended_at : R.View → ℕ → R.Step
ended_at r t = record { answer = R.Answer.end; reading = R.moved r [] t }

-- a key of k bytes, with the levels of this stack and nothing pending
abbrev pub found_at : Reading → Stack → ℕ → ℕ → ℕ → Step Reading
found_at r q k v t = record {
  answer = Ok (Some (k, v));
  reading = record {
    len = r.len;
    kind = r.kind;
    bound_len = r.bound_len;
    bound = r.bound;
    empty_output = None;
    total = t;
    levels = k + 1;
    stack = q;
  };
}
