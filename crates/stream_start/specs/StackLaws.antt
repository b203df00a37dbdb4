-- Laws of `stack_is`, of stream_levels: the first k levels of the four arrays, highest first.
-- Assumes nothing.
pub use Rattle.stream_levels.specs.StackLaws.{stack_length, stack_none, stack_more, stack_suc, stack_ext, key_stack, pushed_top, pushed_below}
