pub mod RangeTold
