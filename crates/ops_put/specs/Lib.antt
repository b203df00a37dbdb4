pub mod ItemPut
