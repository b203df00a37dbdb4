pub mod ItemPagesLaws
