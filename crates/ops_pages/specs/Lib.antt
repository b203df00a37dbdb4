pub mod ItemPages
