pub mod PackRightLaws
