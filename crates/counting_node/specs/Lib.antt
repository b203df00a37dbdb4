pub mod CountNodes
pub mod CountNodesLaws
