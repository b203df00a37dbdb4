pub mod WorkTables
pub mod OpenLaws
pub mod WorkTableLaws
