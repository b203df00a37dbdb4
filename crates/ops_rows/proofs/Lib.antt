pub mod OpsTable
